-- Resolve and check together: what a success hands back is approved, and where a sheet is approved resolve succeeds with the same meaning.
use Rattle.std.specs.Prelude.{◌≡◌, refl, List, [], ◌++◌, true, length}
use Rattle.std.proofs.Math.Path.{sym}
use Rattle.std.proofs.Common.{◌∙◌, ap, length-append, le-leb, leb-true}
use Prim.Native.Nat.{ℕ, ◌+◌, min, ◌≤◌}
use native.Mathlib.Omega.{arith}
use Rattle.answers.specs.Ask.{Trail, Once}
use Rattle.answers.specs.Resolve.{answer, resolve, Accepts}
use Rattle.answers.specs.Theory.Sound.{accepted, count, affordable, fitting}
use Rattle.answers.specs.Theory.Complete.{complete}
use Rattle.answers.specs.Theory.Budget.{exact, laid-once}
use Rattle.rules.specs.Values.{Value, Answer, within_size, record_size, text_size}
use Rattle.rules.specs.Documents.{Setting, Input, valid, inputs, count_of}
use Rattle.rules.specs.Sheet.{records, texts, trail_size, trail_text_size, trail_records, trail_texts, trail_fits, table_fits}
use Rattle.rules.specs.Meaning.{MeanTheSame}
use Rattle.rules.specs.Jobs.{room_of, order_of, resolve_job, sheet_for}
use Rattle.theory.specs.Layout.{both_true, length-records, length-texts, length-trail_records, length-trail_texts}
use Rattle.theory.specs.Numbering.{prepared}
use Rattle.theory.specs.Resolving.{closed, root_below}
use Rattle.theory.specs.Entries.{root_of, SheetOf, accepted-inv, accepted-intro}
use Rattle.theory.specs.Fits.{within-trail_text_size, order-shrinks}
use Rattle.theory.specs.Accepted.{inputs-few, laid-numbered, sheet-accepts, sheet-sizes, sheets-mean-the-same}
use Rattle.theory.specs.Jobs.{Handed, Success, success-inv, success-is, resolution_of, Approval}

-- the rooms that a trail and a table fit
pub trail_fits-inv : (a c : ℕ) (S : Trail Answer) → trail_fits a c S ≡ true → (trail_size S ≤ a) × (trail_text_size S ≤ c)
unfolding trail_fits
trail_fits-inv a c S e = let (f, g) = both_true _ _ e in (leb-true (trail_size S) a f, leb-true (trail_text_size S) c g)

pub trail_fits-intro : (a c : ℕ) (S : Trail Answer) → trail_size S ≤ a → trail_text_size S ≤ c → trail_fits a c S ≡ true
unfolding trail_fits
trail_fits-intro a c S h k = rw (trail_fits, le-leb (trail_size S) a h, le-leb (trail_text_size S) c k)

pub table_fits-inv : (b c : ℕ) (S : Trail Answer) (v : Value) → table_fits b c S v ≡ true → (record_size v ≤ b) × (trail_text_size S + text_size v ≤ c)
unfolding table_fits
table_fits-inv b c S v e = let (f, g) = both_true _ _ e in (leb-true (record_size v) b f, leb-true (trail_text_size S + text_size v) c g)

pub table_fits-intro : (b c : ℕ) (S : Trail Answer) (v : Value) → record_size v ≤ b → trail_text_size S + text_size v ≤ c → table_fits b c S v ≡ true
unfolding table_fits
table_fits-intro b c S v h k = rw (table_fits, le-leb (record_size v) b h, le-leb (trail_text_size S + text_size v) c k)

pub order-fits : (x : Setting) (a c : ℕ) (S : Trail Answer) → (order_of x a c).fits S ≡ trail_fits a c S
unfolding order_of
order-fits x a c S = refl

empty-fits : (x : Setting) (a c : ℕ) → (order_of x a c).fits [] ≡ true
unfolding trail_size trail_text_size
empty-fits x a c = order-fits x a c [] ∙ trail_fits-intro a c [] (omega arith) (omega arith)

-- a resolution's trail fits its rooms
pub answered-fits : (x : Setting) (a c budget : ℕ) {v : Value} {S : Trail Answer} {n : ℕ}
    → resolve (order_of x a c) budget (root_of x) (count_of x) ≡ answer v S n → trail_fits a c S ≡ true
answered-fits x a c budget {v} {S} h =
    sym (order-fits x a c S) ∙ fitting (order_of x a c) budget (root_of x) (count_of x) h (empty-fits x a c)

-- ---- what a success hands back

-- a trail by the rules and the root's value, of lengths that may be lent, are approved
module _ (d e : List ℕ) (x : Setting) (read : inputs true d e ≡ valid x) (a c : ℕ) where
  pub laid-approval : (S : Trail Answer) (v : Value) → Accepts (order_of x a c) (root_of x) S v → within_size v ≡ true → trail_size S ≤ 32768
      → record_size v ≤ 32768 → trail_text_size S + text_size v ≤ 32768
      → Approval d e (trail_records S) (records (trail_text_size S) v) (trail_texts S ++ texts v)
  laid-approval S v acc small h k t = record {
    setting = x;
    read = read;
    accepts = accepted-intro x a c S v acc.laid (laid-numbered x (omega (arith, inputs-few true d e x read)) a c S acc.laid) acc.root-runs small;
    short = omega (arith, length-trail_records S);
    short' = omega (arith, length-records (trail_text_size S) v);
    short'' = omega (arith, length-append (trail_texts S) (texts v), length-trail_texts S, length-texts v);
  }

module _ (d e : List ℕ) (budget l m n : ℕ) (s : Success d e budget l m n) where
  pub success-accepts : Accepts (order_of s.setting (room_of l) (room_of n)) (root_of s.setting) s.handed.entries s.handed.root
  success-accepts =
      let x = s.setting in
      accepted (order_of x (room_of l) (room_of n)) budget (root_of x) (count_of x) s.handed.answered

  pub success-count : s.handed.begun ≡ length s.handed.entries
  success-count = let x = s.setting in count (order_of x (room_of l) (room_of n)) budget (root_of x) (count_of x) s.handed.answered

  success-fits : trail_fits (room_of l) (room_of n) s.handed.entries ≡ true
  success-fits = answered-fits s.setting (room_of l) (room_of n) budget s.handed.answered

  pub success-approval : let r = sheet_for s.handed.root s.handed.entries s.handed.begun in Approval d e r.trail r.table r.text
  success-approval =
      let S = s.handed.entries in
      let v = s.handed.root in
      let (f, _) = trail_fits-inv (room_of l) (room_of n) S success-fits in
      let (g, h) = table_fits-inv (room_of m) (room_of n) S v s.handed.fits in
      laid-approval d e s.setting s.read (room_of l) (room_of n) S v success-accepts s.handed.small (omega arith) (omega arith) (omega arith)

  -- with the largest budget it is the same
  pub success-full : Handed (room_of m) (room_of n) (resolution_of d e 256 l m n s.setting)
  success-full =
      let x = s.setting in
      let ρ = order_of x (room_of l) (room_of n) in
      let afforded = affordable ρ budget (root_of x) (count_of x) s.handed.answered in
      record {
        root = s.handed.root;
        entries = s.handed.entries;
        begun = s.handed.begun;
        answered = exact ρ budget 256 (root_of x) (count_of x) s.handed.answered (omega (arith, afforded, s.modest));
        small = s.handed.small;
        fits = s.handed.fits;
      }

-- ---- what a yes gives

module _ (d e trail table text : List ℕ) (y : Approval d e trail table text) where
  pub approval-sheet : (a c : ℕ) → SheetOf y.setting a c trail table text
  approval-sheet a c = accepted-inv y.setting a c trail table text y.accepts

  -- full rooms hold a resolution's entries, as they hold the sheet's
  pub approval-success : Success d e 256 32768 32768 32768
  approval-success =
      let x = y.setting in
      let p = prepared true d e x y.read in
      let sheet = approval-sheet 32768 32768 in
      let T = sheet.entries in
      let (f, g, h) = sheet-sizes x 32768 32768 sheet in
      let T-fits : (order_of x 32768 32768).fits T ≡ true =
      order-fits x 32768 32768 T ∙ trail_fits-intro 32768 32768 T (omega (arith, y.short)) (omega (arith, y.short'')) in
      let (S, n, answered, within) =
      complete (order_of x 32768 32768) 256 (root_of x) (count_of x) (closed x p 32768 32768) (root_below x p) (order-shrinks x 32768 32768)
      (inputs-few true d e x y.read) T T-fits (sheet-accepts x 32768 32768 sheet) in
      let once : Once S = laid-once (order_of x 32768 32768) S (accepted (order_of x 32768 32768) 256 (root_of x) (count_of x) answered).laid in
      let less = within-trail_text_size S T once within in
      record {
        setting = x;
        read = y.read;
        modest = omega arith;
        handed = record {
          root = sheet.root;
          entries = S;
          begun = n;
          answered = answered;
          small = sheet.small;
          fits = table_fits-intro 32768 32768 S sheet.root (omega (arith, y.short')) (omega (arith, y.short'', less));
        };
      }

-- ---- the two jobs

-- inputs that are given twice are one setting
pub one-setting : {i : Input Setting} (x x' : Setting) → i ≡ valid x → i ≡ valid x' → x ≡ x'
one-setting x x' h k = cc

-- any two sheets that are approved for one document mean the same
pub approvals-mean-the-same : (d e trail table text trail' table' text' : List ℕ) → Approval d e trail table text → Approval d e trail' table' text'
    → MeanTheSame table text table' text'
approvals-mean-the-same d e trail table text trail' table' text' y y' =
    let sheet = approval-sheet d e trail table text y 32768 32768 in
    let sheet' = approval-sheet d e trail' table' text' y' 32768 32768 in
    sheets-mean-the-same y.setting 32768 32768 sheet (rw (one-setting y'.setting y.setting y'.read y.read) at sheet')
    y.short' y.short'' y'.short''

module _ (d e : List ℕ) where
  -- what resolve hands back, check approves
  pub resolved-approval : (budget l m n : ℕ) → (resolve_job d e budget l m n).number ≡ 0
      → let r = resolve_job d e budget l m n in Approval d e r.trail r.table r.text
  resolved-approval budget l m n k =
      let s = success-inv d e budget l m n k in
      rw (success-is d e budget l m n s.setting s.read s.modest s.handed) (success-approval d e budget l m n s)

  -- where check approves a sheet, resolve succeeds
  pub approval-resolves : (trail table text : List ℕ) → Approval d e trail table text → (resolve_job d e 256 32768 32768 32768).number ≡ 0
  approval-resolves trail table text y =
      let s = approval-success d e trail table text y in
      ap (λ r. r.number) (success-is d e 256 32768 32768 32768 s.setting s.read s.modest s.handed)

  -- with a table that means the same
  pub approval-means : (trail table text : List ℕ) → Approval d e trail table text
      → let r = resolve_job d e 256 32768 32768 32768 in MeanTheSame r.table r.text table text
  approval-means trail table text y =
      approvals-mean-the-same d e _ _ _ trail table text (resolved-approval 256 32768 32768 32768 (approval-resolves trail table text y)) y

  -- a budget that is enough gives what the largest gives
  pub same-at-256 : (budget l m n : ℕ) → (resolve_job d e budget l m n).number ≡ 0 → resolve_job d e 256 l m n ≡ resolve_job d e budget l m n
  unfolding success-full
  same-at-256 budget l m n k =
      let s = success-inv d e budget l m n k in
      success-is d e 256 l m n s.setting s.read (omega arith) (success-full d e budget l m n s)
      ∙ sym (success-is d e budget l m n s.setting s.read s.modest s.handed)

  -- bytes past a buffer's room change nothing
  pub same-in-longer : (budget l m n : ℕ) → 32768 ≤ l → 32768 ≤ m → 32768 ≤ n → resolve_job d e budget l m n ≡ resolve_job d e budget 32768 32768 32768
  unfolding resolve_job
  same-in-longer budget l m n h k t =
      let room : (i : ℕ) → 32768 ≤ i → min i 32768 ≡ 32768 = λ i j. omega arith in
      rw (resolve_job, room l h, room m k, room n t)
