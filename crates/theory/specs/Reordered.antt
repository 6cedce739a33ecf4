-- Reorderings over sheets of bytes: the bytes tell the entries, and a reordering of a sheet that is approved is approved exactly if each
-- entry stands after those that it needs.
use Rattle.std.specs.Prelude.{◌≡◌, refl, ℕ, ◌≤◌, ◌<◌, List, [], ◌∷◌, Bool, true, false, cond, eqb, length}
use Rattle.std.proofs.Common.{sym, ◌∙◌, ap, subst, inl, inr, arith, eqb-true, eq-eqb}
use Rattle.std.proofs.Math.Path.{fun_ext}
use Rattle.std.proofs.Math.Option.{Option, some}
use Rattle.answers.specs.Ask.{needs, Trail, lookup, mem, Once}
use Rattle.answers.specs.Resolve.{Accepts}
use Rattle.answers.specs.Theory.Sound.{clash, All, Within, lookup-other, mem-new, mem-more, mem-cases}
use Rattle.answers.specs.Theory.Fuel.{has}
use Rattle.answers.specs.Theory.Reorder.{Ordered, reordered, laid-ordered}
use Rattle.answers.specs.Theory.Budget.{laid-once}
use Rattle.rules.specs.Values.{Value, Answer, within_size}
use Rattle.rules.specs.Documents.{Setting, valid, inputs}
use Rattle.rules.specs.Sheet.{trail_size, trail_text_size}
use Rattle.rules.specs.Checking.{is_sheet}
use Rattle.rules.specs.Reordering.{numbers_of, LaidOut, Permuted, empty, keep, swap, next, Reordering, needs_of, AfterNeeds, InOrder}
use Rattle.rules.specs.Jobs.{order_of}
use Rattle.theory.specs.Layout.{Numbered, is_sheet-intro}
use Rattle.theory.specs.ReadBack.{sheet-back}
use Rattle.theory.specs.Entries.{root_of, order-rule, SheetOf}
use Rattle.theory.specs.Fits.{within-trail_size, within-trail_text_size}
use Rattle.theory.specs.Accepted.{inputs-few, laid-numbered, accepted-iff, sheet-accepts, sheet-sizes}
use Rattle.theory.specs.Jobs.{Approval}
use Rattle.theory.specs.BothJobs.{laid-approval, approval-sheet, one-setting}

-- ---- members

all_of : {P : ℕ → Type 0} (l : List ℕ) → ((b : ℕ) → mem b l ≡ true → P b) → All P l
all_of [] h = tt
all_of (a ∷ l) h = (h a (mem-new a l), all_of l (λ b m. h b (mem-more a l b m)))

of-all : (P : ℕ → Type 0) (l : List ℕ) → All P l → (b : ℕ) → mem b l ≡ true → P b
of-all P [] h b m = clash (cc)
of-all P (a ∷ l) h b m = elim (mem-cases a l b m) [ inl e ↦ subst P e h.0 | inr k ↦ of-all P l h.1 b k ]

-- a number stands in a trail where it has an answer there
has-mem : (S : Trail Answer) (b : ℕ) → mem b (numbers_of S) ≡ has (lookup S b)
has-mem [] b = refl
has-mem (e ∷ S) b = go (eqb e.0 b) (has-mem S b)
  where
    go : (t : Bool) → mem b (numbers_of S) ≡ has (lookup S b) → cond t true (mem b (numbers_of S)) ≡ has (cond t (some e.1) (lookup S b))
    go true h = refl
    go false h = h

pub numbered_of : (S : Trail Answer) → ((b : ℕ) → mem b (numbers_of S) ≡ true → b < 65536) → Numbered S
numbered_of [] h = tt
numbered_of (e ∷ S) h = (h e.0 (mem-new e.0 (numbers_of S)), numbered_of S (λ b m. h b (mem-more e.0 (numbers_of S) b m)))

pub of-numbered : (S : Trail Answer) → Numbered S → (b : ℕ) → mem b (numbers_of S) ≡ true → b < 65536
of-numbered [] h b m = clash (cc)
of-numbered (e ∷ S) h b m =
    elim (mem-cases e.0 (numbers_of S) b m) [ inl k ↦ rw k at h.0 | inr k ↦ of-numbered S h.1 b k ]

-- ---- entries in another order answer the same

abbrev Alike : Trail Answer → Trail Answer → Type 0
Alike S S' = (q : ℕ) → lookup S q ≡ lookup S' q

swap_alike : (a b : ℕ × Answer) (l : Trail Answer) → Once (a ∷ b ∷ l) → Once (b ∷ a ∷ l) × Alike (a ∷ b ∷ l) (b ∷ a ∷ l)
swap_alike a b l once =
    ((lookup-other a l b.0 apart ∙ once.1.0, (sym (lookup-other b l a.0 (λ e. apart (sym e))) ∙ once.0, once.1.1)), alike)
  where
    apart : a.0 ≡ b.0 → ⊥
    apart e = clash (cc (once.0, eq-eqb b.0 a.0 (sym e)))

    alike : Alike (a ∷ b ∷ l) (b ∷ a ∷ l)
    alike q = go (eqb a.0 q) refl (eqb b.0 q) refl
      where
        go : (s : Bool) → eqb a.0 q ≡ s → (t : Bool) → eqb b.0 q ≡ t
            → cond {A = Option Answer} s (some a.1) (cond t (some b.1) (lookup l q)) ≡ cond t (some b.1) (cond s (some a.1) (lookup l q))
        go true h true k = absurd (apart (eqb-true a.0 q h ∙ sym (eqb-true b.0 q k)))
        go true h false k = refl
        go false h true k = refl
        go false h false k = refl

permuted-alike : {S S' : Trail Answer} → Permuted S S' → Once S → Once S' × Alike S S'
permuted-alike empty once = (tt, λ q. refl)
permuted-alike (keep {a} p) once =
    let (once', alike) = permuted-alike p once.1 in
    ((sym (alike a.0) ∙ once.0, once'), λ q. ap (λ (o : Option Answer). cond (eqb a.0 q) (some a.1) o) (alike q))
permuted-alike (swap {a} {b} {l}) once = swap_alike a b l once
permuted-alike (next p q) once =
    let (once', alike) = permuted-alike p once in
    let (once'', alike') = permuted-alike q once' in
    (once'', λ b. alike b ∙ alike' b)

-- ---- each after those that it needs

after-alike : (d e : List ℕ) (S S' : Trail Answer) → lookup S ≡ lookup S' → (T : Trail Answer) → AfterNeeds d e S' T → AfterNeeds d e S T
after-alike d e S S' same [] h = tt
after-alike d e S S' same (f ∷ T) h = (rw same h.0, after-alike d e S S' same T h.1)

module _ (d e : List ℕ) (x : Setting) (read : inputs true d e ≡ valid x) (a c : ℕ) where
  needs-are : (S : Trail Answer) (b : ℕ) → needs_of d e S b ≡ needs (lookup S) ((order_of x a c).rule b)
  needs-are S b = rw (read, order-rule x a c b)

  ordered_of : (S T : Trail Answer) → AfterNeeds d e S T → Ordered (order_of x a c) S T
  ordered_of S [] h = tt
  ordered_of S (f ∷ T) h = (
    subst (All (λ q. has (lookup T q) ≡ true)) (needs-are S f.0) (all_of (needs_of d e S f.0) (λ b m. sym (has-mem T b) ∙ h.0 b m)),
    ordered_of S T h.1,
  )

  of-ordered : (S T : Trail Answer) → Ordered (order_of x a c) S T → AfterNeeds d e S T
  of-ordered S [] h = tt
  of-ordered S (f ∷ T) h = (
    λ b m. has-mem T b
        ∙ of-all (λ q. has (lookup T q) ≡ true) (needs_of d e S f.0)
        (subst (All (λ q. has (lookup T q) ≡ true)) (sym (needs-are S f.0)) h.0) b m,
    of-ordered S T h.1,
  )

-- ---- sheets

module _ (trail table text : List ℕ) where
  pub laid-out-is : (S : Trail Answer) (v : Value) → LaidOut S v trail table text → is_sheet S v trail table text ≡ true
  laid-out-is S v l = rw (l.trail_is, l.table_is, l.text-is) (is_sheet-intro S v)

  pub one-sheet : (S S' : Trail Answer) (v v' : Value) → length trail ≤ 32768 → length table ≤ 32768 → length text ≤ 32768
      → LaidOut S v trail table text → LaidOut S' v' trail table text → (S ≡ S') × (v ≡ v')
  one-sheet S S' v v' h k m l l' =
      sheet-back trail table text h k m S S' v v' (laid-out-is S v l) (laid-out-is S' v' l') (numbered_of S l.numbers_fit)
      (numbered_of S' l'.numbers_fit)

  module _ (d e : List ℕ) (y : Approval d e trail table text) where
    pub approval-laid-out : let s = approval-sheet d e trail table text y 32768 32768 in LaidOut s.entries s.root trail table text
    approval-laid-out =
        let s = approval-sheet d e trail table text y 32768 32768 in
        let x = y.setting in
        record {
          trail_is = s.trail_is;
          table_is = s.table_is;
          text-is = s.text-is;
          numbers_fit = of-numbered s.entries
              (laid-numbered x (omega (arith, inputs-few true d e x y.read)) 32768 32768 s.entries s.laid);
        }

    -- whatever entries and value the sheet is laid out by, they are accepted
    approval-accepts : (S : Trail Answer) (v : Value) → LaidOut S v trail table text
        → Accepts (order_of y.setting 32768 32768) (root_of y.setting) S v × (within_size v ≡ true)
    approval-accepts S v l =
        let s = approval-sheet d e trail table text y 32768 32768 in
        let (f, g) = one-sheet S s.entries v s.root y.short y.short' y.short'' l approval-laid-out in
        rw (f, g) (sheet-accepts y.setting 32768 32768 s, s.small)

  abbrev sheet-of : (x : Setting) (S : Trail Answer) (v : Value) → Accepts (order_of x 32768 32768) (root_of x) S v → within_size v ≡ true
      → LaidOut S v trail table text → SheetOf x 32768 32768 trail table text
  sheet-of x S v acc small l = record {
    entries = S;
    root = v;
    laid = acc.laid;
    root-runs = acc.root-runs;
    small = small;
    trail_is = l.trail_is;
    table_is = l.table_is;
    text-is = l.text-is;
  }

  -- for a document that was read and parts that may be lent, "accepted exactly if"
  module _ (d e : List ℕ) (x : Setting) (read : inputs true d e ≡ valid x) (short : length trail ≤ 32768) (short' : length table ≤ 32768)
      (short'' : length text ≤ 32768) where
    pub approval-rules : Approval d e trail table text
        → (S : Trail Answer) × (v : Value) × Accepts (order_of x 32768 32768) (root_of x) S v × (within_size v ≡ true) × LaidOut S v trail table text
    approval-rules y =
        let s = approval-sheet d e trail table text y 32768 32768 in
        let l = approval-laid-out d e y in
        let (acc, small) = approval-accepts d e y s.entries s.root l in
        let acc' = subst (λ z. Accepts (order_of z 32768 32768) (root_of z) s.entries s.root) (one-setting y.setting x y.read read) acc in
        (s.entries, s.root, acc', small, l)

    pub rules-approval : (S : Trail Answer) (v : Value) → Accepts (order_of x 32768 32768) (root_of x) S v → within_size v ≡ true
        → LaidOut S v trail table text → Approval d e trail table text
    rules-approval S v acc small l =
        record {
          setting = x;
          read = read;
          accepts = (accepted-iff x (omega (arith, inputs-few true d e x read)) 32768 32768 trail table text).1 (sheet-of x S v acc small l);
          short = short;
          short' = short';
          short'' = short'';
        }

-- ---- reorderings

module _ (d e trail table text trail' table' text' : List ℕ) (p : Reordering trail table text trail' table' text') where
  pub reordering-in-order : Approval d e trail' table' text' → InOrder d e p.entries'
  reordering-in-order y =
      let S = p.entries' in
      let acc = (approval-accepts trail' table' text' d e y S p.root p.laid-out').0 in
      of-ordered d e y.setting y.read 32768 32768 S S (laid-ordered (order_of y.setting 32768 32768) S S (λ q r h. h) acc.laid)

  pub reordering-approval : Approval d e trail table text → InOrder d e p.entries' → Approval d e trail' table' text'
  reordering-approval y o =
      let x = y.setting in
      let ρ = order_of x 32768 32768 in
      let S = p.entries in
      let S' = p.entries' in
      let v = p.root in
      let (acc, small) = approval-accepts trail table text d e y S v p.laid_out in
      let once : Once S = laid-once ρ S acc.laid in
      let (once', alike) = permuted-alike p.moved once in
      let holds : Within S S' = λ q r h. sym (alike q) ∙ h in
      let nothing-else : Within S' S = λ q r h. alike q ∙ h in
      let ordered = ordered_of d e x y.read 32768 32768 S S' (after-alike d e S S' (fun_ext alike) S' o) in
      let acc' = reordered ρ (root_of x) S S' acc (record { once = once'; holds = holds; nothing-else = nothing-else }) ordered in
      let (h, k, t) = sheet-sizes x 32768 32768 (sheet-of trail table text x S v acc small p.laid_out) in
      let less : trail_size S' ≤ trail_size S = within-trail_size S' S once' nothing-else in
      let less' : trail_text_size S' ≤ trail_text_size S = within-trail_text_size S' S once' nothing-else in
      rw (p.laid-out'.trail_is, p.laid-out'.table_is, p.laid-out'.text-is)
      (laid-approval d e x y.read 32768 32768 S' v acc' small (omega (arith, y.short)) (omega (arith, y.short')) (omega (arith, y.short'')))
