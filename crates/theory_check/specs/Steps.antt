-- Checking a sheet entry by entry: what is known after some entries, one law for each way in which the next one, and then the table, turns
-- out.
use Rattle.std.specs.Prelude.{◌≡◌, Bool, false, drop}
use Rattle.std.proofs.Math.Path.{refl, sym, ap}
use Rattle.std.proofs.Common.{◌∙◌, arith, drop_of_length-le}
use Prim.Native.Nat.{ℕ, suc, ◌+◌, ◌≤◌, ◌<◌}
use mathlib.Core.List.{List, [], ◌∷◌, ◌++◌, append_assoc, append-nil}
use Rattle.std.proofs.Math.Bool.{true}
use Rattle.std.proofs.Math.Option.{Option, none, some}
use Rattle.std.proofs.Math.ListN.{length, length-append}
use Rattle.std.proofs.Math.Seq.{drop-append_seam}
use Rattle.answers.specs.Ask.{Trail, lookup, Out, value, refused, missing, run}
use Rattle.answers.specs.Resolve.{Laid}
use Rattle.answers.specs.Theory.Sound.{clash}
use Rattle.rules.specs.Refusals.{Refusal}
use Rattle.rules.specs.Values.{Value, Answer, record_size, text_size, within_size}
use Rattle.rules.specs.Documents.{Setting, rule_of, count_of}
use Rattle.rules.specs.Sheet.{pair_at, records, texts, entry_size, answer_text_size, trail_size, trail_text_size, trail_records, trail_texts}
use Rattle.rules.specs.Checking.{answer_for, entries_from, is_sheet, table_accepted, accepted}
use Rattle.rules.specs.Jobs.{order_of}
use Rattle.theory_text.specs.Choices.{get_elem-length}
use Rattle.theory.specs.Layout.{both_true, is_sheet-inv, is_sheet-intro, entry-some, length-trail_texts, length-records, length-texts}
use Rattle.theory.specs.Entries.{root_of, answer-inv, answer-intro, entries-end, entries_next, entries-fuel, order-rule}
use Rattle.theory.specs.Resolving.{ruled, past, rule-case}
use Rattle.theory_check.specs.Begins.{records-begin, texts-begin, entries-upon, entries-stop, Begins, EntryAt, begins-none, begins-more, entry_at, entry-fits}

-- not true
not-true : (t : Bool) → (t ≡ true → ⊥) → t ≡ false
not-true true f = absurd (f refl)
not-true false f = refl

-- The entries so far are right: the parts begin with them, the rules lay them, and what the whole trail calls for is called for from here.
pub record CheckAt (x : Setting) (trail text : List ℕ) (S : Trail Answer) : Type 0 where
  pub begins : Begins trail text S
  pub laid : Laid (order_of x 0 0) S
  pub called : entries_from (length trail) x trail [] ≡ entries_from (length trail) x trail S

pub check-none : (x : Setting) (trail text : List ℕ) → CheckAt x trail text []
check-none x trail text = record { begins = begins-none trail text; laid = tt; called = refl }

-- what the trail has where an entry's number is
abbrev pub next_number : List ℕ → Trail Answer → ℕ
next_number trail S = pair_at trail (trail_size S + 1)

-- ---- the next entry

module _ {x : Setting} {trail text : List ℕ} {S : Trail Answer} (H : CheckAt x trail text S) where
  -- it is right: its answer is the rules', and its bytes are there
  pub check-more : (b : ℕ) (a : Answer) → trail_size S < length trail → b ≡ next_number trail S → lookup S b ≡ none
      → run (lookup S) (rule_of x b) ≡ value a → EntryAt trail text S b a → CheckAt x trail text ((b, a) ∷ S)
  unfolding trail_size
  check-more b a more e new runs E =
      let n = length trail in
      record {
        begins = begins-more H.begins E;
        laid = (new, ap (run (lookup S)) (order-rule x 0 0 b) ∙ runs, H.laid);
        called = H.called
            ∙ entries-fuel x trail n (suc n) S (omega arith) (omega arith)
            ∙ entries_next x trail n S b a more (sym e) (answer-intro x S b a new runs);
      }

-- more bytes of the trail are left each time
pub trail-grows : (b : ℕ) (a : Answer) (S : Trail Answer) → trail_size S + 3 ≤ trail_size ((b, a) ∷ S)
unfolding trail_size
trail-grows b a S = omega (arith, entry-some a)

module _ {x : Setting} {trail text : List ℕ} {S : Trail Answer} (H : CheckAt x trail text S) (table : List ℕ) (more : trail_size S < length trail) where
  -- what is accepted has an answer for the number there, and the entry itself
  pub record Called : Type 0 where
    pub answer : Answer
    pub new : lookup S (next_number trail S) ≡ none
    pub runs : run (lookup S) (rule_of x (next_number trail S)) ≡ value answer
    pub entry : EntryAt trail text S (next_number trail S) answer

  accepted-calls : accepted x trail table text ≡ true → Called
  unfolding accepted
  accepted-calls e = go (entries_from (length trail) x trail []) refl e
    where
      b : ℕ
      b = next_number trail S

      n : ℕ
      n = length trail

      -- the table of an accepted sheet has a value, and the parts are their layout
      sheet : (S' : Trail Answer) (o : Out Refusal Value) → table_accepted S' trail table text o ≡ true
          → (m : List ℕ) × (trail ≡ trail_records S') × (text ≡ trail_texts S' ++ m)
      sheet S' (value v) k =
          let (f, g, t) = is_sheet-inv S' v trail table text (both_true (within_size v) (is_sheet S' v trail table text) k).1 in
          (texts v, f, t)
      sheet S' (refused y) k = clash (cc)
      sheet S' (missing d) k = clash (cc)

      found : (S' : Trail Answer) → entries_from n x trail [] ≡ some S' → (o : Option Answer) → answer_for x S b ≡ o
          → (m : List ℕ) × (trail ≡ trail_records S') × (text ≡ trail_texts S' ++ m) → Called
      found S' h none k p =
          let z = entries-stop x trail n S more k in
          clash (cc (entries-fuel x trail n (suc n) S (omega arith) (omega arith), z, H.called, h))
      found S' h (some a) k p =
          let (new, runs) = answer-inv x S b a k in
          let z : entries_from n x trail ((b, a) ∷ S) ≡ some S' =
          sym (entries_next x trail n S b a more refl k) ∙ sym (entries-fuel x trail n (suc n) S (omega arith) (omega arith)) ∙ sym H.called ∙ h in
          let (T, u) = entries-upon x trail n ((b, a) ∷ S) S' z in
          let (r, q) = records-begin T ((b, a) ∷ S) in
          let (w, q') = texts-begin T ((b, a) ∷ S) in
          let S₁ : Trail Answer = (b, a) ∷ S in
          record {
            answer = a;
            new = new;
            runs = runs;
            entry = entry_at S b a r (w ++ p.0) trail text
                (p.1 ∙ ap trail_records u ∙ q)
                (p.2 ∙ ap (λ (l : List ℕ). l ++ p.0) (ap trail_texts u ∙ q') ∙ append_assoc (trail_texts S₁) w p.0);
          }

      go : (o : Option (Trail Answer)) → entries_from n x trail [] ≡ o
          → elim o as (λ o. Bool) [ none ↦ false | some S ↦ table_accepted S trail table text (run (lookup S) (root_of x)) ] ≡ true
          → Called
      go none h k = clash (cc)
      go (some S') h k = found S' h (answer_for x S b) refl (sheet S' (run (lookup S') (root_of x)) k)

  -- it has an entry already
  pub check-twice : (a : Answer) → lookup S (next_number trail S) ≡ some a → accepted x trail table text ≡ false
  check-twice a e = not-true _ (λ t. clash (cc (accepted-calls t).new))

  -- the document has no such number
  pub check-past : count_of x ≤ next_number trail S → accepted x trail table text ≡ false
  check-past l = not-true _ (λ t. past-last (accepted-calls t))
    where
      past-last : Called → ⊥
      past-last c =
          elim (rule-case x (next_number trail S)) [
            | ruled u at rule ↦ absurd (omega (arith, get_elem-length x.document.unresolved (next_number trail S) u at))
            | past k rule ↦ clash (cc (c.runs, ap (run (lookup S)) rule))
          ]

  -- the rules refuse it
  pub check-refused : (y : Refusal) → run (lookup S) (rule_of x (next_number trail S)) ≡ refused y → accepted x trail table text ≡ false
  check-refused y e = not-true _ (λ t. clash (cc (accepted-calls t).runs))

  -- it needs a number that has no entry yet
  pub check-needs : (d : ℕ) → run (lookup S) (rule_of x (next_number trail S)) ≡ missing d → accepted x trail table text ≡ false
  check-needs d e = not-true _ (λ t. clash (cc (accepted-calls t).runs))

  -- no entry is as short
  pub check-short : length trail < trail_size S + 3 → accepted x trail table text ≡ false
  check-short l = not-true _ (λ t. let c = accepted-calls t in absurd (omega (arith, (entry-fits H.begins c.entry).0, entry-some c.answer)))

  module _ (a : Answer) (runs : run (lookup S) (rule_of x (next_number trail S)) ≡ value a) where
    -- its bytes are not there
    pub check-differs : (EntryAt trail text S (next_number trail S) a → ⊥) → accepted x trail table text ≡ false
    check-differs f = not-true _ (λ t.
        let c = accepted-calls t in
        let e : c.answer ≡ a = cc c.runs in
        f (rw e at c.entry))

    -- the parts end before it does
    pub check-over : length trail < trail_size S + entry_size a → accepted x trail table text ≡ false
    check-over l = check-differs (λ E. absurd (omega (arith, (entry-fits H.begins E).0)))

    pub check-text-over : length text < trail_text_size S + answer_text_size a → accepted x trail table text ≡ false
    check-text-over l = check-differs (λ E. absurd (omega (arith, (entry-fits H.begins E).1)))

-- ---- the table

module _ {x : Setting} {trail text : List ℕ} {S : Trail Answer} (H : CheckAt x trail text S) (table : List ℕ) (full : length trail ≤ trail_size S) where
  ends : accepted x trail table text ≡ table_accepted S trail table text (run (lookup S) (root_of x))
  unfolding accepted
  ends = rw (accepted, H.called, entries-end x trail (length trail) S full)

  -- the trail is these entries and no more
  trail_is : trail ≡ trail_records S
  trail_is =
      H.begins.records ∙ ap (λ (l : List ℕ). trail_records S ++ l) (drop_of_length-le trail full) ∙ append-nil (trail_records S)

  pub root-refused : (y : Refusal) → run (lookup S) (root_of x) ≡ refused y → accepted x trail table text ≡ false
  unfolding table_accepted
  root-refused y e = ends ∙ ap (table_accepted S trail table text) e

  pub root-needs : (d : ℕ) → run (lookup S) (root_of x) ≡ missing d → accepted x trail table text ≡ false
  unfolding table_accepted
  root-needs d e = ends ∙ ap (table_accepted S trail table text) e

  module _ (v : Value) (runs : run (lookup S) (root_of x) ≡ value v) where
    -- over its size
    pub root-large : within_size v ≡ false → accepted x trail table text ≡ false
    unfolding table_accepted
    root-large e = ends ∙ ap (table_accepted S trail table text) runs ∙ rw (table_accepted, e)

    -- an accepted table is the layout, and the text part ends with its texts
    pub accepted-table : accepted x trail table text ≡ true
        → (table ≡ records (trail_text_size S) v) × (drop (trail_text_size S) text ≡ texts v) × (length text ≡ trail_text_size S + text_size v)
    unfolding table_accepted
    accepted-table e =
        let k : table_accepted S trail table text (value v) ≡ true = sym (ends ∙ ap (table_accepted S trail table text) runs) ∙ e in
        let (f, g, t) = is_sheet-inv S v trail table text (both_true (within_size v) (is_sheet S v trail table text) k).1 in (
          g,
          rw (t, ← length-trail_texts S) (drop-append_seam (trail_texts S) (texts v)),
          omega (arith, ap length t, length-append (trail_texts S) (texts v), length-trail_texts S, length-texts v),
        )

    -- it has another length
    pub table-length : (length table ≡ record_size v → ⊥) → accepted x trail table text ≡ false
    table-length f = not-true _ (λ t. f (ap length (accepted-table t).0 ∙ length-records (trail_text_size S) v))

    -- the text part has another length
    pub text-length : (length text ≡ trail_text_size S + text_size v → ⊥) → accepted x trail table text ≡ false
    text-length f = not-true _ (λ t. f (accepted-table t).2)

    -- its bytes are others
    pub table-differs : ((table ≡ records (trail_text_size S) v) × (drop (trail_text_size S) text ≡ texts v) → ⊥) → accepted x trail table text ≡ false
    table-differs f = not-true _ (λ t. let (g, u, l) = accepted-table t in f (g, u))

    -- all is as the rules lay it
    pub check-accepts : within_size v ≡ true → table ≡ records (trail_text_size S) v → drop (trail_text_size S) text ≡ texts v
        → accepted x trail table text ≡ true
    unfolding table_accepted
    check-accepts small g u =
        let t : text ≡ trail_texts S ++ texts v = H.begins.texts ∙ ap (λ (l : List ℕ). trail_texts S ++ l) u in
        let k : is_sheet S v trail table text ≡ true =
        ap (λ (l : List ℕ). is_sheet S v l table text) trail_is
        ∙ ap (λ (l : List ℕ). is_sheet S v (trail_records S) l text) g
        ∙ ap (λ (l : List ℕ). is_sheet S v (trail_records S) (records (trail_text_size S) v) l) t
        ∙ is_sheet-intro S v in
        ends ∙ ap (table_accepted S trail table text) runs ∙ rw (table_accepted, small) k
