-- The check of a sheet against the rules: what is accepted is the layout of a trail laid by the rules and of the root's value, and
-- every such layout is accepted.
use Rattle.std.specs.Prelude.{◌≡◌, Bool, false, ltb}
use Rattle.std.proofs.Math.Path.{refl, sym, ap}
use Rattle.std.proofs.Common.{◌∙◌, add-zero}
use Prim.Native.Nat.{ℕ, zero, suc, ◌+◌, ◌-◌, ◌≤◌, ◌<◌}
use mathlib.Core.List.{List, [], ◌∷◌, ◌++◌, append_assoc, append-nil}
use Rattle.std.proofs.Math.Bool.{true}
use Rattle.std.proofs.Math.Option.{Option, none, some}
use native.Mathlib.Omega.{arith}
use Rattle.std.proofs.Math.ListN.{length, length-append}
use borrow.Author.Tests.{lt-ltb, le-ltb, ltb-true, ltb-false}
use Rattle.answers.specs.Ask.{Trail, lookup, Out, value, refused, missing, run}
use Rattle.answers.specs.Resolve.{Rules, Laid}
use Rattle.answers.specs.Theory.Sound.{clash}
use Rattle.rules.specs.Refusals.{Refusal}
use Rattle.rules.specs.Values.{Value, Answer, within_size}
use Rattle.rules.specs.Unresolved.{root_value}
use Rattle.rules.specs.Documents.{Setting, rule_of}
use Rattle.rules.specs.Layers.{Work}
use Rattle.rules.specs.Sheet.{pair_at, records, texts, entry_record, trail_size, trail_text_size, trail_records, trail_texts}
use Rattle.rules.specs.Checking.{answer_in, answer_for, entries_from, table_accepted, accepted}
use Rattle.rules.specs.Jobs.{order_of}
use Rattle.theory.specs.Layout.{both_true, is_sheet-inv, is_sheet-intro, Numbered, length-trail_records, number_at, length-entry, entry-some}
use Rattle.theory.specs.Layout.{length-trail}

-- ---- one step

-- a number's answer, where it has no entry yet and the rules give it one
pub answer-inv : (x : Setting) (S : Trail Answer) (b : ℕ) (a : Answer) → answer_for x S b ≡ some a
    → (lookup S b ≡ none) × (run (lookup S) (rule_of x b) ≡ value a)
unfolding answer_for
answer-inv x S b a e = go (lookup S b) refl e
  where
    out : (o : Out Refusal Answer) → answer_in o ≡ some a → o ≡ value a
    out (value c) h = cc
    out (refused c) h = clash (cc)
    out (missing c) h = clash (cc)

    go : (o : Option Answer) → lookup S b ≡ o
        → elim o as (λ o. Option Answer) [ some c ↦ none | none ↦ answer_in (run (lookup S) (rule_of x b)) ] ≡ some a
        → (lookup S b ≡ none) × (run (lookup S) (rule_of x b) ≡ value a)
    go none h k = (h, out (run (lookup S) (rule_of x b)) k)
    go (some c) h k = clash (cc)

pub answer-intro : (x : Setting) (S : Trail Answer) (b : ℕ) (a : Answer) → lookup S b ≡ none → run (lookup S) (rule_of x b) ≡ value a
    → answer_for x S b ≡ some a
unfolding answer_for
answer-intro x S b a new runs = rw (answer_for, new, runs)

-- ---- the entries that a trail's numbers call for

module _ (x : Setting) (trail : List ℕ) where
  -- past the trail's end nothing is called for
  pub entries-end : (n : ℕ) (S : Trail Answer) → length trail ≤ trail_size S → entries_from n x trail S ≡ some S
  unfolding entries_from
  entries-end zero S full = refl
  entries-end (suc n) S full = rw (entries_from, le-ltb (trail_size S) (length trail) full)

  -- before it one more entry is
  pub entries_next : (n : ℕ) (S : Trail Answer) (b : ℕ) (a : Answer) → trail_size S < length trail → pair_at trail (trail_size S + 1) ≡ b
      → answer_for x S b ≡ some a → entries_from (suc n) x trail S ≡ entries_from n x trail ((b, a) ∷ S)
  unfolding entries_from
  entries_next n S b a more number_is answer-is =
      let called : answer_for x S (pair_at trail (trail_size S + 1)) ≡ some a = ap (answer_for x S) number_is ∙ answer-is in
      rw (entries_from, lt-ltb (trail_size S) (length trail) more, called) (ap (λ k. entries_from n x trail ((k, a) ∷ S)) number_is)

  entries_none : (n : ℕ) (S : Trail Answer) → trail_size S < length trail → answer_for x S (pair_at trail (trail_size S + 1)) ≡ none
      → entries_from (suc n) x trail S ≡ none
  unfolding entries_from
  entries_none n S more none_is = rw (entries_from, lt-ltb (trail_size S) (length trail) more, none_is)

  -- what comes next
  data Next (S : Trail Answer) : Type 0 where
    ends : length trail ≤ trail_size S → Next S
    refuses : trail_size S < length trail → answer_for x S (pair_at trail (trail_size S + 1)) ≡ none → Next S
    goes : (a : Answer) → trail_size S < length trail → answer_for x S (pair_at trail (trail_size S + 1)) ≡ some a → Next S

  next : (S : Trail Answer) → Next S
  next S = go (ltb (trail_size S) (length trail)) refl (answer_for x S (pair_at trail (trail_size S + 1))) refl
    where
      go : (t : Bool) → ltb (trail_size S) (length trail) ≡ t → (o : Option Answer) → answer_for x S (pair_at trail (trail_size S + 1)) ≡ o → Next S
      go false h o k = ends (ltb-false (trail_size S) (length trail) h)
      go true h none k = refuses (ltb-true (trail_size S) (length trail) h) k
      go true h (some a) k = goes a (ltb-true (trail_size S) (length trail) h) k

  -- more steps than bytes change nothing
  pub entries-fuel : (n m : ℕ) (S : Trail Answer) → length trail ≤ n + trail_size S → length trail ≤ m + trail_size S
      → entries_from n x trail S ≡ entries_from m x trail S
  unfolding trail_size
  entries-fuel zero m S h k = entries-end zero S (omega arith) ∙ sym (entries-end m S (omega arith))
  entries-fuel (suc n) zero S h k = entries-end (suc n) S (omega arith) ∙ sym (entries-end zero S (omega arith))
  entries-fuel (suc n) (suc m) S h k = go (next S) (λ a. entries-fuel n m ((pair_at trail (trail_size S + 1), a) ∷ S))
    where
      b : ℕ
      b = pair_at trail (trail_size S + 1)

      go : Next S
          → ((a : Answer) → length trail ≤ n + trail_size ((b, a) ∷ S) → length trail ≤ m + trail_size ((b, a) ∷ S)
          → entries_from n x trail ((b, a) ∷ S) ≡ entries_from m x trail ((b, a) ∷ S))
          → entries_from (suc n) x trail S ≡ entries_from (suc m) x trail S
      go (ends full) ih = entries-end (suc n) S full ∙ sym (entries-end (suc m) S full)
      go (refuses more e) ih = entries_none n S more e ∙ sym (entries_none m S more e)
      go (goes a more e) ih =
          entries_next n S b a more refl e ∙ ih a (omega (arith, entry-some a)) (omega (arith, entry-some a)) ∙ sym (entries_next m S b a more refl e)

  module _ (ρ : Rules Refusal Answer) (rules : (b : ℕ) → ρ.rule b ≡ rule_of x b) where
    -- they are laid by the rules
    pub entries-laid : (n : ℕ) (S S' : Trail Answer) → entries_from n x trail S ≡ some S' → Laid ρ S → Laid ρ S'
    unfolding entries_from
    entries-laid zero S S' e l = let q : S ≡ S' = cc in rw q at l
    entries-laid (suc n) S S' e l = go (next S) (λ a. entries-laid n ((pair_at trail (trail_size S + 1), a) ∷ S) S')
      where
        b : ℕ
        b = pair_at trail (trail_size S + 1)

        go : Next S → ((a : Answer) → entries_from n x trail ((b, a) ∷ S) ≡ some S' → Laid ρ ((b, a) ∷ S) → Laid ρ S') → Laid ρ S'
        go (ends full) ih = let q : S ≡ S' = cc (entries-end (suc n) S full) in rw q at l
        go (refuses more k) ih = clash (cc (entries_none n S more k))
        go (goes a more k) ih =
            let (new, runs) = answer-inv x S b a k in
            ih a (sym (entries_next n S b a more refl k) ∙ e) (new, ap (run (lookup S)) (rules b) ∙ runs, l)

    -- a trail that begins with the records of laid entries calls for them
    pub entries-of : (S : Trail Answer) (n : ℕ) (r : List ℕ) → trail ≡ trail_records S ++ r → Laid ρ S → Numbered S
        → entries_from (n + length S) x trail [] ≡ entries_from n x trail S
    unfolding trail_records
    entries-of [] n r e l small = rw (add-zero n)
    entries-of (e ∷ S) n r q l small =
        let (b, a) = e in
        let entry = entry_record (trail_text_size S) b a in
        let q' : trail ≡ trail_records S ++ (entry ++ r) = q ∙ append_assoc (trail_records S) entry r in
        let more : trail_size S < length trail = omega (
          arith,
          ap length q',
          length-append (trail_records S) (entry ++ r),
          length-append entry r,
          length-trail_records S,
          length-entry (trail_text_size S) b a,
          entry-some a,
        ) in
        let number_is : pair_at trail (trail_size S + 1) ≡ b =
        rw q' (number_at (trail_records S) r (trail_text_size S) b a (trail_size S) small.0 (length-trail_records S)) in
        let count : n + length (e ∷ S) ≡ suc n + length S = omega arith in
        ap (λ k. entries_from k x trail []) count
        ∙ entries-of S (suc n) (entry ++ r) q' l.2 small.1
        ∙ entries_next n S b a more number_is (answer-intro x S b a l.0 (ap (run (lookup S)) (sym (rules b)) ∙ l.1))

-- ---- sheets

abbrev pub root_of : Setting → Work Value
root_of x = root_value x.document.root x.environment

-- the rules of any room are the document's
pub order-rule : (x : Setting) (a c b : ℕ) → (order_of x a c).rule b ≡ rule_of x b
unfolding order_of
order-rule x a c b = refl

-- A sheet by the rules: three parts that are the layout of a trail laid by them and of the root's value. Which rooms are named is of no
-- account: they bear on what fits, and `Laid` does not ask that.
pub record SheetOf (x : Setting) (a c : ℕ) (trail table text : List ℕ) : Type 0 where
  pub entries : Trail Answer
  pub root : Value
  pub laid : Laid (order_of x a c) entries
  pub root-runs : run (lookup entries) (root_of x) ≡ value root
  pub small : within_size root ≡ true
  pub trail_is : trail ≡ trail_records entries
  pub table_is : table ≡ records (trail_text_size entries) root
  pub text-is : text ≡ trail_texts entries ++ texts root

module _ (x : Setting) where
  -- what is accepted is a sheet by the rules
  pub accepted-inv : (a c : ℕ) (trail table text : List ℕ) → accepted x trail table text ≡ true → SheetOf x a c trail table text
  unfolding accepted
  accepted-inv a c trail table text e = go (entries_from (length trail) x trail []) refl e
    where
      found : (S : Trail Answer) → entries_from (length trail) x trail [] ≡ some S → (o : Out Refusal Value) → run (lookup S) (root_of x) ≡ o
          → table_accepted S trail table text o ≡ true → SheetOf x a c trail table text
      found S h (value v) k m =
          let (small, sheet) = both_true _ _ m in
          let (f, g, t) = is_sheet-inv S v trail table text sheet in
          record {
            entries = S;
            root = v;
            laid = entries-laid x trail (order_of x a c) (order-rule x a c) (length trail) [] S h tt;
            root-runs = k;
            small = small;
            trail_is = f;
            table_is = g;
            text-is = t;
          }
      found S h (refused y) k m = clash (cc)
      found S h (missing b) k m = clash (cc)

      go : (o : Option (Trail Answer)) → entries_from (length trail) x trail [] ≡ o
          → elim o as (λ o. Bool) [ none ↦ false | some S ↦ table_accepted S trail table text (run (lookup S) (root_of x)) ] ≡ true
          → SheetOf x a c trail table text
      go none h k = clash (cc)
      go (some S) h k = found S h (run (lookup S) (root_of x)) refl k

  -- and every sheet by the rules is accepted
  pub accepted-intro : (a c : ℕ) (S : Trail Answer) (v : Value) → Laid (order_of x a c) S → Numbered S
      → run (lookup S) (root_of x) ≡ value v → within_size v ≡ true
      → accepted x (trail_records S) (records (trail_text_size S) v) (trail_texts S ++ texts v) ≡ true
  unfolding accepted
  accepted-intro a c S v l numbered runs small =
      let trail = trail_records S in
      let fuel : length trail ≡ trail_size S - length S + length S = omega (arith, length-trail_records S, length-trail S) in
      let all : entries_from (length trail) x trail [] ≡ some S =
      ap (λ k. entries_from k x trail []) fuel
      ∙ entries-of x trail (order_of x a c) (order-rule x a c) S (trail_size S - length S) [] (sym (append-nil trail)) l numbered
      ∙ entries-end x trail (trail_size S - length S) S (omega (arith, length-trail_records S)) in
      rw (accepted, all, runs, small) (is_sheet-intro S v)
