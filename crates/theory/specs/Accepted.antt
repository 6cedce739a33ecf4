-- Accepted sheets of a document that was read: their entries' numbers fit two bytes, so `accepted` is exactly "a sheet by the rules"; and
-- any two of them mean the same.
use Rattle.std.specs.Prelude.{◌≡◌, refl, ℕ, ◌+◌, ◌≤◌, ◌<◌, List, [], ◌∷◌, ◌++◌, Bool, true, ◌↔◌, length}
use Rattle.std.proofs.Common.{sym, ◌∙◌, ap, arith, length-append}
use Rattle.std.proofs.Math.Option.{Option, none, some}
use Rattle.std.proofs.Math.ListN.{get_elem?}
use Rattle.answers.specs.Ask.{Trail, lookup, value, refused, run}
use Rattle.answers.specs.Resolve.{Laid, Accepts}
use Rattle.answers.specs.Theory.Sound.{clash}
use Rattle.answers.specs.Theory.Budget.{one_value}
use Rattle.rules.specs.Refusals.{Refusal, spent}
use Rattle.rules.specs.Values.{Answer, record_size, text_size}
use Rattle.rules.specs.Layers.{Work}
use Rattle.rules.specs.Unresolved.{Unresolved, answer_of}
use Rattle.rules.specs.Documents.{Setting, valid, inputs, rule_of, count_of}
use Rattle.rules.specs.Sheet.{texts, trail_size, trail_text_size, trail_texts}
use Rattle.rules.specs.Checking.{accepted}
use Rattle.rules.specs.Jobs.{order_of}
use Rattle.rules.specs.Meaning.{MeanTheSame}
use Rattle.theory_text.specs.Choices.{get_elem-length}
use Rattle.theory.specs.Numbering.{prepared}
use Rattle.theory.specs.Layout.{Numbered, length-trail_records, length-records, length-texts, length-trail_texts}
use Rattle.theory.specs.Entries.{root_of, order-rule, SheetOf, accepted-inv, accepted-intro}
use Rattle.theory.specs.SameMeaning.{at-end, mean-the-same}

-- ---- a document that was read has at most 256 numbers

pub inputs-few : (others : Bool) (document environment : List ℕ) (x : Setting) → inputs others document environment ≡ valid x → count_of x ≤ 256
inputs-few others document environment x e = (prepared others document environment x e).at_most

-- ---- entries' numbers

-- the rules give an answer only to the document's own numbers
rule-below : (x : Setting) (known : ℕ → Option Answer) (b : ℕ) (a : Answer) → run known (rule_of x b) ≡ value a → b < count_of x
unfolding rule_of
rule-below x known b a e = go (get_elem? x.document.unresolved b) refl e
  where
    go : (o : Option Unresolved) → get_elem? x.document.unresolved b ≡ o
        → run {F = Refusal} known (elim o as (λ o. Work Answer) [
          | none ↦ refused spent
          | some u ↦ answer_of x.document.root x.environment u.openness u.pieces
        ]) ≡ value a
        → b < count_of x
    go none h k = clash (cc)
    go (some u) h k = get_elem-length x.document.unresolved b u h

module _ (x : Setting) (few : count_of x ≤ 65536) (a c : ℕ) where
  pub laid-numbered : (S : Trail Answer) → Laid (order_of x a c) S → Numbered S
  laid-numbered [] l = tt
  laid-numbered (e ∷ S) l =
      let runs : run (lookup S) (rule_of x e.0) ≡ value e.1 = ap (run (lookup S)) (sym (order-rule x a c e.0)) ∙ l.1 in
      (omega (arith, rule-below x (lookup S) e.0 e.1 runs), laid-numbered S l.2)

  -- accepted is exactly a sheet by the rules
  pub accepted-iff : (trail table text : List ℕ) → (accepted x trail table text ≡ true) ↔ SheetOf x a c trail table text
  accepted-iff trail table text = (
    accepted-inv x a c trail table text,
    λ s. rw (s.trail_is, s.table_is, s.text-is)
        (accepted-intro x a c s.entries s.root s.laid (laid-numbered s.entries s.laid) s.root-runs s.small),
  )

-- ---- any two accepted sheets of one document mean the same

module _ (x : Setting) (a c : ℕ) where
  pub sheet-accepts : {trail table text : List ℕ} (s : SheetOf x a c trail table text) → Accepts (order_of x a c) (root_of x) s.entries s.root
  sheet-accepts s = record { laid = s.laid; root-runs = s.root-runs }

  pub sheet-sizes : {trail table text : List ℕ} (s : SheetOf x a c trail table text)
      → (trail_size s.entries ≡ length trail)
      × (record_size s.root ≡ length table)
      × (trail_text_size s.entries + text_size s.root ≡ length text)
  sheet-sizes s =
      let S = s.entries in
      let v = s.root in (
        omega (arith, ap length s.trail_is, length-trail_records S),
        omega (arith, ap length s.table_is, length-records (trail_text_size S) v),
        omega (arith, ap length s.text-is, length-append (trail_texts S) (texts v), length-trail_texts S, length-texts v),
      )

  pub sheets-mean-the-same : {trail table text trail' table' text' : List ℕ} → SheetOf x a c trail table text → SheetOf x a c trail' table' text'
      → length table ≤ 32768 → length text ≤ 32768 → length text' ≤ 32768 → MeanTheSame table text table' text'
  sheets-mean-the-same s s' l m m' =
      let S = s.entries in
      let S' = s'.entries in
      let v = s.root in
      let one : s'.root ≡ v = one_value (order_of x a c) (root_of x) S' S s'.root v (sheet-accepts s') (sheet-accepts s) in
      let small : trail_text_size S + text_size v < 65536 = omega (arith, (sheet-sizes s).2) in
      let small' : trail_text_size S' + text_size v < 65536 = omega (arith, (sheet-sizes s').2, ap text_size one) in
      let few : record_size v < 65536 = omega (arith, (sheet-sizes s).1) in
      rw (s.table_is, s.text-is, s'.table_is, s'.text-is, one)
      (mean-the-same v (trail_text_size S) (trail_text_size S') (trail_texts S ++ texts v) (trail_texts S' ++ texts v)
      (at-end (trail_texts S) (texts v) (trail_text_size S) (length-trail_texts S))
      (at-end (trail_texts S') (texts v) (trail_text_size S') (length-trail_texts S')) small small' few)
