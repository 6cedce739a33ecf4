-- Document 01, "The sheet": "a sheet is accepted exactly if each blend has at most one entry, each entry is what the rules give its blend
-- with all needed blends taken from earlier entries, the table is the root's value with needed blends taken from the trail, within its
-- size, and the layout is exact; otherwise it is not."
use Rattle.std.specs.Prelude.{ℕ, zero, suc, ◌+◌, List, [], ◌∷◌, ◌++◌, Bool, true, false, ◌&&◌, ltb, length}
use Rattle.std.proofs.Math.Option.{Option, none, some}
use Rattle.answers.specs.Ask.{Trail, lookup, Out, value, refused, missing, run}
use Rattle.rules.specs.Bytes.{same}
use Rattle.rules.specs.Refusals.{Refusal}
use Rattle.rules.specs.Values.{Value, Answer, within_size}
use Rattle.rules.specs.Unresolved.{root_value}
use Rattle.rules.specs.Documents.{Setting, rule_of}
use Rattle.rules.specs.Sheet.{pair_at, records, texts, trail_size, trail_text_size, trail_records, trail_texts}

-- an answer, where the rules give one
abbrev pub answer_in : Out Refusal Answer → Option Answer
answer_in (value a) = some a
answer_in (refused x) = none
answer_in (missing b) = none

-- a number's answer by the rules with all needed ones taken from the entries so far, if it has no entry yet
unfoldable pub answer_for : Setting → Trail Answer → ℕ → Option Answer
unfolding rule_of
answer_for x S b = elim (lookup S b) [ some a ↦ none | none ↦ answer_in (run (lookup S) (rule_of x b)) ]

-- The entries that the trail's numbers call for, each found from those before it. The next entry begins where those so far end. As many
-- steps as the trail has bytes are enough: an entry has some, and none is called for at the end (module Entries of `theory`).
unfoldable pub entries_from : (fuel : ℕ) (x : Setting) (trail : List ℕ) (S : Trail Answer) → Option (Trail Answer)
unfolding pair_at answer_for trail_size
entries_from zero x trail S = some S
entries_from (suc n) x trail S =
    elim (ltb (trail_size S) (length trail)) [
      | false ↦ some S
      | true ↦
          let b = pair_at trail (trail_size S + 1) in
          elim (answer_for x S b) [ none ↦ none | some a ↦ entries_from n x trail ((b, a) ∷ S) ]
    ]

-- the layout is exact
unfoldable pub is_sheet : (S : Trail Answer) (v : Value) (trail table text : List ℕ) → Bool
unfolding same records texts trail_text_size trail_records trail_texts
is_sheet S v trail table text =
    same trail (trail_records S) && same table (records (trail_text_size S) v) && same text (trail_texts S ++ texts v)

unfoldable pub table_accepted : (S : Trail Answer) (trail table text : List ℕ) (root : Out Refusal Value) → Bool
unfolding within_size is_sheet
table_accepted S trail table text (value v) = within_size v && is_sheet S v trail table text
table_accepted S trail table text (refused x) = false
table_accepted S trail table text (missing b) = false

unfoldable pub accepted : (x : Setting) (trail table text : List ℕ) → Bool
unfolding entries_from root_value table_accepted
accepted x trail table text =
    elim (entries_from (length trail) x trail []) [
      | none ↦ false
      | some S ↦ table_accepted S trail table text (run (lookup S) (root_value x.document.root x.environment))
    ]
