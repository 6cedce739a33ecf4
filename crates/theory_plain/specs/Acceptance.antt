-- What is accepted, part by part of document 01's sentence. `rules` finds the entries out of the trail's numbers (Checking, `entries_from`),
-- so that it can be computed; here they are said to be there. That both are the same is
-- shown in proofs/Acceptance.antt.
use Rattle.std.specs.Prelude.{◌≡◌, ℕ, List, [], ◌∷◌, ◌++◌, true}
use Rattle.answers.specs.Ask.{value, run, Trail, lookup, Once}
use Rattle.rules.specs.Values.{Value, Answer, within_size}
use Rattle.rules.specs.Documents.{Setting, rule_of}
use Rattle.rules.specs.Sheet.{records, texts, trail_text_size, trail_records, trail_texts}
use Rattle.theory.specs.Entries.{root_of}

-- "each entry is what the rules give its blend with all needed blends taken from earlier entries": behind an entry stand the earlier ones
abbrev pub ByRules : Setting → Trail Answer → Type 0
ByRules x [] = Unit {0}
ByRules x (e ∷ earlier) = (run (lookup earlier) (rule_of x e.0) ≡ value e.1) × ByRules x earlier

-- "a sheet is accepted exactly if"
pub record Sheet (x : Setting) (trail table text : List ℕ) : Type 0 where
  pub entries : Trail Answer
  pub root : Value
  -- "each blend has at most one entry,"
  pub at_most_one : Once entries
  -- "each entry is what the rules give its blend with all needed blends taken from earlier entries,"
  pub by-rules : ByRules x entries
  -- "the table is the root's value with needed blends taken from the trail,"
  pub root_is : run (lookup entries) (root_of x) ≡ value root
  -- "within its size,"
  pub within : within_size root ≡ true
  -- "and the layout is exact"
  pub trail_is : trail ≡ trail_records entries
  pub table_is : table ≡ records (trail_text_size entries) root
  pub text-is : text ≡ trail_texts entries ++ texts root
