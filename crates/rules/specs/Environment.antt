-- Document 01, "Sizes": the environment, "each entry a non-empty name without `=`, then `=`, a text, then its only zero byte; the
-- first of equal names counts".
use Rattle.std.specs.Prelude.{ℕ, List, [], ◌∷◌, ◌++◌, true, false, leb, eqb, length}
use Rattle.std.proofs.Math.Option.{Option, none, some}
use Rattle.rules.specs.Sizes.{max_environment, max_entries}
use Rattle.rules.specs.Bytes.{Text, same}
use Rattle.rules.specs.Ascii as ascii
use Rattle.rules.specs.Utf8.{ill_formed}

-- one entry: a variable's name and its text
pub record Variable : Type 0 where
  pub name : Text
  pub text : Text

abbrev pub with_variable : Variable → Option (List Variable) → Option (List Variable)
with_variable x none = none
with_variable x (some xs) = some (x ∷ xs)

-- where a name is read an entry may begin; `so_far` is what stands before the place
unfoldable mutual
  pub name_from : Text → List ℕ → Option (List Variable)
  name_from so_far [] = elim so_far [ [] ↦ some [] | b ∷ bs ↦ none ]
  name_from so_far (b ∷ bs) =
      elim (eqb b ascii.nul) [
        | true ↦ none
        | false ↦ elim (eqb b ascii.equals) [
          | true ↦ elim so_far [ [] ↦ none | c ∷ cs ↦ text_from (c ∷ cs) [] bs ]
          | false ↦ name_from (so_far ++ (b ∷ [])) bs
        ]
      ]

  pub text_from : (name so_far : Text) (s : List ℕ) → Option (List Variable)
  text_from name so_far [] = none
  text_from name so_far (b ∷ bs) =
      elim (eqb b ascii.nul) [
        | true ↦ with_variable (record { name = name; text = so_far }) (name_from [] bs)
        | false ↦ text_from name (so_far ++ (b ∷ [])) bs
      ]

abbrev pub at_most : ℕ → Option (List Variable) → Option (List Variable)
at_most n none = none
at_most n (some es) = elim (leb (length es) n) [ true ↦ some es | false ↦ none ]

-- the entries, or nothing where the environment is against its rule (number 1)
unfoldable pub entries_of : List ℕ → Option (List Variable)
unfolding ill_formed name_from
entries_of env =
    elim (leb (length env) max_environment) [
      | false ↦ none
      | true ↦ elim (ill_formed env) [ some place ↦ none | none ↦ at_most max_entries (name_from [] env) ]
    ]

-- All that the rules know of an environment: the text of a name, or nothing.
abbrev pub Environment : Type 0
Environment = Text → Option Text

unfoldable pub text_of : List Variable → Environment
unfolding same
text_of [] name = none
text_of (e ∷ es) name = elim (same e.name name) [ true ↦ some e.text | false ↦ text_of es name ]
