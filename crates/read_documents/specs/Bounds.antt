-- What looking at the bounds promises: where they are not kept the rules refuse by 1, and else they read the document in its environment.
use Rattle.std.specs.Prelude.{◌≡◌, ℕ, ◌≤◌, Bool, true, false, List, length}
use Rattle.std.proofs.Math.Option.{some}
use Rattle.rules.specs.Sizes.{max_document}
use Rattle.rules.specs.Refusals.{nowhere}
use Rattle.rules.specs.Environment.{Variable, entries_of, text_of}
use Rattle.rules.specs.Documents.{refused, read_document, with_environment, inputs}

pub record FitsIs (others : Bool) (s e : List ℕ) (r : Bool) : Type 0 where
  pub no : r ≡ false → inputs others s e ≡ refused (nowhere 1)
  pub short : r ≡ true → length s ≤ max_document
  pub yes : r ≡ true
      → (es : List Variable) × (entries_of e ≡ some es) × (inputs others s e ≡ with_environment (text_of es) (read_document s))
