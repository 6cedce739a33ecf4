-- The rules' inputs, bound by bound.
use mathlib.Core.Path.{◌≡◌}
use mathlib.Core.Bool.{Bool, true, false}
use mathlib.Core.List.{List}
use mathlib.Core.Option.{none, some}
use Prim.Native.Nat.{ℕ, ◌≤◌, ◌<◌}
use lib.ListN.{length}
use borrow.Author.Tests.{le-leb, lt-leb}
use Rattle.rules.specs.Sizes.{max_document}
use Rattle.rules.specs.Refusals.{nowhere}
use Rattle.rules.specs.Environment.{Variable, entries_of, text_of}
use Rattle.rules.specs.Documents.{refused, read_document, with_environment, inputs}
use Rattle.text_environment.specs.Clauses.{is_some}
use Rattle.text_environment.specs.Answers.{valid-is, invalid-is}
use Rattle.text_chars.specs.Clash.{clash}
use Rattle.read_documents.specs.Bounds.{FitsIs}

module _ (others : Bool) (s e : List ℕ) where
  no-others : others ≡ false → inputs others s e ≡ refused (nowhere 1)
  unfolding inputs
  no-others f = rw (f, inputs)

  too_long : others ≡ true → max_document < length s → inputs others s e ≡ refused (nowhere 1)
  unfolding inputs
  too_long f l = rw (f, lt-leb (length s) max_document l, inputs)

  module _ (f : others ≡ true) (l : length s ≤ max_document) where
    bad-environment : entries_of e ≡ none → inputs others s e ≡ refused (nowhere 1)
    unfolding inputs
    bad-environment q = rw (f, le-leb (length s) max_document l, q, inputs)

    good-environment : (es : List Variable) → entries_of e ≡ some es → inputs others s e ≡ with_environment (text_of es) (read_document s)
    unfolding inputs
    good-environment es q = rw (f, le-leb (length s) max_document l, q, inputs)

module _ {others : Bool} {s e : List ℕ} where
  over : inputs others s e ≡ refused (nowhere 1) → FitsIs others s e false
  over q = record { no = λ z. q; short = λ z. clash (cc (z)); yes = λ z. clash (cc (z)) }

  pub fits-others : others ≡ false → FitsIs others s e false
  fits-others f = over (no-others others s e f)

  pub fits-long : others ≡ true → max_document < length s → FitsIs others s e false
  fits-long f l = over (too_long others s e f l)

  pub fits-environment : {b : Bool} → others ≡ true → length s ≤ max_document → b ≡ is_some (entries_of e) → FitsIs others s e b
  fits-environment f l v = record {
    no = λ z. bad-environment others s e f l (invalid-is e v z);
    short = λ z. l;
    yes = λ z. let es = valid-is e v z in (es.0, es.1, good-environment others s e f l es.0 es.1);
  }

pub ruleset bounds = (fits-others, fits-long, fits-environment)
