-- What a verdict says of the elements.
use Rattle.std.specs.Prelude.{◌≡◌, refl, List, ℕ, ◌≤◌, ◌<◌, length, Ok, Err}
use Rattle.std.proofs.Common.{ap}
use Rattle.std.proofs.Math.Option.{Option, none, some}
use Rattle.answers.specs.Theory.Sound.{clash}
use Rattle.rules.specs.Refusals.{Refusal as Refusing, number_of, place_of}
use Rattle.rules.specs.Paths.{Element, judge}
use Rattle.theory.specs.PathsEnd as P
use Rattle.text_chars.specs.Cursor.{doc, refusal}
use Rattle.text_chars.specs.declared.Refusal.{Refusal}
use Rattle.text_elements.specs.Marks.Judging.{verdict_of}

pub verdict-fine : (seven allowed : ℕ) (es : List Element) → Ok tt ≡ verdict_of (judge seven allowed es)
    → (judge seven allowed es ≡ none) × (0 < length es) × (length es ≤ allowed)
verdict-fine seven allowed es e = go (judge seven allowed es) refl (P.judge-verdict seven allowed es) e
  where
    go : (o : Option Refusing) → judge seven allowed es ≡ o → P.Verdict (P.Fitting allowed es) o → Ok tt ≡ verdict_of o
        → (judge seven allowed es ≡ none) × (0 < length es) × (length es ≤ allowed)
    go none q (P.passes f) z = (q, f.0, f.1)
    go (some x) q v z = clash (cc)

pub verdict-bad : (seven allowed : ℕ) (es : List Element) (y : Refusal) → Err y ≡ verdict_of (judge seven allowed es)
    → (x : Refusing) × (judge seven allowed es ≡ some x) × (y.number ≡ number_of x) × (y.place.0 ≡ place_of x)
verdict-bad seven allowed es y e = go (judge seven allowed es) refl e
  where
    go : (o : Option Refusing) → judge seven allowed es ≡ o → Err y ≡ verdict_of o
        → (x : Refusing) × (judge seven allowed es ≡ some x) × (y.number ≡ number_of x) × (y.place.0 ≡ place_of x)
    go none q z = clash (cc)
    go (some x) q z =
        let i : y ≡ refusal (number_of x) (doc (place_of x)) = cc in
        (x, q, ap (λ (z : Refusal). z.number) i, ap (λ (z : Refusal). z.place.0) i)
