-- Environments of a few bytes, and what the rules say of them.
use Rattle.std.specs.Prelude.{◌≡◌, refl, Bool, true, false, List}
use Prim.Native.String.{String}
use Rattle.std.proofs.Math.Option.{Option, none, some}
use Rattle.rules.specs.Bytes.{Text}
use Rattle.rules.specs.Cases.{bytes}
use Rattle.rules.specs.Environment.{Variable, entries_of, text_of}

abbrev valid : String → Bool
valid s = elim (entries_of (bytes s)) [ none ↦ false | some es ↦ true ]

abbrev text_in : Option (List Variable) → Text → Option Text
text_in none n = none
text_in (some es) n = text_of es n

-- no entry, and empty texts; the text goes on behind a second `=`
good : (valid "" ≡ true) × (valid "a=\0b=\0" ≡ true) × (valid "a=b=c\0" ≡ true)
unfolding bytes entries_of
good = (refl, refl, refl)

-- an empty name, a name without `=`, a text without its zero byte, a zero byte alone
bad : (valid "=1\0" ≡ false) × (valid "a\0" ≡ false) × (valid "a=1" ≡ false) × (valid "a=1\0\0" ≡ false)
unfolding bytes entries_of
bad = (refl, refl, refl, refl)

-- "the first of equal names counts"
first-of-equal : text_in (entries_of (bytes "ab=0\0a=1\0a=2\0")) (bytes "a") ≡ some (bytes "1")
unfolding bytes entries_of text_of
first-of-equal = refl

no-such-name : text_in (entries_of (bytes "ab=0\0")) (bytes "a") ≡ none
unfolding bytes entries_of text_of
no-such-name = refl
