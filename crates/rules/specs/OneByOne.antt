-- One case for each wrong definition that must-fail tries, small enough that no other one of its file changes it. The tables of the other
-- modules see them too, but not which it is.
use Rattle.std.specs.Prelude.{◌≡◌, refl, ℕ, [], ◌∷◌, ◌++◌, false}
use Prim.Native.String.{String}
use Rattle.std.proofs.Math.Option.{none, some}
use Rattle.answers.specs.Ask.{Trail, mem}
use Rattle.rules.specs.Refusals.{resolve_numbers, check_numbers, look_up_numbers, length_numbers, spent_fuel}
use Rattle.rules.specs.Values.{Value, Answer}
use Rattle.rules.specs.Positions.{column_at}
use Rattle.rules.specs.Jobs.{Resolved, resolve_job, length_job}
use Rattle.rules.specs.Cases.{bytes, num, obj}
use Rattle.rules.specs.Examples.{sent, verdict_on, chain, ones, asked, looked}
use Rattle.rules.specs.LengthExamples.{Asked, long, refused}

-- ---- the number of spent fuel is in no job's list, and not 0, which is success

fuel-unlisted : mem spent_fuel (0 ∷ resolve_numbers ++ check_numbers ++ look_up_numbers ++ length_numbers) ≡ false
fuel-unlisted = refl

-- ---- resolutions

unfoldable resolved : String → Resolved
unfolding bytes resolve_job
resolved d = resolve_job (bytes d) [] 256 32768 32768 32768

resolves : (resolved "").number ≡ 0
unfolding resolved
resolves = refl

writes : (resolved "a=1").text ≡ bytes "a1"
unfolding resolved
writes = refl

table-of-1 : (resolved "a=1").table ≡ 7 ∷ 0 ∷ 1 ∷ 8 ∷ 0 ∷ 0 ∷ 0 ∷ 1 ∷ 4 ∷ 0 ∷ 1 ∷ 0 ∷ 1 ∷ []
unfolding resolved
table-of-1 = refl

counts-three : (resolved "a=${d},b=${d},c=${d},d=1").count ≡ 3
unfolding resolved
counts-three = refl

each-its-own : (resolved "a=${c},b=${d},c=1,d=2").text ≡ bytes "12a1b2c1d2"
unfolding resolved
each-its-own = refl

-- ---- what is read

comma-once : (resolved "[1,,2]").number ≡ 3
unfolding resolved
comma-once = refl

no-newline : (resolved "a=1\u{2028}b=2").number ≡ 3
unfolding resolved
no-newline = refl

behind-a-key : (resolved "a\u{a0}=1").text ≡ bytes "a1"
unfolding resolved
behind-a-key = refl

behind-a-value : (resolved "a=1 ,b=2").text ≡ bytes "a1b2"
unfolding resolved
behind-a-value = refl

-- ---- what a substitution sees

looks-forward : (resolved "b=${a},a=1").number ≡ 0
unfolding resolved
looks-forward = refl

-- in an array nothing looks back
one-field-alone : (resolved "bar={foo=42,baz=[${bar.foo}]}").number ≡ 0
unfolding resolved
one-field-alone = refl

-- ---- sheets

unfoldable verdict : String → Trail Answer → Value → ℕ
unfolding verdict_on
verdict d entries table = verdict_on (sent d entries table 0)

accepts : verdict chain ((1, some (num "1")) ∷ (0, some (num "1")) ∷ []) ones ≡ 0
unfolding verdict num ones
accepts = refl

table-is-wrong : verdict chain ((1, some (num "1")) ∷ (0, some (num "1")) ∷ []) (obj []) ≡ 17
unfolding verdict num obj
table-is-wrong = refl

needs-come-first : verdict chain ((0, some (num "1")) ∷ (1, some (num "1")) ∷ []) ones ≡ 17
unfolding verdict num ones
needs-come-first = refl

second-is-undefined : verdict "a=${?b},b=${?c},c=1" ((1, some (num "1")) ∷ (0, none) ∷ []) (obj (("b", num "1") ∷ ("c", num "1") ∷ [])) ≡ 17
unfolding verdict num obj
second-is-undefined = refl

second-is-wrong : verdict chain ((1, some (num "1")) ∷ (0, some (num "2")) ∷ []) ones ≡ 17
unfolding verdict num ones
second-is-wrong = refl

-- ---- lines and columns

wide-column : column_at (bytes "é€x") 5 ≡ 3
unfolding bytes column_at
wide-column = refl

behind-a-newline : column_at (bytes "a\nbc") 2 ≡ 1
unfolding bytes column_at
behind-a-newline = refl

end-column : column_at (bytes "ab") 2 ≡ 3
unfolding bytes column_at
end-column = refl

no-line-of-1 : (resolve_job (bytes "a=1") [] 257 32768 32768 32768).line ≡ 0
unfolding bytes resolve_job
no-line-of-1 = refl

-- ---- look-ups

first-of-two : (looked (asked "a.b" 0 0 16 5)).start ≡ 16
unfolding looked
first-of-two = refl

dot-in-quotes : (looked (asked "\"c.d\"" 0 0 36 8)).number ≡ 0
unfolding looked
dot-in-quotes = refl

no-space : (looked (asked "\u{200b}a" 16 0 0 0)).number ≡ 16
unfolding looked
no-space = refl

-- ---- lengths

abbrev Measures : Asked → Type 0
Measures x = length_job x.table x.text ≡ x.gives

inch : Measures (long "1 in" 25400)
unfolding long length_job
inch = refl

one-too-many : Measures (refused "1000001 um" 24)
unfolding refused length_job
one-too-many = refl

not-whole : Measures (refused "0.0001 mm" 23)
unfolding refused length_job
not-whole = refl

malformed-first : Measures (refused "-5 cm" 20)
unfolding refused length_job
malformed-first = refl
