-- One case for each wrong definition that must-fail tries, small enough that no other one of its file changes it.
use Rattle.std.specs.Prelude.{◌≡◌, refl}
use Rattle.rules_profile.specs.Examples.{read}

thousandths : (read "profile=1,unit=in,plate{min=1,max=2}").minimum ≡ 254
unfolding read
thousandths = refl

one-too-many : (read "profile=1,unit=mm,plate{min=1,max=100001}").number ≡ 42
unfolding read
one-too-many = refl

unit-first : (read "profile=1,unit=um,plate{max=1}").number ≡ 40
unfolding read
unit-first = refl

no-unit : (read "profile=2,unit=null,plate{min=\"1 mm\",max=\"1 mm\"}").number ≡ 40
unfolding read
no-unit = refl

above : (read "profile=1,unit=mm,plate{min=2,max=1}").number ≡ 43
unfolding read
above = refl
