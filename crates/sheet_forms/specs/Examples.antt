-- The records of { k: 12, l: [null, "xy"] } as kept, one by one.
use Rattle.std.specs.Prelude.{◌≡◌, refl}
use Rattle.sheet_kept.specs.Examples.{as_kept}
use Rattle.sheet_forms.specs.Model.{end_c, members_c, record_c}
use Rattle.sheet_forms.specs.declared.Form.{Form}
use Rattle.sheet_forms.specs.declared.Record.{Record}

-- the object has two members, and 24 bytes of them
object-head : record_c Form.Public as_kept 27 0 256 ≡ Record.Three 7 0 2
unfolding record_c members_c
object-head = refl

object-kept : record_c Form.Kept as_kept 27 0 256 ≡ Record.Three 7 0 24
unfolding record_c
object-kept = refl

-- its second member, an array, ends with it
array-end : end_c as_kept 18 ≡ 27
unfolding end_c
array-end = refl

-- the key with the number 260: kept so, and public with its text's offset
key-kept : record_c Form.Kept as_kept 27 13 259 ≡ Record.Five 8 1 4 0 1
unfolding record_c
key-kept = refl

key-public : record_c Form.Public as_kept 27 13 259 ≡ Record.Five 8 1 3 0 1
unfolding record_c
key-public = refl

null-is-one-byte : record_c Form.Public as_kept 27 21 260 ≡ Record.One 1
unfolding record_c
null-is-one-byte = refl

-- a record that is cut short is none
cut_short : record_c Form.Public as_kept 26 22 260 ≡ Record.End
unfolding record_c
cut_short = refl
