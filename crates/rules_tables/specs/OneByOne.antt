-- One case for each wrong definition that must-fail tries, small enough that no other one of its file changes it.
use Rattle.std.specs.Prelude.{◌≡◌, refl, [], ◌∷◌}
use Rattle.rules.specs.Tree.{null}
use Rattle.rules.specs.Values.{scalar}
use Rattle.rules.specs.Cases.{bytes, num, obj}
use Rattle.rules_tables.specs.SizedTables.{sized_records}
use Rattle.rules_tables.specs.Examples.{a1, a_list, edited_by, judged}

-- 16,505 bytes with the lengths, 9,903 without
lengths-left-out : judged 3300 ≡ 0
unfolding judged
lengths-left-out = refl

appended-last : (edited_by 3 a1 "b" (1 ∷ []) []).table ≡ sized_records 0 (obj (("a", num "1") ∷ ("b", scalar null) ∷ []))
unfolding edited_by a1 sized_records obj num
appended-last = refl

container-stays : (edited_by 1 a_list "a" (1 ∷ []) []).number ≡ 34
unfolding edited_by a_list
container-stays = refl

removed-text : (edited_by 2 (obj (("a", num "1") ∷ ("b", num "2") ∷ [])) "a" [] []).text ≡ bytes "b2"
unfolding edited_by obj num bytes
removed-text = refl
