-- In no object inside a value does a key stand twice. Joining and merging keep that.
use Rattle.std.specs.Prelude.{◌≡◌, refl, Bool, true, false}
use Rattle.std.proofs.Common.{◌∙◌}
use Rattle.std.proofs.Math.Option.{none, some}
use Rattle.answers.specs.Theory.Sound.{clash}
use Rattle.rules.specs.Bytes.{Text, same}
use Rattle.rules.specs.Values.{Value, scalar, array_of, object_of, Values, no-values, val, Members, no-members, member, Answer, join_values, put_member, merge_over, merge_members}
use Rattle.theory_text.specs.Choices.{by-test}
use Rattle.theory.specs.Layout.{same-eq, same_refl}
use Rattle.rules.specs.NamedValues.{member_of, Distinct, DistinctValues, DistinctMembers, DistinctAnswer}

-- ---- members by their keys

pub apart : (a b : Text) → same a b ≡ false → same b a ≡ false
apart a b e = go (same b a) refl
  where
    go : (t : Bool) → same b a ≡ t → t ≡ false
    go true h = clash (cc (same-eq b a h, same_refl a))
    go false h = refl

pub member-here : (j k : Text) (v : Value) (ms : Members) → same k j ≡ true → member_of j (member k v ms) ≡ some v
unfolding member_of
member-here j k v ms e = rw (e, member_of)

pub member-past : (j k : Text) (v : Value) (ms : Members) → same k j ≡ false → member_of j (member k v ms) ≡ member_of j ms
unfolding member_of
member-past j k v ms e = rw (e, member_of)

pub put-past : (j k : Text) (new : Answer → Value) (ms : Members) → same k j ≡ false → member_of j (put_member k new ms) ≡ member_of j ms
unfolding put_member
put-past j k new no-members e = member-past j k (new none) no-members e
put-past j k new (member i v ms) e = go (same i k) refl (put-past j k new ms e)
  where
    go : (t : Bool) → same i k ≡ t → member_of j (put_member k new ms) ≡ member_of j ms
        → member_of j (elim t as (λ _. Members) [ true ↦ member i (new (some v)) ms | false ↦ member i v (put_member k new ms) ])
        ≡ member_of j (member i v ms)
    go true h ih =
        let f : same i j ≡ false = cc (same-eq i k h) in
        cc (member-past j i (new (some v)) ms f, member-past j i v ms f)
    go false h ih = next (same i j) refl
      where
        next : (t : Bool) → same i j ≡ t → member_of j (member i v (put_member k new ms)) ≡ member_of j (member i v ms)
        next true f = cc (member-here j i v (put_member k new ms) f, member-here j i v ms f)
        next false f = cc (member-past j i v (put_member k new ms) f, member-past j i v ms f)

-- ---- joined and merged values

pub join-distinct : (vs ws : Values) → DistinctValues vs → DistinctValues ws → DistinctValues (join_values vs ws)
unfolding join_values
join-distinct no-values ws d e = e
join-distinct (val v vs) ws d e = (d.0, join-distinct vs ws d.1 e)

pub put-distinct : (k : Text) (new : Answer → Value) → ((a : Answer) → DistinctAnswer a → Distinct (new a))
    → (ms : Members) → DistinctMembers ms → DistinctMembers (put_member k new ms)
unfolding put_member member_of
put-distinct k new f no-members d = (refl, f none tt, tt)
put-distinct k new f (member j v ms) d =
    by-test DistinctMembers (same j k) (λ e. (d.0, f (some v) d.1, d.2))
    (λ e. (put-past j k new ms (apart j k e) ∙ d.0, d.1, put-distinct k new f ms d.2))

mutual
  unfolding merge_over

  pub over-distinct : (v : Value) (a : Answer) → Distinct v → DistinctAnswer a → Distinct (merge_over v a)
  over-distinct (scalar x) a d e = d
  over-distinct (array_of vs) a d e = d
  over-distinct (object_of ms) none d e = d
  over-distinct (object_of ms) (some (scalar x)) d e = d
  over-distinct (object_of ms) (some (array_of vs)) d e = d
  over-distinct (object_of ms) (some (object_of ls)) d e = merge-distinct ms ls d e

  pub merge-distinct : (ns ms : Members) → DistinctMembers ns → DistinctMembers ms → DistinctMembers (merge_members ns ms)
  merge-distinct no-members ms d e = e
  merge-distinct (member k v ns) ms d e =
      merge-distinct ns (put_member k (λ old. merge_over v old) ms) d.2
      (put-distinct k (λ old. merge_over v old) (λ a f. over-distinct v a d.1 f) ms e)
