-- Two finished objects, merged as values, are what the rules make of them as layers: keys in order of first appearance, the lower object's
-- first, and of a key that both have the upper value, merged with the lower one where both are objects.
use Rattle.std.specs.Prelude.{◌≡◌, Bool}
use Rattle.std.proofs.Math.Path.{refl, ap}
use Rattle.std.proofs.Common.{sym, ◌∙◌, arith}
use Prim.Native.Nat.{ℕ, zero, suc, ◌≤◌, ◌<◌}
use mathlib.Core.List.{List, [], ◌∷◌, ◌++◌, append_assoc, append-nil}
use Rattle.std.proofs.Math.Bool.{true, false}
use Rattle.std.proofs.Math.Option.{Option, none, some}
use Rattle.answers.specs.Ask.{value}
use Rattle.answers.specs.Theory.Sound.{clash}
use Rattle.rules.specs.Bytes.{Text, same}
use Rattle.rules.specs.Values.{Value, scalar, array_of, object_of, Members, no-members, member, Answer, nesting_of, deepest_member}
use Rattle.rules.specs.Values.{put_member, merge_over, merge_members}
use Rattle.rules.specs.Layers.{settled, has_key, add_key, member_keys}
use Rattle.theory.specs.Layout.{same-eq, same_refl}
use Rattle.rules.specs.NamedValues.{member_of, Distinct, DistinctMembers}
use Rattle.rules.specs.Settled.{no, Settled, Given, push, member_in, deeper_of, members_in, value_in}
use Rattle.theory.specs.DistinctKeys.{apart, member-here, member-past, put-past, merge-distinct}
use Rattle.theory.specs.DistinctAnswers.{key-last}

-- ---- keys

keys_of : Members → List Text
keys_of no-members = []
keys_of (member k v ms) = k ∷ keys_of ms

twin : (a b : Text) → same a b ≡ true → same b a ≡ true
twin a b e = rw (same-eq a b e) (same_refl b)

-- a member put in, as its key is added
add-put : (k : Text) (new : Answer → Value) (ms : Members) → add_key k (keys_of ms) ≡ keys_of (put_member k new ms)
unfolding add_key has_key keys_of put_member
add-put k new no-members = refl
add-put k new (member j v ms) = go (same j k) refl (add-put k new ms)
  where
    go : (t : Bool) → same j k ≡ t → add_key k (keys_of ms) ≡ keys_of (put_member k new ms)
        → add_key k (j ∷ keys_of ms)
        ≡ keys_of (elim t as (λ _. Members) [ true ↦ member j (new (some v)) ms | false ↦ member j v (put_member k new ms) ])
    go true h ih = rw (add_key, has_key, twin j k h)
    go false h ih = rw (add_key, has_key, apart j k h) (next (has_key k (keys_of ms)) ih)
      where
        next : (t : Bool) → elim t as (λ _. List Text) [ true ↦ keys_of ms | false ↦ keys_of ms ++ (k ∷ []) ] ≡ keys_of (put_member k new ms)
            → elim t as (λ _. List Text) [ true ↦ j ∷ keys_of ms | false ↦ j ∷ (keys_of ms ++ (k ∷ [])) ] ≡ j ∷ keys_of (put_member k new ms)
        next true ih = ap (λ l. j ∷ l) ih
        next false ih = ap (λ l. j ∷ l) ih

merged-keys : (ns ms : Members) → member_keys ns (keys_of ms) ≡ keys_of (merge_members ns ms)
unfolding member_keys merge_over
merged-keys no-members ms = refl
merged-keys (member k v ns) ms =
    rw (add-put k (λ old. merge_over v old) ms) (merged-keys ns (put_member k (λ old. merge_over v old) ms))

-- a key that is among the members and one that is not
not_first : (j k : Text) (ms : Members) (v : Value) → member_of k ms ≡ none → member_of j ms ≡ some v → same k j ≡ false
not_first j k ms v e f = go (same k j) refl
  where
    go : (t : Bool) → same k j ≡ t → t ≡ false
    go true h = clash (cc (same-eq k j h))
    go false h = refl

own_keys : (ms : Members) (ks : List Text) → DistinctMembers ms → ((j : Text) (v : Value) → member_of j ms ≡ some v → has_key j ks ≡ false)
    → member_keys ms ks ≡ ks ++ keys_of ms
unfolding member_keys keys_of add_key
own_keys no-members ks d new = sym (append-nil ks)
own_keys (member k v ms) ks d new =
    let here : add_key k ks ≡ ks ++ (k ∷ []) = rw (add_key, new k v (member-here k k v ms (same_refl k))) in
    rw here (own_keys ms (ks ++ (k ∷ [])) d.2 later ∙ append_assoc ks (k ∷ []) (keys_of ms))
  where
    later : (j : Text) (u : Value) → member_of j ms ≡ some u → has_key j (ks ++ (k ∷ [])) ≡ false
    later j u e =
        let f = not_first j k ms u d.0 e in
        key-last j k ks (new j u (member-past j k v ms f ∙ e)) (apart k j f)

keys-alone : (ms : Members) → DistinctMembers ms → member_keys ms [] ≡ keys_of ms
unfolding has_key
keys-alone ms d = own_keys ms [] d (λ j v e. refl)

-- ---- the value of each key

put-here : (j k : Text) (new : Answer → Value) (ms : Members) → same k j ≡ true
    → member_of j (put_member k new ms) ≡ some (new (member_of j ms))
unfolding put_member member_of
put-here j k new no-members e = member-here j k (new none) no-members e
put-here j k new (member i v ms) e = go (same i k) refl (put-here j k new ms e)
  where
    go : (t : Bool) → same i k ≡ t → member_of j (put_member k new ms) ≡ some (new (member_of j ms))
        → member_of j (elim t as (λ _. Members) [ true ↦ member i (new (some v)) ms | false ↦ member i v (put_member k new ms) ])
        ≡ some (new (member_of j (member i v ms)))
    go true h ih =
        let f : same i j ≡ true = cc (same-eq i k h) in
        member-here j i (new (some v)) ms f ∙ ap (λ a. some (new a)) (sym (member-here j i v ms f))
    go false h ih =
        let f : same i j ≡ false = cc (same-eq k j e) in
        member-past j i v (put_member k new ms) f ∙ ih ∙ ap (λ a. some (new a)) (sym (member-past j i v ms f))

-- the upper one over the lower one, if there is an upper one
abbrev over_answer : Answer → Answer → Answer
over_answer none lower = lower
over_answer (some v) lower = some (merge_over v lower)

merged-member : (k : Text) (ns ms : Members) → DistinctMembers ns
    → member_of k (merge_members ns ms) ≡ over_answer (member_of k ns) (member_of k ms)
unfolding merge_over member_of
merged-member k no-members ms d = refl
merged-member k (member j v ns) ms d = go (same j k) refl (merged-member k ns (put_member j (λ old. merge_over v old) ms) d.2)
  where
    lower : Members
    lower = put_member j (λ old. merge_over v old) ms

    go : (t : Bool) → same j k ≡ t → member_of k (merge_members ns lower) ≡ over_answer (member_of k ns) (member_of k lower)
        → member_of k (merge_members ns lower) ≡ over_answer (member_of k (member j v ns)) (member_of k ms)
    go true h ih =
        let gone : member_of k ns ≡ none = cc (same-eq j k h, d.0) in
        rw (member-here k j v ns h) (ih ∙ rw gone (put-here k j (λ old. merge_over v old) ms h))
    go false h ih =
        rw (member-past k j v ns h) (ih ∙ ap (over_answer (member_of k ns)) (put-past k j (λ old. merge_over v old) ms h))

-- a member is distinct and nested less
member-distinct : (k : Text) (ms : Members) (v : Value) → DistinctMembers ms → member_of k ms ≡ some v
    → Distinct v × (nesting_of v ≤ deepest_member ms)
unfolding member_of nesting_of
member-distinct k no-members v d e = clash (cc)
member-distinct k (member j u ms) v d e = go (same j k) e (λ f. member-distinct k ms v d.2 f)
  where
    go : (t : Bool) → elim t as (λ _. Option Value) [ true ↦ some u | false ↦ member_of k ms ] ≡ some v
        → (member_of k ms ≡ some v → Distinct v × (nesting_of v ≤ deepest_member ms))
        → Distinct v × (nesting_of v ≤ deepest_member (member j u ms))
    go true h ih = let z : u ≡ v = cc in rw (← z) (d.1, omega arith)
    go false h ih = let p = ih h in (p.0, omega (arith, p.1))

-- ---- the layers

over_nothing : (v : Value) → merge_over v none ≡ v
unfolding merge_over
over_nothing (scalar x) = refl
over_nothing (array_of vs) = refl
over_nothing (object_of ms) = refl

abbrev push_member : Answer → Settled → Settled
push_member none w = w
push_member (some v) w = (settled v ∷ w.0, w.1)

module _ (known : ℕ → Option Answer) where
  member-pushed : (k : Text) (ms : Members) (w : Settled) → member_in known k ms w ≡ push_member (member_of k ms) w
  unfolding member_in member_of push
  member-pushed k no-members w = refl
  member-pushed k (member j v ms) w = go (same j k) (member-pushed k ms w)
    where
      go : (t : Bool) → member_in known k ms w ≡ push_member (member_of k ms) w
          → elim t as (λ _. Settled) [ true ↦ push (settled v) w | false ↦ member_in known k ms w ]
          ≡ push_member (elim t as (λ _. Option Value) [ true ↦ some v | false ↦ member_of k ms ]) w
      go true ih = refl
      go false ih = ih

  -- members taken by their keys, in turn
  rebuilt : (ev : Settled → Given Answer) (w : Settled) (rs : Members) → DistinctMembers rs
      → ((k : Text) (v : Value) → member_of k rs ≡ some v → ev (deeper_of known k w) ≡ value (some v))
      → members_in known ev w (keys_of rs) ≡ value rs
  unfolding members_in keys_of
  rebuilt ev w no-members d h = refl
  rebuilt ev w (member k v rs) d h =
      rw (h k v (member-here k k v rs (same_refl k)), rebuilt ev w rs d.2 later)
    where
      later : (j : Text) (u : Value) → member_of j rs ≡ some u → ev (deeper_of known j w) ≡ value (some u)
      later j u e = h j u (member-past j k v rs (not_first j k rs u d.0 e) ∙ e)

  -- one finished value
  pub one-by-layers : (depth : ℕ) (v : Value) → Distinct v → nesting_of v < depth → value_in known depth (settled v ∷ [], no) ≡ value (some v)
  unfolding value_in nesting_of
  one-by-layers zero v d l = absurd (omega arith)
  one-by-layers (suc depth) (scalar x) d l = refl
  one-by-layers (suc depth) (array_of vs) d l = refl
  one-by-layers (suc depth) (object_of ms) d l =
      rw (
        keys-alone ms d,
        rebuilt (value_in known depth) (settled (object_of ms) ∷ [], no) ms d (λ k v e.
            let m = member-distinct k ms v d e in
            rw (member-pushed k ms ([], no), e) (one-by-layers depth v m.0 (omega (arith, m.1)))),
      )

  -- one over another
  pub two-by-layers : (depth : ℕ) (u v : Value) → Distinct u → Distinct v → nesting_of u < depth → nesting_of v < depth
      → value_in known depth (settled u ∷ settled v ∷ [], no) ≡ value (some (merge_over u (some v)))
  unfolding value_in nesting_of merge_over
  two-by-layers zero u v d e l m = absurd (omega arith)
  two-by-layers (suc depth) (scalar x) v d e l m = refl
  two-by-layers (suc depth) (array_of us) v d e l m = refl
  two-by-layers (suc depth) (object_of ns) (scalar x) d e l m = one-by-layers (suc depth) (object_of ns) d l
  two-by-layers (suc depth) (object_of ns) (array_of vs) d e l m = one-by-layers (suc depth) (object_of ns) d l
  two-by-layers (suc depth) (object_of ns) (object_of ms) d e l m =
      rw (
        keys-alone ms e,
        merged-keys ns ms,
        rebuilt (value_in known depth) (settled (object_of ns) ∷ settled (object_of ms) ∷ [], no) (merge_members ns ms) (merge-distinct ns ms d e)
            (λ k v f. each k v (two-by-layers depth) (sym (merged-member k ns ms d) ∙ f)),
      )
    where
      each : (k : Text) (v : Value) → ((u w : Value) → Distinct u → Distinct w → nesting_of u < depth → nesting_of w < depth
          → value_in known depth (settled u ∷ settled w ∷ [], no) ≡ value (some (merge_over u (some w))))
          → over_answer (member_of k ns) (member_of k ms) ≡ some v
          → value_in known depth (member_in known k ns (member_in known k ms ([], no))) ≡ value (some v)
      each k v ih f =
          rw (member-pushed k ms ([], no), member-pushed k ns (push_member (member_of k ms) ([], no)))
          (go (member_of k ns) (member_of k ms) refl refl f)
        where
          go : (a b : Answer) → member_of k ns ≡ a → member_of k ms ≡ b → over_answer a b ≡ some v
              → value_in known depth (push_member a (push_member b ([], no))) ≡ value (some v)
          go none none h i z = clash (cc)
          go none (some w) h i z =
              let q = member-distinct k ms w e i in
              one-by-layers depth w q.0 (omega (arith, q.1)) ∙ ap value z
          go (some u) none h i z =
              let p = member-distinct k ns u d h in
              one-by-layers depth u p.0 (omega (arith, p.1)) ∙ ap value (ap some (sym (over_nothing u)) ∙ z)
          go (some u) (some w) h i z =
              let p = member-distinct k ns u d h in
              let q = member-distinct k ms w e i in
              ih u w p.0 q.0 (omega (arith, p.1)) (omega (arith, q.1)) ∙ ap value z

  -- two finished objects
  pub merged-by-layers : (depth : ℕ) (ns ms : Members) → DistinctMembers ns → DistinctMembers ms
      → nesting_of (object_of ns) < depth → nesting_of (object_of ms) < depth
      → value_in known depth (settled (object_of ns) ∷ settled (object_of ms) ∷ [], no) ≡ value (some (object_of (merge_members ns ms)))
  unfolding merge_over
  merged-by-layers depth ns ms d e l m = two-by-layers depth (object_of ns) (object_of ms) d e l m
