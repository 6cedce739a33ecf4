-- What a tree answers after a path of it was given another answer (`set_at`): that path, those apart from it, and those above it.
use Rattle.std.proofs.Math.Path.{◌≡◌, refl, sym, ap}
use Rattle.std.proofs.Common.{◌∙◌}
use mathlib.Core.List.{List, [], ◌∷◌, ◌++◌}
use Rattle.std.specs.Prelude.{Bool}
use Rattle.std.proofs.Math.Bool.{true, false}
use Rattle.std.proofs.Math.Option.{none, some}
use Rattle.answers.specs.Theory.Sound.{clash}
use Rattle.rules.specs.Bytes.{Text, same}
use Rattle.rules.specs.Values.{Value, scalar, array_of, object_of, Members, no-members, member, Answer}
use Rattle.rules.specs.Layers.{made_member}
use Rattle.rules.specs.NamedValues.{member_of, member_in, value_at, Distinct, DistinctMembers, DistinctAnswer}
use Rattle.rules_tables.specs.Edits.{set_member, in_object, set_at, above}
use Rattle.theory.specs.Layout.{same-eq, same_refl}
use Rattle.theory.specs.DistinctKeys.{apart, member-here, member-past}

-- ---- paths in an answer

-- what a path names in an answer
abbrev pub inside : List Text → Answer → Answer
inside q none = none
inside q (some v) = value_at q v

pub inside-nil : (o : Answer) → inside [] o ≡ o
unfolding value_at
inside-nil none = refl
inside-nil (some v) = refl

pub named_in : (k : Text) (q : List Text) (ms : Members) → value_at (k ∷ q) (object_of ms) ≡ inside q (member_of k ms)
unfolding value_at member_in
named_in k q ms = go (member_of k ms)
  where
    go : (o : Answer) → ◌≡◌ {A = Answer} (elim o [ none ↦ none | some w ↦ value_at q w ]) (inside q o)
    go none = refl
    go (some w) = refl

pub named-behind : (p r : List Text) (o : Answer) → inside (p ++ r) o ≡ inside r (inside p o)
unfolding value_at member_in
named-behind [] r o = ap (inside r) (sym (inside-nil o))
named-behind (k ∷ p) r none = refl
named-behind (k ∷ p) r (some (scalar x)) = refl
named-behind (k ∷ p) r (some (array_of vs)) = refl
named-behind (k ∷ p) r (some (object_of ms)) =
    named_in k (p ++ r) ms ∙ named-behind p r (member_of k ms) ∙ ap (inside r) (sym (named_in k p ms))

-- a path's last element
unfoldable pub last_of : List Text → Text
last_of [] = []
last_of (k ∷ []) = k
last_of (k ∷ (j ∷ js)) = last_of (j ∷ js)

pub path-parts : (k : Text) (p : List Text) → above (k ∷ p) ++ (last_of (k ∷ p) ∷ []) ≡ k ∷ p
unfolding above last_of
path-parts k [] = refl
path-parts k (j ∷ p) = ap (λ q. k ∷ q) (path-parts j p)

-- neither path is a beginning of the other: "neither above it nor inside it"
abbrev pub Apart : (p q : List Text) → Type 0
Apart [] q = ⊥
Apart (k ∷ p) [] = ⊥
Apart (k ∷ p) (j ∷ q) = elim (same k j) as (λ _. Type 0) [ true ↦ Apart p q | false ↦ Unit {0} ]

-- ---- values without equal keys

pub member-distinct : (k : Text) (ms : Members) → DistinctMembers ms → DistinctAnswer (member_of k ms)
unfolding member_of
member-distinct k no-members d = tt
member-distinct k (member i v ms) d = go (same i k) (member-distinct k ms d.2)
  where
    go : (t : Bool) → DistinctAnswer (member_of k ms) → DistinctAnswer (elim t as (λ _. Answer) [ true ↦ some v | false ↦ member_of k ms ])
    go true ih = d.1
    go false ih = ih

pub named-distinct : (q : List Text) (o : Answer) → DistinctAnswer o → DistinctAnswer (inside q o)
unfolding value_at member_in
named-distinct [] o d = rw (inside-nil o) d
named-distinct (k ∷ q) none d = tt
named-distinct (k ∷ q) (some (scalar x)) d = tt
named-distinct (k ∷ q) (some (array_of vs)) d = tt
named-distinct (k ∷ q) (some (object_of ms)) d =
    rw (named_in k q ms) (named-distinct q (member_of k ms) (member-distinct k ms d))

-- ---- one object

module _ (k : Text) (change : Answer → Answer) where
  -- its member of the key
  pub own-member : (ms : Members) → DistinctMembers ms → member_of k (set_member k change ms) ≡ change (member_of k ms)
  unfolding set_member member_of
  own-member no-members d = go (change none)
    where
      go : (o : Answer) → member_of k (made_member k o no-members) ≡ o
      go none = refl
      go (some w) = member-here k k w no-members (same_refl k)
  own-member (member i v ms) d = go (same i k) refl (own-member ms d.2)
    where
      made : (o : Answer) → same i k ≡ true → member_of k (made_member i o ms) ≡ o
      made none e = rw (same-eq i k e) at d.0
      made (some w) e = member-here k i w ms e

      go : (t : Bool) → same i k ≡ t → member_of k (set_member k change ms) ≡ change (member_of k ms)
          → member_of k (elim t as (λ _. Members) [ true ↦ made_member i (change (some v)) ms | false ↦ member i v (set_member k change ms) ])
          ≡ change (elim t as (λ _. Answer) [ true ↦ some v | false ↦ member_of k ms ])
      go true e ih = made (change (some v)) e
      go false e ih = member-past k i v (set_member k change ms) e ∙ ih

  -- its members of other keys
  pub other-member : (j : Text) (ms : Members) → same k j ≡ false → member_of j (set_member k change ms) ≡ member_of j ms
  unfolding set_member member_of
  other-member j no-members h = go (change none)
    where
      go : (o : Answer) → member_of j (made_member k o no-members) ≡ none
      go none = refl
      go (some w) = member-past j k w no-members h
  other-member j (member i v ms) h = go (same i k) refl (other-member j ms h)
    where
      made : (o : Answer) → same i j ≡ false → member_of j (made_member i o ms) ≡ member_of j (member i v ms)
      made none e = sym (member-past j i v ms e)
      made (some w) e = member-past j i w ms e ∙ sym (member-past j i v ms e)

      under : (t : Bool) → member_of j (set_member k change ms) ≡ member_of j ms
          → ◌≡◌ {A = Answer} (elim t [ true ↦ some v | false ↦ member_of j (set_member k change ms) ])
          (elim t [ true ↦ some v | false ↦ member_of j ms ])
      under true ih = refl
      under false ih = ih

      go : (t : Bool) → same i k ≡ t → member_of j (set_member k change ms) ≡ member_of j ms
          → member_of j (elim t as (λ _. Members) [ true ↦ made_member i (change (some v)) ms | false ↦ member i v (set_member k change ms) ])
          ≡ member_of j (member i v ms)
      go true e ih = made (change (some v)) (rw (same-eq i k e) h)
      go false e ih = under (same i j) ih

  pub set-member-distinct : ((o : Answer) → DistinctAnswer o → DistinctAnswer (change o)) → (ms : Members) → DistinctMembers ms
      → DistinctMembers (set_member k change ms)
  unfolding set_member member_of
  set-member-distinct h no-members d = go (change none) (h none tt)
    where
      go : (o : Answer) → DistinctAnswer o → DistinctMembers (made_member k o no-members)
      go none e = tt
      go (some w) e = (refl, e, tt)
  set-member-distinct h (member i v ms) d = go (same i k) refl (set-member-distinct h ms d.2)
    where
      made : (o : Answer) → DistinctAnswer o → DistinctMembers (made_member i o ms)
      made none e = d.2
      made (some w) e = (d.0, e, d.2)

      go : (t : Bool) → same i k ≡ t → DistinctMembers (set_member k change ms)
          → DistinctMembers (elim t as
          (λ _. Members) [ true ↦ made_member i (change (some v)) ms | false ↦ member i v (set_member k change ms) ])
      go true e ih = made (change (some v)) (h (some v) d.1)
      go false e ih = (other-member i ms (apart i k e) ∙ d.0, d.1, ih)

-- an object less its members of a key
unfoldable pub without : Text → Members → Members
unfolding same
without k no-members = no-members
without k (member i v ms) = elim (same i k) [ true ↦ without k ms | false ↦ member i v (without k ms) ]

pub others-stay : (k : Text) (change : Answer → Answer) (ms : Members) → without k (set_member k change ms) ≡ without k ms
unfolding set_member without
others-stay k change no-members = go (change none)
  where
    go : (o : Answer) → without k (made_member k o no-members) ≡ no-members
    go none = refl
    go (some w) = rw (without, same_refl k) refl
others-stay k change (member i v ms) = go (same i k) refl (others-stay k change ms)
  where
    made : (o : Answer) → same i k ≡ true → without k (made_member i o ms) ≡ without k ms
    made none e = refl
    made (some w) e = rw (without, e) refl

    go : (t : Bool) → same i k ≡ t → without k (set_member k change ms) ≡ without k ms
        → without k (elim t as (λ _. Members) [ true ↦ made_member i (change (some v)) ms | false ↦ member i v (set_member k change ms) ])
        ≡ elim t as (λ _. Members) [ true ↦ without k ms | false ↦ member i v (without k ms) ]
    go true e ih = made (change (some v)) e
    go false e ih = rw (without, e) (ap (member i v) ih)

-- an object's keys, in order
unfoldable pub keys_of : Members → List Text
keys_of no-members = []
keys_of (member k v ms) = k ∷ keys_of ms

module _ (k : Text) (change : Answer → Answer) where
  -- a member that is changed stays in its place
  pub keys-same : (ms : Members) (v w : Value) → member_of k ms ≡ some v → change (some v) ≡ some w → keys_of (set_member k change ms) ≡ keys_of ms
  unfolding set_member member_of keys_of
  keys-same no-members v w m c = clash (cc)
  keys-same (member i u ms) v w m c = go (same i k) m (λ e. keys-same ms v w e c)
    where
      made : (o : Answer) → o ≡ some w → keys_of (made_member i o ms) ≡ i ∷ keys_of ms
      made none e = clash (cc)
      made (some z) e = refl

      go : (t : Bool) → ◌≡◌ {A = Answer} (elim t [ true ↦ some u | false ↦ member_of k ms ]) (some v)
          → (member_of k ms ≡ some v → keys_of (set_member k change ms) ≡ keys_of ms)
          → keys_of (elim t as (λ _. Members) [ true ↦ made_member i (change (some u)) ms | false ↦ member i u (set_member k change ms) ])
          ≡ i ∷ keys_of ms
      go true e ih = let z : u ≡ v = cc in made (change (some u)) (ap (λ (y : Value). change (some y)) z ∙ c)
      go false e ih = ap (λ (js : List Text). i ∷ js) (ih e)

  -- and a new one goes last
  pub keys-more : (ms : Members) (w : Value) → member_of k ms ≡ none → change none ≡ some w
      → keys_of (set_member k change ms) ≡ keys_of ms ++ (k ∷ [])
  unfolding set_member member_of keys_of
  keys-more no-members w m c = made (change none) c
    where
      made : (o : Answer) → o ≡ some w → keys_of (made_member k o no-members) ≡ k ∷ []
      made none e = clash (cc)
      made (some z) e = refl
  keys-more (member i u ms) w m c = go (same i k) m (λ e. keys-more ms w e c)
    where
      go : (t : Bool) → ◌≡◌ {A = Answer} (elim t [ true ↦ some u | false ↦ member_of k ms ]) none
          → (member_of k ms ≡ none → keys_of (set_member k change ms) ≡ keys_of ms ++ (k ∷ []))
          → keys_of (elim t as (λ _. Members) [ true ↦ made_member i (change (some u)) ms | false ↦ member i u (set_member k change ms) ])
          ≡ i ∷ (keys_of ms ++ (k ∷ []))
      go true e ih = clash (cc)
      go false e ih = ap (λ (js : List Text). i ∷ js) (ih e)

-- Two objects differ only at a key: all members of other keys are the same, in the same order; one of that key stays in its place, and a
-- new
-- one is the last.
pub record OnlyAt (k : Text) (ms ns : Members) : Type 0 where
  pub others : without k ns ≡ without k ms
  pub in_place : (v w : Value) → member_of k ms ≡ some v → member_of k ns ≡ some w → keys_of ns ≡ keys_of ms
  pub last : (w : Value) → member_of k ms ≡ none → member_of k ns ≡ some w → keys_of ns ≡ keys_of ms ++ (k ∷ [])

-- That an edit makes such a difference is shown in proofs/Edits.antt.

-- ---- along a path

module _ (new : Answer) where
  -- "every path that is neither above it nor inside it names the same tree as before"
  pub set_apart : (p q : List Text) (o : Answer) → DistinctAnswer o → Apart p q → inside q (set_at p new o) ≡ inside q o
  unfolding set_at in_object value_at member_in
  set_apart [] q o d a = absurd a
  set_apart (k ∷ p) [] o d a = absurd a
  set_apart (k ∷ p) (j ∷ q) none d a = refl
  set_apart (k ∷ p) (j ∷ q) (some (scalar x)) d a = refl
  set_apart (k ∷ p) (j ∷ q) (some (array_of vs)) d a = refl
  set_apart (k ∷ p) (j ∷ q) (some (object_of ms)) d a =
      named_in j q (set_member k (set_at p new) ms)
      ∙ go (same k j) refl a (set_apart p q (member_of k ms) (member-distinct k ms d)) ∙ sym (named_in j q ms)
    where
      go : (t : Bool) → same k j ≡ t → elim t as (λ _. Type 0) [ true ↦ Apart p q | false ↦ Unit {0} ]
          → (Apart p q → inside q (set_at p new (member_of k ms)) ≡ inside q (member_of k ms))
          → inside q (member_of j (set_member k (set_at p new) ms)) ≡ inside q (member_of j ms)
      go true e b ih = rw (← same-eq k j e) (ap (inside q) (own-member k (set_at p new) ms d) ∙ ih b)
      go false e b ih = ap (inside q) (other-member k (set_at p new) j ms e)

  -- a value above is changed by the rest of the path
  pub set-above : (q : List Text) (k : Text) (r : List Text) (o : Answer) → DistinctAnswer o
      → inside q (set_at (q ++ (k ∷ r)) new o) ≡ set_at (k ∷ r) new (inside q o)
  unfolding set_at in_object value_at member_in
  set-above [] k r o d = inside-nil (set_at (k ∷ r) new o) ∙ ap (set_at (k ∷ r) new) (sym (inside-nil o))
  set-above (j ∷ q) k r none d = refl
  set-above (j ∷ q) k r (some (scalar x)) d = refl
  set-above (j ∷ q) k r (some (array_of vs)) d = refl
  set-above (j ∷ q) k r (some (object_of ms)) d =
      let rest = q ++ (k ∷ r) in
      named_in j q (set_member j (set_at rest new) ms) ∙ ap (inside q) (own-member j (set_at rest new) ms d)
      ∙ set-above q k r (member_of j ms) (member-distinct j ms d) ∙ ap (set_at (k ∷ r) new) (sym (named_in j q ms))

  -- "the edited path answers as the edit says"
  pub set-answers : (k : Text) (p : List Text) (v : Value) (ms : Members) → Distinct v → value_at (above (k ∷ p)) v ≡ some (object_of ms)
      → inside (k ∷ p) (set_at (k ∷ p) new (some v)) ≡ new
  unfolding set_at in_object value_at member_in
  set-answers k p v ms d h =
      let q = above (k ∷ p) in
      let j = last_of (k ∷ p) in
      let named : DistinctAnswer (some (object_of ms)) = rw h at (named-distinct q (some v) d) in
      ap (λ z. inside z (set_at z new (some v))) (sym (path-parts k p)) ∙ named-behind q (j ∷ []) (set_at (q ++ (j ∷ [])) new (some v))
      ∙ ap (inside (j ∷ [])) (set-above q j [] (some v) d ∙ ap (set_at (j ∷ []) new) h)
      ∙ named_in j [] (set_member j (set_at [] new) ms) ∙ ap (inside []) (own-member j (set_at [] new) ms named) ∙ inside-nil new

  pub set-distinct : DistinctAnswer new → (p : List Text) (o : Answer) → DistinctAnswer o → DistinctAnswer (set_at p new o)
  unfolding set_at in_object
  set-distinct n [] o d = n
  set-distinct n (k ∷ p) none d = tt
  set-distinct n (k ∷ p) (some (scalar x)) d = tt
  set-distinct n (k ∷ p) (some (array_of vs)) d = d
  set-distinct n (k ∷ p) (some (object_of ms)) d = set-member-distinct k (set_at p new) (set-distinct n p) ms d

-- what a path names stands in an object
pub parent-object : (k : Text) (p : List Text) (v w : Value) → value_at (k ∷ p) v ≡ some w
    → (ms : Members) × (value_at (above (k ∷ p)) v ≡ some (object_of ms))
unfolding value_at member_in
parent-object k p v w h =
    let q = above (k ∷ p) in
    let j = last_of (k ∷ p) in
    go (value_at q v) refl (sym (named-behind q (j ∷ []) (some v)) ∙ ap (λ z. value_at z v) (path-parts k p) ∙ h)
  where
    go : (o : Answer) → value_at (above (k ∷ p)) v ≡ o → inside (last_of (k ∷ p) ∷ []) o ≡ some w
        → (ms : Members) × (value_at (above (k ∷ p)) v ≡ some (object_of ms))
    go none e f = clash (cc)
    go (some (scalar x)) e f = clash (cc)
    go (some (array_of vs)) e f = clash (cc)
    go (some (object_of ms)) e f = (ms, e)
