-- The members of an object that a number shows: by their numbers, each with its key's number and text.
use Rattle.std.specs.Prelude.{◌≡◌, Bool, false, ltb, leb, Some, None}
use Rattle.std.proofs.Math.Path.{refl, ap, subst}
use Rattle.std.proofs.Common.{◌∙◌}
use Prim.Native.Nat.{ℕ, zero, suc, ◌+◌, ◌*◌, ◌-◌, ◌%◌, ◌≤◌, ◌<◌}
use mathlib.Core.List.{List, [], ◌∷◌}
use Rattle.std.proofs.Math.Bool.{true}
use native.Mathlib.Omega.{arith}
use Rattle.std.proofs.Math.ListN.{get_or}
use borrow.Author.Tests.{ltb-true, ltb-false, leb-true, leb-false, lt-ltb, le-ltb, le-leb, lt-leb, eq-eqb, ne_eqb}
use Rattle.rules.specs.Sizes.{max_room}
use Rattle.rules.specs.Bytes.{Text}
use Rattle.rules.specs.Tree.{Node, simple, array, object, unresolved, Fields, no_fields, field}
use Rattle.rules.specs.Values.{Value, scalar, array_of, object_of, Members, no-members, member, record_size, member_record_sizes}
use Rattle.rules.specs.Layers.{Layer, written, settled}
use Rattle.rules.specs.Sheet.{pair_at}
use Rattle.rules.specs.NamedValues.{DistinctMembers}
use Rattle.sheet_kept.specs.Kept.{HeldFields, no_fields as none-held, field as held-field, named, named_fields}
use Rattle.doc_items.specs.Codes.{code_of, as_member}
use Rattle.doc_items.specs.Holds.{TextAt, Seams, FieldsAt, NodeAt}
use Rattle.doc_items.specs.Parts.{numbers, letters}
use Rattle.doc_items.specs.Room.{capacity}
use Rattle.eval_keys.specs.Columns.{keys_at, is_field}
use Rattle.eval_keys.specs.Documents.{text-is}
use Rattle.sheet_forms.specs.Model.{end_c}
use Rattle.eval_nodes.specs.Model.{View, span, item_view, record_view, view_at, item_member, record_member, member_at, key_number, record_key, key_at, members_n, members_of}
use Rattle.eval_nodes.specs.declared.Member.{Member}
use Rattle.eval_memory.specs.Keys.{KeyNumber, field-number, field-name}
use Rattle.eval_memory.specs.Finished.{Memory, Stored, SettledAt, MembersAt, settled-ends, first_member, scalar-first, array-first, object-stands}
use Rattle.eval_memory.specs.Tables.{Number, WrittenAt, RecordOf, Shows, KeyOf, as-member, kind-only, code-small, item-low}

module _ (M : Memory) where
  abbrev T : List ℕ
  T = M.table

  abbrev R : List ℕ
  R = M.records

  -- numbers of fields, in order
  abbrev pub FieldsListed : List ℕ → Fields → Type 0
  FieldsListed [] no_fields = Unit {0}
  FieldsListed [] (field k n fs) = ⊥
  FieldsListed (c ∷ cs) no_fields = ⊥
  FieldsListed (c ∷ cs) (field k n fs) = WrittenAt M n c × KeyOf M c k.text × FieldsListed cs fs

  -- numbers of a finished object's members, in order
  abbrev pub MembersListed : List ℕ → Members → Type 0
  MembersListed [] no-members = Unit {0}
  MembersListed [] (member k v ms) = ⊥
  MembersListed (c ∷ cs) no-members = ⊥
  MembersListed (c ∷ cs) (member k v ms) = RecordOf M v c × KeyOf M c k × MembersListed cs ms

  -- one more step of the walk
  module _ (n p e : ℕ) where
    members-end : e ≤ p → members_n n T R p e ≡ []
    unfolding members_n member_at
    members-end l = go n
      where
        go : (n : ℕ) → members_n n T R p e ≡ []
        go zero = refl
        go (suc n) = rw (members_n, member_at, le-leb e p l) refl

    members-skip : (q : ℕ) → member_at T R p e ≡ Member.Seam q → members_n (suc n) T R p e ≡ members_n n T R q e
    unfolding members_n
    members-skip q x = rw (members_n, x) refl

    members-one : (c q : ℕ) → member_at T R p e ≡ Member.At c q → members_n (suc n) T R p e ≡ c ∷ members_n n T R q e
    unfolding members_n
    members-one c q x = rw (members_n, x) refl

  module _ (p e : ℕ) (l : p < e) (u : e ≤ capacity) where
    pub member-skip : 16 ≤ get_or T (8 * p) 0 → member_at T R p e ≡ Member.Seam (p + 1)
    unfolding member_at item_member
    member-skip k = rw (member_at, lt-leb e p l, lt-ltb p capacity (omega arith), item_member, le-leb 16 (get_or T (8 * p) 0) k) refl

    pub member-one : get_or T (8 * p) 0 < 16 → 1 ≤ get_or T (8 * p + 1) 0 → member_at T R p e ≡ Member.At p (p + get_or T (8 * p + 1) 0)
    unfolding member_at item_member
    member-one k z =
        rw (
          member_at,
          lt-leb e p l,
          lt-ltb p capacity (omega arith),
          item_member,
          lt-leb 16 (get_or T (8 * p) 0) k,
          ne_eqb (get_or T (8 * p + 1) 0) 0 (λ q. omega arith),
        ) refl

  pub member-small : (n : Node) (c : ℕ) → NodeAt (numbers T) (letters 0 M.bytes) 0 M.ends (Number M) 0 c n → get_or T (8 * c) 0 < 16
  member-small (simple x) c s = omega (arith, s.0, code-small x)
  member-small (array es) c s = omega (arith, s.0)
  member-small (object fs) c s = omega (arith, s.0)
  member-small (unresolved b ps) c s = omega (arith, s.0)

  abbrev SeamsIn : ℕ → ℕ → Type 0
  SeamsIn i j = Seams (numbers T) (letters 0 M.bytes) 0 M.ends (Number M) i j

  abbrev pub FieldsIn : ℕ → ℕ → Fields → Type 0
  FieldsIn i j fs = FieldsAt (numbers T) (letters 0 M.bytes) 0 M.ends (Number M) i j fs

  less-seams : (i j : ℕ) → i < j → SeamsIn i j → SeamsIn (i + 1) j
  less-seams i j l s = (omega arith, λ k a b. s.1 k (omega arith) b)

  -- the first item is a seam or the first field
  next-seam : (fs : Fields) (p e : ℕ) → p < e → 16 ≤ get_or T (8 * p) 0 → FieldsIn p e fs → FieldsIn (p + 1) e fs
  next-seam no_fields p e l k s = less-seams p e l s
  next-seam (field key n fs) p e l k s =
      let j = s.0 in
      (j, less-seams p j (go (ltb p j) refl (member-small n j s.5)) s.1, s.2, s.3, s.4, s.5, s.6)
    where
      go : (t : Bool) → ltb p s.0 ≡ t → get_or T (8 * s.0) 0 < 16 → p < s.0
      go true q a = ltb-true p s.0 q
      go false q a =
          let z : p ≡ s.0 = omega (arith, ltb-false p s.0 q, s.1.0) in
          let k' : 16 ≤ get_or T (8 * s.0) 0 = subst (λ (i : ℕ). 16 ≤ get_or T (8 * i) 0) z k in
          absurd (omega arith)

  module _ (S : Stored M) where
    key-held : (k : ℕ) → KeyNumber T M.items k → key_number k ≡ k
    unfolding key_number
    key-held k K = rw (key_number, lt-ltb k capacity (omega (arith, K.high, S.few))) refl

    -- a field's key
    item-key : (c : ℕ) (t : Text) → 1 ≤ c → c < M.items → get_or T (8 * c) 0 < 16
        → TextAt (letters 0 M.bytes) 0 M.ends (get_or T (8 * c + 2) 0) (get_or T (8 * c + 3) 0) t → KeyOf M c t
    unfolding key_at
    item-key c t l h k x =
        let f : is_field T c ≡ true = lt-ltb (get_or T (8 * c) 0) 16 k in
        let K = field-number S.numbered S.names c l f h in
        let e : key_at T R c ≡ get_or T (keys_at + c) 0 =
        rw (key_at, lt-ltb c capacity (omega (arith, S.few))) (key-held (get_or T (keys_at + c) 0) K) in
        record {
          number = rw e K;
          text = ap M.key e ∙ field-name S.numbered S.names c l f h ∙ text-is M.bytes S.document x;
        }

    module _ (e : ℕ) (u : e ≤ M.items) where
      no_more : (n p : ℕ) (fs : Fields) → e ≤ p → FieldsIn p e fs → FieldsListed (members_n n T R p e) fs
      no_more n p no_fields l s = rw (members-end n p e l) tt
      no_more n p (field key m fs) l s = absurd (omega (arith, s.1.0, s.2.0, s.2.1))

      first_field : (n p : ℕ) (fs : Fields) → 1 ≤ p → p < e → get_or T (8 * p) 0 < 16 → FieldsIn p e fs
          → ((q : ℕ) (gs : Fields) → p < q → FieldsIn q e gs → FieldsListed (members_n n T R q e) gs) → FieldsListed (members_n (suc n) T R p e) fs
      first_field n p no_fields o l k s ih = let z = s.1 p (omega arith) l in absurd (omega arith)
      first_field n p (field key m fs) o l k s ih = rw (there (ltb p j) refl) here
        where
          j : ℕ
          j = s.0

          size : ℕ
          size = get_or T (8 * j + 1) 0

          small : get_or T (8 * j) 0 < 16
          small = member-small m j s.5

          there : (t : Bool) → ltb p j ≡ t → p ≡ j
          there true q = let z = s.1.1 p (omega arith) (ltb-true p j q) in absurd (omega arith)
          there false q = omega (arith, ltb-false p j q, s.1.0)

          here : FieldsListed (members_n (suc n) T R j e) (field key m fs)
          here =
              let low : p ≤ j = s.1.0 in
              let some : 1 ≤ size = s.2.0 in
              let inside : j + size ≤ e = s.2.1 in
              let f = S.few in
              rw (members-one n j e j (j + size) (member-one j e (omega arith) (omega arith) small some)) (
                record { sized = some; inside = omega arith; role = as_member; roles = as-member m; node = s.5 },
                item-key j key.text (omega arith) (omega arith) small s.3,
                ih (j + size) fs (omega arith) s.6,
              )

      -- the fields that stand from p up to e are listed, with whatever steps are enough
      pub fields-listed : (fuel p : ℕ) (fs : Fields) → 1 ≤ p → e ≤ p + fuel → FieldsIn p e fs → FieldsListed (members_n fuel T R p e) fs
      fields-listed zero p fs o f s = no_more zero p fs (omega arith) s
      fields-listed (suc n) p fs o f s = step (leb e p) refl (λ q gs l x. fields-listed n q gs (omega arith) (omega arith) x)
        where
          step : (t : Bool) → leb e p ≡ t → ((q : ℕ) (gs : Fields) → p < q → FieldsIn q e gs → FieldsListed (members_n n T R q e) gs)
              → FieldsListed (members_n (suc n) T R p e) fs
          step true q ih = no_more (suc n) p fs (leb-true e p q) s
          step false q ih = by (leb 16 (get_or T (8 * p) 0)) refl
            where
              l : p < e
              l = leb-false e p q

              by : (t : Bool) → leb 16 (get_or T (8 * p) 0) ≡ t → FieldsListed (members_n (suc n) T R p e) fs
              by true z =
                  let k = leb-true 16 (get_or T (8 * p) 0) z in
                  rw (members-skip n p e (p + 1) (member-skip p e l (omega (arith, S.few)) k)) (ih (p + 1) fs (omega arith) (next-seam fs p e l k s))
              by false z = first_field n p fs o l (leb-false 16 (get_or T (8 * p) 0) z) s ih

    -- ---- records

    module _ (p o e : ℕ) (h : p ≡ capacity + o) (l : p < e) (v : Value) (s : SettledAt M v (o + 5)) where
      member-record : member_at T R p e ≡ Member.At (capacity + (o + 5)) (capacity + (o + 5 + record_size v))
      unfolding member_at record_member
      member-record =
          let z : p - capacity ≡ o = omega arith in
          rw (
            member_at,
            lt-leb e p l,
            le-ltb p capacity (omega arith),
            z,
            le-leb o max_room (omega (arith, s.inside)),
            record_member,
            settled-ends M S s,
          ) refl

    -- a member's key
    record-key : (c o k : ℕ) → c ≡ capacity + (o + 5) → o + 5 ≤ max_room → pair_at R (o + 1) ≡ k → KeyNumber T M.items k → KeyOf M c (M.key k)
    unfolding key_at record_key
    record-key c o k h u x K =
        let z : c - capacity ≡ o + 5 = omega arith in
        let a : o + 5 - 4 ≡ o + 1 = omega arith in
        let e : key_at T R c ≡ k =
        rw (key_at, le-ltb c capacity (omega arith), z, record_key, le-ltb (o + 5) 5 (omega arith), le-ltb max_room (o + 5) u, a, x) (key-held k K) in
        record { number = rw e K; text = ap M.key e }

    -- the members whose records stand from p up to e are listed
    pub members-listed : (fuel p e o : ℕ) (ms : HeldFields) → e ≤ p + fuel → p ≡ capacity + o
        → e ≡ capacity + (o + member_record_sizes (named_fields M.key ms)) → MembersAt M ms o → MembersListed (members_n fuel T R p e) (named_fields M.key ms)
    unfolding record_size named
    members-listed fuel p e o none-held f h i s = rw (members-end fuel p e (omega arith)) tt
    members-listed zero p e o (held-field k v ms) f h i s = absurd (omega arith)
    members-listed (suc n) p e o (held-field k v ms) f h i s =
        let x = first_member M S k v ms o s in
        let c = capacity + (o + 5) in
        let next = o + 5 + record_size (named M.key v) in
        rw (members-one n p e c (capacity + next) (member-record p o e h (omega arith) (named M.key v) x.value)) (
          (o + 5, refl, x.value),
          record-key c o k refl (omega (arith, s.inside)) x.read x.number,
          members-listed n (capacity + next) e next ms (omega arith) refl (omega arith) x.others,
        )

  -- ---- an object, or any other layer

  module _ (c : ℕ) (l : c < capacity) where
    item-object : get_or T (8 * c) 0 % 16 ≡ 7 → view_at T R c ≡ Some (span (c + 1) (c + get_or T (8 * c + 1) 0))
    unfolding view_at item_view
    item-object k = rw (view_at, lt-ltb c capacity l, item_view, eq-eqb (get_or T (8 * c) 0 % 16) 7 k) refl

    item-other : (get_or T (8 * c) 0 % 16 ≡ 7 → ⊥) → view_at T R c ≡ None
    unfolding view_at item_view
    item-other k = rw (view_at, lt-ltb c capacity l, item_view, ne_eqb (get_or T (8 * c) 0 % 16) 7 k) refl

  module _ (c o : ℕ) (h : c ≡ capacity + o) (l : o ≤ max_room) where
    record-other : (get_or R o 0 ≡ 7 → ⊥) → view_at T R c ≡ None
    unfolding view_at record_view
    record-other k =
        let z : c - capacity ≡ o = omega arith in
        rw (view_at, le-ltb c capacity (omega arith), z, le-leb o max_room l, record_view, ne_eqb (get_or R o 0) 7 k) (refl {A = View} {a = None})

    record-object : (e : ℕ) → get_or R o 0 ≡ 7 → end_c R o ≡ e
        → view_at T R c ≡ Some (span (capacity + (o + 3)) (capacity + e))
    unfolding view_at record_view
    record-object e k f =
        let z : c - capacity ≡ o = omega arith in
        rw (view_at, le-ltb c capacity (omega arith), z, le-leb o max_room l, record_view, eq-eqb (get_or R o 0) 7 k, f) refl

  -- what an item or a record is, by the layer that it shows
  abbrev pub Viewed : View → Layer → Type 0
  Viewed None (settled (scalar x)) = Unit {0}
  Viewed None (settled (array_of vs)) = Unit {0}
  Viewed None (settled (object_of ms)) = ⊥
  Viewed None (written (simple x)) = Unit {0}
  Viewed None (written (array es)) = Unit {0}
  Viewed None (written (object fs)) = ⊥
  Viewed None (written (unresolved b ps)) = ⊥
  Viewed (Some m) (settled (scalar x)) = ⊥
  Viewed (Some m) (settled (array_of vs)) = ⊥
  Viewed (Some m) (settled (object_of ms)) = MembersListed (members_of T R m.first m.end) ms × DistinctMembers ms
  Viewed (Some m) (written (simple x)) = ⊥
  Viewed (Some m) (written (array es)) = ⊥
  Viewed (Some m) (written (object fs)) = FieldsListed (members_of T R m.first m.end) fs
  Viewed (Some m) (written (unresolved b ps)) = ⊥

  module _ (S : Stored M) where
    -- the members of a finished object
    object-listed : (o : ℕ) (ms : Members) → SettledAt M (object_of ms) o
        → MembersListed (members_of T R (capacity + (o + 3)) (capacity + (o + record_size (object_of ms)))) ms
    unfolding members_of record_size
    object-listed o ms s =
        let x = object-stands M S ms o s in
        let p = capacity + (o + 3) in
        let e = capacity + (o + record_size (object_of ms)) in
        let z : member_record_sizes (named_fields M.key x.fields) ≡ member_record_sizes ms = ap member_record_sizes x.is in
        subst (λ (q : Members). MembersListed (members_n (e - p) T R p e) q) x.is
        (members-listed S (e - p) p e (o + 3) x.fields (omega arith) refl (omega arith) x.members)

    -- the numbers of an object's members are listed
    pub viewed : (c : ℕ) (l : Layer) → Shows M c l → Viewed (view_at T R c) l
    unfolding members_of record_size
    viewed c (settled (scalar x)) (o, h, s) =
        rw (record-other c o h (omega (arith, s.inside)) (λ e. omega (arith, scalar-first M S x o s))) tt
    viewed c (settled (array_of vs)) (o, h, s) =
        rw (record-other c o h (omega (arith, s.inside)) (λ e. omega (arith, array-first M S vs o s))) tt
    viewed c (settled (object_of ms)) (o, h, s) =
        let e = o + record_size (object_of ms) in
        rw (record-object c o h (omega (arith, s.inside)) e (object-stands M S ms o s).first (settled-ends M S s)) (object-listed o ms s, s.distinct)
    viewed c (written (simple x)) a =
        let k = code-small x in
        rw (item-other c (item-low M S a) (λ e. omega (arith, kind-only (get_or T (8 * c) 0) (code_of x) a.roles a.node.0 (omega arith)))) tt
    viewed c (written (array es)) a =
        rw (item-other c (item-low M S a) (λ e. omega (arith, kind-only (get_or T (8 * c) 0) 6 a.roles a.node.0 (omega arith)))) tt
    viewed c (written (object fs)) a =
        let e = c + get_or T (8 * c + 1) 0 in
        rw (item-object c (item-low M S a) (kind-only (get_or T (8 * c) 0) 7 a.roles a.node.0 (omega arith)))
        (fields-listed S e a.inside (e - (c + 1)) (c + 1) fs (omega arith) (omega arith) a.node.1)
    viewed c (written (unresolved b ps)) a = absurd a
