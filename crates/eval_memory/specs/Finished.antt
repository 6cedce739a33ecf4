-- Finished values that stand as kept in a job's bytes: among the answers, or as the two objects that merge. Each member of a finished
-- object is a finished value again, and each can be copied as it stands.
use Rattle.std.specs.Prelude.{◌≡◌, refl, ℕ, ◌+◌, ◌-◌, ◌≤◌, true, false, take, drop}
use Rattle.std.proofs.Common.{sym, ◌∙◌, length-drop, take-add, drop-drop, length-take-le}
use Rattle.std.proofs.Math.Path.{ap, subst}
use mathlib.Core.List.{List, [], ◌∷◌, ◌++◌}
use native.Mathlib.Omega.{arith}
use Rattle.std.proofs.Math.ListN.{length, get_or, length-append}
use Rattle.std.proofs.Math.Seq.{take-append-add}
use Rattle.answers.specs.Theory.Sound.{clash}
use Rattle.rules.specs.Sizes.{max_nesting, max_room, max_text}
use Rattle.rules.specs.Bytes.{Text, At}
use Rattle.rules.specs.Tree.{Scalar, null, boolean, number, string}
use Rattle.rules.specs.Values.{Value, scalar, array_of, object_of, Values, Members}
use Rattle.rules.specs.Values.{record_size, value_record_sizes, member_record_sizes, text_size, member_text_sizes, nesting_of, deepest_member}
use Rattle.rules.specs.Sheet.{two, pair_at, text_record, scalar_record, texts, member_texts}
use Rattle.rules.specs.NamedValues.{Distinct, DistinctMembers}
use Rattle.theory.specs.Layout.{length-texts}
use Rattle.doc_items.specs.Room.{capacity}
use Rattle.eval_keys.specs.Numbers.{Numbered}
use Rattle.eval_writer.specs.Keys.{KeyIn, KeysIn}
use Rattle.sheet_kept.specs.Kept.{Held, simple, listed, keyed, HeldFields, field, named, named_all, named_fields}
use Rattle.sheet_kept.specs.Kept.{key_record, kept, kept_all, kept_fields}
use Rattle.sheet_kept.specs.Sizes.{kept-some}
use Rattle.sheet_kept.proofs.Sizes.{kept-records}
use Rattle.sheet_kept.specs.Standing.{Stands, stands-left, stands-right, stands-in}
use Rattle.sheet_forms.specs.Model.{end_c}
use Rattle.eval_memory.specs.Keys.{KeyNumber, EachKey, EachField, keys_in}
use Rattle.eval_memory.specs.KeptEnds.{five-bytes, key-stands, number_at, first-at, value-ends}

-- ---- a job's memory

pub record Memory : Type 0 where
  -- the table, and how many items it has, the root's included
  pub table : List ℕ
  pub items : ℕ
  -- the text that a key's number names
  pub key : ℕ → Text
  -- the bytes, of which the document's texts go up to here
  pub bytes : List ℕ
  pub ends : ℕ
  -- where finished values stand: their records from one place of the bytes on, their texts from another
  pub records-at : ℕ
  pub texts-at : ℕ
  -- the part of the bytes that is lent as their records
  pub records : List ℕ
  -- how many of the table's answers stand among them: of the two objects that merge none do
  pub answered : ℕ
  -- how much of the records and of the texts is in use: what stands there stays when more is kept
  pub filled : ℕ
  pub filled-text : ℕ

-- the document's keys have their numbers
pub record Stored (M : Memory) : Type 0 where
  pub part : M.records ≡ take max_room (drop M.records-at M.bytes)
  pub document : M.ends ≤ length M.bytes
  pub few : M.items ≤ capacity
  pub numbered : Numbered M.bytes M.table M.items
  pub names : (j : ℕ) → KeyNumber M.table M.items j → KeyIn M.key M.table M.bytes j

module _ (M : Memory) where
  abbrev IsKey : ℕ → Type 0
  IsKey = KeyNumber M.table M.items

  -- the value v stands at the offset o among the finished values
  pub record SettledAt (v : Value) (o : ℕ) : Type 0 where
    pub held : Held
    pub is : named M.key held ≡ v
    pub keys : EachKey IsKey held
    pub text : ℕ
    pub stands : Stands M.bytes M.texts-at (kept M.key text held) (texts (named M.key held)) (M.records-at + o) text
    pub inside : o + record_size v ≤ max_room
    pub upto : text + text_size v ≤ max_room
    pub used : o + record_size v ≤ M.filled
    pub used-text : text + text_size v ≤ M.filled-text
    pub size : text_size v ≤ max_text
    pub nesting : nesting_of v ≤ max_nesting
    pub distinct : Distinct v

  -- the same of the members of an object
  pub record MembersAt (fs : HeldFields) (o : ℕ) : Type 0 where
    pub keys : EachField IsKey fs
    pub text : ℕ
    pub stands : Stands M.bytes M.texts-at (kept_fields M.key text fs) (member_texts (named_fields M.key fs)) (M.records-at + o) text
    pub inside : o + member_record_sizes (named_fields M.key fs) ≤ max_room
    pub upto : text + member_text_sizes (named_fields M.key fs) ≤ max_room
    pub used : o + member_record_sizes (named_fields M.key fs) ≤ M.filled
    pub used-text : text + member_text_sizes (named_fields M.key fs) ≤ M.filled-text
    pub size : member_text_sizes (named_fields M.key fs) ≤ max_text
    pub nesting : deepest_member (named_fields M.key fs) ≤ max_nesting
    pub distinct : DistinctMembers (named_fields M.key fs)

  -- the table has its keys' texts, as copying asks
  pub settled-keys : Stored M → {v : Value} {o : ℕ} (s : SettledAt v o) → KeysIn M.key M.table M.bytes s.held
  settled-keys S s = keys_in M.key M.table M.bytes IsKey S.names s.held s.keys

  settled-length : {v : Value} {o : ℕ} (s : SettledAt v o) → length (kept M.key s.text s.held) ≡ record_size v
  settled-length s = kept-records M.key s.text s.held ∙ ap record_size s.is

  -- it has a record
  pub settled-some : {v : Value} {o : ℕ} → SettledAt v o → 1 ≤ record_size v
  settled-some s = omega (arith, settled-length s, kept-some M.key s.text s.held)

  module _ (S : Stored M) where
    -- ---- what stands in the bytes stands among the records

    in-records : (xs tx : List ℕ) (o u : ℕ) → Stands M.bytes M.texts-at xs tx (M.records-at + o) u → 1 ≤ length xs → o + length xs ≤ max_room
        → At M.records o xs
    in-records xs tx o u h l f =
        let L = drop M.records-at M.bytes in
        let q = max_room - o - length xs in
        let e : max_room ≡ o + (length xs + q) = omega arith in
        let low = stands-in M.bytes M.texts-at xs tx (M.records-at + o) u h l in
        let back : drop o L ≡ xs ++ h.rest = drop-drop o M.records-at M.bytes ∙ h.records in (
          take o L,
          take q h.rest,
          length-take-le o L (omega (arith, length-drop M.records-at M.bytes)),
          S.part ∙ ap (λ (n : ℕ). take n L) e ∙ take-add o (length xs + q) L
              ∙ ap (λ (ys : List ℕ). take o L ++ take (length xs + q) ys) back
              ∙ ap (λ (ys : List ℕ). take o L ++ ys) (take-append-add xs h.rest q),
        )

    -- the records of a value
    module _ {v : Value} {o : ℕ} (s : SettledAt v o) where
      pub settled-records : At M.records o (kept M.key s.text s.held)
      settled-records =
          in-records (kept M.key s.text s.held) (texts (named M.key s.held)) o s.text s.stands
          (kept-some M.key s.text s.held) (omega (arith, settled-length s, s.inside))

      -- its end is found
      pub settled-ends : end_c M.records o ≡ o + record_size v
      settled-ends =
          value-ends M.records M.key s.held s.text o settled-records (omega (arith, settled-length s, s.inside))
          ∙ ap (λ (n : ℕ). o + n) (settled-length s)

    -- ---- the first member and the others

    pub record MemberAt (k : ℕ) (v : Held) (ms : HeldFields) (o : ℕ) : Type 0 where
      pub number : IsKey k
      pub read : pair_at M.records (o + 1) ≡ k
      pub value : SettledAt (named M.key v) (o + 5)
      pub others : MembersAt ms (o + 5 + record_size (named M.key v))

    pub first_member : (k : ℕ) (v : Held) (ms : HeldFields) (o : ℕ) → MembersAt (field k v ms) o → MemberAt k v ms o
    unfolding kept named texts record_size text_size nesting_of
    first_member k v ms o h =
        let B = M.bytes in
        let tb = M.texts-at in
        let ra = M.records-at in
        let u = h.text in
        let t = M.key k in
        let nv = named M.key v in
        let g = key_record k t in
        let u' = u + length t in
        let x = kept M.key u' v in
        let w = u' + text_size nv in
        let ys = kept_fields M.key w ms in
        let tx = texts nv in
        let ty = member_texts (named_fields M.key ms) in
        let five = five-bytes k t in
        let i = length-append g x in
        let j = length-append t tx in
        let n = kept-records M.key u' v in
        let m = length-texts nv in
        let front = stands-left B tb (g ++ x) ys (t ++ tx) ty (ra + o) u h.stands in
        let e : ra + o + length g ≡ ra + (o + 5) = omega arith in
        let p : ra + o + length (g ++ x) ≡ ra + (o + 5 + record_size nv) = omega arith in
        let q : u + length (t ++ tx) ≡ w = omega arith in
        let its-key = stands-left B tb g x t tx (ra + o) u front in
        let its-value = stands-right B tb g x t tx (ra + o) u front in
        let rest = stands-right B tb (g ++ x) ys (t ++ tx) ty (ra + o) u h.stands in
        record {
          number = h.keys.0;
          read = number_at M.records 8 k t o (omega (arith, h.keys.0.high, S.few))
              (key-stands M.records o k t (in-records g t o u its-key (omega arith) (omega (arith, h.inside))));
          value = record {
            held = v;
            is = refl;
            keys = h.keys.1;
            text = u';
            stands = subst (λ (a : ℕ). Stands B tb x tx a u') e its-value;
            inside = omega (arith, h.inside);
            upto = omega (arith, h.upto);
            used = omega (arith, h.used);
            used-text = omega (arith, h.used-text);
            size = omega (arith, h.size);
            nesting = omega (arith, h.nesting);
            distinct = h.distinct.1;
          };
          others = record {
            keys = h.keys.2;
            text = w;
            stands = subst (λ (a : ℕ). Stands B tb ys ty a w) p (subst (λ (b : ℕ). Stands B tb ys ty (ra + o + length (g ++ x)) b) q rest);
            inside = omega (arith, h.inside);
            upto = omega (arith, h.upto);
            used = omega (arith, h.used);
            used-text = omega (arith, h.used-text);
            size = omega (arith, h.size);
            nesting = omega (arith, h.nesting);
            distinct = h.distinct.2;
          };
        }

    -- ---- the first byte, and the members of an object

    scalar-byte : (x : Scalar) (o u : ℕ) → At M.records o (scalar_record u x) → get_or M.records o 0 ≤ 5
    unfolding scalar_record text_record
    scalar-byte null o u s = omega (arith, first-at M.records o 1 [] s)
    scalar-byte (boolean false) o u s = omega (arith, first-at M.records o 2 [] s)
    scalar-byte (boolean true) o u s = omega (arith, first-at M.records o 3 [] s)
    scalar-byte (number t) o u s = omega (arith, first-at M.records o 4 (two u ++ two (length t)) s)
    scalar-byte (string t) o u s = omega (arith, first-at M.records o 5 (two u ++ two (length t)) s)

    pub scalar-first : (x : Scalar) (o : ℕ) → SettledAt (scalar x) o → get_or M.records o 0 ≤ 5
    unfolding kept named
    scalar-first x o s = go s.held s.is (settled-records s)
      where
        go : (h : Held) → named M.key h ≡ scalar x → At M.records o (kept M.key s.text h) → get_or M.records o 0 ≤ 5
        go (simple y) e a = scalar-byte y o s.text a
        go (listed vs) e a = clash (cc (e))
        go (keyed ms) e a = clash (cc (e))

    pub array-first : (vs : Values) (o : ℕ) → SettledAt (array_of vs) o → get_or M.records o 0 ≡ 6
    unfolding kept named
    array-first vs o s = go s.held s.is (settled-records s)
      where
        go : (h : Held) → named M.key h ≡ array_of vs → At M.records o (kept M.key s.text h) → get_or M.records o 0 ≡ 6
        go (simple y) e a = clash (cc (e))
        go (listed ws) e a = first-at M.records o 6 (two (value_record_sizes (named_all M.key ws)) ++ kept_all M.key s.text ws) a
        go (keyed ms) e a = clash (cc (e))

    -- an object's members stand behind its record
    pub record ObjectAt (ms : Members) (o : ℕ) : Type 0 where
      pub first : get_or M.records o 0 ≡ 7
      pub fields : HeldFields
      pub is : named_fields M.key fields ≡ ms
      pub members : MembersAt fields (o + 3)

    object-at : (fs : HeldFields) (o : ℕ) → SettledAt (object_of (named_fields M.key fs)) o → EachField IsKey fs → (u : ℕ)
        → Stands M.bytes M.texts-at (kept M.key u (keyed fs)) (texts (named M.key (keyed fs))) (M.records-at + o) u
        → u + member_text_sizes (named_fields M.key fs) ≤ max_room → u + member_text_sizes (named_fields M.key fs) ≤ M.filled-text → MembersAt fs (o + 3)
    unfolding kept named texts record_size text_size nesting_of two
    object-at fs o s k u h l l' =
        let c = member_record_sizes (named_fields M.key fs) in
        let ys = kept_fields M.key u fs in
        let tx = member_texts (named_fields M.key fs) in
        let rest = stands-right M.bytes M.texts-at (7 ∷ two c) ys [] tx (M.records-at + o) u h in
        let e : M.records-at + o + 3 ≡ M.records-at + (o + 3) = omega arith in
        let f : u + 0 ≡ u = omega arith in
        record {
          keys = k;
          text = u;
          stands = subst (λ (a : ℕ). Stands M.bytes M.texts-at ys tx a u) e
              (subst (λ (b : ℕ). Stands M.bytes M.texts-at ys tx (M.records-at + o + 3) b) f rest);
          inside = omega (arith, s.inside);
          upto = l;
          used = omega (arith, s.used);
          used-text = l';
          size = omega (arith, s.size);
          nesting = omega (arith, s.nesting);
          distinct = s.distinct;
        }

    pub object-stands : (ms : Members) (o : ℕ) → SettledAt (object_of ms) o → ObjectAt ms o
    unfolding kept named text_size
    object-stands ms o s = go s.held s.is s.keys s.stands (settled-records s)
      where
        go : (h : Held) → named M.key h ≡ object_of ms → EachKey IsKey h
            → Stands M.bytes M.texts-at (kept M.key s.text h) (texts (named M.key h)) (M.records-at + o) s.text
            → At M.records o (kept M.key s.text h) → ObjectAt ms o
        go (simple y) e k h a = clash (cc (e))
        go (listed ws) e k h a = clash (cc (e))
        go (keyed fs) e k h a =
            let f : named_fields M.key fs ≡ ms = cc (e) in
            record {
              first = first-at M.records o 7 (two (member_record_sizes (named_fields M.key fs)) ++ kept_fields M.key s.text fs) a;
              fields = fs;
              is = f;
              members = object-at fs o (subst (λ (q : Members). SettledAt (object_of q) o) (sym f) s) k s.text h
                  (let z : member_text_sizes (named_fields M.key fs) ≡ member_text_sizes ms = ap member_text_sizes f in omega (arith, s.upto))
                  (let z : member_text_sizes (named_fields M.key fs) ≡ member_text_sizes ms = ap member_text_sizes f in omega (arith, s.used-text));
            }
