-- Where the bytes hold a value as kept, its copy is the value as kept at another place.
use Rattle.std.specs.Prelude.{◌≡◌, Bool, true, false, get_or, drop, eqb}
use Rattle.std.proofs.Math.Path.{refl}
use Rattle.std.proofs.Common.{sym, ap, ◌∙◌, length-append, le-leb}
use Prim.Native.Nat.{ℕ, zero, suc, ◌+◌, ◌-◌, ◌*◌, ◌/◌, ◌%◌, ◌≤◌, ◌<◌, max}
use mathlib.Core.List.{List, [], ◌∷◌, ◌++◌}
use native.Mathlib.Omega.{arith}
use Rattle.std.proofs.Math.ListN.{length}
use Rattle.std.proofs.Math.Seq.{take-append_seam}
use Rattle.rules.specs.Bytes.{Text}
use Rattle.rules.specs.Tree.{Scalar, null, boolean, number, string}
use Rattle.rules.specs.Values.{own_text, value_record_sizes, member_record_sizes, text_size, nesting_of, deepest_value, deepest_member}
use Rattle.rules.specs.Sheet.{two, text_record, scalar_record, texts, value_texts, member_texts}
use Rattle.theory.specs.Layout.{two_back, length-texts}
use Rattle.sheet_kept.specs.Kept.{Held, simple, listed, keyed, Helds, no-helds, also, HeldFields, no_fields, field, named, named_all, named_fields}
use Rattle.sheet_kept.specs.Kept.{count_helds, count_fields, key_record, kept, kept_all, kept_fields}
use Rattle.sheet_kept.specs.InTurn.{flat_scalar, flat, flat_all, flat_fields, Word, words_rec, words_of, extent}
use Rattle.sheet_kept.specs.Sizes.{kept-some, words_append}
use Rattle.sheet_kept.proofs.Sizes.{kept-length, all-records, fields-records, value-extent}
use Rattle.sheet_kept.specs.Standing.{Stands, stands-left, stands-right, stands-in}
use Rattle.sheet_forms.specs.Model.{shape_of, pair_c, members_c}
use Rattle.sheet_forms.specs.Ends.{at-0, at_n, array-members, object-members}
use Rattle.sheet_forms.specs.declared.Shape.{Shape}
use Rattle.eval_writer.specs.Model.{word_at}
use Rattle.eval_writer.specs.Keys.{KeyIn, KeysIn, AllKeysIn, FieldKeysIn}
use Rattle.eval_writer.specs.Copies.Model.{Act, act, then, under, key_c, copy_k, plain_c, word_c}
use Rattle.eval_copy.specs.Model.{copy_m, copy_ms, copy_v}
use Rattle.eval_copy.specs.Steps.{held-step, members_step}

module _ (key : ℕ → Text) (T s : List ℕ) (tb : ℕ) where
  pair_read : (xs : List ℕ) (p i : ℕ) → drop p s ≡ xs → pair_c s (p + i) ≡ get_or xs i 0 * 256 + get_or xs (i + 1) 0
  pair_read xs p i h =
      let e : p + i + 1 ≡ p + (i + 1) = omega arith in
      rw (e, at_n s p xs h i, at_n s p xs h (i + 1))

  text-read : (tx : List ℕ) (u : ℕ) (after : List ℕ) → drop (tb + u) s ≡ tx ++ after → tb + u + length tx ≤ length s → word_at s (tb + u) (length tx) ≡ tx
  unfolding word_at
  text-read tx u after h l = rw (le-leb (tb + u + length tx) (length s) l, h) (take-append_seam tx after)

  abbrev acted : List ℕ → List Word → ℕ → ℕ → Act
  acted xs ws next deep = record { xs = xs; ws = ws; next = next; deep = deep }

  abbrev copied : ℕ → ℕ → Held → Act
  copied p t v = acted (kept key t v) (words_of (flat key v)) (p + length (kept key t v)) (nesting_of (named key v))

  word_read : (n p t u b : ℕ) (x : Text) → shape_of b ≡ Shape.Word → Stands s tb (text_record b u x) x p u
      → copy_v n T s tb p t ≡ act (text_record b t x) ((length x, x) ∷ []) (p + 5)
  unfolding copy_v word_c text_record two
  word_read n p t u b x k h =
      let r = b ∷ u / 256 % 256 ∷ u % 256 ∷ length x / 256 % 256 ∷ length x % 256 ∷ h.rest in
      let a : pair_c s (p + 1) ≡ u = pair_read r p 1 h.records ∙ two_back u (omega (arith, h.small)) in
      let c : pair_c s (p + 3) ≡ length x = pair_read r p 3 h.records ∙ two_back (length x) (omega (arith, h.small)) in
      rw (at-0 s p r h.records, k, a, c, text-read x u h.after h.text h.inside)

  plain-read : (n p t b : ℕ) (xs : List ℕ) → shape_of b ≡ Shape.Plain → drop p s ≡ b ∷ xs → copy_v n T s tb p t ≡ act (b ∷ []) [] (p + 1)
  unfolding copy_v plain_c
  plain-read n p t b xs k h = rw (at-0 s p (b ∷ xs) h, k)

  scalar_read : (x : Scalar) (n p t u : ℕ) → Stands s tb (scalar_record u x) (own_text x) p u
      → copy_v n T s tb p t ≡ act (scalar_record t x) (words_of (flat_scalar x)) (p + length (scalar_record t x))
  unfolding scalar_record own_text flat_scalar words_of words_rec text_record two shape_of
  scalar_read null n p t u h = plain-read n p t 1 h.rest refl h.records
  scalar_read (boolean false) n p t u h = plain-read n p t 2 h.rest refl h.records
  scalar_read (boolean true) n p t u h = plain-read n p t 3 h.rest refl h.records
  scalar_read (number x) n p t u h = word_read n p t u 4 x refl h
  scalar_read (string x) n p t u h = word_read n p t u 5 x refl h

  head_read : (n p t b m c : ℕ) (ys rest : List ℕ) (R : Act) → shape_of b ≡ Shape.Head → drop p s ≡ (b ∷ two m ++ ys) ++ rest → m < 65536 → members_c s p ≡ c
      → copy_ms (λ q u. copy_v n T s tb q u) T s (eqb b 7) c (p + 3) t ≡ R → copy_v (suc n) T s tb p t ≡ under (then (act (b ∷ two m) [] (p + 3)) R)
  unfolding copy_v two
  head_read n p t b m c ys rest R k h l j e =
      let r = (b ∷ m / 256 % 256 ∷ m % 256 ∷ ys) ++ rest in
      let a : pair_c s (p + 1) ≡ m = pair_read r p 1 h ∙ two_back m l in
      let f : suc n - 1 ≡ n = omega arith in
      rw (at-0 s p r h, k) (held-step (suc n) T s tb b p t (λ z. omega arith) ∙ rw (a, j, f) (ap (λ (q : Act). under (then (act (b ∷ two m) [] (p + 3)) q)) e))

  -- one member more
  more-read : (val : ℕ → ℕ → Act) (fs : Bool) (c p t : ℕ) (M R : Act) → p < length s → copy_m val T s fs p t ≡ M
      → copy_ms val T s fs c M.next (t + extent M.ws) ≡ R → copy_ms val T s fs (suc c) p t ≡ then M R
  more-read val fs c p t M R l e f =
      let g : suc c - 1 ≡ c = omega arith in
      members_step val T s fs (suc c) p t (omega arith) l ∙ rw (e, g) (ap (then M) f)

  key-read : (val : ℕ → ℕ → Act) (p t k : ℕ) (ys rest : List ℕ) (W : Act) → KeyIn key T s k → drop p s ≡ (key_record k (key k) ++ ys) ++ rest
      → val (p + 5) (t + length (key k)) ≡ W
      → copy_m val T s true p t ≡ then (act (key_record k (key k)) ((length (key k), key k) ∷ []) (p + 5)) W
  unfolding copy_m copy_k key_c key_record two extent
  key-read val p t k ys rest W i h e =
      let r = (8 ∷ k / 256 % 256 ∷ k % 256 ∷ length (key k) / 256 % 256 ∷ length (key k) % 256 ∷ ys) ++ rest in
      let a : pair_c s (p + 1) ≡ k = pair_read r p 1 h ∙ two_back k i.small in
      let f : t + (length (key k) + 0) ≡ t + length (key k) = omega arith in
      rw (a, i.len, i.text, f) (ap (then (act (key_record k (key k)) ((length (key k), key k) ∷ []) (p + 5))) e)

  bare-read : (val : ℕ → ℕ → Act) (p t : ℕ) (W : Act) → val p t ≡ W → copy_m val T s false p t ≡ W
  unfolding copy_m copy_k extent
  bare-read val p t W e =
      let f : t + 0 ≡ t = omega arith in
      let g : max 0 W.deep ≡ W.deep = omega arith in
      rw (f, e) (ap (acted W.xs W.ws W.next) g)

  pub stands-body : (b c : ℕ) (ys tx : List ℕ) (p u : ℕ) → Stands s tb (b ∷ two c ++ ys) tx p u → Stands s tb ys tx (p + 3) u
  unfolding two
  stands-body b c ys tx p u h =
      let e : u + 0 ≡ u = omega arith in
      rw e at (stands-right s tb (b ∷ two c) ys [] tx p u h)

  head-6 : shape_of 6 ≡ Shape.Head
  unfolding shape_of
  head-6 = refl

  head-7 : shape_of 7 ≡ Shape.Head
  unfolding shape_of
  head-7 = refl

  mutual
    unfolding kept flat texts named nesting_of count_helds count_fields words_of words_rec copy_ms key_record two extent

    -- a copy of v as kept is v as kept at another place
    pub copy_read : (v : Held) (n p t u : ℕ) → nesting_of (named key v) ≤ n → KeysIn key T s v → Stands s tb (kept key u v) (texts (named key v)) p u
        → copy_v n T s tb p t ≡ copied p t v
    copy_read (simple x) n p t u d k h = scalar_read x n p t u h
    copy_read (listed vs) zero p t u d k h = absurd (omega arith)
    copy_read (listed vs) (suc n) p t u d k h =
        let m = value_record_sizes (named_all key vs) in
        let ys = kept_all key u vs in
        let R = acted (kept_all key t vs) (words_of (flat_all key vs)) (p + 3 + length (kept_all key t vs)) (deepest_value (named_all key vs)) in
        let i : max 0 (deepest_value (named_all key vs)) + 1 ≡ suc (deepest_value (named_all key vs)) = omega arith in
        let e : p + 3 + length (kept_all key t vs) ≡ p + suc (suc (suc (length (kept_all key t vs)))) = omega arith in
        head_read n p t 6 m (count_helds vs) ys h.rest R head-6 h.records (omega (arith, all-records key u vs, h.few))
        (array-members s p key u h.rest vs h.records h.few)
        (copy-all vs n (p + 3) t u (omega arith) k (stands-body 6 m ys (value_texts (named_all key vs)) p u h))
        ∙ ap (λ (q : ℕ). acted (6 ∷ two m ++ kept_all key t vs) (words_of (flat_all key vs)) q (max 0 (deepest_value (named_all key vs)) + 1)) e
        ∙ ap (acted (6 ∷ two m ++ kept_all key t vs) (words_of (flat_all key vs)) (p + suc (suc (suc (length (kept_all key t vs)))))) i
    copy_read (keyed ms) zero p t u d k h = absurd (omega arith)
    copy_read (keyed ms) (suc n) p t u d k h =
        let m = member_record_sizes (named_fields key ms) in
        let ys = kept_fields key u ms in
        let R = acted (kept_fields key t ms) (words_of (flat_fields key ms)) (p + 3 + length (kept_fields key t ms)) (deepest_member (named_fields key ms)) in
        let i : max 0 (deepest_member (named_fields key ms)) + 1 ≡ suc (deepest_member (named_fields key ms)) = omega arith in
        let e : p + 3 + length (kept_fields key t ms) ≡ p + suc (suc (suc (length (kept_fields key t ms)))) = omega arith in
        head_read n p t 7 m (count_fields ms) ys h.rest R head-7 h.records (omega (arith, fields-records key u ms, h.few))
        (object-members s p key u h.rest ms h.records h.few)
        (copy-fields ms n (p + 3) t u (omega arith) k (stands-body 7 m ys (member_texts (named_fields key ms)) p u h))
        ∙ ap (λ (q : ℕ). acted (7 ∷ two m ++ kept_fields key t ms) (words_of (flat_fields key ms)) q (max 0 (deepest_member (named_fields key ms)) + 1)) e
        ∙ ap (acted (7 ∷ two m ++ kept_fields key t ms) (words_of (flat_fields key ms)) (p + suc (suc (suc (length (kept_fields key t ms)))))) i

    pub copy-all : (vs : Helds) (n p t u : ℕ) → deepest_value (named_all key vs) ≤ n → AllKeysIn key T s vs → Stands s tb (kept_all key u vs) (value_texts (named_all key vs)) p u
        → copy_ms (λ q u. copy_v n T s tb q u) T s false (count_helds vs) p t ≡ acted (kept_all key t vs) (words_of (flat_all key vs)) (p + length (kept_all key t vs)) (deepest_value (named_all key vs))
    copy-all no-helds n p t u d k h = let e : p ≡ p + 0 = omega arith in ap (act [] []) e
    copy-all (also v vs) n p t u d k h =
        let ts = text_size (named key v) in
        let dp = deepest_value (named_all key vs) in
        let a = kept key u v in
        let b = kept_all key (u + ts) vs in
        let tx = texts (named key v) in
        let ty = value_texts (named_all key vs) in
        let hl = stands-left s tb a b tx ty p u h in
        let hr = rw (length-texts (named key v)) at (stands-right s tb a b tx ty p u h) in
        let x = kept key t v in
        let y = kept_all key (t + ts) vs in
        let next = p + length a + length y in
        let e : next ≡ p + length (x ++ y) = omega (arith, length-append x y, kept-length key t u v) in
        more-read (λ q u. copy_v n T s tb q u) false (count_helds vs) p t (copied p t v) (acted y (words_of (flat_all key vs)) next dp)
        (stands-in s tb a tx p u hl (kept-some key u v))
        (bare-read (λ q u. copy_v n T s tb q u) p t (copied p t v) (copy_read v n p t u (omega arith) k.0 hl))
        (rw (kept-length key t u v, value-extent key v) (copy-all vs n (p + length a) (t + ts) (u + ts) (omega arith) k.1 hr))
        ∙ ap (λ (w : List Word). acted (x ++ y) w next (max (nesting_of (named key v)) dp)) (sym (words_append (flat key v) (flat_all key vs)))
        ∙ ap (λ (q : ℕ). acted (x ++ y) (words_of (flat key v ++ flat_all key vs)) q (max (nesting_of (named key v)) dp)) e

    copy-fields : (ms : HeldFields) (n p t u : ℕ) → deepest_member (named_fields key ms) ≤ n → FieldKeysIn key T s ms → Stands s tb (kept_fields key u ms) (member_texts (named_fields key ms)) p u
        → copy_ms (λ q u. copy_v n T s tb q u) T s true (count_fields ms) p t ≡ acted (kept_fields key t ms) (words_of (flat_fields key ms)) (p + length (kept_fields key t ms)) (deepest_member (named_fields key ms))
    copy-fields no_fields n p t u d k h = let e : p ≡ p + 0 = omega arith in ap (act [] []) e
    copy-fields (field j v ms) n p t u d k h =
        let ts = text_size (named key v) in
        let dp = deepest_member (named_fields key ms) in
        let nv = nesting_of (named key v) in
        let i : max (max 0 nv) dp ≡ max nv dp = omega arith in
        let kk = key j in
        let g = key_record j kk in
        let u' = u + length kk in
        let t' = t + length kk in
        let a = kept key u' v in
        let b = kept_fields key (u' + ts) ms in
        let tx = texts (named key v) in
        let ty = member_texts (named_fields key ms) in
        let hf = stands-left s tb (g ++ a) b (kk ++ tx) ty p u h in
        let hv = stands-right s tb g a kk tx p u hf in
        let q : u + length (kk ++ tx) ≡ u' + ts = omega (arith, length-append kk tx, length-texts (named key v)) in
        let z : p + length (g ++ a) ≡ p + 5 + length a = omega (arith, length-append g a) in
        let hr = rw (q, z) at (stands-right s tb (g ++ a) b (kk ++ tx) ty p u h) in
        let x = kept key t' v in
        let y = kept_fields key (t' + ts) ms in
        let next = p + 5 + length a + length y in
        let e : next ≡ p + length (g ++ x ++ y) = omega (arith, length-append (g ++ x) y, length-append g x, kept-length key t' u' v) in
        let r : t + (length kk + ts) ≡ t' + ts = omega arith in
        let val : ℕ → ℕ → Act = λ q u. copy_v n T s tb q u in
        let M = then (act g ((length kk, kk) ∷ []) (p + 5)) (copied (p + 5) t' v) in
        more-read val true (count_fields ms) p t M (acted y (words_of (flat_fields key ms)) next dp)
        (stands-in s tb (g ++ a) (kk ++ tx) p u hf (omega (arith, length-append g a)))
        (key-read val p t j a hf.rest (copied (p + 5) t' v) k.0 hf.records (copy_read v n (p + 5) t' u' (omega arith) k.1 hv))
        (rw (kept-length key t' u' v, value-extent key v, r) (copy-fields ms n (p + 5 + length a) (t' + ts) (u' + ts) (omega arith) k.2 hr))
        ∙ ap (λ (w : List Word). acted (g ++ x ++ y) ((length kk, kk) ∷ w) next (max (max 0 nv) dp)) (sym (words_append (flat key v) (flat_fields key ms)))
        ∙ ap (λ (q : ℕ). acted (g ++ x ++ y) ((length kk, kk) ∷ words_of (flat key v ++ flat_fields key ms)) q (max (max 0 nv) dp)) e
        ∙ ap (acted (g ++ x ++ y) ((length kk, kk) ∷ words_of (flat key v ++ flat_fields key ms)) (p + length (g ++ x ++ y))) i
