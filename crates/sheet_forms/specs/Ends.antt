-- Where a value as kept ends, and how many members it has: both by what its record says and by steps from member to member.
use Rattle.std.specs.Prelude.{◌≡◌, true, false}
use Rattle.std.proofs.Math.Path.{refl, ap}
use Rattle.std.proofs.Common.{sym, ◌∙◌, get_or-drop, drop-drop, lt-ltb, le-leb, ne_eqb}
use Prim.Native.Nat.{ℕ, zero, suc, ◌+◌, ◌-◌, ◌/◌, ◌%◌, ◌≤◌, ◌<◌}
use mathlib.Core.List.{List, ◌∷◌, ◌++◌, append_assoc}
use native.Mathlib.Omega.{arith}
use Rattle.std.proofs.Math.ListN.{length, get_or, drop, length-append}
use Rattle.std.proofs.Math.Seq.{drop-append_seam}
use Rattle.std.proofs.lemmas.Bool.{lt-leb}
use Rattle.sheet_runs.specs.Clauses.{AllPlain}
use Rattle.rules.specs.Bytes.{Text}
use Rattle.rules.specs.Tree.{Scalar, null, boolean, number, string}
use Rattle.rules.specs.Values.{value_record_sizes, member_record_sizes, text_size}
use Rattle.rules.specs.Sheet.{two, text_record, scalar_record}
use Rattle.theory.specs.Layout.{two_back}
use Rattle.sheet_kept.specs.Kept.{Held, simple, listed, keyed, Helds, no-helds, also, HeldFields, no_fields, field, named, named_all, named_fields}
use Rattle.sheet_kept.specs.Kept.{count_helds, count_fields, key_record, kept, kept_all, kept_fields}
use Rattle.sheet_kept.specs.Sizes.{kept-some}
use Rattle.sheet_kept.proofs.Sizes.{all-records, fields-records}
use Rattle.sheet_forms.specs.Model.{shape_of, pair_c, end_by, end_c, member_of, count_n, count_c, members_c}
use Rattle.sheet_forms.specs.declared.Shape.{Shape}

module _ (s : List ℕ) (p : ℕ) (xs : List ℕ) (h : drop p s ≡ xs) where
  pub at-0 : get_or s p 0 ≡ get_or xs 0 0
  at-0 = let e : p ≡ p + 0 = omega arith in ap (λ (i : ℕ). get_or s i 0) e ∙ sym (get_or-drop p s 0 0) ∙ ap (λ (l : List ℕ). get_or l 0 0) h

  pub at_n : (n : ℕ) → get_or s (p + n) 0 ≡ get_or xs n 0
  at_n n = sym (get_or-drop p s n 0) ∙ ap (λ (l : List ℕ). get_or l n 0) h

-- what stands behind the first bytes
pub drop-behind : (s : List ℕ) (p : ℕ) (xs ys : List ℕ) → drop p s ≡ xs ++ ys → drop (p + length xs) s ≡ ys
drop-behind s p xs ys h = sym (drop-drop (length xs) p s) ∙ ap (drop (length xs)) h ∙ drop-append_seam xs ys

-- two bytes behind a kind
pub pair-behind : (s : List ℕ) (p b n : ℕ) (ys : List ℕ) → drop p s ≡ b ∷ two n ++ ys → n < 65536 → pair_c s (p + 1) ≡ n
unfolding two
pair-behind s p b n ys h l =
    let xs = b ∷ n / 256 % 256 ∷ n % 256 ∷ ys in
    let e : p + 1 + 1 ≡ p + 2 = omega arith in
    rw (e, at_n s p xs h 1, at_n s p xs h 2) (two_back n l)

-- ---- the end of a value

-- whatever stands there, the end is behind it
pub end-behind : (s : List ℕ) (p : ℕ) → p < end_c s p
unfolding end_c
end-behind s p = go (shape_of (get_or s p 0))
  where
    go : (k : Shape) → p < end_by k s p
    go Shape.Plain = omega arith
    go Shape.Head = omega arith
    go Shape.Word = omega arith
    go Shape.Key = omega arith

module _ (s : List ℕ) (p : ℕ) where
  end-by : (b : ℕ) (k : Shape) → get_or s p 0 ≡ b → shape_of b ≡ k → end_c s p ≡ end_by k s p
  unfolding end_c
  end-by b k e f = rw (e, f)

  -- of an array or object
  pub head-end : (b n : ℕ) (ys : List ℕ) → shape_of b ≡ Shape.Head → drop p s ≡ b ∷ two n ++ ys → n < 65536 → end_c s p ≡ p + 3 + n
  head-end b n ys k h l =
      end-by b Shape.Head (at-0 s p (b ∷ two n ++ ys) h) k ∙ ap (λ (m : ℕ). p + 3 + m) (pair-behind s p b n ys h l)

  scalar-end : (x : Scalar) (u : ℕ) (rest : List ℕ) → drop p s ≡ scalar_record u x ++ rest → end_c s p ≡ p + length (scalar_record u x)
  unfolding scalar_record text_record two shape_of
  scalar-end null u rest h = end-by 1 Shape.Plain (at-0 s p _ h) refl
  scalar-end (boolean false) u rest h = end-by 2 Shape.Plain (at-0 s p _ h) refl
  scalar-end (boolean true) u rest h = end-by 3 Shape.Plain (at-0 s p _ h) refl
  scalar-end (number t) u rest h = end-by 4 Shape.Word (at-0 s p _ h) refl
  scalar-end (string t) u rest h = end-by 5 Shape.Word (at-0 s p _ h) refl

  -- a value ends where its first record says
  pub value-end : (key : ℕ → Text) (v : Held) (u : ℕ) (rest : List ℕ) → drop p s ≡ kept key u v ++ rest → length (kept key u v) < 65536
      → end_c s p ≡ p + length (kept key u v)
  unfolding kept two shape_of
  value-end key (simple x) u rest h l = scalar-end x u rest h
  value-end key (listed vs) u rest h l =
      let e = all-records key u vs in
      head-end 6 (value_record_sizes (named_all key vs)) (kept_all key u vs ++ rest) refl h (omega arith) ∙ omega arith
  value-end key (keyed ms) u rest h l =
      let e = fields-records key u ms in
      head-end 7 (member_record_sizes (named_fields key ms)) (kept_fields key u ms ++ rest) refl h (omega arith) ∙ omega arith

  -- it counts as a member
  pub value-counts : (key : ℕ → Text) (v : Held) (u : ℕ) (rest : List ℕ) → drop p s ≡ kept key u v ++ rest → member_of (get_or s p 0) ≡ 1
  unfolding kept scalar_record text_record two
  value-counts key (simple null) u rest h = rw (at-0 s p _ h)
  value-counts key (simple (boolean false)) u rest h = rw (at-0 s p _ h)
  value-counts key (simple (boolean true)) u rest h = rw (at-0 s p _ h)
  value-counts key (simple (number t)) u rest h = rw (at-0 s p _ h)
  value-counts key (simple (string t)) u rest h = rw (at-0 s p _ h)
  value-counts key (listed vs) u rest h = rw (at-0 s p _ h)
  value-counts key (keyed ms) u rest h = rw (at-0 s p _ h)

-- ---- members counted

module _ (s : List ℕ) (end : ℕ) where
  pub count-end : (n p : ℕ) → end ≤ p → count_n n s end p ≡ 0
  unfolding count_n
  count-end zero p l = refl
  count-end (suc n) p l = rw (le-leb end p l)

  -- one record more
  pub count-step : (n p q c m : ℕ) → p < end → member_of (get_or s p 0) ≡ c → end_c s p ≡ q → count_n n s end q ≡ m → count_n (suc n) s end p ≡ c + m
  unfolding count_n
  count-step n p q c m l e f g = rw (lt-leb end p l, e, f, g)

  -- a run of records of one byte each
  pub count-run : (k w p : ℕ) → k ≤ w → p + k ≤ end → AllPlain s p (p + k) → count_n w s end p ≡ k + count_n (w - k) s end (p + k)
  unfolding shape_of
  count-run zero w p l h a =
      let e : w ≡ w - 0 = omega arith in
      let f : p ≡ p + 0 = omega arith in
      ap (λ (v : ℕ). count_n v s end p) e ∙ ap (λ (q : ℕ). count_n (w - 0) s end q) f ∙ omega arith
  count-run (suc k) zero p l h a = absurd (omega arith)
  count-run (suc k) (suc w) p l h a =
      let b = get_or s p 0 in
      let z : b < 4 = a p (omega arith) (omega arith) in
      let f : suc w - suc k ≡ w - k = omega arith in
      let g : suc p + k ≡ p + suc k = omega arith in
      let i : p + 1 ≡ suc p = omega arith in
      let ih : count_n w s end (suc p) ≡ k + count_n (w - k) s end (suc p + k) =
      count-run k w (suc p) (omega arith) (omega arith) (λ j m n. a j (omega arith) (omega arith)) in
      count-step w p (suc p) 1 (k + count_n (w - k) s end (suc p + k)) (omega arith) (rw (ne_eqb b 8 (λ e. omega arith)))
      (end-by s p b Shape.Plain refl (rw (lt-ltb b 4 z)) ∙ i) ih
      ∙ ap (λ (v : ℕ). 1 + (k + count_n v s end (suc p + k))) (sym f)
      ∙ ap (λ (q : ℕ). 1 + (k + count_n (suc w - suc k) s end q)) g
      ∙ omega arith

  pub count-all : (key : ℕ → Text) (vs : Helds) (n p u : ℕ) (rest : List ℕ) → drop p s ≡ kept_all key u vs ++ rest → end ≡ p + length (kept_all key u vs)
      → length (kept_all key u vs) < 65536 → end - p ≤ n → count_n n s end p ≡ count_helds vs
  unfolding kept count_helds
  count-all key no-helds n p u rest h e l f = count-end n p (omega arith)
  count-all key (also v vs) zero p u rest h e l f =
      let a = kept key u v in
      let b = kept_all key (u + text_size (named key v)) vs in
      absurd (omega (arith, kept-some key u v, length-append a b))
  count-all key (also v vs) (suc n) p u rest h e l f =
      let a = kept key u v in
      let w = u + text_size (named key v) in
      let b = kept_all key w vs in
      let i = length-append a b in
      let j = kept-some key u v in
      let g : drop p s ≡ a ++ (b ++ rest) = h ∙ append_assoc a b rest in
      count-step n p (p + length a) 1 (count_helds vs) (omega arith) (value-counts s p key v u (b ++ rest) g) (value-end s p key v u (b ++ rest) g (omega arith))
      (count-all key vs n (p + length a) w rest (drop-behind s p a (b ++ rest) g) (omega arith) (omega arith) (omega arith))
      ∙ omega arith

  key_step : (n p k m : ℕ) (t : Text) (rest : List ℕ) → p < end → drop p s ≡ key_record k t ++ rest → count_n n s end (p + 5) ≡ m
      → count_n (suc n) s end p ≡ m
  unfolding key_record two shape_of
  key_step n p k m t rest l h g =
      let z = at-0 s p (key_record k t ++ rest) h in
      count-step n p (p + 5) 0 m l (rw z) (end-by s p 8 Shape.Key z refl) g ∙ omega arith

  pub count-fields : (key : ℕ → Text) (ms : HeldFields) (n p u : ℕ) (rest : List ℕ) → drop p s ≡ kept_fields key u ms ++ rest → end ≡ p + length (kept_fields key u ms)
      → length (kept_fields key u ms) < 65536 → end - p ≤ n → count_n n s end p ≡ count_fields ms
  unfolding kept count_fields key_record two
  count-fields key no_fields n p u rest h e l f = count-end n p (omega arith)
  count-fields key (field k v ms) n p u rest h e l f =
      go n f (λ m q d i. count-fields key ms m q (u + length (key k) + text_size (named key v)) rest d i)
    where
      u' : ℕ
      u' = u + length (key k)

      g : List ℕ
      g = key_record k (key k)

      a : List ℕ
      a = kept key u' v

      w : ℕ
      w = u' + text_size (named key v)

      b : List ℕ
      b = kept_fields key w ms

      sizes : length (kept_fields key u (field k v ms)) ≡ 5 + length a + length b
      sizes = omega (arith, length-append (g ++ a) b, length-append g a)

      first : drop p s ≡ g ++ (a ++ (b ++ rest))
      first = h ∙ append_assoc (g ++ a) b rest ∙ append_assoc g a (b ++ rest)

      value : drop (p + 5) s ≡ a ++ (b ++ rest)
      value = drop-behind s p g (a ++ (b ++ rest)) first

      go : (n : ℕ) → end - p ≤ n
          → ((m q : ℕ) → drop q s ≡ b ++ rest → end ≡ q + length b → length b < 65536 → end - q ≤ m → count_n m s end q ≡ count_fields ms)
          → count_n n s end p ≡ suc (count_fields ms)
      go zero f ih = absurd (omega (arith, kept-some key u' v, sizes))
      go (suc zero) f ih = absurd (omega (arith, kept-some key u' v, sizes))
      go (suc (suc n)) f ih =
          let j = kept-some key u' v in
          let z = sizes in
          key_step (suc n) p k (suc (count_fields ms)) (key k) (a ++ (b ++ rest)) (omega arith) first
          (count-step n (p + 5) (p + 5 + length a) 1 (count_fields ms) (omega arith) (value-counts s (p + 5) key v u' (b ++ rest) value)
          (value-end s (p + 5) key v u' (b ++ rest) value (omega arith))
          (ih n (p + 5 + length a) (drop-behind s (p + 5) a (b ++ rest) value) (omega arith) (omega arith) (omega arith)) ∙ omega arith)

-- an array has as many members as it has elements, an object as it has fields
module _ (s : List ℕ) (p : ℕ) (key : ℕ → Text) (u : ℕ) (rest : List ℕ) where
  pub array-members : (vs : Helds) → drop p s ≡ kept key u (listed vs) ++ rest → length (kept key u (listed vs)) < 65536 → members_c s p ≡ count_helds vs
  unfolding kept members_c count_c two shape_of
  array-members vs h l =
      let ys = kept_all key u vs in
      let m = value_record_sizes (named_all key vs) in
      let e = all-records key u vs in
      let i : end_c s p ≡ p + 3 + m = head-end s p 6 m (ys ++ rest) refl h (omega arith) in
      rw i (count-all s (p + 3 + m) key vs (p + 3 + m - (p + 3)) (p + 3) u rest (drop-behind s p (6 ∷ two m) (ys ++ rest) h) (omega arith) (omega arith) (omega arith))

  pub object-members : (ms : HeldFields) → drop p s ≡ kept key u (keyed ms) ++ rest → length (kept key u (keyed ms)) < 65536 → members_c s p ≡ count_fields ms
  unfolding kept members_c count_c two shape_of
  object-members ms h l =
      let ys = kept_fields key u ms in
      let m = member_record_sizes (named_fields key ms) in
      let e = fields-records key u ms in
      let i : end_c s p ≡ p + 3 + m = head-end s p 7 m (ys ++ rest) refl h (omega arith) in
      rw i (count-fields s (p + 3 + m) key ms (p + 3 + m - (p + 3)) (p + 3) u rest (drop-behind s p (7 ∷ two m) (ys ++ rest) h) (omega arith) (omega arith) (omega arith))
