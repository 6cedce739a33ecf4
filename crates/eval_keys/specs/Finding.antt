-- The first item with a text; and the walk along a chain that comes to it.
use Rattle.std.specs.Prelude.{◌≡◌, Bool}
use Rattle.std.proofs.Math.Path.{refl, sym}
use Rattle.std.proofs.Common.{ap, ◌∙◌, arith, eq-eqb, ne_eqb}
use Rattle.std.proofs.Math.Bool.{true, false, cond}
use Prim.Native.Nat.{ℕ, zero, suc, ◌≤◌, ◌<◌}
use Rattle.rules.specs.Bytes.{Text, same}
use Rattle.theory.specs.Layout.{same-eq}
use Rattle.eval_keys.specs.Texts.{both, by_equal, by_less, same-is, same_not, same_false}
use Rattle.eval_keys.specs.Numbers.{NoneBefore, first_of, Found, absent, here, IsNumber, Chains, Walk}

module _ (fd : ℕ → Bool) (tx : ℕ → Text) (s : Text) where
  -- ---- first_of is what Found says

  pub first-none : (n : ℕ) → NoneBefore fd tx s n → first_of fd tx s n ≡ 0
  unfolding first_of
  first-none zero h = refl
  first-none (suc n) h =
      let e : first_of fd tx s n ≡ 0 = first-none n (λ j a k b. h j a k (omega arith)) in
      rw (eq-eqb (first_of fd tx s n) 0 e) (inner (fd n) refl)
    where
      zeros : (t : Bool) → n ≡ 0 → cond t n 0 ≡ 0
      zeros true z = z
      zeros false z = refl

      inner : (t : Bool) → fd n ≡ t → cond t (cond (same (tx n) s) n 0) 0 ≡ 0
      inner false q = refl
      inner true q = by_equal (cond (same (tx n) s) n 0 ≡ 0) n 0 (λ z. zeros (same (tx n) s) z)
          (λ z. rw (same_not (tx n) s (h n (omega arith) q (omega arith))) refl)

  pub first-here : (r n : ℕ) → 1 ≤ r → fd r ≡ true → r < n → tx r ≡ s → NoneBefore fd tx s r → first_of fd tx s n ≡ r
  unfolding first_of
  first-here r zero l k h e m = absurd (omega arith)
  first-here r (suc n) l k h e m =
      by_equal (first_of fd tx s (suc n) ≡ r) r n
      (λ z. let f : first_of fd tx s n ≡ 0 = first-none n (λ j a c b. m j a c (omega arith)) in
      rw (eq-eqb (first_of fd tx s n) 0 f, sym (ap fd z) ∙ k, same-is (tx n) s (sym (ap tx z) ∙ e)) (sym z))
      (λ z. let f : first_of fd tx s n ≡ r = first-here r n l k (omega arith) e m in
      rw (ne_eqb (first_of fd tx s n) 0 (λ y. omega arith)) f)

  pub found-is : (n r : ℕ) → Found fd tx s n r → r ≡ first_of fd tx s n
  found-is n r (absent e h) = e ∙ sym (first-none n h)
  found-is n r (here l k h e m) = sym (first-here r n l k h e m)

  found-more : (n r : ℕ) → Found fd tx s n r → (r' : ℕ) × Found fd tx s (suc n) r'
  found-more n r (here l k h e m) = (r, here l k (omega arith) e m)
  found-more n r (absent z h) = by_less ((r' : ℕ) × Found fd tx s (suc n) r') n 1
      (λ l. (0, absent refl (λ j a k b. absurd (omega arith))))
      (λ l. go l (fd n) refl (same (tx n) s) refl)
    where
      go : 1 ≤ n → (f : Bool) → fd n ≡ f → (t : Bool) → same (tx n) s ≡ t → (r' : ℕ) × Found fd tx s (suc n) r'
      go l false p t e = (0, absent refl (λ j a k b q. by_equal ⊥ j n (λ y. both k (ap fd y ∙ p)) (λ y. h j a k (omega arith) q)))
      go l true p true e = (n, here l p (omega arith) (same-eq (tx n) s e) h)
      go l true p false e = (0, absent refl (λ j a k b q. by_equal ⊥ j n (λ y. same_false (tx n) s e (sym (ap tx y) ∙ q)) (λ y. h j a k (omega arith) q)))

  search-first : (n : ℕ) → (r : ℕ) × Found fd tx s n r
  search-first zero = (0, absent refl (λ j a k b. absurd (omega arith)))
  search-first (suc n) = let f = search-first n in found-more n f.0 f.1

  pub first-is : (n : ℕ) → Found fd tx s n (first_of fd tx s n)
  first-is n = let f = search-first n in rw (sym (found-is n f.0 f.1)) f.1

  -- the number of an item that has the text is found
  pub found-num : (n r : ℕ) → 1 ≤ r → fd r ≡ true → tx r ≡ s → NoneBefore fd tx s r → IsNumber fd tx r
  found-num n r l k e m = record { low = l; field = k; none = rw e m }

-- ---- the walk

module _ (bu : Text → ℕ) (fd : ℕ → Bool) (tx : ℕ → Text) {bk ln : ℕ → ℕ} {n : ℕ} (C : Chains bu fd tx bk ln n) (s : Text) where
  pub walk_start : Walk bu fd tx n s (bk (bu s))
  walk_start = record {
    stands = λ l. C.newest s l;
    below = λ j m h e. rw (ap bu e) at (C.all j m h);
  }

  module _ {q : ℕ} (W : Walk bu fd tx n s q) where
    pub walk-hit : 1 ≤ q → tx q ≡ s → Found fd tx s n q
    walk-hit l e = let S = W.stands l in here l S.num.field S.high e (rw e at S.num.none)

    pub walk-falls : 1 ≤ q → ln q < q
    walk-falls l = let S = W.stands l in C.falls q S.num S.high

    pub walk-next : 1 ≤ q → (tx q ≡ s → ⊥) → Walk bu fd tx n s (ln q)
    walk-next l d =
        let S = W.stands l in
        record {
          stands = λ y. rw S.bucket at (C.next q S.num S.high y);
          below = λ j m h e. by_equal (j ≤ ln q) j q (λ z. absurd (d (sym (ap tx z) ∙ e)))
              (λ z. let b : j ≤ q = W.below j m h e in
              C.rest q S.num S.high j m (omega arith) (ap bu e ∙ sym S.bucket));
        }

    pub walk_end : q ≡ 0 → Found fd tx s n 0
    walk_end z = go (first-is fd tx s n)
      where
        go : Found fd tx s n (first_of fd tx s n) → Found fd tx s n 0
        go (absent e h) = absent refl h
        go (here l k h e m) =
            let b : first_of fd tx s n ≤ q = W.below (first_of fd tx s n) (found-num fd tx s n (first_of fd tx s n) l k e m) h e in
            absurd (omega arith)
