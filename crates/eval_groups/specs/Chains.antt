-- The walk along a group: from the link of a key's first entry down to it stand the members with that key, last first.
use Rattle.std.specs.Prelude.{◌≡◌, Bool, cond, ltb, eqb, length}
use Rattle.std.proofs.Math.Path.{refl, sym, ap}
use Rattle.std.proofs.Common.{◌∙◌, arith}
use Rattle.std.proofs.Math.Bool.{true, false}
use mathlib.Core.List.{List, [], ◌∷◌, reverse, reverse_aux}
use Prim.Native.Nat.{ℕ, zero, suc, ◌+◌, ◌-◌, ◌≤◌, ◌<◌}
use borrow.Author.Tests.{ltb-true, lt-ltb, le-ltb, eq-eqb, ne_eqb}
use Rattle.eval_keys.specs.Texts.{by_equal}
use Rattle.eval_stack.specs.Model.{code_at, link_at, seg}
use Rattle.eval_groups.specs.Model.{chain_n, chain_at, chain_c}
use Rattle.eval_groups.specs.Links.{None, Link, first, later, Links}
use Rattle.eval_groups.specs.Groups.{keys_at, Chained, filter_key}

-- ---- one member more of a walk

-- enough fuel is enough
chain-fuel : (w : List ℕ) (n m q : ℕ) → q < n → q < m → chain_n n w q ≡ chain_n m w q
unfolding chain_n
chain-fuel w zero m q a b = absurd (omega arith)
chain-fuel w (suc n) zero q a b = absurd (omega arith)
chain-fuel w (suc n) (suc m) q a b = go (ltb (link_at w q) q) refl (λ x. chain-fuel w n m (link_at w q) (omega arith) (omega arith))
  where
    go : (t : Bool) → ltb (link_at w q) q ≡ t → (link_at w q < q → chain_n n w (link_at w q) ≡ chain_n m w (link_at w q))
        → code_at w q ∷ cond t (chain_n n w (link_at w q)) [] ≡ code_at w q ∷ cond t (chain_n m w (link_at w q)) []
    go true e ih = ap (λ (l : List ℕ). code_at w q ∷ l) (ih (ltb-true (link_at w q) q e))
    go false e ih = refl

pub chain-some : (w : List ℕ) (q : ℕ) → (rest : List ℕ) × (chain_at w q ≡ code_at w q ∷ rest)
unfolding chain_n
chain-some w q = (cond (ltb (link_at w q) q) (chain_n q w (link_at w q)) [], refl)

pub chain-last : (w : List ℕ) (q : ℕ) → q ≤ link_at w q → chain_at w q ≡ code_at w q ∷ []
unfolding chain_n
chain-last w q h = rw (le-ltb (link_at w q) q h) refl

pub chain_more : (w : List ℕ) (q n : ℕ) → link_at w q ≡ n → n < q → chain_at w q ≡ code_at w q ∷ chain_at w n
unfolding chain_n
chain_more w q n e h =
    let l : link_at w q < q = omega arith in
    rw (lt-ltb (link_at w q) q l) (ap (λ (x : List ℕ). code_at w q ∷ x) (chain-fuel w q (suc (link_at w q)) (link_at w q) l (omega arith)
    ∙ ap (λ (m : ℕ). chain_at w m) e))

-- other content from top on
pub chain_same : (w w' : List ℕ) (top : ℕ) → ((p : ℕ) → p < top → code_at w' p ≡ code_at w p) → ((p : ℕ) → p < top → link_at w' p ≡ link_at w p)
    → (n q : ℕ) → q < top → chain_n n w' q ≡ chain_n n w q
unfolding chain_n
chain_same w w' top codes links zero q h = refl
chain_same w w' top codes links (suc n) q h = go (link_at w' q) (links q h) (codes q h) (λ p. chain_same w w' top codes links n p)
  where
    by : (l : ℕ) (t : Bool) → ltb l q ≡ t → ((p : ℕ) → p < top → chain_n n w' p ≡ chain_n n w p)
        → cond t (chain_n n w' l) [] ≡ cond t (chain_n n w l) []
    by l true e ih = ih l (let x : l < q = ltb-true l q e in omega arith)
    by l false e ih = refl

    go : (l : ℕ) → l ≡ link_at w q → code_at w' q ≡ code_at w q → ((p : ℕ) → p < top → chain_n n w' p ≡ chain_n n w p)
        → code_at w' q ∷ cond (ltb l q) (chain_n n w' l) [] ≡ code_at w q ∷ cond (ltb (link_at w q) q) (chain_n n w (link_at w q)) []
    go l e c ih =
        ap (λ (x : ℕ). x ∷ cond (ltb l q) (chain_n n w' l) []) c
        ∙ ap (λ (x : List ℕ). code_at w q ∷ x) (by l (ltb l q) refl ih)
        ∙ ap (λ (x : ℕ). code_at w q ∷ cond (ltb x q) (chain_n n w x) []) e

-- ---- all members of a group

module _ (key : ℕ → ℕ) where
  -- ---- filters

  filter-yes : (k c : ℕ) (cs : List ℕ) → key c ≡ k → filter_key key k (c ∷ cs) ≡ c ∷ filter_key key k cs
  unfolding filter_key
  filter-yes k c cs e = rw (filter_key, eq-eqb (key c) k e) refl

  filter-no : (k c : ℕ) (cs : List ℕ) → (key c ≡ k → ⊥) → filter_key key k (c ∷ cs) ≡ filter_key key k cs
  unfolding filter_key
  filter-no k c cs e = rw (filter_key, ne_eqb (key c) k e) refl

  filter-reverse : (k : ℕ) (xs ys : List ℕ) → filter_key key k (reverse_aux xs ys) ≡ reverse_aux (filter_key key k xs) (filter_key key k ys)
  unfolding filter_key
  filter-reverse k [] ys = refl
  filter-reverse k (c ∷ xs) ys = filter-reverse k xs (c ∷ ys) ∙ go (eqb (key c) k)
    where
      go : (t : Bool) → reverse_aux (filter_key key k xs) (cond t (c ∷ filter_key key k ys) (filter_key key k ys))
          ≡ reverse_aux (cond t (c ∷ filter_key key k xs) (filter_key key k xs)) (filter_key key k ys)
      go true = refl
      go false = refl

  pub filter-reversed : (k : ℕ) (xs : List ℕ) → filter_key key k (reverse xs) ≡ reverse (filter_key key k xs)
  unfolding filter_key
  filter-reversed k xs = filter-reverse k xs []

  module _ (w : List ℕ) (k base : ℕ) where
    -- entries on top that have not the key
    pub skip : (n m : ℕ) → m ≤ n → None (keys_at key w) k (base + m) (base + n) → filter_key key k (seg w base n) ≡ filter_key key k (seg w base m)
    skip zero m l h = let e : m ≡ 0 = omega arith in rw e refl
    skip (suc n) m l h =
        by_equal (filter_key key k (seg w base (suc n)) ≡ filter_key key k (seg w base m)) m (suc n) (λ e. rw e refl)
        (λ e. filter-no k (code_at w (base + n)) (seg w base n) (h (base + n) (omega arith) (omega arith))
        ∙ skip n m (omega arith) (λ j a b. h j a (omega arith)))

    skip-to : (n q : ℕ) → base ≤ q → q < base + n → None (keys_at key w) k (q + 1) (base + n)
        → filter_key key k (seg w base n) ≡ filter_key key k (seg w base (q + 1 - base))
    skip-to n q l h z = skip n (q + 1 - base) (omega arith) (λ j a b. z j (omega arith) b)

    -- the entry q has the key
    here : (q : ℕ) → base ≤ q → keys_at key w q ≡ k
        → filter_key key k (seg w base (q + 1 - base)) ≡ code_at w q ∷ filter_key key k (seg w base (q - base))
    here q l e =
        let a : q + 1 - base ≡ suc (q - base) = omega arith in
        let b : base + (q - base) ≡ q = omega arith in
        ap (λ (n : ℕ). filter_key key k (seg w base n)) a
        ∙ ap (λ (p : ℕ). filter_key key k (code_at w p ∷ seg w base (q - base))) b
        ∙ filter-yes k (code_at w q) (seg w base (q - base)) e

    module _ (top : ℕ) (L : Links (keys_at key w) (link_at w) base top) where
      chain-is : (n q : ℕ) → q < n → base ≤ q → q < top → keys_at key w q ≡ k → chain_n n w q ≡ filter_key key k (seg w base (q + 1 - base))
      unfolding chain_n filter_key
      chain-is zero q z l h e = absurd (omega arith)
      chain-is (suc n) q z l h e = go (λ p. chain-is n p) (L.at q l h)
        where
          go : ((p : ℕ) → p < n → base ≤ p → p < top → keys_at key w p ≡ k → chain_n n w p ≡ filter_key key k (seg w base (p + 1 - base)))
              → Link (keys_at key w) (link_at w) base top q → chain_n (suc n) w q ≡ filter_key key k (seg w base (q + 1 - base))
          go ih (first o a b s m) =
              let x : filter_key key k (seg w base (q - base)) ≡ [] = skip (q - base) 0 (omega arith) (λ j u v. rw e at o j (omega arith) (omega arith)) in
              rw (le-ltb (link_at w q) q a) (sym (here q l e ∙ ap (λ (r : List ℕ). code_at w q ∷ r) x))
          go ih (later a b s m) =
              let x : filter_key key k (seg w base (q - base)) ≡ filter_key key k (seg w base (link_at w q + 1 - base)) =
              skip-to (q - base) (link_at w q) a (omega arith) (λ j u v. rw e at m j u (omega arith)) in
              rw (lt-ltb (link_at w q) q b)
              (ap (λ (r : List ℕ). code_at w q ∷ r) (ih (link_at w q) (omega arith) a (omega arith) (s ∙ e) ∙ sym x) ∙ sym (here q l e))

      -- f is the key's first entry
      pub group-is : (f : ℕ) → base ≤ f → f < top → keys_at key w f ≡ k → f ≤ link_at w f
          → chain_c w top (link_at w f) ≡ filter_key key k (seg w base (top - base))
      unfolding chain_c
      group-is f l h e u = go (L.at f l h)
        where
          go : Link (keys_at key w) (link_at w) base top f → chain_c w top (link_at w f) ≡ filter_key key k (seg w base (top - base))
          go (first o a b s m) =
              let x : filter_key key k (seg w base (top - base)) ≡ filter_key key k (seg w base (link_at w f + 1 - base)) =
              skip-to (top - base) (link_at w f) (omega arith) (omega arith) (λ j y v. rw e at m j y (omega arith)) in
              rw (lt-ltb (link_at w f) top b)
              (chain-is (suc (link_at w f)) (link_at w f) (omega arith) (omega arith) b (s ∙ e) ∙ sym x)
          go (later a b s m) = absurd (omega arith)

  -- The walk from the link of a first entry visits the codes with its key, last first.
  pub members-walked : {base top : ℕ} {xs w : List ℕ} → Chained key base top xs w → (f : ℕ) → base ≤ f → f < top → f ≤ link_at w f
      → chain_c w top (link_at w f) ≡ reverse (filter_key key (keys_at key w f) xs)
  members-walked {base} {top} {xs} {w} C f l h u =
      let n : top ≡ base + length xs = C.size in
      let s : top - base ≡ length xs = omega arith in
      group-is w (keys_at key w f) base top C.links f l h refl u
      ∙ ap (λ (m : ℕ). filter_key key (keys_at key w f) (seg w base m)) s
      ∙ ap (filter_key key (keys_at key w f)) C.entries
      ∙ filter-reversed (keys_at key w f) xs
