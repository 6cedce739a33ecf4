-- One more entry keeps the links and the first entries' places; and what links say hangs on their own entries alone.
use Rattle.std.specs.Prelude.{◌≡◌, refl, ℕ, ◌+◌, ◌≤◌, ◌<◌}
use Rattle.std.proofs.Common.{sym, ap, ◌∙◌, arith}
use Rattle.eval_keys.specs.Texts.{by_equal, by_less}
use Rattle.eval_groups.specs.Links.{None, Link, first, later, Links, First, Wheres}

-- ---- other keys and links that agree from base to top

module _ (ks ln : ℕ → ℕ) (base top : ℕ) (ks' ln' : ℕ → ℕ) (keys : (j : ℕ) → base ≤ j → j < top → ks' j ≡ ks j) where
  pub none-same : (k i e : ℕ) → base ≤ i → e ≤ top → None ks k i e → None ks' k i e
  none-same k i e l h n j a b x = n j a b (sym (keys j (omega arith) (omega arith)) ∙ x)

  pub link-same : (p : ℕ) → base ≤ p → p < top → ln' p ≡ ln p → Link ks ln base top p → Link ks' ln' base top p
  link-same p l h e (first n a b s m) =
      let k : ks' p ≡ ks p = keys p l h in
      let q : ks' (ln' p) ≡ ks' p = ap ks' e ∙ keys (ln p) (omega arith) b ∙ s ∙ sym k in
      first (rw k (none-same (ks p) base p (omega arith) (omega arith) n)) (rw e a) (rw e b) q
      (rw (k, e) (none-same (ks p) (ln p + 1) top (omega arith) (omega arith) m))
  link-same p l h e (later a b s m) =
      let k : ks' p ≡ ks p = keys p l h in
      let q : ks' (ln' p) ≡ ks' p = ap ks' e ∙ keys (ln p) a (omega arith) ∙ s ∙ sym k in
      later (rw e a) (rw e b) q (rw (k, e) (none-same (ks p) (ln p + 1) p (omega arith) (omega arith) m))

  pub links-same : ((j : ℕ) → base ≤ j → j < top → ln' j ≡ ln j) → Links ks ln base top → Links ks' ln' base top
  links-same e L = record { at = λ p l h. link-same p l h (e p l h) (L.at p l h) }

  -- ---- one more entry, with key k

  none_more : (k j e : ℕ) → base ≤ j → e ≡ top → None ks k j top → (ks' top ≡ k → ⊥) → None ks' k j (e + 1)
  none_more k j e l h n z i a b x =
      by_equal ⊥ i top (λ q. z (sym (ap ks' q) ∙ x)) (λ q. n i a (omega arith) (sym (keys i (omega arith) (omega arith)) ∙ x))

  -- an entry whose link stays: the last of its key is still the last, if the new one has another key
  link-more : (p : ℕ) → base ≤ p → p < top → ln' p ≡ ln p → (None ks (ks p) base p → ks' top ≡ ks p → ⊥) → Link ks ln base top p
      → Link ks' ln' base (top + 1) p
  link-more p l h e z (first n a b s m) =
      let k : ks' p ≡ ks p = keys p l h in
      let q : ks' (ln' p) ≡ ks' p = ap ks' e ∙ keys (ln p) (omega arith) b ∙ s ∙ sym k in
      first (rw k (none-same (ks p) base p (omega arith) (omega arith) n)) (rw e a) (rw e (omega arith)) q
      (rw (k, e) (none_more (ks p) (ln p + 1) top (omega arith) refl m (z n)))
  link-more p l h e z (later a b s m) =
      let k : ks' p ≡ ks p = keys p l h in
      let q : ks' (ln' p) ≡ ks' p = ap ks' e ∙ keys (ln p) a (omega arith) ∙ s ∙ sym k in
      later (rw e a) (rw e b) q (rw (k, e) (none-same (ks p) (ln p + 1) p (omega arith) (omega arith) m))

  -- the first entry of its key
  pub links-new : Links ks ln base top → base ≤ top → None ks (ks' top) base top → ln' top ≡ top
      → ((j : ℕ) → base ≤ j → j < top → ln' j ≡ ln j) → Links ks' ln' base (top + 1)
  links-new L low none here others = record { at = go }
    where
      go : (p : ℕ) → base ≤ p → p < top + 1 → Link ks' ln' base (top + 1) p
      go p l h =
          by_equal (Link ks' ln' base (top + 1) p) p top
          (λ e. rw e (first (none-same (ks' top) base top (omega arith) (omega arith) none) (rw here (omega arith)) (rw here (omega arith)) (ap ks' here)
          (λ j a b x. let c : top + 1 ≤ j = rw here at a in omega arith)))
          (λ e. let i : p < top = omega arith in
          link-more p l i (others p l i) (λ n x. none p l i (sym x)) (L.at p l i))

  -- f is the first entry of its key
  module _ (L : Links ks ln base top) (f : ℕ) (low : base ≤ f) (high : f < top) (same : ks f ≡ ks' top) (none : None ks (ks' top) base f)
      (here : ln' top ≡ ln f) (at_first : ln' f ≡ top) (others : (j : ℕ) → base ≤ j → j < top → (j ≡ f → ⊥) → ln' j ≡ ln j) where
    old-first : Link ks' ln' base (top + 1) f
    old-first =
        let k : ks' f ≡ ks' top = keys f low high ∙ same in
        first (rw k (none-same (ks' top) base f (omega arith) (omega arith) none)) (rw at_first (omega arith)) (rw at_first (omega arith))
        (ap ks' at_first ∙ sym k) (λ j a b x. let c : top + 1 ≤ j = rw at_first at a in omega arith)

    old-here : Link ks ln base top f → Link ks' ln' base (top + 1) top
    old-here (first n a b s m) =
        later (rw here (omega arith)) (rw here b) (ap ks' here ∙ keys (ln f) (omega arith) b ∙ s ∙ same)
        (rw here (none-same (ks' top) (ln f + 1) top (omega arith) (omega arith) (rw same at m)))
    old-here (later a b s m) = absurd (none (ln f) a b (s ∙ same))

    pub links-old : Links ks' ln' base (top + 1)
    links-old = record { at = go }
      where
        go : (p : ℕ) → base ≤ p → p < top + 1 → Link ks' ln' base (top + 1) p
        go p l h =
            by_equal (Link ks' ln' base (top + 1) p) p top (λ e. rw e (old-here (L.at f low high)))
            (λ e. by_equal (Link ks' ln' base (top + 1) p) p f (λ x. rw x old-first)
            (λ x. let i : p < top = omega arith in
            link-more p l i (others p l i x)
            (λ n y. by-lower p l n y x) (L.at p l i)))
          where
            by-lower : (p : ℕ) → base ≤ p → None ks (ks p) base p → ks' top ≡ ks p → (p ≡ f → ⊥) → ⊥
            by-lower p l n y x =
                by_less ⊥ p f (λ z. none p l z (sym y)) (λ z. let u : f < p = omega arith in n f low u (same ∙ y))

-- ---- where the first entries are

module _ (ks wh : ℕ → ℕ) (base top : ℕ) (ks' wh' : ℕ → ℕ) (keys : (j : ℕ) → base ≤ j → j < top → ks' j ≡ ks j) where
  first-same : (p f f' : ℕ) → base ≤ p → p < top → f' ≡ f → First ks base p f → First ks' base p f'
  first-same p f f' l h e F =
      let a : base ≤ f = F.low in
      let b : f ≤ p = F.upto in
      let k : ks' p ≡ ks p = keys p l h in
      record {
        low = rw e a;
        upto = rw e b;
        same = ap ks' e ∙ keys f a (omega arith) ∙ F.same ∙ sym k;
        none = λ j x y z. let u : j < f = rw e at y in F.none j x u (sym (keys j x (omega arith)) ∙ z ∙ k);
      }

  pub wheres-same : ((j : ℕ) → base ≤ j → j < top → wh' (ks j) ≡ wh (ks j)) → Wheres ks wh base top → Wheres ks' wh' base top
  wheres-same e W = record { at = λ p l h. first-same p (wh (ks p)) (wh' (ks' p)) l h (ap wh' (keys p l h) ∙ e p l h) (W.at p l h) }

  -- the first entry of its key
  pub wheres-new : Wheres ks wh base top → base ≤ top → None ks (ks' top) base top → wh' (ks' top) ≡ top
      → ((j : ℕ) → base ≤ j → j < top → (ks j ≡ ks' top → ⊥) → wh' (ks j) ≡ wh (ks j)) → Wheres ks' wh' base (top + 1)
  wheres-new W low none here others = record { at = go }
    where
      go : (p : ℕ) → base ≤ p → p < top + 1 → First ks' base p (wh' (ks' p))
      go p l h =
          by_equal (First ks' base p (wh' (ks' p))) p top
          (λ e. rw (e, here) (record {
            low = low;
            upto = omega arith;
            same = refl;
            none = λ j x y z. none j x y (sym (keys j x y) ∙ z);
          }))
          (λ e. let i : p < top = omega arith in
          let k : ks' p ≡ ks p = keys p l i in
          first-same p (wh (ks p)) (wh' (ks' p)) l i (ap wh' k ∙ others p l i (none p l i)) (W.at p l i))

  -- f is the first entry of its key
  pub wheres-old : Wheres ks wh base top → (f : ℕ) → base ≤ f → f < top → ks f ≡ ks' top
      → ((j : ℕ) → base ≤ j → j < top → wh' (ks j) ≡ wh (ks j)) → wh' (ks' top) ≡ f → None ks (ks' top) base f → Wheres ks' wh' base (top + 1)
  wheres-old W f low high same others here none = record { at = go }
    where
      go : (p : ℕ) → base ≤ p → p < top + 1 → First ks' base p (wh' (ks' p))
      go p l h =
          by_equal (First ks' base p (wh' (ks' p))) p top
          (λ e. rw (e, here) (record {
            low = low;
            upto = omega arith;
            same = keys f low high ∙ same;
            none = λ j x y z. none j x y (sym (keys j x (omega arith)) ∙ z);
          }))
          (λ e. let i : p < top = omega arith in
          first-same p (wh (ks p)) (wh' (ks' p)) l i (ap wh' (keys p l i) ∙ others p l i) (W.at p l i))

-- ---- what WHERE has for a key: its first entry, if the tests say so; else the key has none

module _ (ks wh : ℕ → ℕ) (base top k : ℕ) (W : Wheres ks wh base top) where
  pub where-first : base ≤ wh k → wh k < top → ks (wh k) ≡ k → None ks k base (wh k)
  where-first l h e =
      let F : First ks base (wh k) (wh k) = rw e at (W.at (wh k) l h) in
      rw e at F.none

  pub where-none : (base ≤ wh k → wh k < top → ks (wh k) ≡ k → ⊥) → None ks k base top
  where-none z j l h e =
      let F : First ks base j (wh k) = rw e at (W.at j l h) in
      let u : wh k ≤ j = F.upto in
      z F.low (omega arith) (F.same ∙ e)
