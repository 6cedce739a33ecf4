-- One more item keeps the chains; and what they say hangs on the texts of the items before n alone.
use Rattle.std.specs.Prelude.{◌≡◌, Bool, true, ℕ, ◌+◌, ◌≤◌, ◌<◌}
use Rattle.std.proofs.Common.{sym, ap, ◌∙◌, arith}
use Rattle.rules.specs.Bytes.{Text}
use Rattle.eval_keys.specs.Texts.{by_equal, by_less}
use Rattle.eval_keys.specs.Numbers.{NoneBefore, IsNumber, NumberOf, Given, InBucket, Chains}

-- ---- other texts that agree before n

module _ (fd fd' : ℕ → Bool) (tx tx' : ℕ → Text) (n : ℕ) (tells : (j : ℕ) → 1 ≤ j → j < n → fd' j ≡ fd j)
    (agree : (j : ℕ) → 1 ≤ j → j < n → tx' j ≡ tx j) where
  pub none-same : (s : Text) (e : ℕ) → e ≤ n → NoneBefore fd tx s e → NoneBefore fd' tx' s e
  none-same s e l h j a k b q = h j a (sym (tells j a (omega arith)) ∙ k) b (sym (agree j a (omega arith)) ∙ q)

  pub first-same : (i r : ℕ) → 1 ≤ i → i < n → NumberOf fd tx i r → NumberOf fd' tx' i r
  first-same i r l h F =
      let a : 1 ≤ r = F.low in
      let b : r ≤ i = F.upto in
      let e : tx' i ≡ tx i = agree i l h in
      record {
        low = a;
        field = tells r a (omega arith) ∙ F.field;
        upto = b;
        same = agree r a (omega arith) ∙ F.same ∙ sym e;
        none = λ j c k d q. F.none j c (sym (tells j c (omega arith)) ∙ k) d (sym (agree j c (omega arith)) ∙ q ∙ e);
      }

  num-back : (j : ℕ) → j < n → IsNumber fd' tx' j → IsNumber fd tx j
  num-back j h N =
      let l : 1 ≤ j = N.low in
      record { low = l; field = sym (tells j l h) ∙ N.field; none = λ i a k b q. N.none i a (tells i a (omega arith) ∙ k) b (agree i a (omega arith) ∙ q ∙ sym (agree j l h)) }

  num-on : (j : ℕ) → j < n → IsNumber fd tx j → IsNumber fd' tx' j
  num-on j h N =
      let l : 1 ≤ j = N.low in
      record { low = l; field = tells j l h ∙ N.field; none = λ i a k b q. N.none i a (sym (tells i a (omega arith)) ∙ k) b (sym (agree i a (omega arith)) ∙ q ∙ agree j l h) }

  module _ (bu : Text → ℕ) where
    stands_on : (b q : ℕ) → InBucket bu fd tx n b q → InBucket bu fd' tx' n b q
    stands_on b q S = record {
      num = num-on q S.high S.num;
      high = S.high;
      bucket = ap bu (agree q S.num.low S.high) ∙ S.bucket;
    }

    pub chain_same : {bk ln : ℕ → ℕ} → Chains bu fd tx bk ln n → Chains bu fd' tx' bk ln n
    chain_same {bk} {ln} C = record {
      newest = λ s l. stands_on (bu s) (bk (bu s)) (C.newest s l);
      all = λ j N h. rw (agree j N.low h) (C.all j (num-back j h N) h);
      falls = λ r N h. C.falls r (num-back r h N) h;
      next = λ r N h l. rw (agree r N.low h) (stands_on (bu (tx r)) (ln r) (C.next r (num-back r h N) h l));
      rest = λ r N h j M l e. C.rest r (num-back r h N) h j (num-back j (omega arith) M) l
          (sym (ap bu (agree j M.low (omega arith))) ∙ e ∙ ap bu (agree r N.low h));
    }

-- ---- one more item, n

module _ (bu : Text → ℕ) (fd : ℕ → Bool) (tx : ℕ → Text) where
  stands-more : {n b q : ℕ} → InBucket bu fd tx n b q → InBucket bu fd tx (n + 1) b q
  stands-more {n} {b} {q} S = let h : q < n = S.high in record { num = S.num; high = omega arith; bucket = S.bucket }

  -- other columns that agree
  pub chain-moved : {bk ln : ℕ → ℕ} (bk' ln' : ℕ → ℕ) (n : ℕ) → Chains bu fd tx bk ln n → ((s : Text) → bk' (bu s) ≡ bk (bu s))
      → ((j : ℕ) → 1 ≤ j → j < n → ln' j ≡ ln j) → Chains bu fd tx bk' ln' n
  chain-moved bk' ln' n C bs links = record {
    newest = λ s l. rw (bs s) (C.newest s (rw (bs s) at l));
    all = λ j N h. rw (bs (tx j)) (C.all j N h);
    falls = λ r N h. rw (links r N.low h) (C.falls r N h);
    next = λ r N h l. rw (links r N.low h) (C.next r N h (rw (links r N.low h) at l));
    rest = λ r N h j M l e. rw (links r N.low h) (C.rest r N h j M l e);
  }

  module _ (bk ln bk' ln' : ℕ → ℕ) (n : ℕ) (C : Chains bu fd tx bk ln n) (links : (j : ℕ) → j < n → ln' j ≡ ln j) where
    -- its text has a number
    pub chain-old : (IsNumber fd tx n → ⊥) → ((s : Text) → bk' (bu s) ≡ bk (bu s)) → Chains bu fd tx bk' ln' (n + 1)
    chain-old old bs = record {
      newest = λ s l. rw (bs s) (stands-more (C.newest s (rw (bs s) at l)));
      all = λ j N h. rw (bs (tx j)) (C.all j N (less j N h));
      falls = λ r N h. rw (links r (less r N h)) (C.falls r N (less r N h));
      next = λ r N h l. rw (links r (less r N h)) (stands-more (C.next r N (less r N h) (rw (links r (less r N h)) at l)));
      rest = λ r N h j M l e. rw (links r (less r N h)) (C.rest r N (less r N h) j M l e);
    }
      where
        less : (j : ℕ) → IsNumber fd tx j → j < n + 1 → j < n
        less j N h = by_equal (j < n) j n (λ e. absurd (old (rw e at N))) (λ e. omega arith)

    -- it is a number itself, the newest of its bucket
    module _ (N : IsNumber fd tx n) (new : bk' (bu (tx n)) ≡ n) (link : ln' n ≡ bk (bu (tx n)))
        (others : (s : Text) → (bu s ≡ bu (tx n) → ⊥) → bk' (bu s) ≡ bk (bu s)) where
      the-newest : (s : Text) → 1 ≤ bk' (bu s) → InBucket bu fd tx (n + 1) (bu s) (bk' (bu s))
      the-newest s l = by_equal (InBucket bu fd tx (n + 1) (bu s) (bk' (bu s))) (bu s) (bu (tx n))
          (λ e. let z : bk' (bu s) ≡ n = ap bk' e ∙ new in rw z (record { num = N; high = omega arith; bucket = sym e }))
          (λ e. rw (others s e) (stands-more (C.newest s (rw (others s e) at l))))

      all-below : (j : ℕ) → IsNumber fd tx j → j < n + 1 → j ≤ bk' (bu (tx j))
      all-below j M h = by_equal (j ≤ bk' (bu (tx j))) (bu (tx j)) (bu (tx n))
          (λ e. let z : bk' (bu (tx j)) ≡ n = ap bk' e ∙ new in omega arith)
          (λ e. let z : bk' (bu (tx j)) ≡ bk (bu (tx j)) = others (tx j) e in
          by_equal (j ≤ bk' (bu (tx j))) j n (λ y. absurd (e (ap (λ (i : ℕ). bu (tx i)) y)))
          (λ y. let a = C.all j M (omega arith) in omega arith))

      new-falls : ln' n < n
      new-falls = by_less (ln' n < n) (bk (bu (tx n))) 1 (λ l. let z : 1 ≤ n = N.low in omega arith)
          (λ l. let h = (C.newest (tx n) l).high in omega arith)

      pub chain-new : Chains bu fd tx bk' ln' (n + 1)
      chain-new = record {
        newest = the-newest;
        all = all-below;
        falls = λ r M h. by_equal (ln' r < r) r n (λ e. rw e new-falls)
            (λ e. let l : r < n = omega arith in rw (links r l) (C.falls r M l));
        next = λ r M h l. by_equal (InBucket bu fd tx (n + 1) (bu (tx r)) (ln' r)) r n
            (λ e. let z : ln' r ≡ bk (bu (tx n)) = ap ln' e ∙ link in
            let y : 1 ≤ bk (bu (tx n)) = omega arith in
            rw (z, ap (λ (i : ℕ). bu (tx i)) e) (stands-more (C.newest (tx n) y)))
            (λ e. let y : r < n = omega arith in rw (links r y) (stands-more (C.next r M y (rw (links r y) at l))));
        rest = λ r M h j K l q. by_equal (j ≤ ln' r) r n
            (λ e. let z : ln' r ≡ bk (bu (tx n)) = ap ln' e ∙ link in
            let y : bu (tx j) ≡ bu (tx n) = q ∙ ap (λ (i : ℕ). bu (tx i)) e in
            let a : j ≤ bk (bu (tx n)) = rw y at (C.all j K (omega arith)) in
            omega arith)
            (λ e. let y : r < n = omega arith in rw (links r y) (C.rest r M y j K l q));
      }

-- the numbers of the items; n has its number, if it has a key
pub given-more : (fd fd' : ℕ → Bool) (tx tx' : ℕ → Text) (ks ks' : ℕ → ℕ) (n : ℕ) → ((j : ℕ) → 1 ≤ j → j < n + 1 → fd' j ≡ fd j)
    → ((j : ℕ) → 1 ≤ j → j < n + 1 → tx' j ≡ tx j) → ((j : ℕ) → j < n → ks' j ≡ ks j)
    → (fd n ≡ true → NumberOf fd tx n (ks' n)) → Given fd tx ks n → Given fd' tx' ks' (n + 1)
given-more fd fd' tx tx' ks ks' n tells agree keys F A = record {
  at = λ i l k h. let f : fd i ≡ true = sym (tells i l h) ∙ k in
      first-same fd fd' tx tx' (n + 1) tells agree i (ks' i) l h (by_equal (NumberOf fd tx i (ks' i)) i n (λ e. rw e (F (sym (ap fd e) ∙ f)))
      (λ e. let z : i < n = omega arith in rw (keys i z) (A.at i l f z)));
}
