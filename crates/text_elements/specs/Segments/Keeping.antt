-- The model keeps the elements: a path so far with its buffers holds whole elements and one that is being read, and each step of the code
-- does to these what the rules do.
use Rattle.std.specs.Prelude.{◌≡◌, Bool, false, List, [], ◌∷◌, ◌++◌, ℕ, suc, ◌+◌, ◌*◌, ◌≤◌, ◌<◌, eqb, get_or, set, drop}
use Rattle.std.proofs.Math.Path.{refl, sym, ap}
use Rattle.std.proofs.Common.{◌∙◌, append_assoc, append-nil, add-one, length-set, eq-eqb, ne_eqb}
use Rattle.std.proofs.Math.Bool.{true, cond, or-false, or-true}
use native.Mathlib.Omega.{arith}
use Rattle.std.proofs.Math.ListN.{length, take, length-append}
use Rattle.std.proofs.Math.Seq.{slice, take-take, take-suc-set, drop-append_seam, length-take-le, take-append-le}
use Rattle.std.proofs.lemmas.List.{take-set-le}
use Rattle.rules.specs.Bytes.{Text}
use Rattle.rules.specs.Paths.{Element, fresh, grown, is_empty, any_empty, split_text}
use Rattle.text_elements.specs.Marks.Marks.{marked, marks_room, mark_c}
use Rattle.text_elements.specs.Marks.Marking.{mark-length, mark-other, mark-own}
use Rattle.text_elements.specs.Marks.Holding.{Held}
use Rattle.text_elements.specs.Segments.Model.{State, state, push_c, byte_c, split_c}
use Rattle.text_elements.specs.Model.{emptied, finish_c, quoted_c}
use Rattle.text_elements.specs.declared.Path.{Path}
use Rattle.text_elements.specs.Segments.Pieces.{split_to}
use Rattle.text_elements.specs.Segments.Holding.{joined, Holds}

-- ---- frames: held elements depend on the text that they have, and on their own marks

same-slice : (n from to : ℕ) (out out' : List ℕ) → take n out ≡ take n out' → to ≤ n → slice from to out ≡ slice from to out'
same-slice n from to out out' e h =
    ap (drop from) (sym (take-take to n out h) ∙ ap (take to) e ∙ take-take to n out' h)

pub held-frame : (from i n : ℕ) (es : List Element) (out out' marks marks' : List ℕ) → from + length (joined es) ≤ n → take n out ≡ take n out'
    → ((j : ℕ) → j < 2 * (i + length es) → get_or marks j 0 ≡ get_or marks' j 0) → Held from i es out marks → Held from i es out' marks'
unfolding joined
held-frame from i n [] out out' marks marks' l t m h = tt
held-frame from i n (e ∷ es) out out' marks marks' l t m (h) =
    let k : length (e.text ++ joined es) ≡ length e.text + length (joined es) = length-append e.text (joined es) in (
      sym (same-slice n from (from + length e.text) out out' t (omega arith)) ∙ h.0,
      λ b. (sym (m (2 * i) (omega arith)) ∙ (h.1 b).0, sym (m (2 * i + 1) (omega arith)) ∙ (h.1 b).1),
      held-frame (from + length e.text) (suc i) n es out out' marks marks' (omega arith) t (λ j b. m j (omega arith)) h.2,
    )

-- one element more at the end
pub held-snoc : (from i : ℕ) (es : List Element) (e : Element) (out marks : List ℕ) → Held from i es out marks
    → Held (from + length (joined es)) (i + length es) (e ∷ []) out marks → Held from i (es ++ (e ∷ [])) out marks
unfolding joined
held-snoc from i [] e out marks h k =
    let f : from + 0 ≡ from = omega arith in
    let g : i + 0 ≡ i = omega arith in
    rw (f, g) at k
held-snoc from i (d ∷ es) e out marks h k =
    let f : from + length (d.text ++ joined es) ≡ from + length d.text + length (joined es) = omega (arith, length-append d.text (joined es)) in
    let g : i + suc (length es) ≡ suc i + length es = omega arith in
    (h.0, h.1, held-snoc (from + length d.text) (suc i) es e out marks h.2 (rw (f, g) at k))

joined_snoc : (es : List Element) (e : Element) → joined (es ++ (e ∷ [])) ≡ joined es ++ e.text
unfolding joined
joined_snoc [] e = append-nil e.text
joined_snoc (d ∷ es) e = ap (λ t. d.text ++ t) (joined_snoc es e) ∙ sym (append_assoc d.text (joined es) e.text)

-- ---- emptiness

any_snoc : (es : List Element) (e : Element) → any_empty (es ++ (e ∷ [])) ≡ cond (any_empty es) true (is_empty e)
unfolding any_empty
any_snoc [] e = go (is_empty e)
  where
    go : (b : Bool) → elim b [ true ↦ true | false ↦ false ] ≡ b
    go true = refl
    go false = refl
any_snoc (d ∷ es) e = go (is_empty d) (any_snoc es e)
  where
    go : (b : Bool) → any_empty (es ++ (e ∷ [])) ≡ cond (any_empty es) true (is_empty e)
        → elim b [ true ↦ true | false ↦ any_empty (es ++ (e ∷ [])) ] ≡ cond (elim b [ true ↦ true | false ↦ any_empty es ]) true (is_empty e)
    go true h = refl
    go false h = h

empty-is : (from used : ℕ) (t : Text) (q : Bool) → used ≡ from + length t
    → cond q false (eqb used from) ≡ elim t [ [] ↦ elim q [ true ↦ false | false ↦ true ] | b ∷ bs ↦ false ]
empty-is from used [] true e = refl
empty-is from used [] false e = eq-eqb used from (omega arith)
empty-is from used (b ∷ bs) true e = refl
empty-is from used (b ∷ bs) false e = ne_eqb used from (λ z. omega arith)

finish-used : (next : ℕ) (p : Path) → (finish_c next p).used.0 ≡ p.used.0
unfolding finish_c
finish-used next p = refl

push-used : (p : Path) → (push_c p).used.0 ≡ p.used.0 + 1
unfolding push_c
push-used p = refl

-- ---- the steps

module _ {x : State} {es : List Element} {e : Element} (h : Holds x es e) where
  pub holds-push : (b : ℕ) → x.path.used.0 < length x.out
      → Holds (state (push_c x.path) (set x.out x.path.used.0 b) x.marks) es (grown e (b ∷ []) false)
  unfolding push_c
  holds-push b l =
      let n = x.path.used.0 in
      let text : take (n + 1) (set x.out n b) ≡ joined es ++ (e.text ++ (b ∷ [])) =
      rw (add-one, take-suc-set x.out n b l, h.text) (append_assoc (joined es) e.text (b ∷ [])) in
      let same : take n x.out ≡ take n (set x.out n b) =
      sym (take-set-le n x.out n b (omega arith)) in
      record {
        count = h.count;
        from = h.from;
        used = omega (arith, h.used, length-append e.text (b ∷ []));
        place = h.place;
        quotes = h.quotes ∙ sym (or-false e.has_quotes);
        empty = h.empty;
        room = rw (length-set x.out n b) (omega arith);
        text = text;
        held = held-frame 0 0 n es x.out (set x.out n b) x.marks x.marks (omega (arith, h.used)) same (λ j k. refl) h.held;
      }

  own-text : slice (length (joined es)) (length (joined es) + length e.text) x.out ≡ e.text
  own-text =
      ap (λ n. drop (length (joined es)) (take n x.out)) (sym h.used) ∙ ap (drop (length (joined es))) h.text
      ∙ drop-append_seam (joined es) e.text

  pub holds-finish : (next : ℕ) → marks_room ≤ length x.marks
      → Holds (state (finish_c next x.path) x.out (mark_c x.path.count x.path.used.0 x.path.place.0 x.marks))
      (es ++ (e ∷ [])) (fresh next)
  unfolding finish_c emptied is_empty joined
  holds-finish next m =
      let p = x.path in
      let marks' = mark_c p.count p.used.0 p.place.0 x.marks in
      let j : joined (es ++ (e ∷ [])) ≡ joined es ++ e.text = joined_snoc es e in
      let l : length (joined (es ++ (e ∷ []))) ≡ p.used.0 = ap length j ∙ length-append (joined es) e.text ∙ sym h.used in
      let own : p.count < marked → (get_or marks' (2 * p.count) 0 ≡ p.used.0) × (get_or marks' (2 * p.count + 1) 0 ≡ p.place.0) =
      mark-own p.count p.used.0 p.place.0 x.marks m in
      let last : Held (0 + length (joined es)) (0 + length es) (e ∷ []) x.out marks' =
      let f : 0 + length (joined es) ≡ length (joined es) = omega arith in
      let g : 0 + length es ≡ p.count = omega (arith, h.count) in
      rw (f, g) (own-text, λ b. ((own b).0 ∙ h.used, (own b).1 ∙ h.place), tt) in
      record {
        count = omega (arith, h.count, length-append es (e ∷ []));
        from = sym l;
        used = omega (arith, l);
        place = refl;
        quotes = refl;
        empty = rw (h.empty, h.quotes) (ap (λ c. cond (any_empty es) true c) (empty-is p.from.0 p.used.0 e.text e.has_quotes (omega (arith, h.used, h.from))) ∙ sym (any_snoc es e));
        room = h.room;
        text = h.text ∙ sym (append-nil (joined (es ++ (e ∷ []))) ∙ j);
        held = held-snoc 0 0 es e x.out marks'
            (held-frame 0 0 p.used.0 es x.out x.out x.marks marks' (omega (arith, h.used)) refl
            (λ i k. mark-other p.count p.used.0 p.place.0 x.marks i (omega (arith, h.count))) h.held) last;
      }

  -- a quoted piece's text, decoded behind what is there
  pub holds-quoted : (t : Text) (out' : List ℕ) → x.path.used.0 + length t ≤ length out'
      → take (x.path.used.0 + length t) out' ≡ take x.path.used.0 x.out ++ t
      → Holds (state (quoted_c (length t) x.path) out' x.marks) es (grown e t true)
  unfolding quoted_c
  holds-quoted t out' l k =
      let n = x.path.used.0 in
      let same : take n x.out ≡ take n out' =
      sym (sym (take-take n (n + length t) out' (omega arith)) ∙ ap (take n) k
      ∙ take-append-le n (take n x.out) t (omega (arith, length-take-le n x.out h.room)) ∙ take-take n n x.out (omega arith)) in
      record {
        count = h.count;
        from = h.from;
        used = omega (arith, h.used, length-append e.text t);
        place = h.place;
        quotes = sym (or-true e.has_quotes);
        empty = h.empty;
        room = l;
        text = k ∙ rw h.text (append_assoc (joined es) e.text t);
        held = held-frame 0 0 n es x.out out' x.marks x.marks (omega (arith, h.used)) same (λ j k. refl) h.held;
      }

-- ---- all bytes of unquoted text

-- that is what the rules split, whatever follows
pub split-is : (es : List Element) (e : Element) (at : ℕ) (bs : Text) (k : Element → List Element)
    → es ++ split_text e at bs k ≡ (split_to es e at bs).0 ++ k (split_to es e at bs).1
unfolding split_to split_text
split-is es e at [] k = refl
split-is es e at (b ∷ bs) k =
    go (eqb b 46) (split-is (es ++ (e ∷ [])) (fresh (at + 1)) (at + 1) bs k) (split-is es (grown e (b ∷ []) false) (at + 1) bs k)
  where
    go : (c : Bool)
        → (es ++ (e ∷ [])) ++ split_text (fresh (at + 1)) (at + 1) bs k
        ≡ (split_to (es ++ (e ∷ [])) (fresh (at + 1)) (at + 1) bs).0 ++ k (split_to (es ++ (e ∷ [])) (fresh (at + 1)) (at + 1) bs).1
        → es ++ split_text (grown e (b ∷ []) false) (at + 1) bs k
        ≡ (split_to es (grown e (b ∷ []) false) (at + 1) bs).0 ++ k (split_to es (grown e (b ∷ []) false) (at + 1) bs).1
        → es ++ (elim c [ true ↦ e ∷ split_text (fresh (at + 1)) (at + 1) bs k | false ↦ split_text (grown e (b ∷ []) false) (at + 1) bs k ])
        ≡ (cond c (split_to (es ++ (e ∷ [])) (fresh (at + 1)) (at + 1) bs) (split_to es (grown e (b ∷ []) false) (at + 1) bs)).0
        ++ k (cond c (split_to (es ++ (e ∷ [])) (fresh (at + 1)) (at + 1) bs) (split_to es (grown e (b ∷ []) false) (at + 1) bs)).1
    go true p q = sym (append_assoc es (e ∷ []) (split_text (fresh (at + 1)) (at + 1) bs k)) ∙ p
    go false p q = q

-- and what the model holds
pub holds-split : (bs : Text) (x : State) (es : List Element) (e : Element) (at : ℕ) → Holds x es e → x.path.used.0 + length bs ≤ length x.out
    → marks_room ≤ length x.marks → Holds (split_c at bs x) (split_to es e at bs).0 (split_to es e at bs).1
unfolding split_c split_to byte_c
holds-split [] x es e at h r m = h
holds-split (b ∷ bs) x es e at h r m =
    go (eqb b 46) (λ l. holds-split bs _ _ _ (at + 1) (holds-finish h (at + 1) m) (rw (finish-used (at + 1) x.path) (omega arith)) (rw (mark-length x.path.count x.path.used.0 x.path.place.0 x.marks) m))
    (λ l. holds-split bs _ _ _ (at + 1) (holds-push h b (omega arith)) (rw (push-used x.path, length-set x.out x.path.used.0 b) (omega arith)) m)
  where
    go : (c : Bool)
        → (c ≡ true → Holds (split_c (at + 1) bs (state (finish_c (at + 1) x.path) x.out (mark_c x.path.count x.path.used.0 x.path.place.0 x.marks)))
        (split_to (es ++ (e ∷ [])) (fresh (at + 1)) (at + 1) bs).0 (split_to (es ++ (e ∷ [])) (fresh (at + 1)) (at + 1) bs).1)
        → (c ≡ false → Holds (split_c (at + 1) bs (state (push_c x.path) (set x.out x.path.used.0 b) x.marks))
        (split_to es (grown e (b ∷ []) false) (at + 1) bs).0 (split_to es (grown e (b ∷ []) false) (at + 1) bs).1)
        → Holds (split_c (at + 1) bs (cond c (state (finish_c (at + 1) x.path) x.out (mark_c x.path.count x.path.used.0 x.path.place.0 x.marks)) (state (push_c x.path) (set x.out x.path.used.0 b) x.marks)))
        (cond c (split_to (es ++ (e ∷ [])) (fresh (at + 1)) (at + 1) bs) (split_to es (grown e (b ∷ []) false) (at + 1) bs)).0
        (cond c (split_to (es ++ (e ∷ [])) (fresh (at + 1)) (at + 1) bs) (split_to es (grown e (b ∷ []) false) (at + 1) bs)).1
    go true p q = p refl
    go false p q = q refl
