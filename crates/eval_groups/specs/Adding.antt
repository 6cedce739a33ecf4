-- What adding computes keeps the groups, whatever stands in front of the stack at the start; and nothing of the stack below base changes.
use Rattle.std.specs.Prelude.{◌≡◌, Bool, ℕ, suc, ◌+◌, ◌*◌, ◌≤◌, ◌<◌, eqb, length}
use Rattle.std.proofs.Math.Path.{refl, ap}
use Rattle.std.proofs.Common.{sym, ◌∙◌, arith, length-append}
use Rattle.std.proofs.Math.Bool.{true, false, cond}
use mathlib.Core.List.{List, [], ◌∷◌, ◌++◌, reverse, reverse-append, append_assoc, append-nil}
use Rattle.std.proofs.Math.Dec.{ltb}
use Rattle.std.proofs.Math.ListN.{get_or}
use borrow.Author.Tests.{ltb-true, ltb-false, eqb-true, lt-ltb, le-ltb, eq-eqb}
use Rattle.answers.specs.Theory.Sound.{clash}
use Rattle.doc_items.specs.Room.{capacity}
use Rattle.eval_stack.specs.Model.{stack_at, entries, code_at, link_at, seg, Work}
use Rattle.eval_stack.specs.Pushes.{seg_same}
use Rattle.eval_groups.specs.Model.{holds_key_c, join_group_c, begin_group_c, State, placed, put_c, add_c, add_members_c}
use Rattle.eval_groups.specs.Links.{None, Wheres}
use Rattle.eval_groups.specs.Linking.{links-new, links-old, wheres-new, wheres-old, where-first, where-none}
use Rattle.eval_groups.specs.Groups.{Placed, keys_at, Grouped}
use Rattle.eval_groups.specs.Stores.{join-length, join-other, join-code, join-link, join_first, begin-length, begin-other, begin-code, begin-link, begin-where}

-- ---- the test

module _ (key : ℕ → ℕ) (w : List ℕ) (base top k p : ℕ) where
  pub holds-true : holds_key_c key w base top k p ≡ true → (base ≤ p) × (p < top) × (keys_at key w p ≡ k)
  unfolding holds_key_c
  holds-true e = go (ltb p base) (ltb p top) refl refl e
    where
      go : (t u : Bool) → ltb p base ≡ t → ltb p top ≡ u → cond t false (cond u (eqb (keys_at key w p) k) false) ≡ true
          → (base ≤ p) × (p < top) × (keys_at key w p ≡ k)
      go true u a b x = clash (cc)
      go false true a b x = (ltb-false p base a, ltb-true p top b, eqb-true (keys_at key w p) k x)
      go false false a b x = clash (cc)

  pub holds-false : holds_key_c key w base top k p ≡ false → base ≤ p → p < top → keys_at key w p ≡ k → ⊥
  unfolding holds_key_c
  holds-false e l h s =
      let x : holds_key_c key w base top k p ≡ true = rw (holds_key_c, le-ltb p base l, lt-ltb p top h) (eq-eqb (keys_at key w p) k s) in
      clash (cc)

-- ---- one member more

module _ {key : ℕ → ℕ} (few : Placed key) {base top : ℕ} {xs w : List ℕ} (c : ℕ) (G : Grouped key base top xs w) (room : Work w)
    (high : top < entries) where
  one_size : top + 1 ≡ base + length (xs ++ (c ∷ []))
  one_size = let n : top ≡ base + length xs = G.chained.size in omega (arith, length-append xs (c ∷ []))

  one_entry : (w' : List ℕ) → code_at w' top ≡ c → ((j : ℕ) → base ≤ j → j < top → code_at w' j ≡ code_at w j)
      → seg w' base (length (xs ++ (c ∷ []))) ≡ reverse (xs ++ (c ∷ []))
  one_entry w' here codes =
      let n : top ≡ base + length xs = G.chained.size in
      let m : length (xs ++ (c ∷ [])) ≡ suc (length xs) = omega (arith, length-append xs (c ∷ [])) in
      let t : base + length xs ≡ top = sym n in
      ap (seg w' base) m
      ∙ ap (λ (p : ℕ). code_at w' p ∷ seg w' base (length xs)) t
      ∙ ap (λ (x : ℕ). x ∷ seg w' base (length xs)) here
      ∙ ap (λ (x : List ℕ). c ∷ x) (seg_same w w' base (length xs) (λ j l h. codes j l (omega arith)) ∙ G.chained.entries)
      ∙ sym (reverse-append xs (c ∷ []))

  W : Wheres (keys_at key w) (λ k. get_or w k 0) base top
  W = G.wheres

  low : base ≤ top
  low = let n : top ≡ base + length xs = G.chained.size in omega arith

  join-keeps : (p : ℕ) → get_or w (key c) 0 ≡ p → base ≤ p → p < top → keys_at key w p ≡ key c
      → Grouped key base (top + 1) (xs ++ (c ∷ [])) (join_group_c p top c w)
  join-keeps p e l h s =
      let w' = join_group_c p top c w in
      let codes : (j : ℕ) → base ≤ j → j < top → code_at w' j ≡ code_at w j =
      λ j a b. join-other w p top c (stack_at + 2 * j) (λ x. omega arith) (λ x. omega arith) (λ x. omega arith) in
      let keys : (j : ℕ) → base ≤ j → j < top → keys_at key w' j ≡ keys_at key w j = λ j a b. ap key (codes j a b) in
      let code : code_at w' top ≡ c = join-code w p top c room h high in
      let its-key : keys_at key w' top ≡ key c = ap key code in
      let wh : (k : ℕ) → k < capacity → get_or w' k 0 ≡ get_or w k 0 =
      λ k a. join-other w p top c k (λ x. omega arith) (λ x. omega arith) (λ x. omega arith) in
      let none : None (keys_at key w) (keys_at key w' top) base p =
      rw its-key (rw e at (where-first (keys_at key w) (λ k. get_or w k 0) base top (key c) W (rw e l) (rw e h) (rw e s))) in
      record {
        chained = record {
          size = one_size;
          entries = one_entry w' code codes;
          links = links-old (keys_at key w) (link_at w) base top (keys_at key w') (link_at w') keys G.chained.links p l h (s ∙ sym its-key) none
              (join-link w p top c room h high) (join_first w p top c room h high)
              (λ j a b x. join-other w p top c (stack_at + 2 * j + 1) (λ y. omega arith) (λ y. omega arith) (λ y. x (omega arith)));
        };
        wheres = wheres-old (keys_at key w) (λ k. get_or w k 0) base top (keys_at key w') (λ k. get_or w' k 0) keys W p l h (s ∙ sym its-key)
            (λ j a b. wh (keys_at key w j) (few (code_at w j)))
            (ap (λ (k : ℕ). get_or w' k 0) its-key ∙ wh (key c) (few c) ∙ e) none;
      }

  begin-keeps : None (keys_at key w) (key c) base top → Grouped key base (top + 1) (xs ++ (c ∷ [])) (begin_group_c (key c) top c w)
  begin-keeps no_one =
      let k = key c in
      let w' = begin_group_c (key c) top c w in
      let small : k < capacity = few c in
      let codes : (j : ℕ) → base ≤ j → j < top → code_at w' j ≡ code_at w j =
      λ j a b. begin-other w k top c (stack_at + 2 * j) (λ x. omega arith) (λ x. omega arith) (λ x. omega arith) in
      let keys : (j : ℕ) → base ≤ j → j < top → keys_at key w' j ≡ keys_at key w j = λ j a b. ap key (codes j a b) in
      let code : code_at w' top ≡ c = begin-code w k top c room small high in
      let its-key : keys_at key w' top ≡ key c = ap key code in
      let none : None (keys_at key w) (keys_at key w' top) base top = rw its-key no_one in
      record {
        chained = record {
          size = one_size;
          entries = one_entry w' code codes;
          links = links-new (keys_at key w) (link_at w) base top (keys_at key w') (link_at w') keys G.chained.links low none
              (begin-link w k top c room small high)
              (λ j a b. begin-other w k top c (stack_at + 2 * j + 1) (λ y. omega arith) (λ y. omega arith) (λ y. omega arith));
        };
        wheres = wheres-new (keys_at key w) (λ i. get_or w i 0) base top (keys_at key w') (λ i. get_or w' i 0) keys W low none
            (ap (λ (i : ℕ). get_or w' i 0) its-key ∙ begin-where w k top c room small high)
            (λ j a b x. let y : keys_at key w j < capacity = few (code_at w j) in
            begin-other w k top c (keys_at key w j) (λ z. omega arith) (λ z. omega arith) (λ z. x (z ∙ sym its-key)));
      }

  pub put_keeps : Grouped key base (top + 1) (xs ++ (c ∷ [])) (put_c key base top c w)
  unfolding put_c
  put_keeps = go (holds_key_c key w base top (key c) (get_or w (key c) 0)) refl
    where
      go : (t : Bool) → holds_key_c key w base top (key c) (get_or w (key c) 0) ≡ t
          → Grouped key base (top + 1) (xs ++ (c ∷ [])) (placed t (key c) (get_or w (key c) 0) top c w)
      go true e =
          let m = holds-true key w base top (key c) (get_or w (key c) 0) e in
          join-keeps (get_or w (key c) 0) refl m.0 m.1 m.2
      go false e =
          begin-keeps (where-none (keys_at key w) (λ k. get_or w k 0) base top (key c) W (holds-false key w base top (key c) (get_or w (key c) 0) e))

pub put-length : (key : ℕ → ℕ) (base top c : ℕ) (w : List ℕ) → length (put_c key base top c w) ≡ length w
unfolding put_c
put-length key base top c w = go (holds_key_c key w base top (key c) (get_or w (key c) 0))
  where
    go : (t : Bool) → length (placed t (key c) (get_or w (key c) 0) top c w) ≡ length w
    go true = join-length w (get_or w (key c) 0) top c
    go false = begin-length w (key c) top c

-- nothing of the stack below base changes
pub put-below : (key : ℕ → ℕ) → Placed key → (base top c : ℕ) (w : List ℕ) → base ≤ top → (i : ℕ) → stack_at ≤ i → i < stack_at + 2 * base
    → get_or (put_c key base top c w) i 0 ≡ get_or w i 0
unfolding put_c
put-below key few base top c w low i l h = go (holds_key_c key w base top (key c) (get_or w (key c) 0)) refl
  where
    go : (t : Bool) → holds_key_c key w base top (key c) (get_or w (key c) 0) ≡ t
        → get_or (placed t (key c) (get_or w (key c) 0) top c w) i 0 ≡ get_or w i 0
    go true e =
        let m = holds-true key w base top (key c) (get_or w (key c) 0) e in
        let a : base ≤ get_or w (key c) 0 = m.0 in
        join-other w (get_or w (key c) 0) top c i (λ x. omega arith) (λ x. omega arith) (λ x. omega arith)
    go false e =
        let a : key c < capacity = few c in
        begin-other w (key c) top c i (λ x. omega arith) (λ x. omega arith) (λ x. omega arith)

-- ---- all

pub none_yet : (key : ℕ → ℕ) (base : ℕ) (w : List ℕ) → Grouped key base base [] w
none_yet key base w = record {
  chained = record { size = omega arith; entries = refl; links = record { at = λ p l h. absurd (omega arith) } };
  wheres = record { at = λ p l h. absurd (omega arith) };
}

module _ (key : ℕ → ℕ) (base : ℕ) where
  pub add-room : (c : ℕ) (w : List ℕ) (t : ℕ) → t < entries → add_c key base c (w, t) ≡ (put_c key base t c w, t + 1)
  unfolding add_c
  add-room c w t h = rw (add_c, lt-ltb t entries h) refl

  pub add-full : (c : ℕ) (w : List ℕ) (t : ℕ) → entries ≤ t → add_c key base c (w, t) ≡ (w, t)
  unfolding add_c
  add-full c w t h = rw (add_c, le-ltb t entries h) refl

  adds-more : (c : ℕ) (cs w : List ℕ) (t : ℕ) → t < entries → add_members_c key base (c ∷ cs) (w, t) ≡ add_members_c key base cs (put_c key base t c w, t + 1)
  unfolding add_members_c
  adds-more c cs w t h = ap (add_members_c key base cs) (add-room c w t h)

  -- several objects, one after the other
  pub adds-append : (cs ds : List ℕ) (s : State) → add_members_c key base (cs ++ ds) s ≡ add_members_c key base ds (add_members_c key base cs s)
  unfolding add_members_c
  adds-append [] ds s = refl
  adds-append (c ∷ cs) ds s = adds-append cs ds (add_c key base c s)

  adds_none : (w : List ℕ) (t : ℕ) → add_members_c key base [] (w, t) ≡ (w, t)
  unfolding add_members_c
  adds_none w t = refl

  -- the top does not fall
  pub adds-rise : (cs : List ℕ) (w : List ℕ) (t place : ℕ) → place ≤ t → place ≤ (add_members_c key base cs (w, t)).1
  unfolding add_members_c
  adds-rise [] w t place l = l
  adds-rise (c ∷ cs) w t place l = go (ltb t entries) refl (λ v u. adds-rise cs v u place)
    where
      go : (b : Bool) → ltb t entries ≡ b → ((v : List ℕ) (u : ℕ) → place ≤ u → place ≤ (add_members_c key base cs (v, u)).1)
          → place ≤ (add_members_c key base cs (add_c key base c (w, t))).1
      go true e ih = rw (add-room c w t (ltb-true t entries e)) (ih (put_c key base t c w) (t + 1) (omega arith))
      go false e ih = rw (add-full c w t (ltb-false t entries e)) (ih w t l)

  module _ (few : Placed key) where
    -- `Grouped` after all codes of a list, if there is room, and how far the stack goes
    adds-keep : (cs : List ℕ) (w : List ℕ) (t : ℕ) (xs : List ℕ) → Work w → t + length cs ≤ entries → Grouped key base t xs w
        → Grouped key base (add_members_c key base cs (w, t)).1 (xs ++ cs) (add_members_c key base cs (w, t)).0
    adds-keep [] w t xs room h G = rw (adds_none w t, append-nil xs) G
    adds-keep (c ∷ cs) w t xs room h G =
        rw (adds-more c cs w t (omega arith), ← (append_assoc xs (c ∷ []) cs))
        (adds-keep cs (put_c key base t c w) (t + 1) (xs ++ (c ∷ [])) (rw (put-length key base t c w) room) (omega arith) (put_keeps few c G room (omega arith)))

    pub adds-below : (cs : List ℕ) (w : List ℕ) (t : ℕ) → base ≤ t → (i : ℕ) → stack_at ≤ i → i < stack_at + 2 * base
        → get_or (add_members_c key base cs (w, t)).0 i 0 ≡ get_or w i 0
    unfolding add_members_c
    adds-below [] w t low i l h = refl
    adds-below (c ∷ cs) w t low i l h = go (ltb t entries) refl (λ v u. adds-below cs v u)
      where
        go : (b : Bool) → ltb t entries ≡ b
            → ((v : List ℕ) (u : ℕ) → base ≤ u → (i : ℕ) → stack_at ≤ i → i < stack_at + 2 * base
            → get_or (add_members_c key base cs (v, u)).0 i 0 ≡ get_or v i 0)
            → get_or (add_members_c key base cs (add_c key base c (w, t))).0 i 0 ≡ get_or w i 0
        go true e ih = rw (add-room c w t (ltb-true t entries e)) (ih (put_c key base t c w) (t + 1) (omega arith) i l h ∙ put-below key few base t c w low i l h)
        go false e ih = rw (add-full c w t (ltb-false t entries e)) (ih w t low i l h)

    -- The codes stand from base on, grouped by key, whatever the work slice held.
    pub all-grouped : (cs w : List ℕ) → Work w → base + length cs ≤ entries
        → Grouped key base (add_members_c key base cs (w, base)).1 cs (add_members_c key base cs (w, base)).0
    all-grouped cs w room h = adds-keep cs w base [] room h (none_yet key base w)
