-- Numbers that show the members of objects: their groups are the rules' layers one key deeper, and their first entries have the rules' keys
-- in order. `key` gives a member's key number, `text` the text that a key number stands for.
use Rattle.std.specs.Prelude.{◌≡◌, Bool, ℕ, zero, suc, ◌+◌, ◌≤◌, ◌<◌, eqb, length}
use Rattle.std.proofs.Math.Path.{refl, ap}
use Rattle.std.proofs.Common.{sym, ◌∙◌, arith}
use Rattle.std.proofs.Math.Bool.{true, false, cond}
use mathlib.Core.List.{List, [], ◌∷◌, ◌++◌, map, reverse, reverse_aux}
use Rattle.answers.specs.Theory.Sound.{clash}
use Rattle.rules.specs.Bytes.{Text, same}
use Rattle.rules.specs.Layers.{Layer, has_key, add_key, keys_in_order}
use Rattle.eval_keys.specs.Texts.{by_equal}
use Rattle.eval_stack.specs.Model.{code_at, link_at, seg}
use Rattle.eval_groups.specs.Model.{chain_c}
use Rattle.eval_groups.specs.Linking.{links-same}
use Rattle.eval_groups.specs.Groups.{keys_at, Chained, filter_key}
use Rattle.eval_groups.specs.Chains.{members-walked}
use Rattle.eval_groups.specs.Firsts.{has_number, add_number, numbers_in, first_keys, firsts-in-order}
use Rattle.eval_groups.specs.Entries.{Entry, entries_of, pick, entry_keys, keys-picked}

module _ (key : ℕ → ℕ) (text : ℕ → Text) (Number : ℕ → Type 0) (Shows : ℕ → Layer → Type 0) where
  -- a number that shows a member, with its key
  pub record ShownMember (c : ℕ) (e : Entry) : Type 0 where
    pub number : Number (key c)
    pub key-text : text (key c) ≡ e.0
    pub layer : Shows c e.1

  abbrev pub Listed : List ℕ → List Entry → Type 0
  Listed [] [] = Unit {0}
  Listed [] (e ∷ es) = ⊥
  Listed (c ∷ cs) [] = ⊥
  Listed (c ∷ cs) (e ∷ es) = ShownMember c e × Listed cs es

  -- numbers that show layers
  abbrev pub AllShow : List ℕ → List Layer → Type 0
  AllShow [] [] = Unit {0}
  AllShow [] (l ∷ ls) = ⊥
  AllShow (c ∷ cs) [] = ⊥
  AllShow (c ∷ cs) (l ∷ ls) = Shows c l × AllShow cs ls

  pub listed-length : (cs : List ℕ) (es : List Entry) → Listed cs es → length cs ≡ length es
  listed-length [] [] l = refl
  listed-length [] (e ∷ es) l = absurd l
  listed-length (c ∷ cs) [] l = absurd l
  listed-length (c ∷ cs) (e ∷ es) l = ap suc (listed-length cs es l.1)

  pub listed-append : (cs ds : List ℕ) (es fs : List Entry) → Listed cs es → Listed ds fs → Listed (cs ++ ds) (es ++ fs)
  listed-append [] ds [] fs l m = m
  listed-append [] ds (e ∷ es) fs l m = absurd l
  listed-append (c ∷ cs) ds [] fs l m = absurd l
  listed-append (c ∷ cs) ds (e ∷ es) fs l m = (l.0, listed-append cs ds es fs l.1 m)

  -- the one at an entry of the stack
  pub listed_at : (cs : List ℕ) (es : List Entry) → Listed cs es → (w : List ℕ) (b n : ℕ) → seg w b n ≡ cs → (p : ℕ) → b ≤ p → p < b + n
      → (e : Entry) × ShownMember (code_at w p) e
  listed_at cs es l w b zero q p a h = absurd (omega arith)
  listed_at [] es l w b (suc n) q p a h = clash (cc)
  listed_at (c ∷ cs) [] l w b (suc n) q p a h = absurd l
  listed_at (c ∷ cs) (d ∷ es) l w b (suc n) q p a h = by_last (λ x y. listed_at cs es l.1 w b n (cc) p x y)
    where
      here : code_at w (b + n) ≡ c
      here = cc

      by_last : (b ≤ p → p < b + n → (e : Entry) × ShownMember (code_at w p) e) → (e : Entry) × ShownMember (code_at w p) e
      by_last ih = by_equal ((e : Entry) × ShownMember (code_at w p) e) p (b + n) (λ x. (d, rw (x, here) l.0)) (λ x. ih a (omega arith))

  pub listed-turned : (cs ds : List ℕ) (es fs : List Entry) → Listed cs es → Listed ds fs → Listed (reverse_aux cs ds) (reverse_aux es fs)
  listed-turned [] ds [] fs l m = m
  listed-turned [] ds (e ∷ es) fs l m = absurd l
  listed-turned (c ∷ cs) ds [] fs l m = absurd l
  listed-turned (c ∷ cs) ds (e ∷ es) fs l m = listed-turned cs (c ∷ ds) es (e ∷ fs) l.1 (l.0, m)

  show-turned : (cs ds : List ℕ) (ls ms : List Layer) → AllShow cs ls → AllShow ds ms → AllShow (reverse_aux cs ds) (reverse_aux ls ms)
  show-turned [] ds [] ms l m = m
  show-turned [] ds (x ∷ ls) ms l m = absurd l
  show-turned (c ∷ cs) ds [] ms l m = absurd l
  show-turned (c ∷ cs) ds (x ∷ ls) ms l m = show-turned cs (c ∷ ds) ls (x ∷ ms) l.1 (l.0, m)

  module _ (tells : (i j : ℕ) → Number i → Number j → eqb i j ≡ same (text i) (text j)) where
    -- ---- the members with a key

    picked : (k : ℕ) → Number k → (cs : List ℕ) (es : List Entry) → Listed cs es → AllShow (filter_key key k cs) (pick (text k) es)
    unfolding filter_key pick
    picked k z [] [] l = tt
    picked k z [] (e ∷ es) l = absurd l
    picked k z (c ∷ cs) [] l = absurd l
    picked k z (c ∷ cs) (e ∷ es) l =
        go (eqb (key c) k) (same e.0 (text k)) (tells (key c) k l.0.number z ∙ ap (λ (t : Text). same t (text k)) l.0.key-text)
        (picked k z cs es l.1)
      where
        go : (t u : Bool) → t ≡ u → AllShow (filter_key key k cs) (pick (text k) es)
            → AllShow (cond t (c ∷ filter_key key k cs) (filter_key key k cs)) (cond u (e.1 ∷ pick (text k) es) (pick (text k) es))
        go true true x m = (l.0.layer, m)
        go true false x m = clash (cc)
        go false true x m = clash (cc)
        go false false x m = m

    -- The walk from the link of a key's first entry visits numbers that show the members with that key, last first.
    pub group-shows : {base top : ℕ} {xs w : List ℕ} → Chained key base top xs w → (es : List Entry) → Listed xs es
        → (f : ℕ) → base ≤ f → f < top → f ≤ link_at w f → (t : Text) → Number (keys_at key w f) → text (keys_at key w f) ≡ t
        → AllShow (chain_c w top (link_at w f)) (reverse (pick t es))
    group-shows {base} {top} {xs} {w} C es l f a b u t z e =
        let k = keys_at key w f in
        rw (members-walked key C f a b u, ← e) (show-turned (filter_key key k xs) [] (pick (text k) es) [] (picked k z xs es l) tt)

    -- ---- the keys

    abbrev AllNumbers : List ℕ → Type 0
    AllNumbers [] = Unit {0}
    AllNumbers (k ∷ ks) = Number k × AllNumbers ks

    has-number : (k : ℕ) (ks : List ℕ) → Number k → AllNumbers ks → has_number k ks ≡ has_key (text k) (map text ks)
    unfolding has_number has_key
    has-number k [] z a = refl
    has-number k (j ∷ ks) z a = go (eqb k j) (same (text k) (text j)) (tells k j z a.0) (has-number k ks z a.1)
      where
        go : (t u : Bool) → t ≡ u → has_number k ks ≡ has_key (text k) (map text ks)
            → cond t true (has_number k ks) ≡ elim u as (λ _. Bool) [ true ↦ true | false ↦ has_key (text k) (map text ks) ]
        go true true x h = refl
        go true false x h = clash (cc)
        go false true x h = clash (cc)
        go false false x h = h

    numbers-last : (k : ℕ) (ks : List ℕ) → Number k → AllNumbers ks → AllNumbers (ks ++ (k ∷ []))
    numbers-last k [] z a = (z, tt)
    numbers-last k (j ∷ ks) z a = (a.0, numbers-last k ks z a.1)

    map_last : (k : ℕ) (ks : List ℕ) → map text (ks ++ (k ∷ [])) ≡ map text ks ++ (text k ∷ [])
    map_last k [] = refl
    map_last k (j ∷ ks) = ap (λ (l : List Text). text j ∷ l) (map_last k ks)

    add-number : (k : ℕ) (ks : List ℕ) → Number k → AllNumbers ks
        → (map text (add_number k ks) ≡ add_key (text k) (map text ks)) × AllNumbers (add_number k ks)
    unfolding add_number add_key
    add-number k ks z a = go (has_number k ks) (has_key (text k) (map text ks)) (has-number k ks z a)
      where
        go : (t u : Bool) → t ≡ u
            → (map text (cond t ks (ks ++ (k ∷ []))) ≡ elim u as (λ _. List Text) [ true ↦ map text ks | false ↦ map text ks ++ (text k ∷ []) ])
            × AllNumbers (cond t ks (ks ++ (k ∷ [])))
        go true true x = (refl, a)
        go true false x = clash (cc)
        go false true x = clash (cc)
        go false false x = (map_last k ks, numbers-last k ks z a)

    numbers-are : (cs : List ℕ) (es : List Entry) (ks : List ℕ) → Listed cs es → AllNumbers ks
        → map text (numbers_in key cs ks) ≡ entry_keys es (map text ks)
    unfolding numbers_in entry_keys
    numbers-are [] [] ks l a = refl
    numbers-are [] (e ∷ es) ks l a = absurd l
    numbers-are (c ∷ cs) [] ks l a = absurd l
    numbers-are (c ∷ cs) (e ∷ es) ks l a =
        let m = add-number (key c) ks l.0.number a in
        numbers-are cs es (add_number (key c) ks) l.1 m.1 ∙ ap (entry_keys es) (m.0 ∙ ap (λ (t : Text). add_key t (map text ks)) l.0.key-text)

    -- The first entries in order have the rules' keys.
    pub firsts-show : {base top : ℕ} {xs w : List ℕ} → Chained key base top xs w → (os : List Layer) → Listed xs (entries_of os)
        → map text (first_keys key w base (length xs)) ≡ keys_in_order os
    firsts-show {base} {top} {xs} {w} C os l =
        ap (map text) (firsts-in-order key C) ∙ numbers-are xs (entries_of os) [] l tt ∙ sym (keys-picked os)

-- ---- other tables, in which the same members stand with the same key numbers

module _ (key : ℕ → ℕ) (text : ℕ → Text) (Number : ℕ → Type 0) (Shows : ℕ → Layer → Type 0)
    (key' : ℕ → ℕ) (text' : ℕ → Text) (Number' : ℕ → Type 0) (Shows' : ℕ → Layer → Type 0)
    (moves : (c : ℕ) (e : Entry) → ShownMember key text Number Shows c e → (key' c ≡ key c) × ShownMember key' text' Number' Shows' c e) where
  pub listed-moves : (cs : List ℕ) (es : List Entry) → Listed key text Number Shows cs es → Listed key' text' Number' Shows' cs es
  listed-moves [] [] l = tt
  listed-moves [] (e ∷ es) l = absurd l
  listed-moves (c ∷ cs) [] l = absurd l
  listed-moves (c ∷ cs) (e ∷ es) l = ((moves c e l.0).1, listed-moves cs es l.1)

  pub chained-moves : {base top : ℕ} {xs w : List ℕ} (es : List Entry) → Listed key text Number Shows xs es → Chained key base top xs w
      → Chained key' base top xs w
  chained-moves {base} {top} {xs} {w} es l C =
      let n : top ≡ base + length xs = C.size in
      let turned = listed-turned key text Number Shows xs [] es [] l tt in
      record {
        size = n;
        entries = C.entries;
        links = links-same (keys_at key w) (link_at w) base top (keys_at key' w) (link_at w)
            (λ j a b. let m = listed_at key text Number Shows (reverse xs) (reverse es) turned w base (length xs) C.entries j a (omega arith) in
            (moves (code_at w j) m.0 m.1).0) (λ j a b. refl) C.links;
      }
