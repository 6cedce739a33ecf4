-- The items of a key's elements and the value's behind them hold the field.
use Rattle.std.specs.Prelude.{◌≡◌, take, drop}
use Rattle.std.proofs.Math.Path.{refl, sym}
use Rattle.std.proofs.Common.{ap, ◌∙◌, take-take, get_or-take, get_or-drop, length-take-le, ext_get_or}
use Prim.Native.Nat.{ℕ, suc, ◌+◌, ◌*◌, ◌-◌, ◌≤◌, ◌<◌}
use mathlib.Core.List.{List, [], ◌∷◌}
use native.Mathlib.Omega.{arith}
use Rattle.std.proofs.Math.ListN.{length, get_or}
use Rattle.std.proofs.Math.Seq.{slice}
use Rattle.rules.specs.Bytes.{Text}
use Rattle.rules.specs.Tree.{Key, Node, simple, array, object, unresolved, no_fields, field}
use Rattle.rules.specs.Reading.{inside}
use Rattle.doc_items.specs.Holds.{Spells, TextAt, Shown, FieldsAt}
use Rattle.doc_items.specs.Moving.{move-shown}
use Rattle.doc_items.specs.Joining.{elements-forward, fields-forward, pieces-forward, no-seam}
use Rattle.doc_items.specs.Parts.{numbers, letters}
use Rattle.text_elements.specs.Marks.Marks.{end_of, place_of}
use Rattle.doc_items.specs.Keys.{HeldKeys, key_sizes}
use Rattle.read_values.specs.Fields.Keys.{from_of, KeyItem, PutIs}

-- ---- frames: keys depend on the text up to their end

pub held-keys-frame : (from i n : ℕ) (ks : List Key) (text text' marks : List ℕ) → from + key_sizes ks ≤ n → take n text ≡ take n text'
    → HeldKeys from i ks text marks → HeldKeys from i ks text' marks
held-keys-frame from i n [] text text' marks l t h = tt
held-keys-frame from i n (k ∷ ks) text text' marks l t h =
    let m = from + length k.text in
    let u : m ≤ n = omega arith in (
      ap (drop from) (sym (take-take m n text' u) ∙ ap (take m) (sym t) ∙ take-take m n text u) ∙ h.0,
      h.1,
      h.2,
      h.3,
      held-keys-frame (from + length k.text) (suc i) n ks text text' marks (omega arith) t h.4,
    )

-- the same by bytes
pub held-keys-agree : (from i n : ℕ) (ks : List Key) (text text' marks : List ℕ) → from + key_sizes ks ≤ n → n ≤ length text → n ≤ length text'
    → ((p : ℕ) → p < n → get_or text' p 0 ≡ get_or text p 0) → HeldKeys from i ks text marks → HeldKeys from i ks text' marks
held-keys-agree from i n ks text text' marks l u v e h =
    let a = length-take-le n text u in
    let b = length-take-le n text' v in
    held-keys-frame from i n ks text text' marks l
    (ext_get_or 0 (take n text) (take n text') (a ∙ sym b)
    (λ p w. get_or-take n text p 0 (omega arith) ∙ sym (e p (omega arith)) ∙ sym (get_or-take n text' p 0 (omega arith))))
    h

-- ---- an element's text

spells_at : (h : ℕ → ℕ) (o : ℕ) (t : Text) → ((k : ℕ) → k < length t → h (o + k) ≡ get_or t k 0) → Spells h o t
spells_at h o [] e = tt
spells_at h o (b ∷ bs) e =
    let z : o + 0 ≡ o = omega arith in (
      ap h (sym z) ∙ e 0 (omega arith),
      spells_at h (o + 1) bs (λ k u. let q : o + 1 + k ≡ o + suc k = omega arith in ap h q ∙ e (suc k) (omega arith)),
    )

slice-byte : (x : List ℕ) (t : Text) (from k : ℕ) → slice from (from + length t) x ≡ t → k < length t → get_or x (from + k) 0 ≡ get_or t k 0
slice-byte x t from k e l =
    sym (get_or-take (from + length t) x (from + k) 0 (omega arith)) ∙ sym (get_or-drop from (take (from + length t) x) k 0) ∙ ap (λ (y : List ℕ). get_or y k 0) e

-- ---- the field

shown-forward : (g h : ℕ → ℕ) (lo hi : ℕ) (N : ℕ → ℕ → Type 0) (role k o z m i end : ℕ) (n : Node) → Shown g h lo hi N role k o z m i end n → i ≤ end
shown-forward g h lo hi N role k o z m i end (simple x) s = s.2.0
shown-forward g h lo hi N role k o z m i end (array es) s = elements-forward g h lo hi N es i end s.1
shown-forward g h lo hi N role k o z m i end (object fs) s = fields-forward g h lo hi N fs i end s.1
shown-forward g h lo hi N role k o z m i end (unresolved b ps) s = pieces-forward g h lo hi N ps i end s.2

module _ {marks before after : List ℕ} {count size base kind text textlen : ℕ} (p : PutIs marks before after count size base kind text textlen)
    (h : ℕ → ℕ) (lo hi : ℕ) (x : List ℕ) (N : ℕ → ℕ → Type 0) (low : lo ≤ base) (n : Node)
    (value : Shown (numbers before) h lo hi N 0 kind text textlen 0 count size n) where
  -- the text of an element
  key-text : (k : Key) (j from e k' o z : ℕ) → from_of marks j ≡ from → KeyItem marks after j (from_of marks j) size base k' o z
      → slice from (from + length k.text) x ≡ k.text → end_of marks j ≡ from + length k.text → from + length k.text ≤ e
      → ((q : ℕ) → base ≤ q → q < base + e → h q ≡ letters base x q) → base + e ≤ hi
      → TextAt h lo hi (get_or after (8 * j + 2) 0) (get_or after (8 * j + 3) 0) k.text
  key-text k j from e k' o z f c s m l a u =
      let y : get_or after (8 * j + 2) 0 ≡ base + from = c.key ∙ ap (λ (q : ℕ). base + q) f in
      let w = c.keylen in
      let v : get_or after (8 * j + 3) 0 ≡ length k.text = omega arith in
      record {
        from = omega arith;
        upto = omega arith;
        size = v;
        bytes = rw y (spells_at h (base + from) k.text (λ i b. byte i b));
      }
    where
      byte : (i : ℕ) → i < length k.text → h (base + from + i) ≡ get_or k.text i 0
      byte i b =
          let q : base + from + i - base ≡ from + i = omega arith in
          a (base + from + i) (omega arith) (omega arith) ∙ ap (λ (r : ℕ). get_or x r 0) q ∙ slice-byte x k.text from i s b

  -- an element's item at the end of its siblings, by the node that stands in it
  key-field : (k : Key) (m : Node) (j from e k' o z : ℕ) → from_of marks j ≡ from → KeyItem marks after j (from_of marks j) size base k' o z → j < size
      → slice from (from + length k.text) x ≡ k.text → end_of marks j ≡ from + length k.text → place_of marks j ≡ k.place
      → from + length k.text ≤ e → ((q : ℕ) → base ≤ q → q < base + e → h q ≡ letters base x q) → base + e ≤ hi
      → ((i' end' : ℕ) → i' ≡ j + 1 → end' ≡ size
      → Shown (numbers after) h lo hi N 0 (get_or after (8 * j) 0) (get_or after (8 * j + 4) 0) (get_or after (8 * j + 5) 0) (get_or after (8 * j + 7) 0) i' end' m)
      → FieldsAt (numbers after) h lo hi N j size (field k m no_fields)
  key-field k m j from e k' o z f c i s w v l a u d =
      let y : get_or after (8 * j + 1) 0 ≡ size - j = c.size in
      let r : j + get_or after (8 * j + 1) 0 ≡ size = omega arith in (
        j,
        no-seam (numbers after) h lo hi N j,
        (omega arith, omega arith),
        key-text k j from e k' o z f c s w l a u,
        c.place ∙ v,
        d (j + 1) (j + get_or after (8 * j + 1) 0) refl r,
        (omega arith, λ q b g. absurd (omega arith)),
      )

  chain : (ks : List Key) (k : Key) (j from e : ℕ) → j + suc (length ks) ≡ count → count ≤ size → from_of marks j ≡ from → HeldKeys from j (k ∷ ks) x marks
      → from + key_sizes (k ∷ ks) ≤ e → ((q : ℕ) → base ≤ q → q < base + e → h q ≡ letters base x q) → base + e ≤ hi
      → FieldsAt (numbers after) h lo hi N j size (field k (inside ks n) no_fields)
  unfolding inside
  chain [] k j from e c w f s l a u =
      let i = p.last j (omega arith) in
      key-field k n j from e kind text textlen f i (omega arith) s.0 s.1 s.2 (omega arith) a u
      (λ i' end' y r.
      move-shown N (numbers before) (numbers after) (record { low = omega arith; high = omega arith; text = λ q b g. refl }) 0 n 0 kind text textlen 0
      count size (get_or after (8 * j) 0) (get_or after (8 * j + 4) 0) (get_or after (8 * j + 5) 0) (get_or after (8 * j + 7) 0) i' end'
      i.kind i.text i.textlen i.number (omega arith) (omega arith)
      (λ q b g. let v : q + 8 * 0 ≡ q = omega arith in sym (ap (λ (m : ℕ). get_or after m 0) v ∙ p.above q b)) value)
  chain (k' ∷ ks) k j from e c w f s l a u =
      let i = p.upper j (omega arith) in
      let rest = chain ks k' (suc j) (from + length k.text) e (omega arith) w s.1 s.4 (omega arith) a u in
      key-field k (object (field k' (inside ks n) no_fields)) j from e 7 0 0 f i (omega arith) s.0 s.1 s.2 (omega arith) a u
      (λ i' end' y r. let v : i' ≡ suc j = omega arith in (i.kind, rw (v, r) rest))

-- the items of a key, and a value's behind them, hold the field
pub put_holds : {marks before after : List ℕ} {count size base kind text textlen : ℕ} → PutIs marks before after count size base kind text textlen
    → (k : Key) (ks : List Key) → count ≡ suc (length ks) → (h : ℕ → ℕ) (lo hi : ℕ) (x : List ℕ) → HeldKeys 0 0 (k ∷ ks) x marks
    → ((p : ℕ) → base ≤ p → p < base + key_sizes (k ∷ ks) → h p ≡ letters base x p) → lo ≤ base → base + key_sizes (k ∷ ks) ≤ hi
    → (n : Node) → Shown (numbers before) h lo hi (λ m b. Unit {0}) 0 kind text textlen 0 count size n
    → FieldsAt (numbers after) h lo hi (λ m b. Unit {0}) 0 size (field k (inside ks n) no_fields)
put_holds {before = before} {count = count} {size} {kind = kind} {text = text} {textlen = textlen} p k ks c h lo hi x s a l u n v =
    let w = shown-forward (numbers before) h lo hi (λ m b. Unit {0}) 0 kind text textlen 0 count size n v in
    chain p h lo hi x (λ m b. Unit {0}) l n v ks k 0 0 (key_sizes (k ∷ ks)) (omega arith) w refl s (omega arith) a u
