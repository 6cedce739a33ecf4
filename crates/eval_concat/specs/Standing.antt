-- What stands in the room for a join, and what the code's answers say in the rules' terms. P is what the caller knows of the values in the
-- room, of their keys above all.
use Rattle.std.specs.Prelude.{◌≡◌, refl, ℕ, suc, ◌+◌, ◌*◌, ◌-◌, ◌≤◌, Bool, true, false, List, [], ◌++◌, length, get_or, take, leb, ◌⊎◌, Ok, Err}
use Rattle.std.proofs.Math.Path.{ap}
use Rattle.std.proofs.Common.{◌∙◌, length-append, length-drop, le-leb, leb-true, leb-false}
use native.Mathlib.Omega.{arith}
use Rattle.std.proofs.lemmas.List.Edits.{sets}
use Rattle.answers.specs.Ask.{value, refused}
use Rattle.rules.specs.Bytes.{Text}
use Rattle.rules.specs.Sizes.{max_nesting, max_records, max_text}
use Rattle.rules.specs.Refusals.{placed, nowhere}
use Rattle.rules.specs.Values.{array_of, object_of, Values, nesting_of, deepest_value, record_size, value_record_sizes, text_size, value_text_sizes, within_size}
use Rattle.rules.specs.Settled.{Given}
use Rattle.rules.specs.Unresolved as rules
use Rattle.text_chars.specs.declared.Refusal.{Refusal}
use Rattle.doc_items.specs.Holds.{TextAt}
use Rattle.doc_items.specs.Parts.{numbers, letters}
use Rattle.sheet_kept.specs.Kept.{Held, listed, Helds, named, named_all, count_helds}
use Rattle.eval_writer.specs.Model.{word_at, whole, key_at, key_len}
use Rattle.eval_writer.specs.Clauses.{Room, texts_in, PutsText}
use Rattle.eval_writer.specs.Texts.{word-is}
use Rattle.eval_writer.specs.Composition.{start, sets_end}
use Rattle.eval_writer.specs.Building.{WrittenAll, inside}
use Rattle.eval_writer.specs.declared.Out.{Out}
use Rattle.eval_results.specs.Sizes.Contracts.{within_c}
use Rattle.eval_results.specs.Extents.Members.{CameAll}
use Rattle.eval_results.specs.Sizes.Answers.{ValueIn, within-nesting, within-records, within-texts}
use Rattle.eval_results.specs.declared.extents.Extent.{Extent}
use Rattle.eval_concat.specs.Model.{Joined, too_large_c, records_of, text_of, start_of, piece_c}
use Rattle.eval_concat.specs.Helds.{all-records, all-texts}
use Rattle.eval_concat.specs.declared.Kind.{Kind}
use Rattle.eval_concat.specs.declared.Join.{Join}

-- ---- texts at the start of the room for texts

-- a text of any length; one that has no room was left out, if only in part
pub record TextIn (t : Text) (n : ℕ) (room : List ℕ) : Type 0 where
  pub size : n ≡ length t
  pub text : n ≤ max_text → take n (texts_in room) ≡ t

pub no_text : {room : List ℕ} → TextIn [] 0 room
no_text = record { size = refl; text = λ h. refl }

-- a text more
pub more-text : {t u x : Text} {m n : ℕ} {b a : List ℕ} → Room b → TextIn t m b → n ≡ length u → x ≡ u → PutsText m n x b a → TextIn (t ++ u) (m + n) a
unfolding whole
more-text {t} {u} {x} {m} {n} {b} {a} r h e f p =
    let s = h.size in
    let l : length (texts_in b) ≡ max_text = omega (arith, length-drop max_records b) in
    record {
      size = omega (arith, length-append t u);
      text = λ k.
          let w : texts_in a ≡ sets (texts_in b) m u =
          p.texts ∙ rw (le-leb (m + n) (length (texts_in b)) (omega arith), f) in
          ap (take (m + n)) w ∙ ap (λ (q : ℕ). take (m + q) (sets (texts_in b) m u)) e ∙ sets_end (texts_in b) m u (omega arith)
          ∙ ap (λ (q : Text). q ++ u) (h.text (omega arith));
    }

-- ---- the item of a piece: its place and the whitespace before it

pub record PieceAt (T X : List ℕ) (i at : ℕ) (gap : Text) : Type 0 where
  pub place : get_or T (8 * i + 6) 0 ≡ at
  pub size : key_len T i ≡ length gap
  pub text : word_at X (key_at T i) (key_len T i) ≡ gap

-- as doc_items has it among the pieces of a value
pub piece-at : {T X : List ℕ} {i lo hi at : ℕ} {gap : Text} → hi ≤ length X → numbers T (8 * i + 6) ≡ at
    → TextAt (letters 0 X) lo hi (numbers T (8 * i + 2)) (numbers T (8 * i + 3)) gap → PieceAt T X i at gap
piece-at {T} {X} l p t = record { place = p; size = t.size; text = word-is X l t }

-- ---- joins

-- document 01's numbers: mixed kinds at a place, a size at none
abbrev pub JoinRefused : Given rules.Join → Refusal → Type 0
JoinRefused g e = (g ≡ refused (placed 11 e.place.0)) × (e.number ≡ 11) ⊎ (g ≡ refused (nowhere 13)) × (e ≡ too_large_c)

module _ (key : ℕ → Text) (P : Held → Type 0) where
  -- so many elements behind the room for a head
  pub record ArrayIn (j : Join) (room : List ℕ) (vs : Values) : Type 0 where
    pub helds : Helds
    pub good : P (listed helds)
    pub is : named_all key helds ≡ vs
    pub kind : j.kind ≡ Kind.Array (count_helds helds)
    pub before : List ℕ
    pub whole : Room before
    pub written : WrittenAll key helds (inside start) j.extent.out before room
    pub deep : j.extent.deep ≡ suc (deepest_value vs)

  abbrev pub JoinCase : Join → List ℕ → rules.Join → Type 0
  JoinCase j room (rules.blank t) = (j.kind ≡ Kind.Blank) × TextIn t (text_of j) room
  JoinCase j room (rules.text t) =
      (j.kind ≡ Kind.Simple) × TextIn t (text_of j) room × (records_of j ≡ 5) × (j.extent.deep ≡ 0) × (text_of j ≤ max_text)
  JoinCase j room (rules.joined_array vs) = ArrayIn j room vs × (within_c j.extent ≡ true)
  JoinCase j room (rules.joined_object ms) = (j.kind ≡ Kind.Object) × ValueIn key P room j.extent (object_of ms) × (within_c j.extent ≡ true)

  pub record JoinIn (j : Join) (room : List ℕ) (J : rules.Join) : Type 0 where
    pub is : JoinCase j room J

  abbrev pub JoinedCase : List ℕ → Given rules.Join → Joined → Type 0
  JoinedCase room g (Ok j) = (J : rules.Join) × (g ≡ value J) × JoinIn j room J
  JoinedCase room g (Err e) = JoinRefused g e

  pub record JoinedIs (room : List ℕ) (g : Given rules.Join) (r : Joined) : Type 0 where
    pub is : JoinedCase room g r

  -- the elements of an array piece, written from one place on
  pub record MembersIn (vs : Values) (from : Out) (n : ℕ) (r : Extent) (b a : List ℕ) : Type 0 where
    pub helds : Helds
    pub good : P (listed helds)
    pub is : named_all key helds ≡ vs
    pub count : n ≡ count_helds helds
    pub came : CameAll key helds from r b a

-- ---- sizes

leb-same : (m n limit : ℕ) → (m ≤ limit → n ≤ limit) → (n ≤ limit → m ≤ limit) → leb m limit ≡ leb n limit
leb-same m n limit f g = go (leb n limit) refl
  where
    go : (t : Bool) → leb n limit ≡ t → leb m limit ≡ t
    go true e = le-leb m limit (g (leb-true n limit e))
    go false e = other (leb m limit) refl
      where
        other : (u : Bool) → leb m limit ≡ u → leb m limit ≡ false
        other true d = let k = leb-false n limit e in let z = f (leb-true m limit d) in absurd (omega arith)
        other false d = d

-- an array by its elements
named-array : (key : ℕ → Text) {vs : Values} (hs : Helds) → named_all key hs ≡ vs → named key (listed hs) ≡ array_of vs
unfolding named
named-array key hs e = ap array_of e

module _ {key : ℕ → Text} {P : Held → Type 0} where
  pub array-within : {j : Join} {room : List ℕ} {vs : Values} → ArrayIn key P j room vs → within_c j.extent ≡ within_size (array_of vs)
  unfolding within_c within_size nesting_of
  array-within {j} {room} {vs} h =
      let e = named-array key h.helds h.is in
      let s = all-records h.written in
      let t = all-texts h.written in
      let p : j.extent.out.rec.0 ≡ record_size (array_of vs) = let z = ap record_size e in omega arith in
      let q : j.extent.out.text.0 ≡ text_size (array_of vs) = let z = ap text_size e in omega arith in
      rw (within_c, p, q, h.deep)

  -- an array piece's own, where its elements begin inside the room
  module _ {vs : Values} {from : Out} {n : ℕ} {r : Extent} {b a : List ℕ} (h : MembersIn key P vs from n r b a) (p : from.rec.0 ≤ max_records)
      (q : from.text.0 ≤ max_text) where
    pub members-within : within_c (piece_c from r) ≡ within_size (array_of vs)
    unfolding within_c within_size nesting_of record_size text_size
    members-within =
        let c = h.came in
        let e = ap value_record_sizes h.is in
        let f = ap value_text_sizes h.is in
        let g = ap deepest_value h.is in
        let cr = c.rec in
        let ct = c.text in
        let cd = c.deep in
        rw (
          within_c,
          leb-same (r.deep + 1) (suc (deepest_value vs)) max_nesting (λ l. omega arith) (λ l. omega arith),
          leb-same (r.out.rec.0 - from.rec.0 + 3) (3 + value_record_sizes vs) max_records (λ l. omega arith) (λ l. omega arith),
          leb-same (r.out.text.0 - from.text.0) (value_text_sizes vs) max_text (λ l. omega arith) (λ l. omega arith),
        )

    -- then no counter came to its bound
    pub members-written : within_c (piece_c from r) ≡ true → WrittenAll key h.helds from r.out b a
    members-written w =
        let m = within-records (piece_c from r) w in
        let k = within-texts (piece_c from r) w in
        h.came.exact (omega arith) (omega arith)

    pub members-deep : within_c (piece_c from r) ≡ true → r.deep ≡ deepest_value vs
    members-deep w =
        let l = within-nesting (piece_c from r) w in
        let d = h.came.deep in
        let g = ap deepest_value h.is in
        omega arith

-- where the elements of an array are written is inside the room
pub start-records : {key : ℕ → Text} {P : Held → Type 0} {j : Join} {room : List ℕ} (J : rules.Join) → JoinIn key P j room J
    → ((start_of j).rec.0 ≤ max_records) × ((start_of j).text.0 ≤ max_text)
start-records (rules.blank t) h = let k = h.is.0 in rw k (omega arith, omega arith)
start-records (rules.text t) h = let k = h.is.0 in rw k (omega arith, omega arith)
start-records {j = j} (rules.joined_array vs) h =
    let k = h.is.0.kind in
    let w = h.is.1 in
    rw k (within-records j.extent w, within-texts j.extent w)
start-records (rules.joined_object ms) h = let k = h.is.0 in rw k (omega arith, omega arith)
