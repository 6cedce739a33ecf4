-- One law for each answer of the functions that walk along a path.
use Rattle.std.specs.Prelude.{Some, None, Ok, Err}
use mathlib.Core.Path.{◌≡◌, refl, sym, ◌∙◌, ap}
use mathlib.Core.List.{List, [], ◌∷◌}
use mathlib.Core.Option.{Option, none, some}
use Prim.Native.Nat.{ℕ, suc, ◌+◌, ◌-◌, ◌*◌, ◌≤◌, ◌<◌}
use native.Mathlib.Omega.{arith}
use lib.ListN.{length, get_or, take, drop, length-drop, length-take}
use lib.Seq.{slice}
use Rattle.answers.specs.Theory.Sound.{clash}
use Rattle.rules.specs.Refusals.{spent_fuel}
use Rattle.rules.specs.Bytes.{Text}
use Rattle.rules.specs.Sizes.{max_nesting, max_room}
use Rattle.rules.specs.Paths.{Element, texts_of}
use Rattle.rules.specs.LookUp.{after_value, member_at, value_named}
use Rattle.rules.specs.Jobs.{not_found, found_at}
use Rattle.theory.specs.LookUpSteps.{named-nil, named_none, named-next}
use Rattle.text_chars.specs.Parts.{part_slice}
use Rattle.text_chars.specs.Cursor.{doc, refusal}
use Rattle.text_chars.specs.declared.RecAt.{RecAt}
use Rattle.text_chars.specs.declared.TextAt.{TextAt}
use Rattle.sheet_records.specs.Kinds.Contracts.{End, near_room, rec, rec_len, end_at, Between, EndIs}
use Rattle.sheet_records.specs.Kinds.Ends.{some_is, none_is, between_is}
use Rattle.text_elements.specs.Marks.Holding.{Held}
use Rattle.text_elements.specs.Marks.Marks.{end_of}
use Rattle.sheet_paths.specs.Clauses.{Near, Inside, NextIs, ValueNamedIs, PartIs, PartNamedIs}
use Rattle.sheet_paths.specs.Answers.{Found, part}

-- an end, back as the rules have it
some_end : (o : Option ℕ) (p : RecAt) → Some p ≡ end_at o → o ≡ some p.0
some_end none p z = clash (cc)
some_end (some q) p z = let i : p ≡ rec q = cc in ap (λ (x : RecAt). some x.0) (sym i)

none_end : (o : Option ℕ) → None ≡ end_at o → o ≡ none
none_end none z = refl
none_end (some q) z = clash (cc)

-- ---- one element

near-end : (n at : ℕ) (r : End) → Between (at + 1) (n + 7) r → n ≤ max_room → Near r
near-end n at (Some p) b l = omega (arith, b.1)
near-end n at None b l = tt

inside-end : (end n : ℕ) (r : End) → end ≤ n → Inside end n r
inside-end end n (Some p) h = h
inside-end end n None h = tt

module _ {table text names : List ℕ} {from end at : ℕ} where
  pub next-backward : end < from → NextIs table text names from end at None
  next-backward l = record { is = λ h k. absurd (omega arith); near = tt; inside = tt }

  pub next-outside : length names < end → NextIs table text names from end at None
  next-outside l = record { is = λ h k. absurd (omega arith); near = tt; inside = tt }

  pub next-member : {r : End} → EndIs (member_at table text (take (end - from) (drop from names)) at) (at + 1) (length table + 7) r
      → length table ≤ max_room → end ≤ length names → NextIs table text names from end at r
  next-member {r} k l i = record {
    is = λ h m. k.is ∙ ap (λ (w : List ℕ). end_at (member_at table text w at)) (part_slice names from end h);
    near = near-end (length table) at r k.between l;
    inside = inside-end end (length names) r i;
  }

-- ---- all elements

-- what the walk keeps: the elements that are left name, from the place that was reached, what all name from the root
pub record Left (table text names marks : List ℕ) (count at from i : ℕ) (es : List Element) : Type 0 where
  pub rest : List Element
  pub held : Held from i rest names marks
  pub still-to-go : length rest + i ≡ count
  pub same : value_named table text (texts_of es) 0 ≡ value_named table text (texts_of rest) at

pub record Walking (table text names marks : List ℕ) (count at from i : ℕ) : Type 0 where
  pub left : (es : List Element) → Held 0 0 es names marks → length es ≡ count → Left table text names marks count at from i es
  pub near : at ≤ max_room + 7
  pub inside : from ≤ length names
  pub counted : i ≤ count

pub walk_start : {table text names marks : List ℕ} {count : ℕ} → Walking table text names marks count 0 0 0
walk_start = record {
  left = λ es h l. record { rest = es; held = h; still-to-go = omega arith; same = refl };
  near = omega arith;
  inside = omega arith;
  counted = omega arith;
}

-- the end of the next element is marked, and inside the text
record Marked (names : List ℕ) (from : ℕ) (t : Text) (end : ℕ) : Type 0 where
  is : slice from end names ≡ t
  forward : from ≤ end
  within : end ≤ length names
  size : end ≡ from + length t

marked : (names marks : List ℕ) (from i : ℕ) (e : Element) (es : List Element) → Held from i (e ∷ es) names marks → i < 17 → from ≤ length names
    → Marked names from e.text (get_or marks (2 * i) 0)
marked names marks from i e es h l k =
    let m : get_or marks (2 * i) 0 ≡ from + length e.text = (h.1 l).0 in
    let s : slice from (from + length e.text) names ≡ e.text = h.0 in
    let n : length (slice from (from + length e.text) names) ≡ length e.text = ap length s in
    let d = length-drop from (take (from + length e.text) names) in
    let t = length-take (from + length e.text) names in
    record { is = rw m s; forward = omega arith; within = omega arith; size = m }

module _ {table text names marks : List ℕ} {count at from i : ℕ} (w : Walking table text names marks count at from i) (l : i < count) (b : count ≤ 16)
    {r : End} (k : NextIs table text names from (get_or marks (2 * i) 0) at r) where
  module _ (es : List Element) (h : Held 0 0 es names marks) (n : length es ≡ count) where
    -- what one element more names
    step : (rest : List Element) → Held from i rest names marks → length rest + i ≡ count
        → value_named table text (texts_of es) 0 ≡ value_named table text (texts_of rest) at
        → (e : Element) × (rest' : List Element) × (rest ≡ e ∷ rest') × (r ≡ end_at (member_at table text e.text at)) × Marked names from e.text (get_or marks (2 * i) 0)
        × Held (from + length e.text) (suc i) rest' names marks
    step [] x y z = absurd (omega arith)
    step (e ∷ rest') x y z =
        let m = marked names marks from i e rest' x (omega arith) w.inside in
        (e, rest', refl, k.is m.forward m.within ∙ ap (λ t. end_at (member_at table text t at)) m.is, m, x.2)

  nowhere : r ≡ None → ValueNamedIs table text names marks count None
  nowhere z = record {
    is = λ es h n.
        let L = w.left es h n in
        let (e, rest', q, f, m, g) = step es h n L.rest L.held L.still-to-go L.same in
        let o : member_at table text e.text at ≡ none = none_end (member_at table text e.text at) (sym z ∙ f) in
        let v : value_named table text (texts_of es) 0 ≡ none =
        L.same ∙ ap (λ (l : List Element). value_named table text (texts_of l) at) q ∙ named_none table text e.text (texts_of rest') at o in
        rw v;
    near = tt;
  }

  more : {p : RecAt} → r ≡ Some p → Walking table text names marks count p.0 (get_or marks (2 * i) 0) (i + 1)
  more {p} z = record {
    left = λ es h n.
        let L = w.left es h n in
        let (e, rest', q, f, m, g) = step es h n L.rest L.held L.still-to-go L.same in
        let o : member_at table text e.text at ≡ some p.0 = some_end (member_at table text e.text at) p (sym z ∙ f) in
        let s : suc i ≡ i + 1 = omega arith in
        let c : length L.rest ≡ suc (length rest') = ap length q in
        record {
          rest = rest';
          held = rw (m.size, ← s) g;
          still-to-go = omega (arith, L.still-to-go);
          same = L.same ∙ ap (λ (l : List Element). value_named table text (texts_of l) at) q ∙ named-next table text e.text (texts_of rest') at p.0 o;
        };
    near = rw z at k.near;
    inside = rw z at k.inside;
    counted = omega arith;
  }

module _ {table text names marks : List ℕ} {count at i : ℕ} {from end : TextAt} (w : Walking table text names marks count at from.0 i) (l : i < count) (b : count ≤ 16)
    (m : end.0 ≡ end_of marks i) {r : End} (k : NextIs table text names from.0 end.0 at r) where
  marked_next : NextIs table text names from.0 (get_or marks (2 * i) 0) at r
  marked_next = rw m at k

  pub walk-nowhere : {q : End} → r ≡ None → q ≡ None → ValueNamedIs table text names marks count q
  walk-nowhere z n = rw n (nowhere w l b marked_next z)

  pub walk_more : {p : RecAt} → r ≡ Some p → Walking table text names marks count p.0 end.0 (i + 1)
  walk_more z = rw m (more w l b marked_next z)

pub walk_end : {table text names marks : List ℕ} {count i : ℕ} {at : RecAt} {from : ℕ} → Walking table text names marks count at.0 from i → count ≤ i
    → ValueNamedIs table text names marks count (Some at)
walk_end {table} {text} {names} {marks} {count} {i} {at} w l = record {
  is = λ es h n.
      let L = w.left es h n in
      let v : value_named table text (texts_of es) 0 ≡ some at.0 = L.same ∙ last L.rest (omega (arith, L.still-to-go)) in
      rw v;
  near = w.near;
}
  where
    last : (rest : List Element) → length rest ≤ 0 → value_named table text (texts_of rest) at.0 ≡ some at.0
    last [] h = named-nil table text at.0
    last (e ∷ es) h = absurd (omega arith)

-- ---- the part, and what a path names

pub part-size : {o : Option ℕ} {at high : ℕ} {r : End} {e : RecAt} → EndIs o (at + 1) high r → r ≡ Some e → at ≤ e.0
part-size {o} {at} {high} k z = let b = between_is k z in omega (arith, b.0)

module _ {table : List ℕ} {limit : ℕ} {at : RecAt} {r : End} (k : EndIs (after_value max_nesting table limit at.0) (at.0 + 1) (length table) r) where
  pub part-whole : {e : RecAt} → r ≡ Some e → PartIs table limit at.0 (Ok (part at (rec_len (e.0 - at.0))))
  unfolding found_at
  part-whole {e} z = record {
    is = λ text o l q.
        let a : after_value max_nesting table (length text) at.0 ≡ some e.0 = rw l (some_is k z) in
        rw (q, a, found_at);
  }

  pub part_none : r ≡ None → PartIs table limit at.0 (Err (refusal spent_fuel (doc 0)))
  unfolding found_at not_found
  part_none z = record {
    is = λ text o l q.
        let a : after_value max_nesting table (length text) at.0 ≡ none = rw l (none_is k z) in
        rw (q, a, found_at);
  }

module _ {table text names marks : List ℕ} {count : ℕ} {r : End} (k : ValueNamedIs table text names marks count r) where
  pub named-part : {p : RecAt} {f : Found} → r ≡ Some p → PartIs table (length text) p.0 f → PartNamedIs table text names marks count f
  named-part {p} z w = record { is = λ es h n. w.is text (value_named table text (texts_of es) 0) refl (some_end _ p (sym z ∙ k.is es h n)) }

  pub named-nothing : r ≡ None → PartNamedIs table text names marks count (Err (refusal 16 (doc 0)))
  unfolding found_at not_found
  named-nothing z = record {
    is = λ es h n. let v : value_named table text (texts_of es) 0 ≡ none = none_end _ (sym z ∙ k.is es h n) in rw (v, found_at);
  }

  pub named-near : {p : RecAt} → r ≡ Some p → p.0 ≤ near_room
  named-near {p} z = let n : Near (Some p) = rw z at k.near in omega arith

pub ruleset nexts = (next-backward, next-outside, next-member)

pub ruleset walks = (walk_start, walk-nowhere, walk_more, walk_end)

pub ruleset parts = (part-whole, part_none)

pub ruleset nameds = (named-part, named-nothing)
