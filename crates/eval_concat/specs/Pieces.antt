-- The model on numbers is the rules' `join_piece`, number and place included, where the room holds the join so far: one law for each kind of
-- piece.
use Rattle.std.specs.Prelude.{◌≡◌, ℕ, ◌+◌, ◌≤◌, Bool, List, ◌++◌, length, Ok}
use Rattle.std.proofs.Math.Path.{refl, sym, ap}
use Rattle.std.proofs.Common.{◌∙◌, arith}
use Rattle.std.proofs.Math.Bool.{true, false}
use mathlib.Core.Logic.{inl, inr}
use Rattle.std.proofs.Math.Option.{none, some}
use Rattle.std.proofs.Math.Dec.{leb}
use borrow.Author.Tests.{leb-true}
use Rattle.answers.specs.Ask.{refused, then}
use Rattle.rules.specs.Bytes.{Text}
use Rattle.rules.specs.Sizes.{max_text}
use Rattle.rules.specs.Refusals.{placed, nowhere}
use Rattle.rules.specs.Pieces.{scalar_text}
use Rattle.rules.specs.Tree.{Scalar, null, boolean, number, string}
use Rattle.rules.specs.Values.{Value, scalar, array_of, object_of, Values, Members, join_values, deepest_value, within_size}
use Rattle.rules.specs.Unresolved as rules
use Rattle.rules.specs.Unresolved.{join_nothing, join_answer}
use Rattle.theory.specs.SettledAnswers.{sized_in, join_value_in, join_piece_in}
use Rattle.sheet_kept.specs.Kept.{Held, listed, Helds, named_all}
use Rattle.eval_writer.specs.Model.{word_at, key_at, key_len}
use Rattle.eval_writer.specs.Clauses.{Room, PutsText}
use Rattle.eval_results.specs.Sizes.Contracts.{within_c}
use Rattle.eval_results.specs.Sizes.Answers.{ValueIn, value-within}
use Rattle.eval_writer.specs.Composition.{start}
use Rattle.eval_writer.specs.Building.{WrittenAll, inside}
use Rattle.eval_results.specs.declared.extents.Extent.{Extent}
use Rattle.eval_concat.specs.Model.{text_of, text_join, tested_c, takes_text, nothing_c, text_c, start_of, piece_c, members_by, members_c}
use Rattle.eval_concat.specs.Kinds.{array-stays, object-stays, members-blank, members-array}
use Rattle.eval_concat.specs.Helds.{join_helds, named-join, count-join, deepest-join, all_then}
use Rattle.eval_concat.specs.Standing.{TextIn, more-text, PieceAt, ArrayIn, JoinIn, JoinedIs, MembersIn, array-within, members-within, members-written, members-deep, start-records}
use Rattle.eval_concat.specs.declared.Kind.{Kind}
use Rattle.eval_concat.specs.declared.Join.{Join}

-- ---- the rules, a step at a time

module _ (place : ℕ) (gap : Text) (v : Value) (J : rules.Join) where
  pub piece-small : within_size v ≡ true → join_piece_in place gap (some v) J ≡ then (join_value_in place gap v J) (λ k. sized_in (join_answer k) k)
  unfolding join_piece_in sized_in
  piece-small e = rw (join_piece_in, sized_in, e)

  pub piece-large : within_size v ≡ false → join_piece_in place gap (some v) J ≡ refused (nowhere 13)
  unfolding join_piece_in sized_in
  piece-large e = rw (join_piece_in, sized_in, e)

-- a simple piece's own size is that of its text
scalar-within : (x : Scalar) → within_size (scalar x) ≡ leb (length (scalar_text x)) max_text
unfolding within_size scalar_text
scalar-within null = refl
scalar-within (boolean true) = refl
scalar-within (boolean false) = refl
scalar-within (number t) = refl
scalar-within (string t) = refl

-- ---- the size of the join so far

module _ {key : ℕ → Text} {P : Held → Type 0} {room : List ℕ} where
  tested-is : (j : Join) (v : Value) (J : rules.Join) → within_c j.extent ≡ within_size v → (within_c j.extent ≡ true → JoinIn key P j room J)
      → JoinedIs key P room (sized_in (some v) J) (tested_c j)
  unfolding tested_c sized_in
  tested-is j v J w f = go (within_c j.extent) refl
    where
      go : (t : Bool) → within_c j.extent ≡ t → JoinedIs key P room (sized_in (some v) J) (tested_c j)
      go true e = record { is = rw (tested_c, e) (J, rw (sized_in, sym w ∙ e), f e) }
      go false e = record { is = rw (tested_c, e, sized_in, sym w ∙ e) (inr (refl, refl)) }

  text-tested : {t : Text} {n : ℕ} → TextIn t n room → JoinedIs key P room (sized_in (some (scalar (string t))) (rules.text t)) (tested_c (text_join n))
  unfolding within_c within_size
  text-tested {t} {n} h =
      tested-is (text_join n) (scalar (string t)) (rules.text t) (ap (λ (m : ℕ). leb m max_text) h.size)
      (λ e. record { is = (refl, h, refl, refl, leb-true n max_text e) })

  array-tested : {j : Join} {vs : Values} → ArrayIn key P j room vs → JoinedIs key P room (sized_in (some (array_of vs)) (rules.joined_array vs)) (tested_c j)
  array-tested {j} {vs} h = tested-is j (array_of vs) (rules.joined_array vs) (array-within h) (λ e. record { is = (h, e) })

  pub object-tested : {j : Join} {ms : Members} → j.kind ≡ Kind.Object → ValueIn key P room j.extent (object_of ms)
      → JoinedIs key P room (sized_in (some (object_of ms)) (rules.joined_object ms)) (tested_c j)
  object-tested {j} {ms} k h = tested-is j (object_of ms) (rules.joined_object ms) (value-within h) (λ e. record { is = (k, h, e) })

-- a join stays as it is: it was tested
stays : {key : ℕ → Text} {P : Held → Type 0} {a : List ℕ} {j : Join} (v : Value) (J : rules.Join) → within_size v ≡ true → JoinIn key P j a J
    → JoinedIs key P a (sized_in (some v) J) (Ok j)
unfolding sized_in
stays v J e h = record { is = (J, rw (sized_in, e), h) }

-- ---- an undefined piece

module _ {key : ℕ → Text} {P : Held → Type 0} {T X : List ℕ} {i place : ℕ} {gap : Text} (at : PieceAt T X i place gap) {b a : List ℕ} (whole : Room b)
    {j : Join} where
  pub nothing_is : (J : rules.Join) → JoinIn key P j b J
      → (takes_text j.kind ≡ true → PutsText (text_of j) (key_len T i) (word_at X (key_at T i) (key_len T i)) b a)
      → (takes_text j.kind ≡ false → a ≡ b)
      → JoinedIs key P a (join_piece_in place gap none J) (nothing_c T i j)
  unfolding join_piece_in join_nothing join_answer sized_in nothing_c
  nothing_is (rules.blank t) h put same =
      let (k, x) = h.is in
      record { is = rw (nothing_c, k) (rules.blank (t ++ gap), refl, record { is = (refl, more-text whole x at.size at.text (put (rw k))) }) }
  nothing_is (rules.text t) h put same =
      let (k, x, q, d, l) = h.is in
      rw (nothing_c, k) (text-tested (more-text whole x at.size at.text (put (rw k))))
  nothing_is (rules.joined_array vs) h put same =
      let (x, w) = h.is in
      let k = x.kind in
      rw (nothing_c, array-stays j.kind j (text_of j + key_len T i) k, same (rw k)) (stays (array_of vs) (rules.joined_array vs) (sym (array-within x) ∙ w) h)
  nothing_is (rules.joined_object ms) h put same =
      let (k, x, w) = h.is in
      rw (nothing_c, object-stays j.kind j (text_of j + key_len T i) k, same (rw k)) (stays (object_of ms) (rules.joined_object ms) (sym (value-within x) ∙ w) h)

-- ---- a simple piece: its text behind the whitespace before it

pub record TextPut (T X : List ℕ) (i : ℕ) (s : Text) (to : ℕ) (b a : List ℕ) : Type 0 where
  pub middle : List ℕ
  pub whole : Room middle
  pub gap : PutsText to (key_len T i) (word_at X (key_at T i) (key_len T i)) b middle
  pub text : PutsText (to + key_len T i) (length s) s middle a

longer : {T X : List ℕ} {i place : ℕ} {gap s t : Text} {to : ℕ} {b a : List ℕ} → PieceAt T X i place gap → Room b → TextPut T X i s to b a
    → TextIn t to b → TextIn (t ++ gap ++ s) (to + key_len T i + length s) a
longer at whole p h = more-text p.whole (more-text whole h at.size at.text p.gap) refl refl p.text

module _ {key : ℕ → Text} {P : Held → Type 0} {T X : List ℕ} {i place : ℕ} {gap : Text} (at : PieceAt T X i place gap) {b a : List ℕ} (whole : Room b)
    {j : Join} (x : Scalar) where
  -- it is within its size
  module _ (l : leb (length (scalar_text x)) max_text ≡ true) (put : takes_text j.kind ≡ true → TextPut T X i (scalar_text x) (text_of j) b a) where
    text-joined : (J : rules.Join) → JoinIn key P j b J
        → JoinedIs key P a (then (join_value_in place gap (scalar x) J) (λ k. sized_in (join_answer k) k)) (text_c T i (length (scalar_text x)) j)
    unfolding join_value_in join_answer text_c
    text-joined (rules.blank t) h = let (k, y) = h.is in rw (text_c, l, k) (text-tested (longer at whole (put (rw k)) y))
    text-joined (rules.text t) h = let (k, y, q, d, m) = h.is in rw (text_c, l, k) (text-tested (longer at whole (put (rw k)) y))
    text-joined (rules.joined_array vs) h =
        let k = h.is.0.kind in
        record { is = rw (text_c, l, k) (inl (ap (λ (p : ℕ). refused (placed 11 p)) (sym at.place), refl)) }
    text-joined (rules.joined_object ms) h =
        let k = h.is.0 in
        record { is = rw (text_c, l, k) (inl (ap (λ (p : ℕ). refused (placed 11 p)) (sym at.place), refl)) }

  pub text-is : (J : rules.Join) → JoinIn key P j b J
      → (length (scalar_text x) ≤ max_text → takes_text j.kind ≡ true → TextPut T X i (scalar_text x) (text_of j) b a)
      → JoinedIs key P a (join_piece_in place gap (some (scalar x)) J) (text_c T i (length (scalar_text x)) j)
  unfolding text_c
  text-is J h put = go (leb (length (scalar_text x)) max_text) refl
    where
      go : (t : Bool) → leb (length (scalar_text x)) max_text ≡ t → JoinedIs key P a (join_piece_in place gap (some (scalar x)) J) (text_c T i (length (scalar_text x)) j)
      go true e = rw (piece-small place gap (scalar x) J (scalar-within x ∙ e)) (text-joined e (put (leb-true (length (scalar_text x)) max_text e)) J h)
      go false e = record { is = rw (text_c, e) (inr (piece-large place gap (scalar x) J (scalar-within x ∙ e), refl)) }

-- ---- an array

module _ {key : ℕ → Text} {P : Held → Type 0} (joins : (vs ws : Helds) → P (listed vs) → P (listed ws) → P (listed (join_helds vs ws)))
    {T X : List ℕ} {i place : ℕ} {gap : Text} (at : PieceAt T X i place gap) {b a : List ℕ} (whole : Room b)
    {j : Join} {ws : Values} {n : ℕ} {r : Extent} where
  members-joined : (J : rules.Join) → JoinIn key P j b J → (m : MembersIn key P ws (start_of j) n r b a)
      → WrittenAll key m.helds (start_of j) r.out b a → r.deep ≡ deepest_value ws
      → JoinedIs key P a (then (join_value_in place gap (array_of ws) J) (λ k. sized_in (join_answer k) k)) (members_by j.kind T i j n r)
  unfolding join_value_in join_answer
  members-joined (rules.blank t) h m u d =
      let (k, y) = h.is in
      let w : WrittenAll key m.helds (inside start) r.out b a = rw k at u in
      rw (members-blank j.kind T i j n r k) (array-tested (record {
        helds = m.helds;
        good = m.good;
        is = m.is;
        kind = ap Kind.Array m.count;
        before = b;
        whole = whole;
        written = w;
        deep = omega arith;
      }))
  members-joined (rules.text t) h m u d =
      let k = h.is.0 in
      record { is = rw k (inl (ap (λ (p : ℕ). refused (placed 11 p)) (sym at.place), refl)) }
  members-joined (rules.joined_array vs) h m u d =
      let (y, l) = h.is in
      let k = y.kind in
      let w : WrittenAll key m.helds j.extent.out r.out b a = rw k at u in
      let e = y.deep in
      let c = m.count in
      rw (members-array j.kind T i j n r k) (array-tested (record {
        helds = join_helds y.helds m.helds;
        good = joins y.helds m.helds y.good m.good;
        is = named-join key y.helds m.helds ∙ ap (λ (u : Values). join_values u (named_all key m.helds)) y.is ∙ ap (join_values vs) m.is;
        kind = ap Kind.Array (let z = count-join y.helds m.helds in omega arith);
        before = y.before;
        whole = y.whole;
        written = all_then y.written w;
        deep = let z = deepest-join vs ws in omega arith;
      }))
  members-joined (rules.joined_object ms) h m u d =
      let k = h.is.0 in
      record { is = rw k (inl (ap (λ (p : ℕ). refused (placed 11 p)) (sym at.place), refl)) }

  pub members-is : (J : rules.Join) → JoinIn key P j b J → MembersIn key P ws (start_of j) n r b a
      → JoinedIs key P a (join_piece_in place gap (some (array_of ws)) J) (members_c T i j (start_of j) n r)
  unfolding members_c
  members-is J h m = go (within_c (piece_c (start_of j) r)) refl
    where
      go : (t : Bool) → within_c (piece_c (start_of j) r) ≡ t
          → JoinedIs key P a (join_piece_in place gap (some (array_of ws)) J) (members_c T i j (start_of j) n r)
      go true e =
          let (p, q) = start-records J h in
          rw (members_c, e, piece-small place gap (array_of ws) J (sym (members-within m p q) ∙ e))
          (members-joined J h m (members-written m p q e) (members-deep m p q e))
      go false e =
          let (p, q) = start-records J h in
          record { is = rw (members_c, e) (inr (piece-large place gap (array_of ws) J (sym (members-within m p q) ∙ e), refl)) }
