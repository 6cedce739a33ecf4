-- An object piece: what the code decides, and that it is the rules' decision. Where the join is an object too the two merge; what is left then
-- is the size of the merged object.
use Rattle.std.specs.Prelude.{◌≡◌, ℕ, Bool, cond, List, Result, Ok, Err, Some, None}
use Rattle.std.proofs.Math.Path.{refl, sym}
use Rattle.std.proofs.Common.{ap, ◌∙◌}
use Rattle.std.proofs.Math.Bool.{true, false}
use mathlib.Core.Logic.{inl, inr}
use Rattle.std.proofs.Math.Option.{some}
use Rattle.std.specs.declared.option.Option.{Option}
use Rattle.answers.specs.Ask.{value, refused, then}
use Rattle.rules.specs.Bytes.{Text}
use Rattle.rules.specs.Refusals.{placed}
use Rattle.rules.specs.Values.{object_of, Members, merge_members}
use Rattle.rules.specs.Settled.{Given}
use Rattle.rules.specs.Unresolved as rules
use Rattle.rules.specs.Unresolved.{join_answer}
use Rattle.theory.specs.SettledAnswers.{sized_in, join_value_in, join_piece_in}
use Rattle.text_chars.specs.declared.Refusal.{Refusal}
use Rattle.sheet_kept.specs.Kept.{Held}
use Rattle.eval_results.specs.declared.extents.Extent.{Extent}
use Rattle.eval_results.specs.Sizes.Contracts.{within_c}
use Rattle.eval_results.specs.Sizes.Answers.{ValueIn, value-within}
use Rattle.eval_concat.specs.Model.{join, too_large_c, mixed_at, tested_c}
use Rattle.eval_concat.specs.Standing.{PieceAt, JoinIn, JoinRefused, JoinedIs}
use Rattle.eval_concat.specs.Pieces.{piece-small, piece-large, object-tested}
use Rattle.eval_concat.specs.declared.Kind.{Kind}
use Rattle.eval_concat.specs.declared.Join.{Join}

-- the join with an object more, none where it is an object too and the two merge, or a refusal
abbrev pub ObjectJoined : Type 0
ObjectJoined = Result (Option Join) Refusal

-- an object piece that is within its size
abbrev pub object_by : Kind → List ℕ → ℕ → Extent → ObjectJoined
object_by Kind.Blank T i e = Ok (Some (join Kind.Object e))
object_by Kind.Simple T i e = Err (mixed_at T i)
object_by (Kind.Array count) T i e = Err (mixed_at T i)
object_by Kind.Object T i e = Ok None

unfoldable pub object_c : List ℕ → ℕ → Join → Extent → ObjectJoined
unfolding within_c
object_c T i j e = cond (within_c e) (object_by j.kind T i e) (Err too_large_c)

pub record ObjectIs (T : List ℕ) (i : ℕ) (j : Join) (e : Extent) (r : ObjectJoined) : Type 0 where
  pub is : r ≡ object_c T i j e

module _ (key : ℕ → Text) (P : Held → Type 0) where
  -- The join so far is an object, and so is the piece, which is within its size: `ns` goes over it.
  pub record Merging (ns : Members) (J : rules.Join) (g : Given rules.Join) : Type 0 where
    pub lower : Members
    pub is : J ≡ rules.joined_object lower
    pub left : g ≡ sized_in (some (object_of (merge_members ns lower))) (rules.joined_object (merge_members ns lower))

  abbrev pub ObjectCase : List ℕ → Members → rules.Join → Extent → Given rules.Join → ObjectJoined → Type 0
  ObjectCase room ns J e g (Ok (Some j)) = (K : rules.Join) × (g ≡ value K) × JoinIn key P j room K
  ObjectCase room ns J e g (Ok None) = Merging ns J g × (within_c e ≡ true)
  ObjectCase room ns J e g (Err x) = JoinRefused g x

  pub record ObjectJoinedIs (room : List ℕ) (ns : Members) (J : rules.Join) (e : Extent) (g : Given rules.Join) (r : ObjectJoined) : Type 0 where
    pub is : ObjectCase room ns J e g r

-- the merged object is the join
pub merged-is : {key : ℕ → Text} {P : Held → Type 0} {room : List ℕ} {ns : Members} {J : rules.Join} {g : Given rules.Join} {e : Extent}
    (m : Merging key P ns J g) → ValueIn key P room e (object_of (merge_members ns m.lower)) → JoinedIs key P room g (tested_c (join Kind.Object e))
merged-is m h = rw m.left (object-tested refl h)

-- the join is that of the room before the piece was written over it
module _ {key : ℕ → Text} {P : Held → Type 0} {T X : List ℕ} {i place : ℕ} {gap : Text} (at : PieceAt T X i place gap) {j : Join} {e : Extent}
    {ns : Members} {old room : List ℕ} (x : ValueIn key P room e (object_of ns)) where
  object-joined : (J : rules.Join) → JoinIn key P j old J → within_c e ≡ true
      → ObjectJoinedIs key P room ns J e (then (join_value_in place gap (object_of ns) J) (λ k. sized_in (join_answer k) k)) (object_by j.kind T i e)
  unfolding join_value_in join_answer sized_in
  object-joined (rules.blank t) h w =
      let k = h.is.0 in
      record { is = rw k (rules.joined_object ns, rw (sized_in, sym (value-within x) ∙ w), record { is = (refl, x, w) }) }
  object-joined (rules.text t) h w =
      let k = h.is.0 in
      record { is = rw k (inl (ap (λ (n : ℕ). refused (placed 11 n)) (sym at.place), refl)) }
  object-joined (rules.joined_array vs) h w =
      let k = h.is.0.kind in
      record { is = rw k (inl (ap (λ (n : ℕ). refused (placed 11 n)) (sym at.place), refl)) }
  object-joined (rules.joined_object ms) h w =
      let k = h.is.0 in
      record { is = rw k (record { lower = ms; is = refl; left = refl }, w) }

  pub object-is : (J : rules.Join) → JoinIn key P j old J → {r : ObjectJoined} → ObjectIs T i j e r
      → ObjectJoinedIs key P room ns J e (join_piece_in place gap (some (object_of ns)) J) r
  unfolding object_c
  object-is J h {r} d = go (within_c e) refl
    where
      go : (t : Bool) → within_c e ≡ t → ObjectJoinedIs key P room ns J e (join_piece_in place gap (some (object_of ns)) J) r
      go true w =
          let z : r ≡ object_by j.kind T i e = d.is ∙ rw (object_c, w) in
          rw (z, piece-small place gap (object_of ns) J (sym (value-within x) ∙ w)) (object-joined J h w)
      go false w =
          let z : r ≡ Err too_large_c = d.is ∙ rw (object_c, w) in
          record { is = rw z (inr (piece-large place gap (object_of ns) J (sym (value-within x) ∙ w), refl)) }
