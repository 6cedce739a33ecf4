-- One law for each answer of the reader of a piece.
use Rattle.std.specs.Prelude.{Result, Ok, Err, Some, None}
use Rattle.std.specs.declared.option.Option.{Option}
use mathlib.Core.Path.{◌≡◌, refl, sym}
use Prim.Native.Nat.{ℕ, ◌+◌, ◌*◌, ◌-◌, ◌≤◌, ◌<◌}
use mathlib.Core.Bool.{true}
use mathlib.Core.List.{List}
use native.Mathlib.Omega.{arith}
use mir.Syntax.{w64}
use mir.Val.{Fits}
use lib.ListN.{length}
use Rattle.rules.specs.Sizes.{max_items}
use Rattle.rules.specs.Refusals.{placed}
use Rattle.rules.specs.Reading.{brace, bracket, dollar, simple_start, value_in}
use Rattle.text_chars.specs.declared.Cursor.{Cursor}
use Rattle.text_chars.specs.declared.Refusal.{Refusal}
use Rattle.text_chars.specs.Parts.{part, back, part_length, back-length}
use Rattle.read_grammar.specs.Decisions.{closes}
use Rattle.read_grammar.specs.Limits.Limits.{Begins, PieceStartIs}
use Rattle.read_values.specs.Pieces.Pieces.{Nested, ContainerPieceIs}
use Rattle.read_steps.specs.Steps.{ScalarPieceAsked, Plain, ScalarPieceIs}
use Rattle.read_references.specs.ReferencePieces.{ReferencePieceAsked, Linked, ReferencePieceIs}
use Rattle.read_grammar.specs.declared.limits.Beginning.{Beginning}
use Rattle.read_values.specs.declared.pieces.Listed.{Listed}
use Rattle.read_values.specs.declared.pieces.PieceItem.{PieceItem}
use Rattle.read_cycle.specs.Clauses.{Asked, Array, Object, ArrayIs, ObjectIs, PieceAsked, Pieced, PieceIs}
use Rattle.read_cycle.specs.Measures.{need}
use Rattle.read_cycle.proofs.Piecing.{scalar-refused, scalar-found, dollar-refused, dollar-found, brace-refused, brace-found, bracket-refused, bracket-found}

module _ {s : List ℕ} {at w left items : ℕ} {x t : List ℕ} (a : PieceAsked s at w left items x t) where
  pub piece-refused : {d : Refusal} → PieceStartIs s at left items (Err d) → PieceIs s at w left items x t x t (Err d)
  piece-refused h =
      let u = h.is in
      record { is = (u.0, u.1, (placed 8 at, u.4 (value_in s), u.2, u.3)); kept_table = refl; kept-text = refl }

module _ {s : List ℕ} {at w left items : ℕ} {x t : List ℕ} (a : PieceAsked s at w left items x t) {b : Beginning}
    (h : PieceStartIs s at left items (Ok b)) where
  pub piece-none : b ≡ Beginning.Nothing → PieceIs s at w left items x t x t (Ok None)
  piece-none e =
      let u : Begins s at left items (Ok Beginning.Nothing) = rw e at h.is in
      record { is = u; kept_table = refl; kept-text = refl }

  -- ---- simple pieces and substitutions

  module _ (e : b ≡ Beginning.Scalar) where
    simple : Begins s at left items (Ok Beginning.Scalar)
    simple = rw e at h.is

    pub piece-plain-asks : ScalarPieceAsked s at items t
    piece-plain-asks = record {
      short = a.short;
      inside = simple.2;
      begins = simple.3;
      few = simple.1;
      room = omega (arith, a.text-room, a.before, simple.2);
    }

    pub piece-plain : {t' : List ℕ} {r : Result (Option PieceItem) Refusal} → ScalarPieceIs s at w items t t' r → PieceIs s at w left items x t x t' r
    piece-plain {t'} {r} m = record { is = go r refl; kept_table = refl; kept-text = m.kept }
      where
        go : (q : Result (Option PieceItem) Refusal) → r ≡ q → Pieced s at w left items x t' q
        go (Ok (Some f)) g =
            let u : Plain s at w items t' (Ok (Some f)) = rw g at m.is in
            scalar-found a simple.1 simple.0 f u.1 u.2 u.3 u.4 u.5 t' u.6 u.7 u.8 u.9 u.10 x
        go (Ok None) g = absurd (rw g at m.is)
        go (Err d) g =
            let u : Plain s at w items t' (Err d) = rw g at m.is in
            (simple_start, simple.0, (u.0, scalar-refused a simple.1 u.1, u.2, u.3))

  module _ (e : b ≡ Beginning.Reference) where
    linked : Begins s at left items (Ok Beginning.Reference)
    linked = rw e at h.is

    pub piece-linked-asks : ReferencePieceAsked s at items t
    piece-linked-asks = record {
      short = a.short;
      inside = linked.2;
      first = linked.3;
      second = linked.4;
      few = linked.1;
      room = omega (arith, a.text-room, a.before, linked.2);
    }

    pub piece-linked : {t' : List ℕ} {r : Result (Option PieceItem) Refusal} → ReferencePieceIs s at w items t t' r → PieceIs s at w left items x t x t' r
    piece-linked {t'} {r} m = record { is = go r refl; kept_table = refl; kept-text = m.kept }
      where
        go : (q : Result (Option PieceItem) Refusal) → r ≡ q → Pieced s at w left items x t' q
        go (Ok (Some f)) g =
            let u : Linked s at w items t' (Ok (Some f)) = rw g at m.is in
            dollar-found a linked.1 linked.0 f u.1 u.2 u.3 u.4 u.5 u.6 u.7 u.8 t' u.9 u.10 u.11 u.12 x
        go (Ok None) g = absurd (rw g at m.is)
        go (Err d) g =
            let u : Linked s at w items t' (Err d) = rw g at m.is in
            (dollar, linked.0, (u.0, dollar-refused a linked.1 u.1, u.2, u.3))

  -- ---- objects and arrays

  asks-inner : {c : Cursor} → items < max_items → 1 ≤ left → at < length s → c.at.0 ≡ at + 1
      → Asked s c.at.0 (left - 1) (items + 1) x (part (2 * c.at.0 - w) t)
  asks-inner {c} few deep inside e = record {
    short = a.short;
    inside = omega arith;
    nested = omega (arith, a.nested);
    few = omega arith;
    table-room = a.table-room;
    text-room = omega (arith, a.text-room, a.before, part_length (2 * c.at.0 - w) t);
  }

  kept : (c : Cursor) (z : List ℕ) → at < length s → c.at.0 ≡ at + 1 → length z ≡ length (part (2 * c.at.0 - w) t) → length (back (2 * c.at.0 - w) t z) ≡ length t
  kept c z inside e l = back-length (2 * c.at.0 - w) t z (omega (arith, a.text-room, a.before)) l

  module _ {c : Cursor} (e : b ≡ Beginning.Object c) where
    opens : Begins s at left items (Ok (Beginning.Object c))
    opens = rw e at h.is

    pub piece-object-asks : Asked s c.at.0 (left - 1) (items + 1) x (part (2 * c.at.0 - w) t)
    piece-object-asks = asks-inner opens.1 opens.2 opens.3 opens.4

    pub piece-object-falls : (n : ℕ) → need 1 s at ≡ n → need 5 s c.at.0 < n
    piece-object-falls n q = omega (arith, opens.3, opens.4)

    pub piece-object-text : 2 * c.at.0 - w ≤ length t
    piece-object-text = omega (arith, opens.3, opens.4, a.text-room, a.before)

    pub piece-object-fits : Fits w64 (2 * c.at.0)
    piece-object-fits = omega (arith, opens.3, opens.4, a.short)

    pub piece-object-far : w ≤ 2 * c.at.0
    piece-object-far = omega (arith, opens.4, a.before)

    pub piece-object-deep : 1 ≤ left
    piece-object-deep = opens.2

    told : (y z : List ℕ) (r : Result Listed Refusal) (q : Result (Option PieceItem) Refusal) → Object s (at + 1) (left - 1) (items + 1) y z 125 r → Nested r 7 q → Pieced s at w left items y (back (2 * (at + 1) - w) t z) q
    told y z (Ok o) (Ok (Some f)) u v =
        let i : o.next ≡ f.next = sym v.0 in
        let j : o.items ≡ f.items = sym v.1 in
        let u' : Object s (at + 1) (left - 1) (items + 1) y z 125 (Ok (record { next = f.next; items = f.items })) = rw (sym i, sym j) u in
        brace-found a opens.1 opens.2 opens.3 f v.3 v.4 v.5 y z u'.2 opens.0 v.2 u'.1 u'.3
    told y z (Ok o) (Ok None) u v = absurd v
    told y z (Ok o) (Err d) u v = absurd v
    told y z (Err d) q u v =
        rw v (brace, opens.0, (u.0, brace-refused a opens.1 opens.2 u.1, u.2, u.3))

    pub piece-object : {y z : List ℕ} {r : Result Listed Refusal} {q : Result (Option PieceItem) Refusal} → ObjectIs 125 s c.at.0 (left - 1) (items + 1) x (part (2 * c.at.0 - w) t) y z r → ContainerPieceIs r 7 q
        → PieceIs s at w left items x t y (back (2 * c.at.0 - w) t z) q
    piece-object {y} {z} {r} {q} m n =
        let f : Object s c.at.0 (left - 1) (items + 1) y z 125 r → Pieced s at w left items y (back (2 * c.at.0 - w) t z) q =
        rw opens.4 (λ k. told y z r q k n.is) in
        record { is = f m.is; kept_table = m.kept_table; kept-text = kept c z opens.3 opens.4 m.kept-text }

  module _ {c : Cursor} (e : b ≡ Beginning.Array c) where
    lists : Begins s at left items (Ok (Beginning.Array c))
    lists = rw e at h.is

    pub piece-array-asks : Asked s c.at.0 (left - 1) (items + 1) x (part (2 * c.at.0 - w) t)
    piece-array-asks = asks-inner lists.1 lists.2 lists.3 lists.4

    pub piece-array-falls : (n : ℕ) → need 1 s at ≡ n → need 5 s c.at.0 < n
    piece-array-falls n q = omega (arith, lists.3, lists.4)

    pub piece-array-text : 2 * c.at.0 - w ≤ length t
    piece-array-text = omega (arith, lists.3, lists.4, a.text-room, a.before)

    pub piece-array-fits : Fits w64 (2 * c.at.0)
    piece-array-fits = omega (arith, lists.3, lists.4, a.short)

    pub piece-array-far : w ≤ 2 * c.at.0
    piece-array-far = omega (arith, lists.4, a.before)

    pub piece-array-deep : 1 ≤ left
    piece-array-deep = lists.2

    listed : (y z : List ℕ) (r : Result Listed Refusal) (q : Result (Option PieceItem) Refusal) → Array s (at + 1) (left - 1) (items + 1) y z r → Nested r 6 q → Pieced s at w left items y (back (2 * (at + 1) - w) t z) q
    listed y z (Ok o) (Ok (Some f)) u v =
        let i : o.next ≡ f.next = sym v.0 in
        let j : o.items ≡ f.items = sym v.1 in
        let u' : Array s (at + 1) (left - 1) (items + 1) y z (Ok (record { next = f.next; items = f.items })) = rw (sym i, sym j) u in
        bracket-found a lists.1 lists.2 lists.3 f v.3 v.4 v.5 y z u'.2 lists.0 v.2 u'.1 u'.3
    listed y z (Ok o) (Ok None) u v = absurd v
    listed y z (Ok o) (Err d) u v = absurd v
    listed y z (Err d) q u v =
        rw v (bracket, lists.0, (u.0, bracket-refused a lists.1 lists.2 u.1, u.2, u.3))

    pub piece-array : {y z : List ℕ} {r : Result Listed Refusal} {q : Result (Option PieceItem) Refusal} → ArrayIs s c.at.0 (left - 1) (items + 1) x (part (2 * c.at.0 - w) t) y z r → ContainerPieceIs r 6 q
        → PieceIs s at w left items x t y (back (2 * c.at.0 - w) t z) q
    piece-array {y} {z} {r} {q} m n =
        let f : Array s c.at.0 (left - 1) (items + 1) y z r → Pieced s at w left items y (back (2 * c.at.0 - w) t z) q =
        rw lists.4 (λ k. listed y z r q k n.is) in
        record { is = f m.is; kept_table = m.kept_table; kept-text = kept c z lists.3 lists.4 m.kept-text }

pub closing-brace : closes 125 ≡ true
closing-brace = refl

pub ruleset a_Piece = (piece-none, piece-refused, piece-plain-asks, piece-plain, piece-linked-asks, piece-linked, piece-object-asks, piece-object-falls, piece-object-text, piece-object-fits, piece-object-far, piece-object-deep, piece-object, piece-array-asks, piece-array-falls, piece-array-text, piece-array-fits, piece-array-far, piece-array-deep, piece-array, closing-brace)
