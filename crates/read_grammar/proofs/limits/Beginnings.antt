-- One law for each answer of the functions that say what begins at a place of a value, the limits kept.
use Rattle.std.specs.Prelude.{Ok, Err}
use mathlib.Core.Path.{◌≡◌, refl, ◌∙◌, ap}
use mathlib.Core.Bool.{Bool, true, false}
use mathlib.Core.List.{List}
use Prim.Native.Nat.{ℕ, ◌+◌, ◌≤◌, ◌<◌}
use native.Mathlib.Omega.{arith}
use lib.Dec.{eqb}
use borrow.Author.Tests.{lt-ltb, eqb-true, eqb-false}
use Rattle.rules.specs.Sizes.{max_items}
use Rattle.answers.specs.Theory.Sound.{clash}
use Rattle.rules.specs.Refusals.{placed, not_allowed, Read, refused}
use Rattle.rules.specs.Tree.{Node}
use Rattle.rules.specs.Reading as rules
use Rattle.rules.specs.Reading.{start_of, count_item, opened, piece_at, element_at}
use Rattle.text_chars.specs.Cursor.{refusal}
use Rattle.text_chars.specs.declared.DocAt.{DocAt}
use Rattle.text_chars.specs.declared.Cursor.{Cursor}
use Rattle.read_grammar.specs.Decisions.{start_named, StartIs, NotAllowedIs}
use Rattle.read_grammar.specs.Decisions as grammar
use Rattle.read_grammar.specs.declared.Start.{Start}
use Rattle.read_grammar.specs.Limits.Limits.{StartsIs, PieceStartIs, ExcessNumberIs, nesting_of}
use Rattle.read_grammar.specs.declared.limits.Beginning.{Beginning}

-- ---- whether a piece begins

named : {s : List ℕ} {at : ℕ} {r : Start} (h : StartIs s at r) (x : Start) → r ≡ x → start_of s at ≡ start_named x
named h x e = h.is ∙ ap (λ (y : Start). start_named y) e

module _ {s : List ℕ} {at : ℕ} {r : Start} (h : StartIs s at r) where
  pub starts-nothing : r ≡ Start.Nothing → StartsIs s at false
  starts-nothing e = record { yes = λ f. clash (cc (f)); no = λ f. named h Start.Nothing e }

  pub starts-dollar : r ≡ Start.Dollar → StartsIs s at true
  starts-dollar e = record { yes = λ f. (rules.dollar, named h Start.Dollar e); no = λ f. clash (cc (f)) }

  pub starts-scalar : r ≡ Start.Scalar → StartsIs s at true
  starts-scalar e = record { yes = λ f. (rules.simple_start, named h Start.Scalar e); no = λ f. clash (cc (f)) }

  pub starts-brace : {c : Cursor} → r ≡ Start.Brace c → StartsIs s at true
  starts-brace {c} e = record { yes = λ f. (rules.brace, named h (Start.Brace c) e); no = λ f. clash (cc (f)) }

  pub starts-bracket : {c : Cursor} → r ≡ Start.Bracket c → StartsIs s at true
  starts-bracket {c} e = record { yes = λ f. (rules.bracket, named h (Start.Bracket c) e); no = λ f. clash (cc (f)) }

pub ruleset starting = (starts-nothing, starts-dollar, starts-scalar, starts-brace, starts-bracket)

-- ---- the limits

counted-out : {A : Type 0} (items at : ℕ) (k : ℕ → Read A) → items ≡ max_items → count_item items at k ≡ refused (placed 8 at)
unfolding count_item
counted-out items at k e = rw e

counted-in : {A : Type 0} (items at : ℕ) (k : ℕ → Read A) → items < max_items → count_item items at k ≡ k (items + 1)
unfolding count_item
counted-in items at k l = rw (lt-ltb items max_items l, count_item)

module _ (value_at : ℕ → ℕ → ℕ → Read Node) (s : List ℕ) (left at items : ℕ) (e : left ≡ 0) where
  deep-brace : piece_at value_at s (nesting_of left) rules.brace at items ≡ refused (placed 8 at)
  unfolding piece_at opened
  deep-brace = rw e

  deep-bracket : piece_at value_at s (nesting_of left) rules.bracket at items ≡ refused (placed 8 at)
  unfolding piece_at opened
  deep-bracket = rw e

few : (items : ℕ) → (items ≡ max_items → ⊥) → items ≤ max_items → items < max_items
few items n l = omega arith

some_left : (left : ℕ) → eqb left 0 ≡ false → 1 ≤ left
some_left left d = let m : left ≡ 0 → ⊥ = eqb-false left 0 d in omega arith

-- ---- what begins

module _ {s : List ℕ} {left items : ℕ} {p : DocAt} {b : Bool} (h : StartsIs s p.0 b) where
  pub begun-crowded : items ≡ max_items → b ≡ true → PieceStartIs s p.0 left items (Err (refusal 8 p))
  begun-crowded z e =
      let t = h.yes e in
      record { is = (t.0, t.1, refl, refl, λ v. counted-out items p.0 (piece_at v s (nesting_of left) t.0 p.0) z) }

module _ {s : List ℕ} {at left items : ℕ} where
  pub begun-over : {b : Bool} → StartsIs s at b → b ≡ false → PieceStartIs s at left items (Ok Beginning.Nothing)
  begun-over h e = record { is = h.no e }

  module _ {r : Start} (h : StartIs s at r) where
    pub begun-nothing : r ≡ Start.Nothing → PieceStartIs s at left items (Ok Beginning.Nothing)
    begun-nothing e = record { is = named h Start.Nothing e }

    module _ (n : items ≡ max_items → ⊥) (l : items ≤ max_items) where
      pub begun-reference : r ≡ Start.Dollar → PieceStartIs s at left items (Ok Beginning.Reference)
      begun-reference e =
          let t : grammar.Begins s at Start.Dollar = rw e at h.begins in
          record { is = (named h Start.Dollar e, omega arith, t.0, t.1, t.2) }

      pub begun-scalar : r ≡ Start.Scalar → PieceStartIs s at left items (Ok Beginning.Scalar)
      begun-scalar e =
          let t : grammar.Begins s at Start.Scalar = rw e at h.begins in
          record { is = (named h Start.Scalar e, omega arith, t.0, t.1) }

      module _ {c : Cursor} (d : eqb left 0 ≡ false) where
        pub begun-object : r ≡ Start.Brace c → PieceStartIs s at left items (Ok (Beginning.Object c))
        begun-object e =
            let t : grammar.Begins s at (Start.Brace c) = rw e at h.begins in
            record { is = (named h (Start.Brace c) e, omega arith, some_left left d, t.0, t.2) }

        pub begun-array : r ≡ Start.Bracket c → PieceStartIs s at left items (Ok (Beginning.Array c))
        begun-array e =
            let t : grammar.Begins s at (Start.Bracket c) = rw e at h.begins in
            record { is = (named h (Start.Bracket c) e, omega arith, some_left left d, t.0, t.2) }

module _ {s : List ℕ} {left items : ℕ} {p : DocAt} {r : Start} (h : StartIs s p.0 r) (n : items ≡ max_items → ⊥) (l : items ≤ max_items)
    (d : eqb left 0 ≡ true) where
  pub begun-deep-object : {c : Cursor} → r ≡ Start.Brace c → PieceStartIs s p.0 left items (Err (refusal 8 p))
  begun-deep-object {c} e = record {
    is = (
      rules.brace,
      named h (Start.Brace c) e,
      refl,
      refl,
      λ v. counted-in items p.0 (piece_at v s (nesting_of left) rules.brace p.0) (few items n l) ∙ deep-brace v s left p.0 (items + 1) (eqb-true left 0 d),
    );
  }

  pub begun-deep-array : {c : Cursor} → r ≡ Start.Bracket c → PieceStartIs s p.0 left items (Err (refusal 8 p))
  begun-deep-array {c} e = record {
    is = (
      rules.bracket,
      named h (Start.Bracket c) e,
      refl,
      refl,
      λ v. counted-in items p.0 (piece_at v s (nesting_of left) rules.bracket p.0) (few items n l) ∙ deep-bracket v s left p.0 (items + 1) (eqb-true left 0 d),
    );
  }

pub ruleset beginnings = (begun-crowded, begun-over, begun-nothing, begun-reference, begun-scalar, begun-object, begun-array, begun-deep-object, begun-deep-array)

-- ---- an element where there may be no further item

module _ {s : List ℕ} {at : ℕ} {b : Bool} (h : StartsIs s at b) where
  pub full-piece : b ≡ true → ExcessNumberIs s at 8
  unfolding element_at count_item
  full-piece e = record { why = placed 8 at; is = λ v n. rw ((h.yes e).1, element_at, count_item); number = refl; place = refl }

  pub full-nothing : {r : ℕ} → b ≡ false → NotAllowedIs s at r → ExcessNumberIs s at r
  unfolding element_at
  full-nothing e k = record { why = not_allowed s at; is = λ v n. rw (h.no e, element_at); number = k.number; place = k.place }

pub ruleset fulls = (full-piece, full-nothing)
