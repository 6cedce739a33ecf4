-- A law for each place where a function returns.
use mathlib.Core.Path.{◌≡◌, refl, sym, ap, ◌∙◌}
use Prim.Native.Nat.{ℕ, ◌+◌, ◌*◌, ◌≤◌, ◌<◌}
use mathlib.Core.Bool.{Bool, true, false}
use mathlib.Core.List.{List}
use native.Mathlib.Omega.{arith}
use lib.ListN.{length, take, drop, get_or, length-take}
use Rattle.rules.specs.Sizes.{max_room}
use Rattle.theory.specs.SettledAnswers.{substitution_in}
use Rattle.text_chars.specs.declared.DocAt.{DocAt}
use Rattle.text_chars.specs.declared.EnvAt.{EnvAt}
use Rattle.text_chars.specs.declared.EnvLen.{EnvLen}
use Rattle.doc_items.specs.Codes.{reference_code}
use Rattle.doc_items.specs.Room.{capacity, trail_at}
use Rattle.eval_nodes.specs.Clauses.{Few}
use Rattle.eval_stack.specs.Model.{entries, Work}
use Rattle.eval_stack.specs.Clauses.{Same, PushIs}
use Rattle.eval_stack.specs.Pushes.{same-lower, push-grows}
use Rattle.eval_layers.specs.Clauses.{GatherIs}
use Rattle.eval_layers.specs.declared.Part.{Part}
use Rattle.eval_layers.specs.declared.Taken.{Taken}
use Rattle.eval_substitutions.specs.Clauses.{PathLayersIs}
use Rattle.eval_environment.specs.Clauses.{asked_of, AskedIs, substitution-at}
use Rattle.eval_environment.specs.declared.Asked.{Asked}
use Rattle.eval_state.specs.Memories.{answers_of}
use Rattle.eval_pieces.specs.Clauses.{Lent, EnvironmentIs, ReferenceIs, LiteralIs, PieceIs}
use Rattle.eval_pieces.specs.Tops.{gathered-low, gathered-high}
use Rattle.eval_pieces.specs.References.{reference-nothing, reference-needs, reference-one, reference-merged}
use Rattle.eval_pieces.specs.Literals.{literal-kind, literal-one, literal-merged}
use Rattle.eval_pieces.specs.declared.Piece.{Piece}

-- ---- the environment

module _ {T X E : List ℕ} {i : ℕ} {a : Asked} (h : AskedIs T X E i a) where
  pub environment-text : {s : EnvAt} {n : EnvLen} → a ≡ Asked.Text s n → EnvironmentIs T X E i (Piece.Text s n)
  environment-text {s} {n} e = record {
    is = λ es z y at M known w. sym (h.is es z y at) ∙ ap (asked_of E) e;
    inside = λ base. rw e at h.inside;
  }

  pub environment-none : a ≡ Asked.Undefined → EnvironmentIs T X E i Piece.Undefined
  environment-none e = record { is = λ es z y at M known w. sym (h.is es z y at) ∙ ap (asked_of E) e; inside = λ base. tt }

  pub environment-missing : {p : DocAt} → a ≡ Asked.Missing p → EnvironmentIs T X E i (Piece.Missing p)
  environment-missing e = record { is = λ es z y at M known w. sym (h.is es z y at) ∙ ap (asked_of E) e; inside = λ base. tt }

-- ---- substitutions

abbrev records : List ℕ → List ℕ
records B = take max_room (drop trail_at B)

module _ {T R B E : List ℕ} {base item i : ℕ} {w w₁ w₂ : List ℕ} {part : Part} {taken : Taken} (lent : Lent B E w base item i)
    (h : PathLayersIs T B R base item i w w₁ part) (k : GatherIs T R part.lo part.hi part.stuck w₁ w₂ taken) where
  h-of : {R' : List ℕ} → R ≡ R' → PathLayersIs T B R' base item i w w₁ part
  h-of z = rw (← z) h

  k-of : {R' : List ℕ} → R ≡ R' → GatherIs T R' part.lo part.hi part.stuck w₁ w₂ taken
  k-of z = rw (← z) k

  same : Same base w w₂
  same i o = same-lower w₁ w₂ k.is.same base h.layers.part.above i o ∙ h.layers.part.same i o

  len : length w₂ ≡ length w
  len = k.is.len ∙ h.layers.part.len

  pub reference-text : {r : Piece} → taken ≡ Taken.Nothing → EnvironmentIs T B E i r → ReferenceIs T R B E base item i w w₂ r
  unfolding substitution_in
  reference-text {r} e f = record {
    same = same;
    len = len;
    inside = f.inside base;
    is = λ z x key items known u y G.
        rw (reference-nothing G (h-of z) (k-of z) e, G.environment)
        (f.is G.variables G.entered y (substitution-at G.tables.stored.document G.place G.reference) (answers_of key items T B) known w₂);
  }

  pub reference-layer : {c top : ℕ} → taken ≡ Taken.One c → top ≡ part.hi → ReferenceIs T R B E base item i w w₂ (Piece.One top c)
  unfolding substitution_in
  reference-layer {c} {top} e f = record {
    same = same;
    len = len;
    inside = (omega (arith, h.layers.part.above), omega (arith, h.layers.part.high));
    is = λ z x key items known u y G. rw f (reference-one G (h-of z) (k-of z) e);
  }

  pub reference-asks : {b : ℕ} → taken ≡ Taken.Needs b → ReferenceIs T R B E base item i w w₂ (Piece.Needs b)
  unfolding substitution_in
  reference-asks e = record { same = same; len = len; inside = tt; is = λ z x key items known u y G. reference-needs G (h-of z) (k-of z) e }

  pub reference-objects : {t top : ℕ} → taken ≡ Taken.Merged t → top ≡ part.hi → ReferenceIs T R B E base item i w w₂ (Piece.Merged top t)
  unfolding substitution_in
  reference-objects {t} {top} e f = record {
    same = same;
    len = len;
    inside = (omega (arith, h.layers.part.above), omega (arith, gathered-low k e), gathered-high k e);
    is = λ z x key items known u y G. rw f (reference-merged G (h-of z) (k-of z) e);
  }

-- ---- pieces that are written

module _ {T : List ℕ} {base i k : ℕ} {w : List ℕ} (W : Work w) (used : base ≤ entries) (read : k ≡ get_or T (8 * i) 0) where
  pub literal-object : {w' : List ℕ} {hi : ℕ} → k ≡ 23 → PushIs base i w w' hi → LiteralIs T base i w w' (Piece.Merged base hi)
  literal-object {w'} {hi} e p =
      let g = push-grows {base = base} (omega arith) used W p in
      record {
        same = g.same;
        len = p.len;
        inside = λ n. (omega arith, g.low, g.high);
        is = λ B E key items known n G. literal-merged n G (omega arith) W p;
      }

  pub literal-layer : (k ≡ 23 → ⊥) → LiteralIs T base i w w (Piece.One base i)
  literal-layer e = record {
    same = λ j o. refl;
    len = refl;
    inside = λ n. (omega arith, used);
    is = λ B E key items known n G. literal-one n G (λ z. e (omega arith));
  }

-- ---- either

module _ {T B E : List ℕ} {base item i k : ℕ} {w w' : List ℕ} {r : Piece} (read : k ≡ get_or T (8 * i) 0) where
  pub piece-literal : k < 25 → LiteralIs T base i w w' r → PieceIs T B E base item i w w' r
  piece-literal l h = record {
    same = h.same;
    len = h.len;
    inside = h.inside (length E);
    reference = λ x key items known u y G. absurd (unlike y.optional G.reference.kind);
    literal = λ key items known n G. h.is B E key items known n G;
  }
    where
      unlike : (t : Bool) → get_or T (8 * i) 0 ≡ 16 + reference_code t → ⊥
      unlike true e = omega arith
      unlike false e = omega arith

-- the bytes are given: an implicit argument would have the long slice of them computed
module _ {T E : List ℕ} (B : List ℕ) {base item i k : ℕ} {w w' : List ℕ} {r : Piece} (read : k ≡ get_or T (8 * i) 0) where
  pub piece-reference : 25 ≤ k → ReferenceIs T (records B) B E base item i w w' r → PieceIs T B E base item i w w' r
  piece-reference l h = record {
    same = h.same;
    len = h.len;
    inside = h.inside;
    reference = h.is refl;
    literal = λ key items known n G. absurd (omega (arith, literal-kind n G));
  }

pub ruleset environments = (environment-text, environment-none, environment-missing)

pub ruleset references = (reference-text, reference-layer, reference-asks, reference-objects)

pub ruleset literals = (literal-object, literal-layer)

pub ruleset pieces = (piece-literal, piece-reference)

-- ---- what is lent on

pub few-records : (B : List ℕ) → Few (records B)
few-records B = omega (arith, length-take max_room (drop trail_at B))

module _ {B E : List ℕ} {w : List ℕ} {base item i : ℕ} (lent : Lent B E w base item i) where
  pub lent-work : Work w
  lent-work = lent.work

  pub lent-used : base ≤ entries
  lent-used = lent.used

  pub lent-low : 0 < item
  lent-low = lent.low

  pub lent-high : item < capacity
  lent-high = lent.high

  pub lent-piece : i < capacity
  lent-piece = lent.piece

  module _ {T R : List ℕ} {w₁ : List ℕ} {part : Part} (h : PathLayersIs T B R base item i w w₁ part) where
    pub part-work : Work w₁
    part-work = omega (arith, lent.work, h.layers.part.len)

    pub part_low : part.lo ≤ part.hi
    part_low = h.layers.part.low

    pub part-high : part.hi ≤ entries
    part-high = h.layers.part.high

pub ruleset lending = (few-records, lent-work, lent-used, lent-low, lent-high, lent-piece, part-work, part_low, part-high)
