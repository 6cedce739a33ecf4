-- A piece that is written: the number of its item shows it, an object by itself on the stack.
use Rattle.std.specs.Prelude.{◌≡◌, refl, ◌⊎◌, ℕ, ◌+◌, ◌*◌, ◌≤◌, ◌<◌, get_or}
use Rattle.std.proofs.Math.Path.{ap}
use Rattle.std.proofs.Common.{◌∙◌, inl, inr, arith}
use mathlib.Core.List.{List, [], ◌∷◌}
use Rattle.std.proofs.Math.Option.{Option}
use Rattle.std.proofs.Math.Seq.{get_or-set_same}
use Rattle.rules.specs.Tree.{Node, simple, array, object, unresolved, height_of}
use Rattle.rules.specs.Values.{Answer}
use Rattle.rules.specs.Layers.{written}
use Rattle.rules.specs.Settled.{node_in, layer_in, value_in}
use Rattle.rules.specs.Weights.{weight_of}
use Rattle.doc_items.specs.Codes.{code_of}
use Rattle.eval_stack.specs.Model.{entries, Work, code_place, code_at}
use Rattle.eval_stack.specs.Clauses.{PushIs}
use Rattle.eval_stack.specs.Pushes.{pushed_room, top-room}
use Rattle.eval_memory.specs.Finished.{Memory}
use Rattle.eval_memory.specs.Tables.{code-small}
use Rattle.eval_value_laws.specs.Clauses.{Ground, LayerGiven}
use Rattle.eval_value_laws.specs.Given.{object-given, object-value}
use Rattle.eval_pieces.specs.Clauses.{levels, LiteralGiven, OneOf, MergedOf}

-- the kind of a piece by its role
object-kind : (r k : ℕ) → (r ≡ 0) ⊎ (r ≡ 16) → k ≡ r + 7 → 16 ≤ k → k ≡ 23
object-kind r k (inl e) h l = absurd (omega arith)
object-kind r k (inr e) h l = omega arith

other-kind : (r k c : ℕ) → (r ≡ 0) ⊎ (r ≡ 16) → k ≡ r + c → c ≤ 6 → k ≡ 23 → ⊥
other-kind r k c (inl e) h l z = omega arith
other-kind r k c (inr e) h l z = omega arith

module _ {M : Memory} {known : ℕ → Option Answer} {base i : ℕ} where
  grounded : {n : Node} → LiteralGiven M known base i n → Ground M known
  grounded G = record { tables = G.tables; shallow = G.shallow }

  -- the kinds of pieces
  pub literal-kind : (n : Node) → LiteralGiven M known base i n → get_or M.table (8 * i) 0 ≤ 23
  literal-kind (simple x) G = go G.shown.roles
    where
      go : (G.shown.role ≡ 0) ⊎ (G.shown.role ≡ 16) → get_or M.table (8 * i) 0 ≤ 23
      go (inl e) = omega (arith, G.shown.node.0, code-small x)
      go (inr e) = omega (arith, G.shown.node.0, code-small x)
  literal-kind (array es) G = go G.shown.roles
    where
      go : (G.shown.role ≡ 0) ⊎ (G.shown.role ≡ 16) → get_or M.table (8 * i) 0 ≤ 23
      go (inl e) = omega (arith, G.shown.node.0)
      go (inr e) = omega (arith, G.shown.node.0)
  literal-kind (object fs) G = go G.shown.roles
    where
      go : (G.shown.role ≡ 0) ⊎ (G.shown.role ≡ 16) → get_or M.table (8 * i) 0 ≤ 23
      go (inl e) = omega (arith, G.shown.node.0)
      go (inr e) = omega (arith, G.shown.node.0)
  literal-kind (unresolved b ps) G = omega (arith, G.shown.roles, G.shown.node.0)

  -- no object
  pub literal-one : (n : Node) → LiteralGiven M known base i n → (get_or M.table (8 * i) 0 ≡ 23 → ⊥) → OneOf M known base i (node_in known (value_in known levels) n)
  unfolding layer_in height_of weight_of
  literal-one (simple x) G h = record {
    depth = 65;
    layer = written (simple x);
    is = refl;
    plain = tt;
    given = record { basis = grounded G; shown = G.shown; fits = tt; low = omega (arith, G.low); deep = tt };
  }
  literal-one (array es) G h = record {
    depth = 65;
    layer = written (array es);
    is = refl;
    plain = tt;
    given = record { basis = grounded G; shown = G.shown; fits = omega (arith, G.fits); low = omega (arith, G.low); deep = omega (arith, G.low) };
  }
  literal-one (object fs) G h = absurd (h (object-kind G.shown.role (get_or M.table (8 * i) 0) G.shown.roles G.shown.node.0 G.piece))
  literal-one (unresolved b ps) G h = absurd (omega (arith, G.shown.roles, G.shown.node.0, G.piece))

  -- an object, which was pushed
  pub literal-merged : (n : Node) → LiteralGiven M known base i n → get_or M.table (8 * i) 0 ≡ 23 → {w w' : List ℕ} {hi : ℕ} → Work w → PushIs base i w w' hi
      → MergedOf M known w' base hi (node_in known (value_in known levels) n)
  unfolding height_of weight_of
  literal-merged (simple x) G h W p =
      absurd (other-kind G.shown.role (get_or M.table (8 * i) 0) (code_of x) G.shown.roles G.shown.node.0 (omega (arith, code-small x)) h)
  literal-merged (array es) G h W p =
      absurd (other-kind G.shown.role (get_or M.table (8 * i) 0) 6 G.shown.roles G.shown.node.0 (omega arith) h)
  literal-merged (object fs) G h {w} {w'} {hi} W p =
      let free : base < entries = omega (arith, G.fits) in
      let top : hi ≡ base + 1 = p.next ∙ top-room base free in
      let code : code_at w' base ≡ i =
      ap (λ (z : List ℕ). code_at z base) (p.is ∙ pushed_room base i w free) ∙ get_or-set_same w (code_place base) i 0 (omega arith) in
      let L : LayerGiven M known base 65 65 i (written (object fs)) =
      record { basis = grounded G; shown = G.shown; fits = omega (arith, G.fits); low = omega (arith, G.low); deep = omega (arith, G.low) } in
      record {
        depth = 64;
        objects = written (object fs) ∷ [];
        is = object-value M known 65 fs (omega arith);
        given = rw top (object-given M known w' fs L code);
      }
  literal-merged (unresolved b ps) G h W p = absurd (omega (arith, G.shown.roles, G.shown.node.0))
