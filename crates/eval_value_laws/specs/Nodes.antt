-- A law for each place where it is decided what a value is written from.
use Rattle.std.specs.Prelude.{◌≡◌, ◌⊎◌, length, get_or}
use Rattle.std.proofs.Math.Path.{refl, ap, subst}
use Rattle.std.proofs.Common.{sym, ◌∙◌}
use Prim.Native.Nat.{ℕ, zero, suc, ◌+◌, ◌*◌, ◌-◌, ◌%◌, ◌≤◌, ◌<◌}
use mathlib.Core.List.{List, [], ◌∷◌, reverse}
use Rattle.std.proofs.Math.Option.{Option, some}
use native.Mathlib.Omega.{arith}
use Rattle.answers.specs.Ask.{value}
use Rattle.rules.specs.Tree.{simple, array, object, unresolved, height_of}
use Rattle.rules.specs.Values.{Value, scalar, array_of, object_of, Answer, nesting_of}
use Rattle.rules.specs.NamedValues.{Distinct}
use Rattle.rules.specs.Layers.{Layer, written, settled, Counted, of_objects}
use Rattle.rules.specs.Settled.{Given, gather_in, node_in, merged_in, layer_in, counted_in, value_in}
use Rattle.theory.specs.MergedValues.{one-by-layers}
use Rattle.doc_items.specs.Codes.{code_of, as_member, as_piece}
use Rattle.doc_items.specs.Room.{capacity}
use Rattle.doc_items.specs.Writing.{ReadIs}
use Rattle.eval_writer.specs.declared.Source.{Source}
use Rattle.eval_stack.specs.Model.{code_at, seg}
use Rattle.eval_stack.specs.Clauses.{CodeIs}
use Rattle.eval_memory.specs.Finished.{Memory, SettledAt}
use Rattle.eval_memory.specs.Tables.{Number, Shows, Match, code-small, kind-only, item-low}
use Rattle.eval_groups.specs.Entries.{Objects}
use Rattle.eval_layers.specs.declared.Taken.{Taken}
use Rattle.eval_groups.specs.Select.Levels.{objects-size}
use Rattle.eval_leaves.specs.Items.{holds-simple}
use Rattle.eval_value_laws.specs.declared.Origin.{Origin}
use Rattle.eval_value_laws.specs.Ground.{Names, memory_of}
use Rattle.eval_value_laws.specs.Clauses.{merged_by, counted_by, LayerGiven, ObjectsGiven, TakenIn, TakenGivenBy, TakenGiven, OriginFits, OriginBy, OriginIs}
use Rattle.eval_value_laws.specs.Given.{object-value}

pub not-zero : (n : ℕ) → (n ≡ 0 → ⊥) → 1 ≤ n
not-zero zero z = absurd (z refl)
not-zero (suc n) z = omega arith

-- an item's kind, be it a member's or a piece's
kind-is : {T : List ℕ} (c : ℕ) {k r : ℕ} (code : ℕ) → ReadIs T (8 * c) k → (r ≡ as_member) ⊎ (r ≡ as_piece) → get_or T (8 * c) 0 ≡ r + code → code < as_piece → k % 16 ≡ code
kind-is {T} c code read r e l = ap (λ (n : ℕ). n % 16) read.is ∙ kind-only (get_or T (8 * c) 0) code r e l

-- what is given of what was taken, by its case
pub given : {M : Memory} {known : ℕ → Option Answer} {w : List ℕ} {top levels d : ℕ} {g : Given Counted} {taken : Taken} (t : Taken) → taken ≡ t
    → TakenGiven M known w top levels d g taken → TakenGivenBy M known w top levels d g t
given t e G = rw e at G.is

module _ {T w : List ℕ} {top levels : ℕ} {taken : Taken} where
  pub origin-nothing : taken ≡ Taken.Nothing → OriginIs T w top taken levels Origin.Nothing
  unfolding counted_in
  origin-nothing e = record { fits = tt; is = λ B src N known d g G. ap (counted_by known d) (given Taken.Nothing e G) }

  pub origin-needs : {n : ℕ} → taken ≡ Taken.Needs n → OriginIs T w top taken levels (Origin.Needs n)
  unfolding counted_in
  origin-needs {n} e = record { fits = tt; is = λ B src N known d g G. ap (counted_by known d) (given (Taken.Needs n) e G) }

  -- ---- one layer

  module _ {c : ℕ} (e : taken ≡ Taken.One c) where
    -- by what its number shows
    by-layer : (r : Origin) → OriginFits top levels r
        → ((B : List ℕ) (src : Source) (N : Names) (known : ℕ → Option Answer) (d : ℕ) (l : Layer) (G : LayerGiven (memory_of T B src N) known top levels d c l)
        → Shows (memory_of T B src N) c l → OriginBy (memory_of T B src N) known w top levels d (layer_in known (value_in known d) l) r)
        → OriginIs T w top taken levels r
    unfolding counted_in
    by-layer r f h =
        record {
          fits = f;
          is = λ B src N known d g G.
              let x = given (Taken.One c) e G in
              rw x.1 (h B src N known d x.0 x.2 x.2.shown);
        }

    pub origin-finished : capacity ≤ c → OriginIs T w top taken levels (Origin.Finished (c - capacity))
    unfolding layer_in
    origin-finished h = by-layer (Origin.Finished (c - capacity)) tt go
      where
        go : (B : List ℕ) (src : Source) (N : Names) (known : ℕ → Option Answer) (d : ℕ) (l : Layer) (G : LayerGiven (memory_of T B src N) known top levels d c l)
            → Shows (memory_of T B src N) c l → OriginBy (memory_of T B src N) known w top levels d (layer_in known (value_in known d) l) (Origin.Finished (c - capacity))
        go B src N known d (written (simple x)) g s = let q = item-low (memory_of T B src N) g.basis.tables.stored s in absurd (omega arith)
        go B src N known d (written (array es)) g s = let q = item-low (memory_of T B src N) g.basis.tables.stored s in absurd (omega arith)
        go B src N known d (written (object fs)) g s = let q = item-low (memory_of T B src N) g.basis.tables.stored s in absurd (omega arith)
        go B src N known d (written (unresolved n ps)) g s = absurd s
        go B src N known d (settled v) g (off, z, s) =
            let q : off ≡ c - capacity = omega arith in
            (v, refl, g.basis.tables.stored, subst (SettledAt (memory_of T B src N) v) q s)

    module _ {k : ℕ} (low : c < capacity) (read : ReadIs T (8 * c) k) where
      pub origin-simple : k % 16 ≤ 5 → OriginIs T w top taken levels (Origin.Simple c)
      unfolding layer_in node_in
      origin-simple h = by-layer (Origin.Simple c) low go
        where
          go : (B : List ℕ) (src : Source) (N : Names) (known : ℕ → Option Answer) (d : ℕ) (l : Layer) (G : LayerGiven (memory_of T B src N) known top levels d c l)
              → Shows (memory_of T B src N) c l → OriginBy (memory_of T B src N) known w top levels d (layer_in known (value_in known d) l) (Origin.Simple c)
          go B src N known d (written (simple x)) g s = (
            x,
            refl,
            holds-simple T B N.ends s.role c (Number (memory_of T B src N)) x s.roles g.basis.tables.stored.document s.node,
          )
          go B src N known d (written (array es)) g s = absurd (omega (arith, kind-is c 6 read s.roles s.node.0 (omega arith)))
          go B src N known d (written (object fs)) g s = absurd (omega (arith, kind-is c 7 read s.roles s.node.0 (omega arith)))
          go B src N known d (written (unresolved n ps)) g s = absurd s
          go B src N known d (settled v) g (off, z, s) = absurd (omega arith)

      module _ (high : 5 < k % 16) where
        -- no levels are left: then it is no array and no object either
        pub origin-cut : levels ≡ 0 → OriginIs T w top taken levels Origin.Nothing
        unfolding height_of
        origin-cut n = by-layer Origin.Nothing tt go
          where
            go : (B : List ℕ) (src : Source) (N : Names) (known : ℕ → Option Answer) (d : ℕ) (l : Layer) (G : LayerGiven (memory_of T B src N) known top levels d c l)
                → Shows (memory_of T B src N) c l → OriginBy (memory_of T B src N) known w top levels d (layer_in known (value_in known d) l) Origin.Nothing
            go B src N known d (written (simple x)) g s = absurd (omega (arith, kind-is c (code_of x) read s.roles s.node.0 (omega (arith, code-small x)), code-small x))
            go B src N known d (written (array es)) g s = absurd (omega (arith, g.low))
            go B src N known d (written (object fs)) g s = absurd (omega (arith, g.low))
            go B src N known d (written (unresolved n ps)) g s = absurd s
            go B src N known d (settled v) g (off, z, s) = absurd (omega arith)

        module _ (some_level : levels ≡ 0 → ⊥) where
          pub origin-array : k % 16 ≡ 6 → OriginIs T w top taken levels (Origin.Array c)
          unfolding layer_in height_of
          origin-array h = by-layer (Origin.Array c) (not-zero levels some_level, low) go
            where
              go : (B : List ℕ) (src : Source) (N : Names) (known : ℕ → Option Answer) (d : ℕ) (l : Layer) (G : LayerGiven (memory_of T B src N) known top levels d c l)
                  → Shows (memory_of T B src N) c l → OriginBy (memory_of T B src N) known w top levels d (layer_in known (value_in known d) l) (Origin.Array c)
              go B src N known d (written (simple x)) g s = absurd (omega (arith, kind-is c (code_of x) read s.roles s.node.0 (omega (arith, code-small x)), code-small x))
              go B src N known d (written (array es)) g s = (
                es,
                refl,
                record {
                  basis = g.basis;
                  shown = record { upto = s.inside; at = s.node.1 };
                  fits = g.fits;
                  low = omega (arith, g.low);
                  deep = g.deep;
                },
              )
              go B src N known d (written (object fs)) g s = absurd (omega (arith, kind-is c 7 read s.roles s.node.0 (omega arith)))
              go B src N known d (written (unresolved n ps)) g s = absurd s
              go B src N known d (settled v) g (off, z, s) = absurd (omega arith)

          pub origin-object : (k % 16 ≡ 6 → ⊥) → OriginIs T w top taken levels (Origin.Object c)
          unfolding layer_in
          origin-object h = by-layer (Origin.Object c) (not-zero levels some_level, low) go
            where
              go : (B : List ℕ) (src : Source) (N : Names) (known : ℕ → Option Answer) (d : ℕ) (l : Layer) (G : LayerGiven (memory_of T B src N) known top levels d c l)
                  → Shows (memory_of T B src N) c l → OriginBy (memory_of T B src N) known w top levels d (layer_in known (value_in known d) l) (Origin.Object c)
              go B src N known d (written (simple x)) g s = absurd (omega (arith, kind-is c (code_of x) read s.roles s.node.0 (omega (arith, code-small x)), code-small x))
              go B src N known d (written (array es)) g s = absurd (h (kind-is c 6 read s.roles s.node.0 (omega arith)))
              go B src N known d (written (object fs)) g s = (fs, object-value (memory_of T B src N) known d fs (omega (arith, g.deep)), g)
              go B src N known d (written (unresolved n ps)) g s = absurd s
              go B src N known d (settled v) g (off, z, s) = absurd (omega arith)

  -- ---- merged objects

  module _ {hi : ℕ} (e : taken ≡ Taken.Merged hi) where
    by-objects : (r : Origin) → OriginFits top levels r
        → ((B : List ℕ) (src : Source) (N : Names) (known : ℕ → Option Answer) (d : ℕ) (os : List Layer)
        → ObjectsGiven (memory_of T B src N) known w top hi levels d os → OriginBy (memory_of T B src N) known w top levels d (merged_by known d os) r)
        → OriginIs T w top taken levels r
    unfolding counted_in merged_in
    by-objects r f h =
        record {
          fits = f;
          is = λ B src N known d g G.
              let x = given (Taken.Merged hi) e G in
              rw x.1 (h B src N known d x.0 x.2);
        }

    -- one finished object
    pub merged-finished : {c : ℕ} → hi ≡ top + 1 → CodeIs w top c → capacity ≤ c → OriginIs T w top taken levels (Origin.Finished (c - capacity))
    unfolding value_in gather_in of_objects counted_in merged_in
    merged-finished {c} n h cap =
        by-objects (Origin.Finished (c - capacity)) tt (λ B src N known d os g.
        let M = memory_of T B src N in
        let m : hi - top ≡ 1 = omega arith in
        go B src N known d os g (rw m at g.shown.from.2) (omega (arith, objects-size M g.shown)))
      where
        alone : (known : ℕ → Option Answer) (d : ℕ) (v : Value) → Objects (settled v ∷ []) → Distinct v → nesting_of v ≤ d → merged_by known d (settled v ∷ []) ≡ value (some v)
        alone known d (scalar x) o z n = absurd o
        alone known d (array_of vs) o z n = absurd o
        alone known d (object_of ms) o z n = one-by-layers known (suc d) (object_of ms) z (omega arith)

        go : (B : List ℕ) (src : Source) (N : Names) (known : ℕ → Option Answer) (d : ℕ) (os : List Layer) → ObjectsGiven (memory_of T B src N) known w top hi levels d os
            → Match (memory_of T B src N) (reverse (seg w top 1)) os → length os ≡ 1
            → OriginBy (memory_of T B src N) known w top levels d (merged_by known d os) (Origin.Finished (c - capacity))
        go B src N known d [] g m n = absurd m
        go B src N known d (l ∷ p ∷ os) g m n = absurd (omega arith)
        go B src N known d (l ∷ []) g m n = by l g m.0
          where
            at : code_at w (top + 0) ≡ c
            at = let z : top + 0 ≡ top = omega arith in ap (code_at w) z ∙ sym h.is

            by : (l : Layer) → ObjectsGiven (memory_of T B src N) known w top hi levels d (l ∷ []) → Shows (memory_of T B src N) (code_at w (top + 0)) l
                → OriginBy (memory_of T B src N) known w top levels d (merged_by known d (l ∷ [])) (Origin.Finished (c - capacity))
            by (written (simple x)) g s = let q = item-low (memory_of T B src N) g.basis.tables.stored s in absurd (omega (arith, at))
            by (written (array es)) g s = let q = item-low (memory_of T B src N) g.basis.tables.stored s in absurd (omega (arith, at))
            by (written (object fs)) g s = let q = item-low (memory_of T B src N) g.basis.tables.stored s in absurd (omega (arith, at))
            by (written (unresolved n ps)) g s = absurd s
            by (settled v) g (off, z, s) =
                let q : off ≡ c - capacity = omega (arith, at) in
                (v, alone known d v g.shown.objects s.distinct (omega (arith, g.deep)), g.basis.tables.stored, subst (SettledAt (memory_of T B src N) v) q s)

    pub merged-cut : levels ≡ 0 → OriginIs T w top taken levels Origin.Nothing
    merged-cut z = by-objects Origin.Nothing tt (λ B src N known d os g. absurd (omega (arith, g.some, g.low)))

    pub merged-objects : TakenIn top taken → (levels ≡ 0 → ⊥) → OriginIs T w top taken levels (Origin.Objects hi)
    merged-objects t z =
        let q : TakenIn top (Taken.Merged hi) = rw e at t in
        by-objects (Origin.Objects hi) (not-zero levels z, q.0, q.1) (λ B src N known d os g. (os, refl, g))

pub ruleset origin-laws = (origin-nothing, origin-needs, origin-finished, origin-simple, origin-cut, origin-array, origin-object, merged-finished, merged-cut, merged-objects)
