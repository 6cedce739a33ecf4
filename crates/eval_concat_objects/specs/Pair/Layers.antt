-- The pair as two layers on the stack: what the rules make of them is the merged object.
use Rattle.std.specs.Prelude.{◌≡◌, refl, ℕ, suc, ◌+◌, ◌-◌, ◌≤◌, List, [], ◌∷◌}
use Rattle.std.proofs.Common.{sym, ap, ◌∙◌, arith, get_or-set_same, get_or-set_other}
use Rattle.std.proofs.Math.Option.{Option, none, some}
use Rattle.answers.specs.Ask.{value}
use Rattle.answers.specs.Theory.Sound.{clash}
use Rattle.rules.specs.Bytes.{Text}
use Rattle.rules.specs.Values.{Value, Members, Answer, object_of, merge_members, nesting_of}
use Rattle.rules.specs.Layers.{Layer, settled, of_objects}
use Rattle.rules.specs.Settled.{gather_in, counted_in, merged_in, value_in}
use Rattle.theory.specs.MergedValues.{merged-by-layers}
use Rattle.doc_items.specs.Room.{capacity}
use Rattle.eval_stack.specs.Model.{entries, Work, code_place, code_at}
use Rattle.eval_stack.specs.Clauses.{PushIs}
use Rattle.eval_stack.specs.Pushes.{pushed_room, top-room}
use Rattle.eval_groups.specs.Room.{objects-weigh}
use Rattle.eval_groups.specs.Select.Levels.{ObjectsAt}
use Rattle.eval_state.specs.Memories.{second_at, pair_of}
use Rattle.eval_value_laws.specs.Clauses.{Ground, ObjectsGiven, merged_by}
use Rattle.eval_concat_objects.specs.Pair.Weights.{value-light}
use Rattle.eval_concat_objects.specs.Pair.Contracts.{PairGiven}

-- no answer is asked
abbrev pub unknown : ℕ → Option Answer
unknown b = none

module _ {key : ℕ → Text} {items : ℕ} {T B : List ℕ} {base : ℕ} {upper lower : Members} (G : PairGiven key items T B base upper lower) where
  abbrev pub layers : List Layer
  layers = settled (object_of upper) ∷ settled (object_of lower) ∷ []

  -- what the rules make of the two
  pub pair-merged : merged_by unknown 64 layers ≡ value (some (object_of (merge_members upper lower)))
  unfolding value_in gather_in of_objects counted_in merged_in
  pair-merged =
      let n = G.second.nesting in
      let m = G.first.nesting in
      merged-by-layers unknown 65 upper lower G.second.distinct G.first.distinct (omega arith) (omega arith)

  basis : Ground (pair_of key items T B) unknown
  basis = record {
    tables = record { stored = G.stored; answers = λ b l. absurd (omega arith) };
    shallow = λ b v e. absurd (unasked e);
  }
    where
      unasked : {v : Value} → ◌≡◌ {A = Option Answer} none (some (some v)) → ⊥
      unasked e = clash (cc (e))

  module _ {w w₁ w₂ : List ℕ} {one two : ℕ} (W : Work w) (p : PushIs base (capacity + second_at) w w₁ one) (q : PushIs one capacity w₁ w₂ two) where
    free : base + 2 ≤ entries
    free = omega (arith, G.fits)

    first-top : one ≡ base + 1
    first-top = p.next ∙ top-room base (omega (arith, free))

    second-top : two ≡ base + 2
    second-top = let e = q.next ∙ top-room one (omega (arith, free, first-top)) in omega (arith, first-top)

    second-code : code_at w₂ (base + 1) ≡ capacity
    second-code =
        ap (λ (n : ℕ). code_at w₂ n) (sym first-top)
        ∙ ap (λ (z : List ℕ). code_at z one) (q.is ∙ pushed_room one capacity w₁ (omega (arith, free, first-top)))
        ∙ get_or-set_same w₁ (code_place one) capacity 0 (omega (arith, p.len, first-top, free))

    first_code : code_at w₂ base ≡ capacity + second_at
    first_code =
        ap (λ (z : List ℕ). code_at z base) (q.is ∙ pushed_room one capacity w₁ (omega (arith, free, first-top)))
        ∙ get_or-set_other w₁ (code_place one) (code_place base) capacity 0 (λ e. omega (arith, first-top))
        ∙ ap (λ (z : List ℕ). code_at z base) (p.is ∙ pushed_room base (capacity + second_at) w (omega (arith, free)))
        ∙ get_or-set_same w (code_place base) (capacity + second_at) 0 (omega (arith, free))

    shown : ObjectsAt (pair_of key items T B) layers base two w₂
    shown =
        let M = pair_of key items T B in
        let z : two - base ≡ 2 = omega (arith, second-top) in
        let e : base + 0 ≡ base = omega arith in
        record {
          from = (
            omega (arith, second-top),
            omega (arith, second-top, free),
            rw (z, e, first_code, second-code) ((second_at, refl, G.second), ((0, refl, G.first), tt)),
          );
          objects = (G.second.distinct, (G.first.distinct, tt));
        }

    pub pair-given : ObjectsGiven (pair_of key items T B) unknown w₂ base two (suc 65) 64 layers
    unfolding nesting_of
    pair-given = record {
      basis = basis;
      shown = shown;
      fits = omega (arith, objects-weigh unknown layers (G.second.distinct, (G.first.distinct, tt)), second-top, value-light (object_of upper), value-light (object_of lower), G.lower-few, G.upper-few, G.fits);
      some = omega arith;
      low = omega (arith, G.first.nesting, G.second.nesting);
      deep = omega (arith, G.first.nesting, G.second.nesting);
    }
