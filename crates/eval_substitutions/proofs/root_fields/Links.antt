-- One law for each end and turn of the walk along the links.
use Rattle.std.specs.Prelude.{None}
use mathlib.Core.Path.{◌≡◌, refl, ap, ◌∙◌}
use mathlib.Core.List.{List, [], ◌∷◌}
use Prim.Native.Nat.{ℕ, ◌+◌, ◌-◌, ◌≤◌, ◌<◌}
use native.Mathlib.Omega.{arith}
use lib.ListN.{length}
use borrow.Author.Tests.{lt-ltb, le-ltb}
use Rattle.doc_items.specs.Room.{number_bound}
use Rattle.doc_items.specs.Writing.{ReadIs}
use Rattle.eval_keys.specs.Columns.{firsts_at, nexts_at, first_at, next_at}
use Rattle.eval_root_index.specs.Links.{Follows, Rises, items_before, Along, along-end, along-item, item-last, item-next}
use Rattle.eval_stack.specs.Model.{entries, Work}
use Rattle.eval_stack.specs.Clauses.{Same}
use Rattle.eval_stack.specs.Pushes.{seg-none}
use Rattle.eval_layers.specs.Model.{Walk, push_layer_c}
use Rattle.eval_layers.specs.Clauses.{walked, WalkedIs}
use Rattle.eval_layers.specs.declared.Walked.{Walked}
use Rattle.eval_substitutions.specs.RootFields.Contracts.{push_layers_c, OfRootIs}

-- what fields come to above the layers so far
abbrev of_fields : (T : List ℕ) (end base : ℕ) → Walk → List ℕ → Walk
of_fields T end base v js = push_layers_c T (entries - base) (items_before end js) v

pub record LinksInv (T : List ℕ) (k end base : ℕ) (w₀ w : List ℕ) (walk : Walked) (i : ℕ) : Type 0 where
  pub left : (js : List ℕ) → Follows (next_at T) (first_at T k) js → Rises 1 js
      → Along (next_at T) (of_fields T end base (walked w base walk)) (of_fields T end base ([], None) js) i
  pub small : i < number_bound
  pub same : Same base w₀ w
  pub low : base ≤ walk.top
  pub high : walk.top ≤ entries
  pub len : length w ≡ length w₀
  pub work : Work w

pub links-start : {T : List ℕ} {k end base : ℕ} {w : List ℕ} {i : ℕ} → base ≤ entries → Work w → ReadIs T (firsts_at + k) i
    → LinksInv T k end base w w (record { top = base; stuck = None }) i
links-start {T} {k} {end} {base} {w} {i} l h x = record {
  left = λ js f u. record {
    rest = js;
    follows = rw x.is f;
    rises = u;
    is = ap (λ (cs : List ℕ). of_fields T end base (cs, None) js) (seg-none w base);
  };
  small = x.small;
  same = λ j o. refl;
  low = omega arith;
  high = l;
  len = refl;
  work = h;
}

module _ {T : List ℕ} {k end base : ℕ} {w₀ w : List ℕ} {walk : Walked} {i : ℕ} (I : LinksInv T k end base w₀ w walk i) where
  pub links-small : i < number_bound
  links-small = I.small

  pub links-low : base ≤ walk.top
  links-low = I.low

  pub links-high : walk.top ≤ entries
  links-high = I.high

  pub links-work : Work w
  links-work = I.work

  ended : ((js : List ℕ) → Follows (next_at T) (first_at T k) js → Rises 1 js → walked w base walk ≡ of_fields T end base ([], None) js)
      → OfRootIs T k end base w₀ w walk
  ended is = record { is = is; same = I.same; low = I.low; high = I.high; len = I.len }

  -- past the last field
  pub links_end : i ≡ 0 → OfRootIs T k end base w₀ w walk
  unfolding push_layers_c items_before
  links_end z = ended (λ js f u. along-end (next_at T) (I.left js f u) z)

  -- at a field that stands no longer before the end
  pub links-past : (i ≡ 0 → ⊥) → end ≤ i → OfRootIs T k end base w₀ w walk
  unfolding push_layers_c items_before
  links-past n l = ended (λ js f u. rw (le-ltb i end l) at (along-item (next_at T) (I.left js f u) n).is)

  module _ (n : i ≡ 0 → ⊥) (below : i < end) {w' : List ℕ} {r : Walked} {m : ℕ}
      (g : WalkedIs base w w' r (push_layer_c T (entries - base) i (walked w base walk))) (x : ReadIs T (nexts_at + i) m) where
    laid : (js : List ℕ) → of_fields T end base (walked w' base r) js ≡ of_fields T end base (walked w base walk) (i ∷ js)
    unfolding push_layers_c items_before
    laid js = rw (lt-ltb i end below) (ap (λ (v : Walk). of_fields T end base v js) g.is)

    pub links-last : m ≤ i → OfRootIs T k end base w₀ w' r
    unfolding push_layers_c items_before
    links-last l = record {
      is = λ js f u. laid [] ∙ item-last (next_at T) (along-item (next_at T) (I.left js f u) n) (let e = x.is in omega arith);
      same = λ j o. g.same j o ∙ I.same j o;
      low = g.low;
      high = g.high;
      len = g.len ∙ I.len;
    }

    pub links-more : i < m → LinksInv T k end base w₀ w' r m
    links-more l = record {
      left = λ js f u.
          let N = along-item (next_at T) (I.left js f u) n in
          rw x.is (item-next (next_at T) (of_fields T end base (walked w' base r)) N (laid N.rest));
      small = x.small;
      same = λ j o. g.same j o ∙ I.same j o;
      low = g.low;
      high = g.high;
      len = g.len ∙ I.len;
      work = omega (arith, g.len, I.work);
    }

pub ruleset links = (links-start, links-small, links-low, links-high, links-work, links_end, links-past, links-last, links-more)
