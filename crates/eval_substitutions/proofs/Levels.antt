-- The turns of the loop that goes down level by level.
use mathlib.Core.Path.{◌≡◌, refl, sym, ap, subst, ◌∙◌}
use Prim.Native.Nat.{ℕ, ◌+◌, ◌-◌, ◌≤◌, ◌<◌}
use mathlib.Core.List.{List}
use native.Mathlib.Omega.{arith}
use lib.ListN.{length, get_or}
use Rattle.doc_items.specs.Writing.{ReadIs}
use Rattle.eval_nodes.specs.Model.{members_of}
use Rattle.eval_stack.specs.Model.{entries, Work, seg-length}
use Rattle.eval_stack.specs.Clauses.{Same}
use Rattle.eval_stack.specs.Pushes.{same-lower}
use Rattle.eval_layers.specs.Model.{Stuck, Walk, push_members_c}
use Rattle.eval_layers.specs.Clauses.{walked, WalkedIs, DeeperIs}
use Rattle.eval_layers.specs.declared.Part.{Part}
use Rattle.eval_layers.specs.declared.Walked.{Walked}
use Rattle.eval_look_back.specs.Clauses.{AroundIs}
use Rattle.eval_substitutions.specs.Model.{level_c, Levels, level-more}
use Rattle.eval_substitutions.specs.Clauses.{part_of, BeforeIs}

-- so many levels are done
pub record LevelsInv (T R keys : List ℕ) (item field : ℕ) (root : Part) (w₀ w : List ℕ) (literal i : ℕ) (part : Part) : Type 0 where
  pub levels : (base : ℕ) → Levels T R keys item base field 1 root.lo (part_of w₀ root) → Levels T R keys item base literal i part.lo (part_of w part)
  pub steps : i ≤ literal + 1
  pub upto : literal ≤ item
  pub same : Same root.hi w₀ w
  pub above : root.hi ≤ part.hi
  pub low : part.lo ≤ part.hi
  pub high : part.hi ≤ entries
  pub len : length w ≡ length w₀
  pub room : Work w

pub levels-start : {T R keys : List ℕ} {item field : ℕ} {root : Part} {w : List ℕ} → Work w → root.lo ≤ root.hi → root.hi ≤ entries → field ≤ item
    → LevelsInv T R keys item field root w w field 1 root
levels-start room low high upto = record {
  levels = λ base L. L;
  steps = omega arith;
  upto = upto;
  same = λ i o. refl;
  above = omega arith;
  low = low;
  high = high;
  len = refl;
  room = room;
}

pub levels-work : {T R : List ℕ} {lo hi : ℕ} {st : Stuck} {base k : ℕ} {w w' : List ℕ} {r : Walked} → Work w
    → DeeperIs T R lo hi st base k w w' r → Work w'
levels-work room d = let e = d.is.len in omega (arith, room)

module _ {T R keys : List ℕ} {item field : ℕ} {root : Part} {w₀ w : List ℕ} {literal i : ℕ} {part : Part}
    (I : LevelsInv T R keys item field root w₀ w literal i part) where
  pub levels-end : item ≤ literal → BeforeIs T R keys item field root w₀ w part
  levels-end m =
      let e : literal ≡ item = omega (arith, I.upto) in
      record {
        count = i;
        levels = λ base L. subst (λ (l : ℕ). Levels T R keys item base l i part.lo (part_of w part)) e (I.levels base L);
        part = record { same = I.same; above = I.above; low = I.low; high = I.high; len = I.len };
      }

  module _ {at key : ℕ} {w₁ w₂ : List ℕ} {below walk : Walked} (l : literal < item) (a : AroundIs T literal item at) (r : ReadIs keys i key)
      (d : DeeperIs T R part.lo part.hi part.stuck part.hi key w w₁ below)
      (x : WalkedIs part.hi w₁ w₂ walk (push_members_c T R key (entries - part.hi) (members_of T R (literal + 1) at) (walked w₁ part.hi below))) where
    abbrev next : Part
    next = record { lo = part.hi; hi = walk.top; stuck = walk.stuck }

    stands : part.lo + length (part_of w part).0 ≡ part.hi
    stands = omega (arith, seg-length w part.lo (part.hi - part.lo), I.low)

    is-level : part_of w₂ next ≡ level_c T R (get_or keys i 0) (entries - (part.lo + length (part_of w part).0)) (literal + 1) at (part_of w part)
    unfolding level_c
    is-level =
        x.is ∙ ap (push_members_c T R key (entries - part.hi) (members_of T R (literal + 1) at)) d.is.is
        ∙ ap (λ (k : ℕ). level_c T R k (entries - part.hi) (literal + 1) at (part_of w part)) r.is
        ∙ ap (λ (n : ℕ). level_c T R (get_or keys i 0) (entries - n) (literal + 1) at (part_of w part)) (sym stands)

    pub levels-turn : LevelsInv T R keys item field root w₀ w₂ at (i + 1) next
    levels-turn =
        let above = I.above in
        record {
          levels = λ base L.
              let deep : Levels T R keys item base at (i + 1) (part.lo + length (part_of w part).0) (part_of w₂ next) =
              subst (λ (y : Walk). Levels T R keys item base at (i + 1) (part.lo + length (part_of w part).0) y) (sym is-level)
              (level-more (I.levels base L) l a) in
              subst (λ (n : ℕ). Levels T R keys item base at (i + 1) n (part_of w₂ next)) stands deep;
          steps = omega (arith, I.steps, a.past);
          upto = a.upto;
          same = λ j o. same-lower w₁ w₂ x.same root.hi above j o ∙ same-lower w w₁ d.is.same root.hi above j o ∙ I.same j o;
          above = omega (arith, x.low);
          low = x.low;
          high = x.high;
          len = x.len ∙ d.is.len ∙ I.len;
          room = omega (arith, x.len, d.is.len, I.room);
        }

pub ruleset levels = (levels-start, levels-work, levels-end, levels-turn)
