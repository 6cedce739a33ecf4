-- The root is a layer, with room for all that is in it, and nothing is known of any answer.
use mathlib.Core.Path.{◌≡◌, refl, sym, subst, ◌∙◌}
use mathlib.Core.List.{List, []}
use Prim.Native.Nat.{ℕ, ◌≤◌}
use native.Mathlib.Omega.{arith}
use lib.ListN.{length}
use Rattle.std.specs.Prelude.{Result, Ok, Err}
use Rattle.answers.specs.Ask.{lookup}
use Rattle.rules.specs.Tree.{object, array, Root, fields, elements, root_node}
use Rattle.rules.specs.Layers.{written}
use Rattle.rules.specs.Weights.{weight_of}
use Rattle.rules.specs.Sheet.{trail_size, trail_text_size}
use Rattle.theory.specs.Numbering.{numbers-below}
use Rattle.theory_order.specs.Fitting.{Plain}
use Rattle.theory_order.specs.Clauses.{Task, tree_of}
use Rattle.theory_order.specs.Resolving.{kept-start}
use Rattle.text_chars.specs.declared.Refusal.{Refusal}
use Rattle.eval_memory.specs.Finished.{Memory}
use Rattle.eval_memory.specs.Tables.{WrittenAt, Shows}
use Rattle.eval_state.specs.Documents.{root-written}
use Rattle.eval_frames.specs.Weights.{most_weight}
use Rattle.eval_frames.specs.Shows.{used_of, written-used}
use Rattle.eval_trail.specs.declared.Progress.{Progress}
use Rattle.eval_settle_laws.specs.declared.Need.{Need}
use Rattle.eval_settle_laws.specs.Ground.{Lasting, LayerFits}
use Rattle.eval_settle_laws.specs.Given.{Given, ground_of, sound_of}
use Rattle.eval_settle_laws.specs.Needs.{need_c, begins, LayerAsked, LayerIs}
use Rattle.eval_settle_laws.specs.Clauses.{Settles, OneAsked, OneIs, RootAsked, RootSettles, RootIs}

plain : (r : Root) → Plain (written (root_node r))
plain (fields fs) = tt
plain (elements es) = tt

shows : (M : Memory) (c : ℕ) (r : Root) → WrittenAt M (root_node r) c → Shows M c (written (root_node r))
shows M c (fields fs) s = s
shows M c (elements es) s = s

room_for : (t : Task) (r : Root) → r ≡ tree_of t → Lasting t [] (LayerFits 0 (written (root_node r)))
unfolding weight_of
room_for t (fields fs) e = record {
  is = λ S g l.
      let h : weight_of (lookup S) (object fs) ≤ most_weight = subst (λ (q : Root). weight_of (lookup S) (root_node q) ≤ most_weight) (sym e) l in
      omega arith;
}
room_for t (elements es) e = record {
  is = λ S g l.
      let h : weight_of (lookup S) (array es) ≤ most_weight = subst (λ (q : Root). weight_of (lookup S) (root_node q) ≤ most_weight) (sym e) l in
      omega arith;
}

module _ {T B E w room trail text : List ℕ} {p : Progress} {budget : ℕ} (a : RootAsked T B E w room trail text p budget) where
  -- what is given, with whatever stack is lent
  abbrev given : (x : List ℕ) → length x ≡ length w → Given T B E x room trail text p budget
  given x l = record {
    whole = a.whole;
    bytes = a.bytes;
    environment = a.environment;
    work = omega (arith, a.work);
    t = a.t;
    task = a.task;
    budgeted = a.budgeted;
    key = a.key;
    items = a.items;
    S = [];
    n = 0;
    kept = kept-start a.t;
    holding = a.holding;
  }

  abbrev layer : LayerAsked T B w 0 0
  layer = record {
    basis = ground_of (given w refl);
    sound = sound_of (given w refl);
    work = a.work;
    used = omega arith;
    l = written (root_node (tree_of a.t));
    shown = shows (used_of a.key a.items T B []) 0 (tree_of a.t)
        (written-used a.items (trail_size []) (trail_text_size []) (root-written a.holding.state.document));
    numbered = (numbers-below a.t.setting.document a.holding.state.document.read, plain (tree_of a.t));
    fits = room_for a.t (tree_of a.t) refl;
  }

  pub root-layer : LayerAsked T B w 0 0
  root-layer = layer

  module _ {x : List ℕ} {need : Need} (N : LayerIs T B 0 0 w x need) where
    abbrev one : OneAsked T B E x room trail text 0 need p budget
    one = record { given = given x N.left.len; used = omega arith; inner = (N.is layer).inner; shows = (N.is layer).shows }

    pub root-one : OneAsked T B E x room trail text 0 need p budget
    root-one = one

pub root_is : {E : List ℕ} {p : Progress} {budget : ℕ} {T T' B B' w x w' trail trail' text text' : List ℕ} {need : Need} {r : Result Progress Refusal} → LayerIs T B 0 0 w x need
    → OneIs E 0 need p budget 65 T T' B B' x w' trail trail' text text' r → RootIs E p budget T T' B B' w trail trail' text text' r
root_is {E} {p} {budget} {T} {T'} {B} {B'} {w} {x} {trail = trail} {trail'} {text} {text'} {need} {r} N f = record { is = λ a. go a r (f.is (one a N)) }
  where
    go : {room : List ℕ} (a : RootAsked T B E w room trail text p budget) (r : Result Progress Refusal)
        → Settles (given a x N.left.len) (need_c a.t 65 need (one a N).inner [] 0) (begins need) T' B' trail' text' r → RootSettles a T' B' trail' text' r
    go a (Ok p') s = record { S = s.S'; n = s.n'; is = (N.is (layer a)).is 65 ∙ s.is; holding = s.come.holding }
    go a (Err x) s =
        record { refusal = s.refusal; is = (N.is (layer a)).is 65 ∙ s.is; its-number = s.its-number; its-place = s.its-place }

pub ruleset roots = (root-layer, root-one, root_is)
