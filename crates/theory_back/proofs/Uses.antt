-- What a proof of the code cites, of one document that was read.
use Rattle.std.specs.Prelude.{◌≡◌, ℕ, List, [], drop}
use Rattle.std.proofs.Common.{sym, ap, subst, ◌∙◌}
use Rattle.std.proofs.Math.Option.{Option, none, some}
use Rattle.std.proofs.Math.ListN.{get_elem?}
use Rattle.rules.specs.Bytes.{Text}
use Rattle.rules.specs.Values.{Answer}
use Rattle.rules.specs.Unresolved.{Unresolved, layers_for}
use Rattle.rules.specs.Documents.{Document}
use Rattle.theory.specs.Numbering.{Prepared}
use Rattle.rules.specs.Settled.{Settled, no, flat, walk_in}
use Rattle.theory.specs.SettledAnswers.{open_in, forward_in, layers_in, flat-layers-for}
use Rattle.theory_back.specs.Openness.{openness_at}
use Rattle.theory_back.proofs.Openness.{openness-of}
use Rattle.theory_back.specs.LookBack.{below_in, look_back_in, settled_by}
use Rattle.theory_back.proofs.LookBack.{settled-look}
use Rattle.theory_back.specs.Passes.{looks_back}
use Rattle.theory_back.proofs.Passes.{forward-both}
use Rattle.theory_back.specs.OwnKey.{own_key, Apart}
use Rattle.theory_back.proofs.OwnKey.{own-key}

module _ (d : Document) (P : Prepared d) (b : ℕ) (u : Unresolved) (e : get_elem? d.unresolved b ≡ some u) where
  openness-is : openness_at d.root b ≡ u.openness
  openness-is = openness-of d.root b u (subst (λ (l : List Unresolved). get_elem? l b ≡ some u) P.listed e)

  module _ (known : ℕ → Option Answer) (p : List Text) where
    -- the layers that the rules of b give a path (module SettledAnswers: `substitution_in`)
    abbrev pub layers_at : Settled
    layers_at = layers_in known d.root (open_in known u.openness) p

    pub layers-of : layers_at ≡ settled_by known d.root p (look_back_in known d.root p b)
    layers-of =
        sym (flat-layers-for known d.root u.openness p)
        ∙ ap (λ o. flat known (layers_for d.root o p)) (sym openness-is) ∙ settled-look known d.root p b

    -- it looks back over `own` elements, and `m` are the layers before the field
    pub layers-back : (own : ℕ) (m : Settled) → look_back_in known d.root p b ≡ some (drop own p, m) → layers_at ≡ walk_in known (drop own p) m
    layers-back own m q = layers-of ∙ ap (settled_by known d.root p) q

    -- it looks forward
    pub layers-forward : looks_back d.root p b ≡ none → layers_at ≡ forward_in known d.root p
    layers-forward q = layers-of ∙ ap (settled_by known d.root p) (forward-both (below_in known) d.root p ([], no) b q)

    -- the own key is none of the path's elements
    pub layers-apart : Apart (own_key d.root b) p → layers_at ≡ forward_in known d.root p
    layers-apart q = layers-of ∙ ap (settled_by known d.root p) (own-key (below_in known) p d.root ([], no) b q)
