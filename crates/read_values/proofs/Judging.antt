-- The laws of what pieces come to.
use mathlib.Core.Path.{◌≡◌, refl, sym, ◌∙◌}
use mathlib.Core.Bool.{true, false}
use mathlib.Core.List.{append-nil}
use mathlib.Core.Option.{none, some}
use Prim.Native.Nat.{ℕ, ◌≤◌, ◌<◌}
use native.Mathlib.Omega.{arith}
use Rattle.answers.specs.Theory.Sound.{clash}
use Rattle.rules.specs.Bytes.{Text}
use Rattle.rules.specs.Pieces.{scalar_text}
use Rattle.rules.specs.Refusals.{placed, got, refused}
use Rattle.rules.specs.Tree.{string, Node, simple, array, object, unresolved, Pieces, no_pieces, node_piece, substituted}
use Rattle.rules.specs.Reading.{kind_of, same_kind, has_substitution, unlike, text_joined, simple_joined, joined, judge_value}
use Rattle.read_values.specs.Runs.{piece_count, RunOf, plain, list, members, deferred, Judged, JudgeIs}
use Rattle.read_values.specs.declared.Run.{Run}
use Rattle.read_values.specs.declared.Outcome.{Outcome}
use Rattle.read_values.proofs.Adding.{code-low}

-- ---- the cases of the rule

module _ (place : ℕ) (gap : Text) (n : Node) (ps : Pieces) (at items : ℕ) where
  judged-deferred : has_substitution ps ≡ true → judge_value (node_piece place gap n ps) at items ≡ got (unresolved 0 (node_piece place gap n ps)) at items
  unfolding judge_value
  judged-deferred s = rw (s, judge_value)

  judged-mixed : (other : ℕ) → has_substitution ps ≡ false → unlike (kind_of n) ps ≡ some other
      → judge_value (node_piece place gap n ps) at items ≡ refused (placed 11 other)
  unfolding judge_value
  judged-mixed other s u = rw (s, u, judge_value)

  judged-joined : has_substitution ps ≡ false → unlike (kind_of n) ps ≡ none
      → judge_value (node_piece place gap n ps) at items ≡ got (joined n (node_piece place gap n ps) ps) at items
  unfolding judge_value
  judged-joined s u = rw (s, u, judge_value)

-- ---- the answers

module _ (run : Run) where
  pub judge-nothing : run.count ≡ 0 → JudgeIs run Outcome.Nothing
  unfolding piece_count
  judge-nothing z = record { is = go }
    where
      go : (ps : Pieces) → RunOf run ps → ps ≡ no_pieces
      go no_pieces o = refl
      go (node_piece place gap n ps) o = absurd (omega (arith, z, o.count))
      go (substituted gap x ps) o = absurd (omega (arith, z, o.count))

  module _ (m : run.count ≡ 0 → ⊥) where
    pub judge-deferred : run.subs ≡ true → JudgeIs run (Outcome.Value 8 false)
    unfolding piece_count has_substitution judge_value
    judge-deferred s = record { is = λ ps o. (unresolved 0 ps, deferred, go ps o) }
      where
        go : (ps : Pieces) → RunOf run ps → (at items : ℕ) → judge_value ps at items ≡ got (unresolved 0 ps) at items
        go no_pieces o at items = absurd (m o.count)
        go (node_piece place gap n ps) o at items = judged-deferred place gap n ps at items (sym o.subs ∙ s)
        go (substituted gap x ps) o at items = refl

    module _ (s : run.subs ≡ false) where
      pub judge-mixed : run.odd ≡ true → JudgeIs run (Outcome.Mixed run.place)
      unfolding piece_count has_substitution unlike kind_of same_kind
      judge-mixed z = record { is = go }
        where
          go : (ps : Pieces) → RunOf run ps → (at items : ℕ) → judge_value ps at items ≡ refused (placed 11 run.place.0)
          go no_pieces o at items = absurd (m o.count)
          go (substituted gap x ps) o at items = clash (cc (sym o.subs ∙ s))
          go (node_piece place gap (simple x) ps) o at items =
              let u = rw z at o.odd in judged-mixed place gap (simple x) ps at items run.place.0 (sym o.subs ∙ s) (sym u)
          go (node_piece place gap (array es) ps) o at items =
              let u = rw z at o.odd in judged-mixed place gap (array es) ps at items run.place.0 (sym o.subs ∙ s) (sym u)
          go (node_piece place gap (object fs) ps) o at items =
              let u = rw z at o.odd in judged-mixed place gap (object fs) ps at items run.place.0 (sym o.subs ∙ s) (sym u)
          go (node_piece place gap (unresolved b qs) ps) o at items = absurd o.plain

      module _ (z : run.odd ≡ false) where
        pub judge-container : 5 < run.kind → JudgeIs run (Outcome.Value run.kind false)
        unfolding piece_count has_substitution joined unlike kind_of same_kind
        judge-container h = record { is = go }
          where
            go : (ps : Pieces) → RunOf run ps → Judged ps (Outcome.Value run.kind false)
            go no_pieces o = absurd (m o.count)
            go (substituted gap x ps) o = clash (cc (sym o.subs ∙ s))
            go (node_piece place gap (simple x) ps) o = absurd (omega (arith, h, o.first.1, code-low x))
            go (node_piece place gap (array es) ps) o =
                let t : has_substitution ps ≡ false = sym o.subs ∙ s in
                let u = rw z at o.odd in
                rw o.first.1 (_, list t (sym u), λ at items. judged-joined place gap (array es) ps at items t (sym u))
            go (node_piece place gap (object fs) ps) o =
                let t : has_substitution ps ≡ false = sym o.subs ∙ s in
                let u = rw z at o.odd in
                rw o.first.1 (_, members t (sym u), λ at items. judged-joined place gap (object fs) ps at items t (sym u))
            go (node_piece place gap (unresolved b qs) ps) o = absurd o.plain

        module _ (l : run.kind ≤ 5) where
          pub judge-one : run.count ≡ 1 → JudgeIs run (Outcome.Value run.kind true)
          unfolding piece_count has_substitution joined simple_joined unlike kind_of same_kind text_joined
          judge-one c = record { is = go }
            where
              go : (ps : Pieces) → RunOf run ps → Judged ps (Outcome.Value run.kind true)
              go no_pieces o = absurd (m o.count)
              go (substituted gap x ps) o = clash (cc (sym o.subs ∙ s))
              go (node_piece place gap (simple x) no_pieces) o =
                  rw o.first.1 (simple x, plain x (rw o.first.0 (sym (append-nil (scalar_text x)))) refl refl, λ at items. judged-joined place gap (simple x) no_pieces at items refl refl)
              go (node_piece place gap (simple x) (node_piece p g n ps)) o = absurd (omega (arith, c, o.count))
              go (node_piece place gap (simple x) (substituted g y ps)) o = absurd (omega (arith, c, o.count))
              go (node_piece place gap (array es) ps) o = absurd (omega (arith, l, o.first.1))
              go (node_piece place gap (object fs) ps) o = absurd (omega (arith, l, o.first.1))
              go (node_piece place gap (unresolved b qs) ps) o = absurd o.plain

          pub judge-several : (run.count ≡ 1 → ⊥) → JudgeIs run (Outcome.Value 5 true)
          unfolding piece_count has_substitution joined simple_joined unlike kind_of same_kind scalar_text
          judge-several c = record { is = go }
            where
              go : (ps : Pieces) → RunOf run ps → Judged ps (Outcome.Value 5 true)
              go no_pieces o = absurd (m o.count)
              go (substituted gap x ps) o = clash (cc (sym o.subs ∙ s))
              go (node_piece place gap (simple x) no_pieces) o = absurd (c o.count)
              go (node_piece place gap (simple x) (node_piece p g n ps)) o =
                  let all : Pieces = node_piece place gap (simple x) (node_piece p g n ps) in
                  let t : has_substitution ps ≡ false = sym o.subs ∙ s in
                  let u = rw z at o.odd in
                  (_, plain (string (text_joined all)) refl t (sym u), λ at items. judged-joined place gap (simple x) (node_piece p g n ps) at items t (sym u))
              go (node_piece place gap (simple x) (substituted g y ps)) o = clash (cc (sym o.subs ∙ s))
              go (node_piece place gap (array es) ps) o = absurd (omega (arith, l, o.first.1))
              go (node_piece place gap (object fs) ps) o = absurd (omega (arith, l, o.first.1))
              go (node_piece place gap (unresolved b qs) ps) o = absurd o.plain

pub ruleset judges = (judge-nothing, judge-deferred, judge-mixed, judge-container, judge-one, judge-several)
