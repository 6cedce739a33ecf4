-- Joins of pieces, and how the node that pieces come to stands in memory where the pieces stand.
use Rattle.std.specs.Prelude.{◌≡◌, refl, ℕ, Bool, true, false, ◌++◌}
use Rattle.std.proofs.Common.{sym, ap, ◌∙◌, append_assoc, arith}
use Rattle.std.proofs.Math.Option.{Option, none, some}
use Rattle.answers.specs.Theory.Sound.{clash}
use Rattle.rules.specs.Bytes.{Text}
use Rattle.rules.specs.Pieces.{scalar_text}
use Rattle.rules.specs.Tree.{Node, simple, array, object, unresolved, Pieces, no_pieces, node_piece, substituted}
use Rattle.rules.specs.Reading.{Kind, kind_of, same_kind, has_substitution, unlike, text_joined}
use Rattle.doc_items.specs.Holds.{TextAt, Shown, PiecesAt}
use Rattle.doc_items.specs.Joining.{Simples, join_pieces, pieces-elements, pieces-fields, pieces-seams}
use Rattle.read_values.specs.Runs.{Comes, plain, list, members, deferred}

-- ---- joins

pub join-nothing : (ps : Pieces) → join_pieces ps no_pieces ≡ ps
unfolding join_pieces
join-nothing no_pieces = refl
join-nothing (node_piece place gap n ps) = ap (λ (qs : Pieces). node_piece place gap n qs) (join-nothing ps)
join-nothing (substituted gap x ps) = ap (λ (qs : Pieces). substituted gap x qs) (join-nothing ps)

pub join-assoc : (ps qs rs : Pieces) → join_pieces (join_pieces ps qs) rs ≡ join_pieces ps (join_pieces qs rs)
unfolding join_pieces
join-assoc no_pieces qs rs = refl
join-assoc (node_piece place gap n ps) qs rs = ap (λ (z : Pieces). node_piece place gap n z) (join-assoc ps qs rs)
join-assoc (substituted gap x ps) qs rs = ap (λ (z : Pieces). substituted gap x z) (join-assoc ps qs rs)

pub text-join : (ps qs : Pieces) → text_joined (join_pieces ps qs) ≡ text_joined ps ++ text_joined qs
unfolding join_pieces text_joined
text-join no_pieces qs = refl
text-join (node_piece place gap (simple x) ps) qs =
    ap (λ (t : Text). gap ++ scalar_text x ++ t) (text-join ps qs) ∙ sym (append_assoc (gap ++ scalar_text x) (text_joined ps) (text_joined qs))
text-join (node_piece place gap (array es) ps) qs = text-join ps qs
text-join (node_piece place gap (object fs) ps) qs = text-join ps qs
text-join (node_piece place gap (unresolved b rs) ps) qs = text-join ps qs
text-join (substituted gap x ps) qs = text-join ps qs

pub subs-join : (ps qs : Pieces) → has_substitution (join_pieces ps qs) ≡ false → (has_substitution ps ≡ false) × (has_substitution qs ≡ false)
unfolding join_pieces has_substitution
subs-join no_pieces qs e = (refl, e)
subs-join (node_piece place gap n ps) qs e = subs-join ps qs e
subs-join (substituted gap x ps) qs e = clash (cc (e))

either : (t : Bool) (a b c : Option ℕ) (place : ℕ) → (a ≡ none → (b ≡ none) × (c ≡ none))
    → ◌≡◌ {A = Option ℕ} (elim t [ true ↦ a | false ↦ some place ]) none
    → (◌≡◌ {A = Option ℕ} (elim t [ true ↦ b | false ↦ some place ]) none) × (c ≡ none)
either true a b c place f e = f e
either false a b c place f e = clash (cc (e))

pub unlike-join : (k : Kind) (ps qs : Pieces) → unlike k (join_pieces ps qs) ≡ none → (unlike k ps ≡ none) × (unlike k qs ≡ none)
unfolding join_pieces unlike
unlike-join k no_pieces qs e = (refl, e)
unlike-join k (node_piece place gap n ps) qs e =
    either (same_kind k (kind_of n)) (unlike k (join_pieces ps qs)) (unlike k ps) (unlike k qs) place (unlike-join k ps qs) e
unlike-join k (substituted gap x ps) qs e = unlike-join k ps qs e

-- ---- the node in memory

pub shown_of : (g h : ℕ → ℕ) (lo hi : ℕ) (ps : Pieces) (k : ℕ) (b : Bool) (n : Node) (o z i end : ℕ) → Comes ps k b n → Simples ps
    → PiecesAt g h lo hi (λ m c. Unit {0}) i end ps → (b ≡ true → TextAt h lo hi o z (text_joined ps))
    → Shown g h lo hi (λ m c. Unit {0}) 0 k o z 0 i end n
shown_of g h lo hi ps k b n o z i end (plain x e s u) q p t =
    (omega arith, rw e (t refl), pieces-seams g h lo hi (λ m c. Unit {0}) ps i end s u p q)
shown_of g h lo hi ps k b n o z i end (list s u) q p t = (refl, pieces-elements g h lo hi (λ m c. Unit {0}) ps i end s u p)
shown_of g h lo hi ps k b n o z i end (members s u) q p t = (refl, pieces-fields g h lo hi (λ m c. Unit {0}) ps i end s u p)
shown_of g h lo hi ps k b n o z i end deferred q p t = (refl, tt, p)
