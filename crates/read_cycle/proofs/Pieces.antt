-- The pieces of a value one after another: what is still to be read behind those that were.
use mathlib.Core.Path.{◌≡◌, refl, sym, ap, ◌∙◌}
use Prim.Native.Nat.{ℕ, suc, ◌+◌, ◌≤◌, ◌<◌}
use mathlib.Core.Bool.{Bool, true, false}
use mathlib.Core.List.{List}
use mathlib.Core.Option.{none, some}
use native.Mathlib.Omega.{arith}
use lib.Dec.{ltb}
use lib.ListN.{length}
use lib.Seq.{slice}
use Rattle.rules.specs.Bytes.{Text}
use Rattle.rules.specs.Sizes.{max_items}
use Rattle.rules.specs.Refusals.{Refusal, placed, Read, got, refused, read_then}
use Rattle.rules.specs.Characters.{after_inline}
use Rattle.rules.specs.Tree.{Pieces, no_pieces}
use Rattle.rules.specs.Reading.{Start, start_of, Part, node, substitution, with_part, count_item, pieces_from}
use Rattle.theory.specs.ValueSteps.{pieces-left}
use Rattle.doc_items.specs.Joining.{join_pieces}
use Rattle.read_values.specs.Shows.{join-assoc, join-nothing}

-- pieces that were read, before those that are still to come
abbrev pub joined_to : Pieces → Read Pieces → Read Pieces
joined_to done m = read_then m (λ ps end n. got (join_pieces done ps) end n)

with-part : (at : ℕ) (gap : Text) (part : Part) (ps : Pieces) → join_pieces (with_part at gap part no_pieces) ps ≡ with_part at gap part ps
unfolding join_pieces
with-part at gap (node n) ps = refl
with-part at gap (substitution x) ps = refl

joined_snoc : (done : Pieces) (at : ℕ) (gap : Text) (part : Part) (m : Read Pieces)
    → joined_to done (read_then m (λ ps end n. got (with_part at gap part ps) end n)) ≡ joined_to (join_pieces done (with_part at gap part no_pieces)) m
joined_snoc done at gap part (got ps end n) =
    ap (λ l. got l end n) (ap (join_pieces done) (sym (with-part at gap part ps)) ∙ sym (join-assoc done (with_part at gap part no_pieces) ps))
joined_snoc done at gap part (refused x) = refl

counted-then : {A B : Type 0} (items at : ℕ) (f : ℕ → Read A) (k : A → ℕ → ℕ → Read B)
    → count_item items at (λ i. read_then (f i) k) ≡ read_then (count_item items at f) k
unfolding count_item
counted-then items at f k = go (ltb items max_items)
  where
    go : (b : Bool) → elim b [ true ↦ read_then (f (items + 1)) k | false ↦ refused (placed 8 at) ]
        ≡ read_then (elim b [ true ↦ f (items + 1) | false ↦ refused (placed 8 at) ]) k
    go true = refl
    go false = refl

module _ (piece_at : Start → ℕ → ℕ → Read Part) (s : List ℕ) where
  -- all pieces of a value
  abbrev pub pieces_in : ℕ → ℕ → Read Pieces
  pieces_in at items = pieces_from (suc (length s)) piece_at s at at items

  -- where so many pieces were read, all of them are these and what is read from here on
  pub record Rest (at₀ items₀ from at items : ℕ) (done : Pieces) : Type 0 where
    pub is : pieces_from (suc (length s)) piece_at s at₀ at₀ items₀ ≡ joined_to done (pieces_from (suc (length s)) piece_at s from at items)

  pub rest-start : (at items : ℕ) → Rest at items at at items no_pieces
  unfolding join_pieces
  rest-start at items = record { is = same (pieces_from (suc (length s)) piece_at s at at items) }
    where
      same : (m : Read Pieces) → m ≡ joined_to no_pieces m
      same (got ps end n) = refl
      same (refused x) = refl

  module _ {at₀ items₀ from at items : ℕ} {done : Pieces} (r : Rest at₀ items₀ from at items done) where
    pub rest-stop : start_of s at ≡ none → pieces_from (suc (length s)) piece_at s at₀ at₀ items₀ ≡ got done at items
    unfolding pieces_from
    rest-stop e = r.is ∙ rw (e, pieces_from) (ap (λ l. got l at items) (join-nothing done))

    module _ {start : Start} (e : start_of s at ≡ some start) where
      here : pieces_from (suc (length s)) piece_at s from at items
          ≡ read_then (count_item items at (piece_at start at)) (λ part end i. read_then (pieces_from (length s) piece_at s end (after_inline s end) i) (λ ps after j. got (with_part at (slice from at s) part ps) after j))
      unfolding pieces_from
      here = rw (e, pieces_from) (counted-then items at (piece_at start at) (λ part end i. read_then (pieces_from (length s) piece_at s end (after_inline s end) i) (λ ps after j. got (with_part at (slice from at s) part ps) after j)))

      pub rest-refused : {x : Refusal} → count_item items at (piece_at start at) ≡ refused x → pieces_from (suc (length s)) piece_at s at₀ at₀ items₀ ≡ refused x
      rest-refused q = r.is ∙ rw (here, q)

      pub rest-turn : ((t : Start) (p i : ℕ) → start_of s p ≡ some t → (a : Part) (end n : ℕ) → piece_at t p i ≡ got a end n → p < end) → {part : Part} {end n : ℕ}
          → count_item items at (piece_at start at) ≡ got part end n → 0 < after_inline s end → after_inline s end ≤ length s
          → Rest at₀ items₀ end (after_inline s end) n (join_pieces done (with_part at (slice from at s) part no_pieces))
      rest-turn forward {part} {end} {n} q l m = record {
        is = r.is ∙ rw (here, q) (ap (λ z. joined_to done (read_then z (λ ps after j. got (with_part at (slice from at s) part ps) after j)))
            (pieces-left s piece_at forward (length s) (suc (length s)) end (after_inline s end) n (omega arith) (omega arith))
            ∙ joined_snoc done at (slice from at s) part (pieces_from (suc (length s)) piece_at s end (after_inline s end) n));
      }
