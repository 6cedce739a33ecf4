-- A piece that is one finished value: what the rules give for it is that value.
use mathlib.Core.Path.{◌≡◌, refl, ◌∙◌}
use Prim.Native.Nat.{ℕ, ◌+◌, ◌<◌}
use mathlib.Core.Bool.{false}
use mathlib.Core.List.{List}
use mathlib.Core.Option.{some}
use native.Mathlib.Omega.{arith}
use mir.Syntax.{w64}
use mir.Val.{Fits}
use lib.Dec.{leb}
use borrow.Author.Tests.{leb-true}
use Rattle.answers.specs.Ask.{value}
use Rattle.answers.specs.Theory.Sound.{clash}
use Rattle.rules.specs.Bytes.{Text}
use Rattle.rules.specs.Sizes.{max_room, max_unresolved}
use Rattle.rules.specs.Values.{Value, Answer}
use Rattle.rules.specs.Layers.{one, merged}
use Rattle.rules.specs.Settled.{Given, counted_in}
use Rattle.doc_items.specs.Room.{capacity, number_bound, text_room, sheet_at, trail_at}
use Rattle.eval_writer.specs.declared.Source.{Source}
use Rattle.eval_stack.specs.Clauses.{CodeIs}
use Rattle.eval_layers.specs.declared.Taken.{Taken}
use Rattle.eval_value_laws.specs.Ground.{Names}
use Rattle.eval_value_laws.specs.Nodes.{origin-finished, merged-finished}
use Rattle.eval_pieces.specs.Clauses.{levels, Inside}
use Rattle.eval_pieces.specs.declared.Piece.{Piece}
use Rattle.eval_ahead.specs.Clauses.{Found, OnStack, FinishedAsked, FinishedIs}

abbrev answers : Source
answers = record { rec = record { 0 = trail_at }; text = record { 0 = sheet_at } }

abbrev names : (ℕ → Text) → ℕ → Names
names key items = record { key = key; items = items + 1; ends = text_room; answered = max_unresolved; filled = max_room; filled-text = max_room }

settled-found : {g : Given Answer} {v : Value} → g ≡ value (some v) → Found g
settled-found e d m = clash (cc)

module _ {w : List ℕ} {piece : Piece} where
  pub finished-not : FinishedIs w piece false
  finished-not = record { is = λ z. clash (cc) }

  pub finished-one : {top c : ℕ} → piece ≡ Piece.One top c → FinishedIs w piece (leb capacity c)
  unfolding counted_in
  finished-one {top} {c} z = rw z (record {
    is = λ t T B E key items known g G.
        let x = (origin-finished {T = T} {w = w} {top = top} {levels = levels} {taken = Taken.One c} refl (leb-true capacity c t)).is B answers (names key items) known G.depth (value (one G.layer)) (record { is = (G.layer, refl, G.given) }) in
        settled-found (G.is ∙ x.1);
  })

  pub finished-merged : {lo hi c : ℕ} → piece ≡ Piece.Merged lo hi → hi ≡ lo + 1 → CodeIs w lo c → FinishedIs w piece (leb capacity c)
  unfolding counted_in
  finished-merged {lo} {hi} {c} z n h = rw z (record {
    is = λ t T B E key items known g G.
        let x = (merged-finished {T = T} {w = w} {top = lo} {levels = levels} {taken = Taken.Merged hi} refl n h (leb-true capacity c t)).is B answers (names key items) known G.depth (value (merged G.objects)) (record { is = (G.objects, refl, G.given) }) in
        settled-found (G.is ∙ x.1);
  })

module _ {piece : Piece} (A : FinishedAsked piece) where
  pub finished-near : {lo hi : ℕ} → piece ≡ Piece.Merged lo hi → lo < number_bound
  finished-near {lo} {hi} z = let l : OnStack (Piece.Merged lo hi) = rw z at A.on in omega arith

  pub finished-fits : {lo hi : ℕ} → piece ≡ Piece.Merged lo hi → Fits w64 (lo + 1)
  finished-fits {lo} {hi} z = let l : OnStack (Piece.Merged lo hi) = rw z at A.on in record { fits = omega arith }

pub ruleset finished-laws = (finished-not, finished-one, finished-merged, finished-near, finished-fits)

pub finished-asked : (base n : ℕ) (piece : Piece) → Inside base n piece → FinishedAsked piece
finished-asked base n (Piece.Text start size) i = record { on = tt }
finished-asked base n Piece.Undefined i = record { on = tt }
finished-asked base n (Piece.One top c) i = record { on = tt }
finished-asked base n (Piece.Merged lo hi) i = record { on = omega (arith, i.1, i.2) }
finished-asked base n (Piece.Needs b) i = record { on = tt }
finished-asked base n (Piece.Missing place) i = record { on = tt }
