-- A law for each place where a function returns, and for what is lent on.
use mathlib.Core.Path.{◌≡◌, refl, sym, ap, subst, ◌∙◌}
use Prim.Native.Nat.{ℕ, ◌+◌, ◌-◌, ◌≤◌}
use mathlib.Core.List.{List, [], ◌∷◌, ◌++◌}
use Rattle.std.specs.Prelude.{Ok, Err}
use native.Mathlib.Omega.{arith}
use lib.ListN.{length, take, drop}
use lib.Seq.{slice, length-slice}
use borrow.Author.Tests.{le-leb}
use Rattle.answers.specs.Ask.{value}
use Rattle.rules.specs.Bytes.{Text}
use Rattle.rules.specs.Sizes.{max_room, max_unresolved}
use Rattle.rules.specs.Tree.{string}
use Rattle.rules.specs.Values.{Answer, nesting_of}
use Rattle.rules.specs.Layers.{one, merged}
use Rattle.rules.specs.Settled.{Given, counted_in}
use Rattle.rules.specs.Sheet.{two}
use Rattle.text_chars.specs.Parts.{part_slice}
use Rattle.text_chars.specs.Cursor.{refusal}
use Rattle.text_chars.specs.declared.DocAt.{DocAt}
use Rattle.text_chars.specs.declared.EnvAt.{EnvAt}
use Rattle.text_chars.specs.declared.EnvLen.{EnvLen}
use Rattle.doc_items.specs.Room.{text_room, sheet_at, trail_at}
use Rattle.sheet_kept.specs.Kept.{simple, named}
use Rattle.eval_writer.specs.Model.{word_at}
use Rattle.eval_writer.specs.Clauses.{Wrote}
use Rattle.eval_writer.specs.Composition.{start}
use Rattle.eval_writer.specs.Building.{written-string}
use Rattle.eval_writer.specs.declared.Out.{Out}
use Rattle.eval_writer.specs.declared.Source.{Source}
use Rattle.eval_results.specs.Extents.Contracts.{ClipIs}
use Rattle.eval_results.specs.Extents.Came.{came-clipped}
use Rattle.eval_results.specs.declared.extents.Extent.{Extent}
use Rattle.eval_stack.specs.Model.{entries}
use Rattle.eval_layers.specs.declared.Taken.{Taken}
use Rattle.eval_memory.specs.Keys.{KeyNumber}
use Rattle.eval_results.specs.Values.Comes.{ComesBy}
use Rattle.eval_results.specs.declared.values.Worked.{Worked}
use Rattle.eval_value_laws.specs.Ground.{Names}
use Rattle.eval_value_laws.specs.Clauses.{Asked, TakenValueIs, counted_by}
use Rattle.eval_value_laws.specs.Frames.{left-all, left-lower}
use Rattle.eval_pieces.specs.Clauses.{Inside}
use Rattle.eval_pieces.specs.declared.Piece.{Piece}
use Rattle.eval_unresolved.specs.Single.Contracts.{TextAsked, ValueAsked, PieceAsked, ValueCase, TextValueIs, LayersValueIs, PieceValueIs}

-- ---- a text

word_slice : (E : List ℕ) (at n : ℕ) → at + n ≤ length E → word_at E at n ≡ slice at (at + n) E
unfolding word_at
word_slice E at n h =
    let z : n ≡ at + n - at = omega arith in
    rw (word_at, le-leb (at + n) (length E) h) (ap (λ (m : ℕ). take m (drop at E)) z ∙ part_slice E at (at + n) (omega arith))

module _ {E : List ℕ} {at n : ℕ} {b : List ℕ} (A : TextAsked E b at n) where
  pub text-is : {o : Out} {e : Extent} {a : List ℕ} → Wrote (5 ∷ two 0 ++ two n) ((n, word_at E at n) ∷ []) start o b a → ClipIs o 0 e
      → TextValueIs E at n e b a
  unfolding named nesting_of
  text-is w c =
      let z : n ≡ length (slice at (at + n) E) = omega (arith, length-slice at (at + n) E A.inside) in
      record {
        is = λ key items T. record {
          held = simple (string (slice at (at + n) E));
          is = refl;
          keys = tt;
          came = came-clipped (written-string E at z (word_slice E at n A.inside) w) refl c;
        };
      }

pub ruleset text-laws = (text-is)

-- ---- layers

abbrev answers : Source
answers = record { rec = record { 0 = trail_at }; text = record { 0 = sheet_at } }

module _ {B w : List ℕ} {top : ℕ} {b : List ℕ} (A : ValueAsked B w top b) where
  pub layers-asked : Asked B answers w top start b
  layers-asked = record {
    room = A.whole;
    bytes = A.most;
    records = omega (arith, A.bytes);
    texts = omega arith;
    work = A.work;
    used = A.used;
    start = record { rec = omega arith; text = omega arith };
  }

abbrev names : (ℕ → Text) → ℕ → Names
names key items = record { key = key; items = items + 1; ends = text_room; answered = max_unresolved; filled = max_room; filled-text = max_room }

worked-case : (key : ℕ → Text) (items : ℕ) (T : List ℕ) (g : Given Answer) (b a : List ℕ) (r : Worked)
    → ComesBy key (KeyNumber T (items + 1)) g start b a r → ValueCase key items T g b a (Ok r)
worked-case key items T g b a (Worked.Done e) h = h
worked-case key items T g b a Worked.Undefined h = h.0
worked-case key items T g b a (Worked.Needs n) h = h

pub layers-is : {T B : List ℕ} {top : ℕ} {taken : Taken} {w w' : List ℕ} {r : Worked} {b a : List ℕ} → TakenValueIs T B answers top taken start 65 w w' r b a
    → LayersValueIs T B top taken w w' r b a
layers-is {T} {r = r} {b} {a} f = record {
  left = f.left;
  is = λ key items known d g G. worked-case key items T (counted_by known d g) b a r (f.is (names key items) known d g G).is;
}

pub ruleset layer-laws = (layers-asked, layers-is)

-- ---- a piece

module _ {B E w : List ℕ} {base : ℕ} {piece : Piece} {b : List ℕ} (P : PieceAsked B E w base b piece) where
  pub piece-text-asked : {s : EnvAt} {n : EnvLen} → piece ≡ Piece.Text s n → TextAsked E b s.0 n.0
  piece-text-asked z = record { whole = P.value.whole; environment = P.environment; inside = rw z at P.inside }

  pub piece-one-asked : {top c : ℕ} → piece ≡ Piece.One top c → ValueAsked B w top b
  piece-one-asked {top} {c} z =
      let i : Inside base (length E) (Piece.One top c) = rw z at P.inside in
      record { whole = P.value.whole; bytes = P.value.bytes; most = P.value.most; work = P.value.work; used = i.1 }

  pub piece-merged-asked : {lo hi : ℕ} → piece ≡ Piece.Merged lo hi → ValueAsked B w lo b
  piece-merged-asked {lo} {hi} z =
      let i : Inside base (length E) (Piece.Merged lo hi) = rw z at P.inside in
      record { whole = P.value.whole; bytes = P.value.bytes; most = P.value.most; work = P.value.work; used = omega (arith, i.1, i.2) }

  pub merged-low : {lo hi : ℕ} → piece ≡ Piece.Merged lo hi → lo ≤ hi
  merged-low {lo} {hi} z = let i : Inside base (length E) (Piece.Merged lo hi) = rw z at P.inside in i.1

  pub merged-high : {lo hi : ℕ} → piece ≡ Piece.Merged lo hi → hi ≤ entries
  merged-high {lo} {hi} z = let i : Inside base (length E) (Piece.Merged lo hi) = rw z at P.inside in i.2

  module _ {T : List ℕ} where
    pub piece-one : {top c : ℕ} {w' : List ℕ} {r : Worked} {a : List ℕ} → piece ≡ Piece.One top c
        → LayersValueIs T B top (Taken.One c) w w' r b a → PieceValueIs T B E base piece w w' (Ok r) b a
    unfolding counted_in
    piece-one {top} {c} {r = r} {a} z f =
        let i : Inside base (length E) (Piece.One top c) = rw z at P.inside in
        rw z (record {
          left = left-lower i.0 f.left;
          is = λ key items known g G.
              subst (λ (u : Given Answer). ValueCase key items T u b a (Ok r)) (sym G.is)
              (f.is key items known G.depth (value (one G.layer)) (record { is = (G.layer, refl, G.given) }));
        })

    pub piece-merged : {lo hi : ℕ} {w' : List ℕ} {r : Worked} {a : List ℕ} → piece ≡ Piece.Merged lo hi
        → LayersValueIs T B lo (Taken.Merged hi) w w' r b a → PieceValueIs T B E base piece w w' (Ok r) b a
    unfolding counted_in
    piece-merged {lo} {hi} {r = r} {a} z f =
        let i : Inside base (length E) (Piece.Merged lo hi) = rw z at P.inside in
        rw z (record {
          left = left-lower i.0 f.left;
          is = λ key items known g G.
              subst (λ (u : Given Answer). ValueCase key items T u b a (Ok r)) (sym G.is)
              (f.is key items known G.depth (value (merged G.objects)) (record { is = (G.objects, refl, G.given) }));
        })

module _ {T B E w : List ℕ} {base : ℕ} {piece : Piece} {b : List ℕ} where
  pub piece-text : {s : EnvAt} {n : EnvLen} {e : Extent} {a : List ℕ} → piece ≡ Piece.Text s n
      → TextValueIs E s.0 n.0 e b a → PieceValueIs T B E base piece w w (Ok (Worked.Done e)) b a
  piece-text z f = rw z (record { left = left-all; is = λ key items known g P. rw P (f.is key items T) })

  pub piece-undefined : piece ≡ Piece.Undefined → PieceValueIs T B E base piece w w (Ok Worked.Undefined) b b
  piece-undefined z = rw z (record { left = left-all; is = λ key items known g P. P })

  pub piece-needs : {d : ℕ} → piece ≡ Piece.Needs d → PieceValueIs T B E base piece w w (Ok (Worked.Needs d)) b b
  piece-needs z = rw z (record { left = left-all; is = λ key items known g P. P })

  pub piece-missing : {p : DocAt} → piece ≡ Piece.Missing p → PieceValueIs T B E base piece w w (Err (refusal 9 p)) b b
  piece-missing z = rw z (record { left = left-all; is = λ key items known g P. (P, refl) })

pub ruleset piece-laws = (
  piece-text-asked,
  piece-one-asked,
  piece-merged-asked,
  merged-low,
  merged-high,
  piece-one,
  piece-merged,
  piece-text,
  piece-undefined,
  piece-needs,
  piece-missing,
)
