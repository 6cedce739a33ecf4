-- The loop over the pieces of a value: its invariant, and one law for each way out of a turn.
use mathlib.Core.Path.{◌≡◌, refl, sym, ap, ◌∙◌}
use Prim.Native.Nat.{ℕ, suc, ◌+◌, ◌*◌, ◌-◌, ◌≤◌, ◌<◌}
use mathlib.Core.Bool.{Bool, true, false}
use mathlib.Core.List.{List, [], ◌++◌, append-nil}
use mathlib.Core.Option.{none, some}
use native.Mathlib.Omega.{arith}
use lib.Dec.{eqb}
use borrow.Author.Tests.{eqb-true, eqb-false}
use lib.ListN.{length, get_or, length-append}
use lib.Seq.{slice, slice_empty}
use Rattle.rules.specs.Sizes.{max_items}
use Rattle.answers.specs.Theory.Sound.{clash}
use Rattle.rules.specs.Bytes.{Text}
use Rattle.rules.specs.Pieces.{scalar_text}
use Rattle.rules.specs.Refusals.{placed, spent, not_allowed, Read, got, refused, read_then}
use Rattle.rules.specs.Characters.{after_inline}
use Rattle.rules.specs.Tree.{Scalar, null, boolean, number, string, Node, simple, array, object, unresolved, Pieces, no_pieces, node_piece, substituted}
use Rattle.rules.specs.Reading.{Start, start_of, Part, node, substitution, with_part, piece_at, simple_kind, kind_of, same_kind, has_substitution, unlike, text_joined, judge_value, value_in}
use Rattle.theory.specs.ValueSteps.{value-nothing, value-pieces, piece-forward}
use Rattle.text_chars.specs.declared.Cursor.{Cursor}
use Rattle.doc_items.specs.Codes.{code_of}
use Rattle.doc_items.specs.Holds.{Spells, TextAt, Shown, PiecesAt}
use Rattle.doc_items.specs.Moving.{Grown, move-spells, move-pieces}
use Rattle.doc_items.specs.Joining.{spells-join, join_pieces, pieces-join}
use Rattle.text_chars.specs.Parts.{part, back, back-length, back_below, back_above}
use Rattle.doc_items.specs.Parts.{numbers, letters, agree-back, agree-kept, grown-back, grown-kept}
use Rattle.read_values.specs.Runs.{KindIs, piece_count, RunOf, Comes, start-run}
use Rattle.read_values.specs.Shows.{shown_of, text-join, subs-join, unlike-join}
use Rattle.read_values.specs.declared.Run.{Run}
use Rattle.read_cycle.specs.Clauses.{Free, Asked, Reached, Follows, MoreRead}
use Rattle.read_grammar.specs.Limits.Limits.{nesting_of}
use Rattle.read_cycle.proofs.Pieces as P

pub record ValueInv (s : List ℕ) (at₀ left items₀ : ℕ) (table₀ text₀ : List ℕ) (at from items used : ℕ) (run : Run) (table text : List ℕ) : Type 0 where
  pub done : Pieces
  pub rest : P.Rest (piece_at (value_in s) s (nesting_of left)) s at₀ items₀ from at items done
  pub run_of : RunOf run done
  pub held : PiecesAt (numbers table) (letters (2 * at₀) text) (2 * at₀) used Free 0 (items - items₀) done
  pub texts : has_substitution done ≡ false → unlike simple_kind done ≡ none
      → (used ≡ 2 * at₀ + length (text_joined done)) × Spells (letters (2 * at₀) text) (2 * at₀) (text_joined done)
      × (length (text_joined done) + at₀ ≤ from)
  pub first : run.count ≡ 0 → (at ≡ at₀) × (from ≡ at₀)
  pub begun : (run.count ≡ 0 → ⊥) → (start : Start) × (start_of s at₀ ≡ some start) × (at₀ < from)
  pub behind : at₀ ≤ from
  pub gap : from ≤ at
  pub inside : at ≤ length s
  pub more : items₀ ≤ items
  pub few : items ≤ max_items
  pub used_low : 2 * at₀ ≤ used
  pub used_high : used ≤ 2 * from
  pub count : run.count ≤ items
  pub kept_table : length table ≡ length table₀
  pub kept-text : length text ≡ length text₀

-- ---- the start

pub value-start : {s : List ℕ} {at left items : ℕ} {table text : List ℕ} {run : Run} → Asked s at left items table text → run.count ≡ 0 → run.subs ≡ false
    → run.odd ≡ false → ValueInv s at left items table text at at items (2 * at) run table text
unfolding text_joined
value-start {s} {at} {left} {items} {table} {text} {run} a c b o = record {
  done = no_pieces;
  rest = P.rest-start (piece_at (value_in s) s (nesting_of left)) s at items;
  run_of = start-run run c b o;
  held = omega arith;
  texts = λ u v. (omega arith, tt, omega arith);
  first = λ e. (refl, refl);
  begun = λ n. absurd (n c);
  behind = omega arith;
  gap = omega arith;
  inside = a.inside;
  more = omega arith;
  few = a.few;
  used_low = omega arith;
  used_high = omega arith;
  count = omega arith;
  kept_table = refl;
  kept-text = refl;
}

-- ---- pieces and their count

none-counted : piece_count no_pieces ≡ 0
unfolding piece_count
none-counted = refl

counted_none : (ps : Pieces) → piece_count ps ≡ 0 → ps ≡ no_pieces
unfolding piece_count
counted_none no_pieces e = refl
counted_none (node_piece place gap n ps) e = absurd (omega arith)
counted_none (substituted gap x ps) e = absurd (omega arith)

judged-none : (at items : ℕ) → judge_value no_pieces at items ≡ refused spent
unfolding judge_value
judged-none at items = refl

plain-only : {ps : Pieces} {k : ℕ} {b : Bool} {nd : Node} → Comes ps k b nd → b ≡ true → (has_substitution ps ≡ false) × (unlike simple_kind ps ≡ none)
plain-only (Comes.plain x e u v) f = (u, v)
plain-only (Comes.list u v) f = clash (cc (f))
plain-only (Comes.members u v) f = clash (cc (f))
plain-only Comes.deferred f = clash (cc (f))

code-small : (x : Scalar) → code_of x ≤ 5
code-small null = omega arith
code-small (boolean false) = omega arith
code-small (boolean true) = omega arith
code-small (number y) = omega arith
code-small (string y) = omega arith

kind-small : {ps : Pieces} {k : ℕ} {b : Bool} {nd : Node} → Comes ps k b nd → k ≤ 8
kind-small (Comes.plain x e u v) = omega (arith, code-small x)
kind-small (Comes.list u v) = omega arith
kind-small (Comes.members u v) = omega arith
kind-small Comes.deferred = omega arith

-- ---- one piece more

-- a piece whose text follows: the whitespace and the text together
follow-text : (h : ℕ → ℕ) (at from end used used' : ℕ) (gap : Text) (part : Part) (k : ℕ) → KindIs k part → has_substitution (with_part at gap part no_pieces) ≡ false
    → unlike simple_kind (with_part at gap part no_pieces) ≡ none → Follows h from end used used' gap part
    → (used' ≡ used + length (text_joined (with_part at gap part no_pieces))) × Spells h used (text_joined (with_part at gap part no_pieces))
    × (length (text_joined (with_part at gap part no_pieces)) + from ≤ end)
unfolding has_substitution unlike kind_of same_kind text_joined
follow-text h at from end used used' gap (node (simple x)) k i u v f =
    let e : length (gap ++ scalar_text x) ≡ length gap + length (scalar_text x) = length-append gap (scalar_text x) in
    rw (append-nil (gap ++ scalar_text x)) (omega (arith, f.0), spells-join h used gap (scalar_text x) f.1 f.2, omega (arith, f.3))
follow-text h at from end used used' gap (node (array es)) k i u v f = clash (cc (v))
follow-text h at from end used used' gap (node (object fs)) k i u v f = clash (cc (v))
follow-text h at from end used used' gap (node (unresolved b ps)) k i u v f = absurd i
follow-text h at from end used used' gap (substitution x) k i u v f = clash (cc (u))

module _ {s : List ℕ} {at₀ left items₀ : ℕ} {table₀ text₀ : List ℕ} {at from items used : ℕ} {run : Run} {x t : List ℕ}
    (I : ValueInv s at₀ left items₀ table₀ text₀ at from items used run x t) (a : Asked s at₀ left items₀ table₀ text₀) where
  module _ {y z : List ℕ} {c : Cursor} {n : ℕ} {longer : Run} {used' : ℕ} (m : MoreRead s at from used run left items y z c n longer used')
      (ly : length y ≡ length (part (8 * (items - items₀)) x)) (lz : length z ≡ length (part (used - 2 * at₀) t)) where
    abbrev X : List ℕ
    X = back (8 * (items - items₀)) x y

    abbrev T : List ℕ
    T = back (used - 2 * at₀) t z

    in_table : 8 * (items - items₀) ≤ length x
    in_table = omega (arith, a.table-room, I.kept_table, I.few, I.more)

    in-text : used - 2 * at₀ ≤ length t
    in-text = omega (arith, a.text-room, I.kept-text, I.used_high, I.used_low, I.gap, I.inside)

    there : 2 * at₀ + (used - 2 * at₀) ≡ used
    there = omega (arith, I.used_low)

    abbrev piece : Pieces
    piece = with_part at (slice from at s) m.part no_pieces

    no_gap : run.count ≡ 0 → slice from at s ≡ []
    no_gap e =
        let p = (I.first e).0 in
        let q = (I.first e).1 in
        ap (λ (n : ℕ). slice n at s) q ∙ ap (λ (n : ℕ). slice at₀ n s) p ∙ slice_empty at₀ s

    kept : PiecesAt (numbers X) (letters (2 * at₀) T) (2 * at₀) used' Free 0 (items - items₀) I.done
    kept =
        let e : 0 + 0 ≡ 0 = omega arith in
        let f : items - items₀ + 0 ≡ items - items₀ = omega arith in
        rw (e, f) at (move-pieces Free (numbers x) (numbers X)
        (grown-kept t z (2 * at₀) (used - 2 * at₀) in-text (2 * at₀) used (2 * at₀) used' (omega arith) (omega (arith, there)) (omega arith) m.forward) 0 I.done 0 (items - items₀)
        (agree-kept x y (items - items₀) in_table 0 (items - items₀) (omega arith)) I.held)

    added : PiecesAt (numbers X) (letters (2 * at₀) T) (2 * at₀) used' Free (items - items₀) (n - items₀) piece
    added =
        let e : 0 + (items - items₀) ≡ items - items₀ = omega arith in
        let f : n - items + (items - items₀) ≡ n - items₀ = omega (arith, m.reached.more, I.more) in
        let h : PiecesAt (numbers y) (letters (2 * at₀ + (used - 2 * at₀)) z) used used' Free 0 (n - items) piece =
        rw there m.held in
        rw (e, f) at (move-pieces Free (numbers y) (numbers X)
        (grown-back t z (2 * at₀) (used - 2 * at₀) in-text used used' (2 * at₀) used' (omega (arith, there)) I.used_low (omega arith)) (items - items₀) piece 0 (n - items)
        (agree-back x y (items - items₀) in_table 0 (n - items)) h)

    longer-text : has_substitution (join_pieces I.done piece) ≡ false → unlike simple_kind (join_pieces I.done piece) ≡ none
        → (used' ≡ 2 * at₀ + length (text_joined (join_pieces I.done piece))) × Spells (letters (2 * at₀) T) (2 * at₀) (text_joined (join_pieces I.done piece))
        × (length (text_joined (join_pieces I.done piece)) + at₀ ≤ c.at.0)
    longer-text u v =
        let ts = text_joined I.done in
        let us = text_joined piece in
        let o = I.texts (subs-join I.done piece u).0 (unlike-join simple_kind I.done piece v).0 in
        let f = follow-text (letters used z) at from c.at.0 used used' (slice from at s) m.part m.kind m.kinded (subs-join I.done piece u).1
        (unlike-join simple_kind I.done piece v).1 m.follows in
        let e : length (ts ++ us) ≡ length ts + length us = length-append ts us in
        let a : used ≡ 2 * at₀ + length ts = o.0 in
        let b : used' ≡ used + length us = f.0 in
        let old : Spells (letters (2 * at₀) T) (2 * at₀) ts =
        move-spells (2 * at₀) ts (λ p k l. sym (back_below (used - 2 * at₀) t z (p - 2 * at₀) in-text (omega arith))) o.1 in
        let new : Spells (letters (2 * at₀) T) used us = move-spells used us (λ p k l. above p k) f.1 in
        let new' : Spells (letters (2 * at₀) T) (2 * at₀ + length ts) us = rw (sym a) new in
        rw (text-join I.done piece) (omega arith, spells-join (letters (2 * at₀) T) (2 * at₀) ts us old new', omega (arith, o.2, f.2))
      where
        above : (p : ℕ) → used ≤ p → get_or z (p - used) 0 ≡ get_or T (p - 2 * at₀) 0
        above p k =
            let e : p - 2 * at₀ ≡ used - 2 * at₀ + (p - used) = omega (arith, I.used_low) in
            sym (ap (λ (q : ℕ). get_or T q 0) e ∙ back_above (used - 2 * at₀) t z (p - used) in-text)

    pub value-turn : (d : ℕ) → d ≡ after_inline s c.at.0 → c.at.0 ≤ d → d ≤ length s
        → ValueInv s at₀ left items₀ table₀ text₀ d c.at.0 n used' longer X T
    value-turn d e l r = record {
      done = join_pieces I.done piece;
      rest = rw e next;
      run_of = m.added.is I.done (slice from at s) m.part I.run_of m.kinded no_gap;
      held = pieces-join (numbers X) (letters (2 * at₀) T) (2 * at₀) used' Free 0 (items - items₀) (n - items₀) I.done piece kept added;
      texts = longer-text;
      first = λ q. absurd (omega (arith, m.added.count));
      begun = λ q. started (eqb run.count 0) refl;
      behind = omega (arith, I.behind, I.gap, m.reached.forward);
      gap = l;
      inside = r;
      more = omega (arith, I.more, m.reached.more);
      few = m.reached.few;
      used_low = omega (arith, I.used_low, m.forward);
      used_high = m.before;
      count = omega (arith, I.count, m.added.count, m.reached.more);
      kept_table = back-length (8 * (items - items₀)) x y in_table ly ∙ I.kept_table;
      kept-text = back-length (used - 2 * at₀) t z in-text lz ∙ I.kept-text;
    }
      where
        next : P.Rest (piece_at (value_in s) s (nesting_of left)) s at₀ items₀ c.at.0 (after_inline s c.at.0) n (join_pieces I.done piece)
        next =
            P.rest-turn (piece_at (value_in s) s (nesting_of left)) s I.rest m.starts (piece-forward s (nesting_of left)) m.is
            (omega (arith, m.reached.forward)) (omega arith)

        started : (b : Bool) → eqb run.count 0 ≡ b → (start : Start) × (start_of s at₀ ≡ some start) × (at₀ < c.at.0)
        started true h =
            let p = (I.first (eqb-true run.count 0 h)).0 in
            (m.start, ap (start_of s) (sym p) ∙ m.starts, omega (arith, m.reached.forward))
        started false h =
            let b = I.begun (eqb-false run.count 0 h) in
            (b.0, b.1, omega (arith, b.2, I.gap, m.reached.forward))

  -- ---- the end

  module _ (e : start_of s at ≡ none) where
    abbrev nesting : ℕ
    nesting = nesting_of left

    whole : P.pieces_in (piece_at (value_in s) s nesting) s at₀ items₀ ≡ got I.done at items
    whole = P.rest-stop (piece_at (value_in s) s nesting) s I.rest e

    pub value_none : I.done ≡ no_pieces → value_in s nesting at₀ items₀ ≡ refused (not_allowed s at)
    value_none q =
        let p = (I.first (I.run_of.count ∙ ap piece_count q ∙ none-counted)).0 in
        value-nothing s nesting at₀ items₀ (omega (arith, a.nested)) (omega arith) (ap (start_of s) (sym p) ∙ e) ∙ ap (λ (n : ℕ). refused (not_allowed s n)) (sym p)

    -- what is judged is not without pieces
    some-pieces : {m : Read Node} → judge_value I.done at items ≡ m → (refused spent ≡ m → ⊥) → run.count ≡ 0 → ⊥
    some-pieces q r z = r (sym (ap (λ (ps : Pieces). judge_value ps at items) (counted_none I.done (sym I.run_of.count ∙ z)) ∙ judged-none at items) ∙ q)

    judged : (run.count ≡ 0 → ⊥) → value_in s nesting at₀ items₀ ≡ judge_value I.done at items
    judged n =
        let b = I.begun n in
        value-pieces s nesting at₀ items₀ (omega (arith, a.nested)) (omega arith) b.0 b.1 ∙ ap (λ (m : Read Pieces). read_then m judge_value) whole

    pub value-odd : {p : ℕ} → judge_value I.done at items ≡ refused (placed 11 p) → value_in s nesting at₀ items₀ ≡ refused (placed 11 p)
    value-odd q = judged (some-pieces q (λ r. clash (cc (r)))) ∙ q

    module _ {k : ℕ} {b : Bool} {nd : Node} {o z : ℕ} (c : Comes I.done k b nd) (q : judge_value I.done at items ≡ got nd at items)
        (yes : b ≡ true → (o ≡ 2 * at₀) × (z ≡ used - 2 * at₀)) (no : b ≡ false → (o ≡ 0) × (z ≡ 0)) where
      has-pieces : run.count ≡ 0 → ⊥
      has-pieces = some-pieces q (λ r. clash (cc (r)))

      pub value-is : value_in s nesting at₀ items₀ ≡ got nd at items
      value-is = judged has-pieces ∙ q

      pub value-reached : Reached s (suc at₀) items₀ at items
      value-reached = record {
        forward = omega (arith, (I.begun has-pieces).2, I.gap);
        inside = I.inside;
        more = I.more;
        few = I.few;
      }

      text-is : b ≡ true → TextAt (letters (2 * at₀) t) (2 * at₀) (2 * at) o z (text_joined I.done)
      text-is f =
          let (u, v) = plain-only c f in
          let w = I.texts u v in
          let g = (yes f).0 in
          let j : z ≡ length (text_joined I.done) = omega (arith, (yes f).1, w.0) in
          record {
            from = omega arith;
            upto = omega (arith, w.2, I.gap);
            size = j;
            bytes = rw g w.1;
          }

      pub value-shown : Shown (numbers x) (letters (2 * at₀) t) (2 * at₀) (2 * at) Free 0 k o z 0 0 (items - items₀) nd
      value-shown =
          let h : PiecesAt (numbers x) (letters (2 * at₀) t) (2 * at₀) (2 * at) Free 0 (items - items₀) I.done = wider in
          shown_of (numbers x) (letters (2 * at₀) t) (2 * at₀) (2 * at) I.done k b nd o z 0 (items - items₀) c I.run_of.plain h text-is
        where
          wider : PiecesAt (numbers x) (letters (2 * at₀) t) (2 * at₀) (2 * at) Free 0 (items - items₀) I.done
          wider =
              let u : 0 + 0 ≡ 0 = omega arith in
              let v : items - items₀ + 0 ≡ items - items₀ = omega arith in
              let g : Grown (letters (2 * at₀) t) (letters (2 * at₀) t) (2 * at₀) used (2 * at₀) (2 * at) =
              record { low = omega arith; high = omega (arith, I.used_high, I.gap); text = λ p r l. refl } in
              rw (u, v) at (move-pieces Free (numbers x) (numbers x) g 0 I.done 0 (items - items₀)
              (λ p r l. let w : p + 8 * 0 ≡ p = omega arith in ap (λ (n : ℕ). get_or x n 0) (sym w)) I.held)

      pub value-fits : (k ≤ 8) × (o < 65536) × (z < 65536)
      value-fits = (kind-small c, (go b refl).0, (go b refl).1)
        where
          go : (f : Bool) → b ≡ f → (o < 65536) × (z < 65536)
          go true f =
              let (u, v) = plain-only c f in
              let w = I.texts u v in
              (omega (arith, (yes f).0, (I.begun has-pieces).2, I.gap, I.inside, a.short), omega (arith, (yes f).1, w.0, w.2, I.gap, I.inside, a.short))
          go false f = (omega (arith, (no f).0), omega (arith, (no f).1))
