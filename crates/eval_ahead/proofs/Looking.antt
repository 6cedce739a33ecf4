-- A law for each place where a function returns, and for what is lent on.
use mathlib.Core.Path.{◌≡◌, refl, subst, ◌∙◌}
use Prim.Native.Nat.{ℕ, ◌+◌, ◌*◌, ◌-◌, ◌≤◌, ◌<◌}
use mathlib.Core.Bool.{Bool, true}
use mathlib.Core.List.{List}
use Rattle.std.specs.Prelude.{Ok, Err}
use mathlib.Core.Option.{none}
use native.Mathlib.Omega.{arith}
use lib.ListN.{length, get_or}
use Rattle.std.specs.Prelude.{Some, None}
use Rattle.std.specs.declared.option.Option.{Option as Maybe}
use Rattle.answers.specs.Ask.{Trail, lookup, value, missing, refused}
use Rattle.answers.specs.Theory.Sound.{clash}
use Rattle.rules.specs.Bytes.{Text}
use Rattle.rules.specs.Refusals.{placed}
use Rattle.rules.specs.Tree.{Pieces, no_pieces, node_piece, substituted}
use Rattle.rules.specs.Values.{Answer}
use Rattle.rules.specs.Settled.{Given}
use Rattle.rules.specs.Unresolved.{Unresolved}
use Rattle.rules.specs.Documents.{Setting}
use Rattle.theory_order.specs.Skeletons.{rest_of, needs_of, needs_of_all}
use Rattle.theory_order.specs.Looking.{piece_in}
use Rattle.text_chars.specs.declared.Refusal.{Refusal}
use Rattle.doc_items.specs.Room.{capacity}
use Rattle.eval_writer.specs.Clauses.{Room}
use Rattle.eval_results.specs.declared.extents.Extent.{Extent}
use Rattle.eval_groups.specs.Select.Levels.{same-below}
use Rattle.eval_state.specs.Memories.{answers_of}
use Rattle.eval_value_laws.specs.Clauses.{Left}
use Rattle.eval_value_laws.specs.Frames.{left-all, left-then}
use Rattle.eval_pieces.specs.Clauses.{Lent, PieceCase, PieceIs}
use Rattle.eval_pieces.specs.declared.Piece.{Piece}
use Rattle.eval_pieces.specs.Cursor.Contracts.{end_c, EndIs, NextIs}
use Rattle.eval_unresolved.specs.Single.Contracts.{PieceAsked, PieceValue, PieceValueIs, ValueCase}
use Rattle.eval_results.specs.declared.values.Worked.{Worked}
use Rattle.eval_question_laws.specs.Clauses.{Asked, Questioned}
use Rattle.eval_question_laws.specs.Standing.{pieces-begin, pieces_end, node-given, reference-given}
use Rattle.eval_unresolved.specs.Pieces.Contracts.{Behind}
use Rattle.eval_unresolved.specs.Pieces.Several.{behind-left, inside, behind-next, behind-end}
use Rattle.eval_ahead.specs.Clauses.{Starts, FirstIs, Found, FinishedAsked, FinishedIs, MissedCase, LackIs, MissedAsked, MissedIs, Passes, here, more, AheadIs}
use Rattle.eval_ahead.proofs.Finished.{finished-asked}

-- ---- where the looking begins

module _ {T : List ℕ} {item end : ℕ} (e : EndIs T item end) where
  pub first-inside : end ≤ capacity
  first-inside = omega (arith, e.is)

  module _ {x : Setting} {key : ℕ → Text} {items : ℕ} {B E : List ℕ} {S : Trail Answer} {base b : ℕ} {u : Unresolved}
      (Q : Questioned x key items T B E S base item b u) where
    -- the end is the document's
    its-end : end ≡ item + get_or T (8 * item + 1) 0
    its-end = omega (arith, e.is, (pieces-begin Q).upto, Q.state.document.few)

    -- the piece behind one
    behind-rest : {i next : ℕ} {ps : Pieces} → i < end → NextIs T i end next → Behind T (item + 1) u.pieces i ps
        → Behind T (item + 1) u.pieces next (rest_of ps)
    behind-rest {i} {next} {ps} l n h =
        let under : i < item + get_or T (8 * item + 1) 0 = omega (arith, its-end) in
        let g = inside Q ps (behind-left Q h) under in
        let m : next ≡ i + get_or T (8 * i + 1) 0 = n.is g.0 (omega (arith, its-end, g.1)) in
        rw m (behind-next Q ps under h)

    none_left : {i : ℕ} {ps : Pieces} → end ≤ i → Behind T (item + 1) u.pieces i ps → ps ≡ no_pieces
    none_left {i} {ps} l h = behind-end Q ps (omega (arith, its-end)) h

    some_left : {i : ℕ} {ps : Pieces} → i < end → Behind T (item + 1) u.pieces i ps → ps ≡ no_pieces → ⊥
    some_left l h z = let m = pieces_end Q (behind-left Q (rw z at h)) in omega (arith, its-end)

    -- with no third piece nothing is looked for
    few : {i : ℕ} {rest : Pieces} → Behind T (item + 1) u.pieces i rest → rest ≡ no_pieces → rest_of (rest_of u.pieces) ≡ no_pieces → Starts x u T item i
    unfolding needs_of needs_of_all
    few {i} {rest} h z w = record { rest = rest; behind = h; needs = rw (z, w) }

    many : (third : Pieces) → rest_of (rest_of u.pieces) ≡ third → (third ≡ no_pieces → ⊥) → Starts x u T item (item + 1)
    unfolding needs_of needs_of_all
    many no_pieces z f = absurd (f refl)
    many (node_piece place gap n ps) z f = record { rest = u.pieces; behind = Behind.none; needs = rw z }
    many (substituted gap y ps) z f = record { rest = u.pieces; behind = Behind.none; needs = rw z }

  pub first-none : end ≤ item + 1 → FirstIs T item (item + 1)
  first-none l = record {
    is = λ x key items B E S base b u Q.
        let z = none_left Q l Behind.none in
        few Q Behind.none z (rw z);
  }

  module _ {second : ℕ} (l : item + 1 < end) (n : NextIs T (item + 1) end second) where
    pub first_one : end ≤ second → FirstIs T item second
    first_one m = record {
      is = λ x key items B E S base b u Q.
          let h = behind-rest Q l n Behind.none in
          let z = none_left Q m h in
          few Q h z (rw z);
    }

    module _ {third : ℕ} (k : second < end) (o : NextIs T second end third) where
      pub first_two : end ≤ third → FirstIs T item third
      first_two m = record {
        is = λ x key items B E S base b u Q.
            let h = behind-rest Q k o (behind-rest Q l n Behind.none) in
            let z = none_left Q m h in
            few Q h z z;
      }

      pub first-many : third < end → FirstIs T item (item + 1)
      first-many m = record {
        is = λ x key items B E S base b u Q.
            let h = behind-rest Q k o (behind-rest Q l n Behind.none) in
            many Q (rest_of (rest_of u.pieces)) refl (some_left Q m h);
      }

pub ruleset first-laws = (first-inside, first-none, first_one, first_two, first-many)

-- ---- one piece

module _ {T B E : List ℕ} {base : ℕ} {piece : Piece} {w w' b a : List ℕ} {v : PieceValue} (A : PieceAsked B E w base b piece)
    (k : PieceValueIs T B E base piece w w' v b a) (l : length a ≡ length b) where
  lack-by : (r : Maybe ℕ) → ((key : ℕ → Text) (items : ℕ) (g : Given Answer) → ValueCase key items T g b a v → MissedCase g r) → LackIs T B E base piece w w' a r
  lack-by r f = record { left = k.left; whole = l ∙ A.value.whole; is = λ key items known g c. f key items g (k.is key items known g c) }

  pub lack-needs : {s : Worked} {d : ℕ} → v ≡ Ok s → s ≡ Worked.Needs d → LackIs T B E base piece w w' a (Some d)
  lack-needs {s} {d} z q = lack-by (Some d) (λ key items g c. rw (z, q) at c)

  pub lack-done : {s : Worked} {e : Extent} → v ≡ Ok s → s ≡ Worked.Done e → LackIs T B E base piece w w' a None
  lack-done {s} {e} z q = lack-by None (λ key items g c d m. let y : ValueCase key items T g b a (Ok (Worked.Done e)) = rw (z, q) at c in clash (cc y.is))

  pub lack-undefined : {s : Worked} → v ≡ Ok s → s ≡ Worked.Undefined → LackIs T B E base piece w w' a None
  lack-undefined z q = lack-by None (λ key items g c d m. let y : g ≡ value none = rw (z, q) at c in clash (cc))

  pub lack-required : {x : Refusal} → v ≡ Err x → LackIs T B E base piece w w' a None
  lack-required {x} z = lack-by None (λ key items g c d m. let (y, n) : (g ≡ refused (placed 9 x.place.0)) × (x.number ≡ 9) = rw z at c in clash (cc))

pub ruleset lack-laws = (lack-needs, lack-done, lack-undefined, lack-required)

module _ {B E w b : List ℕ} {base item i : ℕ} (A : MissedAsked B E w b base item i) where
  pub missed-lent : Lent B E w base item i
  missed-lent =
      let a = A.asked in
      record {
        bytes = a.bytes;
        environment = a.environment;
        work = a.work;
        used = a.used;
        low = a.low;
        high = a.high;
        piece = A.piece;
      }

  module _ {T : List ℕ} {w₁ : List ℕ} {piece : Piece} (h : PieceIs T B E base item i w w₁ piece) where
    pub missed-asked : PieceAsked B E w₁ base b piece
    missed-asked =
        let a = A.asked in
        record {
          value = record { whole = a.whole; bytes = a.bytes; most = a.most; work = omega (arith, a.work, h.len); used = a.used };
          environment = a.environment;
          inside = h.inside;
        }

    pub missed-near : FinishedAsked piece
    missed-near = finished-asked base (length E) piece h.inside

    -- what the rules give for it
    given : (x : Setting) (key : ℕ → Text) (items : ℕ) (S : Trail Answer) (q : ℕ) (u : Unresolved) (rest : Pieces)
        → Questioned x key items T B E S base item q u → i < end_c T item → Behind T (item + 1) u.pieces i rest
        → PieceCase (answers_of key items T B) (lookup S) E w₁ (piece_in x (lookup S) u rest) piece
    given x key items S q u no_pieces Q m H = absurd (omega (arith, pieces_end Q (behind-left Q H)))
    given x key items S q u (node_piece place gap n ps) Q m H = h.literal key items (lookup S) n (node-given Q (behind-left Q H))
    given x key items S q u (substituted gap y ps) Q m H = h.reference x key items (lookup S) u y (reference-given Q (behind-left Q H))

    before : Left base w w₁
    before = record { below = same-below base w w₁ h.same; len = h.len }

    pub missed-finished : {r : Bool} → FinishedIs w₁ piece r → r ≡ true → MissedIs T B E base item i w w₁ b None
    missed-finished f z = record {
      left = before;
      whole = A.asked.whole;
      is = λ x key items S q u rest Q m H. f.is z T B E key items (lookup S) (piece_in x (lookup S) u rest) (given x key items S q u rest Q m H);
    }

    pub missed-lack : {w₂ a : List ℕ} {r : Maybe ℕ} → LackIs T B E base piece w₁ w₂ a r → MissedIs T B E base item i w w₂ a r
    missed-lack k = record {
      left = left-then before k.left;
      whole = k.whole;
      is = λ x key items S q u rest Q m H. k.is key items (lookup S) (piece_in x (lookup S) u rest) (given x key items S q u rest Q m H);
    }

pub ruleset missed-laws = (missed-lent, missed-asked, missed-near, missed-finished, missed-lack)

-- ---- the loop

pub record Here (x : Setting) (S : Trail Answer) (u : Unresolved) (T : List ℕ) (item : ℕ) (first : Pieces) (i : ℕ) : Type 0 where
  pub rest : Pieces
  pub behind : Behind T (item + 1) u.pieces i rest
  pub passes : Passes x (lookup S) u first rest

pub record LoopInv (T B E : List ℕ) (base item from : ℕ) (w : List ℕ) (i : ℕ) (w' room : List ℕ) : Type 0 where
  pub left : Left base w w'
  pub whole : Room room
  pub is : (x : Setting) (key : ℕ → Text) (items : ℕ) (S : Trail Answer) (b : ℕ) (u : Unresolved) (first : Pieces)
      → Questioned x key items T B E S base item b u → Behind T (item + 1) u.pieces from first → Here x S u T item first i

module _ {B E w b : List ℕ} {base item : ℕ} (A : Asked B E w b base item) where
  pub loop-first : {T : List ℕ} {from : ℕ} → LoopInv T B E base item from w from w b
  loop-first = record { left = left-all; whole = A.whole; is = λ x key items S q u first Q H. record { rest = first; behind = H; passes = here } }

  pub loop-asked : {T w₁ b₁ : List ℕ} {from i end : ℕ} → LoopInv T B E base item from w i w₁ b₁ → EndIs T item end → i < end
      → MissedAsked B E w₁ b₁ base item i
  loop-asked I e l = record {
    asked = record {
      whole = I.whole;
      bytes = A.bytes;
      most = A.most;
      environment = A.environment;
      work = omega (arith, A.work, I.left.len);
      used = A.used;
      low = A.low;
      high = A.high;
    };
    piece = omega (arith, e.is);
  }

pub end-upto : {T : List ℕ} {item end : ℕ} → EndIs T item end → end ≤ capacity
end-upto e = omega (arith, e.is)

pub loop-lowers : {T : List ℕ} {i end next : ℕ} → NextIs T i end next → i < end → end - next < end - i
loop-lowers n l = omega (arith, n.more, n.upto)

module _ {T B E : List ℕ} {base item from : ℕ} {w : List ℕ} {i : ℕ} {w₁ b₁ : List ℕ} (I : LoopInv T B E base item from w i w₁ b₁) {end : ℕ} (e : EndIs T item end) where
  pub loop-ends : end ≤ i → AheadIs T B E base item from w w₁ b₁ None
  loop-ends f = record {
    left = I.left;
    whole = I.whole;
    within = tt;
    is = λ x key items S q u first Q H.
        let h = I.is x key items S q u first Q H in
        let z : h.rest ≡ no_pieces = behind-end Q h.rest (omega (arith, e.is, (pieces-begin Q).upto, Q.state.document.few)) h.behind in
        subst (λ (ps : Pieces). Passes x (lookup S) u first ps) z h.passes;
  }

  module _ {w₂ b₂ : List ℕ} {r : Maybe ℕ} (l : i < end) (k : MissedIs T B E base item i w₁ w₂ b₂ r) where
    step : (x : Setting) (key : ℕ → Text) (items : ℕ) (S : Trail Answer) (q : ℕ) (u : Unresolved) (first : Pieces)
        (Q : Questioned x key items T B E S base item q u) (H : Behind T (item + 1) u.pieces from first)
        → MissedCase (piece_in x (lookup S) u (I.is x key items S q u first Q H).rest) r
    step x key items S q u first Q H =
        let h = I.is x key items S q u first Q H in
        k.is x key items S q u h.rest Q (omega (arith, e.is)) h.behind

    pub loop-needs : {d : ℕ} → r ≡ Some d → AheadIs T B E base item from w w₂ b₂ (Some (record { question = d; piece = i }))
    loop-needs {d} z = record {
      left = left-then I.left k.left;
      whole = k.whole;
      within = omega (arith, e.is);
      is = λ x key items S q u first Q H.
          let h = I.is x key items S q u first Q H in
          let m : piece_in x (lookup S) u h.rest ≡ missing d = rw z at (step x key items S q u first Q H) in
          record { rest = h.rest; behind = h.behind; passes = h.passes; misses = m };
    }

    pub loop-goes : {next : ℕ} → r ≡ None → NextIs T i end next → LoopInv T B E base item from w next w₂ b₂
    loop-goes {next} z n = record {
      left = left-then I.left k.left;
      whole = k.whole;
      is = λ x key items S q u first Q H.
          let h = I.is x key items S q u first Q H in
          let f : Found (piece_in x (lookup S) u h.rest) = rw z at (step x key items S q u first Q H) in
          let under : i < item + get_or T (8 * item + 1) 0 = omega (arith, e.is) in
          let g = inside Q h.rest (behind-left Q h.behind) under in
          let m : next ≡ i + get_or T (8 * i + 1) 0 = n.is g.0 (within e.is g.1 (pieces-begin Q).upto Q.state.document.few) in
          record { rest = rest_of h.rest; behind = rw m (behind-next Q h.rest under h.behind); passes = more h.passes f };
    }
      where
        within : {n m : ℕ} → end ≡ end_c T item → m ≤ item + get_or T (8 * item + 1) 0 → item + get_or T (8 * item + 1) 0 ≤ n + 1 → n < 2049 → m ≤ end
        within p u v l = omega arith

pub ruleset loop-laws = (loop-first, loop-asked, end-upto, loop-lowers, loop-ends, loop-needs, loop-goes)
