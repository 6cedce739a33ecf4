-- Several pieces, joined one behind the other: what holds between two of them.
use Rattle.std.specs.Prelude.{◌≡◌, refl, ℕ, ◌+◌, ◌*◌, ◌≤◌, ◌<◌, List, [], length, get_or, Ok, Err}
use Rattle.std.proofs.Common.{sym, ◌∙◌, arith}
use Rattle.std.proofs.Math.Path.{ap}
use Rattle.std.proofs.Math.Option.{Option}
use Rattle.answers.specs.Ask.{Trail, lookup, then}
use Rattle.rules.specs.Bytes.{Text}
use Rattle.rules.specs.Tree.{Pieces, no_pieces, node_piece, substituted, height_of, highest_piece}
use Rattle.rules.specs.Values.{Answer}
use Rattle.rules.specs.Settled.{Given, node_in, value_in}
use Rattle.rules.specs.Unresolved as rules
use Rattle.rules.specs.Unresolved.{Unresolved, blank}
use Rattle.rules.specs.Documents.{Setting}
use Rattle.theory.specs.SettledAnswers.{open_in, join_piece_in, substitution_in, several_in}
use Rattle.theory_order.specs.Skeletons.{rest_of}
use Rattle.text_chars.specs.declared.Refusal.{Refusal}
use Rattle.doc_items.specs.Room.{bytes_room, number_bound}
use Rattle.eval_writer.specs.Clauses.{Room}
use Rattle.eval_results.specs.Extents.Contracts.{far}
use Rattle.eval_concat.specs.Growth.{CountBelow, none_below}
use Rattle.eval_concat.specs.Model.{blank_join}
use Rattle.eval_concat.specs.Standing.{no_text}
use Rattle.eval_concat.specs.declared.Kind.{Kind}
use Rattle.eval_concat.specs.declared.Join.{Join}
use Rattle.eval_results.specs.Values.Steps.{then-then}
use Rattle.eval_groups.specs.Select.Levels.{same-below}
use Rattle.eval_state.specs.State.{State}
use Rattle.eval_value_laws.specs.Clauses.{Left}
use Rattle.eval_value_laws.specs.Frames.{left-all, left-then}
use Rattle.eval_concat.specs.Steps.Contracts.{Stepped, Steady, Good, StepCase, JoinStepIs}
use Rattle.eval_concat.specs.declared.steps.JoinStep.{JoinStep}
use Rattle.eval_pieces.specs.Clauses.{PieceIs, PieceCase}
use Rattle.eval_pieces.specs.declared.Piece.{Piece}
use Rattle.eval_pieces.specs.Cursor.Contracts.{end_c, EndIs, NextIs}
use Rattle.eval_question_laws.specs.Clauses.{Questioned}
use Rattle.eval_unresolved.specs.Pieces.Contracts.{Behind, none, node, reference, Reached, first_in, several_by, JoinNextIs, PiecesJoinedIs}
use Rattle.eval_question_laws.specs.Rules.{pieces-height, reference-own, node-own}
use Rattle.eval_question_laws.specs.Standing.{PiecesLeft, pieces-begin, pieces_end, node-rest, node-inside, node_at, node-given, reference-rest, reference-inside, reference-at, reference-given}

-- ---- the pieces that are left

several-first : (x : Setting) (known : ℕ → Option Answer) (u : Unresolved) (ps : Pieces) (J : rules.Join)
    → several_by x known u ps J ≡ then (first_in x known u ps J) (λ k. several_by x known u (rest_of ps) k)
unfolding several_in
several-first x known u no_pieces J = refl
several-first x known u (node_piece place gap n ps) J =
    sym (then-then (node_in known (value_in known 65) n) (λ v. join_piece_in place gap v J) (λ k. several_by x known u ps k))
several-first x known u (substituted gap y ps) J =
    sym (then-then (substitution_in known x.document.root 65 x.environment (open_in known u.openness) y)
    (λ v. join_piece_in y.place gap v J) (λ k. several_by x known u ps k))

behind-low : {T : List ℕ} {first : ℕ} {all : Pieces} {i : ℕ} {ps : Pieces} → Behind T first all i ps → highest_piece ps ≤ highest_piece all
unfolding height_of
behind-low none = omega arith
behind-low (node h) = let l = behind-low h in omega arith
behind-low (reference h) = let l = behind-low h in omega arith

module _ {x : Setting} {key : ℕ → Text} {items : ℕ} {T B E : List ℕ} {S : Trail Answer} {base item b : ℕ} {u : Unresolved}
    (Q : Questioned x key items T B E S base item b u) where
  abbrev pub end : ℕ
  end = item + get_or T (8 * item + 1) 0

  pub behind-left : {i : ℕ} {ps : Pieces} → Behind T (item + 1) u.pieces i ps → PiecesLeft Q i end ps
  behind-left none = pieces-begin Q
  behind-left (node h) = node-rest Q (behind-left h)
  behind-left (reference h) = reference-rest Q (behind-left h)

  module _ {i : ℕ} where
    pub inside : (ps : Pieces) → PiecesLeft Q i end ps → i < end → (1 ≤ get_or T (8 * i + 1) 0) × (i + get_or T (8 * i + 1) 0 ≤ end)
    inside no_pieces L l = absurd (omega (arith, pieces_end Q L))
    inside (node_piece place gap n ps) L l = node-inside Q L
    inside (substituted gap y ps) L l = reference-inside Q L

    pub behind-next : (ps : Pieces) → i < end → Behind T (item + 1) u.pieces i ps → Behind T (item + 1) u.pieces (i + get_or T (8 * i + 1) 0) (rest_of ps)
    behind-next no_pieces l h = absurd (omega (arith, pieces_end Q (behind-left h)))
    behind-next (node_piece place gap n ps) l h = node h
    behind-next (substituted gap y ps) l h = reference h

    -- at the end none is left
    pub behind-end : (ps : Pieces) → end ≤ i → Behind T (item + 1) u.pieces i ps → ps ≡ no_pieces
    behind-end no_pieces l h = refl
    behind-end (node_piece place gap n ps) l h =
        let f = node-inside Q (behind-left h) in
        absurd (omega (arith, f.0, f.1))
    behind-end (substituted gap y ps) l h =
        let f = reference-inside Q (behind-left h) in
        absurd (omega (arith, f.0, f.1))

  -- the same question, while the bytes of the pair change
  pub again : {B' : List ℕ} → State x key items T B' S → Questioned x key items T B' E S base item b u
  again st = record {
    state = st;
    listed = Q.listed;
    at = Q.at;
    read = Q.read;
    nested = Q.nested;
    variables = Q.variables;
    entered = Q.entered;
    environment = Q.environment;
    within = Q.within;
    distinct = Q.distinct;
    fits = Q.fits;
  }

-- ---- one piece more

module _ {T B E : List ℕ} {base item i : ℕ} {j : Join} {w w₁ w₂ B' : List ℕ} {piece : Piece} {room after : List ℕ} {r : Stepped}
    (h : PieceIs T B E base item i w w₁ piece)
    (k : JoinStepIs T base i j (λ M known g. PieceCase M known E w₁ g piece) w₁ w₂ B B' room after r) where
  by-piece : (x : Setting) (key : ℕ → Text) (items : ℕ) (S : Trail Answer) (b : ℕ) (u : Unresolved) (rest : Pieces) (J : rules.Join)
      → Questioned x key items T B E S base item b u → i < end_c T item → Reached key items T item i u.pieces rest j room J
      → State x key items T B' S × StepCase key (Good T items) after (first_in x (lookup S) u rest J) r
  unfolding height_of
  by-piece x key items S b u no_pieces J Q l R = absurd (omega (arith, pieces_end Q (behind-left Q R.behind)))
  by-piece x key items S b u (node_piece place gap n ps) J Q l R =
      let L = behind-left Q R.behind in
      let low = behind-low R.behind in
      let high = pieces-height Q in
      let own = node-own Q n (omega arith) in
      k.is x key items S place gap J (node_in (lookup S) (value_in (lookup S) 65) n)
      (record { state = Q.state; join = R.join; distinct = R.distinct; at = node_at Q L; own = own; fits = Q.fits.pair })
      (h.literal key items (lookup S) n (node-given Q L))
  by-piece x key items S b u (substituted gap y ps) J Q l R =
      let L = behind-left Q R.behind in
      k.is x key items S y.place gap J
      (substitution_in (lookup S) x.document.root 65 x.environment (open_in (lookup S) u.openness) y)
      (record { state = Q.state; join = R.join; distinct = R.distinct; at = reference-at Q L; own = reference-own Q y; fits = Q.fits.pair })
      (h.reference x key items (lookup S) u y (reference-given Q L))

  pub next-is : JoinNextIs T E base item i j w w₂ B B' room after r
  next-is = record {
    left = left-then (record { below = same-below base w w₁ h.same; len = h.len }) k.left;
    bytes = k.bytes;
    beside = k.beside;
    whole = k.whole;
    grows = k.grows;
    is = by-piece;
  }

-- ---- counters

count-more : (k : Kind) {c d : ℕ} → c ≤ d → CountBelow c k → CountBelow d k
count-more Kind.Blank l h = tt
count-more Kind.Simple l h = tt
count-more (Kind.Array n) l h = omega arith
count-more Kind.Object l h = tt

pub steady-more : {t c u d : ℕ} {j : Join} → t ≤ u → c ≤ d → Steady t c j → Steady u d j
steady-more {j = j} l m h = record {
  below = record { text = omega (arith, h.below.text); count = count-more j.kind m h.below.count };
  tested = h.tested;
}

-- ---- the loop

-- the question in the bytes as they are, and what the pieces so far have come to
pub record Here (x : Setting) (key : ℕ → Text) (items : ℕ) (T B E : List ℕ) (S : Trail Answer) (base item b : ℕ) (u : Unresolved) (i : ℕ) (j : Join)
    (room : List ℕ) : Type 0 where
  pub asked : Questioned x key items T B E S base item b u
  pub rest : Pieces
  pub join : rules.Join
  pub reached : Reached key items T item i u.pieces rest j room join
  pub same : several_by x (lookup S) u u.pieces (blank []) ≡ several_by x (lookup S) u rest join

pub record LoopInv (T E : List ℕ) (base item : ℕ) (B w : List ℕ) (i : ℕ) (j : Join) (B' w' room : List ℕ) : Type 0 where
  pub left : Left base w w'
  pub bytes : length B' ≡ length B
  pub beside : (n d : ℕ) → n < bytes_room → get_or B' n d ≡ get_or B n d
  pub whole : Room room
  pub steady : Steady (number_bound * i) (far * i) j
  pub is : (x : Setting) (key : ℕ → Text) (items : ℕ) (S : Trail Answer) (b : ℕ) (u : Unresolved) → Questioned x key items T B E S base item b u
      → Here x key items T B' E S base item b u i j room

pub loop-starts : {T E B w room : List ℕ} {base item : ℕ} → Room room → LoopInv T E base item B w (item + 1) (blank_join 0) B w room
loop-starts whole = record {
  left = left-all;
  bytes = refl;
  beside = λ n d l. refl;
  whole = whole;
  steady = record { below = none_below; tested = tt };
  is = λ x key items S b u Q. record {
    asked = Q;
    rest = u.pieces;
    join = blank [];
    reached = record { behind = none; join = record { is = (refl, no_text) }; distinct = tt };
    same = refl;
  };
}

module _ {T E : List ℕ} {base item : ℕ} {B w : List ℕ} {i : ℕ} {j : Join} {B₁ w₁ x₁ : List ℕ} (I : LoopInv T E base item B w i j B₁ w₁ x₁) {end : ℕ}
    (e : EndIs T item end) where
  pub loop-ends : end ≤ i → PiecesJoinedIs T E base item w w₁ B B₁ x₁ (Ok (JoinStep.So j))
  unfolding several_in
  loop-ends f = record {
    left = I.left;
    bytes = I.bytes;
    beside = I.beside;
    whole = I.whole;
    is = λ x key items S b u Q.
        let H = I.is x key items S b u Q in
        let A = H.asked in
        let z : H.rest ≡ no_pieces = behind-end A H.rest (omega (arith, e.is, (pieces-begin A).upto, A.state.document.few)) H.reached.behind in
        (A.state, record { join = H.join; is = H.same ∙ ap (λ (ps : Pieces). several_by x (lookup S) u ps H.join) z; stands = H.reached.join });
  }

  module _ (x : Setting) (key : ℕ → Text) (items : ℕ) (S : Trail Answer) (b : ℕ) (u : Unresolved) (Q : Questioned x key items T B E S base item b u) where
    here : Here x key items T B₁ E S base item b u i j x₁
    here = I.is x key items S b u Q

    several : {g : Given rules.Join} → first_in x (lookup S) u here.rest here.join ≡ g
        → several_by x (lookup S) u u.pieces (blank []) ≡ then g (λ K. several_by x (lookup S) u (rest_of here.rest) K)
    several {g} z =
        here.same ∙ several-first x (lookup S) u here.rest here.join
        ∙ ap (λ (h : Given rules.Join). then h (λ K. several_by x (lookup S) u (rest_of here.rest) K)) z

  module _ {w₂ B₂ x₂ : List ℕ} {r : Stepped} (l : i < end) (k : JoinNextIs T E base item i j w₁ w₂ B₁ B₂ x₁ x₂ r) where
    left : Left base w w₂
    left = left-then I.left k.left

    beside : (n d : ℕ) → n < bytes_room → get_or B₂ n d ≡ get_or B n d
    beside n d m = k.beside n d m ∙ I.beside n d m

    step : (x : Setting) (key : ℕ → Text) (items : ℕ) (S : Trail Answer) (b : ℕ) (u : Unresolved) (Q : Questioned x key items T B E S base item b u)
        → let H = here x key items S b u Q in State x key items T B₂ S × StepCase key (Good T items) x₂ (first_in x (lookup S) u H.rest H.join) r
    step x key items S b u Q =
        let H = here x key items S b u Q in
        k.is x key items S b u H.rest H.join H.asked (omega (arith, e.is)) H.reached

    pub loop-needs : {s : JoinStep} {d : ℕ} → r ≡ Ok s → s ≡ JoinStep.Needs d → PiecesJoinedIs T E base item w w₂ B B₂ x₂ (Ok (JoinStep.Needs d))
    loop-needs {s} {d} z v = record {
      left = left;
      bytes = k.bytes ∙ I.bytes;
      beside = beside;
      whole = k.whole;
      is = λ x key items S b u Q.
          let H = here x key items S b u Q in
          let y : State x key items T B₂ S × StepCase key (Good T items) x₂ (first_in x (lookup S) u H.rest H.join) (Ok (JoinStep.Needs d)) = rw (z, v) at (step x key items S b u Q) in
          (y.0, several x key items S b u Q y.1);
    }

    pub loop-refused : {p : Refusal} → r ≡ Err p → PiecesJoinedIs T E base item w w₂ B B₂ x₂ (Err p)
    loop-refused {p} z = record {
      left = left;
      bytes = k.bytes ∙ I.bytes;
      beside = beside;
      whole = k.whole;
      is = λ x key items S b u Q.
          let H = here x key items S b u Q in
          let y : State x key items T B₂ S × StepCase key (Good T items) x₂ (first_in x (lookup S) u H.rest H.join) (Err p) = rw z at (step x key items S b u Q) in
          let c = y.1 in
          (y.0, record { refusal = c.refusal; is = several x key items S b u Q c.is; its-number = c.its-number; its-place = c.its-place });
    }

    pub loop-goes : {next : ℕ} {s : JoinStep} {q : Join} → r ≡ Ok s → s ≡ JoinStep.So q → NextIs T i end next → LoopInv T E base item B w next q B₂ w₂ x₂
    loop-goes {next} {s} {q} z v n = record {
      left = left;
      bytes = k.bytes ∙ I.bytes;
      beside = beside;
      whole = k.whole;
      steady = steady-more (omega (arith, n.more)) (omega (arith, n.more)) (k.grows q (z ∙ ap Ok v) (number_bound * i) (far * i) I.steady.below);
      is = λ x key items S b u Q.
          let H = here x key items S b u Q in
          let A = H.asked in
          let y : State x key items T B₂ S × StepCase key (Good T items) x₂ (first_in x (lookup S) u H.rest H.join) (Ok (JoinStep.So q)) = rw (z, v) at (step x key items S b u Q) in
          let c = y.1 in
          let under : i < item + get_or T (8 * item + 1) 0 = omega (arith, e.is) in
          let f = inside A H.rest (behind-left A H.reached.behind) under in
          let up = (pieces-begin A).upto in
          let m : next ≡ i + get_or T (8 * i + 1) 0 = n.is f.0 (within e.is f.1 up A.state.document.few) in
          record {
            asked = again A y.0;
            rest = rest_of H.rest;
            join = c.join;
            reached = record {
              behind = rw m (behind-next A H.rest under H.reached.behind);
              join = c.stands;
              distinct = c.distinct;
            };
            same = several x key items S b u Q c.is;
          };
    }
      where
        within : {n m : ℕ} → end ≡ end_c T item → m ≤ item + get_or T (8 * item + 1) 0 → item + get_or T (8 * item + 1) 0 ≤ n + 1 → n < 2049 → m ≤ end
        within p u v l = omega arith
