-- The rules of one unresolved value, with the answers known, refuse for the reasons that specs/Pieces.antt names, and for no others.
use Rattle.std.proofs.Math.Path.{◌≡◌, refl, ap, subst}
use Rattle.std.proofs.Common.{sym, ◌∙◌}
use Rattle.std.specs.Prelude.{ℕ, Bool, [], ◌⊎◌, ◌↔◌}
use Rattle.std.proofs.Math.Bool.{true, false}
use Rattle.std.proofs.Math.Option.{Option, none, some}
use Rattle.std.proofs.Math.Logic.{inl, inr}
use Rattle.answers.specs.Ask.{done, refused, bind, Out, value, missing, run, then}
use Rattle.answers.specs.Theory.Sound.{clash}
use Rattle.answers.specs.Theory.Bind.{run_bind}
use Rattle.rules.specs.Bytes.{Text}
use Rattle.rules.specs.Refusals.{Refusal, placed, nowhere, spent}
use Rattle.rules.specs.Environment.{Environment}
use Rattle.rules.specs.Tree.{Substitution, Node, Pieces, no_pieces, node_piece, substituted, Root, height_of}
use Rattle.rules.specs.Reading.{Kind, simple_kind, array_kind, object_kind}
use Rattle.rules.specs.Values.{Value, scalar, array_of, object_of, Answer, within_size}
use Rattle.rules.specs.Layers.{Work, Layers, node_value, value_of}
use Rattle.rules.specs.Unresolved.{Openness, layers_for, dotted, or_environment, Join, blank, text, joined_array, joined_object}
use Rattle.rules.specs.Unresolved.{join_value, join_nothing, join_answer, sized, join_piece, depth_of}
use Rattle.rules.specs.Unresolved.{evaluate, substitution_value, several, answer_of}
use Rattle.theory.specs.Ends.{WithinSize}
use Rattle.theory.specs.RuleRefusals.{Only, only-refused, node-only, value-only}
use Rattle.theory_refusals.specs.Pieces.{kind_of_value, kind_of_join, Unlike, Joins, alone, NodeIs, SubstitutionIs, Left, first, past-node, past-substitution}
use Rattle.theory_refusals.specs.Pieces.{Next, node, substitution, UndefinedAt, piece, join, Refusing, undefined, mixed, large}

-- ---- joins

data JoinCase (place : ℕ) (gap : Text) (v : Value) (j : Join) : Type 0 where
  joins : (k : Join) → join_value place gap v j ≡ done k → (Unlike v j → ⊥) → JoinCase place gap v j
  unlike : join_value place gap v j ≡ refused (placed 11 place) → Unlike v j → JoinCase place gap v j

apart : {v : Value} {j : Join} (k : Kind) → kind_of_join j ≡ some k → (kind_of_value v ≡ k → ⊥) → Unlike v j
apart k e d = record { first_kind = k; first-is = e; differs = d }

no-unlike : {v : Value} {j : Join} → kind_of_join j ≡ some (kind_of_value v) → Unlike v j → ⊥
no-unlike {v} e u = let q : some (kind_of_value v) ≡ some u.first_kind = sym e ∙ u.first-is in u.differs (cc)

join-case : (place : ℕ) (gap : Text) (v : Value) (j : Join) → JoinCase place gap v j
unfolding join_value
join-case place gap (scalar x) (blank t) = joins _ refl (λ u. clash (cc u.first-is))
join-case place gap (scalar x) (text t) = joins _ refl (no-unlike refl)
join-case place gap (scalar x) (joined_array vs) = unlike refl (apart array_kind refl (λ e. clash (cc (e))))
join-case place gap (scalar x) (joined_object ms) = unlike refl (apart object_kind refl (λ e. clash (cc (e))))
join-case place gap (array_of ws) (blank t) = joins _ refl (λ u. clash (cc u.first-is))
join-case place gap (array_of ws) (text t) = unlike refl (apart simple_kind refl (λ e. clash (cc (e))))
join-case place gap (array_of ws) (joined_array vs) = joins _ refl (no-unlike refl)
join-case place gap (array_of ws) (joined_object ms) = unlike refl (apart object_kind refl (λ e. clash (cc (e))))
join-case place gap (object_of ns) (blank t) = joins _ refl (λ u. clash (cc u.first-is))
join-case place gap (object_of ns) (text t) = unlike refl (apart simple_kind refl (λ e. clash (cc (e))))
join-case place gap (object_of ns) (joined_array vs) = unlike refl (apart array_kind refl (λ e. clash (cc (e))))
join-case place gap (object_of ns) (joined_object ms) = joins _ refl (no-unlike refl)

unlike-refused : (place : ℕ) (gap : Text) (v : Value) (j : Join) → Unlike v j → join_value place gap v j ≡ refused (placed 11 place)
unlike-refused place gap v j u = elim (join-case place gap v j) [ joins k e alike ↦ absurd (alike u) | unlike e u' ↦ e ]

sized-within : {A : Type 0} (o : Answer) (a : A) → WithinSize o → sized o a ≡ done a
unfolding sized
sized-within none a w = refl
sized-within (some v) a w = rw (sized, w)

sized-over : {A : Type 0} (v : Value) (a : A) → within_size v ≡ false → sized (some v) a ≡ refused (nowhere 13)
unfolding sized
sized-over v a w = rw (sized, w)

-- ---- one piece's answer: its size, its kind, and the size of the join so far

module _ (known : ℕ → Option Answer) (place : ℕ) (gap : Text) (j : Join) where
  piece-over : (v : Value) → within_size v ≡ false → run known (join_piece place gap (some v) j) ≡ refused (nowhere 13)
  unfolding join_piece
  piece-over v w = rw (join_piece, sized-over v v w)

  piece-unlike : (v : Value) → within_size v ≡ true → Unlike v j → run known (join_piece place gap (some v) j) ≡ refused (placed 11 place)
  unfolding join_piece
  piece-unlike v w u = rw (join_piece, sized-within (some v) v w, unlike-refused place gap v j u)

  -- the join so far has its size tested
  join-tested : (a : Answer) → WithinSize a → (k : Join) → Joins place gap a j k
      → run known (join_piece place gap a j) ≡ run known (sized (join_answer k) k)
  unfolding join_piece
  join-tested none s k e = ap (λ i. run known (sized (join_answer i) i)) e
  join-tested (some v) s k e = rw (join_piece, sized-within (some v) v s, e)

  join-over : (a : Answer) → WithinSize a → (k : Join) → Joins place gap a j k → (w : Value) → join_answer k ≡ some w → within_size w ≡ false
      → run known (join_piece place gap a j) ≡ refused (nowhere 13)
  join-over a s k e w q o = join-tested a s k e ∙ ap (run known) (ap (λ i. sized i k) q ∙ sized-over w k o)

  data PieceCase (a : Answer) : Type 0 where
    fine : (k : Join) → run known (join_piece place gap a j) ≡ value k → PieceCase a
    over : (v : Value) → a ≡ some v → within_size v ≡ false → PieceCase a
    other-kind : (v : Value) → a ≡ some v → within_size v ≡ true → Unlike v j → PieceCase a
    over-join : WithinSize a → (k : Join) → Joins place gap a j k → (w : Value) → join_answer k ≡ some w → within_size w ≡ false → PieceCase a

  join-size : (a : Answer) → WithinSize a → (k : Join) → Joins place gap a j k → PieceCase a
  join-size a s k e = go (join_answer k) refl
    where
      tested : (w : Value) (t : Bool) → join_answer k ≡ some w → within_size w ≡ t → PieceCase a
      tested w true q o = fine k (join-tested a s k e ∙ ap (run known) (ap (λ i. sized i k) q ∙ sized-within (some w) k o))
      tested w false q o = over-join s k e w q o

      go : (o : Answer) → join_answer k ≡ o → PieceCase a
      go none q = fine k (join-tested a s k e ∙ ap (run known) (ap (λ i. sized i k) q ∙ sized-within none k tt))
      go (some w) q = tested w (within_size w) q refl

  piece-case : (a : Answer) → PieceCase a
  piece-case none = join-size none tt (join_nothing gap j) refl
  piece-case (some v) = go (within_size v) refl (join-case place gap v j)
    where
      go : (t : Bool) → within_size v ≡ t → JoinCase place gap v j → PieceCase (some v)
      go false w c = over v refl w
      go true w (joins k e alike) = join-size (some v) w k e
      go true w (unlike e u) = other-kind v refl w u

-- ---- the pieces of one unresolved value, left to right

-- where a computation refuses, its first part does, or the rest behind the first part's value
bind-refused : {A B : Type 0} (known : ℕ → Option Answer) (m : Work A) (k : A → Work B) {y : Refusal} → run known (bind m k) ≡ Out.refused y
    → (run known m ≡ Out.refused y) ⊎ ((a : A) × (run known m ≡ value a) × (run known (k a) ≡ Out.refused y))
bind-refused {A} known m k {y} e = go (run known m) refl (rw (run_bind known m k) at e)
  where
    go : (o : Out Refusal A) → run known m ≡ o → then o (λ a. run known (k a)) ≡ Out.refused y
        → (run known m ≡ Out.refused y) ⊎ ((a : A) × (run known m ≡ value a) × (run known (k a) ≡ Out.refused y))
    go (value a) h z = inr (a, h, z)
    go (Out.refused x) h z = let i : x ≡ y = cc in inl (rw i at h)
    go (missing q) h z = clash (cc)

module _ (root : Root) (env : Environment) (openness : Openness) (known : ℕ → Option Answer) where
  module _ (all : Pieces) where
    -- ---- nothing else refuses

    path-only : (ls : Layers) → Only (λ z. z ≡ spent) (evaluate root env ls)
    unfolding height_of value_of
    path-only = value-only (λ z. z ≡ spent) refl (depth_of root env)

    node-quiet : (n : Node) {y : Refusal} → run known (node_value (evaluate root env) n) ≡ Out.refused y → y ≡ spent
    node-quiet n e =
        only-refused (λ z. z ≡ spent) known
        (node-only (λ z. z ≡ spent) refl (evaluate root env) path-only n) e

    path-quiet : (ls : Layers) {y : Refusal} → run known (evaluate root env ls) ≡ Out.refused y → y ≡ spent
    path-quiet ls e = only-refused (λ z. z ≡ spent) known (path-only ls) e

    module _ {y : Refusal} (fueled : y ≡ spent → ⊥) where
      -- a substitution refuses where it is required and undefined
      substitution-refuses : {gap : Text} (s : Substitution) {ps : Pieces} {j : Join} → Left root env openness known all (substituted gap s ps) j
          → run known (substitution_value root env openness s) ≡ Out.refused y → Refusing root env openness known all y
      unfolding substitution_value or_environment
      substitution-refuses {gap} s {ps} {j} l e =
          elim (bind-refused known (evaluate root env (layers_for root openness s.path)) (λ a. or_environment env s a) e) [
            | inl z ↦ absurd (fueled (path-quiet (layers_for root openness s.path) z))
            | inr h ↦ go h.0 h.1 h.2
          ]
        where
          asked : (o : Option Text) → env (dotted s.path) ≡ o → (t : Bool) → s.optional ≡ t
              → run known (evaluate root env (layers_for root openness s.path)) ≡ value none
              → run known (or_environment env s none) ≡ Out.refused y → Refusing root env openness known all y
          asked (some x) q t b h k = clash (cc (rw (or_environment, q) at k))
          asked none q true b h k = clash (cc (rw (or_environment, q, b) at k))
          asked none q false b h k =
              let given : ◌≡◌ {A = Out Refusal Answer} (Out.refused (placed 9 s.place)) (Out.refused y)
              = rw (or_environment, q, b) at k in
              undefined s.place (record {
                gap = gap;
                substitution = s;
                rest = ps;
                so_far = j;
                next = l;
                required = b;
                undefined = h;
                no-variable = q;
                its-dollar = refl;
              }) (cc)

          go : (a : Answer) → run known (evaluate root env (layers_for root openness s.path)) ≡ value a
              → run known (or_environment env s a) ≡ Out.refused y → Refusing root env openness known all y
          go (some v) h k = clash (cc)
          go none h k = asked (env (dotted s.path)) refl s.optional refl h k

      -- what a piece's answer makes of the join, where there are several
      piece-refuses : (several-pieces : alone all ≡ false) (place : ℕ) (gap : Text) (a : Answer) (j : Join) → Next root env openness known all place gap a j
          → (go : Join → Work Answer)
          → ((k : Join) → run known (join_piece place gap a j) ≡ value k → run known (go k) ≡ Out.refused y → Refusing root env openness known all y)
          → run known (bind (join_piece place gap a j) go) ≡ Out.refused y → Refusing root env openness known all y
      piece-refuses many place gap a j next go rest e =
          by-case (piece-case known place gap j a) (bind-refused known (join_piece place gap a j) go e)
        where
          same : {z : Refusal} → run known (join_piece place gap a j) ≡ Out.refused z
              → (run known (join_piece place gap a j) ≡ Out.refused y) ⊎ ((k : Join) × (run known (join_piece place gap a j) ≡ value k)
              × (run known (go k) ≡ Out.refused y))
              → y ≡ z
          same f (inl g) = cc
          same f (inr g) = clash (cc g.1)

          by-case : PieceCase known place gap j a
              → (run known (join_piece place gap a j) ≡ Out.refused y) ⊎ ((k : Join) × (run known (join_piece place gap a j) ≡ value k)
              × (run known (go k) ≡ Out.refused y))
              → Refusing root env openness known all y
          by-case (fine k f) (inl g) = clash (cc)
          by-case (fine k f) (inr g) = rest g.0 g.1 g.2
          by-case (over v q w) h =
              large (piece (rw q at next) w) (same (rw q (piece-over known place gap j v w)) h)
          by-case (other-kind v q w u) h =
              mixed place (record { gap = gap; piece = v; so_far = j; next = rw q at next; within = w; unlike-first = u })
              (same (rw q (piece-unlike known place gap j v w u)) h)
          by-case (over-join s k f w q o) h = large (join many next s k f w q o) (same (join-over known place gap j a s k f w q o) h)

      several-refuses : alone all ≡ false → (ps : Pieces) (j : Join) → Left root env openness known all ps j
          → run known (several root env openness ps j) ≡ Out.refused y → Refusing root env openness known all y
      unfolding several
      several-refuses many no_pieces j l e = clash (cc)
      several-refuses many (node_piece place gap n ps) j l e =
          elim (bind-refused known (node_value (evaluate root env) n) _ e) [
            | inl z ↦ absurd (fueled (node-quiet n z))
            | inr h ↦ piece-refuses many place gap h.0 j (node l h.1) (λ k. several root env openness ps k)
                (λ k f. several-refuses many ps k (past-node l h.1 f)) h.2
          ]
      several-refuses many (substituted gap s ps) j l e =
          elim (bind-refused known (substitution_value root env openness s) _ e) [
            | inl z ↦ substitution-refuses s l z
            | inr h ↦ piece-refuses many s.place gap h.0 j (substitution refl l h.1) (λ k. several root env openness ps k)
                (λ k f. several-refuses many ps k (past-substitution l h.1 f)) h.2
          ]

      sized-refuses : (a : Answer) → run known (sized a a) ≡ Out.refused y
          → (v : Value) × (a ≡ some v) × (within_size v ≡ false) × (y ≡ nowhere 13)
      sized-refuses none e = clash (cc (sym (ap (run known) (sized-within {A = Answer} none none tt)) ∙ e))
      sized-refuses (some v) e = go (within_size v) refl
        where
          go : (t : Bool) → within_size v ≡ t → (w : Value) × (some v ≡ some w) × (within_size w ≡ false) × (y ≡ nowhere 13)
          go true w = clash (cc (sym (ap (run known) (sized-within {A = Answer} (some v) (some v) w)) ∙ e))
          go false w =
              let given : ◌≡◌ {A = Out Refusal Answer} (Out.refused (nowhere 13)) (Out.refused y)
              = sym (ap (run known) (sized-over {A = Answer} v (some v) w)) ∙ e in
              (v, refl, w, cc)

      answer-refuses : (ps : Pieces) → all ≡ ps → run known (answer_of root env openness ps) ≡ Out.refused y → Refusing root env openness known all y
      unfolding answer_of
      answer-refuses no_pieces q e = clash (cc)
      answer-refuses (node_piece place gap n ps) q e =
          several-refuses (ap alone q) (node_piece place gap n ps) (blank []) (subst (λ i. Left root env openness known all i (blank [])) q first) e
      answer-refuses (substituted gap s (node_piece place g n ps)) q e =
          several-refuses (ap alone q) (substituted gap s (node_piece place g n ps)) (blank []) (subst (λ i. Left root env openness known all i (blank [])) q first) e
      answer-refuses (substituted gap s (substituted g t ps)) q e =
          several-refuses (ap alone q) (substituted gap s (substituted g t ps)) (blank []) (subst (λ i. Left root env openness known all i (blank [])) q first) e
      answer-refuses (substituted gap s no_pieces) q e =
          let left : Left root env openness known all (substituted gap s no_pieces) (blank []) = subst (λ i. Left root env openness known all i (blank [])) q first in
          elim (bind-refused known (substitution_value root env openness s) (λ a. sized a a) e) [
            | inl z ↦ substitution-refuses s left z
            | inr h ↦
                let (v, is, w, o) = sized-refuses h.0 h.2 in
                large (piece (substitution refl left (h.1 ∙ ap (λ a. value a) is)) w) o
          ]

    -- ---- and these do

    node-next : (place : ℕ) (gap : Text) (n : Node) (ps : Pieces) (j : Join) (a : Answer) → NodeIs root env openness known n a
        → run known (several root env openness (node_piece place gap n ps) j)
        ≡ then (run known (join_piece place gap a j)) (λ k. run known (several root env openness ps k))
    unfolding several
    node-next place gap n ps j a h =
        let rest : Answer → Work Answer = λ i. bind (join_piece place gap i j) (λ k. several root env openness ps k) in
        run_bind known (node_value (evaluate root env) n) rest ∙ ap (λ o. then o (λ i. run known (rest i))) h
        ∙ run_bind known (join_piece place gap a j) (λ k. several root env openness ps k)

    substitution-next : (gap : Text) (s : Substitution) (ps : Pieces) (j : Join) (a : Answer) → SubstitutionIs root env openness known s a
        → run known (several root env openness (substituted gap s ps) j)
        ≡ then (run known (join_piece s.place gap a j)) (λ k. run known (several root env openness ps k))
    unfolding several
    substitution-next gap s ps j a h =
        let rest : Answer → Work Answer = λ i. bind (join_piece s.place gap i j) (λ k. several root env openness ps k) in
        run_bind known (substitution_value root env openness s) rest ∙ ap (λ o. then o (λ i. run known (rest i))) h
        ∙ run_bind known (join_piece s.place gap a j) (λ k. several root env openness ps k)

    -- the pieces before the next one change nothing of what the whole comes to
    left-run : {ps : Pieces} {j : Join} → Left root env openness known all ps j
        → run known (several root env openness all (blank [])) ≡ run known (several root env openness ps j)
    left-run first = refl
    left-run (past-node {place} {gap} {n} {ps} {j} {k} {a} l h e) =
        left-run l ∙ node-next place gap n ps j a h ∙ ap (λ o. then o (λ i. run known (several root env openness ps i))) e
    left-run (past-substitution {gap} {s} {ps} {j} {k} {a} l h e) =
        left-run l ∙ substitution-next gap s ps j a h ∙ ap (λ o. then o (λ i. run known (several root env openness ps i))) e

    next-run : {place : ℕ} {gap : Text} {a : Answer} {j : Join} → Next root env openness known all place gap a j → {z : Refusal}
        → run known (join_piece place gap a j) ≡ Out.refused z → run known (several root env openness all (blank [])) ≡ Out.refused z
    next-run {place} {gap} {a} {j} (node {n} {ps} l h) e =
        left-run l ∙ node-next place gap n ps j a h ∙ ap (λ o. then o (λ i. run known (several root env openness ps i))) e
    next-run {place} {gap} {a} {j} (substitution {s} {ps} p l h) e =
        left-run l ∙ substitution-next gap s ps j a h
        ∙ ap (λ o. then o (λ i. run known (several root env openness ps i))) (ap (λ i. run known (join_piece i gap a j)) (sym p) ∙ e)

    undefined-run : {p : ℕ} (u : UndefinedAt root env openness known all p)
        → run known (substitution_value root env openness u.substitution) ≡ Out.refused (placed 9 p)
    unfolding substitution_value or_environment
    undefined-run {p} u =
        let s = u.substitution in
        run_bind known (evaluate root env (layers_for root openness s.path)) (λ a. or_environment env s a)
        ∙ ap (λ o. then o (λ a. run known (or_environment env s a))) u.undefined
        ∙ go (ap (λ (i : ℕ). Out.refused (placed 9 i)) (sym u.its-dollar))
      where
        go : {x : Out Refusal Answer} → Out.refused (placed 9 u.substitution.place) ≡ x
            → run known (or_environment env u.substitution none) ≡ x
        go e = rw (or_environment, u.no-variable, u.required) e

    many_is : (ps : Pieces) → alone ps ≡ false → answer_of root env openness ps ≡ several root env openness ps (blank [])
    unfolding answer_of several join_answer
    many_is no_pieces e = refl
    many_is (node_piece place gap n ps) e = refl
    many_is (substituted gap s no_pieces) e = clash (cc)
    many_is (substituted gap s (node_piece place g n ps)) e = refl
    many_is (substituted gap s (substituted g t ps)) e = refl

    -- one substitution alone
    lone : (ps : Pieces) → alone ps ≡ true → (gap : Text) × (s : Substitution) × (ps ≡ substituted gap s no_pieces)
    lone no_pieces e = clash (cc)
    lone (node_piece place gap n ps) e = clash (cc)
    lone (substituted gap s no_pieces) e = (gap, s, refl)
    lone (substituted gap s (node_piece place g n ps)) e = clash (cc)
    lone (substituted gap s (substituted g t ps)) e = clash (cc)

    module _ (gap : Text) (s : Substitution) (q : all ≡ substituted gap s no_pieces) where
      -- at its only piece nothing is joined yet
      lone-left : {ps : Pieces} {j : Join} → Left root env openness known all ps j → ((ps ≡ substituted gap s no_pieces) × (j ≡ blank [])) ⊎ (ps ≡ no_pieces)
      lone-left first = inl (q, refl)
      lone-left (past-node l h e) = elim (lone-left l) [ inl z ↦ clash (cc z.0) | inr z ↦ clash (cc (z)) ]
      lone-left (past-substitution {ps = ps} l h e) =
          elim (lone-left l) [ inl z ↦ inr (let i : ps ≡ no_pieces = cc z.0 in i) | inr z ↦ clash (cc (z)) ]

      lone-refused : {y : Refusal} → run known (substitution_value root env openness s) ≡ Out.refused y
          → run known (answer_of root env openness all) ≡ Out.refused y
      unfolding answer_of
      lone-refused e =
          ap (λ i. run known (answer_of root env openness i)) q
          ∙ run_bind known (substitution_value root env openness s) (λ a. sized a a) ∙ ap (λ o. then o (λ a. run known (sized a a))) e

      lone-over : {v : Value} → SubstitutionIs root env openness known s (some v) → within_size v ≡ false
          → run known (answer_of root env openness all) ≡ Out.refused (nowhere 13)
      unfolding answer_of
      lone-over {v} e w =
          ap (λ i. run known (answer_of root env openness i)) q
          ∙ run_bind known (substitution_value root env openness s) (λ a. sized a a) ∙ ap (λ o. then o (λ a. run known (sized a a))) e
          ∙ ap (run known) (sized-over {A = Answer} v (some v) w)

      lone-next : {place : ℕ} {g : Text} {a : Answer} {j : Join} → Next root env openness known all place g a j → SubstitutionIs root env openness known s a × (j ≡ blank [])
      lone-next (node l h) = elim (lone-left l) [ inl z ↦ clash (cc z.0) | inr z ↦ clash (cc (z)) ]
      lone-next {a = a} (substitution {s = t} p l h) = elim (lone-left l) [
        | inl z ↦ (let i : t ≡ s = cc z.0 in rw i at h, z.1)
        | inr z ↦ clash (cc (z))
      ]

      lone-run : alone all ≡ true → {y : Refusal} → Refusing root env openness known all y → run known (answer_of root env openness all) ≡ Out.refused y
      lone-run one (undefined p u e) = elim (lone-left u.next) [
        | inl z ↦ let i : u.substitution ≡ s = cc z.0 in
            lone-refused (ap (λ t. run known (substitution_value root env openness t)) (sym i) ∙ undefined-run u
            ∙ ap (λ x. Out.refused x) (sym e))
        | inr z ↦ clash (cc (z))
      ]
      lone-run one (mixed p m e) =
          let j : m.so_far ≡ blank [] = (lone-next m.next).1 in
          clash (cc (sym (ap kind_of_join j) ∙ m.unlike-first.first-is))
      lone-run one (large (piece next w) e) = lone-over (lone-next next).0 w ∙ ap (λ x. Out.refused x) (sym e)
      lone-run one (large (join many next f k i v is w) e) = clash (cc)

    refusing-run : {y : Refusal} → Refusing root env openness known all y → run known (answer_of root env openness all) ≡ Out.refused y
    unfolding several
    refusing-run {y} r = go (alone all) refl
      where
        many : alone all ≡ false → Refusing root env openness known all y → run known (several root env openness all (blank [])) ≡ Out.refused y
        many f (undefined p u e) =
            let s = u.substitution in
            let rest : Answer → Work Answer
            = λ i. bind (join_piece s.place u.gap i u.so_far) (λ k. several root env openness u.rest k) in
            left-run u.next ∙ run_bind known (substitution_value root env openness s) rest
            ∙ ap (λ o. then o (λ i. run known (rest i))) (undefined-run u) ∙ ap (λ x. Out.refused x) (sym e)
        many f (mixed p m e) =
            next-run m.next (piece-unlike known p m.gap m.so_far m.piece m.within m.unlike-first)
            ∙ ap (λ x. Out.refused x) (sym e)
        many f (large (piece {place} {gap} {v} {j} next w) e) =
            next-run next (piece-over known place gap j v w) ∙ ap (λ x. Out.refused x) (sym e)
        many f (large (join some_more {place} {gap} {a} {j} next s k i v is w) e) =
            next-run next (join-over known place gap j a s k i v is w) ∙ ap (λ x. Out.refused x) (sym e)

        go : (t : Bool) → alone all ≡ t → run known (answer_of root env openness all) ≡ Out.refused y
        go true t = let (gap, s, q) = lone all t in lone-run gap s q t r
        go false t = ap (run known) (many_is all t) ∙ many t r

    -- The rules of an unresolved value, whose fuel is never spent, refuse exactly for one of these three reasons.
    pub rule-refuses : (y : Refusal) → (y ≡ spent → ⊥) → (run known (answer_of root env openness all) ≡ Out.refused y) ↔ Refusing root env openness known all y
    rule-refuses y fueled = (λ e. answer-refuses fueled all refl e, refusing-run)
