-- The newest question behind a turn: it may be asked what it comes to, and what it comes to stands before the next turn. And the questions that are
-- evaluated once more on a refusal.
use mathlib.Core.Path.{◌≡◌, refl, sym, ap, subst, ◌∙◌}
use mathlib.Core.List.{List, [], ◌∷◌}
use mathlib.Core.Option.{Option, none, some}
use Prim.Native.Nat.{ℕ, zero, suc, ◌+◌, ◌-◌, ◌*◌, ◌≤◌, ◌<◌}
use native.Mathlib.Omega.{arith}
use lib.ListN.{length, get_or, get_elem?, set}
use lib.Seq.{get_or-set_same, get_or-set_other}
use Rattle.answers.specs.Ask.{Trail}
use Rattle.answers.specs.Resolve.{Laid}
use Rattle.answers.specs.Theory.AheadTurns.{numbers}
use Rattle.rules.specs.Tree.{Root, fields, elements, root_node}
use Rattle.rules.specs.Values.{Answer}
use Rattle.rules.specs.Unresolved.{Unresolved}
use Rattle.theory_text.specs.Choices.{get_elem-none}
use Rattle.theory.specs.Resolving.{laid-within}
use Rattle.theory.specs.DistinctAnswers.{laid-distinct}
use Rattle.theory_order.specs.Turns.{stacked-length}
use Rattle.theory_order.specs.Skeletons.{Needed}
use Rattle.theory_order.specs.Clauses.{questions_of, rules_of}
use Rattle.theory_order.specs.WorkLaws.{BegunHere, WorkAt, turn-missing, turn-begins, turn-barred}
use Rattle.doc_items.specs.Codes.{unresolved_item}
use Rattle.doc_items.specs.Holds.{NodeAt}
use Rattle.doc_items.specs.Parts as parts
use Rattle.doc_items.specs.Room.{capacity, index_at, answers_at, text_room}
use Rattle.read_numbering.specs.Clauses.{item_of}
use Rattle.eval_state.specs.Memories.{NumberIn, answers_of}
use Rattle.eval_state.specs.Documents.{DocumentIn, UnresolvedAt}
use Rattle.eval_state.specs.State.{State}
use Rattle.eval_state.specs.Later.{later-beside, later-then}
use Rattle.eval_results.specs.declared.sizes.Outcome.{Outcome}
use Rattle.eval_unresolved.specs.Clauses.{Questioned}
use Rattle.eval_trail.specs.Clauses.{Holding}
use Rattle.eval_trail.specs.declared.Progress.{Progress}
use Rattle.eval_trail.specs.Turns.Contracts.{list_room, pieces_at, newest, newest_piece, ItemIs}
use Rattle.eval_outcomes.specs.Newest.Contracts.{Goes, NewestAsked, NewestCase, NewestIs}
use Rattle.eval_outcomes.specs.Refusals.Contracts.{RefusalAsked, Posed}
use Rattle.eval_question_laws.specs.Work.{Lent, WorkAsked}
use Rattle.eval_work.proofs.Standing.{goes_same, Listed, listed-set, numbers-length, listed-low, Standing, Come, Pending, Refuses}

-- ---- an unresolved value of the document, by its number

pub listed-one : {A : Type 0} (l : List A) (b : ℕ) → b < length l → (u : A) × (get_elem? l b ≡ some u)
listed-one {A} l b h = go (get_elem? l b) refl
  where
    go : (o : Option A) → get_elem? l b ≡ o → (u : A) × (get_elem? l b ≡ some u)
    go none e = absurd (omega (arith, get_elem-none l b e))
    go (some u) e = (u, e)

-- the root's item is no unresolved value's
root-kind : (root : Root) (T B : List ℕ) → NodeAt (parts.numbers T) (parts.letters 0 B) 0 text_room NumberIn 0 0 (root_node root) → get_or T 0 0 < unresolved_item
root-kind (fields fs) T B s = omega (arith, s.0)
root-kind (elements es) T B s = omega (arith, s.0)

module _ {T₀ B₀ E w₀ room₀ trail₀ text₀ : List ℕ} {base b : ℕ} {p₀ : Progress} {budget : ℕ}
    (a : WorkAsked T₀ B₀ E w₀ room₀ trail₀ text₀ base b p₀ budget) where
  module _ {T B : List ℕ} {S : Trail Answer} (s : State a.t.setting a.key a.items T B S) where
    abbrev document : DocumentIn a.t.setting a.key a.items T B
    document = s.document

    -- its item lies behind the root's
    bounds : (q : ℕ) (u : Unresolved) → get_elem? a.t.setting.document.unresolved q ≡ some u → (0 < item_of T q) × (item_of T q < capacity)
    bounds q u e =
        let U = document.unresolved q u e in
        (lowest (item_of T q) refl U, omega (arith, U.value.sized, U.value.inside, document.few))
      where
        lowest : (i : ℕ) → i ≡ get_or T (index_at + q) 0 → {u : Unresolved} → UnresolvedAt (answers_of a.key a.items T B) q u → 0 < i
        lowest zero e U =
            let k = root-kind a.t.setting.document.root T B document.keyed.shown in
            let x : get_or T (8 * get_or T (index_at + q) 0) 0 ≡ get_or T 0 0 = ap (λ (j : ℕ). get_or T (8 * j) 0) (sym e) in
            absurd (omega (arith, U.value.roles, U.value.node.0))
        lowest (suc i) e U = omega arith

    posed : Laid (rules_of a.t) S → (q : ℕ) (u : Unresolved) → get_elem? a.t.setting.document.unresolved q ≡ some u
        → Questioned a.t.setting a.key a.items T B E S base (item_of T q) q u
    posed laid q u e = record {
      state = s;
      listed = e;
      at = refl;
      read = a.task.read q u e;
      nested = a.task.nested;
      variables = a.task.variables;
      entered = a.task.entered;
      environment = a.task.environment;
      within = laid-within a.t.setting document.read a.t.trail_room a.t.text_room S laid;
      distinct = λ c v f. laid-distinct a.t.setting document.read a.t.trail_room a.t.text_room S laid c (some v) f;
      fits = a.task.fits a.key a.items T B S q u s e;
    }

  -- ---- on a refusal

  module _ {T B L : List ℕ} {m number place : ℕ} (R : Refuses a T B L m number place) where
    its : (i : ℕ) → i < m → (u : Unresolved) × (get_elem? a.t.setting.document.unresolved (get_or L i 0) ≡ some u)
    its i l =
        listed-one a.t.setting.document.unresolved (get_or L i 0)
        (listed-low a.t.setting T₀ L (questions_of a.t) R.older R.stacked R.listed i (omega (arith, R.many)))

    pub refusal-posed : Posed a.t a.key a.items T B E R.S base L m
    refusal-posed i l = let (u, e) = its i l in (u, posed R.state R.whose.1.laid (get_or L i 0) u e)

    pub refusal-asked : {w room : List ℕ} → Lent B E w room base → list_room ≤ length L → RefusalAsked T B E w room L base m
    refusal-asked l long = record {
      lent = l;
      bytes = R.state.document.bytes;
      long =
          omega (arith, R.many, numbers-length R.older, stacked-length (questions_of a.t) (numbers R.older) R.stacked, R.state.document.read.at_most);
      items = λ i h. let (u, e) = its i h in bounds R.state (get_or L i 0) u e;
    }

  -- ---- the newest

  module _ {T B trail text L : List ℕ} {m : ℕ} {p : Progress} (K : Come a T B trail text L m p) {item : ℕ} (D : ItemIs T L m item) where
    abbrev q : ℕ
    q = newest L m

    abbrev S : Trail Answer
    S = K.stands.S

    abbrev count : ℕ
    count = K.stands.count

    -- it is the newest, before these
    pub record Opened : Type 0 where
      pub ss : List Needed
      pub bs : List BegunHere
      pub is : K.stands.begun ≡ (q, ss) ∷ bs
      pub long : m ≡ suc (length bs)

    opened : Opened
    opened = go K.stands.begun refl K.stands.listed
      where
        go : (begun : List BegunHere) → K.stands.begun ≡ begun → Listed a.t.setting T₀ L begun → Opened
        go [] f s = absurd (omega (arith, K.some, K.stands.many, ap length f))
        go (j ∷ bs) f s =
            let l : m ≡ suc (length bs) = K.stands.many ∙ ap length f in
            let i : m - 1 ≡ length bs = omega (arith, l) in
            let y : q ≡ j.0 = ap (λ (i : ℕ). get_or L i 0) i ∙ s.0 in
            record { ss = j.1; bs = bs; is = f ∙ ap (λ (i : ℕ). (i, j.1) ∷ bs) (sym y); long = l }

    abbrev ss : List Needed
    ss = opened.ss

    abbrev bs : List BegunHere
    bs = opened.bs

    at : WorkAt a.t b a.S a.n ((q, ss) ∷ bs) S count
    at = rw opened.is at K.at

    listed : Listed a.t.setting T₀ L ((q, ss) ∷ bs)
    listed = rw opened.is at K.stands.listed

    few : suc (length bs) ≤ 256
    few =
        omega (arith, numbers-length bs, stacked-length (questions_of a.t) (q ∷ numbers bs) at.running.stacked, K.stands.holding.state.document.read.at_most)

    state : State a.t.setting a.key a.items T B S
    state = K.stands.holding.state

    -- the document's numbers are as they were
    same : (j : ℕ) → j < answers_at → get_or T j 0 ≡ get_or T₀ j 0
    same j l = K.stands.later.document.numbers j (omega arith) (λ y z. omega arith)

    same_item : item_of T q ≡ item_of T₀ q
    same_item = same (index_at + q) (omega (arith, at.running.stacked.1, state.document.read.at_most))

    abbrev u : Unresolved
    u = listed.1.u

    question : Questioned a.t.setting a.key a.items T B E S base item q u
    question =
        subst (λ (i : ℕ). Questioned a.t.setting a.key a.items T B E S base i q u) (sym D.is)
        (posed state at.running.laid q u listed.1.its)

    goes : Goes a.t.setting u T item (newest_piece L m) ss
    goes =
        let i : pieces_at + (m - 1) ≡ pieces_at + length bs = omega (arith, opened.long) in
        subst (λ (j : ℕ). Goes a.t.setting u T item j ss) (sym (ap (λ (j : ℕ). get_or L j 0) i))
        (goes_same same (D.is ∙ same_item) listed.1.goes)

    pub question-asked : {w room : List ℕ} → Lent B E w room base → list_room ≤ length L → NewestAsked B E w room L base m item
    question-asked l long =
        let (low, high) = bounds state q u listed.1.its in
        record {
          asked =
              record {
                whole = l.whole;
                bytes = state.document.bytes;
                most = l.bytes;
                environment = l.environment;
                work = l.work;
                used = l.used;
                low = omega (arith, D.is);
                high = omega (arith, D.is);
              };
          some = K.some;
          few = omega (arith, opened.long, few);
          long = long;
        }

    module _ {w w' B' L' room' : List ℕ} {o : Outcome} (O : NewestIs T E base m item w w' B B' L L' o room') (long : list_room ≤ length L) where
      came : State a.t.setting a.key a.items T B' S × NewestCase a.t.setting a.key a.items T room' S q u item O.piece ss o
      came = O.is a.t.setting a.key a.items S q u ss question goes

      -- the list with the piece at which it goes on
      module _ (here : List Needed) (there : Goes a.t.setting u T item O.piece here) where
        relisted : Listed a.t.setting T₀ L' ((q, here) ∷ bs)
        relisted =
            let i : pieces_at + (m - 1) ≡ pieces_at + length bs = omega (arith, opened.long) in
            let f : L' ≡ set L (pieces_at + length bs) O.piece = O.list ∙ ap (λ (j : ℕ). set L j O.piece) i in
            subst (λ (l : List ℕ). Listed a.t.setting T₀ l ((q, here) ∷ bs)) (sym f) (
              get_or-set_other L (pieces_at + length bs) (length bs) O.piece 0 (λ e. omega (arith, few)) ∙ listed.0,
              record {
                u = u;
                its = listed.1.its;
                goes = subst (λ (j : ℕ). Goes a.t.setting u T₀ (item_of T₀ q) j here)
                    (sym (get_or-set_same L (pieces_at + length bs) O.piece 0 (omega (arith, few))))
                    (goes_same (λ j l. sym (same j l)) (sym (D.is ∙ same_item)) there);
              },
              listed-set a.t.setting T₀ L bs (pieces_at + length bs) O.piece (λ k l. (λ e. omega (arith, few), λ e. omega arith)) listed.2,
            )

        abbrev stands : Standing a T B' trail text L' m p
        stands =
            let s = K.stands in
            let H : Holding a.t a.key a.items T B trail text p (q ∷ numbers bs) S count = rw opened.is at s.holding in
            record {
              begun = (q, here) ∷ bs;
              S = S;
              count = count;
              listed = relisted;
              many = opened.long;
              running = at.running;
              holding =
                  record {
                    state = came.0;
                    marks = H.marks;
                    rest = H.rest;
                    more = H.more;
                    laid = H.laid;
                    used = H.used;
                    texts = H.texts;
                    count = H.count;
                    trail-room = H.trail-room;
                    text-room = H.text-room;
                  };
              later = later-then s.later (later-beside T B B' S H.state.few H.state.small O.bytes O.beside);
            }

      pends : (o : Outcome) → NewestCase a.t.setting a.key a.items T room' S q u item O.piece ss o → Pending a T B' room' trail text L' m p o
      pends (Outcome.Done e) c = record {
        stands = stands [] c.goes;
        rises = omega (arith, K.more);
        due = record { q = q; ss = ss; here = []; bs = bs; is = refl; at = at; more = K.more; looked = c.looked; comes = c.comes };
      }
      pends Outcome.Undefined c = record {
        stands = stands [] c.goes;
        rises = omega (arith, K.more);
        due = record { q = q; ss = ss; here = []; bs = bs; is = refl; at = at; more = K.more; looked = c.looked; comes = c.comes };
      }
      pends (Outcome.Needs d) c =
          let (new, low, w) = turn-missing a.t state.document.read b a.S a.n q ss bs S count at d c.further c.is in
          record {
            stands = stands c.further c.goes;
            rises = omega (arith, K.more);
            due =
                record {
                  low = low;
                  new = new;
                  begins = λ f. (turn-begins a.t state.document.read b a.S a.n q ss bs S count at d c.further c.is f).0;
                  barred = λ y f. turn-barred a.t state.document.read b a.S a.n q ss bs S count at d c.further c.is y f;
                };
          }
      pends (Outcome.Refused number place) c = record {
        stands = stands [] c.goes;
        rises = omega (arith, K.more);
        due = record { q = q; ss = ss; here = []; bs = bs; is = refl; at = at; more = K.more; looked = c.looked; comes = c.comes };
      }

      pub question-pends : Pending a T B' room' trail text L' m p o
      question-pends = pends o came.1
