-- Where the working out of a question stands: before a turn of the newest question, and behind it.
use mathlib.Core.Path.{◌≡◌, refl, sym, ap, subst, ◌∙◌}
use mathlib.Core.Bool.{Bool, true, false}
use mathlib.Core.List.{List, [], ◌∷◌, ◌++◌}
use mathlib.Core.Option.{none, some}
use Prim.Native.Nat.{ℕ, suc, ◌+◌, ◌-◌, ◌*◌, ◌≤◌, ◌<◌}
use native.Mathlib.Omega.{arith}
use lib.Dec.{eqb}
use lib.ListN.{length, get_or, get_elem?, set, take}
use lib.Seq.{get_or-set_other, take-suc}
use borrow.Author.Tests.{eqb-true, eqb-false}
use Rattle.answers.specs.Ask.{Trail, lookup, run, value}
use Rattle.answers.specs.Resolve.{Rules, refused}
use Rattle.answers.specs.Theory.AheadTurns.{fate_of, numbers, oldest_first}
use Rattle.rules.specs.Refusals.{Refusal, number_of, place_of}
use Rattle.rules.specs.Settled.{Given}
use Rattle.rules.specs.Tree.{Pieces}
use Rattle.rules.specs.Values.{Answer}
use Rattle.rules.specs.Unresolved.{Unresolved}
use Rattle.rules.specs.Documents.{Setting, rule_of}
use Rattle.theory_order.specs.Turns.{Stacked}
use Rattle.theory_order.specs.Skeletons.{Needed}
use Rattle.theory_order.specs.Clauses.{questions_of, RunningOf, bar_of, work_c}
use Rattle.theory_order.specs.WorkLaws.{BegunHere, needs_in, fate_in, first_in, WorkAt}
use Rattle.doc_items.specs.Room.{capacity, answers_at}
use Rattle.read_numbering.specs.Clauses.{item_of}
use Rattle.eval_state.specs.State.{State}
use Rattle.eval_state.specs.Later.{Later}
use Rattle.eval_results.specs.declared.sizes.Outcome.{Outcome}
use Rattle.eval_concat.specs.Steps.Contracts.{RefusedWith}
use Rattle.eval_unresolved.specs.Clauses.{ValueDone}
use Rattle.eval_trail.specs.Clauses.{Holding}
use Rattle.eval_trail.specs.declared.Progress.{Progress}
use Rattle.eval_trail.specs.Turns.Contracts.{pieces_at}
use Rattle.eval_unresolved.specs.Pieces.Contracts.{Behind}
use Rattle.eval_outcomes.specs.Newest.Contracts.{Goes, begins, further}
use Rattle.eval_question_laws.specs.Work.{WorkAsked}

-- ---- a position among the pieces, in a table with the same document

module _ {T T' : List ℕ} (same : (j : ℕ) → j < answers_at → get_or T' j 0 ≡ get_or T j 0) where
  behind-same : {first : ℕ} {all : Pieces} {i : ℕ} {ps : Pieces} → i ≤ capacity → Behind T first all i ps → Behind T' first all i ps
  behind-same l Behind.none = Behind.none
  behind-same {first} {all = all} l (Behind.node {i = i} {ps = ps} h) =
      subst (λ (k : ℕ). Behind T' first all (i + k) ps) (same (8 * i + 1) (omega arith)) (Behind.node (behind-same (omega arith) h))
  behind-same {first} {all = all} l (Behind.reference {i = i} {ps = ps} h) =
      subst (λ (k : ℕ). Behind T' first all (i + k) ps) (same (8 * i + 1) (omega arith)) (Behind.reference (behind-same (omega arith) h))

  pub goes_same : {x : Setting} {u : Unresolved} {item item' m : ℕ} {ss : List Needed} → item' ≡ item → Goes x u T item m ss → Goes x u T' item' m ss
  goes_same e (begins z f) = begins z f
  goes_same {x} {u} {item} {item'} {m} {ss} e (further low h g) =
      further low h (record { rest = g.rest; behind = subst (λ (i : ℕ). Behind T' (i + 1) u.pieces m g.rest) (sym e) (behind-same h g.behind); needs = g.needs })

-- ---- the list of questions that have begun, the newest last, and behind them the piece of each

pub record Going (x : Setting) (T : List ℕ) (b : BegunHere) (m : ℕ) : Type 0 where
  pub u : Unresolved
  pub its : get_elem? x.document.unresolved b.0 ≡ some u
  pub goes : Goes x u T (item_of T b.0) m b.1

abbrev pub Listed : Setting → (T L : List ℕ) → List BegunHere → Type 0
Listed x T L [] = Unit {0}
Listed x T L (b ∷ bs) = (get_or L (length bs) 0 ≡ b.0) × Going x T b (get_or L (pieces_at + length bs) 0) × Listed x T L bs

-- what is written elsewhere leaves it
pub listed-set : (x : Setting) (T L : List ℕ) (bs : List BegunHere) (i v : ℕ) → ((k : ℕ) → k < length bs → (k ≡ i → ⊥) × (pieces_at + k ≡ i → ⊥))
    → Listed x T L bs → Listed x T (set L i v) bs
listed-set x T L [] i v f s = tt
listed-set x T L (b ∷ bs) i v f s =
    let (g, h) = f (length bs) (omega arith) in (
      get_or-set_other L i (length bs) v 0 g ∙ s.0,
      subst (λ (m : ℕ). Going x T b m) (sym (get_or-set_other L i (pieces_at + length bs) v 0 h)) s.1,
      listed-set x T L bs i v (λ k l. f k (omega arith)) s.2,
    )

pub numbers-length : (bs : List BegunHere) → length (numbers bs) ≡ length bs
numbers-length [] = refl
numbers-length (b ∷ bs) = ap suc (numbers-length bs)

-- they stand at the list's start, the oldest first
pub listed-oldest : (ρ : Rules Refusal Answer) (x : Setting) (T L : List ℕ) (bs : List BegunHere) → length bs ≤ length L → Listed x T L bs
    → oldest_first ρ (numbers bs) ≡ take (length bs) L
listed-oldest ρ x T L [] l s = refl
listed-oldest ρ x T L (b ∷ bs) l s =
    ap (λ (qs : List ℕ). qs ++ (b.0 ∷ [])) (listed-oldest ρ x T L bs (omega arith) s.2)
    ∙ ap (λ (q : ℕ). take (length bs) L ++ (q ∷ [])) (sym s.0) ∙ sym (take-suc L (length bs) 0 (omega arith))

-- and are questions of the document
pub listed-low : (x : Setting) (T L : List ℕ) (N : ℕ) (bs : List BegunHere) → Stacked N (numbers bs) → Listed x T L bs → (i : ℕ) → i < length bs → get_or L i 0 < N
listed-low x T L N [] k s i l = absurd (omega arith)
listed-low x T L N (b ∷ bs) k s i l = go (eqb i (length bs)) refl (λ h. listed-low x T L N bs k.2 s.2 i h)
  where
    go : (t : Bool) → eqb i (length bs) ≡ t → (i < length bs → get_or L i 0 < N) → get_or L i 0 < N
    go true e older = let z : get_or L i 0 ≡ b.0 = ap (λ (j : ℕ). get_or L j 0) (eqb-true i (length bs) e) ∙ s.0 in omega (arith, k.1)
    go false e older = older (omega (arith, eqb-false i (length bs) e))

-- so many turns may come
unfoldable pub turns_at : (budget n : ℕ) → Progress → ℕ
turns_at budget n p = 2 * (budget - p.begun) + n

-- ---- since b was to be worked out

module _ {T₀ B₀ E w₀ room₀ trail₀ text₀ : List ℕ} {base b : ℕ} {p₀ : Progress} {budget : ℕ}
    (a : WorkAsked T₀ B₀ E w₀ room₀ trail₀ text₀ base b p₀ budget) where
  -- the questions that have begun, a trail and a count stand in the buffers
  pub record Standing (T B trail text L : List ℕ) (n : ℕ) (p : Progress) : Type 0 where
    pub begun : List BegunHere
    pub S : Trail Answer
    pub count : ℕ
    pub listed : Listed a.t.setting T₀ L begun
    pub many : n ≡ length begun
    pub running : RunningOf a.t (numbers begun) S count
    pub holding : Holding a.t a.key a.items T B trail text p (numbers begun) S count
    pub later : Later T₀ B₀ a.S T B S

  -- behind a turn, where questions are left
  pub record Come (T B trail text L : List ℕ) (n : ℕ) (p : Progress) : Type 0 where
    pub stands : Standing T B trail text L n p
    pub some : 0 < n
    pub at : WorkAt a.t b a.S a.n stands.begun stands.S stands.count
    pub more : a.n < stands.count

  -- the pieces of the newest question, which needed ss, miss nothing, and its rules came to such
  pub record Newest (begun : List BegunHere) (S : Trail Answer) (count : ℕ) (C : Given Answer → Type 0) : Type 0 where
    pub q : ℕ
    pub ss : List Needed
    pub here : List Needed
    pub bs : List BegunHere
    pub is : begun ≡ (q, here) ∷ bs
    pub at : WorkAt a.t b a.S a.n ((q, ss) ∷ bs) S count
    pub more : a.n < count
    pub looked : fate_in a.t S (q, ss) ≡ fate_of (run (lookup S) (rule_of a.t.setting q))
    pub comes : C (run (lookup S) (rule_of a.t.setting q))

  -- question d is needed first: it begins, or is barred
  pub record Awaited (begun : List BegunHere) (S : Trail Answer) (count d : ℕ) : Type 0 where
    pub low : d < questions_of a.t
    pub new : lookup S d ≡ none
    pub begins : bar_of a.t (numbers begun) count d ≡ none → WorkAt a.t b a.S a.n ((d, needs_in a.t d) ∷ begun) S (suc count)
    pub barred : (y : Refusal) → bar_of a.t (numbers begun) count d ≡ some y
        → work_c a.t b a.S a.n ≡ refused (first_in a.t (numbers begun) S y)

  abbrev pub Due : (T room : List ℕ) (begun : List BegunHere) (S : Trail Answer) (count : ℕ) → Outcome → Type 0
  Due T room begun S count (Outcome.Done e) = Newest begun S count (λ g. ValueDone a.key a.items T room g e)
  Due T room begun S count Outcome.Undefined = Newest begun S count (λ g. g ≡ value none)
  Due T room begun S count (Outcome.Needs d) = Awaited begun S count d
  Due T room begun S count (Outcome.Refused number place) = Newest begun S count (λ g. RefusedWith g number place.0)

  -- before a turn
  pub record Pending (T B room trail text L : List ℕ) (n : ℕ) (p : Progress) (o : Outcome) : Type 0 where
    pub stands : Standing T B trail text L n p
    pub rises : a.n ≤ stands.count
    pub due : Due T room stands.begun stands.S stands.count o

  -- a refusal at a trail, while so many questions of the list may refuse before
  pub record Refuses (T B L : List ℕ) (m number place : ℕ) : Type 0 where
    pub S : Trail Answer
    pub older : List BegunHere
    pub count : ℕ
    pub refusal : Refusal
    pub is : work_c a.t b a.S a.n ≡ refused (first_in a.t (numbers older) S refusal)
    pub its-number : number ≡ number_of refusal
    pub its-place : place ≡ place_of refusal
    pub listed : Listed a.t.setting T₀ L older
    pub many : m ≡ length older
    pub stacked : Stacked (questions_of a.t) (numbers older)
    pub state : State a.t.setting a.key a.items T B S
    pub whose : (qs : List ℕ) × RunningOf a.t qs S count
    pub bytes : length B ≡ length B₀
