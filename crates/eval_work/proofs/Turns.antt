-- What a turn asks, and where it leads.
use mathlib.Core.Path.{◌≡◌, refl, sym, ap, subst, ◌∙◌}
use mathlib.Core.List.{List, [], ◌∷◌}
use mathlib.Core.Option.{none, some}
use Prim.Native.Nat.{ℕ, suc, ◌+◌, ◌-◌, ◌≤◌, ◌<◌}
use native.Mathlib.Omega.{arith}
use lib.ListN.{length, get_or, get_elem?, set, length-set}
use lib.Seq.{get_or-set_same, get_or-set_other}
use Rattle.std.specs.Prelude.{Result, Ok, Err}
use Rattle.answers.specs.Ask.{lookup, run, value}
use Rattle.answers.specs.Resolve.{refused}
use Rattle.answers.specs.Theory.AheadTurns.{numbers}
use Rattle.rules.specs.Sizes.{max_unresolved}
use Rattle.rules.specs.Refusals.{Refusal, number_of, place_of, placed, nowhere}
use Rattle.rules.specs.Settled.{Given}
use Rattle.rules.specs.Values.{Answer}
use Rattle.rules.specs.Unresolved.{Unresolved}
use Rattle.rules.specs.Documents.{Setting, rule_of}
use Rattle.theory_order.specs.Turns.{stacked-length}
use Rattle.theory_order.specs.Skeletons.{needs_of_all, needs_of_question}
use Rattle.theory_order.specs.Clauses.{questions_of, work_c}
use Rattle.theory_order.specs.WorkLaws.{BegunHere, needs_in, first_in, WorkAt, work-done, turn-refuses, turn-lays, turn-full}
use Rattle.text_chars.specs.declared.Refusal.{Refusal as Refused}
use Rattle.sheet_kept.specs.Kept.{named}
use Rattle.eval_state.specs.Later.{later-then}
use Rattle.eval_writer.specs.Clauses.{Room}
use Rattle.eval_results.specs.Sizes.Outcomes.{OutcomeWithin}
use Rattle.eval_results.specs.declared.sizes.Outcome.{Outcome}
use Rattle.eval_trail.specs.Clauses.{Holding, Begins, Lays, LayIs, NoneIs}
use Rattle.eval_trail.specs.declared.Progress.{Progress}
use Rattle.eval_trail.specs.Turns.Contracts.{list_room, pieces_at, newest, Laid, LaidIs, begun_next, begun_list, TurnNeeds, TurnCase, TurnIs}
use Rattle.eval_trail.specs.declared.turns.Next.{Next}
use Rattle.eval_outcomes.specs.Newest.Contracts.{begins}
use Rattle.eval_question_laws.specs.Work.{WorkAsked, WorkedOut}
use Rattle.eval_work.specs.Clauses.{older_c, OlderNeeds}
use Rattle.eval_work.proofs.Standing.{Listed, listed-set, numbers-length, turns_at, Standing, Come, Newest, Awaited, Due, Pending, Refuses}
use Rattle.eval_work.proofs.Questions.{listed-one}

-- a question that has just begun is looked at from its first piece on
its-needs : (x : Setting) (b : ℕ) (u : Unresolved) → get_elem? x.document.unresolved b ≡ some u
    → needs_of_all x.document.root x.environment u.openness u.pieces ≡ needs_of_question x b
unfolding needs_of_question
its-needs x b u e = sym (rw (needs_of_question, e))

module _ {T₀ B₀ E w₀ room₀ trail₀ text₀ : List ℕ} {base b : ℕ} {p₀ : Progress} {budget : ℕ}
    (a : WorkAsked T₀ B₀ E w₀ room₀ trail₀ text₀ base b p₀ budget) {T B trail text L : List ℕ} {n : ℕ} {p : Progress}
    (P : Standing a T B trail text L n p) where
  abbrev H : Holding a.t a.key a.items T B trail text p (numbers P.begun) P.S P.count
  H = P.holding

  -- ---- the newest question

  module _ {C : Given Answer → Type 0} (N : Newest a P.begun P.S P.count C) where
    counted : n ≡ suc (length N.bs)
    counted = P.many ∙ ap length N.is

    listed : Listed a.t.setting T₀ L ((N.q, N.here) ∷ N.bs)
    listed = rw N.is at P.listed

    newest-is : newest L n ≡ N.q
    newest-is = let m : n - 1 ≡ length N.bs = omega (arith, counted) in ap (λ (i : ℕ). get_or L i 0) m ∙ listed.0

    number : newest L n < max_unresolved
    number = omega (arith, newest-is, N.at.running.stacked.1, H.state.document.read.at_most)

    its : Holding a.t a.key a.items T B trail text p (N.q ∷ numbers N.bs) P.S P.count
    its = rw N.is at H

  -- ---- what is asked

  asks : (room : List ℕ) → Room room → list_room ≤ length L → (o : Outcome) → OutcomeWithin o → Due a T room P.begun P.S P.count o
      → TurnNeeds T B room L n p budget trail text o
  asks room whole l (Outcome.Done e) i N = (
    omega (arith, counted N),
    record {
      full = record { whole = whole; rec = i.0; text = i.1 };
      number = number N;
      table = H.state.document.table;
      bytes = H.state.document.bytes;
      used = omega (arith, H.used, H.state.few);
      texts = omega (arith, H.texts, H.state.small);
      trail-room = omega (arith, H.trail-room, a.task.trail-room);
      text-room = omega (arith, H.text-room, a.task.text-room);
    },
  )
  asks room whole l Outcome.Undefined i N = (
    omega (arith, counted N),
    record {
      number = number N;
      table = H.state.document.table;
      used = omega (arith, H.used, H.state.few);
      texts = omega (arith, H.texts, H.state.small);
      trail-room = omega (arith, H.trail-room, a.task.trail-room);
    },
  )
  asks room whole l (Outcome.Needs d) i W =
      let m = H.state.document.read.at_most in
      let k = numbers-length P.begun in
      record {
        begins = record { number = omega (arith, W.low); table = H.state.document.table };
        few = omega (arith, P.many, stacked-length (questions_of a.t) (numbers P.begun) P.running.stacked);
        room = λ T' p' G.
            let c = G.is a.t a.key a.items B trail text (numbers P.begun) P.S P.count a.budgeted W.low W.new H in
            omega (arith, P.many, stacked-length (questions_of a.t) (d ∷ numbers P.begun) (W.begins c.0).running.stacked);
      }
  asks room whole l (Outcome.Refused number place) i z = tt

  -- ---- where it leads

  abbrev pub Advanced : (T' B' trail' text' L' : List ℕ) → Outcome → Result Next Refused → Type 0
  Advanced T' B' trail' text' L' o (Ok t) =
      (t.count ≡ 0 → WorkedOut a T' B' trail' text' t.at)
      × ((t.count ≡ 0 → ⊥) → Come a T' B' trail' text' L' t.count t.at × (turns_at budget t.count t.at < turns_at budget n p))
  Advanced T' B' trail' text' L' o (Err x) = Refuses a T' B' L' (older_c o n) x.number x.place.0

  -- the memory is as it was
  refuses-at : {T' B' : List ℕ} {m m' number place : ℕ} → T' ≡ T → B' ≡ B → m ≡ m' → Refuses a T B L m' number place → Refuses a T' B' L m number place
  refuses-at e f g h = rw (e, f, g) h

  module _ {C : Given Answer → Type 0} (N : Newest a P.begun P.S P.count C) where
    -- those before the newest may have refused
    before-newest : {number place : ℕ} (y : Refusal) → work_c a.t b a.S a.n ≡ refused (first_in a.t (numbers N.bs) P.S y)
        → number ≡ number_of y → place ≡ place_of y → Refuses a T B L (n - 1) number place
    before-newest y e i j = record {
      S = P.S;
      older = N.bs;
      count = P.count;
      refusal = y;
      is = e;
      its-number = i;
      its-place = j;
      listed = (listed N).2;
      many = omega (arith, counted N);
      stacked = N.at.running.stacked.2;
      state = H.state;
      whose = (numbers P.begun, P.running);
      bytes = P.later.document.bytes;
    }

    module _ (v : Answer) (e : run (lookup P.S) (rule_of a.t.setting N.q) ≡ value v) (T' B' trail' text' : List ℕ) (o : Outcome) {r : Result Next Refused} where
      laid_on : (p' : Progress) → Laid n r (Ok p')
          → Lays a.t a.key a.items T T' B B' trail' text' (numbers N.bs) P.S P.count N.q v (Ok p')
          → Advanced T' B' trail' text' L o r
      unfolding turns_at
      laid_on p' k c = go N.bs refl
        where
          at : WorkAt a.t b a.S a.n N.bs ((N.q, v) ∷ P.S) P.count
          at = (turn-lays a.t H.state.document.read b a.S a.n N.q N.ss N.bs P.S P.count N.at N.looked v e c.0).0

          go : (bs : List BegunHere) → N.bs ≡ bs → Advanced T' B' trail' text' L o r
          go [] f =
              let z : n ≡ 1 = counted N ∙ ap (λ (l : List BegunHere). suc (length l)) f in
              let d = work-done a.t a.holding.state.document.read b a.S a.n a.low a.new a.kept ((N.q, v) ∷ P.S) P.count (rw f at at) in
              rw k (
                λ i. record {
                  S' = (N.q, v) ∷ P.S;
                  n' = P.count;
                  is = d.0;
                  kept = d.1;
                  grows = d.2;
                  fewer = d.3;
                  more = N.more;
                  holding = rw f at c.1;
                  later = later-then P.later c.2;
                },
                λ g. absurd (g (omega (arith, z))),
              )
          go (j ∷ bs) f =
              let i : n ≡ suc (suc (length bs)) = counted N ∙ ap (λ (l : List BegunHere). suc (length l)) f in
              rw k (
                λ z. absurd (omega (arith, i)),
                λ z. (
                  record {
                    stands =
                        record {
                          begun = N.bs;
                          S = (N.q, v) ∷ P.S;
                          count = P.count;
                          listed = (listed N).2;
                          many = omega (arith, counted N);
                          running = at.running;
                          holding = c.1;
                          later = later-then P.later c.2;
                        };
                    some = omega arith;
                    at = at;
                    more = N.more;
                  },
                  omega (arith, c.1.count, H.count),
                ),
              )

      laid : older_c o n ≡ n - 1 → (s : Result Progress Refused) → LaidIs n s r
          → Lays a.t a.key a.items T T' B B' trail' text' (numbers N.bs) P.S P.count N.q v s → Advanced T' B' trail' text' L o r
      laid z (Ok p') k c = laid_on p' k.is c
      laid z (Err x) k c =
          rw k.is
          (refuses-at c.3 c.4 z
          (before-newest (nowhere 14)
          (turn-full a.t H.state.document.read b a.S a.n N.q N.ss N.bs P.S P.count N.at N.looked v e c.0) c.1 c.2))

  begun : list_room ≤ length L → a.n ≤ P.count → {d : ℕ} (W : Awaited a P.begun P.S P.count d) (T' : List ℕ) (s : Result Progress Refused)
      → Begins a.t a.key a.items T T' B trail text (numbers P.begun) P.S P.count d s
      → Advanced T' B trail text (begun_list n d L s) (Outcome.Needs d) (begun_next n s)
  unfolding turns_at
  begun l rises {d} W T' (Ok p') c =
      let at = W.begins c.0 in
      let m = H.state.document.read.at_most in
      let z : n < 256 =
      omega (arith, P.many, numbers-length P.begun, stacked-length (questions_of a.t) (d ∷ numbers P.begun) at.running.stacked) in
      let L₁ = set L n d in
      let y : length L₁ ≡ length L = length-set L n d in
      let (u, e) = listed-one a.t.setting.document.unresolved d W.low in
      let f : get_or (set L₁ (pieces_at + n) 0) (length P.begun) 0 ≡ d =
      ap (λ (i : ℕ). get_or (set L₁ (pieces_at + n) 0) i 0) (sym P.many) ∙ get_or-set_other L₁ (pieces_at + n) n 0 0 (λ i. omega arith)
      ∙ get_or-set_same L n d 0 (omega arith) in
      let g : get_or (set L₁ (pieces_at + n) 0) (pieces_at + length P.begun) 0 ≡ 0 =
      ap (λ (i : ℕ). get_or (set L₁ (pieces_at + n) 0) (pieces_at + i) 0) (sym P.many) ∙ get_or-set_same L₁ (pieces_at + n) 0 0 (omega arith) in
      let h = listed-set a.t.setting T₀ L P.begun n d (λ k i. (λ e. omega (arith, P.many), λ e. omega arith)) P.listed in (
        λ i. absurd (omega (arith, i)),
        λ j. (
          record {
            stands =
                record {
                  begun = (d, needs_in a.t d) ∷ P.begun;
                  S = P.S;
                  count = suc P.count;
                  listed = (
                    f,
                    record { u = u; its = e; goes = begins g (its-needs a.t.setting d u e) },
                    listed-set a.t.setting T₀ L₁ P.begun (pieces_at + n) 0 (λ k i. (λ e. omega (arith, P.many), λ e. omega (arith, P.many))) h,
                  );
                  many = omega (arith, P.many);
                  running = at.running;
                  holding = c.1;
                  later = later-then P.later c.2;
                };
            some = omega arith;
            at = at;
            more = omega arith;
          },
          omega (arith, c.1.count, H.count, at.running.afforded, a.budgeted),
        ),
      )
  begun l rises {d} W T' (Err x) c =
      refuses-at c.1 refl refl
      (record {
        S = P.S;
        older = P.begun;
        count = P.count;
        refusal = placed x.number x.place.0;
        is = W.barred (placed x.number x.place.0) c.0;
        its-number = refl;
        its-place = refl;
        listed = P.listed;
        many = P.many;
        stacked = P.running.stacked;
        state = H.state;
        whose = (numbers P.begun, P.running);
        bytes = P.later.document.bytes;
      })

  advances : (room : List ℕ) → list_room ≤ length L → a.n ≤ P.count → (T' B' L' trail' text' : List ℕ) (r : Result Next Refused) (o : Outcome)
      → Due a T room P.begun P.S P.count o → TurnCase room n p budget T T' B B' L L' trail trail' text text' r o → Advanced T' B' trail' text' L' o r
  advances room l rises T' B' L' trail' text' r (Outcome.Done e) N x =
      let v = N.comes in
      let G : LayIs room e.out N.q p T T' B B' trail trail' text text' x.step =
      subst (λ (i : ℕ). LayIs room e.out i p T T' B B' trail trail' text text' x.step) (newest-is N) x.lays in
      rw x.list
      (laid N (some (named a.key v.held)) v.is T' B' trail' text' (Outcome.Done e) refl x.step x.laid
      (G.is a.t a.key a.items (numbers N.bs) P.S P.count v.held (its N) v.finished))
  advances room l rises T' B' L' trail' text' r Outcome.Undefined N x =
      let G : NoneIs N.q p T T' trail trail' text x.step = subst (λ (i : ℕ). NoneIs i p T T' trail trail' text x.step) (newest-is N) x.lays in
      rw (x.list, x.bytes, x.texts)
      (laid N none N.comes T' B trail' text Outcome.Undefined refl x.step x.laid
      (G.is a.t a.key a.items B (numbers N.bs) P.S P.count (its N)))
  advances room l rises T' B' L' trail' text' r (Outcome.Needs d) W x =
      let g = x.begun in
      rw (g.list, g.is, x.bytes, x.trails, x.texts)
      (begun l rises W T' g.step
      (g.begins.is a.t a.key a.items B trail text (numbers P.begun) P.S P.count a.budgeted W.low W.new H))
  advances room l rises T' B' L' trail' text' r (Outcome.Refused number place) N x =
      let c = N.comes in
      rw (x.is, x.list)
      (refuses-at x.table x.bytes refl
      (before-newest N c.refusal
      (turn-refuses a.t H.state.document.read b a.S a.n N.q N.ss N.bs P.S P.count N.at N.looked c.refusal c.is)
      c.its-number c.its-place))

module _ {T₀ B₀ E w₀ room₀ trail₀ text₀ : List ℕ} {base b : ℕ} {p₀ : Progress} {budget : ℕ}
    (a : WorkAsked T₀ B₀ E w₀ room₀ trail₀ text₀ base b p₀ budget) {T B room trail text L : List ℕ} {n : ℕ} {p : Progress} {o : Outcome}
    (P : Pending a T B room trail text L n p o) (l : list_room ≤ length L) where
  pub turn-asks : Room room → OutcomeWithin o → TurnNeeds T B room L n p budget trail text o
  turn-asks whole i = asks a P.stands room whole l o i P.due

  -- the newest stands in the list, where it was evaluated
  pub turn-some : OlderNeeds o n
  turn-some = go o P.due
    where
      go : (o : Outcome) → Due a T room P.stands.begun P.stands.S P.stands.count o → OlderNeeds o n
      go (Outcome.Done e) N = omega (arith, counted a P.stands N)
      go Outcome.Undefined N = omega (arith, counted a P.stands N)
      go (Outcome.Needs d) W = tt
      go (Outcome.Refused number place) N = omega (arith, counted a P.stands N)

  module _ {T' B' L' trail' text' : List ℕ} {r : Result Next Refused} (G : TurnIs room o n p budget T T' B B' L L' trail trail' text text' r) where
    advanced : Advanced a P.stands T' B' trail' text' L' o r
    advanced = advances a P.stands room l P.rises T' B' L' trail' text' r o P.due G.is

    module _ {t : Next} (f : r ≡ Ok t) where
      goes-on : Advanced a P.stands T' B' trail' text' L' o (Ok t)
      goes-on = rw f at advanced

      pub turn_on : (t.count ≡ 0 → ⊥) → Come a T' B' trail' text' L' t.count t.at × (turns_at budget t.count t.at < turns_at budget n p)
      turn_on g = goes-on.1 g

      pub turn-ends : t.count ≡ 0 → WorkedOut a T' B' trail' text' t.at
      turn-ends g = goes-on.0 g

    pub turn-refused : {x : Refused} → r ≡ Err x → Refuses a T' B' L' (older_c o n) x.number x.place.0
    turn-refused f = rw f at advanced
