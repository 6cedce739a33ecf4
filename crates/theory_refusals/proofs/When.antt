-- When resolve gives 9 to 14, exactly: one statement for each number, of documents that are read.
use Rattle.std.specs.Prelude.{◌≡◌, ℕ, ◌≤◌, Bool, false, ◌↔◌}
use Rattle.std.proofs.Math.Path.{refl, ap}
use Rattle.std.proofs.Common.{sym, ◌∙◌, inl, inr, arith}
use Rattle.std.proofs.Math.Bool.{true}
use mathlib.Core.List.{List, [], ◌∷◌}
use Rattle.std.proofs.Math.Option.{some}
use Rattle.std.proofs.Math.ListN.{get_elem?}
use borrow.Author.Tests.{le-leb}
use Rattle.answers.specs.Ask.{Out, value, run, Trail, lookup}
use Rattle.answers.specs.Resolve.{Res, answer, dry, resolve, Rules}
use Rattle.answers.specs.Theory.Sound.{clash}
use Rattle.answers.specs.Theory.Holds.{Holds, dries}
use Rattle.rules.specs.Sizes.{max_budget}
use Rattle.rules.specs.Refusals.{Refusal, placed, nowhere, spent, number_of, place_of, document_of, offset_of}
use Rattle.rules.specs.Values.{Value, Answer, within_size}
use Rattle.rules.specs.Unresolved.{Unresolved, answer_of}
use Rattle.rules.specs.Documents.{Setting, valid, inputs, rule_of, count_of, first_byte}
use Rattle.rules.specs.Sheet.{trail_fits, table_fits}
use Rattle.rules.specs.Jobs.{Result, refused_with, room_of, order_of, handed_back, resolved, Resolved, located, resolve_job}
use Rattle.theory.specs.Numbering.{prepared}
use Rattle.theory.specs.Resolving.{RuleCase, ruled, past, rule-case, root_of, closed, root_below, resolve-ordinary, resolve-holds}
use Rattle.theory.specs.RuleRefusals.{only-refused, root-only}
use Rattle.theory.specs.BothJobs.{trail_fits-inv, trail_fits-intro, table_fits-inv, table_fits-intro}
use Rattle.theory_refusals.specs.WorkingOrder as order
use Rattle.theory_refusals.specs.Pieces as pieces
use Rattle.theory_refusals.specs.When.{At, Comes, RootIs, Working, Undefined, Circular, Mixed, Excess, OverSize, TrailFits, TableFits, NoRoom}
use Rattle.theory_refusals.proofs.WorkingOrder as orders
use Rattle.theory_refusals.proofs.Pieces.{rule-refuses}

abbrev Gives : Result → (number place : ℕ) → Type 0
Gives r number place = (r.number ≡ number) × (r.place ≡ place)

-- document and offset together are the place
one_place : (p q : ℕ) → document_of p ≡ document_of q → offset_of p ≡ offset_of q → p ≡ q
one_place p q h k = omega arith

module _ (x : Setting) (budget trail_length table_length text_length : ℕ) where
  abbrev rules : Rules Refusal Answer
  rules = order_of x (room_of trail_length) (room_of text_length)

  trail-unfit : (S : Trail Answer) → trail_fits (room_of trail_length) (room_of text_length) S ≡ false → TrailFits x budget trail_length table_length text_length S → ⊥
  trail-unfit S e h = clash (cc (trail_fits-intro (room_of trail_length) (room_of text_length) S h.0 h.1))

  unfit-trail : (S : Trail Answer) → (TrailFits x budget trail_length table_length text_length S → ⊥) → trail_fits (room_of trail_length) (room_of text_length) S ≡ false
  unfit-trail S h = go (trail_fits (room_of trail_length) (room_of text_length) S) refl
    where
      go : (t : Bool) → trail_fits (room_of trail_length) (room_of text_length) S ≡ t → t ≡ false
      go true e = absurd (h (trail_fits-inv (room_of trail_length) (room_of text_length) S e))
      go false e = refl

  table-unfit : (S : Trail Answer) (v : Value) → table_fits (room_of table_length) (room_of text_length) S v ≡ false → TableFits x budget trail_length table_length text_length S v → ⊥
  table-unfit S v e h = clash (cc (table_fits-intro (room_of table_length) (room_of text_length) S v h.0 h.1))

  unfit-table : (S : Trail Answer) (v : Value) → (TableFits x budget trail_length table_length text_length S v → ⊥) → table_fits (room_of table_length) (room_of text_length) S v ≡ false
  unfit-table S v h = go (table_fits (room_of table_length) (room_of text_length) S v) refl
    where
      go : (t : Bool) → table_fits (room_of table_length) (room_of text_length) S v ≡ t → t ≡ false
      go true e = absurd (h (table_fits-inv (room_of table_length) (room_of text_length) S v e))
      go false e = refl

  -- every reason, with the number and the place that it gives
  data Reason (number place : ℕ) : Type 0 where
    undefined : number ≡ 9 → Undefined x budget trail_length table_length text_length place → Reason number place
    circular : number ≡ 10 → Circular x budget trail_length table_length text_length place → Reason number place
    mixed : number ≡ 11 → Mixed x budget trail_length table_length text_length place → Reason number place
    excess : number ≡ 12 → Excess x budget trail_length table_length text_length place → Reason number place
    large : number ≡ 13 → place ≡ 0 → OverSize x budget trail_length table_length text_length → Reason number place
    full : number ≡ 14 → place ≡ 0 → NoRoom x budget trail_length table_length text_length → Reason number place

  -- a moment that stops has one
  ruled-reason : (b : ℕ) (outer : List ℕ) (S : Trail Answer) (n : ℕ) → Comes x budget trail_length table_length text_length (b ∷ outer) S n → (y : Refusal) → (y ≡ spent → ⊥)
      → run (lookup S) (rule_of x b) ≡ Out.refused y → Reason (number_of y) (place_of y)
  ruled-reason b outer S n h y fueled e = go (rule-case x b)
    where
      reason : (u : Unresolved) → Working x budget trail_length table_length text_length b u S
          → pieces.Refusing x.document.root x.environment u.openness (lookup S) u.pieces y → Reason (number_of y) (place_of y)
      reason u w (pieces.undefined p r q) = undefined (ap number_of q) (b, u, S, w, rw (ap place_of q) r)
      reason u w (pieces.mixed p r q) = mixed (ap number_of q) (b, u, S, w, rw (ap place_of q) r)
      reason u w (pieces.large r q) = large (ap number_of q) (ap place_of q) (inl (b, u, S, w, r))

      go : RuleCase x b → Reason (number_of y) (place_of y)
      go (ruled u is rule) =
          reason u (record { outer = outer; begun = n; comes = h; is = is })
          ((rule-refuses x.document.root x.environment u.openness (lookup S) u.pieces y fueled).0
          (ap (run (lookup S)) (sym rule) ∙ e))
      go (past k rule) =
          let z : y ≡ spent = cc (ap (run (lookup S)) (sym rule) ∙ e) in
          absurd (fueled z)

  stop-reason : (stack : List ℕ) (S : Trail Answer) (n : ℕ) → Comes x budget trail_length table_length text_length stack S n → (y : Refusal) → (y ≡ spent → ⊥)
      → order.Stops rules budget (root_of x) stack S n y → Reason (number_of y) (place_of y)
  unfolding order_of
  stop-reason stack S n h y fueled (order.circular q w busy e) = circular (ap number_of e) (stack, S, n, h, q, w, busy, ap place_of e)
  stop-reason stack S n h y fueled (order.excess q w idle all e) = excess (ap number_of e) (stack, S, n, h, q, w, idle, all, ap place_of e)
  stop-reason [] S n h y fueled (order.ruled e) =
      let z : y ≡ spent
      = only-refused (λ i. i ≡ spent) (lookup S) (root-only (λ i. i ≡ spent) refl x.document.root x.environment) e in
      absurd (fueled z)
  stop-reason (b ∷ outer) S n h y fueled (order.ruled e) = ruled-reason b outer S n h y fueled e
  stop-reason stack S n h y fueled (order.full b outer s r e unfit q) =
      let (u, is) = listed b r S e in
      full (ap number_of q) (ap place_of q)
      (inl (b, u, S, record { outer = outer; begun = n; comes = rw s at h; is = is }, r, e, trail-unfit ((b, r) ∷ S) unfit))
    where
      listed : (b : ℕ) (r : Answer) (S : Trail Answer) → run (lookup S) (rule_of x b) ≡ value r
          → (u : Unresolved) × (get_elem? x.document.unresolved b ≡ some u)
      listed b r S e = elim (rule-case x b) [ ruled u is rule ↦ (u, is) | past k rule ↦ clash (cc (ap (run (lookup S)) (sym rule) ∙ e)) ]

-- ---- the job

module _ (document environment : List ℕ) (budget trail_length table_length text_length : ℕ) (x : Setting)
    (read : inputs true document environment ≡ valid x) (modest : budget ≤ max_budget) where
  abbrev job : Resolved
  job = resolve_job document environment budget trail_length table_length text_length

  abbrev resolution : Res Refusal Answer Value
  resolution = resolve (order_of x (room_of trail_length) (room_of text_length)) budget (root_of x) (count_of x)

  -- what resolving comes to, before its place is told
  abbrev result : Result
  result = handed_back (room_of table_length) (room_of text_length) resolution

  job_is : job ≡ located document result
  unfolding resolve_job resolved
  job_is = rw (resolve_job, le-leb budget max_budget modest, read, resolved)

  job-number : job.number ≡ result.number
  job-number = ap (λ r. r.number) job_is

  job-place : job.place ≡ offset_of result.place
  job-place = ap (λ r. r.place) job_is

  tells : {number place : ℕ} → Gives result number place → At job number place
  tells (n, p) = (job-number ∙ n, ap (λ r. r.document) job_is ∙ ap document_of p, job-place ∙ ap offset_of p)

  gives : {number place : ℕ} → At job number place → Gives result number place
  gives {number} {place} (n, d, p) = (
    sym job-number ∙ n,
    one_place result.place place (sym (ap (λ r. r.document) job_is) ∙ d) (sym job-place ∙ p),
  )

  refuses-exactly : (y : Refusal)
      → (resolution ≡ Res.refused y) ↔ order.Stopped (order_of x (room_of trail_length) (room_of text_length)) budget (root_of x) y
  refuses-exactly y =
      let p = prepared true document environment x read in
      orders.refuses-exactly (order_of x (room_of trail_length) (room_of text_length)) budget (root_of x) (count_of x)
      (closed x p (room_of trail_length) (room_of text_length)) (root_below x p) y

  answers-exactly : (v : Value) (S : Trail Answer) (n : ℕ)
      → (resolution ≡ answer v S n) ↔ RootIs x budget trail_length table_length text_length v S n
  answers-exactly v S n =
      let p = prepared true document environment x read in
      orders.answers-exactly (order_of x (room_of trail_length) (room_of text_length)) budget (root_of x) (count_of x)
      (closed x p (room_of trail_length) (room_of text_length)) (root_below x p) v S n

  -- ---- what the job gives has a reason

  reason : (number place : ℕ) → 1 ≤ number → Gives result number place → Reason x budget trail_length table_length text_length number place
  unfolding handed_back refused_with
  reason number place l at = go resolution refl refl refl
    where
      fueled : (y : Refusal) → resolution ≡ Res.refused y → y ≡ spent → ⊥
      fueled y e z =
          let p = prepared true document environment x read in
          let ordinary = resolve-ordinary x p (room_of trail_length) (room_of text_length) budget y e in
          absurd (omega (arith, ordinary.1, ap number_of z))

      found : {k p : ℕ} → result.number ≡ k → result.place ≡ p → Reason x budget trail_length table_length text_length k p
          → Reason x budget trail_length table_length text_length number place
      found e f r = rw (sym at.0 ∙ e, sym at.1 ∙ f) r

      rooted : (v : Value) (S : Trail Answer) (n : ℕ) → resolution ≡ answer v S n → (t u : Bool) → within_size v ≡ t
          → table_fits (room_of table_length) (room_of text_length) S v ≡ u
          → result.number ≡ (handed_back (room_of table_length) (room_of text_length) (answer v S n)).number
          → result.place ≡ (handed_back (room_of table_length) (room_of text_length) (answer v S n)).place
          → Reason x budget trail_length table_length text_length number place
      rooted v S n e false u w f h k =
          found (rw (handed_back, w) at h) (rw (handed_back, w) at k) (large refl refl (inr (v, S, n, (answers-exactly v S n).0 e, w)))
      rooted v S n e true false w f h k =
          found (rw (handed_back, w, f) at h) (rw (handed_back, w, f) at k)
          (full refl refl (inr (v, S, n, (answers-exactly v S n).0 e, w, table-unfit x budget trail_length table_length text_length S v f)))
      rooted v S n e true true w f h k = absurd (omega (arith, l, at.0, rw (handed_back, w, f) at h))

      go : (m : Res Refusal Answer Value) → resolution ≡ m → result.number ≡ (handed_back (room_of table_length) (room_of text_length) m).number
          → result.place ≡ (handed_back (room_of table_length) (room_of text_length) m).place
          → Reason x budget trail_length table_length text_length number place
      go (Res.refused y) e h k =
          let (stack, S, n, comes, stops) = (refuses-exactly y).0 e in
          found h k (stop-reason x budget trail_length table_length text_length stack S n comes y (fueled y e) stops)
      go dry e h k =
          let p = prepared true document environment x read in
          absurd (wet (rw e at (resolve-holds x p (room_of trail_length) (room_of text_length) budget)))
        where
          wet : Holds {R = Answer} {A = Value} (λ y. 1 ≤ number_of y) ⊥ (λ v S n. Unit {0}) dry → ⊥
          wet (dries z) = z
      go (answer v S n) e h k = rooted v S n e (within_size v) (table_fits (room_of table_length) (room_of text_length) S v) refl refl h k

  -- ---- and every reason comes true

  stops_at : (stack : List ℕ) (S : Trail Answer) (n : ℕ) → Comes x budget trail_length table_length text_length stack S n → (y : Refusal)
      → order.Stops (order_of x (room_of trail_length) (room_of text_length)) budget (root_of x) stack S n y
      → Gives result (number_of y) (place_of y)
  unfolding handed_back refused_with
  stops_at stack S n h y s =
      let e : result ≡ refused_with y
      = ap (handed_back (room_of table_length) (room_of text_length)) ((refuses-exactly y).1 (stack, S, n, h, s)) in
      (ap (λ r. r.number) e, ap (λ r. r.place) e)

  -- the rules of the unresolved value that is being worked out refuse
  rules-at : (b : ℕ) (u : Unresolved) (S : Trail Answer) → Working x budget trail_length table_length text_length b u S → (y : Refusal)
      → (y ≡ spent → ⊥)
      → pieces.Refusing x.document.root x.environment u.openness (lookup S) u.pieces y → Gives result (number_of y) (place_of y)
  unfolding order_of rule_of
  rules-at b u S w y fueled r =
      let runs = (rule-refuses x.document.root x.environment u.openness (lookup S) u.pieces y fueled).1 r in
      stops_at (b ∷ w.outer) S w.begun w.comes y (order.ruled (ap (run (lookup S)) (rule-is b u w.is) ∙ runs))
    where
      rule-is : (b : ℕ) (u : Unresolved) → get_elem? x.document.unresolved b ≡ some u
          → rule_of x b ≡ answer_of x.document.root x.environment u.openness u.pieces
      rule-is b u e = rw (rule_of, e)

  root-at : (v : Value) (S : Trail Answer) (n : ℕ) → RootIs x budget trail_length table_length text_length v S n
      → result ≡ handed_back (room_of table_length) (room_of text_length) (answer v S n)
  root-at v S n h = ap (handed_back (room_of table_length) (room_of text_length)) ((answers-exactly v S n).1 h)

  -- ---- the six

  -- A required substitution of the value that is being worked out is undefined upon the trail so far, and the pieces before it are good.
  pub resolve-9 : (place : ℕ) → At job 9 place ↔ Undefined x budget trail_length table_length text_length place
  resolve-9 place = (
    λ at. to (reason 9 place (omega arith) (gives at)),
    λ (b, u, S, w, r). tells (rules-at b u S w (placed 9 place) (λ z. clash (cc (z))) (pieces.undefined place r refl)),
  )
    where
      to : Reason x budget trail_length table_length text_length 9 place → Undefined x budget trail_length table_length text_length place
      to (undefined e r) = r
      to (circular e r) = absurd (omega arith)
      to (mixed e r) = absurd (omega arith)
      to (excess e r) = absurd (omega arith)
      to (large e p r) = absurd (omega arith)
      to (full e p r) = absurd (omega arith)

  -- What is being worked out needs an unresolved value that is being worked out itself.
  pub resolve-10 : (place : ℕ) → At job 10 place ↔ Circular x budget trail_length table_length text_length place
  unfolding order_of
  resolve-10 place = (
    λ at. to (reason 10 place (omega arith) (gives at)),
    λ (stack, S, n, h, q, w, busy, e). tells (rw e (stops_at stack S n h (placed 10 (first_byte x q)) (order.circular q w busy refl))),
  )
    where
      to : Reason x budget trail_length table_length text_length 10 place → Circular x budget trail_length table_length text_length place
      to (undefined e r) = absurd (omega arith)
      to (circular e r) = r
      to (mixed e r) = absurd (omega arith)
      to (excess e r) = absurd (omega arith)
      to (large e p r) = absurd (omega arith)
      to (full e p r) = absurd (omega arith)

  -- A piece of the value that is being worked out is within its size, and of another kind than the first defined piece before it.
  pub resolve-11 : (place : ℕ) → At job 11 place ↔ Mixed x budget trail_length table_length text_length place
  resolve-11 place = (
    λ at. to (reason 11 place (omega arith) (gives at)),
    λ (b, u, S, w, r). tells (rules-at b u S w (placed 11 place) (λ z. clash (cc (z))) (pieces.mixed place r refl)),
  )
    where
      to : Reason x budget trail_length table_length text_length 11 place → Mixed x budget trail_length table_length text_length place
      to (undefined e r) = absurd (omega arith)
      to (circular e r) = absurd (omega arith)
      to (mixed e r) = r
      to (excess e r) = absurd (omega arith)
      to (large e p r) = absurd (omega arith)
      to (full e p r) = absurd (omega arith)

  -- As many as the budget have begun, and what is being worked out needs one more that is neither in the trail nor being worked out.
  pub resolve-12 : (place : ℕ) → At job 12 place ↔ Excess x budget trail_length table_length text_length place
  unfolding order_of
  resolve-12 place = (
    λ at. to (reason 12 place (omega arith) (gives at)),
    λ (stack, S, n, h, q, w, idle, all, e).
        tells (rw e (stops_at stack S n h (placed 12 (first_byte x q)) (order.excess q w idle all refl))),
  )
    where
      to : Reason x budget trail_length table_length text_length 12 place → Excess x budget trail_length table_length text_length place
      to (undefined e r) = absurd (omega arith)
      to (circular e r) = absurd (omega arith)
      to (mixed e r) = absurd (omega arith)
      to (excess e r) = r
      to (large e p r) = absurd (omega arith)
      to (full e p r) = absurd (omega arith)

  -- A piece of the value that is being worked out is over its size, or the join so far with it; or nothing is left to work out, and the
  -- table is.
  pub resolve-13 : (job.number ≡ 13) ↔ OverSize x budget trail_length table_length text_length
  unfolding handed_back refused_with
  resolve-13 = (λ e. to (reason 13 result.place (omega arith) (sym job-number ∙ e, refl)), λ r. job-number ∙ from r)
    where
      to : Reason x budget trail_length table_length text_length 13 result.place → OverSize x budget trail_length table_length text_length
      to (undefined e r) = absurd (omega arith)
      to (circular e r) = absurd (omega arith)
      to (mixed e r) = absurd (omega arith)
      to (excess e r) = absurd (omega arith)
      to (large e p r) = r
      to (full e p r) = absurd (omega arith)

      from : OverSize x budget trail_length table_length text_length → result.number ≡ 13
      from (inl (b, u, S, w, r)) = (rules-at b u S w (nowhere 13) (λ z. absurd (omega (arith, ap number_of z))) (pieces.large r refl)).0
      from (inr (v, S, n, h, w)) = ap (λ r. r.number) (root-at v S n h) ∙ rw (handed_back, w)

  -- The answer of the value that is being worked out does not fit behind the trail so far; or nothing is left to work out, and the table is
  -- within its size and does not fit.
  pub resolve-14 : (job.number ≡ 14) ↔ NoRoom x budget trail_length table_length text_length
  unfolding handed_back refused_with order_of
  resolve-14 = (λ e. to (reason 14 result.place (omega arith) (sym job-number ∙ e, refl)), λ r. job-number ∙ from r)
    where
      to : Reason x budget trail_length table_length text_length 14 result.place → NoRoom x budget trail_length table_length text_length
      to (undefined e r) = absurd (omega arith)
      to (circular e r) = absurd (omega arith)
      to (mixed e r) = absurd (omega arith)
      to (excess e r) = absurd (omega arith)
      to (large e p r) = absurd (omega arith)
      to (full e p r) = r

      from : NoRoom x budget trail_length table_length text_length → result.number ≡ 14
      from (inl (b, u, S, w, a, runs, unfit)) =
          (stops_at (b ∷ w.outer) S w.begun w.comes (nowhere 14)
          (order.full b w.outer refl a runs (unfit-trail x budget trail_length table_length text_length ((b, a) ∷ S) unfit) refl)).0
      from (inr (v, S, n, h, w, unfit)) =
          ap (λ r. r.number) (root-at v S n h) ∙ rw (handed_back, w, unfit-table x budget trail_length table_length text_length S v unfit)

  -- ---- "0" is the place of 13 and 14

  pub place-13 : job.number ≡ 13 → job.place ≡ 0
  place-13 e = job-place ∙ ap offset_of (to (reason 13 result.place (omega arith) (sym job-number ∙ e, refl)))
    where
      to : Reason x budget trail_length table_length text_length 13 result.place → result.place ≡ 0
      to (undefined e r) = absurd (omega arith)
      to (circular e r) = absurd (omega arith)
      to (mixed e r) = absurd (omega arith)
      to (excess e r) = absurd (omega arith)
      to (large e p r) = p
      to (full e p r) = p

  pub place-14 : job.number ≡ 14 → job.place ≡ 0
  place-14 e = job-place ∙ ap offset_of (to (reason 14 result.place (omega arith) (sym job-number ∙ e, refl)))
    where
      to : Reason x budget trail_length table_length text_length 14 result.place → result.place ≡ 0
      to (undefined e r) = absurd (omega arith)
      to (circular e r) = absurd (omega arith)
      to (mixed e r) = absurd (omega arith)
      to (excess e r) = absurd (omega arith)
      to (large e p r) = p
      to (full e p r) = p
