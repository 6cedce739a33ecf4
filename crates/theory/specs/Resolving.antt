-- Resolving what the inputs give: only questions that there are, answers within their size, and an answer or a refusal with a number.
use Rattle.std.specs.Prelude.{◌≡◌, ℕ, zero, suc, ◌≤◌, ◌<◌, Bool, true, false, ltb}
use Rattle.std.proofs.Math.Path.{refl, ap}
use Rattle.std.proofs.Common.{sym, subst, ltb-true, ltb-false}
use Rattle.std.proofs.Math.Option.{Option, none, some}
use native.Mathlib.Omega.{arith}
use Rattle.std.proofs.Math.ListN.{get_elem?}
use Rattle.answers.specs.Ask.{refused, value, run, Trail, lookup}
use Rattle.answers.specs.Resolve.{Res, refused, Laid, resolve}
use Rattle.answers.specs.Theory.Sound.{clash}
use Rattle.answers.specs.Theory.Holds.{Holds, answers, refuses, dries, Wet}
use Rattle.answers.specs.Theory.Fuel.{Below, Closed, resolve-wet}
use Rattle.answers.specs.Theory.Invariant.{Every, Preserves, laid-all, never}
use Rattle.rules.specs.Refusals.{Refusal, spent, spent_fuel, number_of}
use Rattle.rules.specs.Values.{Value, Answer}
use Rattle.rules.specs.Layers.{Work}
use Rattle.rules.specs.Unresolved.{Unresolved, answer_of, root_value}
use Rattle.rules.specs.Documents.{Setting, rule_of, count_of}
use Rattle.rules.specs.Jobs.{order_of}
use Rattle.theory_text.specs.Choices.{get_elem-length, get_elem-none}
use Rattle.theory.specs.Numbering.{Prepared, numbers-below}
use Rattle.theory.specs.Ends.{When, WithinSize, Ordinary, Ends, refuses, ends-below, ends-value, ends-refused}
use Rattle.theory.specs.Reach.{Each, each_at, Quiet}
use Rattle.theory.specs.Rules.{top, Listed, all_listed, answer-ends, root_ends}

-- the rules of a number are those of the unresolved value in its place; past the last they refuse with `spent`
pub data RuleCase (x : Setting) (b : ℕ) : Type 0 where
  ruled : (u : Unresolved) → get_elem? x.document.unresolved b ≡ some u
      → rule_of x b ≡ answer_of x.document.root x.environment u.openness u.pieces → RuleCase x b
  past : count_of x ≤ b → rule_of x b ≡ refused spent → RuleCase x b

pub rule-case : (x : Setting) (b : ℕ) → RuleCase x b
unfolding rule_of
rule-case x b = go (get_elem? x.document.unresolved b) refl
  where
    go : (o : Option Unresolved) → get_elem? x.document.unresolved b ≡ o → RuleCase x b
    go none e = past (get_elem-none x.document.unresolved b e) (rw (e, rule_of) refl)
    go (some u) e = ruled u e (rw (e, rule_of) refl)

-- the root's computation
abbrev pub root_of : Setting → Work Value
root_of x = root_value x.document.root x.environment

module _ (x : Setting) (p : Prepared x.document) where
  module _ (strict : Bool) where
    root-well : Quiet strict (count_of x) (root_of x)
    root-well = root_ends strict (count_of x) x.document.root x.environment (numbers-below x.document p)

    listed : Each (Listed strict (count_of x) (top x.document.root)) x.document.unresolved
    listed =
        subst (λ l. Each (Listed strict (count_of x) (top x.document.root)) l) (sym p.listed)
        (all_listed strict (count_of x) x.document.root (numbers-below x.document p))

    rule-well : (b : ℕ) → When strict (b < count_of x) → Ends strict (count_of x) (λ a. When strict (WithinSize a)) (rule_of x b)
    rule-well b l =
        elim (rule-case x b) [
          | ruled u e rule ↦ rw rule (answer-ends strict (count_of x) x.document.root x.environment (numbers-below x.document p) u
              (each_at (Listed strict (count_of x) (top x.document.root)) x.document.unresolved listed b u e))
          | past k rule ↦ rw rule (refuses (λ s. absurd (omega (arith, l s))))
        ]

  -- ---- needs

  pub root_below : Below (count_of x) (root_of x)
  root_below = ends-below (root-well false)

  pub rule-below : (b : ℕ) → Below (count_of x) (rule_of x b)
  rule-below b = ends-below (rule-well false b (λ s. clash (cc)))

  -- ---- sizes, and no `spent`

  module _ (S : Trail Answer) (every : Every WithinSize S) where
    pub rule-within : (b : ℕ) (a : Answer) → run (lookup S) (rule_of x b) ≡ value a → WithinSize a
    rule-within b a e =
        elim (rule-case x b) [
          | ruled u at rule ↦ ends-value S every (rule-well true b (λ _. get_elem-length x.document.unresolved b u at)) e refl
          | past k rule ↦ clash (cc (ap (run (lookup S)) rule))
        ]

    pub rule-numbered : (b : ℕ) → b < count_of x → (y : Refusal) → run (lookup S) (rule_of x b) ≡ refused y → Ordinary y
    rule-numbered b l y e = ends-refused S every (rule-well true b (λ _. l)) e

    pub root-numbered : (y : Refusal) → run (lookup S) (root_of x) ≡ refused y → Ordinary y
    root-numbered y e = ends-refused S every (root-well true) e

  -- ---- the resolution

  module _ (trail_room text_room : ℕ) where
    pub closed : Closed (order_of x trail_room text_room) (count_of x)
    unfolding order_of
    closed b l = rule-below b

    pub preserves : Preserves (order_of x trail_room text_room) WithinSize
    unfolding order_of
    preserves S every b a e = rule-within S every b a e

    -- every answer of an accepted trail is within its size
    pub laid-within : (T : Trail Answer) → Laid (order_of x trail_room text_room) T → Every WithinSize T
    laid-within = laid-all (order_of x trail_room text_room) WithinSize preserves

    module _ (budget : ℕ) where
      pub resolve-ordinary : (y : Refusal) → resolve (order_of x trail_room text_room) budget (root_of x) (count_of x) ≡ refused y → Ordinary y
      unfolding order_of
      resolve-ordinary y e = go (number_of y) refl (ltb (number_of y) spent_fuel) refl
        where
          not-otherwise : (Ordinary y → ⊥) → ⊥
          not-otherwise h =
              never (order_of x trail_room text_room) WithinSize preserves budget (root_of x) (count_of x) closed root_below y
              (λ b c. let d = ap number_of c in h (omega arith, omega arith)) (λ b c. let d = ap number_of c in h (omega arith, omega arith))
              (λ c. let d = ap number_of c in h (omega arith, omega arith))
              (λ S every b l r. h (rule-numbered S every b l y r)) (λ S every r. h (root-numbered S every y r)) e

          go : (n : ℕ) → number_of y ≡ n → (t : Bool) → ltb (number_of y) spent_fuel ≡ t → Ordinary y
          go zero z t f = absurd (not-otherwise (λ o. absurd (omega (arith, z, o.0))))
          go (suc n) z true f = (omega arith, ltb-true (number_of y) spent_fuel f)
          go (suc n) z false f = absurd (not-otherwise (λ o. absurd (omega (arith, o.1, ltb-false (number_of y) spent_fuel f))))

      pub resolve-ends : (y : Refusal) → resolve (order_of x trail_room text_room) budget (root_of x) (count_of x) ≡ refused y → 1 ≤ number_of y
      resolve-ends y e = (resolve-ordinary y e).0

      -- an answer, or a refusal with a number; never out of fuel
      pub resolve-holds : Holds (λ y. 1 ≤ number_of y) ⊥ (λ v S n. Unit {0}) (resolve (order_of x trail_room text_room) budget (root_of x) (count_of x))
      resolve-holds = go (resolve-wet (order_of x trail_room text_room) budget (root_of x) (count_of x) closed root_below) resolve-ends
        where
          go : {m : Res Refusal Answer Value} → Wet m → ((y : Refusal) → m ≡ refused y → 1 ≤ number_of y)
              → Holds (λ y. 1 ≤ number_of y) ⊥ (λ v S n. Unit {0}) m
          go (answers h) f = answers tt
          go (refuses h) f = refuses (f _ refl)
          go (dries h) f = absurd h
