-- The turns of the search for a key number among a path's.
use mathlib.Core.Path.{◌≡◌, sym, ap, ◌∙◌}
use Prim.Native.Nat.{ℕ, ◌+◌, ◌≤◌, ◌<◌}
use mathlib.Core.Bool.{true, false}
use mathlib.Core.List.{List}
use native.Mathlib.Omega.{arith}
use lib.ListN.{get_or}
use Rattle.answers.specs.Theory.Sound.{clash}
use Rattle.doc_items.specs.Writing.{ReadIs}
use Rattle.eval_keys.specs.Texts.{by_less}
use Rattle.eval_look_back.specs.Clauses.{HasKeyIs}

-- the number is none of the first ones
pub record Among (keys : List ℕ) (count key i : ℕ) : Type 0 where
  pub none : (j : ℕ) → j < i → get_or keys j 0 ≡ key → ⊥

pub key-start : {keys : List ℕ} {count key : ℕ} → Among keys count key 0
key-start {keys} {count} {key} = record { none = λ j l e. omega arith }

module _ {keys : List ℕ} {count key i : ℕ} (A : Among keys count key i) where
  pub key-absent : count ≤ i → HasKeyIs keys count key false
  key-absent m = record { there = λ e. clash (cc (e)); absent = λ e j l q. A.none j (omega arith) q }

  module _ {x : ℕ} (m : i < count) (r : ReadIs keys i x) where
    pub key-there : x ≡ key → HasKeyIs keys count key true
    key-there e = record { there = λ q. (i, m, sym r.is ∙ e); absent = λ q. clash (cc (q)) }

    pub key-next : (x ≡ key → ⊥) → Among keys count key (i + 1)
    key-next n = record {
      none = λ j l e. by_less ⊥ j i (λ d. A.none j d e) (λ d.
          let z : i ≡ j = omega arith in
          n (r.is ∙ ap (λ (k : ℕ). get_or keys k 0) z ∙ e));
    }

pub ruleset keys = (key-start, key-absent, key-there, key-next)
