-- Laws of the next entry, and of the trail.
use mathlib.Core.Path.{◌≡◌, refl, subst, ◌∙◌}
use Prim.Native.Nat.{ℕ, ◌-◌, ◌≤◌, ◌<◌}
use mathlib.Core.List.{List, []}
use native.Mathlib.Omega.{arith}
use lib.ListN.{length}
use Rattle.std.specs.Prelude.{Option as Maybe, Some, None}
use Rattle.answers.specs.Ask.{Trail}
use Rattle.rules.specs.Bytes.{Text}
use Rattle.rules.specs.Sizes.{max_unresolved}
use Rattle.rules.specs.Values.{Answer}
use Rattle.rules.specs.Documents.{Setting, count_of}
use Rattle.rules.specs.Sheet.{trail_size, trail_text_size}
use Rattle.theory_check.specs.Steps.{check-none}
use Rattle.eval_state.specs.Index.{ItemIs}
use Rattle.eval_results.specs.declared.sizes.Outcome.{Outcome}
use Rattle.eval_question_laws.specs.Clauses.{Asked}
use Rattle.eval_unresolved.specs.Clauses.{OutcomeIs}
use Rattle.eval_state.specs.State.{State}
use Rattle.check_entries.specs.Clauses as entry
use Rattle.check_entries.specs.declared.Reached.{Reached}
use Rattle.job_check.specs.Trails.Contracts.{Known, TrailAsked, CaseAsked, CaseIs, EntryAsked, EntryIs, TrailIs}
use Rattle.job_check.proofs.trails.Numbers.{NumberAsked, outcome-asked, case-asked, number_is}

abbrev pub reached : ℕ → ℕ → Reached
reached u t = record { used = record { 0 = u }; text = record { 0 = t } }

-- ---- the next entry

module _ {T B E w room : List ℕ} {count : ℕ} {at : Reached} {trail text : List ℕ} (A : EntryAsked T B E w room count at trail text) where
  pub next-asked : entry.NextAsked trail at.used.0 count
  next-asked = record { short = A.lent.trail-short; inside = A.used; few = A.lent.few }

  module _ {n : Maybe ℕ} (M : entry.NextIs T trail at.used.0 count n) where
    -- what was matched
    is-so : {q : Maybe ℕ} → n ≡ q → entry.NextIs T trail at.used.0 count q
    is-so e = subst (λ (q : Maybe ℕ). entry.NextIs T trail at.used.0 count q) e M

    pub entry-wrong : n ≡ None → EntryIs E count at trail text T T B B None
    entry-wrong q = record {
      is = λ x key items S K c R l. (is-so q).is x key items B text S R.state R.check R.used l c;
      further = tt;
    }

    module _ {b : ℕ} (q : n ≡ Some b) where
      number-asked : NumberAsked T B E w room b at trail text
      number-asked =
          let L = A.lent in
          let N = is-so q in
          record {
            lent = record {
              whole = L.whole;
              table = L.table;
              bytes = L.bytes;
              most = L.most;
              environment = L.environment;
              work = L.work;
              few = omega (arith, N.inside.0, L.few);
              trail-short = L.trail-short;
              text-short = L.text-short;
            };
            number = omega (arith, N.inside.0, L.few);
            entry = N.inside.1;
            texts = A.texts;
          }

      pub entry-low : b < max_unresolved
      entry-low = number-asked.number

      module _ {item : ℕ} (I : ItemIs T b item) where
        pub entry-asks : Asked B E w room 0 item
        entry-asks = outcome-asked number-asked I

        module _ {w' B₁ after : List ℕ} {o : Outcome} (O : OutcomeIs T E 0 item w w' B B₁ o after) where
          pub entry_case : CaseAsked T B₁ after o b at trail text
          entry_case = case-asked number-asked I O

          pub entry-number : {T' B' : List ℕ} {r : Maybe Reached} → CaseIs after o b at trail text T T' B₁ B' r → EntryIs E count at trail text T T' B B' r
          entry-number P =
              let N = number_is number-asked I O P in
              record {
                is = λ x key items S K c R l. N.is x key items S K R ((is-so q).is x key items B text S R.state R.check R.used l c);
                further = N.further;
              }

pub ruleset entries = (next-asked, entry-wrong, entry-low, entry-asks, entry_case, entry-number)

-- ---- the trail

-- the entries so far are right, for whatever document stood in memory at the start
pub record TrailInv (E : List ℕ) (count : ℕ) (trail text T₀ B₀ w₀ room₀ T B w room : List ℕ) (at : Reached) : Type 0 where
  pub lent : TrailAsked T B E w room count trail text
  pub is : (x : Setting) (key : ℕ → Text) (items : ℕ) → Known x E → count ≡ count_of x → State x key items T₀ B₀ []
      → (S : Trail Answer) × entry.Right x key items T B trail text at S
  pub used-in : at.used.0 ≤ length trail
  pub texts-in : at.text.0 ≤ length text
  pub table_kept : length T ≡ length T₀
  pub bytes-kept : length B ≡ length B₀
  pub work-kept : length w ≡ length w₀
  pub room-kept : length room ≡ length room₀

pub trail-start : {T B E w room : List ℕ} {count : ℕ} {trail text : List ℕ} → TrailAsked T B E w room count trail text
    → TrailInv E count trail text T B w room T B w room (reached 0 0)
unfolding trail_size trail_text_size
trail-start {trail = trail} {text = text} A = record {
  lent = A;
  is = λ x key items K c H. ([], record { state = H; check = check-none x trail text; used = refl; text-used = refl });
  used-in = omega arith;
  texts-in = omega arith;
  table_kept = refl;
  bytes-kept = refl;
  work-kept = refl;
  room-kept = refl;
}

module _ {E : List ℕ} {count : ℕ} {trail text T₀ B₀ w₀ room₀ T B w room : List ℕ} {at : Reached}
    (I : TrailInv E count trail text T₀ B₀ w₀ room₀ T B w room at) where
  pub entry-asked : EntryAsked T B E w room count at trail text
  entry-asked = record { lent = I.lent; used = I.used-in; texts = I.texts-in }

  module _ (l : at.used.0 < length trail) {T' B' : List ℕ} {r : Maybe Reached} (M : EntryIs E count at trail text T T' B B' r) where
    entry-so : {q : Maybe Reached} → r ≡ q → EntryIs E count at trail text T T' B B' q
    entry-so e = subst (λ (q : Maybe Reached). EntryIs E count at trail text T T' B B' q) e M

    pub trail-wrong : {w' room' : List ℕ} → r ≡ None → TrailIs E count trail text T₀ T' B₀ B' w' room' None
    trail-wrong q = record {
      is = λ x key items K c H. let (S, R) = I.is x key items K c H in (entry-so q).is x key items S K c R l;
      behind = tt;
    }

    module _ {to : Reached} (q : r ≡ Some to) where
      pub trail-on : {w' room' : List ℕ} → length T' ≡ length T → length B' ≡ length B → length w' ≡ length w → length room' ≡ length room
          → TrailInv E count trail text T₀ B₀ w₀ room₀ T' B' w' room' to
      trail-on a b c d =
          let L = I.lent in
          let P = entry-so q in
          record {
            lent = record {
              whole = d ∙ L.whole;
              table = omega (arith, L.table);
              bytes = omega (arith, L.bytes);
              most = omega (arith, L.most);
              environment = L.environment;
              work = omega (arith, L.work);
              few = L.few;
              trail-short = L.trail-short;
              text-short = L.text-short;
            };
            is = λ x key items K c H. let (S, R) = I.is x key items K c H in P.is x key items S K c R l;
            used-in = P.further.1;
            texts-in = P.further.2;
            table_kept = a ∙ I.table_kept;
            bytes-kept = b ∙ I.bytes-kept;
            work-kept = c ∙ I.work-kept;
            room-kept = d ∙ I.room-kept;
          }

      pub trail-less : length trail - to.used.0 < length trail - at.used.0
      trail-less = let P = entry-so q in omega (arith, P.further.0, P.further.1)

  pub trail-ends : length trail ≤ at.used.0 → TrailIs E count trail text T₀ T B₀ B w room (Some at)
  trail-ends l = record {
    is = λ x key items K c H. let (S, R) = I.is x key items K c H in (S, R, omega (arith, R.used));
    behind = record { lent = I.lent; texts = I.texts-in };
  }

pub ruleset trails = (trail-start, entry-asked, trail-wrong, trail-on, trail-less, trail-ends)
