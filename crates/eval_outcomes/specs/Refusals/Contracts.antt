-- What looking for the first refusal asks and promises.
use Rattle.std.specs.Prelude.{◌≡◌, ℕ, ◌≤◌, ◌<◌, List, length, get_or, take}
use Rattle.answers.specs.Ask.{Trail}
use Rattle.answers.specs.Theory.AheadTurns.{scanned}
use Rattle.rules.specs.Bytes.{Text}
use Rattle.rules.specs.Refusals.{Refusal, number_of, place_of}
use Rattle.rules.specs.Values.{Answer}
use Rattle.rules.specs.Unresolved.{Unresolved}
use Rattle.theory_order.specs.Clauses.{Task, rules_of}
use Rattle.text_chars.specs.declared.Refusal.{Refusal as Refused}
use Rattle.doc_items.specs.Room.{capacity}
use Rattle.read_numbering.specs.Clauses.{item_of}
use Rattle.eval_value_laws.specs.Clauses.{Left}
use Rattle.eval_state.specs.Memories.{job_bytes}
use Rattle.eval_question_laws.specs.Clauses.{Questioned}
use Rattle.eval_question_laws.specs.Work.{Lent}

-- the item of question i of the list, the oldest first
abbrev pub item_at : List ℕ → List ℕ → ℕ → ℕ
item_at T L i = item_of T (get_or L i 0)

pub record RefusalAsked (T B E w room L : List ℕ) (base n : ℕ) : Type 0 where
  pub lent : Lent B E w room base
  pub bytes : job_bytes ≤ length B
  pub long : n ≤ length L
  pub items : (i : ℕ) → i < n → (0 < item_at T L i) × (item_at T L i < capacity)

-- the first n questions of the list stand in the memory
abbrev pub Posed : Task → (ℕ → Text) → ℕ → (T B E : List ℕ) (S : Trail Answer) (base : ℕ) (L : List ℕ) → ℕ → Type 0
Posed t key items T B E S base L n = (i : ℕ) → i < n → (u : Unresolved) × Questioned t.setting key items T B E S base (item_at T L i) (get_or L i 0) u

abbrev pub RefusesAs : Refusal → Refused → Type 0
RefusesAs y r = (r.number ≡ number_of y) × (r.place.0 ≡ place_of y)

pub record RefusalIs (T E L : List ℕ) (base n number place : ℕ) (w w' B : List ℕ) (r : Refused) : Type 0 where
  pub left : Left base w w'
  pub is : (t : Task) (key : ℕ → Text) (items : ℕ) (S : Trail Answer) → Posed t key items T B E S base L n
      → (y : Refusal) → number ≡ number_of y → place ≡ place_of y → RefusesAs (scanned (rules_of t) (take n L) S y) r
