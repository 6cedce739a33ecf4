-- What stands in a job's memory between two steps: the document, and the answers of the trail, each where its public record is in the trail;
-- their texts are the sheet's so far.
use Rattle.std.specs.Prelude.{◌≡◌, ◌⊎◌, List, ◌++◌, ℕ, ◌+◌, ◌≤◌, ◌<◌, length, get_or, drop}
use Rattle.std.proofs.Common.{inl, inr, arith}
use Rattle.std.proofs.Math.Option.{Option, none, some}
use Rattle.std.proofs.lemmas.List.Edits.{sets}
use Rattle.std.proofs.Math.Seq.{length-sets}
use Rattle.answers.specs.Ask.{Trail, lookup}
use Rattle.rules.specs.Bytes.{Text}
use Rattle.rules.specs.Sizes.{max_unresolved, max_room}
use Rattle.rules.specs.Values.{Answer, record_size}
use Rattle.rules.specs.Sheet.{texts, trail_size, trail_text_size, trail_texts}
use Rattle.rules.specs.Documents.{Setting}
use Rattle.theory.specs.TrailAnswers.{answer_at, answer_text_at, answer-in}
use Rattle.doc_items.specs.Room.{answers_at, sheet_at, trail_at}
use Rattle.eval_memory.specs.Keys.{KeyNumber}
use Rattle.eval_memory.specs.Finished.{Memory}
use Rattle.eval_memory.specs.Tables.{AnswerAt, Tables}
use Rattle.eval_state.specs.Memories.{answers_of, pair_of}
use Rattle.eval_state.specs.Documents.{DocumentIn, document-stored}
use Rattle.eval_state.specs.Values.{KeptAt, Apart, kept-still}

-- an answer, and the table's number for it
abbrev pub AnswerIn : Memory → Trail Answer → ℕ → Option Answer → ℕ → Type 0
AnswerIn M S b none a = a ≡ 0
AnswerIn M S b (some none) a = a ≡ 1
AnswerIn M S b (some (some v)) a = (a ≡ answer_at S b + 2) × KeptAt M v (answer_at S b) (answer_text_at S b)

pub record State (x : Setting) (key : ℕ → Text) (items : ℕ) (T B : List ℕ) (S : Trail Answer) : Type 0 where
  pub document : DocumentIn x key items T B
  pub answers : (b : ℕ) → b < max_unresolved → AnswerIn (answers_of key items T B) S b (lookup S b) (get_or T (answers_at + b) 0)
  -- the sheet's text so far, and what is not used yet
  pub more : List ℕ
  pub sheet : drop sheet_at B ≡ trail_texts S ++ more
  -- it fits, and so do the records
  pub few : trail_size S ≤ max_room
  pub small : trail_text_size S ≤ max_room

-- ---- so the tables show the trail's answers

module _ {x : Setting} {key : ℕ → Text} {items : ℕ} {T B : List ℕ} {S : Trail Answer} (H : State x key items T B S) where
  answer-at : (b : ℕ) (k : Option Answer) (a : ℕ) → AnswerIn (answers_of key items T B) S b k a → AnswerAt (answers_of key items T B) k a
  answer-at b none a y = y
  answer-at b (some none) a y = y
  answer-at b (some (some v)) a y = (answer_at S b, y.0, y.1.value)

  pub state-tables : Tables (answers_of key items T B) (lookup S)
  state-tables = record {
    stored = document-stored H.document trail_at sheet_at max_unresolved;
    answers = λ b l. answer-at b (lookup S b) (get_or T (answers_at + b) 0) (H.answers b l);
  }

  -- of the pair none is asked
  pub pair-tables : (known : ℕ → Option Answer) → Tables (pair_of key items T B) known
  pair-tables known = record { stored = document-stored H.document _ _ 0; answers = λ b l. absurd (omega arith) }

-- ---- answers stay while others are kept

module _ {x : Setting} {key : ℕ → Text} {items : ℕ} {T B : List ℕ} {S : Trail Answer} (H : State x key items T B S) (T' : List ℕ)
    (keys : (k : ℕ) → KeyNumber T (items + 1) k → KeyNumber T' (items + 1) k) (p : ℕ) (xs : List ℕ) (q : ℕ) (tx : List ℕ) where
  -- records that are set behind those of the trail, texts behind its texts
  pub record Behind : Type 0 where
    pub records : trail_at + trail_size S ≤ p
    pub texts : sheet_at + trail_text_size S ≤ q
    pub apart : (q + length tx ≤ trail_at) ⊎ (trail_at + max_room ≤ q)

  pub answer-still : Behind → (b : ℕ) (k : Option Answer) (a : ℕ) → lookup S b ≡ k → AnswerIn (answers_of key items T B) S b k a
      → AnswerIn (answers_of key items T' (sets (sets B p xs) q tx)) S b k a
  answer-still F b none a e y = y
  answer-still F b (some none) a e y = y
  answer-still F b (some (some v)) a e y =
      let i = answer-in S b v e in
      let r = i.records-end in
      let u = i.texts-end in
      let z = length-sets B p xs in
      let f = F.records in
      let g = F.texts in
      let one = kept-still key items trail_at sheet_at max_unresolved T' p xs keys y.1 (inr (omega arith)) (inr (omega (arith, H.small))) in
      (y.0, kept-still key items trail_at sheet_at max_unresolved T' q tx (λ k n. n) one (other F.apart r) (inr (omega arith)))
    where
      other : (q + length tx ≤ trail_at) ⊎ (trail_at + max_room ≤ q) → answer_at S b + record_size v ≤ trail_size S
          → Apart q (length tx) (trail_at + answer_at S b) (record_size v)
      other (inl l) r = inl (omega arith)
      other (inr l) r = inr (omega (arith, H.few))
