-- What stands in the room for a value, and what an answer of the code says in the rules' terms.
use Rattle.std.specs.Prelude.{◌≡◌, refl, Bool, true, false, ◌&&◌, List, leb}
use Rattle.std.proofs.Common.{sym, ◌∙◌, leb-true, leb-false, le-leb}
use Rattle.std.proofs.Math.Path.{ap}
use Prim.Native.Nat.{ℕ, ◌+◌, ◌≤◌, ◌<◌, min}
use Rattle.std.proofs.Math.Option.{none, some}
use native.Mathlib.Omega.{arith}
use Rattle.std.proofs.lemmas.Bool.{lt-leb}
use Rattle.answers.specs.Ask.{value, refused}
use Rattle.answers.specs.Theory.Sound.{clash}
use Rattle.rules.specs.Bytes.{Text}
use Rattle.rules.specs.Sizes.{max_nesting, max_records, max_text}
use Rattle.rules.specs.Refusals.{nowhere}
use Rattle.rules.specs.Values.{Value, Answer, nesting_of, record_size, text_size, within_size}
use Rattle.rules.specs.Settled.{Given}
use Rattle.theory.specs.SettledAnswers.{sized_in}
use Rattle.sheet_kept.specs.Kept.{Held, named}
use Rattle.eval_writer.specs.Clauses.{Room, Written, InRoom}
use Rattle.eval_writer.specs.Composition.{start, written-in-room}
use Rattle.eval_writer.specs.Building.{written-records, written-texts}
use Rattle.eval_results.specs.Extents.Contracts.{far}
use Rattle.eval_results.specs.Extents.Came.{Came}
use Rattle.eval_results.specs.Sizes.Contracts.{within_c, sized_c}
use Rattle.eval_results.specs.declared.extents.Extent.{Extent}
use Rattle.eval_results.specs.declared.sizes.Answered.{Answered}

-- v was written from the start of a room on, whatever its size. P is what the caller knows of values in the room, of their keys above all.
pub record ValueIn (key : ℕ → Text) (P : Held → Type 0) (room : List ℕ) (e : Extent) (v : Value) : Type 0 where
  pub held : Held
  pub good : P held
  pub is : named key held ≡ v
  pub before : List ℕ
  pub whole : Room before
  pub came : Came key held start e before room

-- ---- sizes

both_left : (s t : Bool) → s && t ≡ true → s ≡ true
both_left true t e = refl
both_left false t e = clash (cc)

both_right : (s t : Bool) → s && t ≡ true → t ≡ true
both_right true t e = e
both_right false t e = clash (cc)

pub within-nesting : (b : Extent) → within_c b ≡ true → b.deep ≤ max_nesting
unfolding within_c
within-nesting b e =
    leb-true b.deep max_nesting
    (both_left (leb b.deep max_nesting) (leb b.out.rec.0 max_records)
    (both_left (leb b.deep max_nesting && leb b.out.rec.0 max_records) (leb b.out.text.0 max_text) e))

-- what is within its size has room for its records and for its texts
pub within-records : (b : Extent) → within_c b ≡ true → b.out.rec.0 ≤ max_records
unfolding within_c
within-records b e =
    leb-true b.out.rec.0 max_records
    (both_right (leb b.deep max_nesting) (leb b.out.rec.0 max_records)
    (both_left (leb b.deep max_nesting && leb b.out.rec.0 max_records) (leb b.out.text.0 max_text) e))

pub within-texts : (b : Extent) → within_c b ≡ true → b.out.text.0 ≤ max_text
unfolding within_c
within-texts b e =
    leb-true b.out.text.0 max_text
    (both_right (leb b.deep max_nesting && leb b.out.rec.0 max_records) (leb b.out.text.0 max_text) e)

-- a counter that ends at a bound above the limit is within the limit where the count is
leb-clipped : (n limit : ℕ) → limit < far → leb (min far n) limit ≡ leb n limit
leb-clipped n limit l = go (leb n limit) refl
  where
    go : (t : Bool) → leb n limit ≡ t → leb (min far n) limit ≡ t
    go true e = let k = leb-true n limit e in le-leb (min far n) limit (omega arith)
    go false e = let k = leb-false n limit e in lt-leb (min far n) limit (omega arith)

module _ {key : ℕ → Text} {P : Held → Type 0} {room : List ℕ} {e : Extent} {v : Value} (h : ValueIn key P room e v) where
  -- the test is the rules'
  pub value-within : within_c e ≡ within_size v
  unfolding within_c within_size
  value-within =
      let c = h.came in
      let r : e.out.rec.0 ≡ min far (record_size v) = c.rec ∙ ap (λ (w : Value). min far (0 + record_size w)) h.is ∙ zero (record_size v) in
      let t : e.out.text.0 ≡ min far (text_size v) = c.text ∙ ap (λ (w : Value). min far (0 + text_size w)) h.is ∙ zero (text_size v) in
      let d : e.deep ≡ min far (nesting_of v) = c.deep ∙ ap (λ (w : Value). min far (nesting_of w)) h.is in
      rw (
        within_c,
        d,
        r,
        t,
        leb-clipped (nesting_of v) max_nesting (omega arith),
        leb-clipped (record_size v) max_records (omega arith),
        leb-clipped (text_size v) max_text (omega arith),
      )
    where
      zero : (n : ℕ) → min far (0 + n) ≡ min far n
      zero n = omega arith

  module _ (w : within_c e ≡ true) where
    -- then no counter came to its bound, and nothing of it was left out
    pub value_written : Written key h.held start e.out h.before room
    value_written =
        let m = within-records e w in
        let n = within-texts e w in
        h.came.exact (omega arith) (omega arith)

    pub value-records : e.out.rec.0 ≡ record_size v
    value-records = let r = written-records value_written in let z = ap record_size h.is in omega arith

    pub value-texts : e.out.text.0 ≡ text_size v
    value-texts = let r = written-texts value_written in let z = ap text_size h.is in omega arith

    pub value-stands : InRoom key h.held room e.out
    value-stands = written-in-room value_written h.whole (within-records e w) (within-texts e w)

-- ---- document 01's values and number for each case of an answer

abbrev pub AnswerCase : (ℕ → Text) → (Held → Type 0) → List ℕ → Given Answer → Answered → Type 0
AnswerCase key P room g (Answered.Value b) = (v : Value) × (g ≡ value (some v)) × ValueIn key P room b v × (within_c b ≡ true)
AnswerCase key P room g Answered.Undefined = g ≡ value none
AnswerCase key P room g Answered.TooLarge = g ≡ refused (nowhere 13)

pub record AnsweredIs (key : ℕ → Text) (P : Held → Type 0) (room : List ℕ) (g : Given Answer) (r : Answered) : Type 0 where
  pub is : AnswerCase key P room g r

pub sized-is : {key : ℕ → Text} {P : Held → Type 0} {room : List ℕ} {b : Extent} {v : Value} → ValueIn key P room b v
    → AnsweredIs key P room (sized_in (some v) (some v)) (sized_c b)
unfolding sized_in sized_c
sized-is {key} {P} {room} {b} {v} h = go (within_c b) refl
  where
    go : (t : Bool) → within_c b ≡ t → AnsweredIs key P room (sized_in (some v) (some v)) (sized_c b)
    go true e = record { is = rw (sized_c, e) (v, rw (sized_in, sym (value-within h) ∙ e), h, e) }
    go false e = record { is = rw (sized_c, e, sized_in, sym (value-within h) ∙ e) refl }
