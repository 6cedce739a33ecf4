-- Answers where the trail has them: an answered value stands inside the trail's records, its texts inside the trail's texts, whatever goes
-- on behind them, and later entries do not move it. So what is proved of look-up holds of it there.
use Rattle.std.specs.Prelude.{◌≡◌, ℕ, ◌+◌, ◌≤◌, List, [], ◌∷◌, ◌++◌, Bool, true, false, cond, leb, eqb}
use Rattle.std.proofs.Math.Path.{refl}
use Rattle.std.proofs.Common.{◌∙◌, ap, append_assoc, arith}
use Rattle.std.proofs.Math.Option.{some}
use borrow.Author.Tests.{eq-eqb, ne_eqb, leb-true}
use Rattle.answers.specs.Ask.{Trail, lookup, Once}
use Rattle.answers.specs.Theory.Sound.{clash}
use Rattle.answers.specs.Theory.Invariant.{Every}
use Rattle.rules.specs.Sizes.{max_room}
use Rattle.rules.specs.Bytes.{Text, At}
use Rattle.rules.specs.Values.{Value, Answer, record_size, text_size}
use Rattle.rules.specs.Sheet.{two, records, texts, entry_record, answer_texts, entry_size, answer_text_size}
use Rattle.rules.specs.Sheet.{trail_size, trail_text_size, trail_records, trail_texts, trail_fits}
use Rattle.theory.specs.Layout.{both_true, length-trail_records, length-trail_texts}
use Rattle.theory.specs.Ends.{WithinSize, nested}
use Rattle.theory.specs.SameMeaning.{at_right, at-end}
use Rattle.rules.specs.NamedValues.{Stands}

-- ---- places

-- where the records of a number's answer begin, behind the three bytes of its entry; the newest entry of that number first
unfoldable pub answer_at : Trail Answer → ℕ → ℕ
unfolding trail_size
answer_at [] b = 0
answer_at (e ∷ S) b = cond (eqb e.0 b) (trail_size S + 3) (answer_at S b)

-- and where its texts begin
unfoldable pub answer_text_at : Trail Answer → ℕ → ℕ
unfolding trail_text_size
answer_text_at [] b = 0
answer_text_at (e ∷ S) b = cond (eqb e.0 b) (trail_text_size S) (answer_text_at S b)

module _ (e : ℕ × Answer) (S : Trail Answer) (b : ℕ) where
  first-at : eqb e.0 b ≡ true → answer_at (e ∷ S) b ≡ trail_size S + 3
  unfolding answer_at
  first-at q = rw (answer_at, q)

  first-text-at : eqb e.0 b ≡ true → answer_text_at (e ∷ S) b ≡ trail_text_size S
  unfolding answer_text_at
  first-text-at q = rw (answer_text_at, q)

  -- another's entry does not move it
  pub answer-stays : eqb e.0 b ≡ false → answer_at (e ∷ S) b ≡ answer_at S b
  unfolding answer_at
  answer-stays q = rw (answer_at, q)

  pub answer-text-stays : eqb e.0 b ≡ false → answer_text_at (e ∷ S) b ≡ answer_text_at S b
  unfolding answer_text_at
  answer-text-stays q = rw (answer_text_at, q)

module _ (S : Trail Answer) (b : ℕ) (a : Answer) where
  -- a new answer is behind the trail so far
  pub answer-new : answer_at ((b, a) ∷ S) b ≡ trail_size S + 3
  answer-new = first-at (b, a) S b (eq-eqb b b refl)

  pub answer-text-new : answer_text_at ((b, a) ∷ S) b ≡ trail_text_size S
  answer-text-new = first-text-at (b, a) S b (eq-eqb b b refl)

  -- any number of new entries leave it as it is, and where it is
  pub answer-kept : (T : Trail Answer) → Once (T ++ S) → lookup S b ≡ some a
      → (lookup (T ++ S) b ≡ some a) × (answer_at (T ++ S) b ≡ answer_at S b) × (answer_text_at (T ++ S) b ≡ answer_text_at S b)
  answer-kept [] once h = (h, refl, refl)
  answer-kept (e ∷ T) once h =
      let (f, g, k) = answer-kept T once.1 h in
      let other : eqb e.0 b ≡ false = ne_eqb e.0 b (λ q. clash (cc once.0)) in
      (rw other f, answer-stays e (T ++ S) b other ∙ g, answer-text-stays e (T ++ S) b other ∙ k)

-- ---- what stands there

pub at_more : {s : List ℕ} {o : ℕ} (t : Text) (r : List ℕ) → At s o t → At (s ++ r) o t
at_more t r (before, after, l, e) =
    (before, after ++ r, l, ap (λ z. z ++ r) e ∙ append_assoc before (t ++ after) r ∙ ap (λ z. before ++ z) (append_assoc t after r))

-- a value stands in a table and a text part that go on
pub stands-more : (table text rest rest' : List ℕ) (v : Value) (at : ℕ) → Stands table text v at
    → Stands (table ++ rest) (text ++ rest') v at
stands-more table text rest rest' v at s = record {
  offset = s.offset;
  in_table = at_more (records s.offset v) rest s.in_table;
  in-text = at_more (texts v) rest' s.in-text;
  small = s.small;
  few = s.few;
  shallow = s.shallow;
}

-- a value's records and texts are parts of the trail's
pub record InTrail (S : Trail Answer) (v : Value) (o at : ℕ) : Type 0 where
  pub in-records : At (trail_records S) at (records o v)
  pub in-texts : At (trail_texts S) o (texts v)
  pub records-end : at + record_size v ≤ trail_size S
  pub texts-end : o + text_size v ≤ trail_text_size S

-- those of a new entry end it
entry_in : (S : Trail Answer) (b : ℕ) (a : Answer) (v : Value) → a ≡ some v → InTrail ((b, a) ∷ S) v (trail_text_size S) (trail_size S + 3)
unfolding trail_records trail_texts trail_size trail_text_size entry_record answer_texts entry_size answer_text_size two
entry_in S b a v e =
    let o = trail_text_size S in
    let entry = at-end (trail_records S) (9 ∷ two b ++ records o v) (trail_size S) (length-trail_records S) in
    rw e record {
      in-records = at_right (9 ∷ two b) (records o v) (trail_size S + 3) refl entry;
      in-texts = at-end (trail_texts S) (texts v) o (length-trail_texts S);
      records-end = omega arith;
      texts-end = omega arith;
    }

-- those of others are where they were
older-in : (e : ℕ × Answer) (S : Trail Answer) (v : Value) (o at : ℕ) → InTrail S v o at → InTrail (e ∷ S) v o at
unfolding trail_records trail_texts trail_size trail_text_size
older-in e S v o at s = record {
  in-records = at_more (records o v) (entry_record (trail_text_size S) e.0 e.1) s.in-records;
  in-texts = at_more (texts v) (answer_texts e.1) s.in-texts;
  records-end = omega (arith, s.records-end);
  texts-end = omega (arith, s.texts-end);
}

pub answer-in : (S : Trail Answer) (b : ℕ) (v : Value) → lookup S b ≡ some (some v) → InTrail S v (answer_text_at S b) (answer_at S b)
answer-in [] b v h = clash (cc)
answer-in (e ∷ S) b v h = go (eqb e.0 b) refl h (answer-in S b v)
  where
    go : (t : Bool) → eqb e.0 b ≡ t → cond t (some e.1) (lookup S b) ≡ some (some v)
        → (lookup S b ≡ some (some v) → InTrail S v (answer_text_at S b) (answer_at S b))
        → InTrail (e ∷ S) v (answer_text_at (e ∷ S) b) (answer_at (e ∷ S) b)
    go true q k ih = rw (first-at e S b q, first-text-at e S b q) (entry_in S e.0 e.1 v (cc))
    go false q k ih =
        rw (answer-stays e S b q, answer-text-stays e S b q) (older-in e S v (answer_text_at S b) (answer_at S b) (ih k))

module _ (S : Trail Answer) (fits : trail_fits max_room max_room S ≡ true) (every : Every WithinSize S) (b : ℕ) (v : Value)
    (its-answer : lookup S b ≡ some (some v)) (rest rest' : List ℕ) where
  -- an answered value stands in the trail's records and texts, whatever goes on behind them
  pub answer-stands : Stands (trail_records S ++ rest) (trail_texts S ++ rest') v (answer_at S b)
  unfolding trail_fits
  answer-stands =
      let s = answer-in S b v its-answer in
      let (f, g) = both_true (leb (trail_size S) max_room) (leb (trail_text_size S) max_room) fits in
      let few = leb-true (trail_size S) max_room f in
      let small = leb-true (trail_text_size S) max_room g in
      stands-more (trail_records S) (trail_texts S) rest rest' v (answer_at S b) record {
        offset = answer_text_at S b;
        in_table = s.in-records;
        in-text = s.in-texts;
        small = omega (arith, s.texts-end);
        few = omega (arith, s.records-end);
        shallow = nested v (every b (some v) its-answer);
      }

  pub answer-offset : answer-stands.offset ≡ answer_text_at S b
  unfolding answer-stands stands-more
  answer-offset = refl
