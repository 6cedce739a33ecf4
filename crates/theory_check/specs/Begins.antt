-- A trail's records and texts begin those of every trail that goes on from it. So an accepted sheet begins with each entry that it calls for.
use Rattle.std.specs.Prelude.{◌≡◌, refl, ℕ, zero, suc, ◌+◌, ◌≤◌, ◌<◌, List, [], ◌∷◌, ◌++◌, Bool, true, false, ltb, length, take, drop}
use Rattle.std.proofs.Common.{sym, ◌∙◌, ap, append_assoc, append-nil, arith, length-append, take-append-drop, drop-drop, lt-ltb}
use Rattle.std.proofs.Math.Option.{Option, none, some}
use Rattle.std.proofs.Math.Seq.{take-append_seam, drop-append_seam}
use Rattle.answers.specs.Ask.{Trail}
use Rattle.answers.specs.Theory.Sound.{clash}
use Rattle.rules.specs.Values.{Answer}
use Rattle.rules.specs.Documents.{Setting}
use Rattle.rules.specs.Sheet.{pair_at, entry_record, answer_texts, entry_size, answer_text_size, trail_size, trail_text_size, trail_records, trail_texts}
use Rattle.rules.specs.Checking.{answer_for, entries_from}
use Rattle.theory.specs.Layout.{length-entry, length-answer_texts, length-trail_records, length-trail_texts}

-- ---- trails that go on

pub records-begin : (T S : Trail Answer) → (r : List ℕ) × (trail_records (T ++ S) ≡ trail_records S ++ r)
unfolding trail_records
records-begin [] S = ([], sym (append-nil (trail_records S)))
records-begin (e ∷ T) S =
    let (r, h) = records-begin T S in
    let entry = entry_record (trail_text_size (T ++ S)) e.0 e.1 in
    (r ++ entry, ap (λ (l : List ℕ). l ++ entry) h ∙ append_assoc (trail_records S) r entry)

pub texts-begin : (T S : Trail Answer) → (r : List ℕ) × (trail_texts (T ++ S) ≡ trail_texts S ++ r)
unfolding trail_texts
texts-begin [] S = ([], sym (append-nil (trail_texts S)))
texts-begin (e ∷ T) S =
    let (r, h) = texts-begin T S in
    (r ++ answer_texts e.1, ap (λ (l : List ℕ). l ++ answer_texts e.1) h ∙ append_assoc (trail_texts S) r (answer_texts e.1))

-- entries that are called for come upon those so far
pub entries-upon : (x : Setting) (trail : List ℕ) (n : ℕ) (S S' : Trail Answer) → entries_from n x trail S ≡ some S'
    → (T : Trail Answer) × (S' ≡ T ++ S)
unfolding entries_from
entries-upon x trail zero S S' e = ([], cc)
entries-upon x trail (suc n) S S' e =
    go (ltb (trail_size S) (length trail)) (answer_for x S b) e (λ a. entries-upon x trail n ((b, a) ∷ S) S')
  where
    b : ℕ
    b = pair_at trail (trail_size S + 1)

    go : (t : Bool) (o : Option Answer)
        → elim t as (λ t. Option (Trail Answer)) [
          | false ↦ some S
          | true ↦ elim o as (λ o. Option (Trail Answer)) [ none ↦ none | some a ↦ entries_from n x trail ((b, a) ∷ S) ]
        ] ≡ some S'
        → ((a : Answer) → entries_from n x trail ((b, a) ∷ S) ≡ some S' → (T : Trail Answer) × (S' ≡ T ++ ((b, a) ∷ S)))
        → (T : Trail Answer) × (S' ≡ T ++ S)
    go false o k ih = ([], cc)
    go true none k ih = clash (cc)
    go true (some a) k ih =
        let (T, h) = ih a k in
        (T ++ ((b, a) ∷ []), h ∙ sym (append_assoc T ((b, a) ∷ []) S))

-- where the number there has no answer none comes
pub entries-stop : (x : Setting) (trail : List ℕ) (n : ℕ) (S : Trail Answer) → trail_size S < length trail
    → answer_for x S (pair_at trail (trail_size S + 1)) ≡ none → entries_from (suc n) x trail S ≡ none
unfolding entries_from
entries-stop x trail n S more e = rw (entries_from, lt-ltb (trail_size S) (length trail) more, e)

-- ---- what a part begins with

-- a part of a list between two others
between : (p xs r : List ℕ) (n m : ℕ) → length p ≡ n → length xs ≡ m → take m (drop n (p ++ (xs ++ r))) ≡ xs
between p xs r n m e f = rw (← e, ← f, drop-append_seam p (xs ++ r)) (take-append_seam xs r)

-- and a list that has it there
joined : (l p xs : List ℕ) (n m : ℕ) → l ≡ p ++ drop n l → take m (drop n l) ≡ xs → l ≡ (p ++ xs) ++ drop (n + m) l
joined l p xs n m e f =
    e
    ∙ ap (λ (z : List ℕ). p ++ z) (sym (take-append-drop m (drop n l)) ∙ ap (λ (z : List ℕ). z ++ drop m (drop n l)) f)
    ∙ sym (append_assoc p xs (drop m (drop n l)))
    ∙ ap (λ (z : List ℕ). (p ++ xs) ++ z) (drop-drop m n l)

-- the parts begin with a trail's records and texts
pub record Begins (trail text : List ℕ) (S : Trail Answer) : Type 0 where
  pub records : trail ≡ trail_records S ++ drop (trail_size S) trail
  pub texts : text ≡ trail_texts S ++ drop (trail_text_size S) text

-- behind which an entry stands
pub record EntryAt (trail text : List ℕ) (S : Trail Answer) (b : ℕ) (a : Answer) : Type 0 where
  pub records : take (entry_size a) (drop (trail_size S) trail) ≡ entry_record (trail_text_size S) b a
  pub texts : take (answer_text_size a) (drop (trail_text_size S) text) ≡ answer_texts a

pub begins-none : (trail text : List ℕ) → Begins trail text []
unfolding trail_records trail_texts trail_size trail_text_size
begins-none trail text = record { records = refl; texts = refl }

pub begins-more : {trail text : List ℕ} {S : Trail Answer} {b : ℕ} {a : Answer} → Begins trail text S → EntryAt trail text S b a
    → Begins trail text ((b, a) ∷ S)
unfolding trail_records trail_texts trail_size trail_text_size
begins-more {trail} {text} {S} {b} {a} B E =
    let e : trail_size S + entry_size a ≡ entry_size a + trail_size S = omega arith in
    let f : trail_text_size S + answer_text_size a ≡ answer_text_size a + trail_text_size S = omega arith in
    record {
      records = rw e at (joined trail (trail_records S) (entry_record (trail_text_size S) b a) (trail_size S) (entry_size a) B.records E.records);
      texts = rw f at (joined text (trail_texts S) (answer_texts a) (trail_text_size S) (answer_text_size a) B.texts E.texts);
    }

-- parts that go on from an entry have it
pub entry_at : (S : Trail Answer) (b : ℕ) (a : Answer) (r m trail text : List ℕ) → trail ≡ trail_records ((b, a) ∷ S) ++ r
    → text ≡ trail_texts ((b, a) ∷ S) ++ m → EntryAt trail text S b a
unfolding trail_records trail_texts
entry_at S b a r m trail text e f =
    let entry = entry_record (trail_text_size S) b a in
    record {
      records = rw (e, append_assoc (trail_records S) entry r)
          (between (trail_records S) entry r (trail_size S) (entry_size a) (length-trail_records S) (length-entry (trail_text_size S) b a));
      texts = rw (f, append_assoc (trail_texts S) (answer_texts a) m)
          (between (trail_texts S) (answer_texts a) m (trail_text_size S) (answer_text_size a) (length-trail_texts S) (length-answer_texts a));
    }

-- so both parts have its length
pub entry-fits : {trail text : List ℕ} {S : Trail Answer} {b : ℕ} {a : Answer} → Begins trail text S → EntryAt trail text S b a
    → (trail_size S + entry_size a ≤ length trail) × (trail_text_size S + answer_text_size a ≤ length text)
unfolding trail_size trail_text_size
entry-fits {trail} {text} {S} {b} {a} B E =
    let M = begins-more B E in
    let S' : Trail Answer = (b, a) ∷ S in (
      omega (arith, ap length M.records, length-append (trail_records S') (drop (trail_size S') trail), length-trail_records S'),
      omega (arith, ap length M.texts, length-append (trail_texts S') (drop (trail_text_size S') text), length-trail_texts S'),
    )
