-- A job's memory some steps later: the document, and the records and texts that were in use, are as they were. So what stood there stands
-- there still: finished values, and all that holds between two steps.
use Rattle.std.specs.Prelude.{◌≡◌, refl, List, [], ◌∷◌, ◌++◌, ℕ, suc, ◌+◌, ◌≤◌, ◌<◌, length, get_or, set, drop}
use Rattle.std.proofs.Common.{sym, ap, ◌∙◌, arith, length-set, length-drop, drop-cons, get_or-set_other}
use Rattle.std.proofs.Math.Option.{Option, none, some}
use Rattle.answers.specs.Ask.{Trail, lookup}
use Rattle.rules.specs.Bytes.{Text}
use Rattle.rules.specs.Sizes.{max_unresolved, max_room}
use Rattle.rules.specs.Values.{Value, Answer, record_size, text_size}
use Rattle.rules.specs.Sheet.{texts, trail_size, trail_text_size, trail_texts}
use Rattle.rules.specs.Documents.{Setting}
use Rattle.theory.specs.Layout.{length-texts, length-trail_texts}
use Rattle.theory.specs.TrailAnswers.{answer-in}
use Rattle.sheet_kept.specs.Kept.{named, kept}
use Rattle.sheet_kept.proofs.Sizes.{kept-records}
use Rattle.doc_items.specs.Room.{answers_at, sheet_at, trail_at, bytes_room}
use Rattle.eval_memory.specs.Keys.{KeyNumber}
use Rattle.eval_memory.specs.Finished.{SettledAt}
use Rattle.eval_state.specs.Memories.{begun_at, memory_used, answers_of}
use Rattle.eval_state.specs.Documents.{SameDocument, document-stays, key-number}
use Rattle.eval_state.specs.Values.{KeptAt, each-key}
use Rattle.eval_state.specs.State.{AnswerIn, State}

pub record Later (T B : List ℕ) (S : Trail Answer) (T' B' : List ℕ) (S' : Trail Answer) : Type 0 where
  pub document : SameDocument T T' B B'
  pub records : (j d : ℕ) → j < trail_size S → get_or B' (trail_at + j) d ≡ get_or B (trail_at + j) d
  pub texts : (j d : ℕ) → j < trail_text_size S → get_or B' (sheet_at + j) d ≡ get_or B (sheet_at + j) d
  -- more may be in use
  pub more : trail_size S ≤ trail_size S'
  pub more-texts : trail_text_size S ≤ trail_text_size S'

pub later_same : (T B : List ℕ) (S : Trail Answer) → Later T B S T B S
later_same T B S = record {
  document = record { numbers = λ j l o. refl; table = refl; texts = λ p d l. refl; bytes = refl };
  records = λ j d l. refl;
  texts = λ j d l. refl;
  more = omega arith;
  more-texts = omega arith;
}

pub later-then : {T B : List ℕ} {S : Trail Answer} {T' B' : List ℕ} {S' : Trail Answer} {T'' B'' : List ℕ} {S'' : Trail Answer}
    → Later T B S T' B' S' → Later T' B' S' T'' B'' S'' → Later T B S T'' B'' S''
later-then L K = record {
  document = record {
    numbers = λ j l o. K.document.numbers j l o ∙ L.document.numbers j l o;
    table = K.document.table ∙ L.document.table;
    texts = λ p d l. K.document.texts p d l ∙ L.document.texts p d l;
    bytes = K.document.bytes ∙ L.document.bytes;
  };
  records = λ j d l. K.records j d (omega (arith, L.more)) ∙ L.records j d l;
  texts = λ j d l. K.texts j d (omega (arith, L.more-texts)) ∙ L.texts j d l;
  more = omega (arith, L.more, K.more);
  more-texts = omega (arith, L.more-texts, K.more-texts);
}

-- ---- two steps that leave the trail as it is

-- a mark is set
pub later-marked : (T B : List ℕ) (S : Trail Answer) (i a : ℕ) → begun_at ≤ i → Later T B S (set T i a) B S
later-marked T B S i a l = record {
  document = record { numbers = λ j h o. get_or-set_other T i j a 0 (λ e. omega arith); table = length-set T i a; texts = λ p d h. refl; bytes = refl };
  records = λ j d h. refl;
  texts = λ j d h. refl;
  more = omega arith;
  more-texts = omega arith;
}

-- bytes change behind the trail's room
pub later-beside : (T B B' : List ℕ) (S : Trail Answer) → trail_size S ≤ max_room → trail_text_size S ≤ max_room → length B' ≡ length B
    → ((j d : ℕ) → j < bytes_room → get_or B' j d ≡ get_or B j d) → Later T B S T B' S
later-beside T B B' S few small len same = record {
  document = record { numbers = λ j l o. refl; table = refl; texts = λ p d l. same p d (omega arith); bytes = len };
  records = λ j d l. same (trail_at + j) d (omega arith);
  texts = λ j d l. same (sheet_at + j) d (omega arith);
  more = omega arith;
  more-texts = omega arith;
}

-- ---- what stands in bytes that are as they were

pub front_same : (xs : List ℕ) (p : ℕ) (B B' rest : List ℕ) → length B' ≡ length B → drop p B ≡ xs ++ rest
    → ((j : ℕ) → j < length xs → get_or B' (p + j) 0 ≡ get_or B (p + j) 0) → drop p B' ≡ xs ++ drop (p + length xs) B'
front_same [] p B B' rest len e f = let z : p ≡ p + 0 = omega arith in ap (λ (i : ℕ). drop i B') z
front_same (x ∷ xs) p B B' rest len e f =
    let n = ap length e in
    let m = length-drop p B in
    let h : get_or B p 0 ∷ drop (suc p) B ≡ x ∷ (xs ++ rest) = sym (drop-cons B p 0 (omega arith)) ∙ e in
    let z : p + 0 ≡ p = omega arith in
    let a : get_or B' p 0 ≡ get_or B p 0 = rw z at (f 0 (omega arith)) in
    let b : get_or B p 0 ≡ x = cc (h) in
    let c : drop (suc p) B ≡ xs ++ rest = cc (h) in
    let more = front_same xs (suc p) B B' rest len c (next f) in
    let y : suc p + length xs ≡ p + suc (length xs) = omega arith in
    drop-cons B' p 0 (omega arith) ∙ ap (λ (i : ℕ). i ∷ drop (suc p) B') (a ∙ b) ∙ ap (λ (r : List ℕ). x ∷ r) (more ∙ ap (λ (i : ℕ). xs ++ drop i B') y)
  where
    next : ((j : ℕ) → j < suc (length xs) → get_or B' (p + j) 0 ≡ get_or B (p + j) 0) → (j : ℕ) → j < length xs → get_or B' (suc p + j) 0 ≡ get_or B (suc p + j) 0
    next f j l = let z : p + suc j ≡ suc p + j = omega arith in rw z at (f (suc j) (omega arith))

module _ (key : ℕ → Text) (items rb tb a f g f' g' : ℕ) {T B : List ℕ} (T' B' : List ℕ)
    (keys : (k : ℕ) → KeyNumber T (items + 1) k → KeyNumber T' (items + 1) k) (len : length B' ≡ length B) (n m : ℕ)
    (records : (j d : ℕ) → j < n → get_or B' (rb + j) d ≡ get_or B (rb + j) d) (texts-same : (j d : ℕ) → j < m → get_or B' (tb + j) d ≡ get_or B (tb + j) d)
    (high : n ≤ f') (high-text : m ≤ g') where
  -- a finished value
  pub settled-later : {v : Value} {o : ℕ} (s : SettledAt (memory_used key items T B rb tb a f g) v o) → o + record_size v ≤ n → s.text + text_size v ≤ m
      → KeptAt (memory_used key items T' B' rb tb a f' g') v o s.text
  settled-later {v} {o} s l u =
      let h = s.held in
      let t = s.text in
      let x : length (kept key t h) ≡ record_size v = kept-records key t h ∙ ap record_size s.is in
      let y : length (texts (named key h)) ≡ text_size v = length-texts (named key h) ∙ ap text_size s.is in
      record {
        value = record {
          held = h;
          is = s.is;
          keys = each-key keys h s.keys;
          text = t;
          stands = record {
            rest = drop (rb + o + length (kept key t h)) B';
            after = drop (tb + t + length (texts (named key h))) B';
            records = front_same (kept key t h) (rb + o) B B' s.stands.rest len s.stands.records
                (λ j z. let e : rb + (o + j) ≡ rb + o + j = omega arith in rw e at (records (o + j) 0 (omega arith)));
            text = front_same (texts (named key h)) (tb + t) B B' s.stands.after len s.stands.text
                (λ j z. let e : tb + (t + j) ≡ tb + t + j = omega arith in rw e at (texts-same (t + j) 0 (omega arith)));
            inside = omega (arith, s.stands.inside);
            small = s.stands.small;
            few = s.stands.few;
          };
          inside = s.inside;
          upto = s.upto;
          used = omega arith;
          used-text = omega arith;
          size = s.size;
          nesting = s.nesting;
          distinct = s.distinct;
        };
        text = refl;
      }

-- ---- all that holds between two steps, where the trail and its answers' numbers are as they were

module _ {x : Setting} {key : ℕ → Text} {items : ℕ} {T B : List ℕ} {S : Trail Answer} (H : State x key items T B S) {T' B' : List ℕ}
    (L : Later T B S T' B' S) (same : (b : ℕ) → b < max_unresolved → get_or T' (answers_at + b) 0 ≡ get_or T (answers_at + b) 0) where
  still : (b : ℕ) (k : Option Answer) (a : ℕ) → lookup S b ≡ k → AnswerIn (answers_of key items T B) S b k a → AnswerIn (answers_of key items T' B') S b k a
  still b none a e y = y
  still b (some none) a e y = y
  still b (some (some v)) a e y =
      let i = answer-in S b v e in
      let w = y.1.text in
      let z = settled-later key items trail_at sheet_at max_unresolved max_room max_room max_room max_room T' B'
      (λ k K. key-number L.document (items + 1) k (omega (arith, H.document.few)) K) L.document.bytes (trail_size S) (trail_text_size S)
      L.records L.texts H.few H.small y.1.value i.records-end (omega (arith, i.texts-end)) in
      (y.0, record { value = z.value; text = z.text ∙ w })

  pub state-later : State x key items T' B' S
  state-later =
      let n = length-trail_texts S in
      record {
        document = document-stays L.document H.document;
        answers = λ b l. rw (same b l) (still b (lookup S b) (get_or T (answers_at + b) 0) refl (H.answers b l));
        more = drop (sheet_at + length (trail_texts S)) B';
        sheet = front_same (trail_texts S) sheet_at B B' H.more L.document.bytes H.sheet (λ j l. L.texts j 0 (omega arith));
        few = H.few;
        small = H.small;
      }
