-- One more answer: it stands where the trail has it, and all that stood stays.
use Rattle.std.specs.Prelude.{◌≡◌, Bool, cond, ℕ, ◌+◌, ◌-◌, ◌≤◌, ◌<◌, set}
use Rattle.std.proofs.Math.Path.{refl, ap}
use Rattle.std.proofs.Common.{sym, subst, ◌∙◌, inl, length-set}
use Rattle.std.proofs.Math.Logic.{inr}
use Rattle.std.proofs.Math.Bool.{true, false}
use mathlib.Core.List.{List, [], ◌∷◌, ◌++◌, append_assoc, append-nil}
use Rattle.std.proofs.Math.Option.{Option, none, some}
use native.Mathlib.Omega.{arith}
use Rattle.std.proofs.Math.Dec.{eqb}
use Rattle.std.proofs.Math.ListN.{length, get_or, drop, length-append, length-drop}
use Rattle.std.proofs.lemmas.List.Edits.{sets}
use Rattle.std.proofs.Math.Seq.{length-sets, get_or-set_same, get_or-set_other}
use borrow.Author.Tests.{eqb-true, eqb-false}
use Rattle.answers.specs.Ask.{Trail, lookup}
use Rattle.rules.specs.Bytes.{Text}
use Rattle.rules.specs.Sizes.{max_unresolved, max_room}
use Rattle.rules.specs.Values.{Value, Answer, record_size, text_size}
use Rattle.rules.specs.Sheet.{texts, answer_texts, entry_size, answer_text_size, trail_size, trail_text_size, trail_texts}
use Rattle.rules.specs.Documents.{Setting}
use Rattle.theory.specs.Layout.{length-texts, length-trail_texts}
use Rattle.theory.specs.TrailAnswers.{answer_at, answer-new, answer-text-new, answer-stays, answer-text-stays}
use Rattle.sheet_kept.specs.Sets.{drop-sets, sets_behind, set-stands}
use Rattle.doc_items.specs.Room.{text_room, answers_at, sheet_at, trail_at}
use Rattle.eval_memory.specs.Finished.{Memory}
use Rattle.eval_state.specs.Memories.{answers_of}
use Rattle.eval_state.specs.Documents.{SameDocument, document-stays, key-number}
use Rattle.eval_state.specs.Values.{KeptAt, set_below}
use Rattle.eval_state.specs.State.{AnswerIn, State, Behind, answer-still}

-- ---- texts behind which bytes are set

front-stays : (B : List ℕ) (n : ℕ) (front more : List ℕ) (i : ℕ) (xs : List ℕ) → drop n B ≡ front ++ more → n + length front ≤ i
    → drop n (sets B i xs) ≡ front ++ sets more (i - (n + length front)) xs
front-stays B n front more i xs e l =
    let k = i - (n + length front) in
    let z : i ≡ n + (length front + k) = omega arith in
    ap (λ (j : ℕ). drop n (sets B j xs)) z ∙ drop-sets n B (length front + k) xs ∙ ap (λ (r : List ℕ). sets r (length front + k) xs) e ∙ sets_behind front more k xs

front-grows : (B : List ℕ) (n : ℕ) (front more : List ℕ) (xs : List ℕ) → drop n B ≡ front ++ more → length xs ≤ length more
    → drop n (sets B (n + length front) xs) ≡ (front ++ xs) ++ drop (length xs) more
front-grows B n front more xs e l =
    let z : n + length front - (n + length front) ≡ 0 = omega arith in
    let y : 0 + length xs ≡ length xs = omega arith in
    front-stays B n front more (n + length front) xs e (omega arith) ∙ ap (λ (j : ℕ). front ++ sets more j xs) z
    ∙ ap (λ (r : List ℕ). front ++ r) (set-stands more 0 xs (omega arith) ∙ ap (λ (j : ℕ). xs ++ drop j more) y)
    ∙ sym (append_assoc front xs (drop (length xs) more))

-- ---- the document stays

module _ (T B : List ℕ) (b a p : ℕ) (xs : List ℕ) (q : ℕ) (tx : List ℕ) (l : b < max_unresolved) (f : text_room ≤ p) (g : text_room ≤ q) where
  pub same-document : SameDocument T (set T (answers_at + b) a) B (sets (sets B p xs) q tx)
  same-document = record {
    numbers = λ j h o. get_or-set_other T (answers_at + b) j a 0 (λ e. o (omega arith) (omega arith));
    table = length-set T (answers_at + b) a;
    texts = λ i d u. set_below (sets B p xs) q tx i d (omega arith) ∙ set_below B p xs i d (omega arith);
    bytes = length-sets (sets B p xs) q tx ∙ length-sets B p xs;
  }

-- ---- an entry of another does not move an answer

answer-later : (M : Memory) (e : ℕ × Answer) (S : Trail Answer) (c : ℕ) (k : Option Answer) (a : ℕ) → eqb e.0 c ≡ false → AnswerIn M S c k a
    → AnswerIn M (e ∷ S) c k a
answer-later M e S c none a q y = y
answer-later M e S c (some none) a q y = y
answer-later M e S c (some (some v)) a q y = rw (answer-stays e S c q, answer-text-stays e S c q) y

module _ {x : Setting} {key : ℕ → Text} {items : ℕ} {T B : List ℕ} {S : Trail Answer} (H : State x key items T B S) (b : ℕ) (l : b < max_unresolved) where
  -- ---- a value

  module _ (v : Value) (xs tx : List ℕ) (used t : ℕ) (records-used : used ≡ trail_size S) (texts-used : t ≡ trail_text_size S) (all : tx ≡ texts v)
      (few : used + 3 + record_size v ≤ max_room) (small : t + text_size v ≤ max_room) where
    abbrev p : ℕ
    p = trail_at + (used + 3)

    abbrev q : ℕ
    q = sheet_at + t

    abbrev T' : List ℕ
    T' = set T (answers_at + b) (used + 3 + 2)

    abbrev B' : List ℕ
    B' = sets (sets B p xs) q tx

    abbrev S' : Trail Answer
    S' = (b, some v) ∷ S

    many : length tx ≡ text_size v
    many = ap length all ∙ length-texts v

    same : SameDocument T T' B B'
    same = same-document T B b (used + 3 + 2) p xs q tx l (omega arith) (omega arith)

    behind : Behind H T' (λ k K. key-number same (items + 1) k (omega (arith, H.document.few)) K) p xs q tx
    behind = record { records = omega arith; texts = omega arith; apart = inl (omega (arith, many)) }

    offset : answer_at S' b ≡ used + 3
    offset = answer-new S b (some v) ∙ ap (λ (n : ℕ). n + 3) (sym records-used)

    new : KeptAt (answers_of key items T' B') v (used + 3) t → (c : ℕ) → b ≡ c
        → AnswerIn (answers_of key items T' B') S' c (some (some v)) (get_or T' (answers_at + c) 0)
    new K c e =
        let room = H.document.table in
        subst (λ (d : ℕ). AnswerIn (answers_of key items T' B') S' d (some (some v)) (get_or T' (answers_at + d) 0)) e (
          get_or-set_same T (answers_at + b) (used + 3 + 2) 0 (omega arith) ∙ ap (λ (n : ℕ). n + 2) (sym offset),
          rw (offset, answer-text-new S b (some v) ∙ sym texts-used) K,
        )

    old : (c : ℕ) → c < max_unresolved → eqb b c ≡ false → AnswerIn (answers_of key items T' B') S' c (lookup S c) (get_or T' (answers_at + c) 0)
    old c u e =
        let z : get_or T' (answers_at + c) 0 ≡ get_or T (answers_at + c) 0 =
        get_or-set_other T (answers_at + b) (answers_at + c) (used + 3 + 2) 0 (λ i. eqb-false b c e (omega arith)) in
        rw z (answer-later (answers_of key items T' B') (b, some v) S c (lookup S c) (get_or T (answers_at + c) 0) e
        (answer-still H T' (λ k K. key-number same (items + 1) k (omega (arith, H.document.few)) K) p xs q tx behind c (lookup S c) (get_or T (answers_at + c) 0) refl (H.answers c u)))

    pub state-kept : KeptAt (answers_of key items T' B') v (used + 3) t → State x key items T' B' S'
    unfolding trail_size trail_text_size entry_size answer_text_size trail_texts answer_texts
    state-kept K =
        let n = length-trail_texts S in
        let e = ap length H.sheet in
        let d = length-drop sheet_at B in
        let a = length-append (trail_texts S) H.more in
        let room = H.document.bytes in
        let i = p - (sheet_at + length (trail_texts S)) in
        let w = length-sets H.more i xs in
        let at : q ≡ sheet_at + length (trail_texts S) = omega arith in
        let first = front-stays B sheet_at (trail_texts S) H.more p xs H.sheet (omega arith) in
        record {
          document = document-stays same H.document;
          answers = λ c u. by c u (eqb b c) refl;
          more = drop (length tx) (sets H.more i xs);
          sheet = ap (λ (j : ℕ). drop sheet_at (sets (sets B p xs) j tx)) at
              ∙ front-grows (sets B p xs) sheet_at (trail_texts S) (sets H.more i xs) tx first (omega (arith, many))
              ∙ ap (λ (t : Text). (trail_texts S ++ t) ++ drop (length tx) (sets H.more i xs)) all;
          few = omega arith;
          small = omega arith;
        }
      where
        by : (c : ℕ) → c < max_unresolved → (t : Bool) → eqb b c ≡ t
            → AnswerIn (answers_of key items T' B') S' c (cond t (some (some v)) (lookup S c)) (get_or T' (answers_at + c) 0)
        by c u true e = new K c (eqb-true b c e)
        by c u false e = old c u e

  -- ---- undefined

  abbrev T'' : List ℕ
  T'' = set T (answers_at + b) 1

  undefined-same : SameDocument T T'' B B
  undefined-same = same-document T B b 1 text_room [] text_room [] l (omega arith) (omega arith)

  pub state-undefined : trail_size S + 3 ≤ max_room → State x key items T'' B ((b, none) ∷ S)
  unfolding trail_size trail_text_size entry_size answer_text_size trail_texts answer_texts
  state-undefined few = record {
    document = document-stays undefined-same H.document;
    answers = λ c u. by c u (eqb b c) refl;
    more = H.more;
    sheet = H.sheet ∙ ap (λ (t : Text). t ++ H.more) (sym (append-nil (trail_texts S)));
    few = omega arith;
    small = omega (arith, H.small);
  }
    where
      by : (c : ℕ) → c < max_unresolved → (t : Bool) → eqb b c ≡ t
          → AnswerIn (answers_of key items T'' B) ((b, none) ∷ S) c (cond t (some none) (lookup S c)) (get_or T'' (answers_at + c) 0)
      by c u true e =
          ap (λ (d : ℕ). get_or T'' (answers_at + d) 0) (sym (eqb-true b c e)) ∙ get_or-set_same T (answers_at + b) 1 0 (omega (arith, H.document.table))
      by c u false e =
          let z : get_or T'' (answers_at + c) 0 ≡ get_or T (answers_at + c) 0 =
          get_or-set_other T (answers_at + b) (answers_at + c) 1 0 (λ i. eqb-false b c e (omega arith)) in
          let F : Behind H T'' (λ k K. key-number undefined-same (items + 1) k (omega (arith, H.document.few)) K) (trail_at + max_room) [] (trail_at + max_room) [] =
          record { records = omega (arith, H.few); texts = omega (arith, H.small); apart = inr (omega arith) } in
          rw z (answer-later (answers_of key items T'' B) (b, none) S c (lookup S c) (get_or T (answers_at + c) 0) e
          (answer-still H T'' (λ k K. key-number undefined-same (items + 1) k (omega (arith, H.document.few)) K) (trail_at + max_room) [] (trail_at + max_room) []
          F c (lookup S c) (get_or T (answers_at + c) 0) refl (H.answers c u)))

-- ---- what is set behind the trail's room

pub state-beside : {x : Setting} {key : ℕ → Text} {items : ℕ} {T B : List ℕ} {S : Trail Answer} → State x key items T B S → (p : ℕ) (xs : List ℕ) (q : ℕ) (tx : List ℕ)
    → trail_at + max_room ≤ p → trail_at + max_room ≤ q → State x key items T (sets (sets B p xs) q tx) S
state-beside {x} {key} {items} {T} {B} {S} H p xs q tx f g =
    let n = length-trail_texts S in
    let m = H.small in
    let i = p - (sheet_at + length (trail_texts S)) in
    let j = q - (sheet_at + length (trail_texts S)) in
    let E : SameDocument T T B (sets (sets B p xs) q tx) = record {
      numbers = λ j h o. refl;
      table = refl;
      texts = λ i d u. set_below (sets B p xs) q tx i d (omega arith) ∙ set_below B p xs i d (omega arith);
      bytes = length-sets (sets B p xs) q tx ∙ length-sets B p xs;
    } in
    let F : Behind H T (λ k K. K) p xs q tx = record { records = omega (arith, H.few); texts = omega arith; apart = inr g } in
    record {
      document = document-stays E H.document;
      answers = λ c u. answer-still H T (λ k K. K) p xs q tx F c (lookup S c) (get_or T (answers_at + c) 0) refl (H.answers c u);
      more = sets (sets H.more i xs) j tx;
      sheet = front-stays (sets B p xs) sheet_at (trail_texts S) (sets H.more i xs) q tx
          (front-stays B sheet_at (trail_texts S) H.more p xs H.sheet (omega arith)) (omega arith);
      few = H.few;
      small = H.small;
    }
