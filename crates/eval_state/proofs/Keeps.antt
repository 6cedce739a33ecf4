-- Laws of keeping.
use mathlib.Core.Path.{◌≡◌, refl, sym, ap, subst, ◌∙◌}
use mathlib.Core.Logic.{◌⊎◌, inl, inr}
use mathlib.Core.Bool.{Bool, true, false, not}
use mathlib.Core.List.{List, [], ◌∷◌}
use mathlib.Core.Option.{some}
use Prim.Native.Nat.{ℕ, ◌+◌, ◌≤◌, ◌<◌}
use native.Mathlib.Omega.{arith}
use lib.ListN.{length, get_or, set}
use lib.Seq.{sets, length-sets}
use Rattle.answers.specs.Ask.{Trail}
use Rattle.rules.specs.Bytes.{Text}
use Rattle.rules.specs.Sizes.{max_records, max_text, max_room, max_unresolved}
use Rattle.rules.specs.Values.{Value, Answer, record_size, text_size}
use Rattle.rules.specs.Sheet.{texts, trail_size, trail_text_size}
use Rattle.rules.specs.Documents.{Setting}
use Rattle.theory.specs.Layout.{length-texts}
use Rattle.doc_items.specs.Room.{text_room, answers_at, sheet_at, trail_at}
use Rattle.sheet_kept.specs.Kept.{Held, named, kept}
use Rattle.sheet_kept.proofs.Sizes.{kept-records}
use Rattle.eval_writer.specs.Clauses.{InRoom}
use Rattle.eval_writer.specs.declared.Out.{Out}
use Rattle.eval_store.specs.Values.Contracts.{KeepAsked, KeepIs}
use Rattle.eval_state.specs.Memories.{pair_records_at, pair_texts_at, second_at, answers_of, pair_of}
use Rattle.eval_state.specs.Documents.{key-number}
use Rattle.eval_state.specs.Values.{KeptAt, Apart, kept-still, kept_new, each-key, set_below, set-above}
use Rattle.eval_state.specs.State.{State}
use Rattle.eval_state.specs.Later.{Later}
use Rattle.eval_state.specs.Counters.{records-are, texts-are}
use Rattle.eval_state.specs.Keeping.{same-document, state-kept, state-undefined, state-beside}
use Rattle.eval_state.specs.Clauses.{half_of, HalfIs, Finished, AnswerAsked, AnswerIs, UndefinedAsked, UndefinedIs, PairAsked, PairIs}

-- ---- an answer

module _ {T B room : List ℕ} {o : Out} {b used t : ℕ} (A : AnswerAsked T B room o b used t) where
  module _ {B' : List ℕ} (K : KeepIs room o (trail_at + (used + 3)) sheet_at t B B') where
    abbrev T' : List ℕ
    T' = set T (answers_at + b) (used + 3 + 2)

    module _ (x : Setting) (key : ℕ → Text) (items : ℕ) (S : Trail Answer) (v : Held) (H : State x key items T B S) (F : Finished key items T room o v) where
      abbrev Y : List ℕ
      Y = sets (sets B (trail_at + (used + 3)) (kept key t v)) (sheet_at + t) (texts (named key v))

      bytes-are : B' ≡ Y
      bytes-are = K.bytes key v F.in-room

      stands-new : KeptAt (answers_of key items T' B') (named key v) (used + 3) t
      stands-new =
          let f = A.full in
          let n = records-are f F.in-room in
          let m = texts-are f F.in-room in
          let E = same-document T B b (used + 3 + 2) (trail_at + (used + 3)) (kept key t v) (sheet_at + t) (texts (named key v)) A.number (omega arith) (omega arith) in
          kept_new key items trail_at sheet_at max_unresolved v (used + 3) t
          (K.stands key v F.in-room (inr (omega (arith, A.texts))) (omega (arith, A.texts)))
          (each-key (λ k y. key-number E (items + 1) k (omega (arith, H.document.few)) y) v F.keys) F.distinct
          (omega (arith, A.records)) (omega (arith, A.texts)) (omega (arith, f.text)) F.nesting

      state-with : used ≡ trail_size S → t ≡ trail_text_size S → State x key items T' B' ((b, some (named key v)) ∷ S)
      state-with u w =
          let n = records-are A.full F.in-room in
          let m = texts-are A.full F.in-room in
          subst (λ (Z : List ℕ). State x key items T' Z ((b, some (named key v)) ∷ S)) (sym bytes-are)
          (state-kept H b A.number (named key v) (kept key t v) (texts (named key v)) used t u w refl (omega (arith, A.records)) (omega (arith, A.texts))
          (subst (λ (Z : List ℕ). KeptAt (answers_of key items T' Z) (named key v) (used + 3) t) bytes-are stands-new))

    later-with : (key : ℕ → Text) (S : Trail Answer) (v : Held) → used ≡ trail_size S → t ≡ trail_text_size S → InRoom key v room o
        → Later T B S T' B' ((b, some (named key v)) ∷ S)
    unfolding trail_size trail_text_size
    later-with key S v u w i =
        let Z = sets B (trail_at + (used + 3)) (kept key t v) in
        let m = texts-are A.full i in
        let n = length-texts (named key v) in
        let a = A.texts in
        subst (λ (Y : List ℕ). Later T B S T' Y ((b, some (named key v)) ∷ S)) (sym (K.bytes key v i)) (record {
          document = same-document T B b (used + 3 + 2) (trail_at + (used + 3)) (kept key t v) (sheet_at + t) (texts (named key v)) A.number (omega arith) (omega arith);
          records = λ j d l.
              set-above Z (sheet_at + t) (texts (named key v)) (trail_at + j) d (omega arith) ∙ set_below B (trail_at + (used + 3)) (kept key t v) (trail_at + j) d (omega arith);
          texts = λ j d l.
              set_below Z (sheet_at + t) (texts (named key v)) (sheet_at + j) d (omega arith) ∙ set_below B (trail_at + (used + 3)) (kept key t v) (sheet_at + j) d (omega arith);
          more = omega arith;
          more-texts = omega arith;
        })

    pub answer-kept : AnswerIs room o b used t T T' B B'
    answer-kept = record { table = refl; kept = λ x key items S v H u w F. state-with x key items S v H F u w; later = later-with }

-- ---- undefined

pub undefined-kept : {T : List ℕ} {b : ℕ} → UndefinedAsked T b → UndefinedIs b T (set T (answers_at + b) 1)
unfolding trail_size trail_text_size
undefined-kept {T} {b} A = record {
  table = refl;
  kept = λ x key items B S H l. state-undefined H b A.number l;
  later = λ B S. record {
    document = same-document T B b 1 text_room [] text_room [] A.number (omega arith) (omega arith);
    records = λ j d l. refl;
    texts = λ j d l. refl;
    more = omega arith;
    more-texts = omega arith;
  };
}

-- ---- the pair

pub half-second : {s : Bool} → s ≡ true → HalfIs s second_at
unfolding half_of
half-second e = record { is = rw e refl }

pub half-first : {s : Bool} → s ≡ false → HalfIs s 0
unfolding half_of
half-first e = record { is = rw e refl }

pub ruleset halves = (half-second, half-first)

-- one is the first half, the other the second
half-other : (s : Bool) → ((half_of s ≡ second_at) × (half_of (not s) ≡ 0)) ⊎ ((half_of s ≡ 0) × (half_of (not s) ≡ second_at))
unfolding half_of
half-other true = inl (refl, refl)
half-other false = inr (refl, refl)

module _ {B room : List ℕ} {o : Out} {s : Bool} {h : ℕ} (A : PairAsked B room o) (G : HalfIs s h) where
  half-small : h ≤ second_at
  half-small = go (half-other s)
    where
      go : ((half_of s ≡ second_at) × (half_of (not s) ≡ 0)) ⊎ ((half_of s ≡ 0) × (half_of (not s) ≡ second_at)) → h ≤ second_at
      go (inl e) = omega (arith, G.is, e.0)
      go (inr e) = omega (arith, G.is, e.0)

  pub pair-asked : KeepAsked B room (pair_records_at + h) pair_texts_at h o
  pair-asked =
      let f = A.full in
      let l = half-small in
      record {
        full = f;
        few = omega arith;
        records = omega (arith, f.rec, A.bytes);
        texts = omega (arith, f.text, A.bytes);
      }

  module _ {B' : List ℕ} (K : KeepIs room o (pair_records_at + h) pair_texts_at h B B') where
    module _ (key : ℕ → Text) (items : ℕ) (T : List ℕ) (v : Held) (i : InRoom key v room o) where
      abbrev xs : List ℕ
      xs = kept key h v

      abbrev tx : List ℕ
      tx = texts (named key v)

      long : length xs ≤ max_records
      long = omega (arith, kept-records key h v, records-are A.full i, A.full.rec)

      wide : length tx ≤ max_text
      wide = omega (arith, length-texts (named key v), texts-are A.full i, A.full.text)

      other-stays : (w : Value) (k : ℕ) → ((h ≡ second_at) × (k ≡ 0)) ⊎ ((h ≡ 0) × (k ≡ second_at)) → record_size w ≤ max_records → KeptAt (pair_of key items T B) w k k
          → KeptAt (pair_of key items T B') w k k
      other-stays w k e l s =
          let y : k + record_size w ≤ max_room = s.value.inside in
          let z : text_size w ≤ max_text = s.value.size in
          let m = half-small in
          let a = long in
          let b = wide in
          let one = kept-still key items pair_records_at pair_texts_at 0 T (pair_records_at + h) xs (λ j n. n) s (records e) (inl (omega arith)) in
          subst (λ (Y : List ℕ). KeptAt (pair_of key items T Y) w k k) (sym (K.bytes key v i))
          (kept-still key items pair_records_at pair_texts_at 0 T (pair_texts_at + h) tx (λ j n. n) one (inr (omega arith)) (others e z))
        where
          records : ((h ≡ second_at) × (k ≡ 0)) ⊎ ((h ≡ 0) × (k ≡ second_at)) → Apart (pair_records_at + h) (length xs) (pair_records_at + k) (record_size w)
          records (inl u) = inr (omega (arith, u.0, u.1))
          records (inr u) = inl (omega (arith, u.0, u.1, long))

          others : ((h ≡ second_at) × (k ≡ 0)) ⊎ ((h ≡ 0) × (k ≡ second_at)) → text_size w ≤ max_text
              → Apart (pair_texts_at + h) (length tx) (pair_texts_at + k) (text_size w)
          others (inl u) z = inr (omega (arith, u.0, u.1))
          others (inr u) z = inl (omega (arith, u.0, u.1, wide))

      beside : (x : Setting) (S : Trail Answer) → State x key items T B S → State x key items T B' S
      beside x S H =
          subst (λ (Y : List ℕ). State x key items T Y S) (sym (K.bytes key v i))
          (state-beside H (pair_records_at + h) xs (pair_texts_at + h) tx (omega arith) (omega arith))

    new-one : (key : ℕ → Text) (items : ℕ) (T : List ℕ) (v : Held) → Finished key items T room o v → KeptAt (pair_of key items T B') (named key v) h h
    new-one key items T v F =
        let f = A.full in
        let n = records-are f F.in-room in
        let m = texts-are f F.in-room in
        let l = half-small in
        kept_new key items pair_records_at pair_texts_at 0 v h h
        (K.stands key v F.in-room (inl (omega (arith, f.rec))) (omega (arith, f.text))) F.keys F.distinct
        (omega (arith, f.rec)) (omega (arith, f.text)) (omega (arith, f.text)) F.nesting

    front : (n d : ℕ) → n < pair_records_at → get_or B' n d ≡ get_or B n d
    front n d l =
        ap (λ (Y : List ℕ). get_or Y n d) K.only ∙ set_below (sets B (pair_records_at + h) K.laid) (pair_texts_at + h) K.filled n d (omega arith)
        ∙ set_below B (pair_records_at + h) K.laid n d (omega arith)

    pub pair-kept : PairIs room o s B B'
    pair-kept = record {
      len = ap length K.only ∙ length-sets (sets B (pair_records_at + h) K.laid) (pair_texts_at + h) K.filled
          ∙ length-sets B (pair_records_at + h) K.laid;
      beside = front;
      kept = λ key items T v F. rw (sym G.is) (new-one key items T v F);
      other = λ key items T v w i l k. other-stays key items T v i w (half_of (not s)) (rw (sym G.is) at (half-other s)) l k;
      state = λ x key items T S v i H. beside key items T v i x S H;
    }

pub ruleset pairs = (pair-asked, pair-kept)
