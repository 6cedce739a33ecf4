-- Laws of laying entries.
use mathlib.Core.Path.{◌≡◌, sym, ap, ◌∙◌}
use Prim.Native.Nat.{ℕ, ◌+◌, ◌/◌, ◌%◌, ◌≤◌, ◌<◌}
use mathlib.Core.List.{List, [], ◌∷◌, ◌++◌, append_assoc, append-nil}
use mathlib.Core.Option.{none, some}
use native.Mathlib.Omega.{arith}
use lib.ListN.{length, set, take, drop, length-append, length-drop}
use lib.Seq.{sets, sets-eq, drop-drop, length-take-le, lt-length-set, take_at, drop_at}
use Rattle.answers.specs.Ask.{Trail}
use Rattle.rules.specs.Bytes.{Text}
use Rattle.rules.specs.Sizes.{max_records}
use Rattle.rules.specs.Values.{Answer}
use Rattle.rules.specs.Sheet.{two, texts, entry_record, answer_texts, trail_size, trail_text_size, trail_records, trail_texts}
use Rattle.theory.specs.Layout.{length-trail_records, length-trail_texts}
use Rattle.text_chars.specs.Parts.{part, back, part-is, back_is}
use Rattle.sheet_kept.specs.Kept.{Held, named, layout}
use Rattle.sheet_kept.specs.Sets.{sets_behind}
use Rattle.eval_writer.specs.Clauses.{InRoom}
use Rattle.eval_writer.specs.declared.Out.{Out}
use Rattle.eval_store.specs.Values.Contracts.{Full, LaidIs}
use Rattle.eval_store.specs.Entries.Contracts.{StartIs, EntryIs, UndefinedIs, TrailIs, AddAsked, AddIs, AddUndefinedIs}

-- ---- the three bytes

pub started : (k n : ℕ) {c d : ℕ} (b : List ℕ) → 3 ≤ length b → c ≡ n / 256 % 256 → d ≡ n % 256 → StartIs k n b (set (set (set b 0 k) 1 c) 2 d)
unfolding two
started k n {c} {d} b h e f =
    record { is = sets-eq (k ∷ c ∷ d ∷ []) b 0 h ∙ ap (λ (x : ℕ). k ∷ x ∷ d ∷ drop 3 b) e ∙ ap (λ (x : ℕ). k ∷ n / 256 % 256 ∷ x ∷ drop 3 b) f }

pub in-1 : (b : List ℕ) (k : ℕ) → 3 ≤ length b → 1 < length (set b 0 k)
in-1 b k h = lt-length-set b 0 k (omega arith)

pub in-2 : (b : List ℕ) (k c : ℕ) → 3 ≤ length b → 2 < length (set (set b 0 k) 1 c)
in-2 b k c h = lt-length-set (set b 0 k) 1 c (lt-length-set b 0 k (omega arith))

pub ruleset start-laws = (started, in-1, in-2)

-- ---- an entry in the rest

module _ {k n : ℕ} {b x : List ℕ} (s : StartIs k n b x) where
  start-drop : drop 3 x ≡ drop 3 b
  unfolding two
  start-drop = ap (drop 3) s.is

  start-take : take 3 x ≡ k ∷ two n
  unfolding two
  start-take = ap (take 3) s.is

  start-part : part 3 x ≡ drop 3 b
  start-part = part-is 3 x ∙ start-drop

module _ {room : List ℕ} {o : Out} {n t : ℕ} {b x w : List ℕ} where
  pub entry-is : {y z : List ℕ} → StartIs 9 n b x → LaidIs room o t (part 3 x) y w z → EntryIs room o n t b (back 3 x y) w z
  unfolding entry_record layout two
  entry-is {y} {z} s l =
      record {
        records = λ key v i.
            back_is 3 x y ∙ ap (λ (q : List ℕ). q ++ y) (start-take s)
            ∙ ap (λ (q : List ℕ). (9 ∷ two n) ++ q)
            (l.records key v i ∙ ap (λ (q : List ℕ). layout key t v ++ drop o.rec.0 q) (start-part s)
            ∙ ap (λ (q : List ℕ). layout key t v ++ q) (drop-drop o.rec.0 3 b));
        texts = l.texts;
      }

pub undefined-is : {n : ℕ} {b x : List ℕ} → StartIs 10 n b x → UndefinedIs n b x
unfolding entry_record
undefined-is s = record { is = λ t. s.is }

-- ---- an entry in the trail

module _ (S : Trail Answer) {b x rest more : List ℕ} {u : ℕ} (e : u ≡ trail_size S) (h : TrailIs S b x rest more) where
  trail-size : length (trail_records S) ≡ u
  trail-size = length-trail_records S ∙ sym e

  trail-take : take u b ≡ trail_records S
  trail-take = ap (take u) h.records ∙ take_at (trail_records S) rest u trail-size

  trail-part : part u b ≡ rest
  trail-part = part-is u b ∙ ap (drop u) h.records ∙ drop_at (trail_records S) rest u trail-size

  -- an entry behind the records
  trail_more : (n : ℕ) (c : Answer) (y : List ℕ) (m : ℕ) → y ≡ entry_record (trail_text_size S) n c ++ drop m (part u b)
      → back u b y ≡ trail_records ((n, c) ∷ S) ++ drop m rest
  unfolding trail_records
  trail_more n c y m i =
      back_is u b y ∙ ap (λ (q : List ℕ). q ++ y) trail-take
      ∙ ap (λ (q : List ℕ). trail_records S ++ q) (i ∙ ap (λ (q : List ℕ). entry_record (trail_text_size S) n c ++ drop m q) trail-part)
      ∙ sym (append_assoc (trail_records S) (entry_record (trail_text_size S) n c) (drop m rest))

-- texts behind those of the trail
text-more : (S : Trail Answer) (t : ℕ) (x more tx : List ℕ) → t ≡ trail_text_size S → x ≡ trail_texts S ++ more → t + length tx ≤ length x
    → sets x t tx ≡ (trail_texts S ++ tx) ++ drop (length tx) more
text-more S t x more tx e h l =
    let T = trail_texts S in
    let z : t ≡ length T + 0 = omega (arith, length-trail_texts S) in
    let f : 0 + length tx ≡ length tx = omega arith in
    let m : 0 + length tx ≤ length more = omega (arith, ap length h, length-append T more) in
    ap (λ (q : List ℕ). sets q t tx) h ∙ ap (λ (i : ℕ). sets (T ++ more) i tx) z ∙ sets_behind T more 0 tx
    ∙ ap (λ (q : List ℕ). T ++ q) (sets-eq tx more 0 m ∙ ap (λ (i : ℕ). tx ++ drop i more) f) ∙ sym (append_assoc T tx (drop (length tx) more))

in-texts : (room : List ℕ) (o : Out) (key : ℕ → Text) (v : Held) → Full room o → InRoom key v room o → length (texts (named key v)) ≡ o.text.0
in-texts room o key v f i =
    let r = f.whole in
    let m = f.text in
    sym (ap length i.texts) ∙ length-take-le o.text.0 (drop max_records room) (omega (arith, length-drop max_records room))

pub add_is : {room : List ℕ} {o : Out} {n u t : ℕ} {b x y z : List ℕ} → AddAsked room o u t b x → EntryIs room o n t (part u b) y x z
    → AddIs room o n u t b (back u b y) x z
unfolding trail_texts answer_texts
add_is {room} {o} {n} {u} {t} {b} {x} {y} {z} A E =
    record {
      added = λ key v i S rest more e f h.
          let l = in-texts room o key v A.full i in
          let k = A.texts in
          record {
            records = trail_more S e h n (some (named key v)) y (3 + o.rec.0)
                (E.records key v i ∙ ap (λ (q : ℕ). entry_record q n (some (named key v)) ++ drop (3 + o.rec.0) (part u b)) f);
            texts = E.texts key v i ∙ text-more S t x more (texts (named key v)) f h.texts (omega arith)
                ∙ ap (λ (q : ℕ). (trail_texts S ++ texts (named key v)) ++ drop q more) l;
          };
    }

pub add-undefined : {n u : ℕ} {b y : List ℕ} → UndefinedIs n (part u b) y → AddUndefinedIs n u b (back u b y)
unfolding trail_texts answer_texts
add-undefined {n} {u} {b} {y} E =
    record {
      added = λ S x rest more e h.
          record {
            records = trail_more S e h n none y 3 (E.is (trail_text_size S));
            texts = h.texts ∙ ap (λ (q : List ℕ). q ++ more) (sym (append-nil (trail_texts S)));
          };
    }
