-- Laws of laying: what the callees ask, and one for each end.
use mathlib.Core.Path.{◌≡◌, refl, sym, ap, ◌∙◌}
use mathlib.Core.Bool.{Bool, true, false}
use mathlib.Core.List.{List, ◌∷◌, ◌++◌}
use mathlib.Core.Option.{none, some}
use Prim.Native.Nat.{ℕ, ◌+◌, ◌≤◌}
use native.Mathlib.Omega.{arith}
use lib.Dec.{leb}
use lib.ListN.{length, get_or, drop, length-append, length-drop}
use lib.Seq.{get_or-set_other}
use borrow.Author.Tests.{leb-true}
use Rattle.std.specs.Prelude.{Ok, Err}
use Rattle.answers.specs.Ask.{Trail}
use Rattle.rules.specs.Bytes.{Text}
use Rattle.rules.specs.Values.{Answer}
use Rattle.rules.specs.Sheet.{entry_size, answer_text_size, trail_size, trail_text_size, trail_records, trail_texts, trail_fits}
use Rattle.theory.specs.Layout.{both_true, length-trail_records, length-trail_texts}
use Rattle.theory_order.specs.Running.{begun-lay}
use Rattle.theory_order.specs.Clauses.{Task}
use Rattle.sheet_kept.specs.Kept.{Held, named}
use Rattle.sheet_sizes.specs.Clauses.{Small, EntryFitsIs}
use Rattle.sheet_sizes.specs.declared.Sizes.{Sizes}
use Rattle.doc_items.specs.Room.{answers_at}
use Rattle.text_chars.specs.Cursor.{refusal}
use Rattle.eval_writer.specs.declared.Out.{Out}
use Rattle.eval_store.specs.Entries.Contracts.{AddAsked, AddIs, AddUndefinedIs}
use Rattle.eval_state.specs.Memories.{begun_at}
use Rattle.eval_state.specs.Counters.{records-are, texts-are}
use Rattle.eval_state.specs.Clauses.{Finished, AnswerAsked, AnswerIs, UndefinedAsked, UndefinedIs}
use Rattle.eval_trail.specs.Clauses.{mark_of, Holding, sizes, RoomAsked, RoomIs, MoreIs, LayAsked, LayIs, NoneAsked, NoneIs}
use Rattle.eval_trail.specs.declared.Progress.{Progress}

-- an answer of no records
abbrev pub nothing : Out
nothing = record { rec = record { 0 = 0 }; text = record { 0 = 0 } }

-- what fits
fits_both : {room used size : Sizes} {r : Bool} → EntryFitsIs room used size r → r ≡ true
    → (used.rec.0 + 3 + size.rec.0 ≤ room.rec.0) × (used.text.0 + size.text.0 ≤ room.text.0)
fits_both {room} {used} {size} {r} F e =
    let (a, b) = both_true (leb (used.rec.0 + 3 + size.rec.0) room.rec.0) (leb (used.text.0 + size.text.0) room.text.0) (sym F.is ∙ e) in
    (leb-true (used.rec.0 + 3 + size.rec.0) room.rec.0 a, leb-true (used.text.0 + size.text.0) room.text.0 b)

-- a buffer that holds a front and a rest is as long with a longer front
same_length : (front rest front' l l' : List ℕ) (n : ℕ) → l ≡ front ++ rest → l' ≡ front' ++ drop n rest → length front' ≡ length front + n
    → length front + n ≤ length l → length l' ≡ length l
same_length front rest front' l l' n e f g h =
    let a = ap length e in
    let b = ap length f in
    omega (arith, length-append front rest, length-append front' (drop n rest), length-drop n rest)

-- ---- whether there is room

pub room-used : {p : Progress} {o : Out} → RoomAsked p o → Small (sizes p.used.0 p.text.0)
room-used A = (omega (arith, A.used), omega (arith, A.texts))

pub room_small : {p : Progress} {o : Out} → RoomAsked p o → Small (sizes o.rec.0 o.text.0)
room_small A = (omega (arith, A.records-small), omega (arith, A.texts-small))

pub room-is : {p : Progress} {o : Out} {trail text : List ℕ} {r : Bool}
    → EntryFitsIs (sizes (length trail) (length text)) (sizes p.used.0 p.text.0) (sizes o.rec.0 o.text.0) r → RoomIs p o trail text r
room-is F = record { is = F }

pub ruleset rooms = (room-used, room_small, room-is)

pub room-asked : {T B room : List ℕ} {o : Out} {b : ℕ} {p : Progress} {trail text : List ℕ} → LayAsked T B room o b p trail text → RoomAsked p o
room-asked A = record { used = A.used; texts = A.texts; records-small = A.full.rec; texts-small = A.full.text }

pub none-room-asked : {T : List ℕ} {b : ℕ} {p : Progress} {trail text : List ℕ} → NoneAsked T b p trail text → RoomAsked p nothing
none-room-asked A = record { used = A.used; texts = A.texts; records-small = omega arith; texts-small = omega arith }

-- ---- a value

module _ {T B room : List ℕ} {o : Out} {b : ℕ} {p : Progress} {trail text : List ℕ} {r : Bool} (A : LayAsked T B room o b p trail text)
    (F : RoomIs p o trail text r) where
  pub add-asked : r ≡ true → AddAsked room o p.used.0 p.text.0 trail text
  add-asked e =
      let (a, c) = fits_both F.is e in
      let u = A.texts in
      record { full = A.full; few = omega arith; records = a; texts = c }

  pub keep-asked : r ≡ true → AnswerAsked T B room o b p.used.0 p.text.0
  keep-asked e =
      let (a, c) = fits_both F.is e in
      let u = A.trail-room in
      let w = A.text-room in
      record { full = A.full; number = A.number; records = omega arith; texts = omega arith; table = A.table; bytes = A.bytes }

  -- the rules' test
  tested : {t : Task} {key : ℕ → Text} {items : ℕ} {stack : List ℕ} {S : Trail Answer} {n : ℕ} (v : Held) → Holding t key items T B trail text p stack S n
      → Finished key items T room o v → trail_fits t.trail_room t.text_room ((b, some (named key v)) ∷ S) ≡ r
  unfolding entry_size answer_text_size
  tested {t} {key} {items} {stack} {S} {n} v H X =
      let x = records-are A.full X.in-room in
      let y = texts-are A.full X.in-room in
      let f = F.is.rule S b (some (named key v)) H.used H.texts (omega arith) (omega arith) in
      ap (λ (m : ℕ). trail_fits m t.text_room ((b, some (named key v)) ∷ S)) (sym H.trail-room)
      ∙ ap (λ (m : ℕ). trail_fits (length trail) m ((b, some (named key v)) ∷ S)) (sym H.text-room) ∙ sym f

  pub lay-full : r ≡ false → LayIs room o b p T T B B trail trail text text (Err (refusal 14 (record { 0 = 0 })))
  lay-full e = record { is = λ t key items stack S n v H X. (tested v H X ∙ e, refl, refl, refl, refl) }

  pub lay_done : {T' B' trail' text' : List ℕ} → r ≡ true → AddIs room o b p.used.0 p.text.0 trail trail' text text'
      → AnswerIs room o b p.used.0 p.text.0 T T' B B' → {q : Progress} → MoreIs p o q
      → LayIs room o b p T T' B B' trail trail' text text' (Ok q)
  unfolding trail_size trail_text_size entry_size answer_text_size
  lay_done {T'} {B'} {trail'} {text'} e D K {q} N = record {
    is = λ t key items stack S n v H X.
        let S' : Trail Answer = (b, some (named key v)) ∷ S in
        let x = records-are A.full X.in-room in
        let y = texts-are A.full X.in-room in
        let (f, g) = fits_both F.is e in
        let u = H.used in
        let w = H.texts in
        let L = D.added key v X.in-room S H.rest H.more u w H.laid in
        let a = length-trail_records S in
        let a' = length-trail_records S' in
        let c = length-trail_texts S in
        let c' = length-trail_texts S' in (
          tested v H X ∙ e,
          record {
            state = K.kept t.setting key items S v H.state u w X;
            marks = λ d z.
                ap (λ (l : List ℕ). get_or l (begun_at + d) 0) K.table
                ∙ get_or-set_other T (answers_at + b) (begun_at + d) (p.used.0 + 3 + 2) 0 (λ q. let i = A.number in omega arith) ∙ H.marks d z
                ∙ ap mark_of (sym (begun-lay S stack b d (some (named key v))));
            rest = drop (3 + o.rec.0) H.rest;
            more = drop o.text.0 H.more;
            laid = L;
            used = omega (arith, N.used);
            texts = omega (arith, N.texts);
            count = N.count ∙ H.count;
            trail-room = same_length (trail_records S) H.rest (trail_records S') trail trail' (3 + o.rec.0) H.laid.records L.records (omega arith) (omega arith)
                ∙ H.trail-room;
            text-room = same_length (trail_texts S) H.more (trail_texts S') text text' o.text.0 H.laid.texts L.texts (omega arith) (omega arith)
                ∙ H.text-room;
          },
          K.later key S v u w X.in-room,
        );
  }

pub ruleset layings = (room-asked, add-asked, keep-asked, lay-full, lay_done)

-- ---- undefined

module _ {T : List ℕ} {b : ℕ} {p : Progress} {trail text : List ℕ} {r : Bool} (A : NoneAsked T b p trail text)
    (F : RoomIs p nothing trail text r) where
  pub none-room : r ≡ true → p.used.0 + 3 ≤ length trail
  none-room e = let (a, c) = fits_both F.is e in omega arith

  pub none-asked : UndefinedAsked T b
  none-asked = record { number = A.number; table = A.table }

  none-tested : {t : Task} {key : ℕ → Text} {items : ℕ} {B stack : List ℕ} {S : Trail Answer} {n : ℕ} → Holding t key items T B trail text p stack S n
      → trail_fits t.trail_room t.text_room ((b, none) ∷ S) ≡ r
  unfolding entry_size answer_text_size
  none-tested {t} {key} {items} {B} {stack} {S} {n} H =
      let f = F.is.rule S b none H.used H.texts refl refl in
      ap (λ (m : ℕ). trail_fits m t.text_room ((b, none) ∷ S)) (sym H.trail-room)
      ∙ ap (λ (m : ℕ). trail_fits (length trail) m ((b, none) ∷ S)) (sym H.text-room) ∙ sym f

  pub none-full : r ≡ false → NoneIs b p T T trail trail text (Err (refusal 14 (record { 0 = 0 })))
  none-full e = record { is = λ t key items B stack S n H. (none-tested H ∙ e, refl, refl, refl, refl) }

  pub none_done : {T' trail' : List ℕ} → r ≡ true → AddUndefinedIs b p.used.0 trail trail' → UndefinedIs b T T' → {q : Progress}
      → MoreIs p nothing q → NoneIs b p T T' trail trail' text (Ok q)
  unfolding trail_size trail_text_size entry_size answer_text_size
  none_done {T'} {trail'} e D K {q} N = record {
    is = λ t key items B stack S n H.
        let S' : Trail Answer = (b, none) ∷ S in
        let (f, g) = fits_both F.is e in
        let u = H.used in
        let L = D.added S text H.rest H.more u H.laid in
        let a = length-trail_records S in
        let a' = length-trail_records S' in
        let i = A.number in
        let m = A.trail-room in (
          none-tested H ∙ e,
          record {
            state = K.kept t.setting key items B S H.state (omega arith);
            marks = λ d z.
                ap (λ (l : List ℕ). get_or l (begun_at + d) 0) K.table
                ∙ get_or-set_other T (answers_at + b) (begun_at + d) 1 0 (λ q. omega arith) ∙ H.marks d z ∙ ap mark_of (sym (begun-lay S stack b d none));
            rest = drop 3 H.rest;
            more = H.more;
            laid = L;
            used = omega (arith, N.used);
            texts = omega (arith, N.texts, H.texts);
            count = N.count ∙ H.count;
            trail-room = same_length (trail_records S) H.rest (trail_records S') trail trail' 3 H.laid.records L.records (omega arith) (omega arith)
                ∙ H.trail-room;
            text-room = H.text-room;
          },
          K.later B S,
        );
  }

pub ruleset nones = (none-room-asked, none-room, none-asked, none-full, none_done)
