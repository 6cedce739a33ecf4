-- One key of merged objects: a law for each place where its need is returned, and for what is lent on.
use Rattle.std.specs.Prelude.{◌≡◌, List, ◌∷◌, ℕ, ◌+◌, ◌≤◌, ◌<◌, length, take, drop}
use Rattle.std.proofs.Math.Path.{refl, ap}
use Rattle.std.proofs.Common.{sym, ◌∙◌}
use native.Mathlib.Omega.{arith}
use Rattle.answers.specs.Ask.{Out, value, missing, Trail, lookup}
use Rattle.answers.specs.Resolve.{Res, answer, refused, dry, after}
use Rattle.rules.specs.Bytes.{Text}
use Rattle.rules.specs.Sizes.{max_room}
use Rattle.rules.specs.Refusals.{Refusal}
use Rattle.rules.specs.Tree.{no-elements}
use Rattle.rules.specs.Values.{Answer}
use Rattle.rules.specs.Layers.{Layer, Counted, nothing, one, merged}
use Rattle.rules.specs.Settled.{Given as Gave}
use Rattle.theory_order.specs.Walks.{Ended}
use Rattle.theory_order.specs.Settle.{key_in}
use Rattle.theory_order.specs.Code.{counted_by, field_by, keys_by, level_at}
use Rattle.theory_order.specs.Clauses.{Task, questions_of, NumberedCounted, work_c, ready_c, settle_field_c, settle_keys_c}
use Rattle.theory_order.specs.SettleLaws.{ready-starts, ready-done}
use Rattle.theory_order.specs.Resolving.{ready-again, ready-missing}
use Rattle.doc_items.specs.Room.{number_bound, trail_at}
use Rattle.eval_writer.specs.declared.Source.{Source}
use Rattle.eval_stack.specs.Model.{entries, Work}
use Rattle.eval_memory.specs.Finished.{Memory}
use Rattle.eval_memory.specs.Tables.{Tables, Shows}
use Rattle.eval_layers.specs.Gather.{TakenShows, nothing-shows, one-shows, needs-shows, merged-shows}
use Rattle.eval_layers.specs.declared.Taken.{Taken}
use Rattle.eval_groups.specs.Groups.{keys_at}
use Rattle.eval_groups.specs.Room.{Roomy, members-fit}
use Rattle.eval_groups.specs.Select.Contracts.{TakeIs}
use Rattle.eval_groups.specs.Select.Levels.{key_number_of, objects-size, level-top, level-stays, keys_from, keys-first, keys-stay, same-below}
use Rattle.eval_groups.specs.Select.Uses.{Merging, take-shows}
use Rattle.eval_writer.specs.Copies.Sources.{SourceIn}
use Rattle.eval_frames.specs.Shows.{used-tables}
use Rattle.eval_value_laws.specs.Clauses.{Left}
use Rattle.eval_value_laws.specs.Frames.{left-then}
use Rattle.eval_settle_laws.specs.declared.Need.{Need}
use Rattle.eval_settle_laws.specs.Ground.{settling_room, Ground, memory_of}
use Rattle.eval_settle_laws.specs.Needs.{elements, keys, KeysFrom, LayerAsked, LayerIs, ObjectsAsked, ObjectsIs, KeyAsked, KeyIs}
use Rattle.eval_settle_laws.specs.Rooms.{lasting-now, merged-room, one-room}

-- ---- what members come to, by the code's answer

module _ (M : Memory) (Q : ℕ → List Layer → Type 0) where
  abbrev pub TakenAs : Gave Counted → Taken → Type 0
  TakenAs g Taken.Nothing = g ≡ value nothing
  TakenAs g (Taken.One c) = (l : Layer) × (g ≡ value (one l)) × Shows M c l
  TakenAs g (Taken.Needs a) = g ≡ missing a
  TakenAs g (Taken.Merged t) = (os : List Layer) × (g ≡ value (merged os)) × Q t os

  taken_as : (r : Taken) (g : Gave Counted) → TakenShows M Q r g → TakenAs g r
  taken_as Taken.Nothing (value nothing) nothing-shows = refl
  taken_as (Taken.One c) (value (one l)) (one-shows s) = (l, refl, s)
  taken_as (Taken.Needs a) (missing b) (needs-shows e) = ap (λ (n : ℕ). missing n) (sym e)
  taken_as (Taken.Merged t) (value (merged os)) (merged-shows q) = (os, refl, q)
  taken_as Taken.Nothing (value (one l)) x4 = elim x4 [ ]
  taken_as Taken.Nothing (value (merged os)) x5 = elim x5 [ ]
  taken_as Taken.Nothing (Out.refused _) x4 = elim x4 [ ]
  taken_as Taken.Nothing (missing b) x4 = elim x4 [ ]
  taken_as (Taken.One c) (value nothing) x5 = elim x5 [ ]
  taken_as (Taken.One c) (value (merged os)) x6 = elim x6 [ ]
  taken_as (Taken.One c) (Out.refused _) x5 = elim x5 [ ]
  taken_as (Taken.One c) (missing b) x5 = elim x5 [ ]
  taken_as (Taken.Needs a) (value _) x5 = elim x5 [ ]
  taken_as (Taken.Needs a) (Out.refused _) x6 = elim x6 [ ]
  taken_as (Taken.Merged t) (value nothing) x7 = elim x7 [ ]
  taken_as (Taken.Merged t) (value (one l)) x8 = elim x8 [ ]
  taken_as (Taken.Merged t) (Out.refused _) x7 = elim x7 [ ]
  taken_as (Taken.Merged t) (missing b) x7 = elim x7 [ ]

-- ---- the first of the keys that are left, at each level

after-after : {F R A B C : Type 0} (e : Res F R A) (f : A → Trail R → ℕ → Res F R B) (g : B → Trail R → ℕ → Res F R C)
    → after (after e f) g ≡ after e (λ a S n. after (f a S n) g)
after-after (answer a S n) f g = refl
after-after (refused x) f g = refl
after-after dry f g = refl

module _ (t : Task) (levels : ℕ) (os : List Layer) (k : Text) (ks : List Text) (S : Trail Answer) (n : ℕ) where
  -- it is settled, then the others
  first : settle_keys_c t levels os (k ∷ ks) S n ≡ after (settle_field_c t levels os k S n) (λ _ S' n'. settle_keys_c t levels os ks S' n')
  unfolding keys_by
  first = refl

  -- by what counts of its layers
  field-counted : (c : Counted) → ready_c t os k S n ≡ answer c S n
      → settle_field_c t levels os k S n ≡ counted_by (work_c t) (questions_of t) (level_at (work_c t) (questions_of t) levels) c S n
  unfolding field_by
  field-counted c e = rw e

  counted : (c : Counted) → ready_c t os k S n ≡ answer c S n
      → settle_keys_c t levels os (k ∷ ks) S n
      ≡ after (counted_by (work_c t) (questions_of t) (level_at (work_c t) (questions_of t) levels) c S n) (λ _ S' n'. settle_keys_c t levels os ks S' n')
  counted c e = first ∙ ap (λ (x : Ended Refusal Answer). after x (λ _ S' n'. settle_keys_c t levels os ks S' n')) (field-counted c e)

  -- an answer is worked out, and the key comes again
  again : (b : ℕ) → ready_c t os k S n ≡ after (work_c t b S n) (λ _ S' n'. ready_c t os k S' n')
      → settle_keys_c t levels os (k ∷ ks) S n ≡ after (work_c t b S n) (λ _ S' n'. settle_keys_c t levels os (k ∷ ks) S' n')
  unfolding keys_by field_by
  again b e =
      ap (λ (x : Res Refusal Answer Counted). after (after x
      (λ c S' n'. counted_by (work_c t) (questions_of t) (level_at (work_c t) (questions_of t) levels) c S' n')) (λ _ S' n'. settle_keys_c t levels os ks S' n')) e
      ∙ ap (λ (x : Ended Refusal Answer). after x (λ _ S' n'. settle_keys_c t levels os ks S' n')) (after-after (work_c t b S n) _ _)
      ∙ after-after (work_c t b S n) _ _

-- ---- what is lent on

module _ {T B w : List ℕ} {p top : ℕ} (a : KeyAsked T B w p top) where
  -- the members have room
  key-low : top ≤ settling_room
  key-low =
      let G = a.basis in
      let f : Roomy (lookup G.S) settling_room a.at.base a.os = lasting-now a.sound a.at.fits in
      omega (arith, level-top (memory_of G) a.at.shown, members-fit (lookup G.S) settling_room a.at.base a.os f)

  pub key-place : p < number_bound
  key-place = omega (arith, key-low, a.inside)

  pub key-top : top ≤ entries
  key-top = omega (arith, key-low)

  pub key-work : Work w
  key-work = a.work

  pub key-source : (src : Source) → src.rec.0 ≡ trail_at → SourceIn B src
  key-source src e = record { bytes = a.sound.bytes; records = omega (arith, a.sound.state.document.bytes) }

  -- the keys from the next entry on, where the stack below top stays
  abbrev behind : List Text
  behind = keys_from (memory_of a.basis) w (p + 1) top

  moved : {x : List ℕ} → Left top w x → KeysFrom a.basis x (p + 1) top top a.os behind
  moved {x} l =
      let M = memory_of a.basis in
      record {
        base = a.at.base;
        low = omega (arith, a.at.low);
        high = omega (arith, a.inside);
        ends = refl;
        shown = level-stays M x l.below a.at.shown;
        is = sym (keys-stay M w x (p + 1) top l.below);
        numbered = a.at.numbered;
        fits = a.at.fits;
      }

-- what is taken stands above the members
take_left : {T R w w' : List ℕ} {p top : ℕ} {tk : Taken} → TakeIs T R p top w w' tk → Left top w w'
take_left {w = w} {w' = w'} {top = top} k = record { below = same-below top w w' k.is.same; len = k.is.len }

-- ---- the places where it returns

module _ {T B w : List ℕ} {p top : ℕ} (a : KeyAsked T B w p top) where
  abbrev G : Ground T B
  G = a.basis

  abbrev M : Memory
  M = memory_of a.basis

  -- the key
  abbrev its : Text
  its = a.basis.key (keys_at (key_number_of M) w p)

  tables : Tables M (lookup G.S)
  tables = used-tables a.sound.state

  keys-are : a.ks ≡ its ∷ behind a
  keys-are = a.at.is ∙ keys-first M w p top a.inside a.leads

  -- no answer is missing
  done : (c : Counted) → key_in a.os its (lookup G.S) ≡ value c → (ready_c G.t a.os its G.S G.n ≡ answer c G.S G.n) × NumberedCounted (questions_of G.t) c
  done c e =
      ready-done G.t a.os its G.S G.n a.sound.state.document.read a.at.numbered G.S G.n
      (ready-starts G.t a.os its G.S G.n a.sound.kept) c e

  counts : (c : Counted) → key_in a.os its (lookup G.S) ≡ value c → (levels : ℕ)
      → settle_keys_c G.t levels a.os a.ks G.S G.n
      ≡ after (counted_by (work_c G.t) (questions_of G.t) (level_at (work_c G.t) (questions_of G.t) levels) c G.S G.n)
      (λ _ S' n'. settle_keys_c G.t levels a.os (behind a) S' n')
  counts c e levels =
      ap (λ (ks : List Text). settle_keys_c G.t levels a.os ks G.S G.n) keys-are
      ∙ counted G.t levels a.os its (behind a) G.S G.n c (done c e).0

  module _ {w' : List ℕ} {tk : Taken} (k : TakeIs T (take max_room (drop trail_at B)) p top w w' tk) where
    shown : TakenAs M (Merging M (lookup G.S) tables top w') (key_in a.os its (lookup G.S)) tk
    unfolding key_in
    shown =
        let f : Roomy (lookup G.S) settling_room a.at.base a.os = lasting-now a.sound a.at.fits in
        let f' : Roomy (lookup G.S) entries a.at.base a.os = omega arith in
        taken_as M (Merging M (lookup G.S) tables top w') tk (key_in a.os its (lookup G.S))
        (take-shows M (lookup G.S) tables a.at.shown f' a.at.low a.inside a.leads k)

-- The bytes are given: antt would compute the long slice to see that they follow from it.
module _ {T : List ℕ} (B : List ℕ) {w w' : List ℕ} {p top : ℕ} {tk : Taken} (k : TakeIs T (take max_room (drop trail_at B)) p top w w' tk) where
  pub key-nothing : tk ≡ Taken.Nothing → KeyIs T B p top w w' (record { need = Need.Nothing; next = p + 1 })
  key-nothing e = record {
    left = take_left k;
    is = λ a.
        let z : key_in a.os (its a) (lookup a.basis.S) ≡ value nothing = rw e at (shown a k) in
        record {
          inner = elements no-elements;
          shows = tt;
          left = keys a.os (behind a);
          at = moved a (take_left k);
          is = counts a nothing z;
          on = omega arith;
        };
  }

  -- an answer is missing; once it is there, the key is looked at again
  pub key-needs : {b : ℕ} → tk ≡ Taken.Needs b → KeyIs T B p top w w' (record { need = Need.Answer b; next = p })
  key-needs {b} e = record {
    left = take_left k;
    is = λ a.
        let g = a.basis in
        let z : key_in a.os (its a) (lookup g.S) ≡ missing b = rw e at (shown a k) in
        let read = a.sound.state.document.read in
        let y : ready_c g.t a.os (its a) g.S g.n ≡ after (work_c g.t b g.S g.n) (λ _ S' n'. ready_c g.t a.os (its a) S' n') =
        ready-again g.t read a.os a.at.numbered (its a) g.S g.n a.sound.kept ∙ rw z in
        record {
          inner = elements no-elements;
          shows = ready-missing g.t read a.os a.at.numbered (its a) g.S g.n a.sound.kept b z;
          left = keys a.os (its a ∷ behind a);
          at = record {
            base = a.at.base;
            low = a.at.low;
            high = a.at.high;
            ends = refl;
            shown = level-stays (M a) w' (take_left k).below a.at.shown;
            is = sym (keys-are a) ∙ a.at.is ∙ sym (keys-stay (M a) w w' p top (take_left k).below);
            numbered = a.at.numbered;
            fits = a.at.fits;
          };
          is = λ levels.
              ap (λ (ks : List Text). settle_keys_c g.t levels a.os ks g.S g.n) (keys-are a)
              ∙ again g.t levels a.os (its a) (behind a) g.S g.n b y;
          on = omega arith;
        };
  }

  -- one layer
  module _ {c : ℕ} (e : tk ≡ Taken.One c) where
    one_of : (a : KeyAsked T B w p top) → TakenAs (M a) (Merging (M a) (lookup a.basis.S) (tables a) top w') (key_in a.os (its a) (lookup a.basis.S)) (Taken.One c)
    one_of a = rw e at (shown a k)

    abbrev one-asked : KeyAsked T B w p top → LayerAsked T B w' top c
    one-asked a =
        let z = one_of a in
        record {
          basis = a.basis;
          sound = a.sound;
          work = omega (arith, a.work, k.is.len);
          used = key-low a;
          l = z.0;
          shown = z.2;
          numbered = (done a (one z.0) z.1).1;
          fits = one-room a.basis.t a.basis.S a.os (its a) a.at.base a.at.shown.objects a.at.fits z.0 z.1 top (level-top (M a) a.at.shown);
        }

    pub key_one : {w'' : List ℕ} {r : Need} → LayerIs T B top c w' w'' r → KeyIs T B p top w w'' (record { need = r; next = p + 1 })
    key_one N = record {
      left = left-then (take_left k) N.left;
      is = λ a.
          let g = a.basis in
          let z = one_of a in
          let x = N.is (one-asked a) in
          record {
            inner = x.inner;
            shows = x.shows;
            left = keys a.os (behind a);
            at = moved a (left-then (take_left k) N.left);
            is = λ levels.
                counts a (one z.0) z.1 levels
                ∙ ap (λ (q : Ended Refusal Answer). after q (λ _ S' n'. settle_keys_c g.t levels a.os (behind a) S' n')) (x.is levels);
            on = omega arith;
          };
    }

  -- objects that merge
  module _ {hi : ℕ} (e : tk ≡ Taken.Merged hi) where
    merged-of : (a : KeyAsked T B w p top) → TakenAs (M a) (Merging (M a) (lookup a.basis.S) (tables a) top w') (key_in a.os (its a) (lookup a.basis.S)) (Taken.Merged hi)
    merged-of a = rw e at (shown a k)

    abbrev merged-asked : KeyAsked T B w p top → ObjectsAsked T B w' top hi
    merged-asked a =
        let z = merged-of a in
        let o = z.2.0 in
        record {
          basis = a.basis;
          sound = a.sound;
          work = omega (arith, a.work, k.is.len);
          os = z.0;
          shown = o;
          numbered = (done a (merged z.0) z.1).1;
          fits = merged-room a.basis.t a.basis.S a.os (its a) a.at.base a.at.shown.objects a.at.fits z.0 o.objects z.1 hi
              (objects-size (M a) o ∙ ap (λ (i : ℕ). i + length z.0) (level-top (M a) a.at.shown));
        }

    pub key-merged : {w'' : List ℕ} {r : Need} → ObjectsIs T B top hi w' w'' r → KeyIs T B p top w w'' (record { need = r; next = p + 1 })
    key-merged N = record {
      left = left-then (take_left k) N.left;
      is = λ a.
          let g = a.basis in
          let z = merged-of a in
          let x = N.is (merged-asked a) in
          record {
            inner = x.inner;
            shows = x.shows;
            left = keys a.os (behind a);
            at = moved a (left-then (take_left k) N.left);
            is = λ levels.
                counts a (merged z.0) z.1 levels
                ∙ ap (λ (q : Ended Refusal Answer). after q (λ _ S' n'. settle_keys_c g.t levels a.os (behind a) S' n')) (x.is levels);
            on = omega arith;
          };
    }

-- what is asked of what the members come to
module _ {T B w : List ℕ} {p top : ℕ} (a : KeyAsked T B w p top) {w' : List ℕ} {tk : Taken} (k : TakeIs T (take max_room (drop trail_at B)) p top w w' tk) where
  pub key-layer : {c : ℕ} → tk ≡ Taken.One c → LayerAsked T B w' top c
  key-layer e = one-asked B k e a

  pub key-objects : {hi : ℕ} → tk ≡ Taken.Merged hi → ObjectsAsked T B w' top hi
  key-objects e = merged-asked B k e a

pub ruleset key_laws = (key-place, key-top, key-work, key-source, key-nothing, key-needs, key-layer, key_one, key-objects, key-merged)
