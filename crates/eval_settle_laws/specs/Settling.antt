-- A law for each place where settling returns, for each turn of its loop, and for what is lent on.
use Rattle.std.specs.Prelude.{◌≡◌, ℕ, suc, ◌+◌, ◌-◌, ◌≤◌, ◌<◌, length, Result, Ok, Err}
use Rattle.std.proofs.Math.Path.{refl, ap}
use Rattle.std.proofs.Common.{sym, subst, ◌∙◌, arith}
use mathlib.Core.List.{List}
use borrow.Author.Tests.{le-leb}
use Rattle.answers.specs.Ask.{Trail}
use Rattle.answers.specs.Resolve.{answer, after}
use Rattle.rules.specs.Bytes.{Text}
use Rattle.rules.specs.Refusals.{Refusal}
use Rattle.rules.specs.Tree.{Elements, no-elements}
use Rattle.rules.specs.Values.{Answer}
use Rattle.theory_order.specs.Walks.{Ended}
use Rattle.theory_order.specs.Clauses.{settle_keys_c, settle_elements_c}
use Rattle.theory_order.specs.SettleLaws as order
use Rattle.text_chars.specs.declared.Refusal.{Refusal as Refused}
use Rattle.eval_nodes.specs.Model.{member_at}
use Rattle.eval_nodes.specs.declared.Member.{Member}
use Rattle.eval_groups.specs.Select.Levels.{level-stays, keys_none, keys-stay}
use Rattle.eval_frames.specs.Shows.{used_of, used-tables}
use Rattle.eval_frames.specs.Levels.{level-later, keys-later as keys-moved}
use Rattle.eval_state.specs.Later.{later-then}
use Rattle.eval_value_laws.specs.Clauses.{Left}
use Rattle.eval_value_laws.specs.Elements.{element-met}
use Rattle.eval_value_laws.specs.Frames.{left-all, left-then, left-lower}
use Rattle.eval_value_laws.specs.Nodes.{not-zero}
use Rattle.eval_trail.specs.declared.Progress.{Progress}
use Rattle.eval_question_laws.specs.Work.{RefusedAs, WorkAsked, Works, WorkIs}
use Rattle.eval_settle_laws.specs.declared.Kind.{Kind}
use Rattle.eval_settle_laws.specs.declared.Span.{Span}
use Rattle.eval_settle_laws.specs.declared.Need.{Need}
use Rattle.eval_settle_laws.specs.declared.Met.{Met}
use Rattle.eval_settle_laws.specs.Ground.{Ground, memory_of}
use Rattle.eval_settle_laws.specs.Rooms.{lasting-later}
use Rattle.eval_settle_laws.specs.Places.{rest-low}
use Rattle.eval_settle_laws.specs.Given.{Given, ground_of, sound_of, Come, come-here, come-on, given-lent, given-on}
use Rattle.eval_settle_laws.specs.Needs.{Rest, elements, keys, settle_rest_c, inside_c, need_c, begins, RestFrom, NeedShows, Meets, PlaceAsked, PlaceIs}
use Rattle.eval_settle_laws.specs.Clauses.{Settled, Settles, OneAsked, OneIs, AllAsked, AllIs}

-- ---- what one place needs

module _ {T B E w room trail text : List ℕ} {p : Progress} {budget : ℕ} (g : Given T B E w room trail text p budget) where
  -- nothing is needed
  stands : {e : Ended Refusal Answer} → e ≡ answer tt g.S g.n → Settles g e 0 T B trail text (Ok p)
  stands z = record { S' = g.S; n' = g.n; is = z; come = come-here g; more = omega arith }

module _ {E : List ℕ} {top : ℕ} {need : Need} {p : Progress} {budget : ℕ} {T B w trail text : List ℕ} where
  pub one-nothing : {levels : ℕ} → need ≡ Need.Nothing → OneIs E top need p budget levels T T B B w w trail trail text text (Ok p)
  one-nothing {levels} e = subst (λ (x : Need). OneIs E top x p budget levels T T B B w w trail trail text text (Ok p)) (sym e)
      (record { left = left-all; is = λ a. stands a.given refl })

  -- an answer
  module _ {b : ℕ} (e : need ≡ Need.Answer b) where
    abbrev asked : {room : List ℕ} → OneAsked T B E w room trail text top need p budget → WorkAsked T B E w room trail text top b p budget
    asked a =
        let g = a.given in
        let z : NeedShows (ground_of g) w top (Need.Answer b) a.inner = rw e at a.shows in
        record {
          lent = given-lent g a.used;
          t = g.t;
          task = g.task top a.used;
          budgeted = g.budgeted;
          key = g.key;
          items = g.items;
          S = g.S;
          n = g.n;
          low = z.1;
          new = z.0;
          kept = g.kept;
          holding = g.holding;
        }

    pub one-asks : {room : List ℕ} → OneAsked T B E w room trail text top need p budget → WorkAsked T B E w room trail text top b p budget
    one-asks a = asked a

    pub one-works : {levels : ℕ} {T' B' w' trail' text' : List ℕ} {r : Result Progress Refused} → WorkIs E top b p budget T T' B B' w w' trail trail' text text' r → length w' ≡ length w
        → OneIs E top need p budget levels T T' B B' w w' trail trail' text text' r
    one-works {levels} {T'} {B'} {w'} {trail'} {text'} {r} W len = record { left = record { below = W.below; len = len }; is = λ a. rw e (go a r (W.is (asked a))) }
      where
        go : {room : List ℕ} (a : OneAsked T B E w room trail text top need p budget) (r : Result Progress Refused) → Works (asked a) T' B' trail' text' r
            → Settles a.given (need_c a.given.t levels (Need.Answer b) a.inner a.given.S a.given.n) 1 T' B' trail' text' r
        go a (Ok p') x = record {
          S' = x.S';
          n' = x.n';
          is = x.is;
          come = record { kept = x.kept; grows = x.grows; holding = x.holding; later = x.later };
          more = omega (arith, x.more);
        }
        go a (Err y) x = record { refusal = x.refusal; is = x.is; its-number = x.its-number; its-place = x.its-place }

  -- what is inside
  module _ {s : Span} (e : need ≡ Need.Inside s) where
    pub one-cut : {levels : ℕ} → levels ≡ 0 → OneIs E top need p budget levels T T B B w w trail trail text text (Ok p)
    one-cut {levels} z = record { left = left-all; is = λ a. rw (e, z) (stands a.given refl) }

    inside-shows : {room : List ℕ} (a : OneAsked T B E w room trail text top need p budget) → NeedShows (ground_of a.given) w top (Need.Inside s) a.inner
    inside-shows a = rw e at a.shows

    abbrev all_asked : {room : List ℕ} → OneAsked T B E w room trail text top need p budget → AllAsked T B E w room trail text s p budget
    all_asked a = record { given = a.given; rest = a.inner; at = (inside-shows a).1 }

    pub one-all : {room : List ℕ} → OneAsked T B E w room trail text top need p budget → AllAsked T B E w room trail text s p budget
    one-all a = all_asked a

    pub one_inside : {room : List ℕ} {levels : ℕ} → OneAsked T B E w room trail text top need p budget → (levels ≡ 0 → ⊥) → {T' B' w' trail' text' : List ℕ} {r : Result Progress Refused}
        → AllIs E s p budget (levels - 1) T T' B B' w w' trail trail' text text' r → OneIs E top need p budget levels T T' B B' w w' trail trail' text text' r
    one_inside {levels = levels} A some {T'} {B'} {w'} {trail'} {text'} {r} N = record {
      left = left-lower (inside-shows A).0 N.left;
      is = λ a.
          let n : levels ≡ suc (levels - 1) = omega (arith, not-zero levels some) in
          let z : Settles a.given (inside_c a.given.t levels a.inner a.given.S a.given.n) 0 T' B' trail' text' r =
          subst (λ (i : ℕ). Settles a.given (inside_c a.given.t i a.inner a.given.S a.given.n) 0 T' B' trail' text' r) (sym n) (N.is (all_asked a)) in
          rw e z;
    }

pub ruleset one_laws = (one-nothing, one-asks, one-works, one-cut, one-all, one_inside)

-- ---- a span while answers come

module _ {T B : List ℕ} (G : Ground T B) (w : List ℕ) (p end top : ℕ) where
  -- behind its end nothing is left
  rest-none : (kind : Kind) (r : Rest) → RestFrom G w kind p end top r → end ≤ p → (levels : ℕ) → settle_rest_c G.t levels r G.S G.n ≡ answer tt G.S G.n
  unfolding member_at
  rest-none Kind.Elements (elements es) s h levels =
      let M = used_of G.key G.items s.T₀ s.B₀ s.S₀ in
      let e : member_at s.T₀ M.records p end ≡ Member.End = rw (member_at, le-leb end p h) refl in
      let z : es ≡ no-elements = rw e at (element-met M (used-tables s.state).stored p end es s.shown) in
      ap (λ (x : Elements). settle_elements_c G.t levels x G.S G.n) z ∙ order.elements-end G.t levels G.S G.n
  rest-none Kind.Elements (keys os ks) s h levels = absurd s
  rest-none Kind.Keys (elements es) s h levels = absurd s
  rest-none Kind.Keys (keys os ks) s h levels =
      ap (λ (x : List Text). settle_keys_c G.t levels os x G.S G.n) (s.is ∙ keys_none (memory_of G) w p top (omega (arith, s.ends)))
      ∙ order.keys-end G.t levels G.S G.n os

-- what is left stands where it stood
module _ {T B E w room trail text : List ℕ} {p₀ : Progress} {budget : ℕ} (g : Given T B E w room trail text p₀ budget) {T' B' trail' text' : List ℕ} {p' : Progress}
    {S' : Trail Answer} {n' : ℕ} (c : Come g T' B' trail' text' p' S' n') (x y : List ℕ) (l : length x ≡ length w) (k : length y ≡ length room)
    (p end top : ℕ) (b : Left top w x) where
  rest-later : (kind : Kind) (r : Rest) → RestFrom (ground_of g) w kind p end top r → RestFrom (ground_of (given-on g c x y l k)) x kind p end top r
  rest-later Kind.Elements (elements es) s = record {
    used = s.used;
    T₀ = s.T₀;
    B₀ = s.B₀;
    S₀ = s.S₀;
    state = s.state;
    later = later-then s.later c.later;
    shown = s.shown;
    numbered = s.numbered;
    fits = lasting-later c.grows s.fits;
  }
  rest-later Kind.Elements (keys os ks) s = absurd s
  rest-later Kind.Keys (elements es) s = absurd s
  rest-later Kind.Keys (keys os ks) s =
      let M' = used_of g.key g.items T' B' S' in
      record {
        base = s.base;
        low = s.low;
        high = s.high;
        ends = s.ends;
        shown = level-stays M' x b.below (level-later c.later g.holding.state s.shown);
        is = s.is ∙ sym (keys-stay M' w x p top b.below ∙ keys-moved c.later g.holding.state s.shown p s.low s.high);
        numbered = s.numbered;
        fits = lasting-later c.grows s.fits;
      }

-- ---- where the loop has come to

pub record AllAt {T₀ B₀ E w₀ room trail₀ text₀ : List ℕ} {s : Span} {p₀ : Progress} {budget : ℕ} (a : AllAsked T₀ B₀ E w₀ room trail₀ text₀ s p₀ budget)
    (levels : ℕ) (T B w trail text : List ℕ) (i : ℕ) (p : Progress) : Type 0 where
  pub S : Trail Answer
  pub n : ℕ
  pub come : Come a.given T B trail text p S n
  pub more : a.given.n ≤ n
  pub len : length w ≡ length w₀
  pub rest : Rest
  pub at : RestFrom (ground_of (given-on a.given come w room len refl)) w s.kind i s.end s.top rest
  pub remains : settle_rest_c a.given.t levels a.rest a.given.S a.given.n ≡ settle_rest_c a.given.t levels rest S n

pub record AllOn (E : List ℕ) (s : Span) (p₀ : Progress) (budget levels : ℕ) (T₀ B₀ w₀ room₀ trail₀ text₀ T B w room trail text : List ℕ) (i : ℕ) (p : Progress) : Type 0 where
  pub left : Left s.top w₀ w
  pub same-table : length T ≡ length T₀
  pub same_bytes : length B ≡ length B₀
  pub same-room : length room ≡ length room₀
  pub same-trail : length trail ≡ length trail₀
  pub same_text : length text ≡ length text₀
  pub is : {y : List ℕ} (a : AllAsked T₀ B₀ E w₀ y trail₀ text₀ s p₀ budget) → AllAt a levels T B w trail text i p

-- so many turns may come
unfoldable pub turns_left : (end budget i : ℕ) → Progress → ℕ
turns_left end budget i p = (end - i) + (budget - p.begun)

module _ {T₀ B₀ E w₀ room₀ trail₀ text₀ : List ℕ} {s : Span} {p₀ : Progress} {budget levels : ℕ} where
  pub all_start : AllOn E s p₀ budget levels T₀ B₀ w₀ room₀ trail₀ text₀ T₀ B₀ w₀ room₀ trail₀ text₀ s.from p₀
  all_start = record {
    left = left-all;
    same-table = refl;
    same_bytes = refl;
    same-room = refl;
    same-trail = refl;
    same_text = refl;
    is = λ {y} a. record {
      S = a.given.S;
      n = a.given.n;
      come = come-here a.given;
      more = omega arith;
      len = refl;
      rest = a.rest;
      at = rest-later a.given (come-here a.given) w₀ y refl refl s.from s.end s.top left-all s.kind a.rest a.at;
      remains = refl;
    };
  }

  module _ {T B w room trail text : List ℕ} {i : ℕ} {p : Progress} (I : AllOn E s p₀ budget levels T₀ B₀ w₀ room₀ trail₀ text₀ T B w room trail text i p) where
    module _ {y : List ℕ} (a : AllAsked T₀ B₀ E w₀ y trail₀ text₀ s p₀ budget) where
      abbrev here : AllAt a levels T B w trail text i p
      here = I.is a

      -- what is given here, with whatever room is lent
      abbrev now-given : (x : List ℕ) → length x ≡ length y → Given T B E w x trail text p budget
      now-given x l = given-on a.given here.come w x here.len l

    -- no place is left
    pub all_end : s.end ≤ i → AllIs E s p₀ budget levels T₀ T B₀ B w₀ w trail₀ trail text₀ text (Ok p)
    all_end h = record {
      left = I.left;
      is = λ {room = y} a.
          let x = here a in
          record {
            S' = x.S;
            n' = x.n;
            is = x.remains ∙ rest-none (ground_of (now-given a y refl)) w i s.end s.top s.kind x.rest x.at h levels;
            come = x.come;
            more = omega (arith, x.more);
          };
    }

    -- what is asked of the next place
    abbrev place-asked : {y : List ℕ} (a : AllAsked T₀ B₀ E w₀ y trail₀ text₀ s p₀ budget) → i < s.end → PlaceAsked T B w s.kind i s.end s.top
    place-asked {y} a h =
        let x = here a in
        let g = now-given a y refl in
        record { basis = ground_of g; sound = sound_of g; work = g.work; rest = x.rest; at = x.at; inside = h }

    pub all-place : {y : List ℕ} → AllAsked T₀ B₀ E w₀ y trail₀ text₀ s p₀ budget → i < s.end → PlaceAsked T B w s.kind i s.end s.top
    all-place a h = place-asked a h

    module _ (h : i < s.end) {w' : List ℕ} {m : Met} (N : PlaceIs T B s.kind i s.end s.top w w' m) where
      -- what is met
      abbrev met : {y : List ℕ} (a : AllAsked T₀ B₀ E w₀ y trail₀ text₀ s p₀ budget)
          → Meets (ground_of (now-given a y refl)) w' s.kind i s.end s.top (here a).rest m
      met a = N.is (place-asked a h)

      -- what is asked of what it needs
      abbrev one_of : {y : List ℕ} (a : AllAsked T₀ B₀ E w₀ y trail₀ text₀ s p₀ budget) (x : List ℕ) → length x ≡ length y
          → OneAsked T B E w' x trail text s.top m.need p budget
      one_of {y} a x l =
          let g = now-given a y refl in
          record {
            given = given-on a.given (here a).come w' x (N.left.len ∙ (here a).len) l;
            used = rest-low (ground_of g) (sound_of g) w i s.end s.top s.kind (here a).rest (here a).at;
            inner = (met a).inner;
            shows = (met a).shows;
          }

      pub all_one : AllAsked T₀ B₀ E w₀ room₀ trail₀ text₀ s p₀ budget → OneAsked T B E w' room trail text s.top m.need p budget
      all_one A = one_of A room I.same-room

      module _ {T' B' w'' trail' text' : List ℕ} {r : Result Progress Refused}
          (F : OneIs E s.top m.need p budget levels T T' B B' w' w'' trail trail' text text' r) where
        -- first what is needed here, then the rest
        then : {y : List ℕ} (a : AllAsked T₀ B₀ E w₀ y trail₀ text₀ s p₀ budget) {e : Ended Refusal Answer}
            → need_c a.given.t levels m.need (met a).inner (here a).S (here a).n ≡ e
            → settle_rest_c a.given.t levels a.rest a.given.S a.given.n ≡ after e (λ _ S' n'. settle_rest_c a.given.t levels (met a).left S' n')
        then a z =
            (here a).remains ∙ (met a).is levels ∙ ap (λ (q : Ended Refusal Answer). after q (λ _ S' n'. settle_rest_c a.given.t levels (met a).left S' n')) z

        pub all-refused : {q : Refused} → r ≡ Err q → AllIs E s p₀ budget levels T₀ T' B₀ B' w₀ w'' trail₀ trail' text₀ text' (Err q)
        all-refused {q} f = record {
          left = left-then I.left (left-then N.left F.left);
          is = λ {room = y} a.
              let z : RefusedAs (need_c a.given.t levels m.need (met a).inner (here a).S (here a).n) q.number q.place.0 = rw f at (F.is (one_of a y refl)) in
              record { refusal = z.refusal; is = then a z.is; its-number = z.its-number; its-place = z.its-place };
        }

        module _ {p' : Progress} (f : r ≡ Ok p') where
          settled : {y : List ℕ} (a : AllAsked T₀ B₀ E w₀ y trail₀ text₀ s p₀ budget)
              → Settled (one_of a y refl).given (need_c a.given.t levels m.need (met a).inner (here a).S (here a).n) (begins m.need) T' B' trail' text' p'
          settled {y} a = rw f at (F.is (one_of a y refl))

          -- the next place is behind this one, or a question has begun
          pub all-less : AllAsked T₀ B₀ E w₀ room₀ trail₀ text₀ s p₀ budget → turns_left s.end budget m.next p' < turns_left s.end budget i p
          unfolding turns_left
          all-less A =
              let z = settled A in
              omega (arith, h, (met A).on, z.more, z.come.kept.afforded, z.come.holding.count, (here A).come.holding.count, A.given.budgeted)

          pub all-on : {room' : List ℕ} → length T' ≡ length T → length B' ≡ length B → length room' ≡ length room → length trail' ≡ length trail
              → length text' ≡ length text → AllOn E s p₀ budget levels T₀ B₀ w₀ room₀ trail₀ text₀ T' B' w'' room' trail' text' m.next p'
          all-on a₁ a₂ a₃ a₄ a₅ = record {
            left = left-then I.left (left-then N.left F.left);
            same-table = a₁ ∙ I.same-table;
            same_bytes = a₂ ∙ I.same_bytes;
            same-room = a₃ ∙ I.same-room;
            same-trail = a₄ ∙ I.same-trail;
            same_text = a₅ ∙ I.same_text;
            is = λ {y} a.
                let x = here a in
                let z = settled a in
                let l : length w' ≡ length w₀ = N.left.len ∙ x.len in
                record {
                  S = z.S';
                  n = z.n';
                  come = come-on a.given x.come w' y l refl z.come;
                  more = omega (arith, x.more, z.more);
                  len = F.left.len ∙ l;
                  rest = (met a).left;
                  at = rest-later (one_of a y refl).given z.come w'' y F.left.len refl m.next s.end s.top F.left s.kind (met a).left (met a).at;
                  remains = then a z.is;
                };
          }

pub ruleset all_laws = (all_start, all_end, all-place, all_one, all-refused, all-less, all-on)
