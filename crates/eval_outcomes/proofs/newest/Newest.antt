-- Laws of what the newest question comes to: what the callees ask, and one for each end.
use mathlib.Core.Path.{◌≡◌, refl, sym, ap, subst, ◌∙◌}
use Prim.Native.Nat.{ℕ, ◌+◌, ◌-◌, ◌*◌, ◌≤◌, ◌<◌}
use mathlib.Core.List.{List, []}
use mathlib.Core.Option.{none}
use native.Mathlib.Omega.{arith}
use lib.ListN.{get_or, set}
use Rattle.std.specs.Prelude.{Some, None}
use Rattle.std.specs.declared.option.Option.{Option as Maybe}
use Rattle.answers.specs.Ask.{Trail, lookup, run}
use Rattle.answers.specs.Theory.AheadTurns.{Fate, fate, fate_of, awaits}
use Rattle.rules.specs.Bytes.{Text}
use Rattle.rules.specs.Refusals.{Refusal}
use Rattle.rules.specs.Tree.{Pieces, no_pieces, node_piece, substituted, root_node, height_of, highest_piece}
use Rattle.rules.specs.Values.{Answer}
use Rattle.rules.specs.Unresolved.{Unresolved}
use Rattle.rules.specs.Documents.{Setting, rule_of}
use Rattle.theory_order.specs.Skeletons.{Needed, needs_of}
use Rattle.doc_items.specs.Room.{capacity}
use Rattle.doc_items.specs.Writing.{ReadIs}
use Rattle.eval_value_laws.specs.Frames.{left-then}
use Rattle.eval_results.specs.declared.sizes.Outcome.{Outcome}
use Rattle.eval_trail.specs.Turns.Contracts.{pieces_at, newest_piece}
use Rattle.eval_pieces.specs.Cursor.Contracts.{EndIs}
use Rattle.eval_question_laws.specs.Clauses.{Asked, Questioned}
use Rattle.eval_question_laws.specs.Rules.{pieces-height}
use Rattle.eval_question_laws.specs.Standing.{pieces-begin, pieces_end}
use Rattle.eval_unresolved.specs.Pieces.Contracts.{Behind}
use Rattle.eval_unresolved.specs.Pieces.Several.{behind-left}
use Rattle.eval_ahead.specs.Clauses.{Starts, FirstIs, Passes, Stops, AheadCase, AheadIs}
use Rattle.eval_ahead.specs.Fates.{nothing-fate, stops-fate}
use Rattle.eval_ahead.specs.declared.Awaited.{Awaited}
use Rattle.eval_unresolved.specs.Clauses.{OutcomeCase, OutcomeIs}
use Rattle.eval_outcomes.specs.Newest.Contracts.{GoesAt, Goes, begins, further, FromAsked, FromIs, NewestAsked, Awaits, NewestCase, NewestIs}

-- ---- pieces behind others

behind_more : {T : List ℕ} {first : ℕ} {all : Pieces} {i : ℕ} {ps : Pieces} → Behind T first all i ps → first ≤ i
behind_more Behind.none = omega arith
behind_more (Behind.node h) = omega (arith, behind_more h)
behind_more (Behind.reference h) = omega (arith, behind_more h)

behind-low : {T : List ℕ} {first : ℕ} {all : Pieces} {i : ℕ} {ps : Pieces} → Behind T first all i ps → highest_piece ps ≤ highest_piece all
unfolding height_of
behind-low Behind.none = omega arith
behind-low (Behind.node h) = let l = behind-low h in omega arith
behind-low (Behind.reference h) = let l = behind-low h in omega arith

module _ {x : Setting} {key : ℕ → Text} {items : ℕ} {T B E : List ℕ} {S : Trail Answer} {base item b : ℕ} {u : Unresolved}
    (Q : Questioned x key items T B E S base item b u) where
  -- behind all of them
  all-behind : (ps : Pieces) {i : ℕ} → Behind T (item + 1) u.pieces i ps
      → Behind T (item + 1) u.pieces (item + get_or T (8 * item + 1) 0) no_pieces
  all-behind no_pieces {i} h = subst (λ (j : ℕ). Behind T (item + 1) u.pieces j no_pieces) (pieces_end Q (behind-left Q h)) h
  all-behind (node_piece place gap n ps) h = all-behind ps (Behind.node h)
  all-behind (substituted gap y ps) h = all-behind ps (Behind.reference h)

-- ---- where it goes on

module _ {T L : List ℕ} {n item m : ℕ} (R : ReadIs L (pieces_at + (n - 1)) m) where
  pub from-begun : m ≡ 0 → {r : ℕ} → FirstIs T item r → FromIs T L n item r
  from-begun z {r} F = record { is = λ x key items B E S base b u ss Q G. go G (F.is x key items B E S base b u Q) }
    where
      go : {x : Setting} {u : Unresolved} {ss : List Needed} → Goes x u T item (newest_piece L n) ss → Starts x u T item r → GoesAt x u T item r ss
      go (begins e f) s = record { rest = s.rest; behind = s.behind; needs = s.needs ∙ f }
      go (further low h a) s = absurd (omega (arith, R.is))

  pub from-there : (m ≡ 0 → ⊥) → FromIs T L n item m
  from-there z = record { is = λ x key items B E S base b u ss Q G. go G }
    where
      go : {x : Setting} {u : Unresolved} {ss : List Needed} → Goes x u T item (newest_piece L n) ss → GoesAt x u T item m ss
      go (begins e f) = absurd (z (R.is ∙ e))
      go {x} {u} {ss} (further low h a) = subst (λ (i : ℕ). GoesAt x u T item i ss) (sym R.is) a

pub ruleset froms = (from-begun, from-there)

-- ---- what is asked

module _ {B E w room L : List ℕ} {base n item : ℕ} (A : NewestAsked B E w room L base n item) where
  pub from-asked : FromAsked n item
  from-asked = record { some = A.some; few = A.few; item-low = A.asked.high }

  module _ {T w₁ room₁ : List ℕ} {from : ℕ} {r : Maybe Awaited} (H : AheadIs T B E base item from w w₁ room₁ r) where
    pub newest-asked : Asked B E w₁ room₁ base item
    newest-asked =
        let a = A.asked in
        record {
          whole = H.whole;
          bytes = a.bytes;
          most = a.most;
          environment = a.environment;
          work = omega (arith, a.work, H.left.len);
          used = a.used;
          low = a.low;
          high = a.high;
        }

    piece-small : {a : Awaited} → r ≡ Some a → a.piece < capacity
    piece-small e = rw e at H.within

    pub piece-fits : {a : Awaited} → r ≡ Some a → a.piece < 65536
    piece-fits e = omega (arith, piece-small e)

    -- ---- the ends

    module _ (F : FromIs T L n item from) where
      module _ {x : Setting} {key : ℕ → Text} {items : ℕ} {S : Trail Answer} {b : ℕ} {u : Unresolved} {ss : List Needed}
          (Q : Questioned x key items T B E S base item b u) (G : Goes x u T item (newest_piece L n) ss) where
        there : GoesAt x u T item from ss
        there = F.is x key items B E S base b u ss Q G

        low : highest_piece there.rest ≤ height_of (root_node x.document.root)
        low = omega (arith, behind-low there.behind, pieces-height Q)

        came : AheadCase x (lookup S) u T item there.rest r
        came = H.is x key items S b u there.rest Q there.behind

        by-needs : (f : Fate Refusal Answer)
            → fate (lookup S) (needs_of x.document.root x.environment u.openness there.rest) (rule_of x b) ≡ f
            → fate (lookup S) ss (rule_of x b) ≡ f
        by-needs f e = ap (λ (ns : List Needed). fate (lookup S) ns (rule_of x b)) (sym there.needs) ∙ e

        awaits-at : {a : Awaited} (room₂ : List ℕ) → r ≡ Some a → Awaits x key items T room₂ S b u item a.piece ss a.question
        awaits-at {a} room₂ e =
            let s : Stops x (lookup S) u T item there.rest a.question a.piece = subst (λ (y : Maybe Awaited). AheadCase x (lookup S) u T item there.rest y) e came in
            record {
              further = needs_of x.document.root x.environment u.openness s.rest;
              is = by-needs (awaits a.question (needs_of x.document.root x.environment u.openness s.rest)) (stops-fate Q (rule_of x b) s low);
              goes = further (omega (arith, behind_more s.behind)) (omega (arith, piece-small e))
                  (record { rest = s.rest; behind = s.behind; needs = refl });
            }

        looked : r ≡ None → fate (lookup S) ss (rule_of x b) ≡ fate_of (run (lookup S) (rule_of x b))
        looked e = by-needs (fate_of (run (lookup S) (rule_of x b))) (nothing-fate Q (rule_of x b) passed low)
          where
            passed : Passes x (lookup S) u there.rest no_pieces
            passed = subst (λ (y : Maybe Awaited). AheadCase x (lookup S) u T item there.rest y) e came

        -- all pieces are passed
        ended : {end : ℕ} → EndIs T item end → Goes x u T item end []
        unfolding needs_of
        ended {end} D =
            let z : end ≡ item + get_or T (8 * item + 1) 0 = omega (arith, D.is, (pieces-begin Q).upto, Q.state.document.few) in
            let h : Behind T (item + 1) u.pieces end no_pieces = rw z (all-behind Q u.pieces Behind.none) in
            further (omega (arith, behind_more h)) (omega (arith, D.is)) (record { rest = no_pieces; behind = h; needs = refl })

        runs : (room₂ : List ℕ) {end : ℕ} → r ≡ None → EndIs T item end → (o : Outcome)
            → OutcomeCase key items T room₂ (run (lookup S) (rule_of x b)) o → NewestCase x key items T room₂ S b u item end ss o
        runs room₂ e D (Outcome.Done y) c = record { looked = looked e; comes = c; goes = ended D }
        runs room₂ e D Outcome.Undefined c = record { looked = looked e; comes = c; goes = ended D }
        runs room₂ e D (Outcome.Needs d) c = record { further = []; is = looked e ∙ ap fate_of c; goes = ended D }
        runs room₂ e D (Outcome.Refused number place) c = record { looked = looked e; comes = c; goes = ended D }

      pub newest-needs : {a : Awaited} → r ≡ Some a
          → NewestIs T E base n item w w₁ B B L (set L (pieces_at + (n - 1)) a.piece) (Outcome.Needs a.question) room₁
      newest-needs {a} e = record {
        left = H.left;
        bytes = refl;
        beside = λ j y l. refl;
        whole = H.whole;
        within = tt;
        piece = a.piece;
        list = refl;
        is = λ x key items S b u ss Q G. (Q.state, awaits-at Q G room₁ e);
      }

      pub newest-runs : {end : ℕ} {w₂ B₂ room₂ : List ℕ} {o : Outcome} → r ≡ None → EndIs T item end
          → OutcomeIs T E base item w₁ w₂ B B₂ o room₂ → NewestIs T E base n item w w₂ B B₂ L (set L (pieces_at + (n - 1)) end) o room₂
      newest-runs {end} {w₂} {B₂} {room₂} {o} e D O = record {
        left = left-then H.left O.left;
        bytes = O.bytes;
        beside = O.beside;
        whole = O.whole;
        within = O.within;
        piece = end;
        list = refl;
        is = λ x key items S b u ss Q G. let (s, c) = O.is x key items S b u Q in (s, runs Q G room₂ e D o c);
      }

pub ruleset newests = (from-asked, newest-asked, piece-fits, newest-needs, newest-runs)
