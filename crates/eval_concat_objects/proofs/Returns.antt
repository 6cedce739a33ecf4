-- A law for each place where a function returns, and for what a callee asks.
use mathlib.Core.Path.{◌≡◌, refl, sym, ap, subst, ◌∙◌}
use Prim.Native.Nat.{ℕ, ◌+◌, ◌≤◌}
use mathlib.Core.Bool.{Bool, true, false, cond}
use mathlib.Core.List.{List}
use Rattle.std.specs.Prelude.{Ok, Err, Some, None}
use mathlib.Core.Option.{Option, none, some}
use native.Mathlib.Omega.{arith}
use lib.ListN.{length}
use Rattle.answers.specs.Ask.{Trail, lookup, value, missing, refused, then}
use Rattle.answers.specs.Theory.Sound.{clash}
use Rattle.rules.specs.Bytes.{Text}
use Rattle.rules.specs.Sizes.{max_records, max_room, max_unresolved}
use Rattle.rules.specs.Values.{Value, Answer, object_of, Members, record_size}
use Rattle.rules.specs.NamedValues.{Distinct}
use Rattle.rules.specs.Layers.{Layer, keys_in_order}
use Rattle.rules.specs.Settled.{Given, push_all, members_in, merged_in, value_in}
use Rattle.rules.specs.Unresolved as rules
use Rattle.rules.specs.Documents.{Setting}
use Rattle.theory.specs.SettledAnswers.{join_piece_in}
use Rattle.text_chars.specs.declared.Refusal.{Refusal}
use Rattle.doc_items.specs.Room.{text_room, sheet_at, trail_at, number_bound}
use Rattle.eval_writer.specs.Clauses.{Room}
use Rattle.eval_writer.specs.Composition.{start}
use Rattle.eval_writer.specs.declared.Source.{Source}
use Rattle.sheet_kept.specs.Kept.{Held, named}
use Rattle.eval_results.specs.Extents.Contracts.{far}
use Rattle.eval_results.specs.declared.extents.Extent.{Extent}
use Rattle.eval_results.specs.Sizes.Contracts.{within_c}
use Rattle.eval_results.specs.Sizes.Answers.{ValueIn, within-nesting, within-records, within-texts, value-within, value-records, value-stands}
use Rattle.eval_store.specs.Values.Contracts.{Full}
use Rattle.eval_concat.specs.Model.{Joined, join, too_large_c, tested_c}
use Rattle.eval_concat.specs.Standing.{JoinIn, JoinedIs}
use Rattle.eval_concat.specs.Objects as joins
use Rattle.eval_concat.specs.Objects.{ObjectJoined, object_by, object_c, ObjectJoinedIs, object-is, merged-is}
use Rattle.eval_concat.specs.declared.Kind.{Kind}
use Rattle.eval_concat.specs.declared.Join.{Join}
use Rattle.eval_groups.specs.Select.Levels.{below_then, below-lower}
use Rattle.eval_memory.specs.Keys.{KeyNumber}
use Rattle.eval_results.specs.Values.Comes.{Comes, ComesBy, ValueThere}
use Rattle.eval_results.specs.declared.values.Worked.{Worked}
use Rattle.eval_memory.specs.Finished.{Memory}
use Rattle.eval_state.specs.Memories.{second_at, answers_of, pair_of}
use Rattle.eval_state.specs.Values.{KeptAt}
use Rattle.eval_state.specs.State.{pair-tables}
use Rattle.eval_state.specs.Clauses.{half_of, Finished, PairAsked, PairIs}
use Rattle.eval_value_laws.specs.Ground.{Names}
use Rattle.eval_value_laws.specs.Clauses.{Left, ObjectIs, merged_by}
use Rattle.eval_concat_objects.specs.Pair.Contracts.{MergeAsked, MergeIs}
use Rattle.eval_pieces.specs.Clauses.{MergedOf}
use Rattle.eval_concat.specs.Steps.Distinct.{DistinctJoin}
use Rattle.eval_concat.specs.Steps.Contracts.{Good, Steady, JoinAsked, StepGiven, Stepped, StepOfIs, JoinStepIs, step_of}
use Rattle.eval_concat.specs.Steps.Steps.{step-distinct, joined_step}
use Rattle.eval_concat.specs.declared.steps.JoinStep.{JoinStep}
use Rattle.eval_concat_objects.specs.Beside.{nothing-beside, beside-then, still, objects-still}
use Rattle.eval_concat_objects.specs.Clauses.{KeepAsked, KeptIs, OverAsked, OverIs, PieceAsked, PieceGiven, PieceJoinedIs, WorkedGiven, WorkedJoinedIs}

-- ---- a value within its size may be kept

full-within : {room : List ℕ} (e : Extent) → Room room → within_c e ≡ true → Full room e.out
full-within e r w = record { whole = r; rec = within-records e w; text = within-texts e w }

value-finished : {key : ℕ → Text} (items : ℕ) {T room : List ℕ} {e : Extent} {v : Value} (h : ValueIn key (Good T items) room e v)
    → within_c e ≡ true → Distinct v → Finished key items T room e.out h.held
value-finished items {e = e} h w d = record {
  in-room = value-stands h w;
  keys = h.good;
  distinct = rw h.is d;
  nesting = omega (arith, h.came.deep, within-nesting e w);
}

-- ---- the join is kept

module _ {B room : List ℕ} {j : Join} (A : KeepAsked B room j) where
  within-object : j.kind ≡ Kind.Object → within_c j.extent ≡ true
  within-object k = rw k at A.tested

  pub first-asked : j.kind ≡ Kind.Object → PairAsked B room j.extent.out
  first-asked k = record { full = full-within j.extent A.whole (within-object k); bytes = A.bytes }

  pub first-kept : {B' : List ℕ} → j.kind ≡ Kind.Object → PairIs room j.extent.out false B B' → KeptIs room j B B'
  unfolding half_of
  first-kept {B'} k p = record {
    beside = record { len = p.len; same = p.beside };
    first = λ key items T ms e v d.
        subst (λ (u : Value). KeptAt (pair_of key items T B') u 0 0) v.is
        (p.kept key items T v.held (value-finished items v (within-object k) d));
  }

none_kept : {B room : List ℕ} {j : Join} → (j.kind ≡ Kind.Object → ⊥) → KeptIs room j B B
none_kept n = record { beside = record { len = refl; same = λ m d l. refl }; first = λ key items T ms e v d. absurd (n e) }

pub blank-kept : {B room : List ℕ} {j : Join} → j.kind ≡ Kind.Blank → KeptIs room j B B
blank-kept k = none_kept (λ e. clash (cc))

pub text-kept : {B room : List ℕ} {j : Join} → j.kind ≡ Kind.Simple → KeptIs room j B B
text-kept k = none_kept (λ e. clash (cc))

pub array-kept : {B room : List ℕ} {j : Join} {n : ℕ} → j.kind ≡ Kind.Array n → KeptIs room j B B
array-kept k = none_kept (λ e. clash (cc))

pub ruleset keeping = (first-asked, first-kept, blank-kept, text-kept, array-kept)

-- ---- the piece goes over it

module _ {B w : List ℕ} {base : ℕ} {b : List ℕ} {piece : Extent} (A : OverAsked B w base b piece) where
  pub second-asked : PairAsked B b piece.out
  second-asked = record { full = full-within piece A.whole A.small; bytes = A.bytes }

  pub over-asked : {B' : List ℕ} {second : Bool} → PairIs b piece.out second B B' → MergeAsked B' w base b
  over-asked p =
      let n = p.len in
      record { whole = A.whole; bytes = omega (arith, A.bytes); most = omega (arith, A.most); work = A.work; used = A.used }

  pub over-merged : {B' T w' a : List ℕ} {e : Extent} {r : Joined} → PairIs b piece.out true B B' → MergeIs T B' base w w' e b a → length a ≡ length b
      → r ≡ tested_c (join Kind.Object e) → OverIs T base piece w w' B B' b a r
  unfolding half_of
  over-merged {B'} {T} {w'} {a} {e} {r} p m l t = record {
    left = m.left;
    beside = record { len = p.len; same = p.beside };
    whole = omega (arith, A.whole);
    extent = e;
    tested = t;
    is = λ x key items S upper lower g.
        let f = value-finished items g.value A.small g.distinct in
        let v = g.value in
        let two : KeptAt (pair_of key items T B') (object_of upper) second_at second_at =
        subst (λ (u : Value). KeptAt (pair_of key items T B') u second_at second_at) v.is (p.kept key items T v.held f) in
        let one = p.other key items T v.held (object_of lower) f.in-room g.few g.first in
        let q = m.is key items upper lower (record {
          stored = (pair-tables (still g.state (record { len = p.len; same = p.beside })) (λ b. none)).stored;
          first = one.value;
          second = two.value;
          lower-few = g.few;
          upper-few = omega (arith, value-records v A.small, within-records piece A.small);
          fits = g.fits;
        }) in
        record { held = q.held; good = q.keys; is = q.is; before = b; whole = A.whole; came = q.came };
  }

pub ruleset overs = (second-asked, over-asked, over-merged)

-- ---- the piece that was written

-- what an object piece is joined to
so-object : {T : List ℕ} {i : ℕ} {j k : Join} {e : Extent} {r : ObjectJoined} → joins.ObjectIs T i j e r → r ≡ Ok (Some k)
    → (k.kind ≡ Kind.Object) × (within_c k.extent ≡ true)
unfolding object_c
so-object {T} {i} {j} {k} {e} d z = go (within_c e) refl j.kind (sym d.is ∙ z)
  where
    go : (s : Bool) → within_c e ≡ s → (q : Kind) → cond s (object_by q T i e) (Err too_large_c) ≡ Ok (Some k)
        → (k.kind ≡ Kind.Object) × (within_c k.extent ≡ true)
    go true v Kind.Blank h = let y : join Kind.Object e ≡ k = cc in rw (sym y) (refl, v)
    go true v Kind.Simple h = clash (cc)
    go true v (Kind.Array n) h = clash (cc)
    go true v Kind.Object h = clash (cc)
    go false v q h = clash (cc)

merge-small : {T : List ℕ} {i : ℕ} {j : Join} {e : Extent} {r : ObjectJoined} → joins.ObjectIs T i j e r → r ≡ Ok None → within_c e ≡ true
unfolding object_c
merge-small {T} {i} {j} {e} d z = go (within_c e) refl (sym d.is ∙ z)
  where
    go : (s : Bool) → within_c e ≡ s → cond s (object_by j.kind T i e) (Err too_large_c) ≡ Ok None → within_c e ≡ true
    go true v h = v
    go false v h = clash (cc)

tested-object : {k : Join} (e : Extent) → tested_c (join Kind.Object e) ≡ Ok k → (k.kind ≡ Kind.Object) × (within_c k.extent ≡ true)
unfolding tested_c
tested-object {k} e z = go (within_c e) refl z
  where
    go : (s : Bool) → within_c e ≡ s → cond s (Ok (join Kind.Object e)) (Err too_large_c) ≡ Ok k
        → (k.kind ≡ Kind.Object) × (within_c k.extent ≡ true)
    go true v h = let y : join Kind.Object e ≡ k = cc in rw (sym y) (refl, v)
    go false v h = clash (cc)

-- the join was within its size
lower-few : {key : ℕ → Text} {P : Held → Type 0} {j : Join} {room : List ℕ} {lower : Members} → JoinIn key P j room (rules.joined_object lower)
    → record_size (object_of lower) ≤ max_records
lower-few {j = j} h = omega (arith, value-records h.is.1 h.is.2, within-records j.extent h.is.2)

stays : {w : List ℕ} (base : ℕ) → Left base w w
stays base = record { below = λ i u v. refl; len = refl }

module _ {B w b : List ℕ} {base i : ℕ} (A : PieceAsked B w b base i) {T : List ℕ} {j : Join} {piece : Extent} {q : ObjectJoined}
    (d : joins.ObjectIs T i j piece q) where
  joined : (x : Setting) (key : ℕ → Text) (items : ℕ) (S : Trail Answer) (place : ℕ) (gap : Text) (J : rules.Join) (ns : Members)
      → PieceGiven x key items T B S base i place gap j piece b J ns
      → ObjectJoinedIs key (Good T items) b ns J piece (join_piece_in place gap (some (object_of ns)) J) q
  joined x key items S place gap J ns g = object-is g.at g.value J g.join d

  alone : (r : Joined) → ((k : Join) → r ≡ Ok k → (k.kind ≡ Kind.Object) × (within_c k.extent ≡ true))
      → ((x : Setting) (key : ℕ → Text) (items : ℕ) (S : Trail Answer) (place : ℕ) (gap : Text) (J : rules.Join) (ns : Members)
      → PieceGiven x key items T B S base i place gap j piece b J ns → JoinedIs key (Good T items) b (join_piece_in place gap (some (object_of ns)) J) r)
      → PieceJoinedIs T base i j piece w w B B b b r
  alone r o h = record { left = stays base; beside = nothing-beside; whole = A.whole; object = o; is = h }

  pub written-so : {k : Join} → q ≡ Ok (Some k) → PieceJoinedIs T base i j piece w w B B b b (Ok k)
  written-so {k} z =
      alone (Ok k) (λ m e. let y : k ≡ m = cc (e) in rw (← y) (so-object d z))
      (λ x key items S place gap J ns g.
      let h : ObjectJoinedIs key (Good T items) b ns J piece (join_piece_in place gap (some (object_of ns)) J) (Ok (Some k)) =
      rw z at (joined x key items S place gap J ns g) in
      record { is = h.is })

  pub written-refused : {p : Refusal} → q ≡ Err p → PieceJoinedIs T base i j piece w w B B b b (Err p)
  written-refused {p} z =
      alone (Err p) (λ m e. clash (cc (e)))
      (λ x key items S place gap J ns g.
      let h : ObjectJoinedIs key (Good T items) b ns J piece (join_piece_in place gap (some (object_of ns)) J) (Err p) =
      rw z at (joined x key items S place gap J ns g) in
      record { is = h.is })

  pub merging-asked : q ≡ Ok None → OverAsked B w base b piece
  merging-asked z = record { whole = A.whole; bytes = A.bytes; most = A.most; work = A.work; used = A.used; small = merge-small d z }

  pub written-merged : {w' B' a : List ℕ} {r : Joined} → q ≡ Ok None → OverIs T base piece w w' B B' b a r
      → PieceJoinedIs T base i j piece w w' B B' b a r
  written-merged {w'} {B'} {a} {r} z f = record {
    left = f.left;
    beside = f.beside;
    whole = f.whole;
    object = λ m e. tested-object f.extent (sym f.tested ∙ e);
    is = λ x key items S place gap J ns g.
        let h : ObjectJoinedIs key (Good T items) b ns J piece (join_piece_in place gap (some (object_of ns)) J) (Ok None) =
        rw z at (joined x key items S place gap J ns g) in
        let m = h.is.0 in
        let l : record_size (object_of m.lower) ≤ max_records =
        lower-few (subst (λ (K : rules.Join). JoinIn key (Good T items) j g.old K) m.is g.join) in
        let v = f.is x key items S ns m.lower (record {
          state = g.state;
          value = g.value;
          distinct = g.own (sym (value-within g.value) ∙ h.is.1);
          first = g.first m.lower m.is;
          few = l;
          fits = g.fits;
        }) in
        rw f.tested (merged-is m v);
  }

pub ruleset writing = (written-so, written-refused, merging-asked, written-merged)

-- ---- what the objects came to

step_so : {q : Joined} {r : Stepped} {k : Join} → StepOfIs q r → r ≡ Ok (JoinStep.So k) → q ≡ Ok k
step_so {q} {r} {k} s e = go q (sym s.is ∙ e)
  where
    go : (q : Joined) → step_of q ≡ Ok (JoinStep.So k) → q ≡ Ok k
    go (Ok j) e = cc (e)
    go (Err p) e = clash (cc (e))

module _ {B w b : List ℕ} {base i : ℕ} (A : PieceAsked B w b base i) {j : Join} {q : Worked} where
  pub worked-needs : {T : List ℕ} {d : ℕ} → q ≡ Worked.Needs d → WorkedJoinedIs T base i j q w w B B b b (Ok (JoinStep.Needs d))
  worked-needs {T} {d} z = record {
    left = stays base;
    beside = nothing-beside;
    whole = A.whole;
    object = λ k e. clash (cc (e));
    is = λ x key items S place gap J g s.
        let c : ComesBy key (KeyNumber T (items + 1)) g start s.old b (Worked.Needs d) = rw z at s.comes.is in
        ap (λ (u : Given Answer). then u (λ v. join_piece_in place gap v J)) c;
  }

  pub worked-undefined : {T : List ℕ} {p : Refusal} → q ≡ Worked.Undefined → p ≡ too_large_c → WorkedJoinedIs T base i j q w w B B b b (Err p)
  worked-undefined {T} z t = record {
    left = stays base;
    beside = nothing-beside;
    whole = A.whole;
    object = λ k e. clash (cc (e));
    is = λ x key items S place gap J g s.
        let c : ComesBy key (KeyNumber T (items + 1)) g start s.old b Worked.Undefined = rw z at s.comes.is in
        absurd (s.defined c.0);
  }

  worked-done : {T w' B' a : List ℕ} {piece : Extent} {p : Joined} {r : Stepped} → q ≡ Worked.Done piece
      → PieceJoinedIs T base i j piece w w' B B' b a p → StepOfIs p r → WorkedJoinedIs T base i j q w w' B B' b a r
  worked-done {T} {w'} {B'} {a} {piece} {p} {r} z h o = record {
    left = h.left;
    beside = h.beside;
    whole = h.whole;
    object = λ k e. h.object k (step_so o e);
    is = λ x key items S place gap J g s.
        let c : ValueThere key (KeyNumber T (items + 1)) g start piece s.old b = rw z at s.comes.is in
        let (ns, v) = s.object (named key c.held) c.is in
        let e : g ≡ value (some (object_of ns)) = c.is ∙ ap (λ (u : Value). value (some u)) v in
        let n = h.is x key items S place gap J ns (record {
          state = s.state;
          old = s.old;
          join = s.join;
          texts = s.texts;
          at = s.at;
          value = record { held = c.held; good = c.keys; is = v; before = s.old; whole = s.whole; came = c.came };
          own = s.own (object_of ns) e;
          first = s.first;
          fits = s.fits;
        }) in
        joined_step o (subst (λ (u : Given Answer). JoinedIs key (Good T items) a (then u (λ v. join_piece_in place gap v J)) p) (sym e) n)
        (step-distinct place gap J g s.own s.distinct);
  }

  module _ {T w' B' a : List ℕ} {piece : Extent} {p : Joined} (z : q ≡ Worked.Done piece) (h : PieceJoinedIs T base i j piece w w' B B' b a p) where
    pub worked-so : {k : Join} → p ≡ Ok k → WorkedJoinedIs T base i j q w w' B B' b a (Ok (JoinStep.So k))
    worked-so e = worked-done z h (record { is = sym (ap step_of e) })

    pub worked-refused : {e : Refusal} → p ≡ Err e → WorkedJoinedIs T base i j q w w' B B' b a (Err e)
    worked-refused e = worked-done z h (record { is = sym (ap step_of e) })

pub ruleset workings = (worked-needs, worked-undefined, worked-so, worked-refused)

-- ---- objects on the stack

abbrev answers : Source
answers = record { rec = record { 0 = trail_at }; text = record { 0 = sheet_at } }

-- what merged objects come to is an object
object-made : (known : ℕ → Option Answer) (d : ℕ) (os : List Layer) (v : Value) → merged_by known d os ≡ value (some v)
    → (ns : Members) × (v ≡ object_of ns)
unfolding merged_in
object-made known d os v e = go (members_in known (value_in known d) (push_all known os) (keys_in_order os)) e
  where
    go : (g : Given Members) → then (then g (λ ms. value (object_of ms))) (λ u. value (some u)) ≡ value (some v) → (ns : Members) × (v ≡ object_of ns)
    go (value ms) e = (ms, cc (e))
    go (refused x) e = clash (cc (e))
    go (missing n) e = clash (cc (e))

never-undefined : (known : ℕ → Option Answer) (d : ℕ) (os : List Layer) → merged_by known d os ≡ value none → ⊥
unfolding merged_in
never-undefined known d os e = go (members_in known (value_in known d) (push_all known os) (keys_in_order os)) e
  where
    go : (g : Given Members) → ◌≡◌ {A = Given Answer} (then (then g (λ ms. value (object_of ms))) (λ u. value (some u))) (value none) → ⊥
    go (value ms) e = clash (cc (e))
    go (refused x) e = clash (cc (e))
    go (missing n) e = clash (cc (e))

-- an object within its size may be joined to
object-steady : (t c : ℕ) {k : Join} → (k.kind ≡ Kind.Object) × (within_c k.extent ≡ true) → Steady (t + number_bound) (c + far) k
object-steady t c {k} (e, w) = record { below = record { text = omega (arith, within-texts k.extent w); count = rw e tt }; tested = rw e w }

module _ {B w b : List ℕ} {base i : ℕ} {j : Join} (A : JoinAsked B w b base i j) {B' : List ℕ} (k : KeptIs b j B B') {lo hi : ℕ}
    {T w' y : List ℕ} {q : Worked} (f : ObjectIs T B' answers lo hi start 65 w w' q b y) {w'' B'' a : List ℕ} {r : Stepped}
    (h : WorkedJoinedIs T base i j q w' w'' B' B'' y a r) where
  first : (key : ℕ → Text) (items : ℕ) (J : rules.Join) → JoinIn key (Good T items) j b J → DistinctJoin J
      → (ms : Members) → J ≡ rules.joined_object ms → KeptAt (pair_of key items T B') (object_of ms) 0 0
  first key items J n d ms e =
      let (u, v, t) = (subst (λ (K : rules.Join). JoinIn key (Good T items) j b K) e n).is in
      k.first key items T ms u v (subst (λ (K : rules.Join). DistinctJoin K) e d)

  given : (x : Setting) (key : ℕ → Text) (items : ℕ) (S : Trail Answer) (place : ℕ) (gap : Text) (J : rules.Join) (g : Given Answer)
      → StepGiven x key items T B S base i place gap j b J g → MergedOf (answers_of key items T B) (lookup S) w lo hi g
      → WorkedGiven x key items T B' S base i place gap j q y J g
  given x key items S place gap J g s m =
      let N : Names = record { key = key; items = items + 1; ends = text_room; answered = max_unresolved; filled = max_room; filled-text = max_room } in
      record {
        state = still s.state k.beside;
        old = b;
        whole = A.whole;
        join = s.join;
        distinct = s.distinct;
        texts = B;
        at = s.at;
        comes = subst (λ (u : Given Answer). Comes key (KeyNumber T (items + 1)) u start q b y) (sym m.is)
            (f.is N (lookup S) m.depth m.objects (objects-still s.state k.beside m.given));
        object = λ v e. object-made (lookup S) m.depth m.objects v (sym m.is ∙ e);
        defined = λ e. never-undefined (lookup S) m.depth m.objects (sym m.is ∙ e);
        own = s.own;
        first = first key items J s.join s.distinct;
        fits = s.fits;
      }

  pub objects-joined : {Case : Memory → (ℕ → Option Answer) → Given Answer → Type 0} → base ≤ lo → lo ≤ hi
      → ((M : Memory) (known : ℕ → Option Answer) (g : Given Answer) → Case M known g → MergedOf M known w lo hi g)
      → JoinStepIs T base i j Case w w'' B B'' b a r
  objects-joined l u z =
      let E = beside-then k.beside h.beside in
      record {
        left = record {
          below = below_then base w w' w'' (below-lower w w' (omega arith) f.left.below) h.left.below;
          len = h.left.len ∙ f.left.len;
        };
        bytes = E.len;
        beside = E.same;
        whole = h.whole;
        grows = λ n e t c v. object-steady t c (h.object n e);
        is = λ x key items S place gap J g s m. (still s.state E, h.is x key items S place gap J g (given x key items S place gap J g s (z (answers_of key items T B) (lookup S) g m)));
      }
