-- A law for each place where the need of a layer and of merged objects is returned, and for what is lent on.
use Rattle.std.specs.Prelude.{◌≡◌, refl, ◌⊎◌, List, [], ◌∷◌, reverse, ℕ, zero, suc, ◌+◌, ◌-◌, ◌*◌, ◌%◌, ◌≤◌, ◌<◌, length, get_or, take, drop}
use Rattle.std.proofs.Common.{sym, ap, subst, ◌∙◌, arith}
use Rattle.std.proofs.Math.Option.{Option}
use Rattle.answers.specs.Ask.{Trail, lookup}
use Rattle.answers.specs.Resolve.{answer}
use Rattle.rules.specs.Sizes.{max_room}
use Rattle.rules.specs.Tree.{Node, simple, array, object, unresolved, Fields, Elements, no-elements, AllElements}
use Rattle.rules.specs.Values.{Answer}
use Rattle.rules.specs.Layers.{Layer, written, settled, keys_in_order}
use Rattle.rules.specs.Weights.{weight_of, weight_of_elements}
use Rattle.theory.specs.Reach.{Each, InRange}
use Rattle.theory_order.specs.Fitting.{Plain}
use Rattle.theory_order.specs.Code.{keys_by, objects_by, level_at}
use Rattle.theory_order.specs.Clauses.{Task, questions_of, NumberedLayer, NumberedObject, settle_node_c, settle_object_c}
use Rattle.theory_order.specs.SettleLaws as order
use Rattle.doc_items.specs.Codes.{code_of, as_member, as_piece}
use Rattle.doc_items.specs.Room.{capacity, number_bound, trail_at}
use Rattle.doc_items.specs.Writing.{ReadIs}
use Rattle.eval_writer.specs.declared.Source.{Source}
use Rattle.eval_stack.specs.Model.{entries, Work, code_at, seg}
use Rattle.eval_stack.specs.Clauses.{CodeIs, PushIs}
use Rattle.eval_memory.specs.Finished.{Memory}
use Rattle.eval_memory.specs.Tables.{Shows, Match, code-small, kind-only, item-low}
use Rattle.eval_groups.specs.Clauses.{MembersIs}
use Rattle.eval_groups.specs.Entries.{Objects}
use Rattle.eval_groups.specs.Room.{Roomy, objects-weigh}
use Rattle.eval_groups.specs.Select.Levels.{ObjectsAt, objects-size, object-alone, Level, members-level, level-keys}
use Rattle.eval_writer.specs.Copies.Sources.{SourceIn}
use Rattle.eval_state.specs.Later.{later_same}
use Rattle.eval_frames.specs.Shows.{used-tables}
use Rattle.eval_value_laws.specs.Elements.{ElementsShown}
use Rattle.eval_value_laws.specs.Frames.{left-all, left-then, left-lower, push-left, push-high, push-there}
use Rattle.eval_settle_laws.specs.declared.Kind.{Kind}
use Rattle.eval_settle_laws.specs.declared.Span.{Span}
use Rattle.eval_settle_laws.specs.declared.Need.{Need}
use Rattle.eval_settle_laws.specs.Ground.{settling_room, Lasting, LayerFits, ObjectsFit, Ground, Sound, memory_of}
use Rattle.eval_settle_laws.specs.Needs.{elements, keys, inside_c, KeysFrom, LayerAsked, LayerIs, ObjectsAsked, merged_c, ObjectsIs}
use Rattle.eval_settle_laws.specs.Rooms.{lasting-now}

-- an item's kind, be it a member's or a piece's
kind-is : {T : List ℕ} (c : ℕ) {k r : ℕ} (code : ℕ) → ReadIs T (8 * c) k → (r ≡ as_member) ⊎ (r ≡ as_piece) → get_or T (8 * c) 0 ≡ r + code → code < as_piece → k % 16 ≡ code
kind-is {T} c code read r e l = ap (λ (n : ℕ). n % 16) read.is ∙ kind-only (get_or T (8 * c) 0) code r e l

-- ---- what is inside, at each level

array-inside : (t : Task) (S : Trail Answer) (n : ℕ) (es : Elements) (levels : ℕ) → settle_node_c t levels (written (array es)) S n ≡ inside_c t levels (elements es) S n
array-inside t S n es zero = order.node-lowest t S n (written (array es))
array-inside t S n es (suc d) = order.node-array t S n d es

object-inside : (t : Task) (S : Trail Answer) (n : ℕ) (fs : Fields) (levels : ℕ)
    → settle_node_c t levels (written (object fs)) S n ≡ inside_c t levels (keys (written (object fs) ∷ []) (keys_in_order (written (object fs) ∷ []))) S n
object-inside t S n fs zero = order.node-lowest t S n (written (object fs))
object-inside t S n fs (suc d) = order.node-object t S n d fs ∙ order.object-starts t d S n (written (object fs) ∷ [])

-- at the lowest level nothing is left to settle
lowest : (t : Task) (S : Trail Answer) (n : ℕ) (os : List Layer) → merged_c t 0 os S n ≡ answer tt S n
unfolding level_at
lowest t S n [] = refl
lowest t S n (o ∷ []) = refl
lowest t S n (o ∷ (o' ∷ os)) = refl

-- several go one level down, and none are settled at once
several : (t : Task) (levels : ℕ) (S : Trail Answer) (n : ℕ) (os : List Layer) → (length os ≡ 1 → ⊥) → merged_c t (suc levels) os S n ≡ settle_object_c t levels os S n
unfolding level_at objects_by keys_by keys_in_order
several t levels S n [] d = refl
several t levels S n (o ∷ []) d = absurd (d refl)
several t levels S n (o ∷ (o' ∷ os)) d = refl

merged-inside : (t : Task) (S : Trail Answer) (n : ℕ) (os : List Layer) → (length os ≡ 1 → ⊥) → (levels : ℕ)
    → merged_c t levels os S n ≡ inside_c t levels (keys os (keys_in_order os)) S n
merged-inside t S n os d zero = lowest t S n os
merged-inside t S n os d (suc levels) = several t levels S n os d ∙ order.object-starts t levels S n os

-- ---- the members of objects, grouped by key

module _ {T B : List ℕ} (G : Ground T B) (H : Sound G) {w : List ℕ} {os : List Layer} {lo hi : ℕ} (shown : ObjectsAt (memory_of G) os lo hi w)
    (numbered : Each (NumberedObject (questions_of G.t)) os) (fits : Lasting G.t G.S (ObjectsFit hi os)) where
  objects-high : hi ≤ settling_room
  objects-high = let f : Roomy (lookup G.S) settling_room hi os = lasting-now H fits in omega (arith, f)

  grouped : Work w → {w' : List ℕ} {end : ℕ} → MembersIs T (take max_room (drop trail_at B)) lo hi w w' end → KeysFrom G w' hi end end os (keys_in_order os)
  grouped work {w'} {end} m =
      let M = memory_of G in
      let known = lookup G.S in
      let f : Roomy known settling_room hi os = lasting-now H fits in
      let r : Roomy known entries hi os = omega (arith, f) in
      let s = (used-tables H.state).stored in
      let L : Level M os hi end w' = members-level M s known shown r work m in
      record { base = hi; low = omega arith; high = m.low; ends = refl; shown = L; is = sym (level-keys M s L); numbered = numbered; fits = fits }

-- ---- a layer

module _ {T B : List ℕ} (G : Ground T B) where
  -- an array, by its elements
  record ArrayHere (top c : ℕ) (l : Layer) : Type 0 where
    pub es : Elements
    pub is : l ≡ written (array es)
    pub shown : ElementsShown (memory_of G) (c + 1) (c + get_or T (8 * c + 1) 0) es
    pub numbered : AllElements (InRange (questions_of G.t)) es
    pub fits : Lasting G.t G.S (λ (known : ℕ → Option Answer). top + 2 * weight_of_elements known es ≤ settling_room)

  -- an object, whose number is on the stack
  record ObjectHere (top : ℕ) (x : List ℕ) (hi : ℕ) (l : Layer) : Type 0 where
    pub fs : Fields
    pub is : l ≡ written (object fs)
    pub shown : ObjectsAt (memory_of G) (written (object fs) ∷ []) top hi x
    pub numbered : Each (NumberedObject (questions_of G.t)) (written (object fs) ∷ [])
    pub fits : Lasting G.t G.S (ObjectsFit hi (written (object fs) ∷ []))

  module _ (H : Sound G) {c : ℕ} where
    -- an item of the document is below the finished values
    shown-low : (m : Node) → Plain (written m) → Shows (memory_of G) c (written m) → c < capacity
    shown-low (simple x) q s = item-low (memory_of G) (used-tables H.state).stored s
    shown-low (array es) q s = item-low (memory_of G) (used-tables H.state).stored s
    shown-low (object fs) q s = item-low (memory_of G) (used-tables H.state).stored s
    shown-low (unresolved b ps) q s = absurd q

    finished : (levels : ℕ) (l : Layer) → capacity ≤ c → Shows (memory_of G) c l → NumberedLayer (questions_of G.t) l
        → settle_node_c G.t levels l G.S G.n ≡ answer tt G.S G.n
    finished levels (written m) h s n = let q = shown-low m n.1 s in absurd (omega arith)
    finished levels (settled v) h s n = order.node-finished G.t G.S G.n levels v

    module _ {k : ℕ} (read : ReadIs T (8 * c) k) (below : c < capacity) where
      -- neither an array nor an object
      plain : (levels : ℕ) (l : Layer) → (k % 16 ≡ 6 → ⊥) → (k % 16 ≡ 7 → ⊥) → Shows (memory_of G) c l
          → settle_node_c G.t levels l G.S G.n ≡ answer tt G.S G.n
      plain levels (written (simple x)) a o s = order.node-simple G.t G.S G.n levels x
      plain levels (written (array es)) a o s = absurd (a (kind-is c 6 read s.roles s.node.0 (omega arith)))
      plain levels (written (object fs)) a o s = absurd (o (kind-is c 7 read s.roles s.node.0 (omega arith)))
      plain levels (written (unresolved b ps)) a o s = absurd s
      plain levels (settled v) a o (off, e, s) = absurd (omega arith)

      module _ {top : ℕ} where
        array-here : (l : Layer) → k % 16 ≡ 6 → Shows (memory_of G) c l → NumberedLayer (questions_of G.t) l → Lasting G.t G.S (LayerFits top l) → ArrayHere top c l
        array-here (written (simple x)) a s n f = absurd (omega (arith, kind-is c (code_of x) read s.roles s.node.0 (omega (arith, code-small x)), code-small x))
        array-here (written (array es)) a s n f =
            record { es = es; is = refl; shown = record { upto = s.inside; at = s.node.1 }; numbered = n.0; fits = record { is = f.is } }
        array-here (written (object fs)) a s n f = absurd (omega (arith, kind-is c 7 read s.roles s.node.0 (omega arith)))
        array-here (written (unresolved b ps)) a s n f = absurd s
        array-here (settled v) a (off, e, s) n f = absurd (omega arith)

        object-here : (l : Layer) → k % 16 ≡ 7 → top ≤ settling_room → {w x : List ℕ} {hi : ℕ} → PushIs top c w x hi → Work w → Shows (memory_of G) c l
            → NumberedLayer (questions_of G.t) l → Lasting G.t G.S (LayerFits top l) → ObjectHere top x hi l
        unfolding weight_of
        object-here (written (simple x)) a u y v s n f = absurd (omega (arith, kind-is c (code_of x) read s.roles s.node.0 (omega (arith, code-small x)), code-small x))
        object-here (written (array es)) a u y v s n f = absurd (omega (arith, kind-is c 6 read s.roles s.node.0 (omega arith)))
        object-here (written (object fs)) a u {x = x} {hi = hi} y v s n f =
            let M = memory_of G in
            let l = written (object fs) in
            let z = push-there v (omega arith) y (omega arith) in
            record {
              fs = fs;
              is = refl;
              shown = rw z.0 (object-alone M l top x (omega arith) (rw z.1 s) tt);
              numbered = ((n.0, tt), tt);
              fits = record {
                is = λ S' i m.
                    let h = objects-weigh (lookup S') (l ∷ []) tt in
                    omega (arith, f.is S' i m, z.0);
              };
            }
        object-here (written (unresolved b ps)) a u y v s n f = absurd s
        object-here (settled v) a u y z (off, e, s) n f = absurd (omega arith)

-- the members of objects, as a span
abbrev pub key_span : ℕ → ℕ → Span
key_span hi end = record { kind = Kind.Keys; from = hi; end = end; top = end }

module _ {T B w : List ℕ} {top c : ℕ} where
  -- nothing is needed
  nothing-needed : ((a : LayerAsked T B w top c) (levels : ℕ)
      → settle_node_c a.basis.t levels a.l a.basis.S a.basis.n ≡ answer tt a.basis.S a.basis.n)
      → LayerIs T B top c w w Need.Nothing
  nothing-needed f = record { left = left-all; is = λ a. record { inner = elements no-elements; shows = tt; is = f a } }

  pub layer-finished : capacity ≤ c → LayerIs T B top c w w Need.Nothing
  layer-finished h = nothing-needed (λ a levels. finished a.basis a.sound levels a.l h a.shown a.numbered)

  module _ {k : ℕ} (below : c < capacity) (read : ReadIs T (8 * c) k) where
    pub layer-plain : (k % 16 ≡ 6 → ⊥) → (k % 16 ≡ 7 → ⊥) → LayerIs T B top c w w Need.Nothing
    layer-plain x y = nothing-needed (λ a levels. plain a.basis a.sound read below levels a.l x y a.shown)

    pub layer-array : {z : ℕ} → k % 16 ≡ 6 → ReadIs T (8 * c + 1) z
        → LayerIs T B top c w w (Need.Inside (record { kind = Kind.Elements; from = c + 1; end = c + z; top = top }))
    layer-array {z} e size = record {
      left = left-all;
      is = λ a.
          let g = a.basis in
          let h = array-here g a.sound read below a.l e a.shown a.numbered a.fits in
          record {
            inner = elements h.es;
            shows = (
              omega arith,
              record {
                used = a.used;
                T₀ = T;
                B₀ = B;
                S₀ = g.S;
                state = a.sound.state;
                later = later_same T B g.S;
                shown = rw size.is h.shown;
                numbered = h.numbered;
                fits = h.fits;
              },
            );
            is = λ levels.
                ap (λ (l : Layer). settle_node_c g.t levels l g.S g.n) h.is ∙ array-inside g.t g.S g.n h.es levels;
          };
    }

    module _ (e : k % 16 ≡ 7) {x : List ℕ} {hi : ℕ} (y : PushIs top c w x hi) where
      alone : (a : LayerAsked T B w top c) → ObjectHere a.basis top x hi a.l
      alone a = object-here a.basis a.sound read below a.l e a.used y a.work a.shown a.numbered a.fits

      pub layer-high : LayerAsked T B w top c → hi ≤ entries
      layer-high a = let h = alone a in omega (arith, objects-high a.basis a.sound h.shown h.numbered h.fits)

      pub layer-object : LayerAsked T B w top c → {w' : List ℕ} {end : ℕ} → MembersIs T (take max_room (drop trail_at B)) top hi x w' end
          → LayerIs T B top c w w' (Need.Inside (key_span hi end))
      layer-object A {w'} {end} m =
          let u : top ≤ entries = omega (arith, A.used) in
          let i = push-high A.work u y in
          record {
            left = left-then (push-left A.work u y) (left-lower i.0 (record { below = m.below; len = m.len }));
            is = λ a.
                let g = a.basis in
                let h = alone a in
                let o = written (object h.fs) ∷ [] in
                record {
                  inner = keys o (keys_in_order o);
                  shows = (omega (arith, i.0, m.low), grouped g a.sound h.shown h.numbered h.fits (omega (arith, a.work, y.len)) m);
                  is = λ levels.
                      ap (λ (l : Layer). settle_node_c g.t levels l g.S g.n) h.is ∙ object-inside g.t g.S g.n h.fs levels;
                };
          }

  -- what is lent on
  pub layer-work : LayerAsked T B w top c → (x : List ℕ) {hi : ℕ} → PushIs top c w x hi → Work x
  layer-work a x y = omega (arith, a.work, y.len)

  pub layer-source : LayerAsked T B w top c → (src : Source) → src.rec.0 ≡ trail_at → SourceIn B src
  layer-source a src e = record { bytes = a.sound.bytes; records = omega (arith, a.sound.state.document.bytes) }

pub ruleset layer-laws = (layer-finished, layer-plain, layer-array, layer-high, layer-object, layer-work, layer-source)

-- ---- objects that merge

-- one by itself
record Single (M : Memory) (lo : ℕ) (w : List ℕ) (os : List Layer) : Type 0 where
  pub o : Layer
  pub is : os ≡ o ∷ []
  pub shown : Shows M (code_at w lo) o

-- as a layer it has the same room
layer-room : (lo hi : ℕ) → hi ≡ lo + 1 → (t : Task) (S : Trail Answer) (o : Layer) → Objects (o ∷ []) → Lasting t S (ObjectsFit hi (o ∷ [])) → Lasting t S (LayerFits lo o)
unfolding weight_of
layer-room lo hi h t S o d f = record { is = λ S' g l. go o d (lookup S') (f.is S' g l) }
  where
    go : (o : Layer) → Objects (o ∷ []) → (known : ℕ → Option Answer) → ObjectsFit hi (o ∷ []) known → LayerFits lo o known
    go (written (simple x)) d known f = tt
    go (written (array es)) d known f = absurd d
    go (written (object fs)) d known f = omega (arith, objects-weigh known (written (object fs) ∷ []) d, f)
    go (written (unresolved b ps)) d known f = tt
    go (settled v) d known f = tt

module _ {T B w : List ℕ} {lo hi : ℕ} where
  merged-high : ObjectsAsked T B w lo hi → hi ≤ settling_room
  merged-high a = objects-high a.basis a.sound a.shown a.numbered a.fits

  -- the first of them is read
  pub objects-place : ObjectsAsked T B w lo hi → lo < number_bound
  objects-place a = omega (arith, merged-high a, a.shown.from.0)

  pub objects-top : ObjectsAsked T B w lo hi → hi ≤ entries
  objects-top a = omega (arith, merged-high a)

  pub objects-work : ObjectsAsked T B w lo hi → Work w
  objects-work a = a.work

  pub objects-source : ObjectsAsked T B w lo hi → (src : Source) → src.rec.0 ≡ trail_at → SourceIn B src
  objects-source a src e = record { bytes = a.sound.bytes; records = omega (arith, a.sound.state.document.bytes) }

  module _ (h : hi ≡ lo + 1) where
    single : (a : ObjectsAsked T B w lo hi) → Single (memory_of a.basis) lo w a.os
    single a = go a.os (objects-size M a.shown) (subst (λ (n : ℕ). Match M (reverse (seg w lo n)) a.os) one-long a.shown.from.2)
      where
        M : Memory
        M = memory_of a.basis

        one-long : hi - lo ≡ 1
        one-long = omega arith

        go : (os : List Layer) → hi ≡ lo + length os → Match M (reverse (seg w lo 1)) os → Single M lo w os
        go [] n m = absurd m
        go (o ∷ []) n m =
            let z : lo + 0 ≡ lo = omega arith in
            record { o = o; is = refl; shown = subst (λ (i : ℕ). Shows M (code_at w i) o) z m.0 }
        go (o ∷ (o' ∷ os)) n m = absurd m.1

    module _ {c : ℕ} (k : CodeIs w lo c) where
      abbrev single-asked : ObjectsAsked T B w lo hi → LayerAsked T B w lo c
      single-asked a =
          let g = a.basis in
          let s = single a in
          record {
            basis = g;
            sound = a.sound;
            work = a.work;
            used = omega (arith, merged-high a, a.shown.from.0);
            l = s.o;
            shown = rw k.is s.shown;
            numbered = order.object-layer (questions_of g.t) s.o (subst (Each (NumberedObject (questions_of g.t))) s.is a.numbered).0;
            fits = layer-room lo hi h g.t g.S s.o (subst Objects s.is a.shown.objects)
                (subst (λ (os : List Layer). Lasting g.t g.S (ObjectsFit hi os)) s.is a.fits);
          }

      pub objects-layer : ObjectsAsked T B w lo hi → LayerAsked T B w lo c
      objects-layer a = single-asked a

      pub objects-single : {w' : List ℕ} {r : Need} → LayerIs T B lo c w w' r → ObjectsIs T B lo hi w w' r
      objects-single N = record {
        left = N.left;
        is = λ a.
            let g = a.basis in
            let z = N.is (single-asked a) in
            record {
              inner = z.inner;
              shows = z.shows;
              is = λ levels. ap (λ (os : List Layer). merged_c g.t levels os g.S g.n) (single a).is ∙ z.is levels;
            };
      }

  pub objects-several : ObjectsAsked T B w lo hi → (hi ≡ lo + 1 → ⊥) → {w' : List ℕ} {end : ℕ} → MembersIs T (take max_room (drop trail_at B)) lo hi w w' end
      → ObjectsIs T B lo hi w w' (Need.Inside (key_span hi end))
  objects-several A d {w'} {end} m = record {
    left = left-lower A.shown.from.0 (record { below = m.below; len = m.len });
    is = λ a.
        let g = a.basis in
        record {
          inner = keys a.os (keys_in_order a.os);
          shows = (omega (arith, A.shown.from.0, m.low), grouped g a.sound a.shown a.numbered a.fits a.work m);
          is = merged-inside g.t g.S g.n a.os (λ e. d (omega (arith, objects-size (memory_of g) a.shown)));
        };
  }

pub ruleset objects-laws = (objects-place, objects-top, objects-work, objects-source, objects-layer, objects-single, objects-several)
