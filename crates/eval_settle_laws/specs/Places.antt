-- A place of a span: a law for each place where its need is returned, and for what is lent on.
use Rattle.std.specs.Prelude.{◌≡◌, refl, List, ℕ, ◌+◌, ◌≤◌, ◌<◌}
use Rattle.std.proofs.Common.{sym, ap, subst, ◌∙◌, arith}
use Rattle.answers.specs.Ask.{lookup}
use Rattle.rules.specs.Bytes.{Text}
use Rattle.rules.specs.Tree.{no-elements}
use Rattle.rules.specs.Layers.{Layer}
use Rattle.theory_order.specs.Clauses.{settle_keys_c}
use Rattle.doc_items.specs.Room.{number_bound}
use Rattle.eval_stack.specs.Clauses.{LinkIs}
use Rattle.eval_groups.specs.Room.{Roomy, members-fit}
use Rattle.eval_groups.specs.Select.Levels.{level-top, keys_from, keys-later}
use Rattle.eval_value_laws.specs.Frames.{left-all}
use Rattle.eval_settle_laws.specs.declared.Kind.{Kind}
use Rattle.eval_settle_laws.specs.declared.Need.{Need}
use Rattle.eval_settle_laws.specs.declared.Met.{Met}
use Rattle.eval_settle_laws.specs.Ground.{settling_room, Ground, Sound, memory_of}
use Rattle.eval_settle_laws.specs.Needs.{Rest, elements, keys, KeysFrom, RestFrom, Meets, KeyAsked, KeyIs, ElementAsked, ElementIs, PlaceAsked, PlaceIs}
use Rattle.eval_settle_laws.specs.Rooms.{lasting-now}

-- the stack is free from there on
pub rest-low : {T B : List ℕ} (G : Ground T B) → Sound G → (w : List ℕ) (p end top : ℕ) (kind : Kind) (r : Rest) → RestFrom G w kind p end top r → top ≤ settling_room
rest-low G H w p end top Kind.Elements (elements es) s = s.used
rest-low G H w p end top Kind.Elements (keys os ks) s = absurd s
rest-low G H w p end top Kind.Keys (elements es) s = absurd s
rest-low G H w p end top Kind.Keys (keys os ks) s =
    let f : Roomy (lookup G.S) settling_room s.base os = lasting-now H s.fits in
    omega (arith, level-top (memory_of G) s.shown, members-fit (lookup G.S) settling_room s.base os f)

-- a key's span ends where the stack is free
abbrev key_of : {T B w : List ℕ} {p end top : ℕ} {G : Ground T B} {os : List Layer} {ks : List Text} → KeysFrom G w p end top os ks → KeysFrom G w p top top os ks
key_of s = record { base = s.base; low = s.low; high = s.high; ends = refl; shown = s.shown; is = s.is; numbered = s.numbered; fits = s.fits }

-- another member of a key that was met
pass : {T B w : List ℕ} {p end top l : ℕ} (G : Ground T B) → LinkIs w p l → l < p → p < end → (r : Rest) → RestFrom G w Kind.Keys p end top r
    → Meets G w Kind.Keys p end top r (record { need = Need.Nothing; next = p + 1 })
pass G link h i (elements es) s = absurd s
pass {w = w} {p = p} {top = top} G link h i (keys os ks) s =
    let M = memory_of G in
    let e : ks ≡ keys_from M w (p + 1) top = s.is ∙ keys-later M w p top (omega (arith, i, s.ends)) (omega (arith, link.is, h)) in
    record {
      inner = elements no-elements;
      shows = tt;
      left = keys os (keys_from M w (p + 1) top);
      at = record {
        base = s.base;
        low = omega (arith, s.low);
        high = omega (arith, i, s.ends);
        ends = s.ends;
        shown = s.shown;
        is = refl;
        numbered = s.numbered;
        fits = s.fits;
      };
      is = λ levels. ap (λ (x : List Text). settle_keys_c G.t levels os x G.S G.n) e;
      on = omega arith;
    }

module _ {T B w : List ℕ} {kind : Kind} {p end top : ℕ} where
  pub place-element : kind ≡ Kind.Elements → PlaceAsked T B w kind p end top → ElementAsked T B w p end top
  place-element e a = go a.rest (rw e at a.at)
    where
      go : (r : Rest) → RestFrom a.basis w Kind.Elements p end top r → ElementAsked T B w p end top
      go (elements es) s = record { basis = a.basis; sound = a.sound; work = a.work; es = es; at = s; inside = a.inside }
      go (keys os ks) s = absurd s

  pub place-elements : kind ≡ Kind.Elements → {w' : List ℕ} {r : Met} → ElementIs T B p end top w w' r → PlaceIs T B kind p end top w w' r
  place-elements e {w'} {r} N = subst (λ (k : Kind). PlaceIs T B k p end top w w' r) (sym e) (record { left = N.left; is = λ a. go a a.rest a.at })
    where
      go : (a : PlaceAsked T B w Kind.Elements p end top) (q : Rest) → RestFrom a.basis w Kind.Elements p end top q → Meets a.basis w' Kind.Elements p end top q r
      go a (elements es) s = N.is (record { basis = a.basis; sound = a.sound; work = a.work; es = es; at = s; inside = a.inside })
      go a (keys os ks) s = absurd s

  -- what is asked of an entry
  pub place-number : kind ≡ Kind.Keys → PlaceAsked T B w kind p end top → p < number_bound
  place-number e a = go a.rest (rw e at a.at)
    where
      go : (r : Rest) → RestFrom a.basis w Kind.Keys p end top r → p < number_bound
      go (elements es) s = absurd s
      go (keys os ks) s = omega (arith, rest-low a.basis a.sound w p end top Kind.Keys (keys os ks) s, s.high)

  module _ {l : ℕ} (e : kind ≡ Kind.Keys) (link : LinkIs w p l) where
    pub place-pass : l < p → PlaceIs T B kind p end top w w (record { need = Need.Nothing; next = p + 1 })
    place-pass h = subst (λ (k : Kind). PlaceIs T B k p end top w w (record { need = Need.Nothing; next = p + 1 })) (sym e)
        (record { left = left-all; is = λ a. pass a.basis link h a.inside a.rest a.at })

    abbrev asked : p ≤ l → (a : PlaceAsked T B w Kind.Keys p end top) {os : List Layer} {ks : List Text} → KeysFrom a.basis w p end top os ks → KeyAsked T B w p top
    asked h a {os} {ks} s = record {
      basis = a.basis;
      sound = a.sound;
      work = a.work;
      os = os;
      ks = ks;
      at = key_of s;
      inside = omega (arith, a.inside, s.ends);
      leads = omega (arith, link.is, h);
    }

    pub place-key : p ≤ l → PlaceAsked T B w kind p end top → KeyAsked T B w p top
    place-key h a = go (rw e at a)
      where
        go : PlaceAsked T B w Kind.Keys p end top → KeyAsked T B w p top
        go b = by b b.rest b.at
          where
            by : (b : PlaceAsked T B w Kind.Keys p end top) (r : Rest) → RestFrom b.basis w Kind.Keys p end top r → KeyAsked T B w p top
            by b (elements es) s = absurd s
            by b (keys os ks) s = asked h b s

    pub place-keys : p ≤ l → {w' : List ℕ} {r : Met} → KeyIs T B p top w w' r → PlaceIs T B kind p end top w w' r
    place-keys h {w'} {r} N = subst (λ (k : Kind). PlaceIs T B k p end top w w' r) (sym e) (record { left = N.left; is = λ a. go a a.rest a.at })
      where
        go : (a : PlaceAsked T B w Kind.Keys p end top) (q : Rest) → RestFrom a.basis w Kind.Keys p end top q → Meets a.basis w' Kind.Keys p end top q r
        go a (elements es) s = absurd s
        go a (keys os ks) s = rw s.ends (N.is (asked h a s))

pub ruleset place-laws = (place-element, place-elements, place-number, place-pass, place-key, place-keys)
