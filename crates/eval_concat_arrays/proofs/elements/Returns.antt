-- A law for each place where a function returns.
use mathlib.Core.Path.{◌≡◌, refl, sym, ap, ◌∙◌, subst}
use Prim.Native.Nat.{ℕ, ◌+◌, ◌-◌, ◌≤◌, ◌<◌}
use mathlib.Core.Bool.{false}
use mathlib.Core.List.{List}
use native.Mathlib.Omega.{arith}
use Rattle.answers.specs.Ask.{value}
use Rattle.answers.specs.Theory.Sound.{clash}
use Rattle.rules.specs.Bytes.{Text}
use Rattle.rules.specs.Sizes.{max_room, max_unresolved}
use Rattle.rules.specs.Tree.{height_of}
use Rattle.rules.specs.Values.{Values, array_of, deepest_value, nesting_of, record_size, value_record_sizes, text_size}
use Rattle.rules.specs.Sheet.{two, texts, value_texts}
use Rattle.doc_items.specs.Room.{capacity, text_room, sheet_at, trail_at}
use Rattle.sheet_kept.specs.Kept.{Held, simple, listed, keyed, Helds, named, named_all, count_helds, kept, kept_all}
use Rattle.sheet_kept.specs.Standing.{Stands}
use Rattle.sheet_forms.specs.Model.{members_c}
use Rattle.sheet_forms.specs.Ends.{array-members}
use Rattle.eval_writer.specs.Keys.{KeysIn}
use Rattle.eval_writer.specs.Building.{WrittenAll}
use Rattle.eval_writer.specs.declared.Out.{Out}
use Rattle.eval_writer.specs.declared.Source.{Source}
use Rattle.eval_writer.specs.declared.copies.Copied.{Copied}
use Rattle.eval_copy.specs.Clauses.{MembersIs}
use Rattle.eval_copy.specs.Copies.{copy-all, stands-body}
use Rattle.eval_concat.specs.Helds.{all-records, all-texts}
use Rattle.eval_results.specs.Extents.Contracts.{NotPast, ClipIs, Bounded}
use Rattle.eval_results.specs.Extents.Members.{CameAll}
use Rattle.eval_results.specs.declared.extents.Extent.{Extent}
use Rattle.eval_memory.specs.Keys.{KeyNumber, EachKey}
use Rattle.eval_memory.specs.Finished.{settled-keys}
use Rattle.eval_results.specs.Values.Comes.{ElementsCome}
use Rattle.eval_results.specs.declared.values.Made.{Made}
use Rattle.eval_state.specs.Memories.{answers_of}
use Rattle.eval_value_laws.specs.Clauses.{Asked, ElementsIs}
use Rattle.eval_concat_arrays.specs.Elements.Contracts.{FinishedAsked, FinishedIs, ArrayAsked, ArrayIs}
use Rattle.eval_results.specs.Extents.Came.{clipped-out}
use Rattle.eval_memory.specs.Tables.{item-low}
use Rattle.eval_memory.specs.Finished.{SettledAt}

-- ---- a finished array

clip-within : {o : Out} {d : ℕ} {e : Extent} → ClipIs o d e → Bounded e
clip-within c = record { out = record { rec = omega (arith, c.out.rec); text = omega (arith, c.out.text) }; deep = omega (arith, c.deep) }

came-all : {key : ℕ → Text} {vs : Helds} {o q : Out} {d : ℕ} {x : Extent} {b a : List ℕ} → WrittenAll key vs o q b a → d ≡ deepest_value (named_all key vs)
    → ClipIs q d x → CameAll key vs o x b a
unfolding named record_size text_size
came-all {key} {vs} {o} {q} {d} {x} {b} {a} w e c = record {
  exact = λ l m. rw (← clipped-out c.out l m) w;
  rec = omega (arith, all-records w, c.out.rec);
  text = omega (arith, all-texts w, c.out.text);
  deep = omega (arith, c.deep);
}

abbrev first_of : ℕ → Out → Copied
first_of at o = record { next = record { 0 = trail_at + at + 3 }; out = o; deep = 0 }

pub elements-far : {T B : List ℕ} {at : ℕ} {o : Out} {b : List ℕ} → NotPast o → max_room < at → FinishedIs T B at o (Made.Done 0 (record { out = o; deep = 0 })) b b
elements-far p l = record { is = λ key n vs u h d e k s. absurd (omega arith); within = record { out = p; deep = omega arith } }

pub elements-copied : {T B : List ℕ} {at count : ℕ} {o : Out} {c : Copied} {x : Extent} {b a : List ℕ} → count ≡ members_c B (trail_at + at)
    → MembersIs 32 T B sheet_at false count (first_of at o) c b a → ClipIs c.out c.deep x → FinishedIs T B at o (Made.Done count x) b a
unfolding kept named texts two
elements-copied {T} {B} {at} {count} {o} {c} {x} {b} {a} q m z = record {
  is = λ key n vs u l d e k s.
      let p = trail_at + at in
      let ys = kept_all key u vs in
      let f : count ≡ count_helds vs = q ∙ array-members B p key u s.rest vs s.records s.few in
      let body = stands-body key T B sheet_at 6 (value_record_sizes (named_all key vs)) ys (value_texts (named_all key vs)) p u s in
      let h = rw (f, copy-all key T B sheet_at vs 32 (p + 3) o.text.0 u d k body) at m.is in
      record { is = record { helds = vs; is = refl; keys = e; counted = f; came = came-all (record { is = h.is }) h.deep z } };
  within = clip-within z;
}

-- ---- either

abbrev answers : Source
answers = record { rec = record { 0 = trail_at }; text = record { 0 = sheet_at } }

array-stands : {T B : List ℕ} {o : Out} {r : Made} {b : List ℕ} {key : ℕ → Text} (items : ℕ) {a : List ℕ} {vs : Values} {off : ℕ} → FinishedIs T B off o r b a → (s : SettledAt (answers_of key items T B) (array_of vs) off)
    → KeysIn key T B s.held → ElementsCome key (KeyNumber T (items + 1)) (value vs) o r b a
unfolding named nesting_of record_size
array-stands {T} {B} {o} {r} {b} {key} items {a} {vs} {off} f s k = go s.held s.is s.keys k s.stands
  where
    go : (h : Held) → named key h ≡ array_of vs → EachKey (KeyNumber T (items + 1)) h → KeysIn key T B h
        → Stands B sheet_at (kept key s.text h) (texts (named key h)) (trail_at + off) s.text → ElementsCome key (KeyNumber T (items + 1)) (value vs) o r b a
    go (simple x) e i k t = clash (cc (e))
    go (listed ws) e i k t =
        let z : named_all key ws ≡ vs = cc (e) in
        let n = s.nesting in
        let d = ap deepest_value z in
        rw z at (f.is key (items + 1) ws s.text (omega (arith, s.inside)) (omega arith) i k t)
    go (keyed ms) e i k t = clash (cc (e))

module _ {T B : List ℕ} {top c : ℕ} {o : Out} {w : List ℕ} {r : Made} {b : List ℕ} where
  pub array-finished : {a : List ℕ} → capacity ≤ c → FinishedIs T B (c - capacity) o r b a → ArrayIs T B top c o w w r b a
  array-finished {a} l f = record {
    left = record { below = λ i u v. refl; len = refl };
    within = f.within;
    literal = λ key items known d es g. absurd (omega (arith, item-low (answers_of key items T B) g.basis.tables.stored g.shown));
    finished = λ key items known d vs g.
        let M = answers_of key items T B in
        let (off, e, s) = g.shown in
        let z : off ≡ c - capacity = omega arith in
        array-stands items (subst (λ (n : ℕ). FinishedIs T B n o r b a) (sym z) f) s (settled-keys M g.basis.tables.stored s);
  }

  pub array-literal : {w' a : List ℕ} → c < capacity → ElementsIs T B answers top c o 65 w w' r b a → ArrayIs T B top c o w w' r b a
  unfolding height_of
  array-literal {w'} {a} l f = record {
    left = f.left;
    within = f.within;
    literal = λ key items known d es g.
        f.is (record { key = key; items = items + 1; ends = text_room; answered = max_unresolved; filled = max_room; filled-text = max_room }) known d es (record {
          basis = g.basis;
          shown = record { upto = g.shown.inside; at = g.shown.node.1 };
          fits = g.fits;
          low = omega (arith, g.low);
          deep = g.deep;
        });
    finished = λ key items known d vs g. let e = g.shown.1 in absurd (omega arith);
  }

-- ---- what is lent on

module _ {B w : List ℕ} {top : ℕ} {o : Out} {room : List ℕ} (A : ArrayAsked B w top o room) where
  pub array-asked : Asked B (record { rec = record { 0 = trail_at }; text = record { 0 = sheet_at } }) w top o room
  array-asked = record {
    room = A.whole;
    bytes = A.most;
    records = omega (arith, A.bytes);
    texts = omega arith;
    work = A.work;
    used = A.used;
    start = A.start;
  }

  pub finished-asked : FinishedAsked B o room
  finished-asked = record { whole = A.whole; bytes = A.bytes; most = A.most; start = A.start }

pub ruleset finished-laws = (elements-far, elements-copied)

pub ruleset array_laws = (array-finished, array-literal)

pub ruleset lending = (array-asked, finished-asked)
