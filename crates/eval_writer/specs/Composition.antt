-- How what is written goes together: one behind the other, a head before or after its members, and a whole value in the room.
use Rattle.std.specs.Prelude.{◌≡◌, refl, ℕ, ◌+◌, ◌≤◌, List, [], ◌∷◌, ◌++◌, length, take, drop}
use Rattle.std.proofs.Common.{sym, ap, ◌∙◌, arith, length-append, length-drop, take_at, take-take, length-take-le, le-leb}
use Rattle.std.proofs.lemmas.List.Edits.{sets, sets-eq}
use Rattle.std.proofs.Math.Seq.{length-sets}
use Rattle.rules.specs.Bytes.{Text}
use Rattle.rules.specs.Sizes.{max_records, max_text}
use Rattle.rules.specs.Values.{text_size}
use Rattle.sheet_kept.specs.Kept.{Held, named, kept}
use Rattle.sheet_kept.specs.InTurn.{Rec, plain, head, word, name, text_of, texts_of, flat, Word, words_rec, words_of, extent}
use Rattle.sheet_kept.proofs.InTurn.{flat-texts, flat-size}
use Rattle.sheet_kept.proofs.Sizes.{value-extent}
use Rattle.sheet_kept.specs.Sets.{sets-append, sets-sets, take-front}
use Rattle.eval_writer.specs.Model.{whole, puts}
use Rattle.eval_writer.specs.Clauses.{Room, records_in, texts_in, Puts, Wrote, Written, InRoom}
use Rattle.eval_writer.specs.declared.Out.{Out}

pub puts-append : (l : List ℕ) (i : ℕ) (u w : List Word) → puts l i (u ++ w) ≡ puts (puts l i u) (i + extent u) w
unfolding puts extent
puts-append l i [] w = let e : i ≡ i + 0 = omega arith in ap (λ (j : ℕ). puts l j w) e
puts-append l i (x ∷ u) w =
    let e : i + x.0 + extent u ≡ i + (x.0 + extent u) = omega arith in
    puts-append (whole l i x) (i + x.0) u w ∙ ap (λ (j : ℕ). puts (puts (whole l i x) (i + x.0) u) j w) e

-- bytes that were set stand behind those before them
pub sets_end : (l : List ℕ) (i : ℕ) (xs : List ℕ) → i + length xs ≤ length l → take (i + length xs) (sets l i xs) ≡ take i l ++ xs
sets_end l i xs h =
    let e = length-take-le i l (omega arith) in
    ap (take (i + length xs)) (sets-eq xs l i h)
    ∙ take_at (take i l ++ xs) (drop (i + length xs) l) (i + length xs) (omega (arith, length-append (take i l) xs))

pub extent-append : (u w : List Word) → extent (u ++ w) ≡ extent u + extent w
unfolding extent
extent-append [] w = omega arith
extent-append (x ∷ u) w = omega (arith, extent-append u w)

pub wrote_none : {o : Out} {b : List ℕ} → Wrote [] [] o o b b
unfolding puts extent
wrote_none {o} = record { records = refl; texts = refl; rec = omega arith; text = omega arith }

-- what is written one behind the other
pub wrote_then : {xs ys : List ℕ} {u w : List Word} {o q r : Out} {b x a : List ℕ} → Wrote xs u o q b x → Wrote ys w q r x a → Wrote (xs ++ ys) (u ++ w) o r b a
wrote_then {xs} {ys} {u} {w} {o} {q} {r} {b} {x} {a} f g =
    record {
      records =
          g.records ∙ ap (λ (i : ℕ). sets (records_in x) i ys) f.rec ∙ ap (λ (l : List ℕ). sets l (o.rec.0 + length xs) ys) f.records
          ∙ sym (sets-append (records_in b) o.rec.0 xs ys);
      texts =
          g.texts ∙ ap (λ (i : ℕ). puts (texts_in x) i w) f.text ∙ ap (λ (l : List ℕ). puts l (o.text.0 + extent u) w) f.texts
          ∙ sym (puts-append (texts_in b) o.text.0 u w);
      rec = omega (arith, f.rec, g.rec, length-append xs ys);
      text = omega (arith, f.text, g.text, extent-append u w);
    }

-- a head that is written before what follows it
pub head-wrote : {hs xs : List ℕ} {u : List Word} {o r : Out} {p : ℕ} {b x a : List ℕ} → Puts o.rec.0 hs b x → p ≡ o.rec.0 + length hs
    → Wrote xs u (record { rec = record { 0 = p }; text = o.text }) r x a → Wrote (hs ++ xs) u o r b a
unfolding puts extent
head-wrote {hs} {xs} {u} {o} {r} {p} {b} {x} {a} h e f =
    wrote_then {xs = hs} {u = []} {q = record { rec = record { 0 = p }; text = o.text }} (record { records = h.records; texts = h.texts; rec = e; text = omega arith }) f

-- a head that is written after what follows it
pub wrote-head : {hs xs : List ℕ} {u : List Word} {o r : Out} {p : ℕ} {b x a : List ℕ} → p ≡ o.rec.0 + length hs
    → Wrote xs u (record { rec = record { 0 = p }; text = o.text }) r b x → Puts o.rec.0 hs x a → Wrote (hs ++ xs) u o r b a
wrote-head {hs} {xs} {u} {o} {r} {p} {b} {x} {a} e f h =
    let at = o.rec.0 in
    record {
      records =
          h.records ∙ ap (λ (l : List ℕ). sets l at hs) f.records ∙ sets-sets (records_in b) at hs p xs (omega arith)
          ∙ ap (λ (i : ℕ). sets (sets (records_in b) at hs) i xs) e ∙ sym (sets-append (records_in b) at hs xs);
      texts = h.texts ∙ f.texts;
      rec = omega (arith, f.rec, length-append hs xs);
      text = f.text;
    }

-- ---- a value in the room

-- a text that fits is stored
stored : (t : Text) (rs : List Rec) (l : List ℕ) (i : ℕ) → i + length (t ++ texts_of rs) ≤ length l
    → (i + length t + length (texts_of rs) ≤ length (sets l i t) → puts (sets l i t) (i + length t) (words_of rs) ≡ sets (sets l i t) (i + length t) (texts_of rs))
    → puts (whole l i (length t, t)) (i + length t) (words_of rs) ≡ sets l i (t ++ texts_of rs)
unfolding whole
stored t rs l i h ih =
    let e = length-append t (texts_of rs) in
    rw (le-leb (i + length t) (length l) (omega arith)) (ih (omega (arith, length-sets l i t)) ∙ sym (sets-append l i t (texts_of rs)))

pub puts-all : (rs : List Rec) (l : List ℕ) (i : ℕ) → i + length (texts_of rs) ≤ length l → puts l i (words_of rs) ≡ sets l i (texts_of rs)
unfolding puts words_of words_rec texts_of text_of
puts-all [] l i h = refl
puts-all (plain b ∷ rs) l i h = puts-all rs l i h
puts-all (head b n m ∷ rs) l i h = puts-all rs l i h
puts-all (word b t ∷ rs) l i h = stored t rs l i h (λ q. puts-all rs (sets l i t) (i + length t) q)
puts-all (name k t ∷ rs) l i h = stored t rs l i h (λ q. puts-all rs (sets l i t) (i + length t) q)

abbrev pub start : Out
start = record { rec = record { 0 = 0 }; text = record { 0 = 0 } }

-- a value that was written from the start, and that has room, is in the room
pub written-in-room : {key : ℕ → Text} {v : Held} {r : Out} {b a : List ℕ} → Written key v start r b a → Room b → r.rec.0 ≤ max_records → r.text.0 ≤ max_text
    → InRoom key v a r
written-in-room {key} {v} {r} {b} {a} w l m n =
    let x = kept key 0 v in
    let tx = texts_of (flat key v) in
    let i = w.is in
    let j : r.rec.0 ≡ length x = omega (arith, i.rec) in
    let g : r.text.0 ≡ text_size (named key v) = omega (arith, i.text, value-extent key v) in
    let k : r.text.0 ≡ length tx = omega (arith, g, flat-size key v) in
    let y : length x ≤ length (take max_records b) = omega (arith, length-take-le max_records b (omega arith)) in
    let z : 0 + length tx ≤ length (drop max_records b) = omega (arith, length-drop max_records b) in
    record {
      records = sym (take-take r.rec.0 max_records a m) ∙ ap (take r.rec.0) i.records ∙ ap (λ (q : ℕ). take q (sets (take max_records b) 0 x)) j ∙ take-front (take max_records b) x y;
      texts =
          ap (take r.text.0) (i.texts ∙ puts-all (flat key v) (drop max_records b) 0 z) ∙ ap (λ (q : ℕ). take q (sets (drop max_records b) 0 tx)) k
          ∙ take-front (drop max_records b) tx (omega arith) ∙ sym (flat-texts key v);
      few = omega (arith, g);
    }
