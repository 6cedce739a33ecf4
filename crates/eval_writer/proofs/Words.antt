-- Laws of the functions that write a text.
use mathlib.Core.Path.{◌≡◌, refl, sym, ap, ◌∙◌}
use Prim.Native.Nat.{ℕ, ◌+◌, ◌*◌, ◌≤◌, ◌<◌}
use mathlib.Core.Bool.{Bool, true, false, cond}
use mathlib.Core.List.{List, [], ◌∷◌, ◌++◌}
use native.Mathlib.Omega.{arith}
use lib.ListN.{length, take, drop, length-drop}
use lib.Dec.{leb}
use borrow.Author.Tests.{le-leb, lt-leb}
use Rattle.rules.specs.Sheet.{two}
use Rattle.doc_items.specs.Writing.{ReadIs}
use Rattle.sheet_kept.specs.InTurn.{extent}
use Rattle.sheet_kept.specs.Sets.{take-sets, drop-sets}
use Rattle.eval_writer.specs.Model.{word_at, whole, puts}
use Rattle.eval_writer.specs.Clauses.{Room, Puts, FilledIs, PutsText, Wrote, KeyWrote}
use Rattle.eval_writer.specs.declared.Out.{Out}

-- By lists of any length: with the room's texts in place the long slice would be computed.
whole-full : (xs x : List ℕ) (to n : ℕ) → length xs < to + n → xs ≡ whole xs to (n, x)
unfolding whole
whole-full xs x to n l = rw (lt-leb (to + n) (length xs) l)

whole-none : (xs : List ℕ) (to n : ℕ) → xs ≡ whole xs to (n, [])
unfolding whole
whole-none xs to n = go (leb (to + n) (length xs))
  where
    go : (t : Bool) → xs ≡ cond t xs xs
    go true = refl
    go false = refl

word_none : (from : List ℕ) (at n : ℕ) → length from < at + n → word_at from at n ≡ []
unfolding word_at
word_none from at n h = rw (lt-leb (at + n) (length from) h)

module _ {o : List ℕ} (to at n : ℕ) (from : List ℕ) where
  pub text_in : {a : List ℕ} → Room o → at + n ≤ length from → to + n ≤ 16384 → FilledIs (16384 + to) from at n o a → PutsText to n (word_at from at n) o a
  unfolding word_at whole
  text_in {a} r h k f =
      let x = take n (drop at from) in
      let l : to + n ≤ length (drop 16384 o) = omega (arith, length-drop 16384 o) in
      record {
        records = ap (take 16384) f.is ∙ take-sets 16384 o (16384 + to) x (omega arith);
        texts = ap (drop 16384) f.is ∙ drop-sets 16384 o to x ∙ rw (le-leb (at + n) (length from) h, le-leb (to + n) (length (drop 16384 o)) l);
      }

  pub text-full : Room o → 16384 < to + n → PutsText to n (word_at from at n) o o
  text-full r k =
      let l : length (drop 16384 o) < to + n = omega (arith, length-drop 16384 o) in
      record { records = refl; texts = whole-full (drop 16384 o) (word_at from at n) to n l }

  pub text-none : length from < at + n → PutsText to n (word_at from at n) o o
  text-none h =
      let x = drop 16384 o in
      record { records = refl; texts = whole-none x to n ∙ ap (λ (z : List ℕ). whole x to (n, z)) (sym (word_none from at n h)) }

pub ruleset text-laws = (text_in, text-full, text-none)

pub word-wrote : {o : Out} {k : ℕ} (m n : ℕ) {x b y a : List ℕ} → Puts o.rec.0 (k ∷ two m ++ two n) b y → PutsText o.text.0 n x y a
    → Wrote (k ∷ two m ++ two n) ((n, x) ∷ []) o (record { rec = record { 0 = o.rec.0 + 5 }; text = record { 0 = o.text.0 + n } }) b a
unfolding puts extent two
word-wrote {o} {k} m n {x} h t =
    record {
      records = t.records ∙ h.records;
      texts = t.texts ∙ ap (λ (l : List ℕ). whole l o.text.0 (n, x)) h.texts;
      rec = refl;
      text = omega arith;
    }

pub key-wrote : {table bytes : List ℕ} {o r : Out} {k at n : ℕ} {b a : List ℕ} → ReadIs table (8 * k + 2) at → ReadIs table (8 * k + 3) n
    → Wrote (8 ∷ two k ++ two n) ((n, word_at bytes at n) ∷ []) o r b a → KeyWrote table bytes k o r b a
key-wrote {table} {bytes} {o} {r} {k} {at} {n} {b} {a} i j h =
    record { is = rw (← i.is, ← j.is) h; small = let h = j.small in rw (← j.is) (omega arith) }
