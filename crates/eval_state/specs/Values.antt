-- Finished values that were kept: where their records and their texts begin; they stay while other bytes are written.
use Rattle.std.specs.Prelude.{◌≡◌, refl, ◌⊎◌, List, [], ◌∷◌, ℕ, suc, ◌+◌, ◌≤◌, ◌<◌, length, get_or, set}
use Rattle.std.proofs.Common.{ap, ◌∙◌, arith, get_or-set_other}
use Rattle.std.proofs.lemmas.List.Edits.{sets}
use Rattle.rules.specs.Bytes.{Text}
use Rattle.rules.specs.Sizes.{max_nesting, max_text, max_room}
use Rattle.rules.specs.Values.{Value, record_size, text_size, nesting_of}
use Rattle.rules.specs.NamedValues.{Distinct}
use Rattle.rules.specs.Sheet.{texts}
use Rattle.theory.specs.Layout.{length-texts}
use Rattle.sheet_kept.specs.Kept.{Held, simple, listed, keyed, Helds, no-helds, also, HeldFields, no_fields, field, named, kept}
use Rattle.sheet_kept.proofs.Sizes.{kept-records}
use Rattle.sheet_kept.specs.Standing.{Stands, Clear, stands-still}
use Rattle.eval_memory.specs.Keys.{KeyNumber, EachKey, EachKeyOf, EachField}
use Rattle.eval_memory.specs.Finished.{Memory, SettledAt}
use Rattle.eval_state.specs.Memories.{memory_at}

-- the value v, kept with its records at an offset and its texts from another on
pub record KeptAt (M : Memory) (v : Value) (o t : ℕ) : Type 0 where
  pub value : SettledAt M v o
  pub text : value.text ≡ t

-- n bytes from q on, and m bytes from p on
abbrev pub Apart : (q n p m : ℕ) → Type 0
Apart q n p m = (q + n ≤ p) ⊎ (p + m ≤ q)

-- ---- keys

module _ {P Q : ℕ → Type 0} (f : (k : ℕ) → P k → Q k) where
  mutual
    pub each-key : (v : Held) → EachKey P v → EachKey Q v
    each-key (simple x) e = tt
    each-key (listed vs) e = each_of vs e
    each-key (keyed ms) e = each-field ms e

    each_of : (vs : Helds) → EachKeyOf P vs → EachKeyOf Q vs
    each_of no-helds e = tt
    each_of (also v vs) e = (each-key v e.0, each_of vs e.1)

    each-field : (ms : HeldFields) → EachField P ms → EachField Q ms
    each-field no_fields e = tt
    each-field (field k v ms) e = (f k e.0, each-key v e.1, each-field ms e.2)

-- ---- bytes before those that are set

pub set_below : (l : List ℕ) (i : ℕ) (xs : List ℕ) (p d : ℕ) → p < i → get_or (sets l i xs) p d ≡ get_or l p d
set_below l i [] p d h = refl
set_below l i (x ∷ xs) p d h = set_below (set l i x) (suc i) xs p d (omega arith) ∙ get_or-set_other l i p x d (λ e. omega arith)

-- and behind them
pub set-above : (l : List ℕ) (i : ℕ) (xs : List ℕ) (p d : ℕ) → i + length xs ≤ p → get_or (sets l i xs) p d ≡ get_or l p d
set-above l i [] p d h = refl
set-above l i (x ∷ xs) p d h = set-above (set l i x) (suc i) xs p d (omega arith) ∙ get_or-set_other l i p x d (λ e. omega arith)

-- ---- values

module _ (key : ℕ → Text) (items rb tb a : ℕ) {T : List ℕ} where
  -- what is set elsewhere leaves a value as it is
  pub kept-still : {B : List ℕ} (T' : List ℕ) (q : ℕ) (zs : List ℕ) {v : Value} {o t : ℕ} → ((k : ℕ) → KeyNumber T (items + 1) k → KeyNumber T' (items + 1) k)
      → KeptAt (memory_at key items T B rb tb a) v o t → Apart q (length zs) (rb + o) (record_size v) → Apart q (length zs) (tb + t) (text_size v) → KeptAt (memory_at key items T' (sets B q zs) rb tb a) v o t
  kept-still {B} T' q zs {v} {o} {t} K s c d =
      let h = s.value.held in
      let u = s.value.text in
      let e : u ≡ t = s.text in
      let x : length (kept key u h) ≡ record_size v = kept-records key u h ∙ ap record_size s.value.is in
      let y : length (texts (named key h)) ≡ text_size v = length-texts (named key h) ∙ ap text_size s.value.is in
      let C : Clear q zs (rb + o) (kept key u h) = rw x c in
      let D : Clear q zs (tb + u) (texts (named key h)) = rw (y, e) d in
      record {
        value = record {
          held = h;
          is = s.value.is;
          keys = each-key K h s.value.keys;
          text = u;
          stands = stands-still s.value.stands q zs C D;
          inside = s.value.inside;
          upto = s.value.upto;
          used = s.value.used;
          used-text = s.value.used-text;
          size = s.value.size;
          nesting = s.value.nesting;
          distinct = s.value.distinct;
        };
        text = e;
      }

  -- a value that has come to stand
  pub kept_new : {B : List ℕ} (h : Held) (o t : ℕ) → Stands B tb (kept key t h) (texts (named key h)) (rb + o) t → EachKey (KeyNumber T (items + 1)) h
      → Distinct (named key h) → o + record_size (named key h) ≤ max_room → t + text_size (named key h) ≤ max_room → text_size (named key h) ≤ max_text
      → nesting_of (named key h) ≤ max_nesting → KeptAt (memory_at key items T B rb tb a) (named key h) o t
  kept_new h o t s k d i u z n = record {
    value = record { held = h; is = refl; keys = k; text = t; stands = s; inside = i; upto = u; used = i; used-text = u; size = z; nesting = n; distinct = d };
    text = refl;
  }
