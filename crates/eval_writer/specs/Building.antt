-- A value that is built up as it is written: simple values, one member more, and the record of an array or object behind its members.
use Rattle.std.specs.Prelude.{◌≡◌, refl, ℕ, ◌+◌, true, false, List, [], ◌∷◌, ◌++◌, length}
use Rattle.std.proofs.Common.{sym, ◌∙◌, arith}
use Rattle.std.proofs.Math.Path.{ap}
use Rattle.rules.specs.Bytes.{Text}
use Rattle.rules.specs.Tree.{null, boolean, number, string}
use Rattle.rules.specs.Values.{record_size, value_record_sizes, member_record_sizes, text_size}
use Rattle.rules.specs.Sheet.{two, text_record, scalar_record}
use Rattle.sheet_kept.specs.Kept.{Held, simple, listed, keyed, Helds, no-helds, HeldFields, no_fields, named, named_all, named_fields, key_record}
use Rattle.sheet_kept.specs.Kept.{kept, kept_all, kept_fields}
use Rattle.sheet_kept.specs.InTurn.{flat_scalar, flat, flat_all, flat_fields, Word, words_rec, words_of, extent}
use Rattle.sheet_kept.proofs.Sizes.{kept-records, value-extent}
use Rattle.sheet_kept.specs.Building.{with_held, with_field, words-held, words-field}
use Rattle.sheet_kept.proofs.Building.{kept-held, kept_field}
use Rattle.eval_writer.specs.Model.{word_at, key_at}
use Rattle.eval_writer.specs.Clauses.{Puts, Wrote, KeyWrote, Written}
use Rattle.eval_writer.specs.Keys.{KeyIn}
use Rattle.eval_writer.specs.Composition.{wrote_none, wrote_then, wrote-head}
use Rattle.eval_writer.specs.declared.Out.{Out}

-- so many members were written
pub record WrittenAll (key : ℕ → Text) (vs : Helds) (o r : Out) (b a : List ℕ) : Type 0 where
  pub is : Wrote (kept_all key o.text.0 vs) (words_of (flat_all key vs)) o r b a

pub record WrittenFields (key : ℕ → Text) (ms : HeldFields) (o r : Out) (b a : List ℕ) : Type 0 where
  pub is : Wrote (kept_fields key o.text.0 ms) (words_of (flat_fields key ms)) o r b a

-- behind the three bytes of a head
abbrev pub inside : Out → Out
inside o = record { rec = record { 0 = o.rec.0 + 3 }; text = o.text }

-- the same bytes and texts by other names
wrote_as : {xs ys : List ℕ} {u w : List Word} {o r : Out} {b a : List ℕ} → xs ≡ ys → u ≡ w → Wrote xs u o r b a → Wrote ys w o r b a
wrote_as e f h = rw (← e, ← f) h

-- ---- simple values

module _ {key : ℕ → Text} {o r : Out} {b a : List ℕ} where
  pub written-null : Wrote (1 ∷ []) [] o r b a → Written key (simple null) o r b a
  unfolding kept flat flat_scalar words_of words_rec scalar_record
  written-null h = record { is = h }

  pub written-false : Wrote (2 ∷ []) [] o r b a → Written key (simple (boolean false)) o r b a
  unfolding kept flat flat_scalar words_of words_rec scalar_record
  written-false h = record { is = h }

  pub written-true : Wrote (3 ∷ []) [] o r b a → Written key (simple (boolean true)) o r b a
  unfolding kept flat flat_scalar words_of words_rec scalar_record
  written-true h = record { is = h }

  -- a text of this length that lies in the bytes
  module _ (s : List ℕ) (at : ℕ) {n : ℕ} {x : Text} (len : n ≡ length x) (text : word_at s at n ≡ x) where
    pub written-number : Wrote (4 ∷ two o.text.0 ++ two n) ((n, word_at s at n) ∷ []) o r b a → Written key (simple (number x)) o r b a
    unfolding kept flat flat_scalar words_of words_rec scalar_record text_record
    written-number h =
        record {
          is = wrote_as (ap (λ (m : ℕ). 4 ∷ two o.text.0 ++ two m) len) (ap (λ (y : Text). (n, y) ∷ []) text ∙ ap (λ (m : ℕ). (m, x) ∷ []) len) h;
        }

    pub written-string : Wrote (5 ∷ two o.text.0 ++ two n) ((n, word_at s at n) ∷ []) o r b a → Written key (simple (string x)) o r b a
    unfolding kept flat flat_scalar words_of words_rec scalar_record text_record
    written-string h =
        record {
          is = wrote_as (ap (λ (m : ℕ). 5 ∷ two o.text.0 ++ two m) len) (ap (λ (y : Text). (n, y) ∷ []) text ∙ ap (λ (m : ℕ). (m, x) ∷ []) len) h;
        }

-- ---- elements

pub all_none : {key : ℕ → Text} {o : Out} {b : List ℕ} → WrittenAll key no-helds o o b b
unfolding kept flat words_of
all_none = record { is = wrote_none }

pub all_more : {key : ℕ → Text} {vs : Helds} {w : Held} {o q r : Out} {b x a : List ℕ} → WrittenAll key vs o q b x → Written key w q r x a
    → WrittenAll key (with_held vs w) o r b a
all_more {key} {vs} {w} {o} {q} {r} {b} {x} {a} f g =
    record {
      is = wrote_as
          (ap (λ (t : ℕ). kept_all key o.text.0 vs ++ kept key t w) f.is.text ∙ sym (kept-held key o.text.0 vs w))
          (sym (words-held key vs w))
          (wrote_then f.is g.is);
    }

pub written-array : {key : ℕ → Text} {vs : Helds} {o r : Out} {b x a : List ℕ} → WrittenAll key vs (inside o) r b x
    → Puts o.rec.0 (6 ∷ two (value_record_sizes (named_all key vs))) x a → Written key (listed vs) o r b a
unfolding kept flat words_of words_rec two
written-array {key} {vs} f h = record { is = wrote-head {hs = 6 ∷ two (value_record_sizes (named_all key vs))} refl f.is h }

-- ---- fields

pub fields-none : {key : ℕ → Text} {o : Out} {b : List ℕ} → WrittenFields key no_fields o o b b
unfolding kept flat words_of
fields-none = record { is = wrote_none }

-- a key's record and text, where the table has the key
pub key-is : {key : ℕ → Text} {T s : List ℕ} {k : ℕ} {o r : Out} {b a : List ℕ} → KeyIn key T s k → KeyWrote T s k o r b a
    → Wrote (key_record k (key k)) ((length (key k), key k) ∷ []) o r b a
unfolding key_record
key-is {key} {T} {s} {k} i h =
    wrote_as
    (ap (λ (m : ℕ). 8 ∷ two k ++ two m) i.len)
    (ap (λ (m : ℕ). (m, word_at s (key_at T k) m) ∷ []) i.len ∙ ap (λ (y : Text). (length (key k), y) ∷ []) i.text)
    h.is

pub fields-more : {key : ℕ → Text} {ms : HeldFields} {k : ℕ} {w : Held} {T s : List ℕ} {o p q r : Out} {b x y a : List ℕ}
    → WrittenFields key ms o p b x → KeyIn key T s k → KeyWrote T s k p q x y → Written key w q r y a
    → WrittenFields key (with_field ms k w) o r b a
unfolding extent
fields-more {key} {ms} {k} {w} {T} {s} {o} {p} {q} {r} {b} {x} {y} {a} f i h g =
    let m = key-is i h in
    let e : q.text.0 ≡ o.text.0 + extent (words_of (flat_fields key ms)) + length (key k) = omega (arith, m.text, f.is.text) in
    record {
      is = wrote_as
          (ap (λ (t : ℕ). kept_fields key o.text.0 ms ++ (key_record k (key k) ++ kept key t w)) e ∙ sym (kept_field key o.text.0 ms k w))
          (sym (words-field key ms k w))
          (wrote_then f.is (wrote_then m g.is));
    }

pub written-object : {key : ℕ → Text} {ms : HeldFields} {o r : Out} {b x a : List ℕ} → WrittenFields key ms (inside o) r b x
    → Puts o.rec.0 (7 ∷ two (member_record_sizes (named_fields key ms))) x a → Written key (keyed ms) o r b a
unfolding kept flat words_of words_rec two
written-object {key} {ms} f h = record { is = wrote-head {hs = 7 ∷ two (member_record_sizes (named_fields key ms))} refl f.is h }

-- ---- sizes: the counters tell the value's own

pub written-records : {key : ℕ → Text} {v : Held} {o r : Out} {b a : List ℕ} → Written key v o r b a
    → r.rec.0 ≡ o.rec.0 + record_size (named key v)
written-records {key} {v} {o} h = h.is.rec ∙ ap (λ (n : ℕ). o.rec.0 + n) (kept-records key o.text.0 v)

pub written-texts : {key : ℕ → Text} {v : Held} {o r : Out} {b a : List ℕ} → Written key v o r b a
    → r.text.0 ≡ o.text.0 + text_size (named key v)
written-texts {key} {v} {o} h = h.is.text ∙ ap (λ (n : ℕ). o.text.0 + n) (value-extent key v)
