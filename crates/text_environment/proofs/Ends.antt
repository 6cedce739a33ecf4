-- One law for each answer of the functions that read an entry.
use mathlib.Core.Path.{◌≡◌, ◌∙◌, ap}
use mathlib.Core.List.{List, [], ◌∷◌, ◌++◌}
use mathlib.Core.Option.{none}
use Prim.Native.Nat.{ℕ, suc, ◌+◌, ◌≤◌, ◌<◌}
use native.Mathlib.Omega.{arith}
use native.Mathlib.Numerals.{add-one}
use lib.ListN.{length, take, drop, drop_of_length-le}
use lib.Seq.{slice, slice_empty, slice-cons, take-suc, drop-cons, drop-append-le, length-take-le}
use mir.Syntax.{w64}
use mir.Val.{Fits}
use borrow.Author.Tests.{eq-eqb, ne_eqb}
use Rattle.rules.specs.Sizes.{max_environment}
use Rattle.rules.specs.Bytes.{Text, byte_at}
use Rattle.rules.specs.Environment.{with_variable, name_from, text_from}
use Rattle.text_chars.specs.Cursor.{ByteIs}
use Rattle.text_environment.specs.Clauses.{env, NameEnd, NameEnds, TextEnd, TextEnds, EntryIs}
use Rattle.text_chars.specs.declared.EnvAt.{EnvAt}
use Rattle.std.specs.Prelude.{Option as Maybe, Some, None}

-- one byte more before the end of a part
slice-more : (from to : ℕ) (s : List ℕ) → from ≤ to → to < length s → slice from (suc to) s ≡ slice from to s ++ (byte_at s to ∷ [])
slice-more from to s h k =
    ap (λ (l : List ℕ). drop from l) (take-suc s to 256 k)
    ∙ drop-append-le from (take to s) (byte_at s to ∷ []) (omega (arith, length-take-le to s (omega arith)))

-- one byte of a name, and of a text
module _ (so_far : Text) {b : ℕ} (bs : List ℕ) where
  zero-named : b ≡ 0 → name_from so_far (b ∷ bs) ≡ none
  unfolding name_from
  zero-named e = rw (eq-eqb b 0 e, name_from)

  more-named : (b ≡ 0 → ⊥) → (b ≡ 61 → ⊥) → name_from so_far (b ∷ bs) ≡ name_from (so_far ++ (b ∷ [])) bs
  unfolding name_from
  more-named m n = rw (ne_eqb b 0 m, ne_eqb b 61 n, name_from)

  module _ (name : Text) where
    zero_ended : b ≡ 0 → text_from name so_far (b ∷ bs) ≡ with_variable (record { name = name; text = so_far }) (name_from [] bs)
    unfolding name_from
    zero_ended e = rw (eq-eqb b 0 e, text_from)

    more-text : (b ≡ 0 → ⊥) → text_from name so_far (b ∷ bs) ≡ text_from name (so_far ++ (b ∷ [])) bs
    unfolding name_from
    more-text m = rw (ne_eqb b 0 m, text_from)

equals-unnamed : {b : ℕ} (bs : List ℕ) → b ≡ 61 → name_from [] (b ∷ bs) ≡ none
unfolding name_from
equals-unnamed {b} bs e = rw (ne_eqb b 0 (omega arith), eq-eqb b 61 e, name_from)

equals-named : (c : ℕ) (cs : Text) {b : ℕ} (bs : List ℕ) → b ≡ 61 → name_from (c ∷ cs) (b ∷ bs) ≡ text_from (c ∷ cs) [] bs
unfolding name_from
equals-named c cs {b} bs e = rw (ne_eqb b 0 (omega arith), eq-eqb b 61 e, name_from)

-- What has been passed over is the name so far.
pub record Naming (s : List ℕ) (at p : ℕ) : Type 0 where
  pub is : name_from [] (drop at s) ≡ name_from (slice at p s) (drop p s)
  pub from : at ≤ p
  pub to : p ≤ length s

pub name-start : {s : List ℕ} {at : ℕ} → at < length s → Naming s at at
name-start {s} {at} h = record { is = rw (slice_empty at s); from = omega arith; to = omega arith }

module _ {s : List ℕ} {at p : ℕ} (N : Naming s at p) where
  pub name_out : at < length s → length s ≤ p → NameEnds s at None
  unfolding name_from
  name_out h k = record { is = N.is ∙ rw (drop_of_length-le s k, slice-cons at p s 256 (omega arith) N.to) }

  module _ {b : ℕ} (h : ByteIs s p b) (k : p < length s) where
    here : name_from [] (drop at s) ≡ name_from (slice at p s) (b ∷ drop (suc p) s)
    here = N.is ∙ rw (drop-cons s p 256 k, h.is)

    pub name-zero : b ≡ 0 → NameEnds s at None
    name-zero e = record { is = here ∙ zero-named (slice at p s) (drop (suc p) s) e }

    pub name-empty : b ≡ 61 → p ≤ at → NameEnds s at None
    name-empty e l =
        let q : at ≡ p = omega (arith, N.from) in
        record { is = here ∙ rw (q, slice_empty p s) (equals-unnamed (drop (suc p) s) e) }

    pub name-equals : b ≡ 61 → at < p → NameEnds s at (Some (env p))
    name-equals e l = record {
      is = (l, k, here ∙ rw (slice-cons at p s 256 l N.to, add-one) (equals-named _ _ (drop (suc p) s) e));
    }

    pub name-more : (b ≡ 0 → ⊥) → (b ≡ 61 → ⊥) → Naming s at (p + 1)
    name-more m n = record {
      is = here ∙ more-named (slice at p s) (drop (suc p) s) m n ∙ rw (add-one, slice-more at p s N.from k, h.is);
      from = omega (arith, N.from);
      to = omega arith;
    }

-- The text so far, whatever the name.
pub record Texting (s : List ℕ) (at p : ℕ) : Type 0 where
  pub is : (n : Text) → text_from n [] (drop at s) ≡ text_from n (slice at p s) (drop p s)
  pub from : at ≤ p
  pub to : p ≤ length s

pub text-start : {s : List ℕ} {at : ℕ} → at ≤ length s → Texting s at at
text-start {s} {at} h = record { is = λ n. rw (slice_empty at s); from = omega arith; to = omega arith }

module _ {s : List ℕ} {at p : ℕ} (T : Texting s at p) where
  pub text_out : length s ≤ p → TextEnds s at None
  unfolding name_from
  text_out k = record { is = λ n. T.is n ∙ rw (drop_of_length-le s k) }

  module _ {b : ℕ} (h : ByteIs s p b) (k : p < length s) where
    there : (n : Text) → text_from n [] (drop at s) ≡ text_from n (slice at p s) (b ∷ drop (suc p) s)
    there n = T.is n ∙ rw (drop-cons s p 256 k, h.is)

    pub text-zero : b ≡ 0 → TextEnds s at (Some (env p))
    text-zero e = record { is = (T.from, k, λ n. there n ∙ rw add-one (zero_ended (slice at p s) (drop (suc p) s) n e)) }

    pub text-more : (b ≡ 0 → ⊥) → Texting s at (p + 1)
    text-more m = record {
      is = λ n. there n ∙ more-text (slice at p s) (drop (suc p) s) n m ∙ rw (add-one, slice-more at p s T.from k, h.is);
      from = omega (arith, T.from);
      to = omega arith;
    }

-- the entry, of its two ends
module _ {s : List ℕ} {at : ℕ} {r : Maybe EnvAt} (h : NameEnds s at r) where
  pub entry-unnamed : r ≡ None → EntryIs s at None
  entry-unnamed e = record { is = rw e at h.is }

  pub text-near : {q : EnvAt} → r ≡ Some q → q.0 + 1 ≤ length s
  text-near {q} e = let i : NameEnd s at (Some q) = rw e at h.is in omega arith

  pub text-fits : {q : EnvAt} → r ≡ Some q → length s ≤ max_environment → Fits w64 (q.0 + 1)
  text-fits e l = record { fits = omega (arith, text-near e) }

  module _ {q : EnvAt} (e : r ≡ Some q) {t : Maybe EnvAt} (k : TextEnds s (q.0 + 1) t) where
    i : NameEnd s at (Some q)
    i = rw e at h.is

    pub entry-unended : t ≡ None → EntryIs s at None
    entry-unended f = let j : TextEnd s (q.0 + 1) None = rw f at k.is in record { is = i.2 ∙ j (slice at q.0 s) }

    pub entry_whole : {z : EnvAt} → t ≡ Some z → EntryIs s at (Some (record { equals = q; zero = z }))
    entry_whole {z} f =
        let j : TextEnd s (q.0 + 1) (Some z) = rw f at k.is in
        record { is = (i.0, omega (arith, j.0), j.1, i.2 ∙ j.2 (slice at q.0 s)) }

pub ruleset names = (name-start, name_out, name-zero, name-empty, name-equals, name-more)

pub ruleset texts = (text-start, text_out, text-zero, text-more)

pub ruleset wholes = (arith, entry-unnamed, text-near, text-fits, entry-unended, entry_whole)
