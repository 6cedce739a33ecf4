-- One law for each answer.
use mathlib.Core.Path.{◌≡◌, refl, sym, ap, ◌∙◌}
use Prim.Native.Nat.{ℕ, ◌+◌, ◌*◌, ◌≤◌, ◌<◌}
use mathlib.Core.Bool.{true, false}
use mathlib.Core.List.{List}
use Rattle.std.specs.Prelude.{Ok, Err}
use native.Mathlib.Omega.{arith}
use lib.ListN.{length}
use lib.Seq.{take-length}
use borrow.Author.Tests.{le-leb, lt-leb}
use Rattle.rules.specs.Bytes.{Text}
use Rattle.rules.specs.Sizes.{max_text}
use Rattle.text_chars.specs.Clash.{clash}
use Rattle.text_chars.specs.declared.Refusal.{Refusal}
use Rattle.text_chars.specs.declared.TextAt.{TextAt}
use Rattle.doc_items.specs.Writing.{ReadIs}
use Rattle.eval_writer.specs.Model.{word_at, key_len}
use Rattle.eval_writer.specs.Clauses.{Room, PutsText}
use Rattle.eval_concat.specs.Model.{Joined, too_large_c, join, text_of, text_join, mixed_at, tested_c, takes_text, nothing_c, text_c}
use Rattle.eval_concat.specs.Kinds.{array-stays, object-stays}
use Rattle.eval_concat.specs.Clauses.{GapIs, AddedIs, TextJoinedIs, NothingIs}
use Rattle.eval_concat.specs.declared.Kind.{Kind}
use Rattle.eval_concat.specs.declared.Join.{Join}

pub gap_is : {T X : List ℕ} (i : ℕ) {to at n : ℕ} {b a : List ℕ} → ReadIs T (8 * i + 2) at → ReadIs T (8 * i + 3) n → PutsText to n (word_at X at n) b a
    → GapIs T X i to b a (to + n)
gap_is {T} {X} i {to} {at} {n} {b} {a} p q h = record {
  put = rw (← p.is, ← q.is) h;
  end = ap (λ (m : ℕ). to + m) q.is;
  near = let s = q.small in omega arith;
}

whole_word : (s : Text) → word_at s 0 (length s) ≡ s
unfolding word_at
whole_word s = rw (le-leb (0 + length s) (length s) (omega arith)) (take-length s)

pub added_is : {T X : List ℕ} {i : ℕ} {s : Text} {to e : ℕ} {b x a : List ℕ} {r : Joined} → Room b → length x ≡ length b → GapIs T X i to b x e
    → PutsText e (length s) (word_at s 0 (length s)) x a → r ≡ tested_c (text_join (e + length s)) → AddedIs T X i s to b a r
added_is {T} {X} {i} {s} {to} {e} {b} {x} {a} {r} w l g p t =
    let q : PutsText e (length s) s x a = rw (whole_word s) at p in
    record {
      is = t ∙ ap (λ (m : ℕ). tested_c (text_join (m + length s))) g.end;
      put = record { middle = x; whole = l ∙ w; gap = g.put; text = rw g.end at q };
    }

module _ {T X : List ℕ} {i : ℕ} {s : Text} {j : Join} {b : List ℕ} where
  pub text-long : {e : Refusal} → max_text < length s → e ≡ too_large_c → TextJoinedIs T X i s j b b (Err e)
  unfolding text_c
  text-long h q = record { is = ap Err q ∙ rw (text_c, lt-leb (length s) max_text h); put = λ l k. absurd (omega arith) }

  module _ (h : length s ≤ max_text) {a : List ℕ} where
    text-mixed : {e : Refusal} → takes_text j.kind ≡ false → e ≡ mixed_at T i → TextJoinedIs T X i s j b a (Err e)
    unfolding text_c
    text-mixed k e = record { is = ap Err e ∙ rw (text_c, le-leb (length s) max_text h, k); put = λ l t. clash (cc) }

    pub text-array : {e : Refusal} {c : ℕ} → j.kind ≡ Kind.Array c → e ≡ mixed_at T i → TextJoinedIs T X i s j b a (Err e)
    text-array k e = text-mixed (rw k) e

    pub text-object : {e : Refusal} → j.kind ≡ Kind.Object → e ≡ mixed_at T i → TextJoinedIs T X i s j b a (Err e)
    text-object k e = text-mixed (rw k) e

    text-added : {r : Joined} → takes_text j.kind ≡ true → AddedIs T X i s (text_of j) b a r → TextJoinedIs T X i s j b a r
    unfolding text_c
    text-added k g = record { is = g.is ∙ rw (text_c, le-leb (length s) max_text h, k); put = λ l t. g.put }

    pub text-blank : {r : Joined} → j.kind ≡ Kind.Blank → AddedIs T X i s (text_of j) b a r → TextJoinedIs T X i s j b a r
    text-blank k g = text-added (rw k) g

    pub text-simple : {r : Joined} → j.kind ≡ Kind.Simple → AddedIs T X i s (text_of j) b a r → TextJoinedIs T X i s j b a r
    text-simple k g = text-added (rw k) g

pub ruleset text-laws = (text-long, text-array, text-object, text-blank, text-simple)

module _ {T X : List ℕ} {i : ℕ} {j : Join} {b : List ℕ} where
  pub nothing-array : {c : ℕ} → j.kind ≡ Kind.Array c → NothingIs T X i j b b (Ok j)
  unfolding nothing_c
  nothing-array k = record {
    is = sym (array-stays j.kind j (text_of j + key_len T i) k);
    put = λ t. let z : takes_text j.kind ≡ false = rw k in clash (cc);
    same = λ t. refl;
    near = λ t. let z : takes_text j.kind ≡ false = rw k in clash (cc);
  }

  pub nothing-object : j.kind ≡ Kind.Object → NothingIs T X i j b b (Ok j)
  unfolding nothing_c
  nothing-object k = record {
    is = sym (object-stays j.kind j (text_of j + key_len T i) k);
    put = λ t. let z : takes_text j.kind ≡ false = rw k in clash (cc);
    same = λ t. refl;
    near = λ t. let z : takes_text j.kind ≡ false = rw k in clash (cc);
  }

  module _ {a : List ℕ} {end : TextAt} (g : GapIs T X i (text_of j) b a end.0) where
    pub nothing-blank : j.kind ≡ Kind.Blank → NothingIs T X i j b a (Ok (join Kind.Blank (record { out = record { rec = record { 0 = 0 }; text = end }; deep = 0 })))
    unfolding nothing_c
    nothing-blank k = record {
      is = rw (nothing_c, k, g.end);
      put = λ t. g.put;
      same = λ t. let z : takes_text j.kind ≡ true = rw k in clash (cc);
      near = λ t. let l = g.near in let m = g.end in omega arith;
    }

    pub nothing-simple : {r : Joined} → j.kind ≡ Kind.Simple → r ≡ tested_c (text_join end.0) → NothingIs T X i j b a r
    unfolding nothing_c
    nothing-simple k f = record {
      is = f ∙ ap (λ (m : ℕ). tested_c (text_join m)) g.end ∙ rw (nothing_c, k);
      put = λ t. g.put;
      same = λ t. let z : takes_text j.kind ≡ true = rw k in clash (cc);
      near = λ t. let l = g.near in let m = g.end in omega arith;
    }

pub ruleset nothing-laws = (nothing-array, nothing-object, nothing-blank, nothing-simple)
