-- One law for each answer.
use mathlib.Core.Path.{◌≡◌, refl, sym, ap, ◌∙◌}
use Prim.Native.Nat.{ℕ, ◌+◌, ◌*◌, ◌-◌}
use mathlib.Core.Bool.{Bool, true, false}
use mathlib.Core.List.{List, ◌∷◌, ◌++◌}
use Rattle.std.specs.Prelude.{Ok, Err, Some, None}
use Rattle.rules.specs.Sheet.{two}
use Rattle.text_chars.specs.Cursor.{doc, refusal}
use Rattle.text_chars.specs.declared.Refusal.{Refusal}
use Rattle.doc_items.specs.Writing.{ReadIs}
use Rattle.eval_writer.specs.Clauses.{Puts}
use Rattle.eval_results.specs.Sizes.Contracts.{within_c}
use Rattle.eval_results.specs.declared.extents.Extent.{Extent}
use Rattle.eval_results.specs.declared.sizes.Answered.{Answered}
use Rattle.eval_concat.specs.Model.{out, join, records_of, text_of, too_large_c, mixed_at, tested_c, start_of}
use Rattle.eval_concat.specs.Answers.{AnswerIs}
use Rattle.eval_concat.specs.Objects.{ObjectJoined, object_by, object_c, ObjectIs}
use Rattle.eval_concat.specs.declared.Kind.{Kind}
use Rattle.eval_concat.specs.declared.Join.{Join}

-- ---- decisions

module _ (j : Join) {f : Bool} (h : f ≡ within_c j.extent) where
  pub tested-so : f ≡ true → Ok j ≡ tested_c j
  unfolding tested_c
  tested-so e = rw (tested_c, sym h ∙ e)

  pub tested-large : {e : Refusal} → f ≡ false → e ≡ too_large_c → Err e ≡ tested_c j
  unfolding tested_c
  tested-large e q = ap Err q ∙ rw (tested_c, sym h ∙ e)

pub ruleset tested-laws = (tested-so, tested-large)

pub mixed-is : {T : List ℕ} (i : ℕ) {p : ℕ} → ReadIs T (8 * i + 6) p → refusal 11 (doc p) ≡ mixed_at T i
mixed-is i h = ap (λ (q : ℕ). refusal 11 (doc q)) h.is

-- ---- arrays

module _ (j : Join) where
  pub start-array : {c : ℕ} → j.kind ≡ Kind.Array c → j.extent.out ≡ start_of j
  start-array k = rw k

  pub start-blank : j.kind ≡ Kind.Blank → out 3 0 ≡ start_of j
  start-blank k = rw k

  pub start-simple : j.kind ≡ Kind.Simple → out 3 0 ≡ start_of j
  start-simple k = rw k

  pub start-object : j.kind ≡ Kind.Object → out 3 0 ≡ start_of j
  start-object k = rw k

pub ruleset start-laws = (start-array, start-blank, start-simple, start-object)

-- ---- objects

module _ {T : List ℕ} {i : ℕ} {j : Join} {e : Extent} {f : Bool} (h : f ≡ within_c e) where
  pub object-large : {x : Refusal} → f ≡ false → x ≡ too_large_c → ObjectIs T i j e (Err x)
  unfolding object_c
  object-large w q = record { is = ap Err q ∙ rw (object_c, sym h ∙ w) }

  module _ (w : f ≡ true) where
    decided : {r : ObjectJoined} → r ≡ object_by j.kind T i e → ObjectIs T i j e r
    unfolding object_c
    decided d = record { is = d ∙ rw (object_c, sym h ∙ w) }

    pub object-simple : {x : Refusal} → j.kind ≡ Kind.Simple → x ≡ mixed_at T i → ObjectIs T i j e (Err x)
    object-simple k q = decided (rw k (ap Err q))

    pub object-array : {x : Refusal} {c : ℕ} → j.kind ≡ Kind.Array c → x ≡ mixed_at T i → ObjectIs T i j e (Err x)
    object-array k q = decided (rw k (ap Err q))

    pub object-first : j.kind ≡ Kind.Blank → ObjectIs T i j e (Ok (Some (join Kind.Object e)))
    object-first k = decided (rw k)

    pub object-merge : j.kind ≡ Kind.Object → ObjectIs T i j e (Ok None)
    object-merge k = decided (rw k)

pub ruleset object-laws = (object-large, object-simple, object-array, object-first, object-merge)

-- ---- the end

module _ {j : Join} {b : List ℕ} where
  pub answer-blank : j.kind ≡ Kind.Blank → AnswerIs j b b Answered.Undefined
  answer-blank k = record { is = rw k; put = rw k refl }

  pub answer-object : j.kind ≡ Kind.Object → AnswerIs j b b (Answered.Value j.extent)
  answer-object k = record { is = rw k; put = rw k refl }

  pub answer-array : {c n : ℕ} {a : List ℕ} → j.kind ≡ Kind.Array c → n ≡ records_of j - 3 → Puts 0 (6 ∷ two n) b a → AnswerIs j b a (Answered.Value j.extent)
  answer-array k e p = record { is = rw k; put = rw k (rw e at p) }

  pub answer-simple : {a : List ℕ} → j.kind ≡ Kind.Simple → Puts 0 (5 ∷ two 0 ++ two (text_of j)) b a → AnswerIs j b a (Answered.Value j.extent)
  answer-simple k p = record { is = rw k; put = rw k p }

pub ruleset answer-laws = (answer-blank, answer-object, answer-array, answer-simple)
