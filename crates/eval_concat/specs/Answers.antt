-- The join's end: what its answer stores in the room, and that it is the rules' `join_answer`.
use Rattle.std.specs.Prelude.{◌≡◌, true, List, ◌∷◌, ◌++◌, drop}
use Rattle.std.proofs.Math.Path.{refl, sym, ap}
use Rattle.std.proofs.Common.{◌∙◌, take-append-drop, le-leb}
use Prim.Native.Nat.{ℕ, suc, ◌+◌, ◌-◌, ◌≤◌}
use native.Mathlib.Omega.{arith}
use Rattle.std.proofs.Math.ListN.{length, take, length-drop}
use Rattle.std.proofs.Math.Seq.{sets}
use Rattle.std.proofs.lemmas.List.Edits.{sets-eq}
use Rattle.answers.specs.Ask.{value}
use Rattle.rules.specs.Bytes.{Text}
use Rattle.rules.specs.Sizes.{max_records, max_text}
use Rattle.rules.specs.Tree.{string}
use Rattle.rules.specs.Values.{Values, scalar, array_of, object_of, record_size, value_record_sizes, nesting_of, deepest_value}
use Rattle.rules.specs.Sheet.{two, text_record, scalar_record}
use Rattle.rules.specs.Unresolved as rules
use Rattle.rules.specs.Unresolved.{join_answer}
use Rattle.sheet_kept.specs.Kept.{Held, simple, listed, named, named_all, kept}
use Rattle.sheet_kept.specs.InTurn.{flat, flat_scalar, words_rec, words_of, extent}
use Rattle.eval_writer.specs.Model.{whole, puts}
use Rattle.eval_writer.specs.Clauses.{Room, texts_in, Puts, Written}
use Rattle.eval_writer.specs.Composition.{start}
use Rattle.eval_writer.specs.Building.{written-array}
use Rattle.eval_results.specs.Sizes.Contracts.{within_c}
use Rattle.eval_results.specs.Extents.Came.{came-clipped}
use Rattle.eval_results.specs.Sizes.Answers.{ValueIn, AnsweredIs, within-nesting, within-records, within-texts}
use Rattle.eval_results.specs.declared.sizes.Answered.{Answered}
use Rattle.eval_concat.specs.Model.{records_of, text_of, answer_by}
use Rattle.eval_concat.specs.Helds.{all-records}
use Rattle.eval_concat.specs.Standing.{TextIn, ArrayIn, JoinIn}
use Rattle.eval_concat.specs.declared.Kind.{Kind}
use Rattle.eval_concat.specs.declared.Join.{Join}

-- a string's record and an array's head are written last
abbrev pub AnswerPut : Kind → (m n : ℕ) → (b a : List ℕ) → Type 0
AnswerPut Kind.Blank m n b a = a ≡ b
AnswerPut Kind.Simple m n b a = Puts 0 (5 ∷ two 0 ++ two n) b a
AnswerPut (Kind.Array count) m n b a = Puts 0 (6 ∷ two (m - 3)) b a
AnswerPut Kind.Object m n b a = a ≡ b

pub record AnswerIs (j : Join) (b a : List ℕ) (r : Answered) : Type 0 where
  pub is : r ≡ answer_by j.kind j.extent
  pub put : AnswerPut j.kind (records_of j) (text_of j) b a

-- a text that stands there already
set_same : (l t : List ℕ) → length t ≤ length l → take (length t) l ≡ t → sets l 0 t ≡ l
set_same l t h e =
    sets-eq t l 0 (omega arith) ∙ ap (λ (u : List ℕ). u ++ drop (0 + length t) l) (sym e)
    ∙ (let z : 0 + length t ≡ length t = omega arith in ap (λ (n : ℕ). take (length t) l ++ drop n l) z) ∙ take-append-drop (length t) l

text-within : (j : Join) → records_of j ≡ 5 → j.extent.deep ≡ 0 → text_of j ≤ max_text → within_c j.extent ≡ true
unfolding within_c
text-within j q d l = rw (within_c, q, d, le-leb (text_of j) max_text l)

module _ {key : ℕ → Text} {P : Held → Type 0} (plain : (t : Text) → P (simple (string t))) (j : Join) {b a : List ℕ} (whole_room : Room b) where
  text-value : {t : Text} → TextIn t (text_of j) b → records_of j ≡ 5 → j.extent.deep ≡ 0 → text_of j ≤ max_text
      → Puts 0 (5 ∷ two 0 ++ two (text_of j)) b a → ValueIn key P a j.extent (scalar (string t))
  unfolding named nesting_of kept flat flat_scalar words_of words_rec scalar_record text_record two puts whole extent
  text-value {t} h q d l p =
      let s = h.size in
      let n : length (texts_in b) ≡ max_text = omega (arith, length-drop max_records b) in
      let e : take (length t) (texts_in b) ≡ t = ap (λ (m : ℕ). take m (texts_in b)) (sym s) ∙ h.text l in
      let w : Written key (simple (string t)) start j.extent.out b a = record {
        is = record {
          records = p.records ∙ ap (λ (m : ℕ). sets (take max_records b) 0 (5 ∷ two 0 ++ two m)) s;
          texts = p.texts ∙ sym (rw (le-leb (0 + length t) (length (texts_in b)) (omega arith)) (set_same (texts_in b) t (omega arith) e));
          rec = omega arith;
          text = omega arith;
        };
      } in
      record {
        held = simple (string t);
        good = plain t;
        is = refl;
        before = b;
        whole = whole_room;
        came = came-clipped w d (record { out = record { rec = omega arith; text = omega arith }; deep = omega arith });
      }

  array-value : {vs : Values} (x : ArrayIn key P j b vs) → within_c j.extent ≡ true → Puts 0 (6 ∷ two (records_of j - 3)) b a
      → ValueIn key P a j.extent (array_of vs)
  unfolding named nesting_of record_size
  array-value x e p =
      let r = within-records j.extent e in
      let t = within-texts j.extent e in
      let n = within-nesting j.extent e in
      let d = ap deepest_value x.is in
      let c = x.deep in
      let i : records_of j - 3 ≡ value_record_sizes (named_all key x.helds) = omega (arith, all-records x.written) in
      let z : j.extent.deep ≡ suc (deepest_value (named_all key x.helds)) = omega arith in
      record {
        held = listed x.helds;
        good = x.good;
        is = ap array_of x.is;
        before = x.before;
        whole = x.whole;
        came = came-clipped (written-array x.written (rw i at p)) z (record { out = record { rec = omega arith; text = omega arith }; deep = omega arith });
      }

  pub answer-is : (J : rules.Join) {r : Answered} → JoinIn key P j b J → AnswerIs j b a r → AnsweredIs key P a (value (join_answer J)) r
  unfolding join_answer
  answer-is (rules.blank t) h w = let (k, x) = h.is in record { is = rw (w.is, k) refl }
  answer-is (rules.text t) h w =
      let (k, x, q, d, l) = h.is in
      let p : Puts 0 (5 ∷ two 0 ++ two (text_of j)) b a = rw k at w.put in
      record { is = rw (w.is, k) (scalar (string t), refl, text-value x q d l p, text-within j q d l) }
  answer-is (rules.joined_array vs) h w =
      let (x, e) = h.is in
      let k = x.kind in
      let p : Puts 0 (6 ∷ two (records_of j - 3)) b a = rw k at w.put in
      record { is = rw (w.is, k) (array_of vs, refl, array-value x e p, e) }
  answer-is (rules.joined_object ms) h w =
      let (k, x, e) = h.is in
      let p : a ≡ b = rw k at w.put in
      record { is = rw (w.is, k, p) (object_of ms, refl, x, e) }
