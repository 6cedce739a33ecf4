-- Laws of the functions that ask the environment.
use mathlib.Core.Path.{◌≡◌, refl, sym, ap, ◌∙◌}
use Prim.Native.Nat.{ℕ, ◌+◌, ◌*◌, ◌≤◌}
use mathlib.Core.Bool.{Bool, true, false}
use mathlib.Core.List.{List}
use mathlib.Core.Option.{none, some}
use native.Mathlib.Omega.{arith}
use Rattle.std.specs.Prelude.{Some, None}
use Rattle.std.specs.declared.option.Option.{Option as Maybe}
use lib.ListN.{length}
use lib.Seq.{slice}
use Rattle.answers.specs.Ask.{refused}
use Rattle.rules.specs.Bytes.{Text}
use Rattle.rules.specs.Refusals.{placed}
use Rattle.rules.specs.Environment.{Variable, entries_of, text_of}
use Rattle.rules.specs.Tree.{Substitution}
use Rattle.rules.specs.Unresolved.{dotted}
use Rattle.theory.specs.SettledAnswers.{or_environment_in}
use Rattle.doc_items.specs.Codes.{reference_code}
use Rattle.doc_items.specs.Writing.{ReadIs}
use Rattle.eval_environment.specs.Model.{elements_c, path_c}
use Rattle.eval_environment.specs.Paths.{path-is}
use Rattle.eval_environment.specs.Clauses.{AnyNumber, FoundInside, FindIs, NameIs, SubstitutionAt, AskedIs}
use Rattle.eval_environment.specs.declared.Asked.{Asked}
use Rattle.eval_environment.specs.declared.Part.{Part}

-- ---- the path by the item's numbers

module _ {T : List ℕ} (X : List ℕ) (i : ℕ) {at len count : ℕ} (p : ReadIs T (8 * i + 4) at) (q : ReadIs T (8 * i + 5) len) (r : ReadIs T (8 * i + 7) count) where
  path-read : elements_c X at (at + len) count 0 ≡ path_c T X i
  unfolding path_c
  path-read = rw (p.is, q.is, r.is, path_c)

  pub name-is : {env : List ℕ} {f : Maybe Part} → FindIs env (dotted (elements_c X at (at + len) count 0)) f → NameIs T X env i f
  name-is g = record { is = rw path-read at g }

-- ---- a name's text

module _ {s n : List ℕ} {r : Maybe Part} (h : FindIs s n r) where
  found_inside : {p : Part} → r ≡ Some p → p.start.0 + p.size.0 ≤ length s
  found_inside {p} e = let i : FoundInside (length s) (Some p) = rw e at h.inside in i

  module _ {es : List Variable} (k : entries_of s ≡ some es) where
    found-is : {p : Part} → r ≡ Some p → text_of es n ≡ some (slice p.start.0 (p.start.0 + p.size.0) s)
    found-is e = sym (rw e at (h.is es k))

    nothing_is : r ≡ None → text_of es n ≡ none
    nothing_is e = sym (rw e at (h.is es k))

-- ---- what the substitution comes to

module _ {T X env : List ℕ} {i : ℕ} {r : Maybe Part} (h : NameIs T X env i r) where
  -- the name that is asked for is the substitution's
  name_of : (x : Substitution) → SubstitutionAt T X i x → path_c T X i ≡ x.path
  name_of x s = path-is T X i s.lo s.hi AnyNumber s.high x s.item

  found-text : {p : Part} → r ≡ Some p → (es : List Variable) → entries_of env ≡ some es
      → (x : Substitution) → SubstitutionAt T X i x → text_of es (dotted x.path) ≡ some (slice p.start.0 (p.start.0 + p.size.0) env)
  found-text e es k x s = ap (λ (p : List Text). text_of es (dotted p)) (sym (name_of x s)) ∙ found-is h.is k e

  found_none : r ≡ None → (es : List Variable) → entries_of env ≡ some es → (x : Substitution) → SubstitutionAt T X i x
      → text_of es (dotted x.path) ≡ none
  found_none e es k x s = ap (λ (p : List Text). text_of es (dotted p)) (sym (name_of x s)) ∙ nothing_is h.is k e

  pub asked-text : {p : Part} → r ≡ Some p → AskedIs T X env i (Asked.Text p.start p.size)
  unfolding or_environment_in
  asked-text e = record { is = λ es k x s. rw (or_environment_in, found-text e es k x s); inside = found_inside h.is e }

  module _ {k : ℕ} (kind : ReadIs T (8 * i) k) (e : r ≡ None) where
    optional-is : (x : Substitution) → SubstitutionAt T X i x → k ≡ 26 → x.optional ≡ true
    optional-is x s f = go x.optional (kind.is ∙ s.item.kind)
      where
        go : (t : Bool) → k ≡ 16 + reference_code t → t ≡ true
        go true q = refl
        go false q = absurd (omega arith)

    required-is : (x : Substitution) → SubstitutionAt T X i x → (k ≡ 26 → ⊥) → x.optional ≡ false
    required-is x s f = go x.optional (kind.is ∙ s.item.kind)
      where
        go : (t : Bool) → k ≡ 16 + reference_code t → t ≡ false
        go true q = absurd (f q)
        go false q = refl

    pub asked-undefined : k ≡ 26 → AskedIs T X env i Asked.Undefined
    unfolding or_environment_in
    asked-undefined f = record {
      is = λ es n x s. rw (or_environment_in, found_none e es n x s, optional-is x s f);
      inside = tt;
    }

    pub asked-missing : {p : ℕ} → (k ≡ 26 → ⊥) → ReadIs T (8 * i + 6) p → AskedIs T X env i (Asked.Missing (record { 0 = p }))
    unfolding or_environment_in
    asked-missing {p} f q = record {
      is = λ es n x s.
          let z : p ≡ x.place = q.is ∙ s.place in
          rw (or_environment_in, found_none e es n x s, required-is x s f) (ap (λ (m : ℕ). refused (placed 9 m)) z);
      inside = tt;
    }

pub ruleset asked-laws = (asked-text, asked-undefined, asked-missing)
