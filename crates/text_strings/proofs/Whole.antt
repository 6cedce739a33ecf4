-- The whole string: three quotes, or one.
use mathlib.Core.Path.{◌≡◌, refl, sym, ap, ◌∙◌}
use mathlib.Core.Bool.{true, false}
use mathlib.Core.List.{List}
use Rattle.std.specs.Prelude.{Option, Some, None, Result, Ok, Err}
use Prim.Native.Nat.{ℕ, suc, ◌+◌, ◌-◌, ◌≤◌}
use native.Mathlib.Omega.{arith}
use lib.Dec.{eqb}
use lib.ListN.{length}
use borrow.Author.Tests.{eq-eqb}
use Rattle.rules.specs.Bytes.{byte_at}
use Rattle.rules.specs.Strings.{body_from, triple_at, quoted_at}
use Rattle.text_chars.specs.declared.Cursor.{Cursor}
use Rattle.text_escapes.specs.Clauses.{ExpectFar, ExpectIs}
use Rattle.text_strings.specs.Clauses.{ThreeSays, ThreeIs, raw_from, RawIs, BodyIs, QuotedIs}
use Rattle.text_chars.specs.Clash.{clash}
use Rattle.text_escapes.specs.Answers.{decoded-before}
use Rattle.text_chars.specs.declared.Refusal.{Refusal}
use Rattle.text_escapes.specs.declared.Quoted.{Quoted}
use Rattle.text_strings.proofs.Runs.{no-quote}

triple-raw : (s : List ℕ) (at : ℕ) → triple_at s at ≡ raw_from s (at + 3)
unfolding triple_at raw_from
triple-raw s at = refl

module _ {s : List ℕ} {at : ℕ} {q : Option Cursor} (h : ThreeIs s at q) where
  module _ {c : Cursor} (e : q ≡ Some c) where
    says : ThreeSays s at (Some c)
    says = rw e at h.says

    pub quoted-raw : {b a : List ℕ} {r : Result Quoted Refusal} → RawIs s c.at.0 b a r → QuotedIs s at b a r
    unfolding quoted_at
    quoted-raw k =
        decoded-before (rw (says.0, quoted_at) (triple-raw s at) ∙ ap (raw_from s) (sym says.1)) (omega (arith, says.1)) k

    pub raw-fits : (b : List ℕ) → length s - at ≤ length b → length s - c.at.0 ≤ length b
    raw-fits b l = omega (arith, says.1)

  module _ (e : q ≡ None) {first : ℕ} {x : Result Cursor Refusal} (k : ExpectIs 34 s first at x) where
    module _ {c : Cursor} (f : x ≡ Ok c) where
      far : ExpectFar (length s) at (Ok c)
      far = rw f at k.far

      pub quoted-body : {b a : List ℕ} {r : Result Quoted Refusal} → BodyIs s c.at.0 b a r → QuotedIs s at b a r
      unfolding quoted_at
      quoted-body l =
          let no : ThreeSays s at None = rw e at h.says in
          decoded-before (rw (no, quoted_at) (ap (body_from (suc (length s)) s) (sym far.0))) (omega (arith, far.0)) l

      pub body-inside : c.at.0 ≤ length s
      body-inside = far.1

      pub body-fits : (b : List ℕ) → length s - at ≤ length b → length s - c.at.0 ≤ length b
      body-fits b l = omega (arith, far.0)

    pub quoted-never : {b a : List ℕ} {y : Refusal} {r : Result Quoted Refusal} → byte_at s at ≡ 34 → x ≡ Err y → QuotedIs s at b a r
    quoted-never w f =
        let t : eqb (byte_at s at) 34 ≡ true = eq-eqb (byte_at s at) 34 w in
        let u : eqb (byte_at s at) 34 ≡ false = no-quote k f in
        clash (cc)

pub ruleset wholes = (quoted-raw, raw-fits, quoted-body, body-inside, body-fits, quoted-never)
