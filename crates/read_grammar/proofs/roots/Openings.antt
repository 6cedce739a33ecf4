-- What the root is, by the byte behind the gap at the start.
use mathlib.Core.Path.{◌≡◌, refl, sym, ap, ◌∙◌}
use mathlib.Core.Bool.{Bool, true, false}
use mathlib.Core.List.{List}
use mathlib.Core.Option.{Option, none, some}
use Prim.Native.Nat.{ℕ, ◌+◌}
use native.Mathlib.Omega.{arith}
use lib.Dec.{eqb}
use borrow.Author.Tests.{eq-eqb}
use Rattle.rules.specs.Bytes.{byte_at}
use Rattle.rules.specs.Characters.{after_gap}
use Rattle.rules.specs.Reading as rules
use Rattle.text_chars.specs.declared.Cursor.{Cursor}
use Rattle.read_grammar.specs.Decisions.{Begins, start_named, StartIs}
use Rattle.read_grammar.specs.declared.Start.{Start}
use Rattle.text_scan.specs.Scan.{GapIs}
use Rattle.text_scan.specs.declared.Gap.{Gap}
use Rattle.read_grammar.specs.Roots.Contracts.{fields_from, elements_from, OpeningIs}
use Rattle.read_grammar.specs.declared.roots.Opening.{Opening}

-- where neither a brace nor a bracket begins
abbrev Other : Option rules.Start → Type 0
Other none = Unit {0}
Other (some rules.brace) = ⊥
Other (some rules.bracket) = ⊥
Other (some rules.dollar) = Unit {0}
Other (some rules.simple_start) = Unit {0}

is-brace : (s : List ℕ) (at : ℕ) → eqb (byte_at s at) 123 ≡ true → rules.start_of s at ≡ some rules.brace
unfolding rules.start_of
is-brace s at e = rw (e, rules.start_of)

is-bracket : (s : List ℕ) (at : ℕ) → eqb (byte_at s at) 123 ≡ false → eqb (byte_at s at) 91 ≡ true → rules.start_of s at ≡ some rules.bracket
unfolding rules.start_of
is-bracket s at e f = rw (e, f, rules.start_of)

no-brace : (s : List ℕ) (at : ℕ) → Other (rules.start_of s at) → eqb (byte_at s at) 123 ≡ false
no-brace s at o = go (eqb (byte_at s at) 123) refl
  where
    go : (b : Bool) → eqb (byte_at s at) 123 ≡ b → eqb (byte_at s at) 123 ≡ false
    go true e = let w : Other (some rules.brace) = rw (is-brace s at e) at o in absurd w
    go false e = e

no-bracket : (s : List ℕ) (at : ℕ) → Other (rules.start_of s at) → eqb (byte_at s at) 91 ≡ false
no-bracket s at o = go (eqb (byte_at s at) 91) refl
  where
    go : (b : Bool) → eqb (byte_at s at) 91 ≡ b → eqb (byte_at s at) 91 ≡ false
    go true e = let w : Other (some rules.bracket) = rw (is-bracket s at (no-brace s at o) e) at o in absurd w
    go false e = e

-- ---- the rules' root

module _ (s : List ℕ) (nesting at items : ℕ) where
  root-brace : byte_at s at ≡ 123 → rules.root_at s nesting at items ≡ fields_from 125 s nesting (at + 1) items
  unfolding rules.root_at
  root-brace e = rw (eq-eqb (byte_at s at) 123 e, rules.root_at)

  root-bracket : byte_at s at ≡ 91 → rules.root_at s nesting at items ≡ elements_from s nesting (at + 1) items
  unfolding rules.root_at
  root-bracket e =
      let f : eqb (byte_at s at) 123 ≡ false = ap (λ (b : ℕ). eqb b 123) e in
      rw (f, eq-eqb (byte_at s at) 91 e, rules.root_at)

  root-bare : eqb (byte_at s at) 123 ≡ false → eqb (byte_at s at) 91 ≡ false → rules.root_at s nesting at items ≡ fields_from rules.the_end s nesting at items
  unfolding rules.root_at
  root-bare e f = rw (e, f, rules.root_at)

-- ---- the answers

module _ {s : List ℕ} {z : Cursor} (start : z.at.0 ≡ 0) {g : Gap} (h : GapIs s z.at.0 g) {r : Start} (b : StartIs s g.next.at.0 r) where
  first : g.next.at.0 ≡ after_gap s 0
  first = h.is ∙ ap (after_gap s) start

  pub opens-brace : {c : Cursor} → r ≡ Start.Brace c → OpeningIs s (Opening.Object c 125)
  opens-brace {c} e =
      let u : Begins s g.next.at.0 (Start.Brace c) = rw e at b.begins in
      let v : byte_at s (after_gap s 0) ≡ 123 = ap (byte_at s) (sym first) ∙ u.1 in
      let i : after_gap s 0 + 1 ≡ c.at.0 = ap (λ (n : ℕ). n + 1) (sym first) ∙ sym u.2 in
      record {
        is = (
          refl,
          omega (arith, u.0, u.2),
          λ nesting items. root-brace s nesting (after_gap s 0) items v ∙ ap (λ (p : ℕ). fields_from 125 s nesting p items) i,
        );
      }

  pub opens-bracket : {c : Cursor} → r ≡ Start.Bracket c → OpeningIs s (Opening.Array c)
  opens-bracket {c} e =
      let u : Begins s g.next.at.0 (Start.Bracket c) = rw e at b.begins in
      let v : byte_at s (after_gap s 0) ≡ 91 = ap (byte_at s) (sym first) ∙ u.1 in
      let i : after_gap s 0 + 1 ≡ c.at.0 = ap (λ (n : ℕ). n + 1) (sym first) ∙ sym u.2 in
      record {
        is = (
          omega (arith, u.0, u.2),
          λ nesting items. root-bracket s nesting (after_gap s 0) items v ∙ ap (λ (p : ℕ). elements_from s nesting p items) i,
        );
      }

  bare : Other (start_named r) → OpeningIs s (Opening.Object g.next 256)
  bare o =
      let o' : Other (rules.start_of s g.next.at.0) = rw b.is o in
      let v : eqb (byte_at s (after_gap s 0)) 123 ≡ false = ap (λ (n : ℕ). eqb (byte_at s n) 123) (sym first) ∙ no-brace s g.next.at.0 o' in
      let w : eqb (byte_at s (after_gap s 0)) 91 ≡ false = ap (λ (n : ℕ). eqb (byte_at s n) 91) (sym first) ∙ no-bracket s g.next.at.0 o' in
      record {
        is = (
          refl,
          h.inside,
          λ nesting items. root-bare s nesting (after_gap s 0) items v w ∙ ap (λ (p : ℕ). fields_from 256 s nesting p items) (sym first),
        );
      }

  pub opens-dollar : r ≡ Start.Dollar → OpeningIs s (Opening.Object g.next 256)
  opens-dollar e = bare (rw e tt)

  pub opens-scalar : r ≡ Start.Scalar → OpeningIs s (Opening.Object g.next 256)
  opens-scalar e = bare (rw e tt)

  pub opens-nothing : r ≡ Start.Nothing → OpeningIs s (Opening.Object g.next 256)
  opens-nothing e = bare (rw e tt)

pub ruleset openings = (opens-brace, opens-bracket, opens-dollar, opens-scalar, opens-nothing)
