-- Three quotes, the run that closes a triple-quoted string, and its text: one law for each answer.
use mathlib.Core.Path.{◌≡◌, refl, sym, ap, ◌∙◌}
use mathlib.Core.Bool.{Bool, true, false, not, ◌&&◌}
use mathlib.Core.List.{List}
use Rattle.std.specs.Prelude.{Option, Some, None, Result, Ok, Err}
use Prim.Native.Nat.{ℕ, ◌+◌, ◌-◌, ◌≤◌, ◌<◌}
use native.Mathlib.Omega.{arith}
use lib.Dec.{leb, ltb, eqb}
use lib.ListN.{length}
use lib.Seq.{slice, length-slice}
use borrow.Author.Tests.{lt-ltb, le-ltb, leb-true}
use Rattle.rules.specs.Bytes.{byte_at}
use Rattle.rules.specs.Refusals.{Refusal as Refusing, ended, Scan, ok, refused}
use Rattle.rules.specs.Strings.{expect, three_quotes, quotes_run, after_quotes}
use Rattle.theory_text.specs.Choices.{by-test}
use Rattle.theory_text.specs.Places.{byte_past, quotes-reached}
use Rattle.theory.specs.Walks.{run_on, run-off, quotes-on, quotes-off}
use Rattle.text_chars.specs.Cursor.{doc, refusal, StepIs}
use Rattle.text_chars.specs.Seen.{seen, at-end}
use Rattle.text_chars.specs.declared.Cursor.{Cursor}
use Rattle.text_chars.specs.declared.Step.{Step}
use Rattle.text_chars.specs.declared.Refusal.{Refusal}
use Rattle.text_escapes.specs.Clauses.{expect_scan, ExpectFar, ExpectIs}
use Rattle.text_runs.specs.Clauses.{Passed, none, on, RawRunIs}
use Rattle.text_runs.specs.Passing.{goes_over}
use Rattle.text_bytes.specs.Clauses.{WriteIs}
use Rattle.text_escapes.specs.Clauses.{sized, quoted}
use Rattle.text_strings.specs.Clauses.{ThreeSays, ThreeIs, RunSays, RunIs, AfterIs, raw_from, RawIs}
use Rattle.text_chars.specs.Clash.{clash}
use Rattle.text_escapes.specs.Answers.{decoded-text, decoded-refusal}

-- ---- a quote, or none

module _ (b : ℕ) (s : List ℕ) (first at : ℕ) where
  is-there : {x p : ℕ} → expect b s first at ≡ ok x p → eqb (byte_at s at) b ≡ true
  unfolding expect
  is-there {x} {p} =
      by-test (λ (m : Scan ℕ). m ≡ ok x p → eqb (byte_at s at) b ≡ true) (leb (length s) at) (λ e h. clash (cc)) (λ e.
      by-test (λ (m : Scan ℕ). m ≡ ok x p → eqb (byte_at s at) b ≡ true) (eqb (byte_at s at) b) (λ f h. f) (λ f h. clash (cc)))

  is-not-there : {x : Refusing} → eqb 256 b ≡ false → expect b s first at ≡ refused x → eqb (byte_at s at) b ≡ false
  unfolding expect
  is-not-there {x} n =
      by-test (λ (m : Scan ℕ). m ≡ refused x → eqb (byte_at s at) b ≡ false) (leb (length s) at)
      (λ e h. rw (byte_past s at (leb-true (length s) at e)) n) (λ e.
      by-test (λ (m : Scan ℕ). m ≡ refused x → eqb (byte_at s at) b ≡ false) (eqb (byte_at s at) b) (λ f h. clash (cc)) (λ f h. f))

module _ {s : List ℕ} {first at : ℕ} {r : Result Cursor Refusal} (h : ExpectIs 34 s first at r) where
  pub quote : {c : Cursor} → r ≡ Ok c → eqb (byte_at s at) 34 ≡ true
  quote e = is-there 34 s first at (h.is ∙ ap (expect_scan 34) e)

  pub no-quote : {x : Refusal} → r ≡ Err x → eqb (byte_at s at) 34 ≡ false
  no-quote e = is-not-there 34 s first at refl (h.is ∙ ap (expect_scan 34) e)

  pub three-none : {x : Refusal} → r ≡ Err x → ThreeIs s at None
  unfolding three_quotes
  three-none e = record { says = rw (no-quote e, three_quotes) }

  module _ {c : Cursor} (e : r ≡ Ok c) {q : Result Cursor Refusal} (k : ExpectIs 34 s first c.at.0 q) where
    second : c.at.0 ≡ at + 1
    second = let x : ExpectFar (length s) at (Ok c) = rw e at h.far in x.0

    pub three-one : {x : Refusal} → q ≡ Err x → ThreeIs s at None
    unfolding three_quotes
    three-one f = record { says = rw (quote e, rw second at (no-quote' f), three_quotes) }
      where
        no-quote' : {x : Refusal} → q ≡ Err x → eqb (byte_at s c.at.0) 34 ≡ false
        no-quote' f = is-not-there 34 s first c.at.0 refl (k.is ∙ ap (expect_scan 34) f)

    module _ {d : Cursor} (f : q ≡ Ok d) {u : Result Cursor Refusal} (l : ExpectIs 34 s first d.at.0 u) where
      there : eqb (byte_at s (at + 1)) 34 ≡ true
      there = rw second at (is-there 34 s first c.at.0 (k.is ∙ ap (expect_scan 34) f))

      third : d.at.0 ≡ at + 2
      third = let x : ExpectFar (length s) c.at.0 (Ok d) = rw f at k.far in omega (arith, second)

      pub three-two : {x : Refusal} → u ≡ Err x → ThreeIs s at None
      unfolding three_quotes
      three-two g =
          let z : eqb (byte_at s (at + 2)) 34 ≡ false = rw third at (is-not-there 34 s first d.at.0 refl (l.is ∙ ap (expect_scan 34) g)) in
          record { says = rw (quote e, there, z, three_quotes) }

      pub three-past : {end : Cursor} → u ≡ Ok end → ThreeIs s at (Some end)
      unfolding three_quotes
      three-past {end} g =
          let x : ExpectFar (length s) d.at.0 (Ok end) = rw g at l.far in
          let z : eqb (byte_at s (at + 2)) 34 ≡ true = rw third at (is-there 34 s first d.at.0 (l.is ∙ ap (expect_scan 34) g)) in
          record { says = (rw (quote e, there, z, three_quotes), omega (arith, third), x.1) }

pub ruleset threes = (three-none, three-one, three-two, three-past)

-- ---- the closing run

pub record RunLoop (s : List ℕ) (at₀ at : ℕ) : Type 0 where
  pub is : quotes_run s at₀ ≡ quotes_run s at
  pub low : at₀ ≤ at

pub run-start : {s : List ℕ} {at : ℕ} → RunLoop s at at
run-start = record { is = refl; low = omega arith }

three-no : (s : List ℕ) (p : ℕ) → eqb (byte_at s p) 34 ≡ false → three_quotes s p ≡ false
unfolding three_quotes
three-no s p e = rw (e, three_quotes)

-- no quote is passed on the way to one
run-passed : {s : List ℕ} {at p : ℕ} → Passed 0 34 s at p → quotes_run s at ≡ quotes_run s p
run-passed none = refl
run-passed {s} (on {p} k i g e) =
    let no : three_quotes s p ≡ false = three-no s p (goes_over 0 34 (byte_at s p) g).quote in
    let goes : (ltb p (length s) && not (three_quotes s p)) ≡ true = rw (lt-ltb p (length s) i, no) in
    run-passed k ∙ run_on s p goes ∙ ap (quotes_run s) (sym e)

run-over : {s : List ℕ} {at₀ at : ℕ} {c : Cursor} → RunLoop s at₀ at → RawRunIs s at c → RunLoop s at₀ c.at.0
run-over I r = record { is = I.is ∙ run-passed r.passed; low = omega (arith, I.low, r.forward) }

module _ {s : List ℕ} {at₀ at : ℕ} (before : RunLoop s at₀ at) {c : Cursor} (r : RawRunIs s at c) {q : Option Cursor} (h : ThreeIs s c.at.0 q) where
  I : RunLoop s at₀ c.at.0
  I = run-over before r

  pub run-found : {d : Cursor} → q ≡ Some d → RunIs s at₀ (Some c)
  run-found {d} f =
      let z : ThreeSays s c.at.0 (Some d) = rw f at h.says in
      let i : c.at.0 < length s = omega arith in
      let off : (ltb c.at.0 (length s) && not (three_quotes s c.at.0)) ≡ false = rw (lt-ltb c.at.0 (length s) i, z.0) in
      record { says = (sym (I.is ∙ run-off s c.at.0 off), z.0, I.low, i) }

  module _ (f : q ≡ None) {m : Option Step} (k : StepIs s c.at.0 m) where
    pub run_end : m ≡ None → RunIs s at₀ None
    run_end e =
        let p : length s ≤ c.at.0 = at-end k e in
        let off : (ltb c.at.0 (length s) && not (three_quotes s c.at.0)) ≡ false = rw (le-ltb c.at.0 (length s) p) in
        record { says = rw (I.is ∙ run-off s c.at.0 off) p }

    pub run-turn : {t : Step} → m ≡ Some t → RunLoop s at₀ t.next.at.0
    run-turn {t} e =
        let z = seen k e in
        let no : ThreeSays s c.at.0 None = rw f at h.says in
        let on : (ltb c.at.0 (length s) && not (three_quotes s c.at.0)) ≡ true = rw (lt-ltb c.at.0 (length s) z.within, no) in
        record { is = I.is ∙ run_on s c.at.0 on ∙ ap (quotes_run s) (sym z.past); low = omega (arith, I.low, z.forward) }

pub step_less : (s : List ℕ) (at : ℕ) {c : Cursor} {m : Option Step} {t : Step} → RawRunIs s at c → StepIs s c.at.0 m → m ≡ Some t
    → length s - t.next.at.0 < length s - at
step_less s at r k e = let z = seen k e in omega (arith, r.forward, z.within, z.forward)

pub ruleset runs = (run-start, run-found, run_end, run-turn, step_less)

-- ---- the place after it

pub record AfterLoop (s : List ℕ) (at₀ at : ℕ) : Type 0 where
  pub is : after_quotes s at₀ ≡ after_quotes s at
  pub inside : at ≤ length s

pub after-start : {s : List ℕ} {at : ℕ} → at ≤ length s → AfterLoop s at at
after-start h = record { is = refl; inside = h }

module _ {s : List ℕ} {at₀ at : ℕ} (I : AfterLoop s at₀ at) {first : ℕ} {r : Result Cursor Refusal} (h : ExpectIs 34 s first at r) where
  pub after-end : {c : Cursor} {x : Refusal} → c.at.0 ≡ at → r ≡ Err x → AfterIs s at₀ c
  after-end {c} e f = record { is = e ∙ sym (I.is ∙ quotes-off s at (no-quote h f)); inside = omega (arith, I.inside) }

  pub after_turn : {c : Cursor} → r ≡ Ok c → AfterLoop s at₀ c.at.0
  after_turn {c} e =
      let x : ExpectFar (length s) at (Ok c) = rw e at h.far in
      record { is = I.is ∙ quotes-on s at (quote h e) ∙ ap (after_quotes s) (sym x.0); inside = x.1 }

pub expect-less : (s : List ℕ) (at b first : ℕ) {r : Result Cursor Refusal} {c : Cursor} → ExpectIs b s first at r → r ≡ Ok c
    → length s - c.at.0 < length s - at
expect-less s at b first {r} {c} h e =
    let x : ExpectFar (length s) at (Ok c) = rw e at h.far in
    omega arith

pub ruleset afters = (after-start, after-end, after_turn, expect-less)

-- ---- the text

-- a run of three quotes is passed
past_three : (s : List ℕ) (at : ℕ) → three_quotes s at ≡ true → at + 3 ≤ after_quotes s at
unfolding three_quotes
past_three s at =
    by-test (λ (t : Bool). t ≡ true → at + 3 ≤ after_quotes s at) (eqb (byte_at s at) 34) (λ e.
    by-test (λ (t : Bool). t ≡ true → at + 3 ≤ after_quotes s at) (eqb (byte_at s (at + 1)) 34) (λ f g.
    let two : at + 1 + 1 ≡ at + 2 = omega arith in
    let third : eqb (byte_at s (at + 1 + 1)) 34 ≡ true = rw two g in
    omega (arith, quotes-on s at e, quotes-on s (at + 1) f, quotes-on s (at + 1 + 1) third, (quotes-reached s (at + 1 + 1 + 1)).0))
    (λ f g. clash (cc)))
    (λ e g. clash (cc))

module _ {s : List ℕ} {at : ℕ} {q : Option Cursor} (h : RunIs s at q) where
  pub raw-none : {b : List ℕ} → q ≡ None → RawIs s at b b (Err (refusal 4 (doc (length s))))
  unfolding raw_from
  raw-none e =
      let p : length s ≤ quotes_run s at = rw e at h.says in
      decoded-refusal refl {x = ended s} (rw (le-ltb (quotes_run s at) (length s) p, raw_from)) refl refl

  module _ {c d : Cursor} (e : q ≡ Some c) (k : AfterIs s c.at.0 d) where
    found : RunSays s at (Some c)
    found = rw e at h.says

    after : c.at.0 + 3 ≤ d.at.0
    after = omega (arith, past_three s c.at.0 found.1, k.is)

    pub raw-least : 3 ≤ d.at.0
    raw-least = omega (arith, after)

    pub raw-order : at ≤ d.at.0 - 3
    raw-order = omega (arith, after, found.2)

    pub raw-inside : d.at.0 - 3 ≤ length s
    raw-inside = omega (arith, k.inside)

    pub raw-room : (b : List ℕ) → length s - at ≤ length b → d.at.0 - 3 - at ≤ length b
    raw-room b l = omega (arith, k.inside)

    pub raw-text : {b a : List ℕ} {n : ℕ} → WriteIs (slice at (d.at.0 - 3) s) b a n → RawIs s at b a (Ok (quoted d (sized n)))
    unfolding raw_from
    raw-text {b} {a} {n} w =
        let run : quotes_run s at ≡ c.at.0 = sym found.0 in
        let in-text : quotes_run s at < length s = omega (arith, found.3) in
        let is : raw_from s at ≡ ok (slice at (after_quotes s (quotes_run s at) - 3) s) (after_quotes s (quotes_run s at)) =
        rw (lt-ltb (quotes_run s at) (length s) in-text, raw_from) in
        let end : after_quotes s (quotes_run s at) ≡ d.at.0 = ap (after_quotes s) run ∙ sym k.is in
        let long : length (slice at (d.at.0 - 3) s) ≡ d.at.0 - 3 - at = length-slice at (d.at.0 - 3) s raw-inside in
        decoded-text w.kept (is ∙ ap (λ (p : ℕ). ok (slice at (p - 3) s) p) end) w.is w.bytes
        (omega (arith, after, found.2), k.inside, omega (arith, w.is, long))

pub run_inside : (s : List ℕ) (at : ℕ) {q : Option Cursor} {c : Cursor} → RunIs s at q → q ≡ Some c → c.at.0 ≤ length s
run_inside s at {q} {c} h e = let z : RunSays s at (Some c) = rw e at h.says in omega (arith, z.3)

pub ruleset raws = (arith, raw-none, raw-least, raw-order, raw-inside, raw-room, raw-text, run_inside)
