-- Escapes: one law for each answer, and for each thing that a callee asks.
use mathlib.Core.Path.{◌≡◌, refl, sym, ap, ◌∙◌}
use mathlib.Core.Bool.{Bool, true, false}
use mathlib.Core.List.{List, [], ◌∷◌}
use mathlib.Core.Option.{none, some}
use Rattle.std.specs.Prelude.{Option, Some, None, Result, Ok, Err}
use Prim.Native.Nat.{ℕ, ◌+◌, ◌-◌, ◌≤◌, ◌<◌}
use native.Mathlib.Omega.{arith}
use lib.Dec.{ltb}
use lib.ListN.{length, set}
use borrow.Author.Tests.{le-leb, lt-leb, ltb-true, ltb-false}
use Rattle.rules.specs.Characters.{no_character}
use Rattle.rules.specs.Bytes.{byte_at}
use Rattle.rules.specs.Refusals.{placed, ended, ok}
use Rattle.rules.specs.Strings.{unicode_escape, letter_escape, escape_at}
use Rattle.text_chars.specs.Cursor.{doc, refusal, StepIs}
use Rattle.text_chars.specs.Seen.{Seen, seen, at-end, seen-eq, seen-ne}
use Rattle.text_chars.specs.declared.DocAt.{DocAt}
use Rattle.text_chars.specs.declared.Cursor.{Cursor}
use Rattle.text_chars.specs.declared.Step.{Step}
use Rattle.text_chars.specs.declared.Refusal.{Refusal}
use Rattle.text_escapes.specs.Clauses.{LetterIs, point_scan, PointFar, PointIs}
use Rattle.text_bytes.specs.Clauses.{EncodeIs}
use Rattle.text_escapes.specs.Clauses.{sized, quoted, EscapeIs}
use Rattle.text_chars.specs.Clash.{clash}
use Rattle.text_escapes.specs.Answers.{decoded-text, decoded-refusal}
use Rattle.text_escapes.specs.declared.CodePoint.{CodePoint}
use Rattle.text_escapes.proofs.Characters.{past-letters, letter-seen}
use Rattle.text_escapes.proofs.Digits.{maybe-some, maybe-none}
use Rattle.text_bytes.specs.Buffers.{write-text}

letter-ascii : (ch : ℕ) {b : ℕ} → letter_escape ch ≡ some b → ch < 128
letter-ascii ch {b} e = go (ltb ch 128) refl
  where
    go : (t : Bool) → ltb ch 128 ≡ t → ch < 128
    go true f = ltb-true ch 128 f
    go false f = clash (cc (past-letters ch (ltb-false ch 128 f)))

module _ {s : List ℕ} (first : DocAt) {c : Cursor} (w : c.at.0 ≡ first.0 + 1) {r : Option Step} (h : StepIs s c.at.0 r) where
  pub escape-cut : {b : List ℕ} → r ≡ None → EscapeIs s first.0 b b (Err (refusal 4 (doc (length s))))
  unfolding escape_at
  escape-cut e =
      let p : length s ≤ first.0 + 1 = omega (arith, at-end h e) in
      decoded-refusal refl {x = ended s} (rw (le-leb (length s) (first.0 + 1) p, escape_at)) refl refl

  module _ {t : Step} (e : r ≡ Some t) where
    here : Seen s (first.0 + 1) t.ch t.next.at.0
    here = rw w at (seen h e)

    pub escape-room : (b : List ℕ) → length s - first.0 ≤ length b → 0 < length b
    escape-room b l = omega (arith, here.within)

    module _ {q : Option ℕ} (k : LetterIs t.ch q) where
      pub escape-letter : {b : List ℕ} {v : ℕ} → q ≡ Some v → length s - first.0 ≤ length b
          → EscapeIs s first.0 b (set b 0 v) (Ok (quoted t.next (sized 1)))
      unfolding escape_at
      escape-letter {b} {v} f l =
          let i : letter_escape t.ch ≡ some v = maybe-some (letter_escape t.ch) (sym k.is ∙ f) in
          let j : letter_escape (byte_at s (first.0 + 1)) ≡ some v = letter-seen here ∙ i in
          let o : t.next.at.0 ≡ first.0 + 2 = omega (arith, here.one (letter-ascii t.ch i)) in
          let y = write-text (v ∷ []) b (escape-room b l) in
          decoded-text y.kept {text = v ∷ []}
          (rw (lt-leb (length s) (first.0 + 1) here.within, j, escape_at) (ap (ok (v ∷ [])) (sym o))) refl y.bytes
          (omega arith, here.inside, omega arith)

      module _ (f : q ≡ None) where
        no-letter-here : letter_escape (byte_at s (first.0 + 1)) ≡ none
        no-letter-here = letter-seen here ∙ maybe-none (letter_escape t.ch) (sym k.is ∙ f)

        pub escape-other : {b : List ℕ} → (t.ch ≡ 117 → ⊥) → EscapeIs s first.0 b b (Err (refusal 5 first))
        unfolding escape_at
        escape-other n =
            decoded-refusal refl {x = placed 5 first.0}
            (rw (lt-leb (length s) (first.0 + 1) here.within, no-letter-here, seen-ne here 117 (omega arith) n, escape_at)) refl refl

        module _ (u : t.ch ≡ 117) {x : Result CodePoint Refusal} (m : PointIs (unicode_escape s first.0 t.next.at.0) s t.next.at.0 x) where
          two : t.next.at.0 ≡ first.0 + 2
          two = omega (arith, here.one (omega arith))

          unicode : escape_at s first.0 ≡ point_scan x
          unfolding escape_at
          unicode =
              rw (lt-leb (length s) (first.0 + 1) here.within, no-letter-here, seen-eq here 117 (omega arith) u, escape_at)
              (rw (← two) m.is)

          pub escape-bad : {b : List ℕ} {y : Refusal} → x ≡ Err y → EscapeIs s first.0 b b (Err y)
          escape-bad {b} {y} g = decoded-refusal refl {x = placed y.number y.place.0} (unicode ∙ ap point_scan g) refl refl

          module _ {v : CodePoint} (g : x ≡ Ok v) where
            far : PointFar (length s) t.next.at.0 (Ok v)
            far = rw g at m.far

            pub encode-small : v.ch < no_character
            encode-small = far.0

            pub encode-room : (b : List ℕ) → length s - first.0 ≤ length b → 4 ≤ length b
            encode-room b l = omega (arith, two, far.1, far.2)

            pub escape-point : {b a : List ℕ} {n : ℕ} → EncodeIs v.ch b a n → EscapeIs s first.0 b a (Ok (quoted v.next (sized n)))
            escape-point {b} {a} {n} y =
                decoded-text y.wrote.kept (unicode ∙ ap point_scan g) y.wrote.is y.wrote.bytes
                (omega (arith, two, far.1), far.2, omega (arith, two, far.1, y.high))

pub ruleset escapes = (arith, escape-cut, escape-room, escape-letter, escape-other, escape-bad, encode-small, encode-room, escape-point)
