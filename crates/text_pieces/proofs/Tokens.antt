-- One law for each answer of the functions that read a simple piece.
use mathlib.Core.Path.{◌≡◌, refl, sym, ◌∙◌, ap}
use mathlib.Core.Bool.{Bool, true, false, not, ◌&&◌, ◌||◌}
use mathlib.Core.List.{List}
use mathlib.Core.Option.{none, some}
use Rattle.std.specs.Prelude.{Result, Ok, Err}
use Prim.Native.Nat.{ℕ, ◌+◌, ◌<◌}
use native.Mathlib.Omega.{arith}
use lib.Dec.{leb, eqb}
use lib.ListN.{length}
use lib.Seq.{slice}
use borrow.Author.Tests.{leb-true, eq-eqb, ne_eqb, eqb-true, not-true}
use Rattle.answers.specs.Theory.Sound.{clash}
use Rattle.rules.specs.Bytes.{Text, byte_at}
use Rattle.rules.specs.Refusals.{placed, Scan, ok, refused, and_then}
use Rattle.rules.specs.Characters.{character_at}
use Rattle.rules.specs.Numbers.{is_digit, after_number}
use Rattle.rules.specs.Strings.{quoted_at}
use Rattle.rules.specs.Tree.{null, boolean, number, string}
use Rattle.rules.specs.Pieces.{Token, token, stops_unquoted, starts_simple, unquoted_end, starts_with, word_true, word_false, word_null, unquoted_at, number_at, simple_at, scalar_text}
use Rattle.theory_text.specs.Ascii.{ascii-character, ascii-byte}
use Rattle.theory_text.specs.Places.{unquoted-forward}
use Rattle.theory.specs.Layout.{same-iff}
use Rattle.text_chars.specs.Cursor.{doc, cur, refusal}
use Rattle.text_chars.specs.declared.Refusal.{Refusal}
use Rattle.text_chars.specs.declared.DocAt.{DocAt}
use Rattle.text_chars.specs.declared.Cursor.{Cursor}
use Rattle.text_scan.specs.Scan.{SeenIs, EndIs}
use Rattle.text_numbers.specs.Clauses.{NumberIs}
use Rattle.text_unquoted.specs.Clauses.{Says, WordIs}
use Rattle.text_chars.specs.declared.Step.{Step}
use Rattle.std.specs.Prelude.{Option as Maybe, Some, None}
use Rattle.text_unquoted.specs.declared.Word.{Word}
use Rattle.text_escapes.specs.Clauses.{sized, quoted, Decoded, quoted_of}
use Rattle.text_escapes.specs.declared.Quoted.{Quoted}
use Rattle.text_pieces.specs.Clauses.{starts_number, Leads, LeadIs, piece_of, Bare, ScanIs, LaidToken, LaidPiece, PieceIs, TextAsked, PieceAsked, quoted_token}
use Rattle.text_pieces.specs.declared.Piece.{Piece}
use Rattle.text_pieces.specs.declared.Lead.{Lead}

-- ---- what a piece begins with

-- a number's first character is ASCII
digit_low : (c : ℕ) → is_digit c ≡ true → c < 128
digit_low c e = omega (arith, leb-true c 57 (go (leb 48 c) (leb c 57) e))
  where
    go : (x y : Bool) → x && y ≡ true → y ≡ true
    go true y h = h
    go false y h = clash (cc)

number-low : (c : ℕ) → starts_number c ≡ true → c < 128
number-low c e = go (is_digit c) refl e
  where
    go : (x : Bool) → is_digit c ≡ x → x || eqb c 45 ≡ true → c < 128
    go true q h = digit_low c q
    go false q h = omega (arith, eqb-true c 45 h)

-- the test of the character is the test of the byte
same_start : (s : List ℕ) (at : ℕ) → starts_number (byte_at s at) ≡ starts_number (character_at s at)
same_start s at = go (starts_number (byte_at s at)) (starts_number (character_at s at)) refl refl
  where
    go : (x y : Bool) → starts_number (byte_at s at) ≡ x → starts_number (character_at s at) ≡ y → x ≡ y
    go true true p q = refl
    go false false p q = refl
    go true false p q =
        let e : character_at s at ≡ byte_at s at = ascii-character s at (number-low (byte_at s at) p) in
        sym p ∙ rw (← e) q
    go false true p q =
        let e : byte_at s at ≡ character_at s at = ascii-byte s at (number-low (character_at s at) q) in
        sym p ∙ rw e q

module _ {s : List ℕ} {at : ℕ} {seen : Step} (h : SeenIs s at seen) where
  no-quote : (seen.ch ≡ 34 → ⊥) → byte_at s at ≡ 34 → ⊥
  no-quote n e = n (h.is ∙ ascii-character s at (omega arith) ∙ e)

  pub lead-quote : seen.ch ≡ 34 → LeadIs s at Lead.Quote
  lead-quote e = record { is = ascii-byte s at (omega (arith, h.is)) ∙ sym h.is ∙ e }

  starts : (b : Bool) → starts_number seen.ch ≡ b → starts_number (byte_at s at) ≡ b
  starts b e = same_start s at ∙ ap starts_number (sym h.is) ∙ e

  pub lead-minus : (seen.ch ≡ 34 → ⊥) → seen.ch ≡ 45 → LeadIs s at Lead.Number
  lead-minus n e = record { is = (no-quote n, starts true (rw e)) }

  module _ (n : seen.ch ≡ 34 → ⊥) (m : seen.ch ≡ 45 → ⊥) {f : Bool} (i : f ≡ is_digit seen.ch) where
    pub lead-digit : f ≡ true → LeadIs s at Lead.Number
    lead-digit t = record { is = (no-quote n, starts true (rw (sym i ∙ t))) }

    pub lead-text : f ≡ false → LeadIs s at Lead.Text
    lead-text t = record { is = (no-quote n, starts false (rw (sym i ∙ t, ne_eqb seen.ch 45 m))) }

-- ---- words and unquoted text

-- a word that stands at a place is what is written there
spelt-word : (w s : List ℕ) (at : ℕ) → starts_with w s at ≡ true → w ≡ slice at (at + length w) s
unfolding starts_with
spelt-word w s at e = sym ((same-iff (slice at (at + length w) s) w).0 e)

module _ {s : List ℕ} {at : ℕ} {r : Word} (h : WordIs s at r) where
  pub text-true : {c : Cursor} → r ≡ Word.True c → ScanIs (unquoted_at s at) s at (Ok (Piece.Plain 3 c))
  unfolding unquoted_at scalar_text
  text-true {c} e =
      let w : Says s at (Word.True c) = rw e at h.is in
      let z : unquoted_at s at ≡ ok (token false (boolean true)) (at + 4) = rw (w.0, unquoted_at) in
      record {
        is = rw z (ap (λ p. Ok (Piece.Plain 3 (cur p))) w.1);
        moved = (omega (arith, w.1), w.2);
        spelt = rw z (λ _. spelt-word word_true s at w.0);
        bare = rw z refl;
      }

  pub text-false : {c : Cursor} → r ≡ Word.False c → ScanIs (unquoted_at s at) s at (Ok (Piece.Plain 2 c))
  unfolding unquoted_at scalar_text
  text-false {c} e =
      let w : Says s at (Word.False c) = rw e at h.is in
      let z : unquoted_at s at ≡ ok (token false (boolean false)) (at + 5) = rw (w.0, w.1, unquoted_at) in
      record {
        is = rw z (ap (λ p. Ok (Piece.Plain 2 (cur p))) w.2);
        moved = (omega (arith, w.2), w.3);
        spelt = rw z (λ _. spelt-word word_false s at w.1);
        bare = rw z refl;
      }

  pub text-null : {c : Cursor} → r ≡ Word.Null c → ScanIs (unquoted_at s at) s at (Ok (Piece.Plain 1 c))
  unfolding unquoted_at scalar_text
  text-null {c} e =
      let w : Says s at (Word.Null c) = rw e at h.is in
      let z : unquoted_at s at ≡ ok (token false null) (at + 4) = rw (w.0, w.1, w.2, unquoted_at) in
      record {
        is = rw z (ap (λ p. Ok (Piece.Plain 1 (cur p))) w.3);
        moved = (omega (arith, w.3), w.4);
        spelt = rw z (λ _. spelt-word word_null s at w.2);
        bare = rw z refl;
      }

  pub text-other : {c : Cursor} → r ≡ Word.Other → TextAsked s at → EndIs s at (unquoted_end s at) c
      → ScanIs (unquoted_at s at) s at (Ok (Piece.Unquoted c))
  unfolding unquoted_at scalar_text
  text-other {c} e a k =
      let w : Says s at Word.Other = rw e at h.is in
      let z : unquoted_at s at ≡ ok (token false (string (slice at (unquoted_end s at) s))) (unquoted_end s at) = rw (w.0, w.1, w.2, unquoted_at) in
      record {
        is = rw z (ap (λ p. Ok (Piece.Unquoted (cur p))) k.is);
        moved = (omega (arith, k.is, unquoted-forward s at a.begins), k.inside);
        spelt = rw z (λ _. refl);
        bare = rw z refl;
      }

-- ---- numbers

module _ {s : List ℕ} {at : ℕ} {r : Maybe Cursor} (h : NumberIs s at (after_number s at) r) where
  pub number-end : {c : Cursor} → r ≡ Some c → ScanIs (number_at s at) s at (Ok (Piece.Plain 4 c))
  unfolding number_at scalar_text
  number-end {c} e =
      let q : after_number s at ≡ some c.at.0 = sym h.is ∙ rw e in
      let z : number_at s at ≡ ok (token false (number (slice at c.at.0 s))) c.at.0 = rw (q, number_at) in
      record { is = rw z; moved = rw e at h.moved; spelt = rw z (λ _. refl); bare = rw z refl }

  pub number-missing : {d : DocAt} → r ≡ None → d.0 ≡ at → ScanIs (number_at s at) s at (Err (refusal 5 d))
  unfolding number_at
  number-missing {d} e y =
      let q : after_number s at ≡ none = sym h.is ∙ rw e in
      let z : number_at s at ≡ refused (placed 5 at) = rw (q, number_at) in
      record { is = rw z (ap (λ p. Err (refusal 5 (doc p))) y); moved = tt; spelt = rw z tt; bare = rw z tt }

-- ---- strings in quotes

quoted-text : (m : Scan Text) (s : List ℕ) (at : ℕ) (before after : List ℕ) (q : Result Quoted Refusal) → Decoded m s at before after q
    → (v : Quoted) → q ≡ Ok v
    → PieceIs (and_then m (λ t end. ok (token true (string t)) end)) s at before after (Ok (Piece.Quoted v.next v.used))
unfolding scalar_text
quoted-text (ok t end) s at before after q h v e =
    let z : Ok v ≡ Ok (quoted (cur end) (sized (length t))) = sym e ∙ h.is in
    let i : v ≡ quoted (cur end) (sized (length t)) = cc in
    record { is = rw i; moved = rw e at h.far; spelt = λ f. clash (cc); laid = h.bytes; kept = h.kept }
quoted-text (refused x) s at before after q h v e = clash (cc h.is)

quoted-refused : (m : Scan Text) (s : List ℕ) (at : ℕ) (before after : List ℕ) (q : Result Quoted Refusal) → Decoded m s at before after q
    → (y : Refusal) → q ≡ Err y
    → PieceIs (and_then m (λ t end. ok (token true (string t)) end)) s at before after (Err y)
quoted-refused (ok t end) s at before after q h y e = clash (cc h.is)
quoted-refused (refused x) s at before after q h y e =
    let z : Err y ≡ quoted_of (refused x) = sym e ∙ h.is in
    record { is = go z; moved = tt; spelt = tt; laid = tt; kept = h.kept }
  where
    go : Err y ≡ quoted_of (refused x) → Err y ≡ piece_of (refused x)
    go z = cc

module _ {s : List ℕ} {at : ℕ} {before after : List ℕ} {q : Result Quoted Refusal} (h : Decoded (quoted_at s at) s at before after q) where
  pub piece-quoted : {v : Quoted} → q ≡ Ok v → PieceIs (quoted_token s at) s at before after (Ok (Piece.Quoted v.next v.used))
  unfolding quoted_token
  piece-quoted {v} e = quoted-text (quoted_at s at) s at before after q h v e

  pub piece-unquotable : {y : Refusal} → q ≡ Err y → PieceIs (quoted_token s at) s at before after (Err y)
  unfolding quoted_token
  piece-unquotable {y} e = quoted-refused (quoted_at s at) s at before after q h y e

-- ---- the simple piece, by what it begins with

-- what needs no buffer leaves it as it was
unlaid : (m : Scan Token) (before : List ℕ) → Bare m → LaidPiece m before before
unlaid (ok t end) before b = go t.in_quotes b
  where
    go : (q : Bool) → q ≡ false → LaidToken q t.scalar before before
    go true e = clash (cc)
    go false e = refl
unlaid (refused x) before b = tt

bare-piece : (m : Scan Token) (s : List ℕ) (at : ℕ) (before : List ℕ) (r : Result Piece Refusal) → ScanIs m s at r → PieceIs m s at before before r
bare-piece m s at before r k = record { is = k.is; moved = k.moved; spelt = k.spelt; laid = unlaid m before k.bare; kept = refl }

module _ {s : List ℕ} {at : ℕ} {l : Lead} (h : LeadIs s at l) where
  pub simple-quoted : {before after : List ℕ} {r : Result Piece Refusal} → l ≡ Lead.Quote → PieceIs (quoted_token s at) s at before after r
      → PieceIs (simple_at s at) s at before after r
  unfolding simple_at quoted_token
  simple-quoted e k =
      let q : byte_at s at ≡ 34 = rw e at h.is in
      rw (eq-eqb (byte_at s at) 34 q, simple_at) k

  pub simple-number : {before : List ℕ} {r : Result Piece Refusal} → l ≡ Lead.Number → ScanIs (number_at s at) s at r → PieceIs (simple_at s at) s at before before r
  unfolding simple_at
  simple-number {before} e k =
      let q : Leads s at Lead.Number = rw e at h.is in
      let z : simple_at s at ≡ number_at s at = rw (ne_eqb (byte_at s at) 34 q.0, q.1, simple_at) in
      rw z (bare-piece (number_at s at) s at before _ k)

  pub simple-text : {before : List ℕ} {r : Result Piece Refusal} → l ≡ Lead.Text → ScanIs (unquoted_at s at) s at r → PieceIs (simple_at s at) s at before before r
  unfolding simple_at
  simple-text {before} e k =
      let q : Leads s at Lead.Text = rw e at h.is in
      let z : simple_at s at ≡ unquoted_at s at = rw (ne_eqb (byte_at s at) 34 q.0, q.1, simple_at) in
      rw z (bare-piece (unquoted_at s at) s at before _ k)

  -- what the callees ask
  pub asks-quote : l ≡ Lead.Quote → byte_at s at ≡ 34
  asks-quote e = rw e at h.is

  pub asks-text : {out : List ℕ} → l ≡ Lead.Text → PieceAsked s at out → TextAsked s at
  unfolding starts_simple
  asks-text e a =
      let q : Leads s at Lead.Text = rw e at h.is in
      let b : not (stops_unquoted s at) ≡ true = rw (ne_eqb (byte_at s at) 34 q.0, starts_simple) at a.begins in
      record { short = a.short; inside = a.inside; begins = not-true (stops_unquoted s at) b }

pub ruleset leads = (lead-quote, lead-minus, lead-digit, lead-text)

pub ruleset text-pieces = (text-true, text-false, text-null, text-other)

pub ruleset number-pieces = (number-end, number-missing)

pub ruleset quoted-pieces = (piece-quoted, piece-unquotable)

pub ruleset simples = (simple-quoted, simple-number, simple-text)
