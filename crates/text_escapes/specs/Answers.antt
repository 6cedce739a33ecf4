-- A decoded text's contract from both sides: what an answer tells a caller, and what makes an answer.
use Rattle.std.specs.Prelude.{◌≡◌, refl, ℕ, ◌≤◌, List, length, Result, Ok, Err}
use Rattle.std.proofs.Common.{sym, ap, ◌∙◌, arith}
use Rattle.text_chars.specs.Clash.{clash}
use Rattle.rules.specs.Bytes.{Text}
use Rattle.rules.specs.Refusals.{Refusal, number_of, place_of, Scan, ok, refused}
use Rattle.text_chars.specs.Cursor.{doc, cur, refusal}
use Rattle.text_chars.specs.declared.DocAt.{DocAt}
use Rattle.text_chars.specs.declared.Cursor.{Cursor}
use Rattle.text_chars.specs.declared.Refusal.{Refusal as Refusing}
use Rattle.text_bytes.specs.Clauses.{Laid}
use Rattle.text_escapes.specs.Clauses.{sized, quoted, quoted_of, TextLaid, TextFar, Decoded}
use Rattle.text_chars.specs.declared.TextLen.{TextLen}
use Rattle.text_escapes.specs.declared.Quoted.{Quoted}

-- ---- what an answer tells

pub record TextIs (m : Scan Text) (c : Cursor) (used : TextLen) (before after : List ℕ) : Type 0 where
  pub text : Text
  pub is : m ≡ ok text c.at.0
  pub size : used.0 ≡ length text
  pub laid : Laid text before after

pub record RefusedIs (m : Scan Text) (number : ℕ) (place : DocAt) : Type 0 where
  pub why : Refusal
  pub is : m ≡ refused why
  pub numbered : number ≡ number_of why
  pub placed : place.0 ≡ place_of why

told_text : (m : Scan Text) {b a : List ℕ} {q : Quoted} → TextLaid m b a → Ok q ≡ quoted_of m → TextIs m q.next q.used b a
told_text (ok text end) {b} {a} {q} l e =
    let i : q ≡ quoted (cur end) (sized (length text)) = cc in
    record { text = text; is = ap (λ (x : Quoted). ok text x.next.at.0) (sym i); size = ap (λ (x : Quoted). x.used.0) i; laid = l }
told_text (refused x) l e = clash (cc)

told-refused : (m : Scan Text) {y : Refusing} → Err y ≡ quoted_of m → RefusedIs m y.number y.place
told-refused (ok text end) e = clash (cc)
told-refused (refused x) {y} e =
    let i : y ≡ refusal (number_of x) (doc (place_of x)) = cc in
    record { why = x; is = refl; numbered = ap (λ (z : Refusing). z.number) i; placed = ap (λ (z : Refusing). z.place.0) i }

module _ {m : Scan Text} {s : List ℕ} {at : ℕ} {b a : List ℕ} {r : Result Quoted Refusing} (h : Decoded m s at b a r) where
  pub text-is : {q : Quoted} → r ≡ Ok q → TextIs m q.next q.used b a
  text-is e = told_text m h.bytes (sym e ∙ h.is)

  pub refused-is : {y : Refusing} → r ≡ Err y → RefusedIs m y.number y.place
  refused-is e = told-refused m (sym e ∙ h.is)

-- ---- what makes an answer

module _ {m : Scan Text} {s : List ℕ} {at : ℕ} {b a : List ℕ} (kept : length a ≡ length b) where
  pub decoded-text : {text : Text} {q : Quoted} → m ≡ ok text q.next.at.0 → q.used.0 ≡ length text → Laid text b a
      → TextFar (length s) at (Ok q) → Decoded m s at b a (Ok q)
  decoded-text {text} {q} e size l f = record {
    is = ap (λ (n : ℕ). Ok (quoted q.next (sized n))) size ∙ ap quoted_of (sym e);
    bytes = rw e l;
    kept = kept;
    far = f;
  }

  pub decoded-refusal : {x : Refusal} {y : Refusing} → m ≡ refused x → y.number ≡ number_of x → y.place.0 ≡ place_of x → Decoded m s at b a (Err y)
  decoded-refusal {x} {y} e i j = record {
    is = ap (λ (n : ℕ). Err (refusal n y.place)) i ∙ ap (λ (n : ℕ). Err (refusal (number_of x) (doc n))) j ∙ ap quoted_of (sym e);
    bytes = rw e tt;
    kept = kept;
    far = tt;
  }

sooner : (len at p : ℕ) (r : Result Quoted Refusing) → at ≤ p → TextFar len p r → TextFar len at r
sooner len at p (Ok q) h f = (omega arith, f.1, omega arith)
sooner len at p (Err x) h f = tt

-- the same from a place before
pub decoded-before : {m n : Scan Text} {s : List ℕ} {at p : ℕ} {b a : List ℕ} {r : Result Quoted Refusing} → n ≡ m → at ≤ p → Decoded m s p b a r
    → Decoded n s at b a r
decoded-before {m} {n} {s} {at} {p} {b} {a} {r} e h d = record {
  is = d.is ∙ ap quoted_of (sym e);
  bytes = rw e d.bytes;
  kept = d.kept;
  far = sooner (length s) at p r h d.far;
}
