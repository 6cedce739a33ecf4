-- The turns of the loop that passes a literal's fields.
use mathlib.Core.Path.{◌≡◌, sym, subst}
use Prim.Native.Nat.{ℕ, ◌+◌, ◌*◌, ◌≤◌, ◌<◌}
use mathlib.Core.List.{List}
use native.Mathlib.Omega.{arith}
use Rattle.rules.specs.Tree.{Fields}
use Rattle.doc_items.specs.Codes.{unresolved_item, as_piece, kind_at, size_at}
use Rattle.doc_items.specs.Parts.{numbers}
use Rattle.doc_items.specs.Writing.{ReadIs}
use Rattle.eval_look_back.specs.Ranges.{FieldsIn}
use Rattle.eval_look_back.specs.Passing.{Passing, Found, pass-start, pass-seam, pass-found, pass-field}
use Rattle.eval_look_back.specs.Clauses.{AroundIs}

-- the fields of a literal before an item are passed
pub record At (T : List ℕ) (literal item at : ℕ) : Type 0 where
  pub past : literal < at
  pub upto : at ≤ item
  pub is : (h : ℕ → ℕ) (lo hi bound end : ℕ) (fs : Fields) → FieldsIn (numbers T) h lo hi bound (literal + 1) end fs
      → item < end → kind_at (numbers T) item ≡ unresolved_item → Passing (numbers T) h lo hi bound (literal + 1) end fs at

pub around-start : {T : List ℕ} {literal item : ℕ} → literal < item → At T literal item (literal + 1)
around-start {T} {literal} {item} o = record {
  past = omega arith;
  upto = omega arith;
  is = λ h lo hi bound end fs s u k. pass-start (numbers T) h lo hi bound (literal + 1) end fs s;
}

module _ {T : List ℕ} {literal item at : ℕ} (A : At T literal item at) where
  pub around-end : item ≤ at → AroundIs T literal item at
  around-end m = record {
    past = A.past;
    upto = A.upto;
    is = λ h lo hi bound end fs s u k.
        let upto : at ≤ item = A.upto in
        let e : item ≡ at = omega arith in
        let k' : kind_at (numbers T) at ≡ unresolved_item = subst (λ (j : ℕ). kind_at (numbers T) j ≡ unresolved_item) e k in
        let f = pass-found (numbers T) h lo hi bound (literal + 1) end fs at (A.is h lo hi bound end fs s u k) (omega arith) (omega arith) in
        record { found = f; low = upto; high = omega (arith, f.here.some) };
  }

  module _ {kind : ℕ} (m : at < item) (r : ReadIs T (8 * at) kind) where
    pub around-seam : as_piece ≤ kind → At T literal item (at + 1)
    around-seam n = record {
      past = omega (arith, A.past);
      upto = omega arith;
      is = λ h lo hi bound end fs s u k.
          let e : kind ≡ kind_at (numbers T) at = r.is in
          pass-seam (numbers T) h lo hi bound (literal + 1) end fs at (A.is h lo hi bound end fs s u k) (omega arith) (omega arith);
    }

    module _ {size : ℕ} (small : kind < as_piece) (q : ReadIs T (8 * at + 1) size) where
      here : (h : ℕ → ℕ) (lo hi bound end : ℕ) (fs : Fields) → FieldsIn (numbers T) h lo hi bound (literal + 1) end fs → item < end
          → kind_at (numbers T) item ≡ unresolved_item → Found (numbers T) h lo hi bound (literal + 1) end fs at
      here h lo hi bound end fs s u k =
          let e : kind ≡ kind_at (numbers T) at = r.is in
          pass-found (numbers T) h lo hi bound (literal + 1) end fs at (A.is h lo hi bound end fs s u k) (omega arith) (omega arith)

      pub around-found : item < at + size → AroundIs T literal item at
      around-found v = record {
        past = A.past;
        upto = A.upto;
        is = λ h lo hi bound end fs s u k.
            let e : size ≡ size_at (numbers T) at = q.is in
            record { found = here h lo hi bound end fs s u k; low = omega arith; high = omega arith };
      }

      pub around-empty : at + size ≤ at → AroundIs T literal item at
      around-empty v = record {
        past = A.past;
        upto = A.upto;
        is = λ h lo hi bound end fs s u k.
            let f = here h lo hi bound end fs s u k in
            let e : size ≡ size_at (numbers T) at = q.is in
            absurd (omega (arith, f.here.some));
      }

      pub around-next : at + size ≤ item → At T literal item (at + size)
      around-next v = record {
        past = omega (arith, A.past);
        upto = v;
        is = λ h lo hi bound end fs s u k.
            let e : size ≡ size_at (numbers T) at = q.is in
            let p = pass-field (numbers T) h lo hi bound (literal + 1) end fs at (here h lo hi bound end fs s u k) in
            subst (λ (c : ℕ). Passing (numbers T) h lo hi bound (literal + 1) end fs (at + c)) (sym e) p;
      }

pub ruleset arounds = (around-start, around-end, around-seam, around-found, around-empty, around-next)
