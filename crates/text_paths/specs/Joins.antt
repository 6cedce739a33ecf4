-- A path that was read: its segments, and what the buffers hold of them.
use Rattle.std.specs.Prelude.{◌≡◌, refl, Bool, List, ℕ, ◌+◌, ◌≤◌, length, Result, Ok, Err}
use Rattle.std.proofs.Common.{sym, ◌∙◌, ap, arith}
use Rattle.answers.specs.Theory.Sound.{clash}
use Rattle.rules.specs.Refusals.{Refusal as Refusing, number_of, place_of, Scan, ok, refused}
use Rattle.rules.specs.Paths.{Segment, segments_at, elements_of, any_empty, sizes}
use Rattle.theory.specs.Lengths.{segments-short, elements-short}
use Rattle.text_chars.specs.Cursor.{doc, cur, refusal}
use Rattle.text_chars.specs.declared.Refusal.{Refusal}
use Rattle.text_chars.specs.declared.Cursor.{Cursor}
use Rattle.text_elements.specs.Marks.Holding.{Held}
use Rattle.text_paths.specs.Whole.{elements_to, joined_of, HeldIn, Ends, ElementsIs}
use Rattle.text_paths.specs.declared.Joined.{Joined}

pub record Joins (key : Bool) (s : List ℕ) (at : ℕ) (out marks : List ℕ) (n : ℕ) (e : Bool) (c : Cursor) : Type 0 where
  pub gs : List Segment
  pub is : segments_at key s at ≡ ok gs c.at.0
  pub held : Held 0 0 (elements_of gs) out marks
  pub count : n ≡ length (elements_of gs)
  pub empty : e ≡ any_empty (elements_of gs)
  pub short : sizes (elements_of gs) + length (elements_of gs) + at ≤ c.at.0 + 1
  pub forward : at ≤ c.at.0
  pub inside : c.at.0 ≤ length s

module _ {key : Bool} {s : List ℕ} {at : ℕ} {out marks out' marks' : List ℕ} {j : Result Joined Refusal} (k : ElementsIs key s at out marks out' marks' j) where
  pub joins : {v : Joined} → j ≡ Ok v → Joins key s at out' marks' v.count v.empty v.next
  joins {v} i = go (segments_at key s at) refl k.held (sym i ∙ k.is) (rw i at k.ends)
    where
      go : (m : Scan (List Segment)) → segments_at key s at ≡ m → HeldIn m out' marks' → Ok v ≡ joined_of m
          → Ends (length s) at (Ok v) → Joins key s at out' marks' v.count v.empty v.next
      go (refused x) q h z l = clash (cc)
      go (ok gs end) q h z l =
          let d : v ≡ elements_to (length (elements_of gs)) (any_empty (elements_of gs)) (cur end) = cc in
          let dx : end ≡ v.next.at.0 = ap (λ (y : Joined). y.next.at.0) (sym d) in
          record {
            gs = gs;
            is = q ∙ ap (λ p. ok gs p) dx;
            held = h;
            count = ap (λ (y : Joined). y.count) d;
            empty = ap (λ (y : Joined). y.empty) d;
            short = omega (arith, elements-short gs, segments-short s key at gs end q);
            forward = l.0;
            inside = l.1;
          }

  pub unjoined : (y : Refusal) → j ≡ Err y
      → (x : Refusing) × (segments_at key s at ≡ refused x) × (y.number ≡ number_of x) × (y.place.0 ≡ place_of x)
  unjoined y i = go (segments_at key s at) refl (sym i ∙ k.is)
    where
      go : (m : Scan (List Segment)) → segments_at key s at ≡ m → Err y ≡ joined_of m
          → (x : Refusing) × (segments_at key s at ≡ refused x) × (y.number ≡ number_of x) × (y.place.0 ≡ place_of x)
      go (ok gs end) q z = clash (cc)
      go (refused x) q z =
          let b : y ≡ refusal (number_of x) (doc (place_of x)) = cc in
          (x, q, ap (λ (w : Refusal). w.number) b, ap (λ (w : Refusal). w.place.0) b)
