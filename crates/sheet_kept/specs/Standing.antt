-- Records and texts that stand in a job's bytes, and that stay there.
use Rattle.std.specs.Prelude.{◌≡◌, ◌⊎◌, ℕ, ◌+◌, ◌-◌, ◌≤◌, ◌<◌, List, ◌++◌, length, drop}
use Rattle.std.proofs.Common.{sym, ap, ◌∙◌, inl, inr, append_assoc, arith, length-append, length-drop, drop-drop}
use Rattle.std.proofs.lemmas.List.Edits.{sets}
use Rattle.std.proofs.Math.Seq.{length-sets, drop-append_seam}
use Rattle.sheet_kept.specs.Sets.{drop-sets, sets-sets, drop-below, sets_behind, set-stands}

-- the records stand at p, the texts u behind the place where texts begin; offsets fit two bytes
pub record Stands (s : List ℕ) (tb : ℕ) (xs tx : List ℕ) (p u : ℕ) : Type 0 where
  pub rest : List ℕ
  pub after : List ℕ
  pub records : drop p s ≡ xs ++ rest
  pub text : drop (tb + u) s ≡ tx ++ after
  pub inside : tb + u + length tx ≤ length s
  pub small : u + length tx < 65536
  pub few : length xs < 65536

-- ---- its first part and its second

module _ (s : List ℕ) (tb : ℕ) where
  pub stands-left : (xs ys tx ty : List ℕ) (p u : ℕ) → Stands s tb (xs ++ ys) (tx ++ ty) p u → Stands s tb xs tx p u
  stands-left xs ys tx ty p u h =
      let a = length-append xs ys in
      let b = length-append tx ty in
      record {
        rest = ys ++ h.rest;
        after = ty ++ h.after;
        records = h.records ∙ append_assoc xs ys h.rest;
        text = h.text ∙ append_assoc tx ty h.after;
        inside = omega (arith, h.inside);
        small = omega (arith, h.small);
        few = omega (arith, h.few);
      }

  pub stands-right : (xs ys tx ty : List ℕ) (p u : ℕ) → Stands s tb (xs ++ ys) (tx ++ ty) p u → Stands s tb ys ty (p + length xs) (u + length tx)
  stands-right xs ys tx ty p u h =
      let a = length-append xs ys in
      let b = length-append tx ty in
      let e : tb + (u + length tx) ≡ tb + u + length tx = omega arith in
      record {
        rest = h.rest;
        after = h.after;
        records = sym (drop-drop (length xs) p s) ∙ ap (drop (length xs)) (h.records ∙ append_assoc xs ys h.rest) ∙ drop-append_seam xs (ys ++ h.rest);
        text =
            ap (λ (i : ℕ). drop i s) e
            ∙ sym (drop-drop (length tx) (tb + u) s) ∙ ap (drop (length tx)) (h.text ∙ append_assoc tx ty h.after) ∙ drop-append_seam tx (ty ++ h.after);
        inside = omega (arith, h.inside);
        small = omega (arith, h.small);
        few = omega (arith, h.few);
      }

  -- something stands there
  pub stands-in : (xs tx : List ℕ) (p u : ℕ) → Stands s tb xs tx p u → 1 ≤ length xs → p < length s
  stands-in xs tx p u h l = omega (arith, ap length h.records, length-drop p s, length-append xs h.rest)

-- ---- what was set stands, and stays

apart : (b xs tx : List ℕ) (p q : ℕ) → (p + length xs ≤ q) ⊎ (q + length tx ≤ p) → sets (sets b p xs) q tx ≡ sets (sets b q tx) p xs
apart b xs tx p q (inl h) = sym (sets-sets b p xs q tx h)
apart b xs tx p q (inr h) = sets-sets b q tx p xs h

-- records and texts that were set apart from each other stand there
pub both-stand : (b xs tx : List ℕ) (p tb t : ℕ) → (p + length xs ≤ tb + t) ⊎ (tb + t + length tx ≤ p) → p + length xs ≤ length b → tb + t + length tx ≤ length b
    → t + length tx < 65536 → length xs < 65536 → Stands (sets (sets b p xs) (tb + t) tx) tb xs tx p t
both-stand b xs tx p tb t d h k s f =
    let q = tb + t in
    let l = length-sets b p xs in
    let m = length-sets b q tx in
    let n = length-sets (sets b p xs) q tx in
    record {
      rest = drop (p + length xs) (sets b q tx);
      after = drop (q + length tx) (sets b p xs);
      records = ap (drop p) (apart b xs tx p q d) ∙ set-stands (sets b q tx) p xs (omega arith);
      text = set-stands (sets b p xs) q tx (omega arith);
      inside = omega arith;
      small = s;
      few = f;
    }

-- zs, set at q, touches none of n bytes at p
abbrev pub Clear : ℕ → List ℕ → ℕ → List ℕ → Type 0
Clear q zs p xs = (q + length zs ≤ p) ⊎ (p + length xs ≤ q)

still : (s : List ℕ) (p : ℕ) (xs rest : List ℕ) (q : ℕ) (zs : List ℕ) → drop p s ≡ xs ++ rest → Clear q zs p xs → (r : List ℕ) × (drop p (sets s q zs) ≡ xs ++ r)
still s p xs rest q zs h (inl c) = (rest, drop-below p s q zs c ∙ h)
still s p xs rest q zs h (inr c) =
    let k = q - p - length xs in
    let e : q ≡ p + (length xs + k) = omega arith in (
      sets rest k zs,
      ap (λ (i : ℕ). drop p (sets s i zs)) e ∙ drop-sets p s (length xs + k) zs ∙ ap (λ (l : List ℕ). sets l (length xs + k) zs) h ∙ sets_behind xs rest k zs,
    )

pub stands-still : {s : List ℕ} {tb : ℕ} {xs tx : List ℕ} {p u : ℕ} → Stands s tb xs tx p u → (q : ℕ) (zs : List ℕ) → Clear q zs p xs → Clear q zs (tb + u) tx
    → Stands (sets s q zs) tb xs tx p u
stands-still {s} {tb} {xs} {tx} {p} {u} h q zs c d =
    let a = still s p xs h.rest q zs h.records c in
    let b = still s (tb + u) tx h.after q zs h.text d in
    record {
      rest = a.0;
      after = b.0;
      records = a.1;
      text = b.1;
      inside = omega (arith, h.inside, length-sets s q zs);
      small = h.small;
      few = h.few;
    }
