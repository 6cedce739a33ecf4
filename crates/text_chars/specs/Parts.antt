-- A buffer of which the part from an offset on is lent and comes back.
use Rattle.std.specs.Prelude.{◌≡◌, refl, ℕ, zero, suc, ◌+◌, ◌-◌, ◌≤◌, ◌<◌, List, [], ◌∷◌, ◌++◌, length, get_or, take, drop}
use Rattle.std.proofs.Common.{sym, ap, ◌∙◌, append-nil, arith, le_refl, length-drop, length-append, drop_of_length-le, take_all, length-take-le, get_or-take, get_or-append-add}
use Rattle.std.proofs.Math.Seq.{slice, take-nil}
use borrow.Rule.Slice.PartMut.{put_mid}

-- the part `&mut x[u..]` that is lent, and x after the part has come back as y
abbrev pub part : ℕ → List ℕ → List ℕ
part u x = take (length x - u) (drop u x)

abbrev pub back : ℕ → List ℕ → List ℕ → List ℕ
back u x y = put_mid u (length x - u) x y

pub part-is : (u : ℕ) (x : List ℕ) → part u x ≡ drop u x
part-is u x = take_all (length x - u) (drop u x) (rw (length-drop u x) (le_refl (length x - u)))

pub part_length : (u : ℕ) (x : List ℕ) → length (part u x) ≡ length x - u
part_length u x = ap length (part-is u x) ∙ length-drop u x

pub back_is : (u : ℕ) (x y : List ℕ) → back u x y ≡ take u x ++ y
back_is u x y =
    ap (λ (l : List ℕ). take u x ++ (y ++ l)) (drop_of_length-le (drop u x) {i = length x - u} (rw (length-drop u x) (le_refl (length x - u))))
    ∙ ap (λ (l : List ℕ). take u x ++ l) (append-nil y)

pub back-length : (u : ℕ) (x y : List ℕ) → u ≤ length x → length y ≡ length (part u x) → length (back u x y) ≡ length x
back-length u x y h e =
    ap length (back_is u x y) ∙ length-append (take u x) y ∙ ap (λ (n : ℕ). n + length y) (length-take-le u x h)
    ∙ ap (λ (n : ℕ). u + n) (e ∙ part_length u x) ∙ whole
  where
    whole : u + (length x - u) ≡ length x
    whole = omega arith

below-append : (p y : List ℕ) (k : ℕ) → k < length p → get_or (p ++ y) k 0 ≡ get_or p k 0
below-append [] y k h = absurd (omega arith)
below-append (a ∷ p) y zero h = refl
below-append (a ∷ p) y (suc k) h = below-append p y k (omega arith)

-- a number before the part stays, and one in it is the part's
pub back_below : (u : ℕ) (x y : List ℕ) (k : ℕ) → u ≤ length x → k < u → get_or (back u x y) k 0 ≡ get_or x k 0
back_below u x y k h l =
    ap (λ (z : List ℕ). get_or z k 0) (back_is u x y) ∙ below-append (take u x) y k (omega (arith, length-take-le u x h)) ∙ get_or-take u x k 0 l

pub back_above : (u : ℕ) (x y : List ℕ) (k : ℕ) → u ≤ length x → get_or (back u x y) (u + k) 0 ≡ get_or y k 0
back_above u x y k h =
    ap (λ (z : List ℕ). get_or z (u + k) 0) (back_is u x y)
    ∙ ap (λ (n : ℕ). get_or (take u x ++ y) (n + k) 0) (sym (length-take-le u x h))
    ∙ get_or-append-add (take u x) y k 0

-- a part with an end, `&x[f..e]`, is a slice
pub part_slice : (l : List ℕ) (f e : ℕ) → f ≤ e → take (e - f) (drop f l) ≡ slice f e l
part_slice l zero e h = let z : e - 0 ≡ e = omega arith in rw z
part_slice [] (suc f) e h = rw (take-nil {A = ℕ} (e - suc f), take-nil {A = ℕ} e)
part_slice (x ∷ l) (suc f) zero h = absurd (omega arith)
part_slice (x ∷ l) (suc f) (suc e) h = let z : suc e - suc f ≡ e - f = omega arith in rw z (part_slice l f e (omega arith))
