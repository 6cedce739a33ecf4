-- Reading a path goes forward and never runs out of fuel; a path that is judged good has an element, and no more than are allowed.
use Rattle.std.specs.Prelude.{◌≡◌, refl, Bool, ◌&&◌, List, [], ◌∷◌, leb, ltb, length}
use Prim.Native.Nat.{ℕ, zero, suc, ◌+◌, ◌-◌, ◌≤◌, ◌<◌}
use Rattle.std.proofs.Math.Bool.{true, false}
use Rattle.std.proofs.Math.Option.{Option, none, some}
use Rattle.std.proofs.Common.{arith}
use Rattle.std.proofs.Math.Dec.{eqb}
use Rattle.std.proofs.Math.ListN.{get_elem?}
use Rattle.rules.specs.Sizes.{max_path}
use Rattle.rules.specs.Bytes.{byte_at}
use Rattle.rules.specs.Refusals.{Refusal, not_allowed, refused}
use Rattle.rules.specs.Characters.{after_inline}
use Rattle.rules.specs.Pieces.{starts_simple}
use Rattle.rules.specs.Paths.{segments_from, segments_at, Element, elements_of, any_empty, judge, judged, braced, substitution_at, path_text}
use Rattle.theory_text.specs.Choices.{by-test, by-option, get_elem-none}
use Rattle.theory_text.specs.Places.{inline-reached}
use Rattle.theory.specs.Scanning.{Numbered, Scans, scan-refuses, scan-refused, From, to, then-scans, scans-from, simple-inside, simple-scans}

-- ---- what is judged

-- a verdict: Q, or a refusal of reading
pub data Verdict (Q : Type 0) : Option Refusal → Type 0 where
  passes : Q → Verdict Q none
  refuses : {x : Refusal} → Numbered x → Verdict Q (some x)

pub judged-scans : {Q A : Type 0} {o : Option Refusal} (a : A) {at end : ℕ} → Verdict Q o → at ≤ end → Scans (From at) (judged o a end)
judged-scans a (passes h) k = to k
judged-scans a (refuses h) k = scan-refuses h

abbrev pub Fitting : ℕ → List Element → Type 0
Fitting allowed es = (0 < length es) × (length es ≤ allowed)

pub judge-verdict : (seven allowed : ℕ) (es : List Element) → Verdict (Fitting allowed es) (judge seven allowed es)
unfolding judge
judge-verdict seven allowed [] = refuses refl
judge-verdict seven allowed (e ∷ es) =
    by-test (Verdict (Fitting allowed (e ∷ es))) (any_empty (e ∷ es)) (λ f. refuses refl) (λ f.
    by-option (Verdict (Fitting allowed (e ∷ es))) (get_elem? (e ∷ es) allowed)
    (λ g. passes (omega arith, get_elem-none (e ∷ es) allowed g)) (λ x g. refuses refl))

-- ---- paths

module _ (s : List ℕ) where
  pub disallowed : (at : ℕ) → Numbered (not_allowed s at)
  unfolding not_allowed
  disallowed at = by-test Numbered (leb (length s) at) (λ e. refl) (λ e. refl)

  module _ (key : Bool) where
    -- the fuel is enough: a piece begins inside the text
    segments-scan : (n from at : ℕ) → length s - at < n → Scans (From at) (segments_from n key s from at)
    unfolding segments_from
    segments-scan zero from at h = absurd (omega arith)
    segments-scan (suc n) from at h =
        by-test (Scans (From at)) (key && eqb (byte_at s at) 36) (λ e. scan-refuses refl) (λ e.
        by-test (Scans (From at)) (starts_simple s at)
        (λ f. let i = simple-inside s at f in
        then-scans (simple-scans s at f) (λ t end k.
        let l = (inline-reached s end).0 in
        then-scans (segments-scan n end (after_inline s end) (omega arith)) (λ rest after m. to (omega arith))))
        (λ f. to (omega arith)))

    pub segments-scans : (at : ℕ) → Scans (From at) (segments_at key s at)
    unfolding segments_at
    segments-scans at = segments-scan (suc (length s)) at at (omega arith)

  braced-scans : (dollar : ℕ) (optional : Bool) (at : ℕ) → Scans (From at) (braced s dollar optional at)
  unfolding braced
  braced-scans dollar optional at =
      then-scans (segments-scans false at) (λ gs end h.
      by-test (Scans (From at)) (eqb (byte_at s end) 125)
      (λ e. judged-scans _ (judge-verdict dollar max_path (elements_of gs)) (omega arith)) (λ e. scan-refuses (disallowed end)))

  pub substitution-scans : (at : ℕ) → Scans (From (suc at)) (substitution_at s at)
  unfolding substitution_at
  substitution-scans at =
      by-test (Scans (From (suc at))) (eqb (byte_at s (at + 2)) 63)
      (λ e. let i = (inline-reached s (at + 3)).0 in scans-from (omega arith) (braced-scans at true (after_inline s (at + 3))))
      (λ e. let i = (inline-reached s (at + 2)).0 in scans-from (omega arith) (braced-scans at false (after_inline s (at + 2))))

  pub path-scans : Scans (From 0) (path_text s)
  unfolding path_text
  path-scans =
      then-scans (segments-scans false (after_inline s 0)) (λ gs end h.
      by-test (Scans (From 0)) (ltb end (length s)) (λ e. scan-refuses refl) (λ e.
      judged-scans _ (judge-verdict 0 max_path (elements_of gs)) (omega arith)))

pub path-numbers : (s : List ℕ) (x : Refusal) → path_text s ≡ refused x → Numbered x
path-numbers s x e = scan-refused (rw e at (path-scans s))
