-- One law for each answer of the function that looks for a name.
use mathlib.Core.Path.{◌≡◌, refl, sym, ◌∙◌, ap}
use mathlib.Core.Bool.{Bool, true, false}
use mathlib.Core.List.{List, [], ◌∷◌}
use mathlib.Core.Option.{Option, none, some}
use Prim.Native.Nat.{ℕ, ◌+◌, ◌-◌, ◌≤◌, ◌<◌}
use native.Mathlib.Omega.{arith}
use Rattle.std.specs.Prelude.{Some, None}
use lib.ListN.{length, take, drop, length-drop, drop_of_length-le}
use lib.Seq.{slice, length-take-le}
use Rattle.rules.specs.Sizes.{max_environment}
use Rattle.rules.specs.Bytes.{same}
use Rattle.rules.specs.Environment.{Variable, with_variable, name_from, entries_of, text_of}
use Rattle.text_chars.specs.Parts.{part_slice}
use Rattle.text_environment.specs.Clauses.{env, EntryAt, EntryIs}
use Rattle.text_environment.specs.Answers.{accepted-is}
use Rattle.std.specs.Prelude.{Option as Maybe}
use Rattle.text_environment.specs.declared.Parts.{Parts}
use Rattle.text_chars.specs.Clash.{clash}
use Rattle.text_chars.specs.declared.EnvAt.{EnvAt}
use Rattle.text_chars.specs.declared.EnvLen.{EnvLen}
use Rattle.eval_environment.specs.Clauses.{FindIs}
use Rattle.eval_environment.specs.declared.Part.{Part}

abbrev bytes_of : ℕ → EnvLen
bytes_of n = record { 0 = n }

abbrev part_of : EnvAt → EnvLen → Part
part_of start size = record { start = start; size = size }

-- an entry and others behind it
with-inv : (e : Variable) (o : Option (List Variable)) (es : List Variable) → with_variable e o ≡ some es
    → (rest : List Variable) × (o ≡ some rest) × (es ≡ e ∷ rest)
with-inv e none es q = clash (cc)
with-inv e (some rest) es q = (rest, refl, cc)

-- No entry before a place has the name.
pub record Looking (s n : List ℕ) (at : ℕ) : Type 0 where
  pub is : (es : List Variable) → entries_of s ≡ some es → (rest : List Variable) × (name_from [] (drop at s) ≡ some rest) × (text_of es n ≡ text_of rest n)
  pub to : at ≤ length s

pub look-start : {s n : List ℕ} → Looking s n 0
look-start {s} = record { is = λ es e. (es, (accepted-is s es e).1, refl); to = omega arith }

module _ {s n : List ℕ} {at : ℕ} (L : Looking s n at) where
  pub look-end : length s ≤ at → FindIs s n None
  unfolding name_from text_of
  look-end h = record {
    is = λ es e.
        let (rest, q, t) = L.is es e in
        let d : name_from [] (drop at s) ≡ some [] = rw (drop_of_length-le s h) in
        let z : rest ≡ [] = cc in
        sym (t ∙ ap (λ (x : List Variable). text_of x n) z);
    inside = tt;
  }

  module _ {r : Maybe Parts} (h : EntryIs s at r) where
    pub look-broken : r ≡ None → FindIs s n None
    look-broken b = record {
      is = λ es e.
          let i : EntryAt s at None = rw b at h.is in
          let (rest, q, t) = L.is es e in
          clash (cc);
      inside = tt;
    }

    module _ {p : Parts} (w : r ≡ Some p) where
      i : EntryAt s at (Some p)
      i = rw w at h.is

      -- the first of the entries left, and those behind it
      first : (es : List Variable) → entries_of s ≡ some es
          → (rest : List Variable) × (name_from [] (drop (p.zero.0 + 1) s) ≡ some rest)
          × (text_of es n ≡ elim (same (slice at p.equals.0 s) n) [ true ↦ some (slice (p.equals.0 + 1) p.zero.0 s) | false ↦ text_of rest n ])
      unfolding text_of
      first es e =
          let (here, b, t) = L.is es e in
          let (rest, c, d) = with-inv _ _ here (sym i.3 ∙ b) in
          (rest, c, t ∙ ap (λ (x : List Variable). text_of x n) d)

      -- the name is lent as a part of the environment
      name-is : {f : Bool} → f ≡ same (take (p.equals.0 - at) (drop at s)) n → f ≡ same (slice at p.equals.0 s) n
      name-is k = k ∙ ap (λ (t : List ℕ). same t n) (part_slice s at p.equals.0 (omega (arith, i.0)))

      pub name-low : at ≤ p.equals.0
      name-low = omega (arith, i.0)

      pub name-inside : p.equals.0 ≤ length s
      name-inside = omega (arith, i.1, i.2)

      name-size : length (take (p.equals.0 - at) (drop at s)) ≡ p.equals.0 - at
      name-size = length-take-le (p.equals.0 - at) (drop at s) (omega (arith, i.1, i.2, length-drop at s))

      -- and is not empty
      pub name-some : 0 < length (take (p.equals.0 - at) (drop at s))
      name-some = omega (arith, name-size, i.0)

      pub name-short : length s ≤ max_environment → length (take (p.equals.0 - at) (drop at s)) ≤ max_environment
      name-short l = omega (arith, name-size, i.1, i.2)

      pub look-found : {f : Bool} → f ≡ same (take (p.equals.0 - at) (drop at s)) n → f ≡ true
          → FindIs s n (Some (part_of (env (p.equals.0 + 1)) (bytes_of (p.zero.0 - p.equals.0 - 1))))
      look-found k g =
          let l : p.equals.0 + 1 + (p.zero.0 - p.equals.0 - 1) ≡ p.zero.0 = omega (arith, i.1) in
          record {
            is = λ es e. let (rest, c, t) = first es e in rw l (sym (t ∙ rw (sym (name-is k) ∙ g)));
            inside = omega (arith, i.2);
          }

      pub look-next : {f : Bool} → f ≡ same (take (p.equals.0 - at) (drop at s)) n → f ≡ false → Looking s n (p.zero.0 + 1)
      look-next k g = record {
        is = λ es e. let (rest, c, t) = first es e in (rest, c, t ∙ rw (sym (name-is k) ∙ g));
        to = omega (arith, i.2);
      }

pub ruleset looks = (arith, look-start, look-end, look-broken, name-low, name-inside, name-some, name-short, look-found, look-next)
