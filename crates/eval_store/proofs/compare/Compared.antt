-- Laws of comparing.
use mathlib.Core.Path.{◌≡◌, sym, ap, ◌∙◌}
use mathlib.Core.Logic.{◌↔◌}
use Prim.Native.Nat.{ℕ, zero, suc, ◌+◌, ◌-◌, ◌/◌, ◌%◌, ◌≤◌, ◌<◌}
use mathlib.Core.Bool.{Bool, true, false, cond}
use mathlib.Core.List.{List, [], ◌∷◌, ◌++◌}
use native.Mathlib.Omega.{arith}
use lib.ListN.{length, get_or, take, drop, length-drop}
use lib.Seq.{drop-cons, length-take-le, take-nil, take_at, drop_at}
use lib.Dec.{eqb}
use borrow.Author.Tests.{eq-eqb, ne_eqb}
use Rattle.answers.specs.Theory.Sound.{clash}
use Rattle.rules.specs.Bytes.{Text}
use Rattle.rules.specs.Sizes.{max_records}
use Rattle.rules.specs.Sheet.{two, entry_record}
use Rattle.text_chars.specs.Parts.{part, part-is}
use Rattle.sheet_kept.specs.Kept.{Held, layout}
use Rattle.sheet_layout.specs.Model.{eq_at}
use Rattle.sheet_layout.specs.Clauses.{Holds, EqIs, SameRecordsIs}
use Rattle.sheet_layout.specs.Compared.{eq_at-stands}
use Rattle.eval_writer.specs.Clauses.{InRoom}
use Rattle.eval_writer.specs.declared.Out.{Out}
use Rattle.eval_store.specs.Values.Contracts.{LayAsked}
use Rattle.eval_store.specs.Compare.Contracts.{TextsAt, SameValueIs, StartIs, EntryAsked, SameEntryIs, SameUndefinedIs}

-- ---- bytes

-- those so far are the same, so the rest decides
pub record Comparing (s : List ℕ) (to : ℕ) (from : List ℕ) (at n i : ℕ) : Type 0 where
  pub is : eq_at s to (take n (drop at from)) ≡ eq_at s (to + i) (take (n - i) (drop (at + i) from))
  pub low : i ≤ n

module _ {s : List ℕ} {to : ℕ} {from : List ℕ} {at n : ℕ} where
  pub comparing-start : Comparing s to from at n 0
  comparing-start =
      let e : to ≡ to + 0 = omega arith in
      let f : at ≡ at + 0 = omega arith in
      let g : n ≡ n - 0 = omega arith in
      record {
        is =
            ap (λ (j : ℕ). eq_at s j (take n (drop at from))) e ∙ ap (λ (j : ℕ). eq_at s (to + 0) (take n (drop j from))) f
            ∙ ap (λ (j : ℕ). eq_at s (to + 0) (take j (drop (at + 0) from))) g;
        low = omega arith;
      }

  module _ {i : ℕ} (I : Comparing s to from at n i) where
    next : at + n ≤ length from → i < n
        → eq_at s to (take n (drop at from)) ≡ cond (eqb (get_or s (to + i) 0) (get_or from (at + i) 0)) (eq_at s (to + (i + 1)) (take (n - (i + 1)) (drop (at + (i + 1)) from))) false
    unfolding eq_at
    next l h =
        let d : drop (at + i) from ≡ get_or from (at + i) 0 ∷ drop (suc (at + i)) from = drop-cons from (at + i) 0 (omega arith) in
        let e : n - i ≡ suc (n - (i + 1)) = omega arith in
        let f : suc (to + i) ≡ to + (i + 1) = omega arith in
        let g : suc (at + i) ≡ at + (i + 1) = omega arith in
        I.is ∙ ap (λ (m : ℕ). eq_at s (to + i) (take m (drop (at + i) from))) e
        ∙ ap (λ (q : List ℕ). eq_at s (to + i) (take (suc (n - (i + 1))) q)) d
        ∙ ap (λ (m : ℕ). cond (eqb (get_or s (to + i) 0) (get_or from (at + i) 0)) (eq_at s m (take (n - (i + 1)) (drop (suc (at + i)) from))) false) f
        ∙ ap (λ (m : ℕ). cond (eqb (get_or s (to + i) 0) (get_or from (at + i) 0)) (eq_at s (to + (i + 1)) (take (n - (i + 1)) (drop m from))) false) g

    pub comparing-step : at + n ≤ length from → i < n → get_or s (to + i) 0 ≡ get_or from (at + i) 0 → Comparing s to from at n (i + 1)
    comparing-step l h e =
        record { is = rw (eq-eqb (get_or s (to + i) 0) (get_or from (at + i) 0) e) at (next l h); low = omega arith }

    pub comparing-differs : at + n ≤ length from → i < n → (get_or s (to + i) 0 ≡ get_or from (at + i) 0 → ⊥) → EqIs to (take n (drop at from)) s false
    comparing-differs l h e = record { is = sym (rw (ne_eqb (get_or s (to + i) 0) (get_or from (at + i) 0) e) at (next l h)) }

    pub comparing-end : n ≤ i → EqIs to (take n (drop at from)) s true
    unfolding eq_at
    comparing-end h =
        let e : n - i ≡ 0 = omega arith in
        record { is = sym (I.is ∙ ap (λ (m : ℕ). eq_at s (to + i) (take m (drop (at + i) from))) e) }

pub ruleset bytes_laws = (comparing-start, comparing-step, comparing-differs, comparing-end)

-- ---- values

module _ {room : List ℕ} {o : Out} {t : ℕ} {p text : List ℕ} (A : LayAsked room o t p text) where
  holds : (key : ℕ → Text) (v : Held) → InRoom key v room o → Holds key v room o.rec.0
  holds key v i = record { from = 0; stands = i.records; few = i.few; short = omega (arith, A.full.rec) }

  -- the texts compared are the value's
  texts-same : (key : ℕ → Text) (v : Held) → InRoom key v room o → {r : Bool} → EqIs t (take o.text.0 (drop max_records room)) text r
      → (r ≡ true) ↔ TextsAt key v o t text
  texts-same key v i {r} e =
      let X = take o.text.0 (drop max_records room) in
      let f = A.full in
      let w = f.whole in
      let m = f.text in
      let l : length X ≡ o.text.0 = length-take-le o.text.0 (drop max_records room) (omega (arith, length-drop max_records room)) in
      let z = eq_at-stands text t X (omega (arith, A.texts)) in (
        λ q. ap (λ (k : ℕ). take k (drop t text)) (sym l) ∙ z.0 (sym e.is ∙ q) ∙ i.texts,
        λ q. e.is ∙ z.1 (ap (λ (k : ℕ). take k (drop t text)) l ∙ q ∙ sym i.texts),
      )

  module _ {u : Bool} (h : SameRecordsIs room o.rec.0 t p u) where
    pub value_same : u ≡ true → {r : Bool} → EqIs t (take o.text.0 (drop max_records room)) text r → SameValueIs room o t p text r
    value_same e {r} k =
        record {
          same = λ key v i. (
            λ q. ((h.same key v (holds key v i)).0 e, (texts-same key v i k).0 q),
            λ q. (texts-same key v i k).1 q.1,
          );
        }

    pub value-differs : u ≡ false → SameValueIs room o t p text false
    value-differs e = record { same = λ key v i. (λ q. clash (cc), λ q. sym e ∙ (h.same key v (holds key v i)).1 q.0) }

pub ruleset value-laws = (value_same, value-differs)

-- ---- entries

pub start_is : {k n c d : ℕ} {rest : List ℕ} {r : Bool} → 3 ≤ length rest → c ≡ n / 256 % 256 → d ≡ n % 256 → EqIs 0 (k ∷ c ∷ d ∷ []) rest r
    → StartIs k n rest r
unfolding two
start_is {k} {n} {c} {d} {rest} {r} l e f h =
    let z = eq_at-stands rest 0 (k ∷ c ∷ d ∷ []) l in
    let g : k ∷ c ∷ d ∷ [] ≡ k ∷ n / 256 % 256 ∷ n % 256 ∷ [] = ap (λ (x : ℕ). k ∷ x ∷ d ∷ []) e ∙ ap (λ (x : ℕ). k ∷ n / 256 % 256 ∷ x ∷ []) f in
    record { same = (λ q. z.0 (sym h.is ∙ q) ∙ g, λ q. h.is ∙ z.1 (q ∙ sym g)) }

take_split : (a b : ℕ) (l : List ℕ) → take (a + b) l ≡ take a l ++ take b (drop a l)
take_split zero b l = let e : 0 + b ≡ b = omega arith in ap (λ (i : ℕ). take i l) e
take_split (suc a) b [] = take-nil {A = ℕ} (suc a + b) ∙ sym (take-nil {A = ℕ} b)
take_split (suc a) b (x ∷ l) = let e : suc a + b ≡ suc (a + b) = omega arith in ap (λ (i : ℕ). take i (x ∷ l)) e ∙ ap (λ (q : List ℕ). x ∷ q) (take_split a b l)

module _ {room : List ℕ} {o : Out} {n t : ℕ} {rest text : List ℕ} (A : EntryAsked room o t rest text) {u : Bool} (h : StartIs 9 n rest u) where
  -- the entry is its three bytes and the answer behind them
  split : take (3 + o.rec.0) rest ≡ take 3 rest ++ take o.rec.0 (part 3 rest)
  split = take_split 3 o.rec.0 rest ∙ ap (λ (q : List ℕ). take 3 rest ++ take o.rec.0 q) (sym (part-is 3 rest))

  three : length (take 3 rest) ≡ 3
  three = length-take-le 3 rest (omega (arith, A.records))

  pub entry-same : u ≡ true → {r : Bool} → SameValueIs room o t (part 3 rest) text r → SameEntryIs room o n t rest text r
  unfolding entry_record layout two
  entry-same e {r} s =
      let X = take o.rec.0 (part 3 rest) in
      record {
        same = λ key v i. (
          λ q.
              let z = (s.same key v i).0 q in
              (split ∙ ap (λ (l : List ℕ). l ++ X) (h.same.0 e) ∙ ap (λ (l : List ℕ). 9 ∷ two n ++ l) z.0, z.1),
          λ q. (s.same key v i).1 (sym (drop_at (take 3 rest) X 3 three) ∙ ap (drop 3) (sym split ∙ q.0), q.1),
        );
      }

  pub entry-differs : u ≡ false → SameEntryIs room o n t rest text false
  unfolding entry_record two
  entry-differs e =
      let X = take o.rec.0 (part 3 rest) in
      record {
        same = λ key v i. (λ q. clash (cc), λ q. sym e ∙ h.same.1 (sym (take_at (take 3 rest) X 3 three) ∙ ap (take 3) (sym split ∙ q.0)));
      }

pub ruleset entry-laws = (entry-same, entry-differs)

pub undefined-same : {n : ℕ} {rest : List ℕ} {r : Bool} → StartIs 10 n rest r → SameUndefinedIs n rest r
unfolding entry_record
undefined-same h = record { same = λ t. h.same }
