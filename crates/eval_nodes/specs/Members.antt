-- Steps over an object's members, whatever the tables hold: each place is behind the one before it, and each number fits 16 bits.
use Rattle.std.specs.Prelude.{◌≡◌, Bool, true, false, cond, get_or, ltb, leb, eqb}
use Rattle.std.proofs.Math.Path.{refl, ap}
use Rattle.std.proofs.Common.{sym, ◌∙◌, arith, le-leb, leb-true, leb-false, ltb-true, ltb-false}
use mathlib.Core.List.{List, [], ◌∷◌}
use Prim.Native.Nat.{ℕ, zero, suc, ◌+◌, ◌-◌, ◌*◌, ◌≤◌, ◌<◌}
use Rattle.answers.specs.Theory.Sound.{clash}
use Rattle.rules.specs.Sizes.{max_room}
use Rattle.doc_items.specs.Room.{capacity, number_bound, answers_at}
use Rattle.eval_keys.specs.Columns.{keys_at}
use Rattle.sheet_forms.specs.Ends.{end-behind}
use Rattle.eval_nodes.specs.Answer.Model.{answered}
use Rattle.eval_nodes.specs.declared.answer.Answered.{Answered}
use Rattle.eval_nodes.specs.Model.{answer_bound, answer_at, answered_at, item_member, record_member, member_at, key_number, record_key, key_at, members_by, members_n, members_of}
use Rattle.eval_nodes.specs.Clauses.{AnsweredIs, MemberIs}
use Rattle.eval_nodes.specs.declared.Member.{Member}

-- by the two cases of a test
by_cond : {A : Type 0} (P : A → Type 0) (t : Bool) (a b : A) → (t ≡ true → P a) → (t ≡ false → P b) → P (cond t a b)
by_cond P true a b f g = f refl
by_cond P false a b f g = g refl

-- ---- key numbers are below the capacity

pub number_small : (k : ℕ) → key_number k < capacity
unfolding key_number
number_small k = by_cond (λ r. r < capacity) (ltb k capacity) k 0 (λ e. ltb-true k capacity e) (λ e. omega arith)

pub key-small : (T R : List ℕ) (c : ℕ) → key_at T R c < capacity
unfolding key_at
key-small T R c = number_small (cond (ltb c capacity) (get_or T (keys_at + c) 0) (record_key R (c - capacity)))

-- ---- the next place is further on, and a member's number fits

abbrev Onward : ℕ → Member → Type 0
Onward p Member.End = Unit {0}
Onward p (Member.Seam q) = p < q
Onward p (Member.At c q) = (p < q) × (c < number_bound)

item-onward : (T : List ℕ) (p : ℕ) → p < capacity → Onward p (item_member T p)
unfolding item_member
item-onward T p l =
    by_cond (Onward p) (leb 16 (get_or T (8 * p) 0)) _ _ (λ e. omega arith) (λ e.
    by_cond (Onward p) (eqb (get_or T (8 * p + 1) 0) 0) _ _ (λ f. tt) (λ f. (go (get_or T (8 * p + 1) 0) f, omega arith)))
  where
    go : (z : ℕ) → eqb z 0 ≡ false → p < p + z
    go zero f = clash (cc (f))
    go (suc z) f = omega arith

record-onward : (R : List ℕ) (o p : ℕ) → p ≡ capacity + o → o ≤ max_room → Onward p (record_member R o)
unfolding record_member
record-onward R o p e l = (omega (arith, end-behind R (o + 5)), omega arith)

member-onward : (T R : List ℕ) (p e : ℕ) → Onward p (member_at T R p e)
unfolding member_at
member-onward T R p e =
    by_cond (Onward p) (leb e p) _ _ (λ a. tt) (λ a.
    by_cond (Onward p) (ltb p capacity) _ _ (λ b. item-onward T p (ltb-true p capacity b)) (λ b.
    let l = ltb-false p capacity b in
    by_cond (Onward p) (leb (p - capacity) max_room) _ _ (λ d. record-onward R (p - capacity) p (omega arith) (leb-true (p - capacity) max_room d)) (λ d. tt)))

member-past : (T R : List ℕ) (p e : ℕ) → e ≤ p → member_at T R p e ≡ Member.End
unfolding member_at
member-past T R p e h = rw (le-leb e p h, member_at) refl

-- ---- the list of members, with whatever steps are enough

pub members-fuel : (f g : ℕ) (T R : List ℕ) (p e : ℕ) → e - p ≤ f → e - p ≤ g → members_n f T R p e ≡ members_n g T R p e
unfolding members_n
members-fuel zero zero T R p e h k = refl
members-fuel zero (suc g) T R p e h k = rw (member-past T R p e (omega arith)) refl
members-fuel (suc f) zero T R p e h k = rw (member-past T R p e (omega arith)) refl
members-fuel (suc f) (suc g) T R p e h k = go (member_at T R p e) (member-onward T R p e) (λ q a b. members-fuel f g T R q e a b)
  where
    go : (v : Member) → Onward p v → ((q : ℕ) → e - q ≤ f → e - q ≤ g → members_n f T R q e ≡ members_n g T R q e)
        → members_by (λ q. members_n f T R q e) v ≡ members_by (λ q. members_n g T R q e) v
    go Member.End m ih = refl
    go (Member.Seam q) m ih = ih q (omega arith) (omega arith)
    go (Member.At c q) m ih = let l = m.0 in ap (λ (x : List ℕ). c ∷ x) (ih q (omega arith) (omega arith))

-- ---- one step of a loop, by what `member_at` gave

module _ {T R : List ℕ} {p e : ℕ} {v : Member} (h : MemberIs T R p e v) where
  onward : Onward p v
  onward = rw (sym h.is) at (member-onward T R p e)

  -- members are behind one that is met
  not-past : (v ≡ Member.End → ⊥) → p < e
  not-past n = go (leb e p) refl
    where
      go : (t : Bool) → leb e p ≡ t → p < e
      go true f = absurd (n (h.is ∙ member-past T R p e (leb-true e p f)))
      go false f = leb-false e p f

  pub members-end : v ≡ Member.End → members_of T R p e ≡ []
  unfolding members_of members_n
  members-end t = go (e - p)
    where
      go : (f : ℕ) → members_n f T R p e ≡ []
      go zero = refl
      go (suc f) = rw (sym h.is ∙ t) refl

  module _ {q : ℕ} (l : p < e) (m : p < q) where
    more : members_of T R p e ≡ members_by (λ a. members_n (e - q + e) T R a e) v
    unfolding members_of members_n
    more = members-fuel (e - p) (suc (e - q + e)) T R p e (omega arith) (omega arith) ∙ ap (members_by (λ a. members_n (e - q + e) T R a e)) (sym h.is)

    rest : members_n (e - q + e) T R q e ≡ members_of T R q e
    unfolding members_of
    rest = members-fuel (e - q + e) (e - q) T R q e (omega arith) (omega arith)

  pub members-skip : {q : ℕ} → v ≡ Member.Seam q → members_of T R p e ≡ members_of T R q e
  members-skip {q} t =
      let l = not-past (λ z. clash (cc)) in
      let m : Onward p (Member.Seam q) = rw t at onward in
      more l m ∙ ap (members_by (λ a. members_n (e - q + e) T R a e)) t ∙ rest l m

  pub members-one : {c q : ℕ} → v ≡ Member.At c q → members_of T R p e ≡ c ∷ members_of T R q e
  members-one {c} {q} t =
      let l = not-past (λ z. clash (cc)) in
      let m : Onward p (Member.At c q) = rw t at onward in
      more l m.0 ∙ ap (members_by (λ a. members_n (e - q + e) T R a e)) t ∙ ap (λ (x : List ℕ). c ∷ x) (rest l m.0)

  -- a loop over them ends
  pub skip-less : {q : ℕ} → v ≡ Member.Seam q → e - q < e - p
  skip-less {q} t =
      let l = not-past (λ z. clash (cc)) in
      let m : Onward p (Member.Seam q) = rw t at onward in
      omega arith

  pub one_less : {c q : ℕ} → v ≡ Member.At c q → e - q < e - p
  one_less {c} {q} t =
      let l = not-past (λ z. clash (cc)) in
      let m : Onward p (Member.At c q) = rw t at onward in
      omega (arith, m.0)

  -- a member's number fits 16 bits
  pub member-small : {c q : ℕ} → v ≡ Member.At c q → c < number_bound
  member-small {c} {q} t = let m : Onward p (Member.At c q) = rw t at onward in m.1

-- ---- so does a layer's

abbrev Fitting : Answered → Type 0
Fitting (Answered.Layer d) = d < number_bound
Fitting Answered.Undefined = Unit {0}
Fitting (Answered.Missing b) = Unit {0}

answer-small : (T : List ℕ) (b : ℕ) → answer_at T b < answer_bound
unfolding answer_at
answer-small T b =
    let a = get_or T (answers_at + b) 0 in
    by_cond (λ r. r < answer_bound) (ltb a answer_bound) a 0 (λ e. ltb-true a answer_bound e) (λ e. omega arith)

answered-fits : (b a : ℕ) → a < answer_bound → Fitting (answered b a)
answered-fits b a l =
    by_cond Fitting (eqb a 0) _ _ (λ e. tt) (λ e. by_cond Fitting (eqb a 1) _ _ (λ f. tt) (λ f. omega arith))

layer_fits : (T : List ℕ) (c : ℕ) → c < number_bound → Fitting (answered_at T c)
unfolding answered_at
layer_fits T c l =
    let b = get_or T (8 * c + 7) 0 in
    by_cond Fitting (ltb c capacity) _ _ (λ e. by_cond Fitting (eqb (get_or T (8 * c) 0) 8) _ _ (λ f. answered-fits b (answer_at T b) (answer-small T b)) (λ f. l))
    (λ e. l)

pub layer-small : {T : List ℕ} {c d : ℕ} {v : Answered} → AnsweredIs T c v → v ≡ Answered.Layer d → c < number_bound → d < number_bound
layer-small {T} {c} {d} {v} h e l = let f : Fitting (Answered.Layer d) = rw (sym h.is ∙ e) at (layer_fits T c l) in f
