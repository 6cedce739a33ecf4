-- One law for each answer of the functions that look at the tables.
use Rattle.std.specs.Prelude.{Some, None}
use mathlib.Core.Path.{◌≡◌, refl, sym, ap, ◌∙◌}
use mathlib.Core.List.{List}
use Prim.Native.Nat.{ℕ, ◌+◌, ◌*◌, ◌-◌, ◌%◌, ◌≤◌, ◌<◌}
use native.Mathlib.Omega.{arith}
use lib.ListN.{get_or}
use borrow.Author.Tests.{lt-ltb, le-ltb, le-leb, lt-leb, eq-eqb, ne_eqb}
use Rattle.sheet_forms.specs.Clauses.{EndIs}
use Rattle.doc_items.specs.Room.{capacity, answers_at}
use Rattle.doc_items.specs.Writing.{ReadIs}
use Rattle.eval_nodes.specs.Model.{View, span, answer_bound, answer_at, answered_at, item_view, record_view, view_at, item_member, record_member, member_at}
use Rattle.eval_nodes.specs.Clauses.{AnswerIs, AnsweredIs, ViewIs, ItemViewIs, RecordViewIs, ItemMemberIs, RecordMemberIs, MemberIs}
use Rattle.eval_nodes.specs.Answer.Model.{answered}
use Rattle.eval_nodes.specs.declared.answer.Answered.{Answered}
use Rattle.eval_nodes.specs.declared.Member.{Member}

-- ---- a node as a layer

module _ {T : List ℕ} {b a : ℕ} (x : ReadIs T (answers_at + b) a) where
  pub answer-there : a < answer_bound → AnswerIs T b a
  unfolding answer_at
  answer-there l = record { is = rw (← x.is, lt-ltb a answer_bound l, answer_at) refl; small = x.small }

  pub answer-none : answer_bound ≤ a → AnswerIs T b 0
  unfolding answer_at
  answer-none l = record { is = rw (← x.is, le-ltb a answer_bound l, answer_at) refl; small = omega arith }

pub ruleset answers = (answer-there, answer-none)

module _ {T : List ℕ} {c : ℕ} where
  pub shown-record : capacity ≤ c → AnsweredIs T c (Answered.Layer c)
  unfolding answered_at
  shown-record h = record { is = rw (le-ltb c capacity h, answered_at) refl }

  module _ (h : c < capacity) {k : ℕ} (x : ReadIs T (8 * c) k) where
    pub shown-plain : (k ≡ 8 → ⊥) → AnsweredIs T c (Answered.Layer c)
    unfolding answered_at
    shown-plain i = record { is = rw (lt-ltb c capacity h, ne_eqb (get_or T (8 * c) 0) 8 (λ q. i (x.is ∙ q)), answered_at) refl }

    pub shown-unresolved : {b a : ℕ} {r : Answered} → k ≡ 8 → ReadIs T (8 * c + 7) b → AnswerIs T b a → r ≡ answered b a → AnsweredIs T c r
    unfolding answered_at
    shown-unresolved i y z e = record {
      is = e ∙ rw (lt-ltb c capacity h, eq-eqb (get_or T (8 * c) 0) 8 (sym x.is ∙ i), ← y.is, ← z.is, answered_at) refl;
    }

pub ruleset showns = (shown-record, shown-plain, shown-unresolved)

-- ---- objects

module _ {T : List ℕ} {c k : ℕ} (x : ReadIs T (8 * c) k) where
  pub item-object : {z : ℕ} → k % 16 ≡ 7 → ReadIs T (8 * c + 1) z → ItemViewIs T c (Some (span (c + 1) (c + z)))
  unfolding item_view
  item-object e y = record { is = rw (eq-eqb (get_or T (8 * c) 0 % 16) 7 (ap (λ (n : ℕ). n % 16) (sym x.is) ∙ e), y.is, item_view) refl }

  pub item-other : (k % 16 ≡ 7 → ⊥) → ItemViewIs T c None
  unfolding item_view
  item-other i = record { is = rw (ne_eqb (get_or T (8 * c) 0 % 16) 7 (λ q. i (ap (λ (n : ℕ). n % 16) x.is ∙ q)), item_view) refl }

pub ruleset item-views = (item-object, item-other)

module _ {R : List ℕ} {o b : ℕ} (x : b ≡ get_or R o 0) where
  pub record-other : (b ≡ 7 → ⊥) → RecordViewIs R o None
  unfolding record_view
  record-other i = record { is = rw (ne_eqb (get_or R o 0) 7 (λ q. i (x ∙ q)), record_view) refl }

  pub record-object : {e : ℕ} → b ≡ 7 → EndIs R o e → RecordViewIs R o (Some (span (capacity + (o + 3)) (capacity + e)))
  unfolding record_view
  record-object q y = record { is = rw (eq-eqb (get_or R o 0) 7 (sym x ∙ q), y.is, record_view) refl }

pub ruleset record-views = (record-other, record-object)

module _ {T R : List ℕ} {c : ℕ} where
  pub view-item : {r : View} → c < capacity → ItemViewIs T c r → ViewIs T R c r
  unfolding view_at
  view-item h x = record { is = x.is ∙ rw (lt-ltb c capacity h, view_at) refl }

  pub view-record : {r : View} → capacity ≤ c → c - capacity ≤ 32768 → RecordViewIs R (c - capacity) r → ViewIs T R c r
  unfolding view_at
  view-record h l x = record { is = x.is ∙ rw (le-ltb c capacity h, le-leb (c - capacity) 32768 l, view_at) refl }

  pub view-past : capacity ≤ c → 32768 < c - capacity → ViewIs T R c None
  unfolding view_at
  view-past h l = record { is = rw (le-ltb c capacity h, lt-leb (c - capacity) 32768 l, view_at) refl }

pub ruleset views = (view-item, view-record, view-past)

-- ---- members

module _ {T : List ℕ} {p k : ℕ} (x : ReadIs T (8 * p) k) where
  pub member-seam : 16 ≤ k → ItemMemberIs T p (Member.Seam (p + 1))
  unfolding item_member
  member-seam h =
      let l : 16 ≤ get_or T (8 * p) 0 = omega (arith, x.is) in
      record { is = rw (le-leb 16 (get_or T (8 * p) 0) l, item_member) refl }

  module _ (h : k < 16) {z : ℕ} (y : ReadIs T (8 * p + 1) z) where
    pub member-empty : z ≡ 0 → ItemMemberIs T p Member.End
    unfolding item_member
    member-empty e =
        let l : get_or T (8 * p) 0 < 16 = omega (arith, x.is) in
        record { is = rw (lt-leb 16 (get_or T (8 * p) 0) l, eq-eqb (get_or T (8 * p + 1) 0) 0 (sym y.is ∙ e), item_member) refl }

    pub member-item : (z ≡ 0 → ⊥) → ItemMemberIs T p (Member.At p (p + z))
    unfolding item_member
    member-item i =
        let l : get_or T (8 * p) 0 < 16 = omega (arith, x.is) in
        record { is = rw (lt-leb 16 (get_or T (8 * p) 0) l, ne_eqb (get_or T (8 * p + 1) 0) 0 (λ q. i (y.is ∙ q)), y.is, item_member) refl }

pub ruleset item-kids = (member-seam, member-empty, member-item)

pub member-record : {R : List ℕ} {o e : ℕ} → EndIs R (o + 5) e → RecordMemberIs R o (Member.At (capacity + (o + 5)) (capacity + e))
unfolding record_member
member-record y = record { is = rw (y.is, record_member) refl }

module _ {T R : List ℕ} {p e : ℕ} where
  pub member-end : e ≤ p → MemberIs T R p e Member.End
  unfolding member_at
  member-end h = record { is = rw (le-leb e p h, member_at) refl }

  module _ (h : p < e) where
    pub member-of-item : {r : Member} → p < capacity → ItemMemberIs T p r → MemberIs T R p e r
    unfolding member_at
    member-of-item l x = record { is = x.is ∙ rw (lt-leb e p h, lt-ltb p capacity l, member_at) refl }

    pub member-of-record : {r : Member} → capacity ≤ p → p - capacity ≤ 32768 → RecordMemberIs R (p - capacity) r → MemberIs T R p e r
    unfolding member_at
    member-of-record l m x = record { is = x.is ∙ rw (lt-leb e p h, le-ltb p capacity l, le-leb (p - capacity) 32768 m, member_at) refl }

    pub member-past : capacity ≤ p → 32768 < p - capacity → MemberIs T R p e Member.End
    unfolding member_at
    member-past l m = record { is = rw (lt-leb e p h, le-ltb p capacity l, lt-leb (p - capacity) 32768 m, member_at) refl }

pub ruleset members_of = (member-end, member-of-item, member-of-record, member-past)
