-- A container, array and object alike: its reader by the reader of its members, and one law for each answer of the loop that reads it.
use Rattle.std.specs.Prelude.{Result, Ok, Err}
use mathlib.Core.Path.{◌≡◌, refl, sym, ◌∙◌}
use Prim.Native.Nat.{ℕ, ◌*◌, ◌-◌, ◌≤◌, ◌<◌}
use mathlib.Core.List.{List}
use native.Mathlib.Omega.{arith}
use lib.ListN.{length}
use Rattle.rules.specs.Refusals.{ended, Read, got, read_then}
use Rattle.text_chars.specs.Cursor.{doc, refusal}
use Rattle.text_chars.specs.declared.Cursor.{Cursor}
use Rattle.text_chars.specs.declared.Refusal.{Refusal}
use Rattle.text_scan.specs.Scan.{GapIs}
use Rattle.text_scan.specs.declared.Gap.{Gap}
use Rattle.read_grammar.specs.Decisions.{Turns, TurnIs}
use Rattle.read_grammar.specs.declared.Turn.{Turn}
use Rattle.text_chars.specs.Parts.{part, back, back-length}
use Rattle.doc_items.specs.Parts.{numbers, letters}
use Rattle.read_values.specs.Pieces.Pieces.{Refuses}
use Rattle.read_values.specs.declared.pieces.Listed.{Listed}
use Rattle.read_cycle.specs.Clauses.{Asked, Reached, parted_after}
use Rattle.read_cycle.specs.Measures.{need}
use Rattle.read_cycle.proofs.Members as M
use Rattle.read_cycle.proofs.Lists.{Holding, ListInv, MemberRead, list-start, list-turn, list-wider, list-asks, list-in-table, list-in-text}

-- what arrays and objects differ in
pub record Container : Type 1 where
  pub Member : Type 0
  pub Whole : Type 0
  pub holding : Holding Member
  pub closing : ℕ
  pub member_at : List ℕ → ℕ → ℕ → ℕ → Read Member
  pub whole_at : List ℕ → ℕ → ℕ → ℕ → Read Whole
  pub whole : List Member → Whole
  pub by_members : (s : List ℕ) (left at items : ℕ)
      → whole_at s left at items ≡ read_then (M.members_in closing (member_at s left) s at items) (λ ms end n. got (whole ms) end n)
  pub forward : (s : List ℕ) (left : ℕ) → left ≤ 31 → (at items : ℕ) (m : Member) (end n : ℕ) → member_at s left at items ≡ got m end n → at < end

module _ (K : Container) (s : List ℕ) (at left items : ℕ) (table text : List ℕ) where
  abbrev pub WholeRead : Result Listed Refusal → Type 0
  WholeRead (Ok v) =
      (ms : List K.Member) × (K.whole_at s left at items ≡ got (K.whole ms) v.next.at.0 v.items) × Reached s at items v.next.at.0 v.items
      × K.holding.H (numbers table) (letters (2 * at) text) (2 * at) (2 * v.next.at.0) 0 (v.items - items) ms
  WholeRead (Err e) = Refuses (K.whole_at s left at items) e.number e.place

  abbrev pub OneRead : Result Listed Refusal → Type 0
  OneRead (Ok v) = MemberRead K.holding K.closing (K.member_at s left) s at items table text v.next.at.0 v.items
  OneRead (Err e) = Refuses (parted_after K.closing s (K.member_at s left at items)) e.number e.place

pub record WholeIs (K : Container) (s : List ℕ) (at left items : ℕ) (table text table' text' : List ℕ) (r : Result Listed Refusal) : Type 0 where
  pub is : WholeRead K s at left items table' text' r
  pub kept_table : length table' ≡ length table
  pub kept-text : length text' ≡ length text

pub record MemberIs (K : Container) (s : List ℕ) (at left items : ℕ) (table text table' text' : List ℕ) (r : Result Listed Refusal) : Type 0 where
  pub is : OneRead K s at left items table' text' r
  pub kept_table : length table' ≡ length table
  pub kept-text : length text' ≡ length text

-- the loop's invariant
pub record Inv (K : Container) (s : List ℕ) (at₀ left items₀ : ℕ) (table₀ text₀ : List ℕ) (at items : ℕ) (table text : List ℕ) : Type 0 where
  pub is : ListInv K.holding K.closing (K.member_at s left) s at₀ items₀ table₀ text₀ at items table text
  pub asked : Asked s at₀ left items₀ table₀ text₀

pub container-start : {K : Container} {s : List ℕ} {at₀ left items₀ : ℕ} {table₀ text₀ : List ℕ} {g : Gap} → Asked s at₀ left items₀ table₀ text₀ → GapIs s at₀ g
    → Inv K s at₀ left items₀ table₀ text₀ g.next.at.0 items₀ table₀ text₀
container-start {K} {s} {at₀} {left} {items₀} {table₀} {text₀} {g} a h = record {
  is = list-start K.holding K.closing (K.member_at s left) a g.next.at.0 h.is h.forward h.inside;
  asked = a;
}

module _ {K : Container} {s : List ℕ} {at₀ left items₀ : ℕ} {table₀ text₀ : List ℕ} {at items : ℕ} {x t : List ℕ}
    (I : Inv K s at₀ left items₀ table₀ text₀ at items x t) where
  a : Asked s at₀ left items₀ table₀ text₀
  a = I.asked

  J : ListInv K.holding K.closing (K.member_at s left) s at₀ items₀ table₀ text₀ at items x t
  J = I.is

  module _ {r : Turn} (h : TurnIs K.closing s at r) where
    pub container-close : {c : Cursor} → r ≡ Turn.Close c → WholeIs K s at₀ left items₀ table₀ text₀ x t (Ok (record { next = c; items = items }))
    container-close {c} e =
        let k : Turns K.closing s at (Turn.Close c) = rw e at h.is in
        let all = M.rest-close K.closing (K.member_at s left) s J.rest k.0 in
        record {
          is = (
            J.done,
            K.by_members s left at₀ items₀ ∙ rw (all, sym k.1) refl,
            record { forward = omega (arith, J.behind, k.2); inside = k.3; more = J.more; few = J.few },
            list-wider K.holding (numbers x) (letters (2 * at₀) t) (2 * at₀) (2 * at) (2 * c.at.0) 0 (items - items₀) J.done (omega (arith, k.2)) J.held,
          );
          kept_table = J.kept_table;
          kept-text = J.kept-text;
        }

    pub container-end : r ≡ Turn.End → WholeIs K s at₀ left items₀ table₀ text₀ x t (Err (refusal 4 (doc (length s))))
    container-end e =
        let k : Turns K.closing s at Turn.End = rw e at h.is in
        record {
          is = (ended s, K.by_members s left at₀ items₀ ∙ rw (M.rest_end K.closing (K.member_at s left) s J.rest k.0 k.1) refl, refl, refl);
          kept_table = J.kept_table;
          kept-text = J.kept-text;
        }

    module _ (e : r ≡ Turn.Member) {y z : List ℕ} {q : Result Listed Refusal} (m : MemberIs K s at left items (part (8 * (items - items₀)) x) (part (2 * (at - at₀)) t) y z q) where
      pub container-refused : {d : Refusal} → q ≡ Err d
          → WholeIs K s at₀ left items₀ table₀ text₀ (back (8 * (items - items₀)) x y) (back (2 * (at - at₀)) t z) (Err d)
      container-refused {d} f =
          let u : Turns K.closing s at Turn.Member = rw e at h.is in
          let v : OneRead K s at left items y z (Err d) = rw f at m.is in
          record {
            is = (
              v.0,
              K.by_members s left at₀ items₀ ∙ rw (M.rest-refused K.closing (K.member_at s left) s J.rest u.0 u.1 v.1) refl,
              v.2,
              v.3,
            );
            kept_table = back-length (8 * (items - items₀)) x y (list-in-table a J) m.kept_table ∙ J.kept_table;
            kept-text = back-length (2 * (at - at₀)) t z (list-in-text a J) m.kept-text ∙ J.kept-text;
          }

      pub container-turn : {v : Listed} → q ≡ Ok v
          → Inv K s at₀ left items₀ table₀ text₀ v.next.at.0 v.items (back (8 * (items - items₀)) x y) (back (2 * (at - at₀)) t z)
      container-turn {v} f =
          let u : Turns K.closing s at Turn.Member = rw e at h.is in
          let w : OneRead K s at left items y z (Ok v) = rw f at m.is in
          record {
            is = list-turn K.holding K.closing (K.member_at s left) a J w m.kept_table m.kept-text (K.forward s left a.nested) u.0 u.1;
            asked = a;
          }

      pub container-less : {v : Listed} → q ≡ Ok v → length s - v.next.at.0 < length s - at
      container-less {v} f =
          let w : OneRead K s at left items y z (Ok v) = rw f at m.is in
          omega (arith, w.reached.forward, w.reached.inside)

  pub container-asks : Asked s at left items (part (8 * (items - items₀)) x) (part (2 * (at - at₀)) t)
  container-asks = list-asks a J

  pub container-falls : (n : ℕ) → need 5 s at₀ ≡ n → need 4 s at < n
  container-falls n e = omega (arith, J.behind, J.inside)

  pub container-table : 8 * (items - items₀) ≤ length x
  container-table = list-in-table a J

  pub container-text : 2 * (at - at₀) ≤ length t
  container-text = list-in-text a J

pub ruleset containers = (
  container-start,
  container-close,
  container-end,
  container-refused,
  container-turn,
  container-less,
  container-asks,
  container-falls,
  container-table,
  container-text,
)
