-- Laws of the index.
use mathlib.Core.Path.{◌≡◌, refl}
use Prim.Native.Nat.{ℕ, zero, suc, ◌+◌, ◌*◌, ◌≤◌, ◌<◌}
use mathlib.Core.List.{List}
use mathlib.Core.Option.{Option, none, some}
use native.Mathlib.Omega.{arith}
use lib.ListN.{get_elem?}
use Rattle.answers.specs.Ask.{Trail}
use Rattle.rules.specs.Bytes.{Text}
use Rattle.rules.specs.Values.{Answer}
use Rattle.rules.specs.Tree.{Root, fields, elements, root_node}
use Rattle.rules.specs.Unresolved.{Unresolved}
use Rattle.rules.specs.Documents.{Setting, count_of}
use Rattle.theory_text.specs.Choices.{get_elem-none}
use Rattle.doc_items.specs.Parts.{numbers, letters}
use Rattle.doc_items.specs.Holds.{NodeAt}
use Rattle.doc_items.specs.Room.{capacity, index_at, text_room}
use Rattle.doc_items.specs.Writing.{ReadIs}
use Rattle.read_numbering.specs.Clauses.{item_of}
use Rattle.eval_state.specs.Memories.{NumberIn}
use Rattle.eval_state.specs.State.{State}
use Rattle.eval_state.specs.Index.{ItemIs}

module _ {x : Setting} {key : ℕ → Text} {items : ℕ} {T B : List ℕ} {S : Trail Answer} (H : State x key items T B S) {b : ℕ} (l : b < count_of x) where
  -- the root's item has another kind than an unresolved value's
  root-kind : (root : Root) → NodeAt (numbers T) (letters 0 B) 0 text_room NumberIn 0 0 (root_node root) → numbers T 0 < 8
  root-kind (fields fs) r = omega (arith, r.0)
  root-kind (elements es) r = omega (arith, r.0)

  item-inside : (0 < item_of T b) × (item_of T b < capacity)
  item-inside = go (get_elem? x.document.unresolved b) refl
    where
      go : (o : Option Unresolved) → get_elem? x.document.unresolved b ≡ o → (0 < item_of T b) × (item_of T b < capacity)
      go none e = absurd (omega (arith, get_elem-none x.document.unresolved b e))
      go (some u) e =
          let a = (H.document.unresolved b u e).value in
          let k : numbers T (8 * item_of T b) ≡ a.role + 8 = a.node.0 in (
            above (item_of T b) (omega arith),
            omega (arith, a.sized, a.inside, H.document.few),
          )
        where
          above : (c : ℕ) → 8 ≤ numbers T (8 * c) → 0 < c
          above zero k = absurd (omega (arith, root-kind x.document.root H.document.keyed.shown))
          above (suc c) k = omega arith

module _ {T : List ℕ} {b i : ℕ} (R : ReadIs T (index_at + b) i) where
  pub item-there : 1 ≤ i → i < capacity → ItemIs T b i
  item-there l m = record { is = λ x key items B S H n. R.is; low = l; high = m }

  pub item-low : i < 1 → ItemIs T b 1
  item-low l = record {
    is = λ x key items B S H n. absurd (omega (arith, (item-inside H n).0, R.is));
    low = omega arith;
    high = omega arith;
  }

  pub item-high : capacity ≤ i → ItemIs T b 1
  item-high l = record {
    is = λ x key items B S H n. absurd (omega (arith, (item-inside H n).1, R.is));
    low = omega arith;
    high = omega arith;
  }

pub ruleset index = (item-there, item-low, item-high)
