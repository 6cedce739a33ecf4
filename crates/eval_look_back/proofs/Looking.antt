-- The turns of the loop that goes down as long as the path's elements are the fields' keys.
use mathlib.Core.Path.{◌≡◌, sym, ap, subst, ◌∙◌}
use Prim.Native.Nat.{ℕ, ◌+◌, ◌*◌, ◌≤◌, ◌<◌}
use mathlib.Core.Bool.{Bool, false}
use mathlib.Core.List.{List, []}
use mathlib.Core.Option.{none, some}
use native.Mathlib.Omega.{arith}
use lib.Dec.{eqb}
use lib.ListN.{length, drop, get_or}
use borrow.Author.Tests.{eq-eqb, ne_eqb}
use Rattle.rules.specs.Bytes.{Text, same}
use Rattle.rules.specs.Tree.{Root}
use Rattle.doc_items.specs.Codes.{object_item, kind_at, text_at, textlen_at, number_at, next_at}
use Rattle.doc_items.specs.Parts.{numbers}
use Rattle.doc_items.specs.Writing.{ReadIs}
use Rattle.theory_back.specs.LookBack.{Left, onward}
use Rattle.theory_back.specs.Passes.{below_one, looks_back, onward-same, onward-other, onward-end, onward-off}
use Rattle.theory_back.proofs.OwnKey.{own-key}
use Rattle.eval_keys.specs.Columns.{keys_at}
use Rattle.eval_root_index.specs.Documents.{member-kind}
use Rattle.eval_look_back.specs.Ranges.{Number}
use Rattle.eval_look_back.specs.Passing.{Spans}
use Rattle.eval_look_back.specs.Steps.{Down, On, on-other, on-literal, on-field, on-end, down-end, down-gives-up}
use Rattle.eval_look_back.specs.OwnKey.{apart}
use Rattle.eval_look_back.specs.Clauses.{AroundIs, HasKeyIs, PathIs, AskedAt, own_of, Going, LooksBackIs}

module _ {T keys : List ℕ} {count item literal i : ℕ} (G : Going T keys count item literal i) where
  pub looks-end : count ≤ i → LooksBackIs T keys count item 0
  looks-end m = record {
    is = λ h lo hi bound root p a w.
        let past : length p ≤ i = omega (arith, w.long) in
        sym (ap own_of (on-end (numbers T) h lo hi bound item a.kind none (onward below_one) (looks_back root p (number_at (numbers T) item)) (some (drop i p, i))
        literal (G.is h lo hi bound root p a w) (λ earlier k. onward-end below_one i earlier k p i past) (onward-off below_one)));
  }

  module _ {kind : ℕ} (r : ReadIs T (8 * literal) kind) where
    pub looks-other : (kind ≡ object_item → ⊥) → LooksBackIs T keys count item 0
    looks-other n = record {
      is = λ h lo hi bound root p a w.
          sym (ap own_of (on-other (numbers T) h lo hi bound item a.kind none (onward below_one) (looks_back root p (number_at (numbers T) item)) (some (drop i p, i))
          literal (G.is h lo hi bound root p a w) (λ e. n (r.is ∙ e))));
    }

    module _ {at key next : ℕ} (m : i < count) (s : kind ≡ object_item) (f : AroundIs T literal item at) (q : ReadIs T (keys_at + at) key)
        (n : ReadIs keys i next) where
      module _ (h : ℕ → ℕ) (lo hi bound : ℕ) (root : Root) (p : List Text) (a : AskedAt T item h lo hi bound root) (w : PathIs T keys count h lo hi bound root p) where
        abbrev result : Left ℕ
        result = looks_back root p (number_at (numbers T) item)

        abbrev state : Left ℕ
        state = some (drop i p, i)

        there : i < length p
        there = omega (arith, m, w.long)

        down : Down (numbers T) h lo hi bound item a.kind none (onward below_one) result state literal
        down = on-literal (numbers T) h lo hi bound item a.kind none (onward below_one) result state literal (G.is h lo hi bound root p a w) (sym r.is ∙ s)

        spans : Spans (numbers T) h lo hi bound (literal + 1) (next_at (numbers T) literal) down.fields item at
        spans = f.is h lo hi bound (next_at (numbers T) literal) down.fields down.shown down.high a.kind

        small : kind_at (numbers T) at < 16
        small =
            let g = numbers T in
            member-kind g h lo hi (Number g h lo hi bound) spans.found.node (kind_at g at) (text_at g at) (textlen_at g at) (number_at g at) (at + 1) (next_at g at)
            spans.found.here.node

        tests : eqb key next ≡ same spans.found.key.text (get_or p i [])
        tests =
            ap (λ (j : ℕ). eqb j next) q.is ∙ ap (eqb (numbers T (keys_at + at))) n.is
            ∙ w.tells i there at spans.found.key.text (omega (arith, f.past)) (omega (arith, spans.low, a.inside)) small spans.found.here.text

        equal : key ≡ next → onward below_one state spans.found.earlier spans.found.key ≡ some (drop (i + 1) p, i + 1)
        equal e = onward-same below_one i spans.found.earlier spans.found.key p i there (sym tests ∙ eq-eqb key next e)

        other : (key ≡ next → ⊥) → result ≡ none
        other e =
            down-gives-up (numbers T) h lo hi bound item a.kind none (onward below_one) result state literal down at spans.found spans.low spans.high
            (onward-off below_one) (onward-other below_one i spans.found.earlier spans.found.key p i there (sym tests ∙ ne_eqb key next e))

        ends : key ≡ next → at ≡ item → result ≡ some (drop (i + 1) p, i + 1)
        ends e z =
            down-end (numbers T) h lo hi bound item a.kind none (onward below_one) result state literal down at spans.found spans.low spans.high z
            ∙ equal e

        goes : key ≡ next → at < item → On (numbers T) h lo hi bound item a.kind none (onward below_one) result (some (drop (i + 1) p, i + 1)) at
        goes e z =
            subst (λ (x : Left ℕ). On (numbers T) h lo hi bound item a.kind none (onward below_one) result x at) (equal e)
            (on-field (numbers T) h lo hi bound item a.kind none (onward below_one) result state literal down at spans.found z spans.high)

      pub looks-differs : (key ≡ next → ⊥) → LooksBackIs T keys count item 0
      looks-differs e = record { is = λ h lo hi bound root p a w. sym (ap own_of (other h lo hi bound root p a w e)) }

      pub looks-found : key ≡ next → at ≡ item → LooksBackIs T keys count item (i + 1)
      looks-found e z = record { is = λ h lo hi bound root p a w. sym (ap own_of (ends h lo hi bound root p a w e z)) }

      pub looks_on : key ≡ next → (at ≡ item → ⊥) → Going T keys count item at (i + 1)
      looks_on e z =
          let low : at < item = omega (arith, z, f.upto) in
          record { low = low; is = λ h lo hi bound root p a w. goes h lo hi bound root p a w e low }

-- the item's own key is none of the path's elements
pub looks-apart : {T keys : List ℕ} {count item own : ℕ} {b : Bool} → 0 < item → ReadIs T (keys_at + item) own → HasKeyIs keys count own b → b ≡ false
    → LooksBackIs T keys count item 0
looks-apart {T} {keys} {count} {item} {own} {b} l r w e = record {
  is = λ h lo hi bound root p a q.
      sym (ap own_of (own-key below_one p root 0 (number_at (numbers T) item)
      (apart (subst (λ (k : ℕ). HasKeyIs keys count k false) r.is (subst (HasKeyIs keys count own) e w)) a q l)));
}

pub ruleset looks = (looks-end, looks-other, looks-differs, looks-found, looks_on)

pub ruleset aparts = (looks-apart)
