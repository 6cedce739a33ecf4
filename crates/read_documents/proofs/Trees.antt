-- The tree of a document: its bytes, then its root.
use Rattle.std.specs.Prelude.{Result, Ok, Err}
use mathlib.Core.Path.{◌≡◌, refl, sym, ap, ◌∙◌}
use mathlib.Core.List.{List}
use mathlib.Core.Option.{Option, none, some}
use Prim.Native.Nat.{ℕ}
use Rattle.answers.specs.Theory.Sound.{clash}
use Rattle.rules.specs.Refusals.{placed, refused}
use Rattle.rules.specs.Utf8.{ill_formed}
use Rattle.rules.specs.Reading.{read_root}
use Rattle.rules.specs.Documents.{read_tree}
use Rattle.text_chars.specs.Cursor.{ill_at, doc, refusal}
use Rattle.text_chars.specs.declared.DocAt.{DocAt}
use Rattle.std.specs.Prelude.{Some, None, Option as Maybe}
use Rattle.text_chars.specs.declared.Refusal.{Refusal}
use Rattle.read_grammar.specs.Limits.Limits.{nesting_of}
use Rattle.read_values.specs.declared.pieces.Listed.{Listed}
use Rattle.read_documents.specs.Trees.{Rooted, RootIs, tree_told, read_told, TreeAs, TreeIs}
use Rattle.read_documents.specs.declared.Counters.{Counters}

module _ (s : List ℕ) (nesting items : ℕ) where
  ill-at : (o : Option ℕ) → ill_formed s ≡ o → {p : DocAt} → Some p ≡ ill_at o → read_tree s nesting items ≡ refused (placed 2 p.0)
  unfolding read_tree
  ill-at none e {p} q = clash (cc (q))
  ill-at (some at) e {p} q =
      let g : p ≡ doc at = cc (q) in
      rw (e, read_tree) (ap (λ (x : DocAt). refused (placed 2 x.0)) (sym g))

  formed-at : (o : Option ℕ) → ill_formed s ≡ o → None ≡ ill_at o → read_tree s nesting items ≡ read_root s nesting items
  unfolding read_tree
  formed-at none e q = rw (e, read_tree)
  formed-at (some at) e q = clash (cc (q))

-- what an answer says is an equation
told : (s : List ℕ) (c : Counters) (x t : List ℕ) (r : Result Counters Refusal) → TreeAs s c x t r
    → tree_told r ≡ read_told c.left (read_tree s (nesting_of c.left) c.items)
told s c x t (Ok d) u = rw (u.2, u.3) refl
told s c x t (Err d) u = rw (u.1, u.2, u.3) refl

module _ {s table text : List ℕ} {c : Counters} {i : Maybe DocAt} (f : i ≡ ill_at (ill_formed s)) where
  pub tree-ill : {p : DocAt} → i ≡ Some p → TreeIs s c table text table text (Err (refusal 2 p))
  tree-ill {p} e =
      let u : TreeAs s c table text (Err (refusal 2 p)) =
      (placed 2 p.0, ill-at s (nesting_of c.left) c.items (ill_formed s) refl (sym e ∙ f), refl, refl) in
      record { answer = told s c table text (Err (refusal 2 p)) u; is = u; kept_table = refl; kept-text = refl }

  module _ (e : i ≡ None) {x t : List ℕ} {r : Result Listed Refusal} (m : RootIs s c.left c.items table text x t r) where
    formed : read_tree s (nesting_of c.left) c.items ≡ read_root s (nesting_of c.left) c.items
    formed = formed-at s (nesting_of c.left) c.items (ill_formed s) refl (sym e ∙ f)

    tree_of : {q : Result Counters Refusal} → TreeAs s c x t q → TreeIs s c table text x t q
    tree_of {q} u = record { answer = told s c x t q u; is = u; kept_table = m.kept_table; kept-text = m.kept-text }

    pub tree-refused : {d : Refusal} → r ≡ Err d → TreeIs s c table text x t (Err d)
    tree-refused {d} q =
        let u : Rooted s c.left c.items x t (Err d) = rw q at m.is in
        tree_of (u.0, formed ∙ u.1, u.2, u.3)

    pub tree-done : {v : Listed} → r ≡ Ok v → TreeIs s c table text x t (Ok (record { left = c.left; items = v.items }))
    tree-done {v} q =
        let u : Rooted s c.left c.items x t (Ok v) = rw q at m.is in
        tree_of (u.0, v.next.at.0, formed ∙ u.1, refl, u.2)

pub ruleset trees = (tree-ill, tree-refused, tree-done)
