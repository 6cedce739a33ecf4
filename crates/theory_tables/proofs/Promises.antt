-- What an edit that is done has done.
use Rattle.std.specs.Prelude.{◌≡◌, ℕ}
use Rattle.std.proofs.Math.Path.{ap, subst}
use Rattle.std.proofs.Common.{sym, ◌∙◌}
use mathlib.Core.List.{List, ◌∷◌, ◌++◌}
use Rattle.std.proofs.Math.Option.{some}
use Rattle.answers.specs.Theory.Sound.{clash}
use Rattle.rules.specs.Bytes.{Text}
use Rattle.rules.specs.Values.{Value, object_of, Members}
use Rattle.rules.specs.NamedValues.{value_at, Distinct, DistinctAnswer}
use Rattle.rules_tables.specs.Edits.{Edit, says, set_member, in_object, set_at}
use Rattle.rules_tables.specs.Jobs.{Edited}
use Rattle.rules_tables.specs.Jobs.{edit_job}
use Rattle.theory_tables.specs.Edits.{inside, named-distinct, OnlyAt, set_apart, set-above, set-answers}
use Rattle.theory_tables.specs.Sized.{sized-sound}
use Rattle.theory_tables.specs.Promises.{EditTold, not_done, done, edit-told, Done}
use Rattle.theory_tables.proofs.Edits.{set-only}

module _ (kind : ℕ) (table text path value value_text : List ℕ) (table_length text_length : ℕ) where
  abbrev result : Edited
  result = edit_job kind table text path value value_text table_length text_length

  pub edit-done : result.number ≡ 0 → Done kind table text path value value_text table_length text_length
  unfolding set_at in_object
  edit-done z = go (edit-told kind table text path value value_text table_length text_length)
    where
      above-is : (before after : Value) (edit : Edit) → Distinct before → (p : List Text) → set_at p (says edit) (some before) ≡ some after
          → (q : List Text) (k : Text) (r : List Text) → p ≡ q ++ (k ∷ r) → (ms : Members) → value_at q before ≡ some (object_of ms)
          → (ns : Members) × (value_at q after ≡ some (object_of ns)) × OnlyAt k ms ns
      above-is before after edit d p set q k r e ms named =
          let changed : value_at q after ≡ set_at (k ∷ r) (says edit) (value_at q before) =
          ap (inside q) (sym set ∙ ap (λ (y : List Text). set_at y (says edit) (some before)) e)
          ∙ set-above (says edit) q k r (some before) d in
          let inner : DistinctAnswer (some (object_of ms)) = subst DistinctAnswer named (named-distinct q (some before) d) in
          let change = set_at r (says edit) in
          (set_member k change ms, changed ∙ ap (set_at (k ∷ r) (says edit)) named, set-only k change ms inner)

      go : EditTold kind table text path value value_text table_length text_length result → Done kind table text path value value_text table_length text_length
      go (not_done x n q) = clash (cc)
      go (done short v w e k ks end tree asked path-is c new lent within q) =
          let d = (sized-sound table text v tree).keys in
          record {
            before = v;
            after = w;
            edit = e;
            names = k ∷ ks;
            end = end;
            short-path-is = short;
            lent-tree = tree;
            asked = asked;
            path-is = path-is;
            new-tree = new;
            new-lent = lent;
            answers = ap (inside (k ∷ ks)) (sym c.set) ∙ set-answers (says e) k ks v c.parent d c.in-object;
            apart-same = λ q a. ap (inside q) (sym c.set) ∙ set_apart (says e) (k ∷ ks) q (some v) d a;
            above_same = above-is v w e d (k ∷ ks) c.set;
          }
