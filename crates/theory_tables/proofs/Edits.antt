-- An edit of a member makes a difference at its key only.
use Rattle.std.proofs.Math.Path.{ap}
use Rattle.std.proofs.Common.{sym, ◌∙◌}
use Rattle.rules.specs.Bytes.{Text}
use Rattle.rules.specs.Values.{Members, Answer}
use Rattle.rules.specs.NamedValues.{DistinctMembers}
use Rattle.rules_tables.specs.Edits.{set_member}
use Rattle.theory_tables.specs.Edits.{OnlyAt, own-member, others-stay, keys-same, keys-more}

pub set-only : (k : Text) (change : Answer → Answer) (ms : Members) → DistinctMembers ms → OnlyAt k ms (set_member k change ms)
set-only k change ms d = record {
  others = others-stay k change ms;
  in_place = λ v w m n. keys-same k change ms v w m (ap change (sym m) ∙ sym (own-member k change ms d) ∙ n);
  last = λ w m n. keys-more k change ms w m (ap change (sym m) ∙ sym (own-member k change ms d) ∙ n);
}
