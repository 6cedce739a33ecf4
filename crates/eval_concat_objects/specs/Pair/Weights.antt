-- What a finished value weighs, by the bytes of its records: a member has six of them at least.
use Rattle.std.specs.Prelude.{◌+◌, ◌*◌, ◌≤◌}
use Rattle.std.proofs.Common.{arith}
use Rattle.rules.specs.Tree.{null, boolean, number, string}
use Rattle.rules.specs.Values.{Value, scalar, array_of, object_of, Members, no-members, member, record_size, member_record_sizes}
use Rattle.rules.specs.Weights.{weight_of_value, weight_of_members}

mutual
  unfolding weight_of_value record_size

  pub value-light : (v : Value) → 6 * weight_of_value v ≤ 5 + record_size v
  value-light (scalar null) = omega arith
  value-light (scalar (boolean t)) = omega arith
  value-light (scalar (number t)) = omega arith
  value-light (scalar (string t)) = omega arith
  value-light (array_of vs) = omega arith
  value-light (object_of ms) = omega (arith, members-light ms)

  pub members-light : (ms : Members) → 6 * weight_of_members ms ≤ member_record_sizes ms
  members-light no-members = omega arith
  members-light (member k v ms) = omega (arith, value-light v, members-light ms)
