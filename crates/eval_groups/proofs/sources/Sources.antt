-- A source's records, as the part of the bytes that is lent.
use mathlib.Core.Path.{◌≡◌, ap}
use Prim.Native.Nat.{ℕ, ◌+◌, ◌-◌}
use mathlib.Core.List.{List}
use native.Mathlib.Omega.{arith}
use lib.ListN.{take, drop}
use Rattle.rules.specs.Sizes.{max_room}
use Rattle.eval_writer.specs.declared.Source.{Source}
use Rattle.eval_nodes.specs.Clauses.{KeyIs, MemberIs}
use Rattle.eval_nodes.specs.declared.Member.{Member}
use Rattle.eval_stack.specs.Model.{code_at}
use Rattle.eval_stack.specs.Clauses.{CodeIs}
use Rattle.eval_groups.specs.Clauses.{MembersIs}
use Rattle.eval_layers.specs.declared.Taken.{Taken}
use Rattle.eval_groups.specs.Select.Contracts.{TakeIs}
use Rattle.eval_writer.specs.Copies.Sources.{records_of}

abbrev lent : List ℕ → Source → List ℕ
lent B src = take (src.rec.0 + max_room - src.rec.0) (drop src.rec.0 B)

lent_is : (B : List ℕ) (src : Source) → lent B src ≡ records_of B src
lent_is B src =
    let e : src.rec.0 + max_room - src.rec.0 ≡ max_room = omega arith in
    ap (λ (n : ℕ). take n (drop src.rec.0 B)) e

module _ {T : List ℕ} (B : List ℕ) (src : Source) where
  pub key-from : (w : List ℕ) (p : ℕ) {c r : ℕ} → CodeIs w p c → KeyIs T (lent B src) c r → KeyIs T (records_of B src) (code_at w p) r
  key-from w p {c} {r} h k = rw (← h.is, ← lent_is B src) k

  pub element-from : {p e : ℕ} {r : Member} → MemberIs T (lent B src) p e r → MemberIs T (records_of B src) p e r
  element-from {p} {e} {r} k = rw (← lent_is B src) k

  pub members-are : {lo hi r : ℕ} {w w' : List ℕ} → MembersIs T (lent B src) lo hi w w' r → MembersIs T (records_of B src) lo hi w w' r
  members-are k = rw (← lent_is B src) k

  pub taken-from : {first top : ℕ} {w w' : List ℕ} {r : Taken} → TakeIs T (lent B src) first top w w' r → TakeIs T (records_of B src) first top w w' r
  taken-from k = rw (← lent_is B src) k
