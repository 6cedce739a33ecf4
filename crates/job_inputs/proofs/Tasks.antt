-- The beginning of a job: one law for each return, and what its callees ask.
use Rattle.std.specs.Prelude.{Result, Ok, Err}
use mathlib.Core.Path.{◌≡◌, refl, ◌∙◌}
use mathlib.Core.Bool.{Bool}
use mathlib.Core.List.{List}
use Prim.Native.Nat.{ℕ, ◌≤◌}
use native.Mathlib.Omega.{arith}
use lib.ListN.{length}
use Rattle.theory.specs.Numbering.{prepared}
use Rattle.theory.specs.JobRefusals.{valid-short}
use Rattle.doc_items.specs.Room.{table_room, text_room}
use Rattle.text_chars.specs.declared.Refusal.{Refusal}
use Rattle.read_documents.specs.Clauses.{InputsAs, InputsIs}
use Rattle.read_documents.specs.declared.Reading.{Reading}
use Rattle.eval_state.specs.Memories.{job_table, job_bytes}
use Rattle.job_inputs.specs.Prepare.Contracts.{PrepareAsked, PrepareIs}
use Rattle.job_inputs.specs.Clauses.{TaskIs}

pub table-room : {n : ℕ} → job_table ≤ n → table_room ≤ n
table-room h = omega arith

pub text-room : {n : ℕ} → job_bytes ≤ n → text_room ≤ n
text-room h = omega arith

pub ruleset rooms = (table-room, text-room)

module _ {others : Bool} {s e T B T₁ B₁ : List ℕ} {r : Result Reading Refusal} (i : InputsIs others s e T B T₁ B₁ r) where
  pub task-refused : {d : Refusal} → r ≡ Err d → TaskIs others s e T B T₁ B₁ (Err d)
  task-refused {d} z =
      let h : InputsAs others s e T₁ B₁ (Err d) = rw z at i.is in
      record { is = h; kept_table = i.kept_table; kept-bytes = i.kept-text }

  module _ {v : Reading} (z : r ≡ Ok v) where
    read : InputsAs others s e T₁ B₁ (Ok v)
    read = rw z at i.is

    pub prepare-asked : job_table ≤ length T → job_bytes ≤ length B → PrepareAsked T₁ B₁ v.items
    prepare-asked h k =
        let few = read.2.few in
        record { table = omega (arith, i.kept_table); bytes = omega (arith, i.kept-text); few = omega arith }

    pub task-ready : {T₂ : List ℕ} → PrepareIs v.items B₁ T₁ T₂ → length T₂ ≡ length T₁
        → TaskIs others s e T B T₂ B₁ (Ok v)
    task-ready {T₂} p l =
        let x = read.0 in
        record {
          is = (
            x,
            record {
              read = read.1;
              state = p.is x s B₁ v.unresolved (prepared others s e x read.1)
                  (valid-short others s e x read.1) (λ q h. refl) read.2;
              unbegun = p.unbegun;
              variables = read.3;
            },
            read.2.unresolved-are,
          );
          kept_table = l ∙ i.kept_table;
          kept-bytes = i.kept-text;
        }

pub ruleset tasks = (task-refused, task-ready)
