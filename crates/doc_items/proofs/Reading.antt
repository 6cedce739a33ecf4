-- A number of the table.
use mathlib.Core.Path.{◌≡◌, sym}
use mathlib.Core.List.{List}
use Prim.Native.Nat.{ℕ, ◌≤◌, ◌<◌}
use native.Mathlib.Omega.{arith}
use lib.ListN.{length, get_or, get_or-eq_default}
use Rattle.doc_items.specs.Writing.{ReadIs}

pub read-there : {t : List ℕ} {at x : ℕ} → x ≡ get_or t at 0 → x < 65536 → ReadIs t at x
read-there e l = record { is = e; small = l }

pub read_past : (t : List ℕ) (at : ℕ) → length t ≤ at → ReadIs t at 0
read_past t at l = record { is = sym (get_or-eq_default t 0 l); small = omega arith }

pub ruleset reads = (read-there, read_past)
