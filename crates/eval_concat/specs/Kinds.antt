-- The model by the kind of the join so far.
use Rattle.std.specs.Prelude.{◌≡◌, ℕ, ◌+◌, max, List, Ok, Err}
use Rattle.eval_results.specs.declared.extents.Extent.{Extent}
use Rattle.eval_concat.specs.Model.{join, mixed_at, tested_c, nothing_by, members_by}
use Rattle.eval_concat.specs.declared.Kind.{Kind}
use Rattle.eval_concat.specs.declared.Join.{Join}

module _ (k : Kind) (j : Join) (n : ℕ) where
  pub array-stays : {c : ℕ} → k ≡ Kind.Array c → nothing_by k j n ≡ Ok j
  array-stays e = rw e

  pub object-stays : k ≡ Kind.Object → nothing_by k j n ≡ Ok j
  object-stays e = rw e

module _ (k : Kind) (T : List ℕ) (i : ℕ) (j : Join) (n : ℕ) (r : Extent) where
  pub members-simple : k ≡ Kind.Simple → members_by k T i j n r ≡ Err (mixed_at T i)
  members-simple e = rw e

  pub members-object : k ≡ Kind.Object → members_by k T i j n r ≡ Err (mixed_at T i)
  members-object e = rw e

  pub members-blank : k ≡ Kind.Blank → members_by k T i j n r ≡ tested_c (join (Kind.Array n) (record { out = r.out; deep = r.deep + 1 }))
  members-blank e = rw e

  pub members-array : {c : ℕ} → k ≡ Kind.Array c
      → members_by k T i j n r ≡ tested_c (join (Kind.Array (c + n)) (record { out = r.out; deep = max j.extent.deep (r.deep + 1) }))
  members-array e = rw e
