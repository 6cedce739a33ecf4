-- One law for each answer.
use mathlib.Core.Path.{◌≡◌, sym, ap, ◌∙◌}
use Prim.Native.Nat.{ℕ, ◌+◌, ◌≤◌, max}
use mathlib.Core.Bool.{Bool, true, false}
use mathlib.Core.List.{List}
use Rattle.std.specs.Prelude.{Err}
use native.Mathlib.Omega.{arith}
use mir.Syntax.{w64}
use mir.Val.{Fits}
use Rattle.text_chars.specs.declared.Refusal.{Refusal}
use Rattle.eval_writer.specs.declared.Out.{Out}
use Rattle.eval_results.specs.Sizes.Contracts.{within_c}
use Rattle.eval_results.specs.declared.extents.Extent.{Extent}
use Rattle.eval_concat.specs.Model.{Joined, join, too_large_c, mixed_at, tested_c, piece_c, members_c}
use Rattle.eval_concat.specs.Kinds.{members-simple, members-object, members-blank, members-array}
use Rattle.eval_concat.specs.Clauses.{farthest, most_count, NearKind, MembersAddedIs, MembersJoinedIs}
use Rattle.eval_concat.specs.declared.Kind.{Kind}
use Rattle.eval_concat.specs.declared.Join.{Join}

module _ {T : List ℕ} {i : ℕ} {j : Join} {n : ℕ} {r : Extent} where
  pub add-simple : {e : Refusal} → j.kind ≡ Kind.Simple → e ≡ mixed_at T i → MembersAddedIs T i j n r (Err e)
  add-simple k e = record { is = ap Err e ∙ sym (members-simple j.kind T i j n r k) }

  pub add-object : {e : Refusal} → j.kind ≡ Kind.Object → e ≡ mixed_at T i → MembersAddedIs T i j n r (Err e)
  add-object k e = record { is = ap Err e ∙ sym (members-object j.kind T i j n r k) }

  pub add-blank : j.kind ≡ Kind.Blank → {q : Joined} → q ≡ tested_c (join (Kind.Array n) (record { out = r.out; deep = r.deep + 1 }))
      → MembersAddedIs T i j n r q
  add-blank k e = record { is = e ∙ sym (members-blank j.kind T i j n r k) }

  pub add-array : {c d : ℕ} → j.kind ≡ Kind.Array c → d ≡ max j.extent.deep (r.deep + 1)
      → {q : Joined} → q ≡ tested_c (join (Kind.Array (c + n)) (record { out = r.out; deep = d })) → MembersAddedIs T i j n r q
  add-array {c} k f e = record {
    is = e ∙ ap (λ (m : ℕ). tested_c (join (Kind.Array (c + n)) (record { out = r.out; deep = m }))) f ∙ sym (members-array j.kind T i j n r k);
  }

pub add-fits : {k : Kind} {c n : ℕ} → k ≡ Kind.Array c → NearKind k → n ≤ farthest → Fits w64 (c + n)
add-fits {k} {c} {n} e h l = let z : c ≤ most_count = near e h in record { fits = omega arith }
  where
    near : k ≡ Kind.Array c → NearKind k → c ≤ most_count
    near e h = let z : NearKind (Kind.Array c) = rw e at h in z

pub ruleset add-laws = (add-simple, add-object, add-blank, add-array, add-fits)

module _ {T : List ℕ} {i : ℕ} {j : Join} {from : Out} {n : ℕ} {r : Extent} {s : Extent} {f : Bool} (z : s ≡ piece_c from r) (h : f ≡ within_c s) where
  pub members-small : {q : Joined} → f ≡ true → MembersAddedIs T i j n r q → MembersJoinedIs T i j from n r q
  unfolding members_c
  members-small e m = record { is = m.is ∙ rw (members_c, sym (ap within_c z) ∙ sym h ∙ e) }

  pub members-large : {e : Refusal} → f ≡ false → e ≡ too_large_c → MembersJoinedIs T i j from n r (Err e)
  unfolding members_c
  members-large e q = record { is = ap Err q ∙ rw (members_c, sym (ap within_c z) ∙ sym h ∙ e) }

pub ruleset members-laws = (members-small, members-large)
