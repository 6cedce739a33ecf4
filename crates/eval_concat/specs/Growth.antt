-- How far a join's counters go, whatever the tables hold: what a loop over the pieces keeps, so that each piece may be joined.
use Rattle.std.specs.Prelude.{◌≡◌, Bool, List, leb, Ok, Err, Some}
use Rattle.std.proofs.Math.Path.{refl}
use Rattle.std.proofs.Common.{sym, ◌∙◌, arith}
use Prim.Native.Nat.{ℕ, ◌+◌, ◌≤◌, ◌<◌, max}
use Rattle.std.proofs.Math.Bool.{true, false, cond}
use Rattle.std.proofs.Math.ListN.{length}
use Rattle.rules.specs.Bytes.{Text}
use Rattle.rules.specs.Sizes.{max_text}
use Rattle.text_chars.specs.Clash.{clash}
use Rattle.doc_items.specs.Room.{number_bound}
use Rattle.eval_writer.specs.Model.{key_len}
use Rattle.eval_writer.specs.declared.Out.{Out}
use Rattle.eval_results.specs.declared.extents.Extent.{Extent}
use Rattle.eval_results.specs.Sizes.Contracts.{within_c}
use Rattle.eval_results.specs.Sizes.Answers.{within-texts}
use Rattle.eval_concat.specs.Model.{Joined, too_large_c, join, text_of, blank_join, text_join, mixed_at, tested_c, takes_text, nothing_by, nothing_c, text_c, piece_c, members_by, members_c}
use Rattle.eval_concat.specs.Objects.{ObjectJoined, object_by, object_c, ObjectIs}
use Rattle.eval_concat.specs.Clauses.{most_count, NearKind, TextJoinedIs, NothingIs, MembersJoinedIs}
use Rattle.eval_concat.specs.declared.Kind.{Kind}
use Rattle.eval_concat.specs.declared.Join.{Join}

abbrev pub CountBelow : ℕ → Kind → Type 0
CountBelow c Kind.Blank = Unit {0}
CountBelow c Kind.Simple = Unit {0}
CountBelow c (Kind.Array count) = count ≤ c
CountBelow c Kind.Object = Unit {0}

-- its text is no longer than t, and it has no more elements than c
pub record Below (t c : ℕ) (j : Join) : Type 0 where
  pub text : text_of j ≤ t
  pub count : CountBelow c j.kind

pub none_below : {t c : ℕ} → Below t c (blank_join 0)
none_below = record { text = omega arith; count = tt }

count-kind : (k : Kind) (c : ℕ) → c ≤ most_count → CountBelow c k → NearKind k
count-kind Kind.Blank c l h = tt
count-kind Kind.Simple c l h = tt
count-kind (Kind.Array n) c l h = omega arith
count-kind Kind.Object c l h = tt

-- what `join_members` asks of it
pub below-kind : {t c : ℕ} {j : Join} → c ≤ most_count → Below t c j → NearKind j.kind
below-kind {t} {c} {j} l h = count-kind j.kind c l h.count

-- ---- a join that was tested

count-more : (k : Kind) (c d : ℕ) → c ≤ d → CountBelow c k → CountBelow d k
count-more Kind.Blank c d l h = tt
count-more Kind.Simple c d l h = tt
count-more (Kind.Array n) c d l h = omega arith
count-more Kind.Object c d l h = tt

more-below : {t c u d : ℕ} {j : Join} → t ≤ u → c ≤ d → Below t c j → Below u d j
more-below {t} {c} {u} {d} {j} k l h = let e = h.text in record { text = omega arith; count = count-more j.kind c d l h.count }

pub tested-below : {u c : ℕ} (j k : Join) → max_text ≤ u → CountBelow c j.kind → tested_c j ≡ Ok k → Below u c k
unfolding tested_c
tested-below {u} {c} j k l n e = go (within_c j.extent) refl e
  where
    go : (t : Bool) → within_c j.extent ≡ t → cond t (Ok j) (Err too_large_c) ≡ Ok k → Below u c k
    go true w q = let z : j ≡ k = cc in let m = within-texts j.extent w in rw (sym z) (record { text = omega arith; count = n })
    go false w q = clash (cc)

module _ {T : List ℕ} {i : ℕ} {j k : Join} {t c u : ℕ} (high : max_text ≤ u) where
  pub nothing-below : {X b a : List ℕ} {r : Joined} → t + number_bound ≤ u → Below t c j → NothingIs T X i j b a r → r ≡ Ok k → Below u c k
  unfolding nothing_c
  nothing-below l h w e = go j.kind h.count w.near (sym w.is ∙ e)
    where
      go : (q : Kind) → CountBelow c q → (takes_text q ≡ true → key_len T i < number_bound) → nothing_by q j (text_of j + key_len T i) ≡ Ok k
          → Below u c k
      go Kind.Blank n g e =
          let z : blank_join (text_of j + key_len T i) ≡ k = cc in
          let m = g refl in
          let x = h.text in
          rw (sym z) (record { text = omega arith; count = tt })
      go Kind.Simple n g e = tested-below (text_join (text_of j + key_len T i)) k high tt e
      go (Kind.Array m) n g e = let z : j ≡ k = cc in rw (sym z) (more-below (omega arith) (omega arith) h)
      go Kind.Object n g e = let z : j ≡ k = cc in rw (sym z) (more-below (omega arith) (omega arith) h)

  pub members-below : {n d : ℕ} {from : Out} {r : Extent} {s : Joined} → Below t c j → c + n ≤ d → MembersJoinedIs T i j from n r s → s ≡ Ok k
      → Below u d k
  unfolding members_c
  members-below {n} {d} {from} {r} h m w e = go (within_c (piece_c from r)) j.kind h.count (sym w.is ∙ e)
    where
      go : (s : Bool) (q : Kind) → CountBelow c q → cond s (members_by q T i j n r) (Err too_large_c) ≡ Ok k → Below u d k
      go true Kind.Blank v e = tested-below (join (Kind.Array n) (record { out = r.out; deep = r.deep + 1 })) k high (omega arith) e
      go true Kind.Simple v e = clash (cc)
      go true (Kind.Array a) v e =
          tested-below (join (Kind.Array (a + n)) (record { out = r.out; deep = max j.extent.deep (r.deep + 1) })) k high (omega arith) e
      go true Kind.Object v e = clash (cc)
      go false q v e = clash (cc)

module _ {T : List ℕ} {i : ℕ} {j k : Join} {u c : ℕ} (high : max_text ≤ u) where
  pub text-below : {X b a : List ℕ} {s : Text} {r : Joined} → TextJoinedIs T X i s j b a r → r ≡ Ok k → Below u c k
  unfolding text_c
  text-below {s = s} w e = go (leb (length s) max_text) (takes_text j.kind) (sym w.is ∙ e)
    where
      go : (q v : Bool) → cond q (cond v (tested_c (text_join (text_of j + key_len T i + length s))) (Err (mixed_at T i))) (Err too_large_c) ≡ Ok k
          → Below u c k
      go true true e = tested-below (text_join (text_of j + key_len T i + length s)) k high tt e
      go true false e = clash (cc)
      go false v e = clash (cc)

  pub object-below : {p : Extent} {r : ObjectJoined} → ObjectIs T i j p r → r ≡ Ok (Some k) → Below u c k
  unfolding object_c
  object-below {p} w e = go (within_c p) refl j.kind (sym w.is ∙ e)
    where
      go : (s : Bool) → within_c p ≡ s → (q : Kind) → cond s (object_by q T i p) (Err too_large_c) ≡ Ok (Some k) → Below u c k
      go true v Kind.Blank e =
          let z : join Kind.Object p ≡ k = cc in
          let m = within-texts p v in
          rw (sym z) (record { text = omega arith; count = tt })
      go true v Kind.Simple e = clash (cc)
      go true v (Kind.Array a) e = clash (cc)
      go true v Kind.Object e = clash (cc)
      go false v q e = clash (cc)
