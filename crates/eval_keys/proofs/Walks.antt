-- The walk along a bucket: laws for `find_in`, one for each return.
use mathlib.Core.Path.{◌≡◌, sym, ap, ◌∙◌}
use mathlib.Core.Bool.{Bool, true, false}
use mathlib.Core.List.{List}
use Prim.Native.Nat.{ℕ, ◌+◌, ◌≤◌, ◌<◌}
use native.Mathlib.Omega.{arith}
use Rattle.rules.specs.Bytes.{byte_at}
use Rattle.theory.specs.Layout.{same-eq}
use Rattle.doc_items.specs.Writing.{ReadIs}
use Rattle.eval_keys.specs.Texts.{text_of, bucket_of, same_false}
use Rattle.eval_keys.specs.Columns.{buckets_at, links_at, newest_at, link_at, is_field, key_text}
use Rattle.eval_keys.specs.Numbers.{Walk, Numbered}
use Rattle.eval_keys.specs.Finding.{found-is, walk_start, walk-hit, walk-falls, walk-next, walk_end}
use Rattle.eval_keys.specs.Clauses.{number_bound, BucketIs, HasKeyIs, FindIs}

pub record FindInv (X T : List ℕ) (at len q : ℕ) : Type 0 where
  pub is : (n : ℕ) → Numbered X T n → Walk bucket_of (is_field T) (key_text X T) n (text_of (byte_at X) at len) q
  pub small : q < number_bound

pub find-start : {T X : List ℕ} {at len b q : ℕ} → BucketIs X at len b → ReadIs T (buckets_at + b) q → FindInv X T at len q
find-start {T} {X} {at} {len} {b} {q} h r =
    let e : newest_at T (bucket_of (text_of (byte_at X) at len)) ≡ q = ap (newest_at T) (sym h.is) ∙ sym r.is in
    record {
      is = λ n N. rw e at (walk_start bucket_of (is_field T) (key_text X T) N.chains (text_of (byte_at X) at len));
      small = r.small;
    }

module _ {T X : List ℕ} {at len q : ℕ} (I : FindInv X T at len q) where
  module _ {y : Bool} (d : q ≡ 0 → ⊥) (t : HasKeyIs X T q at len y) where
    pub find-hit : y ≡ true → FindIs X T at len q
    find-hit e = record {
      is = λ n N. found-is (is_field T) (key_text X T) (text_of (byte_at X) at len) n q
          (walk-hit bucket_of (is_field T) (key_text X T) N.chains (text_of (byte_at X) at len) (I.is n N) (omega arith)
          (same-eq (key_text X T q) (text_of (byte_at X) at len) (sym t.is ∙ e)));
      small = I.small;
    }

    module _ {m : ℕ} (e : y ≡ false) (r : ReadIs T (links_at + q) m) where
      pub find-stuck : q ≤ m → FindIs X T at len 0
      find-stuck l = record {
        is = λ n N.
            let f : link_at T q < q = walk-falls bucket_of (is_field T) (key_text X T) N.chains (text_of (byte_at X) at len) (I.is n N) (omega arith) in
            let g : m ≡ link_at T q = r.is in
            absurd (omega arith);
        small = omega arith;
      }

      pub find-again : FindInv X T at len m
      find-again = record {
        is = λ n N. rw r.is (walk-next bucket_of (is_field T) (key_text X T) N.chains (text_of (byte_at X) at len) (I.is n N) (omega arith)
            (same_false (key_text X T q) (text_of (byte_at X) at len) (sym t.is ∙ e)));
        small = r.small;
      }

  pub find-end : q ≡ 0 → FindIs X T at len 0
  find-end z = record {
    is = λ n N. found-is (is_field T) (key_text X T) (text_of (byte_at X) at len) n 0
        (walk_end bucket_of (is_field T) (key_text X T) N.chains (text_of (byte_at X) at len) (I.is n N) z);
    small = omega arith;
  }

pub ruleset finds = (find-start, find-hit, find-stuck, find-again, find-end)
