-- Ends made and taken apart, for the callers too: what an answer says of the rules' definition.
use Rattle.std.specs.Prelude.{Some, None, ◌≡◌, refl, List, ℕ, ◌+◌, ◌≤◌, length}
use Rattle.std.proofs.Common.{sym, ◌∙◌, ap, arith}
use Rattle.std.proofs.Math.Option.{Option, none, some}
use Rattle.rules.specs.Sizes.{max_room}
use Rattle.sheet_records.specs.Kinds.Contracts.{End, near_room, rec, end_at, Between, EndIs}
use Rattle.text_chars.specs.declared.RecAt.{RecAt}

pub clash : {A : Type 0} → ◌≡◌ {A = ℕ} 0 1 → A
clash e = absurd (omega arith)

module _ {o : Option ℕ} {low high : ℕ} where
  pub end-some : {p : ℕ} → o ≡ some p → low ≤ p → p ≤ high → EndIs o low high (Some (rec p))
  end-some e l h = record { is = rw e; between = (l, h) }

  pub end_none : o ≡ none → EndIs o low high None
  end_none e = record { is = rw e; between = tt }

  -- no end, as a `?` hands it on
  pub end-gone : {r : End} → o ≡ none → r ≡ None → EndIs o low high r
  end-gone e k = rw k (end_none e)

  module _ {r : End} (h : EndIs o low high r) where
    pub some_is : {e : RecAt} → r ≡ Some e → o ≡ some e.0
    some_is {e} k = go o (sym h.is ∙ k)
      where
        go : (o : Option ℕ) → end_at o ≡ Some e → o ≡ some e.0
        go none z = clash (cc)
        go (some p) z = let i : rec p ≡ e = cc in ap (λ (x : RecAt). some x.0) i

    pub none_is : r ≡ None → o ≡ none
    none_is k = go o (sym h.is ∙ k)
      where
        go : (o : Option ℕ) → end_at o ≡ None → o ≡ none
        go none z = refl
        go (some p) z = clash (cc)

    pub between_is : {e : RecAt} → r ≡ Some e → (low ≤ e.0) × (e.0 ≤ high)
    between_is k = rw k at h.between

-- the same end by another definition, and from an earlier place
pub end-as : {o o' : Option ℕ} {low low' high : ℕ} {r : End} → o' ≡ o → low' ≤ low → EndIs o low high r → EndIs o' low' high r
end-as {low = low} {low' = low'} {high = high} {r = r} e l h = record { is = rw e h.is; between = go r h.between }
  where
    go : (r : End) → Between low high r → Between low' high r
    go (Some e) b = (omega arith, b.1)
    go None b = tt

-- a place that was answered may be asked from
pub value-near : {o : Option ℕ} {low : ℕ} (table : List ℕ) {r : End} {e : RecAt}
    → EndIs o low (length table) r → r ≡ Some e → length table ≤ max_room → e.0 ≤ near_room
value-near table h k l = let b = between_is h k in omega arith

pub member-near : {o : Option ℕ} {low : ℕ} (table : List ℕ) {r : End} {e : RecAt}
    → EndIs o low (length table + 7) r → r ≡ Some e → length table ≤ max_room → e.0 ≤ near_room
member-near table h k l = let b = between_is h k in omega arith
