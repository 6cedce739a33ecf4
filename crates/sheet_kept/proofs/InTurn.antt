-- A value's texts and records, kept and public, are those of its records in turn.
use Rattle.std.specs.Prelude.{◌≡◌, refl, ℕ, suc, ◌+◌, List, ◌∷◌, ◌++◌, true, false, length}
use Rattle.std.proofs.Common.{sym, ap, ◌∙◌, append_assoc, append-nil, arith}
use Rattle.rules.specs.Bytes.{Text}
use Rattle.rules.specs.Tree.{null, boolean, number, string}
use Rattle.rules.specs.Values.{count_values, count_members, own_text, value_record_sizes, member_record_sizes, text_size}
use Rattle.rules.specs.Sheet.{two, text_record, records, value_records, member_records, texts, value_texts, member_texts}
use Rattle.theory.specs.Layout.{length-texts}
use Rattle.sheet_kept.specs.Kept.{Held, simple, listed, keyed, Helds, no-helds, also, HeldFields, no_fields, field, named, named_all, named_fields}
use Rattle.sheet_kept.specs.Kept.{count_helds, count_fields, key_record, kept, kept_all, kept_fields, layout}
use Rattle.sheet_kept.specs.InTurn.{Rec, text_of, kept_rec, laid_rec, in_turn, texts_of, flat_scalar, flat, flat_all, flat_fields, in_turn-append, texts_of-append, flat-scalar-kept, flat-scalar-laid}

-- ---- texts

mutual
  unfolding texts named flat flat_scalar texts_of text_of own_text

  pub flat-texts : (key : ℕ → Text) (v : Held) → texts (named key v) ≡ texts_of (flat key v)
  flat-texts key (simple null) = refl
  flat-texts key (simple (boolean true)) = refl
  flat-texts key (simple (boolean false)) = refl
  flat-texts key (simple (number t)) = sym (append-nil t)
  flat-texts key (simple (string t)) = sym (append-nil t)
  flat-texts key (listed vs) = flat-texts-all key vs
  flat-texts key (keyed ms) = flat-texts-fields key ms

  flat-texts-all : (key : ℕ → Text) (vs : Helds) → value_texts (named_all key vs) ≡ texts_of (flat_all key vs)
  flat-texts-all key no-helds = refl
  flat-texts-all key (also v vs) = rw (texts_of-append (flat key v) (flat_all key vs), flat-texts key v, flat-texts-all key vs)

  flat-texts-fields : (key : ℕ → Text) (ms : HeldFields) → member_texts (named_fields key ms) ≡ texts_of (flat_fields key ms)
  flat-texts-fields key no_fields = refl
  flat-texts-fields key (field k v ms) =
      rw (texts_of-append (flat key v) (flat_fields key ms), flat-texts key v, flat-texts-fields key ms)
      (append_assoc (key k) (texts_of (flat key v)) (texts_of (flat_fields key ms)))

pub flat-size : (key : ℕ → Text) (v : Held) → length (texts_of (flat key v)) ≡ text_size (named key v)
flat-size key v = ap length (sym (flat-texts key v)) ∙ length-texts (named key v)

-- ---- records

-- two lists of records, one behind the other
behind : (f : ℕ → Rec → List ℕ) (key : ℕ → Text) (t : ℕ) (v : Held) (rs : List Rec) {a b : List ℕ} → a ≡ in_turn f t (flat key v) → b ≡ in_turn f (t + text_size (named key v)) rs
    → a ++ b ≡ in_turn f t (flat key v ++ rs)
behind f key t v rs {a} {b} e h = rw (in_turn-append f t (flat key v) rs, flat-size key v, e, h)

plain-text : (t : ℕ) → t ≡ t + 0
plain-text t = omega arith

mutual
  unfolding kept flat in_turn kept_rec text_of

  pub kept-flat : (key : ℕ → Text) (t : ℕ) (v : Held) → kept key t v ≡ in_turn kept_rec t (flat key v)
  kept-flat key t (simple x) = flat-scalar-kept t x
  kept-flat key t (listed vs) =
      ap (λ (x : List ℕ). 6 ∷ two (value_record_sizes (named_all key vs)) ++ x)
      (kept-flat-all key t vs ∙ ap (λ (x : ℕ). in_turn kept_rec x (flat_all key vs)) (plain-text t))
  kept-flat key t (keyed ms) =
      ap (λ (x : List ℕ). 7 ∷ two (member_record_sizes (named_fields key ms)) ++ x)
      (kept-flat-fields key t ms ∙ ap (λ (x : ℕ). in_turn kept_rec x (flat_fields key ms)) (plain-text t))

  pub kept-flat-all : (key : ℕ → Text) (t : ℕ) (vs : Helds) → kept_all key t vs ≡ in_turn kept_rec t (flat_all key vs)
  kept-flat-all key t no-helds = refl
  kept-flat-all key t (also v vs) = behind kept_rec key t v (flat_all key vs) (kept-flat key t v) (kept-flat-all key (t + text_size (named key v)) vs)

  pub kept-flat-fields : (key : ℕ → Text) (t : ℕ) (ms : HeldFields) → kept_fields key t ms ≡ in_turn kept_rec t (flat_fields key ms)
  kept-flat-fields key t no_fields = refl
  kept-flat-fields key t (field k v ms) =
      let u = t + length (key k) in
      append_assoc (key_record k (key k)) (kept key u v) (kept_fields key (u + text_size (named key v)) ms)
      ∙ ap (λ (x : List ℕ). key_record k (key k) ++ x) (behind kept_rec key u v (flat_fields key ms) (kept-flat key u v) (kept-flat-fields key (u + text_size (named key v)) ms))

count-named : (key : ℕ → Text) (vs : Helds) → count_values (named_all key vs) ≡ count_helds vs
unfolding count_values count_helds named
count-named key no-helds = refl
count-named key (also v vs) = ap suc (count-named key vs)

count-named-fields : (key : ℕ → Text) (ms : HeldFields) → count_members (named_fields key ms) ≡ count_fields ms
unfolding count_members count_fields named
count-named-fields key no_fields = refl
count-named-fields key (field k v ms) = ap suc (count-named-fields key ms)

mutual
  unfolding records named flat in_turn laid_rec text_of

  pub laid-flat : (key : ℕ → Text) (t : ℕ) (v : Held) → records t (named key v) ≡ in_turn laid_rec t (flat key v)
  laid-flat key t (simple x) = flat-scalar-laid t x
  laid-flat key t (listed vs) =
      rw (count-named key vs) (ap (λ (x : List ℕ). 6 ∷ two (count_helds vs) ++ x) (laid-flat-all key t vs ∙ ap (λ (x : ℕ). in_turn laid_rec x (flat_all key vs)) (plain-text t)))
  laid-flat key t (keyed ms) =
      rw (count-named-fields key ms) (ap (λ (x : List ℕ). 7 ∷ two (count_fields ms) ++ x) (laid-flat-fields key t ms ∙ ap (λ (x : ℕ). in_turn laid_rec x (flat_fields key ms)) (plain-text t)))

  laid-flat-all : (key : ℕ → Text) (t : ℕ) (vs : Helds) → value_records t (named_all key vs) ≡ in_turn laid_rec t (flat_all key vs)
  laid-flat-all key t no-helds = refl
  laid-flat-all key t (also v vs) = behind laid_rec key t v (flat_all key vs) (laid-flat key t v) (laid-flat-all key (t + text_size (named key v)) vs)

  laid-flat-fields : (key : ℕ → Text) (t : ℕ) (ms : HeldFields) → member_records t (named_fields key ms) ≡ in_turn laid_rec t (flat_fields key ms)
  laid-flat-fields key t no_fields = refl
  laid-flat-fields key t (field k v ms) =
      let u = t + length (key k) in
      append_assoc (text_record 8 t (key k)) (records u (named key v)) (member_records (u + text_size (named key v)) (named_fields key ms))
      ∙ ap (λ (x : List ℕ). text_record 8 t (key k) ++ x) (behind laid_rec key u v (flat_fields key ms) (laid-flat key u v) (laid-flat-fields key (u + text_size (named key v)) ms))

pub layout-flat : (key : ℕ → Text) (t : ℕ) (v : Held) → layout key t v ≡ in_turn laid_rec t (flat key v)
unfolding layout
layout-flat key t v = laid-flat key t v
