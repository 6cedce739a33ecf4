-- Two arrays' elements one behind the other: as values, as records and texts, and as they are written.
use Rattle.std.specs.Prelude.{◌≡◌, ℕ, suc, ◌+◌, max, length}
use Rattle.std.proofs.Math.Path.{refl, sym, ap}
use Rattle.std.proofs.Common.{◌∙◌, arith}
use mathlib.Core.List.{List, ◌++◌, append_assoc}
use Rattle.rules.specs.Bytes.{Text}
use Rattle.rules.specs.Values.{Values, no-values, val, join_values, nesting_of, deepest_value, record_size, text_size}
use Rattle.rules.specs.Sheet.{two}
use Rattle.sheet_kept.specs.Kept.{listed, Helds, no-helds, also, named, named_all, count_helds, kept, kept_all}
use Rattle.sheet_kept.specs.InTurn.{Rec, kept_rec, in_turn, texts_of, flat, flat_all, words_rec, words_of, extent, in_turn-append}
use Rattle.sheet_kept.proofs.InTurn.{kept-flat-all}
use Rattle.sheet_kept.specs.Sizes.{words_append, words-extent}
use Rattle.sheet_kept.proofs.Sizes.{kept-records, value-extent}
use Rattle.eval_writer.specs.Clauses.{Wrote}
use Rattle.eval_writer.specs.Composition.{wrote_then}
use Rattle.eval_writer.specs.Building.{WrittenAll}
use Rattle.eval_writer.specs.declared.Out.{Out}

unfoldable pub join_helds : Helds → Helds → Helds
join_helds no-helds ws = ws
join_helds (also v vs) ws = also v (join_helds vs ws)

pub named-join : (key : ℕ → Text) (vs ws : Helds) → named_all key (join_helds vs ws) ≡ join_values (named_all key vs) (named_all key ws)
unfolding join_helds named join_values
named-join key no-helds ws = refl
named-join key (also v vs) ws = ap (val (named key v)) (named-join key vs ws)

pub count-join : (vs ws : Helds) → count_helds (join_helds vs ws) ≡ count_helds vs + count_helds ws
unfolding join_helds count_helds
count-join no-helds ws = omega arith
count-join (also v vs) ws = let h = count-join vs ws in omega arith

pub deepest-join : (vs ws : Values) → deepest_value (join_values vs ws) ≡ max (deepest_value vs) (deepest_value ws)
unfolding join_values nesting_of
deepest-join no-values ws = omega arith
deepest-join (val v vs) ws = let h = deepest-join vs ws in omega arith

-- ---- as they are written

module _ (key : ℕ → Text) where
  flat-join : (vs ws : Helds) → flat_all key (join_helds vs ws) ≡ flat_all key vs ++ flat_all key ws
  unfolding flat join_helds
  flat-join no-helds ws = refl
  flat-join (also v vs) ws =
      ap (λ (q : List Rec). flat key v ++ q) (flat-join vs ws) ∙ sym (append_assoc (flat key v) (flat_all key vs) (flat_all key ws))

  kept-join : (t : ℕ) (vs ws : Helds)
      → kept_all key t vs ++ kept_all key (t + extent (words_of (flat_all key vs))) ws ≡ kept_all key t (join_helds vs ws)
  kept-join t vs ws =
      let rs = flat_all key vs in
      sym (kept-flat-all key t (join_helds vs ws) ∙ ap (in_turn kept_rec t) (flat-join vs ws) ∙ in_turn-append kept_rec t rs (flat_all key ws)
      ∙ rw (kept-flat-all key t vs, words-extent rs, kept-flat-all key (t + length (texts_of rs)) ws))

  words-join : (vs ws : Helds) → words_of (flat_all key vs) ++ words_of (flat_all key ws) ≡ words_of (flat_all key (join_helds vs ws))
  words-join vs ws = sym (ap words_of (flat-join vs ws) ∙ words_append (flat_all key vs) (flat_all key ws))

pub all_then : {key : ℕ → Text} {vs ws : Helds} {o q r : Out} {b x a : List ℕ} → WrittenAll key vs o q b x → WrittenAll key ws q r x a
    → WrittenAll key (join_helds vs ws) o r b a
all_then {key} {vs} {ws} {o} {q} {r} {b} {x} {a} f g =
    let w : Wrote (kept_all key o.text.0 vs ++ kept_all key (o.text.0 + extent (words_of (flat_all key vs))) ws)
    (words_of (flat_all key vs) ++ words_of (flat_all key ws)) o r b a =
    rw (sym f.is.text) (wrote_then f.is g.is) in
    record { is = rw (kept-join key o.text.0 vs ws, words-join key vs ws) at w }

-- ---- an array's size by where its elements begin and end

pub all-records : {key : ℕ → Text} {vs : Helds} {o r : Out} {b a : List ℕ} → WrittenAll key vs o r b a
    → r.rec.0 + 3 ≡ o.rec.0 + record_size (named key (listed vs))
unfolding kept two
all-records {key} {vs} {o} f =
    let e : suc (suc (suc (length (kept_all key o.text.0 vs)))) ≡ record_size (named key (listed vs)) = kept-records key o.text.0 (listed vs) in
    omega (arith, f.is.rec)

pub all-texts : {key : ℕ → Text} {vs : Helds} {o r : Out} {b a : List ℕ} → WrittenAll key vs o r b a
    → r.text.0 ≡ o.text.0 + text_size (named key (listed vs))
unfolding flat words_of words_rec
all-texts {key} {vs} {o} f =
    let e : extent (words_of (flat_all key vs)) ≡ text_size (named key (listed vs)) = value-extent key (listed vs) in
    omega (arith, f.is.text)
