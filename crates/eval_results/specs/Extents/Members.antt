-- Members that were written one behind the other, where counters end at a bound; and the array or object that has them.
use Rattle.std.specs.Prelude.{◌≡◌, ℕ, ◌+◌, ◌<◌, min, List, ◌∷◌}
use native.Mathlib.Omega.{arith}
use Rattle.std.proofs.Math.ListN.{length}
use Rattle.rules.specs.Bytes.{Text}
use Rattle.rules.specs.Values.{record_size, value_record_sizes, member_record_sizes, text_size, value_text_sizes, member_text_sizes}
use Rattle.rules.specs.Values.{nesting_of, deepest_value, deepest_member}
use Rattle.rules.specs.Sheet.{two}
use Rattle.sheet_kept.specs.Kept.{Held, listed, keyed, Helds, no-helds, also, HeldFields, no_fields, field, named, named_all, named_fields}
use Rattle.sheet_kept.specs.InTurn.{extent}
use Rattle.sheet_kept.specs.Building.{with_held, with_field, deepest-held, deepest-field}
use Rattle.eval_writer.specs.Clauses.{Puts, KeyWrote}
use Rattle.eval_writer.specs.Keys.{KeyIn}
use Rattle.eval_writer.specs.Building.{WrittenAll, WrittenFields, inside, all_none, all_more, fields-none, fields-more, written-array, written-object, key-is}
use Rattle.eval_writer.specs.declared.Out.{Out}
use Rattle.eval_results.specs.Extents.Contracts.{far, NotPast, ClipOutIs, ClipIs, inside_c, more_c}
use Rattle.eval_results.specs.Extents.Came.{Came, clipped-out}
use Rattle.eval_results.specs.declared.extents.Extent.{Extent}

pub record CameAll (key : ℕ → Text) (vs : Helds) (o : Out) (r : Extent) (b a : List ℕ) : Type 0 where
  pub exact : r.out.rec.0 < far → r.out.text.0 < far → WrittenAll key vs o r.out b a
  pub rec : r.out.rec.0 ≡ min far (o.rec.0 + value_record_sizes (named_all key vs))
  pub text : r.out.text.0 ≡ min far (o.text.0 + value_text_sizes (named_all key vs))
  pub deep : r.deep ≡ min far (deepest_value (named_all key vs))

pub record CameFields (key : ℕ → Text) (ms : HeldFields) (o : Out) (r : Extent) (b a : List ℕ) : Type 0 where
  pub exact : r.out.rec.0 < far → r.out.text.0 < far → WrittenFields key ms o r.out b a
  pub rec : r.out.rec.0 ≡ min far (o.rec.0 + member_record_sizes (named_fields key ms))
  pub text : r.out.text.0 ≡ min far (o.text.0 + member_text_sizes (named_fields key ms))
  pub deep : r.deep ≡ min far (deepest_member (named_fields key ms))

abbrev pub begun : Out → Extent
begun o = record { out = o; deep = 0 }

-- ---- sizes with one member more

module _ (key : ℕ → Text) where
  records-held : (vs : Helds) (w : Held) → value_record_sizes (named_all key (with_held vs w)) ≡ value_record_sizes (named_all key vs) + record_size (named key w)
  unfolding named record_size with_held
  records-held no-helds w = omega arith
  records-held (also v vs) w = omega (arith, records-held vs w)

  texts-held : (vs : Helds) (w : Held) → value_text_sizes (named_all key (with_held vs w)) ≡ value_text_sizes (named_all key vs) + text_size (named key w)
  unfolding named text_size with_held
  texts-held no-helds w = omega arith
  texts-held (also v vs) w = omega (arith, texts-held vs w)

  records-field : (ms : HeldFields) (k : ℕ) (w : Held)
      → member_record_sizes (named_fields key (with_field ms k w)) ≡ member_record_sizes (named_fields key ms) + (5 + record_size (named key w))
  unfolding named record_size with_field
  records-field no_fields k w = omega arith
  records-field (field j v ms) k w = omega (arith, records-field ms k w)

  texts-field : (ms : HeldFields) (k : ℕ) (w : Held)
      → member_text_sizes (named_fields key (with_field ms k w)) ≡ member_text_sizes (named_fields key ms) + (length (key k) + text_size (named key w))
  unfolding named text_size with_field
  texts-field no_fields k w = omega arith
  texts-field (field j v ms) k w = omega (arith, texts-field ms k w)

-- ---- elements

module _ {key : ℕ → Text} where
  pub came-none : {o : Out} {b : List ℕ} → NotPast o → CameAll key no-helds o (begun o) b b
  unfolding named record_size text_size nesting_of
  came-none {o} {b} p =
      record {
        exact = λ l m. all_none;
        rec = omega (arith, p.rec);
        text = omega (arith, p.text);
        deep = omega arith;
      }

  pub came-more : {vs : Helds} {w : Held} {o : Out} {q m : Extent} {b x a : List ℕ} → CameAll key vs o q b x → Came key w q.out m x a
      → CameAll key (with_held vs w) o (more_c q m) b a
  came-more {vs} {w} {o} {q} {m} {b} {x} {a} f g =
      record {
        exact = λ l n. record { is = (all_more (f.exact (omega (arith, g.rec)) (omega (arith, g.text))) (g.exact l n)).is };
        rec = omega (arith, f.rec, g.rec, records-held key vs w);
        text = omega (arith, f.text, g.text, texts-held key vs w);
        deep = omega (arith, f.deep, g.deep, deepest-held key vs w);
      }

  -- the head is written after its members, which begin three bytes behind it: it says how long they are
  pub came-array : {vs : Helds} {o i : Out} {q r : Extent} {b x a : List ℕ} → ClipOutIs (inside o) i → CameAll key vs i q b x
      → Puts o.rec.0 (6 ∷ two (inside_c o q.out)) x a → ClipIs q.out (q.deep + 1) r → Came key (listed vs) o r b a
  unfolding named record_size text_size nesting_of
  came-array {vs} {o} {i} {q} {r} {b} {x} {a} p f h c =
      record {
        exact = λ l m.
            let e : i.rec.0 < far = omega (arith, f.rec, c.out.rec) in
            let g : i.text.0 < far = omega (arith, f.text, c.out.text) in
            let w : WrittenAll key vs (inside o) r.out b x =
            rw (clipped-out p e g, ← clipped-out c.out l m) (f.exact (omega (arith, c.out.rec)) (omega (arith, c.out.text))) in
            let n : inside_c o q.out ≡ value_record_sizes (named_all key vs) = omega (arith, f.rec, p.rec, c.out.rec) in
            written-array w (rw n at h);
        rec = omega (arith, c.out.rec, f.rec, p.rec);
        text = omega (arith, c.out.text, f.text, p.text);
        deep = omega (arith, c.deep, f.deep);
      }

  -- ---- fields

  pub came-no-fields : {o : Out} {b : List ℕ} → NotPast o → CameFields key no_fields o (begun o) b b
  unfolding named record_size text_size nesting_of
  came-no-fields {o} {b} p =
      record {
        exact = λ l m. fields-none;
        rec = omega (arith, p.rec);
        text = omega (arith, p.text);
        deep = omega arith;
      }

  -- a key and its value
  pub came-field : {ms : HeldFields} {k : ℕ} {w : Held} {T s : List ℕ} {o p i : Out} {q m : Extent} {b x y a : List ℕ}
      → CameFields key ms o q b x → KeyIn key T s k → KeyWrote T s k q.out p x y → ClipOutIs p i → Came key w i m y a
      → CameFields key (with_field ms k w) o (more_c q m) b a
  unfolding extent two
  came-field {ms} {k} {w} {T} {s} {o} {p} {i} {q} {m} {b} {x} {y} {a} f j h z g =
      let d : p.rec.0 ≡ q.out.rec.0 + 5 = h.is.rec in
      let v : p.text.0 ≡ q.out.text.0 + length (key k) = omega (arith, (key-is j h).text) in
      record {
        exact = λ l n.
            let u : p ≡ i = clipped-out z (omega (arith, g.rec)) (omega (arith, g.text)) in
            let e = f.exact (omega (arith, g.rec, z.rec)) (omega (arith, g.text, z.text)) in
            record { is = (fields-more e j (rw (← u) h) (g.exact l n)).is };
        rec = omega (arith, f.rec, g.rec, z.rec, records-field key ms k w);
        text = omega (arith, f.text, g.text, z.text, texts-field key ms k w);
        deep = omega (arith, f.deep, g.deep, deepest-field key ms k w);
      }

  pub came-object : {ms : HeldFields} {o i : Out} {q r : Extent} {b x a : List ℕ} → ClipOutIs (inside o) i → CameFields key ms i q b x
      → Puts o.rec.0 (7 ∷ two (inside_c o q.out)) x a → ClipIs q.out (q.deep + 1) r → Came key (keyed ms) o r b a
  unfolding named record_size text_size nesting_of
  came-object {ms} {o} {i} {q} {r} {b} {x} {a} p f h c =
      record {
        exact = λ l m.
            let e : i.rec.0 < far = omega (arith, f.rec, c.out.rec) in
            let g : i.text.0 < far = omega (arith, f.text, c.out.text) in
            let w : WrittenFields key ms (inside o) r.out b x =
            rw (clipped-out p e g, ← clipped-out c.out l m) (f.exact (omega (arith, c.out.rec)) (omega (arith, c.out.text))) in
            let n : inside_c o q.out ≡ member_record_sizes (named_fields key ms) = omega (arith, f.rec, p.rec, c.out.rec) in
            written-object w (rw n at h);
        rec = omega (arith, c.out.rec, f.rec, p.rec);
        text = omega (arith, c.out.text, f.text, p.text);
        deep = omega (arith, c.deep, f.deep);
      }
