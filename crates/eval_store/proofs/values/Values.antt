-- Laws of laying and keeping a value.
use mathlib.Core.Path.{◌≡◌, sym, ap, ◌∙◌}
use Prim.Native.Nat.{ℕ, ◌+◌}
use mathlib.Core.List.{List, ◌++◌}
use native.Mathlib.Omega.{arith}
use native.Mathlib.Nat.{le_refl}
use lib.ListN.{length, take, drop, length-drop, take-append-drop}
use lib.Seq.{sets, length-take-le}
use Rattle.rules.specs.Bytes.{Text}
use Rattle.rules.specs.Sizes.{max_records}
use Rattle.rules.specs.Sheet.{texts}
use Rattle.text_chars.specs.Parts.{part, back, part-is, back_is}
use Rattle.sheet_kept.specs.Kept.{Held, named, kept}
use Rattle.sheet_kept.proofs.Sizes.{kept-length}
use Rattle.sheet_kept.specs.Sets.{take-sets, drop-sets}
use Rattle.sheet_kept.specs.Standing.{both-stand}
use Rattle.sheet_forms.specs.declared.Form.{Form}
use Rattle.sheet_layout.specs.Model.{lays}
use Rattle.sheet_layout.specs.Clauses.{Holds, LayIs}
use Rattle.sheet_layout.specs.Sheet.{lays-value}
use Rattle.eval_writer.specs.Clauses.{FilledIs, InRoom}
use Rattle.eval_writer.specs.declared.Out.{Out}
use Rattle.eval_store.specs.Values.Contracts.{Full, LaidIs, KeepAsked, KeepIs}

module _ {room : List ℕ} {o : Out} where
  in-holds : Full room o → {key : ℕ → Text} {v : Held} → InRoom key v room o → Holds key v room o.rec.0
  in-holds f i = record { from = 0; stands = i.records; few = i.few; short = omega (arith, f.rec) }

  pub laid-value : {t : ℕ} {b a x y : List ℕ} → Full room o → LayIs Form.Public room o.rec.0 t b a → FilledIs t room max_records o.text.0 x y → LaidIs room o t b a x y
  laid-value {t} {b} {a} {x} {y} h l f =
      record {
        records = λ key v i. l.laid key v (in-holds h i);
        texts = λ key v i. f.is ∙ ap (sets x t) i.texts;
      }

-- what is set in the part is set in the whole
part-set : (u : ℕ) (x zs : List ℕ) → back u x (sets (part u x) 0 zs) ≡ sets x u zs
part-set u x zs =
    let e : u + 0 ≡ u = omega arith in
    back_is u x (sets (part u x) 0 zs)
    ∙ ap (λ (l : List ℕ). take u x ++ sets l 0 zs) (part-is u x)
    ∙ ap (λ (l : List ℕ). take u x ++ l) (sym (drop-sets u x 0 zs) ∙ ap (λ (i : ℕ). drop u (sets x i zs)) e)
    ∙ ap (λ (l : List ℕ). l ++ drop u (sets x u zs)) (sym (take-sets u x u zs (le_refl u)))
    ∙ take-append-drop u (sets x u zs)

in-sizes : (room : List ℕ) (o : Out) (key : ℕ → Text) (v : Held) (t : ℕ) → Full room o → InRoom key v room o
    → (length (kept key t v) ≡ o.rec.0) × (length (texts (named key v)) ≡ o.text.0)
in-sizes room o key v t f i =
    let r = f.whole in
    let m = f.rec in
    let n = f.text in
    let a : length (take o.rec.0 room) ≡ o.rec.0 = length-take-le o.rec.0 room (omega arith) in
    let b : length (take o.text.0 (drop max_records room)) ≡ o.text.0 = length-take-le o.text.0 (drop max_records room) (omega (arith, length-drop max_records room)) in
    (kept-length key t 0 v ∙ sym (ap length i.records) ∙ a, sym (ap length i.texts) ∙ b)

pub kept-value : {room : List ℕ} {o : Out} {p tb t : ℕ} {b x a : List ℕ} → KeepAsked b room p tb t o → LayIs Form.Kept room o.rec.0 t (part p b) x → FilledIs (tb + t) room max_records o.text.0 (back p b x) a → KeepIs room o p tb t b a
kept-value {room} {o} {p} {tb} {t} {b} {x} {a} A l g =
    let f = A.full in
    let r = f.whole in
    let m = f.rec in
    let n = f.text in
    let h = A.records in
    let k = A.texts in
    let xs = lays Form.Kept o.rec.0 room o.rec.0 0 t in
    let tx = take o.text.0 (drop max_records room) in
    let c : a ≡ sets (sets b p xs) (tb + t) tx =
    g.is ∙ ap (λ (q : List ℕ). sets (back p b q) (tb + t) tx) l.is ∙ ap (λ (q : List ℕ). sets q (tb + t) tx) (part-set p b xs) in
    let e : (key : ℕ → Text) (v : Held) → InRoom key v room o → a ≡ sets (sets b p (kept key t v)) (tb + t) (texts (named key v)) =
    λ key v i.
    c ∙ ap (λ (q : List ℕ). sets (sets b p q) (tb + t) tx) (lays-value key v room o.rec.0 (in-holds f i) (omega arith) Form.Kept t)
    ∙ ap (sets (sets b p (kept key t v)) (tb + t)) i.texts in
    record {
      laid = xs;
      filled = tx;
      only = c;
      bytes = e;
      stands = λ key v i d s.
          let z = in-sizes room o key v t f i in
          rw (e key v i) (both-stand b (kept key t v) (texts (named key v)) p tb t (rw (z.0, z.1) d) (omega (arith, z.0)) (omega (arith, z.1)) (omega (arith, z.1)) (omega (arith, z.0)));
    }
