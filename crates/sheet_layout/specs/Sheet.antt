-- What is laid from the bytes of a value as kept is the value's records: as the rules have them, or as kept.
use Rattle.std.specs.Prelude.{◌≡◌, ◌↔◌, true, take}
use Rattle.std.proofs.Math.Path.{refl, sym, ap}
use Rattle.std.proofs.Common.{◌∙◌, take-append-drop, drop-drop, length-take-le, le-leb}
use Prim.Native.Nat.{ℕ, zero, suc, ◌+◌, ◌-◌, ◌≤◌, ◌<◌}
use mathlib.Core.List.{List, [], ◌∷◌, ◌++◌, append_assoc}
use native.Mathlib.Omega.{arith}
use Rattle.std.proofs.Math.ListN.{length, drop, length-append}
use Rattle.std.proofs.lemmas.List.Edits.{sets, sets-eq}
use Rattle.std.proofs.Math.Seq.{drop-append_seam}
use Rattle.rules.specs.Bytes.{Text}
use Rattle.sheet_kept.specs.Kept.{Held, kept, layout}
use Rattle.sheet_kept.specs.InTurn.{Rec, text_of, kept_rec, in_turn, texts_of, flat}
use Rattle.sheet_kept.proofs.InTurn.{flat-size, kept-flat, layout-flat}
use Rattle.sheet_kept.proofs.Sizes.{kept-size, kept-records}
use Rattle.sheet_forms.specs.Model.{record_c, code_of, size_of, text_len_of}
use Rattle.sheet_forms.specs.Sheet.{Rights, flat-right, record_of, rec_form, read, record-code, record-some, record-size, record-more}
use Rattle.sheet_layout.specs.Model.{lays_by, lays, eq_at}
use Rattle.sheet_layout.specs.Clauses.{Holds, formed}
use Rattle.sheet_layout.specs.Compared.{eq_at-stands}
use Rattle.sheet_forms.specs.declared.Form.{Form}
use Rattle.sheet_forms.specs.declared.Record.{Record}

-- one record more
pub lays_more : (go : ℕ → ℕ → List ℕ) (p t : ℕ) (r : Record) → (size_of r ≡ 0 → ⊥) → lays_by go p t r ≡ code_of r ++ go (p + size_of r) (t + text_len_of r)
lays_more go p t Record.End h = absurd (h refl)
lays_more go p t (Record.One b) h = refl
lays_more go p t (Record.Three b c d) h = refl
lays_more go p t (Record.Five b c d e f) h = refl

pub lays-none : (go : ℕ → ℕ → List ℕ) (p t : ℕ) (r : Record) → size_of r ≡ 0 → lays_by go p t r ≡ []
lays-none go p t Record.End h = refl
lays-none go p t (Record.One b) h = absurd (omega arith)
lays-none go p t (Record.Three b c d) h = absurd (omega arith)
lays-none go p t (Record.Five b c d e f) h = absurd (omega arith)

-- ---- all records

module _ (form : Form) (s : List ℕ) (len : ℕ) where
  pub lays-flat : (rs : List Rec) (n p t u : ℕ) (rest : List ℕ) → Rights rs → length (texts_of rs) < 65536 → drop p s ≡ in_turn kept_rec u rs ++ rest
      → p + length (in_turn kept_rec u rs) ≡ len → len - p ≤ n → lays form n s len p t ≡ in_turn (rec_form form) t rs
  unfolding lays in_turn texts_of record_c
  lays-flat [] zero p t u rest k few h e l = refl
  lays-flat [] (suc n) p t u rest k few h e l =
      let z : len ≤ p = omega arith in rw (le-leb len p z)
  lays-flat (r ∷ rs) n p t u rest k few h e l =
      let a = kept_rec u r in
      let x = text_of r in
      let b = in_turn kept_rec (u + length x) rs in
      let sz = length-append a b in
      let tx = length-append x (texts_of rs) in
      let m : size_of (record_of form t r) ≡ length a = record-size form t u r in
      let more : text_len_of (record_of form t r) ≡ length x = record-more form t r (omega arith) in
      let some : 1 ≤ length a = some_size (size_of (record_of form t r)) (record-some form t r) m in
      let h' : drop p s ≡ a ++ (b ++ rest) = h ∙ append_assoc a b rest in
      let d : drop (p + length a) s ≡ b ++ rest = sym (drop-drop (length a) p s) ∙ ap (drop (length a)) h' ∙ drop-append_seam a (b ++ rest) in
      let rd : record_c form s len p t ≡ record_of form t r = read s len p t u (omega arith) form r rs rest k.0 h' (omega arith) in
      step n rd m more (λ j i. lays-flat rs j (p + length a) (t + length x) (u + length x) rest k.1 (omega arith) d (omega arith) i) (omega arith) l
    where
      some_size : {q : ℕ} (z : ℕ) → (z ≡ 0 → ⊥) → z ≡ q → 1 ≤ q
      some_size zero h e = absurd (h refl)
      some_size (suc z) h e = omega arith

      step : (n : ℕ) → record_c form s len p t ≡ record_of form t r → size_of (record_of form t r) ≡ length (kept_rec u r) → text_len_of (record_of form t r) ≡ length (text_of r)
          → ((j : ℕ) → len - (p + length (kept_rec u r)) ≤ j → lays form j s len (p + length (kept_rec u r)) (t + length (text_of r)) ≡ in_turn (rec_form form) (t + length (text_of r)) rs)
          → len - p ≡ suc (len - p - 1) × (len - (p + length (kept_rec u r)) < len - p) → len - p ≤ n → lays form n s len p t ≡ rec_form form t r ++ in_turn (rec_form form) (t + length (text_of r)) rs
      step zero rd m more ih q l = absurd (omega (arith, q.0))
      step (suc n) rd m more ih q l =
          ap (lays_by (λ q u. lays form n s len q u) p t) rd
          ∙ lays_more (λ q u. lays form n s len q u) p t (record_of form t r) (record-some form t r)
          ∙ rw (m, more, record-code form t r) (ap (λ (x : List ℕ). rec_form form t r ++ x) (ih n (omega (arith, q.1))))

module _ (key : ℕ → Text) (v : Held) (s : List ℕ) (len : ℕ) (h : Holds key v s len) (inside : len ≤ length s) where
  holds-length : length (kept key h.from v) ≡ len
  holds-length = ap length (sym h.stands) ∙ length-take-le len s inside

  pub formed-flat : (form : Form) (t : ℕ) → formed form key t v ≡ in_turn (rec_form form) t (flat key v)
  formed-flat Form.Kept t = kept-flat key t v
  formed-flat Form.Public t = layout-flat key t v

  -- what is laid is the value's records
  pub lays-value : (form : Form) (t : ℕ) → lays form len s len 0 t ≡ formed form key t v
  lays-value form t =
      let f = kept-flat key h.from v in
      lays-flat form s len (flat key v) len 0 t h.from (drop len s) (flat-right key v (omega (arith, kept-records key h.from v, holds-length, h.short))) (rw (flat-size key v) h.few)
      (sym (take-append-drop len s) ∙ ap (λ (x : List ℕ). x ++ drop len s) (h.stands ∙ f)) (omega (arith, ap length (sym f), holds-length)) (omega arith)
      ∙ sym (formed-flat form t)

  pub formed-length : (form : Form) (t : ℕ) → length (formed form key t v) ≡ len
  formed-length Form.Kept t = kept-size key t 0 v ∙ sym (kept-size key h.from 0 v) ∙ holds-length
  formed-length Form.Public t = sym (kept-size key h.from t v) ∙ holds-length

  pub laid-is : (form : Form) (t : ℕ) (b : List ℕ) → len ≤ length b → sets b 0 (lays form len s len 0 t) ≡ formed form key t v ++ drop len b
  laid-is form t b l =
      let e : 0 + length (formed form key t v) ≡ len = omega (arith, formed-length form t) in
      ap (sets b 0) (lays-value form t) ∙ sets-eq (formed form key t v) b 0 (omega (arith, formed-length form t))
      ∙ ap (λ (i : ℕ). formed form key t v ++ drop i b) e

  pub same-is : (t : ℕ) (b : List ℕ) → len ≤ length b → (eq_at b 0 (lays Form.Public len s len 0 t) ≡ true) ↔ (take len b ≡ layout key t v)
  same-is t b l =
      let z = eq_at-stands b 0 (layout key t v) (omega (arith, formed-length Form.Public t)) in
      rw (lays-value Form.Public t) (rw (formed-length Form.Public t) at z)
