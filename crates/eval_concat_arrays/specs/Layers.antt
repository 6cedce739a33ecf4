-- Layers by their numbers: whether one is an array, and what a simple one's text is.
use Rattle.std.specs.Prelude.{◌≡◌, ℕ, ◌+◌, ◌*◌, ◌%◌, ◌≤◌, Bool, true, false, List, ◌∷◌, ◌++◌, length}
use Rattle.std.proofs.Math.Path.{ap}
use Rattle.std.proofs.Common.{◌∙◌, arith, eq-eqb, ne_eqb}
use Rattle.std.proofs.Math.Option.{Option}
use Rattle.std.proofs.Math.ListN.{get_or, drop}
use Rattle.answers.specs.Theory.Sound.{clash}
use Rattle.rules.specs.Bytes.{Text}
use Rattle.rules.specs.Pieces.{scalar_text}
use Rattle.rules.specs.Tree.{Scalar, null, boolean, number, string, simple, array, object, unresolved}
use Rattle.rules.specs.Values.{Answer, Values, scalar, array_of, object_of, value_record_sizes}
use Rattle.rules.specs.Sheet.{two, text_record, scalar_record, texts}
use Rattle.rules.specs.Layers.{Layer, written, settled}
use Rattle.doc_items.specs.Codes.{code_of, as_piece}
use Rattle.doc_items.specs.Room.{sheet_at, trail_at}
use Rattle.sheet_kept.specs.Kept.{Held, listed, keyed, named, named_all, kept, kept_all}
use Rattle.sheet_kept.specs.Kept as held
use Rattle.sheet_kept.specs.Standing.{Stands}
use Rattle.sheet_forms.specs.Ends.{at-0}
use Rattle.eval_concat.specs.Scalar.Contracts.{record_text}
use Rattle.eval_concat.specs.Scalar.Texts.{record-text}
use Rattle.eval_memory.specs.Finished.{SettledAt}
use Rattle.eval_memory.specs.Tables.{code-small, kind-only, item-low}
use Rattle.eval_state.specs.Memories.{answers_of}
use Rattle.eval_value_laws.specs.Clauses.{LayerGiven}
use Rattle.eval_value_laws.specs.Counting.{NoObject}
use Rattle.eval_concat_arrays.specs.Clauses.{ArrayTold, is_array}

-- ---- a finished value's record

module _ (X : List ℕ) (p u : ℕ) where
  scalar-byte : (x : Scalar) (rest : List ℕ) → drop p X ≡ scalar_record u x ++ rest → get_or X p 0 ≤ 5
  unfolding scalar_record text_record
  scalar-byte null rest h = omega (arith, at-0 X p (1 ∷ rest) h)
  scalar-byte (boolean false) rest h = omega (arith, at-0 X p (2 ∷ rest) h)
  scalar-byte (boolean true) rest h = omega (arith, at-0 X p (3 ∷ rest) h)
  scalar-byte (number t) rest h = omega (arith, at-0 X p ((4 ∷ two u ++ two (length t)) ++ rest) h)
  scalar-byte (string t) rest h = omega (arith, at-0 X p ((5 ∷ two u ++ two (length t)) ++ rest) h)

module _ {key : ℕ → Text} (items : ℕ) {T B : List ℕ} {o : ℕ} where
  scalar-first : (x : Scalar) → SettledAt (answers_of key items T B) (scalar x) o → get_or B (trail_at + o) 0 ≤ 5
  unfolding kept named
  scalar-first x s = go s.held s.is s.stands.records
    where
      go : (h : Held) → named key h ≡ scalar x → drop (trail_at + o) B ≡ kept key s.text h ++ s.stands.rest → get_or B (trail_at + o) 0 ≤ 5
      go (held.simple y) e r = scalar-byte B (trail_at + o) s.text y s.stands.rest r
      go (listed vs) e r = clash (cc (e))
      go (keyed ms) e r = clash (cc (e))

  array-first : (vs : Values) → SettledAt (answers_of key items T B) (array_of vs) o → get_or B (trail_at + o) 0 ≡ 6
  unfolding kept named
  array-first vs s = go s.held s.is s.stands.records
    where
      go : (h : Held) → named key h ≡ array_of vs → drop (trail_at + o) B ≡ kept key s.text h ++ s.stands.rest → get_or B (trail_at + o) 0 ≡ 6
      go (held.simple y) e r = clash (cc (e))
      go (listed ws) e r = at-0 B (trail_at + o) ((6 ∷ two (value_record_sizes (named_all key ws)) ++ kept_all key s.text ws) ++ s.stands.rest) r
      go (keyed ms) e r = clash (cc (e))

  pub settled-text : (x : Scalar) → SettledAt (answers_of key items T B) (scalar x) o → record_text B sheet_at (trail_at + o) ≡ scalar_text x
  unfolding kept named texts
  settled-text x s = go s.held s.is s.stands
    where
      go : (h : Held) → named key h ≡ scalar x → Stands B sheet_at (kept key s.text h) (texts (named key h)) (trail_at + o) s.text
          → record_text B sheet_at (trail_at + o) ≡ scalar_text x
      go (held.simple y) e t =
          let z : y ≡ x = cc (e) in
          record-text B sheet_at (trail_at + o) s.text y t ∙ ap scalar_text z
      go (listed vs) e t = clash (cc (e))
      go (keyed ms) e t = clash (cc (e))

-- ---- whether a layer is an array

module _ {T B : List ℕ} {c : ℕ} {f : Bool} (t : ArrayTold T B c f) {key : ℕ → Text} (items : ℕ) {known : ℕ → Option Answer} {top levels d : ℕ} where
  pub array_told : (l : Layer) → NoObject l → LayerGiven (answers_of key items T B) known top levels d c l → f ≡ is_array l
  array_told (written (simple x)) n g =
      let a = g.shown in
      let k = code-small x in
      let z = kind-only (get_or T (8 * c) 0) (code_of x) a.roles a.node.0 (omega arith) in
      t.item (item-low (answers_of key items T B) g.basis.tables.stored a) ∙ ne_eqb (get_or T (8 * c) 0 % as_piece) 6 (λ e. omega arith)
  array_told (written (array es)) n g =
      let a = g.shown in
      t.item (item-low (answers_of key items T B) g.basis.tables.stored a)
      ∙ eq-eqb (get_or T (8 * c) 0 % as_piece) 6 (kind-only (get_or T (8 * c) 0) 6 a.roles a.node.0 (omega arith))
  array_told (written (object fs)) n g = absurd n
  array_told (written (unresolved b ps)) n g = absurd n
  array_told (settled (scalar x)) n g =
      let (o, e, s) = g.shown in
      let z = scalar-first items x s in
      t.record_of o e (omega (arith, s.inside)) ∙ ne_eqb (get_or B (trail_at + o) 0) 6 (λ e. omega arith)
  array_told (settled (array_of vs)) n g =
      let (o, e, s) = g.shown in
      t.record_of o e (omega (arith, s.inside)) ∙ eq-eqb (get_or B (trail_at + o) 0) 6 (array-first items vs s)
  array_told (settled (object_of ms)) n g = absurd n
