-- An array's elements, joined in the room as the rules join them.
use Rattle.std.specs.Prelude.{◌≡◌, refl, ℕ, ◌+◌, ◌<◌, Bool, false, ◌&&◌, List, leb, Ok, Err}
use Rattle.std.proofs.Common.{sym, ◌∙◌, inl, inr, arith}
use Rattle.std.proofs.Math.Bool.{true}
use Rattle.std.proofs.Math.Option.{some}
use Rattle.std.proofs.lemmas.Bool.{lt-leb}
use Rattle.answers.specs.Ask.{Trail, lookup, value, missing, then}
use Rattle.answers.specs.Theory.Sound.{clash}
use Rattle.rules.specs.Bytes.{Text}
use Rattle.rules.specs.Sizes.{max_nesting, max_records, max_text}
use Rattle.rules.specs.Tree.{simple, array, object, unresolved}
use Rattle.rules.specs.Values.{Values, Answer, scalar, array_of, object_of, nesting_of, record_size, text_size, within_size}
use Rattle.rules.specs.Sheet.{two}
use Rattle.rules.specs.Layers.{Layer, written, settled}
use Rattle.rules.specs.Settled.{Given, node_in, elements_in, layer_in, value_in}
use Rattle.rules.specs.Unresolved as rules
use Rattle.rules.specs.Documents.{Setting}
use Rattle.theory.specs.SettledAnswers.{join_piece_in}
use Rattle.doc_items.specs.Room.{number_bound}
use Rattle.sheet_kept.specs.Kept.{listed, Helds, no-helds, also, named, named_all, count_helds, kept}
use Rattle.sheet_kept.specs.Sizes.{all-count}
use Rattle.sheet_kept.proofs.Sizes.{kept-records}
use Rattle.eval_writer.specs.Clauses.{Room}
use Rattle.eval_writer.specs.declared.Out.{Out}
use Rattle.eval_results.specs.Extents.Contracts.{far}
use Rattle.eval_memory.specs.Keys.{KeyNumber, EachKeyOf}
use Rattle.eval_results.specs.Values.Comes.{ElementsCome, ElementsThere}
use Rattle.eval_results.specs.declared.values.Made.{Made}
use Rattle.eval_concat_arrays.specs.Elements.Contracts.{ArrayIs}
use Rattle.eval_concat.specs.Growth.{Below}
use Rattle.eval_concat.specs.Helds.{join_helds}
use Rattle.eval_concat.specs.Model.{too_large_c, start_of}
use Rattle.eval_concat.specs.Pieces.{piece-large, members-is}
use Rattle.eval_concat.specs.Standing.{MembersIn, start-records}
use Rattle.eval_concat.specs.declared.Join.{Join}
use Rattle.eval_state.specs.Memories.{answers_of}
use Rattle.eval_state.specs.State.{State}
use Rattle.eval_value_laws.specs.Clauses.{LayerGiven}
use Rattle.eval_pieces.specs.Clauses.{levels}
use Rattle.eval_concat.specs.Steps.Contracts.{Stepped, Steady, Good, StepGiven, StepCase}
use Rattle.eval_concat.specs.declared.steps.JoinStep.{JoinStep}
use Rattle.eval_concat_arrays.specs.Clauses.{is_array, ArrayOf, ElementsJoinedBy, ElementsJoinedIs}
use Rattle.eval_concat_arrays.specs.Steps.{defined-step, missing-step, members-grows}

-- ---- how far counters go

pub elements-grow : {T : List ℕ} {i : ℕ} {j : Join} {from : Out} {made : Made} {r : Stepped} → ElementsJoinedIs T i j from made r → (k : Join) → r ≡ Ok (JoinStep.So k)
    → (t c : ℕ) → Below t c j → Steady (t + number_bound) (c + far) k
elements-grow {T} {i} {j} {from} {made} {r} E k e t c h = go made E.is
  where
    go : (m : Made) → ElementsJoinedBy T i j from r m → Steady (t + number_bound) (c + far) k
    go (Made.Needs n) z = clash (cc (sym z ∙ e))
    go (Made.Done n x) (q, z, inl (w, l)) = members-grows (omega arith) w k (sym z ∙ e) t c h
    go (Made.Done n x) (q, z, inr (y, l)) = clash (cc (sym z ∙ e, y))

-- ---- what the rules give

-- each element has a byte of records at least
many-large : (key : ℕ → Text) (vs : Helds) → max_records < count_helds vs → within_size (array_of (named_all key vs)) ≡ false
unfolding within_size named kept two
many-large key vs l =
    let a = all-count key 0 vs in
    let b = kept-records key 0 (listed vs) in
    let c : max_records < record_size (array_of (named_all key vs)) = omega arith in
    go (leb (nesting_of (array_of (named_all key vs))) max_nesting) (leb (text_size (array_of (named_all key vs))) max_text) (leb (record_size (array_of (named_all key vs))) max_records)
    (lt-leb (record_size (array_of (named_all key vs))) max_records c)
  where
    go : (n t r : Bool) → r ≡ false → n && r && t ≡ false
    go true t false e = refl
    go false t false e = refl
    go n t true e = clash (cc (e))

joined-keys : (P : ℕ → Type 0) (vs ws : Helds) → EachKeyOf P vs → EachKeyOf P ws → EachKeyOf P (join_helds vs ws)
unfolding join_helds
joined-keys P no-helds ws a b = b
joined-keys P (also v vs) ws a b = (a.0, joined-keys P vs ws a.1 b)

module _ {x : Setting} {key : ℕ → Text} {items : ℕ} {T B : List ℕ} {S : Trail Answer} {base i place : ℕ} {gap : Text} {j : Join} {b : List ℕ} {J : rules.Join}
    {g : Given Answer} (G : StepGiven x key items T B S base i place gap j b J g) (whole : Room b) {a : List ℕ} where
  elements-made : (r : Stepped) (gs : Given Values) (made : Made) → g ≡ then gs (λ vs. value (some (array_of vs)))
      → ElementsCome key (KeyNumber T (items + 1)) gs (start_of j) made b a → ElementsJoinedBy T i j (start_of j) r made
      → State x key items T B S × StepCase key (Good T items) a (then g (λ v. join_piece_in place gap v J)) r
  elements-made r gs (Made.Needs n) e c z =
      let y : gs ≡ missing n = c.is in
      let f : g ≡ missing n = e ∙ rw y refl in
      rw z (missing-step G a n f)
  elements-made r gs (Made.Done n u) e c (q, z, inl (m, l)) =
      let t : ElementsThere key (KeyNumber T (items + 1)) gs (start_of j) n u b a = c.is in
      let f : g ≡ value (some (array_of (named_all key t.helds))) = e ∙ rw t.is refl in
      let p : MembersIn key (Good T items) (named_all key t.helds) (start_of j) n u b a =
      record { helds = t.helds; good = t.keys; is = refl; count = t.counted; came = t.came } in
      rw z (defined-step G a (array_of (named_all key t.helds)) q f
      (rw m.is (members-is (joined-keys (KeyNumber T (items + 1))) G.at whole J G.join p)))
  elements-made r gs (Made.Done n u) e c (q, z, inr (y, l)) =
      let t : ElementsThere key (KeyNumber T (items + 1)) gs (start_of j) n u b a = c.is in
      let f : g ≡ value (some (array_of (named_all key t.helds))) = e ∙ rw t.is refl in
      let (h, k) = start-records J G.join in
      let d = t.came.rec in
      let o = t.came.text in
      let v = t.counted in
      let w = l (omega arith) (omega arith) in
      rw (z, y) (defined-step G a (array_of (named_all key t.helds)) (Err too_large_c) f
      (record { is = inr (piece-large place gap (array_of (named_all key t.helds)) J (many-large key t.helds (omega arith)), refl) }))

  pub elements-step : {top c : ℕ} {w w' : List ℕ} {made : Made} {r : Stepped} → ArrayIs T B top c (start_of j) w w' made b a → ElementsJoinedIs T i j (start_of j) made r
      → ArrayOf (answers_of key items T B) (lookup S) top c g
      → State x key items T B S × StepCase key (Good T items) a (then g (λ v. join_piece_in place gap v J)) r
  unfolding layer_in node_in
  elements-step {top} {c} {w} {w'} {made} {r} f E C = go C.layer C.elements C.given C.is
    where
      go : (l : Layer) → is_array l ≡ true → LayerGiven (answers_of key items T B) (lookup S) top levels C.depth c l
          → g ≡ layer_in (lookup S) (value_in (lookup S) C.depth) l
          → State x key items T B S × StepCase key (Good T items) a (then g (λ v. join_piece_in place gap v J)) r
      go (written (simple y)) z h e = clash (cc (z))
      go (written (array es)) z h e =
          elements-made r (elements_in (lookup S) (value_in (lookup S) C.depth) es) made e (f.literal key items (lookup S) C.depth es h) E.is
      go (written (object fs)) z h e = clash (cc (z))
      go (written (unresolved n ps)) z h e = clash (cc (z))
      go (settled (scalar y)) z h e = clash (cc (z))
      go (settled (array_of vs)) z h e = elements-made r (value vs) made e (f.finished key items (lookup S) C.depth vs h) E.is
      go (settled (object_of ms)) z h e = clash (cc (z))
