-- The laws of `ready` and of the settling functions, branch by branch: one for each end of a round, for each case, for each end of a call.
use Rattle.std.specs.Prelude.{◌≡◌, List, [], ◌∷◌}
use Rattle.std.proofs.Math.Path.{refl}
use Rattle.std.proofs.Common.{sym, ◌∙◌}
use Prim.Native.Nat.{ℕ, zero, suc, ◌<◌}
use Rattle.std.proofs.Math.Option.{none, some}
use Rattle.answers.specs.Ask.{value, missing, Trail, lookup}
use Rattle.answers.specs.Resolve.{answer, refused}
use Rattle.answers.specs.Theory.Sound.{Within}
use Rattle.answers.specs.Theory.Holds.{of-answer}
use Rattle.rules.specs.Bytes.{Text}
use Rattle.rules.specs.Refusals.{Refusal}
use Rattle.rules.specs.Tree.{Scalar, Node, simple, array, object, unresolved, Fields, Elements, no-elements, element, Pieces}
use Rattle.rules.specs.Values.{Value, Answer}
use Rattle.rules.specs.Layers.{Layer, written, settled, Counted, nothing, one, merged, keys_in_order}
use Rattle.theory.specs.Numbering.{Prepared}
use Rattle.theory.specs.Reach.{Each}
use Rattle.theory_order.specs.Ready.{unanswered}
use Rattle.theory_order.specs.Settle.{key_in}
use Rattle.theory_order.specs.Fitting.{Plain}
use Rattle.theory_order.specs.Code.{field_by, keys_by, objects_by, element_by, elements_by, node_by, level_at}
use Rattle.theory_order.specs.Clauses.{Task, questions_of, NumberedLayer, NumberedObject, NumberedCounted, KeptOf, work_c, ready_c, settle_node_c, settle_field_c, settle_object_c, settle_keys_c, settle_element_c, settle_elements_c}
use Rattle.theory_order.specs.Resolving.{work-keeps, ready-again, ready-missing, ready-keeps}

-- ---- the loop of `ready(os, k)` from the trail S and the count n, where it has come to a trail and a count

pub record ReadyAt (t : Task) (os : List Layer) (k : Text) (S : Trail Answer) (n : ℕ) (Sᵢ : Trail Answer) (nᵢ : ℕ) : Type 0 where
  pub remains : ready_c t os k Sᵢ nᵢ ≡ ready_c t os k S n
  pub kept : KeptOf t Sᵢ nᵢ
  pub grows : Within S Sᵢ

module _ (t : Task) (os : List Layer) (k : Text) (S : Trail Answer) (n : ℕ) where
  pub ready-starts : KeptOf t S n → ReadyAt t os k S n S n
  ready-starts kept = record { remains = refl; kept = kept; grows = λ q r e. e }

  module _ (p : Prepared t.setting.document) (f : Each (NumberedObject (questions_of t)) os) (Sᵢ : Trail Answer) (nᵢ : ℕ)
      (a : ReadyAt t os k S n Sᵢ nᵢ) where
    -- no answer is missing
    pub ready-done : (c : Counted) → key_in os k (lookup Sᵢ) ≡ value c
        → (ready_c t os k S n ≡ answer c Sᵢ nᵢ) × NumberedCounted (questions_of t) c
    ready-done c e =
        let done : ready_c t os k Sᵢ nᵢ ≡ answer c Sᵢ nᵢ = ready-again t p os f k Sᵢ nᵢ a.kept ∙ rw e in
        let (kept, grows, gathers, numbered) = of-answer (rw done at (ready-keeps t p os f k Sᵢ nᵢ a.kept)) in
        (sym a.remains ∙ done, numbered)

    -- b's answer is missing, and `work` goes on or refuses
    module _ (b : ℕ) (misses : key_in os k (lookup Sᵢ) ≡ missing b) where
      pub ready-works : (S' : Trail Answer) (n' : ℕ) → work_c t b Sᵢ nᵢ ≡ answer tt S' n'
          → ReadyAt t os k S n S' n' × (unanswered (questions_of t) S' < unanswered (questions_of t) Sᵢ)
      ready-works S' n' e =
          let (new, l) = ready-missing t p os f k Sᵢ nᵢ a.kept b misses in
          let (kept, grows, fewer) = of-answer (rw e at (work-keeps t p b Sᵢ nᵢ l new a.kept)) in
          let again : ready_c t os k Sᵢ nᵢ ≡ ready_c t os k S' n' = ready-again t p os f k Sᵢ nᵢ a.kept ∙ rw (misses, e) in
          (record { remains = sym again ∙ a.remains; kept = kept; grows = λ q r h. grows q r (a.grows q r h) }, fewer)

      pub ready_refused : (y : Refusal) → work_c t b Sᵢ nᵢ ≡ refused y → ready_c t os k S n ≡ refused y
      ready_refused y e = sym a.remains ∙ ready-again t p os f k Sᵢ nᵢ a.kept ∙ rw (misses, e)

-- an object is no unresolved value
pub object-layer : (N : ℕ) (o : Layer) → NumberedObject N o → NumberedLayer N o
object-layer N (settled v) f = (tt, tt)
object-layer N (written (simple x)) f = absurd f.1
object-layer N (written (array es)) f = absurd f.1
object-layer N (written (object fs)) f = (f.0, tt)
object-layer N (written (unresolved b ps)) f = absurd f.1

module _ (t : Task) where
  -- ---- `settle_node(l, levels)`

  module _ (S : Trail Answer) (n : ℕ) where
    pub node-lowest : (l : Layer) → settle_node_c t 0 l S n ≡ answer tt S n
    unfolding level_at
    node-lowest l = refl

    pub node-finished : (levels : ℕ) (v : Value) → settle_node_c t levels (settled v) S n ≡ answer tt S n
    unfolding level_at node_by
    node-finished zero v = refl
    node-finished (suc levels) v = refl

    pub node-simple : (levels : ℕ) (x : Scalar) → settle_node_c t levels (written (simple x)) S n ≡ answer tt S n
    unfolding level_at node_by
    node-simple zero x = refl
    node-simple (suc levels) x = refl

    pub node-array : (levels : ℕ) (es : Elements) → settle_node_c t (suc levels) (written (array es)) S n ≡ settle_elements_c t levels es S n
    unfolding level_at node_by
    node-array levels es = refl

    pub node-object : (levels : ℕ) (fs : Fields)
        → settle_node_c t (suc levels) (written (object fs)) S n ≡ settle_object_c t levels (written (object fs) ∷ []) S n
    unfolding level_at node_by
    node-object levels fs = refl

  module _ (levels : ℕ) (S : Trail Answer) (n : ℕ) where
    -- ---- `settle_field(os, k, levels)`: by what `ready` came to

    module _ (os : List Layer) (k : Text) where
      pub field-refused : (y : Refusal) → ready_c t os k S n ≡ refused y → settle_field_c t levels os k S n ≡ refused y
      unfolding field_by
      field-refused y e = rw e

      module _ (S' : Trail Answer) (n' : ℕ) where
        pub field-nothing : ready_c t os k S n ≡ answer nothing S' n' → settle_field_c t levels os k S n ≡ answer tt S' n'
        unfolding field_by
        field-nothing e = rw e

        pub field-one : (l : Layer) → ready_c t os k S n ≡ answer (one l) S' n'
            → settle_field_c t levels os k S n ≡ settle_node_c t levels l S' n'
        unfolding field_by
        field-one l e = rw e

        pub field-single : (o : Layer) → ready_c t os k S n ≡ answer (merged (o ∷ [])) S' n'
            → settle_field_c t levels os k S n ≡ settle_node_c t levels o S' n'
        unfolding field_by
        field-single o e = rw e

    -- ---- `settle_object(os, levels)`: the loop over keys

    module _ (os : List Layer) where
      pub object-starts : settle_object_c t levels os S n ≡ settle_keys_c t levels os (keys_in_order os) S n
      unfolding objects_by
      object-starts = refl

      pub keys-end : settle_keys_c t levels os [] S n ≡ answer tt S n
      unfolding keys_by
      keys-end = refl

      module _ (k : Text) (ks : List Text) where
        pub keys_on : (S' : Trail Answer) (n' : ℕ) → settle_field_c t levels os k S n ≡ answer tt S' n'
            → settle_keys_c t levels os (k ∷ ks) S n ≡ settle_keys_c t levels os ks S' n'
        unfolding keys_by
        keys_on S' n' e = rw e

        pub keys-refused : (y : Refusal) → settle_field_c t levels os k S n ≡ refused y → settle_keys_c t levels os (k ∷ ks) S n ≡ refused y
        unfolding keys_by
        keys-refused y e = rw e

    -- ---- `settle_elements(es, levels)`: the loop over elements

    pub elements-end : settle_elements_c t levels no-elements S n ≡ answer tt S n
    unfolding elements_by
    elements-end = refl

    module _ (m : Node) (es : Elements) where
      pub elements-on : (S' : Trail Answer) (n' : ℕ) → settle_element_c t levels m S n ≡ answer tt S' n'
          → settle_elements_c t levels (element m es) S n ≡ settle_elements_c t levels es S' n'
      unfolding elements_by
      elements-on S' n' e = rw e

      pub elements-refused : (y : Refusal) → settle_element_c t levels m S n ≡ refused y
          → settle_elements_c t levels (element m es) S n ≡ refused y
      unfolding elements_by
      elements-refused y e = rw e

    -- ---- `settle_element(m, levels)`

    pub element-layer : (m : Node) → Plain (written m) → settle_element_c t levels m S n ≡ settle_node_c t levels (written m) S n
    element-layer (simple x) q = refl
    element-layer (array es) q = refl
    element-layer (object fs) q = refl
    element-layer (unresolved b ps) q = absurd q

    module _ (b : ℕ) (ps : Pieces) where
      pub element-answered : (a : Answer) → lookup S b ≡ some a → settle_element_c t levels (unresolved b ps) S n ≡ answer tt S n
      element-answered a e = rw (e, element_by)

      pub element-missing : lookup S b ≡ none → settle_element_c t levels (unresolved b ps) S n ≡ work_c t b S n
      element-missing e = rw (e, element_by)

  -- several objects go one level down
  module _ (os : List Layer) (k : Text) (S : Trail Answer) (n : ℕ) (o o' : Layer) (os' : List Layer) (S' : Trail Answer) (n' : ℕ)
      (e : ready_c t os k S n ≡ answer (merged (o ∷ (o' ∷ os'))) S' n') where
    pub field-several : (levels : ℕ) → settle_field_c t (suc levels) os k S n ≡ settle_object_c t levels (o ∷ (o' ∷ os')) S' n'
    unfolding field_by level_at
    field-several levels = rw e

    pub field-lowest : settle_field_c t 0 os k S n ≡ answer tt S' n'
    unfolding field_by level_at
    field-lowest = rw e
