-- What looking ahead asks and promises: what a layer, merged objects or a place of a span need before they can be evaluated, by the definitions
-- of the order.
use Rattle.std.specs.Prelude.{◌≡◌, List, ℕ, zero, suc, ◌+◌, ◌*◌, ◌≤◌, ◌<◌}
use Rattle.std.proofs.Math.Option.{Option, none}
use Rattle.answers.specs.Ask.{Trail, lookup}
use Rattle.answers.specs.Resolve.{answer, after}
use Rattle.rules.specs.Bytes.{Text}
use Rattle.rules.specs.Refusals.{Refusal}
use Rattle.rules.specs.Tree.{Elements, AllElements}
use Rattle.rules.specs.Values.{Answer}
use Rattle.rules.specs.Layers.{Layer, merged}
use Rattle.rules.specs.Weights.{weight_of_elements}
use Rattle.theory.specs.Reach.{Each, InRange}
use Rattle.theory_order.specs.Walks.{Ended}
use Rattle.theory_order.specs.Clauses.{Task, questions_of, NumberedLayer, NumberedObject, work_c, settle_node_c, settle_keys_c, settle_elements_c}
use Rattle.theory_order.specs.Code.{counted_by, level_at}
use Rattle.eval_stack.specs.Model.{Work, link_at}
use Rattle.eval_memory.specs.Tables.{Shows}
use Rattle.eval_groups.specs.Select.Levels.{ObjectsAt, Level, keys_from}
use Rattle.eval_state.specs.State.{State}
use Rattle.eval_state.specs.Later.{Later}
use Rattle.eval_frames.specs.Shows.{used_of}
use Rattle.eval_value_laws.specs.Clauses.{Left}
use Rattle.eval_value_laws.specs.Elements.{ElementsShown}
use Rattle.eval_settle_laws.specs.declared.Kind.{Kind}
use Rattle.eval_settle_laws.specs.declared.Need.{Need}
use Rattle.eval_settle_laws.specs.declared.Met.{Met}
use Rattle.eval_settle_laws.specs.Ground.{settling_room, Lasting, LayerFits, ObjectsFit, Ground, Sound, memory_of}

-- ---- what is still to be settled of a span

pub data Rest : Type 0 where
  elements : Elements → Rest
  keys : List Layer → List Text → Rest

abbrev pub settle_rest_c : Task → ℕ → Rest → Trail Answer → ℕ → Ended Refusal Answer
settle_rest_c t levels (elements es) S n = settle_elements_c t levels es S n
settle_rest_c t levels (keys os ks) S n = settle_keys_c t levels os ks S n

-- one level lower; at the lowest nothing is left to settle
abbrev pub inside_c : Task → ℕ → Rest → Trail Answer → ℕ → Ended Refusal Answer
inside_c t zero r S n = answer tt S n
inside_c t (suc levels) r S n = settle_rest_c t levels r S n

-- what a need comes to; where it is a span's, the rest is all of it
abbrev pub need_c : Task → ℕ → Need → Rest → Trail Answer → ℕ → Ended Refusal Answer
need_c t levels Need.Nothing r S n = answer tt S n
need_c t levels (Need.Answer b) r S n = work_c t b S n
need_c t levels (Need.Inside s) r S n = inside_c t levels r S n

-- so many questions begin at least
abbrev pub begins : Need → ℕ
begins Need.Nothing = 0
begins (Need.Answer b) = 1
begins (Need.Inside s) = 0

module _ {T B : List ℕ} (G : Ground T B) (w : List ℕ) where
  -- Elements from an item up to another, and the room of what is in them. The document never changes: they stand as in a memory before this one.
  pub record ElementsFrom (p end top : ℕ) (es : Elements) : Type 0 where
    pub used : top ≤ settling_room
    pub T₀ : List ℕ
    pub B₀ : List ℕ
    pub S₀ : Trail Answer
    pub state : State G.t.setting G.key G.items T₀ B₀ S₀
    pub later : Later T₀ B₀ S₀ T B G.S
    pub shown : ElementsShown (used_of G.key G.items T₀ B₀ S₀) p end es
    pub numbered : AllElements (InRange (questions_of G.t)) es
    pub fits : Lasting G.t G.S (λ (known : ℕ → Option Answer). top + 2 * weight_of_elements known es ≤ settling_room)

  -- the keys of objects whose members stand up to top, grouped by key: those from an entry on
  pub record KeysFrom (p end top : ℕ) (os : List Layer) (ks : List Text) : Type 0 where
    pub base : ℕ
    pub low : base ≤ p
    pub high : p ≤ top
    pub ends : end ≡ top
    pub shown : Level (memory_of G) os base top w
    pub is : ks ≡ keys_from (memory_of G) w p top
    pub numbered : Each (NumberedObject (questions_of G.t)) os
    pub fits : Lasting G.t G.S (ObjectsFit base os)

  abbrev pub RestFrom : Kind → ℕ → ℕ → ℕ → Rest → Type 0
  RestFrom Kind.Elements p end top (elements es) = ElementsFrom p end top es
  RestFrom Kind.Elements p end top (keys os ks) = ⊥
  RestFrom Kind.Keys p end top (elements es) = ⊥
  RestFrom Kind.Keys p end top (keys os ks) = KeysFrom p end top os ks

  -- an answer that is missing is one that there is; a span begins no lower than the entry from which the stack is free
  abbrev pub NeedShows : ℕ → Need → Rest → Type 0
  NeedShows top Need.Nothing r = Unit {0}
  NeedShows top (Need.Answer b) r = (lookup G.S b ≡ none) × (b < questions_of G.t)
  NeedShows top (Need.Inside s) r = (top ≤ s.top) × RestFrom s.kind s.from s.end s.top r

  -- what settling comes to at each level is what the need comes to
  pub record Needs (top : ℕ) (e : ℕ → Ended Refusal Answer) (r : Need) : Type 0 where
    pub inner : Rest
    pub shows : NeedShows top r inner
    pub is : (levels : ℕ) → e levels ≡ need_c G.t levels r inner G.S G.n

  -- at a place: first what is needed there, then the rest from the next place on; either that is behind it, or a question begins
  pub record Meets (kind : Kind) (p end top : ℕ) (rest : Rest) (r : Met) : Type 0 where
    pub inner : Rest
    pub shows : NeedShows top r.need inner
    pub left : Rest
    pub at : RestFrom kind r.next end top left
    pub is : (levels : ℕ) → settle_rest_c G.t levels rest G.S G.n
        ≡ after (need_c G.t levels r.need inner G.S G.n) (λ _ S' n'. settle_rest_c G.t levels left S' n')
    pub on : p < r.next + begins r.need

-- ---- a layer

pub record LayerAsked (T B w : List ℕ) (top c : ℕ) : Type 0 where
  pub basis : Ground T B
  pub sound : Sound basis
  pub work : Work w
  pub used : top ≤ settling_room
  pub l : Layer
  pub shown : Shows (memory_of basis) c l
  pub numbered : NumberedLayer (questions_of basis.t) l
  pub fits : Lasting basis.t basis.S (LayerFits top l)

pub record LayerIs (T B : List ℕ) (top c : ℕ) (w w' : List ℕ) (r : Need) : Type 0 where
  pub left : Left top w w'
  pub is : (a : LayerAsked T B w top c)
      → Needs a.basis w' top (λ levels. settle_node_c a.basis.t levels a.l a.basis.S a.basis.n) r

-- ---- objects that merge, from one entry to another

pub record ObjectsAsked (T B w : List ℕ) (lo hi : ℕ) : Type 0 where
  pub basis : Ground T B
  pub sound : Sound basis
  pub work : Work w
  pub os : List Layer
  pub shown : ObjectsAt (memory_of basis) os lo hi w
  pub numbered : Each (NumberedObject (questions_of basis.t)) os
  pub fits : Lasting basis.t basis.S (ObjectsFit hi os)

-- what they come to at each level
abbrev pub merged_c : Task → ℕ → List Layer → Trail Answer → ℕ → Ended Refusal Answer
merged_c t levels os S n = counted_by (work_c t) (questions_of t) (level_at (work_c t) (questions_of t) levels) (merged os) S n

pub record ObjectsIs (T B : List ℕ) (lo hi : ℕ) (w w' : List ℕ) (r : Need) : Type 0 where
  pub left : Left lo w w'
  pub is : (a : ObjectsAsked T B w lo hi)
      → Needs a.basis w' lo (λ levels. merged_c a.basis.t levels a.os a.basis.S a.basis.n) r

-- ---- a place of a span

-- the first member of a key
pub record KeyAsked (T B w : List ℕ) (p top : ℕ) : Type 0 where
  pub basis : Ground T B
  pub sound : Sound basis
  pub work : Work w
  pub os : List Layer
  pub ks : List Text
  pub at : KeysFrom basis w p top top os ks
  pub inside : p < top
  pub leads : p ≤ link_at w p

pub record KeyIs (T B : List ℕ) (p top : ℕ) (w w' : List ℕ) (r : Met) : Type 0 where
  pub left : Left top w w'
  pub is : (a : KeyAsked T B w p top) → Meets a.basis w' Kind.Keys p top top (keys a.os a.ks) r

-- an item of an array
pub record ElementAsked (T B w : List ℕ) (p end top : ℕ) : Type 0 where
  pub basis : Ground T B
  pub sound : Sound basis
  pub work : Work w
  pub es : Elements
  pub at : ElementsFrom basis w p end top es
  pub inside : p < end

pub record ElementIs (T B : List ℕ) (p end top : ℕ) (w w' : List ℕ) (r : Met) : Type 0 where
  pub left : Left top w w'
  pub is : (a : ElementAsked T B w p end top) → Meets a.basis w' Kind.Elements p end top (elements a.es) r

-- of either
pub record PlaceAsked (T B w : List ℕ) (kind : Kind) (p end top : ℕ) : Type 0 where
  pub basis : Ground T B
  pub sound : Sound basis
  pub work : Work w
  pub rest : Rest
  pub at : RestFrom basis w kind p end top rest
  pub inside : p < end

pub record PlaceIs (T B : List ℕ) (kind : Kind) (p end top : ℕ) (w w' : List ℕ) (r : Met) : Type 0 where
  pub left : Left top w w'
  pub is : (a : PlaceAsked T B w kind p end top) → Meets a.basis w' kind p end top a.rest r
