-- What the values' functions promise: for any tables how far they count and what of the stack they leave as it is; and where the tables show
-- layers, and there is room on the stack, what the rules give for them.
use Rattle.std.specs.Prelude.{◌≡◌, ℕ, suc, pred, ◌+◌, ◌*◌, ◌-◌, ◌≤◌, ◌<◌, List, [], ◌∷◌, length, get_or}
use Rattle.std.proofs.Math.Option.{Option, none, some}
use Rattle.answers.specs.Ask.{value, missing, then}
use Rattle.rules.specs.Sizes.{max_room}
use Rattle.rules.specs.Tree.{Scalar, Node, simple, array, object, unresolved, Elements, Fields, height_of, highest_element}
use Rattle.rules.specs.Values.{Value, scalar, Members, Answer}
use Rattle.rules.specs.Layers.{Layer, written, settled, Counted, nothing, one, merged, keys_in_order, made_member}
use Rattle.rules.specs.Settled.{Given, push_all, members_in, merged_in, node_in, elements_in, layer_in, counted_in, value_in}
use Rattle.rules.specs.Weights.{weight_of, weight_of_elements, weight_of_fields}
use Rattle.theory.specs.Depths.{layer_height, height_in, Shallow}
use Rattle.doc_items.specs.Room.{capacity, number_bound}
use Rattle.eval_writer.specs.Clauses.{Room}
use Rattle.eval_writer.specs.declared.Out.{Out}
use Rattle.eval_writer.specs.declared.Source.{Source}
use Rattle.eval_writer.specs.Copies.Contracts.{most_bytes}
use Rattle.eval_results.specs.Extents.Contracts.{NotPast}
use Rattle.eval_nodes.specs.declared.answer.Answered.{Answered}
use Rattle.eval_stack.specs.Model.{entries, Work}
use Rattle.eval_nodes.specs.Model.{answered_at}
use Rattle.eval_memory.specs.Keys.{KeyNumber}
use Rattle.eval_memory.specs.Finished.{Memory, Stored, SettledAt}
use Rattle.eval_memory.specs.Tables.{WrittenAt, Tables, Shows}
use Rattle.eval_groups.specs.Clauses.{Below}
use Rattle.eval_groups.specs.Room.{Roomy}
use Rattle.eval_layers.specs.declared.Taken.{Taken}
use Rattle.eval_groups.specs.Select.Levels.{ObjectsAt, Level, keys_from}
use Rattle.eval_leaves.specs.Clauses.{HoldsSimple, KeyBeforeIs}
use Rattle.eval_results.specs.Values.Contracts.{WorkedWithin, MadeWithin}
use Rattle.eval_results.specs.declared.values.Worked.{Worked}
use Rattle.eval_results.specs.declared.values.Made.{Made}
use Rattle.eval_value_laws.specs.declared.Origin.{Origin}
use Rattle.eval_value_laws.specs.declared.Begun.{Begun}
use Rattle.eval_value_laws.specs.declared.Field.{Field}
use Rattle.eval_value_laws.specs.Ground.{Names, memory_of, ValueComes, ElementsMade, FieldsMade}
use Rattle.eval_value_laws.specs.Counting.{LayerDeep}
use Rattle.eval_value_laws.specs.Elements.{ElementsShown}

-- what is lent: the source's records have their room in the bytes, the stack is used up to top, and writing begins at o
pub record Asked (B : List ℕ) (src : Source) (w : List ℕ) (top : ℕ) (o : Out) (b : List ℕ) : Type 0 where
  pub room : Room b
  pub bytes : length B ≤ most_bytes
  pub records : src.rec.0 + max_room ≤ length B
  pub texts : src.text.0 ≤ most_bytes
  pub work : Work w
  pub used : top ≤ entries
  pub start : NotPast o

-- what stays: the stack below an entry
pub record Left (place : ℕ) (w w' : List ℕ) : Type 0 where
  pub below : Below place w w'
  pub len : length w' ≡ length w

-- ---- what is asked of layers

-- what is known stands where the tables say, and is nested no deeper than it may be
pub record Ground (M : Memory) (known : ℕ → Option Answer) : Type 0 where
  pub tables : Tables M known
  pub shallow : Shallow known

module _ (M : Memory) (known : ℕ → Option Answer) where
  -- a layer's room on the stack: for an object and its members, for what the elements of an array take
  abbrev pub LayerFits : ℕ → Layer → Type 0
  LayerFits top (written (simple x)) = Unit {0}
  LayerFits top (written (array es)) = top + 2 * weight_of_elements known es ≤ entries
  LayerFits top (written (object fs)) = top + 1 + 2 * weight_of_fields known fs ≤ entries
  LayerFits top (written (unresolved b ps)) = Unit {0}
  LayerFits top (settled v) = Unit {0}

  -- a layer that the number c shows; there are so many levels for it, and the rules' depth d is enough
  pub record LayerGiven (top levels d c : ℕ) (l : Layer) : Type 0 where
    pub basis : Ground M known
    pub shown : Shows M c l
    pub fits : LayerFits top l
    pub low : layer_height l ≤ levels
    pub deep : LayerDeep d l

  -- an element, which may be an unresolved value
  pub record ElementGiven (top levels d c : ℕ) (n : Node) : Type 0 where
    pub basis : Ground M known
    pub shown : WrittenAt M n c
    pub fits : top + 2 * weight_of known n ≤ entries
    pub low : height_of n + 32 ≤ levels
    pub deep : height_of n + 32 < d

  pub record ElementsGiven (top levels d i end : ℕ) (es : Elements) : Type 0 where
    pub basis : Ground M known
    pub shown : ElementsShown M i end es
    pub fits : top + 2 * weight_of_elements known es ≤ entries
    pub low : highest_element es + 32 ≤ levels
    pub deep : highest_element es + 32 < d

  -- objects that stand from lo to hi, with room above them
  pub record ObjectsGiven (w : List ℕ) (lo hi levels d : ℕ) (os : List Layer) : Type 0 where
    pub basis : Ground M known
    pub shown : ObjectsAt M os lo hi w
    pub fits : Roomy known entries hi os
    pub some : 1 ≤ height_in os
    pub low : height_in os ≤ levels
    pub deep : height_in os ≤ d

  -- the members of such objects
  pub record MembersGiven (w : List ℕ) (base top levels d : ℕ) (os : List Layer) : Type 0 where
    pub basis : Ground M known
    pub shown : Level M os base top w
    pub fits : Roomy known entries base os
    pub low : pred (height_in os) ≤ levels
    pub deep : pred (height_in os) < d

-- ---- what is promised

pub record NodeIs (T B : List ℕ) (src : Source) (top c : ℕ) (o : Out) (levels : ℕ) (w w' : List ℕ) (r : Worked) (b a : List ℕ) : Type 0 where
  pub left : Left top w w'
  pub within : WorkedWithin r
  pub is : (N : Names) (known : ℕ → Option Answer) (d : ℕ) (l : Layer) → LayerGiven (memory_of T B src N) known top levels d c l
      → ValueComes (memory_of T B src N) (layer_in known (value_in known d) l) o r b a

-- the value of merged objects
unfoldable abbrev pub merged_by : (ℕ → Option Answer) → ℕ → List Layer → Given Answer
unfolding merged_in
merged_by known d os = then (merged_in known (value_in known d) os) (λ v. value (some v))

pub record ObjectIs (T B : List ℕ) (src : Source) (lo hi : ℕ) (o : Out) (levels : ℕ) (w w' : List ℕ) (r : Worked) (b a : List ℕ) : Type 0 where
  pub left : Left hi w w'
  pub within : WorkedWithin r
  pub is : (N : Names) (known : ℕ → Option Answer) (d : ℕ) (os : List Layer) → ObjectsGiven (memory_of T B src N) known w lo hi (suc levels) d os
      → ValueComes (memory_of T B src N) (merged_by known d os) o r b a

-- objects that were taken stand from top on
abbrev pub TakenIn : ℕ → Taken → Type 0
TakenIn top Taken.Nothing = Unit {0}
TakenIn top (Taken.One c) = Unit {0}
TakenIn top (Taken.Needs n) = Unit {0}
TakenIn top (Taken.Merged hi) = (top ≤ hi) × (hi ≤ entries)

-- what layers come to, by the code's answer
abbrev pub TakenGivenBy : Memory → (ℕ → Option Answer) → List ℕ → ℕ → ℕ → ℕ → Given Counted → Taken → Type 0
TakenGivenBy M known w top levels d g Taken.Nothing = g ≡ value nothing
TakenGivenBy M known w top levels d g (Taken.Needs n) = g ≡ missing n
TakenGivenBy M known w top levels d g (Taken.One c) = (l : Layer) × (g ≡ value (one l)) × LayerGiven M known top levels d c l
TakenGivenBy M known w top levels d g (Taken.Merged hi) = (os : List Layer) × (g ≡ value (merged os)) × ObjectsGiven M known w top hi levels d os

pub record TakenGiven (M : Memory) (known : ℕ → Option Answer) (w : List ℕ) (top levels d : ℕ) (g : Given Counted) (taken : Taken) : Type 0 where
  pub is : TakenGivenBy M known w top levels d g taken

-- the value of what layers come to
unfoldable abbrev pub counted_by : (ℕ → Option Answer) → ℕ → Given Counted → Given Answer
unfolding counted_in
counted_by known d g = then g (λ c. counted_in known (value_in known d) c)

pub record TakenValueIs (T B : List ℕ) (src : Source) (top : ℕ) (taken : Taken) (o : Out) (levels : ℕ) (w w' : List ℕ) (r : Worked) (b a : List ℕ) : Type 0 where
  pub left : Left top w w'
  pub within : WorkedWithin r
  pub is : (N : Names) (known : ℕ → Option Answer) (d : ℕ) (g : Given Counted) → TakenGiven (memory_of T B src N) known w top levels d g taken
      → ValueComes (memory_of T B src N) (counted_by known d g) o r b a

pub record FieldsIs (T B : List ℕ) (src : Source) (base top : ℕ) (o : Out) (levels : ℕ) (w w' : List ℕ) (r : Made) (b a : List ℕ) : Type 0 where
  pub left : Left top w w'
  pub within : MadeWithin r
  pub is : (N : Names) (known : ℕ → Option Answer) (d : ℕ) (os : List Layer) → MembersGiven (memory_of T B src N) known w base top levels d os
      → FieldsMade (memory_of T B src N) (members_in known (value_in known d) (push_all known os) (keys_in_order os)) o r b a

-- at most one member more
abbrev pub OneMore : ℕ → Made → Type 0
OneMore count (Made.Needs n) = Unit {0}
OneMore count (Made.Done m e) = m ≤ count + 1

-- ---- what a value is written from

-- what the code has to keep to
abbrev pub OriginFits : ℕ → ℕ → Origin → Type 0
OriginFits top levels Origin.Nothing = Unit {0}
OriginFits top levels (Origin.Needs n) = Unit {0}
OriginFits top levels (Origin.Finished at) = Unit {0}
OriginFits top levels (Origin.Simple c) = c < capacity
OriginFits top levels (Origin.Array c) = (1 ≤ levels) × (c < capacity)
OriginFits top levels (Origin.Object c) = (1 ≤ levels) × (c < capacity)
OriginFits top levels (Origin.Objects hi) = (1 ≤ levels) × (top ≤ hi) × (hi ≤ entries)

-- the value x by the rules
abbrev pub OriginBy : Memory → (ℕ → Option Answer) → List ℕ → ℕ → ℕ → ℕ → Given Answer → Origin → Type 0
OriginBy M known w top levels d x Origin.Nothing = x ≡ value none
OriginBy M known w top levels d x (Origin.Needs n) = x ≡ missing n
OriginBy M known w top levels d x (Origin.Finished at) = (v : Value) × (x ≡ value (some v)) × Stored M × SettledAt M v at
OriginBy M known w top levels d x (Origin.Simple c) = (s : Scalar) × (x ≡ value (some (scalar s))) × HoldsSimple M.table M.bytes c s
OriginBy M known w top levels d x (Origin.Array c) =
    (es : Elements) × (x ≡ node_in known (value_in known d) (array es)) × ElementsGiven M known top (levels - 1) d (c + 1) (c + get_or M.table (8 * c + 1) 0) es
OriginBy M known w top levels d x (Origin.Object c) =
    (fs : Fields) × (x ≡ merged_by known (pred d) (written (object fs) ∷ [])) × LayerGiven M known top levels d c (written (object fs))
OriginBy M known w top levels d x (Origin.Objects hi) = (os : List Layer) × (x ≡ merged_by known d os) × ObjectsGiven M known w top hi levels d os

pub record OriginIs (T w : List ℕ) (top : ℕ) (taken : Taken) (levels : ℕ) (r : Origin) : Type 0 where
  pub fits : OriginFits top levels r
  pub is : (B : List ℕ) (src : Source) (N : Names) (known : ℕ → Option Answer) (d : ℕ) (g : Given Counted)
      → TakenGiven (memory_of T B src N) known w top levels d g taken → OriginBy (memory_of T B src N) known w top levels d (counted_by known d g) r

-- ---- how a value begins

-- with the elements of the array c
pub record ElementsBegun (T B : List ℕ) (src : Source) (top : ℕ) (taken : Taken) (levels : ℕ) (w : List ℕ) (c : ℕ) (b a : List ℕ) : Type 0 where
  pub deeper : 1 ≤ levels
  pub item : c < capacity
  pub kept : a ≡ b
  pub is : (N : Names) (known : ℕ → Option Answer) (d : ℕ) (g : Given Counted) → TakenGiven (memory_of T B src N) known w top levels d g taken
      → OriginBy (memory_of T B src N) known w top levels d (counted_by known d g) (Origin.Array c)

-- with members, which stand from base to end
pub record MembersBegun (T B : List ℕ) (src : Source) (top : ℕ) (taken : Taken) (levels : ℕ) (w x : List ℕ) (base end : ℕ) (b a : List ℕ) : Type 0 where
  pub deeper : 1 ≤ levels
  pub above : top ≤ base
  pub low : base ≤ end
  pub high : end ≤ entries
  pub kept : a ≡ b
  pub is : (N : Names) (known : ℕ → Option Answer) (d : ℕ) (g : Given Counted) → TakenGiven (memory_of T B src N) known w top levels d g taken
      → (u : ℕ) × (os : List Layer) × (counted_by known d g ≡ merged_by known u os)
      × MembersGiven (memory_of T B src N) known x base end (levels - 1) u os

abbrev pub BegunBy : (T B : List ℕ) → Source → ℕ → Taken → Out → ℕ → (w x : List ℕ) → (b a : List ℕ) → Begun → Type 0
BegunBy T B src top taken o levels w x b a (Begun.Ended v) = TakenValueIs T B src top taken o levels w x v b a
BegunBy T B src top taken o levels w x b a (Begun.Elements c) = ElementsBegun T B src top taken levels w c b a
BegunBy T B src top taken o levels w x b a (Begun.Members base end) = MembersBegun T B src top taken levels w x base end b a

pub record BegunIs (T B : List ℕ) (src : Source) (top : ℕ) (taken : Taken) (o : Out) (levels : ℕ) (w x : List ℕ) (r : Begun) (b a : List ℕ) : Type 0 where
  pub left : Left top w x
  pub is : BegunBy T B src top taken o levels w x b a r

-- ---- what is met among the members of objects

-- the members with the keys from p on
unfoldable abbrev pub members_from : Memory → (ℕ → Option Answer) → ℕ → List Layer → List ℕ → ℕ → ℕ → Given Members
unfolding members_in
members_from M known d os w p top = members_in known (value_in known d) (push_all known os) (keys_from M w p top)

-- the key k and what its layers came to, whose value is first among all members
pub record FieldGiven (M : Memory) (known : ℕ → Option Answer) (x : List ℕ) (top levels d k : ℕ) (taken : Taken) (all rest : Given Members) : Type 0 where
  pub number : KeyNumber M.table M.items k
  pub counted : Given Counted
  pub given : TakenGiven M known x top levels d counted taken
  pub defined : counted_by known d counted ≡ value none → ⊥
  pub is : all ≡ then (counted_by known d counted) (λ v. then rest (λ ms. value (made_member (M.key k) v ms)))

-- it is written
pub record FieldBegun (T B : List ℕ) (src : Source) (p top : ℕ) (o : Out) (w x : List ℕ) (taken : Taken) (i : Out) (b a : List ℕ) : Type 0 where
  pub key : ℕ
  pub wrote : KeyBeforeIs T B key o i b a
  pub inside : TakenIn top taken
  pub is : (N : Names) (known : ℕ → Option Answer) (levels d base : ℕ) (os : List Layer) → MembersGiven (memory_of T B src N) known w base top levels d os
      → base ≤ p
      → FieldGiven (memory_of T B src N) known x top levels (pred d) key taken (members_from (memory_of T B src N) known d os w p top)
      (members_from (memory_of T B src N) known d os w (p + 1) top)

-- nothing is written
pub record FieldPassed (T B : List ℕ) (src : Source) (p top : ℕ) (w b a : List ℕ) : Type 0 where
  pub kept : a ≡ b
  pub is : (N : Names) (known : ℕ → Option Answer) (levels d base : ℕ) (os : List Layer) → MembersGiven (memory_of T B src N) known w base top levels d os
      → base ≤ p → members_from (memory_of T B src N) known d os w p top ≡ members_from (memory_of T B src N) known d os w (p + 1) top

pub record FieldMissing (T B : List ℕ) (src : Source) (p top : ℕ) (w : List ℕ) (n : ℕ) : Type 0 where
  pub is : (N : Names) (known : ℕ → Option Answer) (levels d base : ℕ) (os : List Layer) → MembersGiven (memory_of T B src N) known w base top levels d os
      → base ≤ p → members_from (memory_of T B src N) known d os w p top ≡ missing n

abbrev pub FieldBy : (T B : List ℕ) → Source → ℕ → ℕ → Out → (w x : List ℕ) → (b a : List ℕ) → Field → Type 0
FieldBy T B src p top o w x b a Field.Pass = FieldPassed T B src p top w b a
FieldBy T B src p top o w x b a (Field.Needs n) = FieldMissing T B src p top w n
FieldBy T B src p top o w x b a (Field.At taken i) = FieldBegun T B src p top o w x taken i b a

pub record FieldIs (T B : List ℕ) (src : Source) (p top : ℕ) (o : Out) (w x : List ℕ) (r : Field) (b a : List ℕ) : Type 0 where
  pub left : Left top w x
  pub is : FieldBy T B src p top o w x b a r

-- ---- elements

pub record ElementsIs (T B : List ℕ) (src : Source) (top c : ℕ) (o : Out) (levels : ℕ) (w w' : List ℕ) (r : Made) (b a : List ℕ) : Type 0 where
  pub left : Left top w w'
  pub within : MadeWithin r
  pub is : (N : Names) (known : ℕ → Option Answer) (d : ℕ) (es : Elements)
      → ElementsGiven (memory_of T B src N) known top levels d (c + 1) (c + get_or T (8 * c + 1) 0) es
      → ElementsMade (memory_of T B src N) (elements_in known (value_in known d) es) o r b a

-- an element as what layers come to
abbrev pub taken_of : Answered → Taken
taken_of (Answered.Missing n) = Taken.Needs n
taken_of Answered.Undefined = Taken.Nothing
taken_of (Answered.Layer c) = Taken.One c

pub record ElementTakenIs (T : List ℕ) (c : ℕ) (r : Taken) : Type 0 where
  pub is : r ≡ taken_of (answered_at T c)

-- the place behind an array's elements
pub record ElementsEndIs (T : List ℕ) (c r : ℕ) : Type 0 where
  pub is : r ≡ c + get_or T (8 * c + 1) 0
  pub near : r ≤ capacity + number_bound
