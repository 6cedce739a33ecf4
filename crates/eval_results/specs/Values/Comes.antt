-- What a value comes to by the rules, and what stands in the room for it: the value as kept where it is done, nothing new where it is
-- undefined. So of elements and of fields, one behind the other.
use Rattle.std.specs.Prelude.{◌≡◌, ℕ, List}
use Rattle.std.proofs.Math.Option.{none, some}
use Rattle.answers.specs.Ask.{value, missing}
use Rattle.rules.specs.Bytes.{Text}
use Rattle.rules.specs.Values.{Values, Members, Answer}
use Rattle.rules.specs.Settled.{Given}
use Rattle.sheet_kept.specs.Kept.{Held, Helds, HeldFields, named, named_all, named_fields, count_helds, count_fields}
use Rattle.eval_memory.specs.Keys.{EachKey, EachKeyOf, EachField}
use Rattle.eval_writer.specs.declared.Out.{Out}
use Rattle.eval_results.specs.Extents.Came.{Came}
use Rattle.eval_results.specs.Extents.Members.{CameAll, CameFields}
use Rattle.eval_results.specs.declared.extents.Extent.{Extent}
use Rattle.eval_results.specs.declared.values.Worked.{Worked}
use Rattle.eval_results.specs.declared.values.Made.{Made}

-- `key` gives the text that a key's number names; P holds of each such number
module _ (key : ℕ → Text) (P : ℕ → Type 0) where
  -- the value is there, from o on
  pub record ValueThere (g : Given Answer) (o : Out) (e : Extent) (b a : List ℕ) : Type 0 where
    pub held : Held
    pub is : g ≡ value (some (named key held))
    pub keys : EachKey P held
    pub came : Came key held o e b a

  abbrev pub ComesBy : Given Answer → Out → List ℕ → List ℕ → Worked → Type 0
  ComesBy g o b a (Worked.Done e) = ValueThere g o e b a
  ComesBy g o b a Worked.Undefined = (g ≡ value none) × (a ≡ b)
  ComesBy g o b a (Worked.Needs n) = g ≡ missing n

  pub record Comes (g : Given Answer) (o : Out) (r : Worked) (b a : List ℕ) : Type 0 where
    pub is : ComesBy g o b a r

  -- ---- elements

  pub record ElementsThere (g : Given Values) (o : Out) (count : ℕ) (e : Extent) (b a : List ℕ) : Type 0 where
    pub helds : Helds
    pub is : g ≡ value (named_all key helds)
    pub keys : EachKeyOf P helds
    pub counted : count ≡ count_helds helds
    pub came : CameAll key helds o e b a

  abbrev pub ElementsBy : Given Values → Out → List ℕ → List ℕ → Made → Type 0
  ElementsBy g o b a (Made.Done count e) = ElementsThere g o count e b a
  ElementsBy g o b a (Made.Needs n) = g ≡ missing n

  pub record ElementsCome (g : Given Values) (o : Out) (r : Made) (b a : List ℕ) : Type 0 where
    pub is : ElementsBy g o b a r

  -- ---- fields

  pub record FieldsThere (g : Given Members) (o : Out) (count : ℕ) (e : Extent) (b a : List ℕ) : Type 0 where
    pub helds : HeldFields
    pub is : g ≡ value (named_fields key helds)
    pub keys : EachField P helds
    pub counted : count ≡ count_fields helds
    pub came : CameFields key helds o e b a

  abbrev pub FieldsBy : Given Members → Out → List ℕ → List ℕ → Made → Type 0
  FieldsBy g o b a (Made.Done count e) = FieldsThere g o count e b a
  FieldsBy g o b a (Made.Needs n) = g ≡ missing n

  pub record FieldsCome (g : Given Members) (o : Out) (r : Made) (b a : List ℕ) : Type 0 where
    pub is : FieldsBy g o b a r
