-- Members that come one by one: those so far, and what is still to come by the rules.
use Rattle.std.specs.Prelude.{◌≡◌, ℕ, ◌+◌, List}
use Rattle.std.proofs.Math.Path.{refl, sym, ap}
use Rattle.std.proofs.Common.{◌∙◌, arith}
use Rattle.std.proofs.Math.Option.{none, some}
use Rattle.answers.specs.Ask.{value, refused, missing, then}
use Rattle.rules.specs.Bytes.{Text}
use Rattle.rules.specs.Values.{array_of, object_of, Values, no-values, val, Members, no-members, member, Answer, join_values}
use Rattle.rules.specs.Layers.{made_item, made_member}
use Rattle.rules.specs.Settled.{Given}
use Rattle.sheet_kept.specs.Kept.{Held, listed, keyed, Helds, no-helds, also, HeldFields, no_fields, field, named, named_all, named_fields, count_helds, count_fields}
use Rattle.sheet_kept.specs.Building.{with_held, with_field, count_held, count-field}
use Rattle.eval_writer.specs.Clauses.{KeyWrote}
use Rattle.eval_writer.specs.Keys.{KeyIn}
use Rattle.eval_memory.specs.Keys.{EachKey, EachKeyOf, EachField}
use Rattle.eval_writer.specs.Building.{inside}
use Rattle.eval_writer.specs.declared.Out.{Out}
use Rattle.eval_results.specs.Extents.Contracts.{NotPast, ClipOutIs, more_c}
use Rattle.eval_results.specs.Extents.Members.{CameAll, CameFields, begun, came-none, came-more, came-array, came-no-fields, came-field, came-object}
use Rattle.eval_results.specs.declared.extents.Extent.{Extent}
use Rattle.eval_results.specs.Values.Contracts.{HeadedBy, HeadedIs}
use Rattle.eval_results.specs.Values.Comes.{ValueThere, Comes, ElementsBy, ElementsCome, FieldsBy, FieldsCome}
use Rattle.eval_results.specs.declared.values.Worked.{Worked}
use Rattle.eval_results.specs.declared.values.Made.{Made}

-- ---- what goes on after a run

pub then-done : {A : Type 0} (g : Given A) → then g (λ a. value a) ≡ g
then-done (value a) = refl
then-done (refused x) = refl
then-done (missing n) = refl

pub then-then : {A C D : Type 0} (g : Given A) (f : A → Given C) (k : C → Given D) → then (then g f) k ≡ then g (λ a. then (f a) k)
then-then (value a) f k = refl
then-then (refused x) f k = refl
then-then (missing n) f k = refl

pub then-each : {A C : Type 0} (g : Given A) (f k : A → Given C) → ((a : A) → f a ≡ k a) → then g f ≡ then g k
then-each (value a) f k h = h a
then-each (refused x) f k h = refl
then-each (missing n) f k h = refl

-- ---- members so far, and others behind them

unfoldable pub join_members : Members → Members → Members
join_members no-members ns = ns
join_members (member k v ms) ns = member k v (join_members ms ns)

module _ (key : ℕ → Text) where
  values-none : (vs : Helds) → join_values (named_all key vs) no-values ≡ named_all key vs
  unfolding named join_values
  values-none no-helds = refl
  values-none (also v vs) = ap (val (named key v)) (values-none vs)

  values-more : (vs : Helds) (w : Held) (ws : Values) → join_values (named_all key vs) (val (named key w) ws) ≡ join_values (named_all key (with_held vs w)) ws
  unfolding named join_values with_held
  values-more no-helds w ws = refl
  values-more (also v vs) w ws = ap (val (named key v)) (values-more vs w ws)

  members-none : (ms : HeldFields) → join_members (named_fields key ms) no-members ≡ named_fields key ms
  unfolding named join_members
  members-none no_fields = refl
  members-none (field k v ms) = ap (member (key k) (named key v)) (members-none ms)

  members-more : (ms : HeldFields) (k : ℕ) (w : Held) (ns : Members)
      → join_members (named_fields key ms) (member (key k) (named key w) ns) ≡ join_members (named_fields key (with_field ms k w)) ns
  unfolding named join_members with_field
  members-more no_fields k w ns = refl
  members-more (field j v ms) k w ns = ap (member (key j) (named key v)) (members-more ms k w ns)

module _ (P : ℕ → Type 0) where
  all-keys : (vs : Helds) (w : Held) → EachKeyOf P vs → EachKey P w → EachKeyOf P (with_held vs w)
  unfolding with_held
  all-keys no-helds w h k = (k, tt)
  all-keys (also v vs) w h k = (h.0, all-keys vs w h.1 k)

  field-keys : (ms : HeldFields) (k : ℕ) (w : Held) → EachField P ms → P k → EachKey P w → EachField P (with_field ms k w)
  unfolding with_field
  field-keys no_fields k w h i j = (i, j, tt)
  field-keys (field n v ms) k w h i j = (h.0, h.1, field-keys ms k w h.2 i j)

-- ---- elements

-- the elements that are there, and those still to come
pub record ElementsSoFar (key : ℕ → Text) (P : ℕ → Type 0) (g rest : Given Values) (o : Out) (count : ℕ) (e : Extent) (b x : List ℕ) : Type 0 where
  pub helds : Helds
  pub is : g ≡ then rest (λ ws. value (join_values (named_all key helds) ws))
  pub keys : EachKeyOf P helds
  pub counted : count ≡ count_helds helds
  pub came : CameAll key helds o e b x

module _ {key : ℕ → Text} {P : ℕ → Type 0} {o : Out} {b : List ℕ} where
  pub elements-begin : {g : Given Values} → NotPast o → ElementsSoFar key P g g o 0 (begun o) b b
  unfolding named join_values count_helds
  elements-begin {g} p = record { helds = no-helds; is = sym (then-done g); keys = tt; counted = refl; came = came-none p }

  module _ {g : Given Values} {count : ℕ} {e : Extent} {x : List ℕ} where
    pub elements-end : ElementsSoFar key P g (value no-values) o count e b x → ElementsCome key P g o (Made.Done count e) b x
    elements-end s =
        record {
          is = record {
            helds = s.helds;
            is = s.is ∙ ap (λ (ws : Values). value ws) (values-none key s.helds);
            keys = s.keys;
            counted = s.counted;
            came = s.came;
          };
        }

    module _ (a : Given Answer) (rest : Given Values) {all : Given Values} (z : all ≡ then a (λ a. then rest (λ vs. value (made_item a vs))))
        (s : ElementsSoFar key P g all o count e b x) {v : Worked} {y : List ℕ} (c : Comes key P a e.out v x y) where
      pub elements-done : {m : Extent} → v ≡ Worked.Done m → ElementsSoFar key P g rest o (count + 1) (more_c e m) b y
      elements-done {m} q =
          let t : ValueThere key P a e.out m x y = rw q at c.is in
          let vs = s.helds in
          let w = t.held in
          let k : Values → Given Values = λ ws. value (join_values (named_all key vs) ws) in
          let i : all ≡ then rest (λ ws. value (val (named key w) ws)) =
          z ∙ ap (λ (u : Given Answer). then u (λ a. then rest (λ vs. value (made_item a vs)))) t.is in
          record {
            helds = with_held vs w;
            is = s.is ∙ ap (λ (u : Given Values). then u k) i ∙ then-then rest (λ ws. value (val (named key w) ws)) k
                ∙ then-each rest _ _ (λ ws. ap (λ (u : Values). value u) (values-more key vs w ws));
            keys = all-keys P vs w s.keys t.keys;
            counted = omega (arith, s.counted, count_held vs w);
            came = came-more s.came t.came;
          }

      pub elements-undefined : v ≡ Worked.Undefined → ElementsSoFar key P g rest o count e b y
      elements-undefined q =
          let t : (a ≡ value none) × (y ≡ x) = rw q at c.is in
          let k : Values → Given Values = λ ws. value (join_values (named_all key s.helds) ws) in
          let i : all ≡ rest = z ∙ ap (λ (u : Given Answer). then u (λ a. then rest (λ vs. value (made_item a vs)))) t.0 ∙ then-done rest in
          record {
            helds = s.helds;
            is = s.is ∙ ap (λ (u : Given Values). then u k) i;
            keys = s.keys;
            counted = s.counted;
            came = rw t.1 s.came;
          }

      pub elements-need : {n : ℕ} → v ≡ Worked.Needs n → ElementsCome key P g o (Made.Needs n) b y
      elements-need {n} q =
          let t : a ≡ missing n = rw q at c.is in
          let k : Values → Given Values = λ ws. value (join_values (named_all key s.helds) ws) in
          let i : all ≡ missing n = z ∙ ap (λ (u : Given Answer). then u (λ a. then rest (λ vs. value (made_item a vs)))) t in
          record { is = s.is ∙ ap (λ (u : Given Values). then u k) i }

-- ---- fields

pub record FieldsSoFar (key : ℕ → Text) (P : ℕ → Type 0) (g rest : Given Members) (o : Out) (count : ℕ) (e : Extent) (b x : List ℕ) : Type 0 where
  pub helds : HeldFields
  pub is : g ≡ then rest (λ ns. value (join_members (named_fields key helds) ns))
  pub keys : EachField P helds
  pub counted : count ≡ count_fields helds
  pub came : CameFields key helds o e b x

module _ {key : ℕ → Text} {P : ℕ → Type 0} {o : Out} {b : List ℕ} where
  pub fields-begin : {g : Given Members} → NotPast o → FieldsSoFar key P g g o 0 (begun o) b b
  unfolding named join_members count_fields
  fields-begin {g} p = record { helds = no_fields; is = sym (then-done g); keys = tt; counted = refl; came = came-no-fields p }

  module _ {g : Given Members} {count : ℕ} {e : Extent} {x : List ℕ} where
    pub fields-end : FieldsSoFar key P g (value no-members) o count e b x → FieldsCome key P g o (Made.Done count e) b x
    fields-end s =
        record {
          is = record {
            helds = s.helds;
            is = s.is ∙ ap (λ (ns : Members). value ns) (members-none key s.helds);
            keys = s.keys;
            counted = s.counted;
            came = s.came;
          };
        }

    module _ (k : ℕ) (a : Given Answer) (rest : Given Members) {all : Given Members}
        (z : all ≡ then a (λ a. then rest (λ ms. value (made_member (key k) a ms)))) (s : FieldsSoFar key P g all o count e b x) where
      -- its key is written before it
      pub fields-done : {T B : List ℕ} {p i : Out} {m : Extent} {y w : List ℕ} → P k → KeyIn key T B k → KeyWrote T B k e.out p x y → ClipOutIs p i
          → ValueThere key P a i m y w → FieldsSoFar key P g rest o (count + 1) (more_c e m) b w
      fields-done n j h c t =
          let ms = s.helds in
          let w = t.held in
          let f : Members → Given Members = λ ns. value (join_members (named_fields key ms) ns) in
          let i : all ≡ then rest (λ ns. value (member (key k) (named key w) ns)) =
          z ∙ ap (λ (u : Given Answer). then u (λ a. then rest (λ ms. value (made_member (key k) a ms)))) t.is in
          record {
            helds = with_field ms k w;
            is = s.is ∙ ap (λ (u : Given Members). then u f) i ∙ then-then rest (λ ns. value (member (key k) (named key w) ns)) f
                ∙ then-each rest _ _ (λ ns. ap (λ (u : Members). value u) (members-more key ms k w ns));
            keys = field-keys P ms k w s.keys n t.keys;
            counted = omega (arith, s.counted, count-field ms k w);
            came = came-field s.came j h c t.came;
          }

      pub fields-undefined : a ≡ value none → FieldsSoFar key P g rest o count e b x
      fields-undefined t =
          let f : Members → Given Members = λ ns. value (join_members (named_fields key s.helds) ns) in
          let i : all ≡ rest = z ∙ ap (λ (u : Given Answer). then u (λ a. then rest (λ ms. value (made_member (key k) a ms)))) t ∙ then-done rest in
          record { helds = s.helds; is = s.is ∙ ap (λ (u : Given Members). then u f) i; keys = s.keys; counted = s.counted; came = s.came }

      pub fields-need : {n : ℕ} {y : List ℕ} → a ≡ missing n → FieldsCome key P g o (Made.Needs n) b y
      fields-need {n} t =
          let f : Members → Given Members = λ ns. value (join_members (named_fields key s.helds) ns) in
          let i : all ≡ missing n = z ∙ ap (λ (u : Given Answer). then u (λ a. then rest (λ ms. value (made_member (key k) a ms)))) t in
          record { is = s.is ∙ ap (λ (u : Given Members). then u f) i }

-- ---- with the head before them

module _ {key : ℕ → Text} {P : ℕ → Type 0} {o i : Out} {made : Made} {r : Worked} {b x a : List ℕ} (c : ClipOutIs (inside o) i) where
  pub array-comes : {g : Given Values} → ElementsCome key P g i made b x → HeadedIs o 6 made r x a
      → Comes key P (then g (λ vs. value (some (array_of vs)))) o r b a
  unfolding named
  array-comes {g} f h = go made f.is h.is
    where
      go : (m : Made) → ElementsBy key P g i b x m → HeadedBy o 6 m r x a → Comes key P (then g (λ vs. value (some (array_of vs)))) o r b a
      go (Made.Needs n) f h = record { is = rw h (rw f) }
      go (Made.Done count e) f h =
          record {
            is = rw h.1
                (record {
                  held = listed f.helds;
                  is = rw f.is;
                  keys = f.keys;
                  came = came-array c f.came h.3 h.2;
                });
          }

  pub object-comes : {g : Given Members} → FieldsCome key P g i made b x → HeadedIs o 7 made r x a
      → Comes key P (then (then g (λ ms. value (object_of ms))) (λ v. value (some v))) o r b a
  unfolding named
  object-comes {g} f h = go made f.is h.is
    where
      go : (m : Made) → FieldsBy key P g i b x m → HeadedBy o 7 m r x a
          → Comes key P (then (then g (λ ms. value (object_of ms))) (λ v. value (some v))) o r b a
      go (Made.Needs n) f h = record { is = rw h (rw f) }
      go (Made.Done count e) f h =
          record {
            is = rw h.1
                (record {
                  held = keyed f.helds;
                  is = rw f.is;
                  keys = f.keys;
                  came = came-object c f.came h.3 h.2;
                });
          }
