-- What is met at an entry among members, and an element: a law for each place where it returns.
use Rattle.std.specs.Prelude.{◌≡◌, ℕ, pred, ◌+◌, ◌≤◌, ◌<◌}
use Rattle.std.proofs.Math.Path.{refl, ap}
use Rattle.std.proofs.Common.{sym, ◌∙◌, arith}
use mathlib.Core.List.{List, [], ◌∷◌}
use Rattle.std.proofs.Math.Option.{Option, none, some}
use Rattle.answers.specs.Ask.{value, refused, missing, then}
use Rattle.answers.specs.Theory.Sound.{clash}
use Rattle.rules.specs.Tree.{simple, array, object, unresolved}
use Rattle.rules.specs.Values.{array_of, Members, Answer}
use Rattle.rules.specs.Layers.{Layer, written, settled, Counted, nothing, one, merged, made_member}
use Rattle.rules.specs.Settled.{Settled, Given, push_all, deeper_in, deeper_of, gather_in, gather_of, members_in, merged_in, node_in, elements_in, layer_in, counted_in, value_in}
use Rattle.eval_nodes.specs.declared.answer.Answered.{Answered}
use Rattle.eval_writer.specs.declared.Out.{Out}
use Rattle.eval_writer.specs.declared.Source.{Source}
use Rattle.eval_nodes.specs.Model.{key_at}
use Rattle.eval_nodes.specs.Clauses.{KeyIs, AnsweredIs}
use Rattle.eval_stack.specs.Model.{code_at}
use Rattle.eval_stack.specs.Clauses.{LinkIs}
use Rattle.eval_memory.specs.Keys.{KeyNumber}
use Rattle.eval_memory.specs.Finished.{Memory}
use Rattle.eval_memory.specs.Tables.{Shows}
use Rattle.eval_layers.specs.Gather.{TakenShows, nothing-shows, one-shows, needs-shows, merged-shows}
use Rattle.eval_layers.specs.declared.Taken.{Taken}
use Rattle.eval_groups.specs.Select.Contracts.{TakeIs}
use Rattle.eval_groups.specs.Select.Levels.{keys-first, keys-later, entry-number, same-below}
use Rattle.eval_groups.specs.Select.Tops.{taken-low, taken-high}
use Rattle.eval_groups.specs.Select.Uses.{Merging, take-shows}
use Rattle.eval_writer.specs.Copies.Sources.{records_of}
use Rattle.eval_leaves.specs.Clauses.{KeyBeforeIs}
use Rattle.eval_results.specs.Values.Steps.{then-done}
use Rattle.eval_value_laws.specs.declared.Field.{Field}
use Rattle.eval_value_laws.specs.Ground.{Names, memory_of}
use Rattle.eval_value_laws.specs.Clauses.{Left, merged_by, counted_by, LayerGiven, MembersGiven, TakenGivenBy, TakenIn, members_from, FieldIs, taken_of, ElementTakenIs}
use Rattle.eval_value_laws.specs.Given.{object-value, value-by, one-given, merged-given}
use Rattle.eval_value_laws.specs.Frames.{left-all}

-- ---- what layers come to, by the code's answer

module _ (M : Memory) (Q : ℕ → List Layer → Type 0) where
  abbrev TakenAs : Given Counted → Taken → Type 0
  TakenAs g Taken.Nothing = g ≡ value nothing
  TakenAs g (Taken.One c) = (l : Layer) × (g ≡ value (one l)) × Shows M c l
  TakenAs g (Taken.Needs a) = g ≡ missing a
  TakenAs g (Taken.Merged t) = (os : List Layer) × (g ≡ value (merged os)) × Q t os

  taken_as : (r : Taken) (g : Given Counted) → TakenShows M Q r g → TakenAs g r
  taken_as Taken.Nothing (value nothing) nothing-shows = refl
  taken_as (Taken.One c) (value (one l)) (one-shows s) = (l, refl, s)
  taken_as (Taken.Needs a) (missing b) (needs-shows e) = ap (λ (n : ℕ). missing n) (sym e)
  taken_as (Taken.Merged t) (value (merged os)) (merged-shows q) = (os, refl, q)
  taken_as Taken.Nothing (value (one l)) x4 = elim x4 [ ]
  taken_as Taken.Nothing (value (merged os)) x5 = elim x5 [ ]
  taken_as Taken.Nothing (refused _) x4 = elim x4 [ ]
  taken_as Taken.Nothing (missing b) x4 = elim x4 [ ]
  taken_as (Taken.One c) (value nothing) x5 = elim x5 [ ]
  taken_as (Taken.One c) (value (merged os)) x6 = elim x6 [ ]
  taken_as (Taken.One c) (refused _) x5 = elim x5 [ ]
  taken_as (Taken.One c) (missing b) x5 = elim x5 [ ]
  taken_as (Taken.Needs a) (value _) x5 = elim x5 [ ]
  taken_as (Taken.Needs a) (refused _) x6 = elim x6 [ ]
  taken_as (Taken.Merged t) (value nothing) x7 = elim x7 [ ]
  taken_as (Taken.Merged t) (value (one l)) x8 = elim x8 [ ]
  taken_as (Taken.Merged t) (refused _) x7 = elim x7 [ ]
  taken_as (Taken.Merged t) (missing b) x7 = elim x7 [ ]

-- ---- a layer has some value

some-defined : {A : Type 0} (x : Given A) (f : A → Answer) → ((a : A) → f a ≡ none → ⊥) → then x (λ a. value (f a)) ≡ value none → ⊥
some-defined (value a) f n e = n a (cc (e))
some-defined (refused q) f n e = clash (cc (e))
some-defined (missing q) f n e = clash (cc (e))

merged-defined : (known : ℕ → Option Answer) (d : ℕ) (os : List Layer) → merged_by known d os ≡ value none → ⊥
unfolding merged_in
merged-defined known d os e = some-defined (merged_in known (value_in known d) os) (λ v. some v) (λ a z. clash (cc (z))) e

layer-defined : (M : Memory) (known : ℕ → Option Answer) (top levels d c : ℕ) (l : Layer) → LayerGiven M known top levels d c l
    → layer_in known (value_in known d) l ≡ value none → ⊥
unfolding layer_in node_in
layer-defined M known top levels d c (settled v) g e = clash (cc (e))
layer-defined M known top levels d c (written (simple x)) g e = clash (cc (e))
layer-defined M known top levels d c (written (array es)) g e =
    some-defined (elements_in known (value_in known d) es) (λ vs. some (array_of vs)) (λ a z. clash (cc (z))) e
layer-defined M known top levels d c (written (object fs)) g e =
    merged-defined known (pred d) (written (object fs) ∷ []) (sym (object-value M known d fs (omega (arith, g.deep))) ∙ e)
layer-defined M known top levels d c (written (unresolved n ps)) g e = absurd g.shown

-- ---- an entry among members

took : {T R : List ℕ} {p top : ℕ} {w x : List ℕ} {tk : Taken} → TakeIs T R p top w x tk → Left top w x
took {top = top} {w = w} {x = x} t = record { below = same-below top w x t.is.same; len = t.is.len }

-- no first member of a key
pub field-later : {T B : List ℕ} {src : Source} {p top j : ℕ} {o : Out} {w b : List ℕ} → p < top → LinkIs w p j → j < p
    → FieldIs T B src p top o w w Field.Pass b b
unfolding members_in
field-later {T} {B} {src} {p} {top} {j} {o} {w} l h q =
    record {
      left = left-all;
      is = record {
        kept = refl;
        is = λ N known levels d base os g k.
            ap (members_in known (value_in known d) (push_all known os)) (keys-later (memory_of T B src N) w p top l (omega (arith, h.is)));
      };
    }

-- The source is given: antt would compute the long slice of its records to see that it follows from them. So too what stands behind the slice below.
module _ {T : List ℕ} (B : List ℕ) (src : Source) {p top j : ℕ} {w x : List ℕ} {tk : Taken} (below : p < top) (link : LinkIs w p j) (first : p ≤ j)
    (t : TakeIs T (records_of B src) p top w x tk) where
  module _ (N : Names) (known : ℕ → Option Answer) (levels d base : ℕ) (os : List Layer) (g : MembersGiven (memory_of T B src N) known w base top levels d os)
      (l : base ≤ p) where
    abbrev number : ℕ
    number = key_at T (records_of B src) (code_at w p)

    abbrev layers : Settled
    layers = deeper_of known (N.key number) (push_all known os)

    abbrev rest : Given Members
    rest = members_from (memory_of T B src N) known d os w (p + 1) top

    -- what the key's layers come to
    shown : TakenAs (memory_of T B src N) (Merging (memory_of T B src N) known g.basis.tables top x) (gather_of known layers []) tk
    unfolding gather_in deeper_in
    shown =
        taken_as (memory_of T B src N) (Merging (memory_of T B src N) known g.basis.tables top x) tk (gather_of known layers [])
        (take-shows (memory_of T B src N) known g.basis.tables g.shown g.fits l below (omega (arith, link.is)) t)

    -- its value, and the members behind it
    by-counted : (c : Given Counted) → gather_of known layers [] ≡ c
        → members_from (memory_of T B src N) known d os w p top
        ≡ then (counted_by known (pred d) c) (λ v. then rest (λ ms. value (made_member (N.key number) v ms)))
    unfolding gather_in deeper_in members_in counted_in
    by-counted c e =
        ap (members_in known (value_in known d) (push_all known os)) (keys-first (memory_of T B src N) w p top below (omega (arith, link.is)))
        ∙ ap (λ (q : Given Answer). then q (λ v. then rest (λ ms. value (made_member (N.key number) v ms))))
        (value-by (memory_of T B src N) known d layers (omega (arith, g.deep)) ∙ ap (λ (q : Given Counted). then q (λ c. counted_in known (value_in known (pred d)) c)) e)

    a_key : KeyNumber T N.items number
    a_key = entry-number (memory_of T B src N) g.shown p l below

  module _ {o : Out} {b : List ℕ} where
    pub field-nothing : tk ≡ Taken.Nothing → FieldIs T B src p top o w x Field.Pass b b
    unfolding counted_in
    field-nothing z =
        record {
          left = took t;
          is = record {
            kept = refl;
            is = λ N known levels d base os g l.
                let s = shown N known levels d base os g l in
                let q : gather_of known (layers N known levels d base os g l) [] ≡ value nothing = rw z at s in
                by-counted N known levels d base os g l (value nothing) q ∙ then-done (rest N known levels d base os g l);
          };
        }

    pub field-needs : {n : ℕ} → tk ≡ Taken.Needs n → FieldIs T B src p top o w x (Field.Needs n) b b
    unfolding counted_in
    field-needs {n} z =
        record {
          left = took t;
          is = record {
            is = λ N known levels d base os g l.
                let s = shown N known levels d base os g l in
                let q : gather_of known (layers N known levels d base os g l) [] ≡ missing n = rw z at s in
                by-counted N known levels d base os g l (missing n) q;
          };
        }

  module _ {k : ℕ} (K : KeyIs T (records_of B src) (code_at w p) k) {o i : Out} {b a : List ℕ} where
    -- its layers came to something
    keyed : (u : Taken) → TakenIn top u → KeyBeforeIs T B k o i b a
        → ((N : Names) (known : ℕ → Option Answer) (levels d base : ℕ) (os : List Layer) (g : MembersGiven (memory_of T B src N) known w base top levels d os) (l : base ≤ p)
        → (c : Given Counted) × (gather_of known (layers N known levels d base os g l) [] ≡ c)
        × TakenGivenBy (memory_of T B src N) known x top levels (pred d) c u × (counted_by known (pred d) c ≡ value none → ⊥))
        → FieldIs T B src p top o w x (Field.At u i) b a
    unfolding counted_in gather_in deeper_in
    keyed u m h G =
        record {
          left = took t;
          is = record {
            key = k;
            wrote = h;
            inside = m;
            is = λ N known levels d base os g l.
                let y = G N known levels d base os g l in
                rw K.is
                (record {
                  number = a_key N known levels d base os g l;
                  counted = y.0;
                  given = record { is = y.2 };
                  defined = y.3;
                  is = by-counted N known levels d base os g l y.0 y.1;
                });
          };
        }

    pub field-one : {c : ℕ} → tk ≡ Taken.One c → KeyBeforeIs T B k o i b a → FieldIs T B src p top o w x (Field.At (Taken.One c) i) b a
    unfolding gather_in deeper_in counted_in
    field-one {c} z h =
        keyed (Taken.One c) tt h (λ N known levels d base os g l.
        let M = memory_of T B src N in
        let s : TakenAs M (Merging M known g.basis.tables top x) (gather_of known (layers N known levels d base os g l) []) (Taken.One c) =
        rw z at (shown N known levels d base os g l) in
        let G = one-given M known g (N.key (number N known levels d base os g l)) x s.0 s.1 s.2 in
        (value (one s.0), s.1, (s.0, refl, G), layer-defined M known top levels (pred d) c s.0 G))

    pub field-merged : {hi : ℕ} → tk ≡ Taken.Merged hi → KeyBeforeIs T B k o i b a → FieldIs T B src p top o w x (Field.At (Taken.Merged hi) i) b a
    unfolding gather_in deeper_in counted_in merged_in
    field-merged {hi} z h =
        keyed (Taken.Merged hi) (taken-low t z, taken-high t z) h (λ N known levels d base os g l.
        let M = memory_of T B src N in
        let s : TakenAs M (Merging M known g.basis.tables top x) (gather_of known (layers N known levels d base os g l) []) (Taken.Merged hi) =
        rw z at (shown N known levels d base os g l) in
        let G = merged-given M known g (N.key (number N known levels d base os g l)) x s.0 s.1 s.2 in
        (value (merged s.0), s.1, (s.0, refl, G), merged-defined known (pred d) s.0))

pub ruleset field_laws = (field-later, field-nothing, field-needs, field-one, field-merged)

-- ---- an element

module _ {T : List ℕ} {c : ℕ} {v : Answered} (h : AnsweredIs T c v) where
  element-by : (u : Answered) → v ≡ u → ElementTakenIs T c (taken_of u)
  element-by u e = record { is = ap taken_of (sym e ∙ h.is) }

  pub element-missing : {n : ℕ} → v ≡ Answered.Missing n → ElementTakenIs T c (Taken.Needs n)
  element-missing {n} e = element-by (Answered.Missing n) e

  pub element-undefined : v ≡ Answered.Undefined → ElementTakenIs T c Taken.Nothing
  element-undefined e = element-by Answered.Undefined e

  pub element-layer : {l : ℕ} → v ≡ Answered.Layer l → ElementTakenIs T c (Taken.One l)
  element-layer {l} e = element-by (Answered.Layer l) e

pub ruleset element-laws = (element-missing, element-undefined, element-layer)
