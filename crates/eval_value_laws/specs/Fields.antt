-- The keys of merged objects one by one: those so far are written, and what is still to come by the rules.
use Rattle.std.specs.Prelude.{◌≡◌, refl, ℕ, pred, ◌+◌, ◌≤◌, ◌<◌, List}
use Rattle.std.proofs.Math.Path.{sym, ap, subst}
use Rattle.std.proofs.Common.{◌∙◌}
use Rattle.std.proofs.Math.Option.{Option, none}
use native.Mathlib.Omega.{arith}
use Rattle.std.proofs.Math.ListN.{length}
use Rattle.answers.specs.Ask.{value, missing, then}
use Rattle.rules.specs.Bytes.{Text}
use Rattle.rules.specs.Values.{Members, no-members, Answer}
use Rattle.rules.specs.Layers.{Layer, keys_in_order, made_member}
use Rattle.rules.specs.Settled.{Given, push_all, members_in, counted_in, value_in}
use Rattle.eval_writer.specs.Keys.{KeyIn}
use Rattle.eval_writer.specs.declared.Out.{Out}
use Rattle.eval_writer.specs.declared.Source.{Source}
use Rattle.eval_results.specs.Extents.Contracts.{far, NotPast, Bounded}
use Rattle.eval_results.specs.Extents.Members.{begun}
use Rattle.eval_results.specs.declared.extents.Extent.{Extent}
use Rattle.eval_stack.specs.Model.{entries}
use Rattle.eval_memory.specs.Keys.{KeyNumber}
use Rattle.eval_layers.specs.declared.Taken.{Taken}
use Rattle.eval_groups.specs.Select.Levels.{level-stays, level-keys, keys_none, keys-stay}
use Rattle.eval_leaves.specs.Clauses.{KeyBeforeIs}
use Rattle.eval_results.specs.Values.Contracts.{MadeWithin, one_more, OneMoreIs}
use Rattle.eval_results.specs.Values.Comes.{ComesBy, FieldsCome}
use Rattle.eval_results.specs.Values.Steps.{FieldsSoFar, fields-begin, fields-done, fields-need, fields-end}
use Rattle.eval_results.specs.declared.values.Worked.{Worked}
use Rattle.eval_results.specs.declared.values.Made.{Made}
use Rattle.eval_value_laws.specs.declared.Field.{Field}
use Rattle.eval_value_laws.specs.Ground.{Names, memory_of}
use Rattle.eval_value_laws.specs.Clauses.{Asked, Left, MembersGiven, counted_by, TakenIn, TakenValueIs, members_from, FieldBy, FieldIs, OneMore, FieldsIs}
use Rattle.eval_value_laws.specs.Frames.{left-all, left-then, asked-again, key-not-past, more_within, one-more}

-- the keys before p are written
pub record Fielding (T B : List ℕ) (src : Source) (base top : ℕ) (o : Out) (levels : ℕ) (w₀ b₀ : List ℕ) (p n : ℕ) (e : Extent) (w b : List ℕ) : Type 0 where
  pub left : Left top w₀ w
  pub kept : length b ≡ length b₀
  pub within : Bounded e
  pub few : base + n ≤ p
  pub is : (N : Names) (known : ℕ → Option Answer) (d : ℕ) (os : List Layer) → MembersGiven (memory_of T B src N) known w₀ base top levels d os
      → FieldsSoFar N.key (KeyNumber T N.items) (members_in known (value_in known d) (push_all known os) (keys_in_order os))
      (members_from (memory_of T B src N) known d os w₀ p top) o n e b₀ b

-- what is given of members stays while others are written
given_stays : {T B : List ℕ} {src : Source} (N : Names) {known : ℕ → Option Answer} {w₀ w : List ℕ} {base top levels d : ℕ} {os : List Layer} → Left top w₀ w
    → MembersGiven (memory_of T B src N) known w₀ base top levels d os → MembersGiven (memory_of T B src N) known w base top levels d os
given_stays {T} {B} {src} N {w = w} f g =
    record { basis = g.basis; shown = level-stays (memory_of T B src N) w f.below g.shown; fits = g.fits; low = g.low; deep = g.deep }

-- the members with one more, or the answer that is needed
abbrev GrownBy : (ℕ → Text) → (ℕ → Type 0) → Given Members → Given Members → Out → List ℕ → List ℕ → Made → Type 0
GrownBy key P g rest o b y (Made.Done m e) = FieldsSoFar key P g rest o m e b y
GrownBy key P g rest o b y (Made.Needs j) = FieldsCome key P g o (Made.Needs j) b y

grow : {key : ℕ → Text} {P : ℕ → Type 0} {T B : List ℕ} {k : ℕ} {g all : Given Members} {o i : Out} {n : ℕ} {e : Extent} {b s a : List ℕ} (y : List ℕ) (v : Given Answer)
    (rest : Given Members) → all ≡ then v (λ v. then rest (λ ms. value (made_member (key k) v ms))) → (v ≡ value none → ⊥) → P k → KeyIn key T B k
    → KeyBeforeIs T B k e.out i s a → FieldsSoFar key P g all o n e b s → (u : Worked) → ComesBy key P v i a y u → GrownBy key P g rest o b y (one_more n e u)
grow {k = k} y v rest z D K I h f (Worked.Done m) c = fields-done k v rest z f K I h.wrote h.clipped c
grow y v rest z D K I h f Worked.Undefined c = absurd (D c.0)
grow {k = k} y v rest z D K I h f (Worked.Needs q) c = fields-need k v rest z f c

module _ {T B : List ℕ} {src : Source} {base top levels : ℕ} {o : Out} {w₀ b₀ : List ℕ} where
  pub fielding-start : NotPast o → Fielding T B src base top o levels w₀ b₀ base 0 (begun o) w₀ b₀
  unfolding members_in
  fielding-start q =
      record {
        left = left-all;
        kept = refl;
        within = record { out = q; deep = omega arith };
        few = omega arith;
        is = λ N known d os g.
            rw (level-keys (memory_of T B src N) g.basis.tables.stored g.shown) (fields-begin q);
      }

  module _ {p n : ℕ} {e : Extent} {w b : List ℕ} (I : Fielding T B src base top o levels w₀ b₀ p n e w b) where
    pub fielding-end : top ≤ p → FieldsIs T B src base top o levels w₀ w (Made.Done n e) b₀ b
    unfolding members_in
    fielding-end l =
        record {
          left = I.left;
          within = I.within;
          is = λ N known d os g.
              let s = I.is N known d os g in
              fields-end (rw (keys_none (memory_of T B src N) w₀ p top l) at s);
        }

    -- the members still to come are those of the stack as it is
    stays : (N : Names) (known : ℕ → Option Answer) (d : ℕ) (os : List Layer) (q : ℕ)
        → members_from (memory_of T B src N) known d os w₀ q top ≡ members_from (memory_of T B src N) known d os w q top
    unfolding members_in
    stays N known d os q = ap (members_in known (value_in known d) (push_all known os)) (sym (keys-stay (memory_of T B src N) w₀ w q top I.left.below))

    low : base ≤ p
    low = omega (arith, I.few)

    module _ {r : Field} {x a : List ℕ} (f : FieldIs T B src p top e.out w x r b a) where
      -- by what is met
      field-as : (u : Field) → r ≡ u → FieldBy T B src p top e.out w x b a u
      field-as u z = rw z at f.is

      pub fielding-pass : r ≡ Field.Pass → Fielding T B src base top o levels w₀ b₀ (p + 1) n e x a
      unfolding members_in
      fielding-pass z =
          let q = field-as Field.Pass z in
          record {
            left = left-then I.left f.left;
            kept = ap length q.kept ∙ I.kept;
            within = I.within;
            few = omega (arith, I.few);
            is = λ N known d os g.
                let k : members_from (memory_of T B src N) known d os w₀ p top ≡ members_from (memory_of T B src N) known d os w₀ (p + 1) top =
                stays N known d os p ∙ q.is N known levels d base os (given_stays N I.left g) low ∙ sym (stays N known d os (p + 1)) in
                rw (← k, q.kept) (I.is N known d os g);
          }

      pub fielding-need : {q : ℕ} → r ≡ Field.Needs q → FieldsIs T B src base top o levels w₀ x (Made.Needs q) b₀ a
      unfolding members_in
      fielding-need {q} z =
          record {
            left = left-then I.left f.left;
            within = tt;
            is = λ N known d os g.
                let m = (field-as (Field.Needs q) z).is N known levels d base os (given_stays N I.left g) low in
                fields-need 0 (missing q) (value no-members) (stays N known d os p ∙ m) (I.is N known d os g) refl;
          }

      module _ {taken : Taken} {i : Out} (z : r ≡ Field.At taken i) where
        -- what is lent on
        pub field-asked : Asked B src w₀ top o b₀ → length a ≡ length b → Asked B src x top i a
        field-asked A l = asked-again A (f.left.len ∙ I.left.len) A.used (key-not-past (field-as (Field.At taken i) z).wrote) (l ∙ I.kept)

        pub field-inside : TakenIn top taken
        field-inside = (field-as (Field.At taken i) z).inside

        module _ {w' y : List ℕ} {u : Worked} {m : Made} (v : TakenValueIs T B src top taken i levels x w' u a y) (k : OneMoreIs n e u m) where
          -- with it
          grown : (N : Names) (known : ℕ → Option Answer) (d : ℕ) (os : List Layer) → MembersGiven (memory_of T B src N) known w₀ base top levels d os
              → GrownBy N.key (KeyNumber T N.items) (members_in known (value_in known d) (push_all known os) (keys_in_order os))
              (members_from (memory_of T B src N) known d os w₀ (p + 1) top) o b₀ y m
          unfolding members_in counted_in
          grown N known d os g =
              let M = memory_of T B src N in
              let F = field-as (Field.At taken i) z in
              let G = F.is N known levels d base os (given_stays N I.left g) low in
              let S : FieldsSoFar N.key (KeyNumber T N.items) (members_in known (value_in known d) (push_all known os) (keys_in_order os)) (members_from M known d os w p top) o n e b₀ b =
              rw (← stays N known d os p) (I.is N known d os g) in
              let C = (v.is N known (pred d) G.counted G.given).is in
              rw (k.is, stays N known d os (p + 1))
              (grow y (counted_by known (pred d) G.counted) (members_from M known d os w (p + 1) top) G.is G.defined G.number
              (g.basis.tables.stored.names F.key G.number) F.wrote S u C)

          pub fielding-stop : {q : ℕ} → m ≡ Made.Needs q → FieldsIs T B src base top o levels w₀ w' (Made.Needs q) b₀ y
          unfolding members_in
          fielding-stop {q} c =
              record {
                left = left-then I.left (left-then f.left v.left);
                within = tt;
                is = λ N known d os g.
                    subst (GrownBy N.key (KeyNumber T N.items) (members_in known (value_in known d) (push_all known os) (keys_in_order os))
                    (members_from (memory_of T B src N) known d os w₀ (p + 1) top) o b₀ y) c (grown N known d os g);
              }

          pub fielding-done : {j : ℕ} {e' : Extent} → m ≡ Made.Done j e' → length y ≡ length b → Fielding T B src base top o levels w₀ b₀ (p + 1) j e' w' y
          unfolding members_in
          fielding-done {j} {e'} c s =
              let t : OneMore n (Made.Done j e') = rw c at (one-more k) in
              let q : MadeWithin (Made.Done j e') = rw c at (more_within I.within v.within k) in
              record {
                left = left-then I.left (left-then f.left v.left);
                kept = s ∙ I.kept;
                within = q;
                few = omega (arith, I.few);
                is = λ N known d os g.
                    subst (GrownBy N.key (KeyNumber T N.items) (members_in known (value_in known d) (push_all known os) (keys_in_order os))
                    (members_from (memory_of T B src N) known d os w₀ (p + 1) top) o b₀ y) c (grown N known d os g);
              }

    -- what is lent on
    pub fielding-asked : {t : ℕ} → Asked B src w₀ t o b₀ → Asked B src w t e.out b
    fielding-asked A = asked-again A I.left.len A.used I.within.out I.kept

    pub fielding-count : {t : ℕ} → p < t → t ≤ entries → n ≤ far
    fielding-count l h = omega (arith, I.few)

pub ruleset fields-laws = (fielding-start, fielding-end, fielding-pass, fielding-need)
