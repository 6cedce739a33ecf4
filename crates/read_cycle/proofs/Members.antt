-- The members of a container one after another: what is still to be read behind those that were.
use mathlib.Core.Path.{◌≡◌, refl, sym, ap, ◌∙◌}
use Prim.Native.Nat.{ℕ, suc, ◌≤◌, ◌<◌}
use mathlib.Core.Bool.{true, false}
use mathlib.Core.List.{List, [], ◌∷◌, ◌++◌, append_assoc, append-nil}
use native.Mathlib.Omega.{arith}
use lib.Dec.{eqb}
use lib.ListN.{length}
use Rattle.rules.specs.Bytes.{byte_at}
use Rattle.rules.specs.Refusals.{Refusal, ended, Scan, ok, refused, Read, got, read_then, keep_items}
use Rattle.rules.specs.Characters.{after_gap}
use Rattle.rules.specs.Tree.{Node, no-elements, element, no_fields, field, join_elements, join_fields}
use Rattle.rules.specs.Reading.{the_end, after_closing, parted, members_from, members_at, FieldRead, fields_of, elements_from}
use Rattle.theory.specs.ValueSteps.{members-left}
use Rattle.read_cycle.specs.Clauses.{parted_after}

-- members that were read, before those that are still to come
abbrev pub listed_to : {A : Type 0} → List A → Read (List A) → Read (List A)
listed_to done m = read_then m (λ ms end n. got (done ++ ms) end n)

listed-snoc : {A : Type 0} (done : List A) (a : A) (m : Read (List A))
    → listed_to done (read_then m (λ ms end n. got (a ∷ ms) end n)) ≡ listed_to (done ++ (a ∷ [])) m
listed-snoc done a (got ms end n) = ap (λ l. got l end n) (sym (append_assoc done (a ∷ []) ms))
listed-snoc done a (refused x) = refl

module _ {A : Type 0} (closing : ℕ) (member_at : ℕ → ℕ → Read A) (s : List ℕ) where
  one_more : (n : ℕ) (m : Read A) (k : Read A) → parted_after closing s m ≡ k
      → read_then m (λ a end i. read_then (keep_items i (parted closing s end)) (λ c after j. read_then (members_from n closing member_at s after j) (λ ms last z. got (a ∷ ms) last z)))
      ≡ read_then k (λ a after j. read_then (members_from n closing member_at s after j) (λ ms last z. got (a ∷ ms) last z))
  one_more n (refused x) k e = ap (λ q. read_then q (λ a after j. read_then (members_from n closing member_at s after j) (λ ms last z. got (a ∷ ms) last z))) e
  one_more n (got a end i) k e =
      go (parted closing s end) refl
      ∙ ap (λ q. read_then q (λ a after j. read_then (members_from n closing member_at s after j) (λ ms last z. got (a ∷ ms) last z))) e
    where
      go : (p : Scan ℕ) → parted closing s end ≡ p
          → read_then (keep_items i (parted closing s end)) (λ c after j. read_then (members_from n closing member_at s after j) (λ ms last z. got (a ∷ ms) last z))
          ≡ read_then (read_then (keep_items i (parted closing s end)) (λ p after k. got a after k)) (λ a after j. read_then (members_from n closing member_at s after j) (λ ms last z. got (a ∷ ms) last z))
      go (ok p after) q = rw q refl
      go (refused x) q = rw q refl

  -- all members of a container
  abbrev pub members_in : ℕ → ℕ → Read (List A)
  members_in at items = members_at closing member_at s at items

  -- where so many members were read, all of them are these and what is read from here on
  pub record Rest (at₀ items₀ at items : ℕ) (done : List A) : Type 0 where
    pub is : members_in at₀ items₀ ≡ listed_to done (members_from (suc (length s)) closing member_at s at items)

  pub rest-start : (at items : ℕ) → Rest at items (after_gap s at) items []
  unfolding members_at
  rest-start at items = record { is = same (members_from (suc (length s)) closing member_at s (after_gap s at) items) }
    where
      same : (m : Read (List A)) → m ≡ listed_to [] m
      same (got ms end n) = refl
      same (refused x) = refl

  module _ {at₀ items₀ at items : ℕ} {done : List A} (r : Rest at₀ items₀ at items done) where
    pub rest-close : eqb (byte_at s at) closing ≡ true → members_in at₀ items₀ ≡ got done (after_closing closing at) items
    unfolding members_from
    rest-close e = r.is ∙ rw (e, members_from) (ap (λ l. got l (after_closing closing at) items) (append-nil done))

    module _ (c : eqb (byte_at s at) closing ≡ false) where
      pub rest_end : eqb (byte_at s at) the_end ≡ true → members_in at₀ items₀ ≡ refused (ended s)
      unfolding members_from
      rest_end e = r.is ∙ rw (c, e, members_from)

      module _ (d : eqb (byte_at s at) the_end ≡ false) where
        here : members_from (suc (length s)) closing member_at s at items
            ≡ read_then (parted_after closing s (member_at at items)) (λ a after j. read_then (members_from (length s) closing member_at s after j) (λ ms last z. got (a ∷ ms) last z))
        unfolding members_from
        here = rw (c, d, members_from) (one_more (length s) (member_at at items) (parted_after closing s (member_at at items)) refl)

        pub rest-refused : {x : Refusal} → parted_after closing s (member_at at items) ≡ refused x → members_in at₀ items₀ ≡ refused x
        rest-refused e = r.is ∙ rw (here, e)

        pub rest-turn : ((p i : ℕ) (a : A) (end n : ℕ) → member_at p i ≡ got a end n → p < end) → {a : A} {after n : ℕ}
            → parted_after closing s (member_at at items) ≡ got a after n → 0 < after → after ≤ length s → Rest at₀ items₀ after n (done ++ (a ∷ []))
        rest-turn forward {a} {after} {n} e l m = record {
          is = r.is ∙ rw (here, e) (ap (λ q. listed_to done (read_then q (λ ms last z. got (a ∷ ms) last z))) (members-left s closing member_at forward (length s) (suc (length s)) after n (omega arith) (omega arith)) ∙ listed-snoc done a (members_from (suc (length s)) closing member_at s after n));
        }

-- ---- as elements and fields

pub elements-snoc : (ns : List Node) (n : Node) → elements_from (ns ++ (n ∷ [])) ≡ join_elements (elements_from ns) (element n no-elements)
unfolding elements_from join_elements
elements-snoc [] n = refl
elements-snoc (m ∷ ns) n = ap (element m) (elements-snoc ns n)

pub fields_snoc : (ms : List FieldRead) (m : FieldRead) → fields_of (ms ++ (m ∷ [])) ≡ join_fields (fields_of ms) (field m.key m.value no_fields)
unfolding fields_of join_fields
fields_snoc [] m = refl
fields_snoc (k ∷ ms) m = ap (field k.key k.value) (fields_snoc ms m)
