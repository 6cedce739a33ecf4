-- Reading a document never runs out of fuel: every value goes forward, and the nesting bounds how deep values stand. So no document is
-- refused by `spent`: a refusal of the inputs has one of the paper's numbers.
use Rattle.std.specs.Prelude.{◌≡◌, refl, Bool, ◌&&◌, ◌||◌, leb, ltb}
use Prim.Native.Nat.{ℕ, zero, suc, ◌+◌, ◌≤◌, ◌<◌}
use Rattle.std.proofs.Math.Bool.{true}
use mathlib.Core.List.{List, [], ◌∷◌}
use Rattle.std.proofs.Math.Option.{Option, some}
use Rattle.std.proofs.Common.{arith}
use Rattle.std.proofs.Math.Dec.{eqb}
use Rattle.std.proofs.Math.ListN.{length, get_elem?, length-map}
use Rattle.answers.specs.Theory.Sound.{mem-more}
use Rattle.rules.specs.Sizes.{max_nesting, max_document, max_unresolved}
use Rattle.rules.specs.Bytes.{byte_at}
use Rattle.rules.specs.Refusals.{Refusal, number_of, Read, got, refused, read_then}
use Rattle.rules.specs.Utf8.{ill_formed}
use Rattle.rules.specs.Environment.{Environment, entries_of, text_of}
use Rattle.rules.specs.Characters.{after_gap}
use Rattle.rules.specs.Paths.{starts_include, Element, elements_of, keys_of}
use Rattle.rules.specs.Tree.{Key, Node, array, object, Root, number_root}
use Rattle.rules.specs.Reading.{Start, brace, bracket, dollar, simple_start, start_of, node, the_end, value_place, allowed_keys, field_with, field_judged, field_at, element_at, array_at, object_at, piece_at, value_from, root_at, read_root}
use Rattle.rules.specs.Unresolved.{unresolved_in}
use Rattle.rules.specs.Documents.{Document, Input, valid, refused, limited, of_root, read_tree, read_document, with_environment, inputs}
use Rattle.theory_text.specs.Choices.{by-test, by-option, by-list}
use Rattle.theory_text.specs.Places.{gap-reached}
use Rattle.theory.specs.Scanning.{Among, among-some, reading_numbers, Scans, scan-refuses, From, to, simple-scans}
use Rattle.theory.specs.PathsEnd.{Verdict, passes, refuses, Fitting, judge-verdict, disallowed, segments-scans, substitution-scans}
use Rattle.theory.specs.PiecesEnd.{Reads, gots, read-refuses, read-refused, at-end, then-reads, reads-map, counting-reads, counted-reads, opened-reads, begun, pieces-read, judge-reads, members-reads}

module _ (s : List ℕ) where
  pub place-scans : (at : ℕ) → Scans (From at) (value_place s at)
  unfolding value_place
  place-scans at =
      let p = after_gap s at in
      let h = (gap-reached s at).forward in
      by-test (Scans (From at)) (eqb (byte_at s p) 58 || eqb (byte_at s p) 61)
      (λ e. to (omega (arith, (gap-reached s (p + 1)).forward)))
      (λ e. by-test (Scans (From at)) (eqb (byte_at s p) 123) (λ f. to h) (λ f. scan-refuses (disallowed s p)))

  -- where the values inside a container go forward
  module _ (value_at : ℕ → ℕ → ℕ → Read Node) (nesting : ℕ)
      (values : (inner place items : ℕ) → nesting ≤ inner → inner ≤ max_nesting → Reads (From (suc place)) (value_at inner place items)) where
    with-reads : (at items : ℕ) (ks : List Key) → 0 < length ks → nesting + length ks ≤ suc max_nesting
        → Reads (From (suc at)) (field_with value_at s nesting at items ks)
    unfolding field_with
    with-reads at items [] h l = absurd (omega arith)
    with-reads at items (k ∷ ks) h l =
        then-reads (counting-reads _ (place-scans at)) (λ p place items₁ f.
        then-reads (values (nesting + length ks) place items₁ (omega arith) (omega arith)) (λ n end items₂ g. at-end (omega arith)))

    judged-reads : (at items : ℕ) (es : List Element) {o : Option Refusal} → Verdict (Fitting (allowed_keys nesting items) es) o
        → Reads (From (suc at)) (field_judged value_at s nesting at items es o)
    unfolding field_judged
    judged-reads at items es (refuses h) = read-refuses h
    judged-reads at items es (passes h) =
        let e : length (keys_of es) ≡ length es = length-map es _ in
        with-reads at items (keys_of es) (omega arith) (omega arith)

    pub field-reads : (at items : ℕ) → Reads (From (suc at)) (field_at value_at s nesting at items)
    unfolding field_at
    field-reads at items =
        by-test (Reads (From (suc at))) (starts_include s at) (λ e. read-refuses refl) (λ e.
        then-reads (counting-reads items (segments-scans s true at)) (λ gs end items₁ h.
        by-list (Reads (From (suc at))) gs (read-refuses refl) (λ g rest.
        let es = elements_of (g ∷ rest) in
        reads-map (λ a last k. omega arith) (judged-reads end items₁ es (judge-verdict at (allowed_keys nesting items₁) es)))))

    module _ (nested : nesting ≤ max_nesting) where
      pub element-reads : (at items : ℕ) → Reads (From (suc at)) (element_at value_at s nesting at items)
      unfolding element_at
      element-reads at items =
          by-option (Reads (From (suc at))) (start_of s at) (λ b. read-refuses (disallowed s at)) (λ start b.
          counted-reads items at (value_at nesting at) (λ items₁. values nesting at items₁ (omega arith) nested))

      array-reads : (at items : ℕ) → Reads (From at) (array_at value_at s nesting at items)
      unfolding array_at
      array-reads at items = then-reads (members-reads s 93 (element_at value_at s nesting) element-reads at items) (λ ns end items₁ h. at-end h)

    object-reads : (closing at items : ℕ) → Reads (From at) (object_at value_at closing s nesting at items)
    unfolding object_at
    object-reads closing at items =
        then-reads (members-reads s closing (field_at value_at s nesting) field-reads at items) (λ ms end items₁ h. at-end h)

  module _ (value_at : ℕ → ℕ → ℕ → Read Node) (nesting : ℕ)
      (values : (inner place items : ℕ) → nesting < inner → inner ≤ max_nesting → Reads (From (suc place)) (value_at inner place items)) where
    pub piece-reads : (start : Start) (at items : ℕ) → start_of s at ≡ some start → Reads (From (suc at)) (piece_at value_at s nesting start at items)
    unfolding piece_at
    piece-reads brace at items e =
        opened-reads nesting at
        (λ inner. read_then (object_at value_at 125 s inner (at + 1) items) (λ fs end items₁. got (node (object fs)) end items₁)) (λ h.
        then-reads (object-reads value_at (nesting + 1) (λ m p i k l. values m p i (omega arith) l) 125 (at + 1) items)
        (λ fs end items₁ k. at-end (omega arith)))
    piece-reads bracket at items e =
        opened-reads nesting at
        (λ inner. read_then (array_at value_at s inner (at + 1) items) (λ es end items₁. got (node (array es)) end items₁)) (λ h.
        then-reads (array-reads value_at (nesting + 1) (λ m p i k l. values m p i (omega arith) l) (omega arith) (at + 1) items)
        (λ fs end items₁ k. at-end (omega arith)))
    piece-reads dollar at items e = then-reads (counting-reads items (substitution-scans s at)) (λ x end items₁ h. at-end h)
    piece-reads simple_start at items e =
        then-reads (counting-reads items (simple-scans s at ((begun s at simple_start e).1 refl))) (λ t end items₁ h. at-end h)

  -- the depth left and the nesting are more than 32 together, and the nesting is not: so the depth left is never 0
  pub value-reads : (depth nesting at items : ℕ) → max_nesting < depth + nesting → nesting ≤ max_nesting
      → Reads (From (suc at)) (value_from depth s nesting at items)
  unfolding value_from
  value-reads zero nesting at items h l = absurd (omega arith)
  value-reads (suc depth) nesting at items h l =
      let inner = piece_at (value_from depth s) s nesting in
      let piece = piece-reads (value_from depth s) nesting (λ m p i k o. value-reads depth m p i (omega arith) o) in
      by-option (Reads (From (suc at))) (start_of s at) (λ b. read-refuses (disallowed s at)) (λ start b.
      then-reads (pieces-read s inner piece (suc (length s)) at at items (omega arith)) (λ ps end items₁ m.
      let (some-piece, forward) = m.1 start b in
      judge-reads ps end items₁ some-piece forward))

  root-reads : (nesting at items : ℕ) → 1 ≤ nesting → nesting ≤ max_nesting → Reads (From at) (root_at s nesting at items)
  unfolding root_at
  root-reads nesting at items₀ one nested =
      let value_at = value_from max_nesting s in
      let values : (inner place items : ℕ) → nesting ≤ inner → inner ≤ max_nesting → Reads (From (suc place)) (value_at inner place items) =
      λ m p i k l. value-reads max_nesting m p i (omega arith) l in
      by-test (Reads (From at)) (eqb (byte_at s at) 123)
      (λ e. then-reads (object-reads value_at nesting values 125 (at + 1) items₀) (λ fs end items h. at-end (omega arith)))
      (λ e. by-test (Reads (From at)) (eqb (byte_at s at) 91)
      (λ f. then-reads (array-reads value_at nesting values nested (at + 1) items₀) (λ es end items h. at-end (omega arith)))
      (λ f. then-reads (object-reads value_at nesting values the_end at items₀) (λ fs end items h. at-end h)))

  pub document-reads : (nesting items : ℕ) → 1 ≤ nesting → nesting ≤ max_nesting → Reads (From 0) (read_root s nesting items)
  unfolding read_root
  document-reads nesting items₀ one nested =
      then-reads (root-reads nesting (after_gap s 0) items₀ one nested) (λ r end items h.
      by-test (Reads (From 0)) (ltb (after_gap s end) (length s)) (λ e. read-refuses refl) (λ e. at-end (omega arith)))

module _ (s : List ℕ) (nesting items : ℕ) (one : 1 ≤ nesting) (nested : nesting ≤ max_nesting) (x : Refusal) (e : read_root s nesting items ≡ refused x) where
  pub reading-numbers : Among reading_numbers x
  reading-numbers = read-refused (rw e at (document-reads s nesting items one nested))

  pub reading-ends : 1 ≤ number_of x
  reading-ends = among-some reading_numbers refl x reading-numbers

-- ---- documents and inputs

-- an input that is refused only by these numbers
data Refuses {A : Type 0} (ns : List ℕ) : Input A → Type 0 where
  gives : {a : A} → Refuses ns (valid a)
  input-refuses : {x : Refusal} → Among ns x → Refuses ns (refused x)

input-refused : {A : Type 0} {ns : List ℕ} {x : Refusal} → Refuses {A = A} ns (refused x) → Among ns x
input-refused (input-refuses h) = h

more-refuses : {A : Type 0} (n : ℕ) {ns : List ℕ} {m : Input A} → Refuses ns m → Refuses (n ∷ ns) m
more-refuses n gives = gives
more-refuses n {ns} (input-refuses {x} h) = input-refuses (mem-more n ns (number_of x) h)

limited-refuses : (d : Document) → Refuses reading_numbers (limited d)
unfolding limited
limited-refuses d = by-option (Refuses reading_numbers) (get_elem? d.unresolved max_unresolved) (λ e. gives) (λ u e. input-refuses refl)

root-refuses : {m : Read Root} → Reads (From 0) m → Refuses reading_numbers (of_root m)
unfolding of_root
root-refuses (gots {a} h) = let n = number_root a in limited-refuses (record { root = n; unresolved = unresolved_in n })
root-refuses (read-refuses h) = input-refuses h

document-refuses : (s : List ℕ) → Refuses (2 ∷ reading_numbers) (read_document s)
unfolding read_document read_tree of_root
document-refuses s =
    by-option (λ m. Refuses (2 ∷ reading_numbers) (of_root m)) (ill_formed s)
    (λ e. more-refuses 2 (root-refuses (document-reads s 1 0 (omega arith) (omega arith)))) (λ place e. input-refuses refl)

environment-refuses : (env : Environment) {ns : List ℕ} {m : Input Document} → Refuses ns m → Refuses ns (with_environment env m)
environment-refuses env gives = gives
environment-refuses env (input-refuses h) = input-refuses h

inputs-refuse : (others : Bool) (d e : List ℕ) → Refuses (1 ∷ 2 ∷ reading_numbers) (inputs others d e)
unfolding inputs
inputs-refuse others d e =
    by-test (Refuses (1 ∷ 2 ∷ reading_numbers)) (others && leb (length d) max_document)
    (λ f. by-option (Refuses (1 ∷ 2 ∷ reading_numbers)) (entries_of e) (λ g. input-refuses refl) (λ es g.
    environment-refuses (text_of es) (more-refuses 1 (document-refuses d))))
    (λ f. input-refuses refl)

pub document-numbers : (s : List ℕ) (x : Refusal) → read_document s ≡ refused x → Among (2 ∷ reading_numbers) x
document-numbers s x e = input-refused (rw e at (document-refuses s))

pub document-ends : (s : List ℕ) (x : Refusal) → read_document s ≡ refused x → 1 ≤ number_of x
document-ends s x e = among-some (2 ∷ reading_numbers) refl x (document-numbers s x e)

pub inputs-numbers : (b : Bool) (d e : List ℕ) (x : Refusal) → inputs b d e ≡ refused x → Among (1 ∷ 2 ∷ reading_numbers) x
inputs-numbers b d e x h = input-refused (rw h at (inputs-refuse b d e))

pub inputs_end : (b : Bool) (d e : List ℕ) (x : Refusal) → inputs b d e ≡ refused x → 1 ≤ number_of x
inputs_end b d e x h = among-some (1 ∷ 2 ∷ reading_numbers) refl x (inputs-numbers b d e x h)
