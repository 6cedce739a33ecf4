-- The refusals of resolve and check: which come from the inputs and which from resolving; their numbers and places, and when number 1 is
-- given.
use Rattle.std.specs.Prelude.{◌≡◌, ℕ, ◌-◌, ◌≤◌, Bool, true, false, ◌&&◌, List, [], ◌∷◌, ◌⊎◌, length, replicate}
use Rattle.std.proofs.Math.Path.{refl, ap}
use Rattle.std.proofs.Math.Option.{Option, none, some}
use Rattle.std.proofs.Common.{inl, inr, arith}
use Rattle.std.proofs.Math.Dec.{leb}
use borrow.Author.Tests.{le-leb, leb-true}
use Rattle.answers.specs.Ask.{mem}
use Rattle.answers.specs.Resolve.{Res, answer, dry, resolve}
use Rattle.answers.specs.Theory.Sound.{clash, mem-more, mem-cases}
use Rattle.answers.specs.Theory.Holds.{Holds, dries}
use Rattle.rules.specs.Sizes.{max_document, max_budget, max_room, max_path_text}
use Rattle.rules.specs.Bytes.{Text}
use Rattle.rules.specs.Refusals.{Refusal, placed, nowhere, spent_fuel, number_of, place_of, Scan, ok}
use Rattle.rules.specs.Utf8.{ill_formed}
use Rattle.rules.specs.Environment.{Variable, entries_of, text_of}
use Rattle.rules.specs.Values.{Value, Answer, within_size}
use Rattle.rules.specs.Unresolved.{Unresolved}
use Rattle.rules.specs.Documents.{Document, Setting, Input, valid, refused, read_document, with_environment, inputs, count_of}
use Rattle.rules.specs.Sheet.{table_fits}
use Rattle.rules.specs.Checking.{accepted}
use Rattle.rules.specs.Paths.{path_text}
use Rattle.rules.specs.LookUp.{is_whole, value_named}
use Rattle.rules.specs.Positions.{line_of, column_of}
use Rattle.rules.specs.Jobs.{Result, Resolved, refused_with, room_of, order_of, handed_back, resolved, located, resolve_job, filled, buffers_of}
use Rattle.rules.specs.Jobs.{Verdict, yes, refused_at, verdict, check_job, Found, not_found, found_at, looked_up, look_up_job}
use Rattle.theory_text.specs.Choices.{by-test, by-option}
use Rattle.theory.specs.Layout.{both_true}
use Rattle.theory.specs.Scanning.{Among, reading_numbers}
use Rattle.theory.specs.Numbering.{Prepared, prepared}
use Rattle.theory.specs.Reach.{Each}
use Rattle.theory.specs.ReadingEnds.{document-numbers}
use Rattle.theory.specs.Resolving.{root_of, resolve-ordinary, resolve-holds}
use Rattle.theory.specs.RuleRefusals.{Passes, Placed, places-any, resolve-fine}
use Rattle.theory.specs.PathNumbers.{path_numbers, path-text-numbers}
use Rattle.theory.specs.LookUpSteps.{found_none, found_part}
use Rattle.theory.specs.LookUps.{named-part}
use Rattle.theory.specs.ReadingPlaces.{In}
use Rattle.theory.specs.DocumentPlaces.{unresolved-places}

-- ---- what resolving refuses

-- the numbers of resolving
abbrev pub resolving_numbers : List ℕ
resolving_numbers = 9 ∷ 10 ∷ 11 ∷ 12 ∷ 13 ∷ 14 ∷ []

abbrev numbered : Refusal → Bool
numbered y = mem (number_of y) (spent_fuel ∷ resolving_numbers)

numbered-passes : Passes numbered (λ p. Unit {0})
numbered-passes = record {
  rules = record { fuel = refl; undefined = λ p u. refl; mixed = λ p u. refl; large = refl };
  circular = λ p u. refl;
  excess = λ p u. refl;
  full = refl;
  none-there = tt;
}

any-placed : (us : List Unresolved) → Each (Placed (λ p. Unit {0})) us
any-placed [] = tt
any-placed (u ∷ us) = ((tt, places-any (λ p. Unit {0}) (λ p. tt) u.pieces), any-placed us)

module _ (s : List ℕ) where
  abbrev in_text : Refusal → Bool
  in_text y = leb (place_of y) (length s)

  at_place : (number p : ℕ) → In s p → in_text (placed number p) ≡ true
  at_place number p h = le-leb p (length s) h

  places-pass : Passes in_text (In s)
  places-pass = record {
    rules = record {
      fuel = le-leb 0 (length s) (omega arith);
      undefined = at_place 9;
      mixed = at_place 11;
      large = le-leb 0 (length s) (omega arith);
    };
    circular = at_place 10;
    excess = at_place 12;
    full = le-leb 0 (length s) (omega arith);
    none-there = omega arith;
  }

module _ (x : Setting) (p : Prepared x.document) (trail_room text_room budget : ℕ) (y : Refusal)
    (e : resolve (order_of x trail_room text_room) budget (root_of x) (count_of x) ≡ Res.refused y) where
  resolving-numbers : Among resolving_numbers y
  resolving-numbers =
      let any = any-placed x.document.unresolved in
      let among = resolve-fine numbered (λ q. Unit {0}) numbered-passes x p any trail_room text_room budget y e in
      elim (mem-cases spent_fuel resolving_numbers (number_of y) among) [
        | inl z ↦ absurd (omega (arith, z, (resolve-ordinary x p trail_room text_room budget y e).1))
        | inr h ↦ h
      ]

  resolving-places : (s : List ℕ) → Each (Placed (In s)) x.document.unresolved → place_of y ≤ length s
  resolving-places s w = leb-true (place_of y) (length s) (resolve-fine (in_text s) (In s) (places-pass s) x p w trail_room text_room budget y e)

-- ---- number 1

-- "Document 0 to 32,768 bytes", and an environment that keeps its rules
abbrev pub GoodInputs : (document environment : List ℕ) → Type 0
GoodInputs d e = (length d ≤ max_document) × (es : List Variable) × (entries_of e ≡ some es)

-- either number 1, or the inputs are good and 1 is not given
pub data Bounds (others : Bool) (d e : List ℕ) : Type 0 where
  bad : inputs others d e ≡ refused (nowhere 1) → (others ≡ true → GoodInputs d e → ⊥) → Bounds others d e
  good : others ≡ true → GoodInputs d e → ((x : Refusal) → inputs others d e ≡ refused x → Among (2 ∷ reading_numbers) x) → Bounds others d e

with-refused : (d e : List ℕ) (es : List Variable) (x : Refusal) → with_environment (text_of es) (read_document d) ≡ refused x
    → Among (2 ∷ reading_numbers) x
with-refused d e es x h = go (read_document d) refl h
  where
    go : (m : Input Document) → read_document d ≡ m → with_environment (text_of es) m ≡ refused x → Among (2 ∷ reading_numbers) x
    go (valid a) k h = clash (cc)
    go (refused y) k h = let q : y ≡ x = cc in rw (← q) (document-numbers d y k)

pub bounds : (others : Bool) (d e : List ℕ) → Bounds others d e
unfolding inputs
bounds false d e = bad refl (λ t g. clash (cc))
bounds true d e = go (leb (length d) max_document) refl (entries_of e) refl
  where
    go : (t : Bool) → leb (length d) max_document ≡ t → (o : Option (List Variable)) → entries_of e ≡ o → Bounds true d e
    go false l o f = bad (rw (inputs, l) refl) (λ t g. clash (cc (le-leb (length d) max_document g.0)))
    go true l none f = bad (rw (inputs, l, f) refl) (λ t g. clash (cc g.2))
    go true l (some es) f =
        good refl (leb-true (length d) max_document l, es, f) (λ x h. with-refused d e es x (rw (inputs, l, f) at h))

-- an input that is refused has place 0, or the document is not too long; then every place in it is one of document 0
pub refused-short : (others : Bool) (d e : List ℕ) (x : Refusal) → inputs others d e ≡ refused x
    → (x ≡ nowhere 1) ⊎ (length d ≤ max_document)
refused-short others d e x h = go (bounds others d e)
  where
    go : Bounds others d e → (x ≡ nowhere 1) ⊎ (length d ≤ max_document)
    go (bad z _) = inl (cc (h, z))
    go (good _ g _) = inr g.0

pub valid-short : (others : Bool) (d e : List ℕ) (x : Setting) → inputs others d e ≡ valid x → length d ≤ max_document
valid-short others d e x h = go (bounds others d e)
  where
    go : Bounds others d e → length d ≤ max_document
    go (bad z _) = clash (cc (h, z))
    go (good _ g _) = g.0

-- ---- resolve

-- what has no place: its document and offset are 0, and its line and column
pub record Nowhere (r : Resolved) : Type 0 where
  pub document : r.document ≡ 0
  pub place : r.place ≡ 0
  pub line : r.line ≡ 0
  pub column : r.column ≡ 0

module _ (d e : List ℕ) (budget l m n : ℕ) where
  -- what resolve comes to: a refusal of the inputs, one of resolving, or a success
  pub data Outcome (r : Resolved) : Type 0 where
    unread : (x : Refusal) → inputs (leb budget max_budget) d e ≡ refused x → r ≡ located d (refused_with x) → Outcome r
    stopped : (x : Setting) → inputs (leb budget max_budget) d e ≡ valid x → (y : Refusal) → Among resolving_numbers y → place_of y ≤ length d
        → r ≡ located d (refused_with y) → Outcome r
    succeeded : r.number ≡ 0 → Nowhere r → Outcome r

  abbrev OutcomeOf : Result → Type 0
  OutcomeOf r = Outcome (located d r)

  handed-outcome : (x : Setting) → inputs (leb budget max_budget) d e ≡ valid x → (i : Res Refusal Answer Value)
      → resolve (order_of x (room_of l) (room_of n)) budget (root_of x) (count_of x) ≡ i → OutcomeOf (handed_back (room_of m) (room_of n) i)
  unfolding handed_back line_of column_of
  handed-outcome x h (Res.refused y) k =
      let p = prepared (leb budget max_budget) d e x h in
      stopped x h y (resolving-numbers x p (room_of l) (room_of n) budget y k)
      (resolving-places x p (room_of l) (room_of n) budget y k d (unresolved-places d (leb budget max_budget) e x h)) refl
  handed-outcome x h dry k = absurd (go (rw k at (resolve-holds x (prepared (leb budget max_budget) d e x h) (room_of l) (room_of n) budget)))
    where
      go : Holds {R = Answer} {A = Value} (λ y. 1 ≤ number_of y) ⊥ (λ v S n. Unit {0}) dry → ⊥
      go (dries z) = z
  handed-outcome x h (answer v S c) k =
      by-test OutcomeOf (within_size v)
      (λ small. by-test OutcomeOf (table_fits (room_of m) (room_of n) S v)
      (λ fits. succeeded refl (record { document = refl; place = refl; line = refl; column = refl }))
      (λ full. stopped x h (nowhere 14) refl (omega arith) refl))
      (λ large. stopped x h (nowhere 13) refl (omega arith) refl)

  pub outcome : Outcome (resolve_job d e budget l m n)
  unfolding resolve_job resolved
  outcome = go (inputs (leb budget max_budget) d e) refl
    where
      go : (i : Input Setting) → inputs (leb budget max_budget) d e ≡ i → OutcomeOf (resolved budget (room_of l) (room_of m) (room_of n) i)
      go (refused x) h = unread x h refl
      go (valid x) h = handed-outcome x h (resolve (order_of x (room_of l) (room_of n)) budget (root_of x) (count_of x)) refl

  pub resolve-unread : (x : Refusal) → inputs (leb budget max_budget) d e ≡ refused x
      → resolve_job d e budget l m n ≡ located d (refused_with x)
  unfolding resolve_job resolved
  resolve-unread x h = ap (λ (i : Input Setting). located d (resolved budget (room_of l) (room_of m) (room_of n) i)) h

-- ---- buffers after a refusal

filled_zero : (size : ℕ) → filled size [] ≡ replicate size 0
unfolding filled
filled_zero size = let z : size - 0 ≡ size = omega arith in ap (λ k. replicate k 0) z

pub zeroed : (d : List ℕ) (l m n : ℕ) (x : Refusal)
    → buffers_of l m n (located d (refused_with x)) ≡ record { trail = replicate l 0; table = replicate m 0; text = replicate n 0 }
unfolding buffers_of refused_with
zeroed d l m n x = rw (buffers_of, filled_zero l, filled_zero m, filled_zero n) refl

-- ---- check

module _ (d e trail table text : List ℕ) where
  abbrev pub lent_bounds : Bool
  lent_bounds = leb (length trail) max_room && leb (length table) max_room && leb (length text) max_room

  pub data Judgement (v : Verdict) : Type 0 where
    unread : (x : Refusal) → inputs lent_bounds d e ≡ refused x → v ≡ refused_at d (number_of x) (place_of x) → Judgement v
    read : (x : Setting) → inputs lent_bounds d e ≡ valid x → accepted x trail table text ≡ true
        → v ≡ yes → Judgement v
    not-accepted : (x : Setting) → inputs lent_bounds d e ≡ valid x → accepted x trail table text ≡ false
        → v ≡ refused_at d 17 0 → Judgement v

  pub judgement : Judgement (check_job d e trail table text)
  unfolding check_job verdict
  judgement = go (inputs lent_bounds d e) refl
    where
      go : (i : Input Setting) → inputs lent_bounds d e ≡ i → Judgement (verdict d trail table text i)
      go (refused x) h = unread x h refl
      go (valid x) h =
          by-test Judgement (accepted x trail table text) (λ t. read x h t refl) (λ f. not-accepted x h f refl)

  pub lent-true : length trail ≤ max_room → length table ≤ max_room → length text ≤ max_room → lent_bounds ≡ true
  lent-true h k m = rw (le-leb _ _ h, le-leb _ _ k, le-leb _ _ m) refl

  pub lent-short : lent_bounds ≡ true → (length trail ≤ max_room) × (length table ≤ max_room) × (length text ≤ max_room)
  lent-short e =
      let (two, third) = both_true _ _ e in
      let (first, second) = both_true _ _ two in
      (leb-true _ _ first, leb-true _ _ second, leb-true _ _ third)

-- ---- look-up

module _ (table text path : List ℕ) where
  abbrev Lent : Type 0
  Lent = (length table ≤ max_room) × (length text ≤ max_room) × (length path ≤ max_path_text)

  -- what look-up comes to, in its order
  pub data Step (f : Found) : Type 0 where
    long : (Lent → ⊥) → f.number ≡ 1 → Step f
    broken : Lent → is_whole table (length text) ≡ false → f.number ≡ 15 → Step f
    bad-path : Lent → is_whole table (length text) ≡ true → mem f.number (2 ∷ path_numbers) ≡ true → Step f
    nothing : Lent → is_whole table (length text) ≡ true → (names : List Text) (end : ℕ) → ill_formed path ≡ none
        → path_text path ≡ ok names end → value_named table text names 0 ≡ none → f.number ≡ 16 → Step f
    something : Lent → is_whole table (length text) ≡ true → (names : List Text) (end : ℕ) → ill_formed path ≡ none
        → path_text path ≡ ok names end → (at : ℕ) → value_named table text names 0 ≡ some at → f.number ≡ 0 → Step f

  module _ (l : Lent) (whole : is_whole table (length text) ≡ true) where
    named_step : (names : List Text) (end : ℕ) → ill_formed path ≡ none → path_text path ≡ ok names end → (o : Option ℕ)
        → value_named table text names 0 ≡ o → Step (found_at table text o)
    unfolding not_found
    named_step names end f p none v = nothing l whole names end f p v (ap (λ x. x.number) (found_none table text))
    named_step names end f p (some at) v =
        let (after, q, h, k) = named-part table text names at whole v in
        something l whole names end f p at v (ap (λ x. x.number) (found_part table text at after q))

    path-step : ill_formed path ≡ none → (m : Scan (List Text)) → path_text path ≡ m → Step (looked_up table text m)
    unfolding looked_up not_found
    path-step f (ok names end) p = named_step names end f p (value_named table text names 0) refl
    path-step f (Scan.refused x) p = bad-path l whole (mem-more 2 path_numbers (number_of x) (path-text-numbers path x p))

  pub step : Step (look_up_job table text path)
  unfolding look_up_job not_found
  step =
      by-test Step (leb (length table) max_room && leb (length text) max_room && leb (length path) max_path_text)
      (λ e. let (two, third) = both_true _ _ e in
      let (first, second) = both_true _ _ two in
      let l : Lent = (leb-true _ _ first, leb-true _ _ second, leb-true _ _ third) in
      by-test Step (is_whole table (length text))
      (λ whole. by-option Step (ill_formed path) (λ f. path-step l whole f (path_text path) refl) (λ place f. bad-path l whole refl))
      (λ f. broken l f refl))
      (λ e. long (λ l. clash (cc (le-leb _ _ l.0, le-leb _ _ l.1, le-leb _ _ l.2))) refl)
