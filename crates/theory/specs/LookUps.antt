-- Look-up in any lent table: what a path names in a whole table is a whole value, so the part that is handed back lies inside the table
-- and is not empty; no refusal has the number 0, and its place is not past the path text.
use Rattle.std.specs.Prelude.{◌≡◌, ℕ, zero, suc, ◌+◌, ◌≤◌, ◌<◌, List, [], ◌∷◌, Bool, true, false, ◌&&◌, length}
use Rattle.std.proofs.Math.Path.{refl}
use Rattle.std.proofs.Common.{sym, ◌∙◌, ap}
use Rattle.std.proofs.Math.Option.{Option, none, some}
use native.Mathlib.Omega.{arith}
use Rattle.std.proofs.Math.Dec.{leb}
use borrow.Author.Tests.{leb-true}
use Rattle.answers.specs.Ask.{mem}
use Rattle.answers.specs.Theory.Sound.{clash}
use Rattle.rules.specs.Sizes.{max_nesting, max_room, max_path_text}
use Rattle.rules.specs.Bytes.{Text, byte_at, same}
use Rattle.rules.specs.Refusals.{look_up_numbers, Refusal, placed, nowhere, spent_fuel, number_of, place_of, Scan, ok, refused}
use Rattle.rules.specs.Utf8.{ill_formed}
use Rattle.rules.specs.Paths.{path_text}
use Rattle.rules.specs.Sheet.{pair_at}
use Rattle.rules.specs.LookUp.{after_members, after_value, is_whole, text_at, member_from, member_at, value_named}
use Rattle.rules.specs.Jobs.{Found, not_found, found_at, looked_up, look_up_job}
use Rattle.theory_text.specs.Choices.{by-test, by-option}
use Rattle.theory.specs.Scanning.{Among, among-all}
use Rattle.theory.specs.Layout.{both_true}
use Rattle.theory.specs.PathNumbers.{path_numbers, path-text-numbers}
use Rattle.theory.specs.PathPlaces.{path-places, ill-formed-place}
use Rattle.theory.specs.TableSteps.{some_one, text-inv, members-inv, RecordAt, plain_at, text-at, container-at}
use Rattle.theory.specs.TableSteps.{members_end, value-inv, whole-inv}
use Rattle.theory.specs.Tables.{levels-more, value-forward}
use Rattle.theory.specs.LookUpSteps.{from_zero, from-here, from_next, member-inv, named-nil, named-inv}

module _ (table text : List ℕ) where
  abbrev after : ℕ → ℕ → Option ℕ
  after levels at = after_value levels table (length text) at

  -- a value is whole within so many levels
  abbrev pub WholeAt : ℕ → ℕ → Type 0
  WholeAt levels at = (end : ℕ) × (after levels at ≡ some end)

  -- ---- what a path names is whole

  -- the first member of an object has its value behind its key
  pub member-first : (levels n at end : ℕ) → after_members true (after levels) table (length text) (suc n) at ≡ some end
      → (next : ℕ) × (after levels (at + 5) ≡ some next) × (after_members true (after levels) table (length text) n next ≡ some end)
  member-first levels n at end e =
      let m = members-inv table (length text) (after levels) true n at end e in
      let behind-key = (text-inv table (length text) 8 at m.place m.has_key).ends in
      (m.next, ap (after levels) (sym behind-key) ∙ m.has_value, m.others)

  from-whole : (key : Text) (levels : ℕ) → levels ≤ max_nesting → (n at end place : ℕ)
      → after_members true (after levels) table (length text) n at ≡ some end → member_from n table text key at ≡ some place → WholeAt levels place
  from-whole key levels h zero at end place e f = clash (cc (from_zero table text key at))
  from-whole key levels h (suc n) at end place e f =
      let (next, first, others) = member-first levels n at end e in
      go (same (text_at table text at) key) refl next first (from-whole key levels h n next end place others)
    where
      go : (t : Bool) → same (text_at table text at) key ≡ t → (next : ℕ) → after levels (at + 5) ≡ some next
          → (member_from n table text key next ≡ some place → WholeAt levels place) → WholeAt levels place
      go true q next first ih =
          let here : at + 5 ≡ place = some_one (sym (from-here table text key n at q) ∙ f) in
          (next, ap (after levels) (sym here) ∙ first)
      go false q next first ih =
          ih (sym (from_next table text key n at next q (levels-more table (length text) levels max_nesting (at + 5) next h first)) ∙ f)

  member-whole : (key : Text) (levels at place : ℕ) → levels ≤ max_nesting → WholeAt levels at → member_at table text key at ≡ some place
      → WholeAt max_nesting place
  member-whole key levels at place h (end, e) f =
      let (object, from) = member-inv table text key at place f in
      go levels h (value-inv table (length text) levels at end e) object from
    where
      go : (levels : ℕ) → levels ≤ max_nesting → RecordAt table (length text) at (members_end table (length text) levels at) end → byte_at table at ≡ 7
          → member_from (pair_at table (at + 1)) table text key (at + 3) ≡ some place → WholeAt max_nesting place
      go levels h (plain_at l m q) object from = absurd (omega arith)
      go levels h (text-at l m t) object from = absurd (omega arith)
      go levels h (container-at false k l q) object from = absurd (omega arith)
      go zero h (container-at true k l q) object from = clash (cc)
      go (suc levels) h (container-at true k l q) object from =
          let (end', whole) = from-whole key levels (omega arith) (pair_at table (at + 1)) (at + 3) end place q from in
          (end', levels-more table (length text) levels max_nesting place end' (omega arith) whole)

  -- what a path names in a whole value is whole
  pub named-whole : (path : List Text) (at place : ℕ) → WholeAt max_nesting at → value_named table text path at ≡ some place → WholeAt max_nesting place
  named-whole [] at place w e = (w.0, ap (after max_nesting) (some_one (sym e ∙ named-nil table text at)) ∙ w.1)
  named-whole (key ∷ path) at place w e =
      let (p, f, g) = named-inv table text key path at place e in
      named-whole path p place (member-whole key max_nesting at p (omega arith) w f) g

  -- so the part that a path names in a whole table is there, and lies inside it
  pub named-part : (path : List Text) (at : ℕ) → is_whole table (length text) ≡ true → value_named table text path 0 ≡ some at
      → (end : ℕ) × (after max_nesting at ≡ some end) × (at < end) × (end ≤ length table)
  named-part path at whole e =
      let (end, f) = named-whole path 0 at (length table, whole-inv table (length text) whole) e in
      let (h, k) = value-forward table (length text) max_nesting at end f in
      (end, f, h, k)

-- ---- the job

module _ (table : List ℕ) where
  -- a part inside the table, not empty; or an empty part and a refusal's number
  pub data Answered (f : Found) : Type 0 where
    part : f.number ≡ 0 → f.place ≡ 0 → 1 ≤ f.size → f.start + f.size ≤ length table → Answered f
    refusal : mem f.number look_up_numbers ≡ true → f.start ≡ 0 → f.size ≡ 0 → Answered f

  refused-answered : (x : Refusal) → Among look_up_numbers x → Answered (not_found x)
  unfolding not_found
  refused-answered x h = refusal h refl refl

  module _ (text : List ℕ) (whole : is_whole table (length text) ≡ true) where
    found-answered : (path : List Text) (o : Option ℕ) → value_named table text path 0 ≡ o → Answered (found_at table text o)
    unfolding found_at
    found-answered path none e = refused-answered (nowhere 16) refl
    found-answered path (some at) e =
        let (end, f, h, k) = named-part table text path at whole e in
        rw (found_at, f) (part refl refl (omega arith) (omega arith))

    path-answered : (m : Scan (List Text)) → ((x : Refusal) → m ≡ refused x → Among path_numbers x) → Answered (looked_up table text m)
    unfolding looked_up
    path-answered (ok path end) h = found-answered path (value_named table text path 0) refl
    path-answered (refused x) h =
        refused-answered x (among-all path_numbers look_up_numbers (refl, (refl, (refl, (refl, (refl, tt))))) (number_of x) (h x refl))

  pub look-up-answered : (text path : List ℕ) → Answered (look_up_job table text path)
  unfolding look_up_job
  look-up-answered text path =
      by-test Answered (leb (length table) max_room && leb (length text) max_room && leb (length path) max_path_text)
      (λ e. by-test Answered (is_whole table (length text))
      (λ whole. by-option Answered (ill_formed path) (λ f. path-answered text whole (path_text path) (path-text-numbers path))
      (λ place f. refused-answered (placed 2 place) refl))
      (λ f. refused-answered (nowhere 15) refl))
      (λ e. refused-answered (nowhere 1) refl)

module _ (table text path : List ℕ) where
  abbrev answer : Found
  answer = look_up_job table text path

  -- a part that is handed back lies inside the table and is not empty
  pub look-up-part : answer.number ≡ 0 → (1 ≤ answer.size) × (answer.start + answer.size ≤ length table)
  look-up-part e = go (look-up-answered table text path)
    where
      go : Answered table answer → (1 ≤ answer.size) × (answer.start + answer.size ≤ length table)
      go (part n p h k) = (h, k)
      go (refusal m s t) = clash (cc)

  -- a refusal has one of its numbers, never 0, and an empty part
  pub look-up-refused : 1 ≤ answer.number → (mem answer.number look_up_numbers ≡ true) × (answer.start ≡ 0) × (answer.size ≡ 0)
  look-up-refused h = go (look-up-answered table text path)
    where
      go : Answered table answer → (mem answer.number look_up_numbers ≡ true) × (answer.start ≡ 0) × (answer.size ≡ 0)
      go (part n p k l) = absurd (omega arith)
      go (refusal m s t) = (m, s, t)

-- ---- places

-- a place of the path text, or its length, which is not more than is allowed
record PlaceIn (path : List ℕ) (f : Found) : Type 0 where
  pub in_path : f.place ≤ length path
  pub allowed : f.place ≤ max_path_text

module _ (table text path : List ℕ) where
  nowhere-in : (n : ℕ) → PlaceIn path (not_found (nowhere n))
  unfolding not_found
  nowhere-in n = record { in_path = omega arith; allowed = omega arith }

  refused-in : (x : Refusal) → place_of x ≤ length path → length path ≤ max_path_text → PlaceIn path (not_found x)
  unfolding not_found
  refused-in x h l = record { in_path = h; allowed = omega arith }

  found_in : (o : Option ℕ) → PlaceIn path (found_at table text o)
  unfolding found_at
  found_in none = nowhere-in 16
  found_in (some at) =
      by-option (PlaceIn path) (after_value max_nesting table (length text) at)
      (λ e. nowhere-in spent_fuel) (λ end e. record { in_path = omega arith; allowed = omega arith })

  path-in : (m : Scan (List Text)) → path_text path ≡ m → length path ≤ max_path_text → PlaceIn path (looked_up table text m)
  unfolding looked_up
  path-in (ok names end) e l = found_in (value_named table text names 0)
  path-in (refused x) e l = refused-in x (path-places path x e) l

  look-up-in : PlaceIn path (look_up_job table text path)
  unfolding look_up_job
  look-up-in =
      by-test (PlaceIn path) (leb (length table) max_room && leb (length text) max_room && leb (length path) max_path_text)
      (λ e. let (f, g) = both_true (leb (length table) max_room && leb (length text) max_room) (leb (length path) max_path_text) e in
      let l = leb-true (length path) max_path_text g in
      by-test (PlaceIn path) (is_whole table (length text))
      (λ whole. by-option (PlaceIn path) (ill_formed path) (λ f. path-in (path_text path) refl l)
      (λ place f. refused-in (placed 2 place) (omega (arith, ill-formed-place path place f)) l))
      (λ f. nowhere-in 15))
      (λ e. nowhere-in 1)

  -- an answer's place is in the path text or at its end, so never past the bytes that a path text may have
  pub look-up-place : ((look_up_job table text path).place ≤ length path) × ((look_up_job table text path).place ≤ max_path_text)
  look-up-place = (look-up-in.in_path, look-up-in.allowed)
