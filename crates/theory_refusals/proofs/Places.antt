-- Which refusals of each job have place 0; which of resolve and check have a line and a column; and which of resolve come from resolving
-- alone.
use Rattle.std.specs.Prelude.{◌≡◌, ℕ, ◌≤◌, Bool, ◌&&◌, leb, length}
use Rattle.std.proofs.Math.Path.{refl, ap}
use Rattle.std.proofs.Common.{sym, ◌∙◌}
use Rattle.std.proofs.Math.Bool.{true, false}
use mathlib.Core.List.{List, [], ◌∷◌}
use Rattle.std.proofs.Math.Option.{Option, none, some}
use Rattle.std.proofs.Math.Logic.{inl, inr}
use borrow.Author.Tests.{leb-true}
use Rattle.answers.specs.Ask.{mem}
use Rattle.answers.specs.Theory.Sound.{clash, All, mem-cases}
use Rattle.rules.specs.Sizes.{max_budget, max_nesting, max_room, max_path_text}
use Rattle.rules.specs.Bytes.{Text}
use Rattle.rules.specs.Refusals.{Refusal, nowhere, number_of, place_of, offset_of, Scan, ok}
use Rattle.rules.specs.Utf8.{ill_formed}
use Rattle.rules.specs.Positions.{line_at, column_at, has_place}
use Rattle.rules.specs.Paths.{path_text}
use Rattle.rules.specs.Documents.{Setting, valid, refused, inputs}
use Rattle.rules.specs.LookUp.{is_whole, after_value, value_named}
use Rattle.rules.specs.Jobs.{Resolved, refused_with, resolve_job, check_job, Found, not_found, found_at, looked_up, look_up_job, Verdict}
use Rattle.theory_text.specs.Choices.{by-test, by-option}
use Rattle.theory.specs.Scanning.{reading_numbers}
use Rattle.theory.specs.ReadingEnds.{inputs-numbers}
use Rattle.theory.specs.PathNumbers.{path_numbers, path-text-numbers}
use Rattle.theory.specs.JobRefusals.{Bounds, bad, good, bounds, resolving_numbers, Outcome, unread, stopped, succeeded, outcome}
use Rattle.theory.specs.JobRefusals.{lent_bounds, Judgement, read, not-accepted, judgement}
use Rattle.theory.specs.Promises.{OneOf, resolve-position, check-position}
use Rattle.theory_refusals.specs.Places.{in_document, resolve_nowhere, resolving_alone, check_nowhere, look_up_nowhere}
use Rattle.theory_refusals.proofs.When.{place-13, place-14}

-- a number stands in one of two lists that have none in common
apart : (ms ns : List ℕ) → All (λ a. mem a ns ≡ false) ms → (n : ℕ) → mem n ms ≡ true → mem n ns ≡ true → ⊥
apart [] ns h n e f = clash (cc)
apart (m ∷ ms) ns h n e f = elim (mem-cases m ms n e) [
  | inl z ↦ clash (cc (sym h.0 ∙ ap (λ i. mem i ns) z
      ∙ f))
  | inr k ↦ apart ms ns h.1 n k f
]

-- what holds of each number in a list holds of one that stands in it
each : (P : ℕ → Type 0) (ns : List ℕ) → All P ns → (n : ℕ) → mem n ns ≡ true → P n
each P [] h n e = clash (cc)
each P (m ∷ ns) h n e = elim (mem-cases m ns n e) [ inl z ↦ rw (← z) h.0 | inr k ↦ each P ns h.1 n k ]

in-document : (n : ℕ) → OneOf in_document n → has_place n ≡ true
unfolding has_place
in-document =
    each (λ n. has_place n ≡ true) in_document
    (refl, (refl, (refl, (refl, (refl, (refl, (refl, (refl, (refl, (refl, (refl, tt)))))))))))

-- where number 1 or one that reading does not give is given before resolving, it is 1
first : (others : Bool) (d e : List ℕ) (ms : List ℕ) → All (λ a. mem a (2 ∷ reading_numbers) ≡ false) ms → (x : Refusal)
    → inputs others d e ≡ refused x → mem (number_of x) ms ≡ true → place_of x ≡ 0
first others d e ms h x k w = go (bounds others d e)
  where
    go : Bounds others d e → place_of x ≡ 0
    go (bad q never) = let i : x ≡ nowhere 1 = cc in ap place_of i
    go (good t g among) = absurd (apart ms (2 ∷ reading_numbers) h (number_of x) w (among x k))

-- ---- resolve

module _ (document environment : List ℕ) (budget trail_length table_length text_length : ℕ) where
  abbrev job : Resolved
  job = resolve_job document environment budget trail_length table_length text_length

  abbrev others : Bool
  others = leb budget max_budget

  given : (x : Setting) → inputs others document environment ≡ valid x → (inputs true document environment ≡ valid x) × (budget ≤ max_budget)
  unfolding inputs
  given x h = go others refl h
    where
      go : (t : Bool) → others ≡ t → inputs t document environment ≡ valid x
          → (inputs true document environment ≡ valid x) × (budget ≤ max_budget)
      go true e k = (k, leb-true budget max_budget e)
      go false e k = clash (cc)

  pub resolve-place-0 : let r = resolve_job document environment budget trail_length table_length text_length in
      OneOf resolve_nowhere r.number → r.place ≡ 0
  unfolding refused_with
  resolve-place-0 m = go (outcome document environment budget trail_length table_length text_length) m
    where
      go : Outcome document environment budget trail_length table_length text_length job
          → OneOf resolve_nowhere job.number → job.place ≡ 0
      go (unread x k q) m = ap (λ r. r.place) q
          ∙ ap offset_of (first others document environment resolve_nowhere (refl, (refl, (refl, tt))) x k (rw q at m))
      go (succeeded z p) m = p.place
      go (stopped x k y w l q) m =
          let (is_read, modest) = given x k in
          elim (mem-cases 1 (13 ∷ 14 ∷ []) job.number m) [
            | inl z ↦ clash (cc (ap (λ i. mem i resolving_numbers) (z ∙ ap (λ r. r.number) q) ∙ w))
            | inr h ↦ elim (mem-cases 13 (14 ∷ []) job.number h) [
              | inl z ↦ place-13 document environment budget trail_length table_length text_length x is_read modest (sym z)
              | inr g ↦ elim (mem-cases 14 [] job.number g) [
                | inl z ↦ place-14 document environment budget trail_length table_length text_length x is_read modest (sym z)
                | inr f ↦ clash (cc (f))
              ]
            ]
          ]

  -- "every refusal with a place in a document carries all three"
  pub resolve-line : let r = resolve_job document environment budget trail_length table_length text_length in
      OneOf in_document r.number → (r.line ≡ line_at document r.place) × (r.column ≡ column_at document r.place)
  resolve-line m = (resolve-position document environment budget trail_length table_length text_length).0 (in-document job.number m)

  -- "All other places, those of 1, 13, 14 .. too, have line 0 and column 0."
  pub resolve-line-0 : let r = resolve_job document environment budget trail_length table_length text_length in
      OneOf resolve_nowhere r.number → (r.line ≡ 0) × (r.column ≡ 0)
  unfolding has_place
  resolve-line-0 m =
      (resolve-position document environment budget trail_length table_length text_length).1
      (each (λ n. has_place n ≡ false) resolve_nowhere (refl, (refl, (refl, tt))) job.number m)

  -- the numbers of resolving alone come only where the inputs are good and the document is read
  pub resolving-read : OneOf resolving_alone (resolve_job document environment budget trail_length table_length text_length).number
      → (x : Setting) × (inputs true document environment ≡ valid x) × (budget ≤ max_budget)
  unfolding refused_with
  resolving-read m = go (outcome document environment budget trail_length table_length text_length) m
    where
      go : Outcome document environment budget trail_length table_length text_length job
          → OneOf resolving_alone job.number
          → (x : Setting) × (inputs true document environment ≡ valid x) × (budget ≤ max_budget)
      go (unread x k q) m =
          absurd (apart resolving_alone (1 ∷ 2 ∷ reading_numbers) (refl, (refl, (refl, (refl, (refl, tt))))) (number_of x) (rw q at m)
          (inputs-numbers others document environment x k))
      go (stopped x k y w l q) m = let (is_read, modest) = given x k in (x, is_read, modest)
      go (succeeded z p) m = clash (cc)

-- ---- check

pub check-place-0 : (document environment trail table text : List ℕ)
    → let v = check_job document environment trail table text in
    OneOf check_nowhere v.number → v.place ≡ 0
check-place-0 d e trail table text m = go (judgement d e trail table text) m
  where
    go : Judgement d e trail table text (check_job d e trail table text) → OneOf check_nowhere (check_job d e trail table text).number
        → (check_job d e trail table text).place ≡ 0
    go (unread x k q) m =
        ap (λ v. v.place) q ∙ ap offset_of (first (lent_bounds d e trail table text) d e check_nowhere (refl, (refl, tt)) x k (rw q at m))
    go (read x k t q) m = ap (λ v. v.place) q
    go (not-accepted x k t q) m = ap (λ v. v.place) q

module _ (document environment trail table text : List ℕ) where
  abbrev verdict : Verdict
  verdict = check_job document environment trail table text

  pub check-line : let v = check_job document environment trail table text in
      OneOf in_document v.number → (v.line ≡ line_at document v.place) × (v.column ≡ column_at document v.place)
  check-line m = (check-position document environment trail table text).0 (in-document verdict.number m)

  pub check-line-0 : let v = check_job document environment trail table text in
      OneOf check_nowhere v.number → (v.line ≡ 0) × (v.column ≡ 0)
  unfolding has_place
  check-line-0 m =
      (check-position document environment trail table text).1
      (each (λ n. has_place n ≡ false) check_nowhere (refl, (refl, tt)) verdict.number m)

-- ---- look-up

abbrev Nowhere : Found → Type 0
Nowhere f = OneOf look_up_nowhere f.number → f.place ≡ 0

path-nowhere : (table text path : List ℕ) (m : Scan (List Text)) → path_text path ≡ m → Nowhere (looked_up table text m)
unfolding looked_up not_found found_at
path-nowhere table text path (Scan.refused x) p =
    λ m. absurd (apart look_up_nowhere path_numbers (refl, (refl, (refl, tt))) (number_of x) m (path-text-numbers path x p))
path-nowhere table text path (ok names end) p = go (value_named table text names 0)
  where
    go : (o : Option ℕ) → Nowhere (found_at table text o)
    go none = λ m. refl
    go (some at) = by-option Nowhere (after_value max_nesting table (length text) at) (λ e m. refl) (λ end e m. refl)

pub look-up-place-0 : (table text path : List ℕ)
    → let f = look_up_job table text path in
    OneOf look_up_nowhere f.number → f.place ≡ 0
unfolding look_up_job not_found
look-up-place-0 table text path =
    by-test Nowhere (leb (length table) max_room && leb (length text) max_room && leb (length path) max_path_text)
    (λ e. by-test Nowhere (is_whole table (length text))
    (λ w. by-option Nowhere (ill_formed path) (λ f. path-nowhere table text path (path_text path) refl) (λ place f m. clash (cc)))
    (λ w m. refl))
    (λ e m. refl)
