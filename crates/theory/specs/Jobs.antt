-- What the jobs come to: a success of resolve and a yes of check, taken apart and put together.
use Rattle.std.specs.Prelude.{◌≡◌, ℕ, ◌≤◌, List, Bool, ◌&&◌, leb, length}
use Rattle.std.proofs.Math.Path.{refl}
use Rattle.std.proofs.Common.{ap, arith}
use Rattle.std.proofs.Math.Bool.{true, false}
use borrow.Author.Tests.{le-leb, leb-true}
use Rattle.answers.specs.Ask.{Trail}
use Rattle.answers.specs.Resolve.{Res, answer, refused, dry, resolve}
use Rattle.answers.specs.Theory.Sound.{clash}
use Rattle.answers.specs.Theory.Holds.{Holds, holds-refused, dries}
use Rattle.rules.specs.Sizes.{max_budget, max_room}
use Rattle.rules.specs.Refusals.{Refusal, number_of}
use Rattle.rules.specs.Values.{Value, Answer, within_size}
use Rattle.rules.specs.Documents.{Setting, Input, valid, refused, inputs, count_of}
use Rattle.rules.specs.Sheet.{table_fits}
use Rattle.rules.specs.Checking.{accepted}
use Rattle.rules.specs.Jobs.{Result, room_of, order_of, sheet_for, handed_back, resolved, located, resolve_job, yes, verdict, check_job}
use Rattle.theory.specs.Layout.{both_true}
use Rattle.theory.specs.Numbering.{prepared}
use Rattle.theory.specs.Entries.{root_of}
use Rattle.theory.specs.Resolving.{resolve-holds}
use Rattle.theory.specs.ReadingEnds.{inputs_end}

-- ---- what is handed back

module _ (b c : ℕ) where
  pub handed-sheet : (v : Value) (S : Trail Answer) (n : ℕ) → within_size v ≡ true → table_fits b c S v ≡ true
      → handed_back b c (answer v S n) ≡ sheet_for v S n
  unfolding handed_back
  handed-sheet v S n small fits = rw (handed_back, small, fits)

  handed-13 : (v : Value) (S : Trail Answer) (n : ℕ) → within_size v ≡ false → (handed_back b c (answer v S n)).number ≡ 13
  unfolding handed_back
  handed-13 v S n large = rw (handed_back, large)

  handed-14 : (v : Value) (S : Trail Answer) (n : ℕ) → within_size v ≡ true → table_fits b c S v ≡ false
      → (handed_back b c (answer v S n)).number ≡ 14
  unfolding handed_back
  handed-14 v S n small full = rw (handed_back, small, full)

  -- a resolution m that answered, and whose answer was handed back
  pub record Handed (m : Res Refusal Answer Value) : Type 0 where
    pub root : Value
    pub entries : Trail Answer
    pub begun : ℕ
    pub answered : m ≡ answer root entries begun
    pub small : within_size root ≡ true
    pub fits : table_fits b c entries root ≡ true

  handed-inv : (m : Res Refusal Answer Value) → Holds (λ y. 1 ≤ number_of y) ⊥ (λ v S n. Unit {0}) m → (handed_back b c m).number ≡ 0 → Handed m
  unfolding handed_back
  handed-inv (refused y) h e = absurd (omega (arith, holds-refused h))
  handed-inv dry (dries h) e = absurd h
  handed-inv (answer v S n) h e = go (within_size v) refl (table_fits b c S v) refl
    where
      go : (t : Bool) → within_size v ≡ t → (u : Bool) → table_fits b c S v ≡ u → Handed (answer v S n)
      go true small true fits = record { root = v; entries = S; begun = n; answered = refl; small = small; fits = fits }
      go true small false full = absurd (omega (arith, handed-14 v S n small full))
      go false large u q = absurd (omega (arith, handed-13 v S n large))

-- ---- inputs

module _ (d e : List ℕ) where
  -- inputs that are given are so whatever else is lent, as long as that keeps its bounds
  inputs-given : (others : Bool) (x : Setting) → inputs others d e ≡ valid x → (others ≡ true) × (inputs true d e ≡ valid x)
  unfolding inputs
  inputs-given true x h = (refl, h)
  inputs-given false x h = clash (cc)

  -- ---- resolve

  module _ (budget l m n : ℕ) where
    -- the resolution that the job works out
    abbrev pub resolution_of : Setting → Res Refusal Answer Value
    resolution_of x = resolve (order_of x (room_of l) (room_of n)) budget (root_of x) (count_of x)

    pub record Success : Type 0 where
      pub setting : Setting
      pub read : inputs true d e ≡ valid setting
      pub modest : budget ≤ 256
      pub handed : Handed (room_of m) (room_of n) (resolution_of setting)

    pub success-inv : (resolve_job d e budget l m n).number ≡ 0 → Success
    unfolding resolve_job
    success-inv = go (inputs (leb budget max_budget) d e) refl
      where
        go : (i : Input Setting) → inputs (leb budget max_budget) d e ≡ i
            → (resolved budget (room_of l) (room_of m) (room_of n) i).number ≡ 0 → Success
        go (refused y) h k = absurd (omega (arith, inputs_end (leb budget max_budget) d e y h))
        go (valid x) h k =
            let (low, read) = inputs-given (leb budget max_budget) x h in
            record {
              setting = x;
              read = read;
              modest = leb-true budget max_budget low;
              handed = handed-inv (room_of m) (room_of n) (resolution_of x)
                  (resolve-holds x (prepared true d e x read) (room_of l) (room_of n) budget) k;
            }

    pub success-is : (x : Setting) → inputs true d e ≡ valid x → budget ≤ 256 → (h : Handed (room_of m) (room_of n) (resolution_of x))
        → resolve_job d e budget l m n ≡ located d (sheet_for h.root h.entries h.begun)
    unfolding resolve_job
    success-is x read modest h =
        rw (resolve_job, le-leb budget max_budget modest, read, resolved, h.answered)
        (ap (λ (r : Result). located d r) (handed-sheet (room_of m) (room_of n) h.root h.entries h.begun h.small h.fits))

  -- ---- check

  module _ (trail table text : List ℕ) where
    -- what check says yes to
    pub record Approval : Type 0 where
      pub setting : Setting
      pub read : inputs true d e ≡ valid setting
      pub accepts : accepted setting trail table text ≡ true
      pub short : length trail ≤ 32768
      pub short' : length table ≤ 32768
      pub short'' : length text ≤ 32768

    abbrev lent_bounds : Bool
    lent_bounds = leb (length trail) max_room && leb (length table) max_room && leb (length text) max_room

    pub approval-inv : (check_job d e trail table text).number ≡ 0 → Approval
    unfolding check_job
    approval-inv = go (inputs lent_bounds d e) refl
      where
        yes-inv : (x : Setting) → inputs lent_bounds d e ≡ valid x → (t : Bool) → accepted x trail table text ≡ t
            → (verdict d trail table text (valid x)).number ≡ 0 → Approval
        yes-inv x h true t k =
            let (all, read) = inputs-given lent_bounds x h in
            let (two, third) = both_true _ _ all in
            let (first, second) = both_true _ _ two in
            record {
              setting = x;
              read = read;
              accepts = t;
              short = leb-true (length trail) max_room first;
              short' = leb-true (length table) max_room second;
              short'' = leb-true (length text) max_room third;
            }
        yes-inv x h false t k = absurd (omega (arith, rw (t, verdict) at k))

        go : (i : Input Setting) → inputs lent_bounds d e ≡ i → (verdict d trail table text i).number ≡ 0 → Approval
        go (refused y) h k = absurd (omega (arith, inputs_end lent_bounds d e y h))
        go (valid x) h k = yes-inv x h (accepted x trail table text) refl k

    pub approval-is : Approval → check_job d e trail table text ≡ yes
    unfolding check_job
    approval-is y =
        rw (
          check_job,
          le-leb (length trail) max_room y.short,
          le-leb (length table) max_room y.short',
          le-leb (length text) max_room y.short'',
          y.read,
          verdict,
          y.accepts,
        )

    pub approval-yes : Approval → (check_job d e trail table text).number ≡ 0
    approval-yes y = ap (λ v. v.number) (approval-is y)
