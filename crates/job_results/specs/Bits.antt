-- Whatever resolve and check are lent, every value of their answers has room in its bits, and the header's functions take it out of them.
use Rattle.std.specs.Prelude.{◌≡◌, Bool, false, ◌⊎◌, List, [], ◌∷◌, ℕ, ◌≤◌, ◌<◌, leb}
use Rattle.std.proofs.Math.Path.{refl}
use Rattle.std.proofs.Math.Bool.{true}
use Rattle.std.proofs.Common.{inl, inr, arith}
use Rattle.std.proofs.Math.ListN.{length}
use Rattle.answers.specs.Ask.{mem}
use Rattle.answers.specs.Theory.Sound.{clash, All, mem-cases, affordable}
use Rattle.rules.specs.Sizes.{max_document, max_budget}
use Rattle.rules.specs.Refusals.{Refusal, nowhere, number_of, place_of, document_of, offset_of}
use Rattle.rules.specs.Positions.{has_place, line_of, column_of}
use Rattle.rules.specs.Documents.{refused, inputs, count_of}
use Rattle.rules.specs.LookUp.{is_whole}
use Rattle.rules.specs.Jobs.{Resolved, refused_with, room_of, order_of, located, resolve_job, Verdict, check_job}
use Rattle.theory_text.specs.Positions.{line-bound, column-bound}
use Rattle.theory.specs.Entries.{root_of}
use Rattle.theory.specs.Jobs.{success-inv, success-is}
use Rattle.theory.specs.BothJobs.{resolved-approval}
use Rattle.theory.specs.Scanning.{reading_numbers}
use Rattle.theory.specs.ReadingEnds.{inputs-numbers}
use Rattle.theory.specs.DocumentPlaces.{inputs-places}
use Rattle.theory.specs.JobRefusals.{resolving_numbers, refused-short, valid-short, Outcome, unread, stopped, succeeded, outcome}
use Rattle.theory.specs.JobRefusals.{lent_bounds, Judgement, read, not-accepted, judgement}
use Rattle.theory.specs.Promises.{resolved-whole}
use Rattle.job_results.specs.Answers.{resolved_told}
use Rattle.job_results.specs.Unpacking.{PlaceFits, Roomy, done, refusal}
use Rattle.job_results.specs.Unpacking.{RoomyVerdict, UnpacksVerdict, unpacks-verdict}

-- ---- numbers

pub all-mem : (P : ℕ → Type 0) (ns : List ℕ) → All P ns → (q : ℕ) → mem q ns ≡ true → P q
all-mem P [] h q e = clash (cc)
all-mem P (n ∷ ns) h q e = elim (mem-cases n ns q e) [ inl z ↦ rw (← z) h.0 | inr k ↦ all-mem P ns h.1 q k ]

abbrev Small : ℕ → Type 0
Small n = (1 ≤ n) × (n < 64)

read_small : All Small (1 ∷ 2 ∷ reading_numbers)
read_small =
    ((omega arith, omega arith), ((omega arith, omega arith), ((omega arith, omega arith), ((omega arith, omega arith), ((omega arith, omega arith), ((omega arith, omega arith), ((omega arith, omega arith), ((omega arith, omega arith), ((omega arith, omega arith), tt)))))))))

resolving-small : All Small resolving_numbers
resolving-small = ((omega arith, omega arith), ((omega arith, omega arith), ((omega arith, omega arith), ((omega arith, omega arith), ((omega arith, omega arith), ((omega arith, omega arith), tt))))))

-- ---- places: an input that is refused has place 0 or a document that is not too long

place-fits : (d : List ℕ) (number place : ℕ) → place < 65536 → (has_place number ≡ true → length d ≤ max_document)
    → PlaceFits (document_of place) (offset_of place) (line_of d number place) (column_of d number place)
unfolding line_of column_of
place-fits d number place h k = go (has_place number) refl
  where
    go : (t : Bool) → has_place number ≡ t
        → PlaceFits (document_of place) (offset_of place) (line_of d number place) (column_of d number place)
    go true e = record {
      document-fits = omega arith;
      place-fits = omega arith;
      line-fits = rw (e, line_of) (omega (arith, k e, line-bound d (offset_of place)));
      column_fits = rw (e, column_of) (omega (arith, k e, column-bound d (offset_of place)));
    }
    go false e = record {
      document-fits = omega arith;
      place-fits = omega arith;
      line-fits = rw (e, line_of) (omega arith);
      column_fits = rw (e, column_of) (omega arith);
    }

module _ (others : Bool) (d e : List ℕ) (x : Refusal) (h : inputs others d e ≡ refused x) where
  unread-small : place_of x < 65536
  unread-small = go (refused-short others d e x h)
    where
      go : (x ≡ nowhere 1) ⊎ (length d ≤ max_document) → place_of x < 65536
      go (inl z) = rw z (omega arith)
      go (inr k) = omega (arith, k, inputs-places d others e x h)

  unread-short : has_place (number_of x) ≡ true → length d ≤ max_document
  unfolding has_place
  unread-short t = go (refused-short others d e x h)
    where
      go : (x ≡ nowhere 1) ⊎ (length d ≤ max_document) → length d ≤ max_document
      go (inl z) = let q : has_place 1 ≡ true = rw z at t in clash (cc)
      go (inr k) = k

-- ---- resolve

table-some : (table : List ℕ) (n : ℕ) → is_whole table n ≡ true → 1 ≤ length table
unfolding is_whole
table-some [] n e = clash (cc (e))
table-some (b ∷ bs) n e = omega arith

module _ (d e : List ℕ) (budget l m n : ℕ) where
  abbrev answer : Resolved
  answer = resolve_job d e budget l m n

  count_small : answer.number ≡ 0 → answer.count < 512
  count_small z =
      let s = success-inv d e budget l m n z in
      let x = s.setting in
      let afforded = affordable (order_of x (room_of l) (room_of n)) budget (root_of x) (count_of x) s.handed.answered in
      rw (success-is d e budget l m n x s.read s.modest s.handed) (omega (arith, afforded, s.modest))

  refused-roomy : (y : Refusal) → Small (number_of y) → place_of y < 65536 → (has_place (number_of y) ≡ true → length d ≤ max_document)
      → Roomy (resolved_told (located d (refused_with y)))
  unfolding refused_with
  refused-roomy y s p k = refusal s.0 s.1 (place-fits d (number_of y) (place_of y) p k) refl refl refl refl

  pub resolve-roomy : Roomy (resolved_told answer)
  resolve-roomy = go (outcome d e budget l m n)
    where
      go : Outcome d e budget l m n answer → Roomy (resolved_told answer)
      go (unread x k q) =
          rw q (refused-roomy x (all-mem Small (1 ∷ 2 ∷ reading_numbers) read_small (number_of x) (inputs-numbers (leb budget max_budget) d e x k))
          (unread-small (leb budget max_budget) d e x k) (unread-short (leb budget max_budget) d e x k))
      go (stopped x k y w p q) =
          rw q (refused-roomy y (all-mem Small resolving_numbers resolving-small (number_of y) w)
          (omega (arith, p, valid-short (leb budget max_budget) d e x k)) (λ t. valid-short (leb budget max_budget) d e x k))
      go (succeeded z p) =
          let own = resolved-approval d e budget l m n z in
          done z
          (record { document-0 = p.document; place-0 = p.place; line-0 = p.line; column-0 = p.column })
          (count_small z) (omega (arith, own.short))
          (table-some answer.table (length answer.text) (resolved-whole d e budget l m n z)) (omega (arith, own.short')) (omega (arith, own.short''))

  -- what is refused in a document is so in one that is not over its bytes
  pub resolve-short : has_place answer.number ≡ true → length d ≤ max_document
  unfolding refused_with has_place
  resolve-short = go (outcome d e budget l m n)
    where
      go : Outcome d e budget l m n answer → has_place answer.number ≡ true → length d ≤ max_document
      go (unread x k q) t = unread-short (leb budget max_budget) d e x k (rw q at t)
      go (stopped x k y w p q) t = valid-short (leb budget max_budget) d e x k
      go (succeeded z p) t = let q : has_place 0 ≡ true = rw z at t in clash (cc)
      -- so its parts are those in the bits: `resolve-unpacks` of proofs/Bits.antt

-- ---- check

no-17 : has_place 17 ≡ false
unfolding has_place
no-17 = refl

module _ (d e trail table text : List ℕ) where
  pub check-roomy : RoomyVerdict (check_job d e trail table text)
  check-roomy = go (check_job d e trail table text) (judgement d e trail table text)
    where
      go : (v : Verdict) → Judgement d e trail table text v → RoomyVerdict v
      go v (unread x k q) =
          let others = lent_bounds d e trail table text in
          let s = all-mem Small (1 ∷ 2 ∷ reading_numbers) read_small (number_of x) (inputs-numbers others d e x k) in
          rw q (record {
            number = s.1;
            place = place-fits d (number_of x) (place_of x) (unread-small others d e x k) (unread-short others d e x k);
          })
      go v (read x k t q) = rw q (record {
        number = omega arith;
        place = record { document-fits = omega arith; place-fits = omega arith; line-fits = omega arith; column_fits = omega arith };
      })
      go v (not-accepted x k t q) =
          rw q (record { number = omega arith; place = place-fits d 17 0 (omega arith) (λ t. clash (cc (no-17, t))) })

  pub check-short : has_place (check_job d e trail table text).number ≡ true → length d ≤ max_document
  unfolding has_place
  check-short = go (check_job d e trail table text) (judgement d e trail table text)
    where
      go : (v : Verdict) → Judgement d e trail table text v → has_place v.number ≡ true → length d ≤ max_document
      go v (unread x k q) t = unread-short (lent_bounds d e trail table text) d e x k (rw q at t)
      go v (read x k a q) t = let z : has_place 0 ≡ true = rw q at t in clash (cc)
      go v (not-accepted x k a q) t = let z : has_place 17 ≡ true = rw q at t in clash (cc)

  pub check-unpacks : UnpacksVerdict (check_job d e trail table text)
  check-unpacks = unpacks-verdict (check_job d e trail table text) check-roomy
