-- The three demands, of the code: for any runs of resolve, check and look-up, whatever they were lent, by the functions' contracts alone.
--
-- A run of resolve is `ResolveIs document environment budget b c f b' c' f' r`: the buffers for trail, table and text were b, c and f and
-- are b', c' and f'. A run of check is `CheckIs document environment trail table text v`. Of look-up, `found` is what `look_up_answer`
-- gives and `part` what `look_up` hands back. The words are those of Demands and Promises, which say the same of the rules' jobs. Last,
-- what is promised of `length`.
use Rattle.std.specs.Prelude.{◌≡◌, refl, ℕ, ◌+◌, ◌-◌, ◌≤◌, List, [], true, false, ◌↔◌, length, replicate, Result, Ok, Err}
use Rattle.std.proofs.Common.{sym, ◌∙◌}
use Rattle.std.proofs.Math.Path.{ap}
use Rattle.std.proofs.Math.Option.{Option, none, some}
use native.Mathlib.Omega.{arith}
use Rattle.answers.specs.Ask.{Trail}
use Rattle.answers.specs.Resolve.{answer, resolve, Accepts}
use Rattle.rules.specs.Sizes.{max_path_text, max_nesting}
use Rattle.rules.specs.Bytes.{Text, At}
use Rattle.rules.specs.Refusals.{resolve_numbers, check_numbers, look_up_numbers, length_numbers, document_of, offset_of, ok}
use Rattle.rules.specs.Utf8.{ill_formed}
use Rattle.rules.specs.Paths.{path_text}
use Rattle.rules.specs.Values.{Value, Answer, within_size, record_size}
use Rattle.rules.specs.Unresolved.{root_value}
use Rattle.rules.specs.Documents.{Setting, valid, inputs, count_of}
use Rattle.rules.specs.Sheet.{records, texts}
use Rattle.rules.specs.LookUp.{is_whole, after_value, text_at, value_named}
use Rattle.rules.specs.Micrometres as rules
use Rattle.rules.specs.NamedValues.{value_at}
use Rattle.rules.specs.Meaning.{MeanTheSame}
use Rattle.rules.specs.Counting.{entries_in}
use Rattle.rules.specs.Reordering.{LaidOut, Reordering, InOrder}
use Rattle.rules.specs.Jobs as J
use Rattle.theory.specs.BothJobs.{approval-resolves, approval-means}
use Rattle.theory.specs.Jobs.{approval-yes}
use Rattle.theory.specs.Reordered.{approval-rules, rules-approval, reordering-in-order, reordering-approval}
use Rattle.theory.specs.LookUpSteps.{found_none, look-up-path}
use Rattle.theory.specs.Micrometres.{Exact}
use Rattle.theory.specs.Demands as demands
use Rattle.theory.specs.Promises as promises
use Rattle.text_chars.specs.Cursor.{refusal}
use Rattle.text_chars.specs.declared.Refusal.{Refusal}
use Rattle.text_chars.specs.Parts.{part_slice}
use Rattle.text_lengths.specs.Micrometres.Contracts.{measured_of}
use Rattle.sheet_paths.specs.Answers.{Found, part, job_of, part_of, refused-part}
use Rattle.job_results.specs.Clauses.{ResolveIs, CheckIs}
use Rattle.job_results.specs.declared.Resolution.{Resolution}
use Rattle.job_demands.specs.Runs as runs
use Rattle.job_demands.specs.Runs.{Hands}

-- a buffer of full size, or longer
abbrev pub FullSize : List ℕ → Type 0
FullSize b = 32768 ≤ length b

module _ {document environment : List ℕ} {budget : ℕ} {b c f b' c' f' : List ℕ} {r : Result Resolution Refusal}
    (run : ResolveIs document environment budget b c f b' c' f' r) where
  -- ---- demand 1: "A refused resolution leaves its three buffers all zero"

  pub refused-leaves-zeros : {x : Refusal} → r ≡ Err x
      → (b' ≡ replicate (length b) 0) × (c' ≡ replicate (length c) 0) × (f' ≡ replicate (length f) 0)
  refused-leaves-zeros h =
      let all = (promises.refused-leaves-nothing document environment budget (length b) (length c) (length f) (runs.refused-refuses run h)).1 in
      let bytes = run.buffers ∙ all in
      (ap (λ (x : J.Buffers). x.trail) bytes, ap (λ (x : J.Buffers). x.table) bytes, ap (λ (x : J.Buffers). x.text) bytes)

  -- and every run, refused or not, leaves them as long as they were
  pub buffers-keep-size : (length b' ≡ length b) × (length c' ≡ length c) × (length f' ≡ length f)
  buffers-keep-size =
      let (h, k, l) = demands.buffers-keep-size document environment budget (length b) (length c) (length f) in (
        ap (λ (x : J.Buffers). length x.trail) run.buffers ∙ h,
        ap (λ (x : J.Buffers). length x.table) run.buffers ∙ k,
        ap (λ (x : J.Buffers). length x.text) run.buffers ∙ l,
      )

  -- ---- demand 2

  -- a refusal has a number of the job's list, and a place in the document, or its length
  pub resolve-refusal : {x : Refusal} → r ≡ Err x
      → promises.OneOf resolve_numbers x.number × (document_of x.place.0 ≡ 0) × (offset_of x.place.0 ≤ length document)
  resolve-refusal h = (
    rw (runs.refused-number run h)
        (promises.resolve-numbers document environment budget (length b) (length c) (length f) (runs.refused-refuses run h)),
    rw (runs.refused-document run h) (promises.resolve-document document environment budget (length b) (length c) (length f)),
    rw (runs.refused-place run h) (promises.resolve-place document environment budget (length b) (length c) (length f)),
  )

  module _ {trail table text : List ℕ} (h : Hands r b' c' f' trail table text) where
    -- "The resolved table is the one that document 01 gives, key order included"
    pub handed-back-is : (x : Setting)
        × (v : Value)
        × (S : Trail Answer)
        × (inputs true document environment ≡ valid x)
        × (resolve (J.order_of x (J.room_of (length b)) (J.room_of (length f))) budget (root_value x.document.root x.environment) (count_of x)
        ≡ answer v S h.count)
        × LaidOut S v trail table text
    handed-back-is =
        rw (runs.hands-count run h, runs.hands-trail run h, runs.hands-table run h, runs.hands-text run h)
        (promises.resolved-is document environment budget (length b) (length c) (length f) (runs.hands-number run h))

    -- ---- demand 3, "What resolution hands back is accepted"
    pub handed-back-accepted : {v : Result (Unit {0}) Refusal} → CheckIs document environment trail table text v → v ≡ Ok tt
    handed-back-accepted check = runs.approval-yes check (runs.hands-approval run h)

    -- "So is every reordering": if each unresolved value stands after those that it needs, and only then
    pub reordered-accepted : {trail₁ table₁ text₁ : List ℕ} (p : Reordering trail table text trail₁ table₁ text₁)
        → {v : Result (Unit {0}) Refusal} → CheckIs document environment trail₁ table₁ text₁ v
        → InOrder document environment p.entries' ↔ (v ≡ Ok tt)
    reordered-accepted {trail₁} {table₁} {text₁} p check = (
      λ o. runs.approval-yes check
          (reordering-approval document environment trail table text trail₁ table₁ text₁ p (runs.hands-approval run h) o),
      λ y. reordering-in-order document environment trail table text trail₁ table₁ text₁ p (runs.yes-approval check y),
    )

    -- "Count"
    pub count-is : h.count ≡ entries_in trail text
    count-is =
        rw (runs.hands-count run h, runs.hands-trail run h, runs.hands-text run h)
        (demands.count-is document environment budget (length b) (length c) (length f) (runs.hands-number run h))

module _ {document environment : List ℕ} {b c f b' c' f' : List ℕ} {r : Result Resolution Refusal} (run : ResolveIs document environment 256 b c f b' c' f' r)
    (full : FullSize b × FullSize c × FullSize f) where
  in-full : J.resolve_job document environment 256 (length b) (length c) (length f) ≡ J.resolve_job document environment 256 32768 32768 32768
  in-full = demands.buffers-full document environment 256 (length b) (length c) (length f) full.0 full.1 full.2

  -- "Accepted means resolvable, with the same meaning"
  pub accepted-resolves : {trail table text : List ℕ} → CheckIs document environment trail table text (Ok tt)
      → (trail₁ : List ℕ) × (table₁ : List ℕ) × (text₁ : List ℕ) × Hands r b' c' f' trail₁ table₁ text₁ × MeanTheSame table₁ text₁ table text
  accepted-resolves {trail} {table} {text} check =
      let y = runs.yes-approval check refl in
      let z = ap (λ q. q.number) in-full ∙ approval-resolves document environment trail table text y in
      (_, _, _, runs.run-hands run z, rw in-full (approval-means document environment trail table text y))

  -- "Refusal exactly"
  pub refused-exactly : ((x : Refusal) × (r ≡ Err x))
      ↔ ((trail table text : List ℕ) → CheckIs document environment trail table text (Ok tt) → ⊥)
  refused-exactly = (
    λ p trail table text check.
        let y = runs.yes-approval check refl in
        runs.refused-refuses run p.1 (ap (λ q. q.number) in-full ∙ approval-resolves document environment trail table text y),
    λ never. go r refl never,
  )
    where
      go : (q : Result Resolution Refusal) → r ≡ q → ((trail table text : List ℕ) → CheckIs document environment trail table text (Ok tt) → ⊥)
          → (x : Refusal) × (r ≡ Err x)
      go (Err x) e never = (x, e)
      go (Ok o) e never =
          let z = runs.done-number run e in
          absurd (never _ _ _ (runs.approval-run (runs.hands-approval run (runs.run-hands run z))))

-- ---- check

module _ {document environment trail table text : List ℕ} {v : Result (Unit {0}) Refusal} (run : CheckIs document environment trail table text v) where
  -- a refusal's number and place
  pub check-refusal : {x : Refusal} → v ≡ Err x
      → promises.OneOf check_numbers x.number × (document_of x.place.0 ≡ 0) × (offset_of x.place.0 ≤ length document)
  check-refusal {x} h =
      let n : x.number ≡ (J.check_job document environment trail table text).number = ap (λ q. q.number) (rw h at run.is) in
      let d : document_of x.place.0 ≡ (J.check_job document environment trail table text).document
      = ap (λ q. q.document) (rw h at run.is) in
      let p : offset_of x.place.0 ≡ (J.check_job document environment trail table text).place = ap (λ q. q.place) (rw h at run.is) in (
        rw n (promises.check-numbers document environment trail table text (λ z. absurd (omega (arith, n, run.refusal x h)))),
        rw d (promises.check-document document environment trail table text),
        rw p (promises.check-place document environment trail table text),
      )

  -- "a sheet is accepted exactly if .."
  pub accepted-exactly : (x : Setting) → inputs true document environment ≡ valid x
      → length trail ≤ 32768 → length table ≤ 32768 → length text ≤ 32768
      → (v ≡ Ok tt)
      ↔ ((S : Trail Answer) × (w : Value) × Accepts (J.order_of x 32768 32768) (root_value x.document.root x.environment) S w
      × (within_size w ≡ true) × LaidOut S w trail table text)
  accepted-exactly x read h k m = (
    λ y. approval-rules trail table text document environment x read h k m (runs.yes-approval run y),
    λ p. runs.approval-yes run (rules-approval trail table text document environment x read h k m p.0 p.1 p.2 p.3 p.4),
  )

  -- ---- look-up, in a sheet that check says yes to: "precisely the records of the named value"

  -- what `look_up` hands back where a path names a value, and where it names nothing
  abbrev pub PartFor : Option Value → List ℕ → Type 0
  PartFor none part = part ≡ []
  PartFor (some w) part = (offset : ℕ) × (part ≡ records offset w) × At text offset (texts w)

  pub look-up-finds : v ≡ Ok tt → (S : Trail Answer) (w : Value) → LaidOut S w trail table text
      → (path : List ℕ) (names : List Text) (end : ℕ) → length path ≤ max_path_text → ill_formed path ≡ none → path_text path ≡ ok names end
      → (part : List ℕ) → part ≡ part_of table (J.look_up_job table text path) → PartFor (value_at names w) part
  unfolding part_of J.not_found
  look-up-finds y S w laid path names end short well good part q =
      go (value_at names w)
      (promises.accepted-look-up document environment trail table text
      (approval-yes document environment trail table text (runs.yes-approval run y)) S w laid path names end short well good)
    where
      go : (o : Option Value) → promises.FoundIn table text (J.look_up_job table text path) o → PartFor o part
      go none e = q ∙ ap (part_of table) e
      go (some u) e =
          let start = (J.look_up_job table text path).start in
          let whole : start + record_size u - start ≡ record_size u = omega arith in
          let cut = part_slice table start (start + record_size u) (omega arith) in
          (e.offset, q ∙ ap (part_of table) e.handed ∙ (rw whole at cut) ∙ e.its-records, e.its-texts)

-- ---- look-up, in tables from anywhere: `found` is what `look_up_answer` gives, `part` what `look_up` hands back

module _ (table text path : List ℕ) {found : Found} (run : job_of found ≡ J.look_up_job table text path) where
  -- "a refused look-up hands back an empty part"
  pub refused-look-up : {part : List ℕ} {x : Refusal} → found ≡ Err x → part ≡ part_of table (J.look_up_job table text path) → part ≡ []
  refused-look-up {x = x} h q = q ∙ ap (part_of table) (sym (rw h at run)) ∙ refused-part table x.number x.place

  -- a refusal has a number of the job's list, and a place in the path text, or its length
  pub look-up-refusal : {x : Refusal} → found ≡ Err x
      → promises.OneOf look_up_numbers x.number × (x.place.0 ≤ length path)
  look-up-refusal {x} h =
      let n : x.number ≡ (J.look_up_job table text path).number = ap (λ (q : J.Found). q.number) (rw h at run) in
      let p : x.place.0 ≡ (J.look_up_job table text path).place = ap (λ (q : J.Found). q.place) (rw h at run) in (
        rw n (promises.look-up-numbers table text path (runs.found-refuses table text path run h)),
        rw p (promises.look-up-place table text path),
      )

  module _ (lent : promises.LentTable table text path) (whole : is_whole table (length text) ≡ true) (well-formed : ill_formed path ≡ none)
      (names : List Text) (end : ℕ) (good-path : path_text path ≡ ok names end) where
    -- 16 exactly if the path names nothing
    pub look-up-16 : (found ≡ Err (refusal 16 (record { 0 = 0 }))) ↔ (value_named table text names 0 ≡ none)
    look-up-16 =
        let (to, _) = promises.look-up-16 table text path lent whole well-formed names end good-path in (
          λ h. to (sym (ap (λ (q : J.Found). q.number) (rw h at run))),
          λ v. runs.found_nothing table text path run
              (look-up-path table text path lent.0 lent.1 lent.2 whole well-formed names end good-path
              ∙ ap (J.found_at table text) v ∙ found_none table text),
        )

    -- else precisely the records of the value that it names, from its first byte up to its end
    pub look-up-part : (at : ℕ) → value_named table text names 0 ≡ some at
        → (after : ℕ) × (after_value max_nesting table (length text) at ≡ some after)
        × (found ≡ Ok (part (record { 0 = at }) (record { 0 = after - at })))
    look-up-part at v =
        let (after, e, is) = promises.look-up-found table text path lent whole well-formed names end good-path at v in
        let part = (promises.look-up-part table text path).0 (ap (λ (q : J.Found). q.number) is) in
        (after, e, runs.found_part table text path run is (omega (arith, part.0, ap (λ (q : J.Found). q.size) is)))

-- ---- length: `r` is what `length` gives

module _ (table text : List ℕ) (r : Result ℕ Refusal) (run : measured_of r ≡ J.length_job table text) where
  -- a refusal has a number of the list
  pub length-refusal : promises.Refuses (measured_of r).number → promises.OneOf length_numbers (measured_of r).number
  length-refusal h = rw run (promises.length-refusal table text (λ z. h (ap (λ q. q.number) run ∙ z))).0

  -- what is answered is exact, and within its limit
  pub length-exact : (micrometres : ℕ) → r ≡ Ok micrometres → Exact (text_at table text 0) micrometres
  length-exact micrometres h =
      let is : ◌≡◌ {A = rules.Measured} (record { number = 0; micrometres = micrometres }) (J.length_job table text) = rw h at run in
      rw (ap (λ q. q.micrometres) is) (promises.length-exact table text (sym (ap (λ q. q.number) is)))

  -- 1 and 15 come exactly when look-up's do
  pub length-1 : ((measured_of r).number ≡ 1) ↔ (promises.LentParts table text → ⊥)
  length-1 = rw run (promises.length-1 table text)

  pub length-15 : promises.LentParts table text → ((measured_of r).number ≡ 15) ↔ (is_whole table (length text) ≡ false)
  length-15 lent = rw run (promises.length-15 table text lent)
