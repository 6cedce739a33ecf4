-- The three demands, of the exports that C calls: for any runs of dz_resolve, dz_check and dz_look_up, whatever they were lent, by their
-- contracts and the unpacking laws alone.
--
-- A run of dz_resolve is `PackedResolveIs document environment budget b c f b' c' f' r`: the buffers for trail, table and text were b, c
-- and f and are b', c' and f', and r are the 64 bits. What the header's functions take out of them is `bits.number_in r` (dz_number),
-- `bits.place_in r` (dz_place), `bits.document_in r` (dz_document), `bits.line_in r` (dz_line), `bits.column_in r` (dz_column),
-- `bits.count_in r` (dz_resolve_count) and so on; the sheet handed back is as many bytes of each buffer as they say.
use Rattle.std.specs.Prelude.{◌≡◌, refl, ℕ, ◌+◌, ◌≤◌, List, Bool, true, false, cond, ◌↔◌, length, replicate, eqb}
use Rattle.std.proofs.Common.{sym, ◌∙◌, eqb-true}
use Rattle.std.proofs.Math.Path.{ap}
use Rattle.std.proofs.Math.Option.{Option, none, some}
use Rattle.std.proofs.Math.ListN.{take}
use Rattle.std.proofs.Math.Seq.{slice, take-append_seam}
use Rattle.answers.specs.Ask.{Trail}
use Rattle.answers.specs.Resolve.{answer, resolve, Accepts}
use Rattle.rules.specs.Sizes.{max_path_text}
use Rattle.rules.specs.Bytes.{Text, At}
use Rattle.rules.specs.Refusals.{resolve_numbers, check_numbers, look_up_numbers, length_numbers, ok}
use Rattle.rules.specs.Utf8.{ill_formed}
use Rattle.rules.specs.Paths.{path_text}
use Rattle.rules.specs.Values.{Value, Answer, within_size}
use Rattle.rules.specs.Unresolved.{root_value}
use Rattle.rules.specs.Documents.{Setting, valid, inputs, count_of}
use Rattle.rules.specs.Sheet.{records, texts}
use Rattle.rules.specs.LookUp.{text_at}
use Rattle.rules.specs.NamedValues.{value_at}
use Rattle.rules.specs.Meaning.{MeanTheSame}
use Rattle.rules.specs.Counting.{entries_in}
use Rattle.rules.specs.Reordering.{LaidOut, Reordering, InOrder}
use Rattle.rules.specs.Micrometres.{no_length}
use Rattle.rules.specs.Jobs as J
use Rattle.theory.specs.Micrometres.{Exact}
use Rattle.theory.specs.Demands as demands
use Rattle.theory.specs.Promises as promises
use Rattle.theory.specs.Promises.{OneOf, Refuses, PositionFor, FoundIn}
use Rattle.job_results.specs.Answers.{resolved_told, packed_verdict}
use Rattle.job_results.specs.Unpacking as bits
use Rattle.job_results.specs.Bits.{check-unpacks}
use Rattle.job_results.proofs.Bits.{resolve-unpacks}
use Rattle.job_results.specs.Clauses.{PackedResolveIs}
use Rattle.sheet_paths.specs.Answers.{packed}
use Rattle.sheet_paths.specs.Unpacking as look
use Rattle.job_look_up.specs.LookUpJob.{answer-unpacks}
use Rattle.job_length.specs.Packed as lengths

-- runs of dz_check, of dz_look_up and of dz_length: the 64 bits that their contracts name
pub record Checked (document environment trail table text : List ℕ) (v : ℕ) : Type 0 where
  pub is : v ≡ packed_verdict (J.check_job document environment trail table text)

pub record LookedUp (table text path : List ℕ) (g : ℕ) : Type 0 where
  pub is : g ≡ packed (J.look_up_job table text path)

pub record LengthRead (table text : List ℕ) (g : ℕ) : Type 0 where
  pub is : g ≡ lengths.packed_length (J.length_job table text)

-- dz_check answers 0 exactly if check says yes
checked-yes : (document environment trail table text : List ℕ)
    → (packed_verdict (J.check_job document environment trail table text) ≡ 0)
    ↔ demands.Yes (J.check_job document environment trail table text)
unfolding packed_verdict
checked-yes d e trail table text = (
  λ z. sym (check-unpacks d e trail table text).number ∙ ap bits.number_in z,
  λ y. rw ((demands.yes-is d e trail table text).0 y) refl,
)

module _ {document environment : List ℕ} {budget : ℕ} {b c f b' c' f' : List ℕ} {r : ℕ}
    (run : PackedResolveIs document environment budget b c f b' c' f' r) where
  abbrev job : J.Resolved
  job = J.resolve_job document environment budget (length b) (length c) (length f)

  out : bits.Unpacks (resolved_told job)
  out = resolve-unpacks document environment budget (length b) (length c) (length f)

  -- line and count, as the proofs below cite them
  line_out : bits.line_in r ≡ job.line
  line_out = ap bits.line_in run.answer ∙ out.line

  count_out : bits.count_in r ≡ job.count
  count_out = ap bits.count_in run.answer ∙ out.count

  -- "count, number and place": what the header's functions take out of the bits is what the job of the rules gives
  pub number_is : bits.number_in r ≡ job.number
  number_is = ap bits.number_in run.answer ∙ out.number

  pub document-is : bits.document_in r ≡ job.document
  document-is = ap bits.document_in run.answer ∙ out.document

  pub place_is : bits.place_in r ≡ job.place
  place_is = ap bits.place_in run.answer ∙ out.place

  pub line-is : bits.line_in r ≡ job.line
  line-is = line_out

  pub column-is : bits.column_in r ≡ job.column
  column-is = ap bits.column_in run.answer ∙ out.column

  pub count-told : bits.count_in r ≡ job.count
  count-told = count_out

  -- what is handed back: so many bytes of each buffer
  abbrev pub trail_back : List ℕ
  trail_back = take (bits.trail_in r) b'

  abbrev pub table_back : List ℕ
  table_back = take (bits.table_in r) c'

  abbrev pub text_back : List ℕ
  text_back = take (bits.text_in r) f'

  used : (n : ℕ) (xs : List ℕ) → take (length xs) (J.filled n xs) ≡ xs
  unfolding J.filled
  used n xs = take-append_seam xs _

  trail_is : trail_back ≡ job.trail
  unfolding J.buffers_of
  trail_is =
      ap (λ (k : ℕ). take k b') (ap bits.trail_in run.answer ∙ out.trail)
      ∙ ap (λ (x : J.Buffers). take (length job.trail) x.trail) run.buffers ∙ used (length b) job.trail

  table_is : table_back ≡ job.table
  unfolding J.buffers_of
  table_is =
      ap (λ (k : ℕ). take k c') (ap bits.table_in run.answer ∙ out.table)
      ∙ ap (λ (x : J.Buffers). take (length job.table) x.table) run.buffers ∙ used (length c) job.table

  text-is : text_back ≡ job.text
  unfolding J.buffers_of
  text-is =
      ap (λ (k : ℕ). take k f') (ap bits.text_in run.answer ∙ out.text)
      ∙ ap (λ (x : J.Buffers). take (length job.text) x.text) run.buffers ∙ used (length f) job.text

  succeeds : bits.number_in r ≡ 0 → demands.Succeeds job
  succeeds z = sym number_is ∙ z

  refuses : Refuses (bits.number_in r) → Refuses job.number
  refuses h z = h (number_is ∙ z)

  -- ---- demand 1: "A refused resolution leaves its three output buffers all zero", and its count is 0

  pub refused-leaves-zeros : Refuses (bits.number_in r)
      → (b' ≡ replicate (length b) 0) × (c' ≡ replicate (length c) 0) × (f' ≡ replicate (length f) 0) × (bits.count_in r ≡ 0)
  refused-leaves-zeros h =
      let (count, all) = promises.refused-leaves-nothing document environment budget (length b) (length c) (length f) (refuses h) in
      let bytes = run.buffers ∙ all in (
        ap (λ (x : J.Buffers). x.trail) bytes,
        ap (λ (x : J.Buffers). x.table) bytes,
        ap (λ (x : J.Buffers). x.text) bytes,
        count_out ∙ count,
      )

  -- "A refusal is a number and a place from document 01's list"
  pub resolve-refusal : Refuses (bits.number_in r)
      → OneOf resolve_numbers (bits.number_in r) × (bits.document_in r ≡ 0) × (bits.place_in r ≤ length document)
  resolve-refusal h = (
    rw number_is (promises.resolve-numbers document environment budget (length b) (length c) (length f) (refuses h)),
    rw document-is (promises.resolve-document document environment budget (length b) (length c) (length f)),
    rw place_is (promises.resolve-place document environment budget (length b) (length c) (length f)),
  )

  -- "every refusal with a place in a document carries all three", and "All other places .. have line 0 and column 0"
  pub resolve-position : PositionFor document (bits.number_in r) (bits.place_in r) (bits.line_in r) (bits.column_in r)
  resolve-position =
      rw (place_is, line_out, column-is, number_is)
      (promises.resolve-position document environment budget (length b) (length c) (length f))

  module _ (z : bits.number_in r ≡ 0) where
    -- ---- demand 2: "The table resolved from a document and environment is the one that document 01's reading and resolving rules give"

    pub handed-back-is : (x : Setting)
        × (v : Value)
        × (S : Trail Answer)
        × (inputs true document environment ≡ valid x)
        × (resolve (J.order_of x (J.room_of (length b)) (J.room_of (length f))) budget (root_value x.document.root x.environment)
        (count_of x)
        ≡ answer v S (bits.count_in r))
        × LaidOut S v trail_back table_back text_back
    handed-back-is =
        rw (count_out, trail_is, table_is, text-is)
        (promises.resolved-is document environment budget (length b) (length c) (length f) (succeeds z))

    -- the count is that of the entries in the trail's bytes
    pub count-is : bits.count_in r ≡ entries_in trail_back text_back
    count-is =
        rw (count_out, trail_is, text-is) (demands.count-is document environment budget (length b) (length c) (length f) (succeeds z))

    -- what is handed back is accepted, as the proofs below cite it
    yes_back : {w : ℕ} (check : Checked document environment trail_back table_back text_back w) → w ≡ 0
    yes_back check =
        check.is ∙ (checked-yes document environment trail_back table_back text_back).1
        (rw (trail_is, table_is, text-is)
        (demands.resolved-accepted document environment budget (length b) (length c) (length f) (succeeds z)))

    -- ---- demand 3: "Whatever the budget and the buffers, every sheet that resolution hands back .. is accepted": dz_check answers 0
    pub handed-back-accepted : {v : ℕ} → Checked document environment trail_back table_back text_back v → v ≡ 0
    handed-back-accepted check = yes_back check

    -- "So is every reordering of that sheet in which each blend stands after those it needs": and only then
    pub reordered-accepted : {trail table text : List ℕ} (p : Reordering trail_back table_back text_back trail table text)
        → {v : ℕ} → Checked document environment trail table text v → InOrder document environment p.entries' ↔ (v ≡ 0)
    reordered-accepted {trail} {table} {text} p check =
        let law = demands.reordered-accepted document environment budget (length b) (length c) (length f) (succeeds z) trail table text in
        let (to, from) = (rw (← trail_is, ← table_is, ← text-is) at law) p in
        let (accepts, answers) = checked-yes document environment trail table text in
        (λ o. check.is ∙ answers (to o), λ e. from (accepts (sym check.is ∙ e)))

-- budget 256 and full-size buffers
module _ {document environment : List ℕ} {b c f b' c' f' : List ℕ} {r : ℕ} (run : PackedResolveIs document environment 256 b c f b' c' f' r)
    (full : (32768 ≤ length b) × (32768 ≤ length c) × (32768 ≤ length f)) where
  in-full : J.resolve_job document environment 256 (length b) (length c) (length f) ≡ demands.resolve_in_full document environment
  in-full = demands.buffers-full document environment 256 (length b) (length c) (length f) full.0 full.1 full.2

  -- "If the gauge accepts it, resolution .. hands back a sheet too, and the two tables mean the same": where dz_check answers 0
  pub accepted-resolves : {trail table text : List ℕ} → Checked document environment trail table text 0
      → (bits.number_in r ≡ 0) × MeanTheSame (table_back run) (text_back run) table text
  accepted-resolves {trail} {table} {text} check =
      let y = (checked-yes document environment trail table text).0 (sym check.is) in
      let (done, same) = demands.accepted-resolves document environment trail table text y in
      (number_is run ∙ ap (λ q. q.number) in-full ∙ done, rw (table_is run, text-is run, in-full) same)

  -- "resolution refuses exactly when the gauge would accept no sheet at all"
  pub refused-exactly : Refuses (bits.number_in r) ↔ ((trail table text : List ℕ) → Checked document environment trail table text 0 → ⊥)
  refused-exactly = (
    λ h trail table text check. h (accepted-resolves check).0,
    λ never z. never (trail_back run) (table_back run) (text_back run)
        (record { is = sym (yes_back run z (record { is = refl })) }),
  )

-- ---- dz_check

module _ {document environment trail table text : List ℕ} {v : ℕ} (run : Checked document environment trail table text v) where
  abbrev judged : J.Verdict
  judged = J.check_job document environment trail table text

  verdict-out : bits.UnpacksVerdict judged
  verdict-out = check-unpacks document environment trail table text

  pub check-number-is : bits.number_in v ≡ judged.number
  check-number-is = ap bits.number_in run.is ∙ verdict-out.number

  -- the header asks for the number first: a yes has no place
  taken_out : (n : ℕ) (field : J.Verdict → ℕ) → field J.yes ≡ 0 → n ≡ field judged → cond (eqb (bits.number_in v) 0) 0 n ≡ field judged
  taken_out n field z e = go (eqb (bits.number_in v) 0) refl
    where
      go : (t : Bool) → eqb (bits.number_in v) 0 ≡ t → cond (eqb (bits.number_in v) 0) 0 n ≡ field judged
      go true h =
          let y = sym check-number-is ∙ eqb-true (bits.number_in v) 0 h in
          rw h (sym (ap field ((demands.yes-is document environment trail table text).0 y) ∙ z))
      go false h = rw h e

  pub check-document-is : bits.document_in v ≡ judged.document
  check-document-is =
      taken_out (bits.verdict_document_in v) (λ q. q.document) refl (ap bits.verdict_document_in run.is ∙ verdict-out.document)

  pub check-place-is : bits.place_in v ≡ judged.place
  check-place-is = taken_out (bits.verdict_place_in v) (λ q. q.place) refl (ap bits.verdict_place_in run.is ∙ verdict-out.place)

  pub check-line-is : bits.line_in v ≡ judged.line
  check-line-is = taken_out (bits.verdict_line_in v) (λ q. q.line) refl (ap bits.verdict_line_in run.is ∙ verdict-out.line)

  pub check-column-is : bits.column_in v ≡ judged.column
  check-column-is = taken_out (bits.verdict_column_in v) (λ q. q.column) refl (ap bits.verdict_column_in run.is ∙ verdict-out.column)

  pub check-refusal : Refuses (bits.number_in v)
      → OneOf check_numbers (bits.number_in v) × (bits.document_in v ≡ 0) × (bits.place_in v ≤ length document)
  check-refusal h = (
    rw check-number-is (promises.check-numbers document environment trail table text (λ z. h (check-number-is ∙ z))),
    rw check-document-is (promises.check-document document environment trail table text),
    rw check-place-is (promises.check-place document environment trail table text),
  )

  pub check-position : PositionFor document (bits.number_in v) (bits.place_in v) (bits.line_in v) (bits.column_in v)
  check-position =
      rw (check-place-is, check-line-is, check-column-is, check-number-is)
      (promises.check-position document environment trail table text)

  -- "a sheet is accepted exactly if .."
  pub accepted-exactly : (x : Setting) → inputs true document environment ≡ valid x
      → length trail ≤ 32768 → length table ≤ 32768 → length text ≤ 32768
      → (v ≡ 0)
      ↔ ((S : Trail Answer) × (w : Value) × Accepts (J.order_of x 32768 32768) (root_value x.document.root x.environment) S w
      × (within_size w ≡ true) × LaidOut S w trail table text)
  accepted-exactly x read h k m =
      let (to, from) = demands.accepted-exactly document environment trail table text x read h k m in
      let (accepts, answers) = checked-yes document environment trail table text in
      (λ e. to (accepts (sym run.is ∙ e)), λ p. run.is ∙ answers (from p))

-- ---- dz_look_up

module _ {table text path : List ℕ} {g : ℕ} (run : LookedUp table text path g) where
  found-out : look.Unpacks (J.look_up_job table text path)
  found-out = answer-unpacks table text path

  pub look-up-number-is : look.number_in g ≡ (J.look_up_job table text path).number
  look-up-number-is = ap look.number_in run.is ∙ found-out.number

  pub look-up-place-is : look.place_in g ≡ (J.look_up_job table text path).place
  look-up-place-is = ap look.place_in run.is ∙ found-out.place

  offset-is : look.offset_in g ≡ (J.look_up_job table text path).start
  offset-is = ap look.offset_in run.is ∙ found-out.start

  length-is : look.length_in g ≡ (J.look_up_job table text path).size
  length-is = ap look.length_in run.is ∙ found-out.size

  -- "a refused look-up hands back an empty part", and has a number of the list and a place in the path text
  pub look-up-refusal : Refuses (look.number_in g)
      → OneOf look_up_numbers (look.number_in g) × (look.place_in g ≤ length path) × (look.offset_in g ≡ 0) × (look.length_in g ≡ 0)
  look-up-refusal h =
      let no : Refuses (J.look_up_job table text path).number = λ z. h (look-up-number-is ∙ z) in
      let (at, size) = (promises.look-up-part table text path).1 no in (
        rw look-up-number-is (promises.look-up-numbers table text path no),
        rw look-up-place-is (promises.look-up-place table text path),
        offset-is ∙ at,
        length-is ∙ size,
      )

  -- what is found is a part of the lent table, and not empty
  pub look-up-part : look.number_in g ≡ 0 → (1 ≤ look.length_in g) × (look.offset_in g + look.length_in g ≤ length table)
  look-up-part z = rw (offset-is, length-is) ((promises.look-up-part table text path).0 (sym look-up-number-is ∙ z))

  -- what dz_look_up answers where a path names a value, and where it names nothing
  abbrev pub AnswerFor : Option Value → Type 0
  AnswerFor none = (look.number_in g ≡ 16) × (look.place_in g ≡ 0)
  AnswerFor (some w) =
      (look.number_in g ≡ 0) × (offset : ℕ) × (slice (look.offset_in g) (look.offset_in g + look.length_in g) table ≡ records offset w)
      × At text offset (texts w)

  -- "A look-up hands back precisely the records of the value that the path names in the table", in a sheet to which dz_check answers 0
  pub look-up-finds : {document environment trail : List ℕ} → Checked document environment trail table text 0
      → (S : Trail Answer) (v : Value) → LaidOut S v trail table text
      → (names : List Text) (end : ℕ) → length path ≤ max_path_text → ill_formed path ≡ none → path_text path ≡ ok names end
      → AnswerFor (value_at names v)
  unfolding J.not_found
  look-up-finds {document} {environment} {trail} check S v laid names end short well good =
      go (value_at names v)
      (promises.accepted-look-up document environment trail table text
      ((checked-yes document environment trail table text).0 (sym check.is)) S v laid
      path names end short well good)
    where
      go : (o : Option Value) → FoundIn table text (J.look_up_job table text path) o → AnswerFor o
      go none e = (look-up-number-is ∙ ap (λ (q : J.Found). q.number) e, look-up-place-is ∙ ap (λ (q : J.Found). q.place) e)
      go (some w) e = (
        look-up-number-is ∙ ap (λ (q : J.Found). q.number) e.handed,
        e.offset,
        rw (offset-is, length-is ∙ ap (λ (q : J.Found). q.size) e.handed) e.its-records,
        e.its-texts,
      )

-- ---- dz_length

module _ {table text : List ℕ} {g : ℕ} (run : LengthRead table text g) where
  length-number-is : lengths.number_in g ≡ (J.length_job table text).number
  length-number-is = ap lengths.number_in run.is ∙ (lengths.length-unpacks table text).0

  micrometres-is : lengths.micrometres_in g ≡ (J.length_job table text).micrometres
  micrometres-is = ap lengths.micrometres_in run.is ∙ (lengths.length-unpacks table text).1

  -- a refusal has a number of the list, and no micrometres
  pub length-refusal : Refuses (lengths.number_in g) → OneOf length_numbers (lengths.number_in g) × (lengths.micrometres_in g ≡ 0)
  unfolding no_length
  length-refusal h =
      let (m, q) = promises.length-refusal table text (λ z. h (length-number-is ∙ z)) in
      (rw length-number-is m, micrometres-is ∙ ap (λ r. r.micrometres) q)

  -- what is answered is exact, and within its limit
  pub length-exact : lengths.number_in g ≡ 0 → Exact (text_at table text 0) (lengths.micrometres_in g)
  length-exact z = rw micrometres-is (promises.length-exact table text (sym length-number-is ∙ z))
