-- What the jobs promise beside the five theorems of Demands: which refusals each job gives, and when; what a refusal leaves behind; what a
-- look-up hands back. Each is one statement for all lists of numbers; their proofs are in the other modules.
use Rattle.std.specs.Prelude.{◌≡◌, ℕ, zero, suc, ◌+◌, ◌-◌, ◌≤◌, List, ◌∷◌, Bool, ◌↔◌, ◌⊎◌, leb, length, replicate}
use Rattle.std.proofs.Math.Path.{refl, ap}
use Rattle.std.proofs.Common.{sym, subst, ◌∙◌, inl, inr, arith, le-leb, leb-true}
use Rattle.std.proofs.Math.Bool.{true, false}
use Rattle.std.proofs.Math.Option.{Option, none, some}
use Rattle.std.proofs.Math.Seq.{slice}
use Rattle.answers.specs.Ask.{Trail, mem}
use Rattle.answers.specs.Resolve.{answer, resolve}
use Rattle.answers.specs.Theory.Sound.{clash}
use Rattle.rules.specs.Sizes.{max_document, max_budget, max_path_text, max_nesting, max_room}
use Rattle.rules.specs.Bytes.{Text, At}
use Rattle.rules.specs.Refusals.{resolve_numbers, check_numbers, look_up_numbers, length_numbers, Refusal, placed, nowhere}
use Rattle.rules.specs.Refusals.{number_of, place_of, document_of, offset_of, ok, refused}
use Rattle.rules.specs.Utf8.{ill_formed}
use Rattle.rules.specs.Paths.{path_text}
use Rattle.rules.specs.Values.{Value, Answer, record_size}
use Rattle.rules.specs.Unresolved.{root_value}
use Rattle.rules.specs.Documents.{Setting, valid, refused, inputs, count_of}
use Rattle.rules.specs.Sheet.{records, texts}
use Rattle.rules.specs.LookUp.{is_whole, after_value, text_at, value_named}
use Rattle.rules.specs.Micrometres.{Measured, no_length}
use Rattle.rules.specs.NamedValues.{value_at}
use Rattle.rules.specs.Positions.{line_at, column_at, has_place, line_of, column_of}
use Rattle.rules.specs.Jobs.{refused_with, room_of, order_of, resolved, located, resolve_job, buffers_of, Verdict, refused_at}
use Rattle.rules.specs.Jobs.{check_job, Found, not_found, found_at, look_up_job, part_at, record_length, length_job}
use Rattle.rules.specs.Reordering.{LaidOut}
use Rattle.theory.specs.Scanning.{Among, among-all, reading_numbers}
use Rattle.theory.specs.ReadingEnds.{inputs-numbers}
use Rattle.theory.specs.DocumentPlaces.{inputs-places}
use Rattle.theory.specs.PathNumbers.{path_numbers}
use Rattle.theory.specs.LookUpSteps.{found_none, found_part, look-up-long, look-up-not-whole}
use Rattle.theory.specs.LookUpSteps.{look-up-ill-formed, look-up-bad-path, look-up-path}
use Rattle.theory.specs.LookUps as looks
use Rattle.theory.specs.SheetLookUps as sheets
use Rattle.theory.specs.Micrometres.{Exact, form_numbers, Answered, exactly, refusal}
use Rattle.theory.specs.Micrometres.{record-answered, length-answered, length-long, length-not-whole, length_whole}
use Rattle.theory.specs.Jobs.{success-inv, success-is, Approval, approval-inv}
use Rattle.theory.specs.Counts.{success-laid-out}
use Rattle.theory.specs.BothJobs.{approval-sheet}
use Rattle.theory.specs.Reordered.{one-sheet, approval-laid-out}
use Rattle.theory.specs.JobRefusals.{GoodInputs, resolving_numbers, Bounds, bad, good, bounds, Outcome, unread}
use Rattle.theory.specs.JobRefusals.{stopped, succeeded, outcome, resolve-unread, zeroed, refused-short, valid-short}
use Rattle.theory.specs.JobRefusals.{lent_bounds, Judgement, read, not-accepted, judgement, lent-true, lent-short}
use Rattle.theory.specs.JobRefusals.{Step, long, broken, bad-path, nothing, something, step}
use Rattle.theory.specs.Demands.{Succeeds, Yes}

-- ---- words

-- a number stands in a list
abbrev pub OneOf : List ℕ → ℕ → Type 0
OneOf numbers n = mem n numbers ≡ true

-- a job refuses: its number is not 0
abbrev pub Refuses : ℕ → Type 0
Refuses number = number ≡ 0 → ⊥

positive : (n : ℕ) → Refuses n → 1 ≤ n
positive zero z = absurd (z refl)
positive (suc n) z = omega arith

-- ---- numbers: "each refusal has a number of the job's list"

pub resolve-numbers : (document environment : List ℕ) (budget trail_length table_length text_length : ℕ)
    → let r = resolve_job document environment budget trail_length table_length text_length in
    Refuses r.number → OneOf resolve_numbers r.number
unfolding refused_with
resolve-numbers d e budget l m n h = go (outcome d e budget l m n)
  where
    go : Outcome d e budget l m n (resolve_job d e budget l m n) → OneOf resolve_numbers (resolve_job d e budget l m n).number
    go (unread x k q) =
        rw q (among-all (1 ∷ 2 ∷ reading_numbers) resolve_numbers (refl, (refl, (refl, (refl, (refl, (refl, (refl, (refl, (refl, tt)))))))))
        (number_of x) (inputs-numbers (leb budget max_budget) d e x k))
    go (stopped x k y w p q) =
        rw q (among-all resolving_numbers resolve_numbers (refl, (refl, (refl, (refl, (refl, (refl, tt)))))) (number_of y) w)
    go (succeeded z p) = absurd (h z)

pub check-numbers : (document environment trail table text : List ℕ)
    → let v = check_job document environment trail table text in
    Refuses v.number → OneOf check_numbers v.number
check-numbers d e trail table text h = go (judgement d e trail table text)
  where
    go : Judgement d e trail table text (check_job d e trail table text) → OneOf check_numbers (check_job d e trail table text).number
    go (unread x k q) =
        rw q (among-all (1 ∷ 2 ∷ reading_numbers) check_numbers (refl, (refl, (refl, (refl, (refl, (refl, (refl, (refl, (refl, tt)))))))))
        (number_of x) (inputs-numbers (lent_bounds d e trail table text) d e x k))
    go (read x k t q) = absurd (h (ap (λ v. v.number) q))
    go (not-accepted x k t q) = rw q refl

pub look-up-numbers : (table text path : List ℕ) → let f = look_up_job table text path in Refuses f.number → OneOf look_up_numbers f.number
look-up-numbers table text path h = (looks.look-up-refused table text path (positive (look_up_job table text path).number h)).0

-- ---- places: "first byte concerned", or the length where the end is; so never past the document, or past the path text

offset-low : {p n : ℕ} → p ≤ n → offset_of p ≤ n
offset-low h = omega arith

pub resolve-place : (document environment : List ℕ) (budget trail_length table_length text_length : ℕ)
    → (resolve_job document environment budget trail_length table_length text_length).place ≤ length document
unfolding refused_with
resolve-place d e budget l m n = go (outcome d e budget l m n)
  where
    go : Outcome d e budget l m n (resolve_job d e budget l m n) → (resolve_job d e budget l m n).place ≤ length d
    go (unread x k q) = rw q (offset-low (inputs-places d (leb budget max_budget) e x k))
    go (stopped x k y w p q) = rw q (offset-low p)
    go (succeeded z p) = rw p.place (omega arith)

pub check-place : (document environment trail table text : List ℕ) → (check_job document environment trail table text).place ≤ length document
check-place d e trail table text = go (judgement d e trail table text)
  where
    go : Judgement d e trail table text (check_job d e trail table text) → (check_job d e trail table text).place ≤ length d
    go (unread x k q) = rw q (offset-low (inputs-places d (lent_bounds d e trail table text) e x k))
    go (read x k t q) = rw q (omega arith)
    go (not-accepted x k t q) = rw q (omega arith)

-- "a place is a document's number and an offset": there is one document
below : {p : ℕ} → p ≤ max_document → document_of p ≡ 0
below h = omega arith

unread-document : (others : Bool) (d e : List ℕ) (x : Refusal) → inputs others d e ≡ refused x → document_of (place_of x) ≡ 0
unread-document others d e x h = go (refused-short others d e x h)
  where
    go : (x ≡ nowhere 1) ⊎ (length d ≤ max_document) → document_of (place_of x) ≡ 0
    go (inl z) = rw z (omega arith)
    go (inr k) = below (omega (arith, k, inputs-places d others e x h))

pub resolve-document : (document environment : List ℕ) (budget trail_length table_length text_length : ℕ)
    → (resolve_job document environment budget trail_length table_length text_length).document ≡ 0
unfolding refused_with
resolve-document d e budget l m n = go (outcome d e budget l m n)
  where
    go : Outcome d e budget l m n (resolve_job d e budget l m n) → (resolve_job d e budget l m n).document ≡ 0
    go (unread x k q) = rw q (unread-document (leb budget max_budget) d e x k)
    go (stopped x k y w p q) = rw q (below (omega (arith, p, valid-short (leb budget max_budget) d e x k)))
    go (succeeded z p) = p.document

pub check-document : (document environment trail table text : List ℕ) → (check_job document environment trail table text).document ≡ 0
check-document d e trail table text = go (judgement d e trail table text)
  where
    go : Judgement d e trail table text (check_job d e trail table text) → (check_job d e trail table text).document ≡ 0
    go (unread x k q) = rw q (unread-document (lent_bounds d e trail table text) d e x k)
    go (read x k t q) = rw q refl
    go (not-accepted x k t q) = rw q (omega arith)

-- ---- lines and columns: "every refusal with a place in a document carries all three", and "All other places have line 0 and column 0"

-- of a place in a document its own; else, and on success, 0
abbrev pub PositionFor : (document : List ℕ) (number place line column : ℕ) → Type 0
PositionFor d number place line column =
    (has_place number ≡ true → (line ≡ line_at d place) × (column ≡ column_at d place)) × (has_place number ≡ false → (line ≡ 0) × (column ≡ 0))

position-for : (d : List ℕ) (number place : ℕ) → PositionFor d number (offset_of place) (line_of d number place) (column_of d number place)
unfolding line_of column_of
position-for d number place = (λ h. rw (h, line_of, column_of) (refl, refl), λ h. rw (h, line_of, column_of) (refl, refl))

pub resolve-position : (document environment : List ℕ) (budget trail_length table_length text_length : ℕ)
    → let r = resolve_job document environment budget trail_length table_length text_length in
    PositionFor document r.number r.place r.line r.column
unfolding resolve_job
resolve-position d e budget l m n =
    let r = resolved budget (room_of l) (room_of m) (room_of n) (inputs (leb budget max_budget) d e) in
    position-for d r.number r.place

pub check-position : (document environment trail table text : List ℕ)
    → let v = check_job document environment trail table text in PositionFor document v.number v.place v.line v.column
unfolding has_place
check-position d e trail table text = go (check_job d e trail table text) (judgement d e trail table text)
  where
    go : (v : Verdict) → Judgement d e trail table text v → PositionFor d v.number v.place v.line v.column
    go v (unread x k q) = rw q (position-for d (number_of x) (place_of x))
    go v (read x k t q) = rw q (λ h. clash (cc), λ h. (refl, refl))
    go v (not-accepted x k t q) = rw q (position-for d 17 0)

pub look-up-place : (table text path : List ℕ) → (look_up_job table text path).place ≤ length path
look-up-place table text path = (looks.look-up-place table text path).0

-- ---- what a refusal leaves

-- "A refusal's count is 0"; and of the three buffers, of any sizes, every byte is zero
pub refused-leaves-nothing : (document environment : List ℕ) (budget trail_length table_length text_length : ℕ)
    → let r = resolve_job document environment budget trail_length table_length text_length in
    Refuses r.number
    → (r.count ≡ 0)
    × (buffers_of trail_length table_length text_length r
    ≡ record { trail = replicate trail_length 0; table = replicate table_length 0; text = replicate text_length 0 })
unfolding refused_with
refused-leaves-nothing d e budget l m n h = go (outcome d e budget l m n)
  where
    go : Outcome d e budget l m n (resolve_job d e budget l m n)
        → ((resolve_job d e budget l m n).count ≡ 0)
        × (buffers_of l m n (resolve_job d e budget l m n) ≡ record { trail = replicate l 0; table = replicate m 0; text = replicate n 0 })
    go (unread x k q) = rw q (refl, zeroed d l m n x)
    go (stopped x k y w p q) = rw q (refl, zeroed d l m n y)
    go (succeeded z p) = absurd (h z)

-- "it hands back that part of the caller's own records", which is never empty, "or an empty part on refusal"
pub look-up-part : (table text path : List ℕ)
    → let f = look_up_job table text path in
    (f.number ≡ 0 → (1 ≤ f.size) × (f.start + f.size ≤ length table)) × (Refuses f.number → (f.start ≡ 0) × (f.size ≡ 0))
look-up-part table text path = (
  looks.look-up-part table text path,
  λ h. let (m, a, b) = looks.look-up-refused table text path (positive (look_up_job table text path).number h) in (a, b),
)

-- ---- when: number 1

-- "1: an input over its bytes, an environment or budget against its rule"
pub resolve-1 : (document environment : List ℕ) (budget trail_length table_length text_length : ℕ)
    → ((resolve_job document environment budget trail_length table_length text_length).number ≡ 1)
    ↔ (GoodInputs document environment × (budget ≤ max_budget) → ⊥)
unfolding refused_with
resolve-1 d e budget l m n = (to (outcome d e budget l m n), from (bounds (leb budget max_budget) d e))
  where
    first : Bounds (leb budget max_budget) d e → (x : Refusal) → inputs (leb budget max_budget) d e ≡ refused x → number_of x ≡ 1
        → GoodInputs d e × (budget ≤ max_budget) → ⊥
    first (bad q never) x k z g = never (le-leb budget max_budget g.1) g.0
    first (good t g among) x k z g' = let w : Among (2 ∷ reading_numbers) x = among x k in clash (cc (ap (λ i. mem i (2 ∷ reading_numbers)) z))

    to : Outcome d e budget l m n (resolve_job d e budget l m n) → (resolve_job d e budget l m n).number ≡ 1 → GoodInputs d e × (budget ≤ max_budget) → ⊥
    to (unread x k q) z g = first (bounds (leb budget max_budget) d e) x k (sym (ap (λ r. r.number) q) ∙ z) g
    to (stopped x k y w p q) z g =
        let i : number_of y ≡ 1 = sym (ap (λ r. r.number) q) ∙ z in
        clash (cc)
    to (succeeded u p) z g = clash (cc)

    from : Bounds (leb budget max_budget) d e → (GoodInputs d e × (budget ≤ max_budget) → ⊥) → (resolve_job d e budget l m n).number ≡ 1
    from (bad q never) h = ap (λ r. r.number) (resolve-unread d e budget l m n (nowhere 1) q)
    from (good t g among) h = absurd (h (g, leb-true budget max_budget t))

-- three parts that may be lent to check
abbrev pub LentSheet : (trail table text : List ℕ) → Type 0
LentSheet trail table text = (length trail ≤ max_room) × (length table ≤ max_room) × (length text ≤ max_room)

-- "or a part of a sheet, lent to check or look-up, is over 32,768 bytes"
pub check-1 : (document environment trail table text : List ℕ)
    → ((check_job document environment trail table text).number ≡ 1)
    ↔ (GoodInputs document environment × LentSheet trail table text → ⊥)
check-1 d e trail table text = (to (judgement d e trail table text), from (judgement d e trail table text) (bounds (lent_bounds d e trail table text) d e))
  where
    first : Bounds (lent_bounds d e trail table text) d e → (x : Refusal) → inputs (lent_bounds d e trail table text) d e ≡ refused x → number_of x ≡ 1
        → GoodInputs d e × LentSheet trail table text → ⊥
    first (bad q never) x k z (g, (a, b, c)) = never (lent-true d e trail table text a b c) g
    first (good t g among) x k z g' = let w : Among (2 ∷ reading_numbers) x = among x k in clash (cc (ap (λ i. mem i (2 ∷ reading_numbers)) z))

    to : Judgement d e trail table text (check_job d e trail table text) → (check_job d e trail table text).number ≡ 1
        → GoodInputs d e × LentSheet trail table text → ⊥
    to (unread x k q) z g = first (bounds (lent_bounds d e trail table text) d e) x k (sym (ap (λ v. v.number) q) ∙ z) g
    to (read x k t q) z g = omega (arith, ap (λ v. v.number) q)
    to (not-accepted x k t q) z g = omega (arith, ap (λ v. v.number) q)

    from : Judgement d e trail table text (check_job d e trail table text) → Bounds (lent_bounds d e trail table text) d e
        → (GoodInputs d e × LentSheet trail table text → ⊥) → (check_job d e trail table text).number ≡ 1
    from j (good t g among) h = absurd (h (g, lent-short d e trail table text t))
    from (unread x k q) (bad r never) h = let i : x ≡ nowhere 1 = cc in ap (λ v. v.number) q ∙ ap number_of i
    from (read x k t q) (bad r never) h = clash (cc)
    from (not-accepted x k t q) (bad r never) h = clash (cc)

-- ---- when: the other numbers of check

-- "1 to 8 and a reading 11 as in resolve": where the inputs or the reading are refused, check gives that refusal, and so does resolve
pub check-reads-as-resolve : (document environment trail table text : List ℕ) (budget trail_length table_length text_length : ℕ)
    → LentSheet trail table text → budget ≤ max_budget → (x : Refusal) → inputs true document environment ≡ refused x
    → (check_job document environment trail table text ≡ refused_at document (number_of x) (place_of x))
    × (resolve_job document environment budget trail_length table_length text_length ≡ located document (refused_with x))
check-reads-as-resolve d e trail table text budget l m n (a, b, c) small x h = (
  go (judgement d e trail table text) (rw (lent-true d e trail table text a b c) h),
  resolve-unread d e budget l m n x (rw (le-leb budget max_budget small) h),
)
  where
    go : Judgement d e trail table text (check_job d e trail table text) → inputs (lent_bounds d e trail table text) d e ≡ refused x
        → check_job d e trail table text ≡ refused_at d (number_of x) (place_of x)
    go (unread y k q) f = let i : y ≡ x = cc in rw (← i) q
    go (read y k t q) f = clash (cc)
    go (not-accepted y k t q) f = clash (cc)

-- "else 17": where the document is read, 17 comes exactly if check does not say yes; when it does is `accepted-exactly` of Demands
pub check-17 : (document environment trail table text : List ℕ) → LentSheet trail table text
    → (x : Setting) → inputs true document environment ≡ valid x
    → ((check_job document environment trail table text).number ≡ 17) ↔ (Yes (check_job document environment trail table text) → ⊥)
check-17 d e trail table text (a, b, c) x h = (
  λ z y. omega arith,
  go (judgement d e trail table text) (rw (lent-true d e trail table text a b c) h),
)
  where
    go : Judgement d e trail table text (check_job d e trail table text) → inputs (lent_bounds d e trail table text) d e ≡ valid x
        → (Yes (check_job d e trail table text) → ⊥) → (check_job d e trail table text).number ≡ 17
    go (unread y k q) f never = clash (cc)
    go (read y k t q) f never = absurd (never (ap (λ v. v.number) q))
    go (not-accepted y k t q) f never = ap (λ v. v.number) q

-- ---- when: look-up, in its order

-- a table, a text and a path that may be lent
abbrev pub LentTable : (table text path : List ℕ) → Type 0
LentTable table text path = (length table ≤ max_room) × (length text ≤ max_room) × (length path ≤ max_path_text)

module _ (table text path : List ℕ) where
  -- "1: a part of a sheet, lent to check or look-up, is over 32,768 bytes", or the path text is over its own
  pub look-up-1 : ((look_up_job table text path).number ≡ 1) ↔ (LentTable table text path → ⊥)
  unfolding not_found
  look-up-1 = (to (step table text path), λ h. ap (λ f. f.number) (look-up-long table text path (λ a b c. h (a, b, c))))
    where
      to : Step table text path (look_up_job table text path) → (look_up_job table text path).number ≡ 1 → LentTable table text path → ⊥
      to (long h q) z l = h l
      to (broken l w q) z l' = clash (cc)
      to (bad-path l w m) z l' = clash (cc (ap (λ i. mem i (2 ∷ path_numbers)) z))
      to (nothing l w names end f p v q) z l' = clash (cc)
      to (something l w names end f p at v q) z l' = clash (cc)

  -- "15: looked-up records are not one whole table"
  pub look-up-15 : LentTable table text path → ((look_up_job table text path).number ≡ 15) ↔ (is_whole table (length text) ≡ false)
  unfolding not_found
  look-up-15 l = (to (step table text path), λ w. ap (λ f. f.number) (look-up-not-whole table text path l.0 l.1 l.2 w))
    where
      to : Step table text path (look_up_job table text path) → (look_up_job table text path).number ≡ 15 → is_whole table (length text) ≡ false
      to (long h q) z = absurd (h l)
      to (broken l' w q) z = w
      to (bad-path l' w m) z = clash (cc (ap (λ i. mem i (2 ∷ path_numbers)) z))
      to (nothing l' w names end f p v q) z = clash (cc)
      to (something l' w names end f p at v q) z = clash (cc)

  module _ (lent : LentTable table text path) (whole : is_whole table (length text) ≡ true) where
    -- "then 2 to 8 on the path text": 2 at the first ill-formed sequence, else what reading the path text refuses
    pub look-up-2 : (place : ℕ) → ill_formed path ≡ some place → look_up_job table text path ≡ not_found (placed 2 place)
    look-up-2 place e = look-up-ill-formed table text path lent.0 lent.1 lent.2 whole place e

    pub look-up-path-refused : ill_formed path ≡ none → (x : Refusal) → path_text path ≡ refused x → look_up_job table text path ≡ not_found x
    look-up-path-refused f x e = look-up-bad-path table text path lent.0 lent.1 lent.2 whole f x e

    module _ (well-formed : ill_formed path ≡ none) (names : List Text) (end : ℕ) (good-path : path_text path ≡ ok names end) where
      -- "then 16: path names nothing"
      pub look-up-16 : ((look_up_job table text path).number ≡ 16) ↔ (value_named table text names 0 ≡ none)
      unfolding not_found
      look-up-16 = (
        to (step table text path),
        λ v. ap (λ f. f.number) (look-up-path table text path lent.0 lent.1 lent.2 whole well-formed names end good-path
            ∙ ap (found_at table text) v ∙ found_none table text),
      )
        where
          to : Step table text path (look_up_job table text path) → (look_up_job table text path).number ≡ 16 → value_named table text names 0 ≡ none
          to (long h q) z = absurd (h lent)
          to (broken l w q) z = clash (cc)
          to (bad-path l w m) z = clash (cc (ap (λ i. mem i (2 ∷ path_numbers)) z))
          to (nothing l w names' end' f p v q) z = let i : names' ≡ names = cc in rw (← i) v
          to (something l w names' end' f p at v q) z = clash (cc)

      -- else precisely the records of the value that the path names, which end where `after_value` says
      pub look-up-found : (at : ℕ) → value_named table text names 0 ≡ some at
          → (after : ℕ) × (after_value max_nesting table (length text) at ≡ some after) × (look_up_job table text path ≡ part_at at (after - at))
      look-up-found at v =
          let (after, f, h, k) = looks.named-part table text names at whole v in (
            after,
            f,
            look-up-path table text path lent.0 lent.1 lent.2 whole well-formed names end good-path
                ∙ ap (found_at table text) v ∙ found_part table text at after f,
          )

-- ---- a resolved sheet

-- "The resolved table is the one that document 01 gives, key order included": the sheet handed back is that of the trail and of the root's
-- value that resolving comes to, and the count is that of the unresolved values begun
pub resolved-is : (document environment : List ℕ) (budget trail_length table_length text_length : ℕ)
    → let r = resolve_job document environment budget trail_length table_length text_length in
    Succeeds r
    → (x : Setting)
    × (v : Value)
    × (S : Trail Answer)
    × (inputs true document environment ≡ valid x)
    × (resolve (order_of x (room_of trail_length) (room_of text_length)) budget (root_value x.document.root x.environment) (count_of x)
    ≡ answer v S r.count)
    × LaidOut S v r.trail r.table r.text
resolved-is d e budget l m n ok' =
    let s = success-inv d e budget l m n ok' in
    let h = s.handed in
    rw (success-is d e budget l m n s.setting s.read s.modest h)
    (s.setting, h.root, h.entries, s.read, h.answered, success-laid-out d e budget l m n s)

-- every table that resolve hands back is one whole table
pub resolved-whole : (document environment : List ℕ) (budget trail_length table_length text_length : ℕ)
    → let r = resolve_job document environment budget trail_length table_length text_length in
    Succeeds r → is_whole r.table (length r.text) ≡ true
resolved-whole d e budget l m n h = sheets.resolved-whole d e budget l m n h

-- ---- look-ups in a sheet

-- the part of a table that is a value's records, with their texts in the text part, from some offset of it on
pub record PartIs (table text : List ℕ) (f : Found) (w : Value) : Type 0 where
  pub offset : ℕ
  pub handed : f ≡ part_at f.start (record_size w)
  pub its-records : slice f.start (f.start + record_size w) table ≡ records offset w
  pub its-texts : At text offset (texts w)

-- precisely the records of the value that a path names, or 16 where it names nothing
abbrev pub FoundIn : (table text : List ℕ) → Found → Option Value → Type 0
FoundIn table text f none = f ≡ not_found (nowhere 16)
FoundIn table text f (some w) = PartIs table text f w

-- In the table of any sheet that check says yes to, whoever made it, a look-up by a path that is read finds what the path names in the sheet's
-- value. Which value that is, the bytes tell (Demands, `sheet-determines`).
pub accepted-look-up : (document environment trail table text : List ℕ) → Yes (check_job document environment trail table text)
    → (S : Trail Answer) (v : Value) → LaidOut S v trail table text
    → (path : List ℕ) (names : List Text) (end : ℕ) → length path ≤ max_path_text → ill_formed path ≡ none → path_text path ≡ ok names end
    → FoundIn table text (look_up_job table text path) (value_at names v)
accepted-look-up d e trail table text y S v laid path names end short well good-path = go (value_at names v) refl
  where
    lent : Approval d e trail table text
    lent = approval-inv d e trail table text y

    table_is : sheets.TableOf table text v
    table_is =
        let sheet = approval-sheet d e trail table text lent 32768 32768 in
        let own = approval-laid-out trail table text d e lent in
        let one = one-sheet trail table text sheet.entries S sheet.root v lent.short lent.short' lent.short'' own laid in
        subst (λ w. sheets.TableOf table text w) one.1 (sheets.accepted-table lent.setting 32768 32768 sheet lent.short'')

    go : (o : Option Value) → value_at names v ≡ o → FoundIn table text (look_up_job table text path) o
    go none q = sheets.look-up-missing table text v table_is path names end short well good-path q
    go (some w) q =
        let (at, o, f, s, t) = sheets.look-up-named table text v table_is path names end short well good-path w q in
        rw f (record { offset = o; handed = refl; its-records = s; its-texts = t })

-- So it does in every table that resolve hands back: `resolved-look-up` of proofs/Promises.antt.

-- ---- lengths (document 02, No. 3)

-- a refusal has a number of the list, "at place 0, outputs zero"
pub length-refusal : (table text : List ℕ)
    → let r = length_job table text in
    Refuses r.number → OneOf length_numbers r.number × (r ≡ no_length (nowhere r.number))
unfolding no_length
length-refusal table text h = go (length_job table text) h (length-answered table text)
  where
    go : (r : Measured) → Refuses r.number → Answered length_numbers (text_at table text 0) r
        → OneOf length_numbers r.number × (r ≡ no_length (nowhere r.number))
    go r h (exactly z e) = absurd (h z)
    go r h (refusal n m q) = rw q (m, refl)

-- What is answered is exact, and within its limit: so many times ten to the number of digits behind the dot are the digits times the unit.
pub length-exact : (table text : List ℕ) → let r = length_job table text in r.number ≡ 0 → Exact (text_at table text 0) r.micrometres
unfolding no_length
length-exact table text z = go (length_job table text) z (length-answered table text)
  where
    go : (r : Measured) → r.number ≡ 0 → Answered length_numbers (text_at table text 0) r → Exact (text_at table text 0) r.micrometres
    go r z (exactly _ e) = e
    go r z (refusal n m q) = clash (cc (sym (ap (λ i. mem i length_numbers) (sym (ap (λ x. x.number) q) ∙ z)) ∙ m))

-- a table and a text that may be lent
abbrev pub LentParts : (table text : List ℕ) → Type 0
LentParts table text = (length table ≤ max_room) × (length text ≤ max_room)

module _ (table text : List ℕ) where
  -- of a whole table neither 1 nor 15 is given
  not-record : (n : ℕ) → mem n form_numbers ≡ false → Refuses n → (record_length table text).number ≡ n → ⊥
  unfolding no_length
  not-record n m h e = go (record_length table text) e (record-answered table text)
    where
      go : (r : Measured) → r.number ≡ n → Answered form_numbers (text_at table text 0) r → ⊥
      go r e (exactly z x) = h (sym e ∙ z)
      go r e (refusal k l q) = clash (cc (sym l ∙ ap (λ i. mem i form_numbers) (sym (ap (λ x. x.number) q) ∙ e) ∙ m))

  -- 1 and 15 are look-up's
  pub length-1 : ((length_job table text).number ≡ 1) ↔ (LentParts table text → ⊥)
  unfolding no_length
  length-1 = (λ e l. go e l (is_whole table (length text)) refl, λ h. ap (λ r. r.number) (length-long table text (λ a b. h (a, b))))
    where
      go : (length_job table text).number ≡ 1 → LentParts table text → (w : Bool) → is_whole table (length text) ≡ w → ⊥
      go e l true w = not-record 1 refl (λ z. absurd (omega arith)) (sym (ap (λ r. r.number) (length_whole table text l.0 l.1 w)) ∙ e)
      go e l false w = absurd (omega (arith, e, ap (λ r. r.number) (length-not-whole table text l.0 l.1 w)))

  pub length-15 : LentParts table text → ((length_job table text).number ≡ 15) ↔ (is_whole table (length text) ≡ false)
  unfolding no_length
  length-15 l = (λ e. go e (is_whole table (length text)) refl, λ w. ap (λ r. r.number) (length-not-whole table text l.0 l.1 w))
    where
      go : (length_job table text).number ≡ 15 → (w : Bool) → is_whole table (length text) ≡ w → is_whole table (length text) ≡ false
      go e true w = absurd (not-record 15 refl (λ z. absurd (omega arith)) (sym (ap (λ r. r.number) (length_whole table text l.0 l.1 w)) ∙ e))
      go e false w = w
