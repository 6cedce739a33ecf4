-- Look-up in a sheet: the table that resolve hands back, and that of any accepted sheet, is one whole table, and look-up in it hands back
-- precisely the records of the named value, or 16 where the path names nothing.
use Rattle.std.specs.Prelude.{◌≡◌, ℕ, ◌+◌, ◌-◌, ◌≤◌, List, [], ◌++◌, true, ◌&&◌, leb, length}
use Rattle.std.proofs.Math.Path.{refl}
use Rattle.std.proofs.Common.{sym, ◌∙◌, ap, append-nil, arith, length-append}
use Rattle.std.proofs.Math.Option.{Option, none, some}
use Rattle.std.proofs.Math.Seq.{slice}
use borrow.Author.Tests.{leb-true}
use Rattle.answers.specs.Resolve.{Res}
use Rattle.answers.specs.Theory.Holds.{Holds, answers, refuses, dries}
use Rattle.rules.specs.Sizes.{max_nesting, max_room, max_path_text, max_budget, max_records, max_text}
use Rattle.rules.specs.Bytes.{Text, At}
use Rattle.rules.specs.Refusals.{Refusal, nowhere, number_of, ok}
use Rattle.rules.specs.Utf8.{ill_formed}
use Rattle.rules.specs.Paths.{path_text}
use Rattle.rules.specs.Values.{Value, Answer, within_size, record_size, text_size, nesting_of}
use Rattle.rules.specs.Documents.{Setting, Input, valid, refused, inputs}
use Rattle.rules.specs.Sheet.{records, texts, trail_text_size, trail_texts, table_fits}
use Rattle.rules.specs.LookUp.{is_whole, value_named}
use Rattle.rules.specs.Jobs.{Result, Resolved, room_of, handed_back, resolved, resolve_job, not_found, found_at, look_up_job, part_at}
use Rattle.theory_text.specs.Choices.{by-test}
use Rattle.theory.specs.Layout.{both_true, length-records, length-texts, length-trail_texts}
use Rattle.theory.specs.Ends.{nested}
use Rattle.theory.specs.Entries.{SheetOf}
use Rattle.theory.specs.Accepted.{sheet-sizes}
use Rattle.theory.specs.Numbering.{prepared}
use Rattle.theory.specs.Resolving.{resolve-holds}
use Rattle.theory.specs.ReadingEnds.{inputs_end}
use Rattle.theory.specs.SameMeaning.{at-end}
use Rattle.theory.specs.TableSteps.{whole-intro}
use Rattle.theory.specs.LookUpSteps.{found_none, found_part, look-up-path}
use Rattle.theory.specs.NamedValues.{stands-whole, stands-part, named-found, named-missing}
use Rattle.rules.specs.NamedValues.{value_at, Stands}

-- ---- the table of a value

-- a value's records are all of a table, which may be lent
pub record TableOf (table text : List ℕ) (v : Value) : Type 0 where
  pub stands : Stands table text v 0
  pub exact : length table ≡ record_size v
  pub short : length table ≤ max_room
  pub short-text : length text ≤ max_room

-- a value that may be handed back, after the texts of a trail
pub table_of : (before : Text) (o : ℕ) (v : Value) → length before ≡ o → nesting_of v ≤ max_nesting → record_size v ≤ max_room → o + text_size v ≤ max_room
    → TableOf (records o v) (before ++ texts v) v
table_of before o v e shallow few small = record {
  stands = record {
    offset = o;
    in_table = ([], [], refl, sym (append-nil (records o v)));
    in-text = at-end before (texts v) o e;
    small = omega arith;
    few = omega arith;
    shallow = shallow;
  };
  exact = length-records o v;
  short = omega (arith, length-records o v);
  short-text = omega (arith, length-append before (texts v), length-texts v);
}

module _ (table text : List ℕ) (v : Value) (t : TableOf table text v) where
  pub table-whole : is_whole table (length text) ≡ true
  table-whole =
      whole-intro table (length text) (stands-whole table text v 0 t.stands ∙ ap {B = Option ℕ} some (omega (arith, t.exact)))

  module _ (path : List ℕ) (names : List Text) (end : ℕ) (short-path : length path ≤ max_path_text) (well-formed : ill_formed path ≡ none)
      (good : path_text path ≡ ok names end) where
    job_is : look_up_job table text path ≡ found_at table text (value_named table text names 0)
    job_is = look-up-path table text path t.short t.short-text short-path table-whole well-formed names end good

    -- "it hands back that part of the caller's own records which is the named value"
    pub look-up-named : (w : Value) → value_at names v ≡ some w
        → (at : ℕ)
        × (o : ℕ)
        × (look_up_job table text path ≡ part_at at (record_size w))
        × (slice at (at + record_size w) table ≡ records o w)
        × At text o (texts w)
    look-up-named w e =
        let (at, f, s) = named-found table text names v 0 t.stands w e in
        let size : at + record_size w - at ≡ record_size w = omega arith in (
          at,
          s.offset,
          job_is ∙ ap (found_at table text) f ∙ found_part table text at (at + record_size w) (stands-whole table text w at s) ∙ ap (part_at at) size,
          stands-part table text w at s,
          s.in-text,
        )

    -- "path names nothing"
    pub look-up-missing : value_at names v ≡ none → look_up_job table text path ≡ not_found (nowhere 16)
    look-up-missing e = job_is ∙ ap (found_at table text) (named-missing table text names v 0 t.stands e) ∙ found_none table text

-- ---- sheets

within-records : (v : Value) → within_size v ≡ true → record_size v ≤ max_room
unfolding within_size
within-records v e =
    let (f, g) = both_true (leb (nesting_of v) max_nesting && leb (record_size v) max_records) (leb (text_size v) max_text) e in
    let (h, k) = both_true (leb (nesting_of v) max_nesting) (leb (record_size v) max_records) f in
    omega (arith, leb-true (record_size v) max_records k)

-- of an accepted sheet
pub accepted-table : (x : Setting) (a c : ℕ) {trail table text : List ℕ} (s : SheetOf x a c trail table text) → length text ≤ max_room
    → TableOf table text s.root
accepted-table x a c s h =
    let S = s.entries in
    let v = s.root in
    rw (s.table_is, s.text-is)
    (table_of (trail_texts S) (trail_text_size S) v (length-trail_texts S) (nested v s.small) (within-records v s.small)
    (omega (arith, (sheet-sizes x a c s).2)))

-- of what resolve hands back
pub data HandedTable (number : ℕ) (table text : List ℕ) : Type 0 where
  no_table : 1 ≤ number → table ≡ [] → HandedTable number table text
  table-of-value : (v : Value) → TableOf table text v → HandedTable number table text

abbrev TableIn : Result → Type 0
TableIn r = HandedTable r.number r.table r.text

module _ (table_room text_room : ℕ) (small : text_room ≤ max_room) where
  handed-table : {m : Res Refusal Answer Value} → Holds (λ y. 1 ≤ number_of y) ⊥ (λ v S n. Unit {0}) m
      → TableIn (handed_back table_room text_room m)
  unfolding handed_back table_fits
  handed-table (refuses h) = no_table h refl
  handed-table (dries h) = absurd h
  handed-table (answers {a = v} {S = S} h) =
      by-test TableIn (within_size v)
      (λ within. by-test TableIn (table_fits table_room text_room S v)
      (λ fits. let text-fits = leb-true (trail_text_size S + text_size v) text_room (both_true (leb (record_size v) table_room) _ fits).1 in
      table-of-value v
      (table_of (trail_texts S) (trail_text_size S) v (length-trail_texts S) (nested v within) (within-records v within) (omega arith)))
      (λ full. no_table (omega arith) refl))
      (λ large. no_table (omega arith) refl)

module _ (document environment : List ℕ) (budget trail_length table_length text_length : ℕ) where
  abbrev result : Resolved
  result = resolve_job document environment budget trail_length table_length text_length

  pub resolve-table : HandedTable result.number result.table result.text
  unfolding resolve_job resolved
  resolve-table = go (inputs (leb budget max_budget) document environment) refl
    where
      go : (i : Input Setting) → inputs (leb budget max_budget) document environment ≡ i
          → TableIn (resolved budget (room_of trail_length) (room_of table_length) (room_of text_length) i)
      go (refused x) e = no_table (inputs_end (leb budget max_budget) document environment x e) refl
      go (valid x) e =
          handed-table (room_of table_length) (room_of text_length) (omega arith)
          (resolve-holds x (prepared (leb budget max_budget) document environment x e) (room_of trail_length) (room_of text_length) budget)

  -- a sheet that is handed back has a value's table; all of the above holds of it
  pub resolved-value : result.number ≡ 0 → (v : Value) × TableOf result.table result.text v
  resolved-value e = go resolve-table
    where
      go : HandedTable result.number result.table result.text → (v : Value) × TableOf result.table result.text v
      go (no_table h q) = absurd (omega arith)
      go (table-of-value v t) = (v, t)

  -- so it is one whole table
  pub resolved-whole : result.number ≡ 0 → is_whole result.table (length result.text) ≡ true
  resolved-whole e = let (v, t) = resolved-value e in table-whole result.table result.text v t
