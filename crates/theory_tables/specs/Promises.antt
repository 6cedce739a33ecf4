-- What is promised of sized tables and their edits (document 02, No. 9), of the definitions of its four jobs.
use Rattle.std.specs.Prelude.{◌≡◌, ℕ, ◌+◌, ◌≤◌, ◌<◌, true, false, ◌&&◌, ◌||◌, ◌↔◌, leb, eqb}
use Rattle.std.proofs.Math.Path.{refl, ap, subst}
use Rattle.std.proofs.Common.{sym, ◌∙◌, arith}
use mathlib.Core.List.{List, [], ◌∷◌, ◌++◌, append-nil}
use Rattle.std.proofs.Math.Option.{none, some}
use borrow.Author.Tests.{leb-true, leb-false, le-leb}
use Rattle.std.proofs.Math.ListN.{length}
use Rattle.std.proofs.Math.Seq.{slice}
use Rattle.answers.specs.Ask.{mem}
use Rattle.answers.specs.Theory.Sound.{clash}
use Rattle.rules.specs.Sizes.{max_room, max_path_text}
use Rattle.rules.specs.Bytes.{Text}
use Rattle.rules.specs.Refusals.{Refusal, placed, nowhere, Scan, ok}
use Rattle.rules.specs.Utf8.{ill_formed}
use Rattle.rules.specs.Paths.{path_text}
use Rattle.rules.specs.Values.{Value, object_of, Members, Answer, record_size, text_size, within_size}
use Rattle.rules.specs.Sheet.{records, texts}
use Rattle.rules.specs.LookUp.{is_whole}
use Rattle.rules.specs.NamedValues.{value_at, Distinct}
use Rattle.rules.specs.Jobs.{room_of, Found, not_found, part_at, look_up_job}
use Rattle.rules_tables.specs.Trees.{plain_head, Located, tree_of, distinct}
use Rattle.rules_tables.specs.SizedTables.{sized_size, sized_records, sized_tree, sized_fits, sized_named}
use Rattle.rules_tables.specs.Edits.{Edit, says, Outcome, becomes, edited}
use Rattle.rules_tables.specs.Jobs.{to_sized_numbers, from_sized_numbers, edit_numbers, lendable, SizedTable, no_sized_table, to_sized_job}
use Rattle.rules_tables.specs.Jobs.{PlainTable, no_plain_table, from_sized_job}
use Rattle.rules_tables.specs.Jobs.{path_names, sized_part, looked_up_sized, look_up_sized_job, edit_of, editable, edited_at, Edited, unchanged}
use Rattle.rules_tables.specs.Jobs.{settled, outcome_of, edit_job, replace_kind, remove_kind, append_kind}
use Rattle.theory.specs.Layout.{both_true, length-texts}
use Rattle.theory.specs.SameMeaning.{slice_at}
use Rattle.theory.specs.Ends.{nested}
use Rattle.theory.specs.LookUpSteps.{look-up-ill-formed, look-up-bad-path}
use Rattle.theory.specs.SheetLookUps.{TableOf, table_of, table-whole, look-up-named, look-up-missing}
use Rattle.theory.specs.Scanning.{Among}
use Rattle.theory_text.specs.Choices.{by-test, by-option}
use Rattle.theory_tables.specs.Edits.{Apart, OnlyAt}
use Rattle.theory_tables.specs.Trees.{is_some, whole_is, nested-tree}
use Rattle.theory_tables.specs.ReadBack.{plain_layout, laid-read}
use Rattle.theory_tables.specs.Sized.{plain-smaller, sized-length, distinct-true, distinct-is, sized-sound, Placed, nothing, placed}
use Rattle.theory_tables.specs.Sized.{named-placed}
use Rattle.theory_tables.specs.JobSteps.{path-read, PathRefused, ill-formed, unread, path-refused, path-numbers, path-element}
use Rattle.theory_tables.specs.JobSteps.{Changed, Happens, refusal, change, edit-happens, changed-distinct, sized-fits, fitting-sized}

-- ---- a sized table, and its tree

-- "the stored lengths equal those counted afresh": whatever is lent, what counts as a sized table has the bytes that its tree is laid out
-- with, and no equal keys
pub counted-afresh : (table text : List ℕ) (v : Value) → sized_tree table text ≡ some v
    → (table ≡ sized_records 0 v) × (text ≡ texts v) × Distinct v
counted-afresh table text v h = let s = sized-sound table text v h in (s.table_is, s.text-is, s.keys)

-- ---- "Converting to and from document 01's tables keeps the tree"

-- what may be lent
abbrev pub Lent : (table text : List ℕ) → Type 0
Lent table text = (length table ≤ max_room) × (length text ≤ max_room)

lent-true : (table text : List ℕ) → Lent table text → lendable table text ≡ true
lent-true table text (a, b) = rw (le-leb _ _ a, le-leb _ _ b) refl

lent_is : (table text : List ℕ) → lendable table text ≡ true → Lent table text
lent_is table text e = let (a, b) = both_true (leb (length table) max_room) (leb (length text) max_room) e in (leb-true _ _ a, leb-true _ _ b)

-- a sized table that fits its rooms
lent-sized : (table_length text_length : ℕ) (v : Value) (table text : List ℕ) → sized_fits (room_of table_length) (room_of text_length) v ≡ true
    → table ≡ sized_records 0 v → text ≡ texts v → Lent table text
lent-sized a b v table text f e g =
    let (h, k) = sized-fits (room_of a) (room_of b) v f in
    (omega (arith, h, ap length e, sized-length 0 v), omega (arith, k, ap length g, length-texts v))

module _ (table text : List ℕ) (table_length text_length : ℕ) where
  abbrev sized : SizedTable
  sized = to_sized_job table text table_length text_length

  -- what conversion to a sized table comes to, in its order
  pub data ToSized (r : SizedTable) : Type 0 where
    too_long : (Lent table text → ⊥) → r ≡ no_sized_table 1 → ToSized r
    not-whole : is_whole table (length text) ≡ false → r ≡ no_sized_table 15 → ToSized r
    equal-keys : (v : Value) → tree_of plain_head table text ≡ some v → (Distinct v → ⊥) → r ≡ no_sized_table 36 → ToSized r
    no_room : (v : Value) → tree_of plain_head table text ≡ some v → Distinct v → sized_fits (room_of table_length) (room_of text_length) v ≡ false
        → r ≡ no_sized_table 14 → ToSized r
    converted : (v : Value) → tree_of plain_head table text ≡ some v → sized_tree r.table r.text ≡ some v
        → sized_fits (room_of table_length) (room_of text_length) v ≡ true → r.number ≡ 0 → ToSized r

  pub to-sized-told : ToSized sized
  unfolding to_sized_job
  to-sized-told =
      by-test ToSized (lendable table text)
      (λ lent. by-option ToSized (tree_of plain_head table text)
      (λ none. not-whole (whole_is table text ∙ ap is_some none) refl)
      (λ v tree. by-test ToSized (distinct v)
      (λ keys. by-test ToSized (sized_fits (room_of table_length) (room_of text_length) v)
      (λ fits. converted v tree
      (fitting-sized table_length text_length v (distinct-true v keys) (nested-tree plain_head table text v tree) fits) fits refl)
      (λ full. no_room v tree (distinct-true v keys) full refl))
      (λ equal. equal-keys v tree (λ d. clash (cc (distinct-is v d))) refl)))
      (λ long. too_long (λ l. clash (cc (lent-true table text l))) refl)

  -- what is handed back can be lent
  pub to-sized-lent : sized.number ≡ 0 → Lent sized.table sized.text
  to-sized-lent z = go to-sized-told
    where
      go : ToSized sized → Lent sized.table sized.text
      go (too_long h q) = clash (cc)
      go (not-whole h q) = clash (cc)
      go (equal-keys v t d q) = clash (cc)
      go (no_room v t d f q) = clash (cc)
      go (converted v t s fits q) =
          let (table_is, text-is, keys) = counted-afresh _ _ v s in lent-sized table_length text_length v _ _ fits table_is text-is

  -- a refusal has one of its numbers, and hands nothing back
  pub to-sized-refused : 1 ≤ sized.number → (mem sized.number to_sized_numbers ≡ true) × (sized ≡ no_sized_table sized.number)
  to-sized-refused h = go to-sized-told
    where
      with_number : (n : ℕ) → mem n to_sized_numbers ≡ true → sized ≡ no_sized_table n
          → (mem sized.number to_sized_numbers ≡ true) × (sized ≡ no_sized_table sized.number)
      with_number n m q =
          let i : sized.number ≡ n = ap (λ r. r.number) q in
          (ap (λ z. mem z to_sized_numbers) i ∙ m, q ∙ ap no_sized_table (sym i))

      go : ToSized sized → (mem sized.number to_sized_numbers ≡ true) × (sized ≡ no_sized_table sized.number)
      go (too_long k q) = with_number 1 refl q
      go (not-whole k q) = with_number 15 refl q
      go (equal-keys v t d q) = with_number 36 refl q
      go (no_room v t d f q) = with_number 14 refl q
      go (converted v t s f q) = absurd (omega (arith, h, q))

  module _ (lent : Lent table text) where
    -- 15 where it is not one whole table of document 01
    pub to-sized-15 : (sized.number ≡ 15) ↔ (is_whole table (length text) ≡ false)
    to-sized-15 = (forth to-sized-told, back to-sized-told)
      where
        forth : ToSized sized → sized.number ≡ 15 → is_whole table (length text) ≡ false
        forth (too_long h q) z = absurd (h lent)
        forth (not-whole h q) z = h
        forth (equal-keys v t d q) z = clash (cc)
        forth (no_room v t d f q) z = clash (cc)
        forth (converted v t s f q) z = clash (cc)

        back : ToSized sized → is_whole table (length text) ≡ false → sized.number ≡ 15
        back (too_long h q) z = absurd (h lent)
        back (not-whole h q) z = ap (λ r. r.number) q
        back (equal-keys v t d q) z = clash (cc (whole_is table text ∙ ap is_some t))
        back (no_room v t d f q) z = clash (cc (whole_is table text ∙ ap is_some t))
        back (converted v t s f q) z = clash (cc (whole_is table text ∙ ap is_some t))

    -- "a table with equal keys in one object is refused at conversion"
    pub to-sized-36 : (v : Value) → tree_of plain_head table text ≡ some v → (sized.number ≡ 36) ↔ (Distinct v → ⊥)
    to-sized-36 v tree = (forth to-sized-told, back to-sized-told)
      where
        forth : ToSized sized → sized.number ≡ 36 → Distinct v → ⊥
        forth (too_long h q) z d = h lent
        forth (not-whole h q) z d = clash (cc)
        forth (equal-keys w t h q) z d = let i : w ≡ v = cc in h (subst Distinct (sym i) d)
        forth (no_room w t d' f q) z d = clash (cc)
        forth (converted w t s f q) z d = clash (cc)

        back : ToSized sized → (Distinct v → ⊥) → sized.number ≡ 36
        back (too_long h q) z = absurd (h lent)
        back (not-whole h q) z = clash (cc (whole_is table text ∙ ap is_some tree))
        back (equal-keys w t h q) z = ap (λ r. r.number) q
        back (no_room w t d f q) z = let i : w ≡ v = cc in absurd (z (subst Distinct i d))
        back (converted w t s f q) z = let i : w ≡ v = cc in absurd (z (subst Distinct i (counted-afresh _ _ w s).2))

module _ (table text : List ℕ) (table_length : ℕ) where
  abbrev plain : PlainTable
  plain = from_sized_job table text table_length

  -- what conversion from a sized table comes to, in its order; the text stays
  pub data FromSized (r : PlainTable) : Type 0 where
    too_long : (Lent table text → ⊥) → r ≡ no_plain_table 1 → FromSized r
    not-sized : sized_tree table text ≡ none → r ≡ no_plain_table 15 → FromSized r
    no_room : (v : Value) → sized_tree table text ≡ some v → room_of table_length < record_size v → r ≡ no_plain_table 14 → FromSized r
    converted : (v : Value) → sized_tree table text ≡ some v → tree_of plain_head r.table text ≡ some v
        → r ≡ record { number = 0; table = records 0 v }
        → FromSized r

  -- the plain table of a sized one's tree is read back
  pub plain-tree : (v : Value) → Lent table text → sized_tree table text ≡ some v → tree_of plain_head (records 0 v) text ≡ some v
  unfolding plain_layout
  plain-tree v (a, b) h =
      let s = sized-sound table text v h in
      let few : sized_size v ≤ max_room = omega (arith, a, ap length s.table_is, sized-length 0 v) in
      let small : text_size v ≤ max_room = omega (arith, b, ap length s.text-is, length-texts v) in
      ap (tree_of plain_head (records 0 v)) s.text-is ∙ laid-read plain_layout v s.nested (omega arith) (omega (arith, plain-smaller v))

  pub from-sized-told : FromSized plain
  unfolding from_sized_job
  from-sized-told =
      by-test FromSized (lendable table text)
      (λ lent. by-option FromSized (sized_tree table text) (λ none. not-sized none refl)
      (λ v tree. by-test FromSized (leb (record_size v) (room_of table_length))
      (λ fits. converted v tree (plain-tree v (lent_is table text lent) tree) refl)
      (λ full. no_room v tree (leb-false _ _ full) refl)))
      (λ long. too_long (λ l. clash (cc (lent-true table text l))) refl)

  pub from-sized-refused : 1 ≤ plain.number → (mem plain.number from_sized_numbers ≡ true) × (plain.table ≡ [])
  from-sized-refused h = go from-sized-told
    where
      with_number : (n : ℕ) → mem n from_sized_numbers ≡ true → plain ≡ no_plain_table n
          → (mem plain.number from_sized_numbers ≡ true) × (plain.table ≡ [])
      with_number n m q = (ap (λ r. mem r.number from_sized_numbers) q ∙ m, ap (λ r. r.table) q)

      go : FromSized plain → (mem plain.number from_sized_numbers ≡ true) × (plain.table ≡ [])
      go (too_long k q) = with_number 1 refl q
      go (not-sized k q) = with_number 15 refl q
      go (no_room v t f q) = with_number 14 refl q
      go (converted v t p q) = absurd (omega (arith, h, ap (λ r. r.number) q))

-- there and back: the tree's plain table, whatever texts the one lent had
pub there_and_back : (table text : List ℕ) (table_length text_length plain_length : ℕ) (v : Value)
    → (to_sized_job table text table_length text_length).number ≡ 0 → tree_of plain_head table text ≡ some v → record_size v ≤ room_of plain_length
    → let r = to_sized_job table text table_length text_length in
    (from_sized_job r.table r.text plain_length ≡ record { number = 0; table = records 0 v }) × (r.text ≡ texts v)
there_and_back table text a b c v z tree fits = go (to-sized-told table text a b)
  where
    r : SizedTable
    r = to_sized_job table text a b

    back : FromSized r.table r.text c (from_sized_job r.table r.text c) → sized_tree r.table r.text ≡ some v
        → from_sized_job r.table r.text c ≡ record { number = 0; table = records 0 v }
    back (too_long h q) s = absurd (h (to-sized-lent table text a b z))
    back (not-sized h q) s = clash (cc)
    back (no_room w t f q) s = let i : w ≡ v = cc in absurd (omega (arith, fits, ap record_size i))
    back (converted w t p q) s = let i : w ≡ v = cc in q ∙ ap (λ (u : Value). record { number = 0; table = records 0 u }) i

    go : ToSized table text a b r → (from_sized_job r.table r.text c ≡ record { number = 0; table = records 0 v }) × (r.text ≡ texts v)
    go (too_long h q) = clash (cc)
    go (not-whole h q) = clash (cc)
    go (equal-keys w t d q) = clash (cc)
    go (no_room w t d f q) = clash (cc)
    go (converted w t s f q) =
        let i : w ≡ v = cc in
        let same : sized_tree r.table r.text ≡ some v = s ∙ ap (λ (u : Value). some u) i in
        (back (from-sized-told r.table r.text c) same, (counted-afresh r.table r.text v same).1)

-- ---- "Look-up in a sized table": for every path text as look-up in its plain one

module _ (table text path : List ℕ) (v : Value) (lent : Lent table text) (tree : sized_tree table text ≡ some v) where
  -- the plain table of the same tree, with the same text
  plain_of : TableOf (records 0 v) text v
  plain_of =
      let s = sized-sound table text v tree in
      let few : sized_size v ≤ max_room = omega (arith, lent.0, ap length s.table_is, sized-length 0 v) in
      let small : text_size v ≤ max_room = omega (arith, lent.1, ap length s.text-is, length-texts v) in
      subst (λ (t : Text). TableOf (records 0 v) t v) (sym s.text-is)
      (table_of [] 0 v refl s.nested (omega (arith, plain-smaller v)) (omega arith))

  -- both are refused, with the same number and place; or each is a part of its records, of one and the same value
  pub data Alike (sized plain : Found) : Type 0 where
    both-refused : (x : Refusal) → sized ≡ not_found x → plain ≡ not_found x → Alike sized plain
    both_found : (w : Value) (at offset at' offset' : ℕ)
        → sized ≡ part_at at (sized_size w) → slice at (at + sized_size w) table ≡ sized_records offset w
        → plain ≡ part_at at' (record_size w) → slice at' (at' + record_size w) (records 0 v) ≡ records offset' w → Alike sized plain

  module _ (short-path : length path ≤ max_path_text) where
    job_is : look_up_sized_job table text path ≡ looked_up_sized v (path_names path)
    unfolding look_up_sized_job
    job_is = rw (look_up_sized_job, le-leb _ _ lent.0, le-leb _ _ lent.1, le-leb _ _ short-path, tree)

    module _ (names : List Text) (end : ℕ) (path-is : path_names path ≡ ok names end) where
      stands : Placed table text (value_at names v) (sized_named names 0 v)
      stands =
          let s = sized-sound table text v tree in
          named-placed table text names v 0 0 ([], [], refl, s.table_is ∙ sym (append-nil (sized_records 0 v)))
          ([], [], refl, s.text-is ∙ sym (append-nil (texts v)))

      -- what a path names is found
      pub sized-found : (w : Value) → value_at names v ≡ some w
          → (at : ℕ) × (offset : ℕ)
          × (look_up_sized_job table text path ≡ part_at at (sized_size w)) × (slice at (at + sized_size w) table ≡ sized_records offset w)
      unfolding looked_up_sized
      sized-found w h = go (value_at names v) (sized_named names 0 v) h stands (job_is ∙ ap (looked_up_sized v) path-is)
        where
          go : (o : Answer) (l : Located Value) → o ≡ some w → Placed table text o l → look_up_sized_job table text path ≡ sized_part l
              → (at : ℕ) × (offset : ℕ)
              × (look_up_sized_job table text path ≡ part_at at (sized_size w)) × (slice at (at + sized_size w) table ≡ sized_records offset w)
          go none none h nothing e = clash (cc)
          go (some u) (some p) h (placed offset a b) e =
              let i : u ≡ w = cc in (
                p.1,
                offset,
                e ∙ ap (λ (z : Value). part_at p.1 (sized_size z)) i,
                subst (λ (z : Value). slice p.1 (p.1 + sized_size z) table ≡ sized_records offset z) i
                    (rw (sized-length offset u) at (slice_at (sized_records offset u) a)),
              )
          go none (some p) h x6 e = elim x6 [ ]
          go (some u) none h x5 e = elim x5 [ ]

      -- and what it does not name is 16
      pub sized-missing : value_at names v ≡ none → look_up_sized_job table text path ≡ not_found (nowhere 16)
      unfolding looked_up_sized
      sized-missing h = go (value_at names v) (sized_named names 0 v) h stands (job_is ∙ ap (looked_up_sized v) path-is)
        where
          go : (o : Answer) (l : Located Value) → o ≡ none → Placed table text o l → look_up_sized_job table text path ≡ sized_part l
              → look_up_sized_job table text path ≡ not_found (nowhere 16)
          go none none h nothing e = e
          go (some u) (some p) h (placed offset a b) e = clash (cc)
          go none (some p) h x6 e = elim x6 [ ]
          go (some u) none h x5 e = elim x5 [ ]

    named-alike : (names : List Text) (end : ℕ) → path_names path ≡ ok names end
        → Alike (look_up_sized_job table text path) (look_up_job (records 0 v) text path)
    named-alike names end h = let (well-formed, good) = path-read path names end h in go (value_at names v) refl well-formed good
      where
        go : (o : Answer) → value_at names v ≡ o → ill_formed path ≡ none → path_text path ≡ ok names end
            → Alike (look_up_sized_job table text path) (look_up_job (records 0 v) text path)
        go none named well-formed good =
            both-refused (nowhere 16) (sized-missing names end h named)
            (look-up-missing (records 0 v) text v plain_of path names end short-path well-formed good named)
        go (some w) named well-formed good =
            let (at, offset, e, part) = sized-found names end h w named in
            let (at', offset', q, part', _) =
            look-up-named (records 0 v) text v plain_of path names end short-path well-formed good w named in
            both_found w at offset at' offset' e part q part'

    pub look-up-alike : Alike (look_up_sized_job table text path) (look_up_job (records 0 v) text path)
    unfolding looked_up_sized
    look-up-alike = go (path_names path) refl
      where
        unlike : (x : Refusal) → PathRefused path x → look_up_job (records 0 v) text path ≡ not_found x
        unlike x (ill-formed place e z) =
            look-up-ill-formed (records 0 v) text path plain_of.short lent.1 short-path
            (table-whole (records 0 v) text v plain_of) place e
            ∙ ap not_found (sym z)
        unlike x (unread e f) =
            look-up-bad-path (records 0 v) text path plain_of.short lent.1 short-path
            (table-whole (records 0 v) text v plain_of) e x f

        go : (m : Scan (List Text)) → path_names path ≡ m → Alike (look_up_sized_job table text path) (look_up_job (records 0 v) text path)
        go (ok names end) h = named-alike names end h
        go (Scan.refused x) h = both-refused x (job_is ∙ ap (looked_up_sized v) h) (unlike x (path-refused path x h))

-- ---- edits

module _ (kind : ℕ) (table text path value value_text : List ℕ) (table_length text_length : ℕ) where
  abbrev result : Edited
  result = edit_job kind table text path value value_text table_length text_length

  -- an edit is refused with one of its numbers, and nothing changes; or it is done, and there is a sized table again
  pub data EditTold (r : Edited) : Type 0 where
    not_done : (x : Refusal) → Among edit_numbers x → r ≡ unchanged table text x → EditTold r
    done : length path ≤ max_path_text → (before after : Value) (edit : Edit) (k : Text) (ks : List Text) (end : ℕ)
        → sized_tree table text ≡ some before → edit_of kind value value_text ≡ some edit → path_names path ≡ ok (k ∷ ks) end
        → Changed edit (k ∷ ks) before after
        → sized_tree r.table r.text ≡ some after → Lent r.table r.text → within_size after ≡ true → r.number ≡ 0 → EditTold r

  short-path : editable kind table text path value value_text table_length text_length ≡ true → length path ≤ max_path_text
  short-path e =
      let before = leb replace_kind kind && leb kind append_kind && lendable table text in
      let short = leb (length path) max_path_text in
      let table_fits = leb (length table) table_length in
      let text-fits = leb (length text) text_length in
      let (e₁, _) = both_true (before && short && table_fits && text-fits) (eqb kind remove_kind || lendable value value_text) e in
      let (e₂, _) = both_true (before && short && table_fits) text-fits e₁ in
      let (e₃, _) = both_true (before && short) table_fits e₂ in
      leb-true (length path) max_path_text (both_true before short e₃).1

  abbrev told : Outcome → Type 0
  told o = EditTold (settled table text (room_of table_length) (room_of text_length) o)

  told-refused : (x : Refusal) → Among edit_numbers x → told (Outcome.refused x)
  unfolding settled
  told-refused x h = not_done x h refl

  module _ (short : length path ≤ max_path_text) (before : Value) (tree : sized_tree table text ≡ some before) (edit : Edit)
      (asked : edit_of kind value value_text ≡ some edit) where
    told-changed : (k : Text) (ks : List Text) (end : ℕ) → path_names path ≡ ok (k ∷ ks) end → (o : Outcome) → Happens edit (k ∷ ks) before o
        → told o
    unfolding settled
    told-changed k ks end h (Outcome.refused x) (refusal _ n) = told-refused x n
    told-changed k ks end h (becomes w) (change c) =
        by-test EditTold (within_size w)
        (λ within. by-test EditTold (sized_fits (room_of table_length) (room_of text_length) w)
        (λ fits. let d = changed-distinct k ks before edit w (sized-sound table text before tree).keys c in
        done short before w edit k ks end tree asked h c (fitting-sized table_length text_length w d (nested w within) fits)
        (lent-sized table_length text_length w _ _ fits refl refl) within refl)
        (λ full. not_done (nowhere 14) refl refl))
        (λ large. not_done (nowhere 13) refl refl)

    told-path : (m : Scan (List Text)) → path_names path ≡ m → told (edited_at edit m before)
    unfolding edited_at
    told-path (Scan.refused x) h = told-refused x (path-numbers path x h)
    told-path (ok names end) h =
        let (k, ks, e) = path-element path names end h in
        subst (λ (z : List Text). told (edited edit z before)) (sym e)
        (told-changed k ks end (h ∙ ap (λ (z : List Text). ok z end) e) (edited edit (k ∷ ks) before) (edit-happens k ks before edit))

  pub edit-told : EditTold result
  unfolding edit_job outcome_of
  edit-told =
      by-test EditTold (editable kind table text path value value_text table_length text_length)
      (λ lent. by-option told (sized_tree table text) (λ _. told-refused (nowhere 15) refl)
      (λ before tree. by-option told (edit_of kind value value_text) (λ _. told-refused (nowhere 15) refl)
      (λ edit asked. told-path (short-path lent) before tree edit asked (path_names path) refl)))
      (λ _. not_done (nowhere 1) refl refl)

  -- what an edit that is done has done
  pub record Done : Type 0 where
    pub before : Value
    pub after : Value
    pub edit : Edit
    pub names : List Text
    pub end : ℕ
    pub short-path-is : length path ≤ max_path_text
    pub lent-tree : sized_tree table text ≡ some before
    pub asked : edit_of kind value value_text ≡ some edit
    pub path-is : path_names path ≡ ok names end
    -- "After any edits the stored lengths equal those counted afresh": see `counted-afresh`
    pub new-tree : sized_tree result.table result.text ≡ some after
    pub new-lent : Lent result.table result.text
    -- "the edited path answers as the edit says"
    pub answers : value_at names after ≡ says edit
    -- "every path that is neither above it nor inside it names the same tree as before"
    pub apart-same : (q : List Text) → Apart names q → value_at q after ≡ value_at q before
    -- "the root and those above it differ only there": at the key by which the path goes on
    pub above_same : (q : List Text) (k : Text) (r : List Text) → names ≡ q ++ (k ∷ r) → (ms : Members)
        → value_at q before ≡ some (object_of ms) → (ns : Members) × (value_at q after ≡ some (object_of ns)) × OnlyAt k ms ns

  -- (that it has is `edit-done` of proofs/Promises.antt)

  -- by look-up in the new table: the new value's records
  pub edited-found : (d : Done) → (new : Value) → says d.edit ≡ some new
      → (at : ℕ) × (offset : ℕ)
      × (look_up_sized_job result.table result.text path ≡ part_at at (sized_size new))
      × (slice at (at + sized_size new) result.table ≡ sized_records offset new)
  edited-found d new e =
      sized-found result.table result.text path d.after d.new-lent d.new-tree d.short-path-is d.names d.end
      d.path-is new
      (d.answers ∙ e)

  -- and 16 after a removal
  pub removed-16 : (d : Done) → says d.edit ≡ none
      → look_up_sized_job result.table result.text path ≡ not_found (nowhere 16)
  removed-16 d e =
      sized-missing result.table result.text path d.after d.new-lent d.new-tree d.short-path-is d.names d.end
      d.path-is
      (d.answers ∙ e)

  -- a refused edit changes nothing, and has one of its numbers
  pub edit-refused : 1 ≤ result.number → (mem result.number edit_numbers ≡ true) × (result.table ≡ table) × (result.text ≡ text)
  edit-refused h = go edit-told
    where
      go : EditTold result → (mem result.number edit_numbers ≡ true) × (result.table ≡ table) × (result.text ≡ text)
      go (not_done x n q) =
          (subst (λ (r : Edited). mem r.number edit_numbers ≡ true) (sym q) n, ap (λ r. r.table) q, ap (λ r. r.text) q)
      go (done short v w e k ks end tree asked path-is c new lent within q) = absurd (omega (arith, h, q))

-- ---- "After any edits"

pub record Request : Type 0 where
  pub kind : ℕ
  pub path : List ℕ
  pub value : List ℕ
  pub value_text : List ℕ
  pub table_length : ℕ
  pub text_length : ℕ

abbrev pub edit_by : Request → (table text : List ℕ) → Edited
edit_by r table text = edit_job r.kind table text r.path r.value r.value_text r.table_length r.text_length

-- a table and its text after edits, one after the other, refused ones among them
unfoldable pub after_edits : List Request → (table text : List ℕ) → List ℕ × List ℕ
after_edits [] table text = (table, text)
after_edits (r ∷ rs) table text = let e = edit_by r table text in after_edits rs e.table e.text

-- one edit more
pub edit-sized : (r : Request) (table text : List ℕ) (v : Value) → sized_tree table text ≡ some v
    → (w : Value) × (sized_tree (edit_by r table text).table (edit_by r table text).text ≡ some w)
edit-sized r table text v h = go (edit-told r.kind table text r.path r.value r.value_text r.table_length r.text_length)
  where
    e : Edited
    e = edit_by r table text

    go : EditTold r.kind table text r.path r.value r.value_text r.table_length r.text_length e
        → (w : Value) × (sized_tree e.table e.text ≡ some w)
    go (not_done y n q) = (v, subst (λ (z : Edited). sized_tree z.table z.text ≡ some v) (sym q) h)
    go (done short u w edit k ks end tree asked path-is c new lent within q) = (w, new)

-- a sized table stays one: the stored lengths are those counted afresh
pub edits-sized : (rs : List Request) (table text : List ℕ) (v : Value) → sized_tree table text ≡ some v
    → let s = after_edits rs table text in (w : Value) × (sized_tree s.0 s.1 ≡ some w) × (s.0 ≡ sized_records 0 w) × (s.1 ≡ texts w)
unfolding after_edits
edits-sized [] table text v h = let (a, b, c) = counted-afresh table text v h in (v, h, a, b)
edits-sized (r ∷ rs) table text v h =
    let e = edit_by r table text in
    let (w, k) = edit-sized r table text v h in
    edits-sized rs e.table e.text w k
