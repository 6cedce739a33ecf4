-- One law for each answer of look-up.
use Rattle.std.specs.Prelude.{Ok, Err}
use mathlib.Core.Path.{◌≡◌, refl, sym, ◌∙◌, ap}
use mathlib.Core.Bool.{Bool, true, false}
use mathlib.Core.List.{List, [], ◌∷◌}
use mathlib.Core.Option.{Option, none, some}
use Prim.Native.Nat.{ℕ, suc, ◌+◌, ◌-◌, ◌≤◌, ◌<◌, ◌^◌}
use native.Mathlib.Omega.{arith}
use lib.ListN.{length, take, drop}
use borrow.Author.Tests.{le-leb}
use Rattle.answers.specs.Theory.Sound.{clash}
use Rattle.rules.specs.Bytes.{Text}
use Rattle.rules.specs.Sizes.{max_room, max_path_text, max_path}
use Rattle.rules.specs.Refusals.{number_of, place_of, Scan, ok, refused}
use Rattle.rules.specs.Utf8.{ill_formed}
use Rattle.rules.specs.Paths.{Element, texts_of, path_text}
use Rattle.rules.specs.LookUp.{is_whole}
use Rattle.rules.specs.Jobs as J
use Rattle.theory.specs.LookUpSteps.{look-up-long, look-up-not-whole, look-up-ill-formed}
use Rattle.theory.specs.LookUps.{look-up-part}
use Rattle.text_chars.specs.Cursor.{doc, refusal, ill_at}
use Rattle.text_chars.specs.declared.DocAt.{DocAt}
use Rattle.std.specs.Prelude.{Some, None, Option as Maybe, Result}
use Rattle.text_chars.specs.declared.Refusal.{Refusal}
use Rattle.text_elements.specs.Marks.Holding.{Held}
use Rattle.text_paths.specs.Texts.{PathIs, HeldTexts, read_of}
use Rattle.sheet_paths.specs.Clauses.{PartNamedIs}
use Rattle.sheet_paths.specs.Answers.{Found, job_of, part_of}
use Rattle.sheet_paths.specs.declared.Part.{Part}
use Rattle.job_look_up.specs.LookUpJob.{short-table}

-- ---- the value that a path text names

texts-count : (es : List Element) → length (texts_of es) ≡ length es
texts-count [] = refl
texts-count (e ∷ es) = ap suc (texts-count es)

module _ {path names marks : List ℕ} {r : Result ℕ Refusal} (k : PathIs path names marks r) where
  module _ {count : ℕ} (z : r ≡ Ok count) where
    -- the path was read, into so many elements
    counted : (x : Scan (List Text)) → path_text path ≡ x → Ok count ≡ read_of x → HeldTexts x names marks
        → (es : List Element) × (end : ℕ) × (path_text path ≡ ok (texts_of es) end) × (length es ≡ count) × (length es ≤ max_path) × Held 0 0 es names marks
    counted (ok ts end) e f (es, g, l, h) =
        let c : count ≡ length ts = cc in
        (es, end, e ∙ ap (λ (t : List Text). ok t end) (sym g), sym (texts-count es) ∙ ap length g ∙ sym c, l, h)
    counted (refused x) e f h = clash (cc)

    good : (es : List Element) × (end : ℕ) × (path_text path ≡ ok (texts_of es) end) × (length es ≡ count) × (length es ≤ max_path) × Held 0 0 es names marks
    good = counted (path_text path) refl (sym z ∙ k.is) k.held

    pub few-elements : count ≤ max_path
    few-elements = let (es, end, e, c, l, h) = good in omega arith

    pub path-named : {table text : List ℕ} {f : Found} → PartNamedIs table text names marks count f → job_of f ≡ J.looked_up table text (path_text path)
    unfolding J.looked_up
    path-named {table} {text} w =
        let (es, end, e, c, l, h) = good in
        w.is es h c ∙ ap (λ (x : Scan (List Text)). J.looked_up table text x) (sym e)

  module _ {y : Refusal} (z : r ≡ Err y) where
    bad : (table text : List ℕ) (x : Scan (List Text)) → path_text path ≡ x → Err y ≡ read_of x
        → job_of (Err y) ≡ J.looked_up table text x
    unfolding J.looked_up J.not_found
    bad table text (ok ts end) e f = clash (cc)
    bad table text (refused x) e f =
        let i : y ≡ refusal (number_of x) (doc (place_of x)) = cc in
        rw i

    pub path-refused : (table text : List ℕ) → job_of (Err y) ≡ J.looked_up table text (path_text path)
    path-refused table text = bad table text (path_text path) refl (sym z ∙ k.is)

-- ---- the job

module _ (table text path : List ℕ) where
  long : (length table ≤ max_room → length text ≤ max_room → length path ≤ max_path_text → ⊥)
      → job_of (Err (refusal 1 (doc 0))) ≡ J.look_up_job table text path
  unfolding J.not_found
  long h = sym (look-up-long table text path h)

  pub long-table : max_room < length table → job_of (Err (refusal 1 (doc 0))) ≡ J.look_up_job table text path
  long-table l = long (λ a b c. absurd (omega arith))

  pub long-text : max_room < length text → job_of (Err (refusal 1 (doc 0))) ≡ J.look_up_job table text path
  long-text l = long (λ a b c. absurd (omega arith))

  pub long_path : max_path_text < length path → job_of (Err (refusal 1 (doc 0))) ≡ J.look_up_job table text path
  long_path l = long (λ a b c. absurd (omega arith))

  module _ (short : length table ≤ max_room) (short-text : length text ≤ max_room) (short-path : length path ≤ max_path_text) {w : Bool}
      (j : w ≡ is_whole table (length text)) where
    pub not-whole : w ≡ false → job_of (Err (refusal 15 (doc 0))) ≡ J.look_up_job table text path
    unfolding J.not_found
    not-whole e = sym (look-up-not-whole table text path short short-text short-path (sym j ∙ e))

    module _ (e : w ≡ true) {i : Maybe DocAt} (g : i ≡ ill_at (ill_formed path)) where
      ill-some : (o : Option ℕ) (place : DocAt) → Some place ≡ ill_at o → o ≡ some place.0
      ill-some none place z = clash (cc)
      ill-some (some q) place z = let d : place ≡ doc q = cc in ap (λ (x : DocAt). some x.0) (sym d)

      ill-none : (o : Option ℕ) → None ≡ ill_at o → o ≡ none
      ill-none none z = refl
      ill-none (some q) z = clash (cc)

      pub not-utf8 : {place : DocAt} → i ≡ Some place → job_of (Err (refusal 2 place)) ≡ J.look_up_job table text path
      unfolding J.not_found
      not-utf8 {place} z =
          sym (look-up-ill-formed table text path short short-text short-path (sym j ∙ e) place.0 (ill-some (ill_formed path) place (sym z ∙ g)))

      pub looked : (f : Found) → i ≡ None → job_of f ≡ J.looked_up table text (path_text path) → job_of f ≡ J.look_up_job table text path
      unfolding J.look_up_job
      looked f z m =
          let n : ill_formed path ≡ none = ill-none (ill_formed path) (sym z ∙ g) in
          let h : J.look_up_job table text path ≡ J.looked_up table text (path_text path) =
          rw (J.look_up_job, le-leb (length table) max_room short, le-leb (length text) max_room short-text, le-leb (length path) max_path_text short-path, sym j ∙ e, n) in
          m ∙ sym h

-- ---- the part

module _ (table text path : List ℕ) (r : Found) (k : job_of r ≡ J.look_up_job table text path) where
  abbrev job : J.Found
  job = J.look_up_job table text path

  module _ {v : Part} (z : r ≡ Ok v) where
    is-part : job_of (Ok v) ≡ job
    is-part = ap job_of (sym z) ∙ k

    part-number : job.number ≡ 0
    part-number = sym (ap (λ (f : J.Found). f.number) is-part)

    part-start : v.start.0 ≡ job.start
    part-start = ap (λ (f : J.Found). f.start) is-part

    part-size : v.size.0 ≡ job.size
    part-size = ap (λ (f : J.Found). f.size) is-part

    pub part-inside : v.start.0 + v.size.0 ≤ length table
    part-inside = rw (part-start, part-size) (look-up-part table text path part-number).1

    pub part-fits : v.start.0 + v.size.0 < 2 ^ 64
    part-fits = let h = part-inside in let l = short-table table text path part-number in omega arith

    pub part-handed : take (v.start.0 + v.size.0 - v.start.0) (drop v.start.0 table) ≡ part_of table job
    unfolding part_of
    part-handed = let w : v.start.0 + v.size.0 - v.start.0 ≡ v.size.0 = omega arith in rw (w, part-start, part-size)

  module _ {e : Refusal} (z : r ≡ Err e) where
    pub none-handed : take 0 (drop 0 table) ≡ part_of table job
    unfolding part_of
    none-handed = let g : job_of (Err e) ≡ job = ap job_of (sym z) ∙ k in rw (← g)

pub ruleset names = (path-named, path-refused)

pub ruleset jobs = (long-table, long-text, long_path, not-whole, not-utf8, looked)

pub ruleset handed = (part-handed, none-handed)
