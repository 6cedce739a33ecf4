-- The end of resolve: one law for each return, and what its callees ask.
use mathlib.Core.Path.{◌≡◌, refl, sym, ap, ◌∙◌}
use mathlib.Core.Bool.{Bool, true, false}
use mathlib.Core.List.{List, ◌++◌}
use Prim.Native.Nat.{ℕ, ◌+◌, ◌≤◌, ◌<◌, ◌^◌}
use native.Mathlib.Omega.{arith}
use lib.Dec.{leb}
use lib.ListN.{length, take, drop, length-append}
use lib.Seq.{sets, sets-eq, take_at}
use borrow.Author.Tests.{leb-true}
use Rattle.std.specs.Prelude.{Result, Ok, Err}
use Rattle.std.proofs.Common.{inl, inr}
use Rattle.answers.specs.Ask.{Trail}
use Rattle.answers.specs.Resolve.{answer}
use Rattle.rules.specs.Bytes.{Text}
use Rattle.rules.specs.Sizes.{max_room}
use Rattle.rules.specs.Refusals.{nowhere}
use Rattle.rules.specs.Values.{Value, Answer, within_size}
use Rattle.rules.specs.Sheet.{records, texts, trail_size, trail_text_size, trail_texts, table_fits}
use Rattle.rules.specs.Jobs.{refused_with, sheet_for, handed_back}
use Rattle.theory.specs.Layout.{both_true, length-records, length-texts, length-trail_records, length-trail_texts}
use Rattle.theory.specs.Jobs.{handed-sheet}
use Rattle.text_chars.specs.declared.Refusal.{Refusal}
use Rattle.text_chars.specs.Cursor.{doc, refusal}
use Rattle.sheet_kept.specs.Kept.{named, layout}
use Rattle.sheet_sizes.specs.Clauses.{TableFitsIs}
use Rattle.sheet_sizes.specs.declared.Sizes.{Sizes}
use Rattle.eval_results.specs.declared.extents.Extent.{Extent}
use Rattle.eval_results.specs.Sizes.Contracts.{within_c}
use Rattle.eval_results.specs.Sizes.Answers.{ValueIn, within-records, within-texts, value-within, value-records, value-texts, value-stands}
use Rattle.eval_store.specs.Values.Contracts.{LayAsked, LaidIs}
use Rattle.eval_store.specs.Entries.Contracts.{TrailIs}
use Rattle.eval_trail.specs.Clauses.{sizes}
use Rattle.eval_trail.specs.declared.Progress.{Progress}
use Rattle.job_results.specs.Answers.{Told, resolution_told, result_told}
use Rattle.job_results.specs.declared.Resolution.{Resolution}
use Rattle.job_inputs.specs.Buffers.Filled.{Begins, Holding}
use Rattle.job_root.specs.Output.Contracts.{room_c, JudgeIs, Judged, HandAsked, HandedBack, HandIs}

-- ---- the tests

module _ (e : Extent) {w : Bool} (i : w ≡ within_c e) where
  pub records-small : w ≡ true → e.out.rec.0 ≤ 1099511627776
  records-small y = let m = within-records e (sym i ∙ y) in omega arith

  pub texts-small : w ≡ true → e.out.text.0 ≤ 1099511627776
  texts-small y = let n = within-texts e (sym i ∙ y) in omega arith

  pub judge-large : {t : ℕ} {room : Sizes} → w ≡ false → JudgeIs e t room (Err (refusal 13 (doc 0)))
  judge-large n = record { is = inl (refl, sym i ∙ n) }

  module _ {t : ℕ} {room : Sizes} {f : Bool} (k : TableFitsIs room t (sizes e.out.rec.0 e.out.text.0) f) (y : w ≡ true) where
    pub judge-fits : f ≡ true → JudgeIs e t room (Ok tt)
    unfolding room_c
    judge-fits z = record { is = (sym i ∙ y, sym k.is ∙ z) }

    pub judge-full : f ≡ false → JudgeIs e t room (Err (refusal 14 (doc 0)))
    unfolding room_c
    judge-full z = record { is = inr (refl, sym i ∙ y, sym k.is ∙ z) }

pub trail-small : {t : ℕ} → t ≤ max_room → t ≤ 1099511627776
trail-small h = omega arith

pub ruleset judges = (judge-large, judge-fits, judge-full)

pub ruleset smalls = (records-small, texts-small, trail-small)

-- ---- what is asked where the table fits

module _ (e : Extent) (b x : List ℕ) (p : Progress) {q : Result (Unit {0}) Refusal} (j : JudgeIs e p.text.0 (sizes (length b) (length x)) q)
    {u : Unit {0}} (z : q ≡ Ok u) where
  fits : Judged e p.text.0 (sizes (length b) (length x)) (Ok u)
  fits = rw z at j.is

  fits_both : (leb e.out.rec.0 (length b) ≡ true) × (leb (p.text.0 + e.out.text.0) (length x) ≡ true)
  unfolding room_c
  fits_both = both_true _ _ fits.1

  pub lay-asked : {room : List ℕ} → HandAsked room p → LayAsked room e.out p.text.0 b x
  lay-asked h =
      let t : p.text.0 ≤ max_room = h.texts in
      record {
        full = record { whole = h.whole; rec = within-records e fits.0; text = within-texts e fits.0 };
        few = omega arith;
        records = leb-true _ _ fits_both.0;
        texts = leb-true _ _ fits_both.1;
      }

  pub sum_fits : {room : List ℕ} → HandAsked room p → p.text.0 + e.out.text.0 < 2 ^ 64
  sum_fits h =
      let t : p.text.0 ≤ max_room = h.texts in
      let n = within-texts e fits.0 in
      omega arith

-- ---- the answers

abbrev outcome : Extent → Progress → Result Resolution Refusal
outcome e p =
    Ok (record { count = p.begun; trail = record { 0 = p.used.0 }; table = record { 0 = e.out.rec.0 }; text = record { 0 = p.text.0 + e.out.text.0 } })

told_same : {n i j k i' j' k' : ℕ} → i ≡ i' → j ≡ j' → k ≡ k'
    → ◌≡◌ {A = Told} (record { number = 0; place = 0; count = n; trail = i; table = j; text = k })
    (record { number = 0; place = 0; count = n; trail = i'; table = j'; text = k' })
told_same a b c = rw (a, b, c) refl

nothing-held : {trail b x : List ℕ} (n : ℕ) → Holding (refused_with (nowhere n)) trail b x
unfolding refused_with
nothing-held {trail} {b} {x} n = record {
  trail-begins = record { rest = trail; is = refl };
  table-begins = record { rest = b; is = refl };
  text-begins = record { rest = x; is = refl };
}

-- of one value, one trail and buffers
module _ (p : Progress) (b x : List ℕ) (S : Trail Answer) (trail : List ℕ) {room : List ℕ} {e : Extent} {key : ℕ → Text} {v : Value}
    (h : ValueIn key (λ _. Unit {0}) room e v) (t : p.text.0 ≡ trail_text_size S) where
  large-back : within_c e ≡ false
      → HandedBack (handed_back (length b) (length x) (answer v S p.begun)) trail b x (Err (refusal 13 (doc 0)))
  unfolding handed_back refused_with
  large-back over =
      let small : within_size v ≡ false = sym (value-within h) ∙ over in
      let r : handed_back (length b) (length x) (answer v S p.begun) ≡ refused_with (nowhere 13) = rw (handed_back, small) in
      rw r (record { told = refl; holding = nothing-held 13 })

  module _ (w : within_c e ≡ true) where
    within : within_size v ≡ true
    within = sym (value-within h) ∙ w

    -- the test of the rooms is the rules'
    room-is : room_c e p.text.0 (sizes (length b) (length x)) ≡ table_fits (length b) (length x) S v
    unfolding room_c table_fits
    room-is = rw (room_c, table_fits, value-records h w, value-texts h w, t)

    full_back : room_c e p.text.0 (sizes (length b) (length x)) ≡ false
        → HandedBack (handed_back (length b) (length x) (answer v S p.begun)) trail b x (Err (refusal 14 (doc 0)))
    unfolding handed_back refused_with
    full_back over =
        let full : table_fits (length b) (length x) S v ≡ false = sym room-is ∙ over in
        let r : handed_back (length b) (length x) (answer v S p.begun) ≡ refused_with (nowhere 14) = rw (handed_back, within, full) in
        rw r (record { told = refl; holding = nothing-held 14 })

    module _ {a y rest more : List ℕ} (u : p.used.0 ≡ trail_size S) (l : TrailIs S trail x rest more) (k : LaidIs room e.out p.text.0 b a x y)
        (f : room_c e p.text.0 (sizes (length b) (length x)) ≡ true) where
      table-held : Begins (records (trail_text_size S) v) a
      unfolding layout
      table-held = record {
        rest = drop e.out.rec.0 b;
        is = k.records key h.held (value-stands h w)
            ∙ ap (λ (z : List ℕ). z ++ drop e.out.rec.0 b)
            (ap (λ (n : ℕ). records n (named key h.held)) t ∙ ap (records (trail_text_size S)) h.is);
      }

      in-text : p.text.0 + length (texts v) ≤ length x
      unfolding room_c
      in-text =
          let both : (leb e.out.rec.0 (length b) ≡ true) × (leb (p.text.0 + e.out.text.0) (length x) ≡ true) = both_true _ _ f in
          let i : p.text.0 + e.out.text.0 ≤ length x = leb-true _ _ both.1 in
          omega (arith, value-texts h w, length-texts v)

      text-held : Begins (trail_texts S ++ texts v) y
      text-held =
          let T = trail_texts S in
          let before : take p.text.0 x ≡ T
          = ap (take p.text.0) l.texts ∙ take_at T more p.text.0 (length-trail_texts S ∙ sym t) in
          let behind = drop (p.text.0 + length (texts v)) x in
          record {
            rest = behind;
            is = k.texts key h.held (value-stands h w)
                ∙ ap (λ (z : Value). sets x p.text.0 (texts z)) h.is
                ∙ sets-eq (texts v) x p.text.0 in-text
                ∙ ap (λ (z : List ℕ). z ++ texts v ++ behind) before;
          }

      sheet-told : resolution_told (outcome e p) ≡ result_told (sheet_for v S p.begun)
      sheet-told =
          told_same (u ∙ sym (length-trail_records S)) (value-records h w ∙ sym (length-records (trail_text_size S) v))
          (omega (arith, t, value-texts h w, length-append (trail_texts S) (texts v), length-trail_texts S, length-texts v))

      sheet-back : HandedBack (handed_back (length b) (length x) (answer v S p.begun)) trail a y (outcome e p)
      sheet-back =
          rw (handed-sheet (length b) (length x) v S p.begun within (sym room-is ∙ f))
          (record {
            told = sheet-told;
            holding = record {
              trail-begins = record { rest = rest; is = l.records };
              table-begins = table-held;
              text-begins = text-held;
            };
          })

module _ {room : List ℕ} (e : Extent) (p : Progress) (b x : List ℕ) {q : Result (Unit {0}) Refusal} (j : JudgeIs e p.text.0 (sizes (length b) (length x)) q) where
  pub hand-refused : {y : Refusal} → q ≡ Err y → HandIs room e p b b x x (Err y)
  hand-refused {y} z =
      let n : Judged e p.text.0 (sizes (length b) (length x)) (Err y) = rw z at j.is in
      record { is = λ key v S trail rest more h u t l. back key v S trail h t n; table_kept = refl; text-kept = refl }
    where
      back : (key : ℕ → Text) (v : Value) (S : Trail Answer) (trail : List ℕ) (h : ValueIn key (λ _. Unit {0}) room e v) (t : p.text.0 ≡ trail_text_size S)
          → Judged e p.text.0 (sizes (length b) (length x)) (Err y) → HandedBack (handed_back (length b) (length x) (answer v S p.begun)) trail b x (Err y)
      back key v S trail h t (inl (a, n)) = rw a (large-back p b x S trail h t n)
      back key v S trail h t (inr (a, w, n)) = rw a (full_back p b x S trail h t w n)

  pub hand-done : {u : Unit {0}} {a y : List ℕ} → q ≡ Ok u → LaidIs room e.out p.text.0 b a x y → length a ≡ length b → length y ≡ length x
      → HandIs room e p b a x y (outcome e p)
  hand-done z k m n =
      let f = fits e b x p j z in
      record { is = λ key v S trail rest more h u t l. sheet-back p b x S trail h t f.0 u l k f.1; table_kept = m; text-kept = n }

pub ruleset hands = (hand-refused, hand-done)
