-- Laws of looking for the first refusal: of its loop, and of its ends.
use mathlib.Core.Path.{◌≡◌, refl, sym, ap, ◌∙◌}
use Prim.Native.Nat.{ℕ, suc, ◌+◌, ◌-◌, ◌≤◌, ◌<◌}
use mathlib.Core.List.{List, [], ◌∷◌}
use native.Mathlib.Omega.{arith}
use lib.ListN.{length, get_or, take, drop, length-drop}
use lib.Seq.{drop-cons, get_or-take, length-take-le}
use Rattle.answers.specs.Ask.{value, missing, refused, run, Trail, lookup}
use Rattle.answers.specs.Theory.Sound.{clash}
use Rattle.answers.specs.Theory.Ahead.{prior}
use Rattle.answers.specs.Theory.AheadTurns.{scanned}
use Rattle.rules.specs.Bytes.{Text}
use Rattle.rules.specs.Refusals.{Refusal, number_of, place_of}
use Rattle.rules.specs.Values.{Answer}
use Rattle.rules.specs.Settled.{Given}
use Rattle.rules.specs.Unresolved.{Unresolved}
use Rattle.rules.specs.Documents.{rule_of}
use Rattle.rules.specs.Jobs.{order_of}
use Rattle.theory_order.specs.Clauses.{Task, rules_of}
use Rattle.text_chars.specs.declared.DocAt.{DocAt}
use Rattle.text_chars.specs.declared.Refusal.{Refusal as Refused}
use Rattle.text_chars.specs.Cursor.{refusal}
use Rattle.eval_writer.specs.Clauses.{Room}
use Rattle.eval_value_laws.specs.Clauses.{Left}
use Rattle.eval_value_laws.specs.Frames.{left-all, left-then}
use Rattle.eval_results.specs.declared.sizes.Outcome.{Outcome}
use Rattle.eval_trail.specs.Turns.Contracts.{ItemIs}
use Rattle.eval_question_laws.specs.Clauses.{Asked, Questioned}
use Rattle.eval_unresolved.specs.Pieces.Several.{again}
use Rattle.eval_unresolved.specs.Clauses.{OutcomeCase, OutcomeIs}
use Rattle.eval_outcomes.specs.Refusals.Contracts.{item_at, RefusalAsked, Posed, RefusalIs}

-- ---- the questions from one on

none_left : (l : List ℕ) (i : ℕ) → length l ≤ i → drop i l ≡ []
none_left l i h = go (drop i l) (omega (arith, length-drop i l))
  where
    go : (m : List ℕ) → length m ≤ 0 → m ≡ []
    go [] z = refl
    go (x ∷ m) z = absurd (omega arith)

module _ (t : Task) (S : Trail Answer) (L : List ℕ) (n : ℕ) (long : n ≤ length L) (y : Refusal) where
  abbrev from : ℕ → Refusal
  from i = scanned (rules_of t) (drop i (take n L)) S y

  from_next : (i : ℕ) → i < n → from i ≡ prior (run (lookup S) (rule_of t.setting (get_or L i 0))) (from (i + 1))
  unfolding order_of
  from_next i l =
      let a : drop i (take n L) ≡ get_or L i 0 ∷ drop (suc i) (take n L) =
      drop-cons (take n L) i 0 (omega (arith, length-take-le n L long)) ∙ ap (λ (q : ℕ). q ∷ drop (suc i) (take n L)) (get_or-take n L i 0 l) in
      let b : suc i ≡ i + 1 = omega arith in
      ap (λ (qs : List ℕ). scanned (rules_of t) qs S y) a
      ∙ ap (λ (j : ℕ). prior (run (lookup S) (rule_of t.setting (get_or L i 0))) (scanned (rules_of t) (drop j (take n L)) S y)) b

  from_end : (i : ℕ) → n ≤ i → from i ≡ y
  from_end i l = ap (λ (qs : List ℕ). scanned (rules_of t) qs S y) (none_left (take n L) i (omega (arith, length-take-le n L long)))

-- ---- the loop

pub record LoopInv (T E L : List ℕ) (base n : ℕ) (w B : List ℕ) (i : ℕ) (w' B' room : List ℕ) : Type 0 where
  pub left : Left base w w'
  pub bytes : length B' ≡ length B
  pub whole : Room room
  pub is : (t : Task) (key : ℕ → Text) (items : ℕ) (S : Trail Answer) → Posed t key items T B E S base L n
      → Posed t key items T B' E S base L n × ((y : Refusal) → scanned (rules_of t) (take n L) S y ≡ scanned (rules_of t) (drop i (take n L)) S y)

module _ {T B E w room L : List ℕ} {base n : ℕ} (A : RefusalAsked T B E w room L base n) where
  pub loop-first : LoopInv T E L base n w B 0 w B room
  loop-first = record { left = left-all; bytes = refl; whole = A.lent.whole; is = λ t key items S P. (P, λ y. refl) }

  module _ {i : ℕ} {w₁ B₁ room₁ : List ℕ} (I : LoopInv T E L base n w B i w₁ B₁ room₁) where
    pub first_ends : {given : Refused} → n ≤ i → RefusalIs T E L base n given.number given.place.0 w w₁ B given
    first_ends {given} l = record {
      left = I.left;
      is = λ t key items S P y a b.
          let e = (I.is t key items S P).1 y ∙ from_end t S L n A.long y i l in
          (a ∙ ap number_of (sym e), b ∙ ap place_of (sym e));
    }

    module _ (l : i < n) {item : ℕ} (D : ItemIs T L (i + 1) item) where
      its-item : item ≡ item_at T L i
      its-item = let j : i + 1 - 1 ≡ i = omega arith in D.is ∙ ap (λ (k : ℕ). item_at T L k) j

      pub loop-asked : Asked B₁ E w₁ room₁ base item
      loop-asked =
          let (low, high) = A.items i l in
          record {
            whole = I.whole;
            bytes = omega (arith, A.bytes, I.bytes);
            most = omega (arith, A.lent.bytes, I.bytes);
            environment = A.lent.environment;
            work = omega (arith, A.lent.work, I.left.len);
            used = A.lent.used;
            low = omega (arith, its-item);
            high = omega (arith, its-item);
          }

      module _ {w₂ B₂ room₂ : List ℕ} {o : Outcome} (O : OutcomeIs T E base item w₁ w₂ B₁ B₂ o room₂) where
        module _ (t : Task) (key : ℕ → Text) (items : ℕ) (S : Trail Answer) (P : Posed t key items T B E S base L n) where
          abbrev rule : Given Answer
          rule = run (lookup S) (rule_of t.setting (get_or L i 0))

          came : ((j : ℕ) → j < n → (u : Unresolved) × Questioned t.setting key items T B₂ E S base (item_at T L j) (get_or L j 0) u)
              × OutcomeCase key items T room₂ rule o
          came =
              let posed = (I.is t key items S P).0 in
              let (u, Q) = posed i l in
              let (s, c) = O.is t.setting key items S (get_or L i 0) u (rw its-item Q) in
              ((λ j m. let (v, R) = posed j m in (v, again R s)), c)

          next : (y : Refusal) → ((x : Refusal) → rule ≡ refused x → ⊥)
              → scanned (rules_of t) (take n L) S y ≡ scanned (rules_of t) (drop (i + 1) (take n L)) S y
          next y f = (I.is t key items S P).1 y ∙ from_next t S L n A.long y i l ∙ go rule refl
            where
              go : (g : Given Answer) → rule ≡ g
                  → prior g (scanned (rules_of t) (drop (i + 1) (take n L)) S y) ≡ scanned (rules_of t) (drop (i + 1) (take n L)) S y
              go (value v) e = refl
              go (refused x) e = absurd (f x e)
              go (missing d) e = refl

        goes : ((t : Task) (key : ℕ → Text) (items : ℕ) (S : Trail Answer) (P : Posed t key items T B E S base L n)
            → OutcomeCase key items T room₂ (rule t key items S P) o → (x : Refusal) → rule t key items S P ≡ refused x → ⊥)
            → LoopInv T E L base n w B (i + 1) w₂ B₂ room₂
        goes f = record {
          left = left-then I.left O.left;
          bytes = O.bytes ∙ I.bytes;
          whole = O.whole;
          is = λ t key items S P. ((came t key items S P).0, λ y. next t key items S P y (f t key items S P (came t key items S P).1));
        }

        pub loop-on : ((first : ℕ) (there : DocAt) → o ≡ Outcome.Refused first there → ⊥) → LoopInv T E L base n w B (i + 1) w₂ B₂ room₂
        loop-on z = goes (λ t key items S P c x q. went key items (rule t key items S P) o z c x q)
          where
            went : (key : ℕ → Text) (items : ℕ) (g : Given Answer) (o : Outcome) → ((first : ℕ) (there : DocAt) → o ≡ Outcome.Refused first there → ⊥)
                → OutcomeCase key items T room₂ g o → (x : Refusal) → g ≡ refused x → ⊥
            went key items g (Outcome.Done e) z c x q = clash (cc (c.is, q))
            went key items g Outcome.Undefined z c x q = clash (cc (c, q))
            went key items g (Outcome.Needs d) z c x q = clash (cc (c, q))
            went key items g (Outcome.Refused first there) z c x q = z first there refl

        pub first_found : {number place first : ℕ} {there : DocAt} → o ≡ Outcome.Refused first there
            → RefusalIs T E L base n number place w w₂ B (refusal first there)
        first_found {number} {place} {first} {there} z = record {
          left = left-then I.left O.left;
          is = λ t key items S P y a b.
              let c : OutcomeCase key items T room₂ (rule t key items S P) (Outcome.Refused first there) = rw z at (came t key items S P).1 in
              let e : scanned (rules_of t) (take n L) S y ≡ c.refusal =
              (I.is t key items S P).1 y ∙ from_next t S L n A.long y i l
              ∙ ap (λ (g : Given Answer). prior g (scanned (rules_of t) (drop (i + 1) (take n L)) S y)) c.is in
              (c.its-number ∙ ap number_of (sym e), c.its-place ∙ ap place_of (sym e));
        }

pub ruleset scans = (loop-first, first_ends, loop-asked, loop-on, first_found)
