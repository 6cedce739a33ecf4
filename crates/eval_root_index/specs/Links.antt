-- The root's fields by key. Two passes: the first links each field back to the one before it, the second goes back along these links and puts
-- each field before those of its key that come after it.
use Rattle.std.specs.Prelude.{◌≡◌, refl, Bool, true, false, cond, ℕ, ◌+◌, ◌*◌, ◌≤◌, ◌<◌, eqb, ltb}
use Rattle.std.proofs.Math.Path.{sym, ap}
use Rattle.std.proofs.Common.{◌∙◌, eq-eqb, ne_eqb, lt-ltb, le-ltb}
use mathlib.Core.List.{List, [], ◌∷◌}
use native.Mathlib.Omega.{arith}
use Rattle.doc_items.specs.Room.{capacity}
use Rattle.eval_keys.specs.Texts.{by_equal}
use Rattle.eval_keys.specs.Columns.{first_at, next_at}

abbrev pub Every : (ℕ → Type 0) → List ℕ → Type 0
Every P [] = Unit {0}
Every P (j ∷ js) = P j × Every P js

-- the fields of an object whose items stand from i up to end, g the table's numbers: the items js, pieces that part them left out
abbrev pub Listed : (ℕ → ℕ) → ℕ → ℕ → List ℕ → Type 0
Listed g i end [] = (i ≤ end) × ((k : ℕ) → i ≤ k → k < end → 16 ≤ g (8 * k))
Listed g i end (j ∷ js) =
    ((i ≤ j) × ((k : ℕ) → i ≤ k → k < j → 16 ≤ g (8 * k)))
    × ((1 ≤ g (8 * j + 1)) × (j + g (8 * j + 1) ≤ end))
    × (g (8 * j) < 16)
    × Listed g (j + g (8 * j + 1)) end js

-- from q on, by nx, come the items js, and then 0
abbrev pub Follows : (ℕ → ℕ) → ℕ → List ℕ → Type 0
Follows nx q [] = q ≡ 0
Follows nx q (j ∷ js) = (q ≡ j) × (1 ≤ j) × Follows nx (nx j) js

-- of some items those with the key number k, ks giving each one's
unfoldable pub with_key : (ℕ → ℕ) → ℕ → List ℕ → List ℕ
with_key ks k [] = []
with_key ks k (j ∷ js) = cond (eqb (ks j) k) (j ∷ with_key ks k js) (with_key ks k js)

-- from the first field of each key number on come the fields js with that number, in order
pub record Linked (ks : ℕ → ℕ) (T js : List ℕ) : Type 0 where
  pub at : (k : ℕ) → k < capacity → Follows (next_at T) (first_at T k) (with_key ks k js)

-- some items backwards, before others
unfoldable pub onto : List ℕ → List ℕ → List ℕ
onto [] es = es
onto (d ∷ ds) es = onto ds (d ∷ es)

-- items that fall, all below b
abbrev pub Falls : ℕ → List ℕ → Type 0
Falls b [] = Unit {0}
Falls b (d ∷ ds) = (d < b) × Falls d ds

-- items that rise, none below b
abbrev pub Rises : ℕ → List ℕ → Type 0
Rises b [] = Unit {0}
Rises b (j ∷ js) = (b ≤ j) × Rises (j + 1) js

-- of items that rise, those before another
unfoldable pub items_before : ℕ → List ℕ → List ℕ
items_before end [] = []
items_before end (j ∷ js) = cond (ltb j end) (j ∷ items_before end js) []

-- ---- lists

pub every_map : {P Q : ℕ → Type 0} → ((j : ℕ) → P j → Q j) → (js : List ℕ) → Every P js → Every Q js
every_map f [] x = tt
every_map f (j ∷ js) x = (f j x.0, every_map f js x.1)

pub every-onto : (P : ℕ → Type 0) (ds es : List ℕ) → Every P (onto ds es) → Every P ds × Every P es
unfolding onto
every-onto P [] es x = (tt, x)
every-onto P (d ∷ ds) es x = let (a, b) = every-onto P ds (d ∷ es) x in ((b.0, a), b.1)

pub every-unto : (P : ℕ → Type 0) (ds es : List ℕ) → Every P ds → Every P es → Every P (onto ds es)
unfolding onto
every-unto P [] es x y = y
every-unto P (d ∷ ds) es x y = every-unto P ds (d ∷ es) x.1 (x.0, y)

pub every-below : {P Q : ℕ → Type 0} (b : ℕ) (ds : List ℕ) → Falls b ds → ((j : ℕ) → j < b → P j → Q j) → Every P ds → Every Q ds
every-below b [] x f y = tt
every-below b (d ∷ ds) x f y = let l = x.0 in (f d l y.0, every-below d ds x.1 (λ j u. f j (omega arith)) y.1)

pub every-falls : {P : ℕ → Type 0} (b : ℕ) (ds : List ℕ) → Falls b ds → ((j : ℕ) → j < b → P j) → Every P ds
every-falls b [] x f = tt
every-falls b (d ∷ ds) x f = let l = x.0 in (f d l, every-falls d ds x.1 (λ j u. f j (omega arith)))

pub falls-more : (a b : ℕ) (ds : List ℕ) → a ≤ b → Falls a ds → Falls b ds
falls-more a b [] l x = tt
falls-more a b (d ∷ ds) l x = let u = x.0 in (omega arith, x.1)

pub every-with : (P : ℕ → Type 0) (ks : ℕ → ℕ) (k : ℕ) (js : List ℕ) → Every P js → Every P (with_key ks k js)
unfolding with_key
every-with P ks k [] x = tt
every-with P ks k (j ∷ js) x = go (eqb (ks j) k) (every-with P ks k js x.1)
  where
    go : (t : Bool) → Every P (with_key ks k js) → Every P (cond t (j ∷ with_key ks k js) (with_key ks k js))
    go true y = (x.0, y)
    go false y = y

pub with-here : (ks : ℕ → ℕ) (k j : ℕ) (js : List ℕ) → ks j ≡ k → with_key ks k (j ∷ js) ≡ j ∷ with_key ks k js
unfolding with_key
with-here ks k j js e = rw (eq-eqb (ks j) k e) refl

pub with-other : (ks : ℕ → ℕ) (k j : ℕ) (js : List ℕ) → (ks j ≡ k → ⊥) → with_key ks k (j ∷ js) ≡ with_key ks k js
unfolding with_key
with-other ks k j js n = rw (ne_eqb (ks j) k n) refl

pub with-same : (ks ks' : ℕ → ℕ) (k : ℕ) (js : List ℕ) → Every (λ j. ks' j ≡ ks j) js → with_key ks' k js ≡ with_key ks k js
unfolding with_key
with-same ks ks' k [] x = refl
with-same ks ks' k (j ∷ js) x =
    ap (λ (n : ℕ). cond (eqb n k) (j ∷ with_key ks' k js) (with_key ks' k js)) x.0
    ∙ ap (λ (l : List ℕ). cond (eqb (ks j) k) (j ∷ l) l) (with-same ks ks' k js x.1)

pub follows_same : (nx nx' : ℕ → ℕ) (q : ℕ) (js : List ℕ) → Every (λ j. nx' j ≡ nx j) js → Follows nx q js → Follows nx' q js
follows_same nx nx' q [] x f = f
follows_same nx nx' q (j ∷ js) x f = (f.0, f.1, rw x.0 (follows_same nx nx' (nx j) js x.1 f.2))

pub rises-less : (a b : ℕ) (js : List ℕ) → a ≤ b → Rises b js → Rises a js
rises-less a b [] l x = tt
rises-less a b (j ∷ js) l x = let u = x.0 in (omega arith, x.1)

pub before-all : (end : ℕ) (js : List ℕ) → Every (λ j. j < end) js → items_before end js ≡ js
unfolding items_before
before-all end [] x = refl
before-all end (j ∷ js) x = rw (lt-ltb j end x.0) (ap (λ (l : List ℕ). j ∷ l) (before-all end js x.1))

pub before-none : (end b : ℕ) (js : List ℕ) → end ≤ b → Rises b js → items_before end js ≡ []
unfolding items_before
before-none end b [] l x = refl
before-none end b (j ∷ js) l x = let u = x.0 in rw (le-ltb j end (omega arith)) refl

-- ---- a walk along links

module _ {A : Type 0} (nx : ℕ → ℕ) where
  -- it has come to an item, and what is still to be made of the items left is what was to be made of all
  pub record Along (of : List ℕ → A) (goal : A) (i : ℕ) : Type 0 where
    pub rest : List ℕ
    pub follows : Follows nx i rest
    pub rises : Rises 1 rest
    pub is : of rest ≡ goal

  -- the same at an item, with those behind it
  pub record AtItem (of : List ℕ → A) (goal : A) (i : ℕ) : Type 0 where
    pub rest : List ℕ
    pub follows : Follows nx (nx i) rest
    pub rises : Rises (i + 1) rest
    pub is : of (i ∷ rest) ≡ goal

  module _ {of : List ℕ → A} {goal : A} {i : ℕ} where
    pub along-end : Along of goal i → i ≡ 0 → of [] ≡ goal
    along-end L z = go L.rest L.follows L.is
      where
        go : (js : List ℕ) → Follows nx i js → of js ≡ goal → of [] ≡ goal
        go [] f e = e
        go (j ∷ js) f e = let a = f.0 in let b = f.1 in absurd (omega arith)

    pub along-item : Along of goal i → (i ≡ 0 → ⊥) → AtItem of goal i
    along-item L n = go L.rest L.follows L.rises L.is
      where
        go : (js : List ℕ) → Follows nx i js → Rises 1 js → of js ≡ goal → AtItem of goal i
        go [] f u e = absurd (n f)
        go (j ∷ js) f u e =
            let z : j ≡ i = sym f.0 in
            record { rest = js; follows = rw z at f.2; rises = rw z at u.1; is = ap (λ (c : ℕ). of (c ∷ js)) (sym z) ∙ e }

    -- links that are right rise, up to 0 at the end: the walk ends where one does not
    pub item-last : AtItem of goal i → nx i ≤ i → of (i ∷ []) ≡ goal
    item-last N l = go N.rest N.follows N.rises N.is
      where
        go : (js : List ℕ) → Follows nx (nx i) js → Rises (i + 1) js → of (i ∷ js) ≡ goal → of (i ∷ []) ≡ goal
        go [] f u e = e
        go (j ∷ js) f u e = let a = f.0 in let b = u.0 in absurd (omega arith)

    pub item-next : (of' : List ℕ → A) (N : AtItem of goal i) → of' N.rest ≡ of (i ∷ N.rest) → Along of' goal (nx i)
    item-next of' N e = record {
      rest = N.rest;
      follows = N.follows;
      rises = rises-less 1 (i + 1) N.rest (omega arith) N.rises;
      is = e ∙ N.is;
    }

-- ---- one item of the first pass

module _ (g : ℕ → ℕ) where
  -- a field
  pub listed_here : (i end : ℕ) (es : List ℕ) → Listed g i end es → i < end → g (8 * i) < 16
      → (rest : List ℕ) × (es ≡ i ∷ rest) × (1 ≤ g (8 * i + 1)) × Listed g (i + g (8 * i + 1)) end rest
  listed_here i end [] x l k = let a = x.1 i (omega arith) l in absurd (omega arith)
  listed_here i end (j ∷ js) x l k =
      let low : i ≤ j = x.0.0 in
      by_equal ((rest : List ℕ) × (j ∷ js ≡ i ∷ rest) × (1 ≤ g (8 * i + 1)) × Listed g (i + g (8 * i + 1)) end rest) j i
      (λ e. (js, ap (λ (n : ℕ). n ∷ js) e, rw e at x.1.0, rw e at x.3))
      (λ e. let a = x.0.1 i (omega arith) (omega arith) in absurd (omega arith))

  -- a piece that parts fields
  pub listed-seam : (i end : ℕ) (es : List ℕ) → Listed g i end es → i < end → 16 ≤ g (8 * i) → Listed g (i + 1) end es
  listed-seam i end [] x l k = (omega arith, λ m u v. x.1 m (omega arith) v)
  listed-seam i end (j ∷ js) x l k =
      let low : i ≤ j = x.0.0 in
      let small : g (8 * j) < 16 = x.2 in
      let less : i < j = by_equal (i < j) i j (λ e. let z : 16 ≤ g (8 * j) = rw e at k in absurd (omega arith)) (λ e. omega arith) in
      ((omega arith, λ m u v. x.0.1 m (omega arith) v), x.1, x.2, x.3)

  pub listed-end : (i end : ℕ) (es : List ℕ) → Listed g i end es → end ≤ i → es ≡ []
  listed-end i end [] x l = refl
  listed-end i end (j ∷ js) x l = let a = x.0.0 in let b = x.1.0 in let c = x.1.1 in absurd (omega arith)

  -- a list hangs on the items' numbers alone
  pub listed_same : (g' : ℕ → ℕ) (i end : ℕ) (es : List ℕ) → ((k : ℕ) → k < 8 * end → g' k ≡ g k) → Listed g i end es → Listed g' i end es
  listed_same g' i end [] e x = (x.0, λ k u v. rw (e (8 * k) (omega arith)) (x.1 k u v))
  listed_same g' i end (j ∷ js) e x =
      let a = x.1.0 in
      let b = x.1.1 in
      let z : g' (8 * j + 1) ≡ g (8 * j + 1) = e (8 * j + 1) (omega arith) in (
        (x.0.0, λ k u v. rw (e (8 * k) (omega arith)) (x.0.1 k u v)),
        (omega arith, omega arith),
        rw (e (8 * j) (omega arith)) x.2,
        rw z (listed_same g' (j + g (8 * j + 1)) end js e x.3),
      )

  -- all stand between the bounds
  pub listed-inside : (i end : ℕ) (es : List ℕ) → Listed g i end es → Every (λ j. (i ≤ j) × (j < end) × (g (8 * j) < 16)) es
  listed-inside i end [] x = tt
  listed-inside i end (j ∷ js) x =
      let a = x.0.0 in
      let b = x.1.0 in
      let c = x.1.1 in
      ((a, omega arith, x.2), every_map (λ m u. let v = u.0 in (omega arith, u.1, u.2)) js (listed-inside (j + g (8 * j + 1)) end js x.3))

  -- the first pass has come to an item: the fields before it are linked back, from the last one on
  pub record Back (nx : ℕ → ℕ) (end : ℕ) (js : List ℕ) (at last : ℕ) : Type 0 where
    pub done : List ℕ
    pub rest : List ℕ
    pub whole : js ≡ onto done rest
    pub listed : Listed g at end rest
    pub follows : Follows nx last done
    pub falls : Falls at done

  pub back_start : {nx : ℕ → ℕ} {end : ℕ} {js : List ℕ} → Listed g 1 end js → Back nx end js 1 0
  unfolding onto
  back_start {nx} {end} {js} x = record { done = []; rest = js; whole = refl; listed = x; follows = refl; falls = tt }

  module _ {nx : ℕ → ℕ} {end : ℕ} {js : List ℕ} {at last : ℕ} (B : Back nx end js at last) where
    pub back-seam : at < end → 16 ≤ g (8 * at) → Back nx end js (at + 1) last
    back-seam l k = record {
      done = B.done;
      rest = B.rest;
      whole = B.whole;
      listed = listed-seam at end B.rest B.listed l k;
      follows = B.follows;
      falls = falls-more at (at + 1) B.done (omega arith) B.falls;
    }

    -- no field has no items
    pub back-size : at < end → g (8 * at) < 16 → 1 ≤ g (8 * at + 1)
    back-size l k = (listed_here at end B.rest B.listed l k).2

    pub back_field : {nx' : ℕ → ℕ} → 1 ≤ at → at < end → g (8 * at) < 16 → nx' at ≡ last → ((j : ℕ) → j < at → nx' j ≡ nx j)
        → Back nx' end js (at + g (8 * at + 1)) at
    unfolding onto
    back_field {nx'} low l k new old =
        let (rest, e, size, listed) = listed_here at end B.rest B.listed l k in
        record {
          done = at ∷ B.done;
          rest = rest;
          whole = B.whole ∙ ap (onto B.done) e;
          listed = listed;
          follows = (refl, low, rw new (follows_same nx nx' last B.done (every-falls at B.done B.falls old) B.follows));
          falls = (omega arith, B.falls);
        }

    pub back-falls : last < capacity → Falls capacity B.done
    back-falls l = go B.done B.follows B.falls
      where
        go : (ds : List ℕ) → Follows nx last ds → Falls at ds → Falls capacity ds
        go [] f x = tt
        go (d ∷ ds) f x = (omega (arith, f.0), x.1)

    pub back_end : end ≤ at → js ≡ onto B.done []
    back_end l = B.whole ∙ ap (onto B.done) (listed-end at end B.rest B.listed l)

-- ---- one field of the second pass

-- the second pass has come back to the field i, 0 past the first one: the fields done are linked by key
pub record Turned (ks nx fs : ℕ → ℕ) (js : List ℕ) (i : ℕ) : Type 0 where
  pub before : List ℕ
  pub done : List ℕ
  pub whole : js ≡ onto before done
  pub follows : Follows nx i before
  pub falls : Falls capacity before
  pub above : Every (λ j. i < j) done
  pub chains : (k : ℕ) → k < capacity → Follows nx (fs k) (with_key ks k done)

pub turned-start : {ks nx fs : ℕ → ℕ} {last : ℕ} (ds : List ℕ) → Follows nx last ds → Falls capacity ds → ((k : ℕ) → k < capacity → fs k ≡ 0)
    → Turned ks nx fs (onto ds []) last
unfolding with_key
turned-start ds f x z = record { before = ds; done = []; whole = refl; follows = f; falls = x; above = tt; chains = z }

-- the first of the fields left is the one that the pass has come to, and the links back fall
pub record Left (nx : ℕ → ℕ) (done js : List ℕ) (i : ℕ) : Type 0 where
  pub rest : List ℕ
  pub whole : js ≡ onto rest (i ∷ done)
  pub follows : Follows nx (nx i) rest
  pub small : i < capacity
  pub falls : Falls i rest

module _ {ks nx fs : ℕ → ℕ} {js : List ℕ} {i : ℕ} (U : Turned ks nx fs js i) where
  left : 1 ≤ i → Left nx U.done js i
  unfolding onto
  left l = go U.before U.whole U.follows U.falls
    where
      go : (before : List ℕ) → js ≡ onto before U.done → Follows nx i before → Falls capacity before → Left nx U.done js i
      go [] w f x = absurd (omega (arith, f))
      go (d ∷ ds) w f x =
          let e : d ≡ i = sym f.0 in
          record {
            rest = ds;
            whole = w ∙ ap (λ (n : ℕ). onto ds (n ∷ U.done)) e;
            follows = rw e at f.2;
            small = rw e at x.0;
            falls = rw e at x.1;
          }

  -- what holds of all fields holds of the one that the pass has come to
  pub turned-here : (P : ℕ → Type 0) → 1 ≤ i → Every P js → P i
  turned-here P l x = let L = left l in (every-onto P L.rest (i ∷ U.done) (rw L.whole at x)).1.0

  -- the field before is lower: 0 past the first one
  pub turned-falls : 1 ≤ i → nx i < i
  turned-falls l = let L = left l in go L.rest L.follows L.falls
    where
      go : (rest : List ℕ) → Follows nx (nx i) rest → Falls i rest → nx i < i
      go [] f x = omega (arith, f)
      go (d ∷ ds) f x = omega (arith, f.0, x.0)

  pub turned-step : {nx' fs' : ℕ → ℕ} → 1 ≤ i → nx' i ≡ fs (ks i) → fs' (ks i) ≡ i → ((j : ℕ) → (j ≡ i → ⊥) → nx' j ≡ nx j)
      → ((k : ℕ) → k < capacity → (k ≡ ks i → ⊥) → fs' k ≡ fs k) → Turned ks nx' fs' js (nx i)
  turned-step {nx'} {fs'} low link first nexts firsts =
      let L = left low in
      let less : nx i < i = turned-falls low in
      let kept : Every (λ j. nx' j ≡ nx j) U.done = every_map (λ j u. nexts j (λ e. omega arith)) U.done U.above in
      record {
        before = L.rest;
        done = i ∷ U.done;
        whole = L.whole;
        follows = follows_same nx nx' (nx i) L.rest (every-falls i L.rest L.falls (λ j u. nexts j (λ e. omega arith))) L.follows;
        falls = falls-more i capacity L.rest (let s = L.small in omega arith) L.falls;
        above = (less, every_map (λ j u. omega arith) U.done U.above);
        chains = λ k u. by_equal (Follows nx' (fs' k) (with_key ks k (i ∷ U.done))) (ks i) k
            (λ e. rw (with-here ks k i U.done e) (
              sym (ap fs' e) ∙ first,
              low,
              rw (link, e) (follows_same nx nx' (fs k) (with_key ks k U.done) (every-with (λ j. nx' j ≡ nx j) ks k U.done kept) (U.chains k u)),
            ))
            (λ e. rw (with-other ks k i U.done e, firsts k u (λ q. e (sym q)))
            (follows_same nx nx' (fs k) (with_key ks k U.done) (every-with (λ j. nx' j ≡ nx j) ks k U.done kept) (U.chains k u)));
      }

  -- past the first field
  pub turned-end : i ≡ 0 → (k : ℕ) → k < capacity → Follows nx (fs k) (with_key ks k js)
  unfolding onto
  turned-end z k u = go U.before U.whole U.follows
    where
      go : (before : List ℕ) → js ≡ onto before U.done → Follows nx i before → Follows nx (fs k) (with_key ks k js)
      go [] w f = rw w (U.chains k u)
      go (d ∷ ds) w f = let e = f.0 in let l = f.1 in absurd (omega arith)
