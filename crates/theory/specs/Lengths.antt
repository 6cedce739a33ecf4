-- A text that is read is no longer than what is written, and the parts of a path stand one behind the other: so the texts of a path fit the
-- bytes it was read from, and the places of its elements rise.
use Rattle.std.specs.Prelude.{◌≡◌, refl, Bool, true, false, ◌&&◌, ◌||◌, List, [], ◌∷◌, ◌++◌, leb, ltb, take}
use Prim.Native.Nat.{ℕ, zero, suc, ◌+◌, ◌-◌, ◌*◌, ◌≤◌, ◌<◌}
use native.Mathlib.Omega.{arith}
use Rattle.std.proofs.Math.Dec.{eqb}
use Rattle.std.proofs.Math.ListN.{length}
use Rattle.std.proofs.Common.{length-append, length-take, length-drop}
use Rattle.std.proofs.Math.Seq.{slice}
use borrow.Author.Tests.{leb-false}
use Rattle.answers.specs.Theory.Sound.{clash}
use Rattle.rules.specs.Bytes.{Text, byte_at}
use Rattle.rules.specs.Refusals.{Refusal, Scan, ok, refused, and_then}
use Rattle.rules.specs.Utf8.{encoded}
use Rattle.rules.specs.Characters.{next_place, after_inline}
use Rattle.rules.specs.Numbers.{is_digit, after_number}
use Rattle.rules.specs.Strings.{hex_digit, hex_from, expect, is_high, is_low, paired, mate_of, unicode_escape, letter_escape, escape_at, prepend, body_from, three_quotes, quotes_run, after_quotes, triple_at, quoted_at}
use Rattle.rules.specs.Pieces.{Token, starts_simple, word_true, word_false, word_null, starts_with, unquoted_at, number_at, simple_at, scalar_text}
use Rattle.rules.specs.Paths.{Segment, segment_of, gap_segment, segments_from, segments_at, Element, fresh, grown, split_text, split_from, elements_of, sizes}
use Rattle.theory_text.specs.Choices.{by-test, by-option}
use Rattle.theory_text.specs.Places.{next-forward, run-reached, quotes-reached, inline-reached}
use Rattle.theory.specs.Scanning.{Scans, oks, simple-scans}
use Rattle.theory.specs.Layout.{same-eq}

-- what is read, if anything is, has Q
pub data IfRead {A : Type 0} (Q : A → ℕ → Type 0) : Scan A → Type 0 where
  read : {a : A} {end : ℕ} → Q a end → IfRead Q (ok a end)
  unread : {x : Refusal} → IfRead Q (refused x)

pub ends : {A : Type 0} {Q : A → ℕ → Type 0} {a : A} {end : ℕ} → Q a end → IfRead Q (ok a end)
ends h = read h

pub of-read : {A : Type 0} {Q : A → ℕ → Type 0} {a : A} {end : ℕ} → IfRead Q (ok a end) → Q a end
of-read (read h) = h

pub then-read : {A B : Type 0} {P : A → ℕ → Type 0} {Q : B → ℕ → Type 0} {m : Scan A} {k : A → ℕ → Scan B}
    → IfRead P m → ((a : A) (end : ℕ) → P a end → IfRead Q (k a end)) → IfRead Q (and_then m k)
then-read (read h) f = f _ _ h
then-read unread f = unread

pub read-map : {A : Type 0} {P Q : A → ℕ → Type 0} {m : Scan A} → ((a : A) (end : ℕ) → P a end → Q a end) → IfRead P m → IfRead Q m
read-map f (read h) = read (f _ _ h)
read-map f unread = unread

-- ---- simple pieces

pub slice-short : {A : Type 0} (from to : ℕ) (l : List A) → length (slice from to l) ≤ to - from
slice-short from to l = omega (arith, length-drop from (take to l), length-take to l)

-- a text read from a place on is no longer than what is written
abbrev pub Short : ℕ → Text → ℕ → Type 0
Short at t end = length t + at ≤ end

-- the bytes of one code point
record Few (t : Text) : Type 0 where
  pub few : length t ≤ 4

encoded-few : (c : ℕ) → Few (encoded c)
unfolding encoded
encoded-few c =
    by-test Few (ltb c 128) (λ e. record { few = omega arith }) (λ e.
    by-test Few (ltb c 2048) (λ e. record { few = omega arith }) (λ e.
    by-test Few (ltb c 65536) (λ e. record { few = omega arith }) (λ e. record { few = omega arith })))

module _ (s : List ℕ) where
  -- so many bytes are read at least
  abbrev Takes : ℕ → ℕ → ℕ → ℕ → Type 0
  Takes n at v end = at + n ≤ end

  hex-takes : (n first so_far at : ℕ) → IfRead (Takes n at) (hex_from n s first so_far at)
  unfolding hex_from
  hex-takes zero first so_far at = ends (omega arith)
  hex-takes (suc n) first so_far at =
      by-test (IfRead (Takes (suc n) at)) (leb (length s) at) (λ e. unread) (λ e.
      by-option (IfRead (Takes (suc n) at)) (hex_digit (byte_at s at)) (λ f. unread) (λ d f.
      read-map (λ v end h. omega arith) (hex-takes n first (so_far * 16 + d) (at + 1))))

  expect-takes : (b first at : ℕ) → IfRead (Takes 1 at) (expect b s first at)
  unfolding expect
  expect-takes b first at =
      by-test (IfRead (Takes 1 at)) (leb (length s) at) (λ e. unread) (λ e.
      by-test (IfRead (Takes 1 at)) (eqb (byte_at s at) b) (λ f. ends (omega arith)) (λ f. unread))

  mate-short : (first high at : ℕ) → IfRead (Short at) (mate_of s first high at)
  unfolding mate_of
  mate-short first high at =
      then-read (expect-takes 92 first at) (λ b p h.
      then-read (expect-takes 117 first p) (λ c q k.
      then-read (hex-takes 4 first 0 q) (λ low end l.
      by-test (IfRead (Short at)) (is_low low) (λ e. ends (omega (arith, (encoded-few (paired high low)).few))) (λ e. unread))))

  unicode-short : (first at : ℕ) → IfRead (Short at) (unicode_escape s first at)
  unfolding unicode_escape
  unicode-short first at =
      then-read (hex-takes 4 first 0 at) (λ unit p h.
      by-test (IfRead (Short at)) (is_low unit) (λ e. unread) (λ e.
      by-test (IfRead (Short at)) (is_high unit)
      (λ f. read-map (λ t end k. omega arith) (mate-short first unit p)) (λ f. ends (omega (arith, (encoded-few unit).few)))))

  escape-short : (at : ℕ) → IfRead (Short at) (escape_at s at)
  unfolding escape_at
  escape-short at =
      by-test (IfRead (Short at)) (leb (length s) (at + 1)) (λ e. unread) (λ e.
      by-option (IfRead (Short at)) (letter_escape (byte_at s (at + 1)))
      (λ f. by-test (IfRead (Short at)) (eqb (byte_at s (at + 1)) 117)
      (λ g. read-map (λ t end k. omega arith) (unicode-short at (at + 2))) (λ g. unread))
      (λ b f. ends (omega arith)))

  prepend-short : (at p : ℕ) (t : Text) {m : Scan Text} → length t + at ≤ p → IfRead (Short p) m → IfRead (Short at) (prepend t m)
  prepend-short at p t h (read {a} k) = ends (omega (arith, length-append t a))
  prepend-short at p t h unread = unread

  body-short : (n at : ℕ) → IfRead (Short at) (body_from n s at)
  unfolding body_from
  body-short zero at = unread
  body-short (suc n) at =
      by-test (IfRead (Short at)) (leb (length s) at) (λ e. unread) (λ e.
      let i = leb-false (length s) at e in
      by-test (IfRead (Short at)) (eqb (byte_at s at) 34) (λ f. ends (omega arith)) (λ f.
      by-test (IfRead (Short at)) (ltb (byte_at s at) 32) (λ g. unread) (λ g.
      by-test (IfRead (Short at)) (eqb (byte_at s at) 92)
      (λ k. then-read (escape-short at) (λ t p l. prepend-short at p t l (body-short n p)))
      (λ k. let p = next_place s at in
      prepend-short at p (slice at p s) (omega (arith, slice-short at p s, next-forward s at i)) (body-short n p)))))

  triple-short : (at : ℕ) → IfRead (Short at) (triple_at s at)
  unfolding triple_at
  triple-short at =
      let run = quotes_run s (at + 3) in
      let end = after_quotes s run in
      by-test (IfRead (Short at)) (ltb run (length s))
      (λ e. ends (omega (arith, slice-short (at + 3) (end - 3) s, (run-reached s (at + 3)).0, (quotes-reached s run).0))) (λ e. unread)

  quoted-short : (at : ℕ) → IfRead (Short at) (quoted_at s at)
  unfolding quoted_at
  quoted-short at =
      by-test (IfRead (Short at)) (three_quotes s at)
      (λ e. triple-short at) (λ e. read-map (λ t end h. omega arith) (body-short (suc (length s)) (at + 1)))

  -- in quotes a piece's text is no longer than what is written, outside it is what is written
  abbrev Written : ℕ → Token → ℕ → Type 0
  Written at t end =
      (t.in_quotes ≡ true → Short at (scalar_text t.scalar) end) × (t.in_quotes ≡ false → scalar_text t.scalar ≡ slice at end s)

  word-written : (word : Text) (at : ℕ) → starts_with word s at ≡ true → word ≡ slice at (at + length word) s
  unfolding starts_with
  word-written word at e = cc (same-eq (slice at (at + length word) s) word e)

  unquoted-written : (at : ℕ) → IfRead (Written at) (unquoted_at s at)
  unfolding unquoted_at scalar_text
  unquoted-written at =
      by-test (IfRead (Written at)) (starts_with word_true s at) (λ e. ends (λ q. clash (cc), λ q. word-written word_true at e)) (λ e.
      by-test (IfRead (Written at)) (starts_with word_false s at) (λ f. ends (λ q. clash (cc), λ q. word-written word_false at f)) (λ f.
      by-test (IfRead (Written at)) (starts_with word_null s at) (λ g. ends (λ q. clash (cc), λ q. word-written word_null at g)) (λ g.
      ends (λ q. clash (cc), λ q. refl))))

  number-written : (at : ℕ) → IfRead (Written at) (number_at s at)
  unfolding number_at scalar_text
  number-written at = by-option (IfRead (Written at)) (after_number s at) (λ e. unread) (λ end e. ends (λ q. clash (cc), λ q. refl))

  simple-written : (at : ℕ) → IfRead (Written at) (simple_at s at)
  unfolding simple_at scalar_text
  simple-written at =
      by-test (IfRead (Written at)) (eqb (byte_at s at) 34)
      (λ e. then-read (quoted-short at) (λ t end h. ends (λ q. h, λ q. clash (cc))))
      (λ e. by-test (IfRead (Written at)) (is_digit (byte_at s at) || eqb (byte_at s at) 45) (λ f. number-written at) (λ f. unquoted-written at))

of-ok : {A : Type 0} {Q : A → ℕ → Type 0} {a : A} {end : ℕ} → Scans Q (ok a end) → Q a end
of-ok (oks h) = h

pub simple-forward : (s : List ℕ) (at : ℕ) (t : Token) (end : ℕ) → starts_simple s at ≡ true → simple_at s at ≡ ok t end → at < end
simple-forward s at t end h e = of-ok (rw e at (simple-scans s at h))

-- outside quotes a piece's text is what is written
pub simple-bare : (s : List ℕ) (at : ℕ) (t : Token) (end : ℕ) → simple_at s at ≡ ok t end → t.in_quotes ≡ false
    → scalar_text t.scalar ≡ slice at end s
simple-bare s at t end e q = (of-read (rw e at (simple-written s at))).1 q

pub simple-short : (s : List ℕ) (at : ℕ) (t : Token) (end : ℕ) → starts_simple s at ≡ true → simple_at s at ≡ ok t end
    → length (scalar_text t.scalar) + at ≤ end
simple-short s at t end h e = go t.in_quotes refl
  where
    go : (q : Bool) → t.in_quotes ≡ q → length (scalar_text t.scalar) + at ≤ end
    go true q = (of-read (rw e at (simple-written s at))).0 q
    go false q = rw (simple-bare s at t end e q) (omega (arith, slice-short at end s, simple-forward s at t end h e))

simple-read : (s : List ℕ) (at : ℕ) → starts_simple s at ≡ true
    → IfRead (λ t end. length (scalar_text t.scalar) + at ≤ end) (simple_at s at)
simple-read s at h = go (simple_at s at) refl
  where
    go : (m : Scan Token) → simple_at s at ≡ m → IfRead (λ t end. length (scalar_text t.scalar) + at ≤ end) m
    go (ok t end) e = ends (simple-short s at t end h e)
    go (refused x) e = unread

-- ---- segments

-- the segments stand one behind the other, from a place on up to an end
abbrev pub InTurn : ℕ → ℕ → List Segment → Type 0
InTurn from end [] = from ≤ end
InTurn from end (g ∷ gs) = (from ≤ g.place) × InTurn (g.place + length g.text) end gs

turn-from : (p q end : ℕ) (gs : List Segment) → p ≤ q → InTurn q end gs → InTurn p end gs
turn-from p q end [] h k = omega arith
turn-from p q end (g ∷ gs) h k = (omega (arith, k.0), k.1)

turn-forward : (from end : ℕ) (gs : List Segment) → InTurn from end gs → from ≤ end
turn-forward from end [] k = k
turn-forward from end (g ∷ gs) k = omega (arith, k.0, turn-forward (g.place + length g.text) end gs k.1)

module _ (s : List ℕ) where
  gap-turn : (from at end : ℕ) (gs : List Segment) → from ≤ at → InTurn at end gs → InTurn from end (gap_segment s from at ++ gs)
  unfolding gap_segment
  gap-turn from at end gs h k =
      by-test (λ xs. InTurn from end (xs ++ gs)) (ltb from at)
      (λ e. (omega arith, turn-from (from + length (slice from at s)) at end gs (omega (arith, slice-short from at s)) k))
      (λ e. turn-from from at end gs h k)

  module _ (key : Bool) where
    abbrev Turns : ℕ → List Segment → ℕ → Type 0
    Turns from gs end = InTurn from end gs

    segments-turn : (n from at : ℕ) → from ≤ at → IfRead (Turns from) (segments_from n key s from at)
    unfolding segments_from segment_of
    segments-turn zero from at h = unread
    segments-turn (suc n) from at h =
        by-test (IfRead (Turns from)) (key && eqb (byte_at s at) 36) (λ e. unread) (λ e.
        by-test (IfRead (Turns from)) (starts_simple s at)
        (λ f. then-read (simple-read s at f) (λ t end l.
        then-read (segments-turn n end (after_inline s end) (inline-reached s end).0) (λ rest after m.
        ends (gap-turn from at after (segment_of at t ∷ rest) h
        (omega arith, turn-from (at + length (scalar_text t.scalar)) end after rest (omega arith) m)))))
        (λ f. ends h))

    pub segments-in-turn : (at : ℕ) (gs : List Segment) (end : ℕ) → segments_at key s at ≡ ok gs end → InTurn at end gs
    unfolding segments_at
    segments-in-turn at gs end e = of-read (rw e at (segments-turn (suc (length s)) at at (omega arith)))

-- the length of all texts
unfoldable pub total : List Segment → ℕ
total [] = 0
total (g ∷ gs) = length g.text + total gs

turn-total : (from end : ℕ) (gs : List Segment) → InTurn from end gs → total gs + from ≤ end
unfolding total
turn-total from end [] h = omega arith
turn-total from end (g ∷ gs) h = omega (arith, h.0, turn-total (g.place + length g.text) end gs h.1)

pub segments-short : (s : List ℕ) (key : Bool) (at : ℕ) (gs : List Segment) (end : ℕ) → segments_at key s at ≡ ok gs end
    → total gs + at ≤ end
segments-short s key at gs end e = turn-total at end gs (segments-in-turn s key at gs end e)

-- ---- elements

-- the texts of elements and their dots: no longer than a number
record Sized (n : ℕ) (es : List Element) : Type 0 where
  pub sized : sizes es + length es ≤ n

text-sized : (n m : ℕ) (e : Element) (at : ℕ) (t : Text) (k : Element → List Element)
    → ((x : Element) → Sized (length x.text + n) (k x)) → length e.text + length t + n ≤ m → Sized m (split_text e at t k)
unfolding split_text sizes
text-sized n m e at [] k f h = record { sized = omega (arith, (f e).sized) }
text-sized n m e at (b ∷ bs) k f h =
    by-test (Sized m) (eqb b 46)
    (λ q. record { sized = omega (arith, (text-sized n (length bs + n) (fresh (at + 1)) (at + 1) bs k f (omega arith)).sized) })
    (λ q. text-sized n m (grown e (b ∷ []) false) (at + 1) bs k f (omega (arith, length-append e.text (b ∷ []))))

split-sized : (m : ℕ) (e : Element) (gs : List Segment) → length e.text + total gs + 1 ≤ m → Sized m (split_from e gs)
unfolding split_from sizes total
split-sized m e [] h = record { sized = omega arith }
split-sized m e (g ∷ gs) h =
    by-test (Sized m) g.in_quotes
    (λ q. split-sized m (grown e g.text true) gs (omega (arith, length-append e.text g.text)))
    (λ q. text-sized (total gs + 1) m e g.place g.text (λ x. split_from x gs) (λ x. split-sized (length x.text + (total gs + 1)) x gs (omega arith)) (omega arith))

pub elements-short : (gs : List Segment) → sizes (elements_of gs) + length (elements_of gs) ≤ total gs + 1
unfolding elements_of sizes total
elements-short [] = omega arith
elements-short (g ∷ gs) = (split-sized (total (g ∷ gs) + 1) (fresh g.place) (g ∷ gs) (omega arith)).sized

-- ---- where elements stand

-- all from a place on, and none behind the end
abbrev pub Within : ℕ → ℕ → List Element → Type 0
Within at end [] = Unit {0}
Within at end (e ∷ es) = (at ≤ e.place) × (e.place ≤ end) × Within at end es

-- each behind the one before
abbrev pub Rise : ℕ → ℕ → List Element → Type 0
Rise at end [] = Unit {0}
Rise at end (e ∷ es) = (at ≤ e.place) × (e.place ≤ end) × Rise (suc e.place) end es

pub rise-within : (at from end : ℕ) (es : List Element) → at ≤ from → Rise from end es → Within at end es
rise-within at from end [] h r = tt
rise-within at from end (e ∷ es) h r =
    (omega (arith, r.0), r.1, rise-within at (suc e.place) end es (omega (arith, r.0)) r.2)

-- the same as a record, which names its list
record Risen (from end : ℕ) (es : List Element) : Type 0 where
  pub rise : Rise from end es

text-rises : (last end from : ℕ) (e : Element) (at : ℕ) (t : Text) (k : Element → List Element)
    → ((p : ℕ) (x : Element) → p ≤ x.place → x.place ≤ last → Risen p end (k x))
    → from ≤ e.place → e.place ≤ at → at + length t ≤ last → last ≤ end → Risen from end (split_text e at t k)
unfolding split_text
text-rises last end from e at [] k f h l m o = f from e h (omega arith)
text-rises last end from e at (b ∷ bs) k f h l m o =
    by-test (Risen from end) (eqb b 46)
    (λ q. record {
      rise = (
        h,
        omega arith,
        (text-rises last end (suc e.place) (fresh (at + 1)) (at + 1) bs k f (omega arith) (omega arith) (omega arith) o).rise,
      );
    })
    (λ q. text-rises last end from (grown e (b ∷ []) false) (at + 1) bs k f h (omega arith) (omega arith) o)

split-rises : (end from at : ℕ) (e : Element) (gs : List Segment) → from ≤ e.place → e.place ≤ at → InTurn at end gs
    → Risen from end (split_from e gs)
unfolding split_from
split-rises end from at e [] h l k = record { rise = (h, omega arith, tt) }
split-rises end from at e (g ∷ gs) h l k =
    let after = g.place + length g.text in
    let i : at ≤ g.place = k.0 in
    by-test (Risen from end) g.in_quotes
    (λ q. split-rises end from after (grown e g.text true) gs h (omega arith) k.1)
    (λ q. text-rises after end from e g.place g.text (λ x. split_from x gs) (λ p x u v. split-rises end p after x gs u v k.1)
    h (omega arith) (omega arith) (turn-forward after end gs k.1))

pub elements-rise : (s : List ℕ) (key : Bool) (at : ℕ) (gs : List Segment) (end : ℕ) → segments_at key s at ≡ ok gs end
    → Rise at end (elements_of gs)
unfolding elements_of
elements-rise s key at gs end e = go gs (segments-in-turn s key at gs end e)
  where
    go : (gs : List Segment) → InTurn at end gs → Rise at end (elements_of gs)
    go [] k = tt
    go (g ∷ gs) k = (split-rises end at g.place (fresh g.place) (g ∷ gs) k.0 (omega arith) (omega arith, k.1)).rise

pub elements-within : (s : List ℕ) (key : Bool) (at : ℕ) (gs : List Segment) (end : ℕ) → segments_at key s at ≡ ok gs end
    → Within at end (elements_of gs)
elements-within s key at gs end e = rise-within at at end (elements_of gs) (omega arith) (elements-rise s key at gs end e)
