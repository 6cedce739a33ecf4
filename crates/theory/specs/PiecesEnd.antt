-- The parts of reading that count items: pieces and members. They go forward and never run out of fuel, if each piece or member goes forward.
use Rattle.std.specs.Prelude.{◌≡◌, refl, true, false, not, ◌||◌, List, ltb, length}
use Rattle.std.proofs.Common.{subst, ltb-true}
use Prim.Native.Nat.{ℕ, zero, suc, ◌+◌, ◌-◌, ◌≤◌, ◌<◌}
use Rattle.std.proofs.Math.Option.{Option, none, some}
use native.Mathlib.Omega.{arith}
use Rattle.std.proofs.Math.Dec.{eqb}
use Rattle.std.proofs.Math.Seq.{slice}
use Rattle.answers.specs.Theory.Sound.{clash}
use Rattle.rules.specs.Sizes.{max_nesting, max_items}
use Rattle.rules.specs.Bytes.{byte_at}
use Rattle.rules.specs.Refusals.{Refusal, Scan, Read, got, refused, read_then, keep_items}
use Rattle.rules.specs.Characters.{after_inline, gap_at, after_gap}
use Rattle.rules.specs.Pieces.{starts_simple}
use Rattle.rules.specs.Tree.{Pieces, no_pieces, node_piece, substituted}
use Rattle.rules.specs.Reading.{Start, simple_start, start_of, Part, node, substitution, with_part, count_item, pieces_from, has_substitution, unlike, kind_of, judge_value, the_end, after_closing, parted, members_from, members_at, opened}
use Rattle.theory_text.specs.Choices.{by-test, by-option}
use Rattle.theory_text.specs.Places.{byte_past, inside, byte_inside, inline-reached, gap-reached}
use Rattle.theory.specs.Scanning.{Numbered, Scans, oks, scan-refuses, From, to, simple-inside}

-- what is read has Q, or is refused by a number of reading
pub data Reads {A : Type 0} (Q : A → ℕ → Type 0) : Read A → Type 0 where
  gots : {a : A} {end items : ℕ} → Q a end → Reads Q (got a end items)
  read-refuses : {x : Refusal} → Numbered x → Reads Q (refused x)

pub read-refused : {A : Type 0} {Q : A → ℕ → Type 0} {x : Refusal} → Reads Q (refused x) → Numbered x
read-refused (read-refuses h) = h

pub at-end : {A : Type 0} {Q : A → ℕ → Type 0} {a : A} {end items : ℕ} → Q a end → Reads Q (got a end items)
at-end h = gots h

pub then-reads : {A B : Type 0} {P : A → ℕ → Type 0} {Q : B → ℕ → Type 0} {m : Read A} {k : A → ℕ → ℕ → Read B}
    → Reads P m → ((a : A) (end items : ℕ) → P a end → Reads Q (k a end items)) → Reads Q (read_then m k)
then-reads (gots h) f = f _ _ _ h
then-reads (read-refuses h) f = read-refuses h

pub reads-map : {A : Type 0} {P Q : A → ℕ → Type 0} {m : Read A} → ((a : A) (end : ℕ) → P a end → Q a end) → Reads P m → Reads Q m
reads-map f (gots h) = gots (f _ _ h)
reads-map f (read-refuses h) = read-refuses h

pub counting-reads : {A : Type 0} {Q : A → ℕ → Type 0} {m : Scan A} (items : ℕ) → Scans Q m → Reads Q (keep_items items m)
counting-reads items (oks h) = gots h
counting-reads items (scan-refuses h) = read-refuses h

module _ {A : Type 0} {Q : A → ℕ → Type 0} (n at : ℕ) (k : ℕ → Read A) where
  pub counted-reads : ((items : ℕ) → Reads Q (k items)) → Reads Q (count_item n at k)
  unfolding count_item
  counted-reads h = by-test (Reads Q) (ltb n max_items) (λ e. h (n + 1)) (λ e. read-refuses refl)

  pub opened-reads : (n < max_nesting → Reads Q (k (n + 1))) → Reads Q (opened n at k)
  unfolding opened
  opened-reads h = by-test (Reads Q) (ltb n max_nesting) (λ e. h (ltb-true n max_nesting e)) (λ e. read-refuses refl)

-- ---- pieces

abbrev pub Some : Pieces → Type 0
Some no_pieces = ⊥
Some (node_piece place gap n ps) = Unit {0}
Some (substituted gap x ps) = Unit {0}

with-some : (place : ℕ) (gap : List ℕ) (p : Part) (ps : Pieces) → Some (with_part place gap p ps)
with-some place gap (node n) ps = tt
with-some place gap (substitution x) ps = tt

module _ (s : List ℕ) where
  -- what a start says of the text
  abbrev pub Begun : ℕ → Option Start → Type 0
  Begun at none = Unit {0}
  Begun at (some start) = (at < length s) × (start ≡ simple_start → starts_simple s at ≡ true)

  starts : (at : ℕ) → Begun at (start_of s at)
  unfolding start_of
  starts at =
      by-test (Begun at) (eqb (byte_at s at) 123) (λ e. (byte_inside s at 123 (omega arith) e, λ f. clash (cc))) (λ e.
      by-test (Begun at) (eqb (byte_at s at) 91) (λ f. (byte_inside s at 91 (omega arith) f, λ g. clash (cc))) (λ f.
      by-test (Begun at) (eqb (byte_at s at) 36)
      (λ g. by-test (Begun at) (eqb (byte_at s (at + 1)) 123) (λ h. (byte_inside s at 36 (omega arith) g, λ k. clash (cc))) (λ h. tt))
      (λ g. by-test (Begun at) (starts_simple s at) (λ h. (simple-inside s at h, λ k. h)) (λ h. tt))))

  pub begun : (at : ℕ) (start : Start) → start_of s at ≡ some start → Begun at (some start)
  begun at start e = subst (Begun at) e (starts at)

  -- pieces: at least one where one begins
  abbrev pub Moved : ℕ → Pieces → ℕ → Type 0
  Moved at ps end = (at ≤ end) × ((start : Start) → start_of s at ≡ some start → Some ps × (at < end))

  module _ (piece_at : Start → ℕ → ℕ → Read Part)
      (piece : (start : Start) (at items : ℕ) → start_of s at ≡ some start → Reads (From (suc at)) (piece_at start at items)) where
    -- a piece and what follows it
    abbrev more : ℕ → ℕ → ℕ → Start → ℕ → Read Pieces
    more n from at start items =
        read_then (piece_at start at items) (λ part end items₁.
        read_then (pieces_from n piece_at s end (after_inline s end) items₁) (λ ps after items₂.
        got (with_part at (slice from at s) part ps) after items₂))

    pub pieces-read : (n from at items : ℕ) → length s - at < n → Reads (Moved at) (pieces_from n piece_at s from at items)
    unfolding pieces_from
    pieces-read zero from at items h = absurd (omega arith)
    pieces-read (suc n) from at items h =
        by-option (Reads (Moved at)) (start_of s at) (λ b. at-end (omega arith, λ start c. clash (cc))) (λ start b.
        counted-reads items at (more n from at start) (λ items₁.
        then-reads (piece start at items₁ b) (λ part end items₂ k.
        let i = (begun at start b).0 in
        let l = (inline-reached s end).0 in
        then-reads (pieces-read n end (after_inline s end) items₂ (omega arith)) (λ ps after items₃ m.
        at-end (omega arith, λ start₁ c. (with-some _ _ part ps, omega arith))))))

pub judge-reads : {at : ℕ} (ps : Pieces) (end items : ℕ) → Some ps → at ≤ end → Reads (From at) (judge_value ps end items)
unfolding judge_value
judge-reads no_pieces end items h k = absurd h
judge-reads (substituted gap x ps) end items h k = at-end k
judge-reads {at} (node_piece place gap n ps) end items h k =
    by-test (Reads (From at)) (has_substitution ps) (λ e. at-end k) (λ e.
    by-option (Reads (From at)) (unlike (kind_of n) ps) (λ f. at-end k) (λ other f. read-refuses refl))

-- ---- members

module _ (s : List ℕ) where
  pub byte-there : (at : ℕ) → eqb (byte_at s at) the_end ≡ false → at < length s
  byte-there at e = inside s at {t = not (eqb (byte_at s at) the_end)} (λ past. rw (byte_past s at past)) (rw e)

  pub closing-forward : (closing at : ℕ) → at ≤ after_closing closing at
  unfolding after_closing
  closing-forward closing at = by-test (λ r. at ≤ r) (eqb closing the_end) (λ e. omega arith) (λ e. omega arith)

  pub parted-scans : (closing at : ℕ) → Scans (From at) (parted closing s at)
  unfolding parted
  parted-scans closing at =
      let p = after_gap s at in
      let h = (gap-reached s at).forward in
      by-test (Scans (From at)) (eqb (byte_at s p) 44)
      (λ e. to (omega (arith, (gap-reached s (p + 1)).forward)))
      (λ e. by-test (Scans (From at)) (eqb (byte_at s p) the_end || eqb (byte_at s p) closing || (gap_at s at).newline) (λ f. to h) (λ f. scan-refuses refl))

  module _ {A : Type 0} (closing : ℕ) (member_at : ℕ → ℕ → Read A) (member : (at items : ℕ) → Reads (From (suc at)) (member_at at items)) where
    members-read : (n at items : ℕ) → length s - at < n → Reads (From at) (members_from n closing member_at s at items)
    unfolding members_from
    members-read zero at items h = absurd (omega arith)
    members-read (suc n) at items h =
        by-test (Reads (From at)) (eqb (byte_at s at) closing) (λ e. at-end (closing-forward closing at)) (λ e.
        by-test (Reads (From at)) (eqb (byte_at s at) the_end) (λ f. read-refuses refl) (λ f.
        let i = byte-there at f in
        then-reads (member at items) (λ m end items₁ k.
        then-reads (counting-reads items₁ (parted-scans closing end)) (λ comma after items₂ l.
        then-reads (members-read n after items₂ (omega arith)) (λ ms last items₃ o. at-end (omega arith))))))

    pub members-reads : (at items : ℕ) → Reads (From at) (members_at closing member_at s at items)
    unfolding members_at
    members-reads at items =
        reads-map (λ a end h. omega (arith, (gap-reached s at).forward)) (members-read (suc (length s)) (after_gap s at) items (omega arith))
