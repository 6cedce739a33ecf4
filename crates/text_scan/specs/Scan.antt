-- What the functions on whitespace, comments and gaps promise, by the rules' definitions.
use Rattle.std.specs.Prelude.{◌≡◌, ℕ, ◌+◌, ◌≤◌, ◌<◌, Bool, true, List, length, Option, Some, None}
use Rattle.rules.specs.Bytes.{byte_at}
use Rattle.rules.specs.Characters as ch
use Rattle.text_chars.specs.declared.Cursor.{Cursor}
use Rattle.text_chars.specs.declared.Step.{Step}
use Rattle.text_scan.specs.declared.Gap.{Gap}

-- the character at a place and the place after it
pub record SeenIs (s : List ℕ) (at : ℕ) (r : Step) : Type 0 where
  pub is : r.ch ≡ ch.character_at s at
  pub next : r.next.at.0 ≡ ch.next_place s at
  pub forward : at ≤ r.next.at.0
  pub inside : r.next.at.0 ≤ length s

-- a cursor at a place, which is not before another and not past the end
pub record EndIs (s : List ℕ) (at place : ℕ) (r : Cursor) : Type 0 where
  pub is : r.at.0 ≡ place
  pub forward : at ≤ r.at.0
  pub inside : r.at.0 ≤ length s

-- ---- comments

abbrev pub block_size : ℕ
block_size = 32

-- an ASCII byte of a comment
pub record LineByte (b : ℕ) : Type 0 where
  pub ascii : b < 128
  pub other : b ≡ 10 → ⊥

-- so many bytes from a place on are of a comment
abbrev pub AllLine : (s : List ℕ) (at n : ℕ) → Type 0
AllLine s at n = (i : ℕ) → i < n → LineByte (byte_at s (at + i))

pub record BlockIs (s : List ℕ) (at : ℕ) (r : Bool) : Type 0 where
  pub fits : r ≡ true → at + block_size ≤ length s
  pub all : r ≡ true → AllLine s at block_size

-- ---- gaps

-- a gap that has come to one place goes on as from the other
pub record BlanksIs (s : List ℕ) (at : ℕ) (r : Cursor) : Type 0 where
  pub still : (newline : Bool) → ch.gap_from (length s) s at newline ≡ ch.gap_from (length s) s r.at.0 newline
  pub forward : at ≤ r.at.0
  pub inside : r.at.0 ≤ length s

-- the whole gap, from where it has come to
abbrev pub rest : List ℕ → Gap → ch.Gap
rest s g = ch.gap_from (length s) s g.next.at.0 g.newline

-- a gap goes on from where it has come to, or ends there
abbrev pub Passes : List ℕ → Gap → Option Gap → Type 0
Passes s g (Some h) = (rest s g ≡ rest s h) × (g.next.at.0 < h.next.at.0) × (h.next.at.0 ≤ length s)
Passes s g None = rest s g ≡ record { place = g.next.at.0; newline = g.newline }

pub record PassedIs (s : List ℕ) (g : Gap) (r : Option Gap) : Type 0 where
  pub is : Passes s g r

pub record GapIs (s : List ℕ) (at : ℕ) (r : Gap) : Type 0 where
  pub is : r.next.at.0 ≡ (ch.gap_at s at).place
  pub newline : r.newline ≡ (ch.gap_at s at).newline
  pub forward : at ≤ r.next.at.0
  pub inside : r.next.at.0 ≤ length s
