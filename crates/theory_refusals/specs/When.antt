-- When resolve gives 9 to 14, exactly: one statement for each number, of documents that are read. They speak of the moments that the order
-- of working out comes to (WorkingOrder) and of the pieces of the unresolved value that is being worked out there (Pieces).
-- That they are exact is shown in proofs/When.antt.
use Rattle.std.specs.Prelude.{◌≡◌, ℕ, ◌+◌, ◌≤◌, false, ◌⊎◌}
use Rattle.std.proofs.Math.Bool.{true}
use mathlib.Core.List.{List, [], ◌∷◌}
use Rattle.std.proofs.Math.Option.{some}
use Rattle.std.proofs.Math.ListN.{get_elem?}
use Rattle.answers.specs.Ask.{value, run, Trail, lookup, mem}
use Rattle.answers.specs.Resolve.{Rules}
use Rattle.rules.specs.Refusals.{Refusal, document_of, offset_of}
use Rattle.rules.specs.Values.{Value, Answer, within_size, record_size, text_size}
use Rattle.rules.specs.Unresolved.{Unresolved}
use Rattle.rules.specs.Documents.{Setting, rule_of, first_byte}
use Rattle.rules.specs.Sheet.{trail_size, trail_text_size}
use Rattle.rules.specs.Jobs.{room_of, order_of, Resolved}
use Rattle.theory.specs.Resolving.{root_of}
use Rattle.theory_refusals.specs.WorkingOrder as order
use Rattle.theory_refusals.specs.Pieces as pieces

-- a refusal's number and place: the job tells the place as its document and the offset in that
abbrev pub At : Resolved → (number place : ℕ) → Type 0
At r number place = (r.number ≡ number) × (r.document ≡ document_of place) × (r.place ≡ offset_of place)

module _ (x : Setting) (budget trail_length table_length text_length : ℕ) where
  abbrev rules : Rules Refusal Answer
  rules = order_of x (room_of trail_length) (room_of text_length)

  -- The order of working out comes to this moment: `stack` is being worked out, innermost first; S is the trail so far; n have begun.
  abbrev pub Comes : (stack : List ℕ) (S : Trail Answer) (n : ℕ) → Type 0
  Comes stack S n = order.Reached rules budget (root_of x) stack S n

  -- there, what is being worked out needs the unresolved value q next, which has no entry yet
  abbrev pub NeedsNext : (stack : List ℕ) (S : Trail Answer) (q : ℕ) → Type 0
  NeedsNext stack S q = order.Needs rules budget (root_of x) stack S q

  -- the root's value with needed answers taken from the trail, where nothing else is left to work out
  abbrev pub RootIs : (v : Value) (S : Trail Answer) (n : ℕ) → Type 0
  RootIs v S n = Comes [] S n × (run (lookup S) (root_of x) ≡ value v)

  -- the unresolved value u, of number b, is being worked out upon the trail S
  pub record Working (b : ℕ) (u : Unresolved) (S : Trail Answer) : Type 0 where
    pub outer : List ℕ
    pub begun : ℕ
    pub comes : Comes (b ∷ outer) S begun
    pub is : get_elem? x.document.unresolved b ≡ some u

  -- 9: "required substitution undefined", "its `$`"
  abbrev pub Undefined : ℕ → Type 0
  Undefined p =
      (b : ℕ) × (u : Unresolved) × (S : Trail Answer) × Working b u S
      × pieces.UndefinedAt x.document.root x.environment u.openness (lookup S) u.pieces p

  -- 10: "a blend is needed while being worked out", "first byte of that blend"
  abbrev pub Circular : ℕ → Type 0
  Circular p =
      (stack : List ℕ) × (S : Trail Answer) × (n : ℕ) × Comes stack S n
      × (q : ℕ) × NeedsNext stack S q × (mem q stack ≡ true) × (p ≡ first_byte x q)

  -- 11: "kinds mixed in one value", "first piece unlike the first defined one"
  abbrev pub Mixed : ℕ → Type 0
  Mixed p =
      (b : ℕ) × (u : Unresolved) × (S : Trail Answer) × Working b u S
      × pieces.MixedAt x.document.root x.environment u.openness (lookup S) u.pieces p

  -- 12: "one blend more than the budget would begin", "first byte of that blend": as many as the budget have begun
  abbrev pub Excess : ℕ → Type 0
  Excess p =
      (stack : List ℕ) × (S : Trail Answer) × (n : ℕ) × Comes stack S n
      × (q : ℕ) × NeedsNext stack S q × (mem q stack ≡ false) × (n ≡ budget) × (p ≡ first_byte x q)

  -- 13: "a value over its size": a piece's value or the join so far, or the table
  abbrev pub OverSize : Type 0
  OverSize =
      ((b : ℕ) × (u : Unresolved) × (S : Trail Answer) × Working b u S
      × pieces.OverSize x.document.root x.environment u.openness (lookup S) u.pieces)
      ⊎ ((v : Value) × (S : Trail Answer) × (n : ℕ) × RootIs v S n × (within_size v ≡ false))

  -- a trail, and a table behind it, that have room
  abbrev pub TrailFits : Trail Answer → Type 0
  TrailFits S = (trail_size S ≤ room_of trail_length) × (trail_text_size S ≤ room_of text_length)

  abbrev pub TableFits : Trail Answer → Value → Type 0
  TableFits S v = (record_size v ≤ room_of table_length) × (trail_text_size S + text_size v ≤ room_of text_length)

  -- 14: "trail entry, table or text does not fit its room"
  abbrev pub NoRoom : Type 0
  NoRoom =
      ((b : ℕ) × (u : Unresolved) × (S : Trail Answer) × Working b u S
      × (a : Answer) × (run (lookup S) (rule_of x b) ≡ value a) × (TrailFits ((b, a) ∷ S) → ⊥))
      ⊎ ((v : Value) × (S : Trail Answer) × (n : ℕ) × RootIs v S n × (within_size v ≡ true) × (TableFits S v → ⊥))
