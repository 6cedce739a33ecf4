-- Document 01, "The sheet": "A reordering moves whole entries of the trail; texts and text offsets follow by the text rule."
use Rattle.std.specs.Prelude.{◌≡◌, ℕ, ◌<◌, List, [], ◌∷◌, ◌++◌, map, true}
use Rattle.answers.specs.Ask.{refused, needs, Trail, lookup, mem}
use Rattle.rules.specs.Values.{Value, Answer}
use Rattle.rules.specs.Layers.{Work}
use Rattle.rules.specs.Documents.{Setting, Input, valid, refused, inputs, rule_of}
use Rattle.rules.specs.Sheet.{records, texts, trail_text_size, trail_records, trail_texts}

-- the numbers of a trail's entries
abbrev pub numbers_of : Trail Answer → List ℕ
numbers_of S = map (λ e. e.0) S

-- Three parts are the sheet of the entries S (the newest first) and of the root's value v: "The text part holds the texts of the trail's
-- records, then the table's, in order, nothing shared, each starting where the one before ends."
pub record LaidOut (S : Trail Answer) (v : Value) (trail table text : List ℕ) : Type 0 where
  pub trail_is : trail ≡ trail_records S
  pub table_is : table ≡ records (trail_text_size S) v
  pub text-is : text ≡ trail_texts S ++ texts v
  -- "9 entry: blend number 2": an entry's number fits its two bytes
  pub numbers_fit : (b : ℕ) → mem b (numbers_of S) ≡ true → b < 65536

-- the same things in another order
pub data Permuted {A : Type 0} : List A → List A → Type 0 where
  empty : Permuted [] []
  keep : {a : A} {l m : List A} → Permuted l m → Permuted (a ∷ l) (a ∷ m)
  swap : {a b : A} {l : List A} → Permuted (a ∷ b ∷ l) (b ∷ a ∷ l)
  next : {l m n : List A} → Permuted l m → Permuted m n → Permuted l n

-- The second sheet is a reordering of the first. What the entries and the root's value are, the first sheet's bytes tell
-- (`sheet-determines` in Demands of `theory`).
pub record Reordering (trail table text trail' table' text' : List ℕ) : Type 0 where
  pub entries : Trail Answer
  pub entries' : Trail Answer
  pub root : Value
  pub laid_out : LaidOut entries root trail table text
  pub laid-out' : LaidOut entries' root trail' table' text'
  pub moved : Permuted entries entries'

-- ---- "A blend, or the table, needs the blends whose answers the rules take in working it out."

-- the rules of the unresolved value of a number, where the inputs are not refused
abbrev pub rules_in : Input Setting → ℕ → Work Answer
rules_in (valid x) b = rule_of x b
rules_in (refused y) b = refused y

module _ (document environment : List ℕ) where
  -- the numbers that one needs, where answers are taken from S
  abbrev pub needs_of : Trail Answer → ℕ → List ℕ
  needs_of S b = needs (lookup S) (rules_in (inputs true document environment) b)

  -- each entry of T stands after those that it needs, where answers are taken from S
  abbrev pub AfterNeeds : Trail Answer → Trail Answer → Type 0
  AfterNeeds S [] = Unit {0}
  AfterNeeds S (e ∷ T) = ((b : ℕ) → mem b (needs_of S e.0) ≡ true → mem b (numbers_of T) ≡ true) × AfterNeeds S T

  -- each entry of a trail does
  abbrev pub InOrder : Trail Answer → Type 0
  InOrder S = AfterNeeds S S
