-- What the check is worth: five theorems about the jobs `resolve_job` and `check_job`, for all lists of numbers. The definitions that their
-- statements use are those of Jobs, Meaning, Reordering and Counting; their proofs are in the other modules.
use Rattle.std.specs.Prelude.{◌≡◌, ℕ, ◌≤◌, List, true, ◌↔◌, length}
use Rattle.std.proofs.Common.{ap}
use Rattle.answers.specs.Ask.{Trail}
use Rattle.answers.specs.Resolve.{Accepts}
use Rattle.rules.specs.Values.{Value, Answer, within_size}
use Rattle.rules.specs.Unresolved.{root_value}
use Rattle.rules.specs.Documents.{Setting, valid, inputs}
use Rattle.rules.specs.Meaning.{MeanTheSame}
use Rattle.rules.specs.Jobs.{Resolved, resolve_job, buffers_of, Verdict, yes, check_job, order_of}
use Rattle.rules.specs.Counting.{entries_in}
use Rattle.rules.specs.Reordering.{LaidOut, Reordering, InOrder}
use Rattle.theory.specs.Jobs.{approval-inv, approval-is, approval-yes}
use Rattle.theory.specs.BothJobs.{resolved-approval, approval-resolves, approval-means, same-at-256, same-in-longer}
use Rattle.theory.specs.Buffers.{buffers-sized}
use Rattle.theory.specs.Reordered.{one-sheet, approval-laid-out, approval-rules, rules-approval, reordering-in-order, reordering-approval}
use Rattle.theory.specs.Counts.{resolved-count}

-- ---- words

-- resolve succeeds: a refusal's number is never 0
abbrev pub Succeeds : Resolved → Type 0
Succeeds r = r.number ≡ 0

-- check says yes
abbrev pub Yes : Verdict → Type 0
Yes v = v.number ≡ 0

-- resolve with budget 256 and full-size buffers
abbrev pub resolve_in_full : (document environment : List ℕ) → Resolved
resolve_in_full document environment = resolve_job document environment 256 32768 32768 32768

-- ---- the five

-- "Accepted means resolvable, with the same meaning": where check says yes to a sheet, resolve succeeds, and its table with its text means
-- the same as the lent table with the lent text.
pub accepted-resolves : (document environment trail table text : List ℕ) → Yes (check_job document environment trail table text)
    → let r = resolve_in_full document environment in Succeeds r × MeanTheSame r.table r.text table text
accepted-resolves d e trail table text y =
    let lent = approval-inv d e trail table text y in
    (approval-resolves d e trail table text lent, approval-means d e trail table text lent)

-- "What resolution hands back is accepted": for every budget and every three buffer lengths, if resolve succeeds, check says yes to the three
-- parts that it hands back.
pub resolved-accepted : (document environment : List ℕ) (budget trail_length table_length text_length : ℕ)
    → let r = resolve_job document environment budget trail_length table_length text_length in
    Succeeds r → Yes (check_job document environment r.trail r.table r.text)
resolved-accepted d e budget l m n ok = approval-yes d e _ _ _ (resolved-approval d e budget l m n ok)

-- "So is every reordering": whole entries move, texts and offsets follow by the text rule. A reordering of a handed-back sheet is accepted if
-- each unresolved value stands after those that it needs, needs by the rules; and only then.
pub reordered-accepted : (document environment : List ℕ) (budget trail_length table_length text_length : ℕ)
    → let r = resolve_job document environment budget trail_length table_length text_length in
    Succeeds r → (trail table text : List ℕ) (p : Reordering r.trail r.table r.text trail table text)
    → InOrder document environment p.entries' ↔ Yes (check_job document environment trail table text)
reordered-accepted d e budget l m n ok trail table text p = (
  λ o. approval-yes d e trail table text (reordering-approval d e _ _ _ trail table text p (resolved-approval d e budget l m n ok) o),
  λ y. reordering-in-order d e _ _ _ trail table text p (approval-inv d e trail table text y),
)

-- The fourth of the five, "Refusal exactly", follows from the first two: `refused-exactly` of proofs/Demands.antt.

-- "Count": on success the count is the number of entries in the trail handed back, read off its bytes.
pub count-is : (document environment : List ℕ) (budget trail_length table_length text_length : ℕ)
    → let r = resolve_job document environment budget trail_length table_length text_length in
    Succeeds r → r.count ≡ entries_in r.trail r.text
count-is d e budget l m n ok = resolved-count d e budget l m n ok

-- ---- what check says yes to

-- "If neither the inputs nor the reading are refused, a sheet is accepted exactly if each blend has at most one entry, each entry is what the
-- rules give its blend with all needed blends taken from earlier entries, the table is the root's value with needed blends taken from the
-- trail, within its size, and the layout is exact." The first three of these are `Accepts`.
pub accepted-exactly : (document environment trail table text : List ℕ) (x : Setting) → inputs true document environment ≡ valid x
    → length trail ≤ 32768 → length table ≤ 32768 → length text ≤ 32768
    → Yes (check_job document environment trail table text)
    ↔ ((S : Trail Answer) × (v : Value) × Accepts (order_of x 32768 32768) (root_value x.document.root x.environment) S v
    × (within_size v ≡ true) × LaidOut S v trail table text)
accepted-exactly d e trail table text x read h k m = (
  λ y. approval-rules trail table text d e x read h k m (approval-inv d e trail table text y),
  λ p. approval-yes d e trail table text (rules-approval trail table text d e x read h k m p.0 p.1 p.2 p.3 p.4),
)

-- ---- that the words leave no choice

-- yes is number 0, and all else 0
pub yes-is : (document environment trail table text : List ℕ)
    → Yes (check_job document environment trail table text) ↔ (check_job document environment trail table text ≡ yes)
yes-is d e trail table text = (λ y. approval-is d e trail table text (approval-inv d e trail table text y), λ h. ap (λ v. v.number) h)

-- a sheet that check says yes to is that of some entries and a value
pub sheet-laid-out : (document environment trail table text : List ℕ) → Yes (check_job document environment trail table text)
    → (S : Trail Answer) × (v : Value) × LaidOut S v trail table text
sheet-laid-out d e trail table text y =
    (_, _, approval-laid-out trail table text d e (approval-inv d e trail table text y))

-- and of no others: the bytes of three parts that may be lent tell the entries and the value
pub sheet-determines : (trail table text : List ℕ) → length trail ≤ 32768 → length table ≤ 32768 → length text ≤ 32768
    → (S S' : Trail Answer) (v v' : Value) → LaidOut S v trail table text → LaidOut S' v' trail table text → (S ≡ S') × (v ≡ v')
sheet-determines trail table text h k m S S' v v' l l' = one-sheet trail table text S S' v v' h k m l l'

-- a budget that is enough gives what 256 gives
pub budget-enough : (document environment : List ℕ) (budget trail_length table_length text_length : ℕ)
    → Succeeds (resolve_job document environment budget trail_length table_length text_length)
    → resolve_job document environment 256 trail_length table_length text_length ≡ resolve_job document environment budget trail_length table_length text_length
budget-enough d e budget l m n ok = same-at-256 d e budget l m n ok

-- the bytes of the buffers that resolve leaves are as many as were lent: what it uses fits
pub buffers-keep-size : (document environment : List ℕ) (budget trail_length table_length text_length : ℕ)
    → let b = buffers_of trail_length table_length text_length (resolve_job document environment budget trail_length table_length text_length) in
    (length b.trail ≡ trail_length) × (length b.table ≡ table_length) × (length b.text ≡ text_length)
buffers-keep-size d e budget l m n = buffers-sized d e budget l m n

-- buffers of 32,768 bytes and more are all full-size
pub buffers-full : (document environment : List ℕ) (budget trail_length table_length text_length : ℕ)
    → 32768 ≤ trail_length → 32768 ≤ table_length → 32768 ≤ text_length
    → resolve_job document environment budget trail_length table_length text_length ≡ resolve_job document environment budget 32768 32768 32768
buffers-full d e budget l m n h k t = same-in-longer d e budget l m n h k t
