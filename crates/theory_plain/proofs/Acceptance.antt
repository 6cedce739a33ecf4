-- What the check accepts is what document 01's sentence says, part by part.
use Rattle.std.specs.Prelude.{◌≡◌, ℕ, ◌+◌, ◌-◌, ◌≤◌, List, [], ◌∷◌, true, ◌↔◌, length}
use Rattle.std.proofs.Common.{sym, ap, ◌∙◌, append-nil, arith}
use Rattle.std.proofs.Math.Option.{some}
use Rattle.answers.specs.Ask.{run, Trail, lookup, Once}
use Rattle.answers.specs.Resolve.{Laid}
use Rattle.rules.specs.Values.{Answer}
use Rattle.rules.specs.Documents.{Setting, count_of}
use Rattle.rules.specs.Sheet.{trail_size, trail_records}
use Rattle.rules.specs.Checking.{entries_from, accepted}
use Rattle.rules.specs.Jobs.{order_of}
use Rattle.theory.specs.Layout.{Numbered, length-trail_records, length-trail}
use Rattle.theory.specs.Entries.{order-rule, entries-end, entries-laid, entries-of}
use Rattle.theory.specs.Accepted.{accepted-iff}
use Rattle.theory_plain.specs.Acceptance.{ByRules, Sheet}

module _ (x : Setting) where
  -- the rules of any room are the document's
  laid-apart : (S : Trail Answer) → Laid (order_of x 0 0) S → Once S × ByRules x S
  laid-apart [] l = (tt, tt)
  laid-apart (e ∷ S) l =
      let (once, ruled) = laid-apart S l.2 in
      ((l.0, once), (ap (run (lookup S)) (sym (order-rule x 0 0 e.0)) ∙ l.1, ruled))

  laid-together : (S : Trail Answer) → Once S → ByRules x S → Laid (order_of x 0 0) S
  laid-together [] o r = tt
  laid-together (e ∷ S) o r = (o.0, ap (run (lookup S)) (order-rule x 0 0 e.0) ∙ r.0, laid-together S o.1 r.1)

  module _ (few : count_of x ≤ 65536) where
    -- What the check accepts is such a sheet, and every one is accepted.
    pub accepted-exactly : (trail table text : List ℕ) → (accepted x trail table text ≡ true) ↔ Sheet x trail table text
    accepted-exactly trail table text = (
      λ e. let s = (accepted-iff x few 0 0 trail table text).0 e in
          let (once, ruled) = laid-apart s.entries s.laid in
          record {
            entries = s.entries;
            root = s.root;
            at_most_one = once;
            by-rules = ruled;
            root_is = s.root-runs;
            within = s.small;
            trail_is = s.trail_is;
            table_is = s.table_is;
            text-is = s.text-is;
          },
      λ s. (accepted-iff x few 0 0 trail table text).1 (record {
        entries = s.entries;
        root = s.root;
        laid = laid-together s.entries s.at_most_one s.by-rules;
        root-runs = s.root_is;
        small = s.within;
        trail_is = s.trail_is;
        table_is = s.table_is;
        text-is = s.text-is;
      }),
    )

    -- The entries found out of a trail that is laid out are its own, exactly if they are by the rules.
    pub entries-exactly : (S : Trail Answer) → Numbered S
        → (entries_from (length (trail_records S)) x (trail_records S) [] ≡ some S) ↔ (Once S × ByRules x S)
    entries-exactly S numbered = (
      λ e. laid-apart S (entries-laid x (trail_records S) (order_of x 0 0) (order-rule x 0 0) (length (trail_records S)) [] S e tt),
      λ p.
          let trail = trail_records S in
          let fuel : length trail ≡ trail_size S - length S + length S = omega (arith, length-trail_records S, length-trail S) in
          ap (λ k. entries_from k x trail []) fuel
          ∙ entries-of x trail (order_of x 0 0) (order-rule x 0 0) S (trail_size S - length S) [] (sym (append-nil trail))
          (laid-together S p.0 p.1) numbered
          ∙ entries-end x trail (trail_size S - length S) S (omega (arith, length-trail_records S)),
    )
