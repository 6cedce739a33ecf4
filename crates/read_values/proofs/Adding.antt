-- The laws of one piece more.
use mathlib.Core.Path.{◌≡◌, refl, sym, ◌∙◌, ap, subst}
use mathlib.Core.Bool.{Bool, true, false, not, ◌||◌}
use mathlib.Core.List.{[]}
use mathlib.Core.Option.{Option, none, some}
use Prim.Native.Nat.{ℕ, ◌+◌, ◌≤◌, ◌<◌}
use native.Mathlib.Omega.{arith}
use lib.Dec.{eqb, leb}
use borrow.Author.Tests.{le-leb, lt-leb}
use Rattle.rules.specs.Bytes.{Text}
use Rattle.rules.specs.Tree.{Scalar, null, boolean, number, string, Node, simple, array, object, unresolved, Pieces, no_pieces, node_piece, substituted}
use Rattle.rules.specs.Reading.{Part, node, substitution, with_part, Kind, simple_kind, array_kind, object_kind, kind_of, same_kind, has_substitution, unlike}
use Rattle.doc_items.specs.Codes.{code_of, reference_code}
use Rattle.doc_items.specs.Joining.{Simples, join_pieces}
use Rattle.text_chars.specs.declared.DocAt.{DocAt}
use Rattle.read_values.specs.Runs.{KindIs, piece_count, odd_place, RunOf, FirstIs, GroupIs, AddIs}
use Rattle.read_values.specs.declared.Run.{Run}

-- ---- kinds

pub code-low : (x : Scalar) → code_of x ≤ 5
code-low null = omega arith
code-low (boolean false) = omega arith
code-low (boolean true) = omega arith
code-low (number t) = omega arith
code-low (string t) = omega arith

reference-high : (b : Bool) → 9 ≤ reference_code b
reference-high false = omega arith
reference-high true = omega arith

node-low : (k : ℕ) (n : Node) → KindIs k (node n) → k < 9
node-low k (simple x) e = omega (arith, e, code-low x)
node-low k (array es) e = omega (arith, e)
node-low k (object fs) e = omega (arith, e)
node-low k (unresolved b ps) e = absurd e

abbrev group_of : Kind → ℕ
group_of simple_kind = 5
group_of array_kind = 6
group_of object_kind = 7

group-of : (k r : ℕ) (n : Node) → GroupIs k r → KindIs k (node n) → r ≡ group_of (kind_of n)
unfolding kind_of
group-of k r (simple x) h e = h.low (omega (arith, e, code-low x))
group-of k r (array es) h e = h.high (omega (arith, e)) ∙ e
group-of k r (object fs) h e = h.high (omega (arith, e)) ∙ e
group-of k r (unresolved b ps) h e = absurd e

group-same : (a b : Kind) → eqb (group_of a) (group_of b) ≡ same_kind b a
unfolding same_kind
group-same simple_kind simple_kind = refl
group-same simple_kind array_kind = refl
group-same simple_kind object_kind = refl
group-same array_kind simple_kind = refl
group-same array_kind array_kind = refl
group-same array_kind object_kind = refl
group-same object_kind simple_kind = refl
group-same object_kind array_kind = refl
group-same object_kind object_kind = refl

-- ---- joins

count-join : (ps qs : Pieces) → piece_count (join_pieces ps qs) ≡ piece_count ps + piece_count qs
unfolding join_pieces piece_count
count-join no_pieces qs = omega arith
count-join (node_piece place gap n ps) qs = omega (arith, count-join ps qs)
count-join (substituted gap x ps) qs = omega (arith, count-join ps qs)

subs-either : (ps qs : Pieces) → has_substitution (join_pieces ps qs) ≡ (has_substitution ps || has_substitution qs)
unfolding join_pieces has_substitution
subs-either no_pieces qs = refl
subs-either (node_piece place gap n ps) qs = subs-either ps qs
subs-either (substituted gap x ps) qs = refl

abbrev earlier : Option ℕ → Option ℕ → Option ℕ
earlier none b = b
earlier (some p) b = some p

in-turn : (t : Bool) (a b c : Option ℕ) (place : ℕ) → a ≡ earlier b c
    → ◌≡◌ {A = Option ℕ} (elim t [ true ↦ a | false ↦ some place ]) (earlier (elim t as (λ x. Option ℕ) [ true ↦ b | false ↦ some place ]) c)
in-turn true a b c place e = e
in-turn false a b c place e = refl

unlike-first : (k : Kind) (ps qs : Pieces) → unlike k (join_pieces ps qs) ≡ earlier (unlike k ps) (unlike k qs)
unfolding join_pieces unlike
unlike-first k no_pieces qs = refl
unlike-first k (node_piece place gap n ps) qs =
    in-turn (same_kind k (kind_of n)) (unlike k (join_pieces ps qs)) (unlike k ps) (unlike k qs) place (unlike-first k ps qs)
unlike-first k (substituted gap x ps) qs = unlike-first k ps qs

simples-join : (ps qs : Pieces) → Simples ps → Simples qs → Simples (join_pieces ps qs)
unfolding join_pieces
simples-join no_pieces qs a b = b
simples-join (node_piece place gap (simple x) ps) qs a b = simples-join ps qs a b
simples-join (node_piece place gap (array es) ps) qs a b = simples-join ps qs a b
simples-join (node_piece place gap (object fs) ps) qs a b = simples-join ps qs a b
simples-join (node_piece place gap (unresolved c rs) ps) qs a b = absurd a
simples-join (substituted gap x ps) qs a b = simples-join ps qs a b

-- ---- behind others

-- what the numbers with one piece more tell, of the piece alone
record Behind (run r : Run) (qs : Pieces) : Type 0 where
  some-before : run.count ≡ 0 → ⊥
  one : piece_count qs ≡ 1
  count : r.count ≡ run.count + 1
  kind : r.kind ≡ run.kind
  subs : r.subs ≡ (run.subs || has_substitution qs)
  plain : Simples qs
  odd : (n : Node) → KindIs run.kind (node n) → odd_place r ≡ earlier (odd_place run) (unlike (kind_of n) qs)

behind : (run r : Run) (ps qs : Pieces) → RunOf run ps → Behind run r qs → RunOf r (join_pieces ps qs)
unfolding join_pieces piece_count has_substitution
behind run r no_pieces qs o b = absurd (b.some-before o.count)
behind run r (node_piece place gap n ps) qs o b = record {
  count = omega (arith, b.count, o.count, b.one, count-join ps qs);
  first = subst (λ (k : ℕ). FirstIs (node_piece place gap n ps) k) (sym b.kind) o.first;
  subs = b.subs ∙ ap (λ (t : Bool). t || has_substitution qs) o.subs ∙ sym (subs-either ps qs);
  odd =
      b.odd n o.first.1 ∙ ap (λ (t : Option ℕ). earlier t (unlike (kind_of n) qs)) o.odd
      ∙ sym (unlike-first (kind_of n) (node_piece place gap n ps) qs);
  plain = simples-join (node_piece place gap n ps) qs o.plain b.plain;
}
behind run r (substituted gap x ps) qs o b = record {
  count = omega (arith, b.count, o.count, b.one, count-join ps qs);
  first = subst (λ (k : ℕ). FirstIs (substituted gap x ps) k) (sym b.kind) o.first;
  subs = b.subs ∙ ap (λ (t : Bool). t || has_substitution qs) o.subs;
  odd = tt;
  plain = simples-join (substituted gap x ps) qs o.plain b.plain;
}

-- ---- the answers

-- the first piece of all
first_run : (run : Run) (k : ℕ) (place : DocAt) (ps : Pieces) (gap : Text) (part : Part) → run.count ≡ 0 → RunOf run ps → KindIs k part
    → gap ≡ [] → RunOf (record { count = 1; kind = k; subs = leb 9 k; odd = false; place = place }) (join_pieces ps (with_part place.0 gap part no_pieces))
unfolding join_pieces piece_count has_substitution unlike kind_of same_kind
first_run run k place (node_piece p g n ps) gap part z o e b = absurd (omega (arith, z, o.count))
first_run run k place (substituted g x ps) gap part z o e b = absurd (omega (arith, z, o.count))
first_run run k place no_pieces gap (node (simple x)) z o e b =
    record { count = refl; first = (b, e); subs = lt-leb 9 k (node-low k (simple x) e); odd = refl; plain = tt }
first_run run k place no_pieces gap (node (array es)) z o e b =
    record { count = refl; first = (b, e); subs = lt-leb 9 k (node-low k (array es) e); odd = refl; plain = tt }
first_run run k place no_pieces gap (node (object fs)) z o e b =
    record { count = refl; first = (b, e); subs = lt-leb 9 k (node-low k (object fs) e); odd = refl; plain = tt }
first_run run k place no_pieces gap (node (unresolved c qs)) z o e b = absurd e
first_run run k place no_pieces gap (substitution x) z o e b =
    record { count = refl; first = (b, e); subs = le-leb 9 k (omega (arith, e, reference-high x.optional)); odd = tt; plain = tt }

or-true : (b : Bool) → (b || true) ≡ true
or-true true = refl
or-true false = refl

or-false : (b : Bool) → (b || false) ≡ b
or-false true = refl
or-false false = refl

earlier-none : (a : Option ℕ) → earlier a none ≡ a
earlier-none none = refl
earlier-none (some p) = refl

one-simple : (k place : ℕ) (gap : Text) (n : Node) → KindIs k (node n) → Simples (node_piece place gap n no_pieces)
one-simple k place gap (simple x) e = tt
one-simple k place gap (array es) e = tt
one-simple k place gap (object fs) e = tt
one-simple k place gap (unresolved b ps) e = absurd e

module _ (run : Run) (k : ℕ) (place : DocAt) where
  pub add-first : run.count ≡ 0 → AddIs run k place.0 (record { count = 1; kind = k; subs = leb 9 k; odd = false; place = place })
  add-first z = record {
    is = λ ps gap part o e g. first_run run k place ps gap part z o e (g z);
    count = omega arith;
  }

  module _ (m : run.count ≡ 0 → ⊥) where
    pub add-reference : 9 ≤ k
        → AddIs run k place.0 (record { count = run.count + 1; kind = run.kind; subs = true; odd = run.odd; place = run.place })
    unfolding piece_count has_substitution unlike
    add-reference h = record { is = λ ps gap part o e g. behind run r ps (with_part place.0 gap part no_pieces) o (go gap part e); count = refl }
      where
        r : Run
        r = record { count = run.count + 1; kind = run.kind; subs = true; odd = run.odd; place = run.place }

        go : (gap : Text) (part : Part) → KindIs k part → Behind run r (with_part place.0 gap part no_pieces)
        go gap (node n) e = absurd (omega (arith, h, node-low k n e))
        go gap (substitution x) e = record {
          some-before = m;
          one = refl;
          count = refl;
          kind = refl;
          subs = sym (or-true run.subs);
          plain = tt;
          odd = λ n i. sym (earlier-none (odd_place run));
        }

    module _ (h : k < 9) where
      -- a literal piece, by the place of the first that is unlike the first
      literally : (odd : Bool) (other : DocAt) → ((n : Node) (c : Node) → KindIs run.kind (node c) → KindIs k (node n)
          → odd_place (record { count = run.count + 1; kind = run.kind; subs = run.subs; odd = odd; place = other })
          ≡ earlier (odd_place run) (elim (same_kind (kind_of c) (kind_of n)) [ true ↦ none | false ↦ some place.0 ]))
          → AddIs run k place.0 (record { count = run.count + 1; kind = run.kind; subs = run.subs; odd = odd; place = other })
      unfolding piece_count has_substitution unlike
      literally odd other f = record { is = λ ps gap part o e g. behind run r ps (with_part place.0 gap part no_pieces) o (go gap part e); count = refl }
        where
          r : Run
          r = record { count = run.count + 1; kind = run.kind; subs = run.subs; odd = odd; place = other }

          go : (gap : Text) (part : Part) → KindIs k part → Behind run r (with_part place.0 gap part no_pieces)
          go gap (substitution x) e = absurd (omega (arith, h, e, reference-high x.optional))
          go gap (node n) e = record {
            some-before = m;
            one = refl;
            count = refl;
            kind = refl;
            subs = sym (or-false run.subs);
            plain = one-simple k place.0 gap n e;
            odd = λ c i. f n c i e;
          }

      pub add-odd : run.odd ≡ true
          → AddIs run k place.0 (record { count = run.count + 1; kind = run.kind; subs = run.subs; odd = run.odd; place = run.place })
      add-odd z = literally run.odd run.place (λ n c i e. rw z)

      pub add-literal : (a b : ℕ) → run.odd ≡ false → GroupIs k a → GroupIs run.kind b
          → AddIs run k place.0 (record { count = run.count + 1; kind = run.kind; subs = run.subs; odd = not (eqb a b); place = place })
      add-literal a b z u v = literally (not (eqb a b)) place (λ n c i e.
          let s : eqb a b ≡ same_kind (kind_of c) (kind_of n) =
          ap (λ (x : ℕ). eqb x b) (group-of k a n u e) ∙ ap (λ (x : ℕ). eqb (group_of (kind_of n)) x) (group-of run.kind b c v i)
          ∙ group-same (kind_of n) (kind_of c) in
          rw (z, s) (turned (same_kind (kind_of c) (kind_of n))))
        where
          turned : (t : Bool)
              → ◌≡◌ {A = Option ℕ} (elim (not t) [ true ↦ some place.0 | false ↦ none ]) (elim t [ true ↦ none | false ↦ some place.0 ])
          turned true = refl
          turned false = refl

pub ruleset adds = (add-first, add-reference, add-odd, add-literal)
