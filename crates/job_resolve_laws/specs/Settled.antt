-- The resolution of a document that was read: one law for each return, and what its callees ask.
use Rattle.std.specs.Prelude.{◌≡◌, List, ℕ, length, replicate, Result as Returned, Ok, Err}
use Rattle.std.proofs.Math.Path.{refl, subst}
use Rattle.std.proofs.Common.{sym, arith}
use Rattle.std.proofs.lemmas.List.{length-replicate}
use Rattle.rules.specs.Sizes.{max_room}
use Rattle.rules.specs.Refusals.{number_of, place_of}
use Rattle.rules.specs.Jobs.{Result, refused_with}
use Rattle.theory_order.specs.Clauses.{settle_root_c}
use Rattle.theory_order.proofs.Whole.{root-refused}
use Rattle.text_chars.specs.declared.Refusal.{Refusal as Refused}
use Rattle.eval_writer.specs.Clauses.{Room}
use Rattle.eval_stack.specs.Model.{work_room}
use Rattle.eval_trail.specs.declared.Progress.{Progress}
use Rattle.eval_question_laws.specs.Work.{RefusedAs}
use Rattle.eval_settle_laws.specs.Clauses as settling
use Rattle.job_results.specs.Answers.{resolution_told}
use Rattle.job_results.specs.declared.Resolution.{Resolution}
use Rattle.job_root.specs.Output.Contracts.{HandedBack}
use Rattle.job_root.specs.Clauses as root
use Rattle.job_resolve_laws.specs.Clauses.{ResolutionAsked, ResolutionIs}
use Rattle.job_resolve_laws.specs.Tasks.{start, task, task-nested, short, tasked, held_start}

zeros : List ℕ
zeros = replicate max_room 0

whole : Room zeros
unfolding zeros
whole = length-replicate {A = ℕ} max_room 0

module _ {T B E w : List ℕ} {budget : ℕ} {trail text : List ℕ} where
  abbrev settles : ResolutionAsked T B E budget trail text → length w ≡ work_room → (room : List ℕ) → Room room
      → settling.RootAsked T B E w room trail text start budget
  settles a l room k = record {
    whole = k;
    bytes = a.most;
    environment = short a;
    work = omega arith;
    t = task a;
    task = tasked a;
    budgeted = refl;
    key = _;
    items = a.items;
    holding = held_start a;
  }

  module _ (A : ResolutionAsked T B E budget trail text) where
    -- with a stack of layers, and a room for one value
    pub settle-asked : (room : List ℕ) → length w ≡ work_room → Room room → settling.RootAsked T B E w room trail text start budget
    settle-asked room l k = settles A l room k

    module _ {T' B' trail' text' : List ℕ} {q : Returned Progress Refused} (W : settling.RootIs E start budget T T' B B' w trail trail' text text' q)
        (l : length w ≡ work_room) where
      -- the promise holds of any room
      settled : (a : ResolutionAsked T B E budget trail text) {s : Returned Progress Refused} → q ≡ s → settling.RootSettles (settles a l zeros whole) T' B' trail' text' s
      settled a z = rw z at (W.is (settles a l zeros whole))

      pub resolution-refused : {table : List ℕ} {x : Refused} → q ≡ Err x
          → ResolutionIs T B E budget trail trail' table table text text' (Err x)
      unfolding refused_with
      resolution-refused {table} {x} z = record {
        is = λ a.
            let h : RefusedAs (settle_root_c (task a)) x.number x.place.0 = settled a z in
            let y = h.refusal in
            subst (λ (R : Result). HandedBack R trail' table text' (Err x))
            (sym (root-refused (task a) a.ready.state.document.read (task-nested a) (length table) y h.is))
            (record {
              told = told (number_of y) (place_of y) h.its-number h.its-place;
              holding = record {
                trail-begins = record { rest = trail'; is = refl };
                table-begins = record { rest = table; is = refl };
                text-begins = record { rest = text'; is = refl };
              };
            });
      }
        where
          told : (m p : ℕ) → x.number ≡ m → x.place.0 ≡ p
              → resolution_told (Err x) ≡ record { number = m; place = p; count = 0; trail = 0; table = 0; text = 0 }
          told m p i j = rw (i, j)

      module _ {p : Progress} (z : q ≡ Ok p) where
        at-root : (a : ResolutionAsked T B E budget trail text) → root.Settled (task a) T' B' trail' text' p
        at-root a =
            let h : settling.RootSettled (settles a l zeros whole) T' B' trail' text' p = settled a z in
            record { key = _; items = a.items; S = h.S; n = h.n; holding = h.holding; is = h.is }

        pub hand-asked : (w' room' : List ℕ) → length B' ≡ length B → length w' ≡ work_room → Room room' → root.HandRootAsked B' w' room' p
        hand-asked w' room' i j m =
            let H = (at-root A).holding in
            record {
              whole = m;
              bytes = omega (arith, A.bytes);
              most = omega (arith, A.most);
              work = omega arith;
              texts = omega (arith, H.texts, H.state.small);
            }

        pub resolution-done : {table table' text'' : List ℕ} {r : Returned Resolution Refused} → root.HandRootIs T' B' p table table' text' text'' r
            → ResolutionIs T B E budget trail trail' table table' text text'' r
        resolution-done {table} R = record { is = λ a. R.is (task a) trail' (task-nested a) (at-root a) }
