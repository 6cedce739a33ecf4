-- While bytes change behind the trail's room, all that stands between two steps stays, and so does what numbers on the stack show.
use Rattle.std.specs.Prelude.{◌≡◌, refl, ℕ, suc, ◌+◌, ◌-◌, ◌<◌, List, [], ◌∷◌, reverse, length, get_or}
use Rattle.std.proofs.Common.{◌∙◌, arith}
use Rattle.answers.specs.Ask.{Trail, lookup}
use Rattle.rules.specs.Bytes.{Text}
use Rattle.rules.specs.Sizes.{max_unresolved, max_room}
use Rattle.rules.specs.Tree.{Node, simple, array, object, unresolved}
use Rattle.rules.specs.Values.{Value, Answer}
use Rattle.rules.specs.Layers.{Layer, written, settled}
use Rattle.rules.specs.Sheet.{trail_size, trail_text_size}
use Rattle.rules.specs.Documents.{Setting}
use Rattle.doc_items.specs.Room.{sheet_at, trail_at, bytes_room}
use Rattle.eval_stack.specs.Model.{seg}
use Rattle.eval_memory.specs.Finished.{SettledAt}
use Rattle.eval_memory.specs.Tables.{WrittenAt, Shows, Match}
use Rattle.eval_state.specs.Memories.{answers_of}
use Rattle.eval_state.specs.State.{State, state-tables}
use Rattle.eval_state.specs.Later.{Later, later-beside, settled-later, state-later}
use Rattle.eval_frames.specs.Shows.{written-used, written-later}
use Rattle.eval_value_laws.specs.Clauses.{ObjectsGiven}

-- of the bytes only those of the pair change
pub record Beside (B B' : List ℕ) : Type 0 where
  pub len : length B' ≡ length B
  pub same : (n d : ℕ) → n < bytes_room → get_or B' n d ≡ get_or B n d

pub nothing-beside : {B : List ℕ} → Beside B B
nothing-beside = record { len = refl; same = λ n d l. refl }

pub beside-then : {B B' B'' : List ℕ} → Beside B B' → Beside B' B'' → Beside B B''
beside-then f g = record { len = g.len ∙ f.len; same = λ n d l. g.same n d l ∙ f.same n d l }

module _ {x : Setting} {key : ℕ → Text} {items : ℕ} {T B : List ℕ} {S : Trail Answer} (H : State x key items T B S) {B' : List ℕ} (E : Beside B B') where
  later : Later T B S T B' S
  later = later-beside T B B' S H.few H.small E.len E.same

  pub still : State x key items T B' S
  still = state-later H later (λ b l. refl)

  value-still : {v : Value} {o : ℕ} → SettledAt (answers_of key items T B) v o → SettledAt (answers_of key items T B') v o
  value-still s =
      (settled-later key items trail_at sheet_at max_unresolved max_room max_room max_room max_room T B' (λ k K. K) E.len max_room max_room
      (λ j d l. E.same (trail_at + j) d (omega arith)) (λ j d l. E.same (sheet_at + j) d (omega arith)) (omega arith) (omega arith) s s.inside s.upto).value

  node-still : {n : Node} {c : ℕ} → WrittenAt (answers_of key items T B) n c → WrittenAt (answers_of key items T B') n c
  node-still a =
      written-used items max_room max_room (written-later later H.document (written-used items (trail_size S) (trail_text_size S) a))

  shows-still : (c : ℕ) (l : Layer) → Shows (answers_of key items T B) c l → Shows (answers_of key items T B') c l
  shows-still c (written (simple x)) a = node-still a
  shows-still c (written (array es)) a = node-still a
  shows-still c (written (object fs)) a = node-still a
  shows-still c (written (unresolved b ps)) a = absurd a
  shows-still c (settled v) (o, e, s) = (o, e, value-still s)

  match-still : (cs : List ℕ) (ls : List Layer) → Match (answers_of key items T B) cs ls → Match (answers_of key items T B') cs ls
  match-still [] [] m = tt
  match-still [] (l ∷ ls) m = absurd m
  match-still (c ∷ cs) [] m = absurd m
  match-still (c ∷ cs) (l ∷ ls) m = (shows-still c l m.0, match-still cs ls m.1)

  -- objects on the stack, with a level more
  pub objects-still : {w : List ℕ} {lo hi levels d : ℕ} {os : List Layer} → ObjectsGiven (answers_of key items T B) (lookup S) w lo hi levels d os
      → ObjectsGiven (answers_of key items T B') (lookup S) w lo hi (suc levels) d os
  objects-still {w} {lo} {hi} {levels} {d} {os} G =
      let O = G.shown in
      record {
        basis = record { tables = state-tables still; shallow = G.basis.shallow };
        shown = record { from = (O.from.0, O.from.1, match-still (reverse (seg w lo (hi - lo))) os O.from.2); objects = O.objects };
        fits = G.fits;
        some = G.some;
        low = omega (arith, G.low);
        deep = G.deep;
      }
