-- Objects and members on the stack while answers are added: what their numbers showed they show in the later memory, by the same key numbers.
use Rattle.std.specs.Prelude.{◌≡◌, List, reverse, ℕ, ◌+◌, ◌-◌, ◌≤◌}
use Rattle.std.proofs.Common.{ap, ◌∙◌, arith}
use Rattle.answers.specs.Ask.{Trail}
use Rattle.rules.specs.Bytes.{Text}
use Rattle.rules.specs.Values.{Answer}
use Rattle.rules.specs.Layers.{Layer, written, settled}
use Rattle.rules.specs.Documents.{Setting}
use Rattle.eval_stack.specs.Model.{seg}
use Rattle.eval_memory.specs.Finished.{Memory}
use Rattle.eval_groups.specs.Entries.{Entry}
use Rattle.eval_groups.specs.Select.Levels.{key_number_of, MemberShows, MemberOf, ObjectsAt, Level, keys_from, level-moves, keys-move}
use Rattle.eval_state.specs.Documents.{key-number}
use Rattle.eval_state.specs.State.{State}
use Rattle.eval_state.specs.Later.{Later}
use Rattle.eval_frames.specs.Shows.{used_of, written-later, shows_later, match-later, field-key-later, member-key-later}

module _ {T B T' B' : List ℕ} {S S' : Trail Answer} (f : Later T B S T' B' S') {x : Setting} {key : ℕ → Text} {items : ℕ} (H : State x key items T B S) where
  abbrev M : Memory
  M = used_of key items T B S

  abbrev M' : Memory
  M' = used_of key items T' B' S'

  key-stays : (c : ℕ) (l : Layer) → MemberShows M c l → key_number_of M' c ≡ key_number_of M c
  key-stays c (written n) a = field-key-later f H.document a
  key-stays c (settled v) a = member-key-later f H.document H.few a

  layer-stays : (c : ℕ) (l : Layer) → MemberShows M c l → MemberShows M' c l
  layer-stays c (written n) a = written-later f H.document a
  layer-stays c (settled v) a = shows_later f H.document c (settled v) a

  -- a member, with its key
  pub member-later : (c : ℕ) (e : Entry) → MemberOf M c e → (key_number_of M' c ≡ key_number_of M c) × MemberOf M' c e
  member-later c e m =
      let k = key-stays c e.1 m.layer in (
        k,
        record {
          number = rw k (key-number f.document (items + 1) (key_number_of M c) (omega (arith, H.document.few)) m.number);
          key-text = ap key k ∙ m.key-text;
          layer = layer-stays c e.1 m.layer;
        },
      )

  module _ {os : List Layer} {base top : ℕ} {w : List ℕ} where
    -- members grouped by key, and their keys
    pub level-later : Level M os base top w → Level M' os base top w
    level-later L = level-moves M M' member-later L

    pub keys-later : Level M os base top w → (p : ℕ) → base ≤ p → p ≤ top → keys_from M' w p top ≡ keys_from M w p top
    keys-later L p l h = keys-move M M' member-later L p l h

  -- objects
  pub objects-later : {os : List Layer} {lo hi : ℕ} {w : List ℕ} → ObjectsAt M os lo hi w → ObjectsAt M' os lo hi w
  objects-later {os} {lo} {hi} {w} O = record {
    from = (O.from.0, O.from.1, match-later f H.document (reverse (seg w lo (hi - lo))) os O.from.2);
    objects = O.objects;
  }
