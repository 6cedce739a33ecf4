-- Numbers that showed layers show them some steps later: in the memory of the answers that are in use, where nothing counts that only happens
-- to stand behind them.
use Rattle.std.specs.Prelude.{◌≡◌, refl, List, [], ◌∷◌, ℕ, ◌+◌, ◌-◌, ◌*◌, ◌≤◌, ◌<◌, get_or, take, drop}
use Rattle.std.proofs.Common.{ap, sym, ◌∙◌, arith, get_or-take, get_or-drop}
use Rattle.std.proofs.Math.Option.{Option, none, some}
use borrow.Author.Tests.{lt-ltb, le-ltb}
use Rattle.answers.specs.Ask.{Trail, lookup}
use Rattle.rules.specs.Sizes.{max_unresolved, max_room}
use Rattle.rules.specs.Bytes.{Text, byte_at}
use Rattle.rules.specs.Tree.{Node, simple, array, object, unresolved, Elements, no-elements, element, Fields, no_fields, field, Pieces, no_pieces, node_piece, substituted}
use Rattle.rules.specs.Tree.{AllNode, AllElements, AllFields, AllPieces}
use Rattle.rules.specs.Values.{Value, Answer}
use Rattle.rules.specs.Layers.{Layer, written, settled}
use Rattle.rules.specs.Sheet.{pair_at, trail_size, trail_text_size}
use Rattle.rules.specs.Documents.{Setting}
use Rattle.theory.specs.Reach.{InRange}
use Rattle.theory.specs.TrailAnswers.{answer_at, answer-in}
use Rattle.doc_items.specs.Holds.{Shown, ElementsAt, FieldsAt, PiecesAt}
use Rattle.doc_items.specs.Parts.{numbers, letters}
use Rattle.doc_items.specs.Room.{capacity, text_room, answers_at, sheet_at, trail_at}
use Rattle.eval_keys.specs.Texts.{by_less}
use Rattle.eval_keys.specs.Columns.{keys_at}
use Rattle.eval_nodes.specs.Model.{key_number, record_key, key_at}
use Rattle.eval_memory.specs.Finished.{Memory, SettledAt}
use Rattle.eval_memory.specs.Tables.{WrittenAt, AnswerAt, Tables, RecordOf, Shows, Match}
use Rattle.eval_state.specs.Memories.{NumberIn, memory_used, answers_of}
use Rattle.eval_state.specs.Documents.{DocumentIn, document-stored, key-number, written-stays}
use Rattle.eval_state.specs.State.{AnswerIn, State}
use Rattle.eval_state.specs.Later.{Later, later_same, settled-later}

-- the answers of a trail: what is in use of records and texts is the trail's
abbrev pub used_of : (key : ℕ → Text) (items : ℕ) (table bytes : List ℕ) → Trail Answer → Memory
used_of key items T B S = memory_used key items T B trail_at sheet_at max_unresolved (trail_size S) (trail_text_size S)

-- ---- nodes hang on nothing that is finished

pub written-used : {key : ℕ → Text} (items : ℕ) {T B : List ℕ} {f g : ℕ} (f' g' : ℕ) {n : Node} {c : ℕ}
    → WrittenAt (memory_used key items T B trail_at sheet_at max_unresolved f g) n c → WrittenAt (memory_used key items T B trail_at sheet_at max_unresolved f' g') n c
written-used items f' g' a = record { sized = a.sized; inside = a.inside; role = a.role; roles = a.roles; node = a.node }

-- their unresolved values have numbers
module _ (g h : ℕ → ℕ) (lo hi : ℕ) where
  mutual
    node-range : (n : Node) (role k o z m i end : ℕ) → Shown g h lo hi NumberIn role k o z m i end n → AllNode (InRange max_unresolved) n
    node-range (simple x) role k o z m i end s = tt
    node-range (array es) role k o z m i end s = elements-range es i end s.1
    node-range (object fs) role k o z m i end s = fields-range fs i end s.1
    node-range (unresolved b ps) role k o z m i end s = (s.1.1, pieces-range ps i end s.2)

    elements-range : (es : Elements) (i end : ℕ) → ElementsAt g h lo hi NumberIn i end es → AllElements (InRange max_unresolved) es
    elements-range no-elements i end s = tt
    elements-range (element n es) i end s =
        let j = s.0 in
        let e = j + g (8 * j + 1) in
        (node-range n 0 (g (8 * j)) (g (8 * j + 4)) (g (8 * j + 5)) (g (8 * j + 7)) (j + 1) e s.3, elements-range es e end s.4)

    fields-range : (fs : Fields) (i end : ℕ) → FieldsAt g h lo hi NumberIn i end fs → AllFields (InRange max_unresolved) fs
    fields-range no_fields i end s = tt
    fields-range (field k n fs) i end s =
        let j = s.0 in
        let e = j + g (8 * j + 1) in
        (node-range n 0 (g (8 * j)) (g (8 * j + 4)) (g (8 * j + 5)) (g (8 * j + 7)) (j + 1) e s.5, fields-range fs e end s.6)

    pieces-range : (ps : Pieces) (i end : ℕ) → PiecesAt g h lo hi NumberIn i end ps → AllPieces (InRange max_unresolved) ps
    pieces-range no_pieces i end s = tt
    pieces-range (node_piece place gap n ps) i end s =
        let e = i + g (8 * i + 1) in
        (node-range n 16 (g (8 * i)) (g (8 * i + 4)) (g (8 * i + 5)) (g (8 * i + 7)) (i + 1) e s.3, pieces-range ps e end s.4)
    pieces-range (substituted gap x ps) i end s = pieces-range ps (i + g (8 * i + 1)) end s.5

-- ---- a finished member's key

record-key-same : (T T' R R' : List ℕ) (c o r : ℕ) → c ≡ capacity + o → o ≤ r → r ≤ max_room → ((i : ℕ) → i < r → byte_at R' i ≡ byte_at R i)
    → key_at T' R' c ≡ key_at T R c
unfolding key_at record_key pair_at
record-key-same T T' R R' c o r e l m f =
    let z : c - capacity ≡ o = omega arith in
    rw (key_at, le-ltb c capacity (omega arith), z) (ap key_number go)
  where
    go : record_key R' o ≡ record_key R o
    go = by_less (record_key R' o ≡ record_key R o) o 5 (λ q. rw (record_key, lt-ltb o 5 q) refl)
        (λ q. rw (record_key, le-ltb o 5 q, le-ltb max_room o (omega arith))
        (ap (λ (i : ℕ). i * 256 + byte_at R' (o - 4 + 1)) (f (o - 4) (omega arith)) ∙ ap (λ (i : ℕ). byte_at R (o - 4) * 256 + i) (f (o - 4 + 1) (omega arith))))

-- ---- some steps later

module _ {T B T' B' : List ℕ} {S S' : Trail Answer} (L : Later T B S T' B' S') {x : Setting} {key : ℕ → Text} {items : ℕ} (D : DocumentIn x key items T B) where
  pub value-later : {v : Value} {o : ℕ} → SettledAt (used_of key items T B S) v o → SettledAt (used_of key items T' B' S') v o
  value-later s =
      (settled-later key items trail_at sheet_at max_unresolved (trail_size S) (trail_text_size S) (trail_size S') (trail_text_size S') T' B'
      (λ k K. key-number L.document (items + 1) k (omega (arith, D.few)) K) L.document.bytes (trail_size S) (trail_text_size S)
      L.records L.texts L.more L.more-texts s s.used s.used-text).value

  pub written-later : {n : Node} {c : ℕ} → WrittenAt (used_of key items T B S) n c → WrittenAt (used_of key items T' B' S') n c
  written-later {n} {c} a =
      let g = numbers T in
      let w = node-range g (letters 0 B) 0 text_room n a.role (g (8 * c)) (g (8 * c + 4)) (g (8 * c + 5)) (g (8 * c + 7)) (c + 1) (c + g (8 * c + 1)) a.node in
      written-used items (trail_size S') (trail_text_size S') (written-stays L.document D w (written-used items max_room max_room a))

  pub shows_later : (c : ℕ) (l : Layer) → Shows (used_of key items T B S) c l → Shows (used_of key items T' B' S') c l
  shows_later c (written (simple x)) a = written-later a
  shows_later c (written (array es)) a = written-later a
  shows_later c (written (object fs)) a = written-later a
  shows_later c (written (unresolved b ps)) a = absurd a
  shows_later c (settled v) (o, e, s) = (o, e, value-later s)

  pub match-later : (cs : List ℕ) (ls : List Layer) → Match (used_of key items T B S) cs ls → Match (used_of key items T' B' S') cs ls
  match-later [] [] m = tt
  match-later [] (l ∷ ls) m = absurd m
  match-later (c ∷ cs) [] m = absurd m
  match-later (c ∷ cs) (l ∷ ls) m = (shows_later c l m.0, match-later cs ls m.1)

  -- the key's number of a member of the document
  pub field-key-later : {n : Node} {c : ℕ} → WrittenAt (used_of key items T B S) n c
      → key_at T' (take max_room (drop trail_at B')) c ≡ key_at T (take max_room (drop trail_at B)) c
  unfolding key_at
  field-key-later {n} {c} a =
      let l : c < capacity = omega (arith, a.sized, a.inside, D.few) in
      let e = L.document.numbers (keys_at + c) (omega arith) (λ u v. omega arith) in
      rw (key_at, lt-ltb c capacity l) (ap key_number e)

  byte-later : (i : ℕ) → i < trail_size S → trail_size S ≤ max_room → byte_at (take max_room (drop trail_at B')) i ≡ byte_at (take max_room (drop trail_at B)) i
  byte-later i l m =
      get_or-take max_room (drop trail_at B') i 256 (omega arith) ∙ get_or-drop trail_at B' i 256 ∙ L.records i 256 l ∙ sym (get_or-drop trail_at B i 256)
      ∙ sym (get_or-take max_room (drop trail_at B) i 256 (omega arith))

  -- and of a finished one
  pub member-key-later : trail_size S ≤ max_room → {v : Value} {c : ℕ} → RecordOf (used_of key items T B S) v c
      → key_at T' (take max_room (drop trail_at B')) c ≡ key_at T (take max_room (drop trail_at B)) c
  member-key-later m {v} {c} (o, e, s) =
      record-key-same T T' (take max_room (drop trail_at B)) (take max_room (drop trail_at B')) c o (trail_size S) e (omega (arith, s.used)) m
      (λ i l. byte-later i l m)

-- ---- the tables show the trail's answers, all of them in use

module _ {x : Setting} {key : ℕ → Text} {items : ℕ} {T B : List ℕ} {S : Trail Answer} (H : State x key items T B S) where
  answer-used : (b : ℕ) (k : Option Answer) (a : ℕ) → lookup S b ≡ k → AnswerIn (answers_of key items T B) S b k a → AnswerAt (used_of key items T B S) k a
  answer-used b none a e y = y
  answer-used b (some none) a e y = y
  answer-used b (some (some v)) a e y =
      let i = answer-in S b v e in
      let L = later_same T B S in
      let s = settled-later key items trail_at sheet_at max_unresolved max_room max_room (trail_size S) (trail_text_size S) T B (λ k K. K) refl (trail_size S) (trail_text_size S)
      L.records L.texts L.more L.more-texts y.1.value i.records-end (omega (arith, i.texts-end, y.1.text)) in
      (answer_at S b, y.0, s.value)

  pub used-tables : Tables (used_of key items T B S) (lookup S)
  used-tables =
      let s = document-stored H.document trail_at sheet_at max_unresolved in
      record {
        stored = record { part = s.part; document = s.document; few = s.few; numbered = s.numbered; names = s.names };
        answers = λ b l. answer-used b (lookup S b) (get_or T (answers_at + b) 0) refl (H.answers b l);
      }
