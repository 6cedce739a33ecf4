-- A document that was read, with its keys' numbers and its root's links, in a job's memory; it stays while answers are kept.
use Rattle.std.specs.Prelude.{◌≡◌, refl, false, List, ℕ, ◌+◌, ◌-◌, ◌*◌, ◌≤◌, ◌<◌, ltb, length, get_or, take, drop}
use Rattle.std.proofs.Common.{sym, ap, subst, ◌∙◌, arith, le-leb}
use Rattle.std.proofs.Math.Option.{some}
use Rattle.std.proofs.Math.ListN.{get_elem?}
use Rattle.rules.specs.Bytes.{Text, byte_at}
use Rattle.rules.specs.Sizes.{max_unresolved}
use Rattle.rules.specs.Tree.{Node, unresolved, Root, fields, elements, root_node, AllNode, AllPieces}
use Rattle.rules.specs.Unresolved.{Unresolved}
use Rattle.rules.specs.Documents.{Setting}
use Rattle.theory.specs.Numbering.{Prepared, numbers-below, all-node}
use Rattle.theory_text.specs.Choices.{get_elem-length}
use Rattle.theory.specs.Reach.{Each, InRange, each_at}
use Rattle.theory.specs.Rules.{Listed, all_listed, top}
use Rattle.text_chars.specs.Parts.{part_slice}
use Rattle.doc_items.specs.Codes.{as_member}
use Rattle.doc_items.specs.Holds.{NodeAt}
use Rattle.doc_items.specs.Moving.{Grown}
use Rattle.doc_items.specs.Parts.{numbers, letters}
use Rattle.doc_items.specs.Room.{capacity, text_room, answers_at, index_at}
use Rattle.read_numbering.specs.Clauses.{item_of}
use Rattle.eval_keys.specs.Texts.{text-length, text_same}
use Rattle.eval_keys.specs.Columns.{keys_at, firsts_at, nexts_at, is_field, key_text, first_at, next_at}
use Rattle.eval_keys.specs.Numbers.{Found, absent, here, number_of}
use Rattle.eval_keys.specs.Finding.{found-is, first-is}
use Rattle.eval_keys.specs.Adding.{none-same}
use Rattle.eval_keys.specs.Stores.{text-kept}
use Rattle.eval_keys.specs.Documents.{text-slice}
use Rattle.eval_keys.specs.Uses.{numbered-stays, number_small}
use Rattle.eval_root_index.specs.Links.{follows_same, every_map}
use Rattle.eval_root_index.specs.Documents.{Keyed, RootLinked, places_of}
use Rattle.eval_writer.specs.Model.{word_at}
use Rattle.eval_writer.specs.Keys.{KeyIn}
use Rattle.eval_memory.specs.Keys.{KeyNumber}
use Rattle.eval_memory.specs.Finished.{Memory, Stored}
use Rattle.eval_memory.specs.Tables.{WrittenAt, as-member}
use Rattle.eval_state.specs.Agreeing.{SameItems, same-items, same-node}
use Rattle.eval_state.specs.Members.{places_same, places-low}
use Rattle.eval_state.specs.Memories.{begun_at, job_table, job_bytes, NumberIn, memory_at, answers_of}

-- an unresolved value by its number: the index has its item, behind which its pieces stand
pub record UnresolvedAt (M : Memory) (b : ℕ) (u : Unresolved) : Type 0 where
  pub value : WrittenAt M (unresolved b u.pieces) (item_of M.table b)
  pub place : get_or M.table (8 * (item_of M.table b + 1) + 6) 0 ≡ u.place

pub record DocumentIn (x : Setting) (key : ℕ → Text) (items : ℕ) (T B : List ℕ) : Type 0 where
  pub read : Prepared x.document
  pub few : items < capacity
  pub table : job_table ≤ length T
  pub bytes : job_bytes ≤ length B
  pub keyed : Keyed B T items text_room NumberIn x.document.root
  -- the keys of all items, of elements too, lie among the document's texts
  pub bounded : (j : ℕ) → 1 ≤ j → j < items + 1 → numbers T (8 * j + 2) + numbers T (8 * j + 3) ≤ text_room
  pub names : (j : ℕ) → 1 ≤ j → j < items + 1 → key j ≡ key_text B T j
  pub unresolved : (b : ℕ) (u : Unresolved) → get_elem? x.document.unresolved b ≡ some u → UnresolvedAt (answers_of key items T B) b u

-- ---- the table has the texts of the keys

name_in : (key : ℕ → Text) (T B : List ℕ) (k : ℕ) → k < 65536 → key k ≡ key_text B T k → numbers T (8 * k + 2) + numbers T (8 * k + 3) ≤ length B
    → KeyIn key T B k
unfolding word_at
name_in key T B k small e l =
    let o = numbers T (8 * k + 2) in
    let z = numbers T (8 * k + 3) in
    let f : length (key k) ≡ z = ap length e ∙ text-length (byte_at B) o z in
    let d : z ≡ o + z - o = omega arith in
    record {
      small = small;
      len = sym f;
      text = ap (word_at B o) f ∙ rw (word_at, le-leb (o + z) (length B) l)
          (ap (λ (m : ℕ). take m (drop o B)) d ∙ part_slice B o (o + z) (omega arith) ∙ sym (text-slice B o z l) ∙ sym e);
    }

module _ {x : Setting} {key : ℕ → Text} {items : ℕ} {T B : List ℕ} (D : DocumentIn x key items T B) where
  pub names_in : (j : ℕ) → KeyNumber T (items + 1) j → KeyIn key T B j
  names_in j K =
      name_in key T B j (omega (arith, D.few, K.high)) (D.names j K.low K.high) (omega (arith, D.bytes, D.bounded j K.low K.high))

  -- whichever finished values are looked at
  pub document-stored : (rb tb a : ℕ) → Stored (memory_at key items T B rb tb a)
  document-stored rb tb a = record {
    part = refl;
    document = omega (arith, D.bytes);
    few = omega (arith, D.few);
    numbered = D.keyed.numbered;
    names = names_in;
  }

  pub root-written : WrittenAt (answers_of key items T B) (root_node x.document.root) 0
  root-written = record {
    sized = omega (arith, D.keyed.whole);
    inside = omega (arith, D.keyed.whole);
    role = as_member;
    roles = as-member (root_node x.document.root);
    node = D.keyed.shown;
  }

-- ---- numbers of unresolved values

module _ (x : Setting) (prepared : Prepared x.document) where
  pub root-range : AllNode (InRange max_unresolved) (root_node x.document.root)
  root-range = all-node (λ b ps l. omega (arith, prepared.at_most)) (root_node x.document.root) (numbers-below x.document prepared)

  pub pieces-range : (b : ℕ) (u : Unresolved) → get_elem? x.document.unresolved b ≡ some u → AllPieces (InRange max_unresolved) u.pieces
  pieces-range b u e =
      let P = Listed false max_unresolved (top x.document.root) in
      let all = subst (λ (l : List Unresolved). Each P l) (sym prepared.listed) (all_listed false max_unresolved x.document.root root-range) in
      (each_at P x.document.unresolved all b u e).inside

-- ---- another table and other bytes in which the document stands as well

-- all but the answers and the marks, and the document's texts
pub record SameDocument (T T' B B' : List ℕ) : Type 0 where
  pub numbers : (j : ℕ) → j < begun_at → (answers_at ≤ j → j < keys_at → ⊥) → get_or T' j 0 ≡ get_or T j 0
  pub table : length T' ≡ length T
  pub texts : (p d : ℕ) → p < text_room → get_or B' p d ≡ get_or B p d
  pub bytes : length B' ≡ length B

module _ {T T' B B' : List ℕ} (E : SameDocument T T' B B') where
  same_low : (j : ℕ) → j < 8 * capacity → numbers T' j ≡ numbers T j
  same_low j l = E.numbers j (omega arith) (λ u v. omega arith)

  same-column : (j : ℕ) → keys_at ≤ j → j < begun_at → numbers T' j ≡ numbers T j
  same-column j l h = E.numbers j h (λ u v. omega arith)

  same-field : (j : ℕ) → j < capacity → is_field T' j ≡ is_field T j
  same-field j l = ap (λ (k : ℕ). ltb k 16) (same_low (8 * j) (omega arith))

  same_key : (j : ℕ) → j < capacity → numbers T (8 * j + 2) + numbers T (8 * j + 3) ≤ text_room → key_text B' T' j ≡ key_text B T j
  same_key j l u =
      text-kept B' T T' j (same_low (8 * j + 2) (omega arith)) (same_low (8 * j + 3) (omega arith))
      ∙ text_same (byte_at B) (byte_at B') (numbers T (8 * j + 2)) (numbers T (8 * j + 3)) (λ p a b. E.texts p 256 (omega arith))

  -- key numbers stay key numbers
  pub key-number : (n k : ℕ) → n ≤ capacity → KeyNumber T n k → KeyNumber T' n k
  key-number n k l K = record {
    low = K.low;
    high = K.high;
    field = same-field k (omega (arith, K.high)) ∙ K.field;
    own = same-column (keys_at + k) (omega arith) (omega (arith, K.high)) ∙ K.own;
  }

  module _ {x : Setting} {key : ℕ → Text} {items : ℕ} (D : DocumentIn x key items T B) where
    items-same : (hi : ℕ) → SameItems (numbers T) (numbers T') hi (items + 1)
    items-same hi = same-items (λ j l. same_low j (omega (arith, D.few)))

    texts-grown : Grown (letters 0 B) (letters 0 B') 0 text_room 0 text_room
    texts-grown = record { low = omega arith; high = omega arith; text = λ p u v. sym (E.texts (p - 0) 0 (omega arith)) }

    node_stays : (n : Node) (role j : ℕ) → j < items + 1 → j + numbers T (8 * j + 1) ≤ items + 1 → AllNode (InRange max_unresolved) n
        → NodeAt (numbers T) (letters 0 B) 0 text_room NumberIn role j n → NodeAt (numbers T') (letters 0 B') 0 text_room NumberIn role j n
    node_stays n role j l u w s = same-node (items-same text_room) texts-grown max_unresolved NumberIn NumberIn (λ m b v y. y) n role j l u w s

    -- what an item holds stays
    pub written-stays : {n : Node} {c : ℕ} → AllNode (InRange max_unresolved) n → WrittenAt (answers_of key items T B) n c
        → WrittenAt (answers_of key items T' B') n c
    written-stays {n} {c} w a =
        let f = D.few in
        let e = same_low (8 * c + 1) (omega (arith, a.sized, a.inside)) in
        record {
          sized = omega (arith, a.sized);
          inside = omega (arith, a.inside);
          role = a.role;
          roles = a.roles;
          node = node_stays n a.role c (omega (arith, a.sized, a.inside)) a.inside w a.node;
        }

    number_same : (t : Text) → number_of B' T' (items + 1) t ≡ number_of B T (items + 1) t
    number_same t = sym (found-is (is_field T') (key_text B' T') t n r (go (first-is (is_field T) (key_text B T) t n)))
      where
        n : ℕ
        n = items + 1

        r : ℕ
        r = number_of B T n t

        tells : (j : ℕ) → 1 ≤ j → j < n → is_field T' j ≡ is_field T j
        tells j a b = same-field j (omega (arith, D.few))

        agree : (j : ℕ) → 1 ≤ j → j < n → key_text B' T' j ≡ key_text B T j
        agree j a b = same_key j (omega (arith, D.few)) (D.bounded j a b)

        go : Found (is_field T) (key_text B T) t n r → Found (is_field T') (key_text B' T') t n r
        go (absent e h) = absent e (none-same (is_field T) (is_field T') (key_text B T) (key_text B' T') n tells agree t n (omega arith) h)
        go (here a f h e m) =
            here a (tells r a h ∙ f) h (agree r a h ∙ e)
            (none-same (is_field T) (is_field T') (key_text B T) (key_text B' T') n tells agree t r (omega arith) m)

    linked-stays : (root : Root) → numbers T 1 ≡ items + 1 → AllNode (InRange max_unresolved) (root_node root)
        → NodeAt (numbers T) (letters 0 B) 0 text_room NumberIn 0 0 (root_node root) → RootLinked B T items text_room NumberIn root
        → RootLinked B' T' items text_room NumberIn root
    linked-stays (elements es) whole w x L = λ k l. same-column (firsts_at + k) (omega arith) (omega arith) ∙ L k l
    linked-stays (fields fs) whole w x L = λ s t.
        let n = number_of B T (items + 1) t in
        let small = number_small B T (items + 1) t (omega arith) in
        let one = same_low 1 (omega arith) in
        let g = numbers T in
        let g' = numbers T' in
        let ps = places_of g (letters 0 B) 0 text_room NumberIn t fs 1 (0 + g 1) x.1 in
        let e : ps ≡ places_of g' (letters 0 B') 0 text_room NumberIn t fs 1 (0 + g' 1) s =
        places_same g (letters 0 B) 0 text_room NumberIn g' (letters 0 B') 0 text_room NumberIn (items + 1)
        (λ i l. same_low (8 * i) (omega (arith, D.few))) (λ i l. same_low (8 * i + 1) (omega (arith, D.few))) t fs 1 (0 + g 1) 1 (0 + g' 1)
        refl (omega arith) (omega arith) x.1 s in
        let start : first_at T' (number_of B' T' (items + 1) t) ≡ first_at T n =
        ap (first_at T') (number_same t) ∙ same-column (firsts_at + n) (omega arith) (omega (arith, D.few)) in
        rw (start, sym e)
        (follows_same (next_at T) (next_at T') (first_at T n) ps (every_map (λ j l. same-column (nexts_at + j) (omega arith) (omega (arith, D.few))) ps
        (places-low g (letters 0 B) 0 text_room NumberIn t fs 1 (0 + g 1) (items + 1) (omega arith) x.1)) (L x.1 t))

    pub document-stays : DocumentIn x key items T' B'
    document-stays =
        let k = D.keyed in
        let root = x.document.root in
        let w = root-range x D.read in
        record {
          read = D.read;
          few = D.few;
          table = omega (arith, D.table, E.table);
          bytes = omega (arith, D.bytes, E.bytes);
          keyed = record {
            shown = node_stays (root_node root) 0 0 (omega arith) (omega (arith, k.whole)) w k.shown;
            whole = same_low 1 (omega arith) ∙ k.whole;
            numbered = numbered-stays B' T' text_room (omega (arith, D.few)) same_low (λ j a b. same-column j a (omega arith)) (λ p l. E.texts p 256 l) D.bounded k.numbered;
            linked = linked-stays root k.whole w k.shown k.linked;
          };
          bounded = λ j a b.
              omega (arith, D.bounded j a b, same_low (8 * j + 2) (omega (arith, D.few)), same_low (8 * j + 3) (omega (arith, D.few)));
          names = λ j a b. D.names j a b ∙ sym (same_key j (omega (arith, D.few)) (D.bounded j a b));
          unresolved = unresolved-stays;
        }
      where
        unresolved-stays : (b : ℕ) (u : Unresolved) → get_elem? x.document.unresolved b ≡ some u → UnresolvedAt (answers_of key items T' B') b u
        unresolved-stays b u h =
            let U = D.unresolved b u h in
            let l = get_elem-length x.document.unresolved b u h in
            let m = D.read.at_most in
            let f = D.few in
            let e : item_of T' b ≡ item_of T b = E.numbers (index_at + b) (omega arith) (λ u v. omega arith) in
            let c = item_of T b in
            record {
              value = rw e (written-stays (omega arith, pieces-range x D.read b u h) U.value);
              place = rw e (E.numbers (8 * (c + 1) + 6) (omega (arith, U.value.sized, U.value.inside)) (λ u v. omega (arith, U.value.sized, U.value.inside)) ∙ U.place);
            }
