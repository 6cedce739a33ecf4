-- What the steps of making a document ready come to.
use Rattle.std.specs.Prelude.{◌≡◌, refl, List, [], ◌∷◌, ℕ, zero, suc, ◌+◌, ◌*◌, ◌≤◌, ◌<◌, length}
use Rattle.std.proofs.Common.{sym, ap, subst, ◌∙◌, arith}
use Rattle.std.proofs.Math.Option.{some}
use Rattle.std.proofs.Math.ListN.{drop, get_elem?}
use Rattle.answers.specs.Theory.Sound.{clash}
use Rattle.rules.specs.Sizes.{max_document, max_unresolved}
use Rattle.rules.specs.Sheet.{trail_size, trail_text_size, trail_texts}
use Rattle.rules.specs.Tree.{Node, unresolved, Root, fields, elements, root_node, AllNode}
use Rattle.rules.specs.Unresolved.{Unresolved}
use Rattle.rules.specs.Documents.{Setting}
use Rattle.theory_text.specs.Choices.{get_elem-length}
use Rattle.theory.specs.Numbering.{Prepared}
use Rattle.theory.specs.Reach.{InRange}
use Rattle.doc_items.specs.Codes.{as_member}
use Rattle.doc_items.specs.Holds.{NodeAt}
use Rattle.doc_items.specs.Moving.{Grown}
use Rattle.doc_items.specs.Parts.{numbers, letters}
use Rattle.doc_items.specs.Room.{capacity, text_room, answers_at, index_at, sheet_at}
use Rattle.read_numbering.specs.Clauses.{item_of, ItemOf, Indexed}
use Rattle.read_documents.specs.Clauses.{Stands}
use Rattle.eval_keys.specs.Texts.{by_equal}
use Rattle.eval_keys.specs.Columns.{keys_at, key_text}
use Rattle.eval_keys.specs.Clauses.{ClearIs, NumberKeysIs}
use Rattle.eval_keys.specs.Documents.{number-below, number-above}
use Rattle.eval_root_index.specs.Clauses.{LinkRootIs}
use Rattle.eval_root_index.specs.Documents.{Keyed, link-below, document-keyed}
use Rattle.eval_state.specs.Agreeing.{SameItems, same-node}
use Rattle.eval_state.specs.Members.{in-node}
use Rattle.eval_state.specs.Memories.{begun_at, job_table, NumberIn, answers_of}
use Rattle.eval_state.specs.Documents.{UnresolvedAt, DocumentIn, root-range, pieces-range}
use Rattle.eval_state.specs.State.{State}
use Rattle.job_inputs.specs.Prepare.Contracts.{key_end, BoundIs, Bounded, PrepareAsked, PrepareIs}

-- ---- keys

pub bound-none : {T : List ℕ} → Bounded 1 T T
bound-none {T} = record { ends = λ i l u. absurd (omega arith); same = λ i l. refl; kept = λ j o. refl; len = refl }

pub bound-more : {n : ℕ} {T T' T'' : List ℕ} → Bounded n T T' → BoundIs n T' T'' → Bounded (n + 1) T T''
bound-more {n} {T} {T'} {T''} I K = record {
  ends = λ i l u. by_equal (key_end T'' i ≤ text_room) n i (λ e. rw e at K.ends)
      (λ e. omega (arith, I.ends i l (omega arith), K.kept (8 * i + 2) (λ q. omega arith), K.kept (8 * i + 3) (λ q. omega arith)));
  same = λ i l. by_equal (numbers T'' (8 * i + 3) ≡ numbers T (8 * i + 3)) i n
      (λ e. same_here i l e)
      (λ e. K.kept (8 * i + 3) (λ q. omega arith) ∙ I.same i l);
  kept = λ j o. K.kept j (λ q. o n (omega arith) q) ∙ I.kept j (λ i l q. o i (omega arith) q);
  len = K.len ∙ I.len;
}
  where
    same_here : (i : ℕ) → key_end T i ≤ text_room → i ≡ n → numbers T'' (8 * i + 3) ≡ numbers T (8 * i + 3)
    same_here i l e =
        let a = I.kept (8 * n + 2) (λ k u q. omega arith) in
        let y : key_end T n ≤ text_room = rw e at l in
        let b = I.same n y in
        rw e (K.same (omega arith) ∙ b)

-- ---- the index

indexed-at : (T : List ℕ) (items : ℕ) (h : ℕ → ℕ) (lo hi b : ℕ) (us : List Unresolved) → Indexed T items h lo hi b us → (i : ℕ) (u : Unresolved)
    → get_elem? us i ≡ some u → ItemOf T items h lo hi (b + i) u
indexed-at T items h lo hi b [] x i u e = clash (cc)
indexed-at T items h lo hi b (v ∷ us) x zero u e =
    let z : v ≡ u = cc in
    let y : b ≡ b + 0 = omega arith in
    rw (sym y) (rw z at x.0)
indexed-at T items h lo hi b (v ∷ us) x (suc i) u e =
    let y : suc b + i ≡ b + suc i = omega arith in
    rw (sym y) (indexed-at T items h lo hi (suc b) us x.1 i u e)

-- ---- the document

module _ {items : ℕ} {B T T₁ T₂ T₃ T₄ T₅ : List ℕ} (A : PrepareAsked T B items) (answers : ClearIs answers_at keys_at T T₁) (marks : ClearIs begun_at job_table T₁ T₂)
    (bounds : Bounded (items + 1) T₂ T₃) (keys : NumberKeysIs B items T₃ T₄) (links : LinkRootIs items T₄ T₅) where
  -- items and index stay as they were read
  cleared : (j : ℕ) → j < answers_at → numbers T₂ j ≡ numbers T j
  cleared j l = marks.kept j (λ u v. omega arith) ∙ answers.kept j (λ u v. omega arith)

  later : (j : ℕ) → j < keys_at → numbers T₅ j ≡ numbers T₃ j
  later j l = link-below links j (omega arith) ∙ number-below keys j l

  apart : (j : ℕ) → ((i : ℕ) → i < items + 1 → j ≡ 8 * i + 3 → ⊥) → j < answers_at → numbers T₃ j ≡ numbers T j
  apart j o l = bounds.kept j o ∙ cleared j l

  -- in this table and in each that has the same items
  items-same : (Z : List ℕ) → ((j : ℕ) → j < 8 * capacity → numbers Z j ≡ numbers T₃ j) → (hi : ℕ) → hi ≤ text_room
      → SameItems (numbers T) (numbers Z) hi (items + 1)
  items-same Z e hi u =
      let few = A.few in
      record {
        kind = λ i l. e (8 * i) (omega arith) ∙ apart (8 * i) (λ k v q. omega arith) (omega arith);
        size = λ i l. e (8 * i + 1) (omega arith) ∙ apart (8 * i + 1) (λ k v q. omega arith) (omega arith);
        key = λ i l v. e (8 * i + 2) (omega arith) ∙ apart (8 * i + 2) (λ k v q. omega arith) (omega arith);
        keylen = λ i l v.
            let a = cleared (8 * i + 2) (omega arith) in
            let b = cleared (8 * i + 3) (omega arith) in
            e (8 * i + 3) (omega arith) ∙ bounds.same i (omega arith) ∙ b;
        rest = λ i c l a b. e (8 * i + c) (omega arith) ∙ apart (8 * i + c) (λ k v q. omega arith) (omega arith);
      }

  module _ (x : Setting) (s X : List ℕ) (n : ℕ) (P : Prepared x.document) (short : length s ≤ max_document)
      (texts : (p : ℕ) → p < text_room → letters 0 X p ≡ letters 0 B p) (D : Stands s T X items n x.document) where
    abbrev hi : ℕ
    hi = 2 * length s

    abbrev key : ℕ → List ℕ
    key = key_text B T₅

    grown : Grown (letters 0 X) (letters 0 B) 0 hi 0 text_room
    grown = record { low = omega arith; high = omega arith; text = λ p u v. texts p (omega arith) }

    node-on : (Z : List ℕ) → ((j : ℕ) → j < 8 * capacity → numbers Z j ≡ numbers T₃ j) → (m : Node) (role j : ℕ) → j < items + 1 → j + numbers T (8 * j + 1) ≤ items + 1
        → AllNode (InRange max_unresolved) m → NodeAt (numbers T) (letters 0 X) 0 hi (λ m b. m ≡ b) role j m → NodeAt (numbers Z) (letters 0 B) 0 text_room NumberIn role j m
    node-on Z e m role j l u w s = same-node (items-same Z e hi (omega arith)) grown max_unresolved (λ m b. m ≡ b) NumberIn (λ a b v y. (y, v)) m role j l u w s

    whole : numbers T 1 ≡ items + 1
    whole = D.whole

    keyed : Keyed B T₅ items text_room NumberIn x.document.root
    keyed =
        document-keyed A.few (omega (arith, A.bytes)) (apart 1 (λ k v q. omega arith) (omega arith) ∙ whole) keys links NumberIn x.document.root
        (node-on T₃ (λ j l. refl) (root_node x.document.root) 0 0 (omega arith) (omega (arith, whole)) (root-range x P) D.root)

    -- the item of an unresolved value is no root, so it is inside it
    item-inside : (root : Root) (c : ℕ) → c < items + 1 → numbers T (8 * c) ≡ 8 → NodeAt (numbers T) (letters 0 X) 0 hi (λ m b. m ≡ b) 0 0 (root_node root)
        → (1 ≤ numbers T (8 * c + 1)) × (c + numbers T (8 * c + 1) ≤ items + 1)
    item-inside root c l k r =
        let z = in-node (numbers T) (letters 0 X) 0 hi (λ m b. m ≡ b) c (omega arith) (root_node root) 0 (numbers T 0) (numbers T 4) (numbers T 5) (numbers T 7)
        (0 + 1) (0 + numbers T 1) (low root r (kind root r)) (omega (arith, whole)) r in
        (z.0, omega (arith, z.1, whole))
      where
        kind : (root : Root) → NodeAt (numbers T) (letters 0 X) 0 hi (λ m b. m ≡ b) 0 0 (root_node root) → numbers T 0 < 8
        kind (fields fs) r = omega (arith, r.0)
        kind (elements es) r = omega (arith, r.0)

        low : (root : Root) → NodeAt (numbers T) (letters 0 X) 0 hi (λ m b. m ≡ b) 0 0 (root_node root) → numbers T 0 < 8 → 0 + 1 ≤ c
        low root r u = by_equal (0 + 1 ≤ c) c 0 (λ e. let y : numbers T (8 * c) ≡ numbers T 0 = ap (λ (i : ℕ). numbers T (8 * i)) e in absurd (omega arith)) (λ e. omega arith)

    unresolved-at : (b : ℕ) (u : Unresolved) → get_elem? x.document.unresolved b ≡ some u → UnresolvedAt (answers_of key items T₅ B) b u
    unresolved-at b u e =
        let few = A.few in
        let m = get_elem-length x.document.unresolved b u e in
        let most = P.at_most in
        let first : 0 + b ≡ b = omega arith in
        let I = subst (λ (c : ℕ). ItemOf T (items + 1) (letters 0 X) 0 hi c u) first (indexed-at T (items + 1) (letters 0 X) 0 hi 0 x.document.unresolved D.index b u e) in
        let c = item_of T b in
        let z = item-inside x.document.root c I.inside I.kind D.root in
        let below : (j : ℕ) → j < 8 * capacity → numbers T₅ j ≡ numbers T₃ j = λ j l. later j (omega arith) in
        let at : item_of T₅ b ≡ c = later (index_at + b) (omega arith) ∙ apart (index_at + b) (λ k v q. omega arith) (omega arith) in
        let size : numbers T₅ (8 * c + 1) ≡ numbers T (8 * c + 1) =
        later (8 * c + 1) (omega (arith, I.inside)) ∙ apart (8 * c + 1) (λ k v q. omega arith) (omega (arith, I.inside)) in
        record {
          value = rw at record {
            sized = omega (arith, z.0);
            inside = omega (arith, z.1);
            role = as_member;
            roles = refl;
            node = node-on T₅ below (unresolved b u.pieces) 0 c I.inside z.1 (omega arith, pieces-range x P b u e) (I.kind, I.number, I.pieces);
          };
          place = rw at (later (8 * (c + 1) + 6) (omega (arith, I.inside)) ∙ apart (8 * (c + 1) + 6) (λ k v q. omega arith) (omega (arith, I.inside)) ∙ sym I.place);
        }

    document-in : DocumentIn x key items T₅ B
    document-in =
        let few = A.few in
        record {
          read = P;
          few = few;
          table = omega (arith, A.table, answers.len, marks.len, bounds.len, keys.len, links.len);
          bytes = A.bytes;
          keyed = keyed;
          bounded = λ j l u. omega (arith, bounds.ends j l u, later (8 * j + 2) (omega arith), later (8 * j + 3) (omega arith));
          names = λ j l u. refl;
          unresolved = unresolved-at;
        }

    pub before-first : State x key items T₅ B []
    unfolding trail_size trail_text_size trail_texts
    before-first = record {
      document = document-in;
      answers = λ b l.
          later (answers_at + b) (omega arith) ∙ bounds.kept (answers_at + b) (λ i u q. omega (arith, A.few)) ∙ marks.kept (answers_at + b) (λ u v. omega arith)
          ∙ answers.zero (answers_at + b) (omega arith) (omega arith);
      more = drop sheet_at B;
      sheet = refl;
      few = omega arith;
      small = omega arith;
    }

  pub prepared-is : PrepareIs items B T T₅
  prepared-is = record {
    is = λ x s X n P short texts D. before-first x s X n P short texts D;
    unbegun = λ b l.
        links.kept (begun_at + b) (λ u v. omega arith) ∙ number-above A.few keys (begun_at + b) (omega arith)
        ∙ bounds.kept (begun_at + b) (λ i u q. omega (arith, A.few)) ∙ marks.zero (begun_at + b) (omega arith) (omega arith);
  }
