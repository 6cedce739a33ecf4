-- A document in a job's memory, a path by the numbers of its elements, and what look-back asks of both.
use Rattle.std.specs.Prelude.{◌≡◌, ℕ, zero, suc, ◌+◌, ◌≤◌, ◌<◌, List, [], ◌∷◌, length, drop, get_or}
use Rattle.std.proofs.Common.{sym, ap, subst, ◌∙◌, arith}
use Rattle.rules.specs.Bytes.{Text}
use Rattle.rules.specs.Tree.{unresolved, Pieces, Root, fields, elements, root_node}
use Rattle.doc_items.specs.Codes.{unresolved_item, as_member, kind_at, size_at, number_at}
use Rattle.doc_items.specs.Holds.{NodeAt}
use Rattle.doc_items.specs.Parts.{numbers, letters}
use Rattle.doc_items.specs.Room.{capacity}
use Rattle.theory_back.specs.Numbers.{FromNode}
use Rattle.eval_keys.specs.Texts.{by_less}
use Rattle.eval_keys.specs.Numbers.{number_of}
use Rattle.eval_keys.specs.Uses.{number_small}
use Rattle.eval_substitutions.specs.Keys.Elements.{KeysOf}
use Rattle.eval_root_index.specs.Documents.{RootLinked, Keyed}
use Rattle.eval_memory.specs.Keys.{Means, number-means}
use Rattle.eval_memory.specs.Finished.{Memory, Stored}
use Rattle.eval_memory.specs.Tables.{Number, WrittenAt}
use Rattle.eval_look_back.specs.Roots.{FirstFields}
use Rattle.eval_look_back.specs.Clauses.{PathIs, AskedAt}
use Rattle.eval_look_back.specs.Uses as uses

-- the document stands in the memory, its keys numbered, the root's fields linked
pub record Standing (M : Memory) (root : Root) : Type 0 where
  pub items : ℕ
  pub all : M.items ≡ items + 1
  pub keyed : Keyed M.bytes M.table items M.ends (Number M) root
  pub from : FromNode 0 (root_node root)

-- a path by the numbers of its elements
pub record PathNumbers (M : Memory) (K : List ℕ) (count : ℕ) (p : List Text) : Type 0 where
  pub long : count ≡ length p
  pub keys : KeysOf (number_of M.bytes M.table M.items) K 0 p

-- the numbers of the elements from one on, and of one
keys_from : (num : Text → ℕ) (K : List ℕ) (n i : ℕ) (p : List Text) → n ≤ length p → KeysOf num K i p → KeysOf num K (i + n) (drop n p)
keys_from num K zero i p l k = let e : i ≡ i + 0 = omega arith in subst (λ (j : ℕ). KeysOf num K j p) e k
keys_from num K (suc n) i [] l k = absurd (omega arith)
keys_from num K (suc n) i (t ∷ p) l k =
    let e : i + 1 + n ≡ i + suc n = omega arith in
    subst (λ (j : ℕ). KeysOf num K j (drop n p)) e (keys_from num K n (i + 1) p (omega arith) k.1)

key-at : (num : Text → ℕ) (K : List ℕ) (n i : ℕ) (p : List Text) → n < length p → KeysOf num K i p → get_or K (i + n) 0 ≡ num (get_or p n [])
key-at num K n i [] l k = absurd (omega arith)
key-at num K zero i (t ∷ p) l k = let e : i + 0 ≡ i = omega arith in ap (λ (j : ℕ). get_or K j 0) e ∙ k.0
key-at num K (suc n) i (t ∷ p) l k =
    let e : i + suc n ≡ i + 1 + n = omega arith in
    ap (λ (j : ℕ). get_or K j 0) e ∙ key-at num K n (i + 1) p (omega arith) k.1

-- the number of each element
pub path-number : {M : Memory} {K : List ℕ} {count : ℕ} {p : List Text} → PathNumbers M K count p → (i : ℕ) → i < length p
    → get_or K i 0 ≡ number_of M.bytes M.table M.items (get_or p i [])
path-number {M} {K} {count} {p} P i l =
    let e : i ≡ 0 + i = omega arith in
    ap (λ (j : ℕ). get_or K j 0) e ∙ key-at (number_of M.bytes M.table M.items) K i 0 p l P.keys

-- and those from one on
pub path-from : {M : Memory} {K : List ℕ} {count : ℕ} {p : List Text} → PathNumbers M K count p → (n : ℕ) → n ≤ length p
    → KeysOf (number_of M.bytes M.table M.items) K n (drop n p)
path-from {M} {K} {count} {p} P n l =
    let e : 0 + n ≡ n = omega arith in
    subst (λ (j : ℕ). KeysOf (number_of M.bytes M.table M.items) K j (drop n p)) e
    (keys_from (number_of M.bytes M.table M.items) K n 0 p l P.keys)

-- an unresolved value's item
pub record UnresolvedAt (M : Memory) (item : ℕ) : Type 0 where
  pub low : 0 < item
  pub inside : item < M.items
  pub kind : kind_at (numbers M.table) item ≡ unresolved_item

module _ (M : Memory) (S : Stored M) {root : Root} (D : Standing M root) where
  pub whole : size_at (numbers M.table) 0 ≡ M.items
  whole = D.keyed.whole ∙ sym D.all

  pub asked-at : {item : ℕ} → UnresolvedAt M item → AskedAt M.table item (letters 0 M.bytes) 0 M.ends M.answered root
  asked-at u = record { shown = D.keyed.shown; from = D.from; kind = u.kind; inside = omega (arith, whole, u.inside) }

  -- from the number of a text on come the root's fields with that key
  pub first-fields : {k : ℕ} (t : Text) → k ≡ number_of M.bytes M.table M.items t
      → FirstFields M.table k (letters 0 M.bytes) 0 M.ends M.answered t root
  first-fields {k} t e = go root D.keyed.linked
    where
      is : k ≡ number_of M.bytes M.table (D.items + 1) t
      is = e ∙ ap (λ (n : ℕ). number_of M.bytes M.table n t) D.all

      small : k < capacity
      small = let l = number_small M.bytes M.table M.items t (omega (arith, D.all)) in omega (arith, e, S.few)

      go : (r : Root) → RootLinked M.bytes M.table D.items M.ends (Number M) r
          → FirstFields M.table k (letters 0 M.bytes) 0 M.ends M.answered t r
      go (fields fs) l = λ s. rw is (l s t)
      go (elements es) l = l k small

  module _ {keys : List ℕ} {count : ℕ} {p : List Text} (P : PathNumbers M keys count p) where
    pub path-tells : PathIs M.table keys count (letters 0 M.bytes) 0 M.ends M.answered root p
    path-tells =
        uses.path-is S.numbered S.document whole P.long (path-number P) (λ l. first-fields (get_or p 0 []) (path-number P 0 l))

    pub path-means : (i : ℕ) → i < length p → Means M.key M.table M.items (get_or keys i 0) (get_or p i [])
    path-means i l =
        subst (λ (k : ℕ). Means M.key M.table M.items k (get_or p i [])) (sym (path-number P i l)) (number-means S.numbered S.names (get_or p i []))

  -- an unresolved value that stands in the memory is at such an item, which has its number: the root's item is another kind's
  module _ {b item : ℕ} {ps : Pieces} (a : WrittenAt M (unresolved b ps) item) where
    root-kind : (r : Root) → NodeAt (numbers M.table) (letters 0 M.bytes) 0 M.ends (Number M) as_member 0 (root_node r)
        → kind_at (numbers M.table) 0 < unresolved_item
    root-kind (fields fs) x = omega (arith, x.0)
    root-kind (elements es) x = omega (arith, x.0)

    kind : kind_at (numbers M.table) item ≡ unresolved_item
    kind = omega (arith, a.node.0, a.roles)

    not_root : item ≡ 0 → ⊥
    not_root e =
        let k : kind_at (numbers M.table) 0 ≡ unresolved_item = subst (λ (j : ℕ). kind_at (numbers M.table) j ≡ unresolved_item) e kind in
        omega (arith, root-kind root D.keyed.shown)

    pub unresolved-at : UnresolvedAt M item
    unresolved-at = record {
      low = by_less (0 < item) 0 item (λ l. l) (λ l. absurd (not_root (omega arith)));
      inside = omega (arith, a.sized, a.inside);
      kind = kind;
    }

    pub unresolved-number : number_at (numbers M.table) item ≡ b
    unresolved-number = a.node.1.0
