-- What the code's answers say of a path's layers, and where the guard that numbers stand for texts comes from.
use Rattle.std.specs.Prelude.{◌≡◌, refl, ℕ, ◌≤◌, ◌<◌, List, [], length, get_or}
use Rattle.std.proofs.Common.{sym, ap, subst, ◌∙◌, arith}
use Rattle.std.proofs.Math.Option.{none, some}
use Rattle.rules.specs.Bytes.{Text}
use Rattle.rules.specs.Tree.{Root}
use Rattle.doc_items.specs.Codes.{size_at, number_at}
use Rattle.doc_items.specs.Holds.{TextAt}
use Rattle.doc_items.specs.Parts.{numbers, letters}
use Rattle.theory_back.specs.LookBack.{Left}
use Rattle.theory_back.specs.Passes.{looks_back}
use Rattle.theory_back.proofs.Passes.{looks-some}
use Rattle.eval_keys.specs.Numbers.{Numbered, number_of}
use Rattle.eval_keys.specs.Clauses.{FindIs}
use Rattle.eval_keys.specs.Documents.{key-tells, key-found}
use Rattle.eval_look_back.specs.Roots.{FirstFields}
use Rattle.eval_look_back.specs.Clauses.{Tells, PathIs, AskedAt, own_of, LooksBackIs}

-- ---- what `looks_back` answers

module _ {T keys : List ℕ} {count item : ℕ} {h : ℕ → ℕ} {lo hi bound : ℕ} {root : Root} {p : List Text} (a : AskedAt T item h lo hi bound root)
    (q : PathIs T keys count h lo hi bound root p) where
  abbrev found : Left ℕ
  found = looks_back root p (number_at (numbers T) item)

  -- 0: it looks forward
  pub looks-forward : LooksBackIs T keys count item 0 → found ≡ none
  looks-forward w = go found refl (w.is h lo hi bound root p a q)
    where
      go : (x : Left ℕ) → found ≡ x → 0 ≡ own_of x → x ≡ none
      go none e z = refl
      go (some s) e z = absurd (omega (arith, looks-some root p (number_at (numbers T) item) s.0 s.1 e, z))

  -- another number: the field's path has so many elements
  pub looks-own : {own : ℕ} → LooksBackIs T keys count item own → 0 < own → (rest : List Text) × (found ≡ some (rest, own))
  looks-own {own} w l = go found refl (w.is h lo hi bound root p a q)
    where
      go : (x : Left ℕ) → found ≡ x → own ≡ own_of x → (rest : List Text) × (found ≡ some (rest, own))
      go none e z = absurd (omega (arith, z))
      go (some s) e z = (s.0, e ∙ ap (λ (n : ℕ). some (s.0, n)) (sym z))

-- ---- the numbers of texts

module _ {X T : List ℕ} {n lo hi : ℕ} (N : Numbered X T n) (room : hi ≤ length X) (whole : size_at (numbers T) 0 ≡ n) where
  pub tells-number : (t : Text) → Tells T (letters 0 X) lo hi (number_of X T n t) t
  tells-number t = λ at u low high kind x. key-tells N room at low (omega arith) kind x t

  -- what `find` gives
  pub tells-found : {o z r : ℕ} {t : Text} → FindIs X T o z r → TextAt (letters 0 X) lo hi o z t → Tells T (letters 0 X) lo hi r t
  tells-found f y = λ at u low high kind x. key-found N room at low (omega arith) kind x f y

  -- so a path is given by the numbers of its elements
  pub path-is : {keys : List ℕ} {count bound : ℕ} {root : Root} {p : List Text} → count ≡ length p
      → ((i : ℕ) → i < length p → get_or keys i 0 ≡ number_of X T n (get_or p i []))
      → (0 < length p → FirstFields T (get_or keys 0 0) (letters 0 X) lo hi bound (get_or p 0 []) root)
      → PathIs T keys count (letters 0 X) lo hi bound root p
  path-is {keys} {count} {bound} {root} {p} e f first = record {
    long = e;
    first = first;
    tells = λ i l. subst (λ (k : ℕ). Tells T (letters 0 X) lo hi k (get_or p i [])) (sym (f i l)) (tells-number (get_or p i []));
  }
