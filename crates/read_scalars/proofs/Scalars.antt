-- One law for each answer of the functions that read a simple value.
use Rattle.std.specs.Prelude.{Result, Ok, Err}
use mathlib.Core.Path.{◌≡◌, refl, sym, ◌∙◌, ap}
use mathlib.Core.Bool.{Bool, true, false, ◌||◌}
use mathlib.Core.List.{List, ◌++◌}
use Prim.Native.Nat.{ℕ, ◌-◌, ◌≤◌, ◌<◌}
use native.Mathlib.Omega.{arith}
use lib.ListN.{length, drop}
use lib.Seq.{slice, length-slice, take_at}
use Rattle.answers.specs.Theory.Sound.{clash}
use lib.Dec.{eqb}
use Rattle.rules.specs.Bytes.{byte_at}
use Rattle.rules.specs.Numbers.{is_digit, after_number}
use Rattle.rules.specs.Strings.{quoted_at}
use Rattle.rules.specs.Refusals.{Refusal as Refusing, number_of, place_of, Scan, ok, refused, and_then}
use Rattle.rules.specs.Tree.{Scalar, null, boolean, number, string}
use Rattle.rules.specs.Pieces.{Token, token, starts_with, word_true, word_false, word_null, unquoted_at, number_at, simple_at, scalar_text}
use Rattle.theory_text.specs.Choices.{by-test, by-option}
use Rattle.text_chars.specs.Cursor.{doc, cur, refusal}
use Rattle.text_chars.specs.declared.Refusal.{Refusal}
use Rattle.text_chars.specs.declared.TextLen.{TextLen}
use Rattle.text_chars.specs.declared.Cursor.{Cursor}
use Rattle.text_bytes.specs.Clauses.{WriteIs}
use Rattle.text_pieces.specs.Clauses.{of_scalar, of_token, piece_of, Moved, LaidToken, PieceAsked, PieceIs}
use Rattle.text_pieces.specs.declared.Piece.{Piece}
use Rattle.doc_items.specs.Codes.{code_of}
use Rattle.read_scalars.specs.Scalars.{WrittenAsked, WrittenIs, ScalarIs}
use Rattle.read_scalars.specs.declared.ScalarRead.{ScalarRead}

-- ---- a copy

abbrev written : ℕ → Cursor → ℕ → ScalarRead
written kind c n = record { kind = kind; next = c; size = record { 0 = n } }

pub written_is : {s : List ℕ} {at kind : ℕ} {c : Cursor} {before after : List ℕ} {n : ℕ} → WrittenAsked s at c.at.0 before
    → WriteIs (slice at c.at.0 s) before after n → WrittenIs s at kind c before after (record { kind = kind; next = c; size = record { 0 = n } })
written_is {s} {at} {kind} {c} {before} {after} {n} a k =
    let e : n ≡ c.at.0 - at = k.is ∙ length-slice at c.at.0 s a.inside in
    record {
      is = ap (written kind c) e;
      wrote = rw k.bytes (take_at (slice at c.at.0 s) (drop (length (slice at c.at.0 s)) before) (c.at.0 - at) (length-slice at c.at.0 s a.inside));
      kept = k.kept;
    }

-- ---- what a piece came from

-- the cursor and the code of a piece outside quotes
abbrev Bare : Piece → Cursor → ℕ → Type 0
Bare (Piece.Quoted c u) d k = ⊥
Bare (Piece.Unquoted c) d k = (c ≡ d) × (k ≡ 5)
Bare (Piece.Plain n c) d k = (c ≡ d) × (k ≡ n)

bare-scalar : (x : Scalar) (end : ℕ) (c : Cursor) (k : ℕ) → Bare (of_scalar x end) c k → (end ≡ c.at.0) × (k ≡ code_of x)
bare-scalar null end c k b = (ap (λ (y : Cursor). y.at.0) b.0, b.1)
bare-scalar (boolean true) end c k b = (ap (λ (y : Cursor). y.at.0) b.0, b.1)
bare-scalar (boolean false) end c k b = (ap (λ (y : Cursor). y.at.0) b.0, b.1)
bare-scalar (number t) end c k b = (ap (λ (y : Cursor). y.at.0) b.0, b.1)
bare-scalar (string t) end c k b = (ap (λ (y : Cursor). y.at.0) b.0, b.1)

bare-inv : (m : Scan Token) (r : Piece) (c : Cursor) (k : ℕ) → Ok r ≡ piece_of m → Bare r c k
    → (t : Token) × (m ≡ ok t c.at.0) × (t.in_quotes ≡ false) × (k ≡ code_of t.scalar)
bare-inv (refused x) r c k e b = clash (cc)
bare-inv (ok t end) r c k e b = let i : r ≡ of_token t.in_quotes t.scalar end = cc in go t.in_quotes refl (rw i at b)
  where
    go : (q : Bool) → t.in_quotes ≡ q → Bare (of_token q t.scalar end) c k
        → (t' : Token) × (ok t end ≡ ok t' c.at.0) × (t'.in_quotes ≡ false) × (k ≡ code_of t'.scalar)
    go true q z = absurd z
    go false q z = let (i, j) = bare-scalar t.scalar end c k z in (t, ap (λ n. ok t n) i, q, j)

-- a piece in quotes is a string
abbrev Text : Piece → Type 0
Text (Piece.Quoted c u) = ⊥
Text (Piece.Unquoted c) = Unit {0}
Text (Piece.Plain n c) = Unit {0}

text-scalar : (x : Scalar) (end : ℕ) → Text (of_scalar x end)
text-scalar null end = tt
text-scalar (boolean true) end = tt
text-scalar (boolean false) end = tt
text-scalar (number t) end = tt
text-scalar (string t) end = tt

refused-inv : (m : Scan Token) (y : Refusal) → Err y ≡ piece_of m
    → (x : Refusing) × (m ≡ refused x) × (y.number ≡ number_of x) × (y.place.0 ≡ place_of x)
refused-inv (refused x) y e =
    let i : y ≡ refusal (number_of x) (doc (place_of x)) = cc in
    (x, refl, ap (λ (z : Refusal). z.number) i, ap (λ (z : Refusal). z.place.0) i)
refused-inv (ok t end) y e = clash (cc)

quoted-inv : (m : Scan Token) (c : Cursor) (u : TextLen) → Ok (Piece.Quoted c u) ≡ piece_of m
    → (t : Token) × (m ≡ ok t c.at.0) × (t.in_quotes ≡ true) × (u.0 ≡ length (scalar_text t.scalar))
quoted-inv (refused x) c u e = clash (cc)
quoted-inv (ok t end) c u e = go t.in_quotes refl (cc)
  where
    go : (q : Bool) → t.in_quotes ≡ q → Piece.Quoted c u ≡ of_token q t.scalar end
        → (t' : Token) × (ok t end ≡ ok t' c.at.0) × (t'.in_quotes ≡ true) × (u.0 ≡ length (scalar_text t'.scalar))
    go true q z =
        let i : c ≡ cur end = cc in
        let j : u ≡ record { 0 = length (scalar_text t.scalar) } = cc in
        (t, ap (λ (x : Cursor). ok t x.at.0) (sym i), q, ap (λ (x : TextLen). x.0) j)
    go false q z = absurd (rw (← z) at (text-scalar t.scalar end))

-- what stands in quotes is a string
abbrev Stringed : Scan Token → Type 0
Stringed (ok t end) = t.in_quotes ≡ true → 5 ≡ code_of t.scalar
Stringed (refused x) = Unit {0}

stringed : (s : List ℕ) (at : ℕ) → Stringed (simple_at s at)
unfolding simple_at number_at unquoted_at
stringed s at =
    by-test Stringed (eqb (byte_at s at) 34) (λ e. in-quotes (quoted_at s at)) (λ e.
    by-test Stringed (is_digit (byte_at s at) || eqb (byte_at s at) 45)
    (λ f. by-option Stringed (after_number s at) (λ g. tt) (λ end g. λ q. clash (cc)))
    (λ f.
    by-test Stringed (starts_with word_true s at) (λ g. λ q. clash (cc)) (λ g.
    by-test Stringed (starts_with word_false s at) (λ h. λ q. clash (cc)) (λ h.
    by-test Stringed (starts_with word_null s at) (λ i. λ q. clash (cc)) (λ i. λ q. clash (cc))))))
  where
    in-quotes : (m : Scan (List ℕ)) → Stringed (and_then m (λ t end. ok (token true (string t)) end))
    in-quotes (ok t end) = λ q. refl
    in-quotes (refused x) = tt

-- ---- the answers

module _ {s : List ℕ} {at : ℕ} {before mid : List ℕ} {r : Result Piece Refusal} (a : PieceAsked s at before) (k : PieceIs (simple_at s at) s at before mid r) where
  pub scalar-refused : {x : Refusal} → r ≡ Err x → ScalarIs s at before mid (Err x)
  scalar-refused {x} e = record { is = refused-inv (simple_at s at) x (sym e ∙ k.is); kept = k.kept }

  laid-quoted : (t : Token) (end : ℕ) → simple_at s at ≡ ok t end → t.in_quotes ≡ true
      → mid ≡ scalar_text t.scalar ++ drop (length (scalar_text t.scalar)) before
  laid-quoted t end m q = go t.in_quotes q (rw m at k.laid)
    where
      go : (b : Bool) → b ≡ true → LaidToken b t.scalar before mid
          → mid ≡ scalar_text t.scalar ++ drop (length (scalar_text t.scalar)) before
      go true z h = h
      go false z h = clash (cc)

  pub scalar-quoted : {x : Piece} {c : Cursor} {u : TextLen} → r ≡ Ok x → x ≡ Piece.Quoted c u → ScalarIs s at before mid (Ok (record { kind = 5; next = c; size = u }))
  scalar-quoted {x} {c} {u} i' j =
      let e : r ≡ Ok (Piece.Quoted c u) = i' ∙ ap Ok j in
      let m : Moved (length s) at (Ok (Piece.Quoted c u)) = rw e at k.moved in
      let (t, i, f, l) = quoted-inv (simple_at s at) c u (sym e ∙ k.is) in
      let w = scalar_text t.scalar in
      let five : Stringed (ok t c.at.0) = rw i at (stringed s at) in
      record {
        is = (
          t,
          i,
          five f,
          l,
          rw (laid-quoted t c.at.0 i f) (take_at w (drop (length w) before) u.0 (sym l)),
          m.0,
          m.1,
          omega (arith, m.0, m.2),
        );
        kept = k.kept;
      }

  -- a piece as written
  as_written : (c : Cursor) (kind : ℕ) (x : Piece) → r ≡ Ok x → Bare x c kind → at < c.at.0 → c.at.0 ≤ length s
      → {after : List ℕ} {v : ScalarRead} → WrittenIs s at kind c mid after v → ScalarIs s at before after (Ok v)
  as_written c kind x e b m n {after} {v} w =
      let (t, i, f, j) = bare-inv (simple_at s at) x c kind (sym e ∙ k.is) b in
      let z : scalar_text t.scalar ≡ slice at c.at.0 s = rw i at k.spelt f in
      let l : length (scalar_text t.scalar) ≡ c.at.0 - at = ap length z ∙ length-slice at c.at.0 s n in
      rw w.is (record { is = (t, i, j, sym l, w.wrote ∙ sym z, m, n, omega arith); kept = w.kept ∙ k.kept })

  pub scalar-unquoted : {x : Piece} {c : Cursor} {after : List ℕ} {v : ScalarRead} → r ≡ Ok x → x ≡ Piece.Unquoted c → WrittenIs s at 5 c mid after v
      → ScalarIs s at before after (Ok v)
  scalar-unquoted {x} {c} i j w =
      let e : r ≡ Ok (Piece.Unquoted c) = i ∙ ap Ok j in
      let m : Moved (length s) at (Ok (Piece.Unquoted c)) = rw e at k.moved in
      as_written c 5 (Piece.Unquoted c) e (refl, refl) m.0 m.1 w

  pub scalar-plain : {x : Piece} {kind : ℕ} {c : Cursor} {after : List ℕ} {v : ScalarRead} → r ≡ Ok x → x ≡ Piece.Plain kind c → WrittenIs s at kind c mid after v
      → ScalarIs s at before after (Ok v)
  scalar-plain {x} {kind} {c} i j w =
      let e : r ≡ Ok (Piece.Plain kind c) = i ∙ ap Ok j in
      let m : Moved (length s) at (Ok (Piece.Plain kind c)) = rw e at k.moved in
      as_written c kind (Piece.Plain kind c) e (refl, refl) m.0 m.1 w

  -- what a copy asks
  pub asks-unquoted : {x : Piece} {c : Cursor} → r ≡ Ok x → x ≡ Piece.Unquoted c → WrittenAsked s at c.at.0 mid
  asks-unquoted {x} {c} i j =
      let e : r ≡ Ok (Piece.Unquoted c) = i ∙ ap Ok j in
      let m : Moved (length s) at (Ok (Piece.Unquoted c)) = rw e at k.moved in
      record { forward = omega (arith, m.0); inside = m.1; room = omega (arith, m.1, a.room, k.kept) }

  pub asks-plain : {x : Piece} {kind : ℕ} {c : Cursor} → r ≡ Ok x → x ≡ Piece.Plain kind c → WrittenAsked s at c.at.0 mid
  asks-plain {x} {kind} {c} i j =
      let e : r ≡ Ok (Piece.Plain kind c) = i ∙ ap Ok j in
      let m : Moved (length s) at (Ok (Piece.Plain kind c)) = rw e at k.moved in
      record { forward = omega (arith, m.0); inside = m.1; room = omega (arith, m.1, a.room, k.kept) }

pub ruleset scalars = (scalar-refused, scalar-quoted, scalar-unquoted, scalar-plain)
