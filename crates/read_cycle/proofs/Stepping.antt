-- One piece more: its item in front of what stands inside it, the whitespace in front of its text.
use mathlib.Core.Path.{◌≡◌, refl, sym, ap, ◌∙◌}
use Prim.Native.Nat.{ℕ, ◌+◌, ◌*◌, ◌-◌, ◌≤◌, ◌<◌}
use mathlib.Core.Bool.{Bool, true, false}
use mathlib.Core.List.{List}
use native.Mathlib.Omega.{arith}
use lib.ListN.{length, get_or, take, drop}
use lib.Seq.{slice, length-slice, take_at, get_or-append-add, get_or-drop}
use Rattle.rules.specs.Bytes.{Text}
use Rattle.rules.specs.Tree.{Scalar, null, boolean, number, string, Node, simple, array, object, unresolved, no_pieces}
use Rattle.rules.specs.Reading.{Part, node, substitution, with_part}
use Rattle.doc_items.specs.Codes.{code_of, reference_code}
use Rattle.doc_items.specs.Holds.{Spells, TextAt, Shown, PiecesAt}
use Rattle.doc_items.specs.Moving.{Grown, move-text, move-shown}
use Rattle.text_chars.specs.Parts.{part, back, back_above}
use Rattle.doc_items.specs.Parts.{numbers, letters, spells-take}
use Rattle.read_values.specs.Runs.{KindIs, AddIs}
use Rattle.read_values.specs.declared.Run.{Run}
use Rattle.read_cycle.specs.Clauses.{Free, StepAsked, Follows, MoreRead, PartAt, FoundIs}
use Rattle.read_steps.specs.Steps.{PutPieceIs}
use Rattle.read_values.specs.declared.pieces.PieceItem.{PieceItem}

code-small : (x : Scalar) → code_of x ≤ 5
code-small null = omega arith
code-small (boolean false) = omega arith
code-small (boolean true) = omega arith
code-small (number y) = omega arith
code-small (string y) = omega arith

reference-large : (b : Bool) → 5 < reference_code b
reference-large false = omega arith
reference-large true = omega arith

module _ {s : List ℕ} {at from used : ℕ} {run : Run} {left items : ℕ} {x t : List ℕ} (a : StepAsked s at from used run left items x t)
    {y z : List ℕ} {f : PieceItem} (p : FoundIs s at (used + (at - from)) left items y z f)
    (ly : length y ≡ length (part 8 x)) (lz : length z ≡ length (part (at - from) t))
    {x' t' : List ℕ} (q : PutPieceIs s at from used items f (back 8 x y) (back (at - from) t z) x' t') where
  abbrev gap : Text
  gap = slice from at s

  gap-long : length gap ≡ at - from
  gap-long = length-slice from at s a.inside

  in_table : 8 ≤ length x
  in_table = omega (arith, a.table-room, a.few)

  in-text : at - from ≤ length t
  in-text = omega (arith, a.text-room, a.before, a.inside, a.forward)

  -- the numbers behind the item are those of the part
  behind : (k : ℕ) → get_or x' (k + 8) 0 ≡ get_or y k 0
  behind k =
      let e : k + 8 ≡ 8 + k = omega arith in
      q.item.above (k + 8) (omega arith) ∙ ap (λ (n : ℕ). get_or (back 8 x y) n 0) e ∙ back_above 8 x y k in_table

  -- the bytes behind the whitespace are those of the part
  after-gap : (o : ℕ) → used + (at - from) ≤ o → get_or z (o - (used + (at - from))) 0 ≡ get_or t' (o - used) 0
  after-gap o l =
      let k = o - (used + (at - from)) in
      let e : o - used ≡ length gap + k = omega (arith, gap-long) in
      let d : length gap + k ≡ at - from + k = omega (arith, gap-long) in
      sym (ap (λ (n : ℕ). get_or t' n 0) e ∙ ap (λ (l : List ℕ). get_or l (length gap + k) 0) q.gap.bytes
      ∙ get_or-append-add gap (drop (length gap) (back (at - from) t z)) k 0
      ∙ get_or-drop (length gap) (back (at - from) t z) k 0
      ∙ ap (λ (n : ℕ). get_or (back (at - from) t z) n 0) d
      ∙ back_above (at - from) t z k in-text)

  gap-spelt : Spells (letters used t') used gap
  gap-spelt =
      spells-take used (length gap) t' gap
      (ap (take (length gap)) q.gap.bytes ∙ take_at gap (drop (length gap) (back (at - from) t z)) (length gap) refl) refl

  gap-text : (hi : ℕ) → used + (at - from) ≤ hi → TextAt (letters used t') used hi (get_or x' 2 0) (get_or x' 3 0) gap
  gap-text hi l =
      let u : get_or x' 2 0 ≡ used = q.item.key in
      let v : get_or x' 3 0 ≡ at - from = q.item.keylen in
      record { from = omega arith; upto = omega arith; size = v ∙ sym gap-long; bytes = rw u gap-spelt }

  -- what stands behind stays, with the bounds that are wanted
  grown : (hi : ℕ) → 2 * f.next.at.0 ≤ hi → Grown (letters (used + (at - from)) z) (letters used t') (used + (at - from)) (2 * f.next.at.0) used hi
  grown hi l = record { low = omega arith; high = l; text = λ o u v. after-gap o u }

  size_is : get_or x' 1 0 ≡ f.items - items
  size_is = q.item.size

  shown : (nd : Node) (hi : ℕ) → 2 * f.next.at.0 ≤ hi
      → Shown (numbers y) (letters (used + (at - from)) z) (used + (at - from)) (2 * f.next.at.0) Free 16 (16 + f.kind) f.text.0 f.size.0 f.number 0 (f.items - items - 1) nd
      → Shown (numbers x') (letters used t') used hi Free 16 (get_or x' 0 0) (get_or x' 4 0) (get_or x' 5 0) (get_or x' 7 0) 1 (0 + get_or x' 1 0) nd
  shown nd hi l h =
      move-shown Free (numbers y) (numbers x') (grown hi l) 1 nd 16 (16 + f.kind) f.text.0 f.size.0 f.number 0 (f.items - items - 1)
      (get_or x' 0 0) (get_or x' 4 0) (get_or x' 5 0) (get_or x' 7 0) 1 (0 + get_or x' 1 0) q.item.kind q.item.text q.item.textlen q.item.number
      (omega arith) (omega (arith, size_is, p.reached.more))
      (λ k u v. let e : k + 8 * 1 ≡ k + 8 = omega arith in sym (ap (λ (n : ℕ). get_or x' n 0) e ∙ behind k)) h

  module _ {longer : Run} {used' : ℕ} (add : AddIs run f.kind at longer) (low : f.kind ≤ 5 → used' ≡ f.text.0 + f.size.0)
      (high : 5 < f.kind → used' ≡ 2 * f.next.at.0) where
    -- behind a piece that is no simple one the text part is used up to the piece's end
    abbrev Told : Part → Type 0
    Told part =
        (used ≤ used') × (used' ≤ 2 * f.next.at.0) × Follows (letters used t') from f.next.at.0 used used' gap part
        × PiecesAt (numbers x') (letters used t') used used' Free 0 (f.items - items) (with_part at gap part no_pieces)

    last : 0 + get_or x' 1 0 ≡ f.items - items
    last = omega (arith, size_is)

    sized : (1 ≤ get_or x' 1 0) × (0 + get_or x' 1 0 ≤ f.items - items)
    sized = (omega (arith, size_is, p.reached.more), omega (arith, size_is))

    far : 2 * at ≤ 2 * f.next.at.0
    far = omega (arith, p.reached.forward)

    container : (nd : Node) → 5 < f.kind → Follows (letters used t') from f.next.at.0 used used' gap (node nd)
        → PartAt (numbers y) (letters (used + (at - from)) z) (used + (at - from)) (2 * f.next.at.0) at f 0 (f.items - items - 1) (node nd) → Told (node nd)
    container nd k o h =
        let e : used' ≡ 2 * f.next.at.0 = high k in (
          omega (arith, a.before, a.forward, far),
          omega arith,
          o,
          (
            sized,
            gap-text used' (omega (arith, a.before, a.forward, far)),
            q.item.place,
            shown nd used' (omega arith) h,
            last,
          ),
        )

    told : (part : Part) → KindIs f.kind part
        → PartAt (numbers y) (letters (used + (at - from)) z) (used + (at - from)) (2 * f.next.at.0) at f 0 (f.items - items - 1) part → Told part
    told (node (simple v)) k h =
        let c : f.kind ≤ 5 = omega (arith, code-small v) in
        let e : used' ≡ f.text.0 + f.size.0 = low c in
        let w : f.text.0 ≡ used + (at - from) = p.front c in
        let m = h.1 in
        let g : used + length gap ≡ f.text.0 = omega (arith, gap-long) in
        let moved = shown (simple v) (2 * f.next.at.0) (omega arith) h in (
          omega (arith, m.size),
          omega (arith, m.upto),
          (
            omega (arith, gap-long, m.size),
            gap-spelt,
            rw (g, sym q.item.text) moved.1.bytes,
            omega (arith, gap-long, m.size, p.short c),
          ),
          (
            sized,
            gap-text used' (omega (arith, m.size)),
            q.item.place,
            (
              moved.0,
              record {
                from = moved.1.from;
                upto = omega (arith, q.item.text, q.item.textlen);
                size = moved.1.size;
                bytes = moved.1.bytes;
              },
              moved.2,
            ),
            last,
          ),
        )
    told (node (array es)) k h = container (array es) (omega arith) tt h
    told (node (object fs)) k h = container (object fs) (omega arith) tt h
    told (node (unresolved b ps)) k h = absurd k
    told (substitution v) k h =
        let e : used' ≡ 2 * f.next.at.0 = high (omega (arith, reference-large v.optional)) in
        let r = h.0 in
        let i : get_or x' 1 0 ≡ 1 = omega (arith, size_is, h.1, p.reached.more) in (
          omega (arith, a.before, a.forward, far),
          omega arith,
          tt,
          (
            sized,
            gap-text used' (omega (arith, a.before, a.forward, far)),
            q.item.place ∙ sym h.2,
            record {
              kind = q.item.kind ∙ r.kind;
              count = q.item.number ∙ r.count;
              size = q.item.textlen ∙ r.size;
              path = move-text (grown used' (omega arith)) q.item.text (omega (arith, q.item.textlen, q.item.number)) r.path;
            },
            i,
            last,
          ),
        )

    pub more-read : MoreRead s at from used run left items x' t' f.next f.items longer used'
    more-read =
        let m = told p.part p.kind p.held in
        record {
          start = p.start;
          starts = p.starts;
          part = p.part;
          is = p.is;
          reached = p.reached;
          kind = f.kind;
          kinded = p.kind;
          added = add;
          forward = m.0;
          before = m.1;
          follows = m.2;
          held = m.3;
        }
