-- The laws of one piece more with the whitespace before it.
use mathlib.Core.Path.{◌≡◌, ◌∙◌}
use mathlib.Core.List.{List}
use Rattle.std.specs.Prelude.{Result, Ok, Err}
use Prim.Native.Nat.{ℕ, ◌-◌}
use native.Mathlib.Omega.{arith}
use lib.ListN.{length}
use lib.Seq.{slice, length-slice}
use Rattle.rules.specs.Paths.{Element}
use Rattle.text_elements.specs.Segments.Model.{state, SplitAsked, SplitIs}
use Rattle.text_elements.specs.Segments.Holding.{Holds}
use Rattle.text_elements.specs.Segments.Pieces.{split_to, piece_to}
use Rattle.text_elements.specs.Segments.Joining.{SegmentAsked, Reads, SegmentIs, AdvanceAsked, Advances, AdvanceIs}
use Rattle.text_chars.specs.declared.Refusal.{Refusal}
use Rattle.text_elements.specs.declared.Path.{Path}
use Rattle.text_elements.specs.declared.segments.Segment.{Segment as SegmentRead}
use Rattle.text_elements.specs.Segments.Keeping.{holds-split}

module _ {s : List ℕ} {from at : ℕ} {p : Path} {out marks : List ℕ} (a : AdvanceAsked s from at p out marks) where
  pub asks-gap : SplitAsked s from at p out marks
  asks-gap = record {
    forward = a.forward;
    inside = a.inside;
    short = a.short;
    room = omega (arith, a.room, a.inside);
    few = a.few;
    marks-room = a.marks-room;
  }

  module _ {q : Path} {out₁ marks₁ : List ℕ} (k : SplitIs s from at p out marks out₁ marks₁ q) where
    pub asks-segment : SegmentAsked s at q out₁ marks₁
    asks-segment = record {
      short = a.short;
      inside = a.inside;
      begins = a.begins;
      room = omega (arith, k.more-text, k.same_out, a.room);
      near = omega (arith, k.more-text, a.near);
      few = omega (arith, k.more-count, a.few);
      marks-room = omega (arith, k.same-marks, a.marks-room);
    }

    gap-holds : (es : List Element) (e : Element) → Holds (state p out marks) es e
        → Holds (state q out₁ marks₁) (split_to es e from (slice from at s)).0 (split_to es e from (slice from at s)).1
    gap-holds es e h =
        let l : length (slice from at s) ≡ at - from = length-slice from at s a.inside in
        rw k.is (holds-split (slice from at s) (state p out marks) es e from h (omega (arith, a.room, a.forward, a.inside)) a.marks-room)

    advances : (out' marks' : List ℕ) (r : Result SegmentRead Refusal) → Reads s at q out₁ marks₁ out' marks' r → Advances s from at p out marks out' marks' r
    unfolding piece_to
    advances out' marks' (Ok z) t = (
      t.0,
      t.1,
      t.2,
      t.3,
      record {
        more-text = omega (arith, k.more-text, t.4.more-text);
        more-count = omega (arith, k.more-count, t.4.more-count);
        same_out = t.4.same_out ∙ k.same_out;
        same-marks = t.4.same-marks ∙ k.same-marks;
      },
      λ es e h. t.5 (split_to es e from (slice from at s)).0 (split_to es e from (slice from at s)).1 (gap-holds es e h),
    )
    advances out' marks' (Err x) t = (t.0, t.1, t.2, t.3, t.4 ∙ k.same_out, t.5 ∙ k.same-marks)

    pub advance-is : {out' marks' : List ℕ} {r : Result SegmentRead Refusal} → SegmentIs s at q out₁ marks₁ out' marks' r → AdvanceIs s from at p out marks out' marks' r
    advance-is {out'} {marks'} {r} t = record { is = advances out' marks' r t.is }

pub ruleset advances-so = (asks-gap, asks-segment, advance-is)
