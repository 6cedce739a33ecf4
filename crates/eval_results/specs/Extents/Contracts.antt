-- What the functions promise.
use Rattle.std.specs.Prelude.{◌≡◌, ℕ, ◌+◌, ◌-◌, ◌≤◌, min, max}
use Rattle.eval_writer.specs.declared.Out.{Out}
use Rattle.eval_results.specs.declared.extents.Extent.{Extent}

-- Counters end here: copying may begin from them, and they are far above any value's size.
abbrev pub far : ℕ
far = 4294967296

-- counters that are not past it
pub record NotPast (o : Out) : Type 0 where
  pub rec : o.rec.0 ≤ far
  pub text : o.text.0 ≤ far

pub record ClipOutIs (o r : Out) : Type 0 where
  pub rec : r.rec.0 ≡ min far o.rec.0
  pub text : r.text.0 ≡ min far o.text.0

pub record ClipIs (o : Out) (d : ℕ) (r : Extent) : Type 0 where
  pub out : ClipOutIs o r.out
  pub deep : r.deep ≡ min far d

-- how long the members are that go up to an end, behind the head at o
abbrev pub inside_c : Out → Out → ℕ
inside_c o end = end.rec.0 - (o.rec.0 + 3)

-- one member more: as far as the later one, as deep as the deeper one
abbrev pub more_c : Extent → Extent → Extent
more_c e m = record { out = m.out; deep = max e.deep m.deep }

pub record MoreIs (e m r : Extent) : Type 0 where
  pub is : r ≡ more_c e m

pub record Bounded (e : Extent) : Type 0 where
  pub out : NotPast e.out
  pub deep : e.deep ≤ far
