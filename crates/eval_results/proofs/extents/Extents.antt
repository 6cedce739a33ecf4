-- Why `with_more` keeps what it promises.
use mathlib.Core.Path.{ap}
use Prim.Native.Nat.{ℕ, ◌≤◌, ◌<◌, max}
use mathlib.Core.Path.{◌≡◌}
use native.Mathlib.Omega.{arith}
use Rattle.eval_results.specs.Extents.Contracts.{MoreIs}
use Rattle.eval_results.specs.declared.extents.Extent.{Extent}

deep-same : {e m : Extent} {d : ℕ} → d ≡ max e.deep m.deep → MoreIs e m (record { out = m.out; deep = d })
deep-same {e} {m} {d} h = record { is = ap (λ (n : ℕ). record { out = m.out; deep = n }) h }

pub more-later : {e m : Extent} → e.deep < m.deep → MoreIs e m (record { out = m.out; deep = m.deep })
more-later h = deep-same (omega arith)

pub more-earlier : {e m : Extent} → m.deep ≤ e.deep → MoreIs e m (record { out = m.out; deep = e.deep })
more-earlier h = deep-same (omega arith)

pub ruleset more-laws = (more-later, more-earlier)
