-- Counts of faults, and when a call may say that it failed.
use Rattle.std.specs.Prelude.{◌≡◌, ℕ, ◌+◌, ◌-◌, ◌≤◌, ◌^◌, min, Result, IfErr}
use Rattle.shelf_io.specs.declared.refused.Refused.{Refused}
use Rattle.shelf_io.specs.declared.refused.Refused.TheVariants.{Failed}

-- the greatest count: a counter that stands here counts as risen
abbrev pub last_count : ℕ
last_count = 2 ^ 64 - 1

-- the count has risen, or stands at its end
abbrev pub Rose : ℕ → ℕ → Type 0
Rose before now = min (before + 1) last_count ≤ now

-- what a call's answer says of the count before it and after it: the count did not fall, and a Failed comes only where it rose
pub record HasCause {T : Type 0} (before now : ℕ) (result : Result T Refused) : Type 0 where
  pub later : before ≤ now
  pub failed : IfErr result (λ e. e ≡ Failed → Rose before now)
