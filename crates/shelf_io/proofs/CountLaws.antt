-- Counts that rose stay risen, and causes go on through later calls.
use Rattle.std.proofs.Common.{ℕ, ◌≤◌, arith}
use Rattle.std.specs.Prelude.{Result, Ok, Err}
use Rattle.shelf_io.specs.declared.refused.Refused.{Refused}
use Rattle.shelf_io.specs.Faults.{Rose, HasCause}

-- a count that rose and then did not fall
pub rose_then_later : (before mid now : ℕ) → Rose before mid → mid ≤ now → Rose before now
rose_then_later before mid now rose later = omega (arith, rose, later)

-- a count that did not fall and then rose
pub later_then_rose : (before mid now : ℕ) → before ≤ mid → Rose mid now → Rose before now
later_then_rose before mid now later rose = omega (arith, later, rose)

-- a call's cause, over what came before it
pub cause_after_later : {T : Type 0} (before mid now : ℕ) (result : Result T Refused) → before ≤ mid → HasCause mid now result → HasCause before now result
cause_after_later before mid now (Ok x) later cause = record { later = omega (arith, later, cause.later); failed = tt }
cause_after_later before mid now (Err e) later cause = record {
  later = omega (arith, later, cause.later);
  failed = λ is. later_then_rose before mid now later (cause.failed is);
}

-- a call's cause, over what came after it
pub cause_then_later : {T : Type 0} (before mid now : ℕ) (result : Result T Refused) → HasCause before mid result → mid ≤ now → HasCause before now result
cause_then_later before mid now (Ok x) cause later = record { later = omega (arith, later, cause.later); failed = tt }
cause_then_later before mid now (Err e) cause later = record {
  later = omega (arith, later, cause.later);
  failed = λ is. rose_then_later before mid now (cause.failed is) later;
}
