use Rattle.std.proofs.Common.{◌≡◌, ◌≤◌, length, take}
use Rattle.text_strings.specs.Shown.{without_end_zeros}
use Rattle.text_strings.proofs.cuts.without_end_zeros.Given as goal

abbrev pub invariant-loop-end : goal.invariant-loop-end
invariant-loop-end l = record {
  within : l.end ≤ length l.bytes;
  cut : without_end_zeros (take l.end l.bytes) ≡ without_end_zeros l.bytes;
}

abbrev pub decreases-loop-end : goal.decreases-loop-end
decreases-loop-end l = l.end
