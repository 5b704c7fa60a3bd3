use Rattle.std.proofs.Common.{◌≡◌, ◌≤◌, ◌*◌, ◌^◌, take}
use Rattle.std.specs.List.{sum_by}
use Rattle.file_find.proofs.texts.sum_of_counts.Given as goal

abbrev pub invariant-loop-string : goal.invariant-loop-string
invariant-loop-string l = record {
  counted : l.sum ≡ sum_by (λ h. h.count) (take l.string-index l.heavy);
  small : l.sum ≤ l.string-index * 2 ^ 64;
}
