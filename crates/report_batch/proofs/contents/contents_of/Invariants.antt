use Rattle.std.proofs.Common.{◌≡◌, ℕ, List}
use Rattle.std.specs.Ordering.{nat_cmp}
use Rattle.std.specs.Cmp.Lexicographic.{slice_cmp}
use Rattle.std.specs.BTreeMap.{get, IsOrdered}
use Rattle.report_batch.specs.Contents.{content_of}
use Rattle.report_batch.proofs.contents.contents_of.Given as goal

abbrev pub invariant-loop-share : goal.invariant-loop-share
invariant-loop-share l = record {
  so_far : (id : List ℕ) → get (slice_cmp nat_cmp) l.contents id ≡ content_of l.yielded id;
  ordered : IsOrdered (slice_cmp nat_cmp) l.contents;
}
