use Rattle.std.proofs.Common.{◌≡◌, ◌-◌, length}
use Rattle.idpf_lanes.proofs.Parting.{AreParted}
use Rattle.idpf_lanes.proofs.fronts.fronts_of.Given as goal

abbrev pub invariant-loop-k : goal.invariant-loop-k
invariant-loop-k l = record {
  same : length l.fronts ≡ length l.initial.fronts;
  places : length l.places ≡ length l.prefixes;
  parted : AreParted (l.level - 1) l.prefixes l.fronts l.places l.made l.k;
}
