use Rattle.std.proofs.Common.{◌≡◌, ◌*◌, take}
use Rattle.idpf_gen.specs.Made.{made_zero, made_one}
use Rattle.generation_lanes.proofs.lists.pair_lists_of.Given as goal

abbrev pub invariant-loop-block : goal.invariant-loop-block
invariant-loop-block l = record {
  zeros : l.zeros.items ≡ made_zero l.master l.tag l.line (take (64 * l.block) l.strings);
  ones : l.ones.items ≡ made_one l.master l.tag l.line (take (64 * l.block) l.strings);
}
