use Rattle.std.proofs.Common.{arith}
use Rattle.definitions.proofs.WordLaws.{seed_xor_by_index}
use Rattle.definitions.proofs.plain_words.xor.Goals as goal

pub returns : goal.returns
returns c = record {
  value =
      seed_xor_by_index c.args.left.now c.args.right.now c.loop-k.byte-items
      (omega arith) (omega arith)
      (λ j p. c.loop-k.invariant.done j (omega arith));
}
