use Rattle.std.proofs.Common.{◌≡◌, sym, ◌∙◌, ap, length, arith}
use Rattle.definitions.proofs.WordLaws.{seed_xor_by_index}
use Rattle.seed_expand.proofs.expansion.xor.Goals as goal

pub returns : goal.returns
returns c = record {
  value =
      let left_long : length c.args.left.now ≡ 32 = sym (ap length c.left.view_is) ∙ c.left.told in
      let right_long : length c.args.right.now ≡ 32 = sym (ap length c.right.view_is) ∙ c.right.told in
      seed_xor_by_index c.args.left.now c.args.right.now c.loop-k.byte-items
      (c.loop-k-test.array_long ∙ sym left_long) (left_long ∙ sym right_long)
      (λ j p. c.loop-k.invariant.done j (omega arith));
}
