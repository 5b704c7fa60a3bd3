use Rattle.std.proofs.Common.{◌≡◌, ◌*◌, sym, ◌∙◌, subst, take, arith}
use Rattle.std.proofs.lemmas.List.{take_all}
use Rattle.definitions.specs.Words.{word_bytes}
use Rattle.definitions.proofs.WordLaws.{part_is}
use Rattle.definitions.proofs.plain_words.part.Goals as goal

pub returns : goal.returns
returns c = record {
  value =
      let last : c.loop-k.k ≡ 8 = omega arith in
      let written = subst (λ k. take (4 * k) c.loop-k.bytes ≡ word_bytes k c.args.seed.now c.args.stream c.args.place) last c.loop-k.invariant.written in
      sym (take_all 32 c.loop-k.bytes (omega arith)) ∙ written ∙ part_is c.args.seed.now c.args.stream c.args.place;
}
