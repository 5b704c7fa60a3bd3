use Rattle.std.proofs.Common.{◌≡◌, ◌+◌, ◌++◌, drop}
use Rattle.definitions.specs.Generation.{words0, words1, start, joint_correlation}
use Rattle.idpf_gen.proofs.pairs.words_of.Given as goal

abbrev pub invariant-loop-place : goal.invariant-loop-place
invariant-loop-place g l = record {
  zero : words0 (start l.coins) l.alpha l.coins.levels ≡ l.zero.items ++ words0 l.path (drop l.place l.alpha) (drop l.place l.coins.levels);
  one : words1 (joint_correlation l.coins) 1 (start l.coins) l.alpha l.coins.levels
      ≡ l.one.items ++ words1 (joint_correlation l.coins) (l.place + 1) l.path (drop l.place l.alpha) (drop l.place l.coins.levels);
}
