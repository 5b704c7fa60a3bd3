use Rattle.std.proofs.Common.{rules, arith}
use Rattle.node_growth.proofs.Filling.{filled_more}
use Rattle.idpf_gen.specs.LevelWords.{kept_seed0, kept_seed1}
use Rattle.generation_lanes.specs.Growing.{Growing, bit_next}
use Rattle.generation_lanes.proofs.level.correct.Goals as goal

pub loop-k-preserved : goal.loop-k-preserved
loop-k-preserved c = record {
  same0 = search rules;
  same1 = search rules;
  zero =
      filled_more (λ (p : Growing). kept_seed0 p.path (bit_next p)) c.args.lines.now c.loop-k.seeds0 c.loop-k.k _ _ _ (omega arith) (omega arith)
      c.loop-k.invariant.zero c.index-lines-k.is c.kept_seeds-seed0.ensures.zero;
  one =
      filled_more (λ (p : Growing). kept_seed1 p.path (bit_next p)) c.args.lines.now c.loop-k.seeds1 c.loop-k.k _ _ _ (omega arith) (omega arith)
      c.loop-k.invariant.one c.index-lines-k.is c.kept_seeds-seed0.ensures.one;
}
