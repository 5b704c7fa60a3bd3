use Rattle.std.proofs.Common.{◌≡◌, length, map, take}
use Rattle.idpf_gen.specs.LevelWords.{kept_seed0, kept_seed1}
use Rattle.generation_lanes.specs.Growing.{bit_next}
use Rattle.generation_lanes.proofs.level.correct.Given as goal

abbrev pub invariant-loop-k : goal.invariant-loop-k
invariant-loop-k l = record {
  same0 : length l.seeds0 ≡ length l.lines;
  same1 : length l.seeds1 ≡ length l.lines;
  zero : take l.k l.seeds0 ≡ map (λ p. kept_seed0 p.path (bit_next p)) (take l.k l.lines);
  one : take l.k l.seeds1 ≡ map (λ p. kept_seed1 p.path (bit_next p)) (take l.k l.lines);
}
