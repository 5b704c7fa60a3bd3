-- A refusal of a level's pruning as an error of the walk.
use Rattle.frontier_walk.specs.declared.outcomes.PruneError.{PruneError}
use Rattle.frontier_walk.specs.declared.outcomes.PruneError.TheVariants.{Cap as TooMany, Memory as NoMemory}
use Rattle.pair_run.specs.declared.answers.PairError.{PairError}
use Rattle.pair_run.specs.declared.answers.PairError.TheVariants.{Cap, Memory}

abbrev pub cap_of : PruneError → PairError
cap_of (TooMany level wanted) = Cap level wanted
cap_of NoMemory = Memory
