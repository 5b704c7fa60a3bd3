use Rattle.std.proofs.Common.{◌-◌}
use Rattle.pair_run.proofs.walking.+walk_from.Given as goal

abbrev pub decreases-walk_from : goal.decreases-walk_from
decreases-walk_from g l = l.frontier.bits - l.frontier.level
