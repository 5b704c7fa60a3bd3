use Rattle.seed_lanes.proofs.LaneLaws.{shifts_rotate}
use Rattle.seed_lanes.proofs.rounds.xor_rotate.Goals as goal

pub returns : goal.returns
returns c = shifts_rotate c.args.k c.requires.0 c.requires.1 8 c.args.a c.args.b c.fits-a.0 c.fits-b.0
