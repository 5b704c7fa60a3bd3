use Rattle.std.proofs.Common.{ℕ, List, ap, slice_index_or}
use Rattle.level_totals.specs.Stripes.{stripe_of}
use Rattle.phase_workers.proofs.Striped.{saw_more, saw_tile, kept_all}
use Rattle.phase_workers.proofs.working.carry_out.Goals as goal

pub returns-clause-number : goal.returns-clause-number
returns-clause-number g c = ap (λ (numbers : List ℕ). slice_index_or numbers 0 0) c.post-after.ensures.numbers

pub returns-clause-seen : goal.returns-clause-seen
returns-clause-seen g c = saw_more _ _ _ _ _ c.post-after.ensures.seen c.post-after.ensures.others

pub returns-clause-there : goal.returns-clause-there
returns-clause-there g c = saw_tile c.post-after.result.0 (stripe_of c.args.level.now.plan.tiles c.args.tile) c.args.tile c.args.pass c.post-after.result.1 c.post-after.ensures.seen

pub returns-clause-kept : goal.returns-clause-kept
returns-clause-kept g c = kept_all _ _ _ _ _ c.post-after.ensures.own c.post-after.ensures.others
