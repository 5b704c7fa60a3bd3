use Rattle.std.proofs.Common.{◌≡◌, take, map}
use Rattle.definitions.specs.Sketch.{partial_sums_from}
use Rattle.phase_state.specs.Sums.{coins_of, nodes_of, share_at}
use Rattle.half_events.proofs.parts.sketch_part.Given as goal

abbrev pub invariant-loop-report : goal.invariant-loop-report
invariant-loop-report l =
    l.sums.items ≡ map (λ s. partial_sums_from (coins_of l.plan.verify l.plan.level s) l.c0
    (map (λ q. (nodes_of l.plan.side s q).d) l.candidates) (map (λ q. (nodes_of l.plan.side s q).e) l.candidates))
    (map (share_at l.plan.shares) (take l.report-index l.live))
