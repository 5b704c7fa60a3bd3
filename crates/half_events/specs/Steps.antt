-- The program's steps as the definitions' events of a side.
use Rattle.core_definitions.specs.Phase.{HalfEvent, claim, abandon, fill, evict, post, sweep}
use Rattle.half_events.specs.declared.steps.Step.{Step}
use Rattle.half_events.specs.declared.steps.Step.TheVariants as steps

abbrev pub step_of : Step → HalfEvent
step_of (steps.Claim worker) = claim worker
step_of (steps.Abandon worker) = abandon worker
step_of (steps.Fill report prefix) = fill report prefix
step_of (steps.Evict report prefix) = evict report prefix
step_of (steps.Post worker) = post worker
step_of steps.Sweep = sweep
