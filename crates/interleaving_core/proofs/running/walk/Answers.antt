use Rattle.prefix_bits.specs.declared.TheConstants.{MOST_BITS}
use Rattle.interleaving_core.proofs.Walked.{walk-begins}
use Rattle.interleaving_core.proofs.running.walk.Goals as goal

pub phases-init : goal.phases-init
phases-init c =
    walk-begins MOST_BITS c.args.settings.now c.requires.usable c.args.batch (record { walked = c.in_ok-begin.field-0; zero = c.new.result; one = c.new-2.result }) c.args.events.now
    c.in_ok-begin.ensures c.new.ensures.items c.new-2.ensures.items c.requires.levels c.requires.small
