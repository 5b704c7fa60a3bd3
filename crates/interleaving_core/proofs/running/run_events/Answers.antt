use Rattle.std.proofs.Common.{subst}
use Rattle.prefix_bits.specs.declared.TheConstants.{MOST_BITS}
use Rattle.std.specs.Prelude.{IfSome}
use Rattle.interleaving_core.specs.Collections.{IsSealed}
use Rattle.interleaving_core.proofs.Following.{seal-follows}
use Rattle.interleaving_core.proofs.running.run_events.Goals as goal

pub returns-in-Some-clause-walks : goal.returns-in-Some-clause-walks
returns-in-Some-clause-walks c =
    seal-follows MOST_BITS c.args.settings.now c.requires.usable c.args.events.items c.collect.new.events c.in_ok-batch.field-0 c.in-Some.batch c.walk.result
    (subst (λ l. IfSome c.in_ok-batch.field-0 (IsSealed c.args.settings.now l c.collect.new.events)) c.of-queue.ensures c.in_ok-batch.ensures.some) c.in-Some.is c.walk.ensures
