use Rattle.std.proofs.Common.{◌≡◌, ◌<◌, sym, ap, ◌∙◌, subst}
use mathlib.Core.List.{IsPrefix}
use Rattle.std.specs.List.{AllByRecursion}
use Rattle.turn_lock.specs.Logs.{entries_of}
use Rattle.turn_lock.specs.Seats.{Knows}
use Rattle.turn_lock.specs.Ends.{EndingSeen}
use Rattle.turn_lock.proofs.Handing.{each_handed}
use Rattle.turn_lock.proofs.ending.Ending.end.Goals as goal

pub returns-clause-seen : goal.returns-clause-seen
returns-clause-seen g c =
    let H = g.S.Held in
    let log = H.log c.finish.result in
    subst (λ (e : EndingSeen g.row.S-Plan.Denot g.row.S-Entry.Denot). AllByRecursion (λ pass. IsPrefix pass.seen log) e.handed) c.self.view_is
    (each_handed c.self.inside.table.shared.table_id (Knows H.by (H.plan c.self.inside.table.shared.key.first.value) log) (λ pass. IsPrefix pass.seen log) (λ m knows. knows.1) c.self.inside.keeper.me.0.mine c.finish.ensures.known)

pub returns-clause-own : goal.returns-clause-own
returns-clause-own g c =
    let H = g.S.Held in
    let log = H.log c.finish.result in
    subst (λ (e : EndingSeen g.row.S-Plan.Denot g.row.S-Entry.Denot). AllByRecursion (λ pass. pass.own ≡ entries_of H.by pass.number log) e.handed) c.self.view_is
    (each_handed c.self.inside.table.shared.table_id (Knows H.by (H.plan c.self.inside.table.shared.key.first.value) log) (λ pass. pass.own ≡ entries_of H.by pass.number log) (λ m knows. knows.2) c.self.inside.keeper.me.0.mine c.finish.ensures.known)

pub returns-clause-entries : goal.returns-clause-entries
returns-clause-entries g c =
    let H = g.S.Held in
    let count = ap (λ (e : EndingSeen g.row.S-Plan.Denot g.row.S-Entry.Denot). e.passes) c.self.view_is ∙ sym c.requires.all in
    subst (λ n. AllByRecursion (λ entry. H.by entry < n) (H.log c.finish.result)) count c.finish.ensures.entries
