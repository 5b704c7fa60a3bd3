use Rattle.std.proofs.Common.{rules, ◌<◌, ◌≤◌, sym, ◌∙◌, ap, length}
use Rattle.std.specs.Prelude.{is_none}
use Rattle.half_events.proofs.Entries.{may-be}
use Rattle.half_events.proofs.halves.may_fill.Goals as goal

pub returns-in-Some : goal.returns-in-Some
returns-in-Some c =
    let below : c.args.report < length c.args.plan.now.shares = search rules in
    let some : 0 < length c.args.prefix.now = search rules in
    let most : length c.args.prefix.now ≤ c.args.bits = search rules in
    sym (ap is_none (sym c.find.ensures ∙ c.in-Some.is))
    ∙ may-be c.args.bits (length c.args.plan.now.shares) c.args.cache.now c.args.report c.args.prefix.now below some most

pub returns-in-None : goal.returns-in-None
returns-in-None c =
    let below : c.args.report < length c.args.plan.now.shares = search rules in
    let some : 0 < length c.args.prefix.now = search rules in
    let most : length c.args.prefix.now ≤ c.args.bits = search rules in
    sym (ap is_none (sym c.find.ensures ∙ c.in-None.is))
    ∙ may-be c.args.bits (length c.args.plan.now.shares) c.args.cache.now c.args.report c.args.prefix.now below some most
