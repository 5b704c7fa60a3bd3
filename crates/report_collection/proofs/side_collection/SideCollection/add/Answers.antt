use Rattle.std.proofs.Common.{rules, ◌≡◌, true}
use Rattle.std.proofs.lemmas.Bool.{OnTrue_at}
use Rattle.report_collection.proofs.Seats.{lists, adds_none, dealt_some, dealt_all, on_err}
use Rattle.report_collection.proofs.side_collection.SideCollection.add.Goals as goal

pub returns-in_err-queues-clause-part : goal.returns-in_err-queues-clause-part
returns-in_err-queues-clause-part g c = on_err c.from_residual.result _ (adds_none c.args.self.now.shares c.args.shares.items)

pub returns-then-not-upload-clause-part : goal.returns-then-not-upload-clause-part
returns-then-not-upload-clause-part g c =
    dealt_some c.args.self.now.shares c.args.shares.items (lists c.in_ok-queues.queues.items) c.upload.new.self.shares c.in_ok-queues.ensures.all c.upload.ensures.some

pub returns-clause-added : goal.returns-clause-added
returns-clause-added g c =
    let whole : c.upload.result ≡ true = search rules in
    dealt_all c.args.self.now.shares c.args.shares.items (lists c.in_ok-queues.queues.items) c.upload.new.self.shares c.in_ok-queues.ensures.all
    (OnTrue_at whole c.upload.ensures.all)
