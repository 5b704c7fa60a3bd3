use Rattle.std.proofs.Common.{sym, ◌∙◌, ap}
use Rattle.std.specs.BTreeMap.{get}
use Rattle.std.proofs.lemmas.Map.Iter.{rest_more, rest_all}
use Rattle.report_batch.specs.Contents.{both}
use Rattle.intake_state.proofs.Orders.{id_cmp}
use Rattle.report_batch.proofs.Joining.{joins-start, joins-more, joins-same, joined-batch}
use Rattle.report_batch.proofs.batching.batch_of.Goals as goal

pub loop-id-init : goal.loop-id-init
loop-id-init c =
    let joins = joins-start c.args.zero.items c.args.one.items c.in_ok-contents.contents (get id_cmp c.in_ok-others.others) c.into_iter-id-iterator.result
    c.into_iter-id-iterator.ensures.into_iter_gives.0 c.in_ok-contents.ensures.ordered c.in_ok-contents.ensures.contents c.in_ok-others.ensures.contents in
    rw (c.new-ids.ensures.items, c.new-zeros.ensures.items, c.new-ones.ensures.items) joins

pub loop-id-preserved-in-Continue-branch-5 : goal.loop-id-preserved-in-Continue-branch-5
loop-id-preserved-in-Continue-branch-5 c =
    let joins = joins-more c.args.zero.items c.args.one.items c.loop-id.ids.items c.loop-id.zeros.items c.loop-id.ones.items
    (get id_cmp c.loop-id.others) (get id_cmp c.remove.new.self) c.in-Some.id c.in-Some.content c.loop-id.id-iterator c.next.new.self
    c.in-Some-both.held0 c.in-Some-both.held1 c.loop-id.invariant (rest_more _ _ _ _ _ c.in-Some.is c.next.ensures.steps) c.remove.ensures.updates.0
    (ap (both c.in-Some.content) (sym c.remove.ensures.value) ∙ sym c.both.ensures ∙ c.in-Some-both.is) in
    rw (c.in_ok-push.ensures.items, c.in_ok-push-2.ensures.items, c.in_ok-push-3.ensures.items) joins

pub loop-id-preserved : goal.loop-id-preserved
loop-id-preserved c =
    joins-same c.args.zero.items c.args.one.items c.loop-id.ids.items c.loop-id.zeros.items c.loop-id.ones.items
    (get id_cmp c.loop-id.others) (get id_cmp c.remove.new.self) c.in-Some.id c.in-Some.content c.loop-id.id-iterator c.next.new.self
    c.loop-id.invariant (rest_more _ _ _ _ _ c.in-Some.is c.next.ensures.steps) c.remove.ensures.updates.0
    (ap (both c.in-Some.content) (sym c.remove.ensures.value) ∙ sym c.both.ensures ∙ c.in_default.is)

pub of_lists-requires : goal.of_lists-requires
of_lists-requires c =
    rw (c.from_vec.ensures.same, c.from_vec-2.ensures.same, c.from_vec-3.ensures.same)
    (joined-batch c.args.zero.items c.args.one.items c.loop-id.ids.items c.loop-id.zeros.items c.loop-id.ones.items
    (get id_cmp c.loop-id.others) c.loop-id.id-iterator c.loop-id.invariant (rest_all _ _ _ _ c.in-None.is c.next.ensures.steps))
