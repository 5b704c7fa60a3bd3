use Rattle.std.proofs.Common.{◌≡◌, ◌∙◌, ap}
use Rattle.report_collection.proofs.Seats.{same_batch}
use Rattle.report_collection.proofs.collect.Collect.seal.Goals as goal

pub returns : goal.returns
returns c =
    let h = c.in_ok-batch.ensures.histories in
    let own = c.a_history_is_the_passes_own_entries.ensures.own in
    let zero : _ ≡ c.args.self.zero = c.into_intake-zero.ensures.shares ∙ ap (λ s. s.zero) c.self.view_is in
    let one : _ ≡ c.args.self.one = c.into_intake-one.ensures.shares ∙ ap (λ s. s.one) c.self.view_is in
    record {
      exact = h.4 ∙ c.batches_know_no_order.ensures.batch _ _ _ _ (own _ _ h.2).1 (own _ _ h.3).1 ∙ same_batch _ _ _ _ zero one;
    }
