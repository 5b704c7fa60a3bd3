use Rattle.std.proofs.Common.{◌≡◌, ℕ, List, ◌∙◌, ap, subst, cond, Some, None}
use Rattle.std.specs.BTreeMap.{get}
use Rattle.std.specs.Ordering.{is_eq}
use Rattle.report_batch.specs.Contents.{met}
use Rattle.intake_state.proofs.Orders.{id_cmp}
use Rattle.report_batch.proofs.Entered.{entered}
use Rattle.report_batch.proofs.contents.contents_of.Goals as goal

pub loop-share-preserved : goal.loop-share-preserved
loop-share-preserved c =
    let named : c.share.inside.id ≡ c.in-Some.share.id = ap (λ s. s.id) c.share.view_is in
    record {
      so_far = entered (get id_cmp c.loop-share.contents) (get id_cmp c.remove-before.new.self) (get id_cmp c.insert.new.self)
          c.loop-share.yielded c.in-Some.share c.met.result c.loop-share.invariant.so_far
          (subst (λ (i : List ℕ). (q : List ℕ) → get id_cmp c.remove-before.new.self q ≡ cond (is_eq (id_cmp i q)) None (get id_cmp c.loop-share.contents q)) named c.remove-before.ensures.updates.0)
          (subst (λ (i : List ℕ). (q : List ℕ) → get id_cmp c.insert.new.self q ≡ cond (is_eq (id_cmp i q)) (Some c.met.result) (get id_cmp c.remove-before.new.self q)) named c.in_ok-insert.ensures.updates.0)
          (c.met.ensures ∙ ap (λ o. met o c.in-Some.share) (c.remove-before.ensures.value ∙ ap (get id_cmp c.loop-share.contents) named));
      ordered = c.insert.ensures.ordered;
    }
