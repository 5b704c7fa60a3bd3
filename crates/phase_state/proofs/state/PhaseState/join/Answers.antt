use Rattle.std.proofs.Common.{rules, ◌≡◌, ◌++◌, ◌∙◌, ap, sym, subst, length, vec_len, arith}
use Rattle.definitions.specs.Field.{add}
use Rattle.definitions.specs.Sketch.{sums_added}
use Rattle.walk_definitions.specs.Heard.{paired}
use Rattle.std.specs.Prelude.{◌||◌}
use Rattle.phase_state.specs.Logs.{AreApart}
use Rattle.phase_state.specs.Phases.{StateSeen}
use Rattle.phase_state.proofs.Lists.{written}
use Rattle.phase_state.proofs.Posts.{sums_count, totals_count}
use Rattle.phase_state.proofs.Joins.{same_sums_length, same_totals_length, room_for, joined, moved}
use Rattle.phase_state.proofs.state.PhaseState.join.Goals as goal

pub add_sums-requires : goal.add_sums-requires
add_sums-requires c =
    let same : c.other.inside.plan ≡ c.self.inside.plan = ap (λ (s : StateSeen). s.plan) c.other.view_is ∙ c.requires.plan ∙ sym (ap (λ (s : StateSeen). s.plan) c.self.view_is) in
    let apart : AreApart c.self.inside.log.items c.other.inside.log.items =
    subst (λ (s : StateSeen). AreApart s.log c.other.inside.log.items) (sym c.self.view_is) (subst (λ (o : StateSeen). AreApart c.args.self.now.log o.log) (sym c.other.view_is) c.requires.apart) in
    record { same = ap length c.as_mut_slice.ensures.value ∙ same_sums_length c.self.inside.plan c.other.inside.plan c.self.inside.log.items c.other.inside.log.items _ _ c.self.inside.marks.items c.other.inside.marks.items c.self.inside.sums.items c.other.inside.sums.items c.self.inside.totals.items c.other.inside.totals.items c.self.invariant c.other.invariant same apart ∙ sym (ap length c.as_slice.ensures.value) }

pub add_into-requires : goal.add_into-requires
add_into-requires c =
    let same : c.other.inside.plan ≡ c.self.inside.plan = ap (λ (s : StateSeen). s.plan) c.other.view_is ∙ c.requires.plan ∙ sym (ap (λ (s : StateSeen). s.plan) c.self.view_is) in
    let apart : AreApart c.self.inside.log.items c.other.inside.log.items =
    subst (λ (s : StateSeen). AreApart s.log c.other.inside.log.items) (sym c.self.view_is) (subst (λ (o : StateSeen). AreApart c.args.self.now.log o.log) (sym c.other.view_is) c.requires.apart) in
    record { lengths = ap length c.as_mut_slice-2.ensures.value ∙ same_totals_length c.self.inside.plan c.other.inside.plan c.self.inside.log.items c.other.inside.log.items _ _ c.self.inside.marks.items c.other.inside.marks.items c.self.inside.sums.items c.other.inside.sums.items c.self.inside.totals.items c.other.inside.totals.items c.self.invariant c.other.invariant same apart ∙ sym (ap length c.as_slice-2.ensures.value) }

pub unreachable-requires : goal.unreachable-requires
unreachable-requires c =
    let same : c.other.inside.plan ≡ c.self.inside.plan = ap (λ (s : StateSeen). s.plan) c.other.view_is ∙ c.requires.plan ∙ sym (ap (λ (s : StateSeen). s.plan) c.self.view_is) in
    let apart : AreApart c.self.inside.log.items c.other.inside.log.items =
    subst (λ (s : StateSeen). AreApart s.log c.other.inside.log.items) (sym c.self.view_is) (subst (λ (o : StateSeen). AreApart c.args.self.now.log o.log) (sym c.other.view_is) c.requires.apart) in
    let room = room_for c.self.inside.plan c.other.inside.plan c.self.inside.log.items c.other.inside.log.items _ _ c.self.inside.marks.items c.other.inside.marks.items c.self.inside.sums.items c.other.inside.sums.items c.self.inside.totals.items c.other.inside.totals.items c.self.invariant c.other.invariant same apart in
    let log : vec_len c.self.inside.log ≡ length c.self.inside.log.items = search rules in
    omega (arith, room, log, ap length c.as_slice-4.ensures.value, c.in_default.ensures.full)

pub invariant_of-self : goal.invariant_of-self
invariant_of-self c =
    let same : c.other.inside.plan ≡ c.self.inside.plan = ap (λ (s : StateSeen). s.plan) c.other.view_is ∙ c.requires.plan ∙ sym (ap (λ (s : StateSeen). s.plan) c.self.view_is) in
    let apart : AreApart c.self.inside.log.items c.other.inside.log.items =
    subst (λ (s : StateSeen). AreApart s.log c.other.inside.log.items) (sym c.self.view_is) (subst (λ (o : StateSeen). AreApart c.args.self.now.log o.log) (sym c.other.view_is) c.requires.apart) in
    let plan = c.self.inside.plan in
    let old = c.self.invariant in
    let after = joined c.self.inside.plan c.other.inside.plan c.self.inside.log.items c.other.inside.log.items _ _ c.self.inside.marks.items c.other.inside.marks.items c.self.inside.sums.items c.other.inside.sums.items c.self.inside.totals.items c.other.inside.totals.items c.self.invariant c.other.invariant same apart _ c.extend_from_slice.ensures.capacity in
    let items = c.in-Ok.ensures.items ∙ ap (λ l. c.self.inside.log.items ++ l) c.as_slice-4.ensures.value in
    let sums = c.add_sums.ensures ∙ (λ i. paired sums_added (c.as_mut_slice.ensures.value i) (c.as_slice.ensures.value i)) in
    let totals = c.add_into.ensures.value ∙ (λ i. paired add (c.as_mut_slice-2.ensures.value i) (c.as_slice-2.ensures.value i)) in
    let marks = c.mark_all.ensures ∙ (λ i. paired (λ a b. a || b) (c.as_mut_slice-3.ensures.value i) (c.as_slice-3.ensures.value i)) in
    let sums_long : c.self.inside.sums.len ≡ length c.self.inside.sums.items = search rules in
    let totals_long : c.self.inside.totals.len ≡ length c.self.inside.totals.items = search rules in
    let marks_long : c.self.inside.marks.len ≡ length c.self.inside.marks.items = search rules in
    let back_sums = written c.self.inside.sums.len c.add_sums.new.into c.self.inside.sums.items
    (ap length sums ∙ ap length after.sums_are ∙ sums_count plan _ ∙ sym (ap length old.sums_are ∙ sums_count plan _)) sums_long in
    let back_totals = written c.self.inside.totals.len c.add_into.new.into c.self.inside.totals.items
    (ap length totals ∙ ap length after.totals_are ∙ totals_count plan _ ∙ sym (ap length old.totals_are ∙ totals_count plan _)) totals_long in
    let back_marks = written c.self.inside.marks.len c.mark_all.new.into c.self.inside.marks.items (ap length marks ∙ after.long ∙ sym old.long) marks_long in
    moved plan _ _ _ _ _ _ _ _ _ items (back_marks ∙ marks) (back_sums ∙ sums) (back_totals ∙ totals) after
