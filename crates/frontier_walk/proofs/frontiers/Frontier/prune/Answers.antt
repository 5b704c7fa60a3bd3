use Rattle.std.proofs.Common.{rules, ◌≡◌, ◌≢◌, ◌+◌, ◌*◌, ◌≤◌, ◌<◌, sym, ◌∙◌, ap, subst, length, arith}
use Rattle.std.specs.List.{All}
use Rattle.walk_definitions.specs.Walk.{survivors, children}
use Rattle.prefix_bits.specs.declared.TheConstants.{MOST_BITS}
use Rattle.frontier_walk.specs.Frontiers.{IsFrontier}
use Rattle.frontier_walk.proofs.Survivors.{has-room, is-following}
use Rattle.frontier_walk.proofs.frontiers.Frontier.prune.Goals as goal
use Rattle.frontier_walk.proofs.frontiers.Frontier.prune.Goals.{else-not-is_last-via-then-not-is_last+else-wanted-self, else-not-is_last-via-else-not-is_last}

pub children-requires : goal.children-requires
children-requires c =
    let before : c.self.inside.level ≢ c.self.inside.bits = λ e. search rules in
    let found : c.deref.result.now ≡ survivors c.args.threshold c.self.inside.candidates c.args.totals.now =
    c.deref.ensures.value ∙ c.in_ok-heavy.ensures.value ∙ ap (λ qs. survivors c.args.threshold qs c.args.totals.now) c.as_slice-2.ensures.same in
    record {
      room = subst (λ hs. All (λ h. length h.prefix < MOST_BITS) hs) (sym found)
          (has-room MOST_BITS c.self.inside.bits c.self.inside.cap c.self.inside.level c.args.threshold c.self.inside.candidates c.args.totals.now c.self.invariant before);
    }

pub invariant_of-result : goal.invariant_of-result
invariant_of-result c =
    let before : c.self.inside.level ≢ c.self.inside.bits = λ e. search rules in
    let heavy = survivors c.args.threshold c.self.inside.candidates c.args.totals.now in
    let counted : c.survivor_count-wanted.result ≡ length heavy =
    c.survivor_count-wanted.ensures.value ∙ ap (λ qs. length (survivors c.args.threshold qs c.args.totals.now)) c.as_slice.ensures.same in
    let found : c.deref.result.now ≡ heavy =
    c.deref.ensures.value ∙ c.in_ok-heavy.ensures.value ∙ ap (λ qs. survivors c.args.threshold qs c.args.totals.now) c.as_slice-2.ensures.same in
    let next : c.from_vec.result ≡ children heavy = c.from_vec.ensures.same ∙ c.in_ok-candidates.ensures.value ∙ ap (λ hs. children hs) found in
    let enough : 2 * length heavy ≤ c.self.inside.cap =
    elim c.else-not-is_last.branch [
      | else-not-is_last-via-then-not-is_last+else-wanted-self w ↦ omega (arith, counted)
      | else-not-is_last-via-else-not-is_last w ↦ absurd (search rules)
    ] in
    subst (IsFrontier MOST_BITS c.self.inside.bits c.self.inside.cap (c.self.inside.level + 1)) (sym next)
    (is-following MOST_BITS c.self.inside.bits c.self.inside.cap c.self.inside.level c.args.threshold c.self.inside.candidates c.args.totals.now c.self.invariant before enough)
