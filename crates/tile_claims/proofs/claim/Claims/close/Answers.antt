use Rattle.std.proofs.Common.{rules, ◌≡◌, ◌<◌, ℕ, [], ◌∷◌, ◌++◌, length, map, vec_len, arith, ap, sym, ◌∙◌, subst}
use Rattle.std.specs.List.{AllByRecursion}
use Rattle.atomic_table.specs.Table.{Me}
use Rattle.tile_claims.specs.declared.views.View.{View}
use Rattle.tile_claims.specs.Drawers.{ClaimsSeen, DrawerSeen, list_of}
use Rattle.list_totals.proofs.Elements.{each_map, each_last}
use Rattle.tile_claims.proofs.Handed.{map_last, all_taken_in, drawn_once, drawn_ascend, numbered_once}
use Rattle.tile_claims.proofs.claim.Claims.close.Goals as goal

pub loop-drawer-init : goal.loop-drawer-init
loop-drawer-init c =
    let id = c.self.inside.table.shared.table_id in
    let F : DrawerSeen → Type 0 = λ d. d.claims ≡ id in
    let same : c.args.self.id ≡ id = sym (ap (λ (s : ClaimsSeen). s.id) c.self.view_is) in
    let many : c.self.inside.table.shared.key ≡ c.args.self.drawers = ap (λ (s : ClaimsSeen). s.drawers) c.self.view_is in
    let ours = each_map (λ (d : DrawerSeen). d.claims ≡ c.args.self.id) F (λ d e. e ∙ same) c.args.drawers.items c.requires.mine in
    let first = c.in-Some.first in
    let items = c.in-Some.ensures.items in
    let rest = each_last F c.pop.new.self.items first (subst (AllByRecursion F) items ours) in
    let seat = c.into_seat-keeper.ensures in
    let lists : c.into_seat-keeper.result.me.0.lists ≡ list_of first ∷ [] = ap (λ (m : Me ℕ View). m.0.lists) seat.me in (
      (seat.table ∙ rest.0, c.self.invariant.0, c.self.invariant.1),
      seat.me ∙ ap (λ (m : Me ℕ View). (record { made = c.into_seat-keeper.result.me.0.made; lists = m.0.lists }, [])) (sym seat.me),
      omega (arith, ap length lists, c.in-Some.ensures.cases, c.requires.all, many),
      rest.1,
      ap (λ l. map list_of c.pop.new.self.items ++ l) lists ∙ sym (ap (map list_of) items ∙ map_last c.pop.new.self.items first),
      many ∙ sym c.requires.all,
    )

pub take_in-requires-clause-mine : goal.take_in-requires-clause-mine
take_in-requires-clause-mine c =
    let id = c.self.inside.table.shared.table_id in
    let F : DrawerSeen → Type 0 = λ d. d.claims ≡ id in
    let inv = c.loop-drawer.invariant in
    let words : 0 < id.words = omega (arith, inv.0.1) in
    ((each_last F c.pop-in-loop-drawer.new.self.items c.in-Some-pop.drawer (subst (AllByRecursion F) c.in-Some-pop.ensures.items inv.3)).0, words)

pub returns-clause-once : goal.returns-clause-once
returns-clause-once c = drawn_once _ _ _ _ c.finish.ensures (all_taken_in _ _ _ (search rules) c.loop-drawer.invariant.4)

pub returns-clause-ascend : goal.returns-clause-ascend
returns-clause-ascend c = drawn_ascend _ _ _ _ c.finish.ensures (all_taken_in _ _ _ (search rules) c.loop-drawer.invariant.4)

pub returns-clause-numbers : goal.returns-clause-numbers
returns-clause-numbers c =
    let long : vec_len c.args.drawers ≡ length c.args.drawers.items = search rules in
    numbered_once _ _ _ _ c.finish.ensures (all_taken_in _ _ _ (search rules) c.loop-drawer.invariant.4) (c.loop-drawer.invariant.5 ∙ long)
