use Rattle.std.proofs.Common.{◌∙◌, ◌<◌, ◌≤◌, ap, sym, subst, length}
use Rattle.std.specs.List.{All}
use Rattle.std.proofs.lemmas.List.Elements.{recursion_from_All}
use Rattle.walk_definitions.specs.Walk.{own_sigma}
use Rattle.pair_run.specs.Places.{picked}
use Rattle.pair_run.proofs.SideNumbers.{side_sigmas_are, sigmas_below, length_picked}
use Rattle.pair_run.proofs.Views.{length_paired}
use Rattle.pair_run.proofs.checking.side_sigmas.Goals as goal

pub returns-clause-sigmas : goal.returns-clause-sigmas
returns-clause-sigmas c =
    c.in_ok-own_sigmas.ensures.sigmas
    ∙ side_sigmas_are c.args.side c.args.level c.args.batch.now c.shares-shares.result.now c.args.live.now c.args.opened.now c.shares-shares.ensures.shares

pub returns-clause-count : goal.returns-clause-count
returns-clause-count c =
    let count = length_picked c.args.batch.now c.args.live.now (recursion_from_All (λ k. k < length c.args.batch.now) c.args.live.now c.requires.places) in
    ap length (returns-clause-sigmas c)
    ∙ length_paired (own_sigma c.args.level c.args.side) (picked c.args.batch.now c.args.live.now) c.args.opened.now (count ∙ sym c.requires.opened) ∙ count

pub returns-clause-below : goal.returns-clause-below
returns-clause-below c =
    sigmas_below c.args.level c.args.side (picked c.args.batch.now c.args.live.now) c.args.opened.now c.in_ok-own_sigmas.field-0.items (returns-clause-sigmas c)

pub own_sigmas-requires-clause-last : goal.own_sigmas-requires-clause-last
own_sigmas-requires-clause-last c =
    subst (All (λ s. c.args.level ≤ length s.levels)) (sym c.shares-shares.ensures.shares) (c.requires.levels c.args.side)
