use Rattle.std.proofs.Common.{◌≡◌, refl, ap, ◌∙◌, arith, add-one}
use Rattle.rand_chacha.specs.Block.{column_round, diagonal_round, double_rounds}
use Rattle.rand_chacha.specs.Lanes.{lane}
use Rattle.seed_lanes.proofs.LaneLaws.{block_from}
use Rattle.seed_lanes.proofs.rounds.block.Goals as goal

pub rounds-init : goal.rounds-init
unfolding double_rounds
rounds-init c j h = refl

pub rounds-preserved : goal.rounds-preserved
unfolding double_rounds
rounds-preserved c j h =
    rw add-one (c.double_round-x.ensures j h ∙ ap (λ s. diagonal_round (column_round s)) (c.rounds.invariant j h))

pub returns : goal.returns
returns c j h =
    let done : c.rounds._round ≡ 10 = omega arith in
    rw (c.add.ensures j h, c.add-2.ensures j h, c.add-3.ensures j h, c.add-4.ensures j h, c.add-5.ensures j h, c.add-6.ensures j h, c.add-7.ensures j h, c.add-8.ensures j h, c.add-9.ensures j h, c.add-10.ensures j h, c.add-11.ensures j h, c.add-12.ensures j h, c.add-13.ensures j h, c.add-14.ensures j h, c.add-15.ensures j h, c.add-16.ensures j h)
    (block_from (lane j c.rounds.x) (lane j c.first-first.result) _ _ _ (c.first-first.ensures j h)
    (c.rounds.invariant j h ∙ ap (λ n. double_rounds n (lane j c.first-first.result)) done))
