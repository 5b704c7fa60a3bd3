use Rattle.std.proofs.Common.{sym, ap, ◌+◌, ◌∙◌}
use Rattle.definitions.specs.Sketch.{triples_added, correlation}
use Rattle.definitions.specs.Generation.{LevelCoins}
use Rattle.generation_lanes.specs.Growing.{Growing, coins_for}
use Rattle.generation_lanes.proofs.PairSteps.{turn_made, coins_read, triple_read}
use Rattle.generation_lanes.proofs.growing_pair.GrowingPair.turn.Goals as goal

pub returns : goal.returns
returns c =
    let p = c.args.self.now in
    let next = c.requires.ready.next in
    let coins = c.coins_from-of_level.result in
    turn_made p c.next_bit.result coins c.joined-joint.result c.self.inside.path c.value_level-word.result.1 c.data_from.result c.value_level-word.result.0
    c.side_words-zero.result.0 c.side_words-zero.result.1
    c.next_bit.ensures
    (coins_read p c.args.level c.args.coins.now coins next c.requires.coins c.coins_from-of_level.ensures.value)
    (c.joined-joint.ensures.value
    ∙ ap (λ t. triples_added t c.triple_from-2.result)
    (triple_read (coins_for p).corr0 p.done c.args.level c.args.corr0.now c.triple_from.result next c.requires.corr0 c.triple_from.ensures.value)
    ∙ ap (triples_added (correlation (coins_for p).corr0 (p.done + 1)))
    (triple_read (coins_for p).corr1 p.done c.args.level c.args.corr1.now c.triple_from-2.result next c.requires.corr1 c.triple_from-2.ensures.value))
    (ap (λ (q : Growing). q.path) c.self.view_is)
    (c.data_from.ensures.value ∙ sym (ap (λ (x : LevelCoins). x.k) c.coins_from-of_level.ensures.value))
    c.value_level-word.ensures.word c.value_level-word.ensures.path c.side_words-zero.ensures.zero c.side_words-zero.ensures.one
