use Rattle.std.proofs.Common.{◌≡◌, ℕ, ◌<◌, ◌∙◌, ap, slice_index_or, arith, []}
use Rattle.rand_chacha.specs.Lanes.{lane}
use Rattle.definitions.specs.Words.{convert}
use Rattle.seed_lanes.specs.Blocks.{converted_from, block_of}
use Rattle.seed_lanes.proofs.LaneLaws.{lane_converted, eight_mapped}
use Rattle.seed_lanes.proofs.groups.convert.Goals as goal

pub returns : goal.returns
returns c =
    let at : (j : ℕ) → j < 8 → converted_from (lane j c.block-words.result) ≡ convert (slice_index_or c.args.seeds.now j [])
    = λ j h. lane_converted _ _ (c.block-words.ensures j h ∙ ap (λ k. block_of k 0 1) (c.keys.ensures j h)) in
    eight_mapped convert c.args.seeds.now _ _ _ _ _ _ _ _ c.told-seeds
    (c.converted_from.ensures ∙ ap converted_from c.words_at.ensures ∙ at 0 (omega arith))
    (c.converted_from-2.ensures ∙ ap converted_from c.words_at-2.ensures ∙ at 1 (omega arith))
    (c.converted_from-3.ensures ∙ ap converted_from c.words_at-3.ensures ∙ at 2 (omega arith))
    (c.converted_from-4.ensures ∙ ap converted_from c.words_at-4.ensures ∙ at 3 (omega arith))
    (c.converted_from-5.ensures ∙ ap converted_from c.words_at-5.ensures ∙ at 4 (omega arith))
    (c.converted_from-6.ensures ∙ ap converted_from c.words_at-6.ensures ∙ at 5 (omega arith))
    (c.converted_from-7.ensures ∙ ap converted_from c.words_at-7.ensures ∙ at 6 (omega arith))
    (c.converted_from-8.ensures ∙ ap converted_from c.words_at-8.ensures ∙ at 7 (omega arith))
