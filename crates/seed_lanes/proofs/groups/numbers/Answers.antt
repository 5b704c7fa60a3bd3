use Rattle.std.proofs.Common.{◌≡◌, ℕ, ◌<◌, ◌∙◌, ap, slice_index_or, arith, []}
use Rattle.rand_chacha.specs.Lanes.{lane}
use Rattle.seed_lanes.specs.Blocks.{numbers_from, numbers_of, block_of}
use Rattle.seed_lanes.proofs.LaneLaws.{lane_numbers, eight_mapped}
use Rattle.seed_lanes.proofs.groups.numbers.Goals as goal

pub returns : goal.returns
returns c =
    let at : (j : ℕ) → j < 8 → numbers_from (lane j c.block-words.result) ≡ numbers_of c.args.stream (slice_index_or c.args.seeds.now j [])
    = λ j h. lane_numbers _ _ _ (c.block-words.ensures j h ∙ ap (λ k. block_of k 0 c.args.stream) (c.keys.ensures j h)) in
    eight_mapped (numbers_of c.args.stream) c.args.seeds.now _ _ _ _ _ _ _ _ c.told-seeds
    (c.numbers_from.ensures ∙ ap numbers_from c.words_at.ensures ∙ at 0 (omega arith))
    (c.numbers_from-2.ensures ∙ ap numbers_from c.words_at-2.ensures ∙ at 1 (omega arith))
    (c.numbers_from-3.ensures ∙ ap numbers_from c.words_at-3.ensures ∙ at 2 (omega arith))
    (c.numbers_from-4.ensures ∙ ap numbers_from c.words_at-4.ensures ∙ at 3 (omega arith))
    (c.numbers_from-5.ensures ∙ ap numbers_from c.words_at-5.ensures ∙ at 4 (omega arith))
    (c.numbers_from-6.ensures ∙ ap numbers_from c.words_at-6.ensures ∙ at 5 (omega arith))
    (c.numbers_from-7.ensures ∙ ap numbers_from c.words_at-7.ensures ∙ at 6 (omega arith))
    (c.numbers_from-8.ensures ∙ ap numbers_from c.words_at-8.ensures ∙ at 7 (omega arith))
