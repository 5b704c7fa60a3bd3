use Rattle.std.proofs.Common.{◌≡◌, ℕ, ◌<◌, ◌∙◌, ap, slice_index, slice_index_or, arith, []}
use Rattle.rand_chacha.specs.Lanes.{lane}
use Rattle.definitions.specs.Words.{extend}
use Rattle.seed_lanes.specs.Blocks.{children_from, block_of}
use Rattle.seed_lanes.proofs.LaneLaws.{lane_children, eight_mapped}
use Rattle.seed_lanes.proofs.groups.extend.Goals as goal

pub returns : goal.returns
returns c =
    let at : (j : ℕ) → j < 8 → children_from (lane j c.block-words.result) (slice_index (lane j c.block.result) 0) ≡ extend (slice_index_or c.args.seeds.now j [])
    = λ j h. lane_children _ _ _
    (c.block-words.ensures j h ∙ ap (λ k. block_of k 0 0) (c.keys-key.ensures j h))
    (c.block.ensures j h ∙ ap (λ k. block_of k 1 0) (c.keys-key.ensures j h)) in
    eight_mapped extend c.args.seeds.now _ _ _ _ _ _ _ _ c.told-seeds
    (c.children_from.ensures ∙ ap (λ w. children_from w (slice_index (lane 0 c.block.result) 0)) c.words_at.ensures ∙ at 0 (omega arith))
    (c.children_from-2.ensures ∙ ap (λ w. children_from w (slice_index (lane 1 c.block.result) 0)) c.words_at-2.ensures ∙ at 1 (omega arith))
    (c.children_from-3.ensures ∙ ap (λ w. children_from w (slice_index (lane 2 c.block.result) 0)) c.words_at-3.ensures ∙ at 2 (omega arith))
    (c.children_from-4.ensures ∙ ap (λ w. children_from w (slice_index (lane 3 c.block.result) 0)) c.words_at-4.ensures ∙ at 3 (omega arith))
    (c.children_from-5.ensures ∙ ap (λ w. children_from w (slice_index (lane 4 c.block.result) 0)) c.words_at-5.ensures ∙ at 4 (omega arith))
    (c.children_from-6.ensures ∙ ap (λ w. children_from w (slice_index (lane 5 c.block.result) 0)) c.words_at-6.ensures ∙ at 5 (omega arith))
    (c.children_from-7.ensures ∙ ap (λ w. children_from w (slice_index (lane 6 c.block.result) 0)) c.words_at-7.ensures ∙ at 6 (omega arith))
    (c.children_from-8.ensures ∙ ap (λ w. children_from w (slice_index (lane 7 c.block.result) 0)) c.words_at-8.ensures ∙ at 7 (omega arith))
