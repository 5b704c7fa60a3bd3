use Rattle.std.proofs.Common.{slice_set, sym, ap, ◌∙◌, arith}
use Rattle.std.proofs.lemmas.List.Edits.{map_over_more}
use Rattle.generation_lanes.specs.Growing.{one_level}
use Rattle.generation_lanes.proofs.level.take_all.Goals as goal

pub loop-k-preserved : goal.loop-k-preserved
loop-k-preserved c =
    ap (slice_set c.loop-k.lines c.loop-k.k) (c.take.ensures ∙ ap one_level (sym c.index-lines-k.is))
    ∙ map_over_more one_level c.args.lines.now c.loop-k.lines c.loop-k.k c.index-lines-k.result (omega arith) c.loop-k.invariant c.index-lines-k.is
