use Rattle.std.proofs.Common.{◌∙◌, arith}
use Rattle.generation_lanes.specs.Growing.{begun}
use Rattle.generation_lanes.proofs.LineSteps.{line_more}
use Rattle.generation_lanes.proofs.blocks.begin_all.Goals as goal

pub loop-place-preserved : goal.loop-place-preserved
loop-place-preserved c =
    c.in_ok-push.ensures.items
    ∙ line_more (begun c.args.master.now c.args.tag) c.args.strings.now c.args.line c.loop-place.place c.index-strings-place.result
    c.in_ok-begin.field-0 c.loop-place.lines.items (omega arith) c.index-strings-place.is c.in_ok-begin.ensures c.loop-place.invariant
