use Rattle.std.proofs.Common.{◌≡◌, length, map, sym, ap, ◌∙◌, arith}
use Rattle.std.proofs.lemmas.List.{length-map}
use Rattle.idpf_gen.specs.Made.{of_lines}
use Rattle.generation_lanes.specs.Growing.{begun, one_level}
use Rattle.generation_lanes.proofs.LineSteps.{lines_ready, one_more_level, no_level, put_back}
use Rattle.generation_lanes.proofs.blocks.grow_all.Goals as goal

pub loop-level-init : goal.loop-level-init
loop-level-init c = record {
  lines = c.in_ok-lines.ensures ∙ no_level (of_lines (begun c.args.master.now c.args.tag) c.args.line c.args.strings.now);
  room = sym (c.in_ok-buffers.ensures.room ∙ c.len.ensures ∙ c.in_ok-lines.lines.ok.0);
}

pub go_down-requires-clause-ready : goal.go_down-requires-clause-ready
go_down-requires-clause-ready c =
    lines_ready c.deref_mut.result.now c.args.master.now c.args.tag c.args.line c.loop-level.level c.args.bits c.args.strings.now
    (c.deref_mut.ensures.value ∙ c.loop-level.invariant.lines) (omega arith) c.requires.bits

pub loop-level-preserved : goal.loop-level-preserved
loop-level-preserved c =
    let value = c.deref_mut.ensures.value in
    let long : length c.go_down.new.lines ≡ length c.loop-level.lines.items =
    ap length c.go_down.ensures.lines ∙ length-map c.deref_mut.result.now one_level ∙ ap length value in
    let put = put_back c.loop-level.lines.len c.go_down.new.lines c.loop-level.lines.items long (c.loop-level.lines.ok.0 ∙ sym long) in
    record {
      lines = put ∙ one_more_level c.loop-level.lines.items c.go_down.new.lines (of_lines (begun c.args.master.now c.args.tag) c.args.line c.args.strings.now)
          c.loop-level.level c.loop-level.invariant.lines (c.go_down.ensures.lines ∙ ap (map one_level) value);
      room = ap length put ∙ long ∙ c.loop-level.invariant.room ∙ sym c.go_down.ensures.room;
    }
