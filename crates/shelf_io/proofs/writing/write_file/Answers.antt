use Rattle.std.proofs.Common.{◌≡◌, ◌+◌, ◌-◌, take, drop, ap, arith}
use Rattle.shelf_io.proofs.FileLaws.{written_is_there, written_more}
use Rattle.shelf_io.proofs.writing.write_file.Goals as goal

pub append-requires : goal.append-requires
append-requires g c = record { there = written_is_there _ _ c.args.name.now (take c.loop-done.done c.args.text.now) c.loop-done.invariant.written }

pub loop-done-preserved : goal.loop-done-preserved
loop-done-preserved g c =
    let size : c.loop-done.done + c.min-n.result - c.loop-done.done ≡ c.min-n.result = omega arith in
    record {
      within = omega (arith, c.min-n.ensures);
      written = written_more _ _ _ c.args.name.now c.args.text.now (take (c.loop-done.done + c.min-n.result - c.loop-done.done) (drop c.loop-done.done c.args.text.now)) c.loop-done.done c.min-n.result
          c.loop-done.invariant.written (ap (λ k. take k (drop c.loop-done.done c.args.text.now)) size) c.in_ok-append.ensures.appended;
      count = omega (arith, c.in_ok-append.ensures.cause.later);
    }
