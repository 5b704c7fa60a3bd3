use Rattle.std.proofs.Common.{◌≡◌, ◌+◌, length, vec_len}
use Rattle.std.specs.List.{AllByRecursion}
use Rattle.lock_row.specs.Rows.{locks_of}
use Rattle.level_totals.specs.Levels.{LevelPassSeen}
use Rattle.level_totals.proofs.Closing.{Left, Joined}
use Rattle.level_totals.proofs.level.Level.finish.Given as goal

abbrev pub invariant-loop : goal.invariant-loop
invariant-loop l = record {
  plan : l.state.plan ≡ l.fn.self.plan;
  left : Left l.fn.self.plan (l.counter + 1) l.row.locks;
  count : length l.row.locks + l.counter ≡ l.end;
  mine : AllByRecursion (λ (pass : LevelPassSeen). locks_of pass ≡ l.row.locks) l.passes.items;
  all : vec_len l.passes ≡ l.row.passes;
  joined : Joined l.fn.self.plan.tiles l.fn.passes.items (l.counter + 1) l.passes.items l.state.log;
}
