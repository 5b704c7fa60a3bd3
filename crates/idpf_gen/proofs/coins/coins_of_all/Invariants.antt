use Rattle.std.proofs.Common.{◌≡◌, length}
use Rattle.definitions.specs.Generation.{coins_of_levels}
use Rattle.idpf_gen.proofs.coins.coins_of_all.Given as goal

abbrev pub invariant-loop-done : goal.invariant-loop-done
invariant-loop-done l = record {
  coins : l.coins.items ≡ coins_of_levels l.seed l.done;
  count : length l.coins.items ≡ l.done;
}
