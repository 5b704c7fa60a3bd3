use Rattle.std.proofs.Common.{◌≡◌, ℕ, ◌<◌, ◌≤◌, get_or}
use Rattle.std.specs.Prelude.{bit_xor}
use Rattle.seed_expand.proofs.expansion.xor.Given as goal

abbrev pub invariant-loop-k : goal.invariant-loop-k
invariant-loop-k l = record {
  done : (j : ℕ) → j < l.k → get_or l.byte-items j 0 ≡ bit_xor (get_or l.left j 0) (get_or l.right j 0);
  rest : (j : ℕ) → l.k ≤ j → get_or l.byte-items j 0 ≡ get_or l.left j 0;
}
