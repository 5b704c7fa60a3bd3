use Rattle.std.proofs.Common.{◌≡◌, ◌≤◌, vec_len, vec_capacity}
use Rattle.share_tests.proofs.tests.cache_threads.all_shares.Given as goal

abbrev pub invariant-loop-root : goal.invariant-loop-root
invariant-loop-root l = (vec_len l.shares ≡ l.root) × (32 ≤ vec_capacity l.shares)
