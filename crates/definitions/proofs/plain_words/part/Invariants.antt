use Rattle.std.proofs.Common.{◌≡◌, ◌*◌, take, length}
use Rattle.definitions.specs.Words.{word_bytes}
use Rattle.definitions.proofs.plain_words.part.Given as goal

abbrev pub invariant-loop-k : goal.invariant-loop-k
invariant-loop-k l = record {
  long : length l.bytes ≡ 32;
  written : take (4 * l.k) l.bytes ≡ word_bytes l.k l.seed l.stream l.place;
}
