use Rattle.std.proofs.Common.{◌≡◌, true, take}
use Rattle.std.specs.List.{list_all}
use Rattle.command_words.specs.Values.{is_digit}
use Rattle.command_words.proofs.values.are_digits.Given as goal

abbrev pub invariant-loop-byte : goal.invariant-loop-byte
invariant-loop-byte l = record { digits : list_all is_digit (take l.byte-index l.bytes) ≡ true }
