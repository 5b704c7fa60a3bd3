use Rattle.std.proofs.Common.{◌≡◌, true, take, map, nat_eq}
use Rattle.std.specs.List.{list_all}
use Rattle.command_words.specs.Values.{is_bit_digit}
use Rattle.command_words.proofs.values.bits_of.Given as goal

abbrev pub invariant-loop-digit : goal.invariant-loop-digit
invariant-loop-digit l = record {
  bits : l.prefix ≡ map (λ c. nat_eq c 49) (take l.digit-index l.digits);
  digits : list_all is_bit_digit (take l.digit-index l.digits) ≡ true;
}
