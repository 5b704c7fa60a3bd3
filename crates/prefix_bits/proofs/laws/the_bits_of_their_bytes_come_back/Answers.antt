use Rattle.prefix_bits.proofs.Bytes.{bits_come_back}
use Rattle.prefix_bits.proofs.laws.the_bits_of_their_bytes_come_back.Goals as goal

pub returns : goal.returns
returns c = record { bits = λ count bits l. bits_come_back bits count l }
