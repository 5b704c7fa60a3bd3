use Rattle.prefix_bits.proofs.Bytes.{bytes_come_back}
use Rattle.prefix_bits.proofs.laws.the_bytes_of_their_bits_come_back.Goals as goal

pub returns : goal.returns
returns c = record { bytes = λ bytes small. bytes_come_back bytes (λ i h. small i 0 h) }
