use Rattle.std.proofs.Common.{◌≡◌, ◌*◌, arith, length, ◌∙◌, ap}
use Rattle.peer_exchange.proofs.Flats.{length-flat}
use Rattle.peer_exchange.proofs.sends.send_sums.Goals as goal

pub send_numbers-requires : goal.send_numbers-requires
send_numbers-requires g c =
    let size : length c.deref.result.now ≡ 3 * length c.args.sums.now =
    ap length (c.deref.ensures.value ∙ c.in_ok-numbers.ensures.elements) ∙ length-flat c.args.sums.now in
    record { few = omega (arith, size, c.requires.few) }
