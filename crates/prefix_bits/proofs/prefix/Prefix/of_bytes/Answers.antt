use Rattle.std.proofs.Common.{◌++◌, ◌∷◌, ◌∙◌, ℕ, [], take, length, get_or, sym, ap, arith, length-take}
use Rattle.std.proofs.lemmas.List.{take_more}
use Rattle.prefix_bits.specs.Bits.{bits_of_byte, bits_of_bytes}
use Rattle.prefix_bits.proofs.Bytes.{length-bits_of_bytes, bits_of_bytes-append}
use Rattle.prefix_bits.proofs.prefix.Prefix.of_bytes.Goals as goal

pub followed_by-prefix-requires-clause-room : goal.followed_by-prefix-requires-clause-room
followed_by-prefix-requires-clause-room c =
    let l = ap length c.loop-byte.invariant ∙ length-bits_of_bytes (take c.loop-byte.byte-index c.args.bytes.now) in
    omega (arith, length-take c.loop-byte.byte-index c.args.bytes.now)

pub followed_by-prefix-requires-clause-in_word : goal.followed_by-prefix-requires-clause-in_word
followed_by-prefix-requires-clause-in_word c =
    let l = ap length c.loop-byte.invariant ∙ length-bits_of_bytes (take c.loop-byte.byte-index c.args.bytes.now) in
    omega (arith, length-take c.loop-byte.byte-index c.args.bytes.now)

pub loop-byte-preserved : goal.loop-byte-preserved
loop-byte-preserved c =
    let byte : ℕ = get_or c.args.bytes.now c.loop-byte.byte-index 0 in
    let before = take c.loop-byte.byte-index c.args.bytes.now in
    c.followed_by-prefix.ensures
    ∙ ap (λ bits. bits ++ bits_of_byte c.from.result) c.loop-byte.invariant
    ∙ ap (λ b. bits_of_bytes before ++ bits_of_byte b) c.from.ensures
    ∙ sym (ap bits_of_bytes (take_more c.args.bytes.now c.loop-byte.byte-index 0 c.loop-byte-test.true)
    ∙ bits_of_bytes-append before (byte ∷ []))
