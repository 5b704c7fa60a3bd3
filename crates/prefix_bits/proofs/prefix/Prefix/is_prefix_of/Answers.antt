use Rattle.std.proofs.Common.{sym, arith, below_more}
use Rattle.prefix_bits.proofs.Prefixes.{is_prefix-longer, is_prefix-read_differs, read_same, is_prefix-same}
use Rattle.prefix_bits.proofs.prefix.Prefix.is_prefix_of.Goals as goal

pub returns-then-len : goal.returns-then-len
returns-then-len c = sym (is_prefix-longer c.args.self.now c.args.other.now (omega arith))

pub returns-then-bit : goal.returns-then-bit
returns-then-bit c =
    sym (is_prefix-read_differs c.args.self.now c.args.other.now c.loop-place.place c.bit.result c.bit-in-loop-place.result
    c.bit.ensures c.bit-in-loop-place.ensures c.if-bit.true)

pub loop-place-preserved : goal.loop-place-preserved
loop-place-preserved c =
    below_more _ _ c.loop-place.invariant
    (read_same c.args.self.now c.args.other.now c.loop-place.place c.bit.result c.bit-in-loop-place.result
    c.bit.ensures c.bit-in-loop-place.ensures c.if-bit.false)

pub returns : goal.returns
returns c =
    sym (is_prefix-same c.args.self.now c.args.other.now (omega arith) (λ place h. c.loop-place.invariant place (omega arith)))
