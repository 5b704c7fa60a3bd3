use Rattle.std.proofs.Common.{◌≡◌, ◌*◌, ◌∙◌, ap, arith}
use Rattle.prefix_bits.specs.Bits.{bytes_of_bits}
use Rattle.prefix_bits.proofs.StoredLists.{len_of}
use Rattle.prefix_bits.specs.declared.TheConstants.{MOST_BITS}
use Rattle.prefix_bits.specs.declared.prefix.TheConstants.{WORDS}
use Rattle.prefix_bits.proofs.Bytes.{bits_of_written, written_is}
use Rattle.prefix_bits.proofs.prefix.Prefix.to_bytes.Goals as goal

pub bounds-self-inside-index : goal.bounds-self-inside-index
bounds-self-inside-index c =
    let e = len_of c.self.inside.words c.self.inside.len c.args.self.now c.self.view_is in
    let room : MOST_BITS ≡ 64 * WORDS = c.self.invariant.room in
    omega arith

pub returns-clause-bytes : goal.returns-clause-bytes
returns-clause-bytes c =
    let e = len_of c.self.inside.words c.self.inside.len c.args.self.now c.self.view_is in
    written_is c.self.inside.words c.self.inside.len c.loop-index.into (omega arith) (λ k h. c.loop-index.invariant k (omega arith))
    ∙ ap bytes_of_bits c.self.view_is

pub returns-clause-bits : goal.returns-clause-bits
returns-clause-bits c =
    let e = len_of c.self.inside.words c.self.inside.len c.args.self.now c.self.view_is in
    bits_of_written c.self.inside.words c.self.inside.len c.loop-index.into (omega arith) (λ k h. c.loop-index.invariant k (omega arith))
    ∙ c.self.view_is
