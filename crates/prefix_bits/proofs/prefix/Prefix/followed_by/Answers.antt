use Rattle.std.proofs.Common.{arith, ◌≡◌, ◌*◌, ◌∙◌, ◌++◌, ap}
use Rattle.prefix_bits.specs.Bits.{low_bits}
use Rattle.prefix_bits.proofs.StoredLists.{len_of}
use Rattle.prefix_bits.specs.declared.TheConstants.{MOST_BITS}
use Rattle.prefix_bits.specs.declared.prefix.TheConstants.{WORDS}
use Rattle.prefix_bits.proofs.Writes.{IsStored-followed, stored_bits-followed}
use Rattle.prefix_bits.proofs.prefix.Prefix.followed_by.Goals as goal

pub overflow_sub-words-2 : goal.overflow_sub-words-2
overflow_sub-words-2 c = let e = len_of c.self.inside.words c.self.inside.len c.args.self.now c.self.view_is in omega arith

pub overflow_shl-words : goal.overflow_shl-words
overflow_shl-words c = let e = len_of c.self.inside.words c.self.inside.len c.args.self.now c.self.view_is in omega arith

pub bounds-words-end : goal.bounds-words-end
bounds-words-end c =
    let e = len_of c.self.inside.words c.self.inside.len c.args.self.now c.self.view_is in
    let room : MOST_BITS ≡ 64 * WORDS = c.self.invariant.room in
    omega arith

pub bounds-words-end-2 : goal.bounds-words-end-2
bounds-words-end-2 c =
    let e = len_of c.self.inside.words c.self.inside.len c.args.self.now c.self.view_is in
    let room : MOST_BITS ≡ 64 * WORDS = c.self.invariant.room in
    omega arith

pub invariant_of-result : goal.invariant_of-result
invariant_of-result c =
    let e = len_of c.self.inside.words c.self.inside.len c.args.self.now c.self.view_is in
    rw (c.from-end.ensures, c.from.ensures)
    (IsStored-followed WORDS MOST_BITS c.self.inside.words c.self.inside.len c.self.invariant (omega arith) c.args.count c.args.bits (omega arith) c.requires.fits)

pub returns : goal.returns
returns c =
    let e = len_of c.self.inside.words c.self.inside.len c.args.self.now c.self.view_is in
    let s = stored_bits-followed WORDS MOST_BITS c.self.inside.words c.self.inside.len c.self.invariant (omega arith) c.args.count c.args.bits (omega arith) c.requires.fits in
    rw (c.from-end.ensures, c.from.ensures)
    (s ∙ ap (λ bits. bits ++ low_bits c.args.count c.args.bits) c.self.view_is)
