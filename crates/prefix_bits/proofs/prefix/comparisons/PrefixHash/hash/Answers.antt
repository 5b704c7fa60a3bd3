use Rattle.std.proofs.Common.{◌≡◌, ◌∙◌, ap, sym}
use Rattle.std.specs.Hash as fed
use Rattle.std.specs.Hash.{fed_then}
use Rattle.prefix_bits.specs.Stored.{words_of}
use Rattle.prefix_bits.specs.StoredLaws.{words_of-stored}
use Rattle.prefix_bits.proofs.StoredLists.{len_of}
use Rattle.prefix_bits.specs.declared.TheConstants.{MOST_BITS}
use Rattle.prefix_bits.specs.declared.prefix.TheConstants.{WORDS}
use Rattle.prefix_bits.proofs.prefix.comparisons.PrefixHash.hash.Goals as goal

pub returns : goal.returns
returns g c =
    let words : words_of WORDS c.args.self.now ≡ c.self.inside.words =
    ap (words_of WORDS) (sym c.self.view_is) ∙ words_of-stored WORDS MOST_BITS c.self.inside.words c.self.inside.len c.self.invariant in
    let len = len_of c.self.inside.words c.self.inside.len c.args.self.now c.self.view_is in
    rw (words, len)
    (fed_then g.H.Hasher.write c.args.state.now c.hash.new.state c.hash-2.new.state (fed.slice fed.u64 c.self.inside.words) (fed.u16 c.self.inside.len)
    c.hash.ensures c.hash-2.ensures)
