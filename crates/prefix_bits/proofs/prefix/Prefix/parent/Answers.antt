use Rattle.std.proofs.Common.{arith, ◌≡◌, ◌-◌, suc, ◌∙◌, ap, take, subst}
use Rattle.prefix_bits.specs.Stored.{stored_bits, IsStored}
use Rattle.prefix_bits.proofs.StoredLists.{len_of}
use Rattle.prefix_bits.specs.declared.TheConstants.{MOST_BITS}
use Rattle.prefix_bits.specs.declared.prefix.TheConstants.{WORDS}
use Rattle.prefix_bits.proofs.Writes.{IsStored-shortened, stored_bits-shortened}
use Rattle.prefix_bits.proofs.prefix.Prefix.parent.Goals as goal

pub overflow_sub-self-inside : goal.overflow_sub-self-inside
overflow_sub-self-inside c = let e = len_of c.self.inside.words c.self.inside.len c.args.self.now c.self.view_is in omega arith

pub overflow_sub-result : goal.overflow_sub-result
overflow_sub-result c = let e = len_of c.self.inside.words c.self.inside.len c.args.self.now c.self.view_is in omega arith

pub invariant_of-result : goal.invariant_of-result
invariant_of-result c =
    let e = len_of c.self.inside.words c.self.inside.len c.args.self.now c.self.view_is in
    let more : c.self.inside.len ≡ suc (c.self.inside.len - 1) = omega arith in
    let stored : IsStored WORDS MOST_BITS c.self.inside.words (suc (c.self.inside.len - 1)) = subst (λ n. IsStored WORDS MOST_BITS c.self.inside.words n) more c.self.invariant in
    rw c.from-last.ensures (IsStored-shortened WORDS MOST_BITS c.self.inside.words (c.self.inside.len - 1) stored)

pub returns : goal.returns
returns c =
    let e = len_of c.self.inside.words c.self.inside.len c.args.self.now c.self.view_is in
    let more : c.self.inside.len ≡ suc (c.self.inside.len - 1) = omega arith in
    let stored : IsStored WORDS MOST_BITS c.self.inside.words (suc (c.self.inside.len - 1)) = subst (λ n. IsStored WORDS MOST_BITS c.self.inside.words n) more c.self.invariant in
    let s = stored_bits-shortened WORDS MOST_BITS c.self.inside.words (c.self.inside.len - 1) stored in
    rw (c.from-last.ensures, e) (s ∙ ap (λ n. take (c.self.inside.len - 1) (stored_bits c.self.inside.words n)) (omega arith) ∙ ap (take (c.self.inside.len - 1)) c.self.view_is)
