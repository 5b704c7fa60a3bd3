use Rattle.std.proofs.Common.{◌≡◌, ◌*◌, ◌/◌, ◌%◌, ◌-◌, ◌==◌, Some, false, get_or, ap, sym, ◌∙◌, arith}
use Rattle.std.proofs.lemmas.Option.{slice_get-get_or}
use Rattle.std.proofs.lemmas.Nat.Bits.{shr_and_one}
use Rattle.prefix_bits.specs.Stored.{stored_bit}
use Rattle.prefix_bits.specs.StoredLaws.{get_or-stored_bits}
use Rattle.prefix_bits.proofs.StoredLists.{len_of}
use Rattle.prefix_bits.specs.declared.TheConstants.{MOST_BITS}
use Rattle.prefix_bits.specs.declared.prefix.TheConstants.{WORDS}
use Rattle.prefix_bits.proofs.prefix.Prefix.bit.Goals as goal

pub bounds-self-inside-place : goal.bounds-self-inside-place
bounds-self-inside-place c =
    let e = len_of c.self.inside.words c.self.inside.len c.args.self.now c.self.view_is in
    let room : MOST_BITS ≡ 64 * WORDS = c.self.invariant.room in
    omega arith

pub returns : goal.returns
unfolding stored_bit
returns c =
    let e = len_of c.self.inside.words c.self.inside.len c.args.self.now c.self.view_is in
    let read = get_or-stored_bits c.self.inside.words c.self.inside.len c.args.place false (omega arith) in
    slice_get-get_or c.args.self.now c.args.place false c.requires
    ∙ ap Some (ap (λ bits. get_or bits c.args.place false) (sym c.self.view_is) ∙ read
    ∙ rw c.from-place.ensures (ap (λ b. b == 1) (sym (shr_and_one (get_or c.self.inside.words (c.args.place / 64) 0) (63 - c.args.place % 64)))))
