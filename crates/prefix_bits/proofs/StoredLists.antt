-- What the functions of a prefix cite of its words and the list of its bits.
use Rattle.std.proofs.Common.{◌≡◌, ℕ, zero, suc, ◌*◌, ◌-◌, ◌/◌, ◌%◌, ◌<◌, Bool, false, List, length, get_or, replicate, refl, sym, ap, ◌∙◌, arith, lit<, ◌==◌}
use Rattle.std.proofs.lemmas.List.{length-replicate}
use Rattle.std.proofs.lemmas.List.FromFn.{fill_by_all}
use Rattle.std.proofs.lemmas.Nat.Bits.{bit_at-zero}
use Rattle.prefix_bits.specs.Bits.{bit}
use Rattle.prefix_bits.specs.Stored.{stored_bit, stored_bits, IsStored}
use Rattle.prefix_bits.specs.StoredLaws.{length-stored_bits}

-- what a list of stored bits says of the length beside it
pub len_of : (words : List ℕ) (len : ℕ) (bits : List Bool) → stored_bits words len ≡ bits → length bits ≡ len
len_of words len bits e = ap length (sym e) ∙ length-stored_bits words len

-- a list with these bits is the stored one
pub same_stored : (words : List ℕ) (len : ℕ) (bits : List Bool) → length bits ≡ len
    → ((place : ℕ) → place < len → get_or bits place false ≡ stored_bit words place) → bits ≡ stored_bits words len
unfolding stored_bits
same_stored words len bits l h = fill_by_all (stored_bit words) bits len false l h

-- no bit
pub IsStored-zeros : (count most : ℕ) (words : List ℕ) → words ≡ replicate {A = ℕ} count 0 → most ≡ 64 * count → IsStored count most words 0
unfolding stored_bit
IsStored-zeros count most words zeros room =
    let none : (i : ℕ) → get_or words i 0 ≡ 0 = λ i. ap (λ ws. get_or ws i 0) zeros ∙ get_or-zeros count i in
    record {
      within = omega arith;
      count_is = ap length zeros ∙ length-replicate {A = ℕ} count 0;
      room = room;
      fits = λ i. rw (none i) (lit< tt);
      unused = λ place from to. ap (λ n. bit n (63 - place % 64)) (none (place / 64)) ∙ ap (λ b. b == 1) (bit_at-zero (63 - place % 64));
    }
  where
    get_or-zeros : (count i : ℕ) → get_or (replicate {A = ℕ} count 0) i 0 ≡ 0
    get_or-zeros zero i = refl
    get_or-zeros (suc count) zero = refl
    get_or-zeros (suc count) (suc i) = get_or-zeros count i
