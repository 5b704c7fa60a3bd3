-- What holds while the passes of a new lock are made, one after the other.
use Rattle.std.proofs.Common.{◌≡◌, ℕ, suc, ◌+◌, List, [], ◌∷◌, ◌++◌, length, map, ap, ◌∙◌, sym, arith}
use Rattle.std.specs.List.{range_with_len}
use Rattle.atomic_table.specs.Table.{Me}
use Rattle.turn_lock.specs.declared.views.View.{View}
use Rattle.turn_lock.specs.Seen.{LockId, PassSeen, fresh_pass, fresh_passes}
use Rattle.turn_lock.specs.Seats.{resting, new_pass}
use Rattle.list_totals.proofs.Elements.{further}
use Rattle.turn_lock.proofs.Lists.{length_push}

-- the keeper counts so many, and all of them but the first are made, in order
pub record Deals {S P E : Type 0} (lock : LockId P) (count : ℕ) (made : List (PassSeen P E)) (me : Me S (View P E)) : Type 0 where
  pub keeper : me ≡ (resting count (new_pass 0 lock.plan [] ∷ []), [])
  pub long : suc (length made) ≡ count
  pub fresh : made ≡ map (fresh_pass lock) (range_with_len 1 (length made))

module _ {S P E : Type 0} (lock : LockId P) (count : ℕ) (made : List (PassSeen P E)) where
  -- one more
  pub dealt : (was me : Me S (View P E)) (after : List (PassSeen P E)) (pass : PassSeen P E) → Deals lock count made was
      → me ≡ (resting (count + 1) (new_pass 0 lock.plan [] ∷ []), []) → pass ≡ fresh_pass lock count → after ≡ made ++ pass ∷ []
      → Deals lock (count + 1) after me
  dealt was me after pass h counts is items =
      let long : length after ≡ suc (length made) = ap length items ∙ length_push made pass in
      let number : pass ≡ fresh_pass lock (1 + length made) = is ∙ ap (fresh_pass lock) (omega (arith, h.long)) in
      record {
        keeper = counts;
        long = omega (arith, long, h.long);
        fresh = items ∙ (λ i. h.fresh i ++ number i ∷ []) ∙ further (fresh_pass lock) 1 (length made) ∙ ap (λ n. map (fresh_pass lock) (range_with_len 1 n)) (sym long);
      }

  -- with the first in front they are all
  pub all_dealt : (me : Me S (View P E)) (first : PassSeen P E) → Deals lock count made me → first ≡ fresh_pass lock 0
      → first ∷ made ≡ fresh_passes lock count
  all_dealt me first h is = (λ i. is i ∷ h.fresh i) ∙ ap (fresh_passes lock) h.long
