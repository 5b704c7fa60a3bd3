-- What holds while passes are handed in to one seat, the last of the list first.
use Rattle.std.proofs.Common.{◌≡◌, List, [], ◌∷◌, ◌++◌, map, ap, ◌∙◌, sym, subst}
use Rattle.std.proofs.lemmas.List.{map-append}
use Rattle.std.specs.List.{AllByRecursion}
use Rattle.atomic_table.specs.Seated.{TableId}
use Rattle.atomic_table.specs.Table.{Me}
use Rattle.turn_lock.specs.declared.views.View.{View}
use Rattle.turn_lock.specs.Seen.{PassSeen}
use Rattle.turn_lock.specs.Seats.{resting, mine_of}
use Rattle.list_totals.proofs.Elements.{each_last}
use Rattle.turn_lock.proofs.Lists.{map_last}
use Rattle.turn_lock.proofs.Told.{rested}

-- the seat has what was handed in of all, and the rest is left
pub record Gathers {S P E : Type 0} (table : TableId) (left all : List (PassSeen P E)) (me : Me S (View P E)) : Type 0 where
  pub ours : AllByRecursion (λ pass. pass.lock.table ≡ table) left
  pub out : me ≡ (resting me.0.made me.0.mine, [])
  pub whole : map mine_of left ++ me.0.mine ≡ map mine_of all

-- the last of passes that are of this table is
pub last_ours : {P E : Type 0} (table : TableId) (left all : List (PassSeen P E)) (pass : PassSeen P E)
    → AllByRecursion (λ d. d.lock.table ≡ table) all → all ≡ left ++ pass ∷ [] → pass.lock.table ≡ table
last_ours table left all pass ours items = (each_last (λ d. d.lock.table ≡ table) left pass (subst (AllByRecursion (λ d. d.lock.table ≡ table)) items ours)).0

rest_ours : {P E : Type 0} (table : TableId) (left all : List (PassSeen P E)) (pass : PassSeen P E)
    → AllByRecursion (λ d. d.lock.table ≡ table) all → all ≡ left ++ pass ∷ [] → AllByRecursion (λ d. d.lock.table ≡ table) left
rest_ours table left all pass ours items = (each_last (λ d. d.lock.table ≡ table) left pass (subst (AllByRecursion (λ d. d.lock.table ≡ table)) items ours)).1

module _ {S P E : Type 0} (table : TableId) (left all : List (PassSeen P E)) (pass : PassSeen P E) (me : Me S (View P E)) where
  -- the first pass, with nothing handed in before
  pub first_in : AllByRecursion (λ d. d.lock.table ≡ table) all → all ≡ left ++ pass ∷ [] → me ≡ (resting me.0.made (mine_of pass ∷ []), [])
      → Gathers table left all me
  first_in ours items is =
      record {
        ours = rest_ours table left all pass ours items;
        out = rested me me.0.made (mine_of pass ∷ []) is;
        whole = ap (λ (m : Me S (View P E)). map mine_of left ++ m.0.mine) is ∙ sym (ap (map mine_of) items ∙ map-append mine_of left (pass ∷ []));
      }

  -- one more
  pub next_in : (before : List (PassSeen P E)) (was : Me S (View P E)) → Gathers table before all was → before ≡ left ++ pass ∷ []
      → me ≡ (resting me.0.made (mine_of pass ∷ was.0.mine), []) → Gathers table left all me
  next_in before was h items is =
      record {
        ours = rest_ours table left before pass h.ours items;
        out = rested me me.0.made (mine_of pass ∷ was.0.mine) is;
        whole = ap (λ (m : Me S (View P E)). map mine_of left ++ m.0.mine) is ∙ sym (ap (λ l. map mine_of l ++ was.0.mine) items ∙ map_last mine_of left pass was.0.mine) ∙ h.whole;
      }

-- nothing is left
pub all_in : {S P E : Type 0} (table : TableId) (left all : List (PassSeen P E)) (me : Me S (View P E)) → left ≡ [] → Gathers table left all me
    → me ≡ (resting me.0.made (map mine_of all), [])
all_in table left all me none h =
    let mine : me.0.mine ≡ map mine_of all = sym (ap (λ l. map mine_of l ++ me.0.mine) none) ∙ h.whole in
    h.out ∙ ap (λ l. (resting me.0.made l, [])) mine
