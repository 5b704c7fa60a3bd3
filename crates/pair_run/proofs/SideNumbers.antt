-- A side's numbers of a batch's live reports, from its shares alone.
use Rattle.std.proofs.Common.{◌≡◌, ℕ, zero, suc, ◌<◌, Bool, List, [], ◌∷◌, ◌++◌, length, take, drop, refl, sym, ◌∙◌, ap, subst, arith, length-append}
use Rattle.std.specs.Prelude.{map}
use Rattle.std.specs.List.{All, AllByRecursion}
use Rattle.std.proofs.lemmas.List.Elements.{All-from_recursion}
use Rattle.definitions.specs.declared.Side.{Side}
use Rattle.definitions.specs.declared.Side.TheVariants.{Zero, One}
use Rattle.definitions.specs.Field.{modulus}
use Rattle.definitions.specs.Evaluation.{Share}
use Rattle.definitions.specs.Sketch.{Sums, coin}
use Rattle.definitions.specs.Check.{masked_sums}
use Rattle.definitions.proofs.FieldLaws.{total_by-below}
use Rattle.walk_definitions.specs.Reports.{Report, held}
use Rattle.walk_definitions.specs.Walk.{Settings, own_sums, own_sigma, own_total}
use Rattle.walk_definitions.specs.Messages.{flat}
use Rattle.walk_definitions.specs.Heard.{sigmas}
use Rattle.walk_definitions.proofs.TrueLink.{add-below, below-map, below-flat}
use Rattle.pair_run.specs.Places.{picked, alone}

module _ {X Y : Type 0} (f : X → Y) where
  one_map : (k : ℕ) (xs : List X) → take 1 (drop k (map f xs)) ≡ map f (take 1 (drop k xs))
  one_map k [] = at k
    where
      at : (k : ℕ) → take 1 (drop k (map f [])) ≡ map f (take 1 (drop k []))
      at zero = refl
      at (suc k) = refl
  one_map zero (x ∷ xs) = refl
  one_map (suc k) (x ∷ xs) = one_map k xs

  map_both : (xs ys : List X) → map f xs ++ map f ys ≡ map f (xs ++ ys)
  map_both [] ys = refl
  map_both (x ∷ xs) ys = ap (λ t. f x ∷ t) (map_both xs ys)

  pub picked_map : (xs : List X) (ks : List ℕ) → picked (map f xs) ks ≡ map f (picked xs ks)
  picked_map xs [] = refl
  picked_map xs (k ∷ ks) =
      ap (λ t. t ++ picked (map f xs) ks) (one_map k xs) ∙ ap (λ t. map f (take 1 (drop k xs)) ++ t) (picked_map xs ks)
      ∙ map_both (take 1 (drop k xs)) (picked xs ks)

  pub length_map : (xs : List X) → length (map f xs) ≡ length xs
  length_map [] = refl
  length_map (x ∷ xs) = let rest = length_map xs in omega arith

pub map_map : {X Y Z : Type 0} (g : Y → Z) (f : X → Y) (xs : List X) → map g (map f xs) ≡ map (λ x. g (f x)) xs
map_map g f [] = refl
map_map g f (x ∷ xs) = ap (λ t. g (f x) ∷ t) (map_map g f xs)

length_one : {X : Type 0} (k : ℕ) (xs : List X) → k < length xs → length (take 1 (drop k xs)) ≡ 1
length_one k [] h = absurd (omega arith)
length_one zero (x ∷ xs) h = refl
length_one (suc k) (x ∷ xs) h = length_one k xs (omega arith)

pub length_picked : {X : Type 0} (xs : List X) (ks : List ℕ) → AllByRecursion (λ k. k < length xs) ks → length (picked xs ks) ≡ length ks
length_picked xs [] all = refl
length_picked xs (k ∷ ks) all = let one = length_one k xs all.0 in let rest = length_picked xs ks all.1 in omega (arith, length-append (take 1 (drop k xs)) (picked xs ks))

-- ---- a side's shares

module _ (side : Side) where
  abbrev side_ids : List Report → List (List ℕ)
  side_ids rs = map (λ s. s.id) (map (λ r. held r side) rs)

  picked_ids : (batch : List Report) (live : List ℕ) → side_ids batch ≡ map (λ r. r.id) batch → side_ids (picked batch live) ≡ map (λ r. r.id) (picked batch live)
  picked_ids batch live named =
      sym (ap (map (λ s. s.id)) (picked_map (λ r. held r side) batch live))
      ∙ sym (picked_map (λ s. s.id) (map (λ r. held r side) batch) live)
      ∙ ap (λ ids. picked ids live) named
      ∙ picked_map (λ r. r.id) batch live

  own_alone : (settings : Settings) (level : ℕ) (candidates : List (List Bool)) (r : Report) → (held r side).id ≡ r.id
      → own_sums settings level candidates side (alone (held r side)) ≡ own_sums settings level candidates side r
  own_alone settings level candidates r e = at side e
    where
      at : (side : Side) → (held r side).id ≡ r.id → own_sums settings level candidates side (alone (held r side)) ≡ own_sums settings level candidates side r
      at Zero e = ap (λ id. masked_sums (coin settings.verify id level) r.held0 Zero level candidates) e
      at One e = ap (λ id. masked_sums (coin settings.verify id level) r.held1 One level candidates) e

  sums_alone : (settings : Settings) (level : ℕ) (candidates : List (List Bool)) (rs : List Report) → side_ids rs ≡ map (λ r. r.id) rs
      → map (λ s. own_sums settings level candidates side (alone s)) (map (λ r. held r side) rs) ≡ map (own_sums settings level candidates side) rs
  sums_alone settings level candidates [] e = refl
  sums_alone settings level candidates (r ∷ rs) e =
      let first : (held r side).id ≡ r.id = cc in
      let others : side_ids rs ≡ map (λ r. r.id) rs = cc in
      let one = own_alone settings level candidates r first in
      let rest = sums_alone settings level candidates rs others in
      cc

  -- own sums of the live reports
  pub side_sums_are : (settings : Settings) (level : ℕ) (candidates : List (List Bool)) (batch : List Report) (shares : List Share) (live : List ℕ)
      → shares ≡ map (λ r. held r side) batch → map (λ s. s.id) shares ≡ map (λ r. r.id) batch
      → map (λ s. own_sums settings level candidates side (alone s)) (picked shares live) ≡ map (own_sums settings level candidates side) (picked batch live)
  side_sums_are settings level candidates batch shares live e named =
      ap (λ ss. map (λ s. own_sums settings level candidates side (alone s)) (picked ss live)) e
      ∙ ap (map (λ s. own_sums settings level candidates side (alone s))) (picked_map (λ r. held r side) batch live)
      ∙ sums_alone settings level candidates (picked batch live) (picked_ids batch live (sym (ap (map (λ s. s.id)) e) ∙ named))

  abbrev alone_of : List Report → List Report
  alone_of rs = map alone (map (λ r. held r side) rs)

  sigma_alone : (level : ℕ) (r : Report) (opened : Sums) → own_sigma level side (alone (held r side)) opened ≡ own_sigma level side r opened
  sigma_alone level r opened = at side
    where
      at : (side : Side) → own_sigma level side (alone (held r side)) opened ≡ own_sigma level side r opened
      at Zero = refl
      at One = refl

  sigmas_alone : (level : ℕ) (rs : List Report) (opened : List Sums) → sigmas level side (alone_of rs) opened ≡ sigmas level side rs opened
  sigmas_alone level [] opened = refl
  sigmas_alone level (r ∷ rs) [] = refl
  sigmas_alone level (r ∷ rs) (o ∷ opened) = let first = sigma_alone level r o in let rest = sigmas_alone level rs opened in cc

  -- sigmas of the live reports
  pub side_sigmas_are : (level : ℕ) (batch : List Report) (shares : List Share) (live : List ℕ) (opened : List Sums) → shares ≡ map (λ r. held r side) batch
      → sigmas level side (map alone (picked shares live)) opened ≡ sigmas level side (picked batch live) opened
  side_sigmas_are level batch shares live opened e =
      ap (λ ss. sigmas level side (map alone (picked ss live)) opened) e
      ∙ ap (λ ss. sigmas level side (map alone ss) opened) (picked_map (λ r. held r side) batch live)
      ∙ sigmas_alone level (picked batch live) opened

-- ---- elements of the field

pub sums_below : (settings : Settings) (level : ℕ) (candidates : List (List Bool)) (side : Side) (rs : List Report) (sums : List Sums)
    → sums ≡ map (own_sums settings level candidates side) rs → All (λ n. n < modulus) (flat sums)
sums_below settings level candidates side rs sums e =
    subst (λ ss. All (λ n. n < modulus) (flat ss)) (sym e)
    (All-from_recursion (λ n. n < modulus) (flat (map (own_sums settings level candidates side) rs))
    (below-flat (own_sums settings level candidates side) (λ r. (add-below _ _, add-below _ _, add-below _ _)) rs))

sigmas_small : (level : ℕ) (side : Side) (rs : List Report) (opened : List Sums) → AllByRecursion (λ n. n < modulus) (sigmas level side rs opened)
sigmas_small level side [] opened = tt
sigmas_small level side (r ∷ rs) [] = tt
sigmas_small level side (r ∷ rs) (o ∷ opened) = (add-below _ _, sigmas_small level side rs opened)

pub sigmas_below : (level : ℕ) (side : Side) (rs : List Report) (opened : List Sums) (numbers : List ℕ) → numbers ≡ sigmas level side rs opened
    → All (λ n. n < modulus) numbers
sigmas_below level side rs opened numbers e =
    subst (All (λ n. n < modulus)) (sym e) (All-from_recursion (λ n. n < modulus) (sigmas level side rs opened) (sigmas_small level side rs opened))

pub totals_below : (candidates : List (List Bool)) (side : Side) (rs : List Report) (numbers : List ℕ) → numbers ≡ map (own_total rs side) candidates
    → All (λ n. n < modulus) numbers
totals_below candidates side rs numbers e =
    subst (All (λ n. n < modulus)) (sym e) (All-from_recursion (λ n. n < modulus) (map (own_total rs side) candidates) (below-map (own_total rs side) (λ q. total_by-below _ rs) candidates))

-- ---- conditions

pub places_within : (batch : List Report) (side : Side) (shares : List Share) (live : List ℕ) → shares ≡ map (λ r. held r side) batch
    → All (λ k. k < length batch) live → All (λ k. k < length shares) live
places_within batch side shares live e all =
    subst (λ n. All (λ k. k < n) live) (sym (ap (λ ss. length ss) e ∙ length_map (λ r. held r side) batch)) all
