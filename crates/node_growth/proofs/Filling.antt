-- A list that is filled from the front, one place after another.
use Rattle.std.proofs.Common.{◌≡◌, ℕ, ◌+◌, ◌<◌, ◌≤◌, List, [], ◌∷◌, ◌++◌, length, map, take, sym, ◌∙◌, ap, ap₂, arith, slice_index_or, slice_set, subst, refl}
use Rattle.std.proofs.lemmas.List.{map_more, take_more_set, get_or_default, take-append-le, take_all, length-map, length-take-le}
use Rattle.definitions.specs.Evaluation.{Node}
use Rattle.node_growth.specs.Steps.{Step, no_step, no_node, parent_of, AreWithin}

-- one more place holds what f makes of the item there
pub filled_more : {X Y : Type 0} (f : X → Y) (xs : List X) (ys : List Y) (k : ℕ) (x d : X) (y : Y)
    → k < length xs → length xs ≤ length ys → take k ys ≡ map f (take k xs) → x ≡ slice_index_or xs k d → y ≡ f x
    → take (k + 1) (slice_set ys k y) ≡ map f (take (k + 1) xs)
filled_more f xs ys k x d y p q before is made =
    take_more_set ys k y (omega arith)
    ∙ ap₂ (λ ps z. ps ++ z ∷ []) before (made ∙ ap f is)
    ∙ sym (map_more f xs k d p)

-- the node that a step's index reads
pub parent_is : (nodes : List Node) (step : Step) (n : Node) → step.from < length nodes → n ≡ slice_index_or nodes step.from n
    → n ≡ parent_of nodes step
parent_is nodes step n h is = is ∙ get_or_default nodes step.from n no_node h

-- the step that an index reads goes from one of the nodes
pub within_at : (count : ℕ) (steps : List Step) (k : ℕ) (step d : Step) → AreWithin count steps → k < length steps → step ≡ slice_index_or steps k d
    → step.from < count
within_at count steps k step d within h is =
    subst (λ s. s.from < count) (sym (is ∙ get_or_default steps k d no_step h)) (within k h)

-- one function after another
pub map_of_map : {X Y Z : Type 0} (f : Y → Z) (g : X → Y) (xs : List X) → map f (map g xs) ≡ map (λ x. f (g x)) xs
map_of_map f g [] = refl
map_of_map f g (x ∷ xs) = ap (λ zs. f (g x) ∷ zs) (map_of_map f g xs)

-- a call over the first places alone
pub first_mapped : {X Y : Type 0} (f : X → Y) (xs : List X) (out rest : List Y) (count : ℕ) → count ≤ length xs
    → out ≡ map f (take count xs) → take count (out ++ rest) ≡ map f (take count xs)
first_mapped f xs out rest count room is =
    let long : length out ≡ count = ap length is ∙ length-map (take count xs) f ∙ length-take-le count xs room in
    take-append-le count out rest (omega arith) ∙ take_all count out (omega arith) ∙ is

-- what a call over the first places gives, where those hold what g makes
pub first_of : {X Y Z : Type 0} (f : Y → Z) (g : X → Y) (xs : List X) (ys : List Y) (zs : List Z) (n : ℕ)
    → take n zs ≡ map f (take n ys) → take n ys ≡ map g xs → take n zs ≡ map (λ x. f (g x)) xs
first_of f g xs ys zs n e h = e ∙ ap (map f) h ∙ map_of_map f g xs
