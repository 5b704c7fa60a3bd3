-- What is heard, in parts that follow one another.
use Rattle.std.specs.Prelude.{◌≡◌, ℕ, Bool, List, ◌++◌, map}
use Rattle.definitions.specs.declared.Side.TheVariants.{Zero, One}
use Rattle.definitions.specs.Sketch.{Sums, sums_added}
use Rattle.walk_definitions.specs.Reports.{Report}
use Rattle.walk_definitions.specs.Walk.{Settings, End, own_sums, own_total}
use Rattle.walk_definitions.specs.Messages.{Message, flat}
use Rattle.walk_definitions.specs.Heard.{Heard, preceded, paired, unflat, kept, exchanged, added, sigmas, heard_level}

-- a part of what is heard: of the bytes left for each side, and of what comes after it with the part's result and the bytes
-- that it leaves
abbrev pub Part : Type 0 → Type 0
Part X = List ℕ → List ℕ → (X → List ℕ → List ℕ → Heard) → Heard

-- the part has this result and these messages where each side received these bytes, whatever follows
abbrev pub GoesOn : {X : Type 0} → Part X → X → List Message → List ℕ → List ℕ → Type 0
GoesOn {X} part x sent zero one =
    (rest0 rest1 : List ℕ) (next : X → List ℕ → List ℕ → Heard) → part (zero ++ rest0) (one ++ rest1) next ≡ preceded sent (next x rest0 rest1)

-- the walk ends in this part, with these messages, where each side received these bytes
abbrev pub EndsThere : {X : Type 0} → Part X → End → List Message → List ℕ → List ℕ → Type 0
EndsThere {X} part end sent zero one =
    (next : X → List ℕ → List ℕ → Heard) → part zero one next ≡ record { end = end; messages = sent }

-- one part, and another that depends on its result
abbrev pub followed : {X Y : Type 0} → Part X → (X → Part Y) → Part Y
followed part then zero one next = part zero one (λ x rest0 rest1. then x rest0 rest1 next)

-- both sides send these numbers and take the other's
abbrev pub exchange : ℕ → ℕ → List ℕ → List ℕ → Part (List ℕ × List ℕ)
exchange kind level own0 own1 zero one next =
    exchanged kind level own0 own1 zero one (λ to0 to1 rest0 rest1. next (to0, to1) rest0 rest1)

-- the first part of a level: both sides send their sums and open them
abbrev pub opening : Settings → ℕ → List (List Bool) → List Report → Part (List Sums × List Sums)
opening settings level candidates live zero one next =
    let sums0 = map (own_sums settings level candidates Zero) live in
    let sums1 = map (own_sums settings level candidates One) live in
    exchanged 1 level (flat sums0) (flat sums1) zero one (λ to0 to1 rest0 rest1.
    next (paired sums_added sums0 (unflat to0), paired sums_added sums1 (unflat to1)) rest0 rest1)

-- the second: the sigmas of what each side opened, and which reports pass
abbrev pub checking : ℕ → List Report → List Sums × List Sums → Part (List Report)
checking level live opened zero one next =
    added 2 level (sigmas level Zero live opened.0) (sigmas level One live opened.1) zero one (λ numbers rest0 rest1. next (kept live numbers) rest0 rest1)

-- the third: the totals of those that pass
abbrev pub totalling : ℕ → List (List Bool) → List Report → Part (List ℕ)
totalling level candidates passed zero one next =
    added 3 level (map (own_total passed Zero) candidates) (map (own_total passed One) candidates) zero one next

-- a level, whose result is the reports that pass and the totals
abbrev pub whole_level : Settings → ℕ → List (List Bool) → List Report → Part (List Report × List ℕ)
whole_level settings level candidates live zero one next =
    heard_level settings level candidates live zero one (λ passed totals rest0 rest1. next (passed, totals) rest0 rest1)
