-- Live reports as places in a batch.
use Rattle.std.specs.Prelude.{ℕ, List, [], ◌∷◌, ◌++◌, take, drop}
use Rattle.definitions.specs.Evaluation.{Share}
use Rattle.walk_definitions.specs.Reports.{Report}

-- the items at these places
abbrev pub picked : {X : Type 0} → List X → List ℕ → List X
picked xs [] = []
picked xs (k ∷ ks) = take 1 (drop k xs) ++ picked xs ks

-- a report as one side knows it: its own share alone
abbrev pub alone : Share → Report
alone share = record { id = share.id; held0 = share; held1 = share }
