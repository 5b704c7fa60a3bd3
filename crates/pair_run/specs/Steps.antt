-- What a step of the walk leaves.
use Rattle.std.specs.Prelude.{◌≡◌, ◌<◌, ◌≤◌, ◌+◌, ℕ, Bool, List, Option, Some, length}
use Rattle.std.specs.List.{All}
use Rattle.shelf_io.specs.Talks.{Talk}
use Rattle.walk_definitions.specs.Reports.{Report}
use Rattle.walk_definitions.specs.Walk.{Settings, End, done}
use Rattle.frontier_walk.specs.Frontiers.{Frontier}
use Rattle.frontier_walk.specs.Outcomes.{Outcome, further, answered, too_many}
use Rattle.pair_run.specs.declared.answers.PairError.{PairError}
use Rattle.pair_run.specs.declared.answers.PairError.TheVariants.{Cap, Link, PeerMessage, Views, Memory}
use Rattle.pair_run.specs.Places.{picked}
use Rattle.pair_run.specs.Talking.{Passed}
use Rattle.pair_run.specs.Walks.{EndsSo, GoesTo, TrulyEnds, TrulyGoes}
use Rattle.pair_run.specs.declared.answers.Answer.{Answer}
use Rattle.pair_run.specs.declared.step.Step.{Step}
use Rattle.pair_run.specs.declared.step.Step.TheVariants.{Done, Further}

-- the end that an answer is
abbrev pub answer_end : Answer → End
answer_end answer = done answer.levels answer.passed answer.heavy

-- the number of reports, and the heavy prefixes' number of bits
abbrev pub IsAnswer : Frontier → List Report → Answer → Type 0
IsAnswer frontier batch answer = (answer.sealed ≡ length batch) × All (λ h. length h.prefix ≡ frontier.bits) answer.heavy

abbrev pub StepHeard : Settings → List Report → Frontier → List ℕ → Option Talk → Option Talk → Step → Type 0
StepHeard settings batch frontier live before now (Done answer) = Passed before now (EndsSo settings frontier (picked batch live) (answer_end answer))
StepHeard settings batch frontier live before now (Further next passed) =
    Passed before now (GoesTo settings frontier (picked batch live) next (picked batch passed.items))

abbrev pub StepTrue : Settings → List Report → Frontier → Bool → Option Talk → Option Talk → Step → Type 0
StepTrue settings batch frontier truth before now (Done answer) = TrulyEnds settings batch frontier truth before now (Some (answer_end answer))
StepTrue settings batch frontier truth before now (Further next passed) =
    TrulyGoes settings batch frontier next (picked batch passed.items) truth before now

-- the next frontier is one level on, and the reports that passed are places in the batch
abbrev pub StepKept : List Report → Frontier → Step → Type 0
StepKept batch frontier (Done answer) = IsAnswer frontier batch answer
StepKept batch frontier (Further next passed) =
    (next.bits ≡ frontier.bits) × (next.cap ≡ frontier.cap) × (next.level ≡ frontier.level + 1) × (frontier.level < frontier.bits)
    × All (λ k. k < length batch) passed.items × (length passed.items ≤ length batch)

-- a step by what the pruning of its level ends in, with the places of the reports that passed
abbrev pub IsOutcome : Frontier → List Report → List ℕ → Outcome → Step → Type 0
IsOutcome frontier batch live outcome (Done answer) =
    (outcome ≡ answered answer.heavy) × (answer.levels ≡ frontier.level) × (answer.passed ≡ length (picked batch live))
IsOutcome frontier batch live outcome (Further next passed) = (outcome ≡ further next) × (passed.items ≡ live)

-- an error by what the pruning ends in: the cap, or want of memory
abbrev pub IsStop : Outcome → PairError → Type 0
IsStop outcome (Cap level wanted) = outcome ≡ too_many level wanted
IsStop outcome Link = ⊥
IsStop outcome (PeerMessage level kind at) = ⊥
IsStop outcome (Views level kind place left right) = ⊥
IsStop outcome Memory = Unit {0}
