-- Why a walk has no answer.
use Rattle.std.specs.Prelude.{◌≡◌, ℕ, ◌≤◌, List, Option, None, Some, Result, IfErr, IfSome}
use Rattle.shelf_io.specs.Faults.{Rose}
use Rattle.shelf_io.specs.Talks.{Talk}
use Rattle.peer_exchange.specs.declared.exchange_error.ExchangeError.{ExchangeError}
use Rattle.peer_exchange.specs.declared.exchange_error.ExchangeError.TheVariants.{Link as LinkFault, PeerMessage as BadMessage, Memory as NoMemory}
use Rattle.walk_definitions.specs.Walk.{End, capped, peer_message, views}
use Rattle.walk_definitions.specs.Heard.{Heard, ended, both_view}
use Rattle.pair_run.specs.Talking.{Passed}
use Rattle.pair_run.specs.Parts.{Part, EndsThere}
use Rattle.pair_run.specs.declared.answers.PairError.{PairError}
use Rattle.pair_run.specs.declared.answers.PairError.TheVariants.{Cap, Link, PeerMessage, Views, Memory}

-- the walk's end that an error is; none where the link failed or memory was short
abbrev pub end_of : PairError → Option End
end_of (Cap level wanted) = Some (capped level wanted)
end_of Link = None
end_of (PeerMessage level kind at) = Some (peer_message level kind at)
end_of (Views level kind place left right) = Some (views level kind place left right)
end_of Memory = None

-- an error of a send or a take as one of the walk
abbrev pub error_of : ExchangeError → PairError
error_of LinkFault = Link
error_of (BadMessage level kind at) = PeerMessage level kind at
error_of NoMemory = Memory

-- where an error is an end of the walk, the part ends so, of what passed on the link
abbrev pub Stops : {X : Type 0} → Part X → Option Talk → Option Talk → PairError → Type 0
Stops part before now e = IfSome (end_of e) (λ end. Passed before now (EndsThere part end))

-- what an answer says of the link's count of faults before and after: the count did not fall, and Link comes only where it rose
pub record HasPairCause {T : Type 0} (before now : ℕ) (result : Result T PairError) : Type 0 where
  pub later : before ≤ now
  pub link : IfErr result (λ e. e ≡ Link → Rose before now)

-- the error is the comparison's end, whatever would have come after it
abbrev pub IsView : ℕ → ℕ → List ℕ → List ℕ → PairError → Type 0
IsView kind level xs ys (Cap l wanted) = ⊥
IsView kind level xs ys Link = ⊥
IsView kind level xs ys (PeerMessage l k at) = ⊥
IsView kind level xs ys (Views l k place left right) = (next : Heard) → both_view kind level 0 xs ys next ≡ ended (views l k place left right)
IsView kind level xs ys Memory = ⊥
