-- What an intake's history says of its passes' own entries.
use Rattle.std.specs.Prelude.{List, flat_map}
use Rattle.core_definitions.specs.System.{Entry}
use Rattle.walk_definitions.specs.Laws.{SameShares}
use Rattle.report_intake.specs.Seen.{UploadPassSeen}
use Rattle.report_intake.specs.History.{shares_of, own_shares, IsHistory}

-- The shares of a history are those of the passes' own entries, whether taken in the order of the passes' numbers or in the order of the list.
abbrev pub OwnLaw : Type 0
OwnLaw = (passes : List UploadPassSeen) (log : List Entry) → IsHistory passes log
    → SameShares (shares_of log) (own_shares passes) × SameShares (shares_of log) (shares_of (flat_map (λ pass. pass.own) passes))
