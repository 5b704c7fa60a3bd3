-- What holds of the batch of lists that are known up to order.
use Rattle.std.specs.Prelude.{◌≡◌, List}
use Rattle.std.specs.List.Sorted.{IsPermutation}
use Rattle.definitions.specs.Evaluation.{Share}
use Rattle.walk_definitions.specs.Reports.{batch}

-- Lists of the same shares in another order make the same batch.
abbrev pub OrderLaw : Type 0
OrderLaw = (shares0 others0 shares1 others1 : List Share) → IsPermutation shares0 others0 → IsPermutation shares1 others1
    → batch shares0 shares1 ≡ batch others0 others1
