-- What holds of the walk.
use Rattle.std.specs.Prelude.{◌≡◌, ◌⊎◌, ℕ, ◌-◌, ◌<◌, ◌≤◌, Bool, true, List, [], ◌∷◌, length}
use Rattle.std.specs.List.Sorted.{IsPermutation}
use Rattle.definitions.specs.declared.Side.TheVariants.{Zero, One}
use Rattle.definitions.specs.Field.{modulus}
use Rattle.definitions.specs.Generation.{IsGenerated}
use Rattle.definitions.specs.Evaluation.{Share}
use Rattle.walk_definitions.specs.Ascending.{bytes_before}
use Rattle.walk_definitions.specs.Reports.{Report, batch}
use Rattle.walk_definitions.specs.Walk.{Settings, Heavy, done, ending, walk, live_at, total, survivors_at}
use Rattle.walk_definitions.specs.Heavy.{count, heavy}
use Rattle.walk_definitions.specs.Messages.{messages}
use Rattle.shelf_io.specs.Talks.{sent_by}
use Rattle.walk_definitions.specs.Heard.{heard}

-- each report came from key generation, for the string at its place, which has so many bits
abbrev pub AreGenerated : ℕ → List Report → List (List Bool) → Type 0
AreGenerated bits [] [] = Unit {0}
AreGenerated bits [] (s ∷ ss) = ⊥
AreGenerated bits (r ∷ rs) [] = ⊥
AreGenerated bits (r ∷ rs) (s ∷ ss) = (length s ≡ bits) × IsGenerated r.held0 r.held1 s × AreGenerated bits rs ss

-- fewer reports than the modulus pass the first level, and each of them is generated
pub record IsHonest (settings : Settings) (batch : List Report) (strings : List (List Bool)) : Type 0 where
  pub some_bits : 1 ≤ settings.bits
  pub some_threshold : 1 ≤ settings.threshold
  pub generated : AreGenerated settings.bits (live_at settings batch 1) strings
  pub few : length strings < modulus

-- All that pass the first level pass every level, the totals are the numbers of strings, and the survivors are the heavy prefixes.
pub record LevelsAreHeavy (settings : Settings) (batch : List Report) (strings : List (List Bool)) : Type 0 where
  pub live : (level : ℕ) → 1 ≤ level → level ≤ settings.bits → live_at settings batch level ≡ live_at settings batch 1
  pub totals : (prefix : List Bool) → 1 ≤ length prefix → length prefix ≤ settings.bits
      → total (live_at settings batch (length prefix)) prefix ≡ count strings prefix
  pub survive : (level : ℕ) → 1 ≤ level → level ≤ settings.bits
      → survivors_at settings batch level ≡ heavy level strings settings.threshold
  pub ends : walk settings batch
      ≡ ending settings.cap (λ level. heavy level strings settings.threshold) (λ level. length strings) (settings.bits - 1) 1
  pub answer : (level passed : ℕ) (found : List Heavy) → walk settings batch ≡ done level passed found
      → (passed ≡ length strings) × (found ≡ heavy settings.bits strings settings.threshold)

abbrev pub HeavyLaw : Type 0
HeavyLaw = (settings : Settings) (batch : List Report) (strings : List (List Bool)) → IsHonest settings batch strings → LevelsAreHeavy settings batch strings

-- Where each side received what the other sent, what was heard is the walk, and its messages are the walk's.
abbrev pub TrueLinkLaw : Type 0
TrueLinkLaw = (settings : Settings) (batch : List Report)
    → let sent = messages settings batch in
    heard settings batch (sent_by One sent) (sent_by Zero sent) ≡ record { end = walk settings batch; messages = sent }

-- Where the whole batch is generated, all of it passes the first level.
abbrev pub WholeBatchLaw : Type 0
WholeBatchLaw = (settings : Settings) (batch : List Report) (strings : List (List Bool))
    → 1 ≤ settings.bits → AreGenerated settings.bits batch strings → live_at settings batch 1 ≡ batch

abbrev pub IsAmong : Share → List Share → Type 0
IsAmong s [] = ⊥
IsAmong s (t ∷ ts) = (t ≡ s) ⊎ IsAmong s ts

-- each share of the one list is among the other
abbrev pub SameShares : List Share → List Share → Type 0
SameShares shares others = ((s : Share) → IsAmong s shares → IsAmong s others) × ((s : Share) → IsAmong s others → IsAmong s shares)

-- The batch does not depend on the order of the shares, nor on how often each one comes.
abbrev pub BatchLaw : Type 0
BatchLaw = (shares0 others0 shares1 others1 : List Share) → SameShares shares0 others0 → SameShares shares1 others1
    → batch shares0 shares1 ≡ batch others0 others1

abbrev pub AllIdsAfter : List ℕ → List Report → Type 0
AllIdsAfter id [] = Unit {0}
AllIdsAfter id (r ∷ rs) = (bytes_before id r.id ≡ true) × AllIdsAfter id rs

abbrev pub IdsAscend : List Report → Type 0
IdsAscend [] = Unit {0}
IdsAscend (r ∷ rs) = AllIdsAfter r.id rs × IdsAscend rs

-- Each id stands once in the batch, and they ascend.
abbrev pub BatchOrderLaw : Type 0
BatchOrderLaw = (shares0 shares1 : List Share) → IdsAscend (batch shares0 shares1)

-- The heavy prefixes and their counts do not depend on the order of the strings.
abbrev pub OrderLaw : Type 0
OrderLaw = (level threshold : ℕ) (strings others : List (List Bool)) → IsPermutation strings others
    → heavy level strings threshold ≡ heavy level others threshold
