-- What holds of the shares and reports that are made of a list of strings.
use Rattle.std.specs.Prelude.{◌≡◌, ◌⊎◌, ℕ, ◌-◌, ◌*◌, ◌^◌, ◌≤◌, ◌<◌, Bool, List, [], length}
use Rattle.std.specs.List.{All}
use Rattle.definitions.specs.Field.{modulus}
use Rattle.walk_definitions.specs.Reports.{batch}
use Rattle.walk_definitions.specs.Walk.{Settings, Heavy, done, capped, ending, walk, live_at, survivors_at}
use Rattle.walk_definitions.specs.Heavy.{heavy}
use Rattle.walk_definitions.specs.Laws.{AreGenerated}
use Rattle.walk_laws.specs.LastLevel.{IsLast, EndsOnce}
use Rattle.idpf_gen.specs.Made.{made_zero, made_one}
use Rattle.pair_shares.specs.MadeReports.{made_reports}

-- a share for each string, with as many levels as the string has bits
pub record AreWhole (master : List ℕ) (tag bits : ℕ) (strings : List (List Bool)) : Type 0 where
  pub count0 : length (made_zero master tag 0 strings) ≡ length strings
  pub count1 : length (made_one master tag 0 strings) ≡ length strings
  pub levels0 : All (λ s. length s.levels ≡ bits) (made_zero master tag 0 strings)
  pub levels1 : All (λ s. length s.levels ≡ bits) (made_one master tag 0 strings)

abbrev pub LevelsLaw : Type 0
LevelsLaw = (master : List ℕ) (tag bits : ℕ) (strings : List (List Bool)) → All (λ s. length s ≡ bits) strings
    → AreWhole master tag bits strings

-- The batch of the two lists is the reports in the order of the strings, each once.
pub record AreTheBatch (master : List ℕ) (tag : ℕ) (strings : List (List Bool)) : Type 0 where
  pub batch : batch (made_zero master tag 0 strings) (made_one master tag 0 strings) ≡ made_reports master tag strings
  pub count : length (made_reports master tag strings) ≡ length strings

-- The lines are told by 8 bytes of the ids.
abbrev pub BatchLaw : Type 0
BatchLaw = (master : List ℕ) (tag : ℕ) (strings : List (List Bool)) → length strings ≤ 2 ^ 64 → AreTheBatch master tag strings

-- ---- the walk over them

-- The level is the first that is the last of all, or has no frequent prefix, or has too many.
abbrev pub IsLastOf : Settings → List (List Bool) → ℕ → Type 0
IsLastOf settings strings level = IsLast settings.bits settings.cap (λ l. heavy l strings settings.threshold) level

-- an answer: all reports passed, and it is the strings that at least the threshold hold; the walk ended at the first level that is
-- the last of all or has no frequent prefix, none before it having too many
pub record IsAnswerOf (settings : Settings) (strings : List (List Bool)) (level passed : ℕ) (found : List Heavy) : Type 0 where
  pub passed_is : passed ≡ length strings
  pub found_is : found ≡ heavy settings.bits strings settings.threshold
  pub last : IsLastOf settings strings level
  pub done : (level ≡ settings.bits) ⊎ (heavy level strings settings.threshold ≡ [])

-- a cap: the first level below the last of all whose frequent prefixes, twice, are more than the cap; that number is wanted
pub record IsCapOf (settings : Settings) (strings : List (List Bool)) (level wanted : ℕ) : Type 0 where
  pub last : IsLastOf settings strings level
  pub below : level < settings.bits
  pub wanted_is : wanted ≡ 2 * length (heavy level strings settings.threshold)
  pub more : settings.cap < wanted

-- the walk over the reports of these strings
pub record WalksOver (settings : Settings) (master : List ℕ) (tag : ℕ) (strings : List (List Bool)) : Type 0 where
  -- each report came from key generation for its string, and passes every level;
  pub generated : AreGenerated settings.bits (made_reports master tag strings) strings
  pub live : (level : ℕ) → 1 ≤ level → level ≤ settings.bits
      → live_at settings (made_reports master tag strings) level ≡ made_reports master tag strings
  -- what survives a level is the prefixes that at least the threshold of the strings begin with, with their numbers;
  pub survive : (level : ℕ) → 1 ≤ level → level ≤ settings.bits
      → survivors_at settings (made_reports master tag strings) level ≡ heavy level strings settings.threshold
  -- the end is that of these, at the first level that is the last of all, has none, or has too many;
  pub ends : walk settings (made_reports master tag strings)
      ≡ ending settings.cap (λ level. heavy level strings settings.threshold) (λ level. length strings) (settings.bits - 1) 1
  pub once : EndsOnce settings.bits settings.cap (λ level. heavy level strings settings.threshold) (λ level. length strings)
      (walk settings (made_reports master tag strings))
  -- an answer is that of the strings, and so is a cap.
  pub answer : (level passed : ℕ) (found : List Heavy) → walk settings (made_reports master tag strings) ≡ done level passed found
      → IsAnswerOf settings strings level passed found
  pub cap : (level wanted : ℕ) → walk settings (made_reports master tag strings) ≡ capped level wanted
      → IsCapOf settings strings level wanted

abbrev pub WalkLaw : Type 0
WalkLaw = (settings : Settings) (master : List ℕ) (tag : ℕ) (strings : List (List Bool)) → 1 ≤ settings.bits → 1 ≤ settings.threshold
    → length strings < modulus → All (λ s. length s ≡ settings.bits) strings → WalksOver settings master tag strings
