-- The pair of a line's string that is made level by level.
use Rattle.std.specs.Prelude.{◌≡◌, ℕ, zero, suc, ◌+◌, ◌%◌, ◌<◌, ◌≤◌, Bool, false, List, ◌++◌, length, take, drop, slice_index_or}
use Rattle.prefix_bits.specs.declared.TheConstants.{MOST_BITS}
use Rattle.definitions.specs.Evaluation.{LevelWord, Share}
use Rattle.definitions.specs.Generation.{Path, LevelCoins, ClientCoins, client_coins, level_coins, report_seed, start, path_after, words0, words1, joint_correlation}
use Rattle.idpf_gen.specs.LevelWords.{word0, word1}
use Rattle.idpf_gen.specs.Made.{zero_share, one_share}

-- the master seed, the tag, the line and its string; how many levels are made, and where both sides stand after them
pub record Growing : Type 0 where
  pub master : List ℕ
  pub tag : ℕ
  pub line : ℕ
  pub string : List Bool
  pub done : ℕ
  pub path : Path

-- before the first level
abbrev pub begun : List ℕ → ℕ → ℕ → List Bool → Growing
begun master tag line string = record {
  master = master;
  tag = tag;
  line = line;
  string = string;
  done = 0;
  path = start (client_coins master line (length string));
}

-- the line's coins
abbrev pub coins_for : Growing → ClientCoins
coins_for p = client_coins p.master p.line (length p.string)

-- the bit of the string and the coins at the next level
abbrev pub bit_next : Growing → Bool
bit_next p = slice_index_or p.string p.done false

abbrev pub coins_next : Growing → LevelCoins
coins_next p = level_coins (report_seed p.master p.line) (p.done + 1)

-- both sides' words of a level, and the path after the string's bit
pub record Turn : Type 0 where
  pub zero : LevelWord
  pub one : LevelWord
  pub path : Path

-- what the next level gives
abbrev pub turn_of : Growing → Turn
turn_of p = record {
  zero = word0 p.path (bit_next p) (coins_next p);
  one = word1 (joint_correlation (coins_for p) (p.done + 1)) p.path (bit_next p) (coins_next p);
  path = path_after p.path (bit_next p);
}

-- one level further down, and so many
abbrev pub one_level : Growing → Growing
one_level p = record p { done = p.done + 1; path = path_after p.path (bit_next p) }

abbrev pub levels_down : ℕ → Growing → Growing
levels_down zero p = p
levels_down (suc n) p = one_level (levels_down n p)

-- this level, counted from 1, is the next, and the string has a bit for it
pub record IsReady (level : ℕ) (p : Growing) : Type 0 where
  pub next : p.done + 1 ≡ level
  pub more : p.done < length p.string

-- a string of so many bits has a share: 8 to the most, a multiple of 8
abbrev pub MayShare : ℕ → Type 0
MayShare bits = (8 ≤ bits) × (bits ≤ MOST_BITS) × (bits % 8 ≡ 0)

-- all levels of the string are made, and it may have a share
pub record IsWhole (p : Growing) : Type 0 where
  pub all : length p.string ≤ p.done
  pub bits : MayShare (length p.string)

-- the two shares that the pair comes to
abbrev pub zero_made : Growing → Share
zero_made p = zero_share p.master p.tag p.line p.string

abbrev pub one_made : Growing → Share
one_made p = one_share p.master p.tag p.line p.string

-- the seeds of a line are those of its coins
pub record HasSeeds (master : List ℕ) (line : ℕ) (string : List Bool) (seed root0 root1 corr0 corr1 : List ℕ) : Type 0 where
  pub report : seed ≡ report_seed master line
  pub zero_root : root0 ≡ (client_coins master line (length string)).root0
  pub one_root : root1 ≡ (client_coins master line (length string)).root1
  pub zero_corr : corr0 ≡ (client_coins master line (length string)).corr0
  pub one_corr : corr1 ≡ (client_coins master line (length string)).corr1

-- both sides' words stand up to a level: with those of the rest of the path they are all words of the pair
pub record IsGrown (coins : ClientCoins) (string : List Bool) (done : ℕ) (path : Path) (zeros ones : List LevelWord) : Type 0 where
  pub zero_long : length zeros ≡ length string
  pub one_long : length ones ≡ length string
  pub zero_words : words0 (start coins) string coins.levels ≡ take done zeros ++ words0 path (drop done string) (drop done coins.levels)
  pub one_words : words1 (joint_correlation coins) 1 (start coins) string coins.levels
      ≡ take done ones ++ words1 (joint_correlation coins) (done + 1) path (drop done string) (drop done coins.levels)
