-- Key generation: a client's coins, and the two shares of a string.
use Rattle.std.specs.Prelude.{◌≡◌, ℕ, zero, suc, ◌+◌, length, Bool, true, false, not, if◌then◌else◌, List, [], ◌∷◌, ◌++◌}
use Rattle.definitions.specs.Field.{add, sub, neg}
use Rattle.definitions.specs.Words.{part, seed_xor, element, extend, convert}
use Rattle.definitions.specs.Prefixes.{xor}
use Rattle.definitions.specs.Evaluation.{LevelWord, Share, kept_seed, child_seed, child_bit}
use Rattle.definitions.specs.Sketch.{Triple, triples_added, correlation, correction_a, correction_b}

-- ---- coins

-- a client's coins of one level: the data k, and side 0's numbers A and B
pub record LevelCoins : Type 0 where
  pub k : ℕ
  pub a0 : ℕ
  pub b0 : ℕ

-- two root seeds, two correlation seeds, and the coins of the levels 1, 2, ..
pub record ClientCoins : Type 0 where
  pub root0 : List ℕ
  pub root1 : List ℕ
  pub corr0 : List ℕ
  pub corr1 : List ℕ
  pub levels : List LevelCoins

-- the coins of a level, from stream number level of the report's seed
abbrev pub level_coins : List ℕ → ℕ → LevelCoins
level_coins seed level = record { k = element seed level 0; a0 = element seed level 4; b0 = element seed level 8 }

-- those of the first levels, in order
unfoldable pub coins_of_levels : List ℕ → ℕ → List LevelCoins
coins_of_levels seed zero = []
coins_of_levels seed (suc level) = coins_of_levels seed level ++ level_coins seed (suc level) ∷ []

-- the seed of the report of a line, counted from 0
abbrev pub report_seed : List ℕ → ℕ → List ℕ
report_seed master line = part master (line + 1) 0

-- the coins of a line for so many levels, from a master seed
unfoldable pub client_coins : List ℕ → ℕ → ℕ → ClientCoins
client_coins master line levels =
    let seed = report_seed master line in
    record {
      root0 = part seed 0 0;
      root1 = part seed 0 8;
      corr0 = part seed 0 16;
      corr1 = part seed 0 24;
      levels = coins_of_levels seed levels;
    }

-- ---- the path of the string

-- both sides' seeds and bits at a prefix of the string
pub record Path : Type 0 where
  pub seed0 : List ℕ
  pub bit0 : Bool
  pub seed1 : List ℕ
  pub bit1 : Bool

-- at the empty prefix the bits are the sides' numbers
abbrev pub start : ClientCoins → Path
start coins = record { seed0 = coins.root0; bit0 = false; seed1 = coins.root1; bit1 = true }

-- the seed word and the bit words along the string's bit: the sides will agree off the path, and their bits differ on it
abbrev pub path_word : Path → Bool → LevelWord
path_word path bit =
    let from0 = extend path.seed0 in
    let from1 = extend path.seed1 in
    record {
      seed = seed_xor (kept_seed from0 (not bit)) (kept_seed from1 (not bit));
      left = xor (xor from0.bit_left from1.bit_left) (not bit);
      right = xor (xor from0.bit_right from1.bit_right) bit;
      u = 0;
      v = 0;
      a = 0;
      b = 0;
    }

-- a number with the sign of the value word: minus where side 1's new bit is set
abbrev pub value_signed : Bool → ℕ → ℕ
value_signed bit1 x = if bit1 then neg x else x

-- the word of a level without the numbers of the sketch: its value word makes the sides' values add up to 1 and k
unfoldable pub value_word : Path → Bool → ℕ → LevelWord
value_word path bit k =
    let word = path_word path bit in
    let from0 = convert (child_seed word path.seed0 path.bit0 bit) in
    let from1 = convert (child_seed word path.seed1 path.bit1 bit) in
    let bit1 = child_bit word path.seed1 path.bit1 bit in
    record word {
      u = value_signed bit1 (add (sub 1 from0.u) from1.u);
      v = value_signed bit1 (add (sub k from0.v) from1.v);
    }

-- the path after a bit: each side goes to the kept child and takes the seed that its seed is converted to
unfoldable pub path_after : Path → Bool → Path
path_after path bit =
    let word = path_word path bit in
    record {
      seed0 = (convert (child_seed word path.seed0 path.bit0 bit)).next;
      bit0 = child_bit word path.seed0 path.bit0 bit;
      seed1 = (convert (child_seed word path.seed1 path.bit1 bit)).next;
      bit1 = child_bit word path.seed1 path.bit1 bit;
    }

-- ---- the shares

-- side 0's words from a level on, for the bits that are left: it has its numbers A and B from the coins
abbrev pub words0 : Path → List Bool → List LevelCoins → List LevelWord
words0 path [] coins = []
words0 path (bit ∷ bits) [] = []
words0 path (bit ∷ bits) (c ∷ coins) =
    record (value_word path bit c.k) { a = c.a0; b = c.b0 } ∷ words0 (path_after path bit) bits coins

-- side 1's words, with what is left of A and B; the correlation of both sides is given by level
abbrev pub words1 : (ℕ → Triple) → ℕ → Path → List Bool → List LevelCoins → List LevelWord
words1 joint level path [] coins = []
words1 joint level path (bit ∷ bits) [] = []
words1 joint level path (bit ∷ bits) (c ∷ coins) =
    record (value_word path bit c.k) { a = sub (correction_a (joint level) c.k) c.a0; b = sub (correction_b (joint level) c.k) c.b0 }
    ∷ words1 joint (level + 1) (path_after path bit) bits coins

-- the correlation's sums over both sides
abbrev pub joint_correlation : ClientCoins → ℕ → Triple
joint_correlation coins level = triples_added (correlation coins.corr0 level) (correlation coins.corr1 level)

-- the generated pair: side 0's share and side 1's, of an id, a string and coins
abbrev pub share0 : List ℕ → List Bool → ClientCoins → Share
share0 id string coins = record { id = id; root = coins.root0; corr = coins.corr0; levels = words0 (start coins) string coins.levels }

abbrev pub share1 : List ℕ → List Bool → ClientCoins → Share
share1 id string coins =
    record { id = id; root = coins.root1; corr = coins.corr1; levels = words1 (joint_correlation coins) 1 (start coins) string coins.levels }

-- the two shares came from key generation for the string, with some coins and their common id
pub record IsGenerated (zero_share one_share : Share) (string : List Bool) : Type 0 where
  pub coins : ClientCoins
  pub levels : length coins.levels ≡ length string
  pub zero_is : zero_share ≡ share0 zero_share.id string coins
  pub one_is : one_share ≡ share1 zero_share.id string coins
