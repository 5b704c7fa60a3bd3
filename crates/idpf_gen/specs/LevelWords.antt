-- The two sides' words of one level of a generated pair.
use Rattle.std.specs.Prelude.{Bool, ℕ, List}
use Rattle.definitions.specs.Field.{sub}
use Rattle.definitions.specs.Evaluation.{LevelWord, child_seed}
use Rattle.definitions.specs.Sketch.{Triple, correction_a, correction_b}
use Rattle.definitions.specs.Generation.{Path, LevelCoins, path_word, value_word}

-- side 0 has its numbers A and B from the coins
abbrev pub word0 : Path → Bool → LevelCoins → LevelWord
word0 path bit c = record (value_word path bit c.k) { a = c.a0; b = c.b0 }

-- side 1 has what is left of A and B, which come from the whole correlation and the data
abbrev pub word1 : Triple → Path → Bool → LevelCoins → LevelWord
word1 joint path bit c =
    record (value_word path bit c.k) { a = sub (correction_a joint c.k) c.a0; b = sub (correction_b joint c.k) c.b0 }

-- the seeds of the two sides' kept children, corrected, before they are converted
abbrev pub kept_seed0 : Path → Bool → List ℕ
kept_seed0 path bit = child_seed (path_word path bit) path.seed0 path.bit0 bit

abbrev pub kept_seed1 : Path → Bool → List ℕ
kept_seed1 path bit = child_seed (path_word path bit) path.seed1 path.bit1 bit
