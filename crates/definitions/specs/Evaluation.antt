-- Shares, and the value that a side has at a prefix.
use Rattle.std.specs.Prelude.{ℕ, ◌-◌, ◌%◌, Bool, true, false, if◌then◌else◌, List, [], ◌∷◌, slice_index_or}
use Rattle.definitions.specs.Field.{modulus, add, neg}
use Rattle.definitions.specs.Words.{seed_xor, Children, extend, convert}
use Rattle.definitions.specs.declared.Side.{Side}
use Rattle.definitions.specs.declared.Side.TheVariants.{Zero, One}
use Rattle.definitions.specs.Prefixes.{xor}

-- the corrections of one level: a seed, a bit for each child, a pair of elements; and the numbers A and B of the sketch
pub record LevelWord : Type 0 where
  pub seed : List ℕ
  pub left : Bool
  pub right : Bool
  pub u : ℕ
  pub v : ℕ
  pub a : ℕ
  pub b : ℕ

-- what one side holds of a report: its id of 16 bytes, two seeds of 32 bytes, and the words of the levels 1, 2, ..
pub record Share : Type 0 where
  pub id : List ℕ
  pub root : List ℕ
  pub corr : List ℕ
  pub levels : List LevelWord

-- a side's state and value at a prefix: a seed of 32 bytes, a bit, and a pair of elements
pub record Node : Type 0 where
  pub seed : List ℕ
  pub bit : Bool
  pub d : ℕ
  pub e : ℕ

-- the bit that a side starts with
abbrev pub root_bit : Side → Bool
root_bit Zero = false
root_bit One = true

-- the number that a side adds: side 1 takes the negative
abbrev pub signed : Side → ℕ → ℕ
signed Zero x = x
signed One x = neg x

-- the node of the empty prefix
abbrev pub root : Share → Side → Node
root share side = record { seed = share.root; bit = root_bit side; d = 0; e = 0 }

-- the seed and the bit of a child, before the correction
abbrev pub kept_seed : Children → Bool → List ℕ
kept_seed children bit = if bit then children.right else children.left

abbrev pub kept_bit : Children → Bool → Bool
kept_bit children bit = if bit then children.bit_right else children.bit_left

-- the bit that corrects the child along a bit
abbrev pub correction_bit : LevelWord → Bool → Bool
correction_bit word bit = if bit then word.right else word.left

-- the seed and the bit of a child, corrected where the parent's bit is set
abbrev pub child_seed : LevelWord → List ℕ → Bool → Bool → List ℕ
child_seed word seed set bit =
    let kept = kept_seed (extend seed) bit in if set then seed_xor kept word.seed else kept

abbrev pub child_bit : LevelWord → List ℕ → Bool → Bool → Bool
child_bit word seed set bit =
    let kept = kept_bit (extend seed) bit in if set then xor kept (correction_bit word bit) else kept

-- a side's element: the child's own, and the level's where the child's bit is set
abbrev pub child_value : Side → Bool → ℕ → ℕ → ℕ
child_value side bit own correction = signed side (if bit then add (own % modulus) correction else own % modulus)

-- the child of a node along a bit
unfoldable pub child : LevelWord → Side → Node → Bool → Node
child word side node bit =
    let converted = convert (child_seed word node.seed node.bit bit) in
    let t = child_bit word node.seed node.bit bit in
    record {
      seed = converted.next;
      bit = t;
      d = child_value side t converted.u word.u;
      e = child_value side t converted.v word.v;
    }

abbrev pub no_word : LevelWord
no_word = record { seed = []; left = false; right = false; u = 0; v = 0; a = 0; b = 0 }

-- the word of a level, counted from 1
abbrev pub level_word : Share → ℕ → LevelWord
level_word share level = slice_index_or share.levels (level - 1) no_word

-- the node that the bits lead to, each by the next level's word
unfoldable pub descend : List LevelWord → Side → Node → List Bool → Node
descend [] side node bits = node
descend (word ∷ words) side node [] = node
descend (word ∷ words) side node (bit ∷ bits) = descend words side (child word side node bit) bits

-- a side's node at a prefix that is not longer than the levels
abbrev pub node : Share → Side → List Bool → Node
node share side prefix = descend share.levels side (root share side) prefix
