-- Evaluation as a recursion over the bits of a prefix.
use Rattle.std.specs.Prelude.{◌≡◌, ◌+◌, ◌<◌, Bool, List, [], ◌∷◌, ◌++◌, length}
use Rattle.definitions.specs.declared.Side.{Side}
use Rattle.definitions.specs.Evaluation.{Share, root, child, level_word, node}

-- The node at the empty prefix is the root.
abbrev pub RootLaw : Type 0
RootLaw = (share : Share) (side : Side) → node share side [] ≡ root share side

-- The node at a prefix followed by a bit is the child, along that bit and by the word of the level that is the child's
-- length, of the node at the prefix.
abbrev pub ChildLaw : Type 0
ChildLaw = (share : Share) (side : Side) (prefix : List Bool) (bit : Bool) → length prefix < length share.levels
    → node share side (prefix ++ bit ∷ []) ≡ child (level_word share (length prefix + 1)) side (node share side prefix) bit
