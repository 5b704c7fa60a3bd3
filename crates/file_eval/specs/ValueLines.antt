-- The lines of values and of malformed records at a prefix.
use Rattle.std.specs.Prelude.{ℕ, ◌≤◌, Bool, List, [], ◌++◌, codes, length}
use Rattle.std.specs.List.{flat_map}
use Rattle.std.specs.Fmt.{decimal}
use Rattle.hex.specs.Hex.{encode_lower}
use Rattle.definitions.specs.declared.Side.{Side}
use Rattle.definitions.specs.Evaluation.{Share, Node, node}
use Rattle.answer_text.specs.RefusedText.{refused_line}
use Rattle.share_format.specs.declared.records.Record.{Record}
use Rattle.share_format.specs.declared.records.Record.TheVariants as given
use Rattle.share_format.specs.ShareFile.{RecordCase, shares_of, malformed_from}

-- an id in hexadecimal digits and a node's value, with tabs between them
abbrev pub node_line : List ℕ → Node → List ℕ
node_line id node = encode_lower id ++ (codes "\t" ++ (decimal node.d ++ (codes "\t" ++ (decimal node.e ++ codes "\n"))))

-- the line of a share: its id and its value at a prefix
abbrev pub value_line : Side → List Bool → Share → List ℕ
value_line side prefix share = node_line share.id (node share side prefix)

-- a line for each share of the records, in order
unfoldable pub value_lines : Side → List Bool → List RecordCase → List ℕ
value_lines side prefix cases = flat_map (value_line side prefix) (shares_of cases)

-- a line for each malformed record, ascending
unfoldable pub refused_lines : Side → List RecordCase → List ℕ
refused_lines side cases = flat_map (refused_line side) (malformed_from 0 cases)

-- what a reader's record adds to the text of values, and to that of refusals
abbrev pub given_value : Side → List Bool → Record → List ℕ
given_value side prefix (given.Share share) = value_line side prefix share
given_value side prefix (given.Malformed number) = []
given_value side prefix given.End = []

abbrev pub given_refusal : Side → Record → List ℕ
given_refusal side (given.Share share) = []
given_refusal side (given.Malformed number) = refused_line side number
given_refusal side given.End = []

-- a prefix is not longer than the levels of a share that a reader gave
abbrev pub IsShort : List Bool → Record → Type 0
IsShort prefix (given.Share share) = length prefix ≤ length share.levels
IsShort prefix (given.Malformed number) = Unit {0}
IsShort prefix given.End = Unit {0}
