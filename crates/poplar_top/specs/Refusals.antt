-- The status and the line of each refusal, and of each refusal of a walk.
use Rattle.std.specs.Prelude.{ℕ, List, ◌++◌, codes}
use Rattle.std.specs.Fmt.{decimal}
use Rattle.definitions.specs.Sides.{side_number}
use Rattle.poplar_top.specs.declared.refusal.Refusal.{Refusal}
use Rattle.poplar_top.specs.declared.refusal.Refusal.TheVariants.{Missing, TooLong, Header, Cut, LongPrefix, NoStrings, StringsLong, TooMany, LineLong, ZeroByte, Widths, Walk}
use Rattle.poplar_top.specs.declared.walk_refusal.WalkRefusal.{WalkRefusal}
use Rattle.poplar_top.specs.declared.walk_refusal.WalkRefusal.TheVariants.{Cap, PeerMessage, Views}

abbrev pub walk_status : WalkRefusal → ℕ
walk_status (Cap level wanted) = 5
walk_status (PeerMessage level kind at) = 9
walk_status (Views level kind place left right) = 9

abbrev pub status_of : Refusal → ℕ
status_of (Missing side) = 3
status_of (TooLong side) = 3
status_of (Header side at) = 3
status_of (Cut side at) = 3
status_of (LongPrefix bits width) = 4
status_of NoStrings = 11
status_of StringsLong = 11
status_of (TooMany lines) = 11
status_of (LineLong line) = 11
status_of (ZeroByte line) = 11
status_of (Widths zero one) = 4
status_of (Walk why) = walk_status why

abbrev pub walk_line : WalkRefusal → List ℕ
walk_line (Cap level wanted) = codes "frontier cap: level " ++ (decimal level ++ (codes " wants " ++ (decimal wanted ++ codes "\n")))
walk_line (PeerMessage level kind at) =
    codes "peer message: level " ++ (decimal level ++ (codes " kind " ++ (decimal kind ++ (codes " at byte " ++ (decimal at ++ codes "\n")))))
walk_line (Views level kind place left right) =
    codes "views differ: level " ++ (decimal level ++ (codes " kind " ++ (decimal kind ++ (codes " place " ++ (decimal place
    ++ (codes ": " ++ (decimal left ++ (codes " and " ++ (decimal right ++ codes "\n")))))))))

abbrev pub line_of : Refusal → List ℕ
line_of (Missing side) = codes "share file " ++ (decimal (side_number side) ++ codes ": not there\n")
line_of (TooLong side) = codes "share file " ++ (decimal (side_number side) ++ codes ": too long\n")
line_of (Header side at) = codes "share file " ++ (decimal (side_number side) ++ (codes ": header wrong at byte " ++ (decimal at ++ codes "\n")))
line_of (Cut side at) = codes "share file " ++ (decimal (side_number side) ++ (codes ": cut at byte " ++ (decimal at ++ codes "\n")))
line_of (LongPrefix bits width) =
    codes "prefix of " ++ (decimal bits ++ (codes " bits is longer than width " ++ (decimal width ++ codes "\n")))
line_of NoStrings = codes "strings: not there\n"
line_of StringsLong = codes "strings: file too long\n"
line_of (TooMany lines) = codes "strings: " ++ (decimal lines ++ codes " lines are too many\n")
line_of (LineLong line) = codes "strings: line " ++ (decimal line ++ codes " is too long\n")
line_of (ZeroByte line) = codes "strings: line " ++ (decimal line ++ codes " has a zero byte\n")
line_of (Widths zero one) = codes "widths differ: " ++ (decimal zero ++ (codes " and " ++ (decimal one ++ codes "\n")))
line_of (Walk why) = walk_line why
