-- What a search answers.
use Rattle.std.specs.Prelude.{◌≡◌, ◌⊎◌, ℕ, ◌*◌, ◌≤◌, Bool, List, [], Result, Ok, Err, IfErr, IsOk, length}
use Rattle.shelf_io.specs.Faults.{Rose}
use Rattle.text_strings.specs.declared.lines_error.LinesError.TheVariants as lines
use Rattle.walk_definitions.specs.Walk.{Heavy, End, done, capped, peer_message, views}
use Rattle.walk_definitions.specs.Heavy.{heavy}
use Rattle.pair_shares.specs.Laws.{IsLastOf, IsCapOf}
use Rattle.pair_run.specs.declared.answers.PairError.TheVariants as walks
use Rattle.answer_text.specs.AnswerText.{sealed_line}
use Rattle.file_gen.specs.declared.errors.GenError.{GenError}
use Rattle.file_gen.specs.declared.errors.GenError.TheVariants as gens
use Rattle.file_gen.specs.Answers.{Answer as Strings}
use Rattle.file_run.specs.declared.texts.RunTexts.{RunTexts}
use Rattle.file_run.specs.Answers.{Ending, IsWalkFault}
use Rattle.file_find.specs.declared.errors.FindError.{FindError}
use Rattle.file_find.specs.declared.errors.FindError.TheVariants.{Strings as NoStrings, Walk, Memory}
use Rattle.file_find.specs.declared.rules.FindRules.{FindRules}
use Rattle.file_find.specs.Walks.{settings_for, reports_for}

-- the text of out, of the strings of an answer
abbrev pub Text : Type 0
Text = List Heavy → List ℕ

-- the texts of out and of err, or an error
abbrev pub Answer : Type 0
Answer = Result (List ℕ × List ℕ) FindError

-- what is answered where the walk of so many reports ends so: on out the answer, on err how the walk ended
abbrev pub ended : Text → ℕ → End → Answer
ended text count (done levels passed found) = Ok (text found, sealed_line count passed levels)
ended text count (capped level wanted) = Err (Walk (walks.Cap level wanted))
ended text count (peer_message level kind at) = Err (Walk (walks.PeerMessage level kind at))
ended text count (views level kind place x y) = Err (Walk (walks.Views level kind place x y))

-- what is answered of strings, or of none, where the walk over what is made of them ends this way
abbrev pub find_answer : Text → Ending → FindRules → Strings → Answer
find_answer text ending rules (Err e) = Err (NoStrings e)
find_answer text ending rules (Ok strings) = ended text (length strings) (ending (settings_for rules) (reports_for rules strings))

-- ---- what an answer of the program says

-- an error of the outside: a failed shelf or link, or want of memory
abbrev pub IsStringsFault : GenError → Type 0
IsStringsFault gens.Missing = ⊥
IsStringsFault gens.TooLong = ⊥
IsStringsFault (gens.Lines (lines.TooMany count)) = ⊥
IsStringsFault (gens.Lines (lines.LineLong line)) = ⊥
IsStringsFault (gens.Lines (lines.ZeroByte line)) = ⊥
IsStringsFault (gens.Lines lines.Memory) = Unit {0}
IsStringsFault gens.Shelf = Unit {0}
IsStringsFault gens.Memory = Unit {0}

abbrev pub IsFault : FindError → Type 0
IsFault (NoStrings e) = IsStringsFault e
IsFault (Walk e) = IsWalkFault e
IsFault Memory = Unit {0}

-- any error but those of the strings: a walk was begun, or memory was short for it
abbrev pub IsOfTheWalk : FindError → Type 0
IsOfTheWalk (NoStrings e) = ⊥
IsOfTheWalk (Walk e) = Unit {0}
IsOfTheWalk Memory = Unit {0}

-- any error but that of a message that is not the expected one, or of sums that differ
abbrev pub IsAgreed : FindError → Type 0
IsAgreed (NoStrings e) = Unit {0}
IsAgreed (Walk (walks.Cap level wanted)) = Unit {0}
IsAgreed (Walk walks.Link) = Unit {0}
IsAgreed (Walk (walks.PeerMessage level kind at)) = ⊥
IsAgreed (Walk (walks.Views level kind place left right)) = ⊥
IsAgreed (Walk walks.Memory) = Unit {0}
IsAgreed Memory = Unit {0}

-- any error but one of a file
abbrev pub IsWithoutFile : FindError → Type 0
IsWithoutFile (NoStrings gens.Missing) = ⊥
IsWithoutFile (NoStrings gens.TooLong) = ⊥
IsWithoutFile (NoStrings (gens.Lines (lines.TooMany count))) = Unit {0}
IsWithoutFile (NoStrings (gens.Lines (lines.LineLong line))) = ⊥
IsWithoutFile (NoStrings (gens.Lines (lines.ZeroByte line))) = ⊥
IsWithoutFile (NoStrings (gens.Lines lines.Memory)) = Unit {0}
IsWithoutFile (NoStrings gens.Shelf) = ⊥
IsWithoutFile (NoStrings gens.Memory) = ⊥
IsWithoutFile (Walk e) = Unit {0}
IsWithoutFile Memory = Unit {0}

-- the answer is the defined one, or an error of the outside
abbrev pub Answered : Result RunTexts FindError → Answer → Type 0
Answered (Ok texts) defined = defined ≡ Ok (texts.out.items, texts.err.items)
Answered (Err e) defined = IsFault e ⊎ (defined ≡ Err e)

-- the error that is answered before the walk is that of the strings, and the walk is begun only where there are strings
abbrev pub Begins : Result RunTexts FindError → Strings → Type 0
Begins (Ok texts) found = IsOk found
Begins (Err (NoStrings e)) found = IsStringsFault e ⊎ (found ≡ Err e)
Begins (Err (Walk e)) found = IsOk found
Begins (Err Memory) found = IsOk found

-- ---- the frequent strings

-- Out's text is that of the strings that at least the threshold hold, with their counts. Err's tells that all reports passed, and
-- the level at which the walk ended: the first that is the last of all or has no frequent prefix.
pub record FindsHeavy (text : Text) (rules : FindRules) (strings : List (List Bool)) (texts : RunTexts) : Type 0 where
  pub out : texts.out.items ≡ text (heavy (8 * rules.width) strings rules.threshold)
  pub level : ℕ
  pub err : texts.err.items ≡ sealed_line (length strings) (length strings) level
  pub last : IsLastOf (settings_for rules) strings level
  pub done : (level ≡ 8 * rules.width) ⊎ (heavy level strings rules.threshold ≡ [])

-- The texts are those, and a cap comes at the first level below the last of all whose frequent prefixes, twice, are more than it.
abbrev pub Finds : Text → FindRules → List (List Bool) → Result RunTexts FindError → Type 0
Finds text rules strings (Ok texts) = FindsHeavy text rules strings texts
Finds text rules strings (Err (NoStrings e)) = Unit {0}
Finds text rules strings (Err (Walk (walks.Cap level wanted))) = IsCapOf (settings_for rules) strings level wanted
Finds text rules strings (Err (Walk walks.Link)) = Unit {0}
Finds text rules strings (Err (Walk (walks.PeerMessage level kind at))) = Unit {0}
Finds text rules strings (Err (Walk (walks.Views level kind place left right))) = Unit {0}
Finds text rules strings (Err (Walk walks.Memory)) = Unit {0}
Finds text rules strings (Err Memory) = Unit {0}

-- ---- causes

-- the shelf failed
abbrev pub IsShelfFault : FindError → Type 0
IsShelfFault (NoStrings e) = e ≡ gens.Shelf
IsShelfFault (Walk e) = ⊥
IsShelfFault Memory = ⊥

-- the shelf's count of faults did not fall, and a failed shelf is named only where it rose
pub record HasShelfCause {X : Type 0} (before now : ℕ) (result : Result X FindError) : Type 0 where
  pub later : before ≤ now
  pub rose : IfErr result (λ e. IsShelfFault e → Rose before now)

-- the same of the link
pub record HasLinkCause {X : Type 0} (before now : ℕ) (result : Result X FindError) : Type 0 where
  pub later : before ≤ now
  pub rose : IfErr result (λ e. e ≡ Walk walks.Link → Rose before now)
