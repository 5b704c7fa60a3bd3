-- What a run answers.
use Rattle.std.specs.Prelude.{◌≡◌, ◌⊎◌, ℕ, ◌*◌, ◌≤◌, Bool, List, ◌++◌, Result, Ok, Err, IfErr, IsOk, length}
use Rattle.shelf_io.specs.Faults.{Rose}
use Rattle.share_format.specs.declared.file_error.FileError.{FileError}
use Rattle.share_format.specs.declared.file_error.FileError.TheVariants as files
use Rattle.pair_run.specs.declared.answers.PairError.{PairError}
use Rattle.pair_run.specs.declared.answers.PairError.TheVariants as walks
use Rattle.walk_definitions.specs.Reports.{Report}
use Rattle.walk_definitions.specs.Walk.{Settings, End, done, capped, peer_message, views, live_at}
use Rattle.walk_definitions.specs.Heavy.{heavy}
use Rattle.walk_definitions.specs.Laws.{AreGenerated}
use Rattle.answer_text.specs.AnswerText.{answer_text, sealed_line}
use Rattle.file_run.specs.declared.rules.RunRules.{RunRules}
use Rattle.file_run.specs.declared.errors.RunError.{RunError}
use Rattle.file_run.specs.declared.errors.RunError.TheVariants.{File, Widths, Walk, Memory}
use Rattle.file_run.specs.declared.texts.RunTexts.{RunTexts}
use Rattle.file_run.specs.Beginnings.{Both, settings_for, batch_for, refused_for}

-- how a walk of a batch ends
abbrev pub Ending : Type 0
Ending = Settings → List Report → End

-- the texts of out and of err, or an error
abbrev pub Answer : Type 0
Answer = Result (List ℕ × List ℕ) RunError

-- what is answered where the walk of so many reports ends so: on out the answer, on err the refused records and how the walk ended
abbrev pub ended : List ℕ → ℕ → End → Answer
ended refused sealed (done levels passed heavy) = Ok (answer_text heavy, refused ++ sealed_line sealed passed levels)
ended refused sealed (capped level wanted) = Err (Walk (walks.Cap level wanted))
ended refused sealed (peer_message level kind at) = Err (Walk (walks.PeerMessage level kind at))
ended refused sealed (views level kind place x y) = Err (Walk (walks.Views level kind place x y))

-- what is answered of what the files come to, where their walk ends this way
abbrev pub run_answer : Ending → RunRules → Result Both RunError → Answer
run_answer ending rules (Err e) = Err e
run_answer ending rules (Ok both) =
    ended (refused_for both) (length (batch_for both)) (ending (settings_for rules both.0.width) (batch_for both))

-- ---- what an answer of the program says

-- an error of the outside: a failed shelf or link, or want of memory
abbrev pub IsFileFault : FileError → Type 0
IsFileFault files.Missing = ⊥
IsFileFault (files.TooLong length) = ⊥
IsFileFault (files.Header at) = ⊥
IsFileFault (files.Cut at) = ⊥
IsFileFault files.Shelf = Unit {0}
IsFileFault files.Memory = Unit {0}

abbrev pub IsWalkFault : PairError → Type 0
IsWalkFault (walks.Cap level wanted) = ⊥
IsWalkFault walks.Link = Unit {0}
IsWalkFault (walks.PeerMessage level kind at) = ⊥
IsWalkFault (walks.Views level kind place left right) = ⊥
IsWalkFault walks.Memory = Unit {0}

abbrev pub IsFault : RunError → Type 0
IsFault (File side e) = IsFileFault e
IsFault (Widths zero one) = ⊥
IsFault (Walk e) = IsWalkFault e
IsFault Memory = Unit {0}

-- an error of the files: no walk was begun
abbrev pub IsReadError : RunError → Type 0
IsReadError (File side e) = Unit {0}
IsReadError (Widths zero one) = Unit {0}
IsReadError (Walk e) = ⊥
IsReadError Memory = ⊥

-- any error but that of a message that is not the expected one, or of sums that differ
abbrev pub IsOfTheWalk : RunError → Type 0
IsOfTheWalk (File side e) = Unit {0}
IsOfTheWalk (Widths zero one) = Unit {0}
IsOfTheWalk (Walk (walks.Cap level wanted)) = Unit {0}
IsOfTheWalk (Walk walks.Link) = Unit {0}
IsOfTheWalk (Walk (walks.PeerMessage level kind at)) = ⊥
IsOfTheWalk (Walk (walks.Views level kind place left right)) = ⊥
IsOfTheWalk (Walk walks.Memory) = Unit {0}
IsOfTheWalk Memory = Unit {0}

-- the answer is the defined one, or an error of the outside
abbrev pub Answered : Result RunTexts RunError → Answer → Type 0
Answered (Ok texts) defined = defined ≡ Ok (texts.out.items, texts.err.items)
Answered (Err e) defined = IsFault e ⊎ (defined ≡ Err e)

-- the error that is answered before the walk is the files', and the walk is begun only where the files go together
abbrev pub Begins : {X : Type 0} → Result X RunError → Result Both RunError → Type 0
Begins (Ok x) found = IsOk found
Begins (Err (File side e)) found = IsFileFault e ⊎ (found ≡ Err (File side e))
Begins (Err (Widths zero one)) found = found ≡ Err (Widths zero one)
Begins (Err (Walk e)) found = IsOk found
Begins (Err Memory) found = IsOk found

-- the strings are the frequent ones of those that were shared, where all reports that pass the first level were generated
abbrev pub FindsHeavy : RunRules → Both → RunTexts → Type 0
FindsHeavy rules both texts =
    (strings : List (List Bool)) → AreGenerated (8 * both.0.width) (live_at (settings_for rules both.0.width) (batch_for both) 1) strings
    → (texts.out.items ≡ answer_text (heavy (8 * both.0.width) strings rules.threshold))
    × ((levels : ℕ) × (texts.err.items ≡ refused_for both ++ sealed_line (length (batch_for both)) (length strings) levels))

-- ---- causes

-- the shelf failed
abbrev pub IsShelfFault : RunError → Type 0
IsShelfFault (File side e) = e ≡ files.Shelf
IsShelfFault (Widths zero one) = ⊥
IsShelfFault (Walk e) = ⊥
IsShelfFault Memory = ⊥

-- the shelf's count of faults did not fall, and a failed shelf is named only where it rose
pub record HasShelfCause {X : Type 0} (before now : ℕ) (result : Result X RunError) : Type 0 where
  pub later : before ≤ now
  pub rose : IfErr result (λ e. IsShelfFault e → Rose before now)

-- the same of the link
pub record HasLinkCause {X : Type 0} (before now : ℕ) (result : Result X RunError) : Type 0 where
  pub later : before ≤ now
  pub rose : IfErr result (λ e. e ≡ Walk walks.Link → Rose before now)
