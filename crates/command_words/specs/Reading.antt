-- What a command's words come to: the crate's reading of the words behind the command, and values read from it.
use Rattle.std.specs.Prelude.{◌≡◌, Bool, false, List, [], ◌∷◌, Option, None, Some, Result, Ok, Err, option_and_then}
use Rattle.std.specs.Bool.{if◌then◌else◌}
use Rattle.std.specs.Str.{bytes_eq}
use Rattle.clap.specs.Words.{App, Kinds, Row, Text, fault_of, first_of, matches_of}
use Rattle.command_words.specs.declared.words_error.WordsError.{WordsError}
use Rattle.command_words.specs.declared.words_error.WordsError.TheVariants.{Usage, Memory}

-- the rows, where there is no fault
abbrev pub faultless : Kinds → List Row → Option (List Row)
faultless [] rows = Some rows
faultless (kind ∷ kinds) rows = None

-- what the crate finds in words, where it has no fault to find with them
unfoldable pub found_in : App → List Text → Option (List Row)
found_in app words = faultless (fault_of app words) (matches_of app words)

-- the word that was found under a name
unfoldable pub word_of : Text → List Row → Option Text
word_of name rows = first_of name rows

-- a value that has to be there
abbrev pub needed : {T : Type 0} → (Text → Option T) → Option Text → Option T
needed read None = None
needed read (Some word) = read word

-- a value that may be left out
abbrev pub free : {T : Type 0} → (Text → Option T) → T → Option Text → Option T
free read default None = Some default
free read default (Some word) = read word

-- whether the first word is the command
abbrev pub is_first : Text → List Text → Bool
is_first command [] = false
is_first command (word ∷ words) = bytes_eq word command

-- the words behind the command, where the first word is that command
abbrev pub behind : Text → List Text → Option (List Text)
behind command [] = None
behind command (word ∷ words) = if bytes_eq word command then Some words else None

-- the settings of a command: the first word is the command, the crate takes the words behind it, and what it finds gives settings
abbrev pub settings_of : {S : Type 0} → Text → App → (List Row → Option S) → List Text → Option S
settings_of command app made words = option_and_then made (option_and_then (found_in app) (behind command words))

-- an answer of a reading: the value, as it is seen; no value where there is none; or want of memory, of which nothing is said
abbrev pub Reads : {A S : Type 0} → (A → S) → Option S → Result A WordsError → Type 0
Reads seen asked (Ok answer) = asked ≡ Some (seen answer)
Reads seen asked (Err Usage) = asked ≡ None
Reads seen asked (Err Memory) = Unit {0}
