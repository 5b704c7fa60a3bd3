-- What the answer of `gen` says of its outcome, of its reasons to stop and of the shelf.
use Rattle.std.proofs.Common.{◌≡◌, ℕ, List, Bool, Option, None, Some, Ok, Err, ap, refl}
use Rattle.std.specs.Prelude.{IfSome, IsTrue}
use Rattle.std.specs.FinMap.{get}
use Rattle.shelf_io.specs.Files.{Files}
use Rattle.text_strings.specs.declared.lines_error.LinesError.TheVariants as lines
use Rattle.pair_files.specs.Made.{zero_text, one_text}
use Rattle.pair_files.specs.declared.pair_settings.PairSettings.{PairSettings}
use Rattle.file_gen.specs.declared.errors.GenError.{GenError}
use Rattle.file_gen.specs.declared.errors.GenError.TheVariants as gens
use Rattle.file_gen.specs.Answers.{Answer, strings_answer, Fits}
use Rattle.file_gen.specs.Makings.{Names, ShelfAfter}
use Rattle.command_words.specs.Settings.{GenSettings}
use Rattle.poplar_top.specs.declared.stop.Stop.TheVariants as stops
use Rattle.poplar_top.specs.Outcomes.{gen_refused, gen_answered, gen_file_outcome, gen_told}
use Rattle.poplar_top.specs.Outcomes.Outcome.{writes}
use Rattle.poplar_top.specs.Statuses.{ShelfGets, asks_shelf}
use Rattle.poplar_top.specs.Stops.{StopFits, IsGenStop, gen_stop}
use Rattle.poplar_top.proofs.KeptSteps.{shelf_kept}

-- what `file_gen` is asked for
abbrev pub names_of : GenSettings → Names
names_of settings = record { strings = settings.strings; zero = settings.zero; one = settings.one }

abbrev pub pairs_of : GenSettings → PairSettings
pairs_of settings = record { width = settings.width; master = settings.master; tag = settings.tag }

-- the shelf is asked in every `gen`
refused_asks : (e : GenError) → IsTrue (asks_shelf (gen_refused e))
refused_asks gens.Missing = refl
refused_asks gens.TooLong = refl
refused_asks (gens.Lines (lines.TooMany count)) = refl
refused_asks (gens.Lines (lines.LineLong line)) = refl
refused_asks (gens.Lines (lines.ZeroByte line)) = refl
refused_asks (gens.Lines lines.Memory) = refl
refused_asks gens.Shelf = refl
refused_asks gens.Memory = refl

pub answer_asks : (settings : GenSettings) (a : Answer) → IsTrue (asks_shelf (gen_answered settings a))
answer_asks settings (Ok them) = refl
answer_asks settings (Err e) = refused_asks e

-- an error's reason is the refusal that the answer is
pub error_fits : (settings : GenSettings) (e : GenError) (a : Answer) → Fits a e → StopFits (gen_answered settings a) (gen_stop e)
error_fits settings gens.Missing a h = ap (gen_answered settings) h
error_fits settings gens.TooLong a h = ap (gen_answered settings) h
error_fits settings (gens.Lines (lines.TooMany count)) a h = ap (gen_answered settings) h
error_fits settings (gens.Lines (lines.LineLong line)) a h = ap (gen_answered settings) h
error_fits settings (gens.Lines (lines.ZeroByte line)) a h = ap (gen_answered settings) h
error_fits settings (gens.Lines lines.Memory) a h = tt
error_fits settings gens.Shelf a h = tt
error_fits settings gens.Memory a h = tt

pub error_own : (e : GenError) → IsGenStop (gen_stop e)
error_own gens.Missing = refl
error_own gens.TooLong = refl
error_own (gens.Lines (lines.TooMany count)) = refl
error_own (gens.Lines (lines.LineLong line)) = refl
error_own (gens.Lines (lines.ZeroByte line)) = refl
error_own (gens.Lines lines.Memory) = tt
error_own gens.Shelf = tt
error_own gens.Memory = tt

-- the shelf is named only where the error names it
pub error_shelf : (e : GenError) → gen_stop e ≡ stops.Shelf → e ≡ gens.Shelf
error_shelf gens.Missing h = cc
error_shelf gens.TooLong h = cc
error_shelf (gens.Lines (lines.TooMany count)) h = cc
error_shelf (gens.Lines (lines.LineLong line)) h = cc
error_shelf (gens.Lines (lines.ZeroByte line)) h = cc
error_shelf (gens.Lines lines.Memory) h = cc
error_shelf gens.Shelf h = refl
error_shelf gens.Memory h = cc

-- ---- where the shelf tells

pub files_fit : (settings : GenSettings) (told : Option Files) (e : GenError)
    → IfSome told (λ held. Fits (strings_answer settings.width (get held settings.strings)) e)
    → IfSome told (λ held. StopFits (gen_file_outcome settings (get held settings.strings)) (gen_stop e))
files_fit settings None e h = tt
files_fit settings (Some held) e h = error_fits settings e (strings_answer settings.width (get held settings.strings)) h

pub files_are : (settings : GenSettings) (told : Option Files) (them : List (List Bool))
    → IfSome told (λ held. strings_answer settings.width (get held settings.strings) ≡ Ok them)
    → IfSome told (λ held. gen_file_outcome settings (get held settings.strings)
    ≡ writes settings.zero (zero_text settings.width settings.master settings.tag them) settings.one (one_text settings.width settings.master settings.tag them))
files_are settings None them h = tt
files_are settings (Some held) them h = ap (gen_answered settings) h

answer_shelf : (settings : GenSettings) (a : Answer) (status : ℕ) (before now : Option Files) → (status ≡ 0 → ⊥)
    → ShelfAfter (names_of settings) (pairs_of settings) a before now → ShelfGets (gen_answered settings a) status before now
answer_shelf settings (Ok them) status before now other h = ((λ z. absurd (other z)), (λ _. h))
answer_shelf settings (Err e) status before now other h = shelf_kept (gen_refused e) status before now other h

pub stopped_shelf : (settings : GenSettings) (told now : Option Files) (status : ℕ) → (status ≡ 0 → ⊥)
    → IfSome told (λ held. ShelfAfter (names_of settings) (pairs_of settings) (strings_answer settings.width (get held settings.strings)) told now)
    → ShelfGets (gen_told settings told) status told now
stopped_shelf settings None now status other h = tt
stopped_shelf settings (Some held) now status other h =
    answer_shelf settings (strings_answer settings.width (get held settings.strings)) status (Some held) now other h
