-- What a reader's answers say of the reader and of the errors.
use Rattle.std.proofs.Common.{◌≡◌, Ok, Err}
use Rattle.share_format.specs.declared.file_error.FileError.{FileError}
use Rattle.share_format.specs.declared.file_error.FileError.TheVariants as errors
use Rattle.share_format.specs.declared.records.Record.{Record}
use Rattle.share_format.specs.declared.records.Record.TheVariants as given
use Rattle.share_format.specs.Readings.{Reading}
use Rattle.share_format.specs.Answers.{Stands}
use Rattle.share_format.specs.Causes.{Gives}
use Rattle.file_eval.specs.declared.errors.EvalError.TheVariants.{File}
use Rattle.file_eval.specs.Answers.{IsFault}
use Rattle.file_eval.specs.Readers.{is_more, Went}

pub went : (old new : Reading) (r : Record) → Stands old (Ok r) new → Went (is_more r) old new
went old new (given.Share share) h = h
went old new (given.Malformed number) h = h
went old new given.End h = h

-- on a shelf that tells, a reader that was opened stops only at a fault or for want of memory
pub only_fault : (e : FileError) (r : Record) → Gives {X = Record} (Err e) (Ok r) → IsFault (File e)
only_fault errors.Missing r h = cc
only_fault (errors.TooLong length) r h = cc
only_fault (errors.Header at) r h = cc
only_fault (errors.Cut at) r h = cc
only_fault errors.Shelf r h = tt
only_fault errors.Memory r h = tt

-- the file's error is the one that was named
pub same_file : (e f : FileError) → File e ≡ File f → e ≡ f
same_file e f h = cc

pub ruleset reader_steps = (went, only_fault, same_file)
