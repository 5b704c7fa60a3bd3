-- What the answer of `eval` says of its outcome and of its reasons to stop.
use Rattle.std.proofs.Common.{◌≡◌, inl, inr, Option, None, Some, Ok, Err, ap, refl}
use Rattle.std.specs.Prelude.{IfSome, IsTrue}
use Rattle.std.specs.FinMap.{get}
use Rattle.shelf_io.specs.Files.{Files}
use Rattle.command_words.specs.Settings.{EvalSettings}
use Rattle.definitions.specs.declared.Side.{Side}
use Rattle.share_format.specs.declared.file_error.FileError.TheVariants as files
use Rattle.file_eval.specs.declared.errors.EvalError.{EvalError}
use Rattle.file_eval.specs.declared.errors.EvalError.TheVariants as evals
use Rattle.file_eval.specs.declared.texts.EvalTexts.{EvalTexts}
use Rattle.file_eval.specs.Answers.{Answer, eval_answer, Gives}
use Rattle.poplar_top.specs.declared.stop.Stop.TheVariants as stops
use Rattle.poplar_top.specs.Outcomes.{eval_refused, eval_answered, eval_file_outcome}
use Rattle.poplar_top.specs.Outcomes.Outcome.{texts}
use Rattle.poplar_top.specs.Statuses.{asks_shelf}
use Rattle.poplar_top.specs.Stops.{StopFits, IsEvalStop, eval_stop}

-- the shelf is asked in every `eval`
refused_asks : (side : Side) (e : EvalError) → IsTrue (asks_shelf (eval_refused side e))
refused_asks side (evals.File files.Missing) = refl
refused_asks side (evals.File (files.TooLong n)) = refl
refused_asks side (evals.File (files.Header at)) = refl
refused_asks side (evals.File (files.Cut at)) = refl
refused_asks side (evals.File files.Shelf) = refl
refused_asks side (evals.File files.Memory) = refl
refused_asks side (evals.LongPrefix bits width) = refl
refused_asks side evals.Memory = refl

pub answer_asks : (side : Side) (a : Answer) → IsTrue (asks_shelf (eval_answered side a))
answer_asks side (Ok written) = refl
answer_asks side (Err e) = refused_asks side e

-- an error's reason is the refusal that the answer is
pub error_fits : (side : Side) (e : EvalError) (a : Answer) → Gives (Err e) a → StopFits (eval_answered side a) (eval_stop side e)
error_fits side (evals.File files.Missing) a h = ap (eval_answered side) h
error_fits side (evals.File (files.TooLong n)) a h = ap (eval_answered side) h
error_fits side (evals.File (files.Header at)) a h = ap (eval_answered side) h
error_fits side (evals.File (files.Cut at)) a h = ap (eval_answered side) h
error_fits side (evals.File files.Shelf) a h = tt
error_fits side (evals.File files.Memory) a h = tt
error_fits side (evals.LongPrefix bits width) a h = ap (eval_answered side) h
error_fits side evals.Memory a h = tt

pub texts_are : (side : Side) (written : EvalTexts) (a : Answer) → Gives (Ok written) a → eval_answered side a ≡ texts written.out.items written.err.items
texts_are side written a h = ap (eval_answered side) h

pub error_own : (side : Side) (e : EvalError) → IsEvalStop (eval_stop side e)
error_own side (evals.File files.Missing) = inl refl
error_own side (evals.File (files.TooLong n)) = inl refl
error_own side (evals.File (files.Header at)) = inl refl
error_own side (evals.File (files.Cut at)) = inl refl
error_own side (evals.File files.Shelf) = tt
error_own side (evals.File files.Memory) = tt
error_own side (evals.LongPrefix bits width) = inr refl
error_own side evals.Memory = tt

-- the shelf is named only where the error names it
pub error_shelf : (side : Side) (e : EvalError) → eval_stop side e ≡ stops.Shelf → e ≡ evals.File files.Shelf
error_shelf side (evals.File files.Missing) h = cc
error_shelf side (evals.File (files.TooLong n)) h = cc
error_shelf side (evals.File (files.Header at)) h = cc
error_shelf side (evals.File (files.Cut at)) h = cc
error_shelf side (evals.File files.Shelf) h = refl
error_shelf side (evals.File files.Memory) h = cc
error_shelf side (evals.LongPrefix bits width) h = cc
error_shelf side evals.Memory h = cc

-- ---- where the shelf tells

pub files_are : (settings : EvalSettings) (told : Option Files) (written : EvalTexts)
    → IfSome told (λ held. Gives (Ok written) (eval_answer settings.side settings.prefix (get held settings.file)))
    → IfSome told (λ held. eval_file_outcome settings (get held settings.file) ≡ texts written.out.items written.err.items)
files_are settings None written h = tt
files_are settings (Some held) written h = texts_are settings.side written (eval_answer settings.side settings.prefix (get held settings.file)) h

pub files_fit : (settings : EvalSettings) (told : Option Files) (e : EvalError)
    → IfSome told (λ held. Gives (Err e) (eval_answer settings.side settings.prefix (get held settings.file)))
    → IfSome told (λ held. StopFits (eval_file_outcome settings (get held settings.file)) (eval_stop settings.side e))
files_fit settings None e h = tt
files_fit settings (Some held) e h = error_fits settings.side e (eval_answer settings.side settings.prefix (get held settings.file)) h
