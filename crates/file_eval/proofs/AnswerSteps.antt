-- What the opening of a file and the texts of its records say of the answer.
use Rattle.std.proofs.Common.{◌≡◌, ◌≤◌, ◌<◌, ◌*◌, ℕ, Bool, List, Option, None, Some, Ok, Err, cond, nat_lt, length, sym, subst, ap, ◌∙◌}
use Rattle.std.specs.Prelude.{Result, IfOk, IfErr, IfSome}
use Rattle.std.specs.FinMap.{get}
use Rattle.std.proofs.lemmas.Bool.{lt-ltb, le-ltb}
use Rattle.shelf_io.specs.Files.{Files, IfThere}
use Rattle.definitions.specs.declared.Side.{Side}
use Rattle.share_format.specs.declared.file_error.FileError.{FileError}
use Rattle.share_format.specs.declared.file_error.FileError.TheVariants as files
use Rattle.share_format.specs.Answers.{opened, opening}
use Rattle.share_format.specs.Causes.{Gives as Opens}
use Rattle.share_format.specs.Readings.{Reading, start}
use Rattle.share_format.specs.ShareFile.{FileCase, too_long, header_wrong, cut, whole, file_case, records, record_count}
use Rattle.file_eval.specs.declared.errors.EvalError.{EvalError}
use Rattle.file_eval.specs.declared.errors.EvalError.TheVariants.{File, LongPrefix, Memory}
use Rattle.file_eval.specs.declared.texts.EvalTexts.{EvalTexts}
use Rattle.file_eval.specs.Answers.{Answer, case_answer, eval_answer, Gives, IsFault}
use Rattle.file_eval.specs.ValueLines.{value_lines, refused_lines}

module _ (name : List ℕ) (side : Side) (prefix : List Bool) where
  -- ---- a file that is refused

  refused : (bytes : List ℕ) (e : FileError) (c : FileCase) → opened name side bytes c ≡ Err e → case_answer side prefix bytes c ≡ Err (File e)
  refused bytes e (too_long n) h = let is : files.TooLong n ≡ e = cc in ap (λ x. Err (File x)) is
  refused bytes e (header_wrong at) h = let is : files.Header at ≡ e = cc in ap (λ x. Err (File x)) is
  refused bytes e (cut at) h = let is : files.Cut at ≡ e = cc in ap (λ x. Err (File x)) is
  refused bytes e (whole width) h = absurd cc

  file_refused : (found : Option (List ℕ)) (e : FileError) → opening name side found ≡ Err e → eval_answer side prefix found ≡ Err (File e)
  file_refused None e h = let is : files.Missing ≡ e = cc in ap (λ x. Err (File x)) is
  file_refused (Some bytes) e h = refused bytes e (file_case side bytes) h

  pub open_gives : (found : Option (List ℕ)) (e : FileError) → Opens {X = Reading} (Err e) (opening name side found)
      → Gives (Err (File e)) (eval_answer side prefix found)
  open_gives found files.Missing h = file_refused found files.Missing h
  open_gives found (files.TooLong n) h = file_refused found (files.TooLong n) h
  open_gives found (files.Header at) h = file_refused found (files.Header at) h
  open_gives found (files.Cut at) h = file_refused found (files.Cut at) h
  open_gives found files.Shelf h = tt
  open_gives found files.Memory h = tt

  -- ---- a file that is whole

  whole_is : (bytes : List ℕ) (r : Reading) (c : FileCase) → opened name side bytes c ≡ Ok r → c ≡ whole r.width
  whole_is bytes r (too_long n) h = absurd cc
  whole_is bytes r (header_wrong at) h = absurd cc
  whole_is bytes r (cut at) h = absurd cc
  whole_is bytes r (whole width) h =
      let is : start name side width (record_count width bytes) ≡ r = cc in ap (λ (x : Reading). whole x.width) is

  -- what a whole file answers, by whether the prefix is longer than its strings
  abbrev by_width : List ℕ → ℕ → Bool → Answer
  by_width bytes width long =
      cond long (Err (LongPrefix (length prefix) width)) (Ok (value_lines side prefix (records width bytes), refused_lines side (records width bytes)))

  judged : (bytes : List ℕ) (r : Reading) (long : Bool) → opening name side (Some bytes) ≡ Ok r → nat_lt (8 * r.width) (length prefix) ≡ long
      → eval_answer side prefix (Some bytes) ≡ by_width bytes r.width long
  judged bytes r long h is = ap (case_answer side prefix bytes) (whole_is bytes r (file_case side bytes) h) ∙ ap (by_width bytes r.width) is

  pub long_gives : (found : Option (List ℕ)) (r : Reading) (bits width : ℕ) → bits ≡ length prefix → width ≡ r.width → Opens (Ok r) (opening name side found)
      → 8 * r.width < length prefix → Gives (Err (LongPrefix bits width)) (eval_answer side prefix found)
  long_gives None r bits width b w h long = absurd cc
  long_gives (Some bytes) r bits width b w h long =
      judged bytes r _ h (lt-ltb (8 * r.width) (length prefix) long) ∙ ap (λ n. Err (LongPrefix n r.width)) (sym b) ∙ ap (λ n. Err (LongPrefix bits n)) (sym w)

  -- an error that is no refusal says nothing of the answer
  fault_gives : (e : EvalError) (defined : Answer) → IsFault e → Gives (Err e) defined
  fault_gives (File files.Missing) defined h = absurd h
  fault_gives (File (files.TooLong n)) defined h = absurd h
  fault_gives (File (files.Header at)) defined h = absurd h
  fault_gives (File (files.Cut at)) defined h = absurd h
  fault_gives (File files.Shelf) defined h = tt
  fault_gives (File files.Memory) defined h = tt
  fault_gives (LongPrefix bits width) defined h = absurd h
  fault_gives Memory defined h = tt

  text_gives : (found : Option (List ℕ)) (r : Reading) (result : Result EvalTexts EvalError) → Opens (Ok r) (opening name side found)
      → length prefix ≤ 8 * r.width
      → IfSome found (λ bytes. IfOk result (λ written. written.out.items ≡ value_lines side prefix (records r.width bytes)))
      → IfSome found (λ bytes. IfOk result (λ written. written.err.items ≡ refused_lines side (records r.width bytes)))
      → IfSome found (λ bytes. IfErr result IsFault) → Gives result (eval_answer side prefix found)
  text_gives None r result h short out err stop = absurd cc
  text_gives (Some bytes) r (Ok written) h short out err stop =
      judged bytes r _ h (le-ltb (8 * r.width) (length prefix) short) ∙ ap (λ text. Ok (text, refused_lines side (records r.width bytes))) (sym out)
      ∙ ap (λ text. Ok (written.out.items, text)) (sym err)
  text_gives (Some bytes) r (Err e) h short out err stop = fault_gives e (eval_answer side prefix (Some bytes)) stop

  pub texts_give : (told : Option Files) (r : Reading) (result : Result EvalTexts EvalError) → r.name ≡ name
      → IfSome told (λ held. Opens (Ok r) (opening name side (get held name))) → length prefix ≤ 8 * r.width
      → IfThere told r.name (λ bytes. IfOk result (λ written. written.out.items ≡ value_lines side prefix (records r.width bytes)))
      → IfThere told r.name (λ bytes. IfOk result (λ written. written.err.items ≡ refused_lines side (records r.width bytes)))
      → IfThere told r.name (λ bytes. IfErr result IsFault)
      → IfSome told (λ held. Gives result (eval_answer side prefix (get held name)))
  texts_give None r result is h short out err stop = tt
  texts_give (Some held) r result is h short out err stop =
      text_gives (get held name) r result h short
      (subst (λ n. IfSome (get held n) (λ bytes. IfOk result (λ written. written.out.items ≡ value_lines side prefix (records r.width bytes)))) is out)
      (subst (λ n. IfSome (get held n) (λ bytes. IfOk result (λ written. written.err.items ≡ refused_lines side (records r.width bytes)))) is err)
      (subst (λ n. IfSome (get held n) (λ bytes. IfErr result IsFault)) is stop)

  pub opens_give : (told : Option Files) (e : FileError) → IfSome told (λ held. Opens {X = Reading} (Err e) (opening name side (get held name)))
      → IfSome told (λ held. Gives (Err (File e)) (eval_answer side prefix (get held name)))
  opens_give None e h = tt
  opens_give (Some held) e h = open_gives (get held name) e h

  pub longs_give : (told : Option Files) (r : Reading) (bits width : ℕ) → bits ≡ length prefix → width ≡ r.width
      → IfSome told (λ held. Opens (Ok r) (opening name side (get held name))) → 8 * r.width < length prefix
      → IfSome told (λ held. Gives (Err (LongPrefix bits width)) (eval_answer side prefix (get held name)))
  longs_give None r bits width b w h long = tt
  longs_give (Some held) r bits width b w h long = long_gives (get held name) r bits width b w h long
