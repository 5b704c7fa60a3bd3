-- How `eval` and `gen` keep their promise, and which command the first word names.
use Rattle.std.proofs.Common.{◌≡◌, ◌≤◌, ◌⊎◌, inl, inr, ℕ, Bool, true, false, List, Option, None, Some, sym, ap, subst, ◌∙◌, arith}
use Rattle.std.specs.Prelude.{IfSome, if◌then◌else◌, codes}
use Rattle.std.specs.FinMap.{get}
use Rattle.shelf_io.specs.Faults.{Rose}
use Rattle.shelf_io.specs.Files.{Files}
use Rattle.shelf_io.specs.Seen.{Outside}
use Rattle.shelf_io.specs.Texts.{GrewWithin}
use Rattle.command_words.specs.Reading.{is_first}
use Rattle.command_words.specs.Settings.{EvalSettings, GenSettings, eval_words, gen_words}
use Rattle.poplar_top.specs.declared.stop.Stop.{Stop}
use Rattle.poplar_top.specs.declared.stop.Stop.TheVariants as stops
use Rattle.poplar_top.specs.Commands.{Command, command_of, generates, runs, finds, makes, evaluates}
use Rattle.poplar_top.specs.Keeps.{Meets, KeepsOf}
use Rattle.pair_files.specs.Made.{zero_text, one_text}
use Rattle.file_gen.specs.declared.errors.GenError.{GenError}
use Rattle.file_gen.specs.declared.errors.GenError.TheVariants as gens
use Rattle.file_gen.specs.Makings.{Makes, StopsAt}
use Rattle.poplar_top.specs.Outcomes.{eval_file_outcome, eval_told, eval_settled, gen_file_outcome, gen_told, gen_settled}
use Rattle.poplar_top.specs.Outcomes.Outcome.{texts, writes}
use Rattle.poplar_top.specs.Statuses.{Prints, ErrGets, OutFirst}
use Rattle.poplar_top.specs.Stops.{StopFits, IsEvalStop, IsGenStop, gen_stop, stop_status, stop_line}
use Rattle.poplar_top.proofs.FileSteps.{gen_status, written_shelf}
use Rattle.poplar_top.proofs.GenSteps.{names_of, pairs_of, files_fit, files_are, stopped_shelf, error_own, error_shelf}
use Rattle.poplar_top.proofs.KeptSteps.{shelf_kept}
use Rattle.poplar_top.proofs.MeetSteps.{MayStop, MayPrint, MayMake, Wrote, is_later, still_later, may_stop, may_print, may_make, stop_meets, written_meets, made_meets, stop_other, wrote_other}
use Rattle.poplar_top.proofs.TopSteps.{eval_status}

-- ---- the first word

-- which command the first word names, by comparing it with one after another
abbrev by_words : (is_gen is_run is_find is_make : Bool) → Command
by_words is_gen is_run is_find is_make =
    if is_gen then generates else if is_run then runs else if is_find then finds else if is_make then makes else evaluates

module _ (words : List (List ℕ)) where
  pub names_gen : (is_gen : Bool) → is_gen ≡ is_first (codes "gen") words → is_gen ≡ true → command_of words ≡ generates
  names_gen is_gen g is =
      ap (λ b. by_words b (is_first (codes "run") words) (is_first (codes "find") words) (is_first (codes "make") words)) (sym g ∙ is)

  module _ (is_gen : Bool) (g : is_gen ≡ is_first (codes "gen") words) (no_gen : is_gen ≡ false) (is_run : Bool)
      (r : is_run ≡ is_first (codes "run") words) where
    not_gen : command_of words ≡ by_words false (is_first (codes "run") words) (is_first (codes "find") words) (is_first (codes "make") words)
    not_gen = ap (λ b. by_words b (is_first (codes "run") words) (is_first (codes "find") words) (is_first (codes "make") words)) (sym g ∙ no_gen)

    pub names_run : is_run ≡ true → command_of words ≡ runs
    names_run is = not_gen ∙ ap (λ b. by_words false b (is_first (codes "find") words) (is_first (codes "make") words)) (sym r ∙ is)

    module _ (no_run : is_run ≡ false) (is_find : Bool) (f : is_find ≡ is_first (codes "find") words) where
      not_run : command_of words ≡ by_words false false (is_first (codes "find") words) (is_first (codes "make") words)
      not_run = not_gen ∙ ap (λ b. by_words false b (is_first (codes "find") words) (is_first (codes "make") words)) (sym r ∙ no_run)

      pub names_find : is_find ≡ true → command_of words ≡ finds
      names_find is = not_run ∙ ap (λ b. by_words false false b (is_first (codes "make") words)) (sym f ∙ is)

      module _ (no_find : is_find ≡ false) (is_make : Bool) (m : is_make ≡ is_first (codes "make") words) where
        not_find : command_of words ≡ by_words false false false (is_first (codes "make") words)
        not_find = not_run ∙ ap (λ b. by_words false false b (is_first (codes "make") words)) (sym f ∙ no_find)

        pub names_make : is_make ≡ true → command_of words ≡ makes
        names_make is = not_find ∙ ap (λ b. by_words false false false b) (sym m ∙ is)

        pub names_none : is_make ≡ false → command_of words ≡ evaluates
        names_none is = not_find ∙ ap (λ b. by_words false false false b) (sym m ∙ is)

-- ---- the promise of `eval`

eval_nine : (stop : Stop) → IsEvalStop stop → stop_status stop ≡ 9 → ⊥
eval_nine (stops.Refusal r) (inl h) e = omega (arith, h, e)
eval_nine (stops.Refusal r) (inr h) e = omega (arith, h, e)
eval_nine stops.Shelf h e = omega (arith, e)
eval_nine stops.Link h e = h
eval_nine stops.Memory h e = omega (arith, e)

module _ (words : List (List ℕ)) (settings : EvalSettings) (given : Some settings ≡ eval_words words) (before after : Outside) (same : after.link ≡ before.link)
    (kept : after.shelf.files ≡ before.shelf.files) (shelf_later : before.shelf.faults ≤ after.shelf.faults) (err_later : before.err.faults ≤ after.err.faults) where
  eval_keeps : (status : ℕ) → Meets (eval_told settings before.shelf.files) false before after status → before.out.faults ≤ after.out.faults
      → (status ≡ 9 → ⊥) → KeepsOf evaluates words before after status
  eval_keeps status meets out_later other =
      let of_words = subst (λ s. Meets (eval_settled s before.shelf.files) false before after status) given meets in record {
        heard = of_words;
        sends = same;
        kept = kept;
        later = is_later before after same shelf_later out_later err_later;
        truly = λ ready. of_words;
        agreed = λ ready. other;
        finds = λ ready. tt;
      }

  pub eval_error_keeps : (stop : Stop) → after.out ≡ before.out
      → IfSome before.shelf.files (λ held. StopFits (eval_file_outcome settings (get held settings.file)) stop)
      → IsEvalStop stop → (stop ≡ stops.Shelf → Rose before.shelf.faults after.shelf.faults) → GrewWithin before.err.taken after.err.taken (stop_line stop)
      → KeepsOf evaluates words before after (stop_status stop)
  eval_error_keeps stop still fits own fault line =
      let o = eval_told settings before.shelf.files in
      eval_keeps (stop_status stop)
      (stop_meets o false before after stop (may before.shelf.files fits) (eval_status settings before.shelf.files stop _ _ _ own fits fault) still line
      (shelf_kept o (stop_status stop) before.shelf.files after.shelf.files (stop_other stop) kept))
      (still_later before.out after.out still) (eval_nine stop own)
    where
      may : (files : Option Files) → IfSome files (λ held. StopFits (eval_file_outcome settings (get held settings.file)) stop) → MayStop (eval_told settings files) stop
      may None h = tt
      may (Some held) h = may_stop (eval_file_outcome settings (get held settings.file)) stop h

  pub eval_texts_keep : (out err : List ℕ) (status : ℕ) → before.out.faults ≤ after.out.faults
      → IfSome before.shelf.files (λ held. eval_file_outcome settings (get held settings.file) ≡ texts out err)
      → Wrote status (Rose before.out.faults after.out.faults ⊎ Rose before.err.faults after.err.faults)
      → Prints before.out.taken after.out.taken out status → ErrGets (texts out err) status before.err.taken after.err.taken
      → OutFirst (texts out err) status before.out after.out before.err after.err
      → KeepsOf evaluates words before after status
  eval_texts_keep out err status out_later written wrote prints tells order =
      eval_keeps status
      (written_meets false before after status out err wrote prints tells order kept (eval_told settings before.shelf.files) (may before.shelf.files written))
      out_later (wrote_other 9 (λ n. omega (arith, n)) (λ n. omega (arith, n)) (λ n. omega (arith, n)) wrote)
    where
      may : (files : Option Files) → IfSome files (λ held. eval_file_outcome settings (get held settings.file) ≡ texts out err) → MayPrint (eval_told settings files) out err
      may None h = tt
      may (Some held) h = may_print (eval_file_outcome settings (get held settings.file)) out err h

-- ---- the promise of `gen`

gen_nine : (stop : Stop) → IsGenStop stop → stop_status stop ≡ 9 → ⊥
gen_nine (stops.Refusal r) h e = omega (arith, h, e)
gen_nine stops.Shelf h e = omega (arith, e)
gen_nine stops.Link h e = h
gen_nine stops.Memory h e = omega (arith, e)

module _ (words : List (List ℕ)) (settings : GenSettings) (given : Some settings ≡ gen_words words) (before after : Outside) (same : after.link ≡ before.link)
    (still : after.out ≡ before.out) (shelf_later : before.shelf.faults ≤ after.shelf.faults) where
  gen_keeps : (status : ℕ) → Meets (gen_told settings before.shelf.files) false before after status → before.err.faults ≤ after.err.faults
      → (status ≡ 9 → ⊥) → KeepsOf generates words before after status
  gen_keeps status meets err_later other =
      let of_words = subst (λ s. Meets (gen_settled s before.shelf.files) false before after status) given meets in record {
        heard = of_words;
        sends = same;
        kept = tt;
        later = is_later before after same shelf_later (still_later before.out after.out still) err_later;
        truly = λ ready. of_words;
        agreed = λ ready. other;
        finds = λ ready. tt;
      }

  pub gen_error_keeps : (e : GenError) → StopsAt (names_of settings) (pairs_of settings) before.shelf.files after.shelf.files e
      → (e ≡ gens.Shelf → Rose before.shelf.faults after.shelf.faults) → GrewWithin before.err.taken after.err.taken (stop_line (gen_stop e))
      → before.err.faults ≤ after.err.faults → KeepsOf generates words before after (stop_status (gen_stop e))
  gen_error_keeps e stopped fault line later =
      let stop = gen_stop e in
      let fits = files_fit settings before.shelf.files e stopped.fits in
      gen_keeps (stop_status stop)
      (stop_meets (gen_told settings before.shelf.files) false before after stop (may before.shelf.files stop fits)
      (gen_status settings before.shelf.files stop _ _ _ (error_own e) fits (λ shelf. fault (error_shelf e shelf))) still line
      (stopped_shelf settings before.shelf.files after.shelf.files (stop_status stop) (stop_other stop) stopped.shelf)) later (gen_nine stop (error_own e))
    where
      may : (files : Option Files) (stop : Stop) → IfSome files (λ held. StopFits (gen_file_outcome settings (get held settings.strings)) stop)
          → MayStop (gen_told settings files) stop
      may None stop h = tt
      may (Some held) stop h = may_stop (gen_file_outcome settings (get held settings.strings)) stop h

  pub gen_made_keeps : after.err ≡ before.err → Makes (names_of settings) (pairs_of settings) before.shelf.files after.shelf.files
      → KeepsOf generates words before after 0
  gen_made_keeps quiet made =
      let zeros = zero_text settings.width settings.master settings.tag made.them in
      let ones = one_text settings.width settings.master settings.tag made.them in
      let are = files_are settings before.shelf.files made.them made.are in
      gen_keeps 0 (made_meets (gen_told settings before.shelf.files) false before after settings.zero zeros settings.one ones
      (may before.shelf.files zeros ones are) still quiet (written_shelf settings zeros ones before.shelf.files after.shelf.files are made.holds))
      (still_later before.err after.err quiet) (λ e. omega (arith, e))
    where
      may : (files : Option Files) (zeros ones : List ℕ)
          → IfSome files (λ held. gen_file_outcome settings (get held settings.strings) ≡ writes settings.zero zeros settings.one ones)
          → MayMake (gen_told settings files) settings.zero zeros settings.one ones
      may None zeros ones h = tt
      may (Some held) zeros ones h = may_make (gen_file_outcome settings (get held settings.strings)) _ _ _ _ h
