-- What the shelf holds where the files are not made.
use Rattle.std.proofs.Common.{◌≡◌, ◌⊎◌, inl, inr, Bool, List, Option, None, Some, Ok, Err, sym, subst}
use Rattle.std.specs.Prelude.{IfSome}
use Rattle.std.specs.FinMap.{get}
use Rattle.shelf_io.specs.Files.{Files}
use Rattle.pair_files.specs.Made.{zero_text, one_text}
use Rattle.pair_files.specs.PairFiles.{HoldFronts}
use Rattle.pair_files.specs.declared.pair_settings.PairSettings.{PairSettings}
use Rattle.file_gen.specs.declared.errors.GenError.{GenError}
use Rattle.file_gen.specs.declared.errors.GenError.TheVariants.{Shelf, Memory}
use Rattle.file_gen.specs.Answers.{Answer, strings_answer, Fits}
use Rattle.file_gen.specs.Makings.{Names, ShelfAfter, StopsAt}

-- a fault of the outside says nothing of the answer
outside_fits : (e : GenError) (a : Answer) → (e ≡ Shelf) ⊎ (e ≡ Memory) → Fits a e
outside_fits e a (inl is) = subst (Fits a) (sym is) tt
outside_fits e a (inr is) = subst (Fits a) (sym is) tt

module _ (names : Names) (s : PairSettings) where
  kept_shelf : (a : Answer) (before now : Option Files) → now ≡ before → ShelfAfter names s a before now
  kept_shelf (Ok them) before now same = inl (inl same)
  kept_shelf (Err e) before now same = same

  -- before the writing: the shelf is as it was
  pub stops_early : (before now : Option Files) (e : GenError)
      → IfSome before (λ held. Fits (strings_answer s.width (get held names.strings)) e) → now ≡ before → StopsAt names s before now e
  stops_early before now e fits same = record { fits = fits; shelf = at before same }
    where
      at : (told : Option Files) → now ≡ told → IfSome told (λ held. ShelfAfter names s (strings_answer s.width (get held names.strings)) told now)
      at None same = tt
      at (Some held) same = kept_shelf (strings_answer s.width (get held names.strings)) (Some held) now same

  -- within it: with fronts of the share files
  pub stops_late : (before now : Option Files) (e : GenError) (them : List (List Bool)) → (e ≡ Shelf) ⊎ (e ≡ Memory)
      → IfSome before (λ held. strings_answer s.width (get held names.strings) ≡ Ok them)
      → HoldFronts before now names.zero (zero_text s.width s.master s.tag them) names.one (one_text s.width s.master s.tag them)
      → StopsAt names s before now e
  stops_late before now e them outside are fronts = record { fits = fits before; shelf = at before are fronts }
    where
      fits : (told : Option Files) → IfSome told (λ held. Fits (strings_answer s.width (get held names.strings)) e)
      fits None = tt
      fits (Some held) = outside_fits e (strings_answer s.width (get held names.strings)) outside

      at : (told : Option Files) → IfSome told (λ held. strings_answer s.width (get held names.strings) ≡ Ok them)
          → HoldFronts told now names.zero (zero_text s.width s.master s.tag them) names.one (one_text s.width s.master s.tag them)
          → IfSome told (λ held. ShelfAfter names s (strings_answer s.width (get held names.strings)) told now)
      at None are fronts = tt
      at (Some held) are fronts = subst (λ a. ShelfAfter names s a (Some held) now) (sym are) fronts
