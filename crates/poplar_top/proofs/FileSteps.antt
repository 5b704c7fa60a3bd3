-- What the top call of `gen` cites: statuses and files by the outcome.
use Rattle.std.proofs.Common.{◌≡◌, inl, inr, ℕ, List, Option, None, Some, refl, sym, subst}
use Rattle.std.specs.Prelude.{IfSome}
use Rattle.std.specs.Option.{option_map}
use Rattle.std.specs.FinMap.{get}
use Rattle.shelf_io.specs.Files.{Files}
use Rattle.pair_files.specs.PairFiles.{with_both}
use Rattle.file_gen.specs.Answers.{strings_answer}
use Rattle.poplar_top.specs.declared.stop.Stop.{Stop}
use Rattle.poplar_top.specs.declared.stop.Stop.TheVariants as stops
use Rattle.command_words.specs.Settings.{GenSettings}
use Rattle.poplar_top.specs.Outcomes.{gen_file_outcome, gen_told}
use Rattle.poplar_top.specs.Outcomes.Outcome.{writes, untold_gen}
use Rattle.poplar_top.specs.Statuses.{MayStand, ShelfGets}
use Rattle.poplar_top.specs.Stops.{StopFits, IsGenStop, stop_status}
use Rattle.poplar_top.proofs.GenSteps.{answer_asks}
use Rattle.poplar_top.proofs.TopSteps.{fault_status}

-- ---- reasons to stop

untold_status : (stop : Stop) (S L K : Type 0) → IsGenStop stop → (stop ≡ stops.Shelf → S) → MayStand untold_gen S L K (stop_status stop)
untold_status (stops.Refusal r) S L K own rose = inl (inr own)
untold_status stops.Shelf S L K own rose = inr (inl (refl, refl, rose refl))
untold_status stops.Link S L K own rose = absurd own
untold_status stops.Memory S L K own rose = inr (inr (inr (inr refl)))

pub gen_status : (settings : GenSettings) (files : Option Files) (stop : Stop) (S L K : Type 0) → IsGenStop stop
    → IfSome files (λ held. StopFits (gen_file_outcome settings (get held settings.strings)) stop) → (stop ≡ stops.Shelf → S)
    → MayStand (gen_told settings files) S L K (stop_status stop)
gen_status settings None stop S L K own fits rose = untold_status stop S L K own rose
gen_status settings (Some held) stop S L K own fits rose =
    fault_status (gen_file_outcome settings (get held settings.strings)) stop S L K
    (answer_asks settings (strings_answer settings.width (get held settings.strings))) fits rose (λ link. absurd (subst IsGenStop link own))

-- ---- files that are written

pub written_shelf : (settings : GenSettings) (zero_text one_text : List ℕ) (files now : Option Files)
    → IfSome files (λ held. gen_file_outcome settings (get held settings.strings) ≡ writes settings.zero zero_text settings.one one_text)
    → now ≡ option_map (with_both settings.zero zero_text settings.one one_text) files → ShelfGets (gen_told settings files) 0 files now
written_shelf settings zero_text one_text None now h e = tt
written_shelf settings zero_text one_text (Some held) now h e = subst (λ o. ShelfGets o 0 (Some held) now) (sym h) ((λ _. e), (λ other. absurd (other refl)))
