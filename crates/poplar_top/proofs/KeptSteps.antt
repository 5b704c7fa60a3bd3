-- A shelf that is as before.
use Rattle.std.proofs.Common.{◌≡◌, inl, ℕ}
use Rattle.std.specs.Prelude.{Option}
use Rattle.shelf_io.specs.Files.{Files}
use Rattle.poplar_top.specs.Outcomes.{Outcome}
use Rattle.poplar_top.specs.Outcomes.Outcome.{usage, refusal, texts, writes, untold_eval, untold_gen, untold_run, untold_find, unheard}
use Rattle.poplar_top.specs.Statuses.{ShelfGets}

-- at a status other than 0 every outcome allows it
pub shelf_kept : (o : Outcome) (status : ℕ) (before now : Option Files) → (status ≡ 0 → ⊥) → now ≡ before → ShelfGets o status before now
shelf_kept usage status before now other e = e
shelf_kept (refusal r) status before now other e = e
shelf_kept (texts out err) status before now other e = e
shelf_kept (writes zero_name zero_text one_name one_text) status before now other e = ((λ z. absurd (other z)), (λ _. inl (inl e)))
shelf_kept untold_eval status before now other e = e
shelf_kept untold_gen status before now other e = tt
shelf_kept untold_run status before now other e = e
shelf_kept untold_find status before now other e = e
shelf_kept unheard status before now other e = e
