-- Why a search has no texts, as a reason to stop.
use Rattle.file_find.specs.declared.errors.FindError.{FindError}
use Rattle.file_find.specs.declared.errors.FindError.TheVariants as finds
use Rattle.poplar_top.specs.declared.stop.Stop.{Stop}
use Rattle.poplar_top.specs.declared.stop.Stop.TheVariants as stops
use Rattle.poplar_top.specs.RunStops.{walk_stop}
use Rattle.poplar_top.specs.Stops.{gen_stop}

abbrev pub find_stop : FindError → Stop
find_stop (finds.Strings e) = gen_stop e
find_stop (finds.Walk e) = walk_stop e
find_stop finds.Memory = stops.Memory
