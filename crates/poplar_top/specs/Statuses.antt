-- Which status may stand, and what is then written.
use Rattle.std.specs.Prelude.{◌≡◌, ◌≢◌, ◌⊎◌, ℕ, List, ◌++◌, Option, codes, nat_eq, take, Bool, true, false, IsTrue, ◌||◌}
use Rattle.std.specs.Bool.{if◌then◌else◌}
use Rattle.std.specs.Option.{option_map}
use Rattle.shelf_io.specs.Faults.{Rose}
use Rattle.shelf_io.specs.Files.{Files}
use Rattle.shelf_io.specs.Seen.{SinkSeen, Outside}
use Rattle.pair_files.specs.PairFiles.{with_both, HoldFronts}
use Rattle.shelf_io.specs.Texts.{Grew, GrewWithin}
use Rattle.poplar_top.specs.Outcomes.{Outcome}
use Rattle.poplar_top.specs.Outcomes.Outcome.{usage, refusal, texts, writes, untold_eval, untold_gen, untold_run, untold_find, unheard}
use Rattle.poplar_top.specs.declared.refusal.Refusal.{Refusal}
use Rattle.poplar_top.specs.Refusals.{status_of, line_of}

-- the status of the outcome itself; of what a shelf or a link does not tell, any that an outcome has
abbrev pub IsOwn : Outcome → ℕ → Type 0
IsOwn usage status = status ≡ 2
IsOwn (refusal r) status = status ≡ status_of r
IsOwn (texts out err) status = status ≡ 0
IsOwn (writes zero_name zero_text one_name one_text) status = status ≡ 0
IsOwn untold_eval status = (status ≡ 0) ⊎ (status ≡ 3) ⊎ (status ≡ 4)
IsOwn untold_gen status = (status ≡ 0) ⊎ (status ≡ 11)
IsOwn untold_run status = (status ≡ 0) ⊎ (status ≡ 3) ⊎ (status ≡ 4) ⊎ (status ≡ 5) ⊎ (status ≡ 9)
IsOwn untold_find status = (status ≡ 0) ⊎ (status ≡ 5) ⊎ (status ≡ 9) ⊎ (status ≡ 11)
IsOwn unheard status = (status ≡ 0) ⊎ (status ≡ 5) ⊎ (status ≡ 9)

-- whether the shelf was asked by then
abbrev pub asks_shelf : Outcome → Bool
asks_shelf usage = false
asks_shelf (refusal r) = true
asks_shelf (texts out err) = true
asks_shelf (writes zero_name zero_text one_name one_text) = true
asks_shelf untold_eval = true
asks_shelf untold_gen = true
asks_shelf untold_run = true
asks_shelf untold_find = true
asks_shelf unheard = true

-- whether the sinks were written by then
abbrev pub asks_sinks : Outcome → Bool
asks_sinks usage = false
asks_sinks (refusal r) = false
asks_sinks (texts out err) = true
asks_sinks (writes zero_name zero_text one_name one_text) = false
asks_sinks untold_eval = true
asks_sinks untold_gen = false
asks_sinks untold_run = true
asks_sinks untold_find = true
asks_sinks unheard = true

-- The status is the outcome's own; or that of an object that was asked by then and whose count rose (of the link, whose
-- asking no outcome tells, `link_rose` says both); or 8, for want of memory.
abbrev pub MayStand : Outcome → (shelf_rose : Type 0) → (link_rose : Type 0) → (sink_rose : Type 0) → ℕ → Type 0
MayStand o shelf_rose link_rose sink_rose status =
    IsOwn o status ⊎ ((status ≡ 6) × IsTrue (asks_shelf o) × shelf_rose) ⊎ ((status ≡ 7) × link_rose)
    ⊎ ((status ≡ 10) × IsTrue (asks_sinks o) × sink_rose) ⊎ (status ≡ 8)

-- the same by what the outside told before and after, where the link is asked only in a walk
abbrev pub Stands : Outcome → (asked : Bool) → Outside → Outside → ℕ → Type 0
Stands o asked before after status =
    MayStand o (Rose before.shelf.faults after.shelf.faults) (IsTrue asked × Rose before.link.faults after.link.faults)
    (Rose before.out.faults after.out.faults ⊎ Rose before.err.faults after.err.faults) status

-- out has the whole text on 0, a front of it on 8 and 10, and else nothing
pub record Prints (before now : Option (List ℕ)) (text : List ℕ) (status : ℕ) : Type 0 where
  pub whole : status ≡ 0 → Grew before now text
  pub front : GrewWithin before now text
  pub nothing : status ≢ 0 → status ≢ 8 → status ≢ 10 → now ≡ before

-- what out gets
abbrev pub OutGets : Outcome → ℕ → Option (List ℕ) → Option (List ℕ) → Type 0
OutGets usage status before now = now ≡ before
OutGets (refusal r) status before now = now ≡ before
OutGets (texts out err) status before now = Prints before now out status
OutGets (writes zero_name zero_text one_name one_text) status before now = now ≡ before
OutGets untold_eval status before now = status ≢ 0 → status ≢ 8 → status ≢ 10 → now ≡ before
OutGets untold_gen status before now = now ≡ before
OutGets untold_run status before now = status ≢ 0 → status ≢ 8 → status ≢ 10 → now ≡ before
OutGets untold_find status before now = status ≢ 0 → status ≢ 8 → status ≢ 10 → now ≡ before
OutGets unheard status before now = status ≢ 0 → status ≢ 8 → status ≢ 10 → now ≡ before

-- the line of a status that is no refusal's
abbrev pub fault_line : ℕ → List ℕ
fault_line status =
    if nat_eq status 2 then codes "usage: poplar eval, gen, run, find, make, upgrade\n"
    else if nat_eq status 6 then codes "shelf fault\n"
    else if nat_eq status 7 then codes "link fault\n"
    else if nat_eq status 8 then codes "want of memory\n"
    else codes "sink fault\n"

-- the statuses of objects that failed, and of want of memory
abbrev pub is_fault : ℕ → Bool
is_fault status = nat_eq status 6 || (nat_eq status 7 || (nat_eq status 8 || nat_eq status 10))

-- the line that is told at a status
abbrev pub line_at : Outcome → ℕ → List ℕ
line_at usage status = fault_line status
line_at (refusal r) status = if is_fault status then fault_line status else line_of r
line_at (texts out err) status = fault_line status
line_at (writes zero_name zero_text one_name one_text) status = fault_line status
line_at untold_eval status = fault_line status
line_at untold_gen status = fault_line status
line_at untold_run status = fault_line status
line_at untold_find status = fault_line status
line_at unheard status = fault_line status

-- err has the whole text on 0, a front of it on 8 and 10, and else none; and behind that a front of the fault's line
pub record Tells (before now : Option (List ℕ)) (text line : List ℕ) (status : ℕ) : Type 0 where
  pub whole : status ≡ 0 → Grew before now text
  pub front : (n m : ℕ) × Grew before now (take n text ++ take m line)
  pub alone : status ≢ 0 → status ≢ 8 → status ≢ 10 → GrewWithin before now line

-- Of an outcome that is not told: on a refusal's status a front of the line of such a refusal. (8 and 10 are no refusal's.)
abbrev pub TellsRefusal : Option (List ℕ) → Option (List ℕ) → ℕ → Type 0
TellsRefusal before now status =
    status ≢ 0 → is_fault status ≡ false → (r : Refusal) × (status ≡ status_of r) × GrewWithin before now (line_of r)

-- err at texts that are not told: a front of the line of the status, behind the lines of a text on 8 and 10 alone
pub record TellsUntold (before now : Option (List ℕ)) (status : ℕ) : Type 0 where
  pub refused : TellsRefusal before now status
  pub fault : (status ≡ 6) ⊎ (status ≡ 7) → GrewWithin before now (fault_line status)
  pub behind : (status ≡ 8) ⊎ (status ≡ 10) → (lines : List ℕ) × (n : ℕ) × Grew before now (lines ++ take n (fault_line status))

-- err at files that are not told: nothing on 0, and else a front of the line of the status
pub record TellsMade (before now : Option (List ℕ)) (status : ℕ) : Type 0 where
  pub whole : status ≡ 0 → now ≡ before
  pub refused : TellsRefusal before now status
  pub fault : (status ≡ 6) ⊎ (status ≡ 8) → GrewWithin before now (fault_line status)

-- what err gets
abbrev pub ErrGets : Outcome → ℕ → Option (List ℕ) → Option (List ℕ) → Type 0
ErrGets (texts out err) status before now = Tells before now err (fault_line status) status
ErrGets (writes zero_name zero_text one_name one_text) status before now =
    (status ≡ 0 → now ≡ before) × GrewWithin before now (fault_line status)
ErrGets untold_eval status before now = TellsUntold before now status
ErrGets untold_gen status before now = TellsMade before now status
ErrGets untold_run status before now = TellsUntold before now status
ErrGets untold_find status before now = TellsUntold before now status
ErrGets unheard status before now = TellsUntold before now status
ErrGets usage status before now = GrewWithin before now (line_at usage status)
ErrGets (refusal r) status before now = GrewWithin before now (line_at (refusal r) status)

-- out gets its text before err gets its lines
pub record OutIsFirst (out err : List ℕ) (status : ℕ) (out_before out_now err_before err_now : SinkSeen) : Type 0 where
  -- where any of err's text was taken, out has its whole text
  pub lines : (n m : ℕ) × Grew err_before.taken err_now.taken (take n err ++ take m (fault_line status))
      × ((n ≡ 0) ⊎ Grew out_before.taken out_now.taken out)
  -- where it is not out that failed, out has its whole text
  pub sink : status ≡ 10 → Rose out_before.faults out_now.faults ⊎ Grew out_before.taken out_now.taken out

abbrev pub OutFirst : Outcome → ℕ → (out_before out_now err_before err_now : SinkSeen) → Type 0
OutFirst (texts out err) status out_before out_now err_before err_now =
    OutIsFirst out err status out_before out_now err_before err_now
OutFirst usage status out_before out_now err_before err_now = Unit {0}
OutFirst (refusal r) status out_before out_now err_before err_now = Unit {0}
OutFirst (writes zero_name zero_text one_name one_text) status out_before out_now err_before err_now = Unit {0}
OutFirst untold_eval status out_before out_now err_before err_now = Unit {0}
OutFirst untold_gen status out_before out_now err_before err_now = Unit {0}
OutFirst untold_run status out_before out_now err_before err_now = Unit {0}
OutFirst untold_find status out_before out_now err_before err_now = Unit {0}
OutFirst unheard status out_before out_now err_before err_now = Unit {0}

-- What a shelf holds afterwards: as before, but for the two names of `gen`, which hold their texts on 0, and else are as
-- before or hold fronts of their texts.
abbrev pub ShelfGets : Outcome → ℕ → Option Files → Option Files → Type 0
ShelfGets (writes zero_name zero_text one_name one_text) status before now =
    (status ≡ 0 → now ≡ option_map (with_both zero_name zero_text one_name one_text) before)
    × (status ≢ 0 → HoldFronts before now zero_name zero_text one_name one_text)
ShelfGets usage status before now = now ≡ before
ShelfGets (refusal r) status before now = now ≡ before
ShelfGets (texts out err) status before now = now ≡ before
ShelfGets untold_eval status before now = now ≡ before
ShelfGets untold_gen status before now = Unit {0}
ShelfGets untold_run status before now = now ≡ before
ShelfGets untold_find status before now = now ≡ before
ShelfGets unheard status before now = now ≡ before
