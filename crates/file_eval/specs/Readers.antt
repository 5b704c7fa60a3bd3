-- How a reader of a share file moves on.
use Rattle.std.specs.Prelude.{◌≡◌, ◌<◌, Bool, true, false}
use Rattle.share_format.specs.declared.records.Record.{Record}
use Rattle.share_format.specs.declared.records.Record.TheVariants as given
use Rattle.share_format.specs.Readings.{Reading, advanced, holding}

-- whether a reader gave a record
abbrev pub is_more : Record → Bool
is_more (given.Share share) = true
is_more (given.Malformed number) = true
is_more given.End = false

-- behind one more record, or at the end as before
abbrev pub Went : Bool → Reading → Reading → Type 0
Went true old new = (old.next < old.count) × (new ≡ holding new.held (advanced old))
Went false old new = (old.next ≡ old.count) × (new ≡ old)
