-- What the refusals of the readers say of the bytes.
use Rattle.std.specs.Prelude.{◌≡◌, Option, Some}
use Rattle.share_format.specs.declared.record_error.RecordError.{RecordError}
use Rattle.share_format.specs.declared.record_error.RecordError.TheVariants as refused
use Rattle.share_format.specs.ShareFile.{Fault, bits, element}

-- a record is refused by its first fault; want of memory says nothing of it
abbrev pub Names : RecordError → Option Fault → Type 0
Names (refused.Bits level) found = found ≡ Some (bits level)
Names (refused.Element level) found = found ≡ Some (element level)
Names refused.Memory found = Unit {0}
