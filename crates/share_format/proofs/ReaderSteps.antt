-- What the reader of a file cites.
use Rattle.std.proofs.Common.{◌≡◌, ℕ, List, Option, Some, ap}
use Rattle.share_format.specs.ShareFile.{Fault, bits, element, first_fault, share_of, malformed, case_of, record_case}

-- a record with a fault is malformed
case-fault : (width : ℕ) (bytes : List ℕ) (fault : Fault) → first_fault width bytes ≡ Some fault → record_case width bytes ≡ malformed
unfolding record_case
case-fault width bytes fault e = ap (λ (o : Option Fault). case_of o (share_of width bytes)) e

pub bits_case : (width level : ℕ) (bytes : List ℕ) → first_fault width bytes ≡ Some (bits level) → record_case width bytes ≡ malformed
bits_case width level bytes e = case-fault width bytes (bits level) e

pub element_case : (width level : ℕ) (bytes : List ℕ) → first_fault width bytes ≡ Some (element level) → record_case width bytes ≡ malformed
element_case width level bytes e = case-fault width bytes (element level) e

pub ruleset record_steps = (bits_case, element_case)
