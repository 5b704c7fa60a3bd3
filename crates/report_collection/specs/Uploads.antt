-- Uploaders before and after their uploads.
use Rattle.std.specs.Prelude.{◌≡◌, List, [], ◌++◌, flat_map, Option, Some, None}
use Rattle.std.specs.List.Sorted.{IsPermutation}
use Rattle.definitions.specs.Evaluation.{Share}
use Rattle.core_definitions.specs.System.{Entry}
use Rattle.report_intake.specs.Seen.{IntakeId, UploadPassSeen}
use Rattle.report_intake.specs.History.{shares_of}
use Rattle.report_collection.specs.declared.uploader.Uploader.{Uploader}

-- the pass is of that intake
abbrev pub IsOf : IntakeId → UploadPassSeen → Type 0
IsOf lock pass = pass.lock ≡ lock

-- an uploader sits there
pub record IsTaken (seat : Option Uploader) : Type 0 where
  pub uploader : Uploader
  pub here : seat ≡ Some uploader

-- an uploader of that intake sits there
pub record Seated (lock : IntakeId) (seat : Option Uploader) : Type 0 where
  pub uploader : Uploader
  pub here : seat ≡ Some uploader
  pub ours : uploader.pass.lock ≡ lock

-- own entries and shares that are left, before and after some uploads: each share is uploaded or left
pub record HasUploaded (own : List Entry) (queue : List Share) (own_after : List Entry) (queue_after : List Share) : Type 0 where
  pub added : List Share
  pub entered : shares_of own_after ≡ shares_of own ++ added
  pub all : IsPermutation queue (added ++ queue_after)

-- an uploader of that intake did some uploads
pub record Served (lock : IntakeId) (old new : Option Uploader) : Type 0 where
  pub before : Uploader
  pub after : Uploader
  pub was : old ≡ Some before
  pub is : new ≡ Some after
  pub ours : after.pass.lock ≡ lock
  pub uploads : HasUploaded before.pass.own before.queue.items after.pass.own after.queue.items

-- the shares of a seat's own entries, and those that are left there
abbrev pub own_at : Option Uploader → List Share
own_at None = []
own_at (Some u) = shares_of u.pass.own

abbrev pub queue_at : Option Uploader → List Share
queue_at None = []
queue_at (Some u) = u.queue.items

-- the same of all seats
abbrev pub own_in : List (Option Uploader) → List Share
own_in seats = flat_map own_at seats

abbrev pub queued_in : List (Option Uploader) → List Share
queued_in seats = flat_map queue_at seats

-- the shares of all passes' own entries
abbrev pub own_of : List UploadPassSeen → List Share
own_of passes = shares_of (flat_map (λ pass. pass.own) passes)
