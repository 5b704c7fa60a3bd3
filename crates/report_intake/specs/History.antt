-- The history of an intake, and what its passes know of it.
use Rattle.std.specs.Prelude.{◌≡◌, ℕ, ◌<◌, ◌==◌, List, [], ◌∷◌, ◌++◌, map, length, filter, flat_map}
use Rattle.std.specs.List.{AllByRecursion, range_with_len}
use mathlib.Core.List.{IsPrefix}
use Rattle.definitions.specs.Evaluation.{Share}
use Rattle.core_definitions.specs.declared.replies.Reply.{Reply}
use Rattle.core_definitions.specs.System.{Entry, reply_to, uploaded, IsLegalAfter}
use Rattle.turn_lock.specs.Places.{NumberedOnce}
use Rattle.turn_lock.specs.Logs.{entries_of}
use Rattle.report_intake.specs.Seen.{UploadPassSeen}

-- the shares of entries
abbrev pub shares_of : List Entry → List Share
shares_of entries = map (λ e. e.share) entries

-- the entries under a number
abbrev pub numbered : ℕ → List Entry → List Entry
numbered number log = entries_of (λ e. e.number) number log

-- the entry that a share makes after a log
abbrev pub entry_after : List Entry → ℕ → Share → Entry
entry_after log number share = record { number = number; share = share; reply = reply_to log share }

-- the own entries of the passes of that number
abbrev pub own_under : List UploadPassSeen → ℕ → List Entry
own_under passes number = flat_map (λ pass. pass.own) (filter (λ pass. pass.number == number) passes)

-- the shares of the own entries of all passes, in the order of the passes' numbers
abbrev pub own_shares : List UploadPassSeen → List Share
own_shares passes = shares_of (flat_map (own_under passes) (range_with_len 0 (length passes)))

-- the pass before and after one upload: what the history had in the meantime, and the share's entry at its end
pub record IsUploaded (pass after : UploadPassSeen) (share : Share) (reply : Reply) : Type 0 where
  pub before : List Entry
  pub begins : IsPrefix pass.seen before
  pub seen : after.seen ≡ uploaded before pass.number share
  pub own : after.own ≡ pass.own ++ entry_after before pass.number share ∷ []
  pub replied : reply ≡ reply_to before share

-- a pass that stayed as it was, but may have seen more
pub record IsAsBefore (pass after : UploadPassSeen) : Type 0 where
  pub lock : after.lock ≡ pass.lock
  pub number : after.number ≡ pass.number
  pub own : after.own ≡ pass.own
  pub seen : IsPrefix pass.seen after.seen

-- the whole history of an intake with these passes
pub record IsHistory (passes : List UploadPassSeen) (log : List Entry) : Type 0 where
  pub legal : IsLegalAfter [] log
  -- what each pass has seen is a beginning of it
  pub seen : AllByRecursion (λ pass. IsPrefix pass.seen log) passes
  -- and a pass's own entries are those under its number, in order
  pub own : AllByRecursion (λ pass. pass.own ≡ numbered pass.number log) passes
  -- each entry is one pass's own
  pub numbers : NumberedOnce (λ pass. pass.number) passes
  pub entries : AllByRecursion (λ e. e.number < length passes) log
