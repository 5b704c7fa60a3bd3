-- The bytes of a file that were read ahead.
use Rattle.std.specs.Prelude.{◌≡◌, ℕ, List, [], length, take, drop}

-- bytes that were read and not used yet, and the offset in the file at which the first of them stands
pub record Held : Type 0 where
  pub at : ℕ
  pub bytes : List ℕ

-- no bytes, before an offset
abbrev pub none_at : ℕ → Held
none_at at = record { at = at; bytes = [] }

-- the bytes held are those of a file from their offset on
abbrev pub IsHeld : List ℕ → Held → Type 0
IsHeld bytes held = held.bytes ≡ take (length held.bytes) (drop held.at bytes)
