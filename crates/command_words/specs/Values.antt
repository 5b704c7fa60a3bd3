-- What single words of the command line say.
use Rattle.std.specs.Prelude.{ℕ, Bool, not, ◌&&◌, ◌||◌, List, Option, None, Some, Result, Ok, Err, codes, length, map, nat_eq, nat_lt, replicate}
use Rattle.std.specs.Bool.{if◌then◌else◌}
use Rattle.std.specs.List.{list_all}
use Rattle.std.specs.Str.{bytes_eq}
use Rattle.std.specs.Str.Parse.{digits_value}
use Rattle.hex.specs.Hex.{decode_sized}
use Rattle.hex.specs.declared.error.FromHexError.{FromHexError}
use Rattle.definitions.specs.declared.Side.{Side}
use Rattle.definitions.specs.declared.Side.TheVariants.{Zero, One}
use Rattle.prefix_bits.specs.declared.TheConstants.{MOST_BITS}

-- the side of a word 0 or 1
abbrev pub side_of : List ℕ → Option Side
side_of word = if bytes_eq word (codes "0") then Some Zero else if bytes_eq word (codes "1") then Some One else None

-- the characters 0 and 1
abbrev pub is_bit_digit : ℕ → Bool
is_bit_digit c = nat_eq c 48 || nat_eq c 49

-- the bits of characters of which each is 0 or 1
abbrev pub bits_of_digits : List ℕ → Option (List Bool)
bits_of_digits word = if list_all is_bit_digit word then Some (map (λ c. nat_eq c 49) word) else None

-- the bits of 1 to MOST_BITS characters 0 or 1
abbrev pub prefix_of : List ℕ → Option (List Bool)
prefix_of word =
    if nat_lt (length word) 1 then None
    else if nat_lt MOST_BITS (length word) then None
    else bits_of_digits word

-- a name is not empty
abbrev pub is_name : List ℕ → Bool
is_name word = not (nat_eq (length word) 0)

abbrev pub name_of : List ℕ → Option (List ℕ)
name_of word = if is_name word then Some word else None

-- the decimal digits
abbrev pub is_digit : ℕ → Bool
is_digit c = not (nat_lt c 48) && not (nat_lt 57 c)

-- a number within bounds
abbrev pub within : ℕ → ℕ → ℕ → Option ℕ
within least most n = if nat_lt n least then None else if nat_lt most n then None else Some n

-- the number of 1 to 20 decimal digits, where it lies within bounds
abbrev pub number_in : ℕ → ℕ → List ℕ → Option ℕ
number_in least most word =
    if nat_lt (length word) 1 then None
    else if nat_lt 20 (length word) then None
    else if list_all is_digit word then within least most (digits_value 10 word) else None

-- the seed of 64 hexadecimal digits of either case
abbrev pub decoded : Result (List ℕ) FromHexError → Option (List ℕ)
decoded (Ok bytes) = Some bytes
decoded (Err e) = None

abbrev pub seed_of : List ℕ → Option (List ℕ)
seed_of word = decoded (decode_sized word 32)

-- the seed of zeros
abbrev pub no_seed : List ℕ
no_seed = replicate 32 0
