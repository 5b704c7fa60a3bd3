-- What the writer of pairs cites.
use Rattle.std.proofs.Common.{◌≡◌, ℕ, ◌+◌, ◌<◌, List, [], Bool, Option, length, take, drop, get_or, subst, arith}
use Rattle.std.proofs.lemmas.List.{get_or_default}
use Rattle.std.specs.Prelude.{◌≢◌, Result, Ok, Err, OnErr}
use Rattle.std.specs.Option.{option_map}
use Rattle.definitions.specs.declared.Side.TheVariants.{Zero, One}
use Rattle.definitions.specs.Evaluation.{Share}
use Rattle.shelf_io.specs.Files.{Files, with_more}
use Rattle.share_format.specs.Spelling.{spelling}
use Rattle.pair_files.specs.declared.pair_settings.PairSettings.{PairSettings}
use Rattle.idpf_gen.specs.Made.{zero_share, one_share, made_zero, made_one}
use Rattle.pair_files.specs.Made.{zero_text, one_text}
use Rattle.pair_files.specs.PairFiles.{with_both, HoldFronts}
use Rattle.pair_files.proofs.BothLaws.{first_grown, second_grown, both_hold_fronts}
use Rattle.pair_files.proofs.MadeLaws.{text_front, text_more, block_share, block_room}

-- what holds holds at an error
pub on_err : {T E P : Type 0} (r : Result T E) → P → OnErr r P
on_err (Ok x) p = tt
on_err (Err e) p = p

-- the first name holds the file of so many lines and the second name that of so many, and all other names stay
abbrev pub HoldLines : Option Files → Option Files → List ℕ → List ℕ → PairSettings → List (List Bool) → ℕ → ℕ → Type 0
HoldLines before now k l s strings i j = now ≡ option_map
    (with_both k (zero_text s.width s.master s.tag (take i strings)) l (one_text s.width s.master s.tag (take j strings))) before

-- the files of the first lines are fronts of the whole files
pub lines_are_fronts : (before now : Option Files) (k l : List ℕ) (s : PairSettings) (strings : List (List Bool)) (i j : ℕ)
    → HoldLines before now k l s strings i j
    → HoldFronts before now k (zero_text s.width s.master s.tag strings) l (one_text s.width s.master s.tag strings)
lines_are_fronts before now k l s strings i j e =
    both_hold_fronts before now k (zero_text s.width s.master s.tag (take i strings)) _ (zero_text s.width s.master s.tag strings)
    l (one_text s.width s.master s.tag (take j strings)) _ (one_text s.width s.master s.tag strings)
    (text_front Zero s.width (zero_share s.master s.tag) strings i) (text_front One s.width (one_share s.master s.tag) strings j) e

-- the record of the next line behind the first text
pub zero_line_more : (before mid now : Option Files) (k l : List ℕ) (s : PairSettings) (strings : List (List Bool)) (line : ℕ)
    (string : List Bool) (share : Share) → k ≢ l → line < length strings → string ≡ get_or strings line string
    → share ≡ zero_share s.master s.tag line string → HoldLines before mid k l s strings line line
    → now ≡ option_map (with_more k (spelling share)) mid → HoldLines before now k l s strings (line + 1) line
zero_line_more before mid now k l s strings line string share apart p here is held e =
    first_grown before mid now k (zero_text s.width s.master s.tag (take line strings)) (spelling share) _ l _ apart
    (text_more Zero s.width (zero_share s.master s.tag) strings line string share p here is) held e

-- the record of the next line behind the second text
pub one_line_more : (before mid now : Option Files) (k l : List ℕ) (s : PairSettings) (strings : List (List Bool)) (line : ℕ)
    (string : List Bool) (share : Share) → line < length strings → string ≡ get_or strings line string
    → share ≡ one_share s.master s.tag line string → HoldLines before mid k l s strings (line + 1) line
    → now ≡ option_map (with_more l (spelling share)) mid → HoldLines before now k l s strings (line + 1) (line + 1)
one_line_more before mid now k l s strings line string share p here is held e =
    second_grown before mid now k _ l (one_text s.width s.master s.tag (take line strings)) (spelling share) _
    (text_more One s.width (one_share s.master s.tag) strings line string share p here is) held e

-- the same where the share stands at a place of a block of lines
pub zero_block_more : (before mid now : Option Files) (k l : List ℕ) (s : PairSettings) (strings part : List (List Bool)) (line n place : ℕ)
    (shares : List Share) (share : Share) → shares ≡ made_zero s.master s.tag line part → part ≡ take n (drop line strings) → k ≢ l
    → place < length part → share ≡ get_or shares place share → HoldLines before mid k l s strings (line + place) (line + place)
    → now ≡ option_map (with_more k (spelling share)) mid → HoldLines before now k l s strings (line + place + 1) (line + place)
zero_block_more before mid now k l s strings part line n place shares share made cut apart q here held e =
    let string : List Bool = get_or strings (line + place) [] in
    let room = block_room strings part line n place cut q in
    zero_line_more before mid now k l s strings (line + place) string share apart room (get_or_default strings (line + place) [] string room)
    (block_share (zero_share s.master s.tag) strings part line n place shares share cut made q here) held e

pub one_block_more : (before mid now : Option Files) (k l : List ℕ) (s : PairSettings) (strings part : List (List Bool)) (line n place : ℕ)
    (shares : List Share) (share : Share) → shares ≡ made_one s.master s.tag line part → part ≡ take n (drop line strings)
    → place < length part → share ≡ get_or shares place share → HoldLines before mid k l s strings (line + place + 1) (line + place)
    → now ≡ option_map (with_more l (spelling share)) mid → HoldLines before now k l s strings (line + (place + 1)) (line + (place + 1))
one_block_more before mid now k l s strings part line n place shares share made cut q here held e =
    let string : List Bool = get_or strings (line + place) [] in
    let room = block_room strings part line n place cut q in
    let same : line + place + 1 ≡ line + (place + 1) = omega arith in
    subst (λ m. HoldLines before now k l s strings m m) same
    (one_line_more before mid now k l s strings (line + place) string share room (get_or_default strings (line + place) [] string room)
    (block_share (one_share s.master s.tag) strings part line n place shares share cut made q here) held e)
