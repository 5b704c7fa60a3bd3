-- What the reading of a side's file list by list gathers, and what was gathered at its end.
use Rattle.std.proofs.Common.{◌≡◌, ◌≢◌, ℕ, ◌+◌, ◌*◌, ◌^◌, ◌≤◌, ◌<◌, Bool, true, false, List, [], ◌++◌, Option, None, Some, Result, Ok, Err, length, take, refl, sym, ap, subst, ◌∙◌, arith, append-nil}
use Rattle.std.specs.Prelude.{IfSome, IsSome}
use Rattle.std.specs.List.{All}
use Rattle.std.specs.FinMap.{get}
use Rattle.std.specs.List.Sorted.{IsPermutation}
use Rattle.std.proofs.lemmas.Nat.{mul-le}
use Rattle.std.proofs.lemmas.List.Elements.{All-nil}
use Rattle.std.proofs.lemmas.List.Sorted.{All-permutation, length_permutation, IsPermutation-refl, IsPermutation-trans, IsPermutation-append_left}
use Rattle.definitions.specs.declared.Side.{Side}
use Rattle.definitions.specs.Evaluation.{Share}
use Rattle.shelf_io.specs.Files.{Files, IsThere, IfThere}
use Rattle.share_format.specs.declared.file_error.FileError.{FileError}
use Rattle.share_format.specs.declared.file_error.FileError.TheVariants as files
use Rattle.share_format.specs.ShareFile.{FileCase, too_long, header_wrong, cut, whole, file_case, records, record_offset, most_bytes}
use Rattle.share_format.specs.Readings.{Reading, IsSound, IsOf, Fits}
use Rattle.share_format.specs.Answers.{opened, opening}
use Rattle.share_format.specs.Causes.{Gives}
use Rattle.share_lists.specs.FileLists.{ShareLists, lists_of, case_lists, file_lists}
use Rattle.share_lists.specs.Bounds.{IsWithinAFile, HaveLevels}
use Rattle.share_lists.specs.Steps.{AreSoFar, AreAll, with_part, GoOn, EndSo, IsOutside}
use Rattle.file_run.specs.Readings.{Gathered, IsRead}
use Rattle.file_run.proofs.Bounds.{within_a_file}

-- ---- list by list

some_all : {X : Type 0} (o : Option X) (P : X → Type 0) → ((x : X) → P x) → IfSome o P
some_all None P f = tt
some_all (Some x) P f = f x

there_all : (told : Option Files) (name : List ℕ) (P : List ℕ → Type 0) → ((bytes : List ℕ) → P bytes) → IfThere told name P
there_all None name P f = tt
there_all (Some held) name P f = some_all (get held name) P f

abbrev no_lists : ℕ → ShareLists
no_lists width = record { width = width; shares = []; malformed = [] }

-- before the first record nothing is gathered
pub gathered_first : (told : Option Files) (reader : Reading) (numbers : List ℕ) (collected : List Share) → reader.next ≡ 0 → numbers ≡ [] → collected ≡ []
    → Gathered told reader true numbers collected
gathered_first told reader numbers collected first no_numbers none = record {
  lists = no_lists reader.width;
  so_far = record {
    width = refl;
    counted = sym first;
    levels = All-nil (λ (s : Share). length s.levels ≡ 8 * reader.width);
    exact = there_all told reader.name (λ bytes. no_lists reader.width ≡ lists_of reader.width (take reader.next (records reader.width bytes)))
        (λ bytes. ap (λ k. lists_of reader.width (take k (records reader.width bytes))) (sym first));
  };
  all = λ e. absurd cc;
  refused = sym no_numbers;
  same = subst (λ (ss : List Share). IsPermutation [] ss) (sym none) (IsPermutation-refl []);
}

same_part : (lists : ShareLists) (numbers : List ℕ) → lists.malformed ≡ numbers → lists ≡ with_part lists [] numbers
same_part lists numbers e =
    ap (λ (ns : List ℕ). record lists { malformed = ns }) e
    ∙ ap (λ (ss : List Share). record lists { shares = ss; malformed = numbers }) (sym (append-nil lists.shares))

-- one more list
pub gathered_more : (told : Option Files) (old new : Reading) (more : Bool) (numbers longer : List ℕ) (collected shares now : List Share)
    → Gathered told old true numbers collected → GoOn told old [] numbers new shares longer → (more ≡ false → EndSo told old [] numbers new shares longer)
    → IsPermutation (collected ++ shares) now → Gathered told new more longer now
gathered_more told old new more numbers longer collected shares now g goes ends added =
    let before : AreSoFar told old (with_part g.lists [] numbers) = subst (λ ls. AreSoFar told old ls) (same_part g.lists numbers g.refused) g.so_far in
    record {
      lists = with_part g.lists shares longer;
      so_far = goes g.lists before;
      all = λ e. ends e g.lists before;
      refused = refl;
      same = IsPermutation-trans _ _ _ (IsPermutation-append_left shares g.lists.shares collected g.same) added;
    }

-- ---- at the end

file_read : (reader : Reading) (lists : ShareLists) (file : Option (List ℕ)) → IsSome file → IfSome file (λ bytes. IsOf bytes reader)
    → IfSome file (λ bytes. lists ≡ lists_of reader.width (records reader.width bytes)) → file_lists reader.side file ≡ Ok lists
file_read reader lists None there of all = absurd cc
file_read reader lists (Some bytes) there of all = ap (case_lists bytes) of.whole_file ∙ ap (λ (ls : ShareLists). Ok ls) (sym all)

all_read : (told : Option Files) (reader : Reading) (lists : ShareLists) → Fits told reader → AreAll told reader lists
    → IfSome told (λ held. file_lists reader.side (get held reader.name) ≡ Ok lists)
all_read None reader lists fits all = tt
all_read (Some held) reader lists fits all = file_read reader lists (get held reader.name) fits.0 fits.1 all

room_of : (width next count : ℕ) → next ≤ count → record_offset width count ≤ most_bytes → record_offset width next ≤ most_bytes
room_of width next count p room =
    let fewer : (80 + 520 * width) * next ≤ (80 + 520 * width) * count = mul-le (80 + 520 * width) next (80 + 520 * width) count (omega arith) p in
    omega (arith, fewer, room)

within_of : (told : Option Files) (reader : Reading) (lists : ShareLists) → IsSound reader → AreSoFar told reader lists → IsWithinAFile lists
within_of told reader lists sound so_far = record {
  least = omega (arith, sound.least, so_far.width);
  most = omega (arith, sound.most, so_far.width);
  room = subst (λ w. record_offset w (length lists.shares + length lists.malformed) ≤ most_bytes) (sym so_far.width)
      (subst (λ n. record_offset reader.width n ≤ most_bytes) (sym so_far.counted) (room_of reader.width reader.next reader.count sound.within sound.room));
}

-- what was gathered behind the last record is the file's
pub is_read : (first told : Option Files) (reader : Reading) (side : Side) (name numbers : List ℕ) (collected : List Share) → told ≡ first
    → reader.side ≡ side → reader.name ≡ name → Fits told reader → IsSound reader → Gathered told reader false numbers collected
    → IsRead first side name reader.width numbers collected
is_read first told reader side name numbers collected same s n fits sound g = record {
  lists = g.lists;
  wide = g.so_far.width;
  refused = g.refused;
  same = g.same;
  within = within_of told reader g.lists sound g.so_far;
  levels = g.so_far.levels;
  exact = subst (λ t. IfSome t (λ held. file_lists side (get held name) ≡ Ok g.lists)) same
      (subst (λ x. IfSome told (λ held. file_lists x (get held name) ≡ Ok g.lists)) s
      (subst (λ x. IfSome told (λ held. file_lists reader.side (get held x) ≡ Ok g.lists)) n (all_read told reader g.lists fits (g.all refl))));
}

-- ---- the errors

case_stops : (name : List ℕ) (side : Side) (bytes : List ℕ) (c : FileCase) (e : FileError) → opened name side bytes c ≡ Err e → case_lists bytes c ≡ Err e
case_stops name side bytes (too_long length) e h = let same : files.TooLong length ≡ e = cc in ap (λ (x : FileError). Err x) same
case_stops name side bytes (header_wrong at) e h = let same : files.Header at ≡ e = cc in ap (λ (x : FileError). Err x) same
case_stops name side bytes (cut at) e h = let same : files.Cut at ≡ e = cc in ap (λ (x : FileError). Err x) same
case_stops name side bytes (whole width) e h = absurd cc

file_stops : (name : List ℕ) (side : Side) (file : Option (List ℕ)) (e : FileError) → opening name side file ≡ Err e → file_lists side file ≡ Err e
file_stops name side None e h = let same : files.Missing ≡ e = cc in ap (λ (x : FileError). Err x) same
file_stops name side (Some bytes) e h = case_stops name side bytes (file_case side bytes) e h

error_stops : (name : List ℕ) (side : Side) (file : Option (List ℕ)) (e : FileError) → Gives {X = Reading} (Err e) (opening name side file)
    → Gives {X = ShareLists} (Err e) (file_lists side file)
error_stops name side file files.Missing h = file_stops name side file files.Missing h
error_stops name side file (files.TooLong length) h = file_stops name side file (files.TooLong length) h
error_stops name side file (files.Header at) h = file_stops name side file (files.Header at) h
error_stops name side file (files.Cut at) h = file_stops name side file (files.Cut at) h
error_stops name side file files.Shelf h = tt
error_stops name side file files.Memory h = tt

-- a file that was not opened
pub open_stops : (told : Option Files) (name : List ℕ) (side : Side) (e : FileError)
    → IfSome told (λ held. Gives {X = Reading} (Err e) (opening name side (get held name)))
    → IfSome told (λ held. Gives {X = ShareLists} (Err e) (file_lists side (get held name)))
open_stops None name side e h = tt
open_stops (Some held) name side e h = error_stops name side (get held name) e h

outside_error : (e : FileError) (found : Result ShareLists FileError) → IsOutside e → Gives {X = ShareLists} (Err e) found
outside_error files.Missing found h = absurd h
outside_error (files.TooLong length) found h = absurd h
outside_error (files.Header at) found h = absurd h
outside_error (files.Cut at) found h = absurd h
outside_error files.Shelf found h = tt
outside_error files.Memory found h = tt

outside_file : (side : Side) (e : FileError) (file : Option (List ℕ)) → IsSome file → IfSome file (λ bytes. IsOutside e)
    → Gives {X = ShareLists} (Err e) (file_lists side file)
outside_file side e None there h = absurd cc
outside_file side e (Some bytes) there h = outside_error e (file_lists side (Some bytes)) h

-- a file whose records were not all read
pub next_stops : (first told : Option Files) (name here : List ℕ) (side : Side) (e : FileError) → told ≡ first → here ≡ name → IsThere told here
    → IfThere told here (λ bytes. IsOutside e) → IfSome first (λ held. Gives {X = ShareLists} (Err e) (file_lists side (get held name)))
next_stops first told name here side e same n there h =
    subst (λ t. IfSome t (λ held. Gives {X = ShareLists} (Err e) (file_lists side (get held name)))) same
    (subst (λ x. IfSome told (λ held. Gives {X = ShareLists} (Err e) (file_lists side (get held x)))) n (at told there h))
  where
    at : (told : Option Files) → IsThere told here → IfThere told here (λ bytes. IsOutside e)
        → IfSome told (λ held. Gives {X = ShareLists} (Err e) (file_lists side (get held here)))
    at None there h = tt
    at (Some held) there h = outside_file side e (get held here) there h

-- ---- what was read

-- its shares have the levels of the width, and are no more than a file can hold
pub levels_read : (told : Option Files) (side : Side) (name : List ℕ) (width bits : ℕ) (numbers : List ℕ) (collected : List Share) → bits ≡ 8 * width
    → IsRead told side name width numbers collected → All (λ s. length s.levels ≡ bits) collected
levels_read told side name width bits numbers collected same read =
    let are : 8 * read.lists.width ≡ bits = omega (arith, same, read.wide) in
    All-permutation (λ (s : Share). length s.levels ≡ bits) read.lists.shares collected read.same
    (subst (λ b. All (λ (s : Share). length s.levels ≡ b) read.lists.shares) are read.levels)

pub few_read : (told : Option Files) (side : Side) (name : List ℕ) (width : ℕ) (numbers : List ℕ) (collected : List Share)
    → IsRead told side name width numbers collected → length collected ≤ 2 ^ 21
few_read told side name width numbers collected read =
    omega (arith, length_permutation read.lists.shares collected read.same, within_a_file read.lists read.within)
