-- The strings of the workload, one after another.
use Rattle.std.proofs.Common.{◌≡◌, ℕ, suc, zero, ◌+◌, ◌*◌, ◌≤◌, ◌<◌, ◌++◌, Bool, true, false, List, [], ◌∷◌, length, map, replicate, refl, ap, ◌∙◌, arith, length-append}
use Rattle.std.specs.Prelude.{nat_lt, ◌-◌}
use Rattle.std.specs.Bool.{if◌then◌else◌}
use Rattle.std.specs.List.{All, AllByRecursion, range_with_len}
use Rattle.std.proofs.lemmas.Bool.{lt-ltb, le-ltb, ltb-false}
use Rattle.std.proofs.lemmas.List.{length-replicate}
use Rattle.std.proofs.lemmas.List.FromFn.{length-map-range_with_len}
use Rattle.std.proofs.lemmas.List.Elements.{All-from_recursion}
use Rattle.prefix_bits.proofs.Bytes.{length-bits_of_bytes}
use Rattle.text_strings.specs.Lines.{too_many, strings, padded, share_bytes, most_share_bytes, most_strings}
use Rattle.workload.specs.Workload.{letter, letters, workload_string, workload_strings, workload_case}

-- ---- which counts are refused

pub case_many : (width reports : ℕ) → most_share_bytes < share_bytes width reports → workload_case width reports ≡ too_many reports
case_many width reports many =
    ap (λ b. if b then too_many reports else strings (workload_strings width reports)) (lt-ltb most_share_bytes (share_bytes width reports) many)

pub case_few : (width reports : ℕ) → share_bytes width reports ≤ most_share_bytes
    → workload_case width reports ≡ strings (workload_strings width reports)
case_few width reports few =
    ap (λ b. if b then too_many reports else strings (workload_strings width reports)) (le-ltb most_share_bytes (share_bytes width reports) few)

-- ---- one more string

range-more : (a n : ℕ) → range_with_len a (suc n) ≡ range_with_len a n ++ (a + n) ∷ []
range-more a zero = ap (λ k. k ∷ []) (omega arith)
range-more a (suc n) =
    ap (λ ks. a ∷ ks) (range-more (a + 1) n)
    ∙ ap (λ k. a ∷ range_with_len (a + 1) n ++ k ∷ []) (omega arith)

map-push : {X Y : Type 0} (f : X → Y) (xs : List X) (x : X) → map f (xs ++ x ∷ []) ≡ map f xs ++ f x ∷ []
map-push f [] x = refl
map-push f (y ∷ ys) x = ap (λ zs. f y ∷ zs) (map-push f ys x)

pub strings-more : (width line : ℕ) → workload_strings width (line + 1) ≡ workload_strings width line ++ workload_string width line ∷ []
unfolding workload_strings
strings-more width line =
    let next : line + 1 ≡ suc line = omega arith in
    let here : 0 + line ≡ line = omega arith in
    ap (λ n. map (workload_string width) (range_with_len 0 n)) next
    ∙ ap (map (workload_string width)) (range-more 0 line)
    ∙ map-push (workload_string width) (range_with_len 0 line) (0 + line)
    ∙ ap (λ n. map (workload_string width) (range_with_len 0 line) ++ workload_string width n ∷ []) here

pub strings-none : (width : ℕ) → workload_strings width 0 ≡ []
unfolding workload_strings
strings-none width = refl

-- ---- how long, and how many

length-letters : (width line : ℕ) → 1 ≤ width → length (letters width line) ≤ width
length-letters width line some = at (nat_lt width 2) refl
  where
    at : (b : Bool) → nat_lt width 2 ≡ b → length (if b then letter line ∷ [] else letter line ∷ letter line ∷ []) ≤ width
    at true e = omega arith
    at false e = omega (arith, ltb-false width 2 e)

length-string : (width line : ℕ) → 1 ≤ width → length (workload_string width line) ≡ 8 * width
length-string width line some =
    let bytes : List ℕ = letters width line in
    let bits = length-bits_of_bytes (padded width bytes) in
    let parts = length-append bytes (replicate {A = ℕ} (width - length bytes) 0) in
    let zeros = length-replicate {A = ℕ} (width - length bytes) 0 in
    omega (arith, bits, parts, zeros, length-letters width line some)

all_long : (width a n : ℕ) → 1 ≤ width → AllByRecursion (λ s. length s ≡ 8 * width) (map (workload_string width) (range_with_len a n))
all_long width a zero some = tt
all_long width a (suc n) some = (length-string width a some, all_long width (a + 1) n some)

pub strings_whole : (width reports : ℕ) → 1 ≤ width → All (λ s. length s ≡ 8 * width) (workload_strings width reports)
unfolding workload_strings
strings_whole width reports some =
    All-from_recursion (λ (s : List Bool). length s ≡ 8 * width) (map (workload_string width) (range_with_len 0 reports)) (all_long width 0 reports some)

pub length-strings : (width reports : ℕ) → length (workload_strings width reports) ≡ reports
unfolding workload_strings
length-strings width reports = length-map-range_with_len (workload_string width) 0 reports

pub strings_few : (width reports : ℕ) → 1 ≤ width → share_bytes width reports ≤ most_share_bytes → reports ≤ most_strings
strings_few width reports some few = grind arith

pub ruleset string_steps = (strings-more, strings-none)
