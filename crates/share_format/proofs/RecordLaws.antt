-- A record and its share: each gives the other back.
use Rattle.share_format.proofs.PieceLaws.{HaveLength, length-pieces, piece_at}
use Rattle.std.proofs.Common.{◌≡◌, ℕ, zero, suc, ◌+◌, ◌*◌, ◌-◌, ◌<◌, ◌≤◌, true, List, [], ◌∷◌, ◌++◌, length, get_or, take, drop, Option, None, Some, All, refl, sym, ap, ap₂, subst, ◌∙◌, append_assoc, inl, inr, arith, add-one}
use Rattle.std.specs.Option.{option_map}
use Rattle.std.specs.List.{flat_map}
use Rattle.std.proofs.lemmas.Bool.{cases_lt}
use Rattle.std.proofs.lemmas.List.{append-nil, drop-drop, take_all, take_at, drop_at, get_or_past, length-take, length-drop, length-append, take-append-drop, take_more}
use Rattle.std.proofs.lemmas.List.Concat.{flat_map-append}
use Rattle.std.proofs.lemmas.List.Elements.{All-nil, All-push, All-get_or, All-weaker}
use Rattle.std.proofs.Math.Seq.{take-add, drop-append-add}
use Rattle.definitions.specs.Evaluation.{LevelWord, Share, no_word}
use Rattle.share_format.specs.Spelling.{block, record_len, spelling}
use Rattle.share_format.specs.ShareFile.{first_failing, has_bits, has_elements, word_of, block_at, is_level, fault_of, first_fault, words_in, share_of, Fault, well_formed, case_of, record_case}
use Rattle.share_format.specs.Laws.{IsRecord, IsWord, IsShare}
use Rattle.share_format.proofs.FailingLaws.{first_failing-zero, first_failing-passed, both_pass}
use Rattle.share_format.proofs.BlockLaws.{AreBytes, AreBytes-drop, AreBytes-take, part_then_rest, block-word_of, length-block, word_of-block, has_bits-block, has_elements-block, IsWord-word_of}
use Rattle.share_format.proofs.RecordSteps.{words_in-zero, words_in-more, level_passes}

-- the block of a level is 65 of the bytes behind the first 80
block_at-is : (bytes : List ℕ) (place : ℕ) → block_at bytes place ≡ take 65 (drop (80 + 65 * place) bytes)
block_at-is bytes place =
    let few : 80 + 65 * place + 65 - (80 + 65 * place) ≡ 65 = omega arith in
    ap (λ n. take n (drop (80 + 65 * place) bytes)) few

length-block_at : (bytes : List ℕ) (count place : ℕ) → 80 + 65 * count ≤ length bytes → place < count → length (block_at bytes place) ≡ 65
length-block_at bytes count place inside p =
    ap length (block_at-is bytes place) ∙ omega (arith, length-take 65 (drop (80 + 65 * place) bytes), length-drop (80 + 65 * place) bytes)

AreBytes-block_at : (bytes : List ℕ) (place : ℕ) → AreBytes bytes → AreBytes (block_at bytes place)
AreBytes-block_at bytes place fit =
    subst AreBytes (sym (block_at-is bytes place)) (AreBytes-take 65 (drop (80 + 65 * place) bytes) (AreBytes-drop (80 + 65 * place) bytes fit))

-- the blocks of the first words are the bytes that they were read from
blocks-words_in : (bytes : List ℕ) (levels count : ℕ) → AreBytes bytes → 80 + 65 * levels ≤ length bytes → count ≤ levels
    → first_failing (is_level bytes) count ≡ None → flat_map block (words_in bytes count) ≡ take (65 * count) (drop 80 bytes)
blocks-words_in bytes levels zero fit inside p none = rw (words_in-zero bytes) refl
blocks-words_in bytes levels (suc count) fit inside p none =
    let before = first_failing-passed (is_level bytes) count none in
    let good : (has_bits (block_at bytes count) ≡ true) × (has_elements (block_at bytes count) ≡ true) = both_pass _ _ before.1 in
    let so_far = blocks-words_in bytes levels count fit inside (omega arith) before.0 in
    let now : block (word_of (block_at bytes count)) ≡ block_at bytes count =
    block-word_of (block_at bytes count) (length-block_at bytes levels count inside (omega arith)) (AreBytes-block_at bytes count fit) good.0 in
    let step : flat_map block (words_in bytes (count + 1)) ≡ flat_map block (words_in bytes count) ++ block (word_of (block_at bytes count)) =
    ap (λ (ws : List LevelWord). flat_map block ws) (words_in-more bytes count)
    ∙ flat_map-append block (words_in bytes count) (word_of (block_at bytes count) ∷ [])
    ∙ ap (λ (t : List ℕ). flat_map block (words_in bytes count) ++ t) (append-nil (block (word_of (block_at bytes count)))) in
    let place : take 65 (drop (80 + 65 * count) bytes) ≡ take 65 (drop (65 * count) (drop 80 bytes)) =
    ap (λ (t : List ℕ). take 65 t) (sym (drop-drop (65 * count) 80 bytes)) in
    let more : 65 * count + 65 ≡ 65 * suc count = omega arith in
    subst (λ n. flat_map block (words_in bytes n) ≡ take (65 * suc count) (drop 80 bytes)) (add-one count)
    (step
    ∙ ap₂ (λ (s t : List ℕ). s ++ t) so_far (now ∙ block_at-is bytes count ∙ place)
    ∙ sym (take-add (65 * count) 65 (drop 80 bytes))
    ∙ ap (λ n. take n (drop 80 bytes)) more)

-- a record whose levels break no rule is the spelling of what it says
pub spelling-share_of : (width : ℕ) (bytes : List ℕ) → length bytes ≡ record_len width → AreBytes bytes
    → first_failing (is_level bytes) (8 * width) ≡ None → spelling (share_of width bytes) ≡ bytes
spelling-share_of width bytes long fit none =
    let levels : flat_map block (words_in bytes (8 * width)) ≡ drop 80 bytes =
    blocks-words_in bytes (8 * width) (8 * width) fit (omega arith) (omega arith) none
    ∙ take_all (65 * (8 * width)) (drop 80 bytes) (omega (arith, length-drop 80 bytes)) in
    let corr : take 32 (drop 48 bytes) ++ drop 80 bytes ≡ drop 48 bytes = part_then_rest 48 32 bytes in
    let root : take 32 (drop 16 bytes) ++ drop 48 bytes ≡ drop 16 bytes = part_then_rest 16 32 bytes in
    ap (λ (t : List ℕ). take 16 bytes ++ (take 32 (drop 16 bytes) ++ (take 32 (drop 48 bytes) ++ t))) levels
    ∙ ap (λ (t : List ℕ). take 16 bytes ++ (take 32 (drop 16 bytes) ++ t)) corr
    ∙ ap (λ (t : List ℕ). take 16 bytes ++ t) root
    ∙ take-append-drop 16 bytes

pub length-words_in : (bytes : List ℕ) (count : ℕ) → length (words_in bytes count) ≡ count
length-words_in bytes zero = rw (words_in-zero bytes) refl
length-words_in bytes (suc count) =
    let so_far = length-words_in bytes count in
    subst (λ n. length (words_in bytes n) ≡ n) (add-one count)
    (ap length (words_in-more bytes count) ∙ length-append (words_in bytes count) (word_of (block_at bytes count) ∷ []) ∙ ap (λ n. n + 1) so_far)

-- what levels that break no rule say are words
IsWord-words_in : (bytes : List ℕ) (levels count : ℕ) → 80 + 65 * levels ≤ length bytes → count ≤ levels
    → first_failing (is_level bytes) count ≡ None → All IsWord (words_in bytes count)
IsWord-words_in bytes levels zero inside p none = subst (λ (ws : List LevelWord). All IsWord ws) (sym (words_in-zero bytes)) (All-nil IsWord)
IsWord-words_in bytes levels (suc count) inside p none =
    let before = first_failing-passed (is_level bytes) count none in
    let good : (has_bits (block_at bytes count) ≡ true) × (has_elements (block_at bytes count) ≡ true) = both_pass _ _ before.1 in
    let so_far = IsWord-words_in bytes levels count inside (omega arith) before.0 in
    let now : IsWord (word_of (block_at bytes count)) =
    IsWord-word_of (block_at bytes count) (length-block_at bytes levels count inside (omega arith)) good.1 in
    subst (λ n. All IsWord (words_in bytes n)) (add-one count)
    (subst (λ (ws : List LevelWord). All IsWord ws) (sym (words_in-more bytes count)) (All-push IsWord (words_in bytes count) (word_of (block_at bytes count)) so_far now))

-- a record's case by its first fault
case-none : (found : Option Fault) (share given : Share) → case_of found share ≡ well_formed given → (found ≡ None) × (share ≡ given)
case-none None share given e = (refl, cc)
case-none (Some fault) share given e = absurd cc

none-map : {X Y : Type 0} (f : X → Y) (o : Option X) → option_map f o ≡ None → o ≡ None
none-map f None e = refl
none-map f (Some x) e = absurd cc

well_formed-passed : (width : ℕ) (bytes : List ℕ) (share : Share) → record_case width bytes ≡ well_formed share
    → (first_failing (is_level bytes) (8 * width) ≡ None) × (share_of width bytes ≡ share)
unfolding record_case
well_formed-passed width bytes share e =
    let both = case-none (first_fault width bytes) (share_of width bytes) share e in
    (none-map (fault_of bytes) (first_failing (is_level bytes) (8 * width)) both.0, both.1)

bytes_fit : (width : ℕ) (bytes : List ℕ) → IsRecord width bytes → AreBytes bytes
bytes_fit width bytes is_it i =
    elim (cases_lt i (length bytes)) [
      | inl lt ↦ is_it.bytes_fit i 0 lt
      | inr le ↦ rw (get_or_past bytes i 0 le) (omega arith)
    ]

-- a well-formed record is the spelling of its share, and of no other
pub spelling_law : (width : ℕ) (bytes : List ℕ) (share : Share) → IsRecord width bytes → record_case width bytes ≡ well_formed share
    → (spelling share ≡ bytes) × IsShare width share
spelling_law width bytes share is_it e =
    let passed = well_formed-passed width bytes share e in
    let long : length bytes ≡ 80 + 520 * width = is_it.long in
    let whole = spelling-share_of width bytes is_it.long (bytes_fit width bytes is_it) passed.0 in
    let good : IsShare width (share_of width bytes) = record {
      id = omega (arith, length-take 16 bytes);
      root = omega (arith, length-take 32 (drop 16 bytes), length-drop 16 bytes);
      corr = omega (arith, length-take 32 (drop 48 bytes), length-drop 48 bytes);
      levels = length-words_in bytes (8 * width);
      words = IsWord-words_in bytes (8 * width) (8 * width) (omega arith) (omega arith) passed.0;
    } in
    subst (λ (s : Share). (spelling s ≡ bytes) × IsShare width s) passed.1 (whole, good)

-- the same for what was read field by field
pub spelling-fields : (width : ℕ) (bytes id root corr : List ℕ) (levels : List LevelWord) → length bytes ≡ record_len width → AreBytes bytes
    → first_fault width bytes ≡ None → id ≡ take 16 bytes → root ≡ take 32 (drop 16 bytes) → corr ≡ take 32 (drop 48 bytes)
    → levels ≡ words_in bytes (8 * width) → id ++ (root ++ (corr ++ flat_map block levels)) ≡ bytes
spelling-fields width bytes id root corr levels long fit none e f g h =
    rw (e, f, g, h) (spelling-share_of width bytes long fit (none-map (fault_of bytes) (first_failing (is_level bytes) (8 * width)) none))

-- the blocks of words have one length
same_lengths : (words : List LevelWord) → All IsWord words → HaveLength block 65 words
same_lengths words fits = All-weaker IsWord (λ word. length (block word) ≡ 65) length-block words fits

-- the part before the blocks
front_of : Share → List ℕ
front_of share = share.id ++ (share.root ++ share.corr)

spelling-front : (share : Share) → spelling share ≡ front_of share ++ flat_map block share.levels
unfolding front_of
spelling-front share =
    ap (λ (t : List ℕ). share.id ++ t) (sym (append_assoc share.root share.corr (flat_map block share.levels)))
    ∙ sym (append_assoc share.id (share.root ++ share.corr) (flat_map block share.levels))

length-front_of : (width : ℕ) (share : Share) → IsShare width share → length (front_of share) ≡ 80
unfolding front_of
length-front_of width share fits =
    omega (arith, length-append share.id (share.root ++ share.corr), length-append share.root share.corr, fits.id, fits.root, fits.corr)

pub length-spelling : (width : ℕ) (share : Share) → IsShare width share → length (spelling share) ≡ record_len width
length-spelling width share fits =
    ap length (spelling-front share)
    ∙ omega (arith, length-append (front_of share) (flat_map block share.levels), length-front_of width share fits, length-pieces block 65 share.levels (same_lengths share.levels fits.words), fits.levels)

block_at-spelling : (width : ℕ) (share : Share) (place : ℕ) → IsShare width share → place < 8 * width
    → block_at (spelling share) place ≡ block (get_or share.levels place no_word)
block_at-spelling width share place fits p =
    let front : length (front_of share) ≡ 80 = length-front_of width share fits in
    let behind : drop (80 + 65 * place) (front_of share ++ flat_map block share.levels) ≡ drop (65 * place) (flat_map block share.levels) =
    subst (λ m. drop (m + 65 * place) (front_of share ++ flat_map block share.levels) ≡ drop (65 * place) (flat_map block share.levels)) front
    (drop-append-add (front_of share) (flat_map block share.levels) (65 * place)) in
    let inside : place < length share.levels = omega (arith, fits.levels) in
    block_at-is (spelling share) place
    ∙ ap (λ (t : List ℕ). take 65 (drop (80 + 65 * place) t)) (spelling-front share)
    ∙ ap (λ (t : List ℕ). take 65 t) behind
    ∙ piece_at block 65 share.levels place no_word (same_lengths share.levels fits.words) inside

-- no level of a spelling breaks a rule
spelling-passes : (width : ℕ) (share : Share) (count : ℕ) → IsShare width share → count ≤ 8 * width → first_failing (is_level (spelling share)) count ≡ None
spelling-passes width share zero fits p = first_failing-zero (is_level (spelling share))
spelling-passes width share (suc count) fits p =
    let is_it = block_at-spelling width share count fits (omega arith) in
    let word : IsWord (get_or share.levels count no_word) =
    All-get_or IsWord share.levels count no_word (omega (arith, fits.levels)) fits.words in
    let good_bits : has_bits (block_at (spelling share) count) ≡ true = ap has_bits is_it ∙ has_bits-block (get_or share.levels count no_word) word in
    let good : has_elements (block_at (spelling share) count) ≡ true = ap has_elements is_it ∙ has_elements-block (get_or share.levels count no_word) word in
    subst (λ n. first_failing (is_level (spelling share)) n ≡ None) (add-one count)
    (level_passes (spelling share) count (spelling-passes width share count fits (omega arith)) good_bits good)

-- the words of a spelling are those of the share
words_in-spelling : (width : ℕ) (share : Share) (count : ℕ) → IsShare width share → count ≤ 8 * width → words_in (spelling share) count ≡ take count share.levels
words_in-spelling width share zero fits p = words_in-zero (spelling share)
words_in-spelling width share (suc count) fits p =
    let is_it = block_at-spelling width share count fits (omega arith) in
    let inside : count < length share.levels = omega (arith, fits.levels) in
    let word : IsWord (get_or share.levels count no_word) = All-get_or IsWord share.levels count no_word inside fits.words in
    let now : word_of (block_at (spelling share) count) ≡ get_or share.levels count no_word =
    ap word_of is_it ∙ word_of-block (get_or share.levels count no_word) word in
    subst (λ n. words_in (spelling share) n ≡ take n share.levels) (add-one count)
    (words_in-more (spelling share) count
    ∙ ap₂ (λ (ws : List LevelWord) (w : LevelWord). ws ++ w ∷ []) (words_in-spelling width share count fits (omega arith)) now
    ∙ sym (take_more share.levels count no_word inside))

same_share : (id root corr : List ℕ) (levels : List LevelWord) (share : Share) → id ≡ share.id → root ≡ share.root → corr ≡ share.corr
    → levels ≡ share.levels → record { id = id; root = root; corr = corr; levels = levels } ≡ share
same_share id root corr levels share e f g h = grind (arith)

-- what a spelling says is the share
share_of-spelling : (width : ℕ) (share : Share) → IsShare width share → share_of width (spelling share) ≡ share
share_of-spelling width share fits =
    let all : 8 * width ≡ length share.levels = sym fits.levels in
    let levels : words_in (spelling share) (8 * width) ≡ share.levels =
    words_in-spelling width share (8 * width) fits (omega arith) ∙ take_all (8 * width) share.levels (omega arith) in
    let after_id : drop 16 (spelling share) ≡ share.root ++ (share.corr ++ flat_map block share.levels) =
    drop_at share.id (share.root ++ (share.corr ++ flat_map block share.levels)) 16 fits.id in
    let after_root : drop 48 (spelling share) ≡ share.corr ++ flat_map block share.levels =
    sym (drop-drop 32 16 (spelling share)) ∙ ap (λ (t : List ℕ). drop 32 t) after_id
    ∙ drop_at share.root (share.corr ++ flat_map block share.levels) 32 fits.root in
    same_share _ _ _ _ share
    (take_at share.id (share.root ++ (share.corr ++ flat_map block share.levels)) 16 fits.id)
    (ap (λ (t : List ℕ). take 32 t) after_id ∙ take_at share.root (share.corr ++ flat_map block share.levels) 32 fits.root)
    (ap (λ (t : List ℕ). take 32 t) after_root ∙ take_at share.corr (flat_map block share.levels) 32 fits.corr)
    levels

case_of-none : (found : Option Fault) (share : Share) → found ≡ None → case_of found share ≡ well_formed share
case_of-none None share e = refl
case_of-none (Some fault) share e = absurd cc

-- a spelling is a record's length, and well-formed as its share
pub reading_law : (width : ℕ) (share : Share) → IsShare width share
    → (length (spelling share) ≡ record_len width) × (record_case width (spelling share) ≡ well_formed share)
unfolding record_case
reading_law width share fits =
    let none : first_fault width (spelling share) ≡ None =
    ap (option_map (fault_of (spelling share))) (spelling-passes width share (8 * width) fits (omega arith)) in (
      length-spelling width share fits,
      case_of-none (first_fault width (spelling share)) (share_of width (spelling share)) none ∙ ap well_formed (share_of-spelling width share fits),
    )
