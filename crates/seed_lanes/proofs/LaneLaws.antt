-- Laws of lanes, of the words that they hold, and of groups of seeds.
use Rattle.std.proofs.Common.{◌≡◌, ℕ, zero, suc, ◌+◌, ◌≤◌, ◌++◌, take, drop, sym, ap, ◌∙◌, ◌<◌, ◌-◌, ◌*◌, ◌/◌, ◌%◌, ◌^◌, List, [], ◌∷◌, length, map, slice_index, slice_index_or, replicate, bit_or, bit_xor, arith, refl}
use Rattle.std.proofs.Math.Seq.{take-add}
use Rattle.std.proofs.lemmas.List.{get_or_default, length-drop, length-take-le, map-append, take-append-le, take-map, take_all}
use Rattle.std.specs.Simd.Lanes.{zip2}
use Rattle.rand_chacha.specs.Block.{add32, xor_rotate, block_word, initial_state, double_rounds}
use Rattle.rand_chacha.specs.ChaCha.{key_of}
use Rattle.definitions.specs.Words.{extend, convert, word, word_bytes, part, number}
use Rattle.seed_lanes.specs.Blocks.{block_of, children_from, converted_from, numbers_from, numbers_of}

-- two shifts of each lane and an or are a rotation, for any number of lanes
pub shifts_rotate : (k : ℕ) → 0 < k → k < 32 → (n : ℕ) (a b : List ℕ) → length a ≡ n → length b ≡ n → (j : ℕ) → j < n
    → slice_index (zip2 bit_or
    (zip2 (λ x s. x * 2 ^ s % 2 ^ 32) (zip2 bit_xor a b) (replicate n k))
    (zip2 (λ x s. x / 2 ^ s) (zip2 bit_xor a b) (replicate n (32 - k)))) j
    ≡ xor_rotate (slice_index a j) (slice_index b j) k
shifts_rotate k low high zero a b la lb j h = absurd (omega arith)
shifts_rotate k low high (suc n) [] b la lb j h = absurd (omega arith)
shifts_rotate k low high (suc n) (x ∷ a) [] la lb j h = absurd (omega arith)
shifts_rotate k low high (suc n) (x ∷ a) (y ∷ b) la lb zero h =
    let left : k % 32 ≡ k = omega arith in
    let right : (32 - k) % 32 ≡ 32 - k = omega arith in
    rw (left, right) refl
shifts_rotate k low high (suc n) (x ∷ a) (y ∷ b) la lb (suc j) h =
    shifts_rotate k low high n a b (omega arith) (omega arith) j (omega arith)

-- a state after the rounds, with the state that they began with added to it
abbrev sums : List ℕ → List ℕ → List ℕ
sums x f =
    add32 (slice_index x 0) (slice_index f 0) ∷ add32 (slice_index x 1) (slice_index f 1) ∷ add32 (slice_index x 2) (slice_index f 2) ∷ add32 (slice_index x 3) (slice_index f 3)
    ∷ add32 (slice_index x 4) (slice_index f 4) ∷ add32 (slice_index x 5) (slice_index f 5) ∷ add32 (slice_index x 6) (slice_index f 6) ∷ add32 (slice_index x 7) (slice_index f 7)
    ∷ add32 (slice_index x 8) (slice_index f 8) ∷ add32 (slice_index x 9) (slice_index f 9) ∷ add32 (slice_index x 10) (slice_index f 10) ∷ add32 (slice_index x 11) (slice_index f 11)
    ∷ add32 (slice_index x 12) (slice_index f 12) ∷ add32 (slice_index x 13) (slice_index f 13) ∷ add32 (slice_index x 14) (slice_index f 14) ∷ add32 (slice_index x 15) (slice_index f 15) ∷ []

pub extend_is : (seed : List ℕ) → children_from (block_of (key_of seed) 0 0) (block_word 10 (key_of seed) 1 0 0) ≡ extend seed
unfolding block_of word word_bytes part
extend_is seed = refl

pub convert_is : (seed : List ℕ) → converted_from (block_of (key_of seed) 0 1) ≡ convert seed
unfolding block_of word word_bytes part number
convert_is seed = refl

pub numbers_is : (seed : List ℕ) (stream : ℕ) → numbers_from (block_of (key_of seed) 0 stream) ≡ numbers_of stream seed
unfolding block_of word number
numbers_is seed stream = refl

pub block_from : (x f key : List ℕ) (counter nonce : ℕ) → f ≡ initial_state key counter nonce → x ≡ double_rounds 10 f
    → sums x f ≡ block_of key counter nonce
unfolding block_of block_word
block_from x f key counter nonce begun turned = rw (turned, begun) refl

-- one lane: its two blocks are those of the seed
pub lane_children : (seed words next : List ℕ) → words ≡ block_of (key_of seed) 0 0 → next ≡ block_of (key_of seed) 1 0
    → children_from words (slice_index next 0) ≡ extend seed
unfolding block_of
lane_children seed words next e f = rw (e, f) (extend_is seed)

pub lane_converted : (seed words : List ℕ) → words ≡ block_of (key_of seed) 0 1 → converted_from words ≡ convert seed
lane_converted seed words e = rw e (convert_is seed)

pub lane_numbers : (seed words : List ℕ) (stream : ℕ) → words ≡ block_of (key_of seed) 0 stream → numbers_from words ≡ numbers_of stream seed
lane_numbers seed words stream e = rw e (numbers_is seed stream)

pub four_mapped : {X : Type 0} (f : List ℕ → X) (xs : List (List ℕ)) (a b c d : X) → length xs ≡ 4
    → a ≡ f (slice_index_or xs 0 []) → b ≡ f (slice_index_or xs 1 []) → c ≡ f (slice_index_or xs 2 []) → d ≡ f (slice_index_or xs 3 [])
    → a ∷ b ∷ c ∷ d ∷ [] ≡ map f xs
four_mapped f (x ∷ y ∷ z ∷ w ∷ []) a b c d long ha hb hc hd = rw (ha, hb, hc, hd) refl
four_mapped f [] a b c d long ha hb hc hd = absurd (omega arith)
four_mapped f (x ∷ []) a b c d long ha hb hc hd = absurd (omega arith)
four_mapped f (x ∷ y ∷ []) a b c d long ha hb hc hd = absurd (omega arith)
four_mapped f (x ∷ y ∷ z ∷ []) a b c d long ha hb hc hd = absurd (omega arith)
four_mapped f (x ∷ y ∷ z ∷ w ∷ v ∷ xs) a b c d long ha hb hc hd = absurd (omega arith)

pub eight_mapped : {X : Type 0} (f : List ℕ → X) (xs : List (List ℕ)) (a b c d e g h i : X) → length xs ≡ 8
    → a ≡ f (slice_index_or xs 0 []) → b ≡ f (slice_index_or xs 1 []) → c ≡ f (slice_index_or xs 2 []) → d ≡ f (slice_index_or xs 3 [])
    → e ≡ f (slice_index_or xs 4 []) → g ≡ f (slice_index_or xs 5 []) → h ≡ f (slice_index_or xs 6 []) → i ≡ f (slice_index_or xs 7 [])
    → a ∷ b ∷ c ∷ d ∷ e ∷ g ∷ h ∷ i ∷ [] ≡ map f xs
eight_mapped f (w ∷ x ∷ y ∷ z ∷ xs) a b c d e g h i long ha hb hc hd he hg hh hi =
    let rest = four_mapped f xs e g h i (omega arith) he hg hh hi in
    rw (ha, hb, hc, hd, rest) refl
eight_mapped f [] a b c d e g h i long ha hb hc hd he hg hh hi = absurd (omega arith)
eight_mapped f (x ∷ []) a b c d e g h i long ha hb hc hd he hg hh hi = absurd (omega arith)
eight_mapped f (x ∷ y ∷ []) a b c d e g h i long ha hb hc hd he hg hh hi = absurd (omega arith)
eight_mapped f (x ∷ y ∷ z ∷ []) a b c d e g h i long ha hb hc hd he hg hh hi = absurd (omega arith)

-- what holds of each of the eight lanes
pub below_eight : (P : ℕ → Type 0) → P 0 → P 1 → P 2 → P 3 → P 4 → P 5 → P 6 → P 7 → (j : ℕ) → j < 8 → P j
below_eight P p0 p1 p2 p3 p4 p5 p6 p7 zero h = p0
below_eight P p0 p1 p2 p3 p4 p5 p6 p7 (suc zero) h = p1
below_eight P p0 p1 p2 p3 p4 p5 p6 p7 (suc (suc zero)) h = p2
below_eight P p0 p1 p2 p3 p4 p5 p6 p7 (suc (suc (suc zero))) h = p3
below_eight P p0 p1 p2 p3 p4 p5 p6 p7 (suc (suc (suc (suc zero)))) h = p4
below_eight P p0 p1 p2 p3 p4 p5 p6 p7 (suc (suc (suc (suc (suc zero))))) h = p5
below_eight P p0 p1 p2 p3 p4 p5 p6 p7 (suc (suc (suc (suc (suc (suc zero)))))) h = p6
below_eight P p0 p1 p2 p3 p4 p5 p6 p7 (suc (suc (suc (suc (suc (suc (suc zero))))))) h = p7
below_eight P p0 p1 p2 p3 p4 p5 p6 p7 (suc (suc (suc (suc (suc (suc (suc (suc n)))))))) h = absurd (omega arith)

-- the words of one seed, read one by one
pub words_key : (w : List ℕ) (seeds : List (List ℕ)) (i : ℕ) (s : List ℕ) → i < length seeds → w ≡ key_of (slice_index_or seeds i s)
    → slice_index w 0 ∷ slice_index w 1 ∷ slice_index w 2 ∷ slice_index w 3 ∷ slice_index w 4 ∷ slice_index w 5 ∷ slice_index w 6 ∷ slice_index w 7 ∷ []
    ≡ key_of (slice_index_or seeds i [])
words_key w seeds i s room read = rw read (ap key_of (get_or_default seeds i s [] room))

-- a group of seeds, filled up behind them, and what f makes of the seeds: so many more of a list
pub group_more : {X : Type 0} (f : List ℕ → X) (xs : List (List ℕ)) (at count n : ℕ) (group rest : List (List ℕ)) (made put : List X)
    → at + count ≤ length xs → n ≡ count → group ≡ take n (drop at xs) → made ≡ map f (group ++ rest) → put ≡ take count made
    → map f (take at xs) ++ put ≡ map f (take (at + count) xs)
group_more f xs at count n group rest made put room same held mapped first =
    let of : group ≡ take count (drop at xs) = held ∙ ap (λ m. take m (drop at xs)) same in
    let long : length group ≡ count = ap length of ∙ length-take-le count (drop at xs) (omega (arith, length-drop at xs)) in
    let own : put ≡ map f (take count (drop at xs)) =
    first ∙ ap (take count) mapped ∙ take-map f count (group ++ rest)
    ∙ ap (map f) (take-append-le count group rest (omega (arith, long)) ∙ take_all count group (omega (arith, long)) ∙ of) in
    ap (λ ys. map f (take at xs) ++ ys) own
    ∙ sym (map-append f (take at xs) (take count (drop at xs)))
    ∙ ap (map f) (sym (take-add at count xs))
