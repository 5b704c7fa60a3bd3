-- A line's pair that goes one level further down, and one whose levels are all made.
use Rattle.std.proofs.Common.{◌≡◌, ℕ, zero, suc, ◌+◌, ◌<◌, ◌≤◌, Bool, false, List, [], ◌∷◌, length, take, sym, ap, subst, ◌∙◌, arith, length-append, add-one, inl, inr, refl, slice_set}
use Rattle.std.specs.Prelude.{slice_index_or, slice_get, Some}
use Rattle.definitions.specs.ReportIds.{report_id}
use Rattle.std.specs.Prelude.{◌%◌}
use Rattle.std.proofs.lemmas.Bool.{cases_lt}
use Rattle.std.proofs.lemmas.List.{take_more_set, take_all, length-set, get_or_append_left, get_or_push}
use Rattle.std.proofs.lemmas.Option.{slice_get-get_or, get_or_from_slice_get}
use Rattle.definitions.specs.Field.{modulus, sub}
use Rattle.definitions.specs.Sketch.{Triple, correlation, correction_a, correction_b}
use Rattle.definitions.specs.Evaluation.{LevelWord, Share}
use Rattle.definitions.specs.Generation.{Path, LevelCoins, ClientCoins, client_coins, level_coins, coins_of_levels, report_seed, start, words0, words1, joint_correlation, path_after, value_word}
use Rattle.generation_laws.specs.Points.{no_coins}
use Rattle.idpf_gen.proofs.PairLaws.{length-client_coins}
use Rattle.idpf_gen.proofs.WordSteps.{words0-more, words1-more, words0-end, words1-end}
use Rattle.seed_lanes.specs.Blocks.{Numbers, numbers_of}
use Rattle.generation_lanes.specs.Growing.{Growing, Turn, coins_for, bit_next, coins_next, turn_of, IsReady, IsGrown, zero_made, one_made}

-- ---- the coins of a level

length-of_levels : (seed : List ℕ) (n : ℕ) → length (coins_of_levels seed n) ≡ n
unfolding coins_of_levels
length-of_levels seed zero = refl
length-of_levels seed (suc n) = length-append (coins_of_levels seed n) (level_coins seed (suc n) ∷ []) ∙ (let before = length-of_levels seed n in omega arith)

of_levels_at : (seed : List ℕ) (n k : ℕ) → k < n → level_coins seed (k + 1) ≡ slice_index_or (coins_of_levels seed n) k no_coins
unfolding coins_of_levels
of_levels_at seed zero k h = absurd (omega arith)
of_levels_at seed (suc n) k h =
    let long = length-of_levels seed n in
    elim (cases_lt k n) [
      | inl less ↦ of_levels_at seed n k less ∙ sym (get_or_append_left (coins_of_levels seed n) (level_coins seed (suc n) ∷ []) no_coins k (omega (arith, long)))
      | inr more ↦
          let same : k ≡ n = omega arith in
          ap (level_coins seed) (add-one k ∙ ap suc same)
          ∙ sym (get_or_push (coins_of_levels seed n) (level_coins seed (suc n)) no_coins k (long ∙ sym same))
    ]

coins_are : (master : List ℕ) (line n k : ℕ) → k < n → level_coins (report_seed master line) (k + 1) ≡ slice_index_or (client_coins master line n).levels k no_coins
unfolding client_coins
coins_are master line n k h = of_levels_at (report_seed master line) n k h

-- ---- one more level

pub grown_more : (p : Growing) (zeros ones : List LevelWord) (level : ℕ) → IsReady level p → IsGrown (coins_for p) p.string p.done p.path zeros ones
    → IsGrown (coins_for p) p.string level (turn_of p).path (slice_set zeros p.done (turn_of p).zero) (slice_set ones p.done (turn_of p).one)
grown_more p zeros ones level ready grown =
    let coins : ClientCoins = coins_for p in
    let room : p.done < length coins.levels = omega (arith, ready.more, length-client_coins p.master p.line (length p.string)) in
    let read = slice_get-get_or p.string p.done false ready.more in
    let of = coins_are p.master p.line (length p.string) p.done ready.more in
    subst (λ n. IsGrown (coins_for p) p.string n (turn_of p).path (slice_set zeros p.done (turn_of p).zero) (slice_set ones p.done (turn_of p).one)) ready.next
    (record {
      zero_long = length-set zeros p.done (turn_of p).zero ∙ grown.zero_long;
      one_long = length-set ones p.done (turn_of p).one ∙ grown.one_long;
      zero_words = words0-more (take p.done zeros) _ (take (p.done + 1) (slice_set zeros p.done (turn_of p).zero)) p.path (turn_of p).path p.string coins.levels p.done
          (bit_next p) (coins_next p) (turn_of p).zero ready.more room read of refl refl
          (take_more_set zeros p.done (turn_of p).zero (omega (arith, ready.more, grown.zero_long))) grown.zero_words;
      one_words = words1-more (joint_correlation coins) (take p.done ones) _ (take (p.done + 1) (slice_set ones p.done (turn_of p).one)) p.path (turn_of p).path p.string
          coins.levels p.done (bit_next p) (coins_next p) (turn_of p).one ready.more room read of refl refl
          (take_more_set ones p.done (turn_of p).one (omega (arith, ready.more, grown.one_long))) grown.one_words;
    })

-- ---- all levels made

pub zero_whole : (coins : ClientCoins) (string : List Bool) (done : ℕ) (path : Path) (zeros ones : List LevelWord) → IsGrown coins string done path zeros ones
    → length string ≤ done → zeros ≡ words0 (start coins) string coins.levels
zero_whole coins string done path zeros ones grown all =
    sym (take_all done zeros (omega (arith, grown.zero_long))) ∙ words0-end (take done zeros) _ path string coins.levels done all grown.zero_words

pub one_whole : (coins : ClientCoins) (string : List Bool) (done : ℕ) (path : Path) (zeros ones : List LevelWord) → IsGrown coins string done path zeros ones
    → length string ≤ done → ones ≡ words1 (joint_correlation coins) 1 (start coins) string coins.levels
one_whole coins string done path zeros ones grown all =
    sym (take_all done ones (omega (arith, grown.one_long))) ∙ words1-end (joint_correlation coins) (done + 1) (take done ones) _ path string coins.levels done all grown.one_words

-- ---- what is read and made

pub bit_read : (bits : List Bool) (k : ℕ) (bit : Bool) → slice_get bits k ≡ Some bit → bit ≡ slice_index_or bits k false
bit_read bits k bit e = sym (get_or_from_slice_get bits k bit false e)

pub ruleset bit_steps = (bit_read)

abbrev pub share_from : List ℕ → List ℕ → List ℕ → List LevelWord → Share
share_from id root corr levels = record { id = id; root = root; corr = corr; levels = levels }

same_share : (id id' root root' corr corr' : List ℕ) (levels levels' : List LevelWord) → id ≡ id' → root ≡ root' → corr ≡ corr' → levels ≡ levels'
    → share_from id root corr levels ≡ share_from id' root' corr' levels'
same_share id id' root root' corr corr' levels levels' a b d e =
    ap (λ x. share_from x root corr levels) a ∙ ap (λ x. share_from id' x corr levels) b ∙ ap (λ x. share_from id' root' x levels) d
    ∙ ap (share_from id' root' corr') e

pub zero_is : (p : Growing) (id root corr : List ℕ) (levels : List LevelWord) → id ≡ report_id p.tag p.line → root ≡ (coins_for p).root0
    → corr ≡ (coins_for p).corr0 → levels ≡ words0 (start (coins_for p)) p.string (coins_for p).levels → share_from id root corr levels ≡ zero_made p
zero_is p id root corr levels a b d e = same_share id _ root _ corr _ levels _ a b d e

pub one_is : (p : Growing) (id root corr : List ℕ) (levels : List LevelWord) → id ≡ report_id p.tag p.line → root ≡ (coins_for p).root1
    → corr ≡ (coins_for p).corr1 → levels ≡ words1 (joint_correlation (coins_for p)) 1 (start (coins_for p)) p.string (coins_for p).levels
    → share_from id root corr levels ≡ one_made p
one_is p id root corr levels a b d e = same_share id _ root _ corr _ levels _ a b d e

-- ---- a level's turn

abbrev pub coins_of_numbers : Numbers → LevelCoins
coins_of_numbers n = record { k = n.first % modulus; a0 = n.second % modulus; b0 = n.third % modulus }

abbrev pub triple_of_numbers : Numbers → Triple
triple_of_numbers n = record { a = n.first % modulus; b = n.second % modulus; c = n.third % modulus }

pub coins_read : (p : Growing) (level : ℕ) (numbers : Numbers) (coins : LevelCoins) → p.done + 1 ≡ level
    → numbers ≡ numbers_of level (report_seed p.master p.line) → coins ≡ coins_of_numbers numbers → coins ≡ coins_next p
coins_read p level numbers coins next read made =
    made ∙ ap coins_of_numbers read ∙ ap (level_coins (report_seed p.master p.line)) (sym next)

pub triple_read : (corr : List ℕ) (done level : ℕ) (numbers : Numbers) (triple : Triple) → done + 1 ≡ level → numbers ≡ numbers_of level corr
    → triple ≡ triple_of_numbers numbers → triple ≡ correlation corr (done + 1)
unfolding correlation
triple_read corr done level numbers triple next read made =
    made ∙ ap triple_of_numbers read ∙ ap (λ n. triple_of_numbers (numbers_of n corr)) (sym next)

abbrev with_coins : LevelWord → LevelCoins → LevelWord
with_coins w c = record w { a = c.a0; b = c.b0 }

abbrev with_rest : Triple → LevelWord → LevelCoins → LevelWord
with_rest t w c = record w { a = sub (correction_a t c.k) c.a0; b = sub (correction_b t c.k) c.b0 }

abbrev pub turn_from : LevelWord → LevelWord → Path → Turn
turn_from first second path = record { zero = first; one = second; path = path }

pub turn_made : (p : Growing) (bit : Bool) (coins : LevelCoins) (joint : Triple) (path after : Path) (k : ℕ) (word first second : LevelWord)
    → bit ≡ bit_next p → coins ≡ coins_next p → joint ≡ joint_correlation (coins_for p) (p.done + 1) → path ≡ p.path → k ≡ coins.k
    → word ≡ value_word path bit k → after ≡ path_after path bit
    → first ≡ record word { a = coins.a0; b = coins.b0 }
    → second ≡ record word { a = sub (correction_a joint coins.k) coins.a0; b = sub (correction_b joint coins.k) coins.b0 }
    → turn_from first second after ≡ turn_of p
turn_made p bit coins joint path after k word first second b c j at d w a z o =
    let word_is : word ≡ value_word p.path (bit_next p) (coins_next p).k =
    w ∙ ap (λ q. value_word q bit k) at ∙ ap (λ x. value_word p.path x k) b ∙ ap (value_word p.path (bit_next p)) (d ∙ ap (λ (x : LevelCoins). x.k) c) in
    let after_is : after ≡ path_after p.path (bit_next p) = a ∙ ap (λ q. path_after q bit) at ∙ ap (path_after p.path) b in
    let zero_is : first ≡ (turn_of p).zero =
    z ∙ ap (λ x. with_coins x coins) word_is ∙ ap (with_coins (value_word p.path (bit_next p) (coins_next p).k)) c in
    let one_is : second ≡ (turn_of p).one =
    o ∙ ap (λ x. with_rest joint x coins) word_is ∙ ap (with_rest joint (value_word p.path (bit_next p) (coins_next p).k)) c
    ∙ ap (λ t. with_rest t (value_word p.path (bit_next p) (coins_next p).k) (coins_next p)) j in
    ap (λ x. turn_from x second after) zero_is ∙ ap (λ x. turn_from (turn_of p).zero x after) one_is
    ∙ ap (turn_from (turn_of p).zero (turn_of p).one) after_is
