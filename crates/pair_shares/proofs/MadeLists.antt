-- The lists that are made: a share for each string, with as many levels as the string has bits.
use Rattle.std.proofs.Common.{◌≡◌, ℕ, ◌+◌, Bool, List, [], ◌∷◌, length, ◌∙◌}
use Rattle.std.specs.List.{All, AllByRecursion}
use Rattle.std.proofs.lemmas.List.Elements.{All-from_recursion, recursion_from_All}
use Rattle.definitions.specs.Evaluation.{Share}
use Rattle.definitions.specs.Generation.{ClientCoins, client_coins, start, joint_correlation}
use Rattle.idpf_gen.proofs.PairLaws.{length-words0, length-words1, length-client_coins}
use Rattle.idpf_gen.proofs.LineLaws.{length-of_lines}
use Rattle.idpf_gen.specs.Made.{zero_share, one_share, of_lines}
use Rattle.pair_shares.specs.Laws.{LevelsLaw}

module _ (share_of : ℕ → List Bool → Share) (whole : (line : ℕ) (s : List Bool) → length (share_of line s).levels ≡ length s) (bits : ℕ) where
  levels_of : (line : ℕ) (strings : List (List Bool)) → AllByRecursion (λ s. length s ≡ bits) strings
      → AllByRecursion (λ s. length s.levels ≡ bits) (of_lines share_of line strings)
  levels_of line [] all = tt
  levels_of line (s ∷ ss) all = (whole line s ∙ all.0, levels_of (line + 1) ss all.1)

  all_levels_of : (strings : List (List Bool)) → All (λ s. length s ≡ bits) strings → All (λ s. length s.levels ≡ bits) (of_lines share_of 0 strings)
  all_levels_of strings all =
      All-from_recursion (λ (s : Share). length s.levels ≡ bits) (of_lines share_of 0 strings)
      (levels_of 0 strings (recursion_from_All (λ (s : List Bool). length s ≡ bits) strings all))

zero_whole : (master : List ℕ) (tag line : ℕ) (s : List Bool) → length (zero_share master tag line s).levels ≡ length s
zero_whole master tag line s =
    let coins : ClientCoins = client_coins master line (length s) in
    length-words0 (start coins) s coins.levels (length-client_coins master line (length s))

one_whole : (master : List ℕ) (tag line : ℕ) (s : List Bool) → length (one_share master tag line s).levels ≡ length s
one_whole master tag line s =
    let coins : ClientCoins = client_coins master line (length s) in
    length-words1 (joint_correlation coins) 1 (start coins) s coins.levels (length-client_coins master line (length s))

pub levels_law : LevelsLaw
levels_law master tag bits strings all = record {
  count0 = length-of_lines (zero_share master tag) 0 strings;
  count1 = length-of_lines (one_share master tag) 0 strings;
  levels0 = all_levels_of (zero_share master tag) (zero_whole master tag) bits strings all;
  levels1 = all_levels_of (one_share master tag) (one_whole master tag) bits strings all;
}
