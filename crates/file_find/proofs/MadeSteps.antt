-- What the lists of made shares are to the walk.
use Rattle.std.proofs.Common.{◌≡◌, ◌≤◌, ◌*◌, ℕ, Bool, List, length, sym, ap, subst, ◌∙◌, arith}
use Rattle.std.specs.List.{All}
use Rattle.definitions.specs.Evaluation.{Share}
use Rattle.walk_definitions.specs.Reports.{batch}
use Rattle.text_strings.specs.Lines.{most_strings}
use Rattle.idpf_gen.specs.Made.{made_zero, made_one}
use Rattle.pair_files.specs.declared.pair_settings.PairSettings.{PairSettings}
use Rattle.pair_shares.proofs.MadeLists.{levels_law}
use Rattle.pair_shares.proofs.MadeBatch.{batch_law}
use Rattle.file_find.specs.Walks.{reports_for}
use Rattle.file_find.specs.declared.rules.FindRules.{FindRules}

module _ (rules : FindRules) (settings : PairSettings) (strings : List (List Bool)) (zeros ones : List Share)
    (zero : zeros ≡ made_zero settings.master settings.tag 0 strings) (one : ones ≡ made_one settings.master settings.tag 0 strings)
    (master : settings.master ≡ rules.master) (tag : settings.tag ≡ rules.tag) where
  zeros_made : zeros ≡ made_zero rules.master rules.tag 0 strings
  zeros_made = zero ∙ ap (λ m. made_zero m settings.tag 0 strings) master ∙ ap (λ t. made_zero rules.master t 0 strings) tag

  ones_made : ones ≡ made_one rules.master rules.tag 0 strings
  ones_made = one ∙ ap (λ m. made_one m settings.tag 0 strings) master ∙ ap (λ t. made_one rules.master t 0 strings) tag

  module _ (whole : All (λ s. length s ≡ 8 * rules.width) strings) where
    pub levels0 : (bits : ℕ) → bits ≡ 8 * rules.width → All (λ s. length s.levels ≡ bits) zeros
    levels0 bits is =
        subst (λ n. All (λ s. length s.levels ≡ n) zeros) (sym is)
        (subst (λ (ss : List Share). All (λ s. length s.levels ≡ 8 * rules.width) ss) (sym zeros_made)
        (levels_law rules.master rules.tag (8 * rules.width) strings whole).levels0)

    pub levels1 : (bits : ℕ) → bits ≡ 8 * rules.width → All (λ s. length s.levels ≡ bits) ones
    levels1 bits is =
        subst (λ n. All (λ s. length s.levels ≡ n) ones) (sym is)
        (subst (λ (ss : List Share). All (λ s. length s.levels ≡ 8 * rules.width) ss) (sym ones_made)
        (levels_law rules.master rules.tag (8 * rules.width) strings whole).levels1)

    pub count0 : length zeros ≡ length strings
    count0 = ap length zeros_made ∙ (levels_law rules.master rules.tag (8 * rules.width) strings whole).count0

    pub count1 : length ones ≡ length strings
    count1 = ap length ones_made ∙ (levels_law rules.master rules.tag (8 * rules.width) strings whole).count1

  pub made_batch : length strings ≤ most_strings → batch zeros ones ≡ reports_for rules strings
  made_batch few =
      ap (λ ss. batch ss ones) zeros_made ∙ ap (batch (made_zero rules.master rules.tag 0 strings)) ones_made
      ∙ (batch_law rules.master rules.tag strings (omega (arith, few))).batch
