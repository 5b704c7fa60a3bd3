-- The walk over generated reports finds the heavy prefixes of their strings.
use Rattle.std.proofs.Common.{◌≡◌, ℕ, zero, suc, ◌+◌, ◌-◌, ◌*◌, ◌<◌, ◌≤◌, Bool, true, false, cond, List, [], ◌∷◌, ◌++◌, length, take, refl, sym, ◌∙◌, ap, subst, arith, length-take}
use Rattle.std.specs.Prelude.{map, if◌then◌else◌, nat_le, ◌||◌}
use Rattle.std.specs.List.{filter}
use Rattle.std.proofs.lemmas.Bool.{leb-true, leb-false, lt-leb, eq-eqb}
use Rattle.std.proofs.lemmas.List.Sums.{sum_by-cons, count_by-le-length}
use Rattle.definitions.specs.declared.Side.TheVariants.{Zero, One}
use Rattle.definitions.specs.Field.{modulus, add, total_by}
use Rattle.definitions.specs.Evaluation.{node}
use Rattle.definitions.specs.Prefixes.{xor, is_prefix, AreCandidates}
use Rattle.definitions.specs.Generation.{IsGenerated, share0, share1}
use Rattle.definitions.specs.Sketch.{coin}
use Rattle.definitions.specs.Check.{Passes}
use Rattle.definitions.proofs.FieldLaws.{total_by-nil, total_by-cons, total_by-add, total_by-small}
use Rattle.generation_laws.proofs.PointLaws.{point_law}
use Rattle.generation_laws.proofs.HonestLaws.{honest_law}
use Rattle.walk_definitions.specs.Reports.{Report, held}
use Rattle.walk_definitions.specs.Walk.{Settings, Heavy, End, done, capped, passes, sigma_sum, total, survivors, children, first_candidates, stage_after, live_at, survivors_at, goes_on, stopped, ending, walk}
use Rattle.walk_definitions.specs.Heavy.{count, counted, heavy}
use Rattle.walk_definitions.specs.Laws.{AreGenerated, IsHonest, LevelsAreHeavy}
use Rattle.walk_definitions.proofs.Prefixes.{all_of, both_children, children-counted, all_of-more, count-child, filter-children, are-children, are-filter, are-all_of, survivors-filter}
use Rattle.walk_definitions.proofs.Steps.{candidates-none, live-none, candidates-more, live-more, survivors-more, ending-last, ending-more}
use Rattle.walk_definitions.proofs.Ascent.{has, same, or_true, AllLong, same-refl, ascending-filter, filter-filter}

-- ---- generated reports pass, and their values add up to counts

passes_generated : (settings : Settings) (i : ℕ) (candidates : List (List Bool)) (report : Report) (string : List Bool)
    → length string ≡ settings.bits → IsGenerated report.held0 report.held1 string → i < settings.bits → AreCandidates (suc i) candidates
    → passes settings (suc i) candidates report ≡ true
passes_generated settings i candidates report string long g below are =
    let coins = coin settings.verify report.id (suc i) in
    let id = report.held0.id in
    let law : Passes coins (share0 id string g.coins) (share1 id string g.coins) (suc i) candidates =
    honest_law id string g.coins (suc i) (omega arith) (omega arith) (omega (arith, g.levels)) coins candidates are in
    let at0 : Passes coins report.held0 (share1 id string g.coins) (suc i) candidates =
    subst (λ s. Passes coins s (share1 id string g.coins) (suc i) candidates) (sym g.zero_is) law in
    let at1 : Passes coins report.held0 report.held1 (suc i) candidates =
    subst (λ s. Passes coins report.held0 s (suc i) candidates) (sym g.one_is) at0 in
    eq-eqb (sigma_sum settings (suc i) candidates report) 0 at1

all_pass : (settings : Settings) (i : ℕ) (candidates : List (List Bool)) → i < settings.bits → AreCandidates (suc i) candidates
    → (reports : List Report) (strings : List (List Bool)) → AreGenerated settings.bits reports strings
    → filter (passes settings (suc i) candidates) reports ≡ reports
all_pass settings i candidates below are [] [] g = refl
all_pass settings i candidates below are [] (s ∷ ss) g = absurd g
all_pass settings i candidates below are (r ∷ rs) [] g = absurd g
all_pass settings i candidates below are (r ∷ rs) (s ∷ ss) g =
    ap (λ b. cond b (r ∷ filter (passes settings (suc i) candidates) rs) (filter (passes settings (suc i) candidates) rs))
    (passes_generated settings i candidates r s g.0 g.1 below are)
    ∙ ap (λ t. r ∷ t) (all_pass settings i candidates below are rs ss g.2)

-- both sides' values of a report
abbrev value_at : List Bool → Report → ℕ
value_at q report = add (node (held report Zero) Zero q).d (node (held report One) One q).d

value_generated : (q : List Bool) (report : Report) (string : List Bool) → IsGenerated report.held0 report.held1 string → 1 ≤ length q
    → length q ≤ length string → value_at q report ≡ cond (is_prefix q string) 1 0
value_generated q report string g some fits =
    let id = report.held0.id in
    ap (λ s. add (node s Zero q).d (node report.held1 One q).d) g.zero_is
    ∙ ap (λ s. add (node (share0 id string g.coins) Zero q).d (node s One q).d) g.one_is
    ∙ (point_law id string g.coins q some fits (omega (arith, g.levels))).d

total-count : (bits : ℕ) (q : List Bool) → 1 ≤ length q → length q ≤ bits
    → (reports : List Report) (strings : List (List Bool)) → AreGenerated bits reports strings
    → total_by (value_at q) reports ≡ total_by (λ s. cond (is_prefix q s) 1 0) strings
total-count bits q some fits [] [] g = total_by-nil (value_at q) ∙ sym (total_by-nil (λ s. cond (is_prefix q s) 1 0))
total-count bits q some fits [] (s ∷ ss) g = absurd g
total-count bits q some fits (r ∷ rs) [] g = absurd g
total-count bits q some fits (r ∷ rs) (s ∷ ss) g =
    total_by-cons (value_at q) r rs
    ∙ ap (λ v. add v (total_by (value_at q) rs)) (value_generated q r s g.1 some (omega (arith, g.0, fits)))
    ∙ ap (λ t. add (cond (is_prefix q s) 1 0) t) (total-count bits q some fits rs ss g.2)
    ∙ sym (total_by-cons (λ s. cond (is_prefix q s) 1 0) s ss)

total_is : (bits : ℕ) (q : List Bool) → 1 ≤ length q → length q ≤ bits
    → (reports : List Report) (strings : List (List Bool)) → AreGenerated bits reports strings → length strings < modulus
    → total reports q ≡ count strings q
total_is bits q some fits reports strings g few =
    sym (total_by-add (λ r. (node (held r Zero) Zero q).d) (λ r. (node (held r One) One q).d) reports)
    ∙ total-count bits q some fits reports strings g
    ∙ total_by-small (λ s. cond (is_prefix q s) 1 0) strings (omega (arith, count_by-le-length (is_prefix q) strings))

-- ---- the heavy prefixes, as a filter of all

take_long : (level : ℕ) (s : List Bool) → level ≤ length s → length (take level s) ≡ level
take_long level s h = omega (arith, length-take level s)

all_long : (bits level : ℕ) (reports : List Report) (strings : List (List Bool)) → AreGenerated bits reports strings → level ≤ bits
    → AllLong level (map (take level) strings)
all_long bits level [] [] g h = tt
all_long bits level [] (s ∷ ss) g h = absurd g
all_long bits level (r ∷ rs) [] g h = absurd g
all_long bits level (r ∷ rs) (s ∷ ss) g h = (take_long level s (omega (arith, g.0)), all_long bits level rs ss g.2 h)

pub xor_false : (a b : Bool) → xor a b ≡ false → a ≡ b
xor_false true true e = refl
xor_false true false e = cc
xor_false false b e = sym e

-- a prefix of a string is its front
pub front : (q s : List Bool) → is_prefix q s ≡ true → take (length q) s ≡ q
front [] s e = refl
front (b ∷ q) [] e = cc
front (b ∷ q) (a ∷ s) e = at (xor b a) refl (front q s) e
  where
    at : (x : Bool) → xor b a ≡ x → (is_prefix q s ≡ true → take (length q) s ≡ q) → (if x then false else is_prefix q s) ≡ true
        → a ∷ take (length q) s ≡ b ∷ q
    at true is more e = cc
    at false is more e = let same = xor_false b a is in let rest = more e in cc

-- what a string begins with is among the fronts
has-front : (q : List Bool) (strings : List (List Bool)) → 1 ≤ count strings q → has (map (take (length q)) strings) q ≡ true
has-front q [] h = absurd (omega arith)
has-front q (s ∷ ss) h = at (is_prefix q s) refl (has-front q ss)
  where
    at : (b : Bool) → is_prefix q s ≡ b → (1 ≤ count ss q → has (map (take (length q)) ss) q ≡ true) → has (map (take (length q)) (s ∷ ss)) q ≡ true
    at true is more =
        ap (λ w. same w q || has (map (take (length q)) ss) q) (front q s is)
        ∙ ap (λ b. b || has (map (take (length q)) ss) q) (same-refl q)
    at false is more =
        let counts = sum_by-cons (λ x. cond (is_prefix q x) 1 0) s ss in
        let nothing : cond (is_prefix q s) 1 0 ≡ 0 = ap {B = ℕ} (λ b. cond b 1 0) is in
        let rest = more (omega (arith, h, counts, nothing)) in
        ap (λ b. same (take (length q) s) q || b) rest ∙ or_true (same (take (length q) s) q)

-- ---- the walk

-- as many reports as strings
pub as_many : (bits : ℕ) (reports : List Report) (strings : List (List Bool)) → AreGenerated bits reports strings → length reports ≡ length strings
as_many bits [] [] g = refl
as_many bits [] (s ∷ ss) g = absurd g
as_many bits (r ∷ rs) [] g = absurd g
as_many bits (r ∷ rs) (s ∷ ss) g = let rest = as_many bits rs ss g.2 in omega arith

same_done : (level m n : ℕ) (g h : List Heavy) → m ≡ n → g ≡ h → done level m g ≡ done level n h
same_done level m n g h d e = cc

nothing_counted : (strings qs : List (List Bool)) → counted strings qs ≡ [] → qs ≡ []
nothing_counted strings [] e = refl
nothing_counted strings (q ∷ qs) e = cc

module _ (settings : Settings) (batch : List Report) (strings : List (List Bool)) (honest : IsHonest settings batch strings) where
  abbrev first_live : List Report
  first_live = live_at settings batch 1

  abbrev enough : List Bool → Bool
  enough q = nat_le settings.threshold (count strings q)

  down : (q : List Bool) (b : Bool) → enough q ≡ false → enough (q ++ b ∷ []) ≡ false
  down q b e = lt-leb settings.threshold (count strings (q ++ b ∷ [])) (omega (arith, leb-false settings.threshold (count strings q) e, count-child strings q b))

  -- of length level, for a level within the strings
  heavy_is : (level : ℕ) → level ≤ settings.bits → heavy level strings settings.threshold ≡ counted strings (filter enough (all_of level))
  unfolding heavy
  heavy_is level fits =
      ap (λ qs. counted strings (filter enough qs)) (ascending-filter level (map (take level) strings) (all_long settings.bits level first_live strings honest.generated fits))
      ∙ ap (counted strings) (filter-filter enough (has (map (take level) strings)) level (all_of level) (are-all_of level)
      (λ q long e. subst (λ l. has (map (take l) strings) q ≡ true) long (has-front q strings (omega (arith, leb-true settings.threshold (count strings q) e, honest.some_threshold)))))

  totals_are : (level : ℕ) → 1 ≤ level → level ≤ settings.bits → (qs : List (List Bool)) → AreCandidates level qs
      → map (total first_live) qs ≡ map (count strings) qs
  totals_are level some fits [] are = refl
  totals_are level some fits (q ∷ qs) are =
      let first = total_is settings.bits q (omega (arith, are.0)) (omega (arith, are.0)) first_live strings honest.generated honest.few in
      let rest = totals_are level some fits qs are.2 in
      cc

  -- candidates among which are all the heavy ones
  record Covers (level : ℕ) (qs : List (List Bool)) : Type 0 where
    differ : AreCandidates level qs
    cover : filter enough qs ≡ filter enough (all_of level)

  survivors_are : (level : ℕ) → 1 ≤ level → level ≤ settings.bits → (qs : List (List Bool)) → Covers level qs
      → survivors settings.threshold qs (map (total first_live) qs) ≡ counted strings (filter enough (all_of level))
  survivors_are level some fits qs c =
      ap (survivors settings.threshold qs) (totals_are level some fits qs c.differ)
      ∙ survivors-filter settings.threshold (count strings) qs
      ∙ ap (counted strings) c.cover

  covers_first : Covers 1 first_candidates
  covers_first = record { differ = are-all_of 1; cover = refl }

  covers_next : (level : ℕ) → Covers (suc level) (both_children (filter enough (all_of level)))
  covers_next level = record {
    differ = are-children level (filter enough (all_of level)) (are-filter enough level (all_of level) (are-all_of level));
    cover = sym (filter-children enough down (all_of level)) ∙ ap (filter enough) (sym (all_of-more level));
  }

  -- the stage after a level, counted from 0
  record Goes (level : ℕ) : Type 0 where
    live : live_at settings batch (suc level) ≡ first_live
    survive : survivors_at settings batch (suc level) ≡ counted strings (filter enough (all_of (suc level)))
    next : (stage_after settings batch (suc level)).candidates ≡ both_children (filter enough (all_of (suc level)))

  goes_from : (level : ℕ) → suc level ≤ settings.bits → (qs : List (List Bool)) → Covers (suc level) qs
      → (stage_after settings batch level).candidates ≡ qs → live_at settings batch (suc level) ≡ first_live → Goes level
  goes_from level fits qs c is live =
      let survive : survivors_at settings batch (suc level) ≡ counted strings (filter enough (all_of (suc level))) =
      survivors-more settings batch level
      ∙ ap (λ rs. survivors settings.threshold (stage_after settings batch level).candidates (map (total rs) (stage_after settings batch level).candidates)) live
      ∙ ap (λ cs. survivors settings.threshold cs (map (total first_live) cs)) is
      ∙ survivors_are (suc level) (omega arith) fits qs c in
      record {
        live = live;
        survive = survive;
        next = candidates-more settings batch level ∙ ap children survive ∙ children-counted strings (filter enough (all_of (suc level)));
      }

  goes : (level : ℕ) → suc level ≤ settings.bits → Goes level
  goes zero fits = goes_from 0 fits first_candidates covers_first (candidates-none settings batch) refl
  goes (suc level) fits =
      let before = goes level (omega arith) in
      let qs = both_children (filter enough (all_of (suc level))) in
      let c = covers_next (suc level) in
      goes_from (suc level) fits qs c before.next
      (live-more settings batch (suc level)
      ∙ ap (λ rs. filter (passes settings (suc (suc level)) (stage_after settings batch (suc level)).candidates) rs) before.live
      ∙ ap (λ cs. filter (passes settings (suc (suc level)) cs) first_live) before.next
      ∙ all_pass settings (suc level) qs fits c.differ first_live strings honest.generated)

  -- ---- every level, counted from 1

  live_is : (level : ℕ) → 1 ≤ level → level ≤ settings.bits → live_at settings batch level ≡ first_live
  live_is zero some fits = absurd (omega arith)
  live_is (suc level) some fits = (goes level fits).live

  survive_is : (level : ℕ) → 1 ≤ level → level ≤ settings.bits → survivors_at settings batch level ≡ heavy level strings settings.threshold
  survive_is zero some fits = absurd (omega arith)
  survive_is (suc level) some fits = (goes level fits).survive ∙ sym (heavy_is (suc level) fits)

  totals_at : (q : List Bool) → 1 ≤ length q → length q ≤ settings.bits → total (live_at settings batch (length q)) q ≡ count strings q
  totals_at q some fits =
      ap (λ rs. total rs q) (live_is (length q) some fits)
      ∙ total_is settings.bits q some fits first_live strings honest.generated honest.few

  passed_is : (level : ℕ) → 1 ≤ level → level ≤ settings.bits → length (live_at settings batch level) ≡ length strings
  passed_is level some fits = ap (λ rs. length rs) (live_is level some fits) ∙ as_many settings.bits first_live strings honest.generated

  abbrev heavy_at : ℕ → List Heavy
  heavy_at level = heavy level strings settings.threshold

  ends_from : (more level : ℕ) → 1 ≤ level → more + level ≤ settings.bits
      → ending settings.cap (survivors_at settings batch) (λ level. length (live_at settings batch level)) more level
      ≡ ending settings.cap heavy_at (λ level. length strings) more level
  ends_from zero level some fits =
      ending-last settings.cap (survivors_at settings batch) (λ level. length (live_at settings batch level)) level
      ∙ same_done level _ _ _ _ (passed_is level some (omega arith)) (survive_is level some (omega arith))
      ∙ sym (ending-last settings.cap heavy_at (λ level. length strings) level)
  ends_from (suc more) level some fits =
      ending-more settings.cap (survivors_at settings batch) (λ level. length (live_at settings batch level)) more level
      ∙ ap (λ e. if goes_on settings.cap (survivors_at settings batch level) then e else stopped level (length (live_at settings batch level)) (survivors_at settings batch level))
      (ends_from more (suc level) (omega arith) (omega arith))
      ∙ ap (λ n. if goes_on settings.cap (survivors_at settings batch level) then ending settings.cap heavy_at (λ level. length strings) more (suc level) else stopped level n (survivors_at settings batch level))
      (passed_is level some (omega arith))
      ∙ ap (λ h. if goes_on settings.cap h then ending settings.cap heavy_at (λ level. length strings) more (suc level) else stopped level (length strings) h)
      (survive_is level some (omega arith))
      ∙ sym (ending-more settings.cap heavy_at (λ level. length strings) more level)

  -- a level with no heavy prefix has none behind it
  none_later : (level : ℕ) → filter enough (all_of level) ≡ [] → filter enough (all_of (suc level)) ≡ []
  none_later level none =
      ap (filter enough) (all_of-more level) ∙ filter-children enough down (all_of level) ∙ ap (λ qs. filter enough (both_children qs)) none

  none_ever : (more level : ℕ) → filter enough (all_of level) ≡ [] → filter enough (all_of (more + level)) ≡ []
  none_ever zero level none =
      let same : 0 + level ≡ level = omega arith in
      ap (λ l. filter enough (all_of l)) same ∙ none
  none_ever (suc more) level none =
      let same : suc more + level ≡ suc (more + level) = omega arith in
      ap (λ l. filter enough (all_of l)) same ∙ none_later (more + level) (none_ever more level none)

  none_at_last : (more level : ℕ) → more + level ≡ settings.bits → heavy_at level ≡ [] → [] ≡ heavy_at settings.bits
  none_at_last more level fits none =
      sym (heavy_is settings.bits (omega arith)
      ∙ ap (λ l. counted strings (filter enough (all_of l))) (sym fits)
      ∙ ap (counted strings) (none_ever more level (nothing_counted strings (filter enough (all_of level)) (sym (heavy_is level (omega arith)) ∙ none))))

  abbrev later : ℕ → ℕ → End
  later more level = ending settings.cap heavy_at (λ level. length strings) more (suc level)

  answer_from : (more level l passed : ℕ) (found : List Heavy) → 1 ≤ level → more + level ≡ settings.bits
      → ending settings.cap heavy_at (λ level. length strings) more level ≡ done l passed found
      → (passed ≡ length strings) × (found ≡ heavy_at settings.bits)
  answer_from zero level l passed found some fits e =
      let same : level ≡ settings.bits = omega arith in
      let is : done level (length strings) (heavy_at level) ≡ done l passed found = sym (ending-last settings.cap heavy_at (λ level. length strings) level) ∙ e in
      let last = ap heavy_at same in
      (cc, cc)
  answer_from (suc more) level l passed found some fits e =
      at (heavy_at level) refl (answer_from more (suc level) l passed found (omega arith) (omega arith))
      (sym (ending-more settings.cap heavy_at (λ level. length strings) more level) ∙ e)
    where
      at : (h : List Heavy) → heavy_at level ≡ h
          → (later more level ≡ done l passed found → (passed ≡ length strings) × (found ≡ heavy_at settings.bits))
          → (if goes_on settings.cap (heavy_at level) then later more level else stopped level (length strings) (heavy_at level)) ≡ done l passed found
          → (passed ≡ length strings) × (found ≡ heavy_at settings.bits)
      at [] is rest e =
          let stops : done level (length strings) [] ≡ done l passed found =
          sym (ap (λ h. if goes_on settings.cap h then later more level else stopped level (length strings) h) is) ∙ e in
          let last = none_at_last (suc more) level fits is in
          (cc, cc)
      at (x ∷ h) is rest e =
          onward (goes_on settings.cap (x ∷ h)) (sym (ap (λ h. if goes_on settings.cap h then later more level else stopped level (length strings) h) is) ∙ e)
        where
          onward : (b : Bool) → (if b then later more level else capped level (2 * length (x ∷ h))) ≡ done l passed found
              → (passed ≡ length strings) × (found ≡ heavy_at settings.bits)
          onward true e = rest e
          onward false e = (cc, cc)

  pub ends : walk settings batch ≡ ending settings.cap heavy_at (λ level. length strings) (settings.bits - 1) 1
  ends = ends_from (settings.bits - 1) 1 (omega arith) (omega (arith, honest.some_bits))

pub heavy_law : (settings : Settings) (batch : List Report) (strings : List (List Bool)) → IsHonest settings batch strings → LevelsAreHeavy settings batch strings
heavy_law settings batch strings honest = record {
  live = live_is settings batch strings honest;
  totals = totals_at settings batch strings honest;
  survive = survive_is settings batch strings honest;
  ends = ends settings batch strings honest;
  answer = λ level passed found e. answer_from settings batch strings honest (settings.bits - 1) 1 level passed found (omega arith) (omega (arith, honest.some_bits)) (sym (ends settings batch strings honest) ∙ e);
}

pub whole_batch : (settings : Settings) (batch : List Report) (strings : List (List Bool))
    → 1 ≤ settings.bits → AreGenerated settings.bits batch strings → live_at settings batch 1 ≡ batch
whole_batch settings batch strings some generated =
    live-more settings batch 0
    ∙ ap (λ cs. filter (passes settings 1 cs) (live_at settings batch 0)) (candidates-none settings batch)
    ∙ ap (λ rs. filter (passes settings 1 first_candidates) rs) (live-none settings batch)
    ∙ all_pass settings 0 first_candidates (omega arith) (are-all_of 1) batch strings generated
