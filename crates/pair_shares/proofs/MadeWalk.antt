-- The walk over the reports that are made of strings.
use Rattle.std.proofs.Common.{◌≡◌, ◌⊎◌, inl, inr, ℕ, ◌+◌, ◌*◌, ◌<◌, ◌≤◌, Bool, List, [], ◌∷◌, length, refl, sym, ◌∙◌, ap, subst, arith}
use Rattle.std.specs.List.{All, AllByRecursion}
use Rattle.std.proofs.lemmas.Bool.{cases_lt, cases_eq}
use Rattle.std.proofs.lemmas.List.Elements.{recursion_from_All}
use Rattle.definitions.specs.Generation.{client_coins}
use Rattle.idpf_gen.proofs.PairLaws.{length-client_coins}
use Rattle.walk_definitions.specs.Reports.{Report}
use Rattle.walk_definitions.specs.Walk.{Heavy, done, capped, walk, live_at}
use Rattle.walk_definitions.specs.Heavy.{heavy}
use Rattle.walk_definitions.specs.Laws.{AreGenerated, IsHonest}
use Rattle.walk_definitions.proofs.Honest.{heavy_law, whole_batch}
use Rattle.walk_laws.specs.LastLevel.{Stops, IsLast, EndsOnce}
use Rattle.walk_laws.proofs.Ends.{ending_law}
use Rattle.pair_shares.specs.MadeReports.{reports_from, made_reports}
use Rattle.pair_shares.specs.Laws.{WalkLaw}

-- each report came from key generation for its string, with the coins of its line
generated_from : (bits : ℕ) (master : List ℕ) (tag line : ℕ) (strings : List (List Bool)) → AllByRecursion (λ s. length s ≡ bits) strings
    → AreGenerated bits (reports_from master tag line strings) strings
generated_from bits master tag line [] all = tt
generated_from bits master tag line (s ∷ ss) all = (
  all.0,
  record { coins = client_coins master line (length s); levels = length-client_coins master line (length s); zero_is = refl; one_is = refl },
  generated_from bits master tag (line + 1) ss all.1,
)

made_generated : (bits : ℕ) (master : List ℕ) (tag : ℕ) (strings : List (List Bool)) → All (λ s. length s ≡ bits) strings
    → AreGenerated bits (made_reports master tag strings) strings
unfolding made_reports
made_generated bits master tag strings all =
    generated_from bits master tag 0 strings (recursion_from_All (λ (s : List Bool). length s ≡ bits) strings all)

-- ---- where an end that comes once comes

module _ (bits cap : ℕ) (survivors : ℕ → List Heavy) (passed : ℕ → ℕ) where
  more_is_some : (level : ℕ) → cap < 2 * length (survivors level) → survivors level ≡ [] → ⊥
  more_is_some level more none = omega (arith, more, ap length none)

  -- an answer comes at the last level that has it
  pub done_at : (level count : ℕ) (found : List Heavy) → EndsOnce bits cap survivors passed (done level count found)
      → IsLast bits cap survivors level × ((level ≡ bits) ⊎ (survivors level ≡ []))
  done_at level count found once = at once.somewhere.1.stops
    where
      there : ℕ
      there = once.somewhere.0

      answered : (there ≡ bits) ⊎ (survivors there ≡ []) → IsLast bits cap survivors level × ((level ≡ bits) ⊎ (survivors level ≡ []))
      answered last =
          let is = (once.there there once.somewhere.1).answer last in
          let same : there ≡ level = cc in
          (subst (IsLast bits cap survivors) same once.somewhere.1, subst (λ l. (l ≡ bits) ⊎ (survivors l ≡ [])) same last)

      at : Stops bits cap survivors there → IsLast bits cap survivors level × ((level ≡ bits) ⊎ (survivors level ≡ []))
      at (inl e) = answered (inl e)
      at (inr (inl e)) = answered (inr e)
      at (inr (inr more)) = elim (cases_eq there bits) [
        | inl e ↦ answered (inl e)
        | inr other ↦ absurd (let is = (once.there there once.somewhere.1).too_many other (more_is_some there more) in let no : ⊥ = cc in no)
      ]

  -- a cap comes at the last level that has too many
  pub capped_at : (level wanted : ℕ) → 1 ≤ bits → EndsOnce bits cap survivors passed (capped level wanted)
      → IsLast bits cap survivors level × (level < bits) × (wanted ≡ 2 * length (survivors level)) × (cap < wanted)
  capped_at level wanted some once = at once.somewhere.1.stops
    where
      there : ℕ
      there = once.somewhere.0

      not_answered : (there ≡ bits) ⊎ (survivors there ≡ []) → ⊥
      not_answered last = let is = (once.there there once.somewhere.1).answer last in let no : ⊥ = cc in no

      -- the last of all stops, so that no later level is the first that does
      below : (there ≡ bits → ⊥) → there < bits
      below other = elim (cases_lt there bits) [
        | inl less ↦ less
        | inr more ↦ absurd (once.somewhere.1.first bits some (omega (arith, more, other)) (inl refl))
      ]

      at : Stops bits cap survivors there → IsLast bits cap survivors level × (level < bits) × (wanted ≡ 2 * length (survivors level)) × (cap < wanted)
      at (inl e) = absurd (not_answered (inl e))
      at (inr (inl e)) = absurd (not_answered (inr e))
      at (inr (inr more)) =
          let other : there ≡ bits → ⊥ = λ e. not_answered (inl e) in
          let is = (once.there there once.somewhere.1).too_many other (more_is_some there more) in
          let same : there ≡ level = cc in
          let wanted_is : 2 * length (survivors there) ≡ wanted = cc in (
            subst (IsLast bits cap survivors) same once.somewhere.1,
            subst (λ l. l < bits) same (below other),
            sym wanted_is ∙ ap (λ l. 2 * length (survivors l)) same,
            subst (λ n. cap < n) wanted_is more,
          )

pub walk_law : WalkLaw
walk_law settings master tag strings bits threshold few all =
    let reports : List Report = made_reports master tag strings in
    let generated = made_generated settings.bits master tag strings all in
    let whole : live_at settings reports 1 ≡ reports = whole_batch settings reports strings bits generated in
    let honest : IsHonest settings reports strings = record {
      some_bits = bits;
      some_threshold = threshold;
      generated = subst (λ rs. AreGenerated settings.bits rs strings) (sym whole) generated;
      few = few;
    } in
    let law = heavy_law settings reports strings honest in
    let frequent : ℕ → List Heavy = λ level. heavy level strings settings.threshold in
    let once : EndsOnce settings.bits settings.cap frequent (λ level. length strings) (walk settings reports) =
    subst (EndsOnce settings.bits settings.cap frequent (λ level. length strings)) (sym law.ends)
    (ending_law settings.bits settings.cap frequent (λ level. length strings) bits) in
    record {
      generated = generated;
      live = λ level some fits. law.live level some fits ∙ whole;
      survive = law.survive;
      ends = law.ends;
      once = once;
      answer = λ level passed found e.
          let is = law.answer level passed found e in
          let there = done_at settings.bits settings.cap frequent (λ l. length strings) level passed found
          (subst (EndsOnce settings.bits settings.cap frequent (λ l. length strings)) e once) in
          record { passed_is = is.0; found_is = is.1; last = there.0; done = there.1 };
      cap = λ level wanted e.
          let there = capped_at settings.bits settings.cap frequent (λ l. length strings) level wanted bits
          (subst (EndsOnce settings.bits settings.cap frequent (λ l. length strings)) e once) in
          record { last = there.0; below = there.1; wanted_is = there.2; more = there.3 };
    }
