-- A walk ends at its first level that stops.
use Rattle.std.proofs.Common.{◌≡◌, ◌⊎◌, inl, inr, ℕ, zero, suc, ◌+◌, ◌-◌, ◌*◌, ◌<◌, ◌≤◌, Bool, true, false, List, [], ◌∷◌, length, refl, sym, ◌∙◌, ap, subst, arith}
use Rattle.std.specs.Prelude.{if◌then◌else◌, nat_le}
use Rattle.std.proofs.lemmas.Bool.{leb-false, leb-true, cases_lt}
use Rattle.walk_definitions.specs.Walk.{Heavy, End, done, capped, goes_on, stopped, ending, survivors_at, live_at}
use Rattle.walk_definitions.proofs.Steps.{ending-last, ending-more}
use Rattle.walk_laws.specs.LastLevel.{Stops, IsLast, EndsAt, EndingLaw, WalkEndLaw}

module _ (bits cap : ℕ) (survivors : ℕ → List Heavy) (passed : ℕ → ℕ) where
  abbrev NoneBefore : ℕ → Type 0
  NoneBefore level = (earlier : ℕ) → 1 ≤ earlier → earlier < level → Stops bits cap survivors earlier → ⊥

  abbrev Found : End → Type 0
  Found end = (level : ℕ) × IsLast bits cap survivors level × EndsAt bits cap survivors passed level end

  none_yet : (level : ℕ) → NoneBefore level → (Stops bits cap survivors level → ⊥) → NoneBefore (suc level)
  none_yet level none not_here earlier one lower stops = elim (cases_lt earlier level) [
    | inl before ↦ none earlier one before stops
    | inr not_before ↦
        let same : earlier ≡ level = omega arith in
        not_here (subst (Stops bits cap survivors) same stops)
  ]

  here : (level : ℕ) → 1 ≤ level → NoneBefore level → Stops bits cap survivors level → IsLast bits cap survivors level
  here level some none stops = record { one_or_more = some; stops = stops; first = none }

  found_from : (more level : ℕ) → more + level ≡ bits → 1 ≤ level → NoneBefore level → Found (ending cap survivors passed more level)
  found_from zero level fits some none =
      let last : level ≡ bits = omega (arith, fits) in (
        level,
        here level some none (inl last),
        record { answer = λ why. ending-last cap survivors passed level; too_many = λ not_last not_none. absurd (not_last last) },
      )
  found_from (suc more) level fits some none =
      at (survivors level) refl (λ goes. found_from more (suc level) (omega (arith, fits)) (omega arith) (none_yet level none goes))
    where
      later : End
      later = ending cap survivors passed more (suc level)

      not_last : level ≡ bits → ⊥
      not_last e = absurd (omega (arith, e, fits))

      so : (found : List Heavy) → survivors level ≡ found
          → ending cap survivors passed (suc more) level ≡ (if goes_on cap found then later else stopped level (passed level) found)
      so found is =
          ending-more cap survivors passed more level ∙ ap (λ h. if goes_on cap h then later else stopped level (passed level) h) is

      at : (found : List Heavy) → survivors level ≡ found → ((Stops bits cap survivors level → ⊥) → Found later)
          → Found (ending cap survivors passed (suc more) level)
      at [] is go = (
        level,
        here level some none (inr (inl is)),
        record {
          answer = λ why. so [] is ∙ sym (ap (λ h. done level (passed level) h) is);
          too_many = λ not_last not_none. absurd (not_none is);
        },
      )
      at (h ∷ hs) is go = by_cap (nat_le (2 * length (h ∷ hs)) cap) refl
        where
          either : (b : Bool) → nat_le (2 * length (h ∷ hs)) cap ≡ b
              → ending cap survivors passed (suc more) level ≡ (if b then later else capped level (2 * length (h ∷ hs)))
          either b e = so (h ∷ hs) is ∙ ap (λ b. if b then later else capped level (2 * length (h ∷ hs))) e

          not_none : survivors level ≡ [] → ⊥
          not_none e = let no : h ∷ hs ≡ [] = sym is ∙ e in cc

          by_cap : (b : Bool) → nat_le (2 * length (h ∷ hs)) cap ≡ b → Found (ending cap survivors passed (suc more) level)
          by_cap true e =
              let few : 2 * length (h ∷ hs) ≤ cap = leb-true (2 * length (h ∷ hs)) cap e in
              subst Found (sym (either true e)) (go (not_here few))
            where
              not_here : 2 * length (h ∷ hs) ≤ cap → Stops bits cap survivors level → ⊥
              not_here few (inl last) = not_last last
              not_here few (inr (inl nothing)) = not_none nothing
              not_here few (inr (inr many)) =
                  let much : cap < 2 * length (h ∷ hs) = subst (λ xs. cap < 2 * length xs) is many in
                  absurd (omega (arith, few, much))
          by_cap false e =
              let much : cap < 2 * length (h ∷ hs) = leb-false (2 * length (h ∷ hs)) cap e in (
                level,
                here level some none (inr (inr (subst (λ xs. cap < 2 * length xs) (sym is) much))),
                record { answer = answer; too_many = λ f g. either false e ∙ sym (ap (λ xs. capped level (2 * length xs)) is) },
              )
            where
              answer : (level ≡ bits) ⊎ (survivors level ≡ []) → ending cap survivors passed (suc more) level ≡ done level (passed level) (survivors level)
              answer (inl last) = absurd (not_last last)
              answer (inr nothing) = absurd (not_none nothing)

  same_last : (level other : ℕ) → IsLast bits cap survivors level → IsLast bits cap survivors other → level ≡ other
  same_last level other a b = elim (cases_lt level other) [
    | inl lower ↦ absurd (b.first level a.one_or_more lower a.stops)
    | inr not_lower ↦ elim (cases_lt other level) [
      | inl higher ↦ absurd (a.first other b.one_or_more higher b.stops)
      | inr not_higher ↦ omega arith
    ]
  ]

pub ending_law : EndingLaw
ending_law bits cap survivors passed some =
    let found = found_from bits cap survivors passed (bits - 1) 1 (omega (arith, some)) (omega arith) (λ earlier one lower stops. absurd (omega (arith, one, lower))) in
    record {
      somewhere = (found.0, found.1);
      nowhere_else = same_last bits cap survivors passed;
      there = λ level last. subst (λ l. EndsAt bits cap survivors passed l (ending cap survivors passed (bits - 1) 1))
          (same_last bits cap survivors passed found.0 level found.1 last) found.2;
    }

pub walk_end_law : WalkEndLaw
walk_end_law settings batch some =
    ending_law settings.bits settings.cap (survivors_at settings batch) (λ level. length (live_at settings batch level)) some
