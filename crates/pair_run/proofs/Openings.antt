-- The first part of a level, from the exchange of sums.
use Rattle.std.proofs.Common.{◌≡◌, ℕ, Bool, List, sym, ◌∙◌, ap, subst}
use Rattle.std.specs.Prelude.{map}
use Rattle.definitions.specs.declared.Side.TheVariants.{Zero, One}
use Rattle.definitions.specs.Sketch.{Sums, sums_added}
use Rattle.walk_definitions.specs.Reports.{Report}
use Rattle.walk_definitions.specs.Walk.{Settings, End, own_sums}
use Rattle.walk_definitions.specs.Messages.{Message, flat, both_send}
use Rattle.walk_definitions.specs.Heard.{preceded, paired, unflat}
use Rattle.peer_exchange.proofs.Flats.{unflat-flat}
use Rattle.pair_run.specs.Parts.{GoesOn, EndsThere, exchange, opening}

module _ (settings : Settings) (level : ℕ) (candidates : List (List Bool)) (live : List Report) where
  abbrev of_zero : List Sums
  of_zero = map (own_sums settings level candidates Zero) live

  abbrev of_one : List Sums
  of_one = map (own_sums settings level candidates One) live

  pub both_are : (own0 own1 : List Sums) → own0 ≡ of_zero → own1 ≡ of_one → both_send 1 level (flat own0) (flat own1) ≡ both_send 1 level (flat of_zero) (flat of_one)
  both_are own0 own1 e f = ap (λ o. both_send 1 level (flat o) (flat own1)) e ∙ ap (λ o. both_send 1 level (flat of_zero) (flat o)) f

  pub opening_goes : (own0 own1 to0 to1 opened0 opened1 : List Sums) (s : List Message) (z o : List ℕ) → own0 ≡ of_zero → own1 ≡ of_one
      → opened0 ≡ paired sums_added own0 to0 → opened1 ≡ paired sums_added own1 to1
      → GoesOn (exchange 1 level (flat own0) (flat own1)) (flat to0, flat to1) s z o
      → GoesOn (opening settings level candidates live) (opened0, opened1) s z o
  opening_goes own0 own1 to0 to1 opened0 opened1 s z o e f is0 is1 h =
      let same = subst (λ own. GoesOn (exchange 1 level (flat of_zero) (flat own)) (flat to0, flat to1) s z o) f
      (subst (λ own. GoesOn (exchange 1 level (flat own) (flat own1)) (flat to0, flat to1) s z o) e h) in
      λ rest0 rest1 next.
      same rest0 rest1 (λ to a b. next (paired sums_added of_zero (unflat to.0), paired sums_added of_one (unflat to.1)) a b)
      ∙ ap (preceded s)
      (ap (λ t. next (paired sums_added of_zero t, paired sums_added of_one (unflat (flat to1))) rest0 rest1) (unflat-flat to0)
      ∙ ap (λ t. next (paired sums_added of_zero to0, paired sums_added of_one t) rest0 rest1) (unflat-flat to1)
      ∙ ap (λ t. next (t, paired sums_added of_one to1) rest0 rest1) (ap (λ own. paired sums_added own to0) (sym e) ∙ sym is0)
      ∙ ap (λ t. next (opened0, t) rest0 rest1) (ap (λ own. paired sums_added own to1) (sym f) ∙ sym is1))

  pub opening_ends : (own0 own1 : List Sums) (end : End) (s : List Message) (z o : List ℕ) → own0 ≡ of_zero → own1 ≡ of_one
      → EndsThere (exchange 1 level (flat own0) (flat own1)) end s z o → EndsThere (opening settings level candidates live) end s z o
  opening_ends own0 own1 end s z o e f h =
      let same = subst (λ own. EndsThere (exchange 1 level (flat of_zero) (flat own)) end s z o) f
      (subst (λ own. EndsThere (exchange 1 level (flat own) (flat own1)) end s z o) e h) in
      λ next. same (λ to a b. next (paired sums_added of_zero (unflat to.0), paired sums_added of_one (unflat to.1)) a b)
