-- A level from its three parts, as it is heard, and on a true link.
use Rattle.std.proofs.Common.{◌≡◌, ℕ, Bool, List, ◌++◌, refl, sym, ◌∙◌, ap, subst}
use Rattle.std.specs.Prelude.{Option, map}
use Rattle.definitions.specs.declared.Side.{Side}
use Rattle.definitions.specs.declared.Side.TheVariants.{Zero, One}
use Rattle.definitions.specs.Field.{add}
use Rattle.definitions.specs.Sketch.{Sums, sums_added}
use Rattle.shelf_io.specs.Talks.{Talk}
use Rattle.walk_definitions.specs.Reports.{Report}
use Rattle.walk_definitions.specs.Walk.{Settings, End, own_sums, opened, own_total, total, live_after}
use Rattle.walk_definitions.specs.Messages.{Message, flat, both_send, sigmas_of, totals_of, level_messages}
use Rattle.walk_definitions.specs.Heard.{paired, kept, sigmas, heard_level}
use Rattle.walk_definitions.proofs.TrueLink.{paired-maps, opened_is, opened_too, sigmas_are, live_is}
use Rattle.pair_run.specs.declared.answers.PairError.{PairError}
use Rattle.pair_run.specs.Failures.{Stops}
use Rattle.pair_run.specs.Levels.{stage_of}
use Rattle.pair_run.specs.Parts.{Part, GoesOn, EndsThere, followed, opening, checking, totalling, whole_level}
use Rattle.pair_run.specs.Talking.{Passed, SentMore, SentPart}
use Rattle.pair_run.proofs.Followed.{passed_map, passed_followed, stops_first, stops_second, stops_as, sent_then, part_first, part_second}

module _ (settings : Settings) (level : ℕ) (candidates : List (List Bool)) (live : List Report) where
  -- ---- as it is heard

  abbrev last : List Report → Part (List Report × List ℕ)
  last passed got0 got1 next = totalling level candidates passed got0 got1 (λ totals a b. next (passed, totals) a b)

  abbrev check : List Sums × List Sums → Part (List Report)
  check opened got0 got1 next = checking level live opened got0 got1 next

  abbrev behind_opening : List Sums × List Sums → Part (List Report × List ℕ)
  behind_opening opened got0 got1 next = followed (check opened) last got0 got1 next

  abbrev first_part : Part (List Sums × List Sums)
  first_part got0 got1 next = opening settings level candidates live got0 got1 next

  abbrev whole : Part (List Report × List ℕ)
  whole got0 got1 next = whole_level settings level candidates live got0 got1 next

  whole_goes : (x : List Report × List ℕ) (s : List Message) (z o : List ℕ) → GoesOn (followed first_part behind_opening) x s z o → GoesOn whole x s z o
  unfolding heard_level
  whole_goes x s z o h = λ rest0 rest1 next. h rest0 rest1 next

  whole_ends : (end : End) (s : List Message) (z o : List ℕ) → EndsThere (followed first_part behind_opening) end s z o → EndsThere whole end s z o
  unfolding heard_level
  whole_ends end s z o h = λ next. h next

  last_goes : (passed : List Report) (totals : List ℕ) (s : List Message) (z o : List ℕ) → GoesOn (totalling level candidates passed) totals s z o
      → GoesOn (last passed) (passed, totals) s z o
  last_goes passed totals s z o h = λ rest0 rest1 next. h rest0 rest1 (λ totals a b. next (passed, totals) a b)

  last_ends : (passed : List Report) (end : End) (s : List Message) (z o : List ℕ) → EndsThere (totalling level candidates passed) end s z o
      → EndsThere (last passed) end s z o
  last_ends passed end s z o h = λ next. h (λ totals a b. next (passed, totals) a b)

  pub level_goes : (t0 t1 t2 t3 : Option Talk) (opened : List Sums × List Sums) (passed : List Report) (totals : List ℕ)
      → Passed t0 t1 (GoesOn (opening settings level candidates live) opened) → Passed t1 t2 (GoesOn (checking level live opened) passed)
      → Passed t2 t3 (GoesOn (totalling level candidates passed) totals) → Passed t0 t3 (GoesOn (whole_level settings level candidates live) (passed, totals))
  level_goes t0 t1 t2 t3 opened passed totals first second third =
      passed_map t0 t3 (GoesOn (followed first_part behind_opening) (passed, totals)) (GoesOn whole (passed, totals)) (whole_goes (passed, totals))
      (passed_followed first_part behind_opening t0 t1 t3 opened (passed, totals) first
      (passed_followed (check opened) last t1 t2 t3 passed (passed, totals) second
      (passed_map t2 t3 (GoesOn (totalling level candidates passed) totals) (GoesOn (last passed) (passed, totals)) (last_goes passed totals) third)))

  as_whole : (t0 t1 : Option Talk) (e : PairError) → Stops (followed first_part behind_opening) t0 t1 e → Stops (whole_level settings level candidates live) t0 t1 e
  as_whole t0 t1 e h = stops_as (followed first_part behind_opening) whole t0 t1 e whole_ends h

  pub level_stops_first : (t0 t1 : Option Talk) (e : PairError) → Stops (opening settings level candidates live) t0 t1 e
      → Stops (whole_level settings level candidates live) t0 t1 e
  level_stops_first t0 t1 e h = as_whole t0 t1 e (stops_first first_part behind_opening t0 t1 e h)

  pub level_stops_second : (t0 t1 t2 : Option Talk) (opened : List Sums × List Sums) (e : PairError)
      → Passed t0 t1 (GoesOn (opening settings level candidates live) opened) → Stops (checking level live opened) t1 t2 e
      → Stops (whole_level settings level candidates live) t0 t2 e
  level_stops_second t0 t1 t2 opened e first h =
      as_whole t0 t2 e (stops_second first_part behind_opening t0 t1 t2 opened e first (stops_first (check opened) last t1 t2 e h))

  pub level_stops_third : (t0 t1 t2 t3 : Option Talk) (opened : List Sums × List Sums) (passed : List Report) (e : PairError)
      → Passed t0 t1 (GoesOn (opening settings level candidates live) opened) → Passed t1 t2 (GoesOn (checking level live opened) passed)
      → Stops (totalling level candidates passed) t2 t3 e → Stops (whole_level settings level candidates live) t0 t3 e
  level_stops_third t0 t1 t2 t3 opened passed e first second h =
      as_whole t0 t3 e (stops_second first_part behind_opening t0 t1 t3 opened e first
      (stops_second (check opened) last t1 t2 t3 passed e second (stops_as (totalling level candidates passed) (last passed) t2 t3 e (last_ends passed) h)))

module _ (settings : Settings) (level : ℕ) (candidates : List (List Bool)) (live : List Report) where
  -- ---- on a true link

  abbrev stage_here : Side → List Sums
  stage_here side = map (own_sums settings level candidates side) live

  abbrev opened_here : List Sums
  opened_here = map (opened settings level candidates) live

  abbrev passed_here : List Report
  passed_here = live_after settings level (stage_of live candidates)

  sigmas_here : (side : Side) (ops : List Sums) → ops ≡ opened_here → sigmas level side live ops ≡ sigmas_of settings level (stage_of live candidates) side
  sigmas_here side ops e = ap (sigmas level side live) e ∙ sigmas_are settings level (stage_of live candidates) side

  both_sigmas : (opened0 opened1 : List Sums) → opened0 ≡ paired sums_added (stage_here Zero) (stage_here One) → opened1 ≡ paired sums_added (stage_here One) (stage_here Zero)
      → both_send 2 level (sigmas level Zero live opened0) (sigmas level One live opened1)
      ≡ both_send 2 level (sigmas_of settings level (stage_of live candidates) Zero) (sigmas_of settings level (stage_of live candidates) One)
  both_sigmas opened0 opened1 e f =
      ap (λ a. both_send 2 level a (sigmas level One live opened1)) (sigmas_here Zero opened0 (e ∙ opened_is settings level (stage_of live candidates)))
      ∙ ap (λ b. both_send 2 level (sigmas_of settings level (stage_of live candidates) Zero) b) (sigmas_here One opened1 (f ∙ opened_too settings level (stage_of live candidates)))

  pub passed_is : (opened0 opened1 : List Sums) (passed : List Report)
      → opened0 ≡ paired sums_added (stage_here Zero) (stage_here One) → opened1 ≡ paired sums_added (stage_here One) (stage_here Zero)
      → passed ≡ kept live (paired add (sigmas level Zero live opened0) (sigmas level One live opened1)) → passed ≡ passed_here
  passed_is opened0 opened1 passed e f g =
      g ∙ ap (λ a. kept live (paired add a (sigmas level One live opened1))) (sigmas_here Zero opened0 (e ∙ opened_is settings level (stage_of live candidates)))
      ∙ ap (λ b. kept live (paired add (sigmas_of settings level (stage_of live candidates) Zero) b)) (sigmas_here One opened1 (f ∙ opened_too settings level (stage_of live candidates)))
      ∙ live_is settings level (stage_of live candidates)

  pub totals_are : (passed : List Report) (totals : List ℕ) → passed ≡ passed_here
      → totals ≡ paired add (map (own_total passed Zero) candidates) (map (own_total passed One) candidates) → totals ≡ map (total passed_here) candidates
  totals_are passed totals e f =
      f ∙ paired-maps add (own_total passed Zero) (own_total passed One) candidates ∙ ap (λ rs. map (total rs) candidates) e

  both_totals : (passed : List Report) → passed ≡ passed_here → both_send 3 level (map (own_total passed Zero) candidates) (map (own_total passed One) candidates)
      ≡ both_send 3 level (totals_of settings level (stage_of live candidates) Zero) (totals_of settings level (stage_of live candidates) One)
  both_totals passed e = ap (λ rs. both_send 3 level (map (own_total rs Zero) candidates) (map (own_total rs One) candidates)) e

  abbrev sums_sent : List Message
  sums_sent = both_send 1 level (flat (stage_here Zero)) (flat (stage_here One))

  abbrev sigmas_sent : List Message
  sigmas_sent = both_send 2 level (sigmas_of settings level (stage_of live candidates) Zero) (sigmas_of settings level (stage_of live candidates) One)

  abbrev totals_sent : List Message
  totals_sent = both_send 3 level (totals_of settings level (stage_of live candidates) Zero) (totals_of settings level (stage_of live candidates) One)

  all_sent : level_messages settings level (stage_of live candidates) ≡ sums_sent ++ (sigmas_sent ++ totals_sent)
  unfolding level_messages
  all_sent = refl

  pub level_sent : (t0 t1 t2 t3 : Option Talk) (opened0 opened1 : List Sums) (passed : List Report)
      → opened0 ≡ paired sums_added (stage_here Zero) (stage_here One) → opened1 ≡ paired sums_added (stage_here One) (stage_here Zero) → passed ≡ passed_here
      → SentMore t0 t1 sums_sent → SentMore t1 t2 (both_send 2 level (sigmas level Zero live opened0) (sigmas level One live opened1))
      → SentMore t2 t3 (both_send 3 level (map (own_total passed Zero) candidates) (map (own_total passed One) candidates))
      → SentMore t0 t3 (level_messages settings level (stage_of live candidates))
  level_sent t0 t1 t2 t3 opened0 opened1 passed e f g first second third =
      subst (SentMore t0 t3) (sym all_sent)
      (sent_then t0 t1 t3 sums_sent (sigmas_sent ++ totals_sent) first
      (sent_then t1 t2 t3 sigmas_sent totals_sent (subst (SentMore t1 t2) (both_sigmas opened0 opened1 e f) second) (subst (SentMore t2 t3) (both_totals passed g) third)))

  pub part_one : (t0 t1 : Option Talk) → SentPart t0 t1 sums_sent → SentPart t0 t1 (level_messages settings level (stage_of live candidates))
  part_one t0 t1 h = subst (SentPart t0 t1) (sym all_sent) (part_first t0 t1 sums_sent (sigmas_sent ++ totals_sent) h)

  pub part_two : (t0 t1 t2 : Option Talk) (opened0 opened1 : List Sums)
      → opened0 ≡ paired sums_added (stage_here Zero) (stage_here One) → opened1 ≡ paired sums_added (stage_here One) (stage_here Zero)
      → SentMore t0 t1 sums_sent → SentPart t1 t2 (both_send 2 level (sigmas level Zero live opened0) (sigmas level One live opened1))
      → SentPart t0 t2 (level_messages settings level (stage_of live candidates))
  part_two t0 t1 t2 opened0 opened1 e f first second =
      subst (SentPart t0 t2) (sym all_sent)
      (part_second t0 t1 t2 sums_sent (sigmas_sent ++ totals_sent) first
      (part_first t1 t2 sigmas_sent totals_sent (subst (SentPart t1 t2) (both_sigmas opened0 opened1 e f) second)))

  pub part_three : (t0 t1 t2 t3 : Option Talk) (opened0 opened1 : List Sums) (passed : List Report)
      → opened0 ≡ paired sums_added (stage_here Zero) (stage_here One) → opened1 ≡ paired sums_added (stage_here One) (stage_here Zero) → passed ≡ passed_here
      → SentMore t0 t1 sums_sent → SentMore t1 t2 (both_send 2 level (sigmas level Zero live opened0) (sigmas level One live opened1))
      → SentPart t2 t3 (both_send 3 level (map (own_total passed Zero) candidates) (map (own_total passed One) candidates))
      → SentPart t0 t3 (level_messages settings level (stage_of live candidates))
  part_three t0 t1 t2 t3 opened0 opened1 passed e f g first second third =
      subst (SentPart t0 t3) (sym all_sent)
      (part_second t0 t1 t3 sums_sent (sigmas_sent ++ totals_sent) first
      (part_second t1 t2 t3 sigmas_sent totals_sent (subst (SentMore t1 t2) (both_sigmas opened0 opened1 e f) second) (subst (SentPart t2 t3) (both_totals passed g) third)))
