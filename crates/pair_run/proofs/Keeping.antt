-- From what the walk of the first frontier leaves to the promise of a whole walk.
use Rattle.std.proofs.Common.{◌≡◌, ◌≤◌, ◌<◌, ◌^◌, ℕ, zero, suc, not, lit≤, Bool, true, false, List, [], ◌∷◌, length, refl, sym, ap, subst, arith}
use Rattle.std.specs.Prelude.{Option, None, Some, Result, Ok, Err, IfOk, IfErr, IfSome, if◌then◌else◌}
use Rattle.std.specs.Result.{IsErr, IsErrAnd}
use Rattle.std.specs.List.{filter}
use Rattle.std.proofs.lemmas.List.Filters.{length-filter_both}
use Rattle.definitions.specs.Field.{modulus}
use Rattle.shelf_io.specs.Faults.{Rose}
use Rattle.walk_definitions.specs.Reports.{Report}
use Rattle.walk_definitions.specs.Walk.{Settings, Heavy, End, ending, goes_on, stopped, walk, passes, live_at, stage_after, first_candidates}
use Rattle.walk_definitions.specs.Heavy.{heavy}
use Rattle.walk_definitions.specs.Laws.{AreGenerated, IsHonest}
use Rattle.walk_definitions.specs.Messages.{messages}
use Rattle.walk_definitions.proofs.Honest.{heavy_law}
use Rattle.frontier_walk.specs.Frontiers.{Frontier, first_frontier}
use Rattle.pair_run.specs.declared.answers.Answer.{Answer}
use Rattle.pair_run.specs.declared.answers.PairError.{PairError}
use Rattle.pair_run.specs.declared.answers.PairError.TheVariants.{Cap, Link, PeerMessage, Views, Memory}
use Rattle.pair_run.specs.Failures.{HasPairCause}
use Rattle.shelf_io.specs.Seen.{LinkSeen, IsTrueAndIdle, IsReady}
use Rattle.pair_run.specs.Keeps.{end_reached, IsOwnEnd, SentUpTo, WalkKeeps}
use Rattle.pair_run.specs.Steps.{IsAnswer}
use Rattle.pair_run.specs.Talking.{Passed}
use Rattle.pair_run.specs.Walks.{IsStage, EndsSo, TrulyEnds, IsUncapped}
use Rattle.pair_run.proofs.Exchanges.{sent_none}
use Rattle.pair_run.proofs.Followed.{if_ok}
use Rattle.pair_run.proofs.WalkSteps.{truly_whole}

-- ---- the walk by its definition has an answer or a cap

stopped_own : (level passed : ℕ) (found : List Heavy) → IsOwnEnd (stopped level passed found)
stopped_own level passed [] = tt
stopped_own level passed (h ∷ hs) = tt

ending_own : (cap : ℕ) (found : ℕ → List Heavy) (passed : ℕ → ℕ) (more level : ℕ) → IsOwnEnd (ending cap found passed more level)
unfolding ending
ending_own cap found passed zero level = tt
ending_own cap found passed (suc more) level =
    at (goes_on cap (found level)) (ending cap found passed more (suc level)) (ending_own cap found passed more (suc level))
  where
    at : (b : Bool) (rest : End) → IsOwnEnd rest → IsOwnEnd (if b then rest else stopped level (passed level) (found level))
    at true rest h = h
    at false rest h = stopped_own level (passed level) (found level)

pub walk_own : (settings : Settings) (batch : List Report) → IsOwnEnd (walk settings batch)
walk_own settings batch = ending_own _ _ _ _ _

-- ---- fewer than the modulus pass the first level

as_many : (bits : ℕ) (reports : List Report) (strings : List (List Bool)) → AreGenerated bits reports strings → length reports ≡ length strings
as_many bits [] [] h = refl
as_many bits [] (s ∷ ss) h = absurd h
as_many bits (r ∷ rs) [] h = absurd h
as_many bits (r ∷ rs) (s ∷ ss) h = ap suc (as_many bits rs ss h.2)

filter_few : {X : Type 0} (p : X → Bool) (xs : List X) → length (filter p xs) ≤ length xs
filter_few p xs = omega (arith, length-filter_both p (λ x. not (p x)) (λ x. refl) xs)

live_few : (settings : Settings) (reports : List Report) → length (live_at settings reports 1) ≤ length reports
unfolding stage_after
live_few settings reports = filter_few (passes settings 1 first_candidates) reports

below_modulus : {n : ℕ} → n < 2 ^ 27 → n < modulus
below_modulus {n} h = let most : 2 ^ 27 ≤ modulus = lit≤ tt in omega (arith, h, most)

-- reports that pass the first level and were generated are honest ones
are_honest : (settings : Settings) (batch : List Report) (strings : List (List Bool)) → 1 ≤ settings.bits → 1 ≤ settings.threshold → length batch < 2 ^ 27
    → AreGenerated settings.bits (live_at settings batch 1) strings → IsHonest settings batch strings
are_honest settings batch strings bits threshold few generated = record {
  some_bits = bits;
  some_threshold = threshold;
  generated = generated;
  few = below_modulus (omega (arith, few, as_many settings.bits (live_at settings batch 1) strings generated, live_few settings batch));
}

module _ (settings : Settings) (batch : List Report) (before after : LinkSeen) where
  -- the walk from its first level on, on a link that was true and idle
  abbrev EndsTruly : Option End → Type 0
  EndsTruly o = TrulyEnds settings batch (first_frontier settings.bits settings.cap) after.truth before.talk after.talk o

  true_end : (o : Option End) → EndsTruly o → IfSome o (λ end. (walk settings batch ≡ end) × IsOwnEnd end)
  true_end None h = tt
  true_end (Some end) h = (h.0, subst IsOwnEnd h.0 (walk_own settings batch))

  true_sends : (o : Option End) → EndsTruly o → SentUpTo o before.talk after.talk (messages settings batch)
  true_sends None h = h
  true_sends (Some end) h = h.2

  true_again : (o : Option End) → EndsTruly o → IfSome o (λ end. IsTrueAndIdle after)
  true_again None h = tt
  true_again (Some end) h = h.1

  true_answer : (result : Result Answer PairError) → EndsTruly (end_reached result) → (strings : List (List Bool)) → IsHonest settings batch strings
      → IfOk result (λ answer. (answer.passed ≡ length strings) × (answer.heavy ≡ heavy settings.bits strings settings.threshold))
  true_answer (Ok answer) h strings honest = (heavy_law settings batch strings honest).answer answer.levels answer.passed answer.heavy h.0
  true_answer (Err e) h strings honest = tt

  named_link : (result : Result Answer PairError) → HasPairCause before.faults after.faults result → result ≡ Err Link → Rose before.faults after.faults
  named_link (Ok answer) h is = absurd cc
  named_link (Err e) h is = h.link cc

  only_memory : (result : Result Answer PairError) → HasPairCause before.faults after.faults result → EndsTruly (end_reached result)
      → IsUncapped (walk settings batch) → (Rose before.faults after.faults → ⊥) → IfErr result (λ e. e ≡ Memory)
  only_memory (Ok answer) cause h uncapped firm = tt
  only_memory (Err (Cap level wanted)) cause h uncapped firm = absurd (subst IsUncapped h.0 uncapped)
  only_memory (Err Link) cause h uncapped firm = absurd (firm (cause.link refl))
  only_memory (Err (PeerMessage level kind at)) cause h uncapped firm = absurd (subst IsOwnEnd h.0 (walk_own settings batch))
  only_memory (Err (Views level kind place left right)) cause h uncapped firm = absurd (subst IsOwnEnd h.0 (walk_own settings batch))
  only_memory (Err Memory) cause h uncapped firm = refl

  pub walk_keeps : 1 ≤ settings.bits → 1 ≤ settings.threshold → length batch < 2 ^ 27 → (result : Result Answer PairError) (f : Frontier) (rs : List Report) → f ≡ first_frontier settings.bits settings.cap → rs ≡ batch
      → IfOk result (IsAnswer f batch)
      → IfSome (end_reached result) (λ end. Passed before.talk after.talk (EndsSo settings f rs end))
      → (IsReady before.truth before.talk → IsStage settings batch f rs → TrulyEnds settings batch f after.truth before.talk after.talk (end_reached result))
      → HasPairCause before.faults after.faults result
      → WalkKeeps settings batch before after result
  walk_keeps bits threshold few result f rs first all answer heard truly cause =
      let answers = subst (λ x. IfOk result (IsAnswer x batch)) first answer in
      let ends : IsTrueAndIdle before → EndsTruly (end_reached result)
      = λ ready. truly_whole settings batch f rs after.truth before.talk after.talk (end_reached result) first all (truly ready) in
      record {
        sealed = if_ok result _ _ (λ a h. h.0) answers;
        lengths = if_ok result _ _ (λ a h. h.1) answers;
        heard = subst (λ x. IfSome (end_reached result) (λ end. Passed before.talk after.talk (EndsSo settings x batch end))) first
            (subst (λ x. IfSome (end_reached result) (λ end. Passed before.talk after.talk (EndsSo settings f x end))) all heard);
        later = cause.later;
        cause = named_link result cause;
        truly = λ ready. true_end (end_reached result) (ends ready);
        sends = λ ready. true_sends (end_reached result) (ends ready);
        again = λ ready. true_again (end_reached result) (ends ready);
        honest = λ ready strings generated. true_answer result (ends ready) strings (are_honest settings batch strings bits threshold few generated);
        complete = λ ready. only_memory result cause (ends ready);
      }

-- want of memory before anything is sent
memory_keeps : (settings : Settings) (batch : List Report) (before : LinkSeen) → WalkKeeps settings batch before before (Err Memory)
memory_keeps settings batch before = record {
  sealed = tt;
  lengths = tt;
  heard = tt;
  later = omega arith;
  cause = λ e. absurd cc;
  truly = λ _. tt;
  sends = λ _. sent_none before.talk before.talk (messages settings batch) refl;
  again = λ _. tt;
  honest = λ _ _ _. tt;
  complete = λ _ _ _. refl;
}

pub no_memory_keeps : (settings : Settings) (batch : List Report) (before : LinkSeen) (result : Result Answer PairError)
    → IsErr result × IsErrAnd result (λ e. e ≡ Memory) → WalkKeeps settings batch before before result
no_memory_keeps settings batch before (Ok answer) h = let no = h.0 in absurd cc
no_memory_keeps settings batch before (Err e) h = subst (λ e. WalkKeeps settings batch before before (Err e)) (sym h.1) (memory_keeps settings batch before)
