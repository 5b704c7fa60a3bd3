-- What a run's answer says of the status, of out, of err and of the link.
use Rattle.std.proofs.Common.{◌≡◌, ◌≤◌, ◌⊎◌, inl, inr, ℕ, true, List, [], ◌∷◌, ◌++◌, Option, None, Some, take, refl, sym, subst, ap, ◌∙◌, arith, append-nil}
use Rattle.std.specs.Prelude.{Result, Ok, Err, IfOk, IfSome, IsOk, IsTrue}
use Rattle.shelf_io.specs.Faults.{Rose}
use Rattle.shelf_io.specs.Files.{Files}
use Rattle.shelf_io.specs.Talks.{Talk}
use Rattle.shelf_io.specs.Texts.{Grew, GrewWithin}
use Rattle.share_format.specs.declared.file_error.FileError.TheVariants as files
use Rattle.shelf_io.specs.Seen.{LinkSeen, IsTrueAndIdle, Outside, sources_of}
use Rattle.pair_run.specs.Talking.{SentPart}
use Rattle.pair_run.specs.declared.answers.PairError.TheVariants as walks
use Rattle.walk_definitions.specs.Reports.{Report}
use Rattle.walk_definitions.specs.Walk.{Settings, walk}
use Rattle.walk_definitions.specs.Messages.{Message, messages}
use Rattle.file_run.specs.declared.errors.RunError.{RunError}
use Rattle.file_run.specs.declared.errors.RunError.TheVariants as runs
use Rattle.file_run.specs.declared.texts.RunTexts.{RunTexts}
use Rattle.file_run.specs.Beginnings.{Both, settings_for, batch_for}
use Rattle.file_run.specs.Answers.{Ending, Answer, run_answer, Answered, Begins, FindsHeavy, IsShelfFault, IsOfTheWalk}
use Rattle.file_run.specs.Hearings.{heard_ending}
use Rattle.file_run.specs.Keeps.{RunKeeps}
use Rattle.file_run.specs.Sendings.{SentWhole, SentFront, SentBy, IsUnsent}
use Rattle.file_run.proofs.WalkSteps.{front}
use Rattle.command_words.specs.Settings.{RunSettings, run_words}
use Rattle.poplar_top.specs.declared.stop.Stop.TheVariants as stops
use Rattle.poplar_top.specs.Outcomes.Outcome.{texts, untold_run, unheard}
use Rattle.poplar_top.specs.RunOutcomes.{run_refused, answered, unheard_answer, rules_asked, files_asked, run_told, run_settled, go_together, run_walks}
use Rattle.poplar_top.specs.RunLinks.{WalkSends, FilesSend, RunSends, FilesFind, FindsIn, RunFinds}
use Rattle.poplar_top.specs.Commands.{runs as the_run}
use Rattle.poplar_top.specs.Keeps.{Meets, IsLater, KeepsOf}
use Rattle.poplar_top.specs.RunStops.{run_stop}
use Rattle.poplar_top.specs.Statuses.{MayStand, Prints, ErrGets, OutFirst, asks_shelf}
use Rattle.poplar_top.specs.Stops.{StopFits, stop_status, stop_line}
use Rattle.poplar_top.proofs.KeptSteps.{shelf_kept}
use Rattle.poplar_top.proofs.MeetSteps.{MayStop, MayPrint, Wrote, still_later, may_stop, may_print, stop_meets, written_meets, stop_other, wrote_other}
use Rattle.poplar_top.proofs.TopSteps.{fault_status}

-- ---- errors as reasons to stop

shelf_stop : (e : RunError) → run_stop e ≡ stops.Shelf → IsShelfFault e
shelf_stop (runs.File side files.Missing) h = cc
shelf_stop (runs.File side (files.TooLong size)) h = cc
shelf_stop (runs.File side (files.Header at)) h = cc
shelf_stop (runs.File side (files.Cut at)) h = cc
shelf_stop (runs.File side files.Shelf) h = refl
shelf_stop (runs.File side files.Memory) h = cc
shelf_stop (runs.Widths zero one) h = cc
shelf_stop (runs.Walk (walks.Cap level wanted)) h = cc
shelf_stop (runs.Walk walks.Link) h = cc
shelf_stop (runs.Walk (walks.PeerMessage level kind at)) h = cc
shelf_stop (runs.Walk (walks.Views level kind place left right)) h = cc
shelf_stop (runs.Walk walks.Memory) h = cc
shelf_stop runs.Memory h = cc

link_stop : (e : RunError) → run_stop e ≡ stops.Link → e ≡ runs.Walk walks.Link
link_stop (runs.File side files.Missing) h = cc
link_stop (runs.File side (files.TooLong size)) h = cc
link_stop (runs.File side (files.Header at)) h = cc
link_stop (runs.File side (files.Cut at)) h = cc
link_stop (runs.File side files.Shelf) h = cc
link_stop (runs.File side files.Memory) h = cc
link_stop (runs.Widths zero one) h = cc
link_stop (runs.Walk (walks.Cap level wanted)) h = cc
link_stop (runs.Walk walks.Link) h = refl
link_stop (runs.Walk (walks.PeerMessage level kind at)) h = cc
link_stop (runs.Walk (walks.Views level kind place left right)) h = cc
link_stop (runs.Walk walks.Memory) h = cc
link_stop runs.Memory h = cc

-- an error's reason is the refusal that the error is
own_fits : (e : RunError) → StopFits (run_refused e) (run_stop e)
own_fits (runs.File side files.Missing) = refl
own_fits (runs.File side (files.TooLong size)) = refl
own_fits (runs.File side (files.Header at)) = refl
own_fits (runs.File side (files.Cut at)) = refl
own_fits (runs.File side files.Shelf) = tt
own_fits (runs.File side files.Memory) = tt
own_fits (runs.Widths zero one) = refl
own_fits (runs.Walk (walks.Cap level wanted)) = refl
own_fits (runs.Walk walks.Link) = tt
own_fits (runs.Walk (walks.PeerMessage level kind at)) = refl
own_fits (runs.Walk (walks.Views level kind place left right)) = refl
own_fits (runs.Walk walks.Memory) = tt
own_fits runs.Memory = tt

run_fits : (e : RunError) (defined : Answer) → Answered (Err e) defined → StopFits (answered defined) (run_stop e)
run_fits e defined (inr h) = subst (λ d. StopFits (answered d) (run_stop e)) (sym h) (own_fits e)
run_fits (runs.File side files.Missing) defined (inl h) = absurd h
run_fits (runs.File side (files.TooLong size)) defined (inl h) = absurd h
run_fits (runs.File side (files.Header at)) defined (inl h) = absurd h
run_fits (runs.File side (files.Cut at)) defined (inl h) = absurd h
run_fits (runs.File side files.Shelf) defined (inl h) = tt
run_fits (runs.File side files.Memory) defined (inl h) = tt
run_fits (runs.Widths zero one) defined (inl h) = absurd h
run_fits (runs.Walk (walks.Cap level wanted)) defined (inl h) = absurd h
run_fits (runs.Walk walks.Link) defined (inl h) = tt
run_fits (runs.Walk (walks.PeerMessage level kind at)) defined (inl h) = absurd h
run_fits (runs.Walk (walks.Views level kind place left right)) defined (inl h) = absurd h
run_fits (runs.Walk walks.Memory) defined (inl h) = tt
run_fits runs.Memory defined (inl h) = tt

-- the shelf is asked in every run
refused_asks : (e : RunError) → IsTrue (asks_shelf (run_refused e))
refused_asks (runs.File side files.Missing) = refl
refused_asks (runs.File side (files.TooLong size)) = refl
refused_asks (runs.File side (files.Header at)) = refl
refused_asks (runs.File side (files.Cut at)) = refl
refused_asks (runs.File side files.Shelf) = refl
refused_asks (runs.File side files.Memory) = refl
refused_asks (runs.Widths zero one) = refl
refused_asks (runs.Walk (walks.Cap level wanted)) = refl
refused_asks (runs.Walk walks.Link) = refl
refused_asks (runs.Walk (walks.PeerMessage level kind at)) = refl
refused_asks (runs.Walk (walks.Views level kind place left right)) = refl
refused_asks (runs.Walk walks.Memory) = refl
refused_asks runs.Memory = refl

answered_asks : (a : Answer) → IsTrue (asks_shelf (answered a))
answered_asks (Ok written) = refl
answered_asks (Err e) = refused_asks e

-- ---- the status of an error

-- files that come to an error
abbrev failed : RunError → Result Both RunError
failed e = Err e

-- a failed link is named only where there was a walk
link_together : (e : RunError) (found : Result Both RunError) → Begins {X = RunTexts} (Err e) found → e ≡ runs.Walk walks.Link → IsTrue (go_together found)
link_together e (Ok both) begins h = refl
link_together e (Err x) begins h = absurd (at (subst (λ y. Begins {X = RunTexts} (Err y) (Err x)) h begins))
  where
    at : IsOk (failed x) → ⊥
    at h = cc

same_fits : (x y : RunError) → failed x ≡ failed y → StopFits (run_refused x) (run_stop y)
same_fits x y h = let is : x ≡ y = cc in subst (λ z. StopFits (run_refused z) (run_stop y)) (sym is) (own_fits y)

-- files that come to an error stop for that
unheard_fits : (x e : RunError) → Begins {X = RunTexts} (Err e) (failed x) → StopFits (run_refused x) (run_stop e)
unheard_fits x (runs.File side files.Missing) (inl h) = absurd h
unheard_fits x (runs.File side (files.TooLong size)) (inl h) = absurd h
unheard_fits x (runs.File side (files.Header at)) (inl h) = absurd h
unheard_fits x (runs.File side (files.Cut at)) (inl h) = absurd h
unheard_fits x (runs.File side files.Shelf) (inl h) = tt
unheard_fits x (runs.File side files.Memory) (inl h) = tt
unheard_fits x (runs.File side error) (inr h) = same_fits x (runs.File side error) h
unheard_fits x (runs.Widths zero one) h = same_fits x (runs.Widths zero one) h
unheard_fits x (runs.Walk error) h = absurd cc
unheard_fits x runs.Memory h = tt

unheard_status : (e : RunError) (found : Result Both RunError) (S R K : Type 0) → Begins {X = RunTexts} (Err e) found → (IsShelfFault e → S)
    → (e ≡ runs.Walk walks.Link → R) → MayStand (unheard_answer found) S (IsTrue (go_together found) × R) K (stop_status (run_stop e))
unheard_status e (Err x) S R K begins shelf link =
    fault_status (run_refused x) (run_stop e) S _ K (refused_asks x) (unheard_fits x e begins) (λ h. shelf (shelf_stop e h))
    (λ h. (link_together e (Err x) begins (link_stop e h), link (link_stop e h)))
unheard_status (runs.File side files.Missing) (Ok both) S R K (inl h) shelf link = absurd h
unheard_status (runs.File side (files.TooLong size)) (Ok both) S R K (inl h) shelf link = absurd h
unheard_status (runs.File side (files.Header at)) (Ok both) S R K (inl h) shelf link = absurd h
unheard_status (runs.File side (files.Cut at)) (Ok both) S R K (inl h) shelf link = absurd h
unheard_status (runs.File side files.Shelf) (Ok both) S R K (inl h) shelf link = inr (inl (refl, refl, shelf refl))
unheard_status (runs.File side files.Memory) (Ok both) S R K (inl h) shelf link = inr (inr (inr (inr refl)))
unheard_status (runs.File side error) (Ok both) S R K (inr h) shelf link = absurd cc
unheard_status (runs.Widths zero one) (Ok both) S R K h shelf link = absurd cc
unheard_status (runs.Walk (walks.Cap level wanted)) (Ok both) S R K begins shelf link = inl (inr (inl refl))
unheard_status (runs.Walk walks.Link) (Ok both) S R K begins shelf link = inr (inr (inl (refl, (refl, link refl))))
unheard_status (runs.Walk (walks.PeerMessage level kind at)) (Ok both) S R K begins shelf link = inl (inr (inr refl))
unheard_status (runs.Walk (walks.Views level kind place left right)) (Ok both) S R K begins shelf link = inl (inr (inr refl))
unheard_status (runs.Walk walks.Memory) (Ok both) S R K begins shelf link = inr (inr (inr (inr refl)))
unheard_status runs.Memory (Ok both) S R K begins shelf link = inr (inr (inr (inr refl)))

untold_status : (e : RunError) (S R K : Type 0) → (IsShelfFault e → S) → (e ≡ runs.Walk walks.Link → R)
    → MayStand untold_run S (IsTrue true × R) K (stop_status (run_stop e))
untold_status (runs.File side files.Missing) S R K shelf link = inl (inr (inl refl))
untold_status (runs.File side (files.TooLong size)) S R K shelf link = inl (inr (inl refl))
untold_status (runs.File side (files.Header at)) S R K shelf link = inl (inr (inl refl))
untold_status (runs.File side (files.Cut at)) S R K shelf link = inl (inr (inl refl))
untold_status (runs.File side files.Shelf) S R K shelf link = inr (inl (refl, refl, shelf refl))
untold_status (runs.File side files.Memory) S R K shelf link = inr (inr (inr (inr refl)))
untold_status (runs.Widths zero one) S R K shelf link = inl (inr (inr (inl refl)))
untold_status (runs.Walk (walks.Cap level wanted)) S R K shelf link = inl (inr (inr (inr (inl refl))))
untold_status (runs.Walk walks.Link) S R K shelf link = inr (inr (inl (refl, (refl, link refl))))
untold_status (runs.Walk (walks.PeerMessage level kind at)) S R K shelf link = inl (inr (inr (inr (inr refl))))
untold_status (runs.Walk (walks.Views level kind place left right)) S R K shelf link = inl (inr (inr (inr (inr refl))))
untold_status (runs.Walk walks.Memory) S R K shelf link = inr (inr (inr (inr refl)))
untold_status runs.Memory S R K shelf link = inr (inr (inr (inr refl)))

module _ (settings : RunSettings) where
  -- what is known of an answer, where the files are told
  abbrev pub Known : Option Ending → Option Files → Result RunTexts RunError → Type 0
  Known ending told result = IfSome told (λ held. IfSome ending (λ e. Answered result (run_answer e (rules_asked settings) (files_asked settings held))))

  abbrev pub Begun : Option Files → Result RunTexts RunError → Type 0
  Begun told result = IfSome told (λ held. Begins result (files_asked settings held))

  pub error_status : (ending : Option Ending) (told : Option Files) (e : RunError) (S R K : Type 0) → Begun told (Err e) → Known ending told (Err e)
      → (IsShelfFault e → S) → (e ≡ runs.Walk walks.Link → R)
      → MayStand (run_told ending settings told) S (IsTrue (run_walks (Some settings) told) × R) K (stop_status (run_stop e))
  error_status ending None e S R K begins known shelf link = untold_status e S R K shelf link
  error_status None (Some held) e S R K begins known shelf link = unheard_status e (files_asked settings held) S R K begins shelf link
  error_status (Some ending) (Some held) e S R K begins known shelf link =
      let found = files_asked settings held in
      let defined = run_answer ending (rules_asked settings) found in
      fault_status (answered defined) (run_stop e) S _ K (answered_asks defined) (run_fits e defined known) (λ h. shelf (shelf_stop e h))
      (λ h. (link_together e found begins (link_stop e h), link (link_stop e h)))

  -- the reason is the outcome's, or the outcome is not told
  error_stops : (ending : Option Ending) (told : Option Files) (e : RunError) → Begun told (Err e) → Known ending told (Err e)
      → MayStop (run_told ending settings told) (run_stop e)
  error_stops ending None e begun known = tt
  error_stops None (Some held) e begun known = at (files_asked settings held) begun
    where
      at : (found : Result Both RunError) → Begins {X = RunTexts} (Err e) found → MayStop (unheard_answer found) (run_stop e)
      at (Ok both) begun = tt
      at (Err x) begun = may_stop (run_refused x) (run_stop e) (unheard_fits x e begun)
  error_stops (Some ending) (Some held) e begun known =
      let defined = run_answer ending (rules_asked settings) (files_asked settings held) in
      may_stop (answered defined) (run_stop e) (run_fits e defined known)

-- ---- texts

-- files of which texts come go together
together : (written : RunTexts) (found : Result Both RunError) → Begins (Ok written) found → unheard_answer found ≡ unheard
together written (Ok both) h = refl
together written (Err e) h = absurd (at h)
  where
    at : IsOk (failed e) → ⊥
    at h = cc

module _ (settings : RunSettings) (written : RunTexts) where
  -- the outcome is the texts, or is not told
  texts_print : (ending : Option Ending) (told : Option Files) → Begun settings told (Ok written) → Known settings ending told (Ok written)
      → MayPrint (run_told ending settings told) written.out.items written.err.items
  texts_print ending None begun known = tt
  texts_print None (Some held) begun known =
      subst (λ o. MayPrint o written.out.items written.err.items) (sym (together written (files_asked settings held) begun)) tt
  texts_print (Some ending) (Some held) begun known =
      may_print (answered (run_answer ending (rules_asked settings) (files_asked settings held))) written.out.items written.err.items (ap answered known)

  -- ---- honest reports

  found_heavy : (found : Result Both RunError) (before after : Outside) (status : ℕ)
      → IfOk found (λ both. IfOk {E = RunError} (Ok written) (FindsHeavy (rules_asked settings) both))
      → Prints before.out.taken after.out.taken written.out.items status → ErrGets (texts written.out.items written.err.items) status before.err.taken after.err.taken
      → FilesFind settings found before after status
  found_heavy (Err e) before after status honest out err = tt
  found_heavy (Ok both) before after status honest out err = λ zero strings generated.
      let is = honest strings generated in (
        subst (Grew before.out.taken after.out.taken) is.0 (out.whole zero),
        (is.1.0, subst (Grew before.err.taken after.err.taken) is.1.1 (err.whole zero)),
      )

  pub texts_find : (told : Option Files) (before after : Outside) (status : ℕ)
      → IfSome told (λ held. IfOk (files_asked settings held) (λ both. IfOk {E = RunError} (Ok written) (FindsHeavy (rules_asked settings) both)))
      → Prints before.out.taken after.out.taken written.out.items status → ErrGets (texts written.out.items written.err.items) status before.err.taken after.err.taken
      → FindsIn settings told before after status
  texts_find None before after status honest out err = tt
  texts_find (Some held) before after status honest out err =
      found_heavy (files_asked settings held) before after status honest out err

-- an error finds nothing
no_find : (settings : RunSettings) (found : Result Both RunError) (before after : Outside) (e : RunError)
    → FilesFind settings found before after (stop_status (run_stop e))
no_find settings (Ok both) before after e = λ zero strings generated. absurd (stop_other (run_stop e) zero)
no_find settings (Err error) before after e = tt

pub error_finds : (settings : RunSettings) (told : Option Files) (before after : Outside) (e : RunError)
    → FindsIn settings told before after (stop_status (run_stop e))
error_finds settings None before after e = tt
error_finds settings (Some held) before after e = no_find settings (files_asked settings held) before after e

-- ---- what passes on the link

-- a walk is not begun of files that come to an error
no_begin : (x : RunError) → IsOk (failed x) → ⊥
no_begin x h = cc

none : (status : ℕ) → (status ≡ 3) ⊎ ((status ≡ 4) ⊎ (status ≡ 6)) → (status ≡ 3 → ⊥) → (status ≡ 4 → ⊥) → (status ≡ 6 → ⊥) → ⊥
none status (inl h) three four six = three h
none status (inr (inl h)) three four six = four h
none status (inr (inr h)) three four six = six h

three : {status : ℕ} {K : Type 0} → Wrote status K → status ≡ 3 → ⊥
three wrote = wrote_other 3 (λ n. omega (arith, n)) (λ n. omega (arith, n)) (λ n. omega (arith, n)) wrote

four : {status : ℕ} {K : Type 0} → Wrote status K → status ≡ 4 → ⊥
four wrote = wrote_other 4 (λ n. omega (arith, n)) (λ n. omega (arith, n)) (λ n. omega (arith, n)) wrote

six : {status : ℕ} {K : Type 0} → Wrote status K → status ≡ 6 → ⊥
six wrote = wrote_other 6 (λ n. omega (arith, n)) (λ n. omega (arith, n)) (λ n. omega (arith, n)) wrote

-- where nothing passed, at no status of a walk's end
pub quiet_sends : (sets : Settings) (reports : List Report) (before after : LinkSeen) (status : ℕ) → after.talk ≡ before.talk
    → ((status ≡ 0) ⊎ ((status ≡ 5) ⊎ ((status ≡ 9) ⊎ (status ≡ 10))) → ⊥) → WalkSends sets reports before after status
quiet_sends sets reports before after status same other = record {
  whole = λ h. absurd (other h);
  front = λ _ ready. subst (λ t. SentPart before.talk t (messages sets reports)) (sym same) (none before.talk);
  nothing = λ _. same;
}
  where
    none : (talk : Option Talk) → SentPart talk talk (messages sets reports)
    none None = (0, tt)
    none (Some talk) = (0, sym (append-nil talk.sent) ∙ ap (λ ms. talk.sent ++ ms) (sym (first (messages sets reports))))
      where
        first : (ms : List Message) → take 0 ms ≡ []
        first [] = refl
        first (m ∷ ms) = refl

-- such statuses
pub unsent_sends : (sets : Settings) (reports : List Report) (before after : LinkSeen) (status : ℕ) → after.talk ≡ before.talk
    → (status ≡ 3) ⊎ ((status ≡ 4) ⊎ ((status ≡ 6) ⊎ (status ≡ 8))) → WalkSends sets reports before after status
unsent_sends sets reports before after status same is = quiet_sends sets reports before after status same (at is)
  where
    at : (status ≡ 3) ⊎ ((status ≡ 4) ⊎ ((status ≡ 6) ⊎ (status ≡ 8))) → (status ≡ 0) ⊎ ((status ≡ 5) ⊎ ((status ≡ 9) ⊎ (status ≡ 10))) → ⊥
    at (inl a) (inl b) = omega (arith, a, b)
    at (inl a) (inr (inl b)) = omega (arith, a, b)
    at (inl a) (inr (inr (inl b))) = omega (arith, a, b)
    at (inl a) (inr (inr (inr b))) = omega (arith, a, b)
    at (inr (inl a)) (inl b) = omega (arith, a, b)
    at (inr (inl a)) (inr (inl b)) = omega (arith, a, b)
    at (inr (inl a)) (inr (inr (inl b))) = omega (arith, a, b)
    at (inr (inl a)) (inr (inr (inr b))) = omega (arith, a, b)
    at (inr (inr (inl a))) (inl b) = omega (arith, a, b)
    at (inr (inr (inl a))) (inr (inl b)) = omega (arith, a, b)
    at (inr (inr (inl a))) (inr (inr (inl b))) = omega (arith, a, b)
    at (inr (inr (inl a))) (inr (inr (inr b))) = omega (arith, a, b)
    at (inr (inr (inr a))) (inl b) = omega (arith, a, b)
    at (inr (inr (inr a))) (inr (inl b)) = omega (arith, a, b)
    at (inr (inr (inr a))) (inr (inr (inl b))) = omega (arith, a, b)
    at (inr (inr (inr a))) (inr (inr (inr b))) = omega (arith, a, b)

-- where the walk came to its end
pub ended_sends : (sets : Settings) (reports : List Report) (before after : LinkSeen) (status : ℕ)
    → SentWhole sets reports before after → (status ≡ 6 → ⊥) → WalkSends sets reports before after status
ended_sends sets reports before after status h other = record {
  whole = λ _. h;
  front = λ _. front sets reports before after h;
  nothing = λ six. absurd (other six);
}

-- where it did not
pub stopped_sends : (sets : Settings) (reports : List Report) (before after : LinkSeen) (status : ℕ)
    → SentFront sets reports before after → (status ≡ 7) ⊎ (status ≡ 8) → WalkSends sets reports before after status
stopped_sends sets reports before after status h is = record {
  whole = λ other. absurd (at is other);
  front = λ _. h;
  nothing = λ six. absurd (six_not is six);
}
  where
    at : (status ≡ 7) ⊎ (status ≡ 8) → (status ≡ 0) ⊎ ((status ≡ 5) ⊎ ((status ≡ 9) ⊎ (status ≡ 10))) → ⊥
    at (inl a) (inl b) = omega (arith, a, b)
    at (inl a) (inr (inl b)) = omega (arith, a, b)
    at (inl a) (inr (inr (inl b))) = omega (arith, a, b)
    at (inl a) (inr (inr (inr b))) = omega (arith, a, b)
    at (inr a) (inl b) = omega (arith, a, b)
    at (inr a) (inr (inl b)) = omega (arith, a, b)
    at (inr a) (inr (inr (inl b))) = omega (arith, a, b)
    at (inr a) (inr (inr (inr b))) = omega (arith, a, b)

    six_not : (status ≡ 7) ⊎ (status ≡ 8) → status ≡ 6 → ⊥
    six_not (inl a) six = omega (arith, a, six)
    six_not (inr a) six = omega (arith, a, six)

module _ (settings : RunSettings) (before after : LinkSeen) where
  -- what an error sent, where the files come to these lists
  both_send : (both : Both) (e : RunError) → SentBy (rules_asked settings) both before after (Err e)
      → WalkSends (settings_for (rules_asked settings) both.0.width) (batch_for both) before after (stop_status (run_stop e))
  both_send both (runs.File side files.Missing) h = unsent_sends _ _ before after 3 h (inl refl)
  both_send both (runs.File side (files.TooLong size)) h = unsent_sends _ _ before after 3 h (inl refl)
  both_send both (runs.File side (files.Header at)) h = unsent_sends _ _ before after 3 h (inl refl)
  both_send both (runs.File side (files.Cut at)) h = unsent_sends _ _ before after 3 h (inl refl)
  both_send both (runs.File side files.Shelf) h = unsent_sends _ _ before after 6 h (inr (inr (inl refl)))
  both_send both (runs.File side files.Memory) h = unsent_sends _ _ before after 8 h (inr (inr (inr refl)))
  both_send both (runs.Widths zero one) h = unsent_sends _ _ before after 4 h (inr (inl refl))
  both_send both (runs.Walk (walks.Cap level wanted)) h = ended_sends _ _ before after 5 h (λ six. omega (arith, six))
  both_send both (runs.Walk walks.Link) h = stopped_sends _ _ before after 7 h (inl refl)
  both_send both (runs.Walk (walks.PeerMessage level kind at)) h = ended_sends _ _ before after 9 h (λ six. omega (arith, six))
  both_send both (runs.Walk (walks.Views level kind place left right)) h = ended_sends _ _ before after 9 h (λ six. omega (arith, six))
  both_send both (runs.Walk walks.Memory) h = stopped_sends _ _ before after 8 h (inr refl)
  both_send both runs.Memory h = stopped_sends _ _ before after 8 h (inr refl)

  -- nothing passed where the files come to an error
  error_unsent : (x e : RunError) → Begins {X = RunTexts} (Err e) (failed x) → IsUnsent before.talk after.talk (Err e) → after.talk ≡ before.talk
  error_unsent x (runs.File side error) begins h = h
  error_unsent x (runs.Widths zero one) begins h = h
  error_unsent x (runs.Walk error) begins h = absurd (no_begin x begins)
  error_unsent x runs.Memory begins h = absurd (no_begin x begins)

  found_send : (found : Result Both RunError) (e : RunError) → Begins {X = RunTexts} (Err e) found
      → IfOk found (λ both. SentBy (rules_asked settings) both before after (Err e)) → IsUnsent before.talk after.talk (Err e)
      → FilesSend settings found before after (stop_status (run_stop e))
  found_send (Ok both) e begins sent unsent = both_send both e sent
  found_send (Err x) e begins sent unsent = error_unsent x e begins unsent

  untold_send : (e : RunError) → IsUnsent before.talk after.talk (Err e) → (stop_status (run_stop e) ≡ 3) ⊎ ((stop_status (run_stop e) ≡ 4) ⊎ (stop_status (run_stop e) ≡ 6)) → after.talk ≡ before.talk
  untold_send (runs.File side error) h is = h
  untold_send (runs.Widths zero one) h is = h
  untold_send (runs.Walk (walks.Cap level wanted)) h is = absurd (none 5 is (λ n. omega (arith, n)) (λ n. omega (arith, n)) (λ n. omega (arith, n)))
  untold_send (runs.Walk walks.Link) h is = absurd (none 7 is (λ n. omega (arith, n)) (λ n. omega (arith, n)) (λ n. omega (arith, n)))
  untold_send (runs.Walk (walks.PeerMessage level kind at)) h is = absurd (none 9 is (λ n. omega (arith, n)) (λ n. omega (arith, n)) (λ n. omega (arith, n)))
  untold_send (runs.Walk (walks.Views level kind place left right)) h is = absurd (none 9 is (λ n. omega (arith, n)) (λ n. omega (arith, n)) (λ n. omega (arith, n)))
  untold_send (runs.Walk walks.Memory) h is = absurd (none 8 is (λ n. omega (arith, n)) (λ n. omega (arith, n)) (λ n. omega (arith, n)))
  untold_send runs.Memory h is = absurd (none 8 is (λ n. omega (arith, n)) (λ n. omega (arith, n)) (λ n. omega (arith, n)))

  pub error_sends : (told : Option Files) (e : RunError) → Begun settings told (Err e)
      → IfSome told (λ held. IfOk (files_asked settings held) (λ both. SentBy (rules_asked settings) both before after (Err e)))
      → IsUnsent before.talk after.talk (Err e) → RunSends (Some settings) told before after (stop_status (run_stop e))
  error_sends None e begins sent unsent = untold_send e unsent
  error_sends (Some held) e begins sent unsent = found_send (files_asked settings held) e begins sent unsent

  texts_found : (found : Result Both RunError) (written : RunTexts) (status : ℕ) → Begins (Ok written) found
      → IfOk found (λ both. SentBy (rules_asked settings) both before after (Ok written)) → (status ≡ 6 → ⊥)
      → FilesSend settings found before after status
  texts_found (Ok both) written status begins sent other = ended_sends _ _ before after status sent other
  texts_found (Err x) written status begins sent other = absurd (no_begin x begins)

  pub texts_send : (told : Option Files) (written : RunTexts) (status : ℕ) (K : Type 0) → Wrote status K → Begun settings told (Ok written)
      → IfSome told (λ held. IfOk (files_asked settings held) (λ both. SentBy (rules_asked settings) both before after (Ok written)))
      → RunSends (Some settings) told before after status
  texts_send None written status K wrote begins sent = λ is. absurd (none status is (three wrote) (four wrote) (six wrote))
  texts_send (Some held) written status K wrote begins sent = texts_found (files_asked settings held) written status begins sent (six wrote)

-- ---- the promise of `run`

-- a status of a walk that agreed is not 9
nine_not : (e : RunError) → IsOfTheWalk e → stop_status (run_stop e) ≡ 9 → ⊥
nine_not (runs.File side files.Missing) own h = omega (arith, h)
nine_not (runs.File side (files.TooLong size)) own h = omega (arith, h)
nine_not (runs.File side (files.Header at)) own h = omega (arith, h)
nine_not (runs.File side (files.Cut at)) own h = omega (arith, h)
nine_not (runs.File side files.Shelf) own h = omega (arith, h)
nine_not (runs.File side files.Memory) own h = omega (arith, h)
nine_not (runs.Widths zero one) own h = omega (arith, h)
nine_not (runs.Walk (walks.Cap level wanted)) own h = omega (arith, h)
nine_not (runs.Walk walks.Link) own h = omega (arith, h)
nine_not (runs.Walk (walks.PeerMessage level kind at)) own h = own
nine_not (runs.Walk (walks.Views level kind place left right)) own h = own
nine_not (runs.Walk walks.Memory) own h = omega (arith, h)
nine_not runs.Memory own h = omega (arith, h)

module _ (words : List (List ℕ)) (settings : RunSettings) (given : Some settings ≡ run_words words) (before after : Outside) where
  -- what is met by the settings that the words give
  abbrev MeetsRun : Option Ending → ℕ → Type 0
  MeetsRun ending status = Meets (run_told ending settings before.shelf.files) (run_walks (Some settings) before.shelf.files) before after status

  keeps : (status : ℕ) → MeetsRun (heard_ending before.link.talk after.link.talk) status
      → RunSends (Some settings) before.shelf.files before.link after.link status → after.shelf.files ≡ before.shelf.files → IsLater before after
      → (IsTrueAndIdle before.link → MeetsRun (Some walk) status) → (IsTrueAndIdle before.link → status ≡ 9 → ⊥)
      → (IsTrueAndIdle before.link → RunFinds (Some settings) before after status) → KeepsOf the_run words before after status
  keeps status heard sends kept later truly agreed finds = record {
    heard = subst (λ s. Meets (run_settled (heard_ending before.link.talk after.link.talk) s before.shelf.files) (run_walks s before.shelf.files) before after status) given heard;
    sends = subst (λ s. RunSends s before.shelf.files before.link after.link status) given sends;
    kept = kept;
    later = later;
    truly = λ ready. subst (λ s. Meets (run_settled (Some walk) s before.shelf.files) (run_walks s before.shelf.files) before after status) given (truly ready);
    agreed = agreed;
    finds = λ ready. subst (λ s. RunFinds s before after status) given (finds ready);
  }

  pub error_keeps : (e : RunError) → RunKeeps settings.zero settings.one (rules_asked settings) (sources_of before) (sources_of after) (Err e)
      → after.out ≡ before.out → GrewWithin before.err.taken after.err.taken (stop_line (run_stop e)) → before.err.faults ≤ after.err.faults
      → KeepsOf the_run words before after (stop_status (run_stop e))
  error_keeps e k same line later =
      keeps (stop_status (run_stop e)) (meets (heard_ending before.link.talk after.link.talk) k.heard)
      (error_sends settings before.link after.link before.shelf.files e k.begins k.sent k.unsent) k.kept
      (record { shelf = k.shelf.later; out = still_later before.out after.out same; err = later; link = k.link.later })
      (λ ready. meets (Some walk) (k.truly ready)) (λ ready. nine_not e (k.agreed ready)) (λ ready. error_finds settings before.shelf.files before after e)
    where
      meets : (ending : Option Ending) → Known settings ending before.shelf.files (Err e) → MeetsRun ending (stop_status (run_stop e))
      meets ending known =
          let o = run_told ending settings before.shelf.files in
          stop_meets o (run_walks (Some settings) before.shelf.files) before after (run_stop e) (error_stops settings ending before.shelf.files e k.begins known)
          (error_status settings ending before.shelf.files e _ _ _ k.begins known k.shelf.rose k.link.rose) same line
          (shelf_kept o (stop_status (run_stop e)) before.shelf.files after.shelf.files (stop_other (run_stop e)) k.kept)

  pub texts_keep : (written : RunTexts) (status : ℕ) → RunKeeps settings.zero settings.one (rules_asked settings) (sources_of before) (sources_of after) (Ok written)
      → Wrote status (Rose before.out.faults after.out.faults ⊎ Rose before.err.faults after.err.faults)
      → Prints before.out.taken after.out.taken written.out.items status
      → ErrGets (texts written.out.items written.err.items) status before.err.taken after.err.taken
      → OutFirst (texts written.out.items written.err.items) status before.out after.out before.err after.err
      → before.out.faults ≤ after.out.faults → before.err.faults ≤ after.err.faults
      → KeepsOf the_run words before after status
  texts_keep written status k wrote out err first out_later err_later =
      keeps status (meets (heard_ending before.link.talk after.link.talk) k.heard)
      (texts_send settings before.link after.link before.shelf.files written status _ wrote k.begins k.sent) k.kept
      (record { shelf = k.shelf.later; out = out_later; err = err_later; link = k.link.later })
      (λ ready. meets (Some walk) (k.truly ready)) (λ ready. wrote_other 9 (λ n. omega (arith, n)) (λ n. omega (arith, n)) (λ n. omega (arith, n)) wrote)
      (λ ready. texts_find settings written before.shelf.files before after status (k.honest ready) out err)
    where
      meets : (ending : Option Ending) → Known settings ending before.shelf.files (Ok written) → MeetsRun ending status
      meets ending known =
          written_meets (run_walks (Some settings) before.shelf.files) before after status written.out.items written.err.items wrote out err first k.kept
          (run_told ending settings before.shelf.files) (texts_print settings written ending before.shelf.files k.begins known)
