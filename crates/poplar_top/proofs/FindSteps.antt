-- What the answer of a search says of the status, of out, of err and of the link; and how `find` and `make` keep their promises.
use Rattle.std.proofs.Common.{◌≡◌, ◌≤◌, ◌⊎◌, inl, inr, ℕ, Bool, true, List, Option, None, Some, refl, sym, subst, ap, arith}
use Rattle.std.specs.Prelude.{Result, Ok, Err, IfOk, IfSome, IsOk, IsTrue}
use Rattle.shelf_io.specs.Faults.{Rose}
use Rattle.shelf_io.specs.Files.{Files}
use Rattle.shelf_io.specs.Seen.{LinkSeen, IsTrueAndIdle, Outside, sources_of}
use Rattle.shelf_io.specs.Texts.{Grew, GrewWithin}
use Rattle.text_strings.specs.declared.lines_error.LinesError.TheVariants as lines
use Rattle.pair_run.specs.declared.answers.PairError.TheVariants as walks
use Rattle.walk_definitions.specs.Walk.{walk}
use Rattle.answer_text.specs.AnswerText.{answer_text}
use Rattle.file_gen.specs.declared.errors.GenError.{GenError}
use Rattle.file_gen.specs.declared.errors.GenError.TheVariants as gens
use Rattle.file_gen.specs.Answers.{Answer as Strings}
use Rattle.file_run.specs.declared.texts.RunTexts.{RunTexts}
use Rattle.file_run.specs.Answers.{Ending}
use Rattle.file_run.specs.Hearings.{heard_ending}
use Rattle.file_find.specs.declared.errors.FindError.{FindError}
use Rattle.file_find.specs.declared.errors.FindError.TheVariants as errors
use Rattle.file_find.specs.declared.rules.FindRules.{FindRules}
use Rattle.file_find.specs.Answers.{Text, Answer, find_answer, Answered, Begins, Finds, IsFault, IsShelfFault, IsAgreed, IsWithoutFile}
use Rattle.file_find.specs.Keeps.{WalksOver, FindKeeps, MakeKeeps}
use Rattle.file_find.specs.Sendings.{SentBy, IsUnsent}
use Rattle.file_find.specs.Texts.{summary_text}
use Rattle.file_find.specs.Walks.{settings_for, reports_for}
use Rattle.command_words.specs.Settings.{FindSettings, MakeSettings, find_words, make_words}
use Rattle.poplar_top.specs.declared.stop.Stop.TheVariants as stops
use Rattle.poplar_top.specs.Commands.{finds, makes}
use Rattle.poplar_top.specs.FindLinks.{SearchSends, FindSends, MakeSends, HeavyFound, SearchFinds, FindFindsIn, FindFinds, MakeFinds}
use Rattle.poplar_top.specs.FindOutcomes.{strings_refused, find_refused, search_answered, unheard_search, search_outcome, are_found, find_rules, find_strings, find_told, find_settled, find_walks, make_rules, make_strings, make_settled, make_walks}
use Rattle.poplar_top.specs.FindStops.{find_stop}
use Rattle.poplar_top.specs.Keeps.{Meets, IsLater, KeepsOf}
use Rattle.poplar_top.specs.Outcomes.{Outcome}
use Rattle.poplar_top.specs.Outcomes.Outcome.{texts, untold_find, unheard}
use Rattle.poplar_top.specs.RunLinks.{WalkSends}
use Rattle.poplar_top.specs.Statuses.{MayStand, Prints, ErrGets, OutFirst, asks_shelf}
use Rattle.poplar_top.specs.Stops.{StopFits, stop_status, stop_line}
use Rattle.poplar_top.proofs.GenSteps.{error_shelf}
use Rattle.poplar_top.proofs.KeptSteps.{shelf_kept}
use Rattle.poplar_top.proofs.MeetSteps.{MayStop, MayPrint, Wrote, still_later, may_stop, may_print, stop_meets, written_meets, stop_other, wrote_other}
use Rattle.poplar_top.proofs.RunSteps.{quiet_sends, ended_sends, stopped_sends}
use Rattle.poplar_top.proofs.TopSteps.{fault_status}

-- ---- errors as reasons to stop

shelf_stop : (e : FindError) → find_stop e ≡ stops.Shelf → IsShelfFault e
shelf_stop (errors.Strings e) h = error_shelf e h
shelf_stop (errors.Walk (walks.Cap level wanted)) h = cc
shelf_stop (errors.Walk walks.Link) h = cc
shelf_stop (errors.Walk (walks.PeerMessage level kind at)) h = cc
shelf_stop (errors.Walk (walks.Views level kind place left right)) h = cc
shelf_stop (errors.Walk walks.Memory) h = cc
shelf_stop errors.Memory h = cc

link_stop : (e : FindError) → find_stop e ≡ stops.Link → e ≡ errors.Walk walks.Link
link_stop (errors.Strings gens.Missing) h = cc
link_stop (errors.Strings gens.TooLong) h = cc
link_stop (errors.Strings (gens.Lines (lines.TooMany count))) h = cc
link_stop (errors.Strings (gens.Lines (lines.LineLong line))) h = cc
link_stop (errors.Strings (gens.Lines (lines.ZeroByte line))) h = cc
link_stop (errors.Strings (gens.Lines lines.Memory)) h = cc
link_stop (errors.Strings gens.Shelf) h = cc
link_stop (errors.Strings gens.Memory) h = cc
link_stop (errors.Walk (walks.Cap level wanted)) h = cc
link_stop (errors.Walk walks.Link) h = refl
link_stop (errors.Walk (walks.PeerMessage level kind at)) h = cc
link_stop (errors.Walk (walks.Views level kind place left right)) h = cc
link_stop (errors.Walk walks.Memory) h = cc
link_stop errors.Memory h = cc

-- a fault of the outside fits every outcome
fault_fits : (e : FindError) (o : Outcome) → IsFault e → StopFits o (find_stop e)
fault_fits (errors.Strings gens.Missing) o h = absurd h
fault_fits (errors.Strings gens.TooLong) o h = absurd h
fault_fits (errors.Strings (gens.Lines (lines.TooMany count))) o h = absurd h
fault_fits (errors.Strings (gens.Lines (lines.LineLong line))) o h = absurd h
fault_fits (errors.Strings (gens.Lines (lines.ZeroByte line))) o h = absurd h
fault_fits (errors.Strings (gens.Lines lines.Memory)) o h = tt
fault_fits (errors.Strings gens.Shelf) o h = tt
fault_fits (errors.Strings gens.Memory) o h = tt
fault_fits (errors.Walk (walks.Cap level wanted)) o h = absurd h
fault_fits (errors.Walk walks.Link) o h = tt
fault_fits (errors.Walk (walks.PeerMessage level kind at)) o h = absurd h
fault_fits (errors.Walk (walks.Views level kind place left right)) o h = absurd h
fault_fits (errors.Walk walks.Memory) o h = tt
fault_fits errors.Memory o h = tt

-- an error's reason is the refusal that the error is
own_fits : (e : FindError) → StopFits (find_refused e) (find_stop e)
own_fits (errors.Strings gens.Missing) = refl
own_fits (errors.Strings gens.TooLong) = refl
own_fits (errors.Strings (gens.Lines (lines.TooMany count))) = refl
own_fits (errors.Strings (gens.Lines (lines.LineLong line))) = refl
own_fits (errors.Strings (gens.Lines (lines.ZeroByte line))) = refl
own_fits (errors.Strings (gens.Lines lines.Memory)) = tt
own_fits (errors.Strings gens.Shelf) = tt
own_fits (errors.Strings gens.Memory) = tt
own_fits (errors.Walk (walks.Cap level wanted)) = refl
own_fits (errors.Walk walks.Link) = tt
own_fits (errors.Walk (walks.PeerMessage level kind at)) = refl
own_fits (errors.Walk (walks.Views level kind place left right)) = refl
own_fits (errors.Walk walks.Memory) = tt
own_fits errors.Memory = tt

answer_fits : (e : FindError) (defined : Answer) → Answered (Err e) defined → StopFits (search_answered defined) (find_stop e)
answer_fits e defined (inl fault) = fault_fits e (search_answered defined) fault
answer_fits e defined (inr is) = subst (λ d. StopFits (search_answered d) (find_stop e)) (sym is) (own_fits e)

-- the shelf counts as asked in every search
strings_ask : (e : GenError) → IsTrue (asks_shelf (strings_refused e))
strings_ask gens.Missing = refl
strings_ask gens.TooLong = refl
strings_ask (gens.Lines (lines.TooMany count)) = refl
strings_ask (gens.Lines (lines.LineLong line)) = refl
strings_ask (gens.Lines (lines.ZeroByte line)) = refl
strings_ask (gens.Lines lines.Memory) = refl
strings_ask gens.Shelf = refl
strings_ask gens.Memory = refl

refused_asks : (e : FindError) → IsTrue (asks_shelf (find_refused e))
refused_asks (errors.Strings e) = strings_ask e
refused_asks (errors.Walk (walks.Cap level wanted)) = refl
refused_asks (errors.Walk walks.Link) = refl
refused_asks (errors.Walk (walks.PeerMessage level kind at)) = refl
refused_asks (errors.Walk (walks.Views level kind place left right)) = refl
refused_asks (errors.Walk walks.Memory) = refl
refused_asks errors.Memory = refl

answer_asks : (a : Answer) → IsTrue (asks_shelf (search_answered a))
answer_asks (Ok written) = refl
answer_asks (Err e) = refused_asks e

-- ---- the status of an error

-- strings that are refused
abbrev refused : GenError → Strings
refused e = Err e

none_there : (x : GenError) → IsOk (refused x) → ⊥
none_there x h = cc

-- a failed link is named only where there were strings
link_found : (e : FindError) (found : Strings) → Begins (Err e) found → e ≡ errors.Walk walks.Link → IsTrue (are_found found)
link_found e (Ok strings) begins h = refl
link_found e (Err x) begins h = absurd (none_there x (subst (λ y. Begins (Err y) (refused x)) h begins))

-- refused strings stop for that
unheard_fits : (x : GenError) (e : FindError) → Begins (Err e) (refused x) → StopFits (strings_refused x) (find_stop e)
unheard_fits x (errors.Strings e) (inl fault) = fault_fits (errors.Strings e) (strings_refused x) fault
unheard_fits x (errors.Strings e) (inr h) =
    let is : x ≡ e = cc in
    subst (λ z. StopFits (strings_refused z) (find_stop (errors.Strings e))) (sym is) (own_fits (errors.Strings e))
unheard_fits x (errors.Walk e) h = absurd (none_there x h)
unheard_fits x errors.Memory h = absurd (none_there x h)

strings_status : (e : GenError) (strings : List (List Bool)) (S R K : Type 0) → Begins (Err (errors.Strings e)) (Ok strings)
    → (e ≡ gens.Shelf → S) → MayStand unheard S (IsTrue true × R) K (stop_status (find_stop (errors.Strings e)))
strings_status gens.Missing strings S R K (inl h) shelf = absurd h
strings_status gens.TooLong strings S R K (inl h) shelf = absurd h
strings_status (gens.Lines (lines.TooMany count)) strings S R K (inl h) shelf = absurd h
strings_status (gens.Lines (lines.LineLong line)) strings S R K (inl h) shelf = absurd h
strings_status (gens.Lines (lines.ZeroByte line)) strings S R K (inl h) shelf = absurd h
strings_status (gens.Lines lines.Memory) strings S R K (inl h) shelf = inr (inr (inr (inr refl)))
strings_status gens.Shelf strings S R K (inl h) shelf = inr (inl (refl, refl, shelf refl))
strings_status gens.Memory strings S R K (inl h) shelf = inr (inr (inr (inr refl)))
strings_status e strings S R K (inr h) shelf = absurd cc

unheard_status : (e : FindError) (strings : List (List Bool)) (S R K : Type 0) → Begins (Err e) (Ok strings) → (IsShelfFault e → S)
    → (e ≡ errors.Walk walks.Link → R) → MayStand unheard S (IsTrue true × R) K (stop_status (find_stop e))
unheard_status (errors.Strings e) strings S R K begins shelf link = strings_status e strings S R K begins shelf
unheard_status (errors.Walk (walks.Cap level wanted)) strings S R K begins shelf link = inl (inr (inl refl))
unheard_status (errors.Walk walks.Link) strings S R K begins shelf link = inr (inr (inl (refl, (refl, link refl))))
unheard_status (errors.Walk (walks.PeerMessage level kind at)) strings S R K begins shelf link = inl (inr (inr refl))
unheard_status (errors.Walk (walks.Views level kind place left right)) strings S R K begins shelf link = inl (inr (inr refl))
unheard_status (errors.Walk walks.Memory) strings S R K begins shelf link = inr (inr (inr (inr refl)))
unheard_status errors.Memory strings S R K begins shelf link = inr (inr (inr (inr refl)))

untold_status : (e : FindError) (S R K : Type 0) → (IsShelfFault e → S) → (e ≡ errors.Walk walks.Link → R)
    → MayStand untold_find S (IsTrue true × R) K (stop_status (find_stop e))
untold_status (errors.Strings gens.Missing) S R K shelf link = inl (inr (inr (inr refl)))
untold_status (errors.Strings gens.TooLong) S R K shelf link = inl (inr (inr (inr refl)))
untold_status (errors.Strings (gens.Lines (lines.TooMany count))) S R K shelf link = inl (inr (inr (inr refl)))
untold_status (errors.Strings (gens.Lines (lines.LineLong line))) S R K shelf link = inl (inr (inr (inr refl)))
untold_status (errors.Strings (gens.Lines (lines.ZeroByte line))) S R K shelf link = inl (inr (inr (inr refl)))
untold_status (errors.Strings (gens.Lines lines.Memory)) S R K shelf link = inr (inr (inr (inr refl)))
untold_status (errors.Strings gens.Shelf) S R K shelf link = inr (inl (refl, refl, shelf refl))
untold_status (errors.Strings gens.Memory) S R K shelf link = inr (inr (inr (inr refl)))
untold_status (errors.Walk (walks.Cap level wanted)) S R K shelf link = inl (inr (inl refl))
untold_status (errors.Walk walks.Link) S R K shelf link = inr (inr (inl (refl, (refl, link refl))))
untold_status (errors.Walk (walks.PeerMessage level kind at)) S R K shelf link = inl (inr (inr (inl refl)))
untold_status (errors.Walk (walks.Views level kind place left right)) S R K shelf link = inl (inr (inr (inl refl)))
untold_status (errors.Walk walks.Memory) S R K shelf link = inr (inr (inr (inr refl)))
untold_status errors.Memory S R K shelf link = inr (inr (inr (inr refl)))

module _ (text : Text) (rules : FindRules) where
  -- what is known of an answer, where the link tells
  abbrev pub Known : Option Ending → Strings → Result RunTexts FindError → Type 0
  Known ending found result = IfSome ending (λ way. Answered result (find_answer text way rules found))

  search_status : (ending : Option Ending) (found : Strings) (e : FindError) (S R K : Type 0) → Begins (Err e) found
      → Known ending found (Err e) → (IsShelfFault e → S) → (e ≡ errors.Walk walks.Link → R)
      → MayStand (search_outcome text ending rules found) S (IsTrue (are_found found) × R) K (stop_status (find_stop e))
  search_status None (Ok strings) e S R K begins known shelf link = unheard_status e strings S R K begins shelf link
  search_status None (Err x) e S R K begins known shelf link =
      fault_status (strings_refused x) (find_stop e) S _ K (strings_ask x) (unheard_fits x e begins) (λ h. shelf (shelf_stop e h))
      (λ h. (link_found e (Err x) begins (link_stop e h), link (link_stop e h)))
  search_status (Some way) found e S R K begins known shelf link =
      let defined = find_answer text way rules found in
      fault_status (search_answered defined) (find_stop e) S _ K (answer_asks defined) (answer_fits e defined known) (λ h. shelf (shelf_stop e h))
      (λ h. (link_found e found begins (link_stop e h), link (link_stop e h)))

  -- the reason is the outcome's, or the outcome is not told
  search_stops : (ending : Option Ending) (found : Strings) (e : FindError) → Begins (Err e) found → Known ending found (Err e)
      → MayStop (search_outcome text ending rules found) (find_stop e)
  search_stops None (Ok strings) e begins known = tt
  search_stops None (Err x) e begins known = may_stop (strings_refused x) (find_stop e) (unheard_fits x e begins)
  search_stops (Some way) found e begins known =
      let defined = find_answer text way rules found in
      may_stop (search_answered defined) (find_stop e) (answer_fits e defined known)

  -- the outcome is the texts, or is not told
  search_prints : (ending : Option Ending) (found : Strings) (written : RunTexts) → Begins (Ok written) found
      → Known ending found (Ok written) → MayPrint (search_outcome text ending rules found) written.out.items written.err.items
  search_prints None (Ok strings) written begins known = tt
  search_prints None (Err x) written begins known = absurd (none_there x begins)
  search_prints (Some way) found written begins known =
      may_print (search_answered (find_answer text way rules found)) written.out.items written.err.items (ap search_answered known)

-- ---- what passes on the link

not_whole : (n : ℕ) → (n ≡ 0 → ⊥) → (n ≡ 5 → ⊥) → (n ≡ 9 → ⊥) → (n ≡ 10 → ⊥) → (n ≡ 0) ⊎ ((n ≡ 5) ⊎ ((n ≡ 9) ⊎ (n ≡ 10))) → ⊥
not_whole n zero five nine ten (inl h) = zero h
not_whole n zero five nine ten (inr (inl h)) = five h
not_whole n zero five nine ten (inr (inr (inl h))) = nine h
not_whole n zero five nine ten (inr (inr (inr h))) = ten h

six_or_more : (n : ℕ) → (n ≡ 6) ⊎ ((n ≡ 8) ⊎ (n ≡ 11)) → (n ≡ 0) ⊎ ((n ≡ 5) ⊎ ((n ≡ 9) ⊎ (n ≡ 10))) → ⊥
six_or_more n (inl is) = not_whole n (λ e. omega (arith, e, is)) (λ e. omega (arith, e, is)) (λ e. omega (arith, e, is)) (λ e. omega (arith, e, is))
six_or_more n (inr (inl is)) = not_whole n (λ e. omega (arith, e, is)) (λ e. omega (arith, e, is)) (λ e. omega (arith, e, is)) (λ e. omega (arith, e, is))
six_or_more n (inr (inr is)) = not_whole n (λ e. omega (arith, e, is)) (λ e. omega (arith, e, is)) (λ e. omega (arith, e, is)) (λ e. omega (arith, e, is))

module _ (rules : FindRules) (before after : LinkSeen) where
  refused_send : (e : GenError) (strings : List (List Bool)) → after.talk ≡ before.talk
      → WalkSends (settings_for rules) (reports_for rules strings) before after (stop_status (find_stop (errors.Strings e)))
  refused_send gens.Missing strings h = quiet_sends _ _ before after 11 h (six_or_more 11 (inr (inr refl)))
  refused_send gens.TooLong strings h = quiet_sends _ _ before after 11 h (six_or_more 11 (inr (inr refl)))
  refused_send (gens.Lines (lines.TooMany count)) strings h = quiet_sends _ _ before after 11 h (six_or_more 11 (inr (inr refl)))
  refused_send (gens.Lines (lines.LineLong line)) strings h = quiet_sends _ _ before after 11 h (six_or_more 11 (inr (inr refl)))
  refused_send (gens.Lines (lines.ZeroByte line)) strings h = quiet_sends _ _ before after 11 h (six_or_more 11 (inr (inr refl)))
  refused_send (gens.Lines lines.Memory) strings h = quiet_sends _ _ before after 8 h (six_or_more 8 (inr (inl refl)))
  refused_send gens.Shelf strings h = quiet_sends _ _ before after 6 h (six_or_more 6 (inl refl))
  refused_send gens.Memory strings h = quiet_sends _ _ before after 8 h (six_or_more 8 (inr (inl refl)))

  -- what an error sent, where there are strings
  strings_send : (strings : List (List Bool)) (e : FindError) → SentBy rules strings before after (Err e)
      → WalkSends (settings_for rules) (reports_for rules strings) before after (stop_status (find_stop e))
  strings_send strings (errors.Strings e) h = refused_send e strings h
  strings_send strings (errors.Walk (walks.Cap level wanted)) h = ended_sends _ _ before after 5 h (λ six. omega (arith, six))
  strings_send strings (errors.Walk walks.Link) h = stopped_sends _ _ before after 7 h (inl refl)
  strings_send strings (errors.Walk (walks.PeerMessage level kind at)) h = ended_sends _ _ before after 9 h (λ six. omega (arith, six))
  strings_send strings (errors.Walk (walks.Views level kind place left right)) h = ended_sends _ _ before after 9 h (λ six. omega (arith, six))
  strings_send strings (errors.Walk walks.Memory) h = stopped_sends _ _ before after 8 h (inr refl)
  strings_send strings errors.Memory h = stopped_sends _ _ before after 8 h (inr refl)

  -- nothing passed where there are none
  error_unsent : (x : GenError) (e : FindError) → Begins (Err e) (refused x) → IsUnsent before.talk after.talk (Err e) → after.talk ≡ before.talk
  error_unsent x (errors.Strings error) begins h = h
  error_unsent x (errors.Walk error) begins h = absurd (none_there x begins)
  error_unsent x errors.Memory begins h = absurd (none_there x begins)

  error_send : (found : Strings) (e : FindError) → Begins (Err e) found → IfOk found (λ strings. SentBy rules strings before after (Err e))
      → IsUnsent before.talk after.talk (Err e) → SearchSends rules found before after (stop_status (find_stop e))
  error_send (Ok strings) e begins sent unsent = strings_send strings e sent
  error_send (Err x) e begins sent unsent = error_unsent x e begins unsent

  texts_send : (found : Strings) (written : RunTexts) (status : ℕ) → Begins (Ok written) found
      → IfOk found (λ strings. SentBy rules strings before after (Ok written)) → (status ≡ 6 → ⊥) → SearchSends rules found before after status
  texts_send (Ok strings) written status begins sent other = ended_sends _ _ before after status sent other
  texts_send (Err x) written status begins sent other = absurd (none_there x begins)

neither : (n : ℕ) → (n ≡ 11 → ⊥) → (n ≡ 6 → ⊥) → (n ≡ 11) ⊎ (n ≡ 6) → ⊥
neither n eleven six (inl h) = eleven h
neither n eleven six (inr h) = six h

untold_send : (before after : LinkSeen) (e : FindError) → IsUnsent before.talk after.talk (Err e)
    → (stop_status (find_stop e) ≡ 11) ⊎ (stop_status (find_stop e) ≡ 6) → after.talk ≡ before.talk
untold_send before after (errors.Strings error) h is = h
untold_send before after (errors.Walk (walks.Cap level wanted)) h is = absurd (neither 5 (λ n. omega (arith, n)) (λ n. omega (arith, n)) is)
untold_send before after (errors.Walk walks.Link) h is = absurd (neither 7 (λ n. omega (arith, n)) (λ n. omega (arith, n)) is)
untold_send before after (errors.Walk (walks.PeerMessage level kind at)) h is = absurd (neither 9 (λ n. omega (arith, n)) (λ n. omega (arith, n)) is)
untold_send before after (errors.Walk (walks.Views level kind place left right)) h is = absurd (neither 9 (λ n. omega (arith, n)) (λ n. omega (arith, n)) is)
untold_send before after (errors.Walk walks.Memory) h is = absurd (neither 8 (λ n. omega (arith, n)) (λ n. omega (arith, n)) is)
untold_send before after errors.Memory h is = absurd (neither 8 (λ n. omega (arith, n)) (λ n. omega (arith, n)) is)

-- ---- the frequent strings

module _ (text : Text) (rules : FindRules) (before after : Outside) where
  strings_find : (e : FindError) (strings : List (List Bool)) → (stop_status (find_stop e) ≡ 5 → ⊥)
      → HeavyFound text rules strings before after (stop_status (find_stop e))
  strings_find e strings other =
      record { found = λ zero. absurd (stop_other (find_stop e) zero); capped = λ five. absurd (other five) }

  refused_find : (e : GenError) (strings : List (List Bool)) → HeavyFound text rules strings before after (stop_status (find_stop (errors.Strings e)))
  refused_find gens.Missing strings = strings_find (errors.Strings gens.Missing) strings (λ n. omega (arith, n))
  refused_find gens.TooLong strings = strings_find (errors.Strings gens.TooLong) strings (λ n. omega (arith, n))
  refused_find (gens.Lines (lines.TooMany count)) strings = strings_find (errors.Strings (gens.Lines (lines.TooMany count))) strings (λ n. omega (arith, n))
  refused_find (gens.Lines (lines.LineLong line)) strings = strings_find (errors.Strings (gens.Lines (lines.LineLong line))) strings (λ n. omega (arith, n))
  refused_find (gens.Lines (lines.ZeroByte line)) strings = strings_find (errors.Strings (gens.Lines (lines.ZeroByte line))) strings (λ n. omega (arith, n))
  refused_find (gens.Lines lines.Memory) strings = strings_find (errors.Strings (gens.Lines lines.Memory)) strings (λ n. omega (arith, n))
  refused_find gens.Shelf strings = strings_find (errors.Strings gens.Shelf) strings (λ n. omega (arith, n))
  refused_find gens.Memory strings = strings_find (errors.Strings gens.Memory) strings (λ n. omega (arith, n))

  error_heavy : (e : FindError) (strings : List (List Bool)) → Finds text rules strings (Err e)
      → GrewWithin before.err.taken after.err.taken (stop_line (find_stop e)) → HeavyFound text rules strings before after (stop_status (find_stop e))
  error_heavy (errors.Strings e) strings cap line = refused_find e strings
  error_heavy (errors.Walk (walks.Cap level wanted)) strings cap line = record {
    found = λ zero. absurd (omega (arith, zero));
    capped = λ five. (level, wanted, cap, line);
  }
  error_heavy (errors.Walk walks.Link) strings cap line = strings_find (errors.Walk walks.Link) strings (λ n. omega (arith, n))
  error_heavy (errors.Walk (walks.PeerMessage level kind at)) strings cap line =
      strings_find (errors.Walk (walks.PeerMessage level kind at)) strings (λ n. omega (arith, n))
  error_heavy (errors.Walk (walks.Views level kind place left right)) strings cap line =
      strings_find (errors.Walk (walks.Views level kind place left right)) strings (λ n. omega (arith, n))
  error_heavy (errors.Walk walks.Memory) strings cap line = strings_find (errors.Walk walks.Memory) strings (λ n. omega (arith, n))
  error_heavy errors.Memory strings cap line = strings_find errors.Memory strings (λ n. omega (arith, n))

  error_finds : (found : Strings) (e : FindError) → IfOk found (λ strings. Finds text rules strings (Err e))
      → GrewWithin before.err.taken after.err.taken (stop_line (find_stop e)) → SearchFinds text rules found before after (stop_status (find_stop e))
  error_finds (Ok strings) e cap line = error_heavy e strings cap line
  error_finds (Err x) e cap line = tt

  texts_find : (found : Strings) (written : RunTexts) (status : ℕ) → IfOk found (λ strings. Finds text rules strings (Ok written)) → (status ≡ 5 → ⊥)
      → Prints before.out.taken after.out.taken written.out.items status
      → ErrGets (texts written.out.items written.err.items) status before.err.taken after.err.taken → SearchFinds text rules found before after status
  texts_find (Err x) written status heavy other out err = tt
  texts_find (Ok strings) written status heavy other out err = record {
    found = λ zero. (
      subst (Grew before.out.taken after.out.taken) heavy.out (out.whole zero),
      (
        heavy.level,
        record { last = heavy.last; done = heavy.done },
        subst (Grew before.err.taken after.err.taken) heavy.err (err.whole zero),
      ),
    );
    capped = λ five. absurd (other five);
  }

-- ---- statuses that a search has not

nine_not : (e : FindError) → IsAgreed e → stop_status (find_stop e) ≡ 9 → ⊥
nine_not (errors.Strings gens.Missing) own h = omega (arith, h)
nine_not (errors.Strings gens.TooLong) own h = omega (arith, h)
nine_not (errors.Strings (gens.Lines (lines.TooMany count))) own h = omega (arith, h)
nine_not (errors.Strings (gens.Lines (lines.LineLong line))) own h = omega (arith, h)
nine_not (errors.Strings (gens.Lines (lines.ZeroByte line))) own h = omega (arith, h)
nine_not (errors.Strings (gens.Lines lines.Memory)) own h = omega (arith, h)
nine_not (errors.Strings gens.Shelf) own h = omega (arith, h)
nine_not (errors.Strings gens.Memory) own h = omega (arith, h)
nine_not (errors.Walk (walks.Cap level wanted)) own h = omega (arith, h)
nine_not (errors.Walk walks.Link) own h = omega (arith, h)
nine_not (errors.Walk (walks.PeerMessage level kind at)) own h = own
nine_not (errors.Walk (walks.Views level kind place left right)) own h = own
nine_not (errors.Walk walks.Memory) own h = omega (arith, h)
nine_not errors.Memory own h = omega (arith, h)

six_not : (e : FindError) → IsWithoutFile e → stop_status (find_stop e) ≡ 6 → ⊥
six_not (errors.Strings gens.Missing) own h = own
six_not (errors.Strings gens.TooLong) own h = own
six_not (errors.Strings (gens.Lines (lines.TooMany count))) own h = omega (arith, h)
six_not (errors.Strings (gens.Lines (lines.LineLong line))) own h = own
six_not (errors.Strings (gens.Lines (lines.ZeroByte line))) own h = own
six_not (errors.Strings (gens.Lines lines.Memory)) own h = omega (arith, h)
six_not (errors.Strings gens.Shelf) own h = own
six_not (errors.Strings gens.Memory) own h = own
six_not (errors.Walk (walks.Cap level wanted)) own h = omega (arith, h)
six_not (errors.Walk walks.Link) own h = omega (arith, h)
six_not (errors.Walk (walks.PeerMessage level kind at)) own h = omega (arith, h)
six_not (errors.Walk (walks.Views level kind place left right)) own h = omega (arith, h)
six_not (errors.Walk walks.Memory) own h = omega (arith, h)
six_not errors.Memory own h = omega (arith, h)

-- no shelf is asked where no file is named
no_shelf : (e : FindError) → IsWithoutFile e → IsShelfFault e → ⊥
no_shelf (errors.Strings e) own h = absurd (subst (λ x. IsWithoutFile (errors.Strings x)) h own)
no_shelf (errors.Walk e) own h = h
no_shelf errors.Memory own h = h

-- ---- the promise of `find`

-- what holds within an option holds of what it says
within : {A : Type 0} {P Q : A → Type 0} (o : Option A) → ((a : A) → P a → Q a) → IfSome o P → IfSome o Q
within None f h = tt
within (Some a) f h = f a h

module _ (settings : FindSettings) where
  abbrev the_rules : FindRules
  the_rules = find_rules settings

  -- what is known of an answer, where the files are told
  abbrev Told : Option Ending → Option Files → Result RunTexts FindError → Type 0
  Told ending told result =
      IfSome told (λ held. Begins result (find_strings settings held) × Known answer_text the_rules ending (find_strings settings held) result)

  told_status : (ending : Option Ending) (told : Option Files) (e : FindError) (S R K : Type 0) → Told ending told (Err e)
      → (IsShelfFault e → S) → (e ≡ errors.Walk walks.Link → R)
      → MayStand (find_told ending settings told) S (IsTrue (find_walks (Some settings) told) × R) K (stop_status (find_stop e))
  told_status ending None e S R K known shelf link = untold_status e S R K shelf link
  told_status ending (Some held) e S R K known shelf link =
      search_status answer_text the_rules ending (find_strings settings held) e S R K known.0 known.1 shelf link

  told_stops : (ending : Option Ending) (told : Option Files) (e : FindError) → Told ending told (Err e) → MayStop (find_told ending settings told) (find_stop e)
  told_stops ending None e known = tt
  told_stops ending (Some held) e known = search_stops answer_text the_rules ending (find_strings settings held) e known.0 known.1

  told_prints : (ending : Option Ending) (told : Option Files) (written : RunTexts) → Told ending told (Ok written)
      → MayPrint (find_told ending settings told) written.out.items written.err.items
  told_prints ending None written known = tt
  told_prints ending (Some held) written known = search_prints answer_text the_rules ending (find_strings settings held) written known.0 known.1

  module _ (before after : LinkSeen) where
    abbrev Over : Option Files → Result RunTexts FindError → Type 0
    Over told result = IfSome told (λ held. WalksOver answer_text the_rules (find_strings settings held) before after result)

    told_error_sends : (told : Option Files) (e : FindError) → Over told (Err e) → IsUnsent before.talk after.talk (Err e)
        → FindSends (Some settings) told before after (stop_status (find_stop e))
    told_error_sends None e over unsent = untold_send before after e unsent
    told_error_sends (Some held) e over unsent = error_send the_rules before after (find_strings settings held) e over.begins over.sent unsent

    told_texts_send : (told : Option Files) (written : RunTexts) (status : ℕ) → Over told (Ok written) → (status ≡ 6 → ⊥) → (status ≡ 11 → ⊥)
        → FindSends (Some settings) told before after status
    told_texts_send None written status over six eleven = λ is. absurd (neither status eleven six is)
    told_texts_send (Some held) written status over six eleven =
        texts_send the_rules before after (find_strings settings held) written status over.begins over.sent six

  told_error_finds : (told : Option Files) (before after : Outside) (e : FindError) → IsTrueAndIdle before.link → Over before.link after.link told (Err e)
      → GrewWithin before.err.taken after.err.taken (stop_line (find_stop e)) → FindFindsIn settings told before after (stop_status (find_stop e))
  told_error_finds None before after e ready over line = tt
  told_error_finds (Some held) before after e ready over line =
      error_finds answer_text the_rules before after (find_strings settings held) e (over.finds ready) line

  told_texts_find : (told : Option Files) (before after : Outside) (written : RunTexts) (status : ℕ) → IsTrueAndIdle before.link
      → Over before.link after.link told (Ok written) → (status ≡ 5 → ⊥) → Prints before.out.taken after.out.taken written.out.items status
      → ErrGets (texts written.out.items written.err.items) status before.err.taken after.err.taken → FindFindsIn settings told before after status
  told_texts_find None before after written status ready over other out err = tt
  told_texts_find (Some held) before after written status ready over other out err =
      texts_find answer_text the_rules before after (find_strings settings held) written status (over.finds ready) other out err

module _ (words : List (List ℕ)) (settings : FindSettings) (given : Some settings ≡ find_words words) (before after : Outside) where
  abbrev MeetsFind : Option Ending → ℕ → Type 0
  MeetsFind ending status = Meets (find_told ending settings before.shelf.files) (find_walks (Some settings) before.shelf.files) before after status

  find_keeps : (status : ℕ) → MeetsFind (heard_ending before.link.talk after.link.talk) status
      → FindSends (Some settings) before.shelf.files before.link after.link status → after.shelf.files ≡ before.shelf.files → IsLater before after
      → (IsTrueAndIdle before.link → MeetsFind (Some walk) status) → (IsTrueAndIdle before.link → status ≡ 9 → ⊥)
      → (IsTrueAndIdle before.link → FindFinds (Some settings) before after status) → KeepsOf finds words before after status
  find_keeps status heard sends kept later truly agreed found = record {
    heard = subst (λ s. Meets (find_settled (heard_ending before.link.talk after.link.talk) s before.shelf.files) (find_walks s before.shelf.files) before after status) given heard;
    sends = subst (λ s. FindSends s before.shelf.files before.link after.link status) given sends;
    kept = kept;
    later = later;
    truly = λ ready. subst (λ s. Meets (find_settled (Some walk) s before.shelf.files) (find_walks s before.shelf.files) before after status) given (truly ready);
    agreed = agreed;
    finds = λ ready. subst (λ s. FindFinds s before after status) given (found ready);
  }

  pub find_error_keeps : (e : FindError) → FindKeeps settings.strings (find_rules settings) (sources_of before) (sources_of after) (Err e)
      → after.out ≡ before.out → GrewWithin before.err.taken after.err.taken (stop_line (find_stop e)) → before.err.faults ≤ after.err.faults
      → KeepsOf finds words before after (stop_status (find_stop e))
  find_error_keeps e k same line later =
      find_keeps (stop_status (find_stop e))
      (meets (heard_ending before.link.talk after.link.talk) (within before.shelf.files (λ held w. (w.begins, w.heard)) k.told))
      (told_error_sends settings before.link after.link before.shelf.files e k.told k.unsent) k.kept
      (record { shelf = k.shelf.later; out = still_later before.out after.out same; err = later; link = k.link.later })
      (λ ready. meets (Some walk) (within before.shelf.files (λ held w. (w.begins, w.truly ready)) k.told))
      (λ ready. nine_not e (k.agreed ready)) (λ ready. told_error_finds settings before.shelf.files before after e ready k.told line)
    where
      meets : (ending : Option Ending) → Told settings ending before.shelf.files (Err e) → MeetsFind ending (stop_status (find_stop e))
      meets ending known =
          let o = find_told ending settings before.shelf.files in
          stop_meets o (find_walks (Some settings) before.shelf.files) before after (find_stop e) (told_stops settings ending before.shelf.files e known)
          (told_status settings ending before.shelf.files e _ _ _ known k.shelf.rose k.link.rose) same line
          (shelf_kept o (stop_status (find_stop e)) before.shelf.files after.shelf.files (stop_other (find_stop e)) k.kept)

  pub find_texts_keep : (written : RunTexts) (status : ℕ) → FindKeeps settings.strings (find_rules settings) (sources_of before) (sources_of after) (Ok written)
      → Wrote status (Rose before.out.faults after.out.faults ⊎ Rose before.err.faults after.err.faults)
      → Prints before.out.taken after.out.taken written.out.items status
      → ErrGets (texts written.out.items written.err.items) status before.err.taken after.err.taken
      → OutFirst (texts written.out.items written.err.items) status before.out after.out before.err after.err
      → before.out.faults ≤ after.out.faults → before.err.faults ≤ after.err.faults → KeepsOf finds words before after status
  find_texts_keep written status k wrote out err first out_later err_later =
      find_keeps status (meets (heard_ending before.link.talk after.link.talk) (within before.shelf.files (λ held w. (w.begins, w.heard)) k.told))
      (told_texts_send settings before.link after.link before.shelf.files written status k.told (other 6 (λ n. omega (arith, n)) (λ n. omega (arith, n)) (λ n. omega (arith, n)))
      (other 11 (λ n. omega (arith, n)) (λ n. omega (arith, n)) (λ n. omega (arith, n)))) k.kept
      (record { shelf = k.shelf.later; out = out_later; err = err_later; link = k.link.later })
      (λ ready. meets (Some walk) (within before.shelf.files (λ held w. (w.begins, w.truly ready)) k.told))
      (λ ready. other 9 (λ n. omega (arith, n)) (λ n. omega (arith, n)) (λ n. omega (arith, n)))
      (λ ready. told_texts_find settings before.shelf.files before after written status ready k.told
      (other 5 (λ n. omega (arith, n)) (λ n. omega (arith, n)) (λ n. omega (arith, n))) out err)
    where
      other : (n : ℕ) → (0 ≡ n → ⊥) → (10 ≡ n → ⊥) → (8 ≡ n → ⊥) → status ≡ n → ⊥
      other n zero ten eight = wrote_other n zero ten eight wrote

      meets : (ending : Option Ending) → Told settings ending before.shelf.files (Ok written) → MeetsFind ending status
      meets ending known =
          written_meets (find_walks (Some settings) before.shelf.files) before after status written.out.items written.err.items wrote out err first k.kept
          (find_told ending settings before.shelf.files) (told_prints settings ending before.shelf.files written known)

-- ---- the promise of `make`

module _ (words : List (List ℕ)) (settings : MakeSettings) (given : Some settings ≡ make_words words) (before after : Outside) (shelf : after.shelf ≡ before.shelf) where
  abbrev made_rules : FindRules
  made_rules = make_rules settings

  abbrev made_strings : Strings
  made_strings = make_strings settings

  abbrev MeetsMake : Option Ending → ℕ → Type 0
  MeetsMake ending status = Meets (make_settled ending (Some settings)) (make_walks (Some settings)) before after status

  files : after.shelf.files ≡ before.shelf.files
  files = ap (λ s. s.files) shelf

  shelf_later : before.shelf.faults ≤ after.shelf.faults
  shelf_later = subst (λ s. before.shelf.faults ≤ s.faults) (sym shelf) (omega arith)

  make_keeps : (status : ℕ) → MeetsMake (heard_ending before.link.talk after.link.talk) status → MakeSends (Some settings) before.link after.link status
      → (status ≡ 6 → ⊥) → IsLater before after → (IsTrueAndIdle before.link → MeetsMake (Some walk) status)
      → (IsTrueAndIdle before.link → status ≡ 9 → ⊥) → (IsTrueAndIdle before.link → MakeFinds (Some settings) before after status)
      → KeepsOf makes words before after status
  make_keeps status heard sends six later truly agreed found = record {
    heard = subst (λ s. Meets (make_settled (heard_ending before.link.talk after.link.talk) s) (make_walks s) before after status) given heard;
    sends = subst (λ s. MakeSends s before.link after.link status) given sends;
    kept = (shelf, six);
    later = later;
    truly = λ ready. subst (λ s. Meets (make_settled (Some walk) s) (make_walks s) before after status) given (truly ready);
    agreed = agreed;
    finds = λ ready. subst (λ s. MakeFinds s before after status) given (found ready);
  }

  pub make_error_keeps : (e : FindError) → MakeKeeps settings.reports made_rules before.link after.link (Err e)
      → after.out ≡ before.out → GrewWithin before.err.taken after.err.taken (stop_line (find_stop e)) → before.err.faults ≤ after.err.faults
      → KeepsOf makes words before after (stop_status (find_stop e))
  make_error_keeps e k same line later =
      make_keeps (stop_status (find_stop e)) (meets (heard_ending before.link.talk after.link.talk) k.told.heard)
      (error_send made_rules before.link after.link made_strings e k.told.begins k.told.sent k.unsent) (six_not e k.own)
      (record { shelf = shelf_later; out = still_later before.out after.out same; err = later; link = k.link.later })
      (λ ready. meets (Some walk) (k.told.truly ready)) (λ ready. nine_not e (k.agreed ready))
      (λ ready. error_finds summary_text made_rules before after made_strings e (k.told.finds ready) line)
    where
      meets : (ending : Option Ending) → Known summary_text made_rules ending made_strings (Err e) → MeetsMake ending (stop_status (find_stop e))
      meets ending known =
          let o = search_outcome summary_text ending made_rules made_strings in
          stop_meets o (are_found made_strings) before after (find_stop e) (search_stops summary_text made_rules ending made_strings e k.told.begins known)
          (search_status summary_text made_rules ending made_strings e _ _ _ k.told.begins known (λ h. absurd (no_shelf e k.own h)) k.link.rose) same line
          (shelf_kept o (stop_status (find_stop e)) before.shelf.files after.shelf.files (stop_other (find_stop e)) files)

  pub make_texts_keep : (written : RunTexts) (status : ℕ) → MakeKeeps settings.reports made_rules before.link after.link (Ok written)
      → Wrote status (Rose before.out.faults after.out.faults ⊎ Rose before.err.faults after.err.faults)
      → Prints before.out.taken after.out.taken written.out.items status
      → ErrGets (texts written.out.items written.err.items) status before.err.taken after.err.taken
      → OutFirst (texts written.out.items written.err.items) status before.out after.out before.err after.err
      → before.out.faults ≤ after.out.faults → before.err.faults ≤ after.err.faults → KeepsOf makes words before after status
  make_texts_keep written status k wrote out err first out_later err_later =
      make_keeps status (meets (heard_ending before.link.talk after.link.talk) k.told.heard)
      (texts_send made_rules before.link after.link made_strings written status k.told.begins k.told.sent (other 6 (λ n. omega (arith, n)) (λ n. omega (arith, n)) (λ n. omega (arith, n))))
      (other 6 (λ n. omega (arith, n)) (λ n. omega (arith, n)) (λ n. omega (arith, n)))
      (record { shelf = shelf_later; out = out_later; err = err_later; link = k.link.later })
      (λ ready. meets (Some walk) (k.told.truly ready)) (λ ready. other 9 (λ n. omega (arith, n)) (λ n. omega (arith, n)) (λ n. omega (arith, n)))
      (λ ready. texts_find summary_text made_rules before after made_strings written status (k.told.finds ready)
      (other 5 (λ n. omega (arith, n)) (λ n. omega (arith, n)) (λ n. omega (arith, n))) out err)
    where
      other : (n : ℕ) → (0 ≡ n → ⊥) → (10 ≡ n → ⊥) → (8 ≡ n → ⊥) → status ≡ n → ⊥
      other n zero ten eight = wrote_other n zero ten eight wrote

      meets : (ending : Option Ending) → Known summary_text made_rules ending made_strings (Ok written) → MeetsMake ending status
      meets ending known =
          written_meets (are_found made_strings) before after status written.out.items written.err.items wrote out err first files
          (search_outcome summary_text ending made_rules made_strings) (search_prints summary_text made_rules ending made_strings written k.told.begins known)
