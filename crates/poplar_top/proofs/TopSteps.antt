-- What the top call cites.
use Rattle.std.proofs.Common.{◌≡◌, ◌⊎◌, inl, inr, ℕ, ◌++◌, List, [], ◌∷◌, Option, None, Some, length, take, refl, sym, subst, ap, ◌∙◌, arith, append-nil}
use Rattle.std.specs.Prelude.{IfSome, IsTrue}
use Rattle.std.specs.FinMap.{get}
use Rattle.shelf_io.specs.Faults.{Rose}
use Rattle.shelf_io.specs.Files.{Files}
use Rattle.shelf_io.specs.Seen.{SinkSeen}
use Rattle.shelf_io.specs.declared.refused.Refused.{Refused}
use Rattle.shelf_io.specs.declared.refused.Refused.TheVariants.{Failed, Memory}
use Rattle.shelf_io.specs.Texts.{Grew, GrewWithin}
use Rattle.std.proofs.lemmas.List.{take_all}
use Rattle.shelf_io.proofs.TextLaws.{grew_twice, within_of_grew}
use Rattle.poplar_top.specs.declared.refusal.Refusal.{Refusal}
use Rattle.poplar_top.specs.declared.refusal.Refusal.TheVariants.{Missing, TooLong, Header, Cut, LongPrefix, NoStrings, StringsLong, TooMany, LineLong, ZeroByte, Widths, Walk}
use Rattle.poplar_top.specs.declared.walk_refusal.WalkRefusal.TheVariants.{Cap, PeerMessage, Views}
use Rattle.poplar_top.specs.declared.stop.Stop.{Stop}
use Rattle.poplar_top.specs.declared.stop.Stop.TheVariants as stops
use Rattle.command_words.specs.Settings.{EvalSettings}
use Rattle.poplar_top.specs.Outcomes.{Outcome, eval_file_outcome, eval_told}
use Rattle.poplar_top.specs.Outcomes.Outcome.{usage, refusal, texts, writes, untold_eval, untold_gen, untold_run, untold_find, unheard}
use Rattle.poplar_top.specs.Statuses.{Prints, TellsUntold, TellsMade, ErrGets, OutFirst, MayStand, asks_shelf, fault_line}
use Rattle.file_eval.specs.Answers.{eval_answer}
use Rattle.poplar_top.proofs.EvalSteps.{answer_asks}
use Rattle.poplar_top.specs.Refusals.{status_of}
use Rattle.poplar_top.specs.Stops.{StopFits, IsEvalStop, stop_status, stop_line, sink_status}
use Rattle.poplar_top.proofs.StatusLaws.{is_no_refusal, refusal_status}

none_taken : (xs ys : List ℕ) → take 0 xs ++ ys ≡ ys
none_taken [] ys = refl
none_taken (x ∷ xs) ys = refl

-- a status that is 8 or 10 is no other
not_sinks : {status : ℕ} → (status ≡ 8) ⊎ (status ≡ 10) → (status ≡ 8 → ⊥) → (status ≡ 10 → ⊥) → ⊥
not_sinks (inl e) no_memory no_sink = no_memory e
not_sinks (inr e) no_memory no_sink = no_sink e

-- out's whole text was written, and err's was not
pub out_first : (before now : Option (List ℕ)) (text : List ℕ) (status : ℕ) → (status ≡ 8) ⊎ (status ≡ 10) → Grew before now text
    → Prints before now text status
out_first before now text status is h = record {
  whole = λ _. h;
  front = within_of_grew before now text h;
  nothing = λ _ no_memory no_sink. absurd (not_sinks is no_memory no_sink);
}

take_none : (xs : List ℕ) → take 0 xs ≡ []
take_none [] = refl
take_none (x ∷ xs) = refl

-- both texts were written
pub err_whole : (out err : List ℕ) (before now : Option (List ℕ)) → Grew before now err → ErrGets (texts out err) 0 before now
err_whole out err before now h = record {
  whole = λ _. h;
  front = (
    length err,
    0,
    subst (Grew before now)
        (sym (ap (λ xs. xs ++ take 0 (fault_line 0)) (take_all (length err) err (omega arith)) ∙ ap (λ ys. err ++ ys) (take_none (fault_line 0)) ∙ append-nil err)) h,
  );
  alone = λ other _ _. absurd (other refl);
}

-- a fault before err's text
pub fault_first : (out err : List ℕ) (status : ℕ) (before now : Option (List ℕ)) → (status ≡ 0 → ⊥) → GrewWithin before now (fault_line status)
    → ErrGets (texts out err) status before now
fault_first out err status before now other h = record {
  whole = λ e. absurd (other e);
  front = (0, h.0, subst (Grew before now) (sym (none_taken err (take h.0 (fault_line status)))) h.2);
  alone = λ _ _ _. h;
}

-- a fault of a sink within err's text
pub fault_within : (out err : List ℕ) (status : ℕ) (before mid now : Option (List ℕ)) → (status ≡ 8) ⊎ (status ≡ 10) → GrewWithin before mid err
    → GrewWithin mid now (fault_line status) → ErrGets (texts out err) status before now
fault_within out err status before mid now is first second = record {
  whole = λ e. absurd (zero is e);
  front = (first.0, second.0, grew_twice before mid now (take first.0 err) (take second.0 (fault_line status)) first.2 second.2);
  alone = λ _ no_memory no_sink. absurd (not_sinks is no_memory no_sink);
}
  where
    zero : (status ≡ 8) ⊎ (status ≡ 10) → status ≡ 0 → ⊥
    zero (inl a) e = omega (arith, a, e)
    zero (inr a) e = omega (arith, a, e)

-- ---- err at an outcome that is not told

-- a refusal's status is no fault's
no_fault : (r : Refusal) (n : ℕ) → IsTrue (is_no_refusal n) → status_of r ≡ n → ⊥
no_fault r n is e = refusal_status r (subst (λ m. IsTrue (is_no_refusal m)) (sym e) is)

six_or_seven : (r : Refusal) → (status_of r ≡ 6) ⊎ (status_of r ≡ 7) → ⊥
six_or_seven r (inl e) = no_fault r 6 refl e
six_or_seven r (inr e) = no_fault r 7 refl e

eight_or_ten : (r : Refusal) → (status_of r ≡ 8) ⊎ (status_of r ≡ 10) → ⊥
eight_or_ten r (inl e) = no_fault r 8 refl e
eight_or_ten r (inr e) = no_fault r 10 refl e

six_or_eight : (r : Refusal) → (status_of r ≡ 6) ⊎ (status_of r ≡ 8) → ⊥
six_or_eight r (inl e) = no_fault r 6 refl e
six_or_eight r (inr e) = no_fault r 8 refl e

-- a number is neither of two others
pub neither : (n a b : ℕ) → (n ≡ a → ⊥) → (n ≡ b → ⊥) → (n ≡ a) ⊎ (n ≡ b) → ⊥
neither n a b first second (inl e) = first e
neither n a b first second (inr e) = second e

-- a reason's line, where texts are not told
pub untold_line : (stop : Stop) (before now : Option (List ℕ)) → GrewWithin before now (stop_line stop) → TellsUntold before now (stop_status stop)
untold_line (stops.Refusal r) before now h = record {
  refused = λ _ _. (r, refl, h);
  fault = λ is. absurd (six_or_seven r is);
  behind = λ is. absurd (eight_or_ten r is);
}
untold_line stops.Shelf before now h = record {
  refused = λ _ none. absurd (cc none);
  fault = λ _. h;
  behind = λ is. absurd (neither 6 8 10 (λ e. omega (arith, e)) (λ e. omega (arith, e)) is);
}
untold_line stops.Link before now h = record {
  refused = λ _ none. absurd (cc none);
  fault = λ _. h;
  behind = λ is. absurd (neither 7 8 10 (λ e. omega (arith, e)) (λ e. omega (arith, e)) is);
}
untold_line stops.Memory before now h = record {
  refused = λ _ none. absurd (cc none);
  fault = λ is. absurd (neither 8 6 7 (λ e. omega (arith, e)) (λ e. omega (arith, e)) is);
  behind = λ _. ([], h.0, h.2);
}

-- the same where files are not told
pub made_line : (stop : Stop) (before now : Option (List ℕ)) → GrewWithin before now (stop_line stop) → TellsMade before now (stop_status stop)
made_line (stops.Refusal r) before now h = record {
  whole = λ e. absurd (no_fault r 0 refl e);
  refused = λ _ _. (r, refl, h);
  fault = λ is. absurd (six_or_eight r is);
}
made_line stops.Shelf before now h = record { whole = λ e. absurd (omega (arith, e)); refused = λ _ none. absurd (cc none); fault = λ _. h }
made_line stops.Link before now h = record {
  whole = λ e. absurd (omega (arith, e));
  refused = λ _ none. absurd (cc none);
  fault = λ is. absurd (neither 7 6 8 (λ e. omega (arith, e)) (λ e. omega (arith, e)) is);
}
made_line stops.Memory before now h = record { whole = λ e. absurd (omega (arith, e)); refused = λ _ none. absurd (cc none); fault = λ _. h }

refusal_line : (r : Refusal) (before now : Option (List ℕ)) → GrewWithin before now (stop_line (stops.Refusal r)) → ErrGets (refusal r) (stop_status (stops.Refusal r)) before now
refusal_line (Missing side) before now h = h
refusal_line (TooLong side) before now h = h
refusal_line (Header side at) before now h = h
refusal_line (Cut side at) before now h = h
refusal_line (LongPrefix bits width) before now h = h
refusal_line NoStrings before now h = h
refusal_line StringsLong before now h = h
refusal_line (TooMany lines) before now h = h
refusal_line (LineLong line) before now h = h
refusal_line (ZeroByte line) before now h = h
refusal_line (Widths zero one) before now h = h
refusal_line (Walk (Cap level wanted)) before now h = h
refusal_line (Walk (PeerMessage level kind at)) before now h = h
refusal_line (Walk (Views level kind place left right)) before now h = h

-- a fault's line, whatever the outcome is
shelf_line : (o : Outcome) (before now : Option (List ℕ)) → GrewWithin before now (fault_line 6) → ErrGets o 6 before now
shelf_line usage before now h = h
shelf_line (refusal r) before now h = h
shelf_line (texts out err) before now h = fault_first out err 6 before now (λ e. omega (arith, e)) h
shelf_line (writes zero_name zero_text one_name one_text) before now h = ((λ e. absurd (omega (arith, e))), h)
shelf_line untold_eval before now h = untold_line stops.Shelf before now h
shelf_line untold_gen before now h = made_line stops.Shelf before now h
shelf_line untold_run before now h = untold_line stops.Shelf before now h
shelf_line untold_find before now h = untold_line stops.Shelf before now h
shelf_line unheard before now h = untold_line stops.Shelf before now h

link_line : (o : Outcome) (before now : Option (List ℕ)) → GrewWithin before now (fault_line 7) → ErrGets o 7 before now
link_line usage before now h = h
link_line (refusal r) before now h = h
link_line (texts out err) before now h = fault_first out err 7 before now (λ e. omega (arith, e)) h
link_line (writes zero_name zero_text one_name one_text) before now h = ((λ e. absurd (omega (arith, e))), h)
link_line untold_eval before now h = untold_line stops.Link before now h
link_line untold_gen before now h = made_line stops.Link before now h
link_line untold_run before now h = untold_line stops.Link before now h
link_line untold_find before now h = untold_line stops.Link before now h
link_line unheard before now h = untold_line stops.Link before now h

memory_line : (o : Outcome) (before now : Option (List ℕ)) → GrewWithin before now (fault_line 8) → ErrGets o 8 before now
memory_line usage before now h = h
memory_line (refusal r) before now h = h
memory_line (texts out err) before now h = fault_first out err 8 before now (λ e. omega (arith, e)) h
memory_line (writes zero_name zero_text one_name one_text) before now h = ((λ e. absurd (omega (arith, e))), h)
memory_line untold_eval before now h = untold_line stops.Memory before now h
memory_line untold_gen before now h = made_line stops.Memory before now h
memory_line untold_run before now h = untold_line stops.Memory before now h
memory_line untold_find before now h = untold_line stops.Memory before now h
memory_line unheard before now h = untold_line stops.Memory before now h

-- what a command tells that has no text, where its reason fits the outcome
pub stop_lines : (o : Outcome) (stop : Stop) (before now : Option (List ℕ)) → StopFits o stop → GrewWithin before now (stop_line stop) → ErrGets o (stop_status stop) before now
stop_lines o (stops.Refusal r) before now fits h = subst (λ p. ErrGets p (stop_status (stops.Refusal r)) before now) (sym fits) (refusal_line r before now h)
stop_lines o stops.Shelf before now fits h = shelf_line o before now h
stop_lines o stops.Link before now fits h = link_line o before now h
stop_lines o stops.Memory before now fits h = memory_line o before now h

-- ---- statuses

own_status : (o : Outcome) (r : Refusal) (S L K : Type 0) → o ≡ refusal r → MayStand o S L K (status_of r)
own_status o r S L K e = subst (λ p. MayStand p S L K (status_of r)) (sym e) (inl refl)

pub fault_status : (o : Outcome) (stop : Stop) (S L K : Type 0) → IsTrue (asks_shelf o) → StopFits o stop → (stop ≡ stops.Shelf → S)
    → (stop ≡ stops.Link → L) → MayStand o S L K (stop_status stop)
fault_status o (stops.Refusal r) S L K asks fits shelf link = own_status o r S L K fits
fault_status o stops.Shelf S L K asks fits shelf link = inr (inl (refl, asks, shelf refl))
fault_status o stops.Link S L K asks fits shelf link = inr (inr (inl (refl, link refl)))
fault_status o stops.Memory S L K asks fits shelf link = inr (inr (inr (inr refl)))

untold_status : (stop : Stop) (S L K : Type 0) → IsEvalStop stop → (stop ≡ stops.Shelf → S) → MayStand untold_eval S L K (stop_status stop)
untold_status (stops.Refusal r) S L K own rose = inl (inr own)
untold_status stops.Shelf S L K own rose = inr (inl (refl, refl, rose refl))
untold_status stops.Link S L K own rose = absurd own
untold_status stops.Memory S L K own rose = inr (inr (inr (inr refl)))

-- the status of a reason to stop may stand
pub eval_status : (settings : EvalSettings) (files : Option Files) (stop : Stop) (S L K : Type 0) → IsEvalStop stop
    → IfSome files (λ held. StopFits (eval_file_outcome settings (get held settings.file)) stop) → (stop ≡ stops.Shelf → S)
    → MayStand (eval_told settings files) S L K (stop_status stop)
eval_status settings None stop S L K own fits rose = untold_status stop S L K own rose
eval_status settings (Some held) stop S L K own fits rose =
    fault_status (eval_file_outcome settings (get held settings.file)) stop S L K (answer_asks settings.side (eval_answer settings.side settings.prefix (get held settings.file))) fits rose
    (λ link. absurd (subst IsEvalStop link own))

-- ---- out before err

-- a reason's line is no line of err's text
pub stop_order : (o : Outcome) (stop : Stop) (out0 out1 err0 err1 : SinkSeen) → StopFits o stop → GrewWithin err0.taken err1.taken (stop_line stop)
    → OutFirst o (stop_status stop) out0 out1 err0 err1
stop_order usage stop out0 out1 err0 err1 fits h = tt
stop_order (refusal r) stop out0 out1 err0 err1 fits h = tt
stop_order (texts out err) (stops.Refusal r) out0 out1 err0 err1 fits h = absurd cc
stop_order (texts out err) stops.Shelf out0 out1 err0 err1 fits h = record {
  lines = (0, h.0, subst (Grew err0.taken err1.taken) (sym (none_taken err _)) h.2, inl refl);
  sink = λ ten. absurd (omega (arith, ten));
}
stop_order (texts out err) stops.Link out0 out1 err0 err1 fits h = record {
  lines = (0, h.0, subst (Grew err0.taken err1.taken) (sym (none_taken err _)) h.2, inl refl);
  sink = λ ten. absurd (omega (arith, ten));
}
stop_order (texts out err) stops.Memory out0 out1 err0 err1 fits h = record {
  lines = (0, h.0, subst (Grew err0.taken err1.taken) (sym (none_taken err _)) h.2, inl refl);
  sink = λ ten. absurd (omega (arith, ten));
}
stop_order (writes zero_name zero_text one_name one_text) stop out0 out1 err0 err1 fits h = tt
stop_order untold_eval stop out0 out1 err0 err1 fits h = tt
stop_order untold_gen stop out0 out1 err0 err1 fits h = tt
stop_order untold_run stop out0 out1 err0 err1 fits h = tt
stop_order untold_find stop out0 out1 err0 err1 fits h = tt
stop_order unheard stop out0 out1 err0 err1 fits h = tt

-- out's whole text was written before err's, of which a front was taken
pub order_within : (out err : List ℕ) (status : ℕ) (out0 out1 before now : SinkSeen) (mid : Option (List ℕ)) → Grew out0.taken out1.taken out
    → GrewWithin before.taken mid err → GrewWithin mid now.taken (fault_line status) → OutFirst (texts out err) status out0 out1 before now
order_within out err status out0 out1 before now mid all first second = record {
  lines = (
    first.0,
    second.0,
    grew_twice before.taken mid now.taken (take first.0 err) (take second.0 (fault_line status)) first.2 second.2,
    inr all,
  );
  sink = λ _. inr all;
}

-- only a front of the fault's line was taken, where out failed or memory was short
pub order_first : (out err : List ℕ) (status : ℕ) (out0 out1 before now : SinkSeen) (refused : Refused) → status ≡ sink_status refused
    → (refused ≡ Failed → Rose out0.faults out1.faults) → GrewWithin before.taken now.taken (fault_line status)
    → OutFirst (texts out err) status out0 out1 before now
order_first out err status out0 out1 before now refused is rose h = record {
  lines = (0, h.0, subst (Grew before.taken now.taken) (sym (none_taken err (take h.0 (fault_line status)))) h.2, inl refl);
  sink = λ ten. inl (failed refused is rose ten);
}
  where
    failed : (refused : Refused) → status ≡ sink_status refused → (refused ≡ Failed → Rose out0.faults out1.faults) → status ≡ 10
        → Rose out0.faults out1.faults
    failed Failed is rose ten = rose refl
    failed Memory is rose ten = absurd (omega (arith, is, ten))

-- both texts were written
pub order_whole : (out err : List ℕ) (out0 out1 before now : SinkSeen) → Grew out0.taken out1.taken out → Grew before.taken now.taken err
    → OutFirst (texts out err) 0 out0 out1 before now
order_whole out err out0 out1 before now all h =
    let lines = (err_whole out err before.taken now.taken h).front in
    record { lines = (lines.0, lines.1, lines.2, inr all); sink = λ _. inr all }
