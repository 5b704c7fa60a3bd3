-- What a command meets by how its work ended, whatever its outcome is: with a reason to stop, with texts that were written, or
-- with files that were made.
use Rattle.std.proofs.Common.{◌≡◌, ◌≤◌, ◌⊎◌, inl, inr, ℕ, Bool, false, List, Option, take, refl, sym, subst, ap, ◌∙◌, arith}
use Rattle.std.specs.Prelude.{IsTrue}
use Rattle.shelf_io.specs.Faults.{Rose}
use Rattle.shelf_io.specs.Seen.{LinkSeen, SinkSeen, Outside}
use Rattle.shelf_io.specs.Texts.{GrewWithin}
use Rattle.shelf_io.proofs.TextLaws.{within_none}
use Rattle.poplar_top.specs.declared.stop.Stop.{Stop}
use Rattle.poplar_top.specs.declared.stop.Stop.TheVariants as stops
use Rattle.poplar_top.specs.Keeps.{Meets, IsLater}
use Rattle.poplar_top.specs.Outcomes.{Outcome}
use Rattle.poplar_top.specs.Outcomes.Outcome.{usage, refusal, texts, writes, untold_eval, untold_gen, untold_run, untold_find, unheard}
use Rattle.poplar_top.specs.Statuses.{IsOwn, MayStand, Stands, Prints, OutGets, TellsUntold, ErrGets, OutFirst, ShelfGets, asks_sinks, is_fault, fault_line}
use Rattle.poplar_top.specs.Stops.{StopFits, stop_status, stop_line}
use Rattle.poplar_top.proofs.StatusLaws.{is_no_refusal, refusal_status}
use Rattle.poplar_top.proofs.TopSteps.{neither, untold_line, made_line, stop_lines, stop_order}

-- no count falls where the link is as before
pub is_later : (before after : Outside) → after.link ≡ before.link → before.shelf.faults ≤ after.shelf.faults → before.out.faults ≤ after.out.faults
    → before.err.faults ≤ after.err.faults → IsLater before after
is_later before after same shelf out err = record {
  shelf = shelf;
  out = out;
  err = err;
  link = subst (λ (l : LinkSeen). before.link.faults ≤ l.faults) (sym same) (omega arith);
}

-- nor that of a sink that is as before
pub still_later : (before after : SinkSeen) → after ≡ before → before.faults ≤ after.faults
still_later before after same = subst (λ (s : SinkSeen). before.faults ≤ s.faults) (sym same) (omega arith)

-- ---- a reason to stop

-- the reason is the outcome's, or the outcome is not told
abbrev pub MayStop : Outcome → Stop → Type 0
MayStop usage stop = StopFits usage stop
MayStop (refusal r) stop = StopFits (refusal r) stop
MayStop (texts out err) stop = StopFits (texts out err) stop
MayStop (writes zero_name zero_text one_name one_text) stop = StopFits (writes zero_name zero_text one_name one_text) stop
MayStop untold_eval stop = Unit {0}
MayStop untold_gen stop = Unit {0}
MayStop untold_run stop = Unit {0}
MayStop untold_find stop = Unit {0}
MayStop unheard stop = Unit {0}

pub may_stop : (o : Outcome) (stop : Stop) → StopFits o stop → MayStop o stop
may_stop usage stop h = h
may_stop (refusal r) stop h = h
may_stop (texts out err) stop h = h
may_stop (writes zero_name zero_text one_name one_text) stop h = h
may_stop untold_eval stop h = tt
may_stop untold_gen stop h = tt
may_stop untold_run stop h = tt
may_stop untold_find stop h = tt
may_stop unheard stop h = tt

-- a reason's status is not 0
pub stop_other : (stop : Stop) → stop_status stop ≡ 0 → ⊥
stop_other (stops.Refusal r) h = refusal_status r (subst (λ n. IsTrue (is_no_refusal n)) (sym h) refl)
stop_other stops.Shelf h = absurd (omega (arith, h))
stop_other stops.Link h = absurd (omega (arith, h))
stop_other stops.Memory h = absurd (omega (arith, h))

out_kept : (o : Outcome) (status : ℕ) (taken : Option (List ℕ)) → (status ≡ 0 → ⊥) → OutGets o status taken taken
out_kept usage status taken other = refl
out_kept (refusal r) status taken other = refl
out_kept (texts out err) status taken other = record {
  whole = λ zero. absurd (other zero);
  front = within_none taken taken out refl;
  nothing = λ _ _ _. refl;
}
out_kept (writes zero_name zero_text one_name one_text) status taken other = refl
out_kept untold_eval status taken other = λ _ _ _. refl
out_kept untold_gen status taken other = refl
out_kept untold_run status taken other = λ _ _ _. refl
out_kept untold_find status taken other = λ _ _ _. refl
out_kept unheard status taken other = λ _ _ _. refl

stop_err : (o : Outcome) (stop : Stop) (before now : Option (List ℕ)) → MayStop o stop → GrewWithin before now (stop_line stop)
    → ErrGets o (stop_status stop) before now
stop_err usage stop before now may h = stop_lines usage stop before now may h
stop_err (refusal r) stop before now may h = stop_lines (refusal r) stop before now may h
stop_err (texts out err) stop before now may h = stop_lines (texts out err) stop before now may h
stop_err (writes zero_name zero_text one_name one_text) stop before now may h =
    stop_lines (writes zero_name zero_text one_name one_text) stop before now may h
stop_err untold_eval stop before now may h = untold_line stop before now h
stop_err untold_gen stop before now may h = made_line stop before now h
stop_err untold_run stop before now may h = untold_line stop before now h
stop_err untold_find stop before now may h = untold_line stop before now h
stop_err unheard stop before now may h = untold_line stop before now h

stop_first : (o : Outcome) (stop : Stop) (out0 out1 err0 err1 : SinkSeen) → MayStop o stop → GrewWithin err0.taken err1.taken (stop_line stop)
    → OutFirst o (stop_status stop) out0 out1 err0 err1
stop_first usage stop out0 out1 err0 err1 may h = tt
stop_first (refusal r) stop out0 out1 err0 err1 may h = tt
stop_first (texts out err) stop out0 out1 err0 err1 may h = stop_order (texts out err) stop out0 out1 err0 err1 may h
stop_first (writes zero_name zero_text one_name one_text) stop out0 out1 err0 err1 may h = tt
stop_first untold_eval stop out0 out1 err0 err1 may h = tt
stop_first untold_gen stop out0 out1 err0 err1 may h = tt
stop_first untold_run stop out0 out1 err0 err1 may h = tt
stop_first untold_find stop out0 out1 err0 err1 may h = tt
stop_first unheard stop out0 out1 err0 err1 may h = tt

pub stop_meets : (o : Outcome) (asked : Bool) (before after : Outside) (stop : Stop) → MayStop o stop → Stands o asked before after (stop_status stop)
    → after.out ≡ before.out → GrewWithin before.err.taken after.err.taken (stop_line stop)
    → ShelfGets o (stop_status stop) before.shelf.files after.shelf.files → Meets o asked before after (stop_status stop)
stop_meets o asked before after stop may stands same line shelf = record {
  status = stands;
  out = subst (λ (s : SinkSeen). OutGets o (stop_status stop) before.out.taken s.taken) (sym same)
      (out_kept o (stop_status stop) before.out.taken (stop_other stop));
  err = stop_err o stop before.err.taken after.err.taken may line;
  order = stop_first o stop before.out after.out before.err after.err may line;
  shelf = shelf;
}

-- ---- texts that were written

-- the outcome is these texts, or is not told
abbrev pub MayPrint : Outcome → List ℕ → List ℕ → Type 0
MayPrint usage out err = ⊥
MayPrint (refusal r) out err = ⊥
MayPrint (texts one two) out err = texts one two ≡ texts out err
MayPrint (writes zero_name zero_text one_name one_text) out err = ⊥
MayPrint untold_eval out err = Unit {0}
MayPrint untold_gen out err = ⊥
MayPrint untold_run out err = Unit {0}
MayPrint untold_find out err = Unit {0}
MayPrint unheard out err = Unit {0}

pub may_print : (o : Outcome) (out err : List ℕ) → o ≡ texts out err → MayPrint o out err
may_print o out err is = subst (λ p. MayPrint p out err) (sym is) refl

-- the status of written texts
abbrev pub Wrote : ℕ → Type 0 → Type 0
Wrote status K = (status ≡ 0) ⊎ (((status ≡ 10) × K) ⊎ (status ≡ 8))

pub wrote_other : {status : ℕ} {K : Type 0} (n : ℕ) → (0 ≡ n → ⊥) → (10 ≡ n → ⊥) → (8 ≡ n → ⊥) → Wrote status K → status ≡ n → ⊥
wrote_other n zero ten eight (inl h) e = zero (sym h ∙ e)
wrote_other n zero ten eight (inr (inl h)) e = ten (sym h.0 ∙ e)
wrote_other n zero ten eight (inr (inr h)) e = eight (sym h ∙ e)

wrote_stands : (o : Outcome) (status : ℕ) (S L K : Type 0) → (status ≡ 0 → IsOwn o status) → IsTrue (asks_sinks o) → Wrote status K → MayStand o S L K status
wrote_stands o status S L K own asks (inl zero) = inl (own zero)
wrote_stands o status S L K own asks (inr (inl sink)) = inr (inr (inr (inl (sink.0, asks, sink.1))))
wrote_stands o status S L K own asks (inr (inr memory)) = inr (inr (inr (inr memory)))

-- it is no refusal's
wrote_fault : {status : ℕ} {K : Type 0} → Wrote status K → (status ≡ 0 → ⊥) → is_fault status ≡ false → ⊥
wrote_fault (inl zero) other none = other zero
wrote_fault (inr (inl sink)) other none = cc (subst (λ n. is_fault n ≡ false) sink.0 none)
wrote_fault (inr (inr memory)) other none = cc (subst (λ n. is_fault n ≡ false) memory none)

module _ (asked : Bool) (before after : Outside) (status : ℕ) (out err : List ℕ)
    (wrote : Wrote status (Rose before.out.faults after.out.faults ⊎ Rose before.err.faults after.err.faults))
    (prints : Prints before.out.taken after.out.taken out status) (tells : ErrGets (texts out err) status before.err.taken after.err.taken)
    (first : OutFirst (texts out err) status before.out after.out before.err after.err) (kept : after.shelf.files ≡ before.shelf.files) where
  untold_text : TellsUntold before.err.taken after.err.taken status
  untold_text = record {
    refused = λ other none. absurd (wrote_fault wrote other none);
    fault = λ is. absurd (neither status 6 7 (wrote_other 6 (λ n. omega (arith, n)) (λ n. omega (arith, n)) (λ n. omega (arith, n)) wrote)
        (wrote_other 7 (λ n. omega (arith, n)) (λ n. omega (arith, n)) (λ n. omega (arith, n)) wrote) is);
    behind = λ _. (take tells.front.0 err, tells.front.1, tells.front.2);
  }

  told_meets : Meets (texts out err) asked before after status
  told_meets = record { status = wrote_stands (texts out err) status _ _ _ (λ e. e) refl wrote; out = prints; err = tells; order = first; shelf = kept }

  pub written_meets : (o : Outcome) → MayPrint o out err → Meets o asked before after status
  written_meets usage may = absurd may
  written_meets (refusal r) may = absurd may
  written_meets (texts one two) may = subst (λ o. Meets o asked before after status) (sym may) told_meets
  written_meets (writes zero_name zero_text one_name one_text) may = absurd may
  written_meets untold_gen may = absurd may
  written_meets untold_eval may =
      record { status = wrote_stands untold_eval status _ _ _ (λ e. inl e) refl wrote; out = prints.nothing; err = untold_text; order = tt; shelf = kept }
  written_meets untold_run may =
      record { status = wrote_stands untold_run status _ _ _ (λ e. inl e) refl wrote; out = prints.nothing; err = untold_text; order = tt; shelf = kept }
  written_meets untold_find may =
      record { status = wrote_stands untold_find status _ _ _ (λ e. inl e) refl wrote; out = prints.nothing; err = untold_text; order = tt; shelf = kept }
  written_meets unheard may =
      record { status = wrote_stands unheard status _ _ _ (λ e. inl e) refl wrote; out = prints.nothing; err = untold_text; order = tt; shelf = kept }

-- ---- files that were made

-- the outcome is these names and texts, or is not told
abbrev pub MayMake : Outcome → (zero_name zero_text one_name one_text : List ℕ) → Type 0
MayMake usage a b c d = ⊥
MayMake (refusal r) a b c d = ⊥
MayMake (texts out err) a b c d = ⊥
MayMake (writes zero_name zero_text one_name one_text) a b c d = writes zero_name zero_text one_name one_text ≡ writes a b c d
MayMake untold_eval a b c d = ⊥
MayMake untold_gen a b c d = Unit {0}
MayMake untold_run a b c d = ⊥
MayMake untold_find a b c d = ⊥
MayMake unheard a b c d = ⊥

pub may_make : (o : Outcome) (a b c d : List ℕ) → o ≡ writes a b c d → MayMake o a b c d
may_make o a b c d is = subst (λ p. MayMake p a b c d) (sym is) refl

pub made_meets : (o : Outcome) (asked : Bool) (before after : Outside) (a b c d : List ℕ) → MayMake o a b c d → after.out ≡ before.out → after.err ≡ before.err
    → ShelfGets o 0 before.shelf.files after.shelf.files → Meets o asked before after 0
made_meets usage asked before after a b c d may out err shelf = absurd may
made_meets (refusal r) asked before after a b c d may out err shelf = absurd may
made_meets (texts one two) asked before after a b c d may out err shelf = absurd may
made_meets (writes zero_name zero_text one_name one_text) asked before after a b c d may out err shelf = record {
  status = inl refl;
  out = ap (λ (s : SinkSeen). s.taken) out;
  err = ((λ _. ap (λ (s : SinkSeen). s.taken) err), within_none before.err.taken after.err.taken (fault_line 0) (ap (λ (s : SinkSeen). s.taken) err));
  order = tt;
  shelf = shelf;
}
made_meets untold_eval asked before after a b c d may out err shelf = absurd may
made_meets untold_gen asked before after a b c d may out err shelf = record {
  status = inl (inl refl);
  out = ap (λ (s : SinkSeen). s.taken) out;
  err = record {
    whole = λ _. ap (λ (s : SinkSeen). s.taken) err;
    refused = λ other. absurd (other refl);
    fault = λ is. absurd (neither 0 6 8 (λ e. omega (arith, e)) (λ e. omega (arith, e)) is);
  };
  order = tt;
  shelf = shelf;
}
made_meets untold_run asked before after a b c d may out err shelf = absurd may
made_meets untold_find asked before after a b c d may out err shelf = absurd may
made_meets unheard asked before after a b c d may out err shelf = absurd may
