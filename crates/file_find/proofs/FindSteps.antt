-- The promises of `find` and `make`, from those of the strings and of the search over them.
use Rattle.std.proofs.Common.{◌≡◌, ◌≤◌, inl, inr, ℕ, Bool, true, false, List, refl, sym, ap, subst, arith}
use Rattle.std.specs.Prelude.{◌⊎◌, Option, None, Some, Result, Ok, Err, IfOk, IfErr, IfSome, nat_lt}
use Rattle.std.specs.Bool.{if◌then◌else◌}
use Rattle.shelf_io.specs.Faults.{Rose}
use Rattle.shelf_io.specs.Seen.{LinkSeen, Sources}
use Rattle.walk_definitions.specs.Walk.{walk}
use Rattle.text_strings.specs.Lines.{LinesCase, too_many, line_long, zero_byte, strings, share_bytes, most_share_bytes, Tells}
use Rattle.text_strings.specs.declared.lines_error.LinesError.{LinesError}
use Rattle.text_strings.specs.declared.lines_error.LinesError.TheVariants as lines
use Rattle.answer_text.specs.AnswerText.{answer_text}
use Rattle.file_gen.specs.Answers.{Answer as Strings, lines_answer, Fits}
use Rattle.file_gen.specs.declared.errors.GenError.{GenError}
use Rattle.file_gen.specs.declared.errors.GenError.TheVariants as gens
use Rattle.file_run.specs.Answers.{Ending}
use Rattle.file_run.specs.Hearings.{heard_ending}
use Rattle.file_run.specs.declared.texts.RunTexts.{RunTexts}
use Rattle.file_run.proofs.ReadSteps.{some_map}
use Rattle.workload.specs.Workload.{workload_strings as all_strings, workload_case}
use Rattle.file_find.specs.Answers.{Text, find_answer, Answered, Finds, IsStringsFault, IsOfTheWalk, IsWithoutFile, IsShelfFault}
use Rattle.file_find.specs.Keeps.{WalksOver, FindKeeps, MakeKeeps, TellsKeeps}
use Rattle.file_find.specs.Sendings.{SentBy, IsUnsent}
use Rattle.file_find.specs.Texts.{summary_text}
use Rattle.file_find.specs.Walks.{file_strings, workload_strings}
use Rattle.file_find.specs.declared.errors.FindError.{FindError}
use Rattle.file_find.specs.declared.errors.FindError.TheVariants as finds
use Rattle.file_find.specs.declared.rules.FindRules.{FindRules}

-- ---- strings that are refused

-- an error of a strings file is the defined one, or one of the outside
fits_begins : (found : Strings) (e : GenError) → Fits found e → IsStringsFault e ⊎ (found ≡ Err e)
fits_begins found gens.Missing h = inr h
fits_begins found gens.TooLong h = inr h
fits_begins found (gens.Lines (lines.TooMany count)) h = inr h
fits_begins found (gens.Lines (lines.LineLong line)) h = inr h
fits_begins found (gens.Lines (lines.ZeroByte line)) h = inr h
fits_begins found (gens.Lines lines.Memory) h = inl tt
fits_begins found gens.Shelf h = inl tt
fits_begins found gens.Memory h = inl tt

-- and so is one of lines
lines_begin : (found : LinesCase) (e : LinesError) → Tells e found → IsStringsFault (gens.Lines e) ⊎ (lines_answer found ≡ Err (gens.Lines e))
lines_begin found (lines.TooMany count) h = inr (ap lines_answer h)
lines_begin found (lines.LineLong line) h = inr (ap lines_answer h)
lines_begin found (lines.ZeroByte line) h = inr (ap lines_answer h)
lines_begin found lines.Memory h = inl tt

module _ (text : Text) (rules : FindRules) (found : Strings) (e : GenError) (is : IsStringsFault e ⊎ (found ≡ Err e)) where
  refused_answered : (ending : Ending) → IsStringsFault e ⊎ (found ≡ Err e) → Answered (Err (finds.Strings e)) (find_answer text ending rules found)
  refused_answered ending (inl fault) = inl fault
  refused_answered ending (inr h) = inr (ap (find_answer text ending rules) h)

  refused_heard : (o : Option Ending) → IfSome o (λ ending. Answered (Err (finds.Strings e)) (find_answer text ending rules found))
  refused_heard None = tt
  refused_heard (Some ending) = refused_answered ending is

  refused_sent : (link : LinkSeen) (f : Strings) → IfOk f (λ them. SentBy rules them link link (Err (finds.Strings e)))
  refused_sent link (Ok them) = refl
  refused_sent link (Err other) = tt

  refused_finds : (f : Strings) → IfOk f (λ them. Finds text rules them (Err (finds.Strings e)))
  refused_finds (Ok them) = tt
  refused_finds (Err other) = tt

  pub refused_walks : (link : LinkSeen) → WalksOver text rules found link link (Err (finds.Strings e))
  refused_walks link = record {
    begins = is;
    heard = refused_heard (heard_ending link.talk link.talk);
    sent = refused_sent link found;
    truly = λ ready. refused_answered walk is;
    finds = λ ready. refused_finds found;
  }

-- ---- find

pub find_refused : (name : List ℕ) (rules : FindRules) (before after : Sources) (e : GenError) → after.link ≡ before.link
    → after.shelf.files ≡ before.shelf.files → before.shelf.faults ≤ after.shelf.faults → (e ≡ gens.Shelf → Rose before.shelf.faults after.shelf.faults)
    → IfSome before.shelf.files (λ held. Fits (file_strings name rules held) e)
    → FindKeeps name rules before after (Err (finds.Strings e))
find_refused name rules before after e same kept later rose fits = record {
  kept = kept;
  shelf = record { later = later; rose = rose };
  link = record { later = subst (λ (l : LinkSeen). before.link.faults ≤ l.faults) (sym same) (omega arith); rose = λ h. absurd cc };
  unsent = ap (λ (l : LinkSeen). l.talk) same;
  agreed = λ ready. tt;
  told = some_map before.shelf.files (λ held. Fits (file_strings name rules held) e)
      (λ held. WalksOver answer_text rules (file_strings name rules held) before.link after.link (Err (finds.Strings e)))
      (λ held h. subst (λ l. WalksOver answer_text rules (file_strings name rules held) before.link l (Err (finds.Strings e))) (sym same)
      (refused_walks answer_text rules (file_strings name rules held) e (fits_begins (file_strings name rules held) e h) before.link))
      fits;
}

-- nothing of a search over strings names the shelf, or is refused
no_shelf : (result : Result RunTexts FindError) (R : Type 0) → IfErr result IsOfTheWalk → IfErr result (λ e. IsShelfFault e → R)
no_shelf (Ok texts) R own = tt
no_shelf (Err (finds.Strings e)) R own = absurd own
no_shelf (Err (finds.Walk e)) R own = λ h. absurd h
no_shelf (Err finds.Memory) R own = λ h. absurd h

unsent_walk : (result : Result RunTexts FindError) (before after : LinkSeen) → IfErr result IsOfTheWalk → IsUnsent before.talk after.talk result
unsent_walk (Ok texts) before after own = tt
unsent_walk (Err (finds.Strings e)) before after own = absurd own
unsent_walk (Err (finds.Walk e)) before after own = tt
unsent_walk (Err finds.Memory) before after own = tt

pub find_told : (name : List ℕ) (rules : FindRules) (before after : Sources) (them : List (List Bool)) (result : Result RunTexts FindError)
    → after.shelf.files ≡ before.shelf.files → before.shelf.faults ≤ after.shelf.faults
    → IfSome before.shelf.files (λ held. file_strings name rules held ≡ Ok them)
    → TellsKeeps answer_text rules them before.link after.link result → FindKeeps name rules before after result
find_told name rules before after them result kept later are k = record {
  kept = kept;
  shelf = record { later = later; rose = no_shelf result _ k.own };
  link = k.link;
  unsent = unsent_walk result before.link after.link k.own;
  agreed = k.agreed;
  told = some_map before.shelf.files (λ held. file_strings name rules held ≡ Ok them)
      (λ held. WalksOver answer_text rules (file_strings name rules held) before.link after.link result)
      (λ held h. subst (λ f. WalksOver answer_text rules f before.link after.link result) (sym h) k.told) are;
}

-- ---- make

-- no line of the workload is at fault
no_fault_line : (width reports line : ℕ) → (workload_case width reports ≡ line_long line) ⊎ (workload_case width reports ≡ zero_byte line) → ⊥
no_fault_line width reports line = at (nat_lt most_share_bytes (share_bytes width reports))
  where
    at : (b : Bool) → let found : LinesCase = if b then too_many reports else strings (all_strings width reports) in (found ≡ line_long line) ⊎ (found ≡ zero_byte line) → ⊥
    at true (inl h) = cc
    at true (inr h) = cc
    at false (inl h) = cc
    at false (inr h) = cc

workload_own : (width reports : ℕ) (e : LinesError) → Tells e (workload_case width reports) → IsWithoutFile (finds.Strings (gens.Lines e))
workload_own width reports (lines.TooMany count) h = tt
workload_own width reports (lines.LineLong line) h = absurd (no_fault_line width reports line (inl h))
workload_own width reports (lines.ZeroByte line) h = absurd (no_fault_line width reports line (inr h))
workload_own width reports lines.Memory h = tt

pub make_refused : (reports : ℕ) (rules : FindRules) (link : LinkSeen) (e : LinesError) → Tells e (workload_case rules.width reports)
    → MakeKeeps reports rules link link (Err (finds.Strings (gens.Lines e)))
make_refused reports rules link e tells = record {
  own = workload_own rules.width reports e tells;
  link = record { later = omega arith; rose = λ h. absurd cc };
  unsent = refl;
  agreed = λ ready. tt;
  told = refused_walks summary_text rules (workload_strings reports rules) (gens.Lines e) (lines_begin (workload_case rules.width reports) e tells) link;
}

without_file : (result : Result RunTexts FindError) → IfErr result IsOfTheWalk → IfErr result IsWithoutFile
without_file (Ok texts) own = tt
without_file (Err (finds.Strings e)) own = absurd own
without_file (Err (finds.Walk e)) own = tt
without_file (Err finds.Memory) own = tt

pub make_told : (reports : ℕ) (rules : FindRules) (before after : LinkSeen) (them : List (List Bool)) (result : Result RunTexts FindError)
    → workload_case rules.width reports ≡ strings them → TellsKeeps summary_text rules them before after result
    → MakeKeeps reports rules before after result
make_told reports rules before after them result are k = record {
  own = without_file result k.own;
  link = k.link;
  unsent = unsent_walk result before after k.own;
  agreed = k.agreed;
  told = subst (λ f. WalksOver summary_text rules f before after result) (sym (ap lines_answer are)) k.told;
}
