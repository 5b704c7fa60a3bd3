-- Texts that grow record by record, where the shelf tells the file.
use Rattle.std.proofs.Common.{◌≡◌, ℕ, ◌+◌, ◌<◌, ◌≤◌, List, [], ◌++◌, Option, None, Some, length, take, sym, ◌∙◌, ap, subst, arith, append-nil}
use Rattle.std.specs.Prelude.{IfSome}
use Rattle.std.specs.FinMap.{get}
use Rattle.std.proofs.lemmas.Option.{slice_get_past}
use Rattle.shelf_io.specs.Files.{Files, IfThere}
use Rattle.share_format.specs.ShareFile.{RecordCase, records}
use Rattle.share_format.specs.Readings.{Reading, Fits, advanced, holding}
use Rattle.share_format.specs.declared.records.Record.{Record}
use Rattle.share_format.specs.declared.records.Record.TheVariants as given
use Rattle.share_format.specs.Answers.{answer, record_answer}
use Rattle.share_format.proofs.FileLaws.{length-records, all_records}

some_all : {X : Type 0} (o : Option X) (P : X → Type 0) → ((x : X) → P x) → IfSome o P
some_all None P f = tt
some_all (Some x) P f = f x

some_three : {X : Type 0} (o : Option X) (P Q R S : X → Type 0) → ((x : X) → P x → Q x → R x → S x) → IfSome o P → IfSome o Q → IfSome o R → IfSome o S
some_three None P Q R S f p q r = tt
some_three (Some x) P Q R S f p q r = f x p q r

there_all : (told : Option Files) (name : List ℕ) (P : List ℕ → Type 0) → ((bytes : List ℕ) → P bytes) → IfThere told name P
there_all None name P f = tt
there_all (Some held) name P f = some_all (get held name) P f

there_three : (told : Option Files) (name : List ℕ) (P Q R S : List ℕ → Type 0) → ((bytes : List ℕ) → P bytes → Q bytes → R bytes → S bytes)
    → IfThere told name P → IfThere told name Q → IfThere told name R → IfThere told name S
there_three None name P Q R S f p q r = tt
there_three (Some held) name P Q R S f p q r = some_three (get held name) P Q R S f p q r

-- A text of records that grows by what each record adds.
pub record Grows (Text : List RecordCase → List ℕ) (Adds : Record → List ℕ) : Type 0 where
  pub none : (cases : List RecordCase) → Text (take 0 cases) ≡ []
  pub more : (k : ℕ) (cases : List RecordCase) → k < length cases → Text (take (k + 1) cases) ≡ Text (take k cases) ++ Adds (record_answer k cases)
  pub end : Adds given.End ≡ []

module _ (Text : List RecordCase → List ℕ) (Adds : Record → List ℕ) (grows : Grows Text Adds) where
  pub text_begins : (told : Option Files) (reader : Reading) (text : List ℕ) → text ≡ [] → reader.next ≡ 0
      → IfThere told reader.name (λ bytes. text ≡ Text (take reader.next (records reader.width bytes)))
  text_begins told reader text e first =
      there_all told reader.name _ (λ bytes. e ∙ sym (grows.none (records reader.width bytes)) ∙ ap (λ k. Text (take k (records reader.width bytes))) (sym first))

  pub text_goes_on : (told now : Option Files) (old new : Reading) (text grown : List ℕ) → now ≡ told → new ≡ holding new.held (advanced old) → old.next < old.count → Fits told old
      → IfThere told old.name (λ bytes. text ≡ Text (take old.next (records old.width bytes)))
      → IfThere told old.name (λ bytes. grown ≡ text ++ Adds (record_answer old.next (records old.width bytes)))
      → IfThere now new.name (λ bytes. grown ≡ Text (take new.next (records new.width bytes)))
  text_goes_on told now old new text grown same is below fits before step =
      subst (λ files. IfThere files new.name (λ bytes. grown ≡ Text (take new.next (records new.width bytes)))) (sym same)
      (subst (λ r. IfThere told r.name (λ bytes. grown ≡ Text (take r.next (records r.width bytes)))) (sym is)
      (there_three told old.name _ _ _ _ (λ bytes of so_far now.
      now ∙ ap (λ t. t ++ Adds (record_answer old.next (records old.width bytes))) so_far
      ∙ sym (grows.more old.next (records old.width bytes) (omega (arith, below, of.counted, length-records old.width bytes)))) fits.1 before step))

  nothing_more : (k : ℕ) (cases : List RecordCase) → length cases ≤ k → Adds (record_answer k cases) ≡ []
  nothing_more k cases h = ap (λ o. Adds (answer k o)) (slice_get_past cases k h) ∙ grows.end

  all_text : (told : Option Files) (old : Reading) (text grown : List ℕ) → old.next ≡ old.count → Fits told old
      → IfThere told old.name (λ bytes. text ≡ Text (take old.next (records old.width bytes)))
      → IfThere told old.name (λ bytes. grown ≡ text ++ Adds (record_answer old.next (records old.width bytes)))
      → IfThere told old.name (λ bytes. grown ≡ Text (records old.width bytes))
  all_text told old text grown at_end fits before step =
      there_three told old.name _ _ _ _ (λ bytes of so_far now.
      now ∙ ap (λ more. text ++ more) (nothing_more old.next (records old.width bytes) (omega (arith, at_end, of.counted, length-records old.width bytes)))
      ∙ append-nil text ∙ so_far ∙ ap Text (all_records old.width bytes old.next (of.counted ∙ sym at_end))) fits.1 before step

  pub text_ends : (first told : Option Files) (start old : Reading) (text grown : List ℕ) → told ≡ first → old.name ≡ start.name → old.width ≡ start.width
      → old.next ≡ old.count → Fits told old
      → IfThere told old.name (λ bytes. text ≡ Text (take old.next (records old.width bytes)))
      → IfThere told old.name (λ bytes. grown ≡ text ++ Adds (record_answer old.next (records old.width bytes)))
      → IfThere first start.name (λ bytes. grown ≡ Text (records start.width bytes))
  text_ends first told start old text grown same name width at_end fits before step =
      subst (λ files. IfThere files start.name (λ bytes. grown ≡ Text (records start.width bytes))) same
      (subst (λ n. IfThere told n (λ bytes. grown ≡ Text (records start.width bytes))) name
      (subst (λ w. IfThere told old.name (λ bytes. grown ≡ Text (records w bytes))) width (all_text told old text grown at_end fits before step)))
