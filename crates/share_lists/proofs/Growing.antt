-- The lists behind one more record, and behind the last.
use Rattle.std.proofs.Common.{◌≡◌, ℕ, ◌+◌, ◌*◌, List, [], ◌∷◌, ◌++◌, Option, None, Some, Ok, length, take, sym, ◌∙◌, ap, ap₂, subst, arith, length-append, append_assoc}
use Rattle.std.specs.Prelude.{IfSome}
use Rattle.std.specs.FinMap.{get}
use Rattle.std.proofs.lemmas.List.Elements.{All-same, All-push}
use Rattle.definitions.specs.Evaluation.{Share}
use Rattle.shelf_io.specs.Files.{Files, IfThere}
use Rattle.share_format.specs.declared.records.Record.{Record}
use Rattle.share_format.specs.declared.records.Record.TheVariants as given
use Rattle.share_format.specs.Readings.{Reading, advanced, holding}
use Rattle.share_format.specs.ShareFile.{RecordCase, records}
use Rattle.share_format.specs.Answers.{record_answer}
use Rattle.share_format.specs.Causes.{Gives}
use Rattle.share_format.proofs.CallerLaws.{share_taken, malformed_taken, all_taken}
use Rattle.share_lists.specs.FileLists.{ShareLists, lists_of}
use Rattle.share_lists.specs.Steps.{AreSoFar, AreAll, with_part, GoOn, EndSo}

-- ---- facts of a told file

some_two : {X : Type 0} (o : Option X) (P Q R : X → Type 0) → ((x : X) → P x → Q x → R x) → IfSome o P → IfSome o Q → IfSome o R
some_two None P Q R f p q = tt
some_two (Some x) P Q R f p q = f x p q

there_two : (told : Option Files) (name : List ℕ) (P Q R : List ℕ → Type 0) → ((bytes : List ℕ) → P bytes → Q bytes → R bytes)
    → IfThere told name P → IfThere told name Q → IfThere told name R
there_two None name P Q R f p q = tt
there_two (Some held) name P Q R f p q = some_two (get held name) P Q R f p q

-- ---- one record

-- what a reader gave is the defined answer
given_is : (r defined : Record) → Gives {X = Record} (Ok r) (Ok defined) → defined ≡ r
given_is r defined h = cc

-- lists are equal field by field
same_lists : (width : ℕ) (shares others : List Share) (malformed numbers : List ℕ) → shares ≡ others → malformed ≡ numbers
    → ◌≡◌ {A = ShareLists} (record { width = width; shares = shares; malformed = malformed }) (record { width = width; shares = others; malformed = numbers })
same_lists width shares others malformed numbers s m = ap₂ (λ (ss : List Share) (ns : List ℕ). record { width = width; shares = ss; malformed = ns }) s m

more_shares : (width number : ℕ) (cases : List RecordCase) (lists : ShareLists) (share : Share) (shares : List Share)
    → shares ≡ lists.shares ++ share ∷ [] → lists ≡ lists_of width (take number cases) → record_answer number cases ≡ given.Share share
    → record lists { shares = shares } ≡ lists_of width (take (number + 1) cases)
more_shares width number cases lists share shares added so_far e =
    let taken = share_taken cases number share e in
    ap₂ (λ (ls : ShareLists) (ss : List Share). record ls { shares = ss }) so_far
    (added ∙ ap (λ (ls : ShareLists). ls.shares ++ share ∷ []) so_far)
    ∙ same_lists width _ _ _ _ (sym taken.0) (sym taken.1)

more_malformed : (width number : ℕ) (cases : List RecordCase) (lists : ShareLists) (told : ℕ) (numbers : List ℕ)
    → numbers ≡ lists.malformed ++ told ∷ [] → lists ≡ lists_of width (take number cases) → record_answer number cases ≡ given.Malformed told
    → record lists { malformed = numbers } ≡ lists_of width (take (number + 1) cases)
more_malformed width number cases lists told numbers added so_far e =
    let taken = malformed_taken cases number told e in
    ap₂ (λ (ls : ShareLists) (ns : List ℕ). record ls { malformed = ns }) so_far
    (added ∙ ap (λ (ls : ShareLists). ls.malformed ++ told ∷ []) so_far)
    ∙ same_lists width _ _ _ _ (sym taken.1) (sym taken.2)

-- ---- a step of the reader

-- the lists with one more share are those so far
share_added : (told : Option Files) (old new : Reading) (lists : ShareLists) (share : Share) (shares : List Share)
    → new ≡ holding new.held (advanced old) → shares ≡ lists.shares ++ share ∷ [] → length share.levels ≡ 8 * old.width → AreSoFar told old lists
    → IfThere told old.name (λ bytes. Gives (Ok (given.Share share)) (Ok (record_answer old.next (records old.width bytes))))
    → AreSoFar told new (record lists { shares = shares })
share_added told old new lists share shares is added levels so_far defined =
    subst (λ r. AreSoFar told r (record lists { shares = shares })) (sym is) (record {
      width = so_far.width;
      counted = omega (arith, so_far.counted, ap length added, length-append lists.shares (share ∷ []));
      levels = All-same (λ s. length s.levels ≡ 8 * lists.width) shares (lists.shares ++ share ∷ []) added
          (All-push (λ s. length s.levels ≡ 8 * lists.width) lists.shares share so_far.levels (omega (arith, levels, so_far.width)));
      exact = there_two told old.name _ _ _ (λ bytes before gives.
          more_shares old.width old.next (records old.width bytes) lists share shares added before (given_is _ _ gives)) so_far.exact defined;
    })

-- the lists with one more number are those so far
malformed_added : (told : Option Files) (old new : Reading) (lists : ShareLists) (number : ℕ) (numbers : List ℕ)
    → new ≡ holding new.held (advanced old) → numbers ≡ lists.malformed ++ number ∷ [] → AreSoFar told old lists
    → IfThere told old.name (λ bytes. Gives (Ok (given.Malformed number)) (Ok (record_answer old.next (records old.width bytes))))
    → AreSoFar told new (record lists { malformed = numbers })
malformed_added told old new lists number numbers is added so_far defined =
    subst (λ r. AreSoFar told r (record lists { malformed = numbers })) (sym is) (record {
      width = so_far.width;
      counted = omega (arith, so_far.counted, ap length added, length-append lists.malformed (number ∷ []));
      levels = so_far.levels;
      exact = there_two told old.name _ _ _ (λ bytes before gives.
          more_malformed old.width old.next (records old.width bytes) lists number numbers added before (given_is _ _ gives)) so_far.exact defined;
    })

-- at the end the lists so far are those of all records
none_added : (told : Option Files) (old new : Reading) (lists : ShareLists) → new ≡ old → AreSoFar told old lists
    → IfThere told old.name (λ bytes. Gives (Ok given.End) (Ok (record_answer old.next (records old.width bytes))))
    → AreAll told new lists
none_added told old new lists is so_far defined =
    subst (λ r. AreAll told r lists) (sym is)
    (there_two told old.name _ _ _ (λ bytes before gives.
    before ∙ ap (lists_of old.width) (all_taken (records old.width bytes) old.next (given_is _ _ gives))) so_far.exact defined)

-- ---- behind lists so far

pub share_more : (told : Option Files) (old new : Reading) (share : Share) (shares longer : List Share) (numbers : List ℕ)
    → new ≡ holding new.held (advanced old) → longer ≡ shares ++ share ∷ [] → length share.levels ≡ 8 * old.width
    → IfThere told old.name (λ bytes. Gives (Ok (given.Share share)) (Ok (record_answer old.next (records old.width bytes))))
    → GoOn told old shares numbers new longer numbers
share_more told old new share shares longer numbers is added levels defined lists so_far =
    share_added told old new (with_part lists shares numbers) share (lists.shares ++ longer) is
    (ap (λ (ss : List Share). lists.shares ++ ss) added ∙ sym (append_assoc lists.shares shares (share ∷ []))) levels so_far defined

pub malformed_more : (told : Option Files) (old new : Reading) (number : ℕ) (shares : List Share) (numbers longer : List ℕ)
    → new ≡ holding new.held (advanced old) → longer ≡ numbers ++ number ∷ []
    → IfThere told old.name (λ bytes. Gives (Ok (given.Malformed number)) (Ok (record_answer old.next (records old.width bytes))))
    → GoOn told old shares numbers new shares longer
malformed_more told old new number shares numbers longer is added defined lists so_far =
    malformed_added told old new (with_part lists shares numbers) number longer is added so_far defined

pub none_more : (told : Option Files) (old new : Reading) (shares : List Share) (numbers : List ℕ) → new ≡ old → GoOn told old shares numbers new shares numbers
none_more told old new shares numbers is lists so_far = subst (λ r. AreSoFar told r (with_part lists shares numbers)) (sym is) so_far

pub none_left : (told : Option Files) (old new : Reading) (shares : List Share) (numbers : List ℕ) → new ≡ old
    → IfThere told old.name (λ bytes. Gives (Ok given.End) (Ok (record_answer old.next (records old.width bytes))))
    → EndSo told old shares numbers new shares numbers
none_left told old new shares numbers is defined lists so_far = none_added told old new (with_part lists shares numbers) is so_far defined
