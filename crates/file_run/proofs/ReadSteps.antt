-- What the reading of both files says of the answer.
use Rattle.std.proofs.Common.{◌≡◌, inl, inr, nat_eq, cond, refl, sym, ap, subst, ◌∙◌}
use Rattle.std.specs.Prelude.{ℕ, List, Option, None, Some, Result, Ok, Err, IfSome}
use Rattle.std.specs.FinMap.{get}
use Rattle.std.proofs.lemmas.Bool.{eq-eqb, ne_eqb}
use Rattle.definitions.specs.declared.Side.{Side}
use Rattle.definitions.specs.declared.Side.TheVariants.{Zero, One}
use Rattle.shelf_io.specs.Files.{Files}
use Rattle.share_format.specs.Causes.{Gives}
use Rattle.share_format.specs.declared.file_error.FileError.{FileError}
use Rattle.share_format.specs.declared.file_error.FileError.TheVariants as files
use Rattle.share_lists.specs.FileLists.{ShareLists, file_lists}
use Rattle.file_run.specs.declared.errors.RunError.{RunError}
use Rattle.file_run.specs.declared.errors.RunError.TheVariants.{File, Widths}
use Rattle.file_run.specs.Beginnings.{Both, both_lists, begun}
use Rattle.file_run.specs.Readings.{IsRead, AreRead, SideFails, SideStops, BothStop}

-- ---- one side

given_error : (side : Side) (e : FileError) (found : Result ShareLists FileError) → found ≡ Err e → SideStops side (File side e) found
given_error side e found h = inr (subst (λ f. SideFails side f (File side e)) (sym h) refl)

pub side_fails : (side : Side) (e : FileError) (found : Result ShareLists FileError) → Gives {X = ShareLists} (Err e) found → SideStops side (File side e) found
side_fails side files.Missing found h = given_error side files.Missing found h
side_fails side (files.TooLong length) found h = given_error side (files.TooLong length) found h
side_fails side (files.Header at) found h = given_error side (files.Header at) found h
side_fails side (files.Cut at) found h = given_error side (files.Cut at) found h
side_fails side files.Shelf found h = inl tt
side_fails side files.Memory found h = inl tt

-- ---- both sides

pub zero_fails : (e : RunError) (zero one : Result ShareLists FileError) → SideStops Zero e zero → BothStop e (both_lists zero one)
zero_fails e zero one (inl fault) = inl fault
zero_fails e (Ok lists) one (inr h) = absurd h
zero_fails e (Err error) one (inr h) = inr (ap (λ (x : RunError). Err x) (sym h))

pub one_fails : (e : RunError) (zeros : ShareLists) (zero one : Result ShareLists FileError) → zero ≡ Ok zeros → SideStops One e one
    → BothStop e (both_lists zero one)
one_fails e zeros zero one is (inl fault) = inl fault
one_fails e zeros zero (Ok lists) is (inr h) = absurd h
one_fails e zeros zero (Err error) is (inr h) = inr (ap (λ z. both_lists z (Err error)) is ∙ ap (λ (x : RunError). Err x) (sym h))

both_whole : (zeros ones : ShareLists) (zero one : Result ShareLists FileError) → zero ≡ Ok zeros → one ≡ Ok ones
    → both_lists zero one ≡ cond (nat_eq zeros.width ones.width) (Ok (zeros, ones)) (Err (Widths zeros.width ones.width))
both_whole zeros ones zero one z o = ap (λ f. both_lists f one) z ∙ ap (both_lists (Ok zeros)) o

pub both_equal : (zeros ones : ShareLists) (zero one : Result ShareLists FileError) → zero ≡ Ok zeros → one ≡ Ok ones → zeros.width ≡ ones.width
    → both_lists zero one ≡ Ok (zeros, ones)
both_equal zeros ones zero one z o same =
    both_whole zeros ones zero one z o
    ∙ ap (λ b. cond b (Ok (zeros, ones)) (Err (Widths zeros.width ones.width))) (eq-eqb zeros.width ones.width same)

pub both_differ : (zeros ones : ShareLists) (zero one : Result ShareLists FileError) → zero ≡ Ok zeros → one ≡ Ok ones → (zeros.width ≡ ones.width → ⊥)
    → both_lists zero one ≡ Err (Widths zeros.width ones.width)
both_differ zeros ones zero one z o differ =
    both_whole zeros ones zero one z o
    ∙ ap (λ b. cond b (Ok (zeros, ones)) (Err (Widths zeros.width ones.width))) (ne_eqb zeros.width ones.width differ)

-- ---- under a condition

pub some_map : {X : Type 0} (o : Option X) (P Q : X → Type 0) → ((x : X) → P x → Q x) → IfSome o P → IfSome o Q
some_map None P Q f h = tt
some_map (Some x) P Q f h = f x h

pub some_both : {X : Type 0} (o : Option X) (P Q R : X → Type 0) → ((x : X) → P x → Q x → R x) → IfSome o P → IfSome o Q → IfSome o R
some_both None P Q R f p q = tt
some_both (Some x) P Q R f p q = f x p q

-- ---- on a shelf that tells

-- a side's file that was not read
pub side_stops : (told : Option Files) (name : List ℕ) (side : Side) (e : FileError)
    → IfSome told (λ held. Gives {X = ShareLists} (Err e) (file_lists side (get held name)))
    → IfSome told (λ held. SideStops side (File side e) (file_lists side (get held name)))
side_stops told name side e h =
    some_map told (λ held. Gives {X = ShareLists} (Err e) (file_lists side (get held name))) (λ held. SideStops side (File side e) (file_lists side (get held name)))
    (λ held g. side_fails side e (file_lists side (get held name)) g) h

-- no file was read, for want of memory
pub none_stops : (told : Option Files) (zero one : List ℕ) → IfSome told (λ held. BothStop (File Zero files.Memory) (begun zero one held))
none_stops None zero one = tt
none_stops (Some held) zero one = inl tt

-- side 0's file was not read
pub zero_stops : (told : Option Files) (zero one : List ℕ) (e : RunError) → IfSome told (λ held. SideStops Zero e (file_lists Zero (get held zero)))
    → IfSome told (λ held. BothStop e (begun zero one held))
unfolding begun
zero_stops told zero one e h =
    some_map told (λ held. SideStops Zero e (file_lists Zero (get held zero))) (λ held. BothStop e (begun zero one held))
    (λ held s. zero_fails e (file_lists Zero (get held zero)) (file_lists One (get held one)) s) h

-- side 1's file was not read
pub one_stops : (told mid : Option Files) (zero one : List ℕ) (zeros : ShareLists) (e : RunError) → mid ≡ told
    → IfSome told (λ held. file_lists Zero (get held zero) ≡ Ok zeros) → IfSome mid (λ held. SideStops One e (file_lists One (get held one)))
    → IfSome told (λ held. BothStop e (begun zero one held))
unfolding begun
one_stops told mid zero one zeros e same is h =
    some_both told (λ held. file_lists Zero (get held zero) ≡ Ok zeros) (λ held. SideStops One e (file_lists One (get held one)))
    (λ held. BothStop e (begun zero one held))
    (λ held z s. one_fails e zeros (file_lists Zero (get held zero)) (file_lists One (get held one)) z s) is
    (subst (λ t. IfSome t (λ held. SideStops One e (file_lists One (get held one)))) same h)

-- both were read, and their widths differ
pub widths_stop : (told mid : Option Files) (zero one : List ℕ) (zeros ones : ShareLists) (wide0 wide1 : ℕ) → zeros.width ≡ wide0 → ones.width ≡ wide1
    → mid ≡ told → IfSome told (λ held. file_lists Zero (get held zero) ≡ Ok zeros) → IfSome mid (λ held. file_lists One (get held one) ≡ Ok ones)
    → (wide0 ≡ wide1 → ⊥) → IfSome told (λ held. BothStop (Widths wide0 wide1) (begun zero one held))
unfolding begun
widths_stop told mid zero one zeros ones wide0 wide1 zw ow same z o differ =
    subst (λ w. IfSome told (λ held. BothStop (Widths wide0 w) (begun zero one held))) ow
    (subst (λ w. IfSome told (λ held. BothStop (Widths w ones.width) (begun zero one held))) zw
    (some_both told (λ held. file_lists Zero (get held zero) ≡ Ok zeros) (λ held. file_lists One (get held one) ≡ Ok ones)
    (λ held. BothStop (Widths zeros.width ones.width) (begun zero one held))
    (λ held zh oh. inr (both_differ zeros ones (file_lists Zero (get held zero)) (file_lists One (get held one)) zh oh (λ e. differ (sym zw ∙ e ∙ ow)))) z
    (subst (λ t. IfSome t (λ held. file_lists One (get held one) ≡ Ok ones)) same o)))

-- both were read, and go together
pub both_begun : (told : Option Files) (zero one : List ℕ) (zeros ones : ShareLists)
    → IfSome told (λ held. file_lists Zero (get held zero) ≡ Ok zeros) → IfSome told (λ held. file_lists One (get held one) ≡ Ok ones)
    → zeros.width ≡ ones.width → IfSome told (λ held. begun zero one held ≡ Ok (zeros, ones))
unfolding begun
both_begun told zero one zeros ones z o same =
    some_both told (λ held. file_lists Zero (get held zero) ≡ Ok zeros) (λ held. file_lists One (get held one) ≡ Ok ones)
    (λ held. begun zero one held ≡ Ok (zeros, ones))
    (λ held zh oh. both_equal zeros ones (file_lists Zero (get held zero)) (file_lists One (get held one)) zh oh same) z o
