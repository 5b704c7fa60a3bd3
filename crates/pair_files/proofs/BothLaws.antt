-- Two names whose bytes grow together.
use Rattle.std.proofs.Common.{◌≡◌, inl, inr, ℕ, ◌++◌, List, [], Option, None, Some, length, take, drop, sym, ap, ◌∙◌, append_assoc}
use Rattle.std.specs.Prelude.{◌≢◌}
use Rattle.std.specs.Option.{option_map}
use Rattle.std.proofs.Math.Seq.{take-append_seam}
use Rattle.std.proofs.lemmas.List.{take-append-drop}
use Rattle.shelf_io.specs.Files.{Files, IsThere, with_bytes, with_more}
use Rattle.shelf_io.proofs.FileLaws.{inserted_apart, more_of_written, written_is_there}
use Rattle.pair_files.specs.PairFiles.{with_both, HoldFronts}

-- the two names may be written in either order
both_turned : (held : Files) (k xs l ys : List ℕ) → k ≢ l → with_both k xs l ys held ≡ with_bytes k xs (with_bytes l ys held)
both_turned held k xs l ys apart = inserted_apart held k l xs ys apart

-- both names are there
pub first_is_there : (before now : Option Files) (k xs l ys : List ℕ) → k ≢ l → now ≡ option_map (with_both k xs l ys) before → IsThere now k
first_is_there None now k xs l ys apart e = written_is_there None now k xs e
first_is_there (Some held) now k xs l ys apart e =
    written_is_there (Some (with_bytes l ys held)) now k xs (e ∙ ap Some (both_turned held k xs l ys apart))

pub second_is_there : (before now : Option Files) (k xs l ys : List ℕ) → now ≡ option_map (with_both k xs l ys) before → IsThere now l
second_is_there None now k xs l ys e = written_is_there None now l ys e
second_is_there (Some held) now k xs l ys e = written_is_there (Some (with_bytes k xs held)) now l ys e

-- one name written, and then the other
pub second_written : (before mid now : Option Files) (k xs l ys : List ℕ) → mid ≡ option_map (with_bytes k xs) before
    → now ≡ option_map (with_bytes l ys) mid → now ≡ option_map (with_both k xs l ys) before
second_written None mid now k xs l ys e f = f ∙ ap (option_map (with_bytes l ys)) e
second_written (Some held) mid now k xs l ys e f = f ∙ ap (option_map (with_bytes l ys)) e

-- more behind the first text
pub first_grown : (before mid now : Option Files) (k xs more text l ys : List ℕ) → k ≢ l → xs ++ more ≡ text
    → mid ≡ option_map (with_both k xs l ys) before → now ≡ option_map (with_more k more) mid → now ≡ option_map (with_both k text l ys) before
first_grown None mid now k xs more text l ys apart whole e f = f ∙ ap (option_map (with_more k more)) e
first_grown (Some held) mid now k xs more text l ys apart whole e f =
    f ∙ ap (option_map (with_more k more)) e
    ∙ ap (λ files. Some (with_more k more files)) (both_turned held k xs l ys apart)
    ∙ ap Some (more_of_written (with_bytes l ys held) k xs more)
    ∙ ap (λ t. Some (with_bytes k t (with_bytes l ys held))) whole
    ∙ ap Some (sym (both_turned held k text l ys apart))

-- more behind the second text
pub second_grown : (before mid now : Option Files) (k xs l ys more text : List ℕ) → ys ++ more ≡ text
    → mid ≡ option_map (with_both k xs l ys) before → now ≡ option_map (with_more l more) mid → now ≡ option_map (with_both k xs l text) before
second_grown None mid now k xs l ys more text whole e f = f ∙ ap (option_map (with_more l more)) e
second_grown (Some held) mid now k xs l ys more text whole e f =
    f ∙ ap (option_map (with_more l more)) e ∙ ap Some (more_of_written (with_bytes k xs held) l ys more)
    ∙ ap (λ t. Some (with_both k xs l t held)) whole

-- both names begun, and a text written under the first
pub first_text_written : (before mid begun now : Option Files) (k bytes text l : List ℕ) → k ≢ l → bytes ≡ text → mid ≡ option_map (with_bytes k []) before
    → begun ≡ option_map (with_bytes l []) mid → now ≡ option_map (with_more k bytes) begun → now ≡ option_map (with_both k text l []) before
first_text_written before mid begun now k bytes text l apart is e f h =
    first_grown before begun now k [] bytes text l [] apart is (second_written before mid begun k [] l [] e f) h

-- the first name alone holds a front of its text
pub first_holds_front : (before now : Option Files) (k xs rest x l y : List ℕ) → x ≡ xs ++ rest → now ≡ option_map (with_bytes k xs) before
    → HoldFronts before now k x l y
first_holds_front before now k xs rest x l y whole e =
    inl (inr (length xs, e ∙ ap (λ t. option_map (with_bytes k t) before) (sym (ap (take (length xs)) whole ∙ take-append_seam xs rest))))

-- both names hold fronts of their texts
pub both_hold_fronts : (before now : Option Files) (k xs rest_x x l ys rest_y y : List ℕ) → x ≡ xs ++ rest_x → y ≡ ys ++ rest_y
    → now ≡ option_map (with_both k xs l ys) before → HoldFronts before now k x l y
both_hold_fronts before now k xs rest_x x l ys rest_y y whole_x whole_y e =
    inr (
      length xs,
      length ys,
      e ∙ ap (λ t. option_map (with_both k t l ys) before) (sym (ap (take (length xs)) whole_x ∙ take-append_seam xs rest_x))
          ∙ ap (λ t. option_map (with_both k (take (length xs) x) l t) before) (sym (ap (take (length ys)) whole_y ∙ take-append_seam ys rest_y)),
    )

-- a front and what follows it
in_two : (n : ℕ) (xs more : List ℕ) → xs ++ more ≡ take n xs ++ (drop n xs ++ more)
in_two n xs more = ap (λ t. t ++ more) (sym (take-append-drop n xs)) ∙ append_assoc (take n xs) (drop n xs) more

-- fronts of two texts are fronts of longer ones
pub fronts_of_longer : (before now : Option Files) (k x more_x l y more_y : List ℕ) → HoldFronts before now k x l y
    → HoldFronts before now k (x ++ more_x) l (y ++ more_y)
fronts_of_longer before now k x more_x l y more_y (inl (inl same)) = inl (inl same)
fronts_of_longer before now k x more_x l y more_y (inl (inr front)) =
    first_holds_front before now k (take front.0 x) (drop front.0 x ++ more_x) (x ++ more_x) l (y ++ more_y) (in_two front.0 x more_x) front.1
fronts_of_longer before now k x more_x l y more_y (inr fronts) =
    both_hold_fronts before now k (take fronts.0 x) (drop fronts.0 x ++ more_x) (x ++ more_x) l (take fronts.1 y) (drop fronts.1 y ++ more_y) (y ++ more_y)
    (in_two fronts.0 x more_x) (in_two fronts.1 y more_y) fronts.2
