-- What a caller makes of the answers of a reader, one record after another.
use Rattle.std.proofs.Common.{◌≡◌, ℕ, zero, suc, ◌+◌, ◌<◌, ◌≤◌, List, [], ◌∷◌, ◌++◌, length, take, Option, None, Some, refl, ap, ◌∙◌, arith, length-take}
use Rattle.std.specs.Prelude.{slice_get}
use Rattle.std.proofs.lemmas.List.{append-nil, take_all, take_more}
use Rattle.std.proofs.lemmas.Option.{slice_get_within, get_or_from_slice_get}
use Rattle.definitions.specs.Evaluation.{Share}
use Rattle.share_format.specs.declared.records.Record.TheVariants as given
use Rattle.share_format.specs.ShareFile.{RecordCase, well_formed, malformed, shares_of, malformed_from}
use Rattle.share_format.specs.Answers.{answer, record_answer}

-- the case that an answer was given for
share_case : (number : ℕ) (found : Option RecordCase) (share : Share) → answer number found ≡ given.Share share → found ≡ Some (well_formed share)
share_case number None share e = absurd cc
share_case number (Some (well_formed other)) share e = let same : other ≡ share = cc in ap (λ (s : Share). Some (well_formed s)) same
share_case number (Some malformed) share e = absurd cc

malformed_case : (number told : ℕ) (found : Option RecordCase) → answer number found ≡ given.Malformed told → (found ≡ Some malformed) × (told ≡ number)
malformed_case number told None e = absurd cc
malformed_case number told (Some (well_formed other)) e = absurd cc
malformed_case number told (Some malformed) e = (refl, cc)

end_case : (number : ℕ) (found : Option RecordCase) → answer number found ≡ given.End → found ≡ None
end_case number None e = refl
end_case number (Some (well_formed other)) e = absurd cc
end_case number (Some malformed) e = absurd cc

-- one more case at the end of those before
pub one_more : (cases : List RecordCase) (number : ℕ) (case : RecordCase) → slice_get cases number ≡ Some case
    → take (number + 1) cases ≡ take number cases ++ case ∷ []
one_more cases number case e =
    take_more cases number case (slice_get_within cases number case e)
    ∙ ap (λ (c : RecordCase). take number cases ++ c ∷ []) (get_or_from_slice_get cases number case case e)

-- the shares and the malformed records of two lists of cases, one behind the other
pub shares_of-append : (xs ys : List RecordCase) → shares_of (xs ++ ys) ≡ shares_of xs ++ shares_of ys
shares_of-append [] ys = refl
shares_of-append (well_formed share ∷ xs) ys = ap (λ (ss : List Share). share ∷ ss) (shares_of-append xs ys)
shares_of-append (malformed ∷ xs) ys = shares_of-append xs ys

pub malformed_from-append : (first : ℕ) (xs ys : List RecordCase) → malformed_from first (xs ++ ys) ≡ malformed_from first xs ++ malformed_from (first + length xs) ys
malformed_from-append first [] ys = ap (λ n. malformed_from n ys) (omega arith)
malformed_from-append first (well_formed share ∷ xs) ys =
    let next : suc first + length xs ≡ first + suc (length xs) = omega arith in
    malformed_from-append (suc first) xs ys ∙ ap (λ n. malformed_from (suc first) xs ++ malformed_from n ys) next
malformed_from-append first (malformed ∷ xs) ys =
    let next : suc first + length xs ≡ first + suc (length xs) = omega arith in
    ap (λ (ns : List ℕ). first ∷ ns) (malformed_from-append (suc first) xs ys ∙ ap (λ n. malformed_from (suc first) xs ++ malformed_from n ys) next)

-- after a share: it is one more of the shares so far, and the malformed records so far are as before
pub share_taken : (cases : List RecordCase) (number : ℕ) (share : Share) → record_answer number cases ≡ given.Share share
    → (shares_of (take (number + 1) cases) ≡ shares_of (take number cases) ++ share ∷ [])
    × (malformed_from 0 (take (number + 1) cases) ≡ malformed_from 0 (take number cases))
share_taken cases number share e =
    let more = one_more cases number (well_formed share) (share_case number (slice_get cases number) share e) in (
      ap shares_of more ∙ shares_of-append (take number cases) (well_formed share ∷ []),
      ap (malformed_from 0) more ∙ malformed_from-append 0 (take number cases) (well_formed share ∷ []) ∙ append-nil (malformed_from 0 (take number cases)),
    )

-- after a malformed record: its number is one more of those so far, and the shares so far are as before
pub malformed_taken : (cases : List RecordCase) (number told : ℕ) → record_answer number cases ≡ given.Malformed told
    → (told ≡ number) × (shares_of (take (number + 1) cases) ≡ shares_of (take number cases))
    × (malformed_from 0 (take (number + 1) cases) ≡ malformed_from 0 (take number cases) ++ told ∷ [])
malformed_taken cases number told e =
    let it = malformed_case number told (slice_get cases number) e in
    let inside : number < length cases = slice_get_within cases number malformed it.0 in
    let more = one_more cases number malformed it.0 in
    let last : 0 + length (take number cases) ≡ told = omega (arith, length-take number cases, it.1) in (
      it.1,
      ap shares_of more ∙ shares_of-append (take number cases) (malformed ∷ []) ∙ append-nil (shares_of (take number cases)),
      ap (malformed_from 0) more ∙ malformed_from-append 0 (take number cases) (malformed ∷ [])
          ∙ ap (λ n. malformed_from 0 (take number cases) ++ n ∷ []) last,
    )

none_past : (cases : List RecordCase) (number : ℕ) → slice_get cases number ≡ None → length cases ≤ number
none_past [] number e = omega arith
none_past (case ∷ cases) zero e = absurd cc
none_past (case ∷ cases) (suc number) e = omega (arith, none_past cases number e)

-- at the end: the records so far are all
pub all_taken : (cases : List RecordCase) (number : ℕ) → record_answer number cases ≡ given.End → take number cases ≡ cases
all_taken cases number e = take_all number cases (none_past cases number (end_case number (slice_get cases number) e))
