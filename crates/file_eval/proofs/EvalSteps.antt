-- The texts of `eval` over one more record, and over all of them.
use Rattle.std.proofs.Common.{◌≡◌, ℕ, ◌+◌, ◌*◌, ◌<◌, ◌≤◌, Bool, List, [], ◌∷◌, ◌++◌, Some, length, take, refl, sym, ◌∙◌, ap, arith, append-nil}
use Rattle.std.specs.Prelude.{slice_get}
use Rattle.std.specs.List.{flat_map}
use Rattle.std.proofs.lemmas.List.{length-take}
use Rattle.std.proofs.lemmas.List.Concat.{flat_map-append}
use Rattle.std.proofs.lemmas.Option.{slice_get-get_or, slice_get_within}
use Rattle.share_format.proofs.CallerLaws.{one_more, shares_of-append, malformed_from-append}
use Rattle.definitions.specs.declared.Side.{Side}
use Rattle.share_format.specs.declared.records.Record.{Record}
use Rattle.share_format.specs.declared.records.Record.TheVariants as given
use Rattle.share_format.specs.Answers.{answer, record_answer, IsGiven}
use Rattle.share_format.specs.ShareFile.{RecordCase, well_formed, malformed, shares_of, malformed_from}
use Rattle.answer_text.specs.RefusedText.{refused_line}
use Rattle.file_eval.specs.ValueLines.{value_line, value_lines, refused_lines, given_value, given_refusal, IsShort}

-- ---- one more record

one_value : (side : Side) (prefix : List Bool) (number : ℕ) (c : RecordCase)
    → flat_map (value_line side prefix) (shares_of (c ∷ [])) ≡ given_value side prefix (answer number (Some c))
one_value side prefix number (well_formed share) = append-nil (value_line side prefix share)
one_value side prefix number malformed = refl

one_refusal : (side : Side) (number : ℕ) (c : RecordCase)
    → flat_map (refused_line side) (malformed_from number (c ∷ [])) ≡ given_refusal side (answer number (Some c))
one_refusal side number (well_formed share) = refl
one_refusal side number malformed = append-nil (refused_line side number)

values-case : (side : Side) (prefix : List Bool) (k : ℕ) (cases : List RecordCase) (c : RecordCase) → slice_get cases k ≡ Some c
    → value_lines side prefix (take (k + 1) cases) ≡ value_lines side prefix (take k cases) ++ given_value side prefix (record_answer k cases)
unfolding value_lines
values-case side prefix k cases c e =
    ap (λ cs. flat_map (value_line side prefix) (shares_of cs)) (one_more cases k c e)
    ∙ ap (flat_map (value_line side prefix)) (shares_of-append (take k cases) (c ∷ []))
    ∙ flat_map-append (value_line side prefix) (shares_of (take k cases)) (shares_of (c ∷ []))
    ∙ ap (λ line. flat_map (value_line side prefix) (shares_of (take k cases)) ++ line)
    (one_value side prefix k c ∙ ap (λ o. given_value side prefix (answer k o)) (sym e))

refusals-case : (side : Side) (k : ℕ) (cases : List RecordCase) (c : RecordCase) → slice_get cases k ≡ Some c
    → refused_lines side (take (k + 1) cases) ≡ refused_lines side (take k cases) ++ given_refusal side (record_answer k cases)
unfolding refused_lines
refusals-case side k cases c e =
    let inside = slice_get_within cases k c e in
    let at : 0 + length (take k cases) ≡ k = omega (arith, length-take k cases, inside) in
    ap (λ cs. flat_map (refused_line side) (malformed_from 0 cs)) (one_more cases k c e)
    ∙ ap (flat_map (refused_line side)) (malformed_from-append 0 (take k cases) (c ∷ []))
    ∙ flat_map-append (refused_line side) (malformed_from 0 (take k cases)) (malformed_from (0 + length (take k cases)) (c ∷ []))
    ∙ ap (λ n. flat_map (refused_line side) (malformed_from 0 (take k cases)) ++ flat_map (refused_line side) (malformed_from n (c ∷ []))) at
    ∙ ap (λ line. flat_map (refused_line side) (malformed_from 0 (take k cases)) ++ line)
    (one_refusal side k c ∙ ap (λ o. given_refusal side (answer k o)) (sym e))

-- the texts over one more record are those before and what it adds
pub values-more : (side : Side) (prefix : List Bool) (k : ℕ) (cases : List RecordCase) → k < length cases
    → value_lines side prefix (take (k + 1) cases) ≡ value_lines side prefix (take k cases) ++ given_value side prefix (record_answer k cases)
values-more side prefix k cases h = values-case side prefix k cases _ (slice_get-get_or cases k malformed h)

pub refusals-more : (side : Side) (k : ℕ) (cases : List RecordCase) → k < length cases
    → refused_lines side (take (k + 1) cases) ≡ refused_lines side (take k cases) ++ given_refusal side (record_answer k cases)
refusals-more side k cases h = refusals-case side k cases _ (slice_get-get_or cases k malformed h)

-- a prefix within the width is not longer than the levels of what is given
pub short-given : (width number : ℕ) (prefix : List Bool) (r : Record) → length prefix ≤ 8 * width → IsGiven width number r → IsShort prefix r
short-given width number prefix (given.Share share) h e = omega (arith, h, e)
short-given width number prefix (given.Malformed told) h e = tt
short-given width number prefix given.End h e = tt

pub values-none : (side : Side) (prefix : List Bool) (cases : List RecordCase) → value_lines side prefix (take 0 cases) ≡ []
unfolding value_lines
values-none side prefix [] = refl
values-none side prefix (c ∷ cases) = refl

pub refusals-none : (side : Side) (cases : List RecordCase) → refused_lines side (take 0 cases) ≡ []
unfolding refused_lines
refusals-none side [] = refl
refusals-none side (c ∷ cases) = refl

pub ruleset text_steps = (values-none, refusals-none)
