-- The three lists of a batch are read off its reports.
use Rattle.std.proofs.Common.{◌≡◌, ℕ, List, [], ◌∷◌, refl, sym, ◌∙◌, ap, length, map}
use Rattle.std.proofs.lemmas.List.{length-map}
use Rattle.definitions.specs.Evaluation.{Share}
use Rattle.walk_definitions.specs.Reports.{Report}
use Rattle.report_batch.specs.Batches.{reports_of}

abbrev pub names : List Share → List (List ℕ)
names shares = map (λ s. s.id) shares

pub ids-reports_of : (ids : List (List ℕ)) (zero one : List Share) → names zero ≡ ids → names one ≡ ids → map (λ r. r.id) (reports_of ids zero one) ≡ ids
ids-reports_of [] zero one e f = refl
ids-reports_of (id ∷ ids) [] one e f = cc
ids-reports_of (id ∷ ids) (s ∷ zero) [] e f = cc
ids-reports_of (id ∷ ids) (s ∷ zero) (t ∷ one) e f =
    let e' : names zero ≡ ids = cc in
    let f' : names one ≡ ids = cc in
    ap (λ l. id ∷ l) (ids-reports_of ids zero one e' f')

pub held0-reports_of : (ids : List (List ℕ)) (zero one : List Share) → names zero ≡ ids → names one ≡ ids → map (λ r. r.held0) (reports_of ids zero one) ≡ zero
held0-reports_of [] [] one e f = refl
held0-reports_of [] (s ∷ zero) one e f = cc
held0-reports_of (id ∷ ids) [] one e f = cc
held0-reports_of (id ∷ ids) (s ∷ zero) [] e f = cc
held0-reports_of (id ∷ ids) (s ∷ zero) (t ∷ one) e f =
    let e' : names zero ≡ ids = cc in
    let f' : names one ≡ ids = cc in
    ap (λ l. s ∷ l) (held0-reports_of ids zero one e' f')

pub held1-reports_of : (ids : List (List ℕ)) (zero one : List Share) → names zero ≡ ids → names one ≡ ids → map (λ r. r.held1) (reports_of ids zero one) ≡ one
held1-reports_of [] zero [] e f = refl
held1-reports_of [] zero (t ∷ one) e f = cc
held1-reports_of (id ∷ ids) [] one e f = cc
held1-reports_of (id ∷ ids) (s ∷ zero) [] e f = cc
held1-reports_of (id ∷ ids) (s ∷ zero) (t ∷ one) e f =
    let e' : names zero ≡ ids = cc in
    let f' : names one ≡ ids = cc in
    ap (λ l. t ∷ l) (held1-reports_of ids zero one e' f')

pub length-reports_of : (ids : List (List ℕ)) (zero one : List Share) → names zero ≡ ids → names one ≡ ids → length (reports_of ids zero one) ≡ length ids
length-reports_of ids zero one e f =
    sym (length-map (reports_of ids zero one) (λ (r : Report). r.id)) ∙ ap length (ids-reports_of ids zero one e f)
