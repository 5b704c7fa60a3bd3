-- The batch of the two lists that are made of strings.
use Rattle.std.proofs.Common.{◌≡◌, ℕ, ◌+◌, ◌^◌, ◌<◌, ◌≤◌, inl, inr, Bool, true, List, [], ◌∷◌, Option, Some, length, refl, sym, ◌∙◌, ap, subst, arith}
use Rattle.std.specs.Prelude.{nat_lt}
use Rattle.std.specs.List.{filter, filter_map, cons_option}
use Rattle.std.proofs.lemmas.Bool.{false≢true}
use Rattle.definitions.specs.ReportIds.{report_id}
use Rattle.definitions.specs.Evaluation.{Share}
use Rattle.walk_definitions.specs.Ascending.{bytes_before, ascending}
use Rattle.walk_definitions.specs.Reports.{Report, same_bytes, standing, joined}
use Rattle.walk_definitions.specs.Laws.{IsAmong}
use Rattle.walk_definitions.proofs.Order.{IsOrder, AllAbove, Rises, numbers_ordered, lists_ordered, rises-ascending, member-ascending, ascending-member, same_rise}
use Rattle.walk_definitions.proofs.BatchLaws.{bytes-is, bytes-self, agreed-from, filter-among, among-filter, ids}
use Rattle.idpf_gen.specs.Made.{zero_share, one_share, of_lines, made_zero, made_one}
use Rattle.pair_shares.specs.MadeReports.{made_report, reports_from, made_reports}
use Rattle.pair_shares.specs.Laws.{BatchLaw}
use Rattle.pair_shares.proofs.IdOrder.{lines_ascend}

abbrev ordered : IsOrder bytes_before
ordered = lists_ordered nat_lt numbers_ordered

-- ---- of lists whose ids rise, each share stands under its id

above_among : (id : List ℕ) (shares : List Share) (s : Share) → AllAbove bytes_before ordered id (ids shares) → IsAmong s shares → bytes_before id s.id ≡ true
above_among id [] s all m = absurd m
above_among id (t ∷ ts) s all (inl e) = subst (λ (w : Share). bytes_before id w.id ≡ true) e all.0
above_among id (t ∷ ts) s all (inr m) = above_among id ts s all.1 m

-- no id comes before itself
not_above : (id other : List ℕ) → other ≡ id → bytes_before id other ≡ true → ⊥
not_above id other same e = false≢true (sym (ordered.self id) ∙ subst (λ w. bytes_before id w ≡ true) same e)

one_of_id : (shares : List Share) → Rises bytes_before ordered (ids shares) → (s t : Share) → IsAmong s shares → IsAmong t shares → t.id ≡ s.id → t ≡ s
one_of_id [] up s t m n e = absurd m
one_of_id (x ∷ xs) up s t (inl p) (inl q) e = sym q ∙ p
one_of_id (x ∷ xs) up s t (inl p) (inr n) e = absurd (not_above x.id t.id (e ∙ ap (λ (w : Share). w.id) (sym p)) (above_among x.id xs t up.0 n))
one_of_id (x ∷ xs) up s t (inr m) (inl q) e = absurd (not_above x.id s.id (sym e ∙ ap (λ (w : Share). w.id) (sym q)) (above_among x.id xs s up.0 m))
one_of_id (x ∷ xs) up s t (inr m) (inr n) e = one_of_id xs up.1 s t m n e

stands : (shares : List Share) → Rises bytes_before ordered (ids shares) → (s : Share) → IsAmong s shares → standing shares s.id ≡ Some s
stands shares up s m =
    let p = λ (t : Share). same_bytes t.id s.id in
    agreed-from (filter p shares) s (among-filter p s shares m (bytes-self s.id))
    (λ t n. let is = filter-among p t shares n in one_of_id shares up s t m is.0 (bytes-is t.id s.id is.1))

-- ---- the ids of consecutive lines rise

module _ (tag : ℕ) (share_of : ℕ → List Bool → Share) (named : (line : ℕ) (s : List Bool) → (share_of line s).id ≡ report_id tag line) where
  above_lines : (line from : ℕ) (strings : List (List Bool)) → line < from → from + length strings ≤ 2 ^ 64
      → AllAbove bytes_before ordered (report_id tag line) (ids (of_lines share_of from strings))
  above_lines line from [] less fits = tt
  above_lines line from (s ∷ ss) less fits = (
    subst (λ id. bytes_before (report_id tag line) id ≡ true) (sym (named from s)) (lines_ascend tag line from less (omega arith)),
    above_lines line (from + 1) ss (omega arith) (omega arith),
  )

  lines_rise : (line : ℕ) (strings : List (List Bool)) → line + length strings ≤ 2 ^ 64 → Rises bytes_before ordered (ids (of_lines share_of line strings))
  lines_rise line [] fits = tt
  lines_rise line (s ∷ ss) fits = (
    subst (λ id. AllAbove bytes_before ordered id (ids (of_lines share_of (line + 1) ss))) (sym (named line s))
        (above_lines line (line + 1) ss (omega arith) (omega arith)),
    lines_rise (line + 1) ss (omega arith),
  )

-- ids that rise are in ascending order as they stand
rising_ascend : (xs : List (List ℕ)) → Rises bytes_before ordered xs → ascending bytes_before xs ≡ xs
rising_ascend xs up =
    same_rise bytes_before ordered (ascending bytes_before xs) xs (rises-ascending bytes_before ordered xs) up
    (λ z m. ascending-member bytes_before ordered z xs m) (λ z m. member-ascending bytes_before ordered z xs m)

-- ---- the batch

module _ (master : List ℕ) (tag : ℕ) (zeros ones : List Share) (up0 : Rises bytes_before ordered (ids zeros)) (up1 : Rises bytes_before ordered (ids ones)) where
  abbrev report_of : List ℕ → Option Report
  report_of id = joined id (standing zeros id) (standing ones id)

  reports_of_lines : (line : ℕ) (strings : List (List Bool)) → ((s : Share) → IsAmong s (of_lines (zero_share master tag) line strings) → IsAmong s zeros)
      → ((s : Share) → IsAmong s (of_lines (one_share master tag) line strings) → IsAmong s ones)
      → filter_map report_of (ids (of_lines (zero_share master tag) line strings)) ≡ reports_from master tag line strings
  reports_of_lines line [] all0 all1 = refl
  reports_of_lines line (s ∷ ss) all0 all1 =
      let id : List ℕ = report_id tag line in
      let zero : Share = zero_share master tag line s in
      let one : Share = one_share master tag line s in
      let here : report_of id ≡ Some (made_report master tag line s) =
      ap (λ o. joined id o (standing ones id)) (stands zeros up0 zero (all0 zero (inl refl))) ∙ ap (joined id (Some zero)) (stands ones up1 one (all1 one (inl refl))) in
      ap (λ o. cons_option o (filter_map report_of (ids (of_lines (zero_share master tag) (line + 1) ss)))) here
      ∙ ap (λ rs. made_report master tag line s ∷ rs) (reports_of_lines (line + 1) ss (λ t m. all0 t (inr m)) (λ t m. all1 t (inr m)))

pub length-reports_from : (master : List ℕ) (tag line : ℕ) (strings : List (List Bool)) → length (reports_from master tag line strings) ≡ length strings
length-reports_from master tag line [] = refl
length-reports_from master tag line (s ∷ ss) = let rest = length-reports_from master tag (line + 1) ss in omega arith

pub batch_law : BatchLaw
unfolding made_reports
batch_law master tag strings fits =
    let zeros : List Share = made_zero master tag 0 strings in
    let ones : List Share = made_one master tag 0 strings in
    let up0 : Rises bytes_before ordered (ids zeros) = lines_rise tag (zero_share master tag) (λ line s. refl) 0 strings (omega arith) in
    let up1 : Rises bytes_before ordered (ids ones) = lines_rise tag (one_share master tag) (λ line s. refl) 0 strings (omega arith) in
    record {
      batch = ap (filter_map (report_of master tag zeros ones up0 up1)) (rising_ascend (ids zeros) up0)
          ∙ reports_of_lines master tag zeros ones up0 up1 0 strings (λ s m. m) (λ s m. m);
      count = length-reports_from master tag 0 strings;
    }
