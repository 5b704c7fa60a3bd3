-- A batch has at most as many reports as each side has shares.
use Rattle.std.proofs.Common.{◌≡◌, ℕ, ◌≤◌, inl, inr, Bool, true, false, List, [], ◌∷◌, refl, sym, ◌∙◌, ap, subst, length, map, arith}
use Rattle.std.specs.Prelude.{nat_eq, nat_lt, ◌||◌}
use Rattle.std.specs.List.{All, IsDistinct, AllByRecursion, list_any}
use Rattle.std.specs.Set.{is_member}
use Rattle.std.specs.Cmp.Lexicographic.{pointwise}
use Rattle.std.proofs.lemmas.Bool.{false≢true}
use Rattle.std.proofs.lemmas.Cmp.{nat_list_eq_equiv}
use Rattle.std.proofs.lemmas.List.{length-map}
use Rattle.std.proofs.lemmas.List.Elements.{All-head, All-tail, All-weaker}
use Rattle.std.proofs.lemmas.Map.Made.{length-le_from_is_member}
use Rattle.definitions.specs.Evaluation.{Share}
use Rattle.walk_definitions.specs.Ascending.{bytes_before}
use Rattle.walk_definitions.specs.Reports.{Report, same_bytes, batch}
use Rattle.walk_definitions.specs.Laws.{IsAmong, AllIdsAfter, IdsAscend}
use Rattle.walk_definitions.proofs.Order.{numbers_ordered, lists_ordered}
use Rattle.walk_definitions.proofs.BatchLaws.{batch_order_law}
use Rattle.report_batch.specs.Laws.{IsGiven}
use Rattle.intake_state.proofs.Same.{bytes_decide}
use Rattle.report_batch.proofs.Lists.{names}
use Rattle.report_batch.proofs.Given.{given}

abbrev ids : List Report → List (List ℕ)
ids reports = map (λ r. r.id) reports

-- ---- ids that ascend differ

apart : (xs ys : List ℕ) → bytes_before xs ys ≡ true → same_bytes xs ys ≡ false
apart xs ys e = at (same_bytes xs ys) refl
  where
    at : (b : Bool) → same_bytes xs ys ≡ b → b ≡ false
    at true f =
        absurd (false≢true (sym ((lists_ordered nat_lt numbers_ordered).self xs) ∙ subst (λ z. bytes_before xs z ≡ true) (sym ((bytes_decide xs ys).0 f)) e))
    at false f = refl

after-apart : (id : List ℕ) (rs : List Report) → AllIdsAfter id rs → AllByRecursion (λ y. same_bytes id y ≡ false) (ids rs)
after-apart id [] all = tt
after-apart id (r ∷ rs) all = (apart id r.id all.0, after-apart id rs all.1)

distinct : (rs : List Report) → IdsAscend rs → IsDistinct (pointwise nat_eq) (ids rs)
unfolding IsDistinct
distinct [] up = tt
distinct (r ∷ rs) up = (after-apart r.id rs up.0, distinct rs up.1)

-- ---- each id is among those of a side's shares

among-member : (s : Share) (shares : List Share) → IsAmong s shares → is_member (pointwise nat_eq) (names shares) s.id ≡ true
among-member s [] m = absurd m
among-member s (t ∷ ts) (inl e) =
    ap (λ b. b || list_any (pointwise nat_eq s.id) (names ts)) ((bytes_decide s.id t.id).1 (ap (λ (u : Share). u.id) (sym e)))
among-member s (t ∷ ts) (inr m) = at (pointwise nat_eq s.id t.id) (among-member s ts m)
  where
    at : (b : Bool) → list_any (pointwise nat_eq s.id) (names ts) ≡ true → (b || list_any (pointwise nat_eq s.id) (names ts)) ≡ true
    at true e = refl
    at false e = e

member-ids : (shares : List Share) (rs : List Report) → All (λ r. is_member (pointwise nat_eq) (names shares) r.id ≡ true) rs
    → (q : List ℕ) → is_member (pointwise nat_eq) (ids rs) q ≡ true → is_member (pointwise nat_eq) (names shares) q ≡ true
member-ids shares [] all q e = absurd (false≢true e)
member-ids shares (r ∷ rs) all q e = at (pointwise nat_eq q r.id) refl e (member-ids shares rs (All-tail Here r rs all) q)
  where
    Here : Report → Type 0
    Here r = is_member (pointwise nat_eq) (names shares) r.id ≡ true

    at : (b : Bool) → pointwise nat_eq q r.id ≡ b → (b || list_any (pointwise nat_eq q) (ids rs)) ≡ true
        → (is_member (pointwise nat_eq) (ids rs) q ≡ true → is_member (pointwise nat_eq) (names shares) q ≡ true)
        → is_member (pointwise nat_eq) (names shares) q ≡ true
    at true f g more = subst (λ z. is_member (pointwise nat_eq) (names shares) z ≡ true) (sym ((bytes_decide q r.id).0 f)) (All-head Here r rs all)
    at false f g more = more g

few : (rs : List Report) (shares : List Share) → IdsAscend rs → All (λ r. is_member (pointwise nat_eq) (names shares) r.id ≡ true) rs → length rs ≤ length shares
few rs shares up all =
    let le = length-le_from_is_member nat_list_eq_equiv (ids rs) (names shares) (distinct rs up) (member-ids shares rs all) in
    omega (arith, le, length-map rs (λ (r : Report). r.id), length-map shares (λ (s : Share). s.id))

pub size : (shares0 shares1 : List Share) → (length (batch shares0 shares1) ≤ length shares0) × (length (batch shares0 shares1) ≤ length shares1)
size shares0 shares1 = (
  few (batch shares0 shares1) shares0 (batch_order_law shares0 shares1)
      (All-weaker (IsGiven shares0 shares1) (λ r. is_member (pointwise nat_eq) (names shares0) r.id ≡ true)
      (λ r is. subst (λ z. is_member (pointwise nat_eq) (names shares0) z ≡ true) is.named0 (among-member r.held0 shares0 is.given0))
      (batch shares0 shares1) (given shares0 shares1)),
  few (batch shares0 shares1) shares1 (batch_order_law shares0 shares1)
      (All-weaker (IsGiven shares0 shares1) (λ r. is_member (pointwise nat_eq) (names shares1) r.id ≡ true)
      (λ r is. subst (λ z. is_member (pointwise nat_eq) (names shares1) z ≡ true) is.named1 (among-member r.held1 shares1 is.given1))
      (batch shares0 shares1) (given shares0 shares1)),
)
