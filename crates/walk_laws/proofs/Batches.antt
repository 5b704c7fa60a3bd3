-- The batch has the ids that stand on both sides, with their shares.
use Rattle.std.proofs.Common.{◌≡◌, inl, inr, ℕ, Bool, true, List, [], ◌∷◌, Option, Some, None, refl, sym, ◌∙◌, ap, subst}
use Rattle.std.specs.Prelude.{nat_lt}
use Rattle.std.specs.List.{filter, filter_map, cons_option, AllByRecursion}
use Rattle.std.proofs.lemmas.List.Elements.{All-from_recursion}
use Rattle.definitions.specs.Evaluation.{Share}
use Rattle.walk_definitions.specs.Ascending.{bytes_before, ascending}
use Rattle.walk_definitions.specs.Reports.{Report, same_bytes, standing, joined, batch}
use Rattle.walk_definitions.proofs.Order.{Member, numbers_ordered, lists_ordered, member-ascending}
use Rattle.walk_definitions.proofs.BatchLaws.{bytes-is, bytes-self, agreed-is, agreed-from, filter-among, among-filter, ids, among-id, batch_order_law}
use Rattle.walk_laws.specs.Standing.{StandsWith, BatchIsExact}
use Rattle.walk_laws.proofs.Members.{member-contained}

module _ (shares : List Share) (id : List ℕ) (s : Share) where
  abbrev of_id : Share → Bool
  of_id t = same_bytes t.id id

  of_id-from : (t : Share) → t.id ≡ id → of_id t ≡ true
  of_id-from t e = subst (λ i. same_bytes t.id i ≡ true) e (bytes-self t.id)

  stands : standing shares id ≡ Some s → StandsWith shares id s
  stands e =
      let is = agreed-is (filter of_id shares) s e in
      let there = filter-among of_id s shares is.0 in
      record {
        there = there.0;
        named = bytes-is s.id id there.1;
        alone = λ other among named. is.1 other (among-filter of_id other shares among (of_id-from other named));
      }

  stands_so : StandsWith shares id s → standing shares id ≡ Some s
  stands_so h =
      agreed-from (filter of_id shares) s (among-filter of_id s shares h.there (of_id-from s h.named))
      (λ t among. let is = filter-among of_id t shares among in h.alone t is.0 (bytes-is t.id id is.1))

module _ (shares0 shares1 : List Share) where
  abbrev report_of : List ℕ → Option Report
  report_of id = joined id (standing shares0 id) (standing shares1 id)

  abbrev Stand : Report → Type 0
  Stand r = StandsWith shares0 r.id r.held0 × StandsWith shares1 r.id r.held1

  joined_is : (id : List ℕ) (o p : Option Share) (r : Report) → standing shares0 id ≡ o → standing shares1 id ≡ p → joined id o p ≡ Some r → Stand r
  joined_is id None p r e f is = absurd cc
  joined_is id (Some s) None r e f is = absurd cc
  joined_is id (Some s) (Some t) r e f is =
      let same : record { id = id; held0 = s; held1 = t } ≡ r = cc in
      subst Stand same (stands shares0 id s e, stands shares1 id t f)

  each_stands : (xs : List (List ℕ)) → AllByRecursion Stand (filter_map report_of xs)
  each_stands [] = tt
  each_stands (id ∷ xs) = at (report_of id) refl (each_stands xs)
    where
      at : (o : Option Report) → report_of id ≡ o → AllByRecursion Stand (filter_map report_of xs) → AllByRecursion Stand (cons_option o (filter_map report_of xs))
      at None e rest = rest
      at (Some r) e rest = (joined_is id (standing shares0 id) (standing shares1 id) r refl refl e, rest)

  member_made : (id : List ℕ) (r : Report) → report_of id ≡ Some r → (xs : List (List ℕ)) → Member id xs → Member r (filter_map report_of xs)
  member_made id r e [] m = absurd m
  member_made id r e (x ∷ xs) (inl same) =
      subst (λ o. Member r (cons_option o (filter_map report_of xs))) (sym (ap report_of same ∙ e)) (inl refl)
  member_made id r e (x ∷ xs) (inr m) = at (report_of x) (member_made id r e xs m)
    where
      at : (o : Option Report) → Member r (filter_map report_of xs) → Member r (cons_option o (filter_map report_of xs))
      at None rest = rest
      at (Some q) rest = inr rest

  has_each : (id : List ℕ) (s t : Share) → StandsWith shares0 id s → StandsWith shares1 id t
      → Member (record { id = id; held0 = s; held1 = t }) (batch shares0 shares1)
  has_each id s t h k =
      let made : report_of id ≡ Some (record { id = id; held0 = s; held1 = t }) =
      ap (λ o. joined id o (standing shares1 id)) (stands_so shares0 id s h) ∙ ap (joined id (Some s)) (stands_so shares1 id t k) in
      member_made id _ made (ascending bytes_before (ids shares0))
      (member-ascending bytes_before (lists_ordered nat_lt numbers_ordered) id (ids shares0) (among-id s id shares0 h.named h.there))

pub batch_is_exact : BatchIsExact
batch_is_exact shares0 shares1 = record {
  ascend = batch_order_law shares0 shares1;
  each = All-from_recursion (Stand shares0 shares1) (batch shares0 shares1) (each_stands shares0 shares1 (ascending bytes_before (ids shares0)));
  all = λ id s t h k. member-contained _ (batch shares0 shares1) (has_each shares0 shares1 id s t h k);
}
