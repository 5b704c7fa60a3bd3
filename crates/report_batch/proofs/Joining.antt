-- The batch from two maps of contents: side 0's entries in order, each joined with what side 1 has under its id.
use Rattle.std.proofs.Common.{◌≡◌, ℕ, cond, List, [], ◌∷◌, ◌++◌, Option, Some, None, Less, refl, sym, ◌∙◌, ap, subst, append_assoc}
use Rattle.std.specs.Ordering.{is_eq}
use Rattle.std.specs.Option.{option_map}
use Rattle.std.specs.List.{filter_map, cons_option, All, AllByRecursion}
use Rattle.std.specs.List.Sorted.{IsStrictlySortedBy}
use Rattle.std.specs.Map.{keys_of}
use Rattle.std.specs.BTreeMap.{BTreeMap, get, IsOrdered}
use Rattle.std.proofs.lemmas.Cmp.{nat_list_cmp_total}
use Rattle.std.proofs.lemmas.List.Elements.{All-head, All-tail}
use Rattle.std.proofs.lemmas.Map.Views.{All-found}
use Rattle.std.proofs.lemmas.List.{append-nil, map_push}
use Rattle.std.proofs.lemmas.Map.Keys.{sorted_head, sorted_tail}
use Rattle.definitions.specs.Evaluation.{Share}
use Rattle.walk_definitions.specs.Reports.{Report, standing, joined, batch}
use Rattle.walk_definitions.specs.Laws.{IdsAscend}
use Rattle.walk_definitions.proofs.BatchLaws.{batch_order_law}
use Rattle.report_batch.specs.declared.content.Content.{Content}
use Rattle.report_batch.specs.declared.content.Content.TheVariants.{One, Clash}
use Rattle.report_batch.specs.Batches.{reports_of, IsBatch}
use Rattle.report_batch.specs.Contents.{content_of, both}
use Rattle.intake_state.proofs.Orders.{id_cmp}
use Rattle.report_batch.proofs.Lists.{names}
use Rattle.report_batch.proofs.Keys.{keys-are}
use Rattle.report_batch.proofs.Standings.{share_of, standing-is, standing-given}

abbrev report_with : List ℕ → Share × Share → Report
report_with id held = record { id = id; held0 = held.0; held1 = held.1 }

joined-is : (id : List ℕ) (v : Content) (o : Option Content) → joined id (share_of (Some v)) (share_of o) ≡ option_map (report_with id) (both v o)
joined-is id (One s) None = refl
joined-is id (One s) (Some (One t)) = refl
joined-is id (One s) (Some Clash) = refl
joined-is id Clash o = refl

-- the report of an id, if it is in the batch
abbrev report_under : List Share → List Share → List ℕ → Option Report
report_under shares0 shares1 id = joined id (standing shares0 id) (standing shares1 id)

report-is : (shares0 shares1 : List Share) (id : List ℕ) (v : Content) (o : Option Content) → content_of shares0 id ≡ Some v → o ≡ content_of shares1 id
    → report_under shares0 shares1 id ≡ option_map (report_with id) (both v o)
report-is shares0 shares1 id v o e f =
    ap (λ s. joined id s (standing shares1 id)) (standing-is shares0 id ∙ ap share_of e)
    ∙ ap (joined id (share_of (Some v))) (standing-is shares1 id ∙ ap share_of (sym f))
    ∙ joined-is id v o

-- ---- a content has the id that it stands under

content-named : (shares : List Share) (id : List ℕ) (s : Share) → content_of shares id ≡ Some (One s) → s.id ≡ id
content-named shares id s e = (standing-given shares id s (standing-is shares id ∙ ap share_of e)).1

both-are : (v : Content) (o : Option Content) (s t : Share) → both v o ≡ Some (s, t) → (v ≡ One s) × (o ≡ Some (One t))
both-are (One u) None s t e = let impossible : ⊥ = cc in absurd impossible
both-are (One u) (Some (One w)) s t e =
    let pairs : ◌≡◌ {A = Share × Share} (u, w) (s, t) = cc in
    (ap (λ (p : Share × Share). One p.0) pairs, ap (λ (p : Share × Share). Some (One p.1)) pairs)
both-are (One u) (Some Clash) s t e = let impossible : ⊥ = cc in absurd impossible
both-are Clash o s t e = let impossible : ⊥ = cc in absurd impossible

-- ---- one more report at the end of the lists

reports-push : (ids : List (List ℕ)) (zero one : List Share) (id : List ℕ) (s t : Share) → names zero ≡ ids → names one ≡ ids
    → reports_of (ids ++ id ∷ []) (zero ++ s ∷ []) (one ++ t ∷ []) ≡ reports_of ids zero one ++ report_with id (s, t) ∷ []
reports-push [] [] [] id s t e f = refl
reports-push [] (u ∷ us) one id s t e f = cc
reports-push [] [] (w ∷ ws) id s t e f = cc
reports-push (i ∷ is) [] one id s t e f = cc
reports-push (i ∷ is) (u ∷ us) [] id s t e f = cc
reports-push (i ∷ is) (u ∷ us) (w ∷ ws) id s t e f =
    let e' : names us ≡ is = cc in
    let f' : names ws ≡ is = cc in
    ap (λ l. report_with i (u, w) ∷ l) (reports-push is us ws id s t e' f')

-- ---- the loop over side 0's entries

abbrev IsLeft : List Share → (List ℕ → Option Content) → List (List ℕ × Content) → Type 0
IsLeft shares1 others [] = Unit {0}
IsLeft shares1 others (e ∷ es) = (others e.0 ≡ content_of shares1 e.0) × IsLeft shares1 others es

abbrev IsHeld : List Share → List (List ℕ × Content) → Type 0
IsHeld shares0 [] = Unit {0}
IsHeld shares0 (e ∷ es) = (content_of shares0 e.0 ≡ Some e.1) × IsHeld shares0 es

-- the lists so far, what side 1 still has under each id, and the entries of side 0 that are left
pub record Joins (shares0 shares1 : List Share) (ids : List (List ℕ)) (zero one : List Share) (others : List ℕ → Option Content) (rest : List (List ℕ × Content)) : Type 0 where
  pub named0 : names zero ≡ ids
  pub named1 : names one ≡ ids
  pub sorted : IsStrictlySortedBy id_cmp (keys_of rest)
  pub held : IsHeld shares0 rest
  pub left : IsLeft shares1 others rest
  pub whole : reports_of ids zero one ++ filter_map (report_under shares0 shares1) (keys_of rest) ≡ batch shares0 shares1

module _ (shares0 shares1 : List Share) where
  -- before the first entry

  held-all : (m : BTreeMap (List ℕ) Content) (es : List (List ℕ × Content)) → ((id : List ℕ) → get id_cmp m id ≡ content_of shares0 id)
      → All (λ e. get id_cmp m e.0 ≡ Some e.1) es → IsHeld shares0 es
  held-all m [] h all = tt
  held-all m (e ∷ es) h all =
      (sym (h e.0) ∙ All-head (λ f. get id_cmp m f.0 ≡ Some f.1) e es all, held-all m es h (All-tail (λ f. get id_cmp m f.0 ≡ Some f.1) e es all))

  left-all : (others : List ℕ → Option Content) (es : List (List ℕ × Content)) → ((id : List ℕ) → others id ≡ content_of shares1 id) → IsLeft shares1 others es
  left-all others [] h = tt
  left-all others (e ∷ es) h = (h e.0, left-all others es h)

  pub joins-start : (m : BTreeMap (List ℕ) Content) (others : List ℕ → Option Content) (rest : List (List ℕ × Content)) → rest ≡ m.entries → IsOrdered id_cmp m
      → ((id : List ℕ) → get id_cmp m id ≡ content_of shares0 id)
      → ((id : List ℕ) → others id ≡ content_of shares1 id)
      → Joins shares0 shares1 [] [] [] others rest
  joins-start m others rest is up h k = subst (Joins shares0 shares1 [] [] [] others) (sym is) (record {
    named0 = refl;
    named1 = refl;
    sorted = up;
    held = held-all m m.entries h (All-found nat_list_cmp_total m up);
    left = left-all others m.entries k;
    whole = ap (filter_map (report_under shares0 shares1)) (keys-are m.entries shares0 up h);
  })

  -- an entry that is taken out of side 1's map changes nothing under later ids

  left-later : (others after : List ℕ → Option Content) (id : List ℕ) (es : List (List ℕ × Content))
      → ((q : List ℕ) → after q ≡ cond (is_eq (id_cmp id q)) None (others q))
      → AllByRecursion (λ y. id_cmp id y ≡ Less) (keys_of es) → IsLeft shares1 others es → IsLeft shares1 after es
  left-later others after id [] out above left = tt
  left-later others after id (e ∷ es) out above left =
      (out e.0 ∙ ap (λ o. cond (is_eq o) None (others e.0)) above.0 ∙ left.0, left-later others after id es out above.1 left.1)

  module _ (ids : List (List ℕ)) (zero one : List Share) (others after : List ℕ → Option Content) (id : List ℕ) (v : Content) (rest more : List (List ℕ × Content)) where
    -- an entry that is in the batch
    pub joins-more : (s t : Share) → Joins shares0 shares1 ids zero one others rest → rest ≡ (id, v) ∷ more
        → ((q : List ℕ) → after q ≡ cond (is_eq (id_cmp id q)) None (others q)) → both v (others id) ≡ Some (s, t)
        → Joins shares0 shares1 (ids ++ id ∷ []) (zero ++ s ∷ []) (one ++ t ∷ []) after more
    joins-more s t j is out e = at (subst (Joins shares0 shares1 ids zero one others) is j)
      where
        at : Joins shares0 shares1 ids zero one others ((id, v) ∷ more)
            → Joins shares0 shares1 (ids ++ id ∷ []) (zero ++ s ∷ []) (one ++ t ∷ []) after more
        at k =
            let two = both-are v (others id) s t e in
            let first : s.id ≡ id = content-named shares0 id s (k.held.0 ∙ ap (λ c. Some c) two.0) in
            let second : t.id ≡ id = content-named shares1 id t (sym k.left.0 ∙ two.1) in
            let taken : report_under shares0 shares1 id ≡ Some (report_with id (s, t)) =
            report-is shares0 shares1 id v (others id) k.held.0 k.left.0 ∙ ap (option_map (report_with id)) e in
            record {
              named0 = map_push (λ (u : Share). u.id) zero s ∙ ap (λ l. l ++ s.id ∷ []) k.named0 ∙ ap (λ i. ids ++ i ∷ []) first;
              named1 = map_push (λ (u : Share). u.id) one t ∙ ap (λ l. l ++ t.id ∷ []) k.named1 ∙ ap (λ i. ids ++ i ∷ []) second;
              sorted = sorted_tail id_cmp id (keys_of more) k.sorted;
              held = k.held.1;
              left = left-later others after id more out (sorted_head id_cmp id (keys_of more) k.sorted) k.left.1;
              whole =
                  ap (λ l. l ++ filter_map (report_under shares0 shares1) (keys_of more)) (reports-push ids zero one id s t k.named0 k.named1)
                  ∙ append_assoc (reports_of ids zero one) (report_with id (s, t) ∷ []) (filter_map (report_under shares0 shares1) (keys_of more))
                  ∙ ap (λ o. reports_of ids zero one ++ cons_option o (filter_map (report_under shares0 shares1) (keys_of more))) (sym taken)
                  ∙ k.whole;
            }

    -- an entry that is not in it
    pub joins-same : Joins shares0 shares1 ids zero one others rest → rest ≡ (id, v) ∷ more
        → ((q : List ℕ) → after q ≡ cond (is_eq (id_cmp id q)) None (others q)) → both v (others id) ≡ None
        → Joins shares0 shares1 ids zero one after more
    joins-same j is out e = at (subst (Joins shares0 shares1 ids zero one others) is j)
      where
        at : Joins shares0 shares1 ids zero one others ((id, v) ∷ more) → Joins shares0 shares1 ids zero one after more
        at k =
            let left_out : report_under shares0 shares1 id ≡ None =
            report-is shares0 shares1 id v (others id) k.held.0 k.left.0 ∙ ap (option_map (report_with id)) e in
            record {
              named0 = k.named0;
              named1 = k.named1;
              sorted = sorted_tail id_cmp id (keys_of more) k.sorted;
              held = k.held.1;
              left = left-later others after id more out (sorted_head id_cmp id (keys_of more) k.sorted) k.left.1;
              whole =
                  ap (λ o. reports_of ids zero one ++ cons_option o (filter_map (report_under shares0 shares1) (keys_of more))) (sym left_out)
                  ∙ k.whole;
            }

  -- behind the last entry

  pub joined-whole : (ids : List (List ℕ)) (zero one : List Share) (others : List ℕ → Option Content) (rest : List (List ℕ × Content))
      → Joins shares0 shares1 ids zero one others rest → rest ≡ [] → reports_of ids zero one ≡ batch shares0 shares1
  joined-whole ids zero one others rest j is =
      sym (append-nil (reports_of ids zero one))
      ∙ ap (λ es. reports_of ids zero one ++ filter_map (report_under shares0 shares1) (keys_of es)) (sym is) ∙ j.whole

  pub joined-batch : (ids : List (List ℕ)) (zero one : List Share) (others : List ℕ → Option Content) (rest : List (List ℕ × Content))
      → Joins shares0 shares1 ids zero one others rest → rest ≡ [] → IsBatch ids zero one
  joined-batch ids zero one others rest j is = record {
    named0 = j.named0;
    named1 = j.named1;
    ascend = subst IdsAscend (sym (joined-whole ids zero one others rest j is)) (batch_order_law shares0 shares1);
  }
