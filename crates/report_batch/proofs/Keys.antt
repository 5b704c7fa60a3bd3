-- The keys of a map from ids to contents are the ids of the shares, ascending.
use Rattle.std.proofs.Common.{◌≡◌, ℕ, ◌⊎◌, inl, inr, Bool, true, false, cond, List, [], ◌∷◌, Some, refl, sym, ◌∙◌}
use Rattle.std.proofs.Common.{Less}
use Rattle.std.specs.Prelude.{nat_lt}
use Rattle.std.specs.List.{filter, AllByRecursion}
use Rattle.std.specs.List.Sorted.{IsStrictlySortedBy}
use Rattle.std.specs.Map.{keys_of, lookup}
use Rattle.std.specs.BTreeMap.{is_at}
use Rattle.std.proofs.lemmas.Bool.{false≢true}
use Rattle.std.proofs.lemmas.Map.Keys.{sorted_head, sorted_tail}
use Rattle.definitions.specs.Evaluation.{Share}
use Rattle.walk_definitions.specs.Ascending.{bytes_before, ascending}
use Rattle.walk_definitions.specs.Reports.{same_bytes}
use Rattle.walk_definitions.proofs.Order.{Member, AllAbove, Rises, numbers_ordered, lists_ordered, rises-ascending, member-ascending, ascending-member, same_rise}
use Rattle.report_batch.specs.declared.content.Content.{Content}
use Rattle.report_batch.specs.Contents.{content, content_of}
use Rattle.intake_state.proofs.Same.{bytes_decide}
use Rattle.intake_state.proofs.Orders.{id_cmp, tie_is, less_before}
use Rattle.report_batch.proofs.Lists.{names}

-- ---- keys that a map has in order rise

above-keys : (id : List ℕ) (ids : List (List ℕ)) → AllByRecursion (λ y. id_cmp id y ≡ Less) ids → AllAbove bytes_before (lists_ordered nat_lt numbers_ordered) id ids
above-keys id [] all = tt
above-keys id (x ∷ xs) all = (less_before id x all.0, above-keys id xs all.1)

keys-rise : (ids : List (List ℕ)) → IsStrictlySortedBy id_cmp ids → Rises bytes_before (lists_ordered nat_lt numbers_ordered) ids
keys-rise [] up = tt
keys-rise (x ∷ xs) up = (above-keys x xs (sorted_head id_cmp x xs up), keys-rise xs (sorted_tail id_cmp x xs up))

-- ---- a key is found exactly where it stands

tied : (xs ys : List ℕ) → ys ≡ xs → is_at (id_cmp xs) ys ≡ true
tied xs ys e = tie_is xs ys ∙ (bytes_decide xs ys).1 (sym e)

key-found : (id : List ℕ) (es : List (List ℕ × Content)) → Member id (keys_of es) → (v : Content) × (lookup (is_at (id_cmp id)) es ≡ Some v)
key-found id [] m = absurd m
key-found id (e ∷ es) m = at (is_at (id_cmp id) e.0) refl m (key-found id es)
  where
    at : (b : Bool) → is_at (id_cmp id) e.0 ≡ b → (e.0 ≡ id) ⊎ Member id (keys_of es)
        → (Member id (keys_of es) → (v : Content) × (lookup (is_at (id_cmp id)) es ≡ Some v))
        → (v : Content) × (cond b (Some e.1) (lookup (is_at (id_cmp id)) es) ≡ Some v)
    at true f n more = (e.1, refl)
    at false f (inl g) more = absurd (false≢true (sym f ∙ tied id e.0 g))
    at false f (inr n) more = more n

found-key : (id : List ℕ) (es : List (List ℕ × Content)) (v : Content) → lookup (is_at (id_cmp id)) es ≡ Some v → Member id (keys_of es)
found-key id [] v f = let impossible : ⊥ = cc in absurd impossible
found-key id (e ∷ es) v f = at (is_at (id_cmp id) e.0) refl f (found-key id es v)
  where
    at : (b : Bool) → is_at (id_cmp id) e.0 ≡ b → cond b (Some e.1) (lookup (is_at (id_cmp id)) es) ≡ Some v
        → (lookup (is_at (id_cmp id)) es ≡ Some v → Member id (keys_of es))
        → (e.0 ≡ id) ⊎ Member id (keys_of es)
    at true g h more = inl (sym ((bytes_decide id e.0).0 (sym (tie_is id e.0) ∙ g)))
    at false g h more = inr (more h)

-- ---- a side has something under an id exactly where one of its shares has the id

id-content : (id : List ℕ) (shares : List Share) → Member id (names shares) → (v : Content) × (content_of shares id ≡ Some v)
id-content id [] m = absurd m
id-content id (s ∷ ss) m = at (same_bytes s.id id) refl m (id-content id ss)
  where
    at : (b : Bool) → same_bytes s.id id ≡ b → (s.id ≡ id) ⊎ Member id (names ss)
        → (Member id (names ss) → (v : Content) × (content_of ss id ≡ Some v))
        → (v : Content) × (content (cond b (s ∷ filter (λ t. same_bytes t.id id) ss) (filter (λ t. same_bytes t.id id) ss)) ≡ Some v)
    at true f n more = (_, refl)
    at false f (inl g) more = absurd (false≢true (sym f ∙ (bytes_decide s.id id).1 g))
    at false f (inr n) more = more n

content-id : (id : List ℕ) (shares : List Share) (v : Content) → content_of shares id ≡ Some v → Member id (names shares)
content-id id [] v f = let impossible : ⊥ = cc in absurd impossible
content-id id (s ∷ ss) v f = at (same_bytes s.id id) refl f (content-id id ss v)
  where
    at : (b : Bool) → same_bytes s.id id ≡ b
        → content (cond b (s ∷ filter (λ t. same_bytes t.id id) ss) (filter (λ t. same_bytes t.id id) ss)) ≡ Some v
        → (content_of ss id ≡ Some v → Member id (names ss)) → (s.id ≡ id) ⊎ Member id (names ss)
    at true g h more = inl ((bytes_decide s.id id).0 g)
    at false g h more = inr (more h)

-- ---- the keys

pub keys-are : (es : List (List ℕ × Content)) (shares : List Share) → IsStrictlySortedBy id_cmp (keys_of es)
    → ((id : List ℕ) → lookup (is_at (id_cmp id)) es ≡ content_of shares id)
    → keys_of es ≡ ascending bytes_before (names shares)
keys-are es shares up held =
    same_rise bytes_before (lists_ordered nat_lt numbers_ordered) (keys_of es) (ascending bytes_before (names shares))
    (keys-rise (keys_of es) up) (rises-ascending bytes_before (lists_ordered nat_lt numbers_ordered) (names shares))
    (λ id m. let is = key-found id es m in
    member-ascending bytes_before (lists_ordered nat_lt numbers_ordered) id (names shares) (content-id id shares is.0 (sym (held id) ∙ is.1)))
    (λ id m. let is = id-content id shares (ascending-member bytes_before (lists_ordered nat_lt numbers_ordered) id (names shares) m) in
    found-key id es is.0 (held id ∙ is.1))
