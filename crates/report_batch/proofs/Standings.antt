-- What a side has under an id, after one more share.
use Rattle.std.proofs.Common.{◌≡◌, ℕ, inl, inr, Bool, true, false, cond, List, [], ◌∷◌, ◌++◌, Option, Some, None, refl, sym, ◌∙◌, ap}
use Rattle.std.specs.Prelude.{if◌then◌else◌, ◌&&◌}
use Rattle.std.specs.List.{filter, list_all}
use Rattle.std.proofs.lemmas.List.{append-nil}
use Rattle.std.proofs.lemmas.List.Elements.{filter-append}
use Rattle.std.proofs.lemmas.List.Folds.{list_all-append}
use Rattle.definitions.specs.Evaluation.{Share}
use Rattle.walk_definitions.specs.Reports.{same_bytes, same_share, agreed, standing}
use Rattle.walk_definitions.specs.Laws.{IsAmong}
use Rattle.report_batch.specs.declared.content.Content.{Content}
use Rattle.report_batch.specs.declared.content.Content.TheVariants.{One, Clash}
use Rattle.report_batch.specs.Contents.{content, content_of, met}
use Rattle.intake_state.proofs.Same.{bytes_decide}

content-push : (ss : List Share) (s : Share) → content (ss ++ s ∷ []) ≡ Some (met (content ss) s)
content-push [] s = refl
content-push (t ∷ ts) s =
    ap (λ b. Some (if b then One t else Clash)) (list_all-append (same_share t) ts (s ∷ [])) ∙ at (list_all (same_share t) ts)
  where
    last : (b : Bool) → Some (if (b && true) then One t else Clash) ≡ Some (if b then One t else Clash)
    last true = refl
    last false = refl

    at : (a : Bool) → Some (if (a && (same_share t s && true)) then One t else Clash) ≡ Some (met (Some (if a then One t else Clash)) s)
    at true = last (same_share t s)
    at false = refl

-- one more share of the id
pub content_of-more : (shares : List Share) (s : Share) (id : List ℕ) → same_bytes s.id id ≡ true
    → content_of (shares ++ s ∷ []) id ≡ Some (met (content_of shares id) s)
content_of-more shares s id e =
    let p = λ (t : Share). same_bytes t.id id in
    ap content (filter-append p shares (s ∷ [])) ∙ ap (λ b. content (filter p shares ++ cond b (s ∷ []) [])) e ∙ content-push (filter p shares) s

-- one more share of another id
pub content_of-other : (shares : List Share) (s : Share) (id : List ℕ) → same_bytes s.id id ≡ false
    → content_of (shares ++ s ∷ []) id ≡ content_of shares id
content_of-other shares s id e =
    let p = λ (t : Share). same_bytes t.id id in
    ap content (filter-append p shares (s ∷ [])) ∙ ap (λ b. content (filter p shares ++ cond b (s ∷ []) [])) e ∙ ap content (append-nil (filter p shares))

-- ---- what stands, by contents

-- the share that stands, where there is one content
abbrev pub share_of : Option Content → Option Share
share_of None = None
share_of (Some (One s)) = Some s
share_of (Some Clash) = None

agreed-is : (ss : List Share) → agreed ss ≡ share_of (content ss)
agreed-is [] = refl
agreed-is (s ∷ ss) = at (list_all (same_share s) ss)
  where
    at : (b : Bool) → (if b then Some s else None) ≡ share_of (Some (if b then One s else Clash))
    at true = refl
    at false = refl

pub standing-is : (shares : List Share) (id : List ℕ) → standing shares id ≡ share_of (content_of shares id)
standing-is shares id = agreed-is (filter (λ s. same_bytes s.id id) shares)

-- ---- what stands is one of the shares, and has the id

pub standing-given : (shares : List Share) (id : List ℕ) (s : Share) → standing shares id ≡ Some s → IsAmong s shares × (s.id ≡ id)
standing-given [] id s e = let impossible : ⊥ = cc in absurd impossible
standing-given (t ∷ ts) id s e = at (same_bytes t.id id) refl e (standing-given ts id s)
  where
    first : (b : Bool) → (if b then Some t else None) ≡ Some s → t ≡ s
    first true f = cc
    first false f = let impossible : ⊥ = cc in absurd impossible

    at : (b : Bool) → same_bytes t.id id ≡ b
        → agreed (cond b (t ∷ filter (λ u. same_bytes u.id id) ts) (filter (λ u. same_bytes u.id id) ts)) ≡ Some s
        → (standing ts id ≡ Some s → IsAmong s ts × (s.id ≡ id)) → IsAmong s (t ∷ ts) × (s.id ≡ id)
    at true f g more =
        let same = first (list_all (same_share t) (filter (λ u. same_bytes u.id id) ts)) g in
        (inl same, ap (λ (u : Share). u.id) (sym same) ∙ (bytes_decide t.id id).0 f)
    at false f g more = let rest = more g in (inr rest.0, rest.1)
