-- One more share, in a map from ids to contents.
use Rattle.std.proofs.Common.{◌≡◌, ℕ, Bool, true, false, cond, List, [], ◌∷◌, ◌++◌, Option, Some, None, refl, sym, ◌∙◌, ap}
use Rattle.std.specs.Ordering.{is_eq}
use Rattle.definitions.specs.Evaluation.{Share}
use Rattle.walk_definitions.specs.Reports.{same_bytes}
use Rattle.report_batch.specs.declared.content.Content.{Content}
use Rattle.report_batch.specs.Contents.{content_of, met}
use Rattle.intake_state.proofs.Same.{bytes_decide}
use Rattle.intake_state.proofs.Orders.{id_cmp, tie_is}
use Rattle.report_batch.proofs.Standings.{content_of-more, content_of-other}

-- the content under the share's id is taken out, and the new one put in its place
pub entered : (before taken after : List ℕ → Option Content) (shares : List Share) (s : Share) (new : Content)
    → ((id : List ℕ) → before id ≡ content_of shares id)
    → ((id : List ℕ) → taken id ≡ cond (is_eq (id_cmp s.id id)) None (before id))
    → ((id : List ℕ) → after id ≡ cond (is_eq (id_cmp s.id id)) (Some new) (taken id))
    → new ≡ met (before s.id) s
    → (id : List ℕ) → after id ≡ content_of (shares ++ s ∷ []) id
entered before taken after shares s new held out put is id = at (same_bytes s.id id) refl
  where
    at : (b : Bool) → same_bytes s.id id ≡ b → after id ≡ content_of (shares ++ s ∷ []) id
    at true e =
        put id ∙ ap (λ b. cond b (Some new) (taken id)) (tie_is s.id id ∙ e)
        ∙ ap (λ c. Some c) (is ∙ ap (λ o. met o s) (ap before ((bytes_decide s.id id).0 e) ∙ held id))
        ∙ sym (content_of-more shares s id e)
    at false e =
        put id ∙ ap (λ b. cond b (Some new) (taken id)) (tie_is s.id id ∙ e)
        ∙ out id ∙ ap (λ b. cond b None (before id)) (tie_is s.id id ∙ e)
        ∙ held id ∙ sym (content_of-other shares s id e)
