-- The log is one that a view has seen.
use Rattle.std.proofs.Common.{◌≡◌, ◌≢◌, ℕ, zero, suc, List, [], ◌∷◌, ◌++◌, set, refl, sym, ap, ◌∙◌, subst, inl, inr, ⊎_elim}
use mathlib.Core.Option.{some, some-injective, some-ne-none}
use mathlib.Core.Logic.{dite}
use native.Mathlib.Decide.{ℕ_discrete}
use lib.ListN.{get_elem?}
use Rattle.atomic_table.proofs.Lists.{set_else, at_longer}
use Rattle.turn_lock.specs.declared.views.View.{View}
use Rattle.turn_lock.specs.declared.views.Mine.{Mine}
use Rattle.turn_lock.specs.Kept.{Saw, IsSeen}

pub here : {X : Type 0} (l : List X) (i : ℕ) (v w : X) → get_elem? l i ≡ some v → get_elem? (set l i w) i ≡ some w
here [] i v w at = absurd (some-ne-none v (sym at))
here (x ∷ xs) zero v w at = refl
here (x ∷ xs) (suc i) v w at = here xs i v w at

same_there : {X : Type 0} (l : List X) (i j : ℕ) (u v : X) → j ≡ i → get_elem? l j ≡ some u → get_elem? l i ≡ some v → u ≡ v
same_there l i j u v e there at = some-injective _ _ (sym there ∙ ap (get_elem? l) e ∙ at)

module _ {P E : Type 0} (b : List E) where
  pub saw_left : (ns ms : List (Mine P E)) → Saw b ns → Saw b (ns ++ ms)
  saw_left [] ms h = absurd h
  saw_left (n ∷ ns) ms h = ⊎_elim (λ x. inl x) (λ x. inr (saw_left ns ms x)) h

  pub saw_right : (ns ms : List (Mine P E)) → Saw b ms → Saw b (ns ++ ms)
  saw_right [] ms h = h
  saw_right (n ∷ ns) ms h = inr (saw_right ns ms h)

  pub seen_set : (views : List (View P E)) (id : ℕ) (v w : View P E) → get_elem? views id ≡ some v → (Saw b v.mine → Saw b w.mine) → IsSeen b views → IsSeen b (set views id w)
  seen_set views id v w at f s =
      dite (ℕ_discrete s.0 id)
      (λ same. (id, w, here views id v w at, f (subst (λ (u : View P E). Saw b u.mine) (same_there views id s.0 s.1 v same s.2 at) s.3)))
      (λ ne. (s.0, s.1, set_else views id s.0 w ne ∙ s.2, s.3))

  pub seen_push : (views : List (View P E)) (w : View P E) → IsSeen b views → IsSeen b (views ++ w ∷ [])
  seen_push views w s = (s.0, s.1, at_longer views (w ∷ []) s.0 s.1 s.2, s.3)

  pub seen_join : (views : List (View P E)) (id other : ℕ) (v w all spent : View P E) → get_elem? views id ≡ some v → get_elem? views other ≡ some w → other ≢ id
      → (Saw b v.mine → Saw b all.mine) → (Saw b w.mine → Saw b all.mine) → IsSeen b views → IsSeen b (set (set views id all) other spent)
  seen_join views id other v w all spent at there apart f g s =
      let stays : get_elem? (set (set views id all) other spent) id ≡ some all = set_else (set views id all) other id spent (λ e. apart (sym e)) ∙ here views id v all at in
      dite (ℕ_discrete s.0 other)
      (λ same. (id, all, stays, g (subst (λ (u : View P E). Saw b u.mine) (same_there views other s.0 s.1 w same s.2 there) s.3)))
      (λ ne. dite (ℕ_discrete s.0 id)
      (λ same. (id, all, stays, f (subst (λ (u : View P E). Saw b u.mine) (same_there views id s.0 s.1 v same s.2 at) s.3)))
      (λ ne'. (s.0, s.1, set_else (set views id all) other s.0 spent ne ∙ set_else views id s.0 all ne' ∙ s.2, s.3)))
