use Rattle.std.proofs.Common.{◌≡◌, ℕ, zero, suc, ◌+◌, [], ◌∷◌, ◌++◌, add-one, sym, ◌∙◌, ap, arith}
use Rattle.core_definitions.specs.System.{places}
use Rattle.interleaving_core.proofs.walks.all_places.Goals as goal

places-push : (at count : ℕ) → places at (suc count) ≡ places at count ++ (at + count) ∷ []
places-push at zero = let same : at + 0 ≡ at = omega arith in ap (λ n. n ∷ []) (sym same)
places-push at (suc count) =
    let same : at + 1 + count ≡ at + suc count = omega arith in
    ap (λ l. at ∷ l) (places-push (at + 1) count) ∙ ap (λ n. at ∷ (places (at + 1) count ++ n ∷ [])) same

pub loop-place-preserved : goal.loop-place-preserved
loop-place-preserved c =
    let here : 0 + c.loop-place.place ≡ c.loop-place.place = omega arith in
    c.in_ok-push.ensures.items
    ∙ ap (λ l. l ++ c.loop-place.place ∷ []) c.loop-place.invariant
    ∙ ap (λ n. places 0 c.loop-place.place ++ n ∷ []) (sym here)
    ∙ sym (places-push 0 c.loop-place.place)
    ∙ ap (places 0) (sym (add-one c.loop-place.place))
