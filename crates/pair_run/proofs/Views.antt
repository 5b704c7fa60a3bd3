-- The comparison of both sides' sums, as it is heard.
use Rattle.std.proofs.Common.{◌≡◌, ℕ, zero, suc, ◌+◌, ◌<◌, List, [], ◌∷◌, ◌++◌, length, get_or, take, refl, sym, ◌∙◌, ap, arith, append-nil}
use Rattle.std.specs.Prelude.{Option, if◌then◌else◌}
use Rattle.std.proofs.lemmas.Bool.{eq-eqb, ne_eqb}
use Rattle.definitions.specs.Field.{add}
use Rattle.walk_definitions.specs.Walk.{End, views}
use Rattle.walk_definitions.specs.Messages.{Message}
use Rattle.walk_definitions.specs.Heard.{Heard, ended, preceded, paired, both_view, added}
use Rattle.walk_definitions.proofs.TrueLink.{view_same}
use Rattle.shelf_io.specs.Talks.{Talk}
use Rattle.pair_run.specs.declared.answers.PairError.{PairError}
use Rattle.pair_run.specs.declared.answers.PairError.TheVariants.{Cap, Link, PeerMessage, Views, Memory}
use Rattle.pair_run.specs.Failures.{Stops, IsView}
use Rattle.pair_run.specs.Parts.{GoesOn, EndsThere, exchange}
use Rattle.pair_run.specs.Talking.{Passed}
use Rattle.pair_run.proofs.Followed.{passed_map}

pub view_at : (kind level place k : ℕ) (xs ys : List ℕ) (next : Heard) → k < length xs → length xs ≡ length ys → take k xs ≡ take k ys
    → (get_or xs k 0 ≡ get_or ys k 0 → ⊥)
    → both_view kind level place xs ys next ≡ ended (views level kind (place + k) (get_or xs k 0) (get_or ys k 0))
view_at kind level place k [] ys next h long before differ = absurd (omega arith)
view_at kind level place k (x ∷ xs) [] next h long before differ = absurd (omega arith)
view_at kind level place zero (x ∷ xs) (y ∷ ys) next h long before differ =
    ap (λ b. if b then both_view kind level (place + 1) xs ys next else ended (views level kind place x y)) (ne_eqb x y differ)
    ∙ ap (λ p. ended (views level kind p x y)) (omega arith)
view_at kind level place (suc k) (x ∷ xs) (y ∷ ys) next h long before differ =
    let first : x ≡ y = cc in
    let rest : take k xs ≡ take k ys = cc in
    let at : place + 1 + k ≡ place + suc k = omega arith in
    ap (λ b. if b then both_view kind level (place + 1) xs ys next else ended (views level kind place x y)) (eq-eqb x y first)
    ∙ view_at kind level (place + 1) k xs ys next (omega arith) (omega arith) rest differ
    ∙ ap (λ p. ended (views level kind p (get_or xs k 0) (get_or ys k 0))) at

module _ (kind level : ℕ) (own0 own1 to0 to1 : List ℕ) where
  pub added_goes : (s : List Message) (z o : List ℕ) → paired add own0 to0 ≡ paired add own1 to1
      → GoesOn (exchange kind level own0 own1) (to0, to1) s z o → GoesOn (added kind level own0 own1) (paired add own0 to0) s z o
  unfolding added
  added_goes s z o same h = λ rest0 rest1 next.
      h rest0 rest1 (λ to a b. both_view kind level 0 (paired add own0 to.0) (paired add own1 to.1) (next (paired add own0 to.0) a b))
      ∙ ap (preceded s)
      (ap (λ ys. both_view kind level 0 (paired add own0 to0) ys (next (paired add own0 to0) rest0 rest1)) (sym same)
      ∙ view_same kind level 0 (paired add own0 to0) (next (paired add own0 to0) rest0 rest1))

  differs : (end : End) (s : List Message) (z o : List ℕ) → ((next : Heard) → both_view kind level 0 (paired add own0 to0) (paired add own1 to1) next ≡ ended end)
      → GoesOn (exchange kind level own0 own1) (to0, to1) s z o → EndsThere (added kind level own0 own1) end s z o
  unfolding added
  differs end s z o view goes = λ next.
      let go = λ (to : List ℕ × List ℕ) (a b : List ℕ). both_view kind level 0 (paired add own0 to.0) (paired add own1 to.1) (next (paired add own0 to.0) a b) in
      sym (ap (λ xs. exchange kind level own0 own1 xs o go) (append-nil z))
      ∙ sym (ap (λ xs. exchange kind level own0 own1 (z ++ []) xs go) (append-nil o))
      ∙ goes [] [] go
      ∙ ap (preceded s) (view (next (paired add own0 to0) [] []))
      ∙ ap (λ ms. record { end = end; messages = ms }) (append-nil s)

  -- the comparison ends the walk
  pub added_stops : (t0 t1 : Option Talk) (e : PairError) → IsView kind level (paired add own0 to0) (paired add own1 to1) e
      → Passed t0 t1 (GoesOn (exchange kind level own0 own1) (to0, to1)) → Stops (added kind level own0 own1) t0 t1 e
  added_stops t0 t1 (Cap l wanted) view h = absurd view
  added_stops t0 t1 Link view h = absurd view
  added_stops t0 t1 (PeerMessage l k at) view h = absurd view
  added_stops t0 t1 (Views l k place left right) view h =
      passed_map t0 t1 (GoesOn (exchange kind level own0 own1) (to0, to1)) (EndsThere (added kind level own0 own1) (views l k place left right))
      (λ s z o g. differs (views l k place left right) s z o view g) h
  added_stops t0 t1 Memory view h = absurd view

pub added_ends : (kind level : ℕ) (own0 own1 : List ℕ) (end : End) (s : List Message) (z o : List ℕ)
    → EndsThere (exchange kind level own0 own1) end s z o → EndsThere (added kind level own0 own1) end s z o
unfolding added
added_ends kind level own0 own1 end s z o h = λ next.
    h (λ to a b. both_view kind level 0 (paired add own0 to.0) (paired add own1 to.1) (next (paired add own0 to.0) a b))

pub length_paired : {X Y Z : Type 0} (f : X → Y → Z) (xs : List X) (ys : List Y) → length xs ≡ length ys → length (paired f xs ys) ≡ length xs
length_paired f [] ys e = refl
length_paired f (x ∷ xs) [] e = absurd (omega (arith, e))
length_paired f (x ∷ xs) (y ∷ ys) e = let rest = length_paired f xs ys (omega (arith, e)) in omega arith

-- the first place at which two lists differ is the comparison's end
pub view_is : (kind level k l n place left right : ℕ) (xs ys : List ℕ) → k < length xs → length xs ≡ length ys → take k xs ≡ take k ys
    → (get_or xs k 0 ≡ get_or ys k 0 → ⊥) → l ≡ level → n ≡ kind → place ≡ k → left ≡ get_or xs k 0 → right ≡ get_or ys k 0
    → (next : Heard) → both_view kind level 0 xs ys next ≡ ended (views l n place left right)
view_is kind level k l n place left right xs ys h long before differ el en ep ex ey next =
    let at : 0 + k ≡ place = omega (arith, ep) in
    view_at kind level 0 k xs ys next h long before differ
    ∙ ap (λ p. ended (views level kind p (get_or xs k 0) (get_or ys k 0))) at
    ∙ ap (λ x. ended (views level kind place x (get_or ys k 0))) (sym ex) ∙ ap (λ y. ended (views level kind place left y)) (sym ey)
    ∙ ap (λ n. ended (views level n place left right)) (sym en) ∙ ap (λ l. ended (views l n place left right)) (sym el)
