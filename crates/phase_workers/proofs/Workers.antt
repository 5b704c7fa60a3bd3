-- What the log of a closed level has, from the pairs of drawers and passes.
use Rattle.std.proofs.Common.{◌≡◌, ℕ, ◌+◌, ◌<◌, ◌==◌, Bool, true, false, nat_lt, cond, if◌then◌else◌, List, [], ◌∷◌, length, sum_by, refl, sym, ◌∙◌, subst, arith}
use Rattle.std.proofs.lemmas.List.Sums.{sum_by-append, sum_by-cons}
use Rattle.std.specs.List.{AllByRecursion, flat_map}
use Rattle.atomic_table.specs.Seated.{TableId}
use Rattle.tile_claims.specs.Drawers.{DrawerSeen, all_drawn}
use Rattle.tile_claims.specs.Lists.{HasEachBelowOnce, times}
use Rattle.tile_claims.specs.Plans.{Plan}
use Rattle.turn_lock.specs.Seen.{LockId, PassSeen}
use Rattle.lock_row.specs.Columns.{heads, tails}
use Rattle.core_definitions.specs.Phase.{Posting}
use Rattle.phase_state.proofs.Marks.{below_is}
use Rattle.level_totals.specs.declared.held_phase.StripePlan.{StripePlan}
use Rattle.level_totals.specs.Levels.{LevelPassSeen, seen_of, own_of, Has, IsStripeLog, AreStripeLogs, FromStripes}
use Rattle.phase_workers.specs.Crews.{Pairs, Worked}
use Rattle.phase_workers.specs.Marked.{IsPaired}
use Rattle.phase_workers.proofs.Together.{pairs_right, all_entries, own_there, none_of}
use Rattle.phase_workers.proofs.Lists.{front_all, rest_all, both_all}
use Rattle.phase_workers.proofs.Ends.{Both, each_there}

-- how often x was drawn, drawer by drawer
drawn_total : (x : ℕ) (ds : List DrawerSeen) → times x (all_drawn ds) ≡ sum_by (λ d. times x d.drawn) ds
drawn_total x [] = refl
drawn_total x (d ∷ ds) = omega (arith, sum_by-append (λ (y : ℕ). cond (y == x) 1 0) d.drawn (all_drawn ds), sum_by-cons (λ (e : DrawerSeen). times x e.drawn) d ds, drawn_total x ds)

same_choice : (b : Bool) → ◌≡◌ {A = ℕ} (if b then 1 else 0) (cond b 1 0)
same_choice true = refl
same_choice false = refl

module _ {X Y : Type 0} (R S : X → Y → Type 0) (go : (x : X) (y : Y) → R x y → S x y) where
  pub pairs_weaken : (xs : List X) (ys : List Y) → Pairs R xs ys → Pairs S xs ys
  pairs_weaken [] [] p = tt
  pairs_weaken [] (y ∷ ys) p = absurd p
  pairs_weaken (x ∷ xs) [] p = absurd p
  pairs_weaken (x ∷ xs) (y ∷ ys) p = (go x y p.0, pairs_weaken xs ys p.1)

-- ---- of all stripes

abbrev AllOwn : (Posting → Type 0) → LevelPassSeen → Type 0
AllOwn Q pass = AllByRecursion Q (own_of pass)

first_own : (Q : Posting → Type 0) (passes : List LevelPassSeen) → AllByRecursion (AllOwn Q) passes → AllByRecursion (λ p. AllByRecursion Q p.own) (heads passes)
first_own Q [] q = tt
first_own Q ([] ∷ rows) q = first_own Q rows q.1
first_own Q ((p ∷ ps) ∷ rows) q = (front_all Q p.own (own_of ps) q.0, first_own Q rows q.1)

other_own : (Q : Posting → Type 0) (passes : List LevelPassSeen) → AllByRecursion (AllOwn Q) passes → AllByRecursion (AllOwn Q) (tails passes)
other_own Q [] q = tt
other_own Q ([] ∷ rows) q = (tt, other_own Q rows q.1)
other_own Q ((p ∷ ps) ∷ rows) q = (rest_all Q p.own (own_of ps) q.0, other_own Q rows q.1)

stripe_entries : (Q : Posting → Type 0) (plan : Plan) (at : ℕ) (known : List (PassSeen StripePlan Posting)) (log : List Posting) → IsStripeLog plan at known log
    → AllByRecursion (λ p. AllByRecursion Q p.own) known → AllByRecursion Q log
stripe_entries Q plan at known log h q =
    all_entries Q (length known) log
    (λ x less. own_there (λ (p : PassSeen StripePlan Posting). p.number) (λ p. p.own) Q log known h.own q x
    (omega (arith, h.numbers x ∙ sym (same_choice (nat_lt x (length known))), below_is x (length known) less)))
    h.entries

-- Q of each entry of all stripes, from Q of each pass's own entries
each_entry : (Q : Posting → Type 0) (plan : Plan) (at : ℕ) (passes : List LevelPassSeen) (logs : List (List Posting)) → AreStripeLogs plan at passes logs
    → AllByRecursion (AllOwn Q) passes → AllByRecursion Q (flat_map (λ l. l) logs)
each_entry Q plan at passes [] h q = tt
each_entry Q plan at passes (log ∷ logs) h q =
    both_all Q log (flat_map (λ l. l) logs) (stripe_entries Q plan at (heads passes) log h.0 (first_own Q passes q))
    (each_entry Q plan (at + 1) (tails passes) logs h.1 (other_own Q passes q))

pub worked : (locks : List (LockId StripePlan)) (table : TableId) (tells : Bool) (rule : ℕ → Bool) (tiles workers n : ℕ) (plan : Plan) (log : List Posting) (ds : List DrawerSeen) (ps : List LevelPassSeen)
    → Pairs (IsPaired locks table tells rule tiles) ds ps → 0 < length ds
    → HasEachBelowOnce n (all_drawn ds)
    → AllByRecursion (λ p. Has (seen_of p) log) ps → FromStripes plan ps log → AllByRecursion (λ e. e.number < workers) log
    → Worked tells rule tiles workers log
worked locks table tells rule tiles workers n plan log ds ps pairs some drawn seen from few =
    let both = pairs_weaken (IsPaired locks table tells rule tiles) (Both (λ d. d.drawn) seen_of own_of tells rule tiles n log) (λ d p h. (h.last, h.did)) ds ps pairs in
    record {
      there = each_there (λ d. d.drawn) seen_of own_of tells rule tiles n log ds ps both some (λ x. sym (drawn_total x ds) ∙ drawn x) seen;
      none = λ t k left.
          none_of rule k log
          (subst (AllByRecursion (λ (e : Posting). rule e.tile ≡ false)) (sym from.joined)
          (each_entry (λ (e : Posting). rule e.tile ≡ false) plan 0 ps from.logs from.are
          (pairs_right (Both (λ (d : DrawerSeen). d.drawn) seen_of own_of tells rule tiles n log) (AllOwn (λ (e : Posting). rule e.tile ≡ false)) ds ps both (λ d p b. b.1.kept t))))
          left;
      few = few;
    }
