-- What the totals of the kept rule say of single views.
use Rattle.std.proofs.Common.{◌≡◌, ℕ, zero, suc, ◌+◌, ◌-◌, ◌<◌, ◌≤◌, ◌^◌, ◌%◌, ◌==◌, Bool, true, false, List, [], ◌∷◌, length, sum_by, Option, refl, ◌∙◌, arith, eqb-true}
use Rattle.std.proofs.lemmas.List.Sums.{sum_by-cons}
use mathlib.Core.List.{IsPrefix}
use mathlib.Core.Logic.{dite}
use native.Mathlib.Decide.{ℕ_discrete}
use Rattle.atomic_table.specs.Table.{State}
use Rattle.turn_lock.specs.declared.views.View.{View}
use Rattle.turn_lock.specs.declared.views.Mine.{Mine}
use Rattle.turn_lock.specs.Places.{StandsAt, Everywhere, AtOnePlace}
use Rattle.turn_lock.specs.Logs.{entries_of}
use Rattle.turn_lock.specs.Seats.{numbered, Knows}
use Rattle.turn_lock.specs.Kept.{holds_ticket, has_one, in_turn, Saw, IsKept}
use Rattle.turn_lock.specs.Rule.{Counts, HoldsTicket, IsOrderly}
use Rattle.list_totals.proofs.Totals.{part_of, two_of}
use Rattle.list_totals.proofs.Elements.{each_map}
use Rattle.turn_lock.proofs.Counts.{below, once_is, once_at_most, is_between, between_is, at_most_one}
use Rattle.turn_lock.proofs.Moves.{holds_own, few_out}

module _ {X : Type 0} (f : X → ℕ) where
  -- where the total is positive, some element's part is
  some_part : (xs : List X) → 0 < sum_by f xs → (place : ℕ) × (x : X) × StandsAt xs place x × (0 < f x)
  some_part [] more = absurd (omega (arith, more))
  some_part (x ∷ xs) more = by_first (f x) refl (λ later. some_part xs later)
    where
      by_first : (n : ℕ) → f x ≡ n → (0 < sum_by f xs → (place : ℕ) × (y : X) × StandsAt xs place y × (0 < f y))
          → (place : ℕ) × (y : X) × StandsAt (x ∷ xs) place y × (0 < f y)
      by_first zero none later = let rest = later (omega (arith, sum_by-cons f x xs, none, more)) in (suc rest.0, rest.1, rest.2, rest.3)
      by_first (suc n) is later = (0, x, refl, omega (arith, is))

  -- where no two elements together fit under the total, exactly one has a part
  one_part : (xs : List X) → 0 < sum_by f xs → ((i j : ℕ) (x y : X) → StandsAt xs i x → StandsAt xs j y → 0 < f x → 0 < f y → j ≡ i)
      → AtOnePlace (λ x. 0 < f x) xs
  one_part xs more same = let found = some_part xs more in (found.0, found.1, found.2, found.3, λ j y at part. same found.0 j found.1 y found.2 at found.3 part)

  -- a total of 1 lies at one place
  one_of_one : (xs : List X) → sum_by f xs ≡ 1 → AtOnePlace (λ x. 0 < f x) xs
  one_of_one xs one = one_part xs (omega (arith, one)) (λ i j x y here there a b.
      dite (ℕ_discrete j i) (λ same. same) (λ ne. absurd (omega (arith, two_of f xs i j x y here there ne, one, a, b))))

module _ {X : Type 0} where
  -- the same under a fact that means the same
  as_fact : (F G : X → Type 0) (xs : List X) → ((x : X) → F x → G x) → ((x : X) → G x → F x) → AtOnePlace F xs → AtOnePlace G xs
  as_fact F G xs to back h = (h.0, h.1, h.2, to h.1 h.3, λ j y at g. h.4 j y at (back y g))

module _ {P E : Type 0} where
  holds_fact : (t : ℕ) (v : View P E) (b : Bool) → v.has ≡ b → 0 < holds_ticket t v → HoldsTicket t v
  holds_fact t v true is part = (is, ticket_fact (v.ticket == t) refl)
    where
      ticket_fact : (q : Bool) → (v.ticket == t) ≡ q → v.ticket ≡ t
      ticket_fact true same = eqb-true _ _ same
      ticket_fact false not_same = let none : ◌≡◌ {A = ℕ} (holds_ticket t v) 0 = rw (is, not_same) refl in absurd (omega (arith, none, part))
  holds_fact t v false is part = let none : ◌≡◌ {A = ℕ} (holds_ticket t v) 0 = rw is refl in absurd (omega (arith, none, part))

  no_turn : (views : List (View P E)) → Everywhere (λ (v : View P E). v.turn ≡ false) views → sum_by in_turn views ≡ 0
  no_turn [] none = refl
  no_turn (v ∷ vs) none =
      let first : ◌≡◌ {A = ℕ} (in_turn v) 0 = rw (none 0 v refl) refl in
      omega (arith, sum_by-cons in_turn v vs, first, no_turn vs (λ j u at. none (suc j) u at))

  -- a view that has seen something has a pass
  saw_some : (log : List E) (mine : List (Mine P E)) → Saw log mine → 0 < length mine
  saw_some log [] h = absurd h
  saw_some log (m ∷ ms) h = omega arith

-- the words' difference is how many tickets are out
difference : (t s k : ℕ) → t ≡ s + k → k ≤ 4096 → (t % 2 ^ 64 + 2 ^ 64 - s % 2 ^ 64) % 2 ^ 64 ≡ k
difference t s k out few = omega (arith, out, few)

module _ {S P E : Type 0} (plan_of : S → P) (log_of : S → List E) (by : E → ℕ) (plan : P) (passes total ticket serving : ℕ) (log : List E)
    (s : State (Option S) (View P E)) (r : IsKept plan_of log_of by plan passes total ticket serving log s) where
  some_pass : 0 < total
  some_pass =
      let l = r.longest in
      omega (arith, saw_some log l.1.mine l.3, part_of (λ (v : View P E). length v.mine) s.views l.0 l.1 l.2, r.lists)

  keeper : AtOnePlace Counts s.views
  keeper = one_part (λ (v : View P E). v.made) s.views (omega (arith, some_pass, r.made)) (λ i j v w at there a b.
      dite (ℕ_discrete j i) (λ same. same)
      (λ ne. absurd (omega (arith, two_of (λ (u : View P E). u.made) s.views i j v w at there ne, r.made, (r.fit i v at).made a, (r.fit j w there).made b, some_pass))))

  ticket_out : (t id : ℕ) (v : View P E) → StandsAt s.views id v → HoldsTicket t v → (serving ≤ t) × (t < ticket)
  ticket_out t id v at h = is_between serving ticket t (omega (arith, part_of (holds_ticket t) s.views id v at, r.tickets t, holds_own t v h.0 h.1))

  pub orderly : IsOrderly plan_of log_of by plan total ticket serving log s
  orderly = record {
    keeper = keeper;
    count = λ id v at counts. (r.fit id v at).made counts;
    limit = omega (arith, r.few.0, r.few.1);
    number = λ k lt. one_of_one (λ (v : View P E). numbered k v.mine) s.views (r.numbers k ∙ once_is k total lt);
    once = λ k id v at. omega (arith, part_of (λ (u : View P E). numbered k u.mine) s.views id v at, r.numbers k, once_at_most k total);
    no_other = λ k id v at has. below k total (omega (arith, part_of (λ (u : View P E). numbered k u.mine) s.views id v at, r.numbers k, has));
    words = r.words;
    out = rw r.words (difference ticket serving (sum_by has_one s.views) r.count (few_out plan_of log_of by plan passes total ticket serving log s r));
    held = λ t low high. as_fact (λ v. 0 < holds_ticket t v) (HoldsTicket t) s.views (λ v part. holds_fact t v v.has refl part) (λ v h. omega (arith, holds_own t v h.0 h.1))
        (one_of_one (holds_ticket t) s.views (r.tickets t ∙ between_is serving ticket t low high));
    no_other_held = λ t id v at h. ticket_out t id v at h;
    turn = λ id v at is. let f = (r.fit id v at).turn is in ((f.0, f.1), f.2);
    one_turn = λ i j v w at there is also.
        dite (ℕ_discrete i j) (λ same. same)
        (λ ne.
        let a = (r.fit i v at).turn is in
        let b = (r.fit j w there).turn also in
        absurd (omega (arith, two_of (holds_ticket serving) s.views j i w v there at ne, holds_own serving v a.0 a.1, holds_own serving w b.0 b.1, r.tickets serving, at_most_one serving ticket serving)));
    seen = λ id v at. each_map (Knows by plan log) (λ m. IsPrefix m.seen log) (λ m knows. knows.1) v.mine (r.fit id v at).mine;
    longest = r.longest;
    entries = r.entries;
    own = λ id v at. each_map (Knows by plan log) (λ m. m.own ≡ entries_of by m.number log) (λ m knows. knows.2) v.mine (r.fit id v at).mine;
    carried = λ id v at. each_map (Knows by plan log) (λ m. m.plan ≡ plan) (λ m knows. knows.0) v.mine (r.fit id v at).mine;
    home = λ none. r.home (no_turn s.views none);
  }
