-- AllByRecursion step keeps the rule.
use Rattle.std.proofs.Common.{get_or, inl, ◌≡◌, ◌≢◌, ℕ, zero, suc, ◌+◌, ◌<◌, ◌≤◌, ◌^◌, ◌%◌, ◌==◌, Bool, true, false, true≢false, cond, List, [], ◌∷◌, ◌++◌, length, drop, set, sum_by, slice_index, Option, Some, MatchBool, refl, sym, ap, ◌∙◌, subst, arith, eqb-true, eq-eqb}
use Rattle.std.proofs.lemmas.Bool.Decides.{nat_tests}
use Rattle.std.proofs.lemmas.List.Sums.{sum_by_push, sum_by-append}
use Rattle.std.proofs.Math.Seq.{drop-append_seam}
use Rattle.std.proofs.lemmas.List.{append-nil, length-append}
use mathlib.Core.Option.{Option as Home, some, some-injective, some-ne-none}
use lib.ListN.{get_elem?}
use Rattle.atomic_table.specs.Table.{State, Act, keeps, takes, gives, Allows, Splits, Joins, Final, Seen, Valid, Me, carried_after, homes_after}
use Rattle.atomic_table.proofs.Lists.{set_again, set_else, one_turn}
use Rattle.turn_lock.specs.declared.views.View.{View}
use Rattle.turn_lock.specs.declared.views.Mine.{Mine}
use Rattle.std.specs.List.{AllByRecursion}
use Rattle.turn_lock.specs.Places.{once_below}
use Rattle.turn_lock.specs.Logs.{entries_of}
use Rattle.turn_lock.specs.Seats.{resting, waiting, inside, new_pass, numbered, Knows, Watches, Draws, gave, Leaves, counts_on, newcomer, both, number_of, HasPlan}
use Rattle.turn_lock.specs.Kept.{between, holds_ticket, has_one, in_turn, Fits, IsKept, Kept, IsWhole}
use Rattle.list_totals.proofs.Totals.{total_set, part_of, two_of, within, kept, fit_set, fit_push, whole, one_counts, same_test}
use Rattle.list_totals.proofs.Elements.{each_map, each_append}
use Rattle.turn_lock.proofs.Totals.{within_less}
use Rattle.turn_lock.proofs.Longest.{here, saw_left, saw_right, seen_set, seen_push, seen_join}
use Rattle.turn_lock.proofs.Told.{same_some}
use Rattle.turn_lock.proofs.Logs.{grown_own, grown, none_yet}
use Rattle.turn_lock.proofs.Counts.{between_more, between_less, is_between, at_most_one, below, once_at_most, one_more}

module _ {P E : Type 0} where
  pub holds_own : (x : ℕ) (v : View P E) → v.has ≡ true → v.ticket ≡ x → holds_ticket x v ≡ 1
  holds_own x v is same = rw (is, eq-eqb v.ticket x same) refl

  turned_holds : (x : ℕ) (v : View P E) (b : Bool) → v.turn ≡ b → (v.turn ≡ true → (v.has ≡ true) × (v.ticket ≡ x)) → in_turn v ≤ holds_ticket x v
  turned_holds x v true is h = let own = holds_own x v (h is).0 (h is).1 in let one : in_turn v ≡ 1 = rw is refl in omega (arith, own, one)
  turned_holds x v false is h = let none : in_turn v ≡ 0 = rw is refl in omega (arith, none)

module _ {S P E : Type 0} (plan : S → P) (log : S → List E) (by : E → ℕ) (p : P) (passes : ℕ) where
  abbrev Law : State (Option S) (View P E) → Type 0
  Law = Kept plan log by p passes

  module _ (n ticket serving : ℕ) (b : List E) (s : State (Option S) (View P E)) (r : IsKept plan log by p passes n ticket serving b s) where
    -- no more tickets are out than there can be passes
    pub few_out : sum_by has_one s.views ≤ 4096
    few_out = omega (arith, r.lists, r.few.0, r.few.1, within has_one (λ (v : View P E). length v.mine) s.views (λ j u e. (r.fit j u e).has))

    -- who holds the ticket that is served is between the counts
    held : (id : ℕ) (v : View P E) → get_elem? s.views id ≡ some v → v.has ≡ true → (serving ≤ v.ticket) × (v.ticket < ticket)
    held id v at is = is_between serving ticket v.ticket (omega (arith, part_of (holds_ticket v.ticket) s.views id v at, r.tickets v.ticket, holds_own v.ticket v is refl))

    -- where the ticket that is served is held by a view that is not in turn, no view is in turn
    nobody : (id : ℕ) (v : View P E) → get_elem? s.views id ≡ some v → v.has ≡ true → v.turn ≡ false → v.ticket ≡ serving → sum_by in_turn s.views ≡ 0
    nobody id v at is out same =
        let mine : in_turn v ≡ 0 = rw out refl in
        omega (
          arith,
          mine,
          holds_own serving v is same,
          r.tickets serving,
          at_most_one serving ticket serving,
          within_less in_turn (holds_ticket serving) s.views id v at (λ j u e. turned_holds serving u u.turn refl (λ on. let t = (r.fit j u e).turn on in (t.0, t.1))) (omega (arith, mine, holds_own serving v is same)),
        )

    -- the one that is served is the one whose number was found
    served : (id : ℕ) (v : View P E) → get_elem? s.views id ≡ some v → v.has ≡ true → v.ticket % 2 ^ 64 ≡ serving % 2 ^ 64 → serving ≡ v.ticket
    served id v at is found = let z = held id v at is in one_turn serving v.ticket (2 ^ 64) z.0 (omega (arith, z.1, r.count, few_out)) (sym found)

  pub draws : (id slots made : ℕ) (ms : List (Mine P E)) → 0 < length ms
      → Allows Law slots id (resting made ms, []) 0 (λ k. (k + 1) % 2 ^ 64) (Draws {S = S} (resting made ms, []))
  draws id slots made ms some_pass s h count at fits =
      let n = h.0 in
      let ticket = h.1 in
      let serving = h.2 in
      let b = h.3 in
      let r = h.4 in
      let v = resting made ms in
      let w = waiting made ms ticket in
      let put = set s.views id w in
      let Goal : List ℕ → Type 0 = λ ws. (x : View P E) × (a : Act (Option S)) × Valid s.homes [] a
      × Law (record { words = set ws 0 ((slice_index ws 0 + 1) % 2 ^ 64); homes = homes_after s.homes [] a; views = set s.views id x })
      × Draws {S = S} (v, []) (slice_index ws 0) (x, carried_after [] a) in
      let next : IsKept plan log by p passes n (ticket + 1) serving b (record { words = (ticket % 2 ^ 64 + 1) % 2 ^ 64 ∷ serving % 2 ^ 64 ∷ []; homes = s.homes; views = put }) = record {
        words = ap (λ k. k ∷ serving % 2 ^ 64 ∷ []) (omega arith);
        few = r.few;
        made = kept (λ (u : View P E). u.made) s.views id v w at refl ∙ r.made;
        lists = kept (λ (u : View P E). length u.mine) s.views id v w at refl ∙ r.lists;
        numbers = λ x. kept (λ (u : View P E). numbered x u.mine) s.views id v w at refl ∙ r.numbers x;
        count = omega (arith, total_set has_one s.views id v w at, r.count);
        tickets = λ x. omega (arith, total_set (holds_ticket x) s.views id v w at, r.tickets x, between_more serving ticket x (omega (arith, r.count)));
        fit = fit_set (Fits by p n serving b) s.views id w (let f = r.fit id v at in record { has = some_pass; made = f.made; turn = λ no. absurd (true≢false (sym no)); mine = f.mine }) (λ j u _ e. r.fit j u e);
        longest = seen_set b s.views id v w at (λ x. x) r.longest;
        entries = r.entries;
        home = λ none. r.home (omega (arith, total_set in_turn s.views id v w at, none));
      } in
      subst Goal (sym r.words) (w, keeps, tt, (n, ticket + 1, serving, b, next), (ticket, refl, refl))

  first_home : (homes : List (Home (Option S))) (y : Option S) → length homes ≡ 1 → set homes 0 (some y) ≡ some y ∷ []
  first_home (x ∷ []) y len = refl
  first_home [] y len = absurd (omega (arith, len))
  first_home (x ∷ z ∷ zs) y len = absurd (omega (arith, len))

  pub watches : (id slots made t : ℕ) (ms : List (Mine P E))
      → Allows Law slots id (waiting made ms t, []) 1 (λ k. k) (Watches plan log by (waiting made ms t, []))
  watches id slots made t ms s h count at fits =
      let n = h.0 in
      let ticket = h.1 in
      let serving = h.2 in
      let b = h.3 in
      let r = h.4 in
      let v = waiting made ms t in
      let Goal : List ℕ → Bool → Type 0 = λ ws q. (x : View P E) × (a : Act (Option S)) × Valid s.homes [] a
      × Law (record { words = set ws 1 (slice_index ws 1); homes = homes_after s.homes [] a; views = set s.views id x })
      × MatchBool q
      ((y : S) × (◌≡◌ {A = Me (Option S) (View P E)} (x, carried_after [] a) (inside made ms t (log y), (0, Some y) ∷ [])) × AllByRecursion (Knows by (plan y) (log y)) ms)
      (◌≡◌ {A = Me (Option S) (View P E)} (x, carried_after [] a) (v, [])) in
      let ws = ticket % 2 ^ 64 ∷ serving % 2 ^ 64 ∷ [] in
      let go : (q : Bool) → (t % 2 ^ 64 == serving % 2 ^ 64) ≡ q → Goal ws q = λ q. elim q as (λ c. (t % 2 ^ 64 == serving % 2 ^ 64) ≡ c → Goal ws c) [
        | true ↦ λ e.
            let same : serving ≡ t = served n ticket serving b s r id v at refl (eqb-true _ _ e) in
            let home = r.home (nobody n ticket serving b s r id v at refl refl (sym same)) in
            let y = home.0 in
            let w = inside made ms t (log y) in
            let put = set s.views id w in
            let f = r.fit id v at in
            let next : IsKept plan log by p passes n ticket serving b (record { words = ws; homes = set s.homes 0 mathlib.Core.Option.none; views = put }) = record {
              words = refl;
              few = r.few;
              made = kept (λ (u : View P E). u.made) s.views id v w at refl ∙ r.made;
              lists = kept (λ (u : View P E). length u.mine) s.views id v w at refl ∙ r.lists;
              numbers = λ x. kept (λ (u : View P E). numbered x u.mine) s.views id v w at refl ∙ r.numbers x;
              count = omega (arith, total_set has_one s.views id v w at, r.count);
              tickets = λ x. omega (arith, total_set (holds_ticket x) s.views id v w at, r.tickets x);
              fit = fit_set (Fits by p n serving b) s.views id w (record { has = f.has; made = f.made; turn = λ _. (refl, sym same, home.3); mine = f.mine }) (λ j u _ d. r.fit j u d);
              longest = seen_set b s.views id v w at (λ x. x) r.longest;
              entries = r.entries;
              home = λ none. absurd (omega (arith, total_set in_turn s.views id v w at, none));
            } in
            let known : AllByRecursion (Knows by (plan y) (log y)) ms =
            subst (λ l. AllByRecursion (Knows by (plan y) l) ms) (sym home.3) (subst (λ z. AllByRecursion (Knows by z b) ms) (sym home.2) f.mine) in
            (w, takes 0 (Some y), subst (λ l. get_elem? l 0 ≡ some (some (Some y))) (sym home.1) refl, (n, ticket, serving, b, next), (y, refl, known))
        | false ↦ λ e. (v, keeps, tt, (n, ticket, serving, b, subst (λ l. IsKept plan log by p passes n ticket serving b (record { words = ws; homes = s.homes; views = l })) (sym (set_again s.views id v at)) (record { words = refl; few = r.few; made = r.made; lists = r.lists; numbers = r.numbers; count = r.count; tickets = r.tickets; fit = r.fit; longest = r.longest; entries = r.entries; home = r.home })), refl)
      ] in
      subst (λ l. Goal l (t % 2 ^ 64 == slice_index l 1)) (sym r.words) (go (t % 2 ^ 64 == serving % 2 ^ 64) refl)

  -- one view alone has the number
  alone : (n : ℕ) (views : List (View P E)) → ((x : ℕ) → sum_by (λ (u : View P E). numbered x u.mine) views ≡ once_below x n)
      → (id : ℕ) (v : View P E) (k : ℕ) → get_elem? views id ≡ some v → numbered k v.mine ≡ 1 → (j : ℕ) (u : View P E) → j ≢ id → get_elem? views j ≡ some u → numbered k u.mine ≡ 0
  alone n views numbers id v k at one j u ne there =
      omega (arith, two_of (λ (z : View P E). numbered k z.mine) views id j v u at there ne, one, numbers k, once_at_most k n)

  own_number : (m : Mine P E) → numbered m.number (m ∷ []) ≡ 1
  own_number m = rw (eq-eqb m.number m.number refl) refl

  pub leaves : (id made t : ℕ) (m : Mine P E) (taken more : List E) (y : S) → plan y ≡ m.plan → log y ≡ taken ++ more → AllByRecursion (λ e. by e ≡ m.number) more
      → Allows Law 1 id (inside made (m ∷ []) t taken, (0, Some y) ∷ []) 1 (λ k. (k + 1) % 2 ^ 64) (Leaves log (inside made (m ∷ []) t taken, (0, Some y) ∷ []))
  leaves id made t m taken more y same_plan grew mine_alone s h count at fits =
      let n = h.0 in
      let ticket = h.1 in
      let serving = h.2 in
      let b = h.3 in
      let r = h.4 in
      let v = inside made (m ∷ []) t taken in
      let after : Mine P E = record { number = m.number; plan = m.plan; seen = log y; own = m.own ++ more } in
      let w = resting made (after ∷ []) in
      let put = set s.views id w in
      let f = r.fit id v at in
      let turn = f.turn refl in
      let knows = f.mine.0 in
      let z = held n ticket serving b s r id v at refl in
      let lower : serving < ticket = omega (arith, z.1, turn.1) in
      let bigger : log y ≡ b ++ more = grew ∙ ap (λ l. l ++ more) turn.2 in
      let others = alone n s.views r.numbers id v m.number at (own_number m) in
      let number_below : m.number < n = below m.number n (omega (arith, part_of (λ (u : View P E). numbered m.number u.mine) s.views id v at, r.numbers m.number, own_number m)) in
      let Goal : List ℕ → Type 0 = λ ws. (x : View P E) × (a : Act (Option S)) × Valid s.homes ((0, Some y) ∷ []) a
      × Law (record { words = set ws 1 ((slice_index ws 1 + 1) % 2 ^ 64); homes = homes_after s.homes ((0, Some y) ∷ []) a; views = set s.views id x })
      × Leaves log (v, (0, Some y) ∷ []) (slice_index ws 1) (x, carried_after ((0, Some y) ∷ []) a) in
      let next : IsKept plan log by p passes n ticket (serving + 1) (b ++ more) (record { words = ticket % 2 ^ 64 ∷ (serving % 2 ^ 64 + 1) % 2 ^ 64 ∷ []; homes = set s.homes 0 (some (Some y)); views = put }) = record {
        words = ap (λ k. ticket % 2 ^ 64 ∷ k ∷ []) (omega arith);
        few = r.few;
        made = kept (λ (u : View P E). u.made) s.views id v w at refl ∙ r.made;
        lists = kept (λ (u : View P E). length u.mine) s.views id v w at refl ∙ r.lists;
        numbers = λ x. kept (λ (u : View P E). numbered x u.mine) s.views id v w at refl ∙ r.numbers x;
        count = omega (arith, total_set has_one s.views id v w at, r.count);
        tickets = λ x. omega (arith, total_set (holds_ticket x) s.views id v w at, r.tickets x, between_less serving ticket x lower, (let g : ◌≡◌ {A = ℕ} (holds_ticket x v) (cond (serving == x) 1 0) = rw (turn.1) refl in g));
        fit = fit_set (Fits by p n (serving + 1) (b ++ more)) s.views id w
            (record {
              has = omega arith;
              made = f.made;
              turn = λ no. absurd (true≢false (sym no));
              mine = ((knows.0, ([], append-nil (log y) ∙ bigger), ap (λ l. l ++ more) knows.2 ∙ sym (grown_own by m.number b more mine_alone)), tt);
            })
            (λ j u ne e.
            let g = r.fit j u e in
            record {
              has = g.has;
              made = g.made;
              turn = λ on. let q = g.turn on in absurd (omega (arith, two_of (holds_ticket serving) s.views id j v u at e ne, holds_own serving v refl turn.1, holds_own serving u q.0 q.1, r.tickets serving, at_most_one serving ticket serving));
              mine = grown by m.number b more mine_alone p u.mine g.mine (others j u ne e);
            });
        longest = (id, w, here s.views id v w at, inl bigger);
        entries = each_append (λ e. by e < n) b more r.entries (each_map (λ e. by e ≡ m.number) (λ e. by e < n) (λ e is. omega (arith, is, number_below)) more mine_alone);
        home = λ none. (y, first_home s.homes (Some y) count, same_plan ∙ knows.0, bigger);
      } in
      let tail : drop (length taken) (log y) ≡ more = ap (drop (length taken)) grew ∙ drop-append_seam taken more in
      let told : ◌≡◌ {A = Me (Option S) (View P E)} (w, []) (resting made (gave taken (log y) m ∷ []), []) =
      ap (λ l. (resting made (record { number = m.number; plan = m.plan; seen = log y; own = m.own ++ l } ∷ []), [])) (sym tail) in
      subst Goal (sym r.words) (w, gives, tt, (n, ticket, serving + 1, b ++ more, next), told)

  -- while a view is in turn, whatever stands in the slot
  pub slot_moves : (id : ℕ) (v : View P E) (s : State (Option S) (View P E)) (homes : List (Home (Option S)))
      → Law s → get_elem? s.views id ≡ some v → v.turn ≡ true → Law (record { words = s.words; homes = homes; views = s.views })
  slot_moves id v s homes h at is =
      let r = h.4 in
      let one : ◌≡◌ {A = ℕ} (in_turn v) 1 = rw is refl in (
        h.0,
        h.1,
        h.2,
        h.3,
        record {
          words = r.words;
          few = r.few;
          made = r.made;
          lists = r.lists;
          numbers = r.numbers;
          count = r.count;
          tickets = r.tickets;
          fit = r.fit;
          longest = r.longest;
          entries = r.entries;
          home = λ none. absurd (omega (arith, none, one, part_of in_turn s.views id v at));
        },
      )

  pub leaves_one : (id made t : ℕ) (ms : List (Mine P E)) (taken more : List E) (y : S) → length ms ≡ 1 → plan y ≡ p → HasPlan p ms → log y ≡ taken ++ more → AllByRecursion (λ e. by e ≡ number_of ms) more
      → Allows Law 1 id (inside made ms t taken, (0, Some y) ∷ []) 1 (λ k. (k + 1) % 2 ^ 64) (Leaves log (inside made ms t taken, (0, Some y) ∷ []))
  leaves_one id made t [] taken more y one is have grew own = absurd (omega (arith, one))
  leaves_one id made t (m ∷ []) taken more y one is have grew own = leaves id made t m taken more y (is ∙ sym (ap (λ l. get_or l 0 p) have)) grew own
  leaves_one id made t (m ∷ m' ∷ ms) taken more y one is have grew own = absurd (omega (arith, one))

  pub opens : (s : S) → plan s ≡ p → log s ≡ [] → 0 < passes → passes ≤ 4096
      → Law (record { words = 0 ∷ 0 ∷ []; homes = some (Some s) ∷ []; views = resting 1 (new_pass 0 p [] ∷ []) ∷ [] })
  opens s same_plan empty some_pass most =
      let first : View P E = resting 1 (new_pass 0 p [] ∷ []) in (
        1,
        0,
        0,
        [],
        record {
          words = refl;
          few = (some_pass, most);
          made = refl;
          lists = refl;
          numbers = λ x. opened x;
          count = refl;
          tickets = λ x. nobody_yet x;
          fit = λ j u e. opened_fit j u e;
          longest = (0, first, refl, inl refl);
          entries = tt;
          home = λ none. (s, refl, same_plan, empty);
        },
      )
    where
      opened : (x : ℕ) → 0 + (0 + cond (0 == x) 1 0) ≡ once_below x 1
      opened x = grind (arith, nat_tests)

      nobody_yet : (x : ℕ) → 0 ≡ between 0 0 x
      nobody_yet x = grind (arith, nat_tests)

      opened_fit : (j : ℕ) (u : View P E) → get_elem? (resting 1 (new_pass 0 p [] ∷ []) ∷ []) j ≡ some u → Fits by p 1 0 [] u
      opened_fit zero u e = subst (Fits by p 1 0 []) (some-injective _ _ e) (record { has = omega arith; made = λ _. refl; turn = λ no. absurd (true≢false (sym no)); mine = ((refl, ([], refl), refl), tt) })
      opened_fit (suc j) u e = absurd (some-ne-none u (sym e))

  pub splits : (id made : ℕ) (m : Mine P E) → 0 < made → made < passes
      → Splits {S = Option S} Law id (resting made (m ∷ [])) (counts_on (resting made (m ∷ []))) (newcomer (resting made (m ∷ [])))
  splits id made m counting room s h at =
      let n = h.0 in
      let ticket = h.1 in
      let serving = h.2 in
      let b = h.3 in
      let r = h.4 in
      let v = resting made (m ∷ []) in
      let left = counts_on v in
      let right = newcomer v in
      let put = set s.views id left in
      let f = r.fit id v at in
      let all : made ≡ n = f.made counting in
      let more : AllByRecursion (λ e. by e < n + 1) b = each_map (λ e. by e < n) (λ e. by e < n + 1) (λ e lt. omega (arith, lt)) b r.entries in (
        n + 1,
        ticket,
        serving,
        b,
        record {
          words = r.words;
          few = (omega (arith, all, room), r.few.1);
          made = omega (arith, total_set (λ (u : View P E). u.made) s.views id v left at, sum_by_push (λ (u : View P E). u.made) put right, r.made);
          lists = omega (arith, total_set (λ (u : View P E). length u.mine) s.views id v left at, sum_by_push (λ (u : View P E). length u.mine) put right, r.lists);
          numbers = λ x. omega (arith, total_set (λ (u : View P E). numbered x u.mine) s.views id v left at, sum_by_push (λ (u : View P E). numbered x u.mine) put right, r.numbers x, one_more x n, same_test made n x all);
          count = omega (arith, total_set has_one s.views id v left at, sum_by_push has_one put right, r.count);
          tickets = λ x. omega (arith, total_set (holds_ticket x) s.views id v left at, sum_by_push (holds_ticket x) put right, r.tickets x);
          fit = fit_push (Fits by p (n + 1) serving b) put right
              (record { has = omega arith; made = λ no. absurd (omega (arith, no)); turn = λ no. absurd (true≢false (sym no)); mine = ((f.mine.0.0, f.mine.0.1, sym (ap (λ k. entries_of by k b) all ∙ none_yet by n b r.entries)), tt) })
              (fit_set (Fits by p (n + 1) serving b) s.views id left
              (record { has = omega arith; made = λ _. ap (λ k. k + 1) all; turn = λ no. absurd (true≢false (sym no)); mine = f.mine })
              (λ j u ne e. let g = r.fit j u e in record { has = g.has; made = λ some_made. absurd (omega (arith, some_made, two_of (λ (z : View P E). z.made) s.views id j v u at e ne, r.made, all)); turn = g.turn; mine = g.mine }));
          longest = seen_push b put right (seen_set b s.views id v left at (λ x. x) r.longest);
          entries = more;
          home = λ none. r.home (omega (arith, total_set in_turn s.views id v left at, sum_by_push in_turn put right, none));
        },
      )

  pub joins : (id other k l : ℕ) (ms ns : List (Mine P E))
      → Joins {S = Option S} Law id (resting k ms) other (resting l ns) (both (resting k ms) (resting l ns)) (resting 0 [])
  joins id other k l ms ns s h at ne there =
      let n = h.0 in
      let ticket = h.1 in
      let serving = h.2 in
      let b = h.3 in
      let r = h.4 in
      let v = resting k ms in
      let w = resting l ns in
      let all = both v w in
      let spent : View P E = resting 0 [] in
      let put = set s.views id all in
      let was : get_elem? s.views other ≡ some w = sym (set_else s.views id other all ne) ∙ there in
      let mine = r.fit id v at in
      let theirs = r.fit other w was in
      let change : (f : View P E → ℕ) → sum_by f (set put other spent) + f w + f v ≡ sum_by f s.views + f all + f spent = λ f. omega (arith, total_set f s.views id v all at, total_set f put other w spent there) in (
        n,
        ticket,
        serving,
        b,
        record {
          words = r.words;
          few = r.few;
          made = omega (arith, change (λ (u : View P E). u.made), r.made);
          lists = omega (arith, change (λ (u : View P E). length u.mine), r.lists, length-append ns ms);
          numbers = λ x. omega (arith, change (λ (u : View P E). numbered x u.mine), r.numbers x, sum_by-append (λ (m : Mine P E). cond (m.number == x) 1 0) ns ms);
          count = omega (arith, change has_one, r.count);
          tickets = λ x. omega (arith, change (holds_ticket x), r.tickets x);
          fit = fit_set (Fits by p n serving b) put other spent
              (record { has = omega arith; made = λ no. absurd (omega (arith, no)); turn = λ no. absurd (true≢false (sym no)); mine = tt })
              (λ j u _ e. fit_set (Fits by p n serving b) s.views id all
              (record {
                has = omega arith;
                made = one_counts k l n (omega (arith, two_of (λ (z : View P E). z.made) s.views id other v w at was ne, r.made)) mine.made theirs.made;
                turn = λ no. absurd (true≢false (sym no));
                mine = each_append (Knows by p b) ns ms theirs.mine mine.mine;
              })
              (λ i z _ d. r.fit i z d) j u e);
          longest = seen_join b s.views id other v w all spent at was ne (saw_right b ns ms) (saw_left b ns ms) r.longest;
          entries = r.entries;
          home = λ none. r.home (omega (arith, change in_turn, none));
        },
      )

  turned_has : (v : View P E) (q : Bool) → v.turn ≡ q → (v.turn ≡ true → v.has ≡ true) → in_turn v ≤ has_one v
  turned_has v true is h = let a : ◌≡◌ {A = ℕ} (has_one v) 1 = rw (h is) refl in let c : ◌≡◌ {A = ℕ} (in_turn v) 1 = rw is refl in omega (arith, a, c)
  turned_has v false is h = let c : ◌≡◌ {A = ℕ} (in_turn v) 0 = rw is refl in omega (arith, c)

  -- at the end, who has every pass has the whole log
  abbrev Whole : List (Mine P E) → S → Type 0
  Whole = IsWhole plan log by p passes

  pub closes : (id k : ℕ) (ms : List (Mine P E)) (words : List ℕ) (slots : List (Option S)) → length ms ≡ passes
      → Final (Seen Law id (resting k ms)) words slots → (x : S) × (get_elem? slots 0 ≡ some (Some x)) × Whole ms x
  closes id k ms words slots every final =
      let s = final.0 in
      let h = final.1.0 in
      let at = final.1.1 in
      let n = h.0 in
      let ticket = h.1 in
      let serving = h.2 in
      let b = h.3 in
      let r = h.4 in
      let v = resting k ms in
      let size : View P E → ℕ = λ u. length u.mine in
      let part = part_of size s.views id v at in
      let counted : n ≡ passes = omega (arith, r.lists, r.few.0, every, part) in
      let total = whole size in_turn s.views id v at (omega (arith, r.lists, counted, every)) (λ j u e none.
      let f = r.fit j u e in omega (arith, f.has, none, turned_has u u.turn refl (λ on. (f.turn on).0))) in
      let home = r.home (omega (arith, total)) in
      let x = home.0 in
      let numbers = λ (y : ℕ).
      sym (whole size (λ (u : View P E). numbered y u.mine) s.views id v at (omega (arith, r.lists, counted, every)) (λ j u e none. empty_numbers y u.mine none))
      ∙ r.numbers y ∙ ap (once_below y) counted in (
        x,
        final.4 0 (Some x) (subst (λ l. get_elem? l 0 ≡ some (some (Some x))) (sym home.1) refl),
        record {
          planned = home.2;
          known = subst (λ l. AllByRecursion (Knows by p l) ms) (sym home.3) (r.fit id v at).mine;
          numbers = numbers;
          entries = subst (λ l. AllByRecursion (λ e. by e < passes) l) (sym home.3) (subst (λ j. AllByRecursion (λ e. by e < j) b) counted r.entries);
        },
      )
    where
      empty_numbers : (y : ℕ) (ns : List (Mine P E)) → length ns ≡ 0 → numbered y ns ≡ 0
      empty_numbers y [] none = refl
      empty_numbers y (m ∷ ns) none = absurd (omega (arith, none))

  pub ends : (id : ℕ) (v : View P E) (words : List ℕ) (slots : List (Option S)) (found : Option S) → v ≡ resting v.made v.mine → length v.mine ≡ passes
      → Final (Seen Law id v) words slots → get_elem? slots 0 ≡ some found → (x : S) × (found ≡ Some x) × Whole v.mine x
  ends id v words slots found is every final there =
      let w = closes id v.made v.mine words slots every (subst (λ u. Final (Seen Law id u) words slots) is final) in
      (w.0, some-injective _ _ (sym there ∙ w.1), w.2)

  pub ends_with : (id : ℕ) (v : View P E) (words : List ℕ) (slots : List (Option S)) (found : Option S) (x : S) → v ≡ resting v.made v.mine → length v.mine ≡ passes
      → Final (Seen Law id v) words slots → get_elem? slots 0 ≡ some found → found ≡ Some x → Whole v.mine x
  ends_with id v words slots found x is every final there same =
      let w = ends id v words slots found is every final there in
      subst (Whole v.mine) (same_some _ x (sym w.1 ∙ same)) w.2
