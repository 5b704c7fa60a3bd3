-- Logs, and what passes know of them.
use Rattle.std.proofs.Common.{get_or, ◌≡◌, ◌≢◌, ℕ, ◌<◌, ◌==◌, cond, List, [], ◌∷◌, ◌++◌, length, drop, map, refl, sym, ap, ◌∙◌, arith, eq-eqb, ne_eqb}
use Rattle.std.proofs.lemmas.List.{append-nil, append_assoc}
use Rattle.std.proofs.lemmas.List.Elements.{filter-append}
use Rattle.std.proofs.lemmas.List.Sums.{sum_by-cons}
use mathlib.Core.List.{IsPrefix}
use Rattle.list_totals.proofs.Elements.{each_map}
use Rattle.turn_lock.specs.declared.views.Mine.{Mine}
use Rattle.std.specs.List.{AllByRecursion}
use Rattle.turn_lock.specs.Logs.{entries_of}
use Rattle.turn_lock.specs.Seats.{numbered, Knows, gave, number_of, own_of, HasPlan}

module _ {X : Type 0} where
  pub longer : (xs ys zs : List X) → IsPrefix xs ys → IsPrefix xs (ys ++ zs)
  longer xs ys zs h = (h.0 ++ zs, sym (append_assoc xs h.0 zs) ∙ ap (λ l. l ++ zs) h.1)

apart : (a k : ℕ) → ◌≡◌ {A = ℕ} (cond (a == k) 1 0) 0 → a ≢ k
apart a k none e = let one : ◌≡◌ {A = ℕ} (cond (a == k) 1 0) 1 = rw (eq-eqb a k e) refl in absurd (omega (arith, none, one))

module _ {E : Type 0} (by : E → ℕ) where
  pub all_of : (k : ℕ) (xs : List E) → AllByRecursion (λ e. by e ≡ k) xs → entries_of by k xs ≡ xs
  all_of k [] h = refl
  all_of k (e ∷ es) h = rw (eq-eqb (by e) k h.0) (ap (λ l. e ∷ l) (all_of k es h.1))

  pub none_of : (x : ℕ) (xs : List E) → AllByRecursion (λ e. by e ≢ x) xs → entries_of by x xs ≡ []
  none_of x [] h = refl
  none_of x (e ∷ es) h = rw (ne_eqb (by e) x h.0) (none_of x es h.1)

  -- no entry has a number past the count
  pub none_yet : (n : ℕ) (b : List E) → AllByRecursion (λ e. by e < n) b → entries_of by n b ≡ []
  none_yet n b h = none_of n b (each_map _ _ (λ e lt same. absurd (omega (arith, lt, same))) b h)

  -- the log grew by entries of one number
  module _ (k : ℕ) (b more : List E) (new : AllByRecursion (λ e. by e ≡ k) more) where
    pub grown_own : entries_of by k (b ++ more) ≡ entries_of by k b ++ more
    grown_own = filter-append (λ e. by e == k) b more ∙ ap (λ l. entries_of by k b ++ l) (all_of k more new)

    pub grown_other : (x : ℕ) → x ≢ k → entries_of by x (b ++ more) ≡ entries_of by x b
    grown_other x ne =
        filter-append (λ e. by e == x) b more
        ∙ ap (λ l. entries_of by x b ++ l) (none_of x more (each_map _ _ (λ e is same. ne (sym same ∙ is)) more new))
        ∙ append-nil (entries_of by x b)

    pub grown : {P : Type 0} (p : P) (ms : List (Mine P E)) → AllByRecursion (Knows by p b) ms → numbered k ms ≡ 0 → AllByRecursion (Knows by p (b ++ more)) ms
    grown p [] h none = tt
    grown {P} p (m ∷ ms) h none =
        let c = sum_by-cons (λ (m : Mine P E). cond (m.number == k) 1 0) m ms in
        ((h.0.0, longer m.seen b more h.0.1, h.0.2 ∙ sym (grown_other m.number (apart m.number k (omega (arith, c, none))))), grown p ms h.1 (omega (arith, c, none)))

module _ {P E : Type 0} (taken now : List E) where
  -- the one pass after a value was given back
  pub gave_one : (p : P) (k : ℕ) (o : List E) (ms : List (Mine P E)) → length ms ≡ 1 → HasPlan p ms → number_of ms ≡ k → own_of ms ≡ o
      → map (gave taken now) ms ≡ record { number = k; plan = p; seen = now; own = o ++ drop (length taken) now } ∷ []
  gave_one p k o [] one have number own = absurd (omega (arith, one))
  gave_one p k o (m ∷ []) one have number own = λ i. record { number = number i; plan = ap (λ l. get_or l 0 p) have i; seen = now; own = own i ++ drop (length taken) now } ∷ []
  gave_one p k o (m ∷ z ∷ ms) one have number own = absurd (omega (arith, one))
