-- Each report of a batch is made of shares that were given.
use Rattle.std.proofs.Common.{◌≡◌, ℕ, inl, inr, List, [], ◌∷◌, Option, Some, None, refl, subst, length, map}
use Rattle.std.specs.List.{All, AllByRecursion, filter_map, cons_option}
use Rattle.std.proofs.lemmas.List.Elements.{All-from_recursion, All-head, All-tail, All-map, All-weaker}
use Rattle.definitions.specs.declared.Side.{Side}
use Rattle.definitions.specs.declared.Side.TheVariants.{Zero, One}
use Rattle.definitions.specs.Evaluation.{Share}
use Rattle.walk_definitions.specs.Ascending.{bytes_before, ascending}
use Rattle.walk_definitions.specs.Reports.{Report, held, joined, standing, batch}
use Rattle.walk_definitions.specs.Laws.{IsAmong}
use Rattle.report_batch.specs.Laws.{IsGiven}
use Rattle.report_batch.proofs.Standings.{standing-given}
use Rattle.report_batch.proofs.Lists.{names}

joined-given : (shares0 shares1 : List Share) (id : List ℕ) (o p : Option Share) (r : Report) → standing shares0 id ≡ o → standing shares1 id ≡ p
    → joined id o p ≡ Some r → IsGiven shares0 shares1 r
joined-given shares0 shares1 id None p r f g e = let impossible : ⊥ = cc in absurd impossible
joined-given shares0 shares1 id (Some s) None r f g e = let impossible : ⊥ = cc in absurd impossible
joined-given shares0 shares1 id (Some s) (Some t) r f g e =
    let same : record { id = id; held0 = s; held1 = t } ≡ r = cc in
    let zero = standing-given shares0 id s f in
    let one = standing-given shares1 id t g in
    subst (IsGiven shares0 shares1) same (record { given0 = zero.0; given1 = one.0; named0 = zero.1; named1 = one.1 })

each : (P : Report → Type 0) (f : List ℕ → Option Report) → ((id : List ℕ) (r : Report) → f id ≡ Some r → P r)
    → (ids : List (List ℕ)) → AllByRecursion P (filter_map f ids)
each P f h [] = tt
each P f h (id ∷ ids) = at (f id) refl (each P f h ids)
  where
    at : (o : Option Report) → f id ≡ o → AllByRecursion P (filter_map f ids) → AllByRecursion P (cons_option o (filter_map f ids))
    at None e rest = rest
    at (Some r) e rest = (h id r e, rest)

pub given : (shares0 shares1 : List Share) → All (IsGiven shares0 shares1) (batch shares0 shares1)
given shares0 shares1 = All-from_recursion (IsGiven shares0 shares1) (batch shares0 shares1)
    (each (IsGiven shares0 shares1) (λ id. joined id (standing shares0 id) (standing shares1 id))
    (λ id r e. joined-given shares0 shares1 id (standing shares0 id) (standing shares1 id) r refl refl e)
    (ascending bytes_before (names shares0)))

-- ---- what holds of all shares given holds of all shares of the batch

among : (P : Share → Type 0) (s : Share) (shares : List Share) → All P shares → IsAmong s shares → P s
among P s [] all m = absurd m
among P s (t ∷ ts) all (inl e) = subst P e (All-head P t ts all)
among P s (t ∷ ts) all (inr m) = among P s ts (All-tail P t ts all) m

pub all-held : (P : Share → Type 0) (shares0 shares1 : List Share) → All P shares0 → All P shares1
    → (side : Side) → All P (map (λ r. held r side) (batch shares0 shares1))
all-held P shares0 shares1 all0 all1 side =
    All-map P (λ r. held r side) (batch shares0 shares1)
    (All-weaker (IsGiven shares0 shares1) (λ r. P (held r side)) (at side) (batch shares0 shares1) (given shares0 shares1))
  where
    at : (b : Side) (r : Report) → IsGiven shares0 shares1 r → P (held r b)
    at Zero r is = among P r.held0 shares0 all0 is.given0
    at One r is = among P r.held1 shares1 all1 is.given1

pub all_levels : (levels : ℕ) (shares0 shares1 : List Share) → All (λ s. length s.levels ≡ levels) shares0 → All (λ s. length s.levels ≡ levels) shares1
    → (side : Side) → All (λ s. length s.levels ≡ levels) (map (λ r. held r side) (batch shares0 shares1))
all_levels levels shares0 shares1 = all-held (λ (s : Share). length s.levels ≡ levels) shares0 shares1
