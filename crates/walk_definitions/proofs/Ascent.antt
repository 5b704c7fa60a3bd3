-- The ascending list of some strings of one length is a filter of all strings of that length.
use Rattle.std.proofs.Common.{◌≡◌, ℕ, zero, suc, Bool, true, false, cond, List, [], ◌∷◌, ◌++◌, length, refl, sym, ◌∙◌, ap, subst, arith}
use Rattle.std.specs.Prelude.{map, if◌then◌else◌, ◌||◌}
use Rattle.std.specs.List.{filter}
use Rattle.std.proofs.lemmas.Bool.{false≢true}
use Rattle.definitions.specs.Prefixes.{AreCandidates}
use Rattle.walk_definitions.specs.Ascending.{bits_before, inserted, ascending}
use Rattle.walk_definitions.proofs.Prefixes.{all_of}

-- ---- the order of bits

abbrev pub same : List Bool → List Bool → Bool
same [] [] = true
same [] (y ∷ ys) = false
same (x ∷ xs) [] = false
same (true ∷ xs) (true ∷ ys) = same xs ys
same (true ∷ xs) (false ∷ ys) = false
same (false ∷ xs) (true ∷ ys) = false
same (false ∷ xs) (false ∷ ys) = same xs ys

pub same-refl : (xs : List Bool) → same xs xs ≡ true
same-refl [] = refl
same-refl (true ∷ xs) = same-refl xs
same-refl (false ∷ xs) = same-refl xs

pub same-is : (xs ys : List Bool) → same xs ys ≡ true → xs ≡ ys
same-is [] [] e = refl
same-is [] (y ∷ ys) e = cc
same-is (x ∷ xs) [] e = cc
same-is (true ∷ xs) (true ∷ ys) e = ap (λ r. true ∷ r) (same-is xs ys e)
same-is (true ∷ xs) (false ∷ ys) e = cc
same-is (false ∷ xs) (true ∷ ys) e = cc
same-is (false ∷ xs) (false ∷ ys) e = ap (λ r. false ∷ r) (same-is xs ys e)

before-self : (xs : List Bool) → bits_before xs xs ≡ false
before-self [] = refl
before-self (true ∷ xs) = before-self xs
before-self (false ∷ xs) = before-self xs

-- what comes before another does not come after it, and is another
before-not_after : (xs ys : List Bool) → bits_before xs ys ≡ true → bits_before ys xs ≡ false
before-not_after [] [] e = cc
before-not_after [] (y ∷ ys) e = refl
before-not_after (x ∷ xs) [] e = cc
before-not_after (true ∷ xs) (true ∷ ys) e = before-not_after xs ys e
before-not_after (true ∷ xs) (false ∷ ys) e = cc
before-not_after (false ∷ xs) (true ∷ ys) e = refl
before-not_after (false ∷ xs) (false ∷ ys) e = before-not_after xs ys e

before-not_same : (xs ys : List Bool) → bits_before xs ys ≡ true → same xs ys ≡ false
before-not_same [] [] e = cc
before-not_same [] (y ∷ ys) e = refl
before-not_same (x ∷ xs) [] e = cc
before-not_same (true ∷ xs) (true ∷ ys) e = before-not_same xs ys e
before-not_same (true ∷ xs) (false ∷ ys) e = cc
before-not_same (false ∷ xs) (true ∷ ys) e = refl
before-not_same (false ∷ xs) (false ∷ ys) e = before-not_same xs ys e

after-not_same : (xs ys : List Bool) → bits_before ys xs ≡ true → same xs ys ≡ false
after-not_same [] [] e = cc
after-not_same [] (y ∷ ys) e = cc
after-not_same (x ∷ xs) [] e = refl
after-not_same (true ∷ xs) (true ∷ ys) e = after-not_same xs ys e
after-not_same (true ∷ xs) (false ∷ ys) e = refl
after-not_same (false ∷ xs) (true ∷ ys) e = cc
after-not_same (false ∷ xs) (false ∷ ys) e = after-not_same xs ys e

-- ---- lists that ascend

abbrev pub AllAfter : List Bool → List (List Bool) → Type 0
AllAfter x [] = Unit {0}
AllAfter x (y ∷ ys) = (bits_before x y ≡ true) × AllAfter x ys

abbrev pub Ascends : List (List Bool) → Type 0
Ascends [] = Unit {0}
Ascends (x ∷ xs) = AllAfter x xs × Ascends xs

all_after-append : (x : List Bool) (ys zs : List (List Bool)) → AllAfter x ys → AllAfter x zs → AllAfter x (ys ++ zs)
all_after-append x [] zs g h = h
all_after-append x (y ∷ ys) zs g h = (g.0, all_after-append x ys zs g.1 h)

all_after-map : (b : Bool) (x : List Bool) (ys : List (List Bool)) → AllAfter x ys → AllAfter (b ∷ x) (map (λ q. b ∷ q) ys)
all_after-map b x [] g = tt
all_after-map true x (y ∷ ys) g = (g.0, all_after-map true x ys g.1)
all_after-map false x (y ∷ ys) g = (g.0, all_after-map false x ys g.1)

ascends-map : (b : Bool) (ys : List (List Bool)) → Ascends ys → Ascends (map (λ q. b ∷ q) ys)
ascends-map b [] up = tt
ascends-map b (y ∷ ys) up = (all_after-map b y ys up.0, ascends-map b ys up.1)

all_ones_after : (x : List Bool) (ys : List (List Bool)) → AllAfter (false ∷ x) (map (λ q. true ∷ q) ys)
all_ones_after x [] = tt
all_ones_after x (y ∷ ys) = (refl, all_ones_after x ys)

zeros_then_ones : (xs ys : List (List Bool)) → Ascends xs → Ascends ys → Ascends (map (λ q. false ∷ q) xs ++ map (λ q. true ∷ q) ys)
zeros_then_ones [] ys up vp = ascends-map true ys vp
zeros_then_ones (x ∷ xs) ys up vp = (
  all_after-append (false ∷ x) (map (λ q. false ∷ q) xs) (map (λ q. true ∷ q) ys) (all_after-map false x xs up.0) (all_ones_after x ys),
  zeros_then_ones xs ys up.1 vp,
)

ascends-all_of : (level : ℕ) → Ascends (all_of level)
ascends-all_of zero = (tt, tt)
ascends-all_of (suc level) = zeros_then_ones (all_of level) (all_of level) (ascends-all_of level) (ascends-all_of level)

-- ---- membership

abbrev pub has : List (List Bool) → List Bool → Bool
has [] q = false
has (x ∷ xs) q = same x q || has xs q

pub or_true : (a : Bool) → (a || true) ≡ true
or_true true = refl
or_true false = refl

has-map : (b : Bool) (x : List Bool) (ys : List (List Bool)) → has ys x ≡ true → has (map (λ q. b ∷ q) ys) (b ∷ x) ≡ true
has-map b x [] e = e
has-map true x (y ∷ ys) e = at (same y x) (has-map true x ys) e
  where
    at : (s : Bool) → (has ys x ≡ true → has (map (λ q. true ∷ q) ys) (true ∷ x) ≡ true) → (s || has ys x) ≡ true → (s || has (map (λ q. true ∷ q) ys) (true ∷ x)) ≡ true
    at true more e = refl
    at false more e = more e
has-map false x (y ∷ ys) e = at (same y x) (has-map false x ys) e
  where
    at : (s : Bool) → (has ys x ≡ true → has (map (λ q. false ∷ q) ys) (false ∷ x) ≡ true) → (s || has ys x) ≡ true → (s || has (map (λ q. false ∷ q) ys) (false ∷ x)) ≡ true
    at true more e = refl
    at false more e = more e

has-left : (x : List Bool) (ys zs : List (List Bool)) → has ys x ≡ true → has (ys ++ zs) x ≡ true
has-left x [] zs e = cc
has-left x (y ∷ ys) zs e = at (same y x) (has-left x ys zs) e
  where
    at : (s : Bool) → (has ys x ≡ true → has (ys ++ zs) x ≡ true) → (s || has ys x) ≡ true → (s || has (ys ++ zs) x) ≡ true
    at true more e = refl
    at false more e = more e

has-right : (x : List Bool) (ys zs : List (List Bool)) → has zs x ≡ true → has (ys ++ zs) x ≡ true
has-right x [] zs e = e
has-right x (y ∷ ys) zs e = ap (λ b. same y x || b) (has-right x ys zs e) ∙ or_true (same y x)

has-all_of : (level : ℕ) (x : List Bool) → length x ≡ level → has (all_of level) x ≡ true
has-all_of zero [] e = refl
has-all_of zero (b ∷ x) e = absurd (omega arith)
has-all_of (suc level) [] e = absurd (omega arith)
has-all_of (suc level) (false ∷ x) e =
    has-left (false ∷ x) (map (λ q. false ∷ q) (all_of level)) (map (λ q. true ∷ q) (all_of level)) (has-map false x (all_of level) (has-all_of level x (omega arith)))
has-all_of (suc level) (true ∷ x) e =
    has-right (true ∷ x) (map (λ q. false ∷ q) (all_of level)) (map (λ q. true ∷ q) (all_of level)) (has-map true x (all_of level) (has-all_of level x (omega arith)))

-- ---- an insertion adds to the filter

module _ (x : List Bool) (m : List Bool → Bool) where
  abbrev with_x : List Bool → Bool
  with_x q = same x q || m q

  -- behind x nothing equals x
  filter-behind : (ys : List (List Bool)) → AllAfter x ys → filter m ys ≡ filter with_x ys
  filter-behind [] g = refl
  filter-behind (y ∷ ys) g =
      ap (λ r. cond (m y) (y ∷ r) r) (filter-behind ys g.1)
      ∙ ap (λ b. cond (b || m y) (y ∷ filter with_x ys) (filter with_x ys)) (sym (before-not_same x y g.0))

  insert-first : (ys : List (List Bool)) → AllAfter x ys → inserted bits_before x (filter m ys) ≡ x ∷ filter m ys
  insert-first [] g = refl
  insert-first (y ∷ ys) g = at (m y) (insert-first ys g.1)
    where
      at : (b : Bool) → inserted bits_before x (filter m ys) ≡ x ∷ filter m ys
          → inserted bits_before x (cond b (y ∷ filter m ys) (filter m ys)) ≡ x ∷ cond b (y ∷ filter m ys) (filter m ys)
      at true rest = ap (λ b. if b then x ∷ y ∷ filter m ys else if bits_before y x then y ∷ inserted bits_before x (filter m ys) else y ∷ filter m ys) g.0
      at false rest = rest

  insert-same : (ys : List (List Bool)) → AllAfter x ys
      → inserted bits_before x (filter m (x ∷ ys)) ≡ filter with_x (x ∷ ys)
  insert-same ys g =
      at (m x) ∙ ap (λ r. x ∷ r) (filter-behind ys g)
      ∙ ap (λ b. cond (b || m x) (x ∷ filter with_x ys) (filter with_x ys)) (sym (same-refl x))
    where
      at : (b : Bool) → inserted bits_before x (cond b (x ∷ filter m ys) (filter m ys)) ≡ x ∷ filter m ys
      at true = ap (λ b. if b then x ∷ x ∷ filter m ys else if b then x ∷ inserted bits_before x (filter m ys) else x ∷ filter m ys) (before-self x)
      at false = insert-first ys g

all_after-has : (y x : List Bool) (ys : List (List Bool)) → AllAfter y ys → has ys x ≡ true → bits_before y x ≡ true
all_after-has y x [] g e = cc
all_after-has y x (z ∷ ys) g e = at (same z x) refl (all_after-has y x ys g.1) e
  where
    at : (s : Bool) → same z x ≡ s → (has ys x ≡ true → bits_before y x ≡ true) → (s || has ys x) ≡ true → bits_before y x ≡ true
    at true is more e = subst (λ w. bits_before y w ≡ true) (same-is z x is) g.0
    at false is more e = more e

insert-filter : (x : List Bool) (m : List Bool → Bool) (ys : List (List Bool)) → Ascends ys → has ys x ≡ true
    → inserted bits_before x (filter m ys) ≡ filter (λ q. same x q || m q) ys
insert-filter x m [] up e = cc
insert-filter x m (y ∷ ys) up e = at (same y x) refl (insert-filter x m ys up.1) e
  where
    w : List Bool → Bool
    w q = same x q || m q

    later : (b : Bool) → bits_before y x ≡ true → inserted bits_before x (filter m ys) ≡ filter (λ q. same x q || m q) ys
        → inserted bits_before x (cond b (y ∷ filter m ys) (filter m ys))
        ≡ cond b (y ∷ filter (λ q. same x q || m q) ys) (filter (λ q. same x q || m q) ys)
    later true lower rest =
        ap (λ b. if b then x ∷ y ∷ filter m ys else if bits_before y x then y ∷ inserted bits_before x (filter m ys) else y ∷ filter m ys) (before-not_after y x lower)
        ∙ ap (λ b. if b then y ∷ inserted bits_before x (filter m ys) else y ∷ filter m ys) lower
        ∙ ap (λ r. y ∷ r) rest
    later false lower rest = rest

    at : (s : Bool) → same y x ≡ s → (has ys x ≡ true → inserted bits_before x (filter m ys) ≡ filter (λ q. same x q || m q) ys)
        → (s || has ys x) ≡ true → inserted bits_before x (filter m (y ∷ ys)) ≡ filter (λ q. same x q || m q) (y ∷ ys)
    at true is more e =
        subst (λ z. inserted bits_before x (filter m (z ∷ ys)) ≡ filter (λ q. same x q || m q) (z ∷ ys)) (sym (same-is y x is))
        (insert-same x m ys (subst (λ z. AllAfter z ys) (same-is y x is) up.0))
    at false is more e =
        let lower = all_after-has y x ys up.0 e in
        later (m y) lower (more e)
        ∙ ap (λ b. cond (b || m y) (y ∷ filter (λ q. same x q || m q) ys) (filter (λ q. same x q || m q) ys)) (sym (after-not_same x y lower))

abbrev pub AllLong : ℕ → List (List Bool) → Type 0
AllLong level [] = Unit {0}
AllLong level (x ∷ xs) = (length x ≡ level) × AllLong level xs

filter_none : (ys : List (List Bool)) → filter (λ q. false) ys ≡ []
filter_none [] = refl
filter_none (y ∷ ys) = filter_none ys

pub ascending-filter : (level : ℕ) (xs : List (List Bool)) → AllLong level xs → ascending bits_before xs ≡ filter (has xs) (all_of level)
ascending-filter level [] long = sym (filter_none (all_of level))
ascending-filter level (x ∷ xs) long =
    ap (inserted bits_before x) (ascending-filter level xs long.1)
    ∙ insert-filter x (has xs) (all_of level) (ascends-all_of level) (has-all_of level x long.0)

-- two filters over strings of one length, the first of which passes what the second does
pub filter-filter : (p m : List Bool → Bool) (level : ℕ) (ys : List (List Bool)) → AreCandidates level ys
    → ((q : List Bool) → length q ≡ level → p q ≡ true → m q ≡ true) → filter p (filter m ys) ≡ filter p ys
filter-filter p m level [] are h = refl
filter-filter p m level (y ∷ ys) are h = at (p y) (m y) refl refl (h y are.0) (filter-filter p m level ys are.2 h)
  where
    at : (b c : Bool) → p y ≡ b → m y ≡ c → (p y ≡ true → m y ≡ true) → filter p (filter m ys) ≡ filter p ys
        → filter p (cond c (y ∷ filter m ys) (filter m ys)) ≡ cond b (y ∷ filter p ys) (filter p ys)
    at true true e f g rest = ap (λ b. cond b (y ∷ filter p (filter m ys)) (filter p (filter m ys))) e ∙ ap (λ r. y ∷ r) rest
    at true false e f g rest = absurd (false≢true (sym f ∙ g e))
    at false true e f g rest = ap (λ b. cond b (y ∷ filter p (filter m ys)) (filter p (filter m ys))) e ∙ rest
    at false false e f g rest = rest
