-- The heavy prefixes and strings are those that enough of the strings hold.
use Rattle.std.proofs.Common.{◌≡◌, inl, inr, ℕ, suc, ◌+◌, ◌≤◌, Bool, true, false, not, cond, List, [], ◌∷◌, ◌++◌, length, take, refl, sym, ◌∙◌, ap, subst, arith, length-append, length-take, append-nil}
use Rattle.std.specs.Prelude.{map, if◌then◌else◌, nat_le, ◌&&◌}
use Rattle.std.specs.List.{filter, AllByRecursion}
use Rattle.std.proofs.Math.Seq.{take-append_seam}
use Rattle.std.proofs.lemmas.Bool.{leb-true, le-leb, false≢true}
use Rattle.std.proofs.lemmas.List.Elements.{All-from_recursion, recursion_from_All}
use Rattle.std.proofs.lemmas.List.Sums.{sum_by-cons}
use Rattle.definitions.specs.Prefixes.{xor, is_prefix}
use Rattle.walk_definitions.specs.Ascending.{bits_before, ascending}
use Rattle.walk_definitions.specs.Walk.{Heavy}
use Rattle.walk_definitions.specs.Heavy.{count, counted, heavy}
use Rattle.walk_definitions.proofs.Order.{IsOrder, Member, AllAbove, Rises, lists_ordered, rises-ascending, member-ascending, ascending-member}
use Rattle.walk_definitions.proofs.HeavyOrder.{bits_ordered}
use Rattle.walk_definitions.proofs.Honest.{xor_false}
use Rattle.walk_laws.specs.HeavyStrings.{AreSoMany, BeginsWith, Is, AllAfter, PrefixesAscend, AreExactly, HeavyPrefixesLaw, HeavyStringsLaw}
use Rattle.walk_laws.proofs.Members.{member-contained}

-- ---- a prefix is what a string begins with

begins : (q s : List Bool) → is_prefix q s ≡ true → BeginsWith q s
begins [] s e = (s, refl)
begins (b ∷ q) [] e = absurd (false≢true e)
begins (b ∷ q) (a ∷ s) e = at (xor b a) refl (begins q s) e
  where
    at : (x : Bool) → xor b a ≡ x → (is_prefix q s ≡ true → BeginsWith q s) → (if x then false else is_prefix q s) ≡ true → BeginsWith (b ∷ q) (a ∷ s)
    at true is more e = absurd (false≢true e)
    at false is more e = let same = xor_false b a is in let rest = more e in (rest.0, ap (λ c. c ∷ (q ++ rest.0)) same ∙ ap (λ r. a ∷ r) rest.1)

xor-self : (b : Bool) → xor b b ≡ false
xor-self true = refl
xor-self false = refl

prefix-append : (q rest : List Bool) → is_prefix q (q ++ rest) ≡ true
prefix-append [] rest = refl
prefix-append (b ∷ q) rest = ap (λ x. if x then false else is_prefix q (q ++ rest)) (xor-self b) ∙ prefix-append q rest

prefix-of : (q s : List Bool) → BeginsWith q s → is_prefix q s ≡ true
prefix-of q s h = subst (λ x. is_prefix q x ≡ true) h.1 (prefix-append q h.0)

-- ---- plain numbers

count-cons : (q s : List Bool) (ss : List (List Bool)) → count (s ∷ ss) q ≡ cond (is_prefix q s) 1 0 + count ss q
count-cons q s ss = sum_by-cons (λ x. cond (is_prefix q x) 1 0) s ss

-- the count is the plain number
count-is : (q : List Bool) (strings : List (List Bool)) → AreSoMany (BeginsWith q) strings (count strings q)
count-is q [] = refl
count-is q (s ∷ ss) = at (is_prefix q s) refl (count-is q ss)
  where
    at : (b : Bool) → is_prefix q s ≡ b → AreSoMany (BeginsWith q) ss (count ss q) → AreSoMany (BeginsWith q) (s ∷ ss) (count (s ∷ ss) q)
    at true e rest =
        let one : cond (is_prefix q s) 1 0 ≡ 1 = ap {B = ℕ} (λ b. cond b 1 0) e in
        inl (begins q s e, count ss q, omega (arith, count-cons q s ss, one), rest)
    at false e rest =
        let none : cond (is_prefix q s) 1 0 ≡ 0 = ap {B = ℕ} (λ b. cond b 1 0) e in
        let same : count ss q ≡ count (s ∷ ss) q = omega (arith, count-cons q s ss, none) in
        inr ((λ h. absurd (false≢true (sym e ∙ prefix-of q s h))), subst (AreSoMany (BeginsWith q) ss) same rest)

one_number : (P : List Bool → Type 0) (strings : List (List Bool)) (m n : ℕ) → AreSoMany P strings m → AreSoMany P strings n → m ≡ n
one_number P [] m n e f = e ∙ sym f
one_number P (s ∷ ss) m n (inl (is, k, e, h)) (inl (too, l, f, g)) = e ∙ ap suc (one_number P ss k l h g) ∙ sym f
one_number P (s ∷ ss) m n (inl (is, k, e, h)) (inr (not_it, g)) = absurd (not_it is)
one_number P (s ∷ ss) m n (inr (not_it, h)) (inl (is, l, f, g)) = absurd (not_it is)
one_number P (s ∷ ss) m n (inr (not_it, h)) (inr (nor, g)) = one_number P ss m n h g

same_number : (P Q : List Bool → Type 0) (strings : List (List Bool)) (n : ℕ) → AllByRecursion (λ s. (P s → Q s) × (Q s → P s)) strings
    → AreSoMany P strings n → AreSoMany Q strings n
same_number P Q [] n all e = e
same_number P Q (s ∷ ss) n all (inl (is, k, e, h)) = inl (all.0.0 is, k, e, same_number P Q ss k all.1 h)
same_number P Q (s ∷ ss) n all (inr (not_it, h)) = inr ((λ q. not_it (all.0.1 q)), same_number P Q ss n all.1 h)

-- ---- fronts

-- what some string begins with is among the fronts
held-front : (q : List Bool) (strings : List (List Bool)) (n : ℕ) → 1 ≤ n → AreSoMany (BeginsWith q) strings n → Member q (map (take (length q)) strings)
held-front q [] n some e = absurd (omega (arith, some, e))
held-front q (s ∷ ss) n some (inl (is, k, e, h)) = inl (ap (take (length q)) (sym is.1) ∙ take-append_seam q is.0)
held-front q (s ∷ ss) n some (inr (not_it, h)) = inr (held-front q ss n some h)

front-long : (level : ℕ) (strings : List (List Bool)) → AllByRecursion (λ s. level ≤ length s) strings → (q : List Bool) → Member q (map (take level) strings)
    → length q ≡ level
front-long level [] all q m = absurd m
front-long level (s ∷ ss) all q (inl e) = ap (λ x. length x) (sym e) ∙ omega (arith, length-take level s, all.0)
front-long level (s ∷ ss) all q (inr m) = front-long level ss all.1 q m

-- ---- the heavy prefixes

bits_before_ordered : IsOrder bits_before
bits_before_ordered = lists_ordered (λ a b. not a && b) bits_ordered

module _ (level threshold : ℕ) (strings : List (List Bool)) where
  abbrev enough : List Bool → Bool
  enough q = nat_le threshold (count strings q)

  abbrev chosen : List (List Bool) → List Heavy
  chosen qs = counted strings (filter enough qs)

  abbrev Fits : Heavy → Type 0
  Fits h = (length h.prefix ≡ level) × (threshold ≤ h.count) × AreSoMany (BeginsWith h.prefix) strings h.count

  after_chosen : (q : List Bool) (qs : List (List Bool)) → AllAbove bits_before bits_before_ordered q qs → AllAfter q (chosen qs)
  after_chosen q [] all = tt
  after_chosen q (r ∷ rs) all = at (enough r) (after_chosen q rs all.1)
    where
      at : (b : Bool) → AllAfter q (chosen rs) → AllAfter q (counted strings (cond b (r ∷ filter enough rs) (filter enough rs)))
      at true rest = (all.0, rest)
      at false rest = rest

  chosen_ascend : (qs : List (List Bool)) → Rises bits_before bits_before_ordered qs → PrefixesAscend (chosen qs)
  chosen_ascend [] up = tt
  chosen_ascend (q ∷ qs) up = at (enough q) (chosen_ascend qs up.1)
    where
      at : (b : Bool) → PrefixesAscend (chosen qs) → PrefixesAscend (counted strings (cond b (q ∷ filter enough qs) (filter enough qs)))
      at true rest = (after_chosen q qs up.0, rest)
      at false rest = rest

  chosen_fit : (qs : List (List Bool)) → ((q : List Bool) → Member q qs → length q ≡ level) → AllByRecursion Fits (chosen qs)
  chosen_fit [] long = tt
  chosen_fit (q ∷ qs) long = at (enough q) refl (chosen_fit qs (λ r m. long r (inr m)))
    where
      at : (b : Bool) → enough q ≡ b → AllByRecursion Fits (chosen qs) → AllByRecursion Fits (counted strings (cond b (q ∷ filter enough qs) (filter enough qs)))
      at true e rest = ((long q (inl refl), leb-true threshold (count strings q) e, count-is q strings), rest)
      at false e rest = rest

  has_chosen : (q : List Bool) → enough q ≡ true → (qs : List (List Bool)) → Member q qs → Member (record { prefix = q; count = count strings q }) (chosen qs)
  has_chosen q e [] m = absurd m
  has_chosen q e (r ∷ rs) (inl same) =
      subst (λ b. Member (record { prefix = q; count = count strings q }) (counted strings (cond b (r ∷ filter enough rs) (filter enough rs)))) (sym (ap enough same ∙ e))
      (inl (ap (λ p. record { prefix = p; count = count strings p }) same))
  has_chosen q e (r ∷ rs) (inr m) = at (enough r) (has_chosen q e rs m)
    where
      at : (b : Bool) → Member (record { prefix = q; count = count strings q }) (chosen rs)
          → Member (record { prefix = q; count = count strings q }) (counted strings (cond b (r ∷ filter enough rs) (filter enough rs)))
      at true rest = inr rest
      at false rest = rest

  module _ (some : 1 ≤ threshold) (all : AllByRecursion (λ s. level ≤ length s) strings) where
    abbrev fronts : List (List Bool)
    fronts = map (take level) strings

    abbrev candidates : List (List Bool)
    candidates = ascending bits_before fronts

    finds : (q : List Bool) (n : ℕ) → length q ≡ level → AreSoMany (BeginsWith q) strings n → threshold ≤ n
        → Member (record { prefix = q; count = n }) (chosen candidates)
    finds q n long many much =
        let same : count strings q ≡ n = one_number (BeginsWith q) strings (count strings q) n (count-is q strings) many in
        let front : Member q fronts = subst (λ l. Member q (map (take l) strings)) long (held-front q strings n (omega (arith, some, much)) many) in
        subst (λ c. Member (record { prefix = q; count = c }) (chosen candidates)) same
        (has_chosen q (le-leb threshold (count strings q) (omega (arith, same, much))) candidates (member-ascending bits_before bits_before_ordered q fronts front))

    exact : AreExactly BeginsWith level strings threshold (chosen candidates)
    exact = record {
      ascend = chosen_ascend candidates (rises-ascending bits_before bits_before_ordered fronts);
      each = All-from_recursion Fits (chosen candidates)
          (chosen_fit candidates (λ q m. front-long level strings all q (ascending-member bits_before bits_before_ordered q fronts m)));
      all = λ q n long many much. member-contained _ (chosen candidates) (finds q n long many much);
    }

pub heavy_prefixes_law : HeavyPrefixesLaw
unfolding heavy
heavy_prefixes_law level threshold strings some all = exact level threshold strings some (recursion_from_All (λ s. level ≤ length s) strings all)

-- ---- whole strings

-- strings of one length: who begins with the other is the other
whole : (q s : List Bool) → length s ≡ length q → (BeginsWith q s → Is q s) × (Is q s → BeginsWith q s)
whole q s same = (to, from)
  where
    nothing : (rest : List Bool) → length rest ≡ 0 → rest ≡ []
    nothing [] e = refl
    nothing (b ∷ rest) e = absurd (omega (arith, e))

    to : BeginsWith q s → s ≡ q
    to h =
        let none = nothing h.0 (omega (arith, same, length-append q h.0, ap (λ x. length x) h.1)) in
        sym h.1 ∙ ap (λ r. q ++ r) none ∙ append-nil q

    from : s ≡ q → BeginsWith q s
    from e = ([], append-nil q ∙ sym e)

all_whole : (bits : ℕ) (q : List Bool) → length q ≡ bits → (strings : List (List Bool)) → AllByRecursion (λ s. length s ≡ bits) strings
    → AllByRecursion (λ s. (BeginsWith q s → Is q s) × (Is q s → BeginsWith q s)) strings
all_whole bits q long [] all = tt
all_whole bits q long (s ∷ ss) all = (whole q s (all.0 ∙ sym long), all_whole bits q long ss all.1)

turned : (P Q : List Bool → Type 0) (strings : List (List Bool)) → AllByRecursion (λ s. (P s → Q s) × (Q s → P s)) strings
    → AllByRecursion (λ s. (Q s → P s) × (P s → Q s)) strings
turned P Q [] all = tt
turned P Q (s ∷ ss) all = ((all.0.1, all.0.0), turned P Q ss all.1)

long_enough : (bits : ℕ) (strings : List (List Bool)) → AllByRecursion (λ s. length s ≡ bits) strings → AllByRecursion (λ s. bits ≤ length s) strings
long_enough bits [] all = tt
long_enough bits (s ∷ ss) all = (omega (arith, all.0), long_enough bits ss all.1)

pub heavy_strings_law : HeavyStringsLaw
heavy_strings_law bits threshold strings some all =
    let each = recursion_from_All (λ s. length s ≡ bits) strings all in
    let prefixes = heavy_prefixes_law bits threshold strings some (All-from_recursion (λ s. bits ≤ length s) strings (long_enough bits strings each)) in
    record {
      ascend = prefixes.ascend;
      each = λ k d h.
          let is = prefixes.each k d h in
          (is.0, is.1, same_number (BeginsWith _) (Is _) strings _ (all_whole bits _ is.0 strings each) is.2);
      all = λ q n long many much. prefixes.all q n long (same_number (Is q) (BeginsWith q) strings n (turned (BeginsWith q) (Is q) strings (all_whole bits q long strings each)) many) much;
    }
