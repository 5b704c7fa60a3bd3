-- The batch depends on which shares there are, and on nothing else.
use Rattle.std.proofs.Common.{◌≡◌, ℕ, inl, inr, Bool, true, false, not, cond, List, [], ◌∷◌, Option, Some, None, refl, sym, ◌∙◌, ap, subst}
use Rattle.std.specs.Prelude.{if◌then◌else◌, map, ◌&&◌, nat_eq, nat_lt}
use Rattle.std.specs.List.{filter, filter_map, cons_option, list_all}
use Rattle.std.specs.Cmp.Lexicographic.{pointwise}
use Rattle.std.proofs.lemmas.Bool.{eqb-true, eq-eqb, and_parts, and_from, false≢true}
use Rattle.definitions.specs.Evaluation.{LevelWord, Share}
use Rattle.definitions.specs.Prefixes.{xor}
use Rattle.walk_definitions.specs.Ascending.{bytes_before, ascending}
use Rattle.walk_definitions.specs.Reports.{Report, same_bytes, same_word, same_share, agreed, standing, joined, batch}
use Rattle.walk_definitions.specs.Laws.{IsAmong, SameShares, AllIdsAfter, IdsAscend}
use Rattle.walk_definitions.proofs.Order.{Member, AllAbove, Rises, numbers_ordered, lists_ordered, rises-ascending, same_ascending}

-- ---- equality of shares is decided

pub bytes-is : (xs ys : List ℕ) → same_bytes xs ys ≡ true → xs ≡ ys
bytes-is [] [] e = refl
bytes-is [] (y ∷ ys) e = cc
bytes-is (x ∷ xs) [] e = cc
bytes-is (x ∷ xs) (y ∷ ys) e =
    let parts = and_parts (nat_eq x y) (same_bytes xs ys) e in
    let first = eqb-true x y parts.0 in let rest = bytes-is xs ys parts.1 in cc

pub bytes-self : (xs : List ℕ) → same_bytes xs xs ≡ true
bytes-self [] = refl
bytes-self (x ∷ xs) = and_from (nat_eq x x) (same_bytes xs xs) (eq-eqb x x refl) (bytes-self xs)

bits-is : (a b : Bool) → not (xor a b) ≡ true → a ≡ b
bits-is true true e = refl
bits-is true false e = cc
bits-is false true e = cc
bits-is false false e = refl

bits-self : (a : Bool) → not (xor a a) ≡ true
bits-self true = refl
bits-self false = refl

abbrev made_word : List ℕ → Bool → Bool → ℕ → ℕ → ℕ → ℕ → LevelWord
made_word s l r u v a b = record { seed = s; left = l; right = r; u = u; v = v; a = a; b = b }

equal_words : (s s' : List ℕ) (l l' r r' : Bool) (u u' v v' a a' b b' : ℕ) → s ≡ s' → l ≡ l' → r ≡ r' → u ≡ u' → v ≡ v' → a ≡ a' → b ≡ b'
    → made_word s l r u v a b ≡ made_word s' l' r' u' v' a' b'
equal_words s s' l l' r r' u u' v v' a a' b b' e1 e2 e3 e4 e5 e6 e7 = cc

abbrev made_share : List ℕ → List ℕ → List ℕ → List LevelWord → Share
made_share i r c ws = record { id = i; root = r; corr = c; levels = ws }

equal_shares : (i i' r r' c c' : List ℕ) (ws ws' : List LevelWord) → i ≡ i' → r ≡ r' → c ≡ c' → ws ≡ ws' → made_share i r c ws ≡ made_share i' r' c' ws'
equal_shares i i' r r' c c' ws ws' e1 e2 e3 e4 = cc

word-is : (v w : LevelWord) → same_word v w ≡ true → v ≡ w
word-is v w e =
    let b6 = nat_eq v.b w.b in
    let b5 = nat_eq v.a w.a && b6 in
    let b4 = nat_eq v.v w.v && b5 in
    let b3 = nat_eq v.u w.u && b4 in
    let b2 = not (xor v.right w.right) && b3 in
    let b1 = not (xor v.left w.left) && b2 in
    let p1 = and_parts (same_bytes v.seed w.seed) b1 e in
    let p2 = and_parts (not (xor v.left w.left)) b2 p1.1 in
    let p3 = and_parts (not (xor v.right w.right)) b3 p2.1 in
    let p4 = and_parts (nat_eq v.u w.u) b4 p3.1 in
    let p5 = and_parts (nat_eq v.v w.v) b5 p4.1 in
    let p6 = and_parts (nat_eq v.a w.a) b6 p5.1 in
    let seeds = bytes-is v.seed w.seed p1.0 in
    let left = bits-is v.left w.left p2.0 in
    let right = bits-is v.right w.right p3.0 in
    let us = eqb-true v.u w.u p4.0 in
    let vs = eqb-true v.v w.v p5.0 in
    let aa = eqb-true v.a w.a p6.0 in
    let bs = eqb-true v.b w.b p6.1 in
    equal_words v.seed w.seed v.left w.left v.right w.right v.u w.u v.v w.v v.a w.a v.b w.b seeds left right us vs aa bs

word-self : (w : LevelWord) → same_word w w ≡ true
word-self w =
    let b6 = nat_eq w.b w.b in
    let b5 = nat_eq w.a w.a && b6 in
    let b4 = nat_eq w.v w.v && b5 in
    let b3 = nat_eq w.u w.u && b4 in
    let b2 = not (xor w.right w.right) && b3 in
    let b1 = not (xor w.left w.left) && b2 in
    and_from (same_bytes w.seed w.seed) b1 (bytes-self w.seed)
    (and_from (not (xor w.left w.left)) b2 (bits-self w.left)
    (and_from (not (xor w.right w.right)) b3 (bits-self w.right)
    (and_from (nat_eq w.u w.u) b4 (eq-eqb w.u w.u refl)
    (and_from (nat_eq w.v w.v) b5 (eq-eqb w.v w.v refl)
    (and_from (nat_eq w.a w.a) b6 (eq-eqb w.a w.a refl) (eq-eqb w.b w.b refl))))))

words-is : (vs ws : List LevelWord) → pointwise same_word vs ws ≡ true → vs ≡ ws
words-is [] [] e = refl
words-is [] (w ∷ ws) e = cc
words-is (v ∷ vs) [] e = cc
words-is (v ∷ vs) (w ∷ ws) e =
    let parts = and_parts (same_word v w) (pointwise same_word vs ws) e in
    let first = word-is v w parts.0 in let rest = words-is vs ws parts.1 in cc

words-self : (ws : List LevelWord) → pointwise same_word ws ws ≡ true
words-self [] = refl
words-self (w ∷ ws) = and_from (same_word w w) (pointwise same_word ws ws) (word-self w) (words-self ws)

share-is : (s t : Share) → same_share s t ≡ true → s ≡ t
share-is s t e =
    let b3 = pointwise same_word s.levels t.levels in
    let b2 = same_bytes s.corr t.corr && b3 in
    let b1 = same_bytes s.root t.root && b2 in
    let p1 = and_parts (same_bytes s.id t.id) b1 e in
    let p2 = and_parts (same_bytes s.root t.root) b2 p1.1 in
    let p3 = and_parts (same_bytes s.corr t.corr) b3 p2.1 in
    let ids = bytes-is s.id t.id p1.0 in
    let roots = bytes-is s.root t.root p2.0 in
    let corrs = bytes-is s.corr t.corr p3.0 in
    let levels = words-is s.levels t.levels p3.1 in
    equal_shares s.id t.id s.root t.root s.corr t.corr s.levels t.levels ids roots corrs levels

share-self : (s : Share) → same_share s s ≡ true
share-self s =
    let b3 = pointwise same_word s.levels s.levels in
    let b2 = same_bytes s.corr s.corr && b3 in
    let b1 = same_bytes s.root s.root && b2 in
    and_from (same_bytes s.id s.id) b1 (bytes-self s.id)
    (and_from (same_bytes s.root s.root) b2 (bytes-self s.root)
    (and_from (same_bytes s.corr s.corr) b3 (bytes-self s.corr) (words-self s.levels)))

-- ---- the one share that all equal

all-is : (s : Share) (ts : List Share) → list_all (same_share s) ts ≡ true → (t : Share) → IsAmong t ts → t ≡ s
all-is s [] e t m = absurd m
all-is s (u ∷ us) e t (inl f) = sym f ∙ sym (share-is s u (and_parts (same_share s u) (list_all (same_share s) us) e).0)
all-is s (u ∷ us) e t (inr m) = all-is s us (and_parts (same_share s u) (list_all (same_share s) us) e).1 t m

all-from : (s : Share) (ts : List Share) → ((t : Share) → IsAmong t ts → t ≡ s) → list_all (same_share s) ts ≡ true
all-from s [] h = refl
all-from s (u ∷ us) h =
    and_from (same_share s u) (list_all (same_share s) us)
    (subst (λ w. same_share s w ≡ true) (sym (h u (inl refl))) (share-self s)) (all-from s us (λ t m. h t (inr m)))

pub agreed-is : (ts : List Share) (s : Share) → agreed ts ≡ Some s → IsAmong s ts × ((t : Share) → IsAmong t ts → t ≡ s)
agreed-is [] s e = let no : ⊥ = cc in absurd no
agreed-is (u ∷ us) s e = at (list_all (same_share u) us) refl e
  where
    at : (b : Bool) → list_all (same_share u) us ≡ b → (if b then Some u else None) ≡ Some s → IsAmong s (u ∷ us) × ((t : Share) → IsAmong t (u ∷ us) → t ≡ s)
    at true all e =
        let same : u ≡ s = cc in
        (inl same, each same)
      where
        each : u ≡ s → (t : Share) → IsAmong t (u ∷ us) → t ≡ s
        each same t (inl f) = sym f ∙ same
        each same t (inr m) = all-is u us all t m ∙ same
    at false all e = let no : ⊥ = cc in absurd no

pub agreed-from : (ts : List Share) (s : Share) → IsAmong s ts → ((t : Share) → IsAmong t ts → t ≡ s) → agreed ts ≡ Some s
agreed-from [] s m h = absurd m
agreed-from (u ∷ us) s m h =
    let first : u ≡ s = h u (inl refl) in
    ap (λ b. if b then Some u else None) (all-from u us (λ t n. h t (inr n) ∙ sym first)) ∙ ap (λ w. Some w) first

same_agreed : (ts us : List Share) → SameShares ts us → agreed ts ≡ agreed us
same_agreed ts us same = at (agreed ts) (agreed us) refl refl
  where
    over : (vs ws : List Share) (s : Share) → SameShares vs ws → agreed vs ≡ Some s → agreed ws ≡ Some s
    over vs ws s same e = let is = agreed-is vs s e in agreed-from ws s (same.0 s is.0) (λ t m. is.1 t (same.1 t m))

    at : (a b : Option Share) → agreed ts ≡ a → agreed us ≡ b → agreed ts ≡ agreed us
    at (Some s) b e f = e ∙ sym (over ts us s same e)
    at None (Some s) e f = over us ts s (same.1, same.0) f ∙ sym f
    at None None e f = e ∙ sym f

-- ---- shares of one id, and ids

pub filter-among : (p : Share → Bool) (s : Share) (ts : List Share) → IsAmong s (filter p ts) → IsAmong s ts × (p s ≡ true)
filter-among p s [] m = absurd m
filter-among p s (t ∷ ts) m = at (p t) refl m (filter-among p s ts)
  where
    at : (b : Bool) → p t ≡ b → IsAmong s (cond b (t ∷ filter p ts) (filter p ts)) → (IsAmong s (filter p ts) → IsAmong s ts × (p s ≡ true))
        → IsAmong s (t ∷ ts) × (p s ≡ true)
    at true e (inl f) more = (inl f, ap p (sym f) ∙ e)
    at true e (inr m) more = let rest = more m in (inr rest.0, rest.1)
    at false e m more = let rest = more m in (inr rest.0, rest.1)

pub among-filter : (p : Share → Bool) (s : Share) (ts : List Share) → IsAmong s ts → p s ≡ true → IsAmong s (filter p ts)
among-filter p s [] m e = absurd m
among-filter p s (t ∷ ts) m e = at (p t) refl m (λ n. among-filter p s ts n e)
  where
    at : (b : Bool) → p t ≡ b → IsAmong s (t ∷ ts) → (IsAmong s ts → IsAmong s (filter p ts)) → IsAmong s (cond b (t ∷ filter p ts) (filter p ts))
    at true g (inl f) more = inl f
    at true g (inr m) more = inr (more m)
    at false g (inl f) more = absurd (false≢true (sym g ∙ ap p f ∙ e))
    at false g (inr m) more = more m

same_standing : (shares others : List Share) (id : List ℕ) → SameShares shares others → standing shares id ≡ standing others id
same_standing shares others id same =
    let p = λ (s : Share). same_bytes s.id id in
    same_agreed (filter p shares) (filter p others) (
      (λ s m. let is = filter-among p s shares m in among-filter p s others (same.0 s is.0) is.1),
      (λ s m. let is = filter-among p s others m in among-filter p s shares (same.1 s is.0) is.1),
    )

abbrev pub ids : List Share → List (List ℕ)
ids shares = map (λ s. s.id) shares

pub id-among : (id : List ℕ) (shares : List Share) → Member id (ids shares) → (s : Share) × IsAmong s shares × (s.id ≡ id)
id-among id [] m = absurd m
id-among id (s ∷ ss) (inl e) = (s, inl refl, e)
id-among id (s ∷ ss) (inr m) = let rest = id-among id ss m in (rest.0, inr rest.1, rest.2)

pub among-id : (s : Share) (id : List ℕ) (shares : List Share) → s.id ≡ id → IsAmong s shares → Member id (ids shares)
among-id s id [] e m = absurd m
among-id s id (t ∷ ts) e (inl f) = inl (ap (λ w. w.id) f ∙ e)
among-id s id (t ∷ ts) e (inr m) = inr (among-id s id ts e m)

same_ids : (shares others : List Share) → SameShares shares others → ascending bytes_before (ids shares) ≡ ascending bytes_before (ids others)
same_ids shares others same =
    same_ascending bytes_before (lists_ordered nat_lt numbers_ordered) (ids shares) (ids others)
    (λ id m. let is = id-among id shares m in among-id is.0 id others is.2 (same.0 is.0 is.1))
    (λ id m. let is = id-among id others m in among-id is.0 id shares is.2 (same.1 is.0 is.1))

filter_map-agree : {X Y : Type 0} (f g : X → Option Y) (h : (x : X) → f x ≡ g x) (xs : List X) → filter_map f xs ≡ filter_map g xs
filter_map-agree f g h [] = refl
filter_map-agree f g h (x ∷ xs) = let first = h x in let rest = filter_map-agree f g h xs in cc

pub batch_law : (shares0 others0 shares1 others1 : List Share) → SameShares shares0 others0 → SameShares shares1 others1
    → batch shares0 shares1 ≡ batch others0 others1
batch_law shares0 others0 shares1 others1 same0 same1 =
    ap (filter_map (λ id. joined id (standing shares0 id) (standing shares1 id))) (same_ids shares0 others0 same0)
    ∙ filter_map-agree (λ id. joined id (standing shares0 id) (standing shares1 id)) (λ id. joined id (standing others0 id) (standing others1 id))
    (λ id. let e = same_standing shares0 others0 id same0 in let f = same_standing shares1 others1 id same1 in cc)
    (ascending bytes_before (ids others0))

-- ---- the ids of the batch ascend

module _ (f : List ℕ → Option Report) (named : (id : List ℕ) (r : Report) → f id ≡ Some r → r.id ≡ id) where
  ids_after : (id : List ℕ) (xs : List (List ℕ)) → AllAbove bytes_before (lists_ordered nat_lt numbers_ordered) id xs → AllIdsAfter id (filter_map f xs)
  ids_after id [] all = tt
  ids_after id (x ∷ xs) all = at (f x) refl (ids_after id xs all.1)
    where
      at : (o : Option Report) → f x ≡ o → AllIdsAfter id (filter_map f xs) → AllIdsAfter id (cons_option o (filter_map f xs))
      at None e rest = rest
      at (Some r) e rest = (subst (λ w. bytes_before id w ≡ true) (sym (named x r e)) all.0, rest)

  ids_ascend : (xs : List (List ℕ)) → Rises bytes_before (lists_ordered nat_lt numbers_ordered) xs → IdsAscend (filter_map f xs)
  ids_ascend [] up = tt
  ids_ascend (x ∷ xs) up = at (f x) refl (ids_ascend xs up.1) (ids_after x xs up.0)
    where
      at : (o : Option Report) → f x ≡ o → IdsAscend (filter_map f xs) → AllIdsAfter x (filter_map f xs) → IdsAscend (cons_option o (filter_map f xs))
      at None e rest after = rest
      at (Some r) e rest after = (subst (λ w. AllIdsAfter w (filter_map f xs)) (sym (named x r e)) after, rest)

joined-named : (id : List ℕ) (s t : Option Share) (r : Report) → joined id s t ≡ Some r → r.id ≡ id
joined-named id None t r e = let no : ⊥ = cc in absurd no
joined-named id (Some s) None r e = let no : ⊥ = cc in absurd no
joined-named id (Some s) (Some t) r e =
    let same : r ≡ record { id = id; held0 = s; held1 = t } = cc in
    ap (λ w. w.id) same

pub batch_order_law : (shares0 shares1 : List Share) → IdsAscend (batch shares0 shares1)
batch_order_law shares0 shares1 =
    ids_ascend (λ id. joined id (standing shares0 id) (standing shares1 id)) (λ id r e. joined-named id (standing shares0 id) (standing shares1 id) r e)
    (ascending bytes_before (ids shares0)) (rises-ascending bytes_before (lists_ordered nat_lt numbers_ordered) (ids shares0))
