-- Values that are 1 at one candidate at most, and their data, pass the sketch.
use Rattle.std.proofs.Common.{◌≡◌, ℕ, ◌+◌, ◌⊎◌, inl, inr, List, [], ◌∷◌, refl, ◌∙◌, ap}
use Rattle.std.specs.Prelude.{map}
use Rattle.definitions.specs.Field.{add, sub, mul}
use Rattle.definitions.specs.Sketch.{Triple, triples_added, weighted, squared, Sums, partial_sums, sums_added, masked, sigma, correction_a, correction_b}
use Rattle.definitions.proofs.Ring.{var, num, ◌⊕◌, ◌⊖◌, ◌⊗◌, ring}
use Rattle.definitions.proofs.SketchLaws.{weighted-add}

-- the number is 0 at each item
abbrev pub AllNothing : {X : Type 0} → (X → ℕ) → List X → Type 0
AllNothing f [] = Unit {0}
AllNothing f (x ∷ xs) = (f x ≡ 0) × AllNothing f xs

-- the number is 1 at one item at most, and 0 at the others
abbrev pub AtMostOne : {X : Type 0} → (X → ℕ) → List X → Type 0
AtMostOne f [] = Unit {0}
AtMostOne f (x ∷ xs) = ((f x ≡ 0) × AtMostOne f xs) ⊎ ((f x ≡ 1) × AllNothing f xs)

module _ {X : Type 0} where
  weighted-nothing : (coin : ℕ → ℕ) (place : ℕ) (f : X → ℕ) (xs : List X) → AllNothing f xs → weighted coin place (map f xs) ≡ 0
  weighted-nothing coin place f [] h = refl
  weighted-nothing coin place f (x ∷ xs) h =
      ap (λ d. add (mul (coin place) d) (weighted coin (place + 1) (map f xs))) h.0
      ∙ ap (λ u. add (mul (coin place) 0) u) (weighted-nothing coin (place + 1) f xs h.1)
      ∙ ring (coin place ∷ []) (var 0 ⊗ num 0 ⊕ num 0) (num 0) refl refl refl

  -- there are one coin r and a number h, 0 or 1, by which each sum is a product
  pub record IsUnit (coin : ℕ → ℕ) (place : ℕ) (f : X → ℕ) (k : ℕ) (xs : List X) : Type 0 where
    pub r : ℕ
    pub h : ℕ
    pub bit : (h ≡ 0) ⊎ (h ≡ 1)
    pub once : weighted coin place (map f xs) ≡ mul r h
    pub twice : weighted (squared coin) place (map f xs) ≡ mul (mul r r) h
    pub by_k : weighted coin place (map (λ x. mul k (f x)) xs) ≡ mul r (mul k h)

  mul-nothing : (k : ℕ) (f : X → ℕ) (xs : List X) → AllNothing f xs → AllNothing (λ x. mul k (f x)) xs
  mul-nothing k f [] h = tt
  mul-nothing k f (x ∷ xs) h = (ap (λ d. mul k d) h.0 ∙ ring (k ∷ []) (var 0 ⊗ num 0) (num 0) refl refl refl, mul-nothing k f xs h.1)

  pub is_unit : (coin : ℕ → ℕ) (place : ℕ) (f : X → ℕ) (k : ℕ) (xs : List X) → AtMostOne f xs → IsUnit coin place f k xs
  is_unit coin place f k [] h = record {
    r = 0;
    h = 0;
    bit = inl refl;
    once = ring [] (num 0) (num 0 ⊗ num 0) refl refl refl;
    twice = ring [] (num 0) (num 0 ⊗ num 0 ⊗ num 0) refl refl refl;
    by_k = ring (k ∷ []) (num 0) (num 0 ⊗ (var 0 ⊗ num 0)) refl refl refl;
  }
  is_unit coin place f k (x ∷ xs) (inl p) =
      let u = is_unit coin (place + 1) f k xs p.1 in
      let c = coin place in
      record {
        r = u.r;
        h = u.h;
        bit = u.bit;
        once = ap (λ d. add (mul c d) (weighted coin (place + 1) (map f xs))) p.0 ∙ ap (λ t. add (mul c 0) t) u.once
            ∙ ring (c ∷ u.r ∷ u.h ∷ []) (var 0 ⊗ num 0 ⊕ var 1 ⊗ var 2) (var 1 ⊗ var 2) refl refl refl;
        twice = ap (λ d. add (mul (mul c c) d) (weighted (squared coin) (place + 1) (map f xs))) p.0 ∙ ap (λ t. add (mul (mul c c) 0) t) u.twice
            ∙ ring (c ∷ u.r ∷ u.h ∷ []) (var 0 ⊗ var 0 ⊗ num 0 ⊕ var 1 ⊗ var 1 ⊗ var 2) (var 1 ⊗ var 1 ⊗ var 2) refl refl refl;
        by_k = ap (λ d. add (mul c (mul k d)) (weighted coin (place + 1) (map (λ x. mul k (f x)) xs))) p.0 ∙ ap (λ t. add (mul c (mul k 0)) t) u.by_k
            ∙ ring (c ∷ u.r ∷ u.h ∷ k ∷ []) (var 0 ⊗ (var 3 ⊗ num 0) ⊕ var 1 ⊗ (var 3 ⊗ var 2)) (var 1 ⊗ (var 3 ⊗ var 2)) refl refl refl;
      }
  is_unit coin place f k (x ∷ xs) (inr p) =
      let c = coin place in
      record {
        r = c;
        h = 1;
        bit = inr refl;
        once = ap (λ d. add (mul c d) (weighted coin (place + 1) (map f xs))) p.0 ∙ ap (λ t. add (mul c 1) t) (weighted-nothing coin (place + 1) f xs p.1)
            ∙ ring (c ∷ []) (var 0 ⊗ num 1 ⊕ num 0) (var 0 ⊗ num 1) refl refl refl;
        twice = ap (λ d. add (mul (mul c c) d) (weighted (squared coin) (place + 1) (map f xs))) p.0 ∙ ap (λ t. add (mul (mul c c) 1) t) (weighted-nothing (squared coin) (place + 1) f xs p.1)
            ∙ ring (c ∷ []) (var 0 ⊗ var 0 ⊗ num 1 ⊕ num 0) (var 0 ⊗ var 0 ⊗ num 1) refl refl refl;
        by_k = ap (λ d. add (mul c (mul k d)) (weighted coin (place + 1) (map (λ x. mul k (f x)) xs))) p.0
            ∙ ap (λ t. add (mul c (mul k 1)) t) (weighted-nothing coin (place + 1) (λ x. mul k (f x)) xs (mul-nothing k f xs p.1))
            ∙ ring (c ∷ k ∷ []) (var 0 ⊗ (var 1 ⊗ num 1) ⊕ num 0) (var 0 ⊗ (var 1 ⊗ num 1)) refl refl refl;
      }

-- the two sides' sigmas add up to r * r * (h * h - h), where the data is h times (r, r * r, r * k)
pub sigmas-add : (t0 t1 : Triple) (k a0 b0 r h : ℕ)
    → let t = triples_added t0 t1 in
    let opened = masked (record { x = mul r h; y = mul (mul r r) h; z = mul r (mul k h) }) t in
    add (sigma 0 a0 b0 opened) (sigma 1 (sub (correction_a t k) a0) (sub (correction_b t k) b0) opened) ≡ mul (mul r r) (sub (mul h h) h)
sigmas-add t0 t1 k a0 b0 r h =
    let K = var 6 in let A0 = var 7 in let B0 = var 8 in let R = var 9 in let H = var 10 in
    let a = var 0 ⊕ var 1 in let b = var 2 ⊕ var 3 in let c = var 4 ⊕ var 5 in
    let A = num 0 ⊖ num 2 ⊗ a ⊕ K in let B = a ⊗ a ⊕ b ⊖ a ⊗ K ⊕ c in
    let x = R ⊗ H ⊕ a in let y = R ⊗ R ⊗ H ⊕ b in let z = R ⊗ (K ⊗ H) ⊕ c in
    ring (t0.a ∷ t1.a ∷ t0.b ∷ t1.b ∷ t0.c ∷ t1.c ∷ k ∷ a0 ∷ b0 ∷ r ∷ h ∷ [])
    (num 0 ⊗ (x ⊗ x ⊖ y ⊖ z) ⊕ A0 ⊗ x ⊕ B0 ⊕ (num 1 ⊗ (x ⊗ x ⊖ y ⊖ z) ⊕ (A ⊖ A0) ⊗ x ⊕ (B ⊖ B0)))
    (R ⊗ R ⊗ (H ⊗ H ⊖ H)) refl refl refl

nothing_left : (r h : ℕ) → (h ≡ 0) ⊎ (h ≡ 1) → mul (mul r r) (sub (mul h h) h) ≡ 0
nothing_left r h (inl e) = ap (λ z. mul (mul r r) (sub (mul z z) z)) e ∙ ring (r ∷ []) (var 0 ⊗ var 0 ⊗ (num 0 ⊗ num 0 ⊖ num 0)) (num 0) refl refl refl
nothing_left r h (inr e) = ap (λ z. mul (mul r r) (sub (mul z z) z)) e ∙ ring (r ∷ []) (var 0 ⊗ var 0 ⊗ (num 1 ⊗ num 1 ⊖ num 1)) (num 0) refl refl refl

-- what both sides open is the data of both sides together, hidden by the whole correlation
opened_is : (s0 s1 : Sums) (t0 t1 : Triple) → sums_added (masked s0 t0) (masked s1 t1) ≡ masked (sums_added s0 s1) (triples_added t0 t1)
opened_is s0 s1 t0 t1 = cc (four s0.x t0.a s1.x t1.a, four s0.y t0.b s1.y t1.b, four s0.z t0.c s1.z t1.c)
  where
    four : (a b c d : ℕ) → add (add a b) (add c d) ≡ add (add a c) (add b d)
    four a b c d = ring (a ∷ b ∷ c ∷ d ∷ []) (var 0 ⊕ var 1 ⊕ (var 2 ⊕ var 3)) (var 0 ⊕ var 2 ⊕ (var 1 ⊕ var 3)) refl refl refl

-- An honest report passes over every list of candidates in which its own prefix stands once at most.
pub honest_passes : {X : Type 0} (coin : ℕ → ℕ) (k a0 b0 : ℕ) (t0 t1 : Triple) (d0 d1 e0 e1 is_own : X → ℕ) (candidates : List X)
    → AtMostOne is_own candidates
    → map (λ q. add (d0 q) (d1 q)) candidates ≡ map is_own candidates
    → map (λ q. add (e0 q) (e1 q)) candidates ≡ map (λ q. mul k (is_own q)) candidates
    → let t = triples_added t0 t1 in
    let x0 = masked (partial_sums coin (map d0 candidates) (map e0 candidates)) t0 in
    let x1 = masked (partial_sums coin (map d1 candidates) (map e1 candidates)) t1 in
    let opened = sums_added x0 x1 in
    add (sigma 0 a0 b0 opened) (sigma 1 (sub (correction_a t k) a0) (sub (correction_b t k) b0) opened) ≡ 0
honest_passes coin k a0 b0 t0 t1 d0 d1 e0 e1 is_own qs once same_d same_e =
    let u = is_unit coin 0 is_own k qs once in
    let s0 = partial_sums coin (map d0 qs) (map e0 qs) in
    let s1 = partial_sums coin (map d1 qs) (map e1 qs) in
    let t = triples_added t0 t1 in
    let joined : sums_added s0 s1 ≡ record { x = mul u.r u.h; y = mul (mul u.r u.r) u.h; z = mul u.r (mul k u.h) } =
    let x = weighted-add coin 0 d0 d1 qs ∙ ap (weighted coin 0) same_d ∙ u.once in
    let y = weighted-add (squared coin) 0 d0 d1 qs ∙ ap (weighted (squared coin) 0) same_d ∙ u.twice in
    let z = weighted-add coin 0 e0 e1 qs ∙ ap (weighted coin 0) same_e ∙ u.by_k in
    cc in
    ap (λ opened. add (sigma 0 a0 b0 opened) (sigma 1 (sub (correction_a t k) a0) (sub (correction_b t k) b0) opened))
    (opened_is s0 s1 t0 t1 ∙ ap (λ s. masked s t) joined)
    ∙ sigmas-add t0 t1 k a0 b0 u.r u.h
    ∙ nothing_left u.r u.h u.bit
