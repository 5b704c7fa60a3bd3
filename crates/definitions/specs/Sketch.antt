-- The sketch that checks a report over a list of candidates: a quadratic test of the report's values.
use Rattle.std.specs.Prelude.{ℕ, ◌+◌, ◌*◌, List, [], ◌∷◌}
use Rattle.definitions.specs.Field.{add, sub, mul}
use Rattle.definitions.specs.Words.{part, element}
use Rattle.definitions.specs.ReportIds.{id_high, id_low}

-- ---- the coins of the check

-- the key of a report's coins, from the verify seed and the report's id
unfoldable pub coin_key : List ℕ → List ℕ → List ℕ
coin_key verify id = part (part verify (id_high id) 0) (id_low id) 0

-- the coin of a key at a level, for the candidate at a place of the whole list, counted from 0
unfoldable pub coin_at : List ℕ → ℕ → ℕ → ℕ
coin_at key level place = element key level (4 * place)

-- the coin of a report at a level, by the candidate's place
abbrev pub coin : List ℕ → List ℕ → ℕ → ℕ → ℕ
coin verify id level place = coin_at (coin_key verify id) level place

-- ---- the correlation

-- a side's part of the correlation at a level, or that of both sides
pub record Triple : Type 0 where
  pub a : ℕ
  pub b : ℕ
  pub c : ℕ

-- a side's part, from its correlation seed
unfoldable pub correlation : List ℕ → ℕ → Triple
correlation corr level = record { a = element corr level 0; b = element corr level 4; c = element corr level 8 }

abbrev pub triples_added : Triple → Triple → Triple
triples_added s t = record { a = add s.a t.a; b = add s.b t.b; c = add s.c t.c }

-- the numbers A and B of both sides together, from the whole correlation and the data k of a level
abbrev pub correction_a : Triple → ℕ → ℕ
correction_a t k = add (sub 0 (mul 2 t.a)) k

abbrev pub correction_b : Triple → ℕ → ℕ
correction_b t k = add (sub (add (mul t.a t.a) t.b) (mul t.a k)) t.c

-- ---- the sums

-- the sum of the items, each times the coin of its place, the first item being at this place
abbrev pub weighted : (ℕ → ℕ) → ℕ → List ℕ → ℕ
weighted coin place [] = 0
weighted coin place (d ∷ ds) = add (mul (coin place) d) (weighted coin (place + 1) ds)

-- the coin's square
abbrev pub squared : (ℕ → ℕ) → ℕ → ℕ
squared coin place = mul (coin place) (coin place)

-- the three sums of a report: of one side or opened, partial or masked
pub record Sums : Type 0 where
  pub x : ℕ
  pub y : ℕ
  pub z : ℕ

-- over candidates of which the first is at this place: the values d by the coins, d by their squares, e by the coins
abbrev pub partial_sums_from : (ℕ → ℕ) → ℕ → List ℕ → List ℕ → Sums
partial_sums_from coin place ds es =
    record { x = weighted coin place ds; y = weighted (squared coin) place ds; z = weighted coin place es }

-- over the whole list of candidates
abbrev pub partial_sums : (ℕ → ℕ) → List ℕ → List ℕ → Sums
partial_sums coin ds es = partial_sums_from coin 0 ds es

-- place by place
abbrev pub sums_added : Sums → Sums → Sums
sums_added s t = record { x = add s.x t.x; y = add s.y t.y; z = add s.z t.z }

-- a side's sums hidden by its part of the correlation
abbrev pub masked : Sums → Triple → Sums
masked s t = record { x = add s.x t.a; y = add s.y t.b; z = add s.z t.c }

-- a side's sigma, of its number, its numbers A and B, and the opened sums
abbrev pub sigma : ℕ → ℕ → ℕ → Sums → ℕ
sigma side a b s = add (add (mul side (sub (sub (mul s.x s.x) s.y) s.z)) (mul a s.x)) b
