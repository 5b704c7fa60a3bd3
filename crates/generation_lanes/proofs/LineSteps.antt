-- The pairs of lines that follow one another: begun, taken down together, and finished.
use Rattle.std.proofs.Common.{◌≡◌, ℕ, zero, suc, ◌+◌, ◌<◌, ◌≤◌, add-one, append_assoc, Bool, List, [], ◌∷◌, ◌++◌, length, map, take, drop, get_or, refl, sym, ap, subst, ◌∙◌, arith}
use Rattle.std.specs.List.{All, AllByRecursion}
use Rattle.std.proofs.Math.Seq.{take-add}
use Rattle.std.proofs.lemmas.List.{take_more, take_all, take-append-le, length-take-le, map-append}
use Rattle.std.proofs.lemmas.List.Elements.{All-from_recursion, recursion_from_All}
use Rattle.idpf_gen.specs.Made.{of_lines, zero_share, one_share}
use Rattle.idpf_gen.proofs.LineLaws.{of_lines-append, length-of_lines}
use Rattle.node_growth.proofs.Filling.{map_of_map}
use Rattle.generation_lanes.specs.Growing.{Growing, begun, one_level, levels_down, IsReady, IsWhole, MayShare, zero_made, one_made}

-- what is made of the next line, behind that of the lines before
pub line_more : {X : Type 0} (of : ℕ → List Bool → X) (strings : List (List Bool)) (line k : ℕ) (string : List Bool) (x : X) (made : List X)
    → k < length strings → string ≡ get_or strings k string → x ≡ of (line + k) string → made ≡ of_lines of line (take k strings)
    → made ++ x ∷ [] ≡ of_lines of line (take (k + 1) strings)
line_more of strings line k string x made p here is sofar =
    let long : length (take k strings) ≡ k = length-take-le k strings (omega arith) in
    ap (λ ys. ys ++ x ∷ []) sofar
    ∙ ap (λ y. of_lines of line (take k strings) ++ y ∷ []) (is ∙ ap (λ n. of (line + n) string) (sym long))
    ∙ sym (of_lines-append of line (take k strings) (string ∷ []))
    ∙ ap (of_lines of line) (ap (λ s. take k strings ++ s ∷ []) here ∙ sym (take_more strings k string p))

-- what is made of so many more lines, behind that of the lines before
pub lines_more : {X : Type 0} (of : ℕ → List Bool → X) (strings part : List (List Bool)) (line at count first : ℕ) (made : List X)
    → at + count ≤ length strings → first ≡ line + at → part ≡ take count (drop at strings) → made ≡ of_lines of line (take at strings)
    → made ++ of_lines of first part ≡ of_lines of line (take (at + count) strings)
lines_more of strings part line at count first made room begin is sofar =
    let long : length (take at strings) ≡ at = length-take-le at strings (omega arith) in
    ap (λ ys. ys ++ of_lines of first part) sofar
    ∙ ap (λ n. of_lines of line (take at strings) ++ of_lines of n part) (begin ∙ ap (λ n. line + n) (sym long))
    ∙ ap (λ ss. of_lines of line (take at strings) ++ of_lines of (line + length (take at strings)) ss) is
    ∙ sym (of_lines-append of line (take at strings) (take count (drop at strings)))
    ∙ ap (of_lines of line) (sym (take-add at count strings))

-- ---- after so many levels

down_done : (n : ℕ) (p : Growing) → (levels_down n p).done ≡ p.done + n
down_done zero p = omega arith
down_done (suc n) p = let before = down_done n p in omega arith

down_string : (n : ℕ) (p : Growing) → (levels_down n p).string ≡ p.string
down_string zero p = refl
down_string (suc n) p = down_string n p

zero_down : (n : ℕ) (p : Growing) → zero_made (levels_down n p) ≡ zero_made p
zero_down zero p = refl
zero_down (suc n) p = zero_down n p

one_down : (n : ℕ) (p : Growing) → one_made (levels_down n p) ≡ one_made p
one_down zero p = refl
one_down (suc n) p = one_down n p

module _ (master : List ℕ) (tag bits n : ℕ) where
  abbrev lines_down : ℕ → List (List Bool) → List Growing
  lines_down line strings = map (levels_down n) (of_lines (begun master tag) line strings)

  ready_by : n < bits → (line : ℕ) (strings : List (List Bool)) → AllByRecursion (λ s. length s ≡ bits) strings
      → AllByRecursion (IsReady (n + 1)) (lines_down line strings)
  ready_by less line [] all = tt
  ready_by less line (s ∷ ss) all =
      let p : Growing = begun master tag line s in (
        record {
          next = omega (arith, down_done n p);
          more = omega (arith, down_done n p, ap length (down_string n p), all.0);
        },
        ready_by less (line + 1) ss all.1,
      )

  -- each line is ready for the next level
  pub all_ready : n < bits → (line : ℕ) (strings : List (List Bool)) → All (λ s. length s ≡ bits) strings → All (IsReady (n + 1)) (lines_down line strings)
  all_ready less line strings all =
      All-from_recursion (IsReady (n + 1)) (lines_down line strings)
      (ready_by less line strings (recursion_from_All (λ (s : List Bool). length s ≡ bits) strings all))

  whole_by : bits ≤ n → MayShare bits → (line : ℕ) (strings : List (List Bool)) → AllByRecursion (λ s. length s ≡ bits) strings
      → AllByRecursion IsWhole (lines_down line strings)
  whole_by more range line [] all = tt
  whole_by more range line (s ∷ ss) all =
      let p : Growing = begun master tag line s in
      let long : bits ≡ length (levels_down n p).string = sym (ap length (down_string n p) ∙ all.0) in (
        record {
          all = omega (arith, long, down_done n p, more);
          bits = subst MayShare long range;
        },
        whole_by more range (line + 1) ss all.1,
      )

  -- each line has all its levels
  pub all_whole : bits ≤ n → MayShare bits → (line : ℕ) (strings : List (List Bool)) → All (λ s. length s ≡ bits) strings
      → All IsWhole (lines_down line strings)
  all_whole more range line strings all =
      All-from_recursion IsWhole (lines_down line strings)
      (whole_by more range line strings (recursion_from_All (λ (s : List Bool). length s ≡ bits) strings all))

  -- the shares that they come to
  pub zeros_made : (line : ℕ) (strings : List (List Bool)) → map zero_made (lines_down line strings) ≡ of_lines (zero_share master tag) line strings
  zeros_made line [] = refl
  zeros_made line (s ∷ ss) =
      ap (λ share. share ∷ map zero_made (lines_down (line + 1) ss)) (zero_down n (begun master tag line s))
      ∙ ap (λ shares. zero_share master tag line s ∷ shares) (zeros_made (line + 1) ss)

  pub ones_made : (line : ℕ) (strings : List (List Bool)) → map one_made (lines_down line strings) ≡ of_lines (one_share master tag) line strings
  ones_made line [] = refl
  ones_made line (s ∷ ss) =
      ap (λ share. share ∷ map one_made (lines_down (line + 1) ss)) (one_down n (begun master tag line s))
      ∙ ap (λ shares. one_share master tag line s ∷ shares) (ones_made (line + 1) ss)

-- ---- as the calls have them

-- the lines are ready, where they are so far down
pub lines_ready : (lines : List Growing) (master : List ℕ) (tag line n bits : ℕ) (strings : List (List Bool))
    → lines ≡ map (levels_down n) (of_lines (begun master tag) line strings) → n < bits → All (λ s. length s ≡ bits) strings → All (IsReady (n + 1)) lines
lines_ready lines master tag line n bits strings are less all =
    subst (All (IsReady (n + 1))) (sym are) (all_ready master tag bits n less line strings all)

-- one level more for all
pub one_more_level : (lines grown begun : List Growing) (n : ℕ) → lines ≡ map (levels_down n) begun → grown ≡ map one_level lines
    → grown ≡ map (levels_down (n + 1)) begun
one_more_level lines grown begun n are more =
    more ∙ ap (map one_level) are ∙ map_of_map one_level (levels_down n) begun ∙ ap (λ k. map (levels_down k) begun) (sym (add-one n))

-- before the first level
pub no_level : (lines : List Growing) → lines ≡ map (levels_down 0) lines
no_level [] = refl
no_level (p ∷ ps) = ap (λ qs. p ∷ qs) (no_level ps)

-- a list that was written back over its own place
pub put_back : {X : Type 0} (n : ℕ) (new old : List X) → length new ≡ length old → n ≡ length new → take n (new ++ drop (length new) old) ≡ new
put_back n new old same is = take-append-le n new (drop (length new) old) (omega arith) ∙ take_all n new (omega arith)

-- as many items as strings
pub counted : {X : Type 0} (of : ℕ → List Bool → X) (made : List X) (line n : ℕ) (strings : List (List Bool)) → made ≡ of_lines of line (take n strings)
    → length strings ≤ n → length made ≡ length strings
counted of made line n strings is all = ap length is ∙ length-of_lines of line (take n strings) ∙ ap length (take_all n strings all)

-- one more share behind those of the items so far
pub share_more : {X Y : Type 0} (f : X → Y) (old made more : List Y) (xs : List X) (x : X) (y : Y) → more ≡ made ++ y ∷ [] → made ≡ old ++ map f xs → y ≡ f x
    → more ≡ old ++ map f (xs ++ x ∷ [])
share_more f old made more xs x y pushed sofar is =
    pushed ∙ ap (λ ys. ys ++ y ∷ []) sofar ∙ append_assoc old (map f xs) (y ∷ [])
    ∙ ap (λ z. old ++ (map f xs ++ z ∷ [])) is ∙ ap (λ ys. old ++ ys) (sym (map-append f xs (x ∷ [])))
