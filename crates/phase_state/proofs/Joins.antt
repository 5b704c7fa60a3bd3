-- What joining two states of a plan keeps.
use Rattle.std.proofs.Common.{◌≡◌, ℕ, zero, suc, ◌+◌, ◌≤◌, Bool, true, false, cond, List, [], ◌∷◌, ◌++◌, length, count_by, slice_index_or, refl, ap, sym, subst, ◌∙◌, arith}
use Rattle.std.specs.Prelude.{◌||◌}
use Rattle.std.proofs.lemmas.List.{map-append, length-append}
use Rattle.std.proofs.lemmas.List.Sums.{sum_by-cons}
use Rattle.definitions.specs.Field.{add}
use Rattle.definitions.specs.Sketch.{Sums, sums_added}
use Rattle.walk_definitions.specs.Heard.{paired}
use Rattle.tile_claims.specs.Plans.{tiles_of}
use Rattle.core_definitions.specs.Phase.{Posting}
use Rattle.core_definitions.specs.Tiles as tiles
use Rattle.phase_state.specs.declared.kind.Kind.{Kind}
use Rattle.phase_state.specs.declared.kind.Kind.TheVariants.{Sketch, Totals}
use Rattle.phase_state.specs.declared.phase_plan.PlanSeen.{PlanSeen}
use Rattle.phase_state.specs.Sums.{cut, live_shares, nodes_of, coins_of, in_sketch, in_totals, sums_of, totals_of}
use Rattle.phase_state.specs.Logs.{tiles_in, AreApart}
use Rattle.phase_state.specs.Phases.{IsPhase}
use Rattle.phase_state.proofs.Growing.{sums_joined, totals_joined}
use Rattle.phase_state.proofs.Marks.{posts_append, count_most}
use Rattle.phase_state.proofs.Posts.{sums_count, totals_count}

-- ---- marks

abbrev either : List Bool → List Bool → List Bool
either xs ys = paired (λ a b. a || b) xs ys

either_length : (xs ys : List Bool) → length xs ≡ length ys → length (either xs ys) ≡ length xs
either_length [] ys e = refl
either_length (a ∷ xs) [] e = absurd (omega (arith, e))
either_length (a ∷ xs) (b ∷ ys) e = ap suc (either_length xs ys (omega (arith, e)))

abbrev mark : List Bool → ℕ → ℕ
mark ys k = cond (slice_index_or ys k false) 1 0

-- at no place are both marked
abbrev Disjoint : List Bool → List Bool → Type 0
Disjoint xs ys = (k : ℕ) → mark xs k + mark ys k ≤ 1

either_at : (xs ys : List Bool) → length xs ≡ length ys → Disjoint xs ys → (k : ℕ) → mark xs k + mark ys k ≡ mark (either xs ys) k
either_at [] [] e d k = refl
either_at [] (b ∷ ys) e d k = absurd (omega (arith, e))
either_at (a ∷ xs) [] e d k = absurd (omega (arith, e))
either_at (true ∷ xs) (true ∷ ys) e d k = absurd (omega (arith, d 0))
either_at (true ∷ xs) (false ∷ ys) e d zero = refl
either_at (false ∷ xs) (true ∷ ys) e d zero = refl
either_at (false ∷ xs) (false ∷ ys) e d zero = refl
either_at (true ∷ xs) (false ∷ ys) e d (suc k) = either_at xs ys (omega (arith, e)) (λ j. d (suc j)) k
either_at (false ∷ xs) (true ∷ ys) e d (suc k) = either_at xs ys (omega (arith, e)) (λ j. d (suc j)) k
either_at (false ∷ xs) (false ∷ ys) e d (suc k) = either_at xs ys (omega (arith, e)) (λ j. d (suc j)) k

abbrev marked : List Bool → ℕ
marked ys = count_by (λ b. b) ys

marked-cons : (b : Bool) (ys : List Bool) → marked (b ∷ ys) ≡ cond b 1 0 + marked ys
marked-cons b ys = sum_by-cons (λ (b : Bool). cond b 1 0) b ys

either_count : (xs ys : List Bool) → length xs ≡ length ys → Disjoint xs ys → marked (either xs ys) ≡ marked xs + marked ys
either_count [] [] e d = refl
either_count [] (b ∷ ys) e d = absurd (omega (arith, e))
either_count (a ∷ xs) [] e d = absurd (omega (arith, e))
either_count (true ∷ xs) (true ∷ ys) e d = absurd (omega (arith, d 0))
either_count (true ∷ xs) (false ∷ ys) e d =
    omega (arith, marked-cons true (either xs ys), marked-cons true xs, marked-cons false ys, either_count xs ys (omega (arith, e)) (λ j. d (suc j)))
either_count (false ∷ xs) (true ∷ ys) e d =
    omega (arith, marked-cons true (either xs ys), marked-cons false xs, marked-cons true ys, either_count xs ys (omega (arith, e)) (λ j. d (suc j)))
either_count (false ∷ xs) (false ∷ ys) e d =
    omega (arith, marked-cons false (either xs ys), marked-cons false xs, marked-cons false ys, either_count xs ys (omega (arith, e)) (λ j. d (suc j)))

at_most_one : (a b : Bool) → (◌≡◌ {A = Bool} a true → ◌≡◌ {A = ℕ} (cond b 1 0) 0) → ◌≤◌ (cond {A = ℕ} a 1 0 + cond {A = ℕ} b 1 0) 1
at_most_one true b h = omega (arith, h refl)
at_most_one false true h = omega arith
at_most_one false false h = omega arith

-- ---- sums

sketch_joined : (kind : Kind) (ks js : List ℕ) → in_sketch kind ks ++ in_sketch kind js ≡ in_sketch kind (ks ++ js)
sketch_joined Sketch ks js = refl
sketch_joined Totals ks js = refl

totals_kept : (kind : Kind) (ks js : List ℕ) → in_totals kind ks ++ in_totals kind js ≡ in_totals kind (ks ++ js)
totals_kept Sketch ks js = refl
totals_kept Totals ks js = refl

sums_of_both : (plan : PlanSeen) (ks js : List ℕ) → paired sums_added (sums_of plan ks) (sums_of plan js) ≡ sums_of plan (ks ++ js)
sums_of_both plan ks js =
    sums_joined (cut plan.tiles) (coins_of plan.verify plan.level) (nodes_of plan.side) (live_shares plan) plan.candidates (in_sketch plan.kind ks) (in_sketch plan.kind js)
    ∙ ap (tiles.sums_of_tiles (cut plan.tiles) (coins_of plan.verify plan.level) (nodes_of plan.side) (live_shares plan) plan.candidates) (sketch_joined plan.kind ks js)

totals_of_both : (plan : PlanSeen) (ks js : List ℕ) → paired add (totals_of plan ks) (totals_of plan js) ≡ totals_of plan (ks ++ js)
totals_of_both plan ks js =
    totals_joined (cut plan.tiles) (nodes_of plan.side) (live_shares plan) plan.candidates (in_totals plan.kind ks) (in_totals plan.kind js)
    ∙ ap (tiles.totals_of_tiles (cut plan.tiles) (nodes_of plan.side) (live_shares plan) plan.candidates) (totals_kept plan.kind ks js)

-- ---- the states

module _ (plan other : PlanSeen) (log more : List Posting) (room left : ℕ) (marks bits : List Bool) (sums adds : List Sums) (totals counts : List ℕ)
    (h : IsPhase plan log room marks sums totals) (o : IsPhase other more left bits adds counts) (same : other ≡ plan) (apart : AreApart log more) where
  here : IsPhase plan more left bits adds counts
  here = subst (λ (p : PlanSeen). IsPhase p more left bits adds counts) same o

  pub same_sums_length : length sums ≡ length adds
  same_sums_length = ap length h.sums_are ∙ sums_count plan (tiles_in log) ∙ sym (ap length here.sums_are ∙ sums_count plan (tiles_in more))

  pub same_totals_length : length totals ≡ length counts
  same_totals_length = ap length h.totals_are ∙ totals_count plan (tiles_in log) ∙ sym (ap length here.totals_are ∙ totals_count plan (tiles_in more))

  pub same_marks_length : length marks ≡ length bits
  same_marks_length = h.long ∙ sym here.long

  disjoint : Disjoint marks bits
  disjoint k = at_most_one (slice_index_or marks k false) (slice_index_or bits k false)
      (λ is. sym (here.once k) ∙ apart k (let one : ◌≡◌ {A = ℕ} (cond (slice_index_or marks k false) 1 0) 1 = ap (λ b. cond b 1 0) is in omega (arith, h.once k, one)))

  -- there is room for the other log
  pub room_for : length log + length more ≤ room
  room_for =
      let all = either_count marks bits same_marks_length disjoint in
      omega (arith, all, h.count, here.count, count_most (either marks bits), either_length marks bits same_marks_length, h.long, h.has_room)

  pub joined : (now : ℕ) → room ≤ now → IsPhase plan (log ++ more) now (either marks bits) (paired sums_added sums adds) (paired add totals counts)
  joined now grown = record {
    fits = h.fits;
    sums_are = (λ i. paired sums_added (h.sums_are i) (here.sums_are i)) ∙ sums_of_both plan (tiles_in log) (tiles_in more) ∙ ap (sums_of plan) (sym (map-append (λ (e : Posting). e.tile) log more));
    totals_are = (λ i. paired add (h.totals_are i) (here.totals_are i)) ∙ totals_of_both plan (tiles_in log) (tiles_in more) ∙ ap (totals_of plan) (sym (map-append (λ (e : Posting). e.tile) log more));
    once = λ k. posts_append k log more ∙ (λ i. h.once k i + here.once k i) ∙ either_at marks bits same_marks_length disjoint k;
    long = either_length marks bits same_marks_length ∙ h.long;
    count = length-append log more ∙ (λ i. h.count i + here.count i) ∙ sym (either_count marks bits same_marks_length disjoint);
    has_room = omega (arith, h.has_room, grown);
  }

-- the same of equal parts
pub moved : (plan : PlanSeen) (room : ℕ) (log log' : List Posting) (marks marks' : List Bool) (sums sums' : List Sums) (totals totals' : List ℕ)
    → log ≡ log' → marks ≡ marks' → sums ≡ sums' → totals ≡ totals' → IsPhase plan log' room marks' sums' totals' → IsPhase plan log room marks sums totals
moved plan room log log' marks marks' sums sums' totals totals' l m s t h =
    subst (λ (x : List Posting). IsPhase plan x room marks sums totals) (sym l)
    (subst (λ (x : List Bool). IsPhase plan log' room x sums totals) (sym m)
    (subst (λ (x : List Sums). IsPhase plan log' room marks' x totals) (sym s)
    (subst (λ (x : List ℕ). IsPhase plan log' room marks' sums' x) (sym t) h)))
