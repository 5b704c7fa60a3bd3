-- The shards of a shared cache: that each lock holds the shard of its place, and what is found in one of them.
use Rattle.std.proofs.Common.{◌≡◌, ℕ, zero, suc, ◌+◌, ◌%◌, ◌<◌, Bool, true, false, inl, inr, ◌++◌, Option, None, IfSome, List, [], ◌∷◌, length, map, drop, get_or, sym, ap, ◌∙◌, arith}
use Rattle.std.specs.Bool.{OnTrue, OnFalse}
use Rattle.std.specs.List.{AllByRecursion, range_with_len}
use Rattle.std.proofs.lemmas.List.{length-map, map-append}
use Rattle.std.proofs.lemmas.List.FromFn.{length-map-range_with_len, map-range_with_len_more}
use Rattle.definitions.specs.declared.Side.{Side}
use Rattle.definitions.specs.Evaluation.{Share, Node}
use Rattle.turn_lock.specs.Seen.{LockId, PassSeen}
use Rattle.turn_lock.specs.Places.{StandsAt}
use Rattle.lock_row.specs.Rows.{locks_of, plans_of}
use Rattle.eval_cache.specs.declared.shard.ShardPlan.{ShardPlan}
use Rattle.eval_cache.specs.declared.key.Key.{Key}
use Rattle.kept_nodes.specs.Kept.{node_at}
use Rattle.eval_cache.specs.Entries.{CacheSeen, kept}
use Rattle.eval_cache.proofs.Entries.{in_kept}
use Rattle.eval_cache.specs.Shards.{ShardSeen, plan_of, planned, AreOfShard, AreShards}

-- what was found for the first so many prefixes is evaluated
abbrev pub FoundBelow : ℕ → List Share → Side → ℕ → List (List Bool) → List (Option Node) → Type 0
FoundBelow place shares side report prefixes found = (k : ℕ) → k < place → IfSome (get_or found k None) (λ n. n ≡ node_at shares side report (get_or prefixes k []))

-- a shard with entries of its own reports alone keeps such, where it keeps a node of one of them
pub kept_of_shard : (count number report : ℕ) (prefix : List Bool) (old new : CacheSeen) (found : Node) (done : Bool) → AreOfShard number count old.entries → report % count ≡ number
    → OnTrue done (new ≡ kept report prefix found old) → OnFalse done (new ≡ old) → AreOfShard number count new.entries
kept_of_shard count number report prefix old new found false all own ok same = rw same all
kept_of_shard count number report prefix old new found true all own ok same = λ e h.
    elim (in_kept report prefix old found e (rw ok at h)) [
      | inl this ↦ ap (λ (x : Key × Node). x.0.report % count) this ∙ own
      | inr was ↦ all e was
    ]

module _ (side : Side) (shares : List Share) (most count : ℕ) where
  pub one_more : (made : List ShardSeen) (shard : ShardSeen) (number : ℕ) → map plan_of made ≡ map (planned side shares most count) (range_with_len 0 number)
      → plan_of shard ≡ planned side shares most count number → map plan_of (made ++ shard ∷ []) ≡ map (planned side shares most count) (range_with_len 0 (number + 1))
  one_more made shard number all is =
      map-append plan_of made (shard ∷ []) ∙ (λ i. all i ++ is i ∷ []) ∙ sym (map-range_with_len_more (planned side shares most count) 0 number number (omega arith))

  placed : (locks : List (LockId ShardPlan)) (first : ℕ) → plans_of locks ≡ map (planned side shares most count) (range_with_len first (length locks))
      → (place : ℕ) (lock : LockId ShardPlan) → StandsAt locks place lock → lock.plan ≡ planned side shares most count (first + place)
  placed [] first h place lock e = cc
  placed (l ∷ ls) first h zero lock e =
      let same : l ≡ lock = cc in
      let at : first ≡ first + zero = omega arith in
      sym (ap (λ (x : LockId ShardPlan). x.plan) same) ∙ ap (λ (ps : List ShardPlan). get_or ps 0 (planned side shares most count first)) h
      ∙ ap (planned side shares most count) at
  placed (l ∷ ls) first h (suc place) lock e =
      let at : first + 1 + place ≡ first + suc place = omega arith in
      placed ls (first + 1) (ap (drop 1) h) place lock e ∙ ap (planned side shares most count) at

-- the locks of a row that was made of these shards
pub made_shards : (side : Side) (shares : List Share) (most count : ℕ) (locks : List (LockId ShardPlan)) (made : List ShardSeen)
    → plans_of locks ≡ map plan_of made → map plan_of made ≡ map (planned side shares most count) (range_with_len 0 count) → (length locks ≡ count) × AreShards side shares most locks
made_shards side shares most count locks made plans all =
    let long : length locks ≡ count = sym (length-map locks (λ (l : LockId ShardPlan). l.plan)) ∙ ap length (plans ∙ all) ∙ length-map-range_with_len (planned side shares most count) 0 count in
    let each = placed side shares most (length locks) locks 0 (plans ∙ all ∙ ap (λ n. map (planned side shares most n) (range_with_len 0 n)) (sym long)) in
    (long, λ place lock e. each place lock e ∙ ap (planned side shares most (length locks)) (omega arith))

module _ {P : Type 0} (E : Type 0) (locks : List (LockId P)) where
  -- passes that are each of these locks
  pub of_locks : (rows : List (List (PassSeen P E))) → AllByRecursion (λ row. locks_of row ≡ locks) rows → AllByRecursion (λ pass. pass ≡ locks) (map locks_of rows)
  of_locks [] all = tt
  of_locks (row ∷ rows) all = (all.0, of_locks rows all.1)
