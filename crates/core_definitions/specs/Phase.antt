-- One side's phase: its counter, its workers, its cache, and what is posted.
use Rattle.std.specs.Prelude.{◌≡◌, ◌⊎◌, ℕ, zero, suc, ◌+◌, ◌<◌, ◌≤◌, Bool, true, false, not, if◌then◌else◌, ◌&&◌, List, [], ◌∷◌, ◌++◌, Option, Some, None, map, length, nat_eq, nat_lt, nat_le, get_or, slice_set, ◌-◌, take, slice_index_or}
use Rattle.std.specs.List.{count_by, filter, list_all, AllByRecursion}
use Rattle.std.specs.Cmp.Lexicographic.{pointwise}
use Rattle.definitions.specs.declared.Side.{Side}
use Rattle.definitions.specs.Field.{add}
use Rattle.definitions.specs.Prefixes.{xor}
use Rattle.definitions.specs.Evaluation.{Share, Node, child, level_word, node}
use Rattle.definitions.specs.Sketch.{Sums, sums_added, coin}
use Rattle.walk_definitions.specs.Reports.{Report, held}
use Rattle.walk_definitions.specs.Walk.{Settings}
use Rattle.walk_definitions.specs.Heard.{paired}
use Rattle.core_definitions.specs.declared.hand.Hand.{Hand}
use Rattle.core_definitions.specs.declared.hand.Hand.TheVariants.{Free, Holding, Finished}
use Rattle.core_definitions.specs.Tiles.{TilePlan, no_sums, tiles, tile_sums, sums_of_tiles, plain_sums, tile_totals, totals_of_tiles, plain_totals}

pub record CoreSettings : Type 0 where
  pub walk : Settings
  pub by_reports : ℕ
  pub by_candidates : ℕ
  pub uploaders : ℕ
  pub workers : ℕ

pub data Kind : Type 0 where
  sketching : Kind
  totalling : Kind

-- a level's phase: live are places in the batch
pub record Phase : Type 0 where
  pub batch : List Report
  pub level : ℕ
  pub kind : Kind
  pub live : List ℕ
  pub candidates : List (List Bool)

-- places below a size, ascending
abbrev pub ArePlaces : ℕ → List ℕ → Type 0
ArePlaces size [] = Unit {0}
ArePlaces size (i ∷ is) = (i < size) × AllByRecursion (λ j. i < j) is × ArePlaces size is

abbrev pub plan_of : CoreSettings → Phase → TilePlan
plan_of core phase = record {
  reports = length phase.live;
  candidates = length phase.candidates;
  by_reports = core.by_reports;
  by_candidates = core.by_candidates;
}

abbrev pub no_share : Share
no_share = record { id = []; root = []; corr = []; levels = [] }

abbrev pub no_report : Report
no_report = record { id = []; held0 = no_share; held1 = no_share }

abbrev pub report_at : List Report → ℕ → Report
report_at batch i = get_or batch i no_report

-- ---- what is evaluated

pub record CacheEntry : Type 0 where
  pub report : ℕ
  pub prefix : List Bool
  pub node : Node

abbrev pub same_bits : List Bool → List Bool → Bool
same_bits xs ys = pointwise (λ a b. not (xor a b)) xs ys

abbrev pub is_entry : ℕ → List Bool → CacheEntry → Bool
is_entry i q e = nat_eq e.report i && same_bits e.prefix q

-- the entry's node, or else this one
abbrev pub seen : List CacheEntry → ℕ → List Bool → Node → Node
seen [] i q evaluated = evaluated
seen (e ∷ es) i q evaluated = if is_entry i q e then e.node else seen es i q evaluated

abbrev pub plain_node : List Report → Side → ℕ → List Bool → Node
plain_node batch side i q = node (held (report_at batch i) side) side q

abbrev pub parent : List Bool → List Bool
parent q = take (length q - 1) q

-- a prefix of so many bits has a parent, and its level a word
abbrev pub has_step : Share → List Bool → Bool
has_step share q = nat_lt 0 (length q) && nat_le (length q) (length share.levels)

-- one level from the parent's entry, or else from the root
abbrev pub from_parent : List CacheEntry → List Report → Side → ℕ → List Bool → Node
from_parent [] batch side i q = plain_node batch side i q
from_parent (e ∷ es) batch side i q =
    let share = held (report_at batch i) side in
    if has_step share q && is_entry i (parent q) e
    then child (level_word share (length q)) side e.node (slice_index_or q (length q - 1) false)
    else from_parent es batch side i q

-- the prefix's own entry, or its parent's, or none
abbrev pub node_through : List CacheEntry → List Report → Side → ℕ → List Bool → Node
node_through cache batch side i q = seen cache i q (from_parent cache batch side i q)

abbrev pub coins_of : CoreSettings → Phase → ℕ → ℕ → ℕ
coins_of core phase i place = coin core.walk.verify (report_at phase.batch i).id phase.level place

-- ---- what is added up

pub data Values : Type 0 where
  of_sketch : List Sums → Values
  of_totals : List ℕ → Values

abbrev pub values_added : Values → Values → Values
values_added (of_sketch xs) (of_sketch ys) = of_sketch (paired sums_added xs ys)
values_added (of_sketch xs) (of_totals ys) = of_sketch xs
values_added (of_totals xs) (of_sketch ys) = of_totals xs
values_added (of_totals xs) (of_totals ys) = of_totals (paired add xs ys)

-- of one tile, of a list of tiles, and over all reports and candidates, by these nodes
abbrev pub tile_values : CoreSettings → Phase → Kind → (ℕ → List Bool → Node) → ℕ → Values
tile_values core phase sketching nodes k = of_sketch (tile_sums (plan_of core phase) (coins_of core phase) nodes phase.live phase.candidates k)
tile_values core phase totalling nodes k = of_totals (tile_totals (plan_of core phase) nodes phase.live phase.candidates k)

abbrev pub values_of_tiles : CoreSettings → Phase → Kind → (ℕ → List Bool → Node) → List ℕ → Values
values_of_tiles core phase sketching nodes ks = of_sketch (sums_of_tiles (plan_of core phase) (coins_of core phase) nodes phase.live phase.candidates ks)
values_of_tiles core phase totalling nodes ks = of_totals (totals_of_tiles (plan_of core phase) nodes phase.live phase.candidates ks)

-- nothing is posted
abbrev pub no_values : Phase → Kind → Values
no_values phase sketching = of_sketch (map (λ i. no_sums) phase.live)
no_values phase totalling = of_totals (map (λ q. 0) phase.candidates)

abbrev pub plain_values : CoreSettings → Phase → Kind → (ℕ → List Bool → Node) → Values
plain_values core phase sketching nodes = of_sketch (plain_sums (plan_of core phase) (coins_of core phase) nodes phase.live phase.candidates)
plain_values core phase totalling nodes = of_totals (plain_totals (plan_of core phase) nodes phase.live phase.candidates)

-- ---- one side

pub record Posting : Type 0 where
  pub number : ℕ
  pub tile : ℕ

pub record Half : Type 0 where
  pub counter : ℕ
  pub hands : List Hand
  pub log : List Posting
  pub cache : List CacheEntry
  pub values : Values

abbrev pub holds : ℕ → Hand → Bool
holds k Free = false
holds k (Holding n) = nat_eq n k
holds k Finished = false

abbrev pub is_finished : Hand → Bool
is_finished Free = false
is_finished (Holding n) = false
is_finished Finished = true

abbrev pub held_count : ℕ → List Hand → ℕ
held_count k hands = count_by (holds k) hands

abbrev pub posted_count : ℕ → List Posting → ℕ
posted_count k log = count_by (λ p. nat_eq p.tile k) log

-- the lowest tile from this one on, of so many, that is not posted
abbrev pub unposted : List Posting → ℕ → ℕ → Option ℕ
unposted log at zero = None
unposted log at (suc count) = if nat_eq (posted_count at log) 0 then Some at else unposted log (at + 1) count

unfoldable pub first_unposted : CoreSettings → Phase → List Posting → Option ℕ
first_unposted core phase log = unposted log 0 (tiles (plan_of core phase))

-- no worker of that number: as one that has had its None
abbrev pub hand_at : List Hand → ℕ → Hand
hand_at hands w = get_or hands w Finished

-- a tile that is posted already changes nothing
unfoldable pub with_posting : CoreSettings → Phase → Side → ℕ → ℕ → Half → Half
with_posting core phase side number k half =
    if nat_eq (posted_count k half.log) 0
    then record half {
      log = half.log ++ record { number = number; tile = k } ∷ [];
      values = values_added half.values (tile_values core phase phase.kind (node_through half.cache phase.batch side) k);
    }
    else half

-- ---- events of one side

pub data HalfEvent : Type 0 where
  claim : ℕ → HalfEvent
  abandon : ℕ → HalfEvent
  fill : ℕ → List Bool → HalfEvent
  evict : ℕ → List Bool → HalfEvent
  post : ℕ → HalfEvent
  sweep : HalfEvent

abbrev pub drawn : ℕ → ℕ → Hand
drawn n count = if nat_lt n count then Holding n else Finished

abbrev pub claimed : ℕ → ℕ → Hand → Half → Half
claimed count w Free half = record half { counter = half.counter + 1; hands = slice_set half.hands w (drawn half.counter count) }
claimed count w (Holding k) half = half
claimed count w Finished half = half

abbrev pub abandoned : ℕ → Hand → Half → Half
abandoned w Free half = half
abandoned w (Holding k) half = record half { hands = slice_set half.hands w Free }
abandoned w Finished half = half

abbrev pub posted : CoreSettings → Phase → Side → ℕ → Hand → Half → Half
posted core phase side w Free half = half
posted core phase side w (Holding k) half = with_posting core phase side w k (record half { hands = slice_set half.hands w Free })
posted core phase side w Finished half = half

abbrev pub swept : CoreSettings → Phase → Side → Option ℕ → Half → Half
swept core phase side None half = half
swept core phase side (Some k) half = with_posting core phase side core.workers k half

abbrev pub without : ℕ → List Bool → List CacheEntry → List CacheEntry
without i q cache = filter (λ e. not (is_entry i q e)) cache

abbrev pub may_fill : CoreSettings → Phase → ℕ → List Bool → Half → Bool
may_fill core phase i q half =
    nat_lt i (length phase.batch) && (nat_lt 0 (length q) && (nat_le (length q) core.walk.bits && list_all (λ e. not (is_entry i q e)) half.cache))

unfoldable pub half_after : CoreSettings → Phase → Side → HalfEvent → Half → Half
half_after core phase side (claim w) half = claimed (tiles (plan_of core phase)) w (hand_at half.hands w) half
half_after core phase side (abandon w) half = abandoned w (hand_at half.hands w) half
half_after core phase side (fill i q) half =
    if may_fill core phase i q half
    then record half { cache = record { report = i; prefix = q; node = plain_node phase.batch side i q } ∷ half.cache }
    else half
half_after core phase side (evict i q) half = record half { cache = without i q half.cache }
half_after core phase side (post w) half = posted core phase side w (hand_at half.hands w) half
half_after core phase side sweep half =
    if list_all is_finished half.hands then swept core phase side (first_unposted core phase half.log) half else half

-- ---- the fact that every event of one side keeps

abbrev pub AreTrue : List Report → Side → List CacheEntry → Type 0
AreTrue batch side [] = Unit {0}
AreTrue batch side (e ∷ es) = (e.node ≡ plain_node batch side e.report e.prefix) × AreTrue batch side es

pub record HalfKept (core : CoreSettings) (phase : Phase) (side : Side) (half : Half) : Type 0 where
  pub crew : length half.hands ≡ core.workers
  pub held_low : (k : ℕ) → 1 ≤ held_count k half.hands → (k < half.counter) × (k < tiles (plan_of core phase))
  pub posted_low : (k : ℕ) → 1 ≤ posted_count k half.log
      → (k < tiles (plan_of core phase)) × ((k < half.counter) ⊎ (list_all is_finished half.hands ≡ true))
  pub once : (k : ℕ) → held_count k half.hands + posted_count k half.log ≤ 1
  pub added_up : half.values ≡ values_of_tiles core phase phase.kind (plain_node phase.batch side) (map (λ p. p.tile) half.log)
  pub cached : AreTrue phase.batch side half.cache
