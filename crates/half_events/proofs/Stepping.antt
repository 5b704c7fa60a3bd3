-- What happens at one side is the definitions' event.
use Rattle.std.proofs.Common.{◌≡◌, ℕ, Bool, true, false, List, [], ◌∷◌, ◌++◌, length, map, Option, Some, None, refl, sym, ◌∙◌, ap}
use Rattle.std.specs.Prelude.{if◌then◌else◌, nat_eq, slice_set}
use Rattle.std.specs.List.{list_all}
use Rattle.std.proofs.lemmas.List.{length-map}
use Rattle.definitions.specs.declared.Side.{Side}
use Rattle.definitions.specs.Evaluation.{Share, node}
use Rattle.walk_definitions.specs.Reports.{Report, held}
use Rattle.core_definitions.specs.declared.hand.Hand.{Hand}
use Rattle.core_definitions.specs.declared.hand.Hand.TheVariants.{Free, Holding, Finished}
use Rattle.core_definitions.specs.Phase as phase
use Rattle.core_definitions.specs.Phase.{CoreSettings, Phase, CacheEntry, Half, HalfEvent, HalfKept, Posting, Values, half_after, values_of_tiles, plain_node, hand_at, claimed, abandoned, posted, swept, with_posting, first_unposted, unposted, posted_count, is_finished, may_fill, plan_of, is_entry}
use Rattle.core_definitions.specs.System.{fresh_half, hands_of}
use Rattle.core_definitions.specs.Tiles.{tiles}
use Rattle.core_definitions.proofs.PhaseSteps.{kept-event}
use Rattle.core_definitions.proofs.Carry.{no-values}
use Rattle.phase_state.specs.Sums.{share_at}
use Rattle.half_events.specs.Crews.{crew}
use Rattle.half_events.specs.Caches as caches
use Rattle.half_events.specs.Halves.{log_after, hands_freed, hands_posted, log_held, log_posted, log_found, log_swept}
use Rattle.half_events.proofs.Bridges.{share-held}

abbrev made : ℕ → List Hand → List Posting → List CacheEntry → Values → Half
made counter hands log cache values = record { counter = counter; hands = hands; log = log; cache = cache; values = values }

same-half : (a b : ℕ) (h i : List Hand) (l m : List Posting) (c d : List CacheEntry) (v w : Values) → a ≡ b → h ≡ i → l ≡ m → c ≡ d → v ≡ w
    → made a h l c v ≡ made b i m d w
same-half a b h i l m c d v w e f g k n = cc

module _ (core : CoreSettings) (p : Phase) (side : Side) where
  -- the side whose values are read off its log
  abbrev pub read_off : ℕ → List Hand → List Posting → List CacheEntry → Half
  read_off counter hands log cache = made counter hands log cache (values_of_tiles core p p.kind (plain_node p.batch side) (map (λ e. e.tile) log))

  -- where counter, hands, log and cache are those after an event, so is all of it
  pub stepped : (event : HalfEvent) (old : Half) → HalfKept core p side old → (counter : ℕ) (hands : List Hand) (log : List Posting) (cache : List CacheEntry)
      → counter ≡ (half_after core p side event old).counter → hands ≡ (half_after core p side event old).hands
      → log ≡ (half_after core p side event old).log → cache ≡ (half_after core p side event old).cache
      → read_off counter hands log cache ≡ half_after core p side event old
  stepped event old kept counter hands log cache e f g h =
      let new = half_after core p side event old in
      let after = kept-event core p side event old kept in
      same-half counter new.counter hands new.hands log new.log cache new.cache _ new.values e f g h
      (ap (λ l. values_of_tiles core p p.kind (plain_node p.batch side) (map (λ (x : Posting). x.tile) l)) g ∙ sym after.added_up)

  pub fresh : (hands : List Hand) (cache : List CacheEntry) → hands ≡ hands_of core.workers → read_off 0 hands [] cache ≡ fresh_half core p cache
  unfolding fresh_half
  fresh hands cache e = same-half 0 0 hands (hands_of core.workers) [] [] cache cache _ _ refl e refl refl (sym (no-values core p side p.kind))

  -- ---- each event, field by field

  claim-counter : (n w : ℕ) (hand : Hand) (h : Half) → (claimed n w hand (crew h.counter h.hands)).counter ≡ (claimed n w hand h).counter
  claim-counter n w Free h = refl
  claim-counter n w (Holding k) h = refl
  claim-counter n w Finished h = refl

  claim-hands : (n w : ℕ) (hand : Hand) (h : Half) → (claimed n w hand (crew h.counter h.hands)).hands ≡ (claimed n w hand h).hands
  claim-hands n w Free h = refl
  claim-hands n w (Holding k) h = refl
  claim-hands n w Finished h = refl

  claim-log : (n w : ℕ) (hand : Hand) (h : Half) → h.log ≡ (claimed n w hand h).log
  claim-log n w Free h = refl
  claim-log n w (Holding k) h = refl
  claim-log n w Finished h = refl

  claim-cache : (n w : ℕ) (hand : Hand) (h : Half) → h.cache ≡ (claimed n w hand h).cache
  claim-cache n w Free h = refl
  claim-cache n w (Holding k) h = refl
  claim-cache n w Finished h = refl

  pub claim-stepped : (n w : ℕ) (h : Half) → HalfKept core p side h → (counter : ℕ) (hands : List Hand) → n ≡ tiles (plan_of core p)
      → counter ≡ (claimed n w (hand_at h.hands w) (crew h.counter h.hands)).counter
      → hands ≡ (claimed n w (hand_at h.hands w) (crew h.counter h.hands)).hands
      → read_off counter hands h.log h.cache ≡ half_after core p side (phase.claim w) h
  unfolding half_after
  claim-stepped n w h kept counter hands e f g =
      let hand = hand_at h.hands w in
      let to = λ (r : Half → List Hand). ap (λ m. r (claimed m w hand h)) e in
      stepped (phase.claim w) h kept counter hands h.log h.cache
      (f ∙ claim-counter n w hand h ∙ ap (λ m. (claimed m w hand h).counter) e)
      (g ∙ claim-hands n w hand h ∙ ap (λ m. (claimed m w hand h).hands) e)
      (claim-log n w hand h ∙ ap (λ m. (claimed m w hand h).log) e)
      (claim-cache n w hand h ∙ ap (λ m. (claimed m w hand h).cache) e)

  abandon-hands : (w : ℕ) (hand : Hand) (h : Half) → (abandoned w hand (crew 0 h.hands)).hands ≡ (abandoned w hand h).hands
  abandon-hands w Free h = refl
  abandon-hands w (Holding k) h = refl
  abandon-hands w Finished h = refl

  abandon-counter : (w : ℕ) (hand : Hand) (h : Half) → h.counter ≡ (abandoned w hand h).counter
  abandon-counter w Free h = refl
  abandon-counter w (Holding k) h = refl
  abandon-counter w Finished h = refl

  abandon-log : (w : ℕ) (hand : Hand) (h : Half) → h.log ≡ (abandoned w hand h).log
  abandon-log w Free h = refl
  abandon-log w (Holding k) h = refl
  abandon-log w Finished h = refl

  abandon-cache : (w : ℕ) (hand : Hand) (h : Half) → h.cache ≡ (abandoned w hand h).cache
  abandon-cache w Free h = refl
  abandon-cache w (Holding k) h = refl
  abandon-cache w Finished h = refl

  pub abandon-stepped : (w : ℕ) (h : Half) → HalfKept core p side h → (hands : List Hand) → hands ≡ (abandoned w (hand_at h.hands w) (crew 0 h.hands)).hands
      → read_off h.counter hands h.log h.cache ≡ half_after core p side (phase.abandon w) h
  unfolding half_after
  abandon-stepped w h kept hands g =
      let hand = hand_at h.hands w in
      stepped (phase.abandon w) h kept h.counter hands h.log h.cache (abandon-counter w hand h) (g ∙ abandon-hands w hand h) (abandon-log w hand h) (abandon-cache w hand h)

  abbrev chosen : Bool → Half → Half → Half
  chosen b new old = if b then new else old

  field-of : {X : Type 0} (f : Half → X) (b : Bool) (new old : Half) → f new ≡ f old → f old ≡ f (chosen b new old)
  field-of f true new old e = sym e
  field-of f false new old e = refl

  cache-of : (b : Bool) (x : CacheEntry) (h : Half) → (if b then x ∷ h.cache else h.cache) ≡ (chosen b (record h { cache = x ∷ h.cache }) h).cache
  cache-of true x h = refl
  cache-of false x h = refl

  pub fill-stepped : (i : ℕ) (q : List Bool) (h : Half) → HalfKept core p side h → (shares : List Share) → shares ≡ map (λ r. held r side) p.batch → (cache : List CacheEntry)
      → cache ≡ caches.filled core.walk.bits shares side i q h.cache
      → read_off h.counter h.hands h.log cache ≡ half_after core p side (phase.fill i q) h
  unfolding half_after
  fill-stepped i q h kept shares e cache f =
      let b = may_fill core p i q h in
      let count : length shares ≡ length p.batch = ap length e ∙ length-map p.batch (λ (r : Report). held r side) in
      let there = ap (λ s. node s side q) (ap (λ ss. share_at ss i) e ∙ share-held side p.batch i) in
      let x : CacheEntry = record { report = i; prefix = q; node = plain_node p.batch side i q } in
      let new : Half = record h { cache = x ∷ h.cache } in
      stepped (phase.fill i q) h kept h.counter h.hands h.log cache
      (field-of (λ g. g.counter) b new h refl) (field-of (λ g. g.hands) b new h refl) (field-of (λ g. g.log) b new h refl)
      (f
      ∙ ap (λ n. if caches.may_fill core.walk.bits n h.cache i q then record { report = i; prefix = q; node = node (share_at shares i) side q } ∷ h.cache else h.cache) count
      ∙ ap (λ n. if b then record { report = i; prefix = q; node = n } ∷ h.cache else h.cache) there
      ∙ cache-of b x h)

  pub evict-stepped : (i : ℕ) (q : List Bool) (h : Half) → HalfKept core p side h → (cache : List CacheEntry) → cache ≡ phase.without i q h.cache
      → read_off h.counter h.hands h.log cache ≡ half_after core p side (phase.evict i q) h
  unfolding half_after
  evict-stepped i q h kept cache e = stepped (phase.evict i q) h kept h.counter h.hands h.log cache refl refl refl e

  log-posted : (number k : ℕ) (h : Half) → log_after number k h.log ≡ (with_posting core p side number k h).log
  unfolding with_posting
  log-posted number k h = at (nat_eq (posted_count k h.log) 0)
    where
      at : (b : Bool) → (if b then h.log ++ record { number = number; tile = k } ∷ [] else h.log)
          ≡ (chosen b (made h.counter h.hands (h.log ++ record { number = number; tile = k } ∷ []) h.cache
          (phase.values_added h.values (phase.tile_values core p p.kind (phase.node_through h.cache p.batch side) k))) h).log
      at true = refl
      at false = refl

  others-posted : {X : Type 0} (f : ℕ → List Hand → List CacheEntry → X) (number k : ℕ) (h : Half)
      → f h.counter h.hands h.cache ≡ f (with_posting core p side number k h).counter (with_posting core p side number k h).hands (with_posting core p side number k h).cache
  unfolding with_posting
  others-posted f number k h = at (nat_eq (posted_count k h.log) 0)
    where
      new : Half
      new = made h.counter h.hands (h.log ++ record { number = number; tile = k } ∷ []) h.cache
          (phase.values_added h.values (phase.tile_values core p p.kind (phase.node_through h.cache p.batch side) k))

      at : (b : Bool) → f h.counter h.hands h.cache ≡ f (chosen b new h).counter (chosen b new h).hands (chosen b new h).cache
      at true = refl
      at false = refl

  pub post-stepped : (w : ℕ) (h : Half) → HalfKept core p side h → (hands : List Hand) → hands ≡ hands_posted w h.hands
      → (log : List Posting) → log ≡ log_posted w h.hands h.log → read_off h.counter hands log h.cache ≡ half_after core p side (phase.post w) h
  unfolding half_after
  post-stepped w h kept hands e log f =
      stepped (phase.post w) h kept h.counter hands log h.cache
      (counter_is (hand_at h.hands w)) (e ∙ hands_are (hand_at h.hands w)) (f ∙ log_is (hand_at h.hands w)) (cache_is (hand_at h.hands w))
    where
      freed : Half
      freed = record h { hands = slice_set h.hands w Free }

      counter_is : (hand : Hand) → h.counter ≡ (posted core p side w hand h).counter
      counter_is Free = refl
      counter_is (Holding k) = others-posted (λ c hs x. c) w k freed
      counter_is Finished = refl

      hands_are : (hand : Hand) → hands_freed w hand h.hands ≡ (posted core p side w hand h).hands
      hands_are Free = refl
      hands_are (Holding k) = others-posted (λ c hs x. hs) w k freed
      hands_are Finished = refl

      log_is : (hand : Hand) → log_held w hand h.log ≡ (posted core p side w hand h).log
      log_is Free = refl
      log_is (Holding k) = log-posted w k freed
      log_is Finished = refl

      cache_is : (hand : Hand) → h.cache ≡ (posted core p side w hand h).cache
      cache_is Free = refl
      cache_is (Holding k) = others-posted (λ c hs x. x) w k freed
      cache_is Finished = refl

  pub sweep-stepped : (h : Half) → HalfKept core p side h → (count : ℕ) → count ≡ tiles (plan_of core p) → (log : List Posting) → log ≡ log_swept core.workers count h.hands h.log
      → read_off h.counter h.hands log h.cache ≡ half_after core p side phase.sweep h
  unfolding half_after first_unposted
  sweep-stepped h kept count same log f =
      let all = list_all is_finished h.hands in
      let o = unposted h.log 0 (tiles (plan_of core p)) in
      stepped phase.sweep h kept h.counter h.hands log h.cache
      (counter_is all o) (hands_are all o) (f ∙ ap (λ n. log_swept core.workers n h.hands h.log) same ∙ log_is all o) (cache_is all o)
    where
      counter_is : (b : Bool) (o : Option ℕ) → h.counter ≡ (chosen b (swept core p side o h) h).counter
      counter_is true None = refl
      counter_is true (Some k) = others-posted (λ c hs x. c) core.workers k h
      counter_is false o = refl

      hands_are : (b : Bool) (o : Option ℕ) → h.hands ≡ (chosen b (swept core p side o h) h).hands
      hands_are true None = refl
      hands_are true (Some k) = others-posted (λ c hs x. hs) core.workers k h
      hands_are false o = refl

      cache_is : (b : Bool) (o : Option ℕ) → h.cache ≡ (chosen b (swept core p side o h) h).cache
      cache_is true None = refl
      cache_is true (Some k) = others-posted (λ c hs x. x) core.workers k h
      cache_is false o = refl

      log_is : (b : Bool) (o : Option ℕ) → (if b then log_found core.workers o h.log else h.log) ≡ (chosen b (swept core p side o h) h).log
      log_is true None = refl
      log_is true (Some k) = log-posted core.workers k h
      log_is false o = refl
