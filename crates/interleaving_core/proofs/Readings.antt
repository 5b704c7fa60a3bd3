-- What a state has added up is what is read off the log in the definitions' words.
use Rattle.std.proofs.Common.{◌≡◌, ℕ, zero, suc, ◌+◌, Bool, List, [], ◌∷◌, length, map, get_or, refl, sym, ◌∙◌, ap, arith}
use mathlib.Core.Path.{fun_ext}
use Rattle.std.specs.Prelude.{if◌then◌else◌}
use Rattle.std.proofs.lemmas.List.{length-map}
use Rattle.definitions.specs.declared.Side.{Side}
use Rattle.definitions.specs.Field.{add, total_by}
use Rattle.definitions.specs.Evaluation.{Share, Node, node}
use Rattle.definitions.specs.Sketch.{Sums, coin}
use Rattle.definitions.proofs.FieldLaws.{total_by-nil, total_by-cons}
use Rattle.walk_definitions.specs.Reports.{Report}
use Rattle.core_definitions.specs.Tiles.{TilePlan, Placed, numbered, sums_of_tiles, totals_of_tiles, sums_at, total_at, has_candidate, has_report}
use Rattle.core_definitions.specs.Phase as phase
use Rattle.core_definitions.specs.Phase.{CoreSettings, Phase, Posting, plan_of, report_at, no_report, no_share, plain_node, values_of_tiles}
use Rattle.core_definitions.proofs.Values.{map-same}
use Rattle.phase_state.specs.declared.kind.Kind.{Kind}
use Rattle.phase_state.specs.declared.kind.Kind.TheVariants.{Sketch, Totals}
use Rattle.phase_state.specs.declared.phase_plan.PlanSeen.{PlanSeen}
use Rattle.phase_state.specs.Sums.{cut, share_at, live_shares, nodes_of, coins_of, in_sketch, in_totals, sums_of, totals_of}
use Rattle.phase_state.specs.Logs.{tiles_in}
use Rattle.half_events.specs.Stages.{IsPlanOf, kind_of}
use Rattle.half_events.proofs.Bridges.{share-held}
use Rattle.half_events.specs.declared.halves.Half.{Half}
use Rattle.half_events.specs.Halves.{IsHalf, half_seen}
use Rattle.half_events.specs.Stages.{StageSeen, phase_at}
use Rattle.interleaving_core.specs.declared.phases.Found.TheVariants.{Live, Added}
use Rattle.interleaving_core.specs.declared.sides.Sides.{Sides}
use Rattle.interleaving_core.specs.Sides.{AreSides}
use Rattle.interleaving_core.specs.Phases.{sums_in, totals_in, IsFound}
use Rattle.interleaving_core.proofs.Passing.{paired-length}
use Rattle.std.specs.Global.{Vec}
use Rattle.definitions.specs.declared.Side.TheVariants.{Zero, One}
use Rattle.walk_definitions.specs.Heard.{paired}
use Rattle.core_definitions.specs.System.{passed_by}

-- ---- sums over what is looked up

module _ {R S : Type 0} (f : S → R) where
  abbrev found : Placed S → Placed R
  found r = record { place = r.place; item = f r.item }

  numbered-map : {Y : Type 0} (F : Placed R → Y) (at : ℕ) (xs : List S) → map F (numbered at (map f xs)) ≡ map (λ r. F (found r)) (numbered at xs)
  numbered-map F at [] = refl
  numbered-map F at (x ∷ xs) = ap (λ l. F (record { place = at; item = f x }) ∷ l) (numbered-map F (at + 1) xs)

  numbered-total : (F : Placed R → ℕ) (at : ℕ) (xs : List S) → total_by F (numbered at (map f xs)) ≡ total_by (λ r. F (found r)) (numbered at xs)
  numbered-total F at [] = total_by-nil F ∙ sym (total_by-nil (λ (r : Placed S). F (found r)))
  numbered-total F at (x ∷ xs) =
      total_by-cons F _ _
      ∙ ap (λ n. add (F (record { place = at; item = f x })) n) (numbered-total F (at + 1) xs)
      ∙ sym (total_by-cons (λ (r : Placed S). F (found r)) _ _)

  pub sums-found : {C : Type 0} (plan : TilePlan) (coins : R → ℕ → ℕ) (nodes : R → C → Node) (live : List S) (candidates : List C) (ks : List ℕ)
      → sums_of_tiles plan coins nodes (map f live) candidates ks ≡ sums_of_tiles plan (λ s. coins (f s)) (λ s. nodes (f s)) live candidates ks
  unfolding sums_of_tiles sums_at
  sums-found plan coins nodes live candidates ks = numbered-map _ 0 live

  pub totals-found : {C : Type 0} (plan : TilePlan) (nodes : R → C → Node) (live : List S) (candidates : List C) (ks : List ℕ)
      → totals_of_tiles plan nodes (map f live) candidates ks ≡ totals_of_tiles plan (λ s. nodes (f s)) live candidates ks
  unfolding totals_of_tiles total_at
  totals-found plan nodes live candidates ks =
      map-same _ _ (λ q. ap (λ g. total_by g ks) (fun_ext (λ k. ap (λ n. if has_candidate plan k q.place then n else 0)
      (numbered-total (λ r. if has_report plan k r.place then (nodes r.item q.item).d else 0) 0 live)))) (numbered 0 candidates)

numbered-length : {X Y : Type 0} (F : Placed X → Y) (at : ℕ) (xs : List X) → length (map F (numbered at xs)) ≡ length xs
numbered-length F at [] = refl
numbered-length F at (x ∷ xs) = let rest = numbered-length F (at + 1) xs in omega (arith, rest)

sums-length : {R C : Type 0} (plan : TilePlan) (coins : R → ℕ → ℕ) (nodes : R → C → Node) (live : List R) (candidates : List C) (ks : List ℕ)
    → length (sums_of_tiles plan coins nodes live candidates ks) ≡ length live
unfolding sums_of_tiles
sums-length plan coins nodes live candidates ks = numbered-length _ 0 live

totals-length : {R C : Type 0} (plan : TilePlan) (nodes : R → C → Node) (live : List R) (candidates : List C) (ks : List ℕ)
    → length (totals_of_tiles plan nodes live candidates ks) ≡ length candidates
unfolding totals_of_tiles
totals-length plan nodes live candidates ks = numbered-length _ 0 candidates

-- ---- a report's id and share at its place

id-at : (shares : List Share) (batch : List Report) (i : ℕ) → map (λ s. s.id) shares ≡ map (λ r. r.id) batch → (get_or shares i no_share).id ≡ (get_or batch i no_report).id
id-at [] [] i e = refl
id-at [] (b ∷ bs) i e = let impossible : ⊥ = cc in absurd impossible
id-at (s ∷ ss) [] i e = let impossible : ⊥ = cc in absurd impossible
id-at (s ∷ ss) (b ∷ bs) zero e = cc
id-at (s ∷ ss) (b ∷ bs) (suc i) e = let rest : map (λ s. s.id) ss ≡ map (λ r. r.id) bs = cc in id-at ss bs i rest

kind-sketch : (kind : Kind) → kind_of kind ≡ phase.sketching → kind ≡ Sketch
kind-sketch Sketch e = refl
kind-sketch Totals e = let impossible : ⊥ = cc in absurd impossible

kind-totals : (kind : Kind) → kind_of kind ≡ phase.totalling → kind ≡ Totals
kind-totals Sketch e = let impossible : ⊥ = cc in absurd impossible
kind-totals Totals e = refl

same-sums : (P Q : TilePlan) (c d : ℕ → ℕ → ℕ) (m n : ℕ → List Bool → Node) (l k : List ℕ) (q r : List (List Bool)) (ks : List ℕ) → P ≡ Q → c ≡ d → m ≡ n → l ≡ k → q ≡ r
    → sums_of_tiles P c m l q ks ≡ sums_of_tiles Q d n k r ks
same-sums P Q c d m n l k q r ks a b e f g = cc

same-totals : (P Q : TilePlan) (m n : ℕ → List Bool → Node) (l k : List ℕ) (q r : List (List Bool)) (ks : List ℕ) → P ≡ Q → m ≡ n → l ≡ k → q ≡ r
    → totals_of_tiles P m l q ks ≡ totals_of_tiles Q n k r ks
same-totals P Q m n l k q r ks a b e f = cc

same-coins : (v w : List ℕ) (i j : List ℕ) (l m : ℕ) → v ≡ w → i ≡ j → l ≡ m → coin v i l ≡ coin w j m
same-coins v w i j l m e f g = ap (λ x. coin x i l) e ∙ ap (λ x. coin w x l) f ∙ ap (coin w j) g

-- ---- a side's plan

module _ (core : CoreSettings) (p : Phase) (side : Side) (plan : PlanSeen) (is : IsPlanOf core p side plan) (log : List Posting) where
  nodes-are : (λ i. nodes_of plan.side (share_at plan.shares i)) ≡ plain_node p.batch side
  nodes-are = fun_ext (λ i.
      ap (λ at. node (share_at plan.shares i) at) is.side_is
      ∙ ap (λ s. node s side) (ap (λ ss. share_at ss i) is.shares_are ∙ share-held side p.batch i))

  coins-are : (λ i. coins_of plan.verify plan.level (share_at plan.shares i)) ≡ phase.coins_of core p
  coins-are = fun_ext (λ i. same-coins _ _ _ _ _ _ is.verify_is (id-at plan.shares p.batch i is.named) is.level_is)

  pub sums-read : p.kind ≡ phase.sketching → sums_of plan (tiles_in log) ≡ sums_in (values_of_tiles core p p.kind (plain_node p.batch side) (map (λ e. e.tile) log))
  sums-read kind =
      let ks : List ℕ = map (λ (e : Posting). e.tile) log in
      ap (λ k. sums_of_tiles (cut plan.tiles) (coins_of plan.verify plan.level) (nodes_of plan.side) (live_shares plan) plan.candidates (in_sketch k ks))
      (kind-sketch plan.kind (is.kind_is ∙ kind))
      ∙ sums-found (share_at plan.shares) (cut plan.tiles) (coins_of plan.verify plan.level) (nodes_of plan.side) plan.live plan.candidates ks
      ∙ same-sums _ (plan_of core p) _ (phase.coins_of core p) _ (plain_node p.batch side) _ p.live _ p.candidates ks is.tiles_are coins-are nodes-are is.live_are is.candidates_are
      ∙ ap (λ k. sums_in (values_of_tiles core p k (plain_node p.batch side) ks)) (sym kind)

  pub totals-read : p.kind ≡ phase.totalling → totals_of plan (tiles_in log) ≡ totals_in (values_of_tiles core p p.kind (plain_node p.batch side) (map (λ e. e.tile) log))
  totals-read kind =
      let ks : List ℕ = map (λ (e : Posting). e.tile) log in
      ap (λ k. totals_of_tiles (cut plan.tiles) (nodes_of plan.side) (live_shares plan) plan.candidates (in_totals k ks))
      (kind-totals plan.kind (is.kind_is ∙ kind))
      ∙ totals-found (share_at plan.shares) (cut plan.tiles) (nodes_of plan.side) plan.live plan.candidates ks
      ∙ same-totals _ (plan_of core p) _ (plain_node p.batch side) _ p.live _ p.candidates ks is.tiles_are nodes-are is.live_are is.candidates_are
      ∙ ap (λ k. totals_in (values_of_tiles core p k (plain_node p.batch side) ks)) (sym kind)

  pub sums-long : length (sums_of plan (tiles_in log)) ≡ length p.live
  sums-long = sums-length (cut plan.tiles) (coins_of plan.verify plan.level) (nodes_of plan.side) (live_shares plan) plan.candidates (in_sketch plan.kind (tiles_in log))
      ∙ length-map plan.live _ ∙ ap length is.live_are

  pub totals-long : length (totals_of plan (tiles_in log)) ≡ length p.candidates
  totals-long = totals-length (cut plan.tiles) (nodes_of plan.side) (live_shares plan) plan.candidates (in_totals plan.kind (tiles_in log)) ∙ ap length is.candidates_are

-- ---- a side

module _ (core : CoreSettings) (p : Phase) (side : Side) (h : Half) (is : IsHalf core p side h) where
  pub half-sums : (ss : List Sums) → p.kind ≡ phase.sketching → ss ≡ sums_of h.state.plan (tiles_in h.state.log) → ss ≡ sums_in (half_seen core p side h).values
  half-sums ss kind e = e ∙ ap (λ plan. sums_of plan (tiles_in h.state.log)) is.same ∙ sums-read core p side h.plan is.plan h.state.log kind

  pub half-totals : (ns : List ℕ) → p.kind ≡ phase.totalling → ns ≡ totals_of h.state.plan (tiles_in h.state.log) → ns ≡ totals_in (half_seen core p side h).values
  half-totals ns kind e = e ∙ ap (λ plan. totals_of plan (tiles_in h.state.log)) is.same ∙ totals-read core p side h.plan is.plan h.state.log kind

  pub sums-count : (ss : List Sums) → ss ≡ sums_of h.state.plan (tiles_in h.state.log) → length ss ≡ length p.live
  sums-count ss e = ap length (e ∙ ap (λ plan. sums_of plan (tiles_in h.state.log)) is.same) ∙ sums-long core p side h.plan is.plan h.state.log

  pub totals-count : (ns : List ℕ) → ns ≡ totals_of h.state.plan (tiles_in h.state.log) → length ns ≡ length p.candidates
  totals-count ns e = ap length (e ∙ ap (λ plan. totals_of plan (tiles_in h.state.log)) is.same) ∙ totals-long core p side h.plan is.plan h.state.log

-- ---- both sides

module _ (core : CoreSettings) (s : StageSeen) (sides : Sides) (is : AreSides core s sides) where
  pub live-found : (ss ts : List Sums) (live : Vec ℕ) → s.kind ≡ phase.sketching → ss ≡ sums_of sides.zero.state.plan (tiles_in sides.zero.state.log)
      → ts ≡ sums_of sides.one.state.plan (tiles_in sides.one.state.log) → live.items ≡ passed_by s.batch (suc s.past) s.live ss ts → IsFound core s sides (Live live)
  live-found ss ts live kind e f found = (
    kind,
    found
        ∙ ap (λ x. passed_by s.batch (suc s.past) s.live x ts) (half-sums core (phase_at s) Zero sides.zero is.zero ss kind e)
        ∙ ap (λ x. passed_by s.batch (suc s.past) s.live (sums_in (half_seen core (phase_at s) Zero sides.zero).values) x) (half-sums core (phase_at s) One sides.one is.one ts kind f),
  )

  pub totals-found-both : (ms ns : List ℕ) (totals : Vec ℕ) → s.kind ≡ phase.totalling → ms ≡ totals_of sides.zero.state.plan (tiles_in sides.zero.state.log)
      → ns ≡ totals_of sides.one.state.plan (tiles_in sides.one.state.log) → totals.items ≡ paired add ms ns → IsFound core s sides (Added totals)
  totals-found-both ms ns totals kind e f found =
      let m = totals-count core (phase_at s) Zero sides.zero is.zero ms e in
      let n = totals-count core (phase_at s) One sides.one is.one ns f in (
        kind,
        ap length found ∙ paired-length add ms ns (m ∙ sym n) ∙ m,
        found
            ∙ ap (λ x. paired add x ns) (half-totals core (phase_at s) Zero sides.zero is.zero ms kind e)
            ∙ ap (λ x. paired add (totals_in (half_seen core (phase_at s) Zero sides.zero).values) x) (half-totals core (phase_at s) One sides.one is.one ns kind f),
      )
