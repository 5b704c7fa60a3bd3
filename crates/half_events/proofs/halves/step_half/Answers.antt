use Rattle.std.proofs.Common.{refl, sym, ◌∙◌, ap}
use Rattle.core_definitions.specs.Phase.{CoreSettings, half_after}
use Rattle.tile_claims.specs.Plans.{tiles_of}
use Rattle.half_events.specs.Caches.{filled}
use Rattle.half_events.specs.Steps.{step_of}
use Rattle.half_events.specs.Halves.{half_seen, log_swept}
use Rattle.half_events.specs.Stages.{phase_at}
use Rattle.half_events.proofs.Stepping.{read_off, claim-stepped, abandon-stepped, fill-stepped, evict-stepped, post-stepped, sweep-stepped}
use Rattle.half_events.proofs.Sides.{tiles-are, cache-is, held-low, posted-once, still-half}
use Rattle.half_events.proofs.halves.step_half.Goals as goal

pub post-requires-clause-cached : goal.post-requires-clause-cached
post-requires-clause-cached c = cache-is c.args.settings.now (phase_at c.args.stage.now) c.args.half.now.plan.side c.args.half.now c.requires.half

pub post-requires-clause-held : goal.post-requires-clause-held
post-requires-clause-held c = held-low c.args.settings.now (phase_at c.args.stage.now) c.args.half.now.plan.side c.args.half.now c.requires.half c.in-Post.worker

pub sweep-requires-clause-cached : goal.sweep-requires-clause-cached
sweep-requires-clause-cached c = cache-is c.args.settings.now (phase_at c.args.stage.now) c.args.half.now.plan.side c.args.half.now c.requires.half

pub sweep-requires-clause-once : goal.sweep-requires-clause-once
sweep-requires-clause-once c = posted-once c.args.settings.now (phase_at c.args.stage.now) c.args.half.now.plan.side c.args.half.now c.requires.half

pub returns-in-Claim-clause-after : goal.returns-in-Claim-clause-after
returns-in-Claim-clause-after c =
    let core = c.args.settings.now in
    let p = phase_at c.args.stage.now in
    let old = c.args.half.now in
    let w = c.in-Claim.worker in
    let side = old.plan.side in
    let n = c.count-tiles.result in
    claim-stepped core p side n w (half_seen core p side old) c.requires.half.kept c.claim-half.result c.claim-half.new.hands.items
    (c.count-tiles.ensures ∙ tiles-are core p side old.plan c.requires.half.plan)
    c.claim-half.ensures.counter c.claim-half.ensures.hands
    ∙ ap (λ s. half_after core p side (step_of s) (half_seen core p side old)) (sym c.in-Claim.is)

pub returns-in-Claim-clause-half : goal.returns-in-Claim-clause-half
returns-in-Claim-clause-half c =
    still-half c.args.settings.now (phase_at c.args.stage.now) c.args.half.now.plan.side (step_of c.args.step) c.args.half.now _ c.requires.half
    refl c.requires.half.same (returns-in-Claim-clause-after c)

pub returns-in-Abandon-clause-after : goal.returns-in-Abandon-clause-after
returns-in-Abandon-clause-after c =
    let core = c.args.settings.now in
    let p = phase_at c.args.stage.now in
    let old = c.args.half.now in
    let w = c.in-Abandon.worker in
    let side = old.plan.side in
    abandon-stepped core p side w (half_seen core p side old) c.requires.half.kept c.abandon.new.hands.items c.abandon.ensures
    ∙ ap (λ s. half_after core p side (step_of s) (half_seen core p side old)) (sym c.in-Abandon.is)

pub returns-in-Abandon-clause-half : goal.returns-in-Abandon-clause-half
returns-in-Abandon-clause-half c =
    still-half c.args.settings.now (phase_at c.args.stage.now) c.args.half.now.plan.side (step_of c.args.step) c.args.half.now _ c.requires.half
    refl c.requires.half.same (returns-in-Abandon-clause-after c)

pub returns-in_ok-fill-in-Fill-clause-after : goal.returns-in_ok-fill-in-Fill-clause-after
returns-in_ok-fill-in-Fill-clause-after c =
    let core = c.args.settings.now in
    let p = phase_at c.args.stage.now in
    let old = c.args.half.now in
    let side = old.plan.side in
    fill-stepped core p side c.in-Fill.report c.in-Fill.prefix (half_seen core p side old) c.requires.half.kept old.plan.shares c.requires.half.plan.shares_are c.fill.new.cache.items
    (c.in_ok-fill-in-Fill.ensures
    ∙ ap (λ (x : CoreSettings). filled x.walk.bits old.plan.shares side c.in-Fill.report c.in-Fill.prefix old.cache.items) c.settings.view_is)
    ∙ ap (λ s. half_after core p side (step_of s) (half_seen core p side old)) (sym c.in-Fill.is)

pub returns-in-Evict-clause-after : goal.returns-in-Evict-clause-after
returns-in-Evict-clause-after c =
    let core = c.args.settings.now in
    let p = phase_at c.args.stage.now in
    let old = c.args.half.now in
    let side = old.plan.side in
    evict-stepped core p side c.in-Evict.report c.in-Evict.prefix (half_seen core p side old) c.requires.half.kept c.evict.new.cache.items c.evict.ensures
    ∙ ap (λ s. half_after core p side (step_of s) (half_seen core p side old)) (sym c.in-Evict.is)

pub returns-in-Evict-clause-half : goal.returns-in-Evict-clause-half
returns-in-Evict-clause-half c =
    still-half c.args.settings.now (phase_at c.args.stage.now) c.args.half.now.plan.side (step_of c.args.step) c.args.half.now _ c.requires.half
    refl c.requires.half.same (returns-in-Evict-clause-after c)

pub returns-in_ok-post-in-Post-clause-after : goal.returns-in_ok-post-in-Post-clause-after
returns-in_ok-post-in-Post-clause-after c =
    let core = c.args.settings.now in
    let p = phase_at c.args.stage.now in
    let old = c.args.half.now in
    let new = c.post.new.half in
    let side = old.plan.side in
    let only = c.in_ok-post-in-Post.ensures.only in
    ap (λ n. read_off core p side n new.hands.items new.state.log new.cache.items) only.counter_is
    ∙ ap (read_off core p side old.counter new.hands.items new.state.log) only.cache_is
    ∙ post-stepped core p side c.in-Post.worker (half_seen core p side old) c.requires.half.kept new.hands.items only.hands_are new.state.log c.in_ok-post-in-Post.ensures.log
    ∙ ap (λ s. half_after core p side (step_of s) (half_seen core p side old)) (sym c.in-Post.is)

pub returns-in_ok-post-in-Post-clause-half : goal.returns-in_ok-post-in-Post-clause-half
returns-in_ok-post-in-Post-clause-half c =
    still-half c.args.settings.now (phase_at c.args.stage.now) c.args.half.now.plan.side (step_of c.args.step) c.args.half.now c.post.new.half c.requires.half
    c.in_ok-post-in-Post.ensures.only.plan_is c.in_ok-post-in-Post.ensures.only.same (returns-in_ok-post-in-Post-clause-after c)

pub returns-in_ok-sweep-in-Sweep-clause-after : goal.returns-in_ok-sweep-in-Sweep-clause-after
returns-in_ok-sweep-in-Sweep-clause-after c =
    let core = c.args.settings.now in
    let p = phase_at c.args.stage.now in
    let old = c.args.half.now in
    let new = c.sweep.new.half in
    let side = old.plan.side in
    let only = c.in_ok-sweep-in-Sweep.ensures.only in
    let n = tiles_of old.plan.tiles in
    ap (λ n. read_off core p side n new.hands.items new.state.log new.cache.items) only.counter_is
    ∙ ap (read_off core p side old.counter new.hands.items new.state.log) only.cache_is
    ∙ ap (λ hs. read_off core p side old.counter hs new.state.log old.cache.items) only.hands_are
    ∙ sweep-stepped core p side (half_seen core p side old) c.requires.half.kept n (tiles-are core p side old.plan c.requires.half.plan) new.state.log
    (c.in_ok-sweep-in-Sweep.ensures.log ∙ ap (λ (x : CoreSettings). log_swept x.workers n old.hands.items old.state.log) c.settings.view_is)
    ∙ ap (λ s. half_after core p side (step_of s) (half_seen core p side old)) (sym c.in-Sweep.is)

pub returns-in_ok-sweep-in-Sweep-clause-half : goal.returns-in_ok-sweep-in-Sweep-clause-half
returns-in_ok-sweep-in-Sweep-clause-half c =
    still-half c.args.settings.now (phase_at c.args.stage.now) c.args.half.now.plan.side (step_of c.args.step) c.args.half.now c.sweep.new.half c.requires.half
    c.in_ok-sweep-in-Sweep.ensures.only.plan_is c.in_ok-sweep-in-Sweep.ensures.only.same (returns-in_ok-sweep-in-Sweep-clause-after c)
