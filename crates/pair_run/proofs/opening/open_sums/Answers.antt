use Rattle.std.proofs.Common.{◌≡◌, ◌∙◌, ap, sym, length, refl, None, subst}
use Rattle.definitions.specs.declared.Side.TheVariants.{Zero, One}
use Rattle.definitions.specs.Sketch.{sums_added}
use Rattle.std.specs.Prelude.{map}
use Rattle.walk_definitions.specs.Walk.{own_sums}
use Rattle.walk_definitions.specs.Messages.{flat, both_send}
use Rattle.walk_definitions.specs.Heard.{paired}
use Rattle.pair_run.specs.declared.answers.PairError.TheVariants.{Memory}
use Rattle.pair_run.specs.Failures.{end_of, Stops}
use Rattle.pair_run.specs.Parts.{GoesOn, exchange, opening}
use Rattle.pair_run.specs.Places.{picked}
use Rattle.pair_run.specs.Rules.{rules_of}
use Rattle.shelf_io.specs.Seen.{IsReady}
use Rattle.pair_run.specs.Talking.{SentPart}
use Rattle.pair_run.proofs.Followed.{err_same, stops_as, passed_map, part_whole}
use Rattle.pair_run.proofs.Openings.{opening_goes, opening_ends, both_are}
use Rattle.pair_run.proofs.Views.{length_paired}
use Rattle.pair_run.proofs.opening.open_sums.Goals as goal

pub returns-in_err-to0-clause-stops : goal.returns-in_err-to0-clause-stops
returns-in_err-to0-clause-stops g c =
    let rules = rules_of c.args.settings.now in
    let live = picked c.args.batch.now c.args.live.now in
    let talk0 = g.K.Link.talk c.args.link.now in
    let talk1 = g.K.Link.talk c.exchange_sums.new.link in
    let sums0 = c.deref.ensures.value ∙ c.in_ok-sums0.ensures.sums0 in
    let sums1 = c.deref-2.ensures.value ∙ c.in_ok-sums0.ensures.sums1 in
    err_same c.from_residual-in_err-to0.result c.in_err-to0.field-0.0 (Stops (opening rules c.args.level c.args.candidates.now live) talk0 talk1)
    c.from_residual-in_err-to0.ensures
    (stops_as (exchange 1 c.args.level (flat c.deref.result.now) (flat c.deref-2.result.now)) (opening rules c.args.level c.args.candidates.now live) talk0 talk1 c.in_err-to0.field-0.0
    (λ end s z o h. opening_ends rules c.args.level c.args.candidates.now live c.deref.result.now c.deref-2.result.now end s z o sums0 sums1 h) c.in_err-to0.ensures.stops)

pub returns-in_err-opened0-clause-partly : goal.returns-in_err-opened0-clause-partly
returns-in_err-opened0-clause-partly g c =
    let rules = rules_of c.args.settings.now in
    let live = picked c.args.batch.now c.args.live.now in
    let talk0 = g.K.Link.talk c.args.link.now in
    let talk1 = g.K.Link.talk c.exchange_sums.new.link in
    let own0 = c.deref.ensures.value ∙ c.in_ok-sums0.ensures.sums0 in
    let own1 = c.deref-2.ensures.value ∙ c.in_ok-sums0.ensures.sums1 in
    let both = both_send 1 c.args.level (flat (map (own_sums rules c.args.level c.args.candidates.now Zero) live)) (flat (map (own_sums rules c.args.level c.args.candidates.now One) live)) in
    err_same c.from_residual-in_err-opened0.result Memory
    (λ e. IsReady (g.K.Link.is_true c.args.link.now) talk0 → (end_of e ≡ None) × SentPart talk0 talk1 both)
    c.from_residual-in_err-opened0.ensures
    (λ ready. (
      refl,
      subst (SentPart talk0 talk1) (both_are rules c.args.level c.args.candidates.now live c.deref.result.now c.deref-2.result.now own0 own1)
          (part_whole talk0 talk1 (both_send 1 c.args.level (flat c.deref.result.now) (flat c.deref-2.result.now)) (c.in_ok-to0.ensures.truly ready).3),
    ))

pub returns-in_err-opened1-clause-partly : goal.returns-in_err-opened1-clause-partly
returns-in_err-opened1-clause-partly g c =
    let rules = rules_of c.args.settings.now in
    let live = picked c.args.batch.now c.args.live.now in
    let talk0 = g.K.Link.talk c.args.link.now in
    let talk1 = g.K.Link.talk c.exchange_sums.new.link in
    let own0 = c.deref.ensures.value ∙ c.in_ok-sums0.ensures.sums0 in
    let own1 = c.deref-2.ensures.value ∙ c.in_ok-sums0.ensures.sums1 in
    let both = both_send 1 c.args.level (flat (map (own_sums rules c.args.level c.args.candidates.now Zero) live)) (flat (map (own_sums rules c.args.level c.args.candidates.now One) live)) in
    err_same c.from_residual-in_err-opened1.result Memory
    (λ e. IsReady (g.K.Link.is_true c.args.link.now) talk0 → (end_of e ≡ None) × SentPart talk0 talk1 both)
    c.from_residual-in_err-opened1.ensures
    (λ ready. (
      refl,
      subst (SentPart talk0 talk1) (both_are rules c.args.level c.args.candidates.now live c.deref.result.now c.deref-2.result.now own0 own1)
          (part_whole talk0 talk1 (both_send 1 c.args.level (flat c.deref.result.now) (flat c.deref-2.result.now)) (c.in_ok-to0.ensures.truly ready).3),
    ))

pub returns-clause-counts : goal.returns-clause-counts
returns-clause-counts g c =
    let count = c.in_ok-sums0.ensures.count.0 in
    let own0 = ap length c.deref-3.ensures.value ∙ count in
    let own1 = ap length c.deref-5.ensures.value ∙ c.in_ok-sums0.ensures.count.1 in
    let to0 = ap length c.deref-4.ensures.value ∙ c.in_ok-to0.ensures.counts.0 ∙ ap length c.deref.ensures.value ∙ count in
    let to1 = ap length c.deref-6.ensures.value ∙ c.in_ok-to0.ensures.counts.1 ∙ ap length c.deref.ensures.value ∙ count in (
      ap length c.in_ok-opened0.ensures.sums ∙ length_paired sums_added c.deref-3.result.now c.deref-4.result.now (own0 ∙ sym to0) ∙ own0,
      ap length c.in_ok-opened1.ensures.sums ∙ length_paired sums_added c.deref-5.result.now c.deref-6.result.now (own1 ∙ sym to1) ∙ own1,
    )

pub returns-clause-goes : goal.returns-clause-goes
returns-clause-goes g c =
    let rules = rules_of c.args.settings.now in
    let live = picked c.args.batch.now c.args.live.now in
    let own0 = c.deref.result.now in
    let own1 = c.deref-2.result.now in
    let to0 = c.in_ok-to0.to0.items in
    let to1 = c.in_ok-to0.to1.items in
    let same0 = c.deref-3.ensures.value ∙ sym c.deref.ensures.value in
    let same1 = c.deref-5.ensures.value ∙ sym c.deref-2.ensures.value in
    let opened0 = c.in_ok-opened0.ensures.sums ∙ ap (λ o. paired sums_added o c.deref-4.result.now) same0 ∙ ap (paired sums_added own0) c.deref-4.ensures.value in
    let opened1 = c.in_ok-opened1.ensures.sums ∙ ap (λ o. paired sums_added o c.deref-6.result.now) same1 ∙ ap (paired sums_added own1) c.deref-6.ensures.value in
    passed_map (g.K.Link.talk c.args.link.now) (g.K.Link.talk c.exchange_sums.new.link) (GoesOn (exchange 1 c.args.level (flat own0) (flat own1)) (flat to0, flat to1))
    (GoesOn (opening rules c.args.level c.args.candidates.now live) (c.in_ok-opened0.opened0.items, c.in_ok-opened1.opened1.items))
    (λ s z o h. opening_goes rules c.args.level c.args.candidates.now live own0 own1 to0 to1 c.in_ok-opened0.opened0.items c.in_ok-opened1.opened1.items s z o
    (c.deref.ensures.value ∙ c.in_ok-sums0.ensures.sums0) (c.deref-2.ensures.value ∙ c.in_ok-sums0.ensures.sums1) opened0 opened1 h)
    c.in_ok-to0.ensures.goes
