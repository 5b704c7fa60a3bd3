use Rattle.std.proofs.Common.{◌≡◌, ◌∙◌, ap, sym, length, arith, refl, subst, None}
use Rattle.definitions.specs.Field.{add}
use Rattle.walk_definitions.specs.Messages.{both_send}
use Rattle.walk_definitions.specs.Heard.{paired, added}
use Rattle.pair_run.specs.AddedKinds.{added_number}
use Rattle.pair_run.specs.declared.answers.PairError.TheVariants.{Memory}
use Rattle.pair_run.specs.Failures.{end_of, Stops, IsView}
use Rattle.pair_run.specs.Parts.{GoesOn, exchange}
use Rattle.shelf_io.specs.Seen.{IsReady}
use Rattle.pair_run.specs.Talking.{Passed, SentPart}
use Rattle.pair_run.proofs.Followed.{err_same, stops_as, passed_map, part_whole, if_ok, if_err, if_err_too}
use Rattle.walk_definitions.proofs.TrueLink.{paired-swap}
use Rattle.pair_run.proofs.Views.{added_goes, added_stops, added_ends, length_paired}
use Rattle.pair_run.proofs.agreement.agreed_sums.Goals as goal

pub returns-in_err-to0-clause-stops : goal.returns-in_err-to0-clause-stops
returns-in_err-to0-clause-stops g c =
    let kind = added_number c.args.kind in
    let talk0 = g.K.Link.talk c.args.link.now in
    let talk1 = g.K.Link.talk c.exchange_numbers.new.link in
    err_same c.from_residual.result c.in_err-to0.field-0.0 (Stops (added kind c.args.level c.args.own0.now c.args.own1.now) talk0 talk1)
    c.from_residual.ensures
    (stops_as (exchange kind c.args.level c.args.own0.now c.args.own1.now) (added kind c.args.level c.args.own0.now c.args.own1.now) talk0 talk1 c.in_err-to0.field-0.0
    (added_ends kind c.args.level c.args.own0.now c.args.own1.now) c.in_err-to0.ensures.stops)

pub returns-in_err-sums0-clause-partly : goal.returns-in_err-sums0-clause-partly
returns-in_err-sums0-clause-partly g c =
    let talk0 = g.K.Link.talk c.args.link.now in
    let talk1 = g.K.Link.talk c.exchange_numbers.new.link in
    let both = both_send (added_number c.args.kind) c.args.level c.args.own0.now c.args.own1.now in
    err_same c.from_residual-in_err-sums0.result Memory
    (λ e. IsReady (g.K.Link.is_true c.args.link.now) talk0 → (end_of e ≡ None) × SentPart talk0 talk1 both)
    c.from_residual-in_err-sums0.ensures (λ ready. (refl, part_whole talk0 talk1 both (c.in_ok-to0.ensures.truly ready).3))

pub returns-in_err-sums1-clause-partly : goal.returns-in_err-sums1-clause-partly
returns-in_err-sums1-clause-partly g c =
    let talk0 = g.K.Link.talk c.args.link.now in
    let talk1 = g.K.Link.talk c.exchange_numbers.new.link in
    let both = both_send (added_number c.args.kind) c.args.level c.args.own0.now c.args.own1.now in
    err_same c.from_residual-in_err-sums1.result Memory
    (λ e. IsReady (g.K.Link.is_true c.args.link.now) talk0 → (end_of e ≡ None) × SentPart talk0 talk1 both)
    c.from_residual-in_err-sums1.ensures (λ ready. (refl, part_whole talk0 talk1 both (c.in_ok-to0.ensures.truly ready).3))

pub compared-requires : goal.compared-requires
compared-requires g c =
    let own0 = c.args.own0.now in
    let own1 = c.args.own1.now in
    let sums0 = ap length (c.in_ok-sums0.ensures.numbers ∙ ap (paired add own0) c.deref.ensures.value) ∙ length_paired add own0 c.in_ok-to0.to0.items (sym c.in_ok-to0.ensures.counts.0) in
    let sums1 = ap length (c.in_ok-sums1.ensures.numbers ∙ ap (paired add own1) c.deref-2.ensures.value)
    ∙ length_paired add own1 c.in_ok-to0.to1.items (c.requires.same ∙ sym c.in_ok-to0.ensures.counts.1) in
    record {
      few = omega (arith, sums0, c.requires.few);
      same = sums0 ∙ sym (ap length c.deref-3.ensures.value ∙ sums1 ∙ c.requires.same);
    }

pub returns-clause-count : goal.returns-clause-count
returns-clause-count g c =
    let own0 = c.args.own0.now in
    let sums0 = c.in_ok-sums0.ensures.numbers ∙ ap (paired add own0) c.deref.ensures.value in
    if_ok c.compared.result (λ sums. (sums.items ≡ c.in_ok-sums0.sums0.items) × (c.in_ok-sums0.sums0.items ≡ c.deref-3.result.now))
    (λ sums. length sums.items ≡ length own0)
    (λ sums h. ap length (h.0 ∙ sums0) ∙ length_paired add own0 c.in_ok-to0.to0.items (sym c.in_ok-to0.ensures.counts.0)) c.compared.ensures.equal

pub returns-clause-goes : goal.returns-clause-goes
returns-clause-goes g c =
    let kind = added_number c.args.kind in
    let own0 = c.args.own0.now in
    let own1 = c.args.own1.now in
    let to0 = c.in_ok-to0.to0.items in
    let to1 = c.in_ok-to0.to1.items in
    let talk0 = g.K.Link.talk c.args.link.now in
    let talk1 = g.K.Link.talk c.exchange_numbers.new.link in
    let sums0 = c.in_ok-sums0.ensures.numbers ∙ ap (paired add own0) c.deref.ensures.value in
    let sums1 = c.in_ok-sums1.ensures.numbers ∙ ap (paired add own1) c.deref-2.ensures.value in
    if_ok c.compared.result (λ sums. (sums.items ≡ c.in_ok-sums0.sums0.items) × (c.in_ok-sums0.sums0.items ≡ c.deref-3.result.now))
    (λ sums. Passed talk0 talk1 (GoesOn (added kind c.args.level own0 own1) sums.items))
    (λ sums h. passed_map talk0 talk1 (GoesOn (exchange kind c.args.level own0 own1) (to0, to1)) (GoesOn (added kind c.args.level own0 own1) sums.items)
    (λ s z o go. subst (λ t. GoesOn (added kind c.args.level own0 own1) t s z o) (sym (h.0 ∙ sums0))
    (added_goes kind c.args.level own0 own1 to0 to1 s z o (sym sums0 ∙ h.1 ∙ c.deref-3.ensures.value ∙ sums1) go)) c.in_ok-to0.ensures.goes) c.compared.ensures.equal

pub returns-clause-stops : goal.returns-clause-stops
returns-clause-stops g c =
    let kind = added_number c.args.kind in
    let own0 = c.args.own0.now in
    let own1 = c.args.own1.now in
    let to0 = c.in_ok-to0.to0.items in
    let to1 = c.in_ok-to0.to1.items in
    let talk0 = g.K.Link.talk c.args.link.now in
    let talk1 = g.K.Link.talk c.exchange_numbers.new.link in
    let sums0 = c.in_ok-sums0.ensures.numbers ∙ ap (paired add own0) c.deref.ensures.value in
    let sums1 = c.deref-3.ensures.value ∙ c.in_ok-sums1.ensures.numbers ∙ ap (paired add own1) c.deref-2.ensures.value in
    if_err c.compared.result (IsView kind c.args.level c.in_ok-sums0.sums0.items c.deref-3.result.now) (Stops (added kind c.args.level own0 own1) talk0 talk1)
    (λ e view. added_stops kind c.args.level own0 own1 to0 to1 talk0 talk1 e
    (subst (λ ys. IsView kind c.args.level (paired add own0 to0) ys e) sums1 (subst (λ xs. IsView kind c.args.level xs c.deref-3.result.now e) sums0 view))
    c.in_ok-to0.ensures.goes) c.compared.ensures.view

pub returns-clause-partly : goal.returns-clause-partly
returns-clause-partly g c =
    let kind = added_number c.args.kind in
    let own0 = c.args.own0.now in
    let own1 = c.args.own1.now in
    let talk0 = g.K.Link.talk c.args.link.now in
    let talk1 = g.K.Link.talk c.exchange_numbers.new.link in
    let both = both_send kind c.args.level own0 own1 in
    let sums0 = c.in_ok-sums0.ensures.numbers ∙ ap (paired add own0) c.deref.ensures.value in
    let sums1 = c.deref-3.ensures.value ∙ c.in_ok-sums1.ensures.numbers ∙ ap (paired add own1) c.deref-2.ensures.value in
    if_err_too c.compared.result (c.in_ok-sums0.sums0.items ≡ c.deref-3.result.now → ⊥) (IsView kind c.args.level c.in_ok-sums0.sums0.items c.deref-3.result.now)
    (λ e. IsReady (g.K.Link.is_true c.args.link.now) talk0 → (end_of e ≡ None) × SentPart talk0 talk1 both)
    (λ e unequal view ready. let truly = c.in_ok-to0.ensures.truly ready in
    absurd (unequal (sums0 ∙ ap (paired add own0) truly.0 ∙ sym (paired-swap own0 own1) ∙ sym (ap (paired add own1) truly.1) ∙ sym sums1)))
    c.compared.ensures.unequal c.compared.ensures.view
