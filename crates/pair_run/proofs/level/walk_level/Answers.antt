use Rattle.std.proofs.Common.{◌≡◌, List, ◌∙◌, ap, sym, None, subst}
use Rattle.definitions.specs.declared.Side.TheVariants.{Zero, One}
use Rattle.walk_definitions.specs.Messages.{both_send, level_messages}
use Rattle.definitions.specs.Field.{add}
use Rattle.definitions.specs.Sketch.{Sums}
use Rattle.walk_definitions.specs.Heard.{paired}
use Rattle.walk_definitions.specs.Walk.{own_total}
use Rattle.std.specs.Prelude.{map}
use Rattle.pair_run.specs.Failures.{end_of, Stops}
use Rattle.pair_run.specs.Levels.{stage_of}
use Rattle.pair_run.specs.Parts.{GoesOn, opening, totalling, whole_level}
use Rattle.pair_run.specs.Places.{picked}
use Rattle.pair_run.specs.Rules.{rules_of}
use Rattle.shelf_io.specs.Seen.{IsReady}
use Rattle.pair_run.specs.Talking.{Passed, SentMore, SentPart}
use Rattle.pair_run.proofs.Followed.{err_same}
use Rattle.pair_run.proofs.LevelParts.{level_goes, level_stops_first, level_stops_second, level_stops_third, passed_is, totals_are, level_sent, part_one, part_two, part_three}
use Rattle.pair_run.proofs.level.walk_level.Goals as goal

pub returns-in_err-opened0-clause-stops : goal.returns-in_err-opened0-clause-stops
returns-in_err-opened0-clause-stops g c =
    let rules = rules_of c.args.settings.now in
    let level = c.args.level in
    let candidates = c.args.candidates.now in
    let batch = c.args.batch.now in
    let live = picked batch c.args.live.now in
    let talk0 = g.K.Link.talk c.args.link.now in
    let talk1 = g.K.Link.talk c.open_sums.new.link in
    err_same c.from_residual.result c.in_err-opened0.field-0.0 (Stops (whole_level rules level candidates live) talk0 talk1) c.from_residual.ensures
    (level_stops_first rules level candidates live talk0 talk1 c.in_err-opened0.field-0.0 c.in_err-opened0.ensures.stops)

pub returns-in_err-opened0-clause-partly : goal.returns-in_err-opened0-clause-partly
returns-in_err-opened0-clause-partly g c =
    let rules = rules_of c.args.settings.now in
    let level = c.args.level in
    let candidates = c.args.candidates.now in
    let batch = c.args.batch.now in
    let live = picked batch c.args.live.now in
    let talk0 = g.K.Link.talk c.args.link.now in
    let talk1 = g.K.Link.talk c.open_sums.new.link in
    err_same c.from_residual.result c.in_err-opened0.field-0.0
    (λ e. IsReady (g.K.Link.is_true c.args.link.now) talk0 → (end_of e ≡ None) × SentPart talk0 talk1 (level_messages rules level (stage_of live candidates)))
    c.from_residual.ensures
    (λ ready.
    let t = c.in_err-opened0.ensures.partly ready in
    (t.0, part_one rules level candidates live talk0 talk1 t.1))

pub returns-in_err-passed-clause-stops : goal.returns-in_err-passed-clause-stops
returns-in_err-passed-clause-stops g c =
    let rules = rules_of c.args.settings.now in
    let level = c.args.level in
    let candidates = c.args.candidates.now in
    let batch = c.args.batch.now in
    let live = picked batch c.args.live.now in
    let talk0 = g.K.Link.talk c.args.link.now in
    let talk1 = g.K.Link.talk c.open_sums.new.link in
    let talk2 = g.K.Link.talk c.check_reports.new.link in
    let opened : List Sums × List Sums = (c.deref.result.now, c.deref-2.result.now) in
    let first = subst (λ op. Passed talk0 talk1 (GoesOn (opening rules level candidates live) op))
    (sym (ap (λ a. (a, c.deref-2.result.now)) c.deref.ensures.value ∙ ap (λ b. (c.in_ok-opened0.opened0.items, b)) c.deref-2.ensures.value))
    c.in_ok-opened0.ensures.goes in
    err_same c.from_residual-in_err-passed.result c.in_err-passed.field-0.0 (Stops (whole_level rules level candidates live) talk0 talk2) c.from_residual-in_err-passed.ensures
    (level_stops_second rules level candidates live talk0 talk1 talk2 opened c.in_err-passed.field-0.0 first c.in_err-passed.ensures.stops)

pub returns-in_err-passed-clause-partly : goal.returns-in_err-passed-clause-partly
returns-in_err-passed-clause-partly g c =
    let rules = rules_of c.args.settings.now in
    let level = c.args.level in
    let candidates = c.args.candidates.now in
    let batch = c.args.batch.now in
    let live = picked batch c.args.live.now in
    let talk0 = g.K.Link.talk c.args.link.now in
    let talk1 = g.K.Link.talk c.open_sums.new.link in
    let talk2 = g.K.Link.talk c.check_reports.new.link in
    err_same c.from_residual-in_err-passed.result c.in_err-passed.field-0.0
    (λ e. IsReady (g.K.Link.is_true c.args.link.now) talk0 → (end_of e ≡ None) × SentPart talk0 talk2 (level_messages rules level (stage_of live candidates)))
    c.from_residual-in_err-passed.ensures
    (λ ready.
    let t = c.in_ok-opened0.ensures.truly ready in
    let is0 = c.deref.ensures.value ∙ t.0 in
    let is1 = c.deref-2.ensures.value ∙ t.1 in
    let u = c.in_err-passed.ensures.partly t.2 in
    (u.0, part_two rules level candidates live talk0 talk1 talk2 c.deref.result.now c.deref-2.result.now is0 is1 t.3 u.1))

pub returns-in_err-totals-clause-stops : goal.returns-in_err-totals-clause-stops
returns-in_err-totals-clause-stops g c =
    let rules = rules_of c.args.settings.now in
    let level = c.args.level in
    let candidates = c.args.candidates.now in
    let batch = c.args.batch.now in
    let live = picked batch c.args.live.now in
    let talk0 = g.K.Link.talk c.args.link.now in
    let talk1 = g.K.Link.talk c.open_sums.new.link in
    let talk2 = g.K.Link.talk c.check_reports.new.link in
    let opened : List Sums × List Sums = (c.deref.result.now, c.deref-2.result.now) in
    let first = subst (λ op. Passed talk0 talk1 (GoesOn (opening rules level candidates live) op))
    (sym (ap (λ a. (a, c.deref-2.result.now)) c.deref.ensures.value ∙ ap (λ b. (c.in_ok-opened0.opened0.items, b)) c.deref-2.ensures.value))
    c.in_ok-opened0.ensures.goes in
    let talk3 = g.K.Link.talk c.add_totals.new.link in
    let passed = picked batch c.in_ok-passed.passed.items in
    let same = ap (picked batch) c.deref-3.ensures.value in
    err_same c.from_residual-in_err-totals.result c.in_err-totals.field-0.0 (Stops (whole_level rules level candidates live) talk0 talk3) c.from_residual-in_err-totals.ensures
    (level_stops_third rules level candidates live talk0 talk1 talk2 talk3 opened passed c.in_err-totals.field-0.0 first c.in_ok-passed.ensures.goes
    (subst (λ rs. Stops (totalling level candidates rs) talk2 talk3 c.in_err-totals.field-0.0) same c.in_err-totals.ensures.stops))

pub returns-in_err-totals-clause-partly : goal.returns-in_err-totals-clause-partly
returns-in_err-totals-clause-partly g c =
    let rules = rules_of c.args.settings.now in
    let level = c.args.level in
    let candidates = c.args.candidates.now in
    let batch = c.args.batch.now in
    let live = picked batch c.args.live.now in
    let talk0 = g.K.Link.talk c.args.link.now in
    let talk1 = g.K.Link.talk c.open_sums.new.link in
    let talk2 = g.K.Link.talk c.check_reports.new.link in
    let talk3 = g.K.Link.talk c.add_totals.new.link in
    err_same c.from_residual-in_err-totals.result c.in_err-totals.field-0.0
    (λ e. IsReady (g.K.Link.is_true c.args.link.now) talk0 → (end_of e ≡ None) × SentPart talk0 talk3 (level_messages rules level (stage_of live candidates)))
    c.from_residual-in_err-totals.ensures
    (λ ready.
    let t = c.in_ok-opened0.ensures.truly ready in
    let is0 = c.deref.ensures.value ∙ t.0 in
    let is1 = c.deref-2.ensures.value ∙ t.1 in
    let passed = picked batch c.in_ok-passed.passed.items in
    let same = ap (picked batch) c.deref-3.ensures.value in
    let u = c.in_ok-passed.ensures.truly t.2 in
    let is_passed = passed_is rules level candidates live c.deref.result.now c.deref-2.result.now passed is0 is1 u.0 in
    let w = c.in_err-totals.ensures.partly u.1 in (
      w.0,
      part_three rules level candidates live talk0 talk1 talk2 talk3 c.deref.result.now c.deref-2.result.now passed is0 is1 is_passed t.3 u.2
          (subst (λ rs. SentPart talk2 talk3 (both_send 3 level (map (own_total rs Zero) candidates) (map (own_total rs One) candidates))) same w.1),
    ))

pub returns-clause-goes : goal.returns-clause-goes
returns-clause-goes g c =
    let rules = rules_of c.args.settings.now in
    let level = c.args.level in
    let candidates = c.args.candidates.now in
    let batch = c.args.batch.now in
    let live = picked batch c.args.live.now in
    let talk0 = g.K.Link.talk c.args.link.now in
    let talk1 = g.K.Link.talk c.open_sums.new.link in
    let talk2 = g.K.Link.talk c.check_reports.new.link in
    let opened : List Sums × List Sums = (c.deref.result.now, c.deref-2.result.now) in
    let first = subst (λ op. Passed talk0 talk1 (GoesOn (opening rules level candidates live) op))
    (sym (ap (λ a. (a, c.deref-2.result.now)) c.deref.ensures.value ∙ ap (λ b. (c.in_ok-opened0.opened0.items, b)) c.deref-2.ensures.value))
    c.in_ok-opened0.ensures.goes in
    let talk3 = g.K.Link.talk c.add_totals.new.link in
    let passed = picked batch c.in_ok-passed.passed.items in
    let same = ap (picked batch) c.deref-3.ensures.value in
    level_goes rules level candidates live talk0 talk1 talk2 talk3 opened passed c.in_ok-totals.totals.items first c.in_ok-passed.ensures.goes
    (subst (λ rs. Passed talk2 talk3 (GoesOn (totalling level candidates rs) c.in_ok-totals.totals.items)) same c.in_ok-totals.ensures.goes)

pub returns-clause-truly : goal.returns-clause-truly
returns-clause-truly g c = λ ready.
    let rules = rules_of c.args.settings.now in
    let level = c.args.level in
    let candidates = c.args.candidates.now in
    let batch = c.args.batch.now in
    let live = picked batch c.args.live.now in
    let talk0 = g.K.Link.talk c.args.link.now in
    let talk1 = g.K.Link.talk c.open_sums.new.link in
    let talk2 = g.K.Link.talk c.check_reports.new.link in
    let t = c.in_ok-opened0.ensures.truly ready in
    let is0 = c.deref.ensures.value ∙ t.0 in
    let is1 = c.deref-2.ensures.value ∙ t.1 in
    let talk3 = g.K.Link.talk c.add_totals.new.link in
    let passed = picked batch c.in_ok-passed.passed.items in
    let same = ap (picked batch) c.deref-3.ensures.value in
    let u = c.in_ok-passed.ensures.truly t.2 in
    let is_passed = passed_is rules level candidates live c.deref.result.now c.deref-2.result.now passed is0 is1 u.0 in
    let w = c.in_ok-totals.ensures.truly u.1 in (
      is_passed,
      totals_are rules level candidates live passed c.in_ok-totals.totals.items is_passed
          (w.0 ∙ ap (λ rs. paired add (map (own_total rs Zero) candidates) (map (own_total rs One) candidates)) same),
      w.1,
      level_sent rules level candidates live talk0 talk1 talk2 talk3 c.deref.result.now c.deref-2.result.now passed is0 is1 is_passed t.3 u.2
          (subst (λ rs. SentMore talk2 talk3 (both_send 3 level (map (own_total rs Zero) candidates) (map (own_total rs One) candidates))) same w.2),
    )
