use Rattle.std.proofs.Common.{Bool, List, true, false, refl, ◌∙◌, ap, subst, arith}
use Rattle.definitions.specs.declared.Side.{Side}
use Rattle.file_eval.specs.ValueLines.{value_lines, refused_lines, given_value, given_refusal}
use Rattle.file_eval.specs.Readers.{Went}
use Rattle.file_eval.proofs.EvalSteps.{values-none, values-more, refusals-none, refusals-more}
use Rattle.file_eval.proofs.TextSteps.{Grows, text_begins, text_goes_on, text_ends}
use Rattle.file_eval.proofs.reading.all_texts.Goals as goal

values : (side : Side) (prefix : List Bool) → Grows (value_lines side prefix) (given_value side prefix)
values side prefix = record { none = values-none side prefix; more = values-more side prefix; end = refl }

refusals : (side : Side) → Grows (refused_lines side) (given_refusal side)
refusals side = record { none = refusals-none side; more = refusals-more side; end = refl }

pub loop-written-init : goal.loop-written-init
loop-written-init g c =
    let told = g.H.Shelf.files c.args.shelf.now in
    let side = c.args.side in let prefix = c.args.prefix.now in
    record {
      fits = c.requires.fits;
      kept = refl;
      later = omega arith;
      name = refl;
      width = refl;
      out = text_begins (value_lines side prefix) (given_value side prefix) (values side prefix) told c.args.reader.now _ c.new.ensures.items c.requires.first;
      err = text_begins (refused_lines side) (given_refusal side) (refusals side) told c.args.reader.now _ c.new-2.ensures.items c.requires.first;
    }

pub loop-written-preserved : goal.loop-written-preserved
loop-written-preserved g c =
    let before = c.loop-written in
    let step = c.in_ok-add_next.ensures in
    let side = c.args.side in let prefix = c.args.prefix.now in
    let told = g.H.Shelf.files before.shelf in
    let went : Went true before.reader c.add_next.new.reader = subst (λ b. Went b before.reader c.add_next.new.reader) c.if-branch.true step.more in
    record {
      fits = step.fits;
      kept = step.kept ∙ before.invariant.kept;
      later = omega (arith, before.invariant.later, step.cause.later);
      name = ap (λ r. r.name) went.1 ∙ before.invariant.name;
      width = ap (λ r. r.width) went.1 ∙ before.invariant.width;
      out = text_goes_on (value_lines side prefix) (given_value side prefix) (values side prefix) told _ before.reader c.add_next.new.reader _ _
          step.kept went.1 went.0 before.invariant.fits before.invariant.out step.out;
      err = text_goes_on (refused_lines side) (given_refusal side) (refusals side) told _ before.reader c.add_next.new.reader _ _
          step.kept went.1 went.0 before.invariant.fits before.invariant.err step.err;
    }

pub returns-clause-out : goal.returns-clause-out
returns-clause-out g c =
    let before = c.loop-written in
    let step = c.in_ok-add_next.ensures in
    let went : Went false before.reader c.add_next.new.reader = subst (λ b. Went b before.reader c.add_next.new.reader) c.if-branch.false step.more in
    text_ends (value_lines c.args.side c.args.prefix.now) (given_value c.args.side c.args.prefix.now) (values c.args.side c.args.prefix.now)
    _ (g.H.Shelf.files before.shelf) c.args.reader.now before.reader _ _ before.invariant.kept before.invariant.name before.invariant.width went.0
    before.invariant.fits before.invariant.out step.out

pub returns-clause-err : goal.returns-clause-err
returns-clause-err g c =
    let before = c.loop-written in
    let step = c.in_ok-add_next.ensures in
    let went : Went false before.reader c.add_next.new.reader = subst (λ b. Went b before.reader c.add_next.new.reader) c.if-branch.false step.more in
    text_ends (refused_lines c.args.side) (given_refusal c.args.side) (refusals c.args.side)
    _ (g.H.Shelf.files before.shelf) c.args.reader.now before.reader _ _ before.invariant.kept before.invariant.name before.invariant.width went.0
    before.invariant.fits before.invariant.err step.err
