use Rattle.std.proofs.Common.{◌≡◌, false, refl, sym, ap, subst, ◌∙◌, arith}
use Rattle.share_format.specs.Readings.{Reading}
use Rattle.report_collection.specs.Collections.{shares_on}
use Rattle.file_run.specs.Readings.{Gathered, IsRead}
use Rattle.file_run.proofs.CollectSteps.{gathered_first, is_read}
use Rattle.file_run.proofs.side_file.collect_file.Goals as goal

pub loop-malformed-init : goal.loop-malformed-init
loop-malformed-init g c =
    let opened = c.in_ok-reader.ensures in
    record {
      fits = opened.fits;
      sound = opened.sound;
      name = ap (λ (r : Reading). r.name) opened.starts;
      side = ap (λ (r : Reading). r.side) opened.starts;
      so_far = gathered_first (g.H.Shelf.files c.open.new.shelf) c.in_ok-reader.reader c.new-malformed.result (shares_on c.args.side c.args.collect.now)
          (ap (λ (r : Reading). r.next) opened.starts) c.new-malformed.ensures.empty c.requires.none;
      other = refl;
      kept = refl;
      count = omega arith;
    }

pub returns-clause-read : goal.returns-clause-read
returns-clause-read g c =
    let before = c.loop-malformed in
    let step = c.in_ok-collect_next.ensures in
    let told = g.H.Shelf.files c.collect_next.new.shelf in
    let reader = c.collect_next.new.reader in
    let collected = shares_on c.args.side c.collect_next.new.collect in
    let last = subst (λ more. Gathered (g.H.Shelf.files before.shelf) reader more c.collect_next.new.malformed collected) c.if-branch.false step.so_far in
    subst (λ wide. IsRead (g.H.Shelf.files c.args.shelf.now) c.args.side c.args.name.now wide c.collect_next.new.malformed collected) (sym c.width.ensures.width)
    (is_read (g.H.Shelf.files c.args.shelf.now) told reader c.args.side c.args.name.now c.collect_next.new.malformed collected
    (step.kept ∙ before.invariant.kept ∙ c.in_ok-reader.ensures.kept) (step.later.side ∙ before.invariant.side) (step.later.name ∙ before.invariant.name)
    step.fits step.sound (subst (λ files. Gathered files reader false c.collect_next.new.malformed collected) (sym step.kept) last))
