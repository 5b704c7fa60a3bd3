use Rattle.std.proofs.Common.{rules, ◌≡◌, ◌≤◌, ◌-◌, length, take, drop, subst, arith, ◌∙◌}
use Rattle.shelf_io.specs.Files.{IfThere}
use Rattle.shelf_io.proofs.ReadSteps.{more_there}
use Rattle.share_format.specs.Pieces.{IsHeld}
use Rattle.share_format.proofs.gathering.gather.Goals as goal

pub loop-filled-preserved : goal.loop-filled-preserved
loop-filled-preserved g c =
    let told = g.H.Shelf.files c.args.shelf.now in
    let mid = g.H.Shelf.files c.loop-filled.shelf in
    let name = c.args.name.now in
    let part = c.read.new.into in
    let before = c.loop-filled.invariant in
    let step = c.in_ok-n.ensures in
    record {
      within = search rules;
      long = search rules;
      place = omega (arith, step.place, before.place);
      kept = step.kept ∙ before.kept;
      count = omega (arith, before.count, step.cause.later);
      held = subst (λ m. IfThere m name (λ bytes. IsHeld bytes c.read.new.self)) before.kept step.held;
      bytes = more_there told mid name c.loop-filled.filled c.in_ok-n.n (length c.loop-filled.into - c.loop-filled.filled) c.args.from
          c.loop-filled.into part before.kept before.within (search rules) before.bytes
          (subst (λ p. IfThere mid name (λ bytes. (c.in_ok-n.n ≤ length bytes - p) × (take c.in_ok-n.n part ≡ take c.in_ok-n.n (drop p bytes)))) before.place step.bytes);
    }
