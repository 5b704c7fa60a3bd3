use Rattle.std.proofs.Common.{rules, refl, subst}
use Rattle.std.specs.Prelude.{Some}
use Rattle.std.specs.List.{AllByRecursion}
use Rattle.report_collection.specs.declared.uploader.Uploader.{Uploader}
use Rattle.report_collection.specs.Uploads.{IsOf, Seated}
use Rattle.report_collection.proofs.Lists.{push_of, front_of, last_of}
use Rattle.report_collection.proofs.Seats.{own_down, queue_down}
use Rattle.report_collection.proofs.dealing.sit_down.Goals as goal

pub loop-pass-preserved : goal.loop-pass-preserved
loop-pass-preserved c =
    let inv = c.loop-pass.invariant in
    let pass = c.in-Some.pass in
    let queue = c.in-Some-pop.queue in
    let uploader : Uploader = record { pass = pass; queue = queue } in (
      rw c.push_reserved.ensures.items
          (own_down _ c.loop-pass.passes.items c.pop.new.self.items pass c.loop-pass.seats.items (Some uploader) c.in-Some.ensures.items refl inv.0),
      rw c.push_reserved.ensures.items
          (queue_down _ c.loop-pass.queues.items c.pop-in-Some.new.self.items queue c.loop-pass.seats.items (Some uploader) c.in-Some-pop.ensures.items refl inv.1),
      (λ lock h.
          let two = inv.2 lock h in
          let passes = subst (AllByRecursion (IsOf lock)) c.in-Some.ensures.items two.0 in (
            front_of (IsOf lock) _ _ passes,
            rw c.push_reserved.ensures.items (push_of (Seated lock) _ _ two.1 (record { uploader = uploader; here = refl; ours = last_of (IsOf lock) _ _ passes })),
          )),
      search rules,
      search rules,
      search rules,
      search rules,
      search rules,
    )

pub returns-clause-seated : goal.returns-clause-seated
returns-clause-seated c lock h = (c.loop-pass.invariant.2 lock h).1
