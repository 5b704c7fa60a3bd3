use Rattle.std.proofs.Common.{rules, refl}
use Rattle.report_collection.proofs.Seats.{one_uploaded, share_entered}
use Rattle.report_collection.proofs.uploader.upload_all.Goals as goal

pub loop-share-preserved : goal.loop-share-preserved
loop-share-preserved g c =
    let done = c.in-Ok.ensures.entered in (
      search rules,
      one_uploaded _ _ _ _ _ _ _ c.loop-share.invariant.1 c.in-Some.ensures.items (share_entered _ _ _ _ done.own refl),
    )
