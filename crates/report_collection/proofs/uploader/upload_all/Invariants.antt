use Rattle.std.proofs.Common.{◌≡◌, vec_len}
use Rattle.report_collection.specs.Uploads.{HasUploaded}
use Rattle.report_collection.proofs.uploader.upload_all.Given as goal

abbrev pub invariant-loop-share : goal.invariant-loop-share
invariant-loop-share g l =
    (l.pass.lock ≡ l.shared.intake.now.lock)
    × HasUploaded l.fn.uploader.pass.own l.fn.uploader.queue.items l.pass.own l.queue.items

abbrev pub decreases-loop-share : goal.decreases-loop-share
decreases-loop-share g l = vec_len l.queue
