use Rattle.report_collection.proofs.Lists.{zip_of}
use Rattle.report_collection.proofs.uploader.all_upload.Goals as goal

pub returns : goal.returns
returns g c = record { done = zip_of _ _ _ c.serve_all.ensures.count c.serve_all.ensures.done }
