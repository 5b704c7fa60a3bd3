use Rattle.std.proofs.lemmas.List.Elements.{All-from_recursion}
use Rattle.report_collection.proofs.uploader.all_upload_at.Goals as goal

pub all_upload-requires-clause-ready : goal.all_upload-requires-clause-ready
all_upload-requires-clause-ready g c κs within = rw c.as_mut_slice.ensures.value (All-from_recursion _ _ c.requires.ready)
