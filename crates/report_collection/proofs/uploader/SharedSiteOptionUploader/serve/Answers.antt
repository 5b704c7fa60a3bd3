use Rattle.std.proofs.Common.{rules, refl}
use Rattle.report_collection.proofs.uploader.SharedSiteOptionUploader.serve.Goals as goal

pub returns : goal.returns
returns g c = record {
  before = c.in-Some.uploader;
  after = c.upload_all.result;
  was = search rules;
  is = refl;
  ours = c.upload_all.ensures.lock;
  uploads = c.upload_all.ensures.uploads;
}
