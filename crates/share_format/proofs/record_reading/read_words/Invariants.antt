use Rattle.std.proofs.Common.{◌≡◌, None, vec_len}
use Rattle.share_format.specs.ShareFile.{words_in, first_failing, is_level}
use Rattle.share_format.proofs.record_reading.read_words.Given as goal

abbrev pub invariant-loop-place : goal.invariant-loop-place
invariant-loop-place l = record {
  words : l.words.items ≡ words_in l.bytes l.place;
  count : vec_len l.words ≡ l.place;
  passed : first_failing (is_level l.bytes) l.place ≡ None;
}
