use Rattle.std.proofs.Common.{◌≡◌, ◌+◌, ◌*◌, ◌-◌, ◌≤◌, ◌++◌, length, take, vec_len, vec_capacity}
use Rattle.std.specs.List.{flat_map}
use Rattle.share_format.specs.Spelling.{block}
use Rattle.share_format.proofs.record_writing.write_record.Given as goal

abbrev pub invariant-loop-word : goal.invariant-loop-word
invariant-loop-word l = record {
  added : l.into.items ≡ l.fn.into.items ++ (l.share.id ++ (l.share.root ++ (l.share.corr ++ flat_map block (take l.word-index l.share.levels))));
  room : vec_len l.into + 65 * (length l.share.levels - l.word-index) ≤ vec_capacity l.into;
}
