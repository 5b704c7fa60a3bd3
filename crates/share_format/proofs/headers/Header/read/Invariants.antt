use Rattle.std.proofs.Common.{◌≡◌, ◌≤◌, length, None}
use Rattle.share_format.specs.ShareFile.{first_failing, is_header_byte}
use Rattle.share_format.proofs.headers.Header.read.Given as goal

abbrev pub invariant-loop-at : goal.invariant-loop-at
invariant-loop-at l = record {
  passed : first_failing (is_header_byte l.side l.bytes) l.at ≡ None;
  long : l.at ≤ length l.bytes;
}
