use Rattle.std.proofs.Common.{◌≡◌, ◌<◌, ◌≤◌, length, vec_len, vec_capacity}
use Rattle.std.specs.List.{All}
use Rattle.kept_nodes.specs.Kept.{PartSeen}
use Rattle.kept_nodes.specs.Parts.{AreParts}
use Rattle.kept_nodes.proofs.making.parts_without_prefixes.Given as goal

abbrev pub invariant-loop-number : goal.invariant-loop-number
invariant-loop-number l = record {
  count : vec_len l.parts ≡ l.number;
  room : l.count ≤ vec_capacity l.parts;
  parts : AreParts l.shares l.side l.parts.items;
  reports : All (λ (part : PartSeen). All (λ i. i < length l.shares) part.places) l.parts.items;
}
