-- Prefixes with their fronts.
use Rattle.std.specs.Prelude.{◌≡◌, ◌-◌, ◌≤◌, length}
use Rattle.idpf_lanes.specs.Stands.{AreLong, AreFronts}
use Rattle.kept_nodes.specs.declared.line.Line.{Line}

-- the prefixes have as many bits as the level's number, at least one, and each has its front
pub record IsLine (l : Line) : Type 0 where
  pub first : 1 ≤ l.level
  pub bits : AreLong l.level l.prefixes.now
  pub parted : AreFronts (l.level - 1) l.prefixes.now l.fronts.now l.places.now
  pub same : length l.places.now ≡ length l.prefixes.now
  pub fewer : length l.fronts.now ≤ length l.prefixes.now
