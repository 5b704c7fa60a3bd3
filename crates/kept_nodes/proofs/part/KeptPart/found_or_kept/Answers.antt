use Rattle.std.proofs.Common.{◌∙◌, ap₂}
use Rattle.kept_nodes.specs.Kept.{node_at}
use Rattle.kept_nodes.proofs.part.KeptPart.found_or_kept.Goals as goal

pub returns-in-Some : goal.returns-in-Some
returns-in-Some c = c.at.ensures ∙ ap₂ (node_at c.args.self.now.shares c.args.self.now.side) c.requires.there c.in-Some.ensures.there
