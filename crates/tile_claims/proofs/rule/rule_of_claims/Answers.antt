use Rattle.std.proofs.Common.{◌+◌}
use Rattle.tile_claims.proofs.Keeping.{drawn_keeps, split_keeps, join_keeps}
use Rattle.tile_claims.proofs.Ruling.{in_words}
use Rattle.tile_claims.proofs.rule.rule_of_claims.Goals as goal

pub returns-clause-claim : goal.returns-clause-claim
returns-clause-claim c drawers n views id made l r at small = (r.0, drawn_keeps drawers r.0 n views r.1 id made l at small)

pub returns-clause-split : goal.returns-clause-split
returns-clause-split c drawers n views id v r at counting room = (r.0 + 1, split_keeps drawers r.0 n views r.1 id v at counting room)

pub returns-clause-join : goal.returns-clause-join
returns-clause-join c drawers n views id other v w r at apart there = (r.0, join_keeps drawers r.0 n views r.1 id other v w at apart there)

pub returns-clause-rule : goal.returns-clause-rule
returns-clause-rule c drawers n views r = in_words drawers r.0 n views r.1
