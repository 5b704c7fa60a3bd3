use Rattle.std.proofs.Common.{rules, ◌≡◌, ◌∙◌, [], sym, arith, slice_index_or}
use Rattle.std.proofs.lemmas.List.{get_or_default}
use Rattle.prefix_bits.specs.Orders.{bits_decide}
use Rattle.kept_nodes.proofs.Finding.{tied_are_same}
use Rattle.kept_nodes.proofs.part.place_among.Goals as goal

pub returns-then-eq-clause-there : goal.returns-then-eq-clause-there
returns-then-eq-clause-there c =
    let same : c.index-prefixes-guess.result ≡ c.args.prefix.now = (bits_decide c.index-prefixes-guess.result c.args.prefix.now).0 (search rules) in
    get_or_default c.args.prefixes.now c.args.guess [] c.index-prefixes-guess.result (omega arith) ∙ sym c.index-prefixes-guess.is ∙ same

pub returns-in-Ok-clause-there : goal.returns-in-Ok-clause-there
returns-in-Ok-clause-there c = tied_are_same (slice_index_or c.args.prefixes.now c.in-Ok.place []) c.args.prefix.now (c.in-Ok.ensures.ok [])
