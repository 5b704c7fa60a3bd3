use Rattle.std.proofs.Common.{◌∙◌, ap, sym, Bool, List}
use Rattle.kept_nodes.specs.Kept.{nodes_of}
use Rattle.kept_nodes.proofs.RowPlaces.{no_prefixes}
use Rattle.kept_nodes.proofs.part.KeptPart.without_prefixes.Goals as goal

pub invariant_of-result : goal.invariant_of-result
invariant_of-result c =
    let places = c.in_ok-every.field-0.items in
    c.new-2.ensures.items
    ∙ sym (no_prefixes c.args.shares.now c.args.side places)
    ∙ ap (λ (qs : List (List Bool)). nodes_of c.args.shares.now c.args.side qs places) (sym c.new.ensures.items)
