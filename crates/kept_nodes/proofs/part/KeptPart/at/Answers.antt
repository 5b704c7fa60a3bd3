use Rattle.std.proofs.Common.{rules, ◌≡◌, ◌∙◌, length}
use Rattle.kept_nodes.proofs.RowPlaces.{kept_within, kept_at}
use Rattle.kept_nodes.proofs.part.KeptPart.at.Goals as goal

pub node_in-requires : goal.node_in-requires
node_in-requires c =
    let k = c.self.inside in
    let width : c.len.result ≡ length k.prefixes.items = search rules in
    kept_within c.args.self.now k.shares.now k.side k.places.items k.prefixes.items c.as_slice.result.now c.args.row c.args.place c.len.result width
    c.self.view_is (c.as_slice.ensures.value ∙ c.self.invariant) c.requires.row c.requires.place

pub returns : goal.returns
returns c =
    let k = c.self.inside in
    let width : c.len.result ≡ length k.prefixes.items = search rules in
    c.node_in.ensures
    ∙ kept_at c.args.self.now k.shares.now k.side k.places.items k.prefixes.items c.as_slice.result.now c.args.row c.args.place c.len.result width
    c.self.view_is (c.as_slice.ensures.value ∙ c.self.invariant) c.requires.row c.requires.place
