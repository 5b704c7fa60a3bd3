use Rattle.std.proofs.Common.{◌≡◌, arith, ap, ◌∙◌, Bool}
use Rattle.tile_claims.specs.Drawers.{DrawerSeen}
use Rattle.tile_claims.specs.Lists.{large}
use Rattle.tile_claims.specs.Views.{drawer_list, first_numbers}
use Rattle.tile_claims.proofs.Keeping.{draws}
use Rattle.tile_claims.proofs.drawers.Drawer.draw.Goals as goal

pub fetch_add-number-requires : goal.fetch_add-number-requires
fetch_add-number-requires c =
    let seat = c.self.inside.seat in
    let numbers = first_numbers seat.me.0.lists in
    let mine = ap (λ (d : DrawerSeen). d.claims) c.self.view_is ∙ c.requires.mine.0 in
    let more : ◌≡◌ {A = Bool} c.self.inside.had_none Bool.false = ap (λ (d : DrawerSeen). d.had_none) c.self.view_is ∙ c.requires.more in
    let small : large numbers ≡ 0 = omega (arith, rw more at c.self.invariant.1) in
    (mine, c.requires.mine.1, rw c.self.invariant.0 (draws c.args.word.now.key seat.id c.args.word.now.table_id.slots seat.me.0.made (drawer_list c.self.inside.number numbers) small))
