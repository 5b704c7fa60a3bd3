use Rattle.std.proofs.Common.{◌≡◌, slice_set, sym, subst, ap, ◌∙◌, arith}
use Rattle.generation_lanes.specs.Growing.{Growing, Turn, coins_for, turn_of, IsReady, IsGrown}
use Rattle.generation_lanes.proofs.PairSteps.{grown_more}
use Rattle.generation_lanes.proofs.growing_pair.GrowingPair.take.Goals as goal

pub invariant_of-self : goal.invariant_of-self
invariant_of-self c =
    let i = c.self.inside in
    let p : Growing = record { master = i.master; tag = i.tag; line = i.line; string = i.string; done = i.done; path = i.path } in
    let t : Turn = record { zero = c.turn.inside.zero; one = c.turn.inside.one; path = c.turn.inside.path } in
    let made : turn_of p ≡ t = ap turn_of c.self.view_is ∙ sym (c.turn.view_is ∙ c.requires.turn) in
    let ready : IsReady c.args.level p = subst (IsReady c.args.level) (sym c.self.view_is) c.requires.ready in
    let place : i.done ≡ c.from-place.result = omega arith in
    let grown = grown_more p i.zero.items i.one.items c.args.level ready c.self.invariant.1 in
    let taken = subst (λ (u : Turn). IsGrown (coins_for p) p.string c.args.level u.path (slice_set i.zero.items i.done u.zero) (slice_set i.one.items i.done u.one)) made grown in (
      c.self.invariant.0,
      subst (λ n. IsGrown (coins_for p) p.string c.args.level t.path (slice_set i.zero.items n t.zero) (slice_set i.one.items n t.one)) place taken,
    )
