use Rattle.std.proofs.Common.{◌≡◌, length, sym, subst, ap, ◌∙◌, arith}
use Rattle.definitions.specs.ReportIds.{report_id}
use Rattle.generation_lanes.specs.Growing.{Growing, coins_for, IsWhole, MayShare, zero_made, one_made}
use Rattle.generation_lanes.proofs.PairSteps.{zero_whole, one_whole, zero_is, one_is}
use Rattle.generation_lanes.proofs.growing_pair.GrowingPair.finish.Goals as goal

pub invariant_of-zero : goal.invariant_of-zero
invariant_of-zero c =
    let whole = subst IsWhole (sym c.self.view_is) c.requires in
    subst MayShare (sym (ap length c.from_vec.ensures.same ∙ c.self.invariant.1.zero_long)) whole.bits

pub invariant_of-one : goal.invariant_of-one
invariant_of-one c =
    let whole = subst IsWhole (sym c.self.view_is) c.requires in
    subst MayShare (sym (ap length c.from_vec-2.ensures.same ∙ c.self.invariant.1.one_long)) whole.bits

pub returns-clause-zero : goal.returns-clause-zero
returns-clause-zero c =
    let i = c.self.inside in
    let p : Growing = record { master = i.master; tag = i.tag; line = i.line; string = i.string; done = i.done; path = i.path } in
    let whole = subst IsWhole (sym c.self.view_is) c.requires in
    let line : c.from.result ≡ i.line = omega arith in
    zero_is p _ _ _ _ (c.of-id.ensures ∙ ap (report_id i.tag) line) c.self.invariant.0.zero_root c.self.invariant.0.zero_corr
    (c.from_vec.ensures.same ∙ zero_whole (coins_for p) p.string p.done p.path i.zero.items i.one.items c.self.invariant.1 whole.all)
    ∙ ap zero_made c.self.view_is

pub returns-clause-one : goal.returns-clause-one
returns-clause-one c =
    let i = c.self.inside in
    let p : Growing = record { master = i.master; tag = i.tag; line = i.line; string = i.string; done = i.done; path = i.path } in
    let whole = subst IsWhole (sym c.self.view_is) c.requires in
    let line : c.from.result ≡ i.line = omega arith in
    one_is p _ _ _ _ (c.of-id.ensures ∙ ap (report_id i.tag) line) c.self.invariant.0.one_root c.self.invariant.0.one_corr
    (c.from_vec-2.ensures.same ∙ one_whole (coins_for p) p.string p.done p.path i.zero.items i.one.items c.self.invariant.1 whole.all)
    ∙ ap one_made c.self.view_is
