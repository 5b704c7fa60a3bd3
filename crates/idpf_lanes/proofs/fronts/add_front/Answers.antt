use Rattle.std.proofs.Common.{rules, ◌≡◌, ◌-◌, ◌∙◌, [], refl, sym, arith, slice_index_or}
use Rattle.std.proofs.lemmas.Grind.{get_or-set_at}
use Rattle.std.proofs.lemmas.List.{get_or_default, get_or-set_other}
use Rattle.prefix_bits.specs.Orders.{bits_decide}
use Rattle.idpf_lanes.proofs.fronts.add_front.Goals as goal
use Rattle.idpf_lanes.proofs.fronts.add_front.Goals.{else-made-gt0-via-then-made-gt0+else-eq, else-made-gt0-via-else-made-gt0}

pub returns-then-eq-clause-own : goal.returns-then-eq-clause-own
returns-then-eq-clause-own c =
    let same : c.index-fronts-made.result ≡ c.args.front = (bits_decide c.index-fronts-made.result c.args.front).0 (search rules) in
    get_or_default c.args.fronts.now (c.args.made - 1) [] c.index-fronts-made.result (omega arith) ∙ sym c.index-fronts-made.is ∙ same

pub returns-clause-apart : goal.returns-clause-apart
returns-clause-apart c = λ more some equal.
    let before : slice_index_or c.args.fronts.now (c.args.made - 1) [] ≡ c.args.front =
    sym (get_or-set_other c.args.fronts.now c.args.made (c.args.made - 1) c.args.front [] (omega (arith, some)))
    ∙ equal ∙ get_or-set_at c.args.fronts.now c.args.made c.args.made c.args.front [] refl (omega (arith, c.requires)) in
    elim c.else-made-gt0.branch [
      | else-made-gt0-via-then-made-gt0+else-eq w ↦
          let same : w.index-fronts-made.result ≡ c.args.front =
          w.index-fronts-made.is ∙ get_or_default c.args.fronts.now (c.args.made - 1) w.index-fronts-made.result [] (omega arith) ∙ before in
          let decided = (bits_decide w.index-fronts-made.result c.args.front).1 same in
          search (rules, decided)
      | else-made-gt0-via-else-made-gt0 w ↦ absurd (omega (arith, some, w.if-made-gt0))
    ]
