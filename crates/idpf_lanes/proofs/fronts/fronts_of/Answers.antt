use Rattle.std.proofs.Common.{rules, ◌≡◌, ◌-◌, ◌∙◌, [], length, take, ap, arith, slice_index_or}
use Rattle.std.proofs.lemmas.List.{get_or_default, length-take-le}
use Rattle.idpf_lanes.proofs.Parting.{parted_more, fronts_parted}
use Rattle.idpf_lanes.proofs.fronts.fronts_of.Goals as goal

pub loop-k-preserved : goal.loop-k-preserved
loop-k-preserved c =
    let prefix = c.index-prefixes-k.result in
    let there : prefix ≡ slice_index_or c.args.prefixes.now c.loop-k.k [] =
    c.index-prefixes-k.is ∙ get_or_default c.args.prefixes.now c.loop-k.k prefix [] (omega arith) in
    let long : length prefix ≡ c.args.level = ap length there ∙ c.requires.bits c.loop-k.k (omega arith) in
    let depth = c.args.level - 1 in
    let own : slice_index_or c.add_front-made.new.fronts (c.add_front-made.result - 1) [] ≡ take depth prefix =
    c.add_front-made.ensures.own ∙ c.parent.ensures ∙ ap (λ n. take (n - 1) prefix) long in
    record {
      same = search rules;
      places = search rules;
      parted =
          parted_more depth c.args.prefixes.now c.loop-k.fronts c.add_front-made.new.fronts c.loop-k.places c.loop-k.made c.add_front-made.result c.loop-k.k
          (c.add_front-made.result - 1) c.loop-k.invariant.parted (omega arith) c.add_front-made.ensures.low c.add_front-made.ensures.high (omega arith)
          c.add_front-made.ensures.kept (own ∙ ap (take depth) there)
          (ap length own ∙ length-take-le depth prefix (omega (arith, long))) c.add_front-made.ensures.apart;
    }

pub returns-clause-fronts : goal.returns-clause-fronts
returns-clause-fronts c =
    fronts_parted _ c.args.prefixes.now c.loop-k.fronts c.loop-k.places c.loop-k.made (search rules) (omega (arith, c.loop-k.invariant.parted.few))
