use Rattle.std.proofs.Common.{rules, ◌≡◌, ◌∙◌, Bool, List, [], arith, subst, slice_index_or}
use Rattle.std.specs.Prelude.{IfSome}
use Rattle.std.proofs.lemmas.List.{get_or_default}
use Rattle.kept_nodes.specs.Kept.{share_at, node_at}
use Rattle.kept_nodes.proofs.Finding.{found_put}
use Rattle.kept_nodes.proofs.part.KeptPart.put_kept.Goals as goal

pub loop-k-preserved : goal.loop-k-preserved
loop-k-preserved c =
    let kept = c.args.self.now in
    let k = c.loop-k.k in
    let prefix = c.index-prefixes-k.result in
    let put = c.found_or_kept-node.result.0 in
    let there : prefix ≡ slice_index_or c.args.prefixes.now k [] = c.index-prefixes-k.is ∙ get_or_default c.args.prefixes.now k prefix [] (omega arith) in
    record {
      same = search rules;
      found =
          found_put (share_at kept.shares c.args.report) kept.side c.args.prefixes.now c.loop-k.found k put (omega arith)
          (subst (λ (q : List Bool). IfSome put (λ n. n ≡ node_at kept.shares kept.side c.args.report q)) there c.found_or_kept-node.ensures)
          c.loop-k.invariant.found;
    }
