use Rattle.std.proofs.Common.{rules, ◌≡◌}
use Rattle.definitions.specs.Evaluation.{Share}
use Rattle.definitions.specs.Generation.{share0, share1}
use Rattle.idpf_gen.proofs.PairLaws.{point_of_pair, honest_pair}
use Rattle.idpf_gen.proofs.pairs.pair_of.Goals as goal

pub returns-clause-point : goal.returns-clause-point
returns-clause-point c =
    let coins = c.coins.inside in
    let s0 : Share = record { id = c.args.id; root = coins.root0; corr = coins.corr0; levels = c.from_vec.result } in
    let s1 : Share = record { id = c.args.id; root = coins.root1; corr = coins.corr1; levels = c.from_vec-2.result } in
    let is0 : s0 ≡ share0 c.args.id c.args.alpha.now c.args.coins.now = search rules in
    let is1 : s1 ≡ share1 c.args.id c.args.alpha.now c.args.coins.now = search rules in
    point_of_pair c.args.id c.args.alpha.now c.args.coins.now s0 s1 c.requires.levels is0 is1

pub returns-clause-honest : goal.returns-clause-honest
returns-clause-honest c =
    let coins = c.coins.inside in
    let s0 : Share = record { id = c.args.id; root = coins.root0; corr = coins.corr0; levels = c.from_vec.result } in
    let s1 : Share = record { id = c.args.id; root = coins.root1; corr = coins.corr1; levels = c.from_vec-2.result } in
    let is0 : s0 ≡ share0 c.args.id c.args.alpha.now c.args.coins.now = search rules in
    let is1 : s1 ≡ share1 c.args.id c.args.alpha.now c.args.coins.now = search rules in
    honest_pair c.args.id c.args.alpha.now c.args.coins.now s0 s1 c.requires.levels is0 is1
