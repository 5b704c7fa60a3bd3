use Rattle.std.proofs.Common.{rules, ◌≡◌, [], ◌++◌, sym, ◌∙◌, ap, subst}
use Rattle.report_intake.specs.History.{IsHistory}
use Rattle.report_intake.proofs.intake.Intake.close.Goals as goal

pub returns : goal.returns
returns c =
    let none : c.loop-pass.passes.items ≡ [] = search rules in
    let handed : c.loop-pass.ending.handed ≡ c.args.passes.items = ap (λ l. l ++ c.loop-pass.ending.handed) (sym none) ∙ c.loop-pass.invariant.2 in
    let log : c.end.result ≡ c.state.inside.0 = search rules in
    record {
      history = subst (λ l. IsHistory c.args.passes.items l) log (subst (λ l. IsHistory l c.end.result) handed (record {
        legal = rw log c.entries.ensures.legal;
        seen = c.end.ensures.seen;
        own = c.end.ensures.own;
        numbers = c.end.ensures.numbers;
        entries = c.end.ensures.entries;
      }));
    }
