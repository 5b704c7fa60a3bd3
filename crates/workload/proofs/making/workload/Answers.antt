use Rattle.std.proofs.Common.{◌≡◌, ◌≤◌, ◌*◌, List, Bool, ap, sym, subst, length, ◌∙◌, arith}
use Rattle.std.specs.List.{All}
use Rattle.text_strings.specs.Lines.{share_bytes, most_share_bytes, most_strings}
use Rattle.workload.proofs.WorkloadSteps.{strings_whole, length-strings, strings_few}
use Rattle.workload.proofs.making.workload.Goals as goal

pub returns-clause-whole : goal.returns-clause-whole
returns-clause-whole c =
    subst (λ (ss : List (List Bool)). All (λ s. length s ≡ 8 * c.args.width) ss) (sym c.in_ok-first_strings.ensures.value)
    (strings_whole c.args.width c.args.reports c.requires.some)

pub returns-clause-count : goal.returns-clause-count
returns-clause-count c = ap length c.in_ok-first_strings.ensures.value ∙ length-strings c.args.width c.args.reports

pub returns-clause-few : goal.returns-clause-few
returns-clause-few c =
    let room : share_bytes c.args.width c.args.reports ≤ most_share_bytes =
    omega (arith, c.share_bytes.ensures, c.if-share_bytes-gt-MOST_SHARE_BYTES.false) in
    let few : c.args.reports ≤ most_strings = strings_few c.args.width c.args.reports c.requires.some room in
    subst (λ n. n ≤ most_strings) (sym (ap length c.in_ok-first_strings.ensures.value ∙ length-strings c.args.width c.args.reports)) few
