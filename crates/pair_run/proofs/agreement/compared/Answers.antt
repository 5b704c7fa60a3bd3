use Rattle.std.proofs.Common.{◌≡◌, ◌<◌, ◌∙◌, ap, sym, subst, length, get_or, take, refl}
use Rattle.std.proofs.lemmas.List.{get_or_read}
use Rattle.pair_run.specs.AddedKinds.{added_number}
use Rattle.pair_run.proofs.Views.{view_is}
use Rattle.pair_run.proofs.agreement.compared.Goals as goal

pub returns-in-Some-clause-view : goal.returns-in-Some-clause-view
returns-in-Some-clause-view c =
    let place = c.in-Some.place in
    let xs = c.args.sums0.items in
    let ys = c.args.sums1.now in
    let same = c.deref.ensures.value in
    let within : place < length xs = subst (λ zs. place < length zs) same c.in-Some.ensures.within in
    let before : take place xs ≡ take place ys = sym (ap (take place) same) ∙ c.in-Some.ensures.before in
    let left = c.number-in-Some.ensures.value ∙ get_or_read xs place c.index.result.now within c.index.ensures 0 in
    let right = c.number-in-Some-2.ensures.value ∙ get_or_read ys place c.index-sums1-place.result (subst (λ n. place < n) c.requires.same within) c.index-sums1-place.is 0 in
    view_is (added_number c.args.kind) c.args.level place c.args.level c.number.result place c.number-in-Some.result c.number-in-Some-2.result xs ys
    within c.requires.same before (λ e. c.in-Some.ensures.differ (ap (λ zs. get_or zs place 0) same ∙ e)) refl c.number.ensures.number refl left right
