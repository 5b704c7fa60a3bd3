use Rattle.std.proofs.Common.{sym, ◌∙◌, ap, ◌++◌, ◌∷◌, [], take, arith}
use Rattle.definitions.specs.Field.{add}
use Rattle.walk_definitions.specs.Heard.{paired}
use Rattle.interleaving_core.proofs.Passing.{paired-more}
use Rattle.interleaving_core.proofs.carrying.added_totals.Goals as goal

pub loop-k-preserved : goal.loop-k-preserved
loop-k-preserved c =
    c.in_ok-push.ensures.items
    ∙ ap (λ l. l ++ c.add.result ∷ []) c.loop-k.invariant
    ∙ ap (λ n. paired add (take c.loop-k.k c.args.zero.now) (take c.loop-k.k c.args.one.now) ++ n ∷ []) c.add.ensures.value
    ∙ sym (paired-more add c.loop-k.k c.args.zero.now c.args.one.now c.index-zero-k.result c.index-one-k.result (omega (arith, c.loop-k-test.true)) (sym c.requires.same)
    c.index-zero-k.is c.index-one-k.is)
