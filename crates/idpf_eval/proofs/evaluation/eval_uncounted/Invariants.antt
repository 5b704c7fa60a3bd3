use Rattle.idpf_eval.proofs.evaluation.eval_uncounted.Given as goal

abbrev pub ghosts-eval_on : goal.ghosts-eval_on
ghosts-eval_on a = record { name = a.blank.name; parts = a.blank.parts }
