use Rattle.command_words.proofs.Simple.{eval_simple, gen_simple, run_simple, find_simple, make_simple}
use Rattle.command_words.proofs.laws.commands_are_simple.Goals as goal

pub returns : goal.returns
returns c =
    record { simple = record { eval = eval_simple; gen = gen_simple; run = run_simple; find = find_simple; make = make_simple } }
