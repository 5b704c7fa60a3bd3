-- Each command of the table is simple, and no argument of it has a rule on another.
use Rattle.std.proofs.Common.{◌≡◌, true, refl}
use Rattle.clap.specs.Words.{is_simple_and_free}
use Rattle.clap.proofs.OnLiterals.{clap_on_literals}
use Rattle.command_words.specs.Commands.{eval_app, gen_app, run_app, find_app, make_app}

pub eval_simple : is_simple_and_free eval_app ≡ true
unfolding clap_on_literals eval_app
eval_simple = refl

pub gen_simple : is_simple_and_free gen_app ≡ true
unfolding clap_on_literals gen_app
gen_simple = refl

pub run_simple : is_simple_and_free run_app ≡ true
unfolding clap_on_literals run_app
run_simple = refl

pub find_simple : is_simple_and_free find_app ≡ true
unfolding clap_on_literals find_app
find_simple = refl

pub make_simple : is_simple_and_free make_app ≡ true
unfolding clap_on_literals make_app
make_simple = refl
