use Rattle.std.proofs.Common.{◌∙◌}
use Rattle.clap.specs.Words.{found_of}
use Rattle.clap.proofs.WalkLemmas.{first_value-rows}
use Rattle.command_words.specs.Reading.{word_of}
use Rattle.command_words.proofs.reading.word_of.Goals as goal

pub returns : goal.returns
unfolding word_of
returns c = record { value = c.get_str.ensures ∙ first_value-rows (found_of c.args.matches.now) c.args.name.now }
