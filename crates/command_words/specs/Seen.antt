-- The settings that a reading gives, with names by their bytes.
use Rattle.command_words.specs.declared.eval_words.EvalAsked.{EvalAsked}
use Rattle.command_words.specs.declared.gen_words.GenAsked.{GenAsked}
use Rattle.command_words.specs.declared.run_words.RunAsked.{RunAsked}
use Rattle.command_words.specs.declared.find_words.FindAsked.{FindAsked}
use Rattle.command_words.specs.declared.make_words.MakeAsked.{MakeAsked}
use Rattle.command_words.specs.Settings.{EvalSettings, GenSettings, RunSettings, FindSettings, MakeSettings}

abbrev pub eval_seen : EvalAsked → EvalSettings
eval_seen a = record { side = a.side; prefix = a.prefix; file = a.file.now }

abbrev pub gen_seen : GenAsked → GenSettings
gen_seen a =
    record { width = a.width; master = a.master; tag = a.tag; strings = a.strings.now; zero = a.zero.now; one = a.one.now }

abbrev pub run_seen : RunAsked → RunSettings
run_seen a = record { threshold = a.threshold; options = a.options; zero = a.zero.now; one = a.one.now }

abbrev pub find_seen : FindAsked → FindSettings
find_seen a =
    record { width = a.width; threshold = a.threshold; master = a.master; tag = a.tag; options = a.options; strings = a.strings.now }

abbrev pub make_seen : MakeAsked → MakeSettings
make_seen a = record { reports = a.reports; width = a.width; threshold = a.threshold; master = a.master; options = a.options }
