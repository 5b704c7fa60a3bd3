-- What the words ask for: the settings of each command, by what the crate finds in the words behind it.
use Rattle.std.specs.Prelude.{ℕ, ◌-◌, List, Bool, not, ◌&&◌, Option, None, Some, codes}
use Rattle.std.specs.Bool.{if◌then◌else◌}
use Rattle.std.specs.Str.{bytes_eq}
use Rattle.clap.specs.Words.{Row}
use Rattle.definitions.specs.Field.{modulus}
use Rattle.definitions.specs.declared.Side.{Side}
use Rattle.command_words.specs.declared.walk_options.WalkOptions.{WalkOptions}
use Rattle.command_words.specs.Commands.{eval_app, gen_app, run_app, find_app, make_app}
use Rattle.command_words.specs.Reading.{free, needed, settings_of, word_of}
use Rattle.command_words.specs.Values.{side_of, prefix_of, name_of, number_in, seed_of, no_seed}

-- ---- the values of the arguments

abbrev pub width_of : List Row → Option ℕ
width_of rows = needed (number_in 1 32) (word_of (codes "width") rows)

abbrev pub threshold_of : List Row → Option ℕ
threshold_of rows = needed (number_in 1 (modulus - 1)) (word_of (codes "threshold") rows)

abbrev pub tag_of : List Row → Option ℕ
tag_of rows = free (number_in 0 18446744073709551615) 0 (word_of (codes "tag") rows)

-- the seed of all coins, where it may be left out
abbrev pub master_of : List Row → Option (List ℕ)
master_of rows = free seed_of no_seed (word_of (codes "master") rows)

abbrev pub workers_of : List Row → Option ℕ
workers_of rows = free (number_in 1 64) 4 (word_of (codes "workers") rows)

abbrev pub uploaders_of : List Row → Option ℕ
uploaders_of rows = free (number_in 1 64) 4 (word_of (codes "uploaders") rows)

abbrev pub cap_of : List Row → Option ℕ
cap_of rows = free (number_in 2 65536) 4096 (word_of (codes "cap") rows)

abbrev pub cache_of : List Row → Option ℕ
cache_of rows = free (number_in 1 65536) 4096 (word_of (codes "cache") rows)

abbrev pub verify_of : List Row → Option (List ℕ)
verify_of rows = free seed_of no_seed (word_of (codes "verify") rows)

abbrev pub drill_of : List Row → Option ℕ
drill_of rows = free (number_in 0 4294967295) 0 (word_of (codes "drill") rows)

-- ---- eval

-- the value of each report of a side's share file at a prefix
pub record EvalSettings : Type 0 where
  pub side : Side
  pub prefix : List Bool
  pub file : List ℕ

abbrev pub eval_made : Option Side → Option (List Bool) → Option (List ℕ) → Option EvalSettings
eval_made None prefix file = None
eval_made (Some side) None file = None
eval_made (Some side) (Some prefix) None = None
eval_made (Some side) (Some prefix) (Some file) = Some (record { side = side; prefix = prefix; file = file })

abbrev pub eval_found : List Row → Option EvalSettings
eval_found rows = eval_made (needed side_of (word_of (codes "side") rows)) (needed prefix_of (word_of (codes "prefix") rows))
    (needed name_of (word_of (codes "file") rows))

abbrev pub eval_words : List (List ℕ) → Option EvalSettings
eval_words words = settings_of (codes "eval") eval_app eval_found words

-- ---- gen

-- the files that hold the shares of the strings of a file
pub record GenSettings : Type 0 where
  pub width : ℕ
  pub master : List ℕ
  pub tag : ℕ
  -- the name of the strings file
  pub strings : List ℕ
  -- the name of the file for side 0's shares
  pub zero : List ℕ
  -- that for side 1's
  pub one : List ℕ

-- three names that differ pairwise
abbrev pub differ : List ℕ → List ℕ → List ℕ → Bool
differ strings zero one = not (bytes_eq strings zero) && (not (bytes_eq strings one) && not (bytes_eq zero one))

-- the three names of `gen`
abbrev pub names_made : Option (List ℕ) → Option (List ℕ) → Option (List ℕ) → Option (List ℕ × List ℕ × List ℕ)
names_made None zero one = None
names_made (Some strings) None one = None
names_made (Some strings) (Some zero) None = None
names_made (Some strings) (Some zero) (Some one) = if differ strings zero one then Some (strings, zero, one) else None

abbrev pub names_found : List Row → Option (List ℕ × List ℕ × List ℕ)
names_found rows = names_made (needed name_of (word_of (codes "strings") rows)) (needed name_of (word_of (codes "zero") rows))
    (needed name_of (word_of (codes "one") rows))

abbrev pub gen_made : Option ℕ → Option (List ℕ) → Option ℕ → Option (List ℕ × List ℕ × List ℕ) → Option GenSettings
gen_made None master tag names = None
gen_made (Some width) None tag names = None
gen_made (Some width) (Some master) None names = None
gen_made (Some width) (Some master) (Some tag) None = None
gen_made (Some width) (Some master) (Some tag) (Some names) =
    Some (record { width = width; master = master; tag = tag; strings = names.0; zero = names.1; one = names.2 })

abbrev pub gen_found : List Row → Option GenSettings
gen_found rows = gen_made (width_of rows) (needed seed_of (word_of (codes "master") rows)) (tag_of rows) (names_found rows)

abbrev pub gen_words : List (List ℕ) → Option GenSettings
gen_words words = settings_of (codes "gen") gen_app gen_found words

-- ---- the options of a walk

abbrev pub options_made : Option ℕ → Option ℕ → Option ℕ → Option ℕ → Option (List ℕ) → Option ℕ → Option WalkOptions
options_made None uploaders cap cache verify drill = None
options_made (Some workers) None cap cache verify drill = None
options_made (Some workers) (Some uploaders) None cache verify drill = None
options_made (Some workers) (Some uploaders) (Some cap) None verify drill = None
options_made (Some workers) (Some uploaders) (Some cap) (Some cache) None drill = None
options_made (Some workers) (Some uploaders) (Some cap) (Some cache) (Some verify) None = None
options_made (Some workers) (Some uploaders) (Some cap) (Some cache) (Some verify) (Some drill) =
    Some (record { workers = workers; uploaders = uploaders; cap = cap; cache = cache; verify = verify; drill = drill })

unfoldable pub options_found : List Row → Option WalkOptions
options_found rows =
    options_made (workers_of rows) (uploaders_of rows) (cap_of rows) (cache_of rows) (verify_of rows) (drill_of rows)

-- ---- run

-- the strings that are heavy in two share files
pub record RunSettings : Type 0 where
  pub threshold : ℕ
  pub options : WalkOptions
  -- the name of side 0's share file
  pub zero : List ℕ
  -- the name of side 1's, which may be the same
  pub one : List ℕ

abbrev pub run_made : Option ℕ → Option WalkOptions → Option (List ℕ) → Option (List ℕ) → Option RunSettings
run_made None options zero one = None
run_made (Some threshold) None zero one = None
run_made (Some threshold) (Some options) None one = None
run_made (Some threshold) (Some options) (Some zero) None = None
run_made (Some threshold) (Some options) (Some zero) (Some one) =
    Some (record { threshold = threshold; options = options; zero = zero; one = one })

abbrev pub run_found : List Row → Option RunSettings
run_found rows = run_made (threshold_of rows) (options_found rows) (needed name_of (word_of (codes "zero") rows))
    (needed name_of (word_of (codes "one") rows))

abbrev pub run_words : List (List ℕ) → Option RunSettings
run_words words = settings_of (codes "run") run_app run_found words

-- ---- find

-- the strings of a file that are heavy
pub record FindSettings : Type 0 where
  pub width : ℕ
  pub threshold : ℕ
  pub master : List ℕ
  pub tag : ℕ
  pub options : WalkOptions
  -- the name of the strings file
  pub strings : List ℕ

abbrev pub find_made : Option ℕ → Option ℕ → Option (List ℕ) → Option ℕ → Option WalkOptions → Option (List ℕ) → Option FindSettings
find_made None threshold master tag options strings = None
find_made (Some width) None master tag options strings = None
find_made (Some width) (Some threshold) None tag options strings = None
find_made (Some width) (Some threshold) (Some master) None options strings = None
find_made (Some width) (Some threshold) (Some master) (Some tag) None strings = None
find_made (Some width) (Some threshold) (Some master) (Some tag) (Some options) None = None
find_made (Some width) (Some threshold) (Some master) (Some tag) (Some options) (Some strings) =
    Some (record { width = width; threshold = threshold; master = master; tag = tag; options = options; strings = strings })

abbrev pub find_found : List Row → Option FindSettings
find_found rows = find_made (width_of rows) (threshold_of rows) (master_of rows) (tag_of rows) (options_found rows)
    (needed name_of (word_of (codes "strings") rows))

abbrev pub find_words : List (List ℕ) → Option FindSettings
find_words words = settings_of (codes "find") find_app find_found words

-- ---- make

-- the strings of the workload that are heavy
pub record MakeSettings : Type 0 where
  pub reports : ℕ
  pub width : ℕ
  pub threshold : ℕ
  pub master : List ℕ
  pub options : WalkOptions

abbrev pub reports_of : List Row → Option ℕ
reports_of rows = needed (number_in 0 1000000) (word_of (codes "reports") rows)

abbrev pub make_made : Option ℕ → Option ℕ → Option ℕ → Option (List ℕ) → Option WalkOptions → Option MakeSettings
make_made None width threshold master options = None
make_made (Some reports) None threshold master options = None
make_made (Some reports) (Some width) None master options = None
make_made (Some reports) (Some width) (Some threshold) None options = None
make_made (Some reports) (Some width) (Some threshold) (Some master) None = None
make_made (Some reports) (Some width) (Some threshold) (Some master) (Some options) =
    Some (record { reports = reports; width = width; threshold = threshold; master = master; options = options })

abbrev pub make_found : List Row → Option MakeSettings
make_found rows = make_made (reports_of rows) (width_of rows) (threshold_of rows) (master_of rows) (options_found rows)

abbrev pub make_words : List (List ℕ) → Option MakeSettings
make_words words = settings_of (codes "make") make_app make_found words
