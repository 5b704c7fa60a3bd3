-- The settings that decide a walk's answer.
use Rattle.walk_definitions.specs.Walk.{Settings}
use Rattle.pair_run.specs.declared.settings.WalkSettings.{WalkSettings}

-- what the definitions of the walk are told
abbrev pub rules_of : WalkSettings → Settings
rules_of settings = record { bits = settings.bits; threshold = settings.threshold; cap = settings.cap; verify = settings.verify }
