use Rattle.std.proofs.Common.{map, ap, ◌∙◌}
use Rattle.node_growth.proofs.Filling.{map_of_map}
use Rattle.definitions.specs.Words.{convert}
use Rattle.idpf_gen.specs.LevelWords.{kept_seed0, kept_seed1}
use Rattle.generation_lanes.specs.Growing.{Growing, bit_next}
use Rattle.generation_lanes.proofs.level.level_over.Goals as goal

pub turn_all-requires-clause-to0 : goal.turn_all-requires-clause-to0
turn_all-requires-clause-to0 c =
    c.convert_many.ensures.value ∙ ap (map convert) c.correct.ensures.zero
    ∙ map_of_map convert (λ (p : Growing). kept_seed0 p.path (bit_next p)) c.args.lines.now

pub turn_all-requires-clause-to1 : goal.turn_all-requires-clause-to1
turn_all-requires-clause-to1 c =
    c.convert_many-2.ensures.value ∙ ap (map convert) c.correct.ensures.one
    ∙ map_of_map convert (λ (p : Growing). kept_seed1 p.path (bit_next p)) c.args.lines.now
