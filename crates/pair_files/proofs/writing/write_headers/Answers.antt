use Rattle.std.proofs.Common.{[], refl, ◌∙◌}
use Rattle.std.proofs.lemmas.Result.{on_ok_weaker, on_err_weaker}
use Rattle.definitions.specs.declared.Side.TheVariants.{Zero, One}
use Rattle.share_format.specs.Spelling.{header}
use Rattle.pair_files.proofs.BothLaws.{first_is_there, second_is_there, second_written, first_text_written, second_grown, both_hold_fronts}
use Rattle.pair_files.proofs.writing.write_headers.Goals as goal

pub append-requires : goal.append-requires
append-requires g c = record {
  there = first_is_there _ _ c.args.zero_name.now [] c.args.one_name.now [] c.requires.differ
      (second_written _ _ _ c.args.zero_name.now [] c.args.one_name.now [] c.in_ok-begin.ensures.begun c.in_ok-begin-2.ensures.begun);
}

pub append-requires-2 : goal.append-requires-2
append-requires-2 g c =
    let grown = first_text_written _ _ _ _ c.args.zero_name.now c.write.result (header Zero c.args.width) c.args.one_name.now c.requires.differ
    c.write.ensures.bytes c.in_ok-begin.ensures.begun c.in_ok-begin-2.ensures.begun c.in_ok-append.ensures.appended in
    record { there = second_is_there _ _ c.args.zero_name.now (header Zero c.args.width) c.args.one_name.now [] grown }

pub returns-clause-whole : goal.returns-clause-whole
returns-clause-whole g c =
    let grown = first_text_written _ _ _ _ c.args.zero_name.now c.write.result (header Zero c.args.width) c.args.one_name.now c.requires.differ
    c.write.ensures.bytes c.in_ok-begin.ensures.begun c.in_ok-begin-2.ensures.begun c.in_ok-append.ensures.appended in
    on_ok_weaker c.append-2.result
    (second_grown _ _ _ c.args.zero_name.now (header Zero c.args.width) c.args.one_name.now [] c.write-2.result (header One c.args.width)
    c.write-2.ensures.bytes grown)
    c.append-2.ensures.appended

pub returns-clause-part : goal.returns-clause-part
returns-clause-part g c =
    let grown = first_text_written _ _ _ _ c.args.zero_name.now c.write.result (header Zero c.args.width) c.args.one_name.now c.requires.differ
    c.write.ensures.bytes c.in_ok-begin.ensures.begun c.in_ok-begin-2.ensures.begun c.in_ok-append.ensures.appended in
    on_err_weaker c.append-2.result
    (λ same. both_hold_fronts _ _ c.args.zero_name.now (header Zero c.args.width) [] _ c.args.one_name.now [] (header One c.args.width) _ refl refl (same ∙ grown))
    c.append-2.ensures.refused
