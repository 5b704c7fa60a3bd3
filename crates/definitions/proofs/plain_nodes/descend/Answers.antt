use Rattle.std.proofs.Common.{◌≡◌, false, refl, sym, ◌∙◌, ap, arith}
use Rattle.std.specs.Prelude.{slice_index_or}
use Rattle.std.proofs.lemmas.List.{get_or_read_under}
use Rattle.std.proofs.lemmas.Option.{slice_get-get_or}
use Rattle.definitions.specs.Evaluation.{child, no_word}
use Rattle.definitions.proofs.EvaluationLaws.{descend-step, descend-end}
use Rattle.definitions.proofs.plain_nodes.descend.Goals as goal

pub loop-place-preserved : goal.loop-place-preserved
loop-place-preserved c = record {
  value =
      let place = c.loop-place.place in
      let word = c.index-words-place.result in
      let word_is : word ≡ slice_index_or c.args.words.now place no_word =
      get_or_read_under c.args.words.now place _ word no_word c.index-words-place.is (omega arith) refl in
      descend-step c.args.words.now c.args.side c.loop-place.reached c.child-reached.result c.args.bits.now place place _
      refl (omega arith) (omega arith) (slice_get-get_or c.args.bits.now place false (omega arith))
      (c.child-reached.ensures.value
      ∙ ap (λ w. child w c.args.side c.loop-place.reached (slice_index_or c.args.bits.now place false)) word_is)
      ∙ c.loop-place.invariant.value;
}

pub returns : goal.returns
returns c = record {
  value =
      sym (descend-end _ c.args.side c.loop-place.reached c.args.bits.now c.loop-place.place (omega arith))
      ∙ c.loop-place.invariant.value;
}
