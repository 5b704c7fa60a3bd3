use Rattle.std.proofs.Common.{rules, ◌≡◌, length, vec_len, refl, sym, ◌∙◌, arith}
use Rattle.std.proofs.lemmas.List.FromFn.{length-map-range_with_len}
use Rattle.turn_lock.specs.Seen.{fresh_pass}
use Rattle.std.specs.List.{range_with_len}
use Rattle.report_collection.specs.Uploads.{IsOf}
use Rattle.report_collection.proofs.Lists.{all_of_map}
use Rattle.report_collection.proofs.Seats.{none_own, seen_is}
use Rattle.report_collection.proofs.side_collection.SideCollection.new.Goals as goal

pub invariant_of-result : goal.invariant_of-result
invariant_of-result c =
    let lock = c.in_ok-intake.intake.lock in
    let len : vec_len c.in_ok-intake.passes ≡ length c.in_ok-intake.passes.items = search rules in
    let made : length c.in_ok-intake.passes.items ≡ c.args.uploaders =
    rw c.in_ok-intake.ensures.passes (length-map-range_with_len (fresh_pass lock) 0 c.args.uploaders) in
    let many : vec_len c.in_ok-intake.passes ≡ c.args.uploaders = len ∙ made in (
      omega (arith, many, c.requires.count.0),
      many ∙ sym c.in_ok-intake.ensures.count,
      rw c.in_ok-intake.ensures.passes (all_of_map (IsOf lock) (fresh_pass lock) (range_with_len 0 c.args.uploaders) (λ n. refl)),
      search rules,
      rw many (search rules),
    )

pub returns : goal.returns
returns c = record {
  empty = seen_is _ _ _ _ _ _ c.in_ok-intake.ensures.side c.in_ok-intake.ensures.count
      (rw c.in_ok-intake.ensures.passes (none_own c.in_ok-intake.intake.lock (range_with_len 0 c.args.uploaders)));
}
