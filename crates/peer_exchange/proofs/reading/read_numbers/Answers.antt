use Rattle.std.proofs.Common.{rules, arith, ◌+◌, ◌*◌, ◌∙◌, ap}
use Rattle.std.proofs.lemmas.List.{take_rest}
use Rattle.byteorder.specs.Endian.{little_number}
use Rattle.peer_exchange.proofs.Numbers.{ends_early, no_element, next_element, all_read}
use Rattle.peer_exchange.proofs.reading.read_numbers.Goals as goal

pub returns-then-bytes-at-lt8-clause-fault : goal.returns-then-bytes-at-lt8-clause-fault
returns-then-bytes-at-lt8-clause-fault c =
    ends_early c.args.count c.loop-i.i c.loop-i.numbers.items c.args.bytes.now _ c.loop-i-test.true c.loop-i.invariant.inside c.if-bytes-at-lt8.true c.loop-i.invariant.same

pub returns-in_default-clause-fault : goal.returns-in_default-clause-fault
returns-in_default-clause-fault c =
    no_element c.args.count c.loop-i.i c.read_u64.result c.loop-i.numbers.items c.args.bytes.now _ c.loop-i-test.true (omega arith)
    (c.read_u64.ensures ∙ ap (little_number 8) (take_rest c.args.bytes.now (7 + 8 * c.loop-i.i))) (search rules) c.loop-i.invariant.same

pub loop-i-preserved : goal.loop-i-preserved
loop-i-preserved c = record {
  inside = omega arith;
  count = search rules;
  same = next_element c.args.count c.loop-i.i c.read_u64.result c.loop-i.numbers.items c.push.new.self.items c.args.bytes.now _ c.loop-i-test.true (omega arith)
      (c.read_u64.ensures ∙ ap (little_number 8) (take_rest c.args.bytes.now (7 + 8 * c.loop-i.i))) (search rules) (search rules) c.loop-i.invariant.same;
}

pub returns-clause-elements : goal.returns-clause-elements
returns-clause-elements c = all_read c.args.count c.loop-i.i c.loop-i.numbers.items c.args.bytes.now _ (omega arith) c.loop-i.invariant.same
