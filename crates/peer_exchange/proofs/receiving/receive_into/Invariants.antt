use Rattle.std.proofs.Common.{◌≡◌, ◌≤◌, ◌-◌, length, take, IfSome, IsTrue}
use Rattle.std.specs.Option.{option_map}
use Rattle.shelf_io.specs.Talks.{at, after_receive}
use Rattle.peer_exchange.proofs.receiving.receive_into.Given as goal

abbrev pub invariant-loop-filled : goal.invariant-loop-filled
invariant-loop-filled g l = record {
  within : l.filled ≤ length l.into;
  long : length l.into ≡ length l.initial.into;
  talk : g.K.Link.talk l.link ≡ option_map (after_receive l.to l.filled) (g.K.Link.talk l.initial.link);
  bytes : IfSome (g.K.Link.talk l.initial.link) (λ before.
      (l.filled ≤ length (at l.to before.waiting)) × (take l.filled l.into ≡ take l.filled (at l.to before.waiting)));
  stays_true : IsTrue (g.K.Link.is_true l.initial.link) → IsTrue (g.K.Link.is_true l.link);
  count : g.K.Link.faults l.initial.link ≤ g.K.Link.faults l.link;
}

abbrev pub decreases-loop-filled : goal.decreases-loop-filled
decreases-loop-filled g l = length l.initial.into - l.filled
