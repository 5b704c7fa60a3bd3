use Rattle.share_lists.proofs.Growing.{share_more, malformed_more, none_more, none_left}
use Rattle.share_lists.proofs.reading.add_next.Goals as goal

pub returns-in_ok-push-in-Share-clause-so_far : goal.returns-in_ok-push-in-Share-clause-so_far
returns-in_ok-push-in-Share-clause-so_far g c =
    let step = c.in_ok-share.ensures in
    let stands = rw c.in-Share.is at step.stands in
    let given = rw c.in-Share.is at step.given in
    let exact = rw c.in-Share.is at step.exact in
    share_more (g.H.Shelf.files c.args.shelf.now) c.args.reader.now _ c.in-Share.share c.args.shares.now c.push.new.self c.args.malformed.now
    stands.1 c.in_ok-push-in-Share.ensures.added given exact

pub returns-in_ok-push-in-Malformed-clause-so_far :
    goal.returns-in_ok-push-in-Malformed-clause-so_far
returns-in_ok-push-in-Malformed-clause-so_far g c =
    let step = c.in_ok-share.ensures in
    let stands = rw c.in-Malformed.is at step.stands in
    let exact = rw c.in-Malformed.is at step.exact in
    malformed_more (g.H.Shelf.files c.args.shelf.now) c.args.reader.now _ c.in-Malformed.number c.args.shares.now c.args.malformed.now
    c.push-in-Malformed.new.self stands.1 c.in_ok-push-in-Malformed.ensures.added exact

pub returns-in-End-clause-so_far : goal.returns-in-End-clause-so_far
returns-in-End-clause-so_far g c =
    let stands = rw c.in-End.is at c.in_ok-share.ensures.stands in
    none_more (g.H.Shelf.files c.args.shelf.now) c.args.reader.now _ c.args.shares.now c.args.malformed.now stands.1

pub returns-in-End-clause-all : goal.returns-in-End-clause-all
returns-in-End-clause-all g c =
    let stands = rw c.in-End.is at c.in_ok-share.ensures.stands in
    let exact = rw c.in-End.is at c.in_ok-share.ensures.exact in
    λ _. none_left (g.H.Shelf.files c.args.shelf.now) c.args.reader.now _ c.args.shares.now c.args.malformed.now stands.1 exact
