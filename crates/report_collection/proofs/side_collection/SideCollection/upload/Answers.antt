use Rattle.std.proofs.Common.{◌≡◌, ◌∙◌, ap, subst, vec_len, vec_capacity, arith}
use Rattle.std.specs.List.Sorted.{IsPermutation}
use Rattle.std.proofs.lemmas.Bool.{OnTrue_at, OnTrue_from}
use Rattle.report_collection.specs.Uploads.{own_in}
use Rattle.report_collection.proofs.Seats.{taken_of, seated_of, gathered, adds_some, adds_all}
use Rattle.report_collection.proofs.side_collection.SideCollection.upload.Goals as goal

pub all_upload_at-requires-clause-ready : goal.all_upload_at-requires-clause-ready
all_upload_at-requires-clause-ready g c κs within = c.sit_down.ensures.seated c.self.inside.intake.lock c.self.invariant.2

pub get_up-requires-clause-taken : goal.get_up-requires-clause-taken
get_up-requires-clause-taken g c = taken_of c.self.inside.intake.lock _ (seated_of c.self.inside.intake.lock _ _ c.all_upload_at.ensures.done)

pub invariant_of-self : goal.invariant_of-self
invariant_of-self g c =
    let lock = c.self.inside.intake.lock in
    let many : vec_len c.get_up.new.passes ≡ vec_len c.self.inside.passes =
    c.get_up.ensures.count.0 ∙ c.all_upload_at.ensures.same.0 ∙ c.sit_down.ensures.count.0 in
    let room : vec_capacity c.get_up.new.seats ≡ vec_capacity c.self.inside.seats =
    c.get_up.ensures.room.1 ∙ c.all_upload_at.ensures.same.1 ∙ c.sit_down.ensures.room.1 in (
      omega (arith, many, c.self.invariant.0),
      many ∙ c.self.invariant.1,
      c.get_up.ensures.ours lock (seated_of lock _ _ c.all_upload_at.ensures.done),
      c.get_up.ensures.count.1,
      omega (arith, many, room, c.self.invariant.4),
    )

pub returns-clause-all : goal.returns-clause-all
returns-clause-all g c =
    let did = gathered c.self.inside.intake.lock _ _ c.all_upload_at.ensures.done in
    let sat : IsPermutation c.args.self.now.shares (own_in c.sit_down.new.seats.items) =
    subst (λ l. IsPermutation l (own_in c.sit_down.new.seats.items)) (ap (λ s. s.shares) c.self.view_is) c.sit_down.ensures.own in
    OnTrue_from _ _ (λ t. adds_all _ _ _ _ _ _ _ sat c.sit_down.ensures.queued did c.get_up.ensures.own (OnTrue_at t c.get_up.ensures.all))

pub returns-clause-some : goal.returns-clause-some
returns-clause-some g c =
    let did = gathered c.self.inside.intake.lock _ _ c.all_upload_at.ensures.done in
    let sat : IsPermutation c.args.self.now.shares (own_in c.sit_down.new.seats.items) =
    subst (λ l. IsPermutation l (own_in c.sit_down.new.seats.items)) (ap (λ s. s.shares) c.self.view_is) c.sit_down.ensures.own in
    adds_some _ _ _ _ _ _ _ sat c.sit_down.ensures.queued did c.get_up.ensures.own
