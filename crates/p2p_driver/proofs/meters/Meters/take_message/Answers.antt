use Rattle.std.proofs.Common.{◌≡◌, subst, sym, ◌∙◌, ap, length, ◌<◌, slice_index}
use Rattle.std.specs.Duration.{as_nanos}
use Rattle.std.proofs.lemmas.List.{get_or-set_same, get_or-set_other, get_or_default}
use Rattle.p2p_driver.specs.Meters.{IsRead}
use Rattle.p2p_driver.proofs.meters.Meters.take_message.Goals as goal

pub returns-clause-read : goal.returns-clause-read
returns-clause-read c is =
    let within : c.args.place < length c.self.inside.channels.items =
    subst (λ v. c.args.place < length v.channels) (sym c.self.view_is) c.requires in
    let old : c.index_mut.result.now ≡ slice_index c.args.self.now.channels c.args.place =
    c.index_mut.ensures.value ∙ get_or_default c.self.inside.channels.items c.args.place _ 0 within
    ∙ ap (λ v. slice_index v.channels c.args.place) c.self.view_is in
    subst (IsRead c.args.rate (as_nanos c.args.now) (slice_index c.args.self.now.channels c.args.place))
    (sym (get_or-set_same c.self.inside.channels.items c.args.place c.take.new.bucket 0 within))
    (subst (λ b. IsRead c.args.rate (as_nanos c.args.now) b c.take.new.bucket) old
    (c.take.ensures.read is))

pub returns-clause-others : goal.returns-clause-others
returns-clause-others c other differ =
    get_or-set_other c.self.inside.channels.items c.args.place other c.take.new.bucket 0 differ
    ∙ ap (λ v. slice_index v.channels other) c.self.view_is
