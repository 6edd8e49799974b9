use Rattle.std.proofs.Common.{◌≡◌, ap, sym, ◌∙◌}
use Rattle.std.specs.BTreeMap.{is_at}
use Rattle.std.specs.Duration.{as_nanos}
use Rattle.std.specs.Option.{option_map, option_copied}
use Rattle.p2p_tracker.specs.Blocks.{in_nanos, unblock_in}
use Rattle.p2p_tracker.proofs.SetsAndRecords.Blocks.{lookup-in_nanos}
use Rattle.p2p_tracker.proofs.SetsAndRecords.Expirations.{end_is, no_ends, none_first, first_is_first}
use Rattle.p2p_tracker.proofs.kept.blocks.first_to_end.Goals as goal

pub returns-in_err-key : goal.returns-in_err-key
returns-in_err-key g c =
    let es = c.args.moments.now.entries in
    let none = none_first c.first.result c.args.expirations.now.keys c.in_err-key.was c.first.ensures.variant in
    let bs = no_ends g.met.C.Ord.total c.args.expirations.now.keys (in_nanos es) c.requires none in
    rw c.from_residual.ensures (λ q. ap (λ ds. unblock_in g.C.Ord.cmp ds q) bs)

pub returns-in_err-moment : goal.returns-in_err-moment
returns-in_err-moment g c =
    let es = c.args.moments.now.entries in
    let e = c.in_ok-key.field-0.now in
    let found = end_is g.met.C.PublicKey.exact c.args.expirations.now.keys (in_nanos es) e c.requires
    c.in_ok-key.ensures.member in
    let seen = lookup-in_nanos (is_at (g.C.Ord.cmp e.1)) es
    ∙ ap (option_map as_nanos) (sym c.get.ensures.value ∙ ap option_copied c.in_err-moment.was) in
    absurd (let both = sym found ∙ seen in cc)

pub returns : goal.returns
returns g c =
    let cmp = g.C.Ord.cmp in
    let es = c.args.moments.now.entries in
    let e = c.in_ok-key.field-0.now in
    let found = end_is g.met.C.PublicKey.exact c.args.expirations.now.keys (in_nanos es) e c.requires
    c.in_ok-key.ensures.member in
    let seen = lookup-in_nanos (is_at (cmp e.1)) es
    ∙ ap (option_map as_nanos) (sym c.get.ensures.value ∙ ap option_copied c.in_ok-moment.was) in
    let both : e.0 ≡ as_nanos c.in_ok-moment.moment.now = let f = sym found ∙ seen in cc in
    rw both at (first_is_first g.met.C.PublicKey.exact c.args.expirations.now.keys (in_nanos es) e c.requires
    c.in_ok-key.ensures.member c.in_ok-key.ensures.least)
