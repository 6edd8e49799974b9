use Rattle.std.proofs.Common.{◌<◌, ◌≤◌, refl, arith}
use Rattle.std.proofs.lemmas.Bool.{lt-ltb, le-ltb}
use Rattle.p2p_driver.specs.Heads.{is_numbered, longest_frame}
use Rattle.p2p_driver.proofs.Spelled.{none_found, found_there}
use Rattle.p2p_driver.proofs.heads.message.Goals as goal

pub returns-in_default-clause-value : goal.returns-in_default-clause-value
returns-in_default-clause-value c =
    rw (none_found (is_numbered c.args.number) c.args.channels.now c.in_default.ensures) refl

pub returns-then-longest_frame-length-clause-value :
    goal.returns-then-longest_frame-length-clause-value
returns-then-longest_frame-length-clause-value c =
    let there = found_there (is_numbered c.args.number) c.args.channels.now c.in-Some.place
    c.index-channels-place.result c.in-Some.ensures c.index-channels-place.is in
    let less : longest_frame c.index-channels-place.result < c.args.length =
    omega (arith, c.longest_frame.ensures, c.if-longest_frame-length.true) in
    rw (there.1, lt-ltb _ _ less) refl

pub returns-else-longest_frame-length-clause-value :
    goal.returns-else-longest_frame-length-clause-value
returns-else-longest_frame-length-clause-value c =
    let there = found_there (is_numbered c.args.number) c.args.channels.now c.in-Some.place
    c.index-channels-place.result c.in-Some.ensures c.index-channels-place.is in
    let fits : c.args.length ≤ longest_frame c.index-channels-place.result =
    omega (arith, c.longest_frame.ensures, c.if-longest_frame-length.false) in
    rw (there.1, there.0, le-ltb _ _ fits) refl
