use Rattle.std.proofs.Common.{◌∙◌, ap, ◌∷◌, []}
use Rattle.std.specs.Option.{option_map}
use Rattle.p2p_tracker.specs.Directory.{updated_record}
use Rattle.p2p_tracker.specs.Seen.{record_at}
use Rattle.p2p_tracker.specs.Private.Window.{plain_sets}
use Rattle.p2p_tracker.proofs.SetsAndRecords.Changes.{bits_anew, known_anew, marked_again}
use Rattle.p2p_tracker.proofs.SetsAndRecords.Windows.{plain_with_bit}
use Rattle.p2p_tracker.proofs.directory.update.update_one.Goals as goal

pub renew-requires : goal.renew-requires
renew-requires g c =
    let cmp = g.C.Ord.cmp in
    marked_again cmp g.met.C.PublicKey.exact c.args.limit c.args.sets.now
    (record_at cmp c.args.records.now) c.args.info.public_key c.in-Some.known.before c.requires
    c.in-Some.ensures.before

pub returns-in-Some-clause-sets : goal.returns-in-Some-clause-sets
returns-in-Some-clause-sets g c =
    ap plain_sets c.renew.ensures
    ∙ plain_with_bit g.C.Ord.cmp c.args.info.public_key c.in-Some.known.after c.args.sets.now

pub returns-in-Some-clause-bits : goal.returns-in-Some-clause-bits
returns-in-Some-clause-bits g c =
    let cmp = g.C.Ord.cmp in
    let old = record_at cmp c.args.records.now in
    let new = record_at cmp c.update.new.self in
    let p = c.args.info.public_key in
    bits_anew cmp c.args.limit c.args.sets.now c.renew.new.self old new p c.in-Some.known.after
    c.requires
    (known_anew cmp g.met.C.PublicKey.exact c.args.limit old new p
    (option_map (updated_record (c.args.info ∷ []))) c.in-Some.known.after c.update.ensures.change
    c.in-Some.ensures.after) c.renew.ensures
