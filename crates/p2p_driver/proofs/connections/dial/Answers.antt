use Rattle.std.proofs.Common.{rules, refl}
use Rattle.p2p_driver.specs.Links.{dial_with}
use Rattle.p2p_driver.specs.Reads.{unread}
use Rattle.p2p_driver.proofs.Entries.{put_back}
use Rattle.p2p_driver.proofs.connections.dial.Goals as goal

pub returns-then-is_err-clause-err : goal.returns-then-is_err-clause-err
returns-then-is_err-clause-err g c = (
  refl,
  c.end-then-is_err.ensures.undoes c.args.reads.now (unread c.in-Some-checked_add.places) (search rules) c.requires.unread,
  put_back g.met.C.Ord.total c.args.links.now _ c.remove-held.new.self c.args.peer (dial_with c.args.number c.args.now)
      c.requires.unlinked (search rules) c.remove-held.ensures.entries,
  put_back g.met.C.Ord.total c.args.grants.now _ c.remove-then-is_err.new.self c.args.peer c.args.now
      c.requires.ungranted (search rules) c.remove-then-is_err.ensures.entries,
  search rules,
  search rules,
)

pub returns-then-not-dial-clause-err : goal.returns-then-not-dial-clause-err
returns-then-not-dial-clause-err g c = (
  search rules,
  c.end-then-not-dial.ensures.undoes c.args.reads.now (unread c.in-Some-checked_add.places) (search rules) c.requires.unread,
  put_back g.met.C.Ord.total c.args.links.now _ c.remove-held-then-not-dial.new.self c.args.peer (dial_with c.args.number c.args.now)
      c.requires.unlinked (search rules) c.remove-held-then-not-dial.ensures.entries,
  put_back g.met.C.Ord.total c.args.grants.now _ c.remove-then-not-dial.new.self c.args.peer c.args.now
      c.requires.ungranted (search rules) c.remove-then-not-dial.ensures.entries,
  search rules,
  search rules,
)

pub returns-in-Err-clause-err : goal.returns-in-Err-clause-err
returns-in-Err-clause-err g c = (
  refl,
  search rules,
  search rules,
  put_back g.met.C.Ord.total c.args.grants.now _ c.remove.new.self c.args.peer c.args.now
      c.requires.ungranted (search rules) c.remove.ensures.entries,
  search rules,
  search rules,
)

pub returns-in-Err-dial-clause-err : goal.returns-in-Err-dial-clause-err
returns-in-Err-dial-clause-err g c = (
  refl,
  c.end.ensures.undoes c.args.reads.now (unread c.in-Some-checked_add.places) (search rules) c.requires.unread,
  search rules,
  put_back g.met.C.Ord.total c.args.grants.now _ c.remove-in-Err-dial.new.self c.args.peer c.args.now
      c.requires.ungranted (search rules) c.remove-in-Err-dial.ensures.entries,
  search rules,
  search rules,
)
