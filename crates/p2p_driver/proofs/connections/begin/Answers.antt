use Rattle.std.proofs.Common.{rules, length, ◌+◌}
use Rattle.p2p_driver.specs.Links.{link_with}
use Rattle.p2p_driver.specs.Reads.{unread}
use Rattle.p2p_driver.proofs.Entries.{put_back}
use Rattle.p2p_driver.proofs.connections.begin.Goals as goal

pub returns-then-not-listen-clause-err : goal.returns-then-not-listen-clause-err
returns-then-not-listen-clause-err g c = (
  search rules,
  c.end.ensures.undoes c.args.reads.now (unread (length c.args.channels.now + length c.args.channels.now)) (search rules) c.requires.unread,
  put_back g.met.C.Ord.total c.args.links.now _ c.remove-held.new.self c.args.peer (link_with c.args.number c.args.now)
      c.requires.unlinked (search rules) c.remove-held.ensures.entries,
  search rules,
)
