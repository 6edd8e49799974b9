use Rattle.std.proofs.Common.{rules}
use Rattle.p2p_driver.specs.Links.{link_as}
use Rattle.p2p_driver.specs.Reads.{unread}
use Rattle.p2p_driver.proofs.Entries.{put_back}
use Rattle.p2p_driver.proofs.connections.keep.Goals as goal

pub returns-then-is_err-clause-err : goal.returns-then-is_err-clause-err
returns-then-is_err-clause-err g c = (
  c.end-then-is_err.ensures.undoes c.args.reads.now (unread c.in-Some.places) (search rules) c.requires.unread,
  put_back g.met.C.Ord.total c.args.links.now _ c.remove-held.new.self c.args.peer (link_as c.args.direction c.args.number c.args.now)
      c.requires.unlinked (search rules) c.remove-held.ensures.entries,
  search rules,
)
