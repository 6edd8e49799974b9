use Rattle.p2p_directory.proofs.Nodes.Networks.{same_set, grow_slots, on_ok, room_in_place}
use Rattle.p2p_directory.proofs.node.network.nodes.room_at.Goals as goal

pub returns-clause-same : goal.returns-clause-same
returns-clause-same g c = same_set g.C.Ord.cmp c.args.nodes.now c.args.node c.make_room.new.self
    c.index-nodes-node.result c.if-node-nodes.false c.make_room.ensures.same

pub returns-clause-slots : goal.returns-clause-slots
returns-clause-slots g c = on_ok c.make_room.result c.make_room.ensures.slots
    (grow_slots g.C.Ord.cmp c.args.nodes.now c.args.node c.make_room.new.self
    c.index-nodes-node.result c.if-node-nodes.false)

pub returns-clause-room : goal.returns-clause-room
returns-clause-room g c = on_ok c.make_room.result c.make_room.ensures.room
    (room_in_place g.C.Ord.cmp c.args.nodes.now c.args.node c.make_room.new.self
    c.args.command.now c.if-node-nodes.false)
