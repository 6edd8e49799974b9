use Rattle.std.proofs.Common.{◌<◌, ◌-◌, ◌^◌, [], ◌∷◌, List, length, ℕ, refl, sym, ◌∙◌, ap, subst, arith}
use Rattle.std.proofs.lemmas.List.{length-map}
use Rattle.std.specs.Int.NonZero.{non_zero_usize_get}
use Rattle.std.specs.List.{All}
use Rattle.p2p_directory.specs.declared.node.network.commands.NetworkCommand.{NetworkCommand}
use Rattle.p2p_directory.specs.declared.node.network.commands.NetworkReply.{NetworkReply}
use Rattle.p2p_directory.specs.Nodes.{Made, made_of}
use Rattle.p2p_directory.specs.Network.{OfNetwork, AreNetworkAnswers, StandAfter, done_after}
use Rattle.p2p_directory.specs.Pairs.{two, command_in, commands_in, replies_in}
use Rattle.p2p_directory.specs.Laws.Network.{AtEachPoint, PointLaws, OfEachReply, ReplyLaws}
use Rattle.p2p_directory.proofs.LawsOfNetworks.TwoNodes.{laws_of_pair}
use Rattle.p2p_directory.proofs.Nodes.TwoNodes.{of_both, as_two, answers_count, are_of_nodes}
use Rattle.p2p_directory.proofs.Nodes.ReadBack.{wire_in}
use Rattle.p2p_directory.proofs.node.pair.run_pair.Goals as goal

pub run_network-requires-clause-sets : goal.run_network-requires-clause-sets
run_network-requires-clause-sets g c =
    subst (All (λ s. non_zero_usize_get s.cfg.max_sets < 2 ^ 64 - 1)) (sym c.in_ok-setups.ensures)
    (of_both (λ s. non_zero_usize_get s.cfg.max_sets < 2 ^ 64 - 1) c.args.left c.args.right
    c.requires.left_sets c.requires.right_sets)

pub run_network-requires-clause-bits : goal.run_network-requires-clause-bits
run_network-requires-clause-bits g c =
    subst (All (λ s. s.payload.max_bit_vec < 2 ^ 32)) (sym c.in_ok-setups.ensures)
    (of_both (λ s. s.payload.max_bit_vec < 2 ^ 32) c.args.left c.args.right
    c.requires.left_bits c.requires.right_bits)

-- the replies answer the commands to both
answers : (g : _) (c : goal.In_ok-nodes g) →
    AreNetworkAnswers (wire_in g.C.PublicKey.verifies g.C.FixedBytes g.C.Signature.FixedBytes) 2
    (two (made_of g.C.Ord.cmp c.args.left) (made_of g.C.Ord.cmp c.args.right)) []
    (commands_in c.args.commands.items) c.in_ok-nodes.field-0.replies.items
answers g c =
    let wire = wire_in g.C.PublicKey.verifies g.C.FixedBytes g.C.Signature.FixedBytes in
    let told = c.in_ok-nodes.field-0.replies.items in
    as_two g.C.Ord.cmp c.args.left c.args.right c.in_ok-setups.setups.items
    c.in_ok-commands.commands.items (commands_in c.args.commands.items) told told
    (λ size node cs rs. AreNetworkAnswers wire size node [] cs rs)
    c.in_ok-setups.ensures c.in_ok-commands.ensures refl c.in_ok-nodes.ensures.answers

pub pair_replies-replies-requires-clause-nodes : goal.pair_replies-replies-requires-clause-nodes
pair_replies-replies-requires-clause-nodes g c =
    are_of_nodes (wire_in g.C.PublicKey.verifies g.C.FixedBytes g.C.Signature.FixedBytes)
    (made_of g.C.Ord.cmp c.args.left) (made_of g.C.Ord.cmp c.args.right) []
    c.args.commands.items c.in_ok-nodes.field-0.replies.items (answers g c)

pub pair_replies-replies-requires-clause-room : goal.pair_replies-replies-requires-clause-room
pair_replies-replies-requires-clause-room g c =
    let same = answers_count
    (wire_in g.C.PublicKey.verifies g.C.FixedBytes g.C.Signature.FixedBytes) 2
    (two (made_of g.C.Ord.cmp c.args.left) (made_of g.C.Ord.cmp c.args.right)) []
    (commands_in c.args.commands.items) c.in_ok-nodes.field-0.replies.items (answers g c) in
    omega (
      arith,
      same,
      length-map c.args.commands.items command_in,
      c.len.ensures,
      c.in_ok-replies.ensures.exact,
    )

pub into_both-left-requires : goal.into_both-left-requires
into_both-left-requires g c =
    (c.in_ok-nodes.ensures.stand c.args.left).count ∙ ap length c.in_ok-setups.ensures

-- what a network of both promises of its commands and replies
told_of_two : (g : _) (c : goal.After-into_both-left g)
    (P : ℕ → (ℕ → Made g.row.C.Denot g.row.C-Signature.Denot) →
    List (NetworkCommand g.row.C.Denot g.row.C-Signature.Denot) →
    List (NetworkReply g.row.C.Denot g.row.C-Signature.Denot) → Type 0) →
    OfNetwork g.C.Ord.cmp c.in_ok-setups.setups.items (λ size node. P size node
    c.in_ok-commands.commands.items c.in_ok-nodes.field-0.replies.items) →
    P 2 (two (made_of g.C.Ord.cmp c.args.left) (made_of g.C.Ord.cmp c.args.right))
    (commands_in c.args.commands.items) (replies_in c.pair_replies-replies.result.items)
told_of_two g c P h = as_two g.C.Ord.cmp c.args.left c.args.right c.in_ok-setups.setups.items
    c.in_ok-commands.commands.items (commands_in c.args.commands.items)
    c.in_ok-nodes.field-0.replies.items (replies_in c.pair_replies-replies.result.items) P
    c.in_ok-setups.ensures c.in_ok-commands.ensures (sym c.pair_replies-replies.ensures) h

pub returns-clause-answers : goal.returns-clause-answers
returns-clause-answers g c =
    let wire = wire_in g.C.PublicKey.verifies g.C.FixedBytes g.C.Signature.FixedBytes in
    told_of_two g c (λ size node cs rs. AreNetworkAnswers wire size node [] cs rs)
    c.in_ok-nodes.ensures.answers

stand : (g : _) (c : goal.After-into_both-left g) →
    let wire = wire_in g.C.PublicKey.verifies g.C.FixedBytes g.C.Signature.FixedBytes in
    let node = two (made_of g.C.Ord.cmp c.args.left) (made_of g.C.Ord.cmp c.args.right) in
    StandAfter wire 2 node (done_after wire 2 node [] (commands_in c.args.commands.items)
    (replies_in c.pair_replies-replies.result.items))
    (c.into_both-left.result.0 ∷ c.into_both-left.result.1 ∷ [])
stand g c =
    let wire = wire_in g.C.PublicKey.verifies g.C.FixedBytes g.C.Signature.FixedBytes in
    let node = two (made_of g.C.Ord.cmp c.args.left) (made_of g.C.Ord.cmp c.args.right) in
    subst (StandAfter wire 2 node (done_after wire 2 node [] (commands_in c.args.commands.items)
    (replies_in c.pair_replies-replies.result.items))) c.into_both-left.ensures
    (told_of_two g c (λ size node cs rs. StandAfter wire size node
    (done_after wire size node [] cs rs) c.in_ok-nodes.field-0.nodes) c.in_ok-nodes.ensures.stand)

pub returns-clause-left : goal.returns-clause-left
returns-clause-left g c = (stand g c).each 0 c.into_both-left.result.0 (omega arith)

pub returns-clause-right : goal.returns-clause-right
returns-clause-right g c = (stand g c).each 1 c.into_both-left.result.0 (omega arith)

pub returns-clause-laws : goal.returns-clause-laws
returns-clause-laws g c =
    let wire = wire_in g.C.PublicKey.verifies g.C.FixedBytes g.C.Signature.FixedBytes in
    laws_of_pair wire g.C.FixedBytes.IsValue g.C.Signature.FixedBytes.IsValue
    (made_of g.C.Ord.cmp c.args.left) (made_of g.C.Ord.cmp c.args.right)
    c.args.commands.items c.pair_replies-replies.result.items
    (told_of_two g c (λ size node cs rs. AtEachPoint wire size node (PointLaws wire size node)
    [] cs rs) c.in_ok-nodes.ensures.at_each_point)
    (told_of_two g c (λ size node cs rs. OfEachReply wire size node (ReplyLaws wire size node
    g.C.FixedBytes.IsValue g.C.Signature.FixedBytes.IsValue) [] cs rs)
    c.in_ok-nodes.ensures.of_each_reply)
