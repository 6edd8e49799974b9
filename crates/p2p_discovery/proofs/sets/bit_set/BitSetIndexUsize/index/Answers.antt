use Rattle.std.proofs.Common.{◌∙◌, sym, ap, length, arith}
use Rattle.std.specs.List.{slice_get}
use Rattle.std.specs.Map.{keys_of}
use Rattle.p2p_discovery.proofs.BitLists.{length_zip, peers_zip}
use Rattle.p2p_discovery.proofs.sets.bit_set.BitSetIndexUsize.index.Goals as goal

pub index-requires : goal.index-requires
index-requires g c =
    let n = sym (length_zip c.self.inside.ordered c.self.inside.knowledge c.self.invariant) ∙ ap length c.self.view_is in
    omega (arith, n, c.requires)

pub returns : goal.returns
returns g c =
    let peers = sym (peers_zip c.self.inside.ordered c.self.inside.knowledge c.self.invariant) ∙ ap keys_of c.self.view_is in
    ap (λ ps. slice_get ps c.args.place) (sym peers) ∙ c.index.ensures
