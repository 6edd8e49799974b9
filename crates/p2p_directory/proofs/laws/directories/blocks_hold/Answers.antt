use Rattle.p2p_directory.proofs.LawsOfRuns.Spacing
use Rattle.p2p_directory.proofs.Definitions.Keys.{exact_from}
use Rattle.p2p_directory.proofs.laws.directories.blocks_hold.Goals as goal

pub returns : goal.returns
returns g c = λ s order p cs now on. Spacing.keeps_blocks s (exact_from s g.C.Ord.cmp order g.met.C.PublicKey.exact) p cs now on
