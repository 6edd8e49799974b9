use Rattle.std.proofs.Common.{subst, sym}
use Rattle.std.specs.Cmp.{IsTotalOrder}
use Rattle.p2p_directory.proofs.Definitions.Keys.{exact_from}
use Rattle.p2p_tracker.proofs.Definitions.Quiet
use Rattle.p2p_directory.proofs.laws.directories.dialable_is_quiet.Goals as goal

pub returns-clause-stays : goal.returns-clause-stays
returns-clause-stays g c = λ s w t u ps next answer le before. Quiet.stays_dialable s w t u ps next answer le before

pub returns-clause-only : goal.returns-clause-only
returns-clause-only g c = λ s order w t ps qs next after x y.
    Quiet.only_dialable s (subst IsTotalOrder (sym order) g.met.C.Ord.total) (exact_from s g.C.Ord.cmp order g.met.C.PublicKey.exact) w t ps qs next after x y
