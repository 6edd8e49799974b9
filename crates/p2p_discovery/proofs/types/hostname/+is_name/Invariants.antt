use Rattle.std.proofs.Common.{length}
use Rattle.p2p_discovery.proofs.types.hostname.+is_name.Given as goal

abbrev pub decreases-is_name : goal.decreases-is_name
decreases-is_name l = length l.text.now
