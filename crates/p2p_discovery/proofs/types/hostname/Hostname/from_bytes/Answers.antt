use Rattle.std.proofs.Common.{sym, ◌∙◌}
use Rattle.std.proofs.lemmas.Str.{IsUtf8-from_ascii}
use Rattle.p2p_discovery.proofs.Names.{host_ascii}
use Rattle.p2p_discovery.proofs.types.hostname.Hostname.from_bytes.Goals as goal

pub unreachable-requires : goal.unreachable-requires
unreachable-requires c =
    c.in-Err.ensures.cases.0
    (IsUtf8-from_ascii c.args.text.now
    (host_ascii c.args.text.now (sym c.is_name.ensures ∙ c.if-not-is_name.false)))
