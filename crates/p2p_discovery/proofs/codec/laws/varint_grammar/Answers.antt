use Rattle.std.proofs.Common.{lit<}
use Rattle.p2p_discovery.proofs.Grammar.{grammar_is}
use Rattle.p2p_discovery.proofs.codec.laws.varint_grammar.Goals as goal

pub returns-clause-long : goal.returns-clause-long
returns-clause-long c = λ bytes n. grammar_is 1 9 bytes n (lit< tt)

pub returns-clause-short : goal.returns-clause-short
returns-clause-short c = λ bytes n. grammar_is 15 4 bytes n (lit< tt)
