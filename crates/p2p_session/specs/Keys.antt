-- The keys of sessions for C and Rust.
use Rattle.p2p_session.specs.Schemes.{Scheme, scheme_by}
use Rattle.p2p_session.specs.declared.key.Key.{Key}
use Rattle.p2p_session.specs.declared.key.Signature.{Signature}
use Rattle.p2p_session.specs.contracts.key.KeyPartialOrd.TheImpl as partial
use Rattle.p2p_session.specs.contracts.key.KeyOrd.TheImpl as order
use Rattle.p2p_session.specs.contracts.key.KeyPartialEq.TheImpl as same
use Rattle.p2p_session.specs.contracts.key.KeyFixedBytes.TheImpl as fixed
use Rattle.p2p_session.specs.contracts.key.KeyPublicKey.TheImpl as public
use Rattle.p2p_session.specs.contracts.key.SignaturePartialEq.TheImpl as same_signature
use Rattle.p2p_session.specs.contracts.key.SignatureFixedBytes.TheImpl as signature

-- keys of 32 bytes with signatures of 64
abbrev pub keys32_64 : Scheme Key Signature
keys32_64 = scheme_by partial.ghosts order.ghosts same.ghosts fixed.ghosts public.ghosts
    same_signature.ghosts signature.ghosts
