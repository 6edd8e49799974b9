-- Keys of 48 bytes with signatures of 96.
use Rattle.p2p_session.specs.Schemes.{Scheme, scheme_by}
use Rattle.p2p_session_c.specs.declared.keys48_96.key.Key.{Key}
use Rattle.p2p_session_c.specs.declared.keys48_96.key.Signature.{Signature}
use Rattle.p2p_session_c.specs.contracts.keys48_96.key.KeyPartialOrd.TheImpl as partial
use Rattle.p2p_session_c.specs.contracts.keys48_96.key.KeyOrd.TheImpl as order
use Rattle.p2p_session_c.specs.contracts.keys48_96.key.KeyPartialEq.TheImpl as same
use Rattle.p2p_session_c.specs.contracts.keys48_96.key.KeyFixedBytes.TheImpl as fixed
use Rattle.p2p_session_c.specs.contracts.keys48_96.key.KeyPublicKey.TheImpl as public
use Rattle.p2p_session_c.specs.contracts.keys48_96.key.SignaturePartialEq.TheImpl as same_signature
use Rattle.p2p_session_c.specs.contracts.keys48_96.key.SignatureFixedBytes.TheImpl as signature

abbrev pub keys48_96 : Scheme Key Signature
keys48_96 = scheme_by partial.ghosts order.ghosts same.ghosts fixed.ghosts public.ghosts
    same_signature.ghosts signature.ghosts
