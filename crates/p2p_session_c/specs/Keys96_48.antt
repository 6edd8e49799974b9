-- Keys of 96 bytes with signatures of 48.
use Rattle.p2p_session.specs.Schemes.{Scheme, scheme_by}
use Rattle.p2p_session_c.specs.declared.keys96_48.key.Key.{Key}
use Rattle.p2p_session_c.specs.declared.keys96_48.key.Signature.{Signature}
use Rattle.p2p_session_c.specs.contracts.keys96_48.key.KeyPartialOrd.TheImpl as partial
use Rattle.p2p_session_c.specs.contracts.keys96_48.key.KeyOrd.TheImpl as order
use Rattle.p2p_session_c.specs.contracts.keys96_48.key.KeyPartialEq.TheImpl as same
use Rattle.p2p_session_c.specs.contracts.keys96_48.key.KeyFixedBytes.TheImpl as fixed
use Rattle.p2p_session_c.specs.contracts.keys96_48.key.KeyPublicKey.TheImpl as public
use Rattle.p2p_session_c.specs.contracts.keys96_48.key.SignaturePartialEq.TheImpl as same_signature
use Rattle.p2p_session_c.specs.contracts.keys96_48.key.SignatureFixedBytes.TheImpl as signature

abbrev pub keys96_48 : Scheme Key Signature
keys96_48 = scheme_by partial.ghosts order.ghosts same.ghosts fixed.ghosts public.ghosts
    same_signature.ghosts signature.ghosts
