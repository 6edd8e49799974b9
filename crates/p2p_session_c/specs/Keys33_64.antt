-- Keys of 33 bytes with signatures of 64. A key begins with 2 or 3.
use Rattle.p2p_session.specs.Schemes.{Scheme, scheme_by}
use Rattle.std.specs.Prelude.{ℕ, List}
use Rattle.p2p_session_c.specs.declared.keys33_64.key.Signature.{Signature}
use Rattle.p2p_session_c.specs.contracts.keys33_64.key.KeyPartialOrd.TheImpl as partial
use Rattle.p2p_session_c.specs.contracts.keys33_64.key.KeyOrd.TheImpl as order
use Rattle.p2p_session_c.specs.contracts.keys33_64.key.KeyPartialEq.TheImpl as same
use Rattle.p2p_session_c.specs.contracts.keys33_64.key.KeyFixedBytes.TheImpl as fixed
use Rattle.p2p_session_c.specs.contracts.keys33_64.key.KeyPublicKey.TheImpl as public
use Rattle.p2p_session_c.specs.contracts.keys33_64.key.SignaturePartialEq.TheImpl as same_signature
use Rattle.p2p_session_c.specs.contracts.keys33_64.key.SignatureFixedBytes.TheImpl as signature

abbrev pub keys33_64 : Scheme (List ℕ) Signature
keys33_64 = scheme_by partial.ghosts order.ghosts same.ghosts fixed.ghosts public.ghosts
    same_signature.ghosts signature.ghosts
