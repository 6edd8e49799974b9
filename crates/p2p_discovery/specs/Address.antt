-- How a peer is reached and from where it connects: equal addresses, and their spelling.
use Rattle.std.specs.Prelude.{ℕ, Bool, false, ◌&&◌, List, ◌∷◌, ◌++◌}
use Rattle.p2p_discovery.specs.declared.types.socket.SocketAddr.{SocketAddr}
use Rattle.p2p_discovery.specs.declared.types.ingress.Ingress.{Ingress}
use Rattle.p2p_discovery.specs.declared.types.ingress.Ingress.TheVariants.{Socket}
use Rattle.p2p_discovery.specs.declared.types.address.Address.{Address}
use Rattle.p2p_discovery.specs.declared.types.address.Address.TheVariants.{Symmetric, Asymmetric}
use Rattle.p2p_discovery.specs.Reading.{Reading, ◌>>=◌, reads}
use Rattle.p2p_discovery.specs.Fields.{◌&◌, choice}
use Rattle.p2p_discovery.specs.Socket.{IsSocket, socket_spelling, socket_at}
use Rattle.p2p_discovery.specs.Ingress.{same_socket, same_ingress, IsIngress, ingress_spelling}
use Rattle.p2p_discovery.specs.Ingress.{ingress_at}

-- the same socket, or the same ingress and egress
abbrev pub same_address : Address → Address → Bool
same_address (Symmetric a) (Symmetric b) = same_socket a b
same_address (Asymmetric ingress egress) (Asymmetric ingress2 egress2) =
    same_ingress ingress ingress2 && same_socket egress egress2
same_address _ _ = false

-- what is dialled
abbrev pub dialled_ingress : Address → Ingress
dialled_ingress (Symmetric socket) = Socket socket
dialled_ingress (Asymmetric ingress egress) = ingress

-- where connections come from
abbrev pub egress_of : Address → SocketAddr
egress_of (Symmetric socket) = socket
egress_of (Asymmetric ingress egress) = egress

-- ---- spelling

abbrev pub IsAddress : Address → Type 0
IsAddress (Symmetric socket) = IsSocket socket
IsAddress (Asymmetric ingress egress) = IsIngress ingress × IsSocket egress

-- 0 and the socket address, or 1, the ingress and the socket address of the egress
abbrev pub address_spelling : Address → List ℕ
address_spelling (Symmetric socket) = 0 ∷ socket_spelling socket
address_spelling (Asymmetric ingress egress) =
    1 ∷ (ingress_spelling ingress ++ socket_spelling egress)

unfoldable pub address_at : List ℕ → Reading Address
address_at = choice
    0 (socket_at >>= λ s. reads (Symmetric s))
    1 ((ingress_at & socket_at) >>= λ p. reads (Asymmetric p.0 p.1))
