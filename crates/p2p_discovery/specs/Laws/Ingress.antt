-- Ingresses are read by their spelling, which is short.
use Rattle.std.proofs.Common.{ℕ, ◌≤◌, ◌<◌, ◌^◌, List, [], ◌++◌, length, refl, inl, inr, arith}
use Rattle.std.specs.Int.{w16, to_be_bytes}
use Rattle.std.proofs.lemmas.List.{length-append}
use Rattle.p2p_discovery.specs.declared.types.socket.IpAddr.TheVariants.{V4}
use Rattle.p2p_discovery.specs.declared.types.socket.SocketAddr.{SocketAddr}
use Rattle.p2p_discovery.specs.declared.types.ingress.Ingress.{Ingress}
use Rattle.p2p_discovery.specs.declared.types.ingress.Ingress.TheVariants.{Socket, Dns}
use Rattle.p2p_discovery.specs.Reading.{◌>>=◌, reads, Lawful}
use Rattle.p2p_discovery.specs.Fields.{◌&◌, port_at}
use Rattle.p2p_discovery.specs.Laws.Fields.{lawful_choice, lawful_both, lawful_as, lawful_port}
use Rattle.p2p_discovery.specs.Socket.{socket_at, socket_spelling, IsSocket}
use Rattle.p2p_discovery.specs.Laws.Socket.{lawful_socket, socket_short}
use Rattle.p2p_discovery.specs.Hostname.{hostname_at, hostname_spelling, IsHostname}
use Rattle.p2p_discovery.specs.Laws.Hostname.{lawful_hostname, hostname_short}
use Rattle.p2p_discovery.specs.Ingress.{ingress_at, ingress_spelling, IsIngress}

socket_of : Ingress → SocketAddr
socket_of (Socket s) = s
socket_of (Dns host port) = record { ip = V4 []; port = 0 }

dns_of : Ingress → List ℕ × ℕ
dns_of (Socket s) = ([], 0)
dns_of (Dns host port) = (host, port)

OnlySocket : Ingress → Type 0
OnlySocket (Socket s) = IsSocket s
OnlySocket (Dns host port) = ⊥

OnlyDns : Ingress → Type 0
OnlyDns (Socket s) = ⊥
OnlyDns (Dns host port) = IsHostname host × (port < 2 ^ 16)

lawful_socket_form : Lawful (socket_at >>= λ s. reads (Socket s))
    (λ i. socket_spelling (socket_of i)) OnlySocket
unfolding OnlySocket socket_of
lawful_socket_form =
    lawful_as Socket socket_of (λ i. socket_spelling (socket_of i)) OnlySocket (λ s h. (h, refl))
    (elim [ Socket s ↦ λ h. (refl, h, refl) | Dns host port ↦ λ h. absurd h ]) lawful_socket

lawful_dns_form : Lawful ((hostname_at & port_at) >>= λ p. reads (Dns p.0 p.1))
    (λ i. hostname_spelling (dns_of i).0 ++ to_be_bytes w16 (dns_of i).1) OnlyDns
unfolding OnlyDns dns_of
lawful_dns_form =
    lawful_as (λ p. Dns p.0 p.1) dns_of
    (λ i. hostname_spelling (dns_of i).0 ++ to_be_bytes w16 (dns_of i).1) OnlyDns (λ p h. (h, refl))
    (elim [ Dns host port ↦ λ h. (refl, h, refl) | Socket s ↦ λ h. absurd h ])
    (lawful_both lawful_hostname lawful_port)

pub lawful_ingress : Lawful ingress_at ingress_spelling IsIngress
unfolding ingress_at OnlySocket OnlyDns socket_of dns_of
lawful_ingress = lawful_choice 0 1 ingress_spelling IsIngress refl
    (elim [ Socket s ↦ λ h. (h, refl) | Dns host port ↦ λ h. absurd h ])
    (elim [ Dns host port ↦ λ h. (h, refl) | Socket s ↦ λ h. absurd h ])
    (elim [ Socket s ↦ λ h. inl h | Dns host port ↦ λ h. inr h ])
    lawful_socket_form lawful_dns_form

pub ingress_short : (i : Ingress) → IsIngress i → length (ingress_spelling i) ≤ 261
ingress_short (Socket s) h = omega (arith, socket_short s h)
ingress_short (Dns host port) h =
    omega
    (arith, hostname_short host h.0, length-append (hostname_spelling host) (to_be_bytes w16 port))
