-- Addresses are read by their spelling, which is short.
use Rattle.std.proofs.Common.{ℕ, ◌≤◌, List, length, refl, inl, inr, arith}
use Rattle.std.specs.Int.{w16, to_be_bytes}
use Rattle.std.proofs.lemmas.List.{length-append}
use Rattle.p2p_discovery.specs.declared.types.socket.IpAddr.{IpAddr}
use Rattle.p2p_discovery.specs.declared.types.socket.IpAddr.TheVariants.{V4, V6}
use Rattle.p2p_discovery.specs.declared.types.socket.SocketAddr.{SocketAddr}
use Rattle.p2p_discovery.specs.Reading.{◌>>=◌, reads, counted_at, Lawful}
use Rattle.p2p_discovery.specs.Fields.{IsSized}
use Rattle.p2p_discovery.specs.Laws.Fields.{lawful_choice, lawful_both, lawful_as, lawful_counted}
use Rattle.p2p_discovery.specs.Laws.Fields.{lawful_port}
use Rattle.p2p_discovery.specs.Socket.{IsIp, IsSocket, ip_spelling, socket_spelling, ip_at}
use Rattle.p2p_discovery.specs.Socket.{socket_at}

abbrev bytes_of : IpAddr → List ℕ
bytes_of (V4 b) = b
bytes_of (V6 b) = b

IsV4 : IpAddr → Type 0
IsV4 (V4 b) = IsSized 4 b
IsV4 (V6 b) = ⊥

IsV6 : IpAddr → Type 0
IsV6 (V4 b) = ⊥
IsV6 (V6 b) = IsSized 16 b

lawful_v4 : Lawful (counted_at 4 >>= λ b. reads (V4 b)) bytes_of IsV4
unfolding IsV4
lawful_v4 =
    lawful_as V4 bytes_of bytes_of IsV4 (λ b h. (h, refl))
    (elim [ V4 b ↦ λ h. (refl, h, refl) | V6 b ↦ λ h. absurd h ]) (lawful_counted 4)

lawful_v6 : Lawful (counted_at 16 >>= λ b. reads (V6 b)) bytes_of IsV6
unfolding IsV6
lawful_v6 =
    lawful_as V6 bytes_of bytes_of IsV6 (λ b h. (h, refl))
    (elim [ V6 b ↦ λ h. (refl, h, refl) | V4 b ↦ λ h. absurd h ]) (lawful_counted 16)

pub lawful_ip : Lawful ip_at ip_spelling IsIp
unfolding ip_at IsV4 IsV6
lawful_ip = lawful_choice 4 6 ip_spelling IsIp refl
    (elim [ V4 b ↦ λ h. (h, refl) | V6 b ↦ λ h. absurd h ])
    (elim [ V6 b ↦ λ h. (h, refl) | V4 b ↦ λ h. absurd h ])
    (elim [ V4 b ↦ λ h. inl h | V6 b ↦ λ h. inr h ])
    lawful_v4 lawful_v6

pub lawful_socket : Lawful socket_at socket_spelling IsSocket
unfolding socket_at
lawful_socket =
    lawful_as (λ p. record { ip = p.0; port = p.1 }) (λ s. (s.ip, s.port)) socket_spelling IsSocket
    (λ p h. (h, refl)) (λ s h. (refl, h, refl)) (lawful_both lawful_ip lawful_port)

pub ip_short : (ip : IpAddr) → IsIp ip → length (ip_spelling ip) ≤ 17
ip_short (V4 b) h = omega (arith, h.0)
ip_short (V6 b) h = omega (arith, h.0)

pub socket_short : (s : SocketAddr) → IsSocket s → length (socket_spelling s) ≤ 19
socket_short s h =
    omega (arith, ip_short s.ip h.0, length-append (ip_spelling s.ip) (to_be_bytes w16 s.port))
