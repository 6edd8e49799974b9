-- Addresses are read by their spelling, which is short.
use Rattle.std.proofs.Common.{◌≤◌, ◌++◌, length, refl, inl, inr, arith}
use Rattle.std.proofs.lemmas.List.{length-append}
use Rattle.p2p_discovery.specs.declared.types.address.Address.{Address}
use Rattle.p2p_discovery.specs.declared.types.address.Address.TheVariants.{Symmetric, Asymmetric}
use Rattle.p2p_discovery.specs.Reading.{◌>>=◌, reads, Lawful}
use Rattle.p2p_discovery.specs.Fields.{◌&◌}
use Rattle.p2p_discovery.specs.Laws.Fields.{lawful_choice, lawful_both, lawful_as}
use Rattle.p2p_discovery.specs.Socket.{socket_at, socket_spelling, IsSocket}
use Rattle.p2p_discovery.specs.Laws.Socket.{lawful_socket, socket_short}
use Rattle.p2p_discovery.specs.Ingress.{ingress_at, ingress_spelling, IsIngress}
use Rattle.p2p_discovery.specs.Laws.Ingress.{lawful_ingress, ingress_short}
use Rattle.p2p_discovery.specs.Address.{dialled_ingress, egress_of, address_at, address_spelling}
use Rattle.p2p_discovery.specs.Address.{IsAddress}

OnlySymmetric : Address → Type 0
OnlySymmetric (Symmetric socket) = IsSocket socket
OnlySymmetric (Asymmetric ingress egress) = ⊥

OnlyAsymmetric : Address → Type 0
OnlyAsymmetric (Symmetric socket) = ⊥
OnlyAsymmetric (Asymmetric ingress egress) = IsIngress ingress × IsSocket egress

lawful_symmetric : Lawful (socket_at >>= λ s. reads (Symmetric s))
    (λ a. socket_spelling (egress_of a)) OnlySymmetric
unfolding OnlySymmetric
lawful_symmetric =
    lawful_as Symmetric egress_of (λ a. socket_spelling (egress_of a)) OnlySymmetric
    (λ s h. (h, refl))
    (elim [ Symmetric s ↦ λ h. (refl, h, refl) | Asymmetric i e ↦ λ h. absurd h ]) lawful_socket

lawful_asymmetric : Lawful ((ingress_at & socket_at) >>= λ p. reads (Asymmetric p.0 p.1))
    (λ a. ingress_spelling (dialled_ingress a) ++ socket_spelling (egress_of a)) OnlyAsymmetric
unfolding OnlyAsymmetric
lawful_asymmetric =
    lawful_as (λ p. Asymmetric p.0 p.1) (λ a. (dialled_ingress a, egress_of a))
    (λ a. ingress_spelling (dialled_ingress a) ++ socket_spelling (egress_of a)) OnlyAsymmetric
    (λ p h. (h, refl))
    (elim [ Asymmetric i e ↦ λ h. (refl, h, refl) | Symmetric s ↦ λ h. absurd h ])
    (lawful_both lawful_ingress lawful_socket)

pub lawful_address : Lawful address_at address_spelling IsAddress
unfolding address_at OnlySymmetric OnlyAsymmetric
lawful_address = lawful_choice 0 1 address_spelling IsAddress refl
    (elim [ Symmetric s ↦ λ h. (h, refl) | Asymmetric i e ↦ λ h. absurd h ])
    (elim [ Asymmetric i e ↦ λ h. (h, refl) | Symmetric s ↦ λ h. absurd h ])
    (elim [ Symmetric s ↦ λ h. inl h | Asymmetric i e ↦ λ h. inr h ])
    lawful_symmetric lawful_asymmetric

pub address_short : (a : Address) → IsAddress a → length (address_spelling a) ≤ 281
address_short (Symmetric s) h = omega (arith, socket_short s h)
address_short (Asymmetric i e) h =
    omega (
      arith,
      ingress_short i h.0,
      socket_short e h.1,
      length-append (ingress_spelling i) (socket_spelling e),
    )
