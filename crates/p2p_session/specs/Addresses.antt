-- What is asked about addresses, without a session.
use Rattle.std.specs.Prelude.{◌≡◌, ℕ, ◌==◌, Bool, List, length, Option, Some, None, if◌then◌else◌}
use Rattle.std.specs.Option.{option_map_or}
use Rattle.p2p_discovery.specs.Global.{is_global}
use Rattle.p2p_discovery.specs.Ingress.{is_valid}
use Rattle.p2p_discovery.specs.Socket.{socket_from}
use Rattle.p2p_discovery.specs.declared.types.ingress.Ingress.TheVariants.{Socket}
use Rattle.p2p_discovery.specs.declared.types.socket.IpAddr.{IpAddr}
use Rattle.p2p_discovery.specs.declared.types.socket.IpAddr.TheVariants.{V4, V6}
use Rattle.p2p_session.specs.Answers.{Answer, truth, refused}
use Rattle.p2p_session.specs.Answers.Answer.{Is}
use Rattle.p2p_session.specs.declared.refusal.Refusal.TheVariants.{BadInfo}

-- the address of these bytes: 4 for version 4, 16 for version 6
abbrev pub address_of : List ℕ → Option IpAddr
address_of bytes =
    if length bytes == 4 then Some (V4 bytes)
    else if length bytes == 16 then Some (V6 bytes) else None

-- whether it is global
abbrev pub TellsGlobal : List ℕ → ℕ → Type 0
TellsGlobal address n =
    Is n ≡ option_map_or (λ ip. truth (is_global ip)) (address_of address) (refused BadInfo)

-- whether an ingress may be dialled: a socket of this address, or a name if there is none
abbrev pub valid_answer : Bool → Bool → List ℕ → Answer
valid_answer private_ips dns address =
    if length address == 0 then truth dns
    else option_map_or (λ ip. truth (is_valid private_ips dns (Socket (socket_from ip 0))))
    (address_of address) (refused BadInfo)

abbrev pub TellsValid : List ℕ → Bool → Bool → ℕ → Type 0
TellsValid address private_ips dns n = Is n ≡ valid_answer private_ips dns address
