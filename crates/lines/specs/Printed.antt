-- The printed forms of bytes and of addresses.
use Rattle.std.specs.Prelude.{ℕ, ◌/◌, ◌%◌, Bool, true, false, List, [], ◌∷◌, ◌++◌, codes}
use Rattle.std.specs.List.{flat_map}
use Rattle.std.specs.Fmt.{decimal, digits}
use Rattle.std.specs.Net.Addr.{segments_of}
use Rattle.std.specs.Net.Text.{ipv4_text, ipv6_text}
use Rattle.p2p_discovery.specs.declared.codec.test_key.TestKey.{TestKey}
use Rattle.p2p_discovery.specs.declared.codec.test_key.TestSignature.{TestSignature}
use Rattle.p2p_discovery.specs.declared.data.Data.{Data}
use Rattle.p2p_discovery.specs.declared.discovery.BitVec.{BitVec}
use Rattle.p2p_discovery.specs.declared.discovery.Info.{Info}
use Rattle.p2p_discovery.specs.declared.types.address.Address.{Address}
use Rattle.p2p_discovery.specs.declared.types.address.Address.TheVariants.{Symmetric, Asymmetric}
use Rattle.p2p_discovery.specs.declared.types.socket.IpAddr.{IpAddr}
use Rattle.p2p_discovery.specs.declared.types.socket.IpAddr.TheVariants.{V4, V6}
use Rattle.p2p_discovery.specs.declared.types.socket.SocketAddr.{SocketAddr}
use Rattle.p2p_discovery.specs.declared.types.ingress.Ingress.{Ingress}
use Rattle.p2p_discovery.specs.declared.types.ingress.Ingress.TheVariants.{Socket, Dns}
use Rattle.p2p_discovery.specs.Socket.{socket_ip, socket_port}

-- a byte as two hexadecimal digits
abbrev pub hex_byte : ℕ → List ℕ
hex_byte b = digits 16 false (b / 16) ++ digits 16 false (b % 16)

-- each byte in turn, and no bytes as a hyphen
abbrev pub hex_text : List ℕ → List ℕ
hex_text [] = codes "-"
hex_text (b ∷ bytes) = flat_map hex_byte (b ∷ bytes)

-- a truth value as a digit
abbrev pub bit_text : Bool → List ℕ
bit_text true = codes "1"
bit_text false = codes "0"

-- each truth value in turn, and none as a hyphen
abbrev pub bits_text : List Bool → List ℕ
bits_text [] = codes "-"
bits_text (b ∷ bits) = flat_map bit_text (b ∷ bits)

-- version 4 as four numbers with dots between, version 6 in brackets
abbrev pub ip_text : IpAddr → List ℕ
ip_text (V4 octets) = ipv4_text octets
ip_text (V6 octets) = codes "[" ++ ipv6_text (segments_of octets) ++ codes "]"

-- the address, then the port behind a colon
abbrev pub socket_text : SocketAddr → List ℕ
socket_text a = ip_text (socket_ip a) ++ codes ":" ++ decimal (socket_port a)

-- a socket, or a tilde, a name and its port
abbrev pub ingress_text : Ingress → List ℕ
ingress_text (Socket a) = socket_text a
ingress_text (Dns host port) = codes "~" ++ host ++ codes ":" ++ decimal port

-- one socket for both ways, or an ingress and the socket that calls come from
abbrev pub address_text : Address → List ℕ
address_text (Symmetric a) = codes "Symmetric(" ++ socket_text a ++ codes ")"
address_text (Asymmetric ingress egress) =
    codes "Asymmetric(" ++ ingress_text ingress ++ codes ", " ++ socket_text egress ++ codes ")"

-- the key, the timestamp and the ingress, without the signature
abbrev pub info_text : Info TestKey TestSignature → List ℕ
info_text info = codes "Info(" ++ decimal info.public_key.0 ++ codes ", "
    ++ decimal info.timestamp ++ codes ", " ++ ingress_text info.ingress ++ codes ")"

-- the channel and the message
abbrev pub data_text : Data → List ℕ
data_text d = codes "Data(" ++ decimal d.channel ++ codes ", " ++ hex_text d.message
    ++ codes ")"

-- the index and the bits
abbrev pub bit_vec_text : BitVec → List ℕ
bit_vec_text v = codes "BitVec(" ++ decimal v.index ++ codes ", " ++ bits_text v.bits
    ++ codes ")"
