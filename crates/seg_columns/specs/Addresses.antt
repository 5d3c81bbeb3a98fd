-- Addresses by their bytes.
use Rattle.std.specs.Prelude.{ℕ, List, Option, Some, replicate}
use Rattle.std.specs.Net.Addr.{segments_of}
use Rattle.std.specs.declared.net.ipv6_addr.Ipv6Addr.{Ipv6Addr}

-- the address with these sixteen bytes, the highest first
abbrev pub address_of : List ℕ → Ipv6Addr
address_of bytes = record { segments = segments_of bytes }

-- any sixteen bytes are an address
abbrev pub address : List ℕ → Option Ipv6Addr
address bytes = Some (address_of bytes)

-- `::`
abbrev pub unspecified : Ipv6Addr
unspecified = address_of (replicate 16 0)
