-- The address that a text tells, as its sixteen octets.
use Rattle.std.specs.Prelude.{ℕ, List, ◌∷◌, Bool, Option, None, option_map, nat_eq, if◌then◌else◌}
use Rattle.std.specs.List.{list_any}
use Rattle.std.specs.Net.Addr.{octets_of, segments_of}
use Rattle.std.specs.Net.Reader.{read_ipv4, read_ipv6, whole_value}

-- a byte is in a text
abbrev pub has_byte : ℕ → List ℕ → Bool
has_byte byte text = list_any (nat_eq byte) text

-- the IPv4-mapped address of four octets
abbrev pub mapped : List ℕ → List ℕ
mapped octets = octets_of (0 ∷ 0 ∷ 0 ∷ 0 ∷ 0 ∷ 0xffff ∷ segments_of octets)

-- four decimal numbers joined by dots
abbrev pub dotted_address : List ℕ → Option (List ℕ)
dotted_address text = option_map mapped (whole_value (read_ipv4 text))

-- eight groups of hexadecimal digits joined by colons, of which `::` stands for some that are zero
abbrev pub colon_address : List ℕ → Option (List ℕ)
colon_address text = option_map octets_of (whole_value (read_ipv6 text))

-- an address of either form; groups that end in dotted numbers are none
abbrev pub address_of : List ℕ → Option (List ℕ)
address_of text = if has_byte 58 text
    then (if has_byte 46 text then None else colon_address text) else dotted_address text
