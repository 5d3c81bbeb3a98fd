-- The text of an address of sixteen octets.
use Rattle.std.specs.Prelude.{ℕ, List, [], ◌∷◌, ◌++◌, take, drop, replicate, bytes_eq, if◌then◌else◌}
use Rattle.std.specs.Net.Addr.{segments_of}
use Rattle.std.specs.Net.Text.{ipv4_text, hex_groups_text}

-- an IPv4-mapped address as IPv4, else groups with the longest run of at least two zeros as `::`
abbrev pub address_text : List ℕ → List ℕ
address_text octets =
    if bytes_eq (take 12 octets) (replicate 10 0 ++ 255 ∷ 255 ∷ []) then ipv4_text (drop 12 octets)
    else hex_groups_text (segments_of octets)
