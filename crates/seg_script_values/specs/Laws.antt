-- What the texts are that are read.
use Rattle.std.specs.Prelude.{◌≡◌, ℕ, List, true, false, Some, ◌⊎◌, ◌↔◌}
use Rattle.std.specs.Net.Addr.{octets_of}
use Rattle.std.specs.Net.Grammar.{IsDotted, IsColonHex}
use Rattle.seg_values.specs.Facets.{Tells}
use Rattle.seg_script_values.specs.Addresses.{has_byte, mapped, address_of}
use Rattle.seg_script_values.specs.FacetTexts.{facet_of}

-- four numbers from 0 to 255 without leading zeros, with dots between them: an IPv4-mapped address
abbrev pub IsDottedText : List ℕ → List ℕ → Type 0
IsDottedText text octets = (has_byte 58 text ≡ false) × (numbers : List ℕ)
    × IsDotted text numbers × (octets ≡ mapped numbers)

-- eight segments in hexadecimal digits with colons between them, or fewer and `::` for the others, and no dot
abbrev pub IsColonText : List ℕ → List ℕ → Type 0
IsColonText text octets = (has_byte 58 text ≡ true) × (has_byte 46 text ≡ false) × (segments : List ℕ)
    × IsColonHex text segments × (octets ≡ octets_of segments)

-- a text is read as an address exactly where it is of one of these forms, and as the address that it writes
abbrev pub AddressesAreTexts : Type 0
AddressesAreTexts = (text octets : List ℕ)
    → (address_of text ≡ Some octets) ↔ (IsDottedText text octets ⊎ IsColonText text octets)

-- a text is read as a facet exactly where it tells one, and as that one
abbrev pub PathsAreFacets : Type 0
PathsAreFacets = (path encoded : List ℕ) → (facet_of path ≡ Some encoded) ↔ Tells path encoded
