-- The text of an address, by its segments.
use Rattle.std.proofs.Common.{◌≡◌, ℕ, ◌+◌, ◌*◌, ◌/◌, ◌%◌, List, [], ◌∷◌, ◌++◌, take, drop, replicate, Bool, true, false, bytes_eq, refl, sym, ap, ◌∙◌, arith}
use Rattle.std.proofs.lemmas.Slice.Eq.{bytes_eq-Decides}
use Rattle.std.specs.Net.Addr.{octets_of, segments_of, IsIpv4Mapped}
use Rattle.std.specs.Net.Text.{ipv4_text, hex_groups_text}
use Rattle.seg_values.specs.AddressText.{address_text}

pub segments_of-octets_of : (ss : List ℕ) → segments_of (octets_of ss) ≡ ss
segments_of-octets_of [] = refl
segments_of-octets_of (s ∷ ss) =
    let e : s / 256 * 256 + s % 256 ≡ s = omega arith in
    rw (e, segments_of-octets_of ss)

front : (ss : List ℕ) → take 12 (octets_of ss) ≡ octets_of (take 6 ss)
front [] = refl
front (a ∷ []) = refl
front (a ∷ b ∷ []) = refl
front (a ∷ b ∷ c ∷ []) = refl
front (a ∷ b ∷ c ∷ d ∷ []) = refl
front (a ∷ b ∷ c ∷ d ∷ e ∷ []) = refl
front (a ∷ b ∷ c ∷ d ∷ e ∷ f ∷ ss) = refl

is_mapped : (ss : List ℕ) → IsIpv4Mapped ss → bytes_eq (take 12 (octets_of ss)) (replicate 10 0 ++ 255 ∷ 255 ∷ []) ≡ true
is_mapped ss is = (bytes_eq-Decides _ _).1 (front ss ∙ ap octets_of is)

only_mapped : (ss : List ℕ) → bytes_eq (take 12 (octets_of ss)) (replicate 10 0 ++ 255 ∷ 255 ∷ []) ≡ true → IsIpv4Mapped ss
only_mapped ss is = sym (segments_of-octets_of (take 6 ss)) ∙ ap segments_of (sym (front ss) ∙ (bytes_eq-Decides (take 12 (octets_of ss)) (replicate 10 0 ++ 255 ∷ 255 ∷ [])).0 is)

pub shown_mapped : (ss os : List ℕ) → IsIpv4Mapped ss → os ≡ drop 12 (octets_of ss) → address_text (octets_of ss) ≡ ipv4_text os
shown_mapped ss os is same = rw (is_mapped ss is, same)

by_test : (ss : List ℕ) (b : Bool) → bytes_eq (take 12 (octets_of ss)) (replicate 10 0 ++ 255 ∷ 255 ∷ []) ≡ b → (IsIpv4Mapped ss → ⊥) → address_text (octets_of ss) ≡ hex_groups_text ss
by_test ss true e other = absurd (other (only_mapped ss e))
by_test ss false e other = rw (e, segments_of-octets_of ss)

pub shown_groups : (ss : List ℕ) → (IsIpv4Mapped ss → ⊥) → address_text (octets_of ss) ≡ hex_groups_text ss
shown_groups ss other = by_test ss _ refl other
