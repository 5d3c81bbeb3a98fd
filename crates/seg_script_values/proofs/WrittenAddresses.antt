-- Addresses as texts write them.
use Rattle.std.proofs.Common.{◌≡◌, ℕ, List, [], ◌∷◌, ◌⊎◌, Bool, true, false, cond, inl, inr, Option, Some, None, option_map, length, refl, sym, ap, ◌∙◌, subst, append-nil, lit≤, ne_eqb, arith}
use Rattle.std.specs.Prelude.{◌↔◌}
use Rattle.std.proofs.lemmas.Bool.{true≢false}
use Rattle.std.proofs.lemmas.Option.{none-some, same_Some}
use Rattle.std.specs.declared.net.ipv4_addr.Ipv4Addr.{Ipv4Addr}
use Rattle.std.specs.declared.net.ipv6_addr.Ipv6Addr.{Ipv6Addr}
use Rattle.std.specs.Net.Addr.{octets_of}
use Rattle.std.specs.Net.Grammar.{IsDotted, IsColonHex, IsIpv4Text, IsIpv6Text}
use Rattle.std.specs.Net.Reader.{Read, whole_value, read_ipv4, read_ipv6}
use Rattle.std.proofs.NetLemmas.Options.{map_some}
use Rattle.std.proofs.NetLemmas.Ipv4.{read_ipv4_complete, read_ipv4_sound}
use Rattle.std.proofs.NetLemmas.Ipv6.{read_ipv6_complete, read_ipv6_sound, EndsGroups-nil}
use Rattle.seg_script_values.specs.Addresses.{has_byte, mapped, dotted_address, colon_address}
use Rattle.seg_script_values.specs.Laws.{IsDottedText, IsColonText, AddressesAreTexts}

-- nothing is left where a whole text was read
whole_at : {A : Type 0} (b : A) (rest : List ℕ) (a : A) → whole_value (Some (b, rest)) ≡ Some a → ◌≡◌ {A = Option (A × List ℕ)} (Some (b, rest)) (Some (a, []))
whole_at b [] a h = ap (λ x. Some (x, [])) (same_Some b a h)
whole_at b (c ∷ rest) a h = absurd (none-some a (rw (ne_eqb (length (c ∷ rest)) 0 (omega arith)) at h))

whole : {A : Type 0} (r : Read A) (a : A) → whole_value r ≡ Some a → r ≡ Some (a, [])
whole None a h = absurd (none-some a h)
whole (Some p) a h = whole_at p.0 p.1 a h

dotted_sound : (text octets : List ℕ) → whole_value (read_ipv4 text) ≡ Some octets → IsDotted text octets
dotted_sound text octets h =
    let (front, split, dotted) = read_ipv4_sound text octets [] (whole (read_ipv4 text) octets h) in
    subst (λ t. IsDotted t octets) (sym (split ∙ append-nil front)) dotted

colon_sound : (text segments : List ℕ) → whole_value (read_ipv6 text) ≡ Some segments → IsColonHex text segments
colon_sound text segments h =
    let (front, split, groups) = read_ipv6_sound text segments [] (whole (read_ipv6 text) segments h) in
    subst (λ t. IsColonHex t segments) (sym (split ∙ append-nil front)) groups

-- dotted numbers are read
pub dotted_complete : (text octets : List ℕ) → IsDotted text octets → whole_value (read_ipv4 text) ≡ Some octets
dotted_complete text octets h =
    ap whole_value (subst (λ t. read_ipv4 t ≡ Some (octets, [])) (append-nil text) (read_ipv4_complete text octets [] h (lit≤ tt)))

-- and so are groups between colons
pub colon_complete : (text segments : List ℕ) → IsColonHex text segments → whole_value (read_ipv6 text) ≡ Some segments
colon_complete text segments h =
    ap whole_value (subst (λ t. read_ipv6 t ≡ Some (segments, [])) (append-nil text) (read_ipv6_complete text segments [] h EndsGroups-nil))

-- a text that writes no address is read as none
pub not_dotted : (text : List ℕ) → ((a : Ipv4Addr) → ¬ (IsIpv4Text text a)) → whole_value (read_ipv4 text) ≡ None
not_dotted text h = by (whole_value (read_ipv4 text)) refl
  where
    by : (o : Option (List ℕ)) → whole_value (read_ipv4 text) ≡ o → o ≡ None
    by None e = refl
    by (Some octets) e = absurd (h (record { octets = octets }) (dotted_sound text octets e))

pub not_groups : (text : List ℕ) → ((a : Ipv6Addr) → ¬ (IsIpv6Text text a)) → whole_value (read_ipv6 text) ≡ None
not_groups text h = by (whole_value (read_ipv6 text)) refl
  where
    by : (o : Option (List ℕ)) → whole_value (read_ipv6 text) ≡ o → o ≡ None
    by None e = refl
    by (Some segments) e = absurd (h (record { segments = segments }) (colon_sound text segments e))

abbrev Either : List ℕ → List ℕ → Type 0
Either text octets = IsDottedText text octets ⊎ IsColonText text octets

to_dotted : (text octets : List ℕ) → has_byte 58 text ≡ false → dotted_address text ≡ Some octets → Either text octets
to_dotted text octets none h =
    map_some mapped (whole_value (read_ipv4 text)) octets h λ numbers is same. inl (none, numbers, dotted_sound text numbers is, sym same)

to_colon : (text octets : List ℕ) → has_byte 58 text ≡ true → has_byte 46 text ≡ false → colon_address text ≡ Some octets → Either text octets
to_colon text octets there none h =
    map_some octets_of (whole_value (read_ipv6 text)) octets h λ segments is same. inr (there, none, segments, colon_sound text segments is, sym same)

from_dotted : (text octets : List ℕ) → has_byte 58 text ≡ false → Either text octets → dotted_address text ≡ Some octets
from_dotted text octets none (inl h) = ap (option_map mapped) (dotted_complete text h.1 h.2) ∙ ap Some (sym h.3)
from_dotted text octets none (inr h) = absurd (true≢false (sym h.0 ∙ none))

from_colon : (text octets : List ℕ) → has_byte 58 text ≡ true → Either text octets → colon_address text ≡ Some octets
from_colon text octets there (inl h) = absurd (true≢false (sym there ∙ h.0))
from_colon text octets there (inr h) = ap (option_map octets_of) (colon_complete text h.2 h.3) ∙ ap Some (sym h.4)

never_both : (text octets : List ℕ) → has_byte 58 text ≡ true → has_byte 46 text ≡ true → Either text octets → None ≡ Some octets
never_both text octets colon dot (inl h) = absurd (true≢false (sym colon ∙ h.0))
never_both text octets colon dot (inr h) = absurd (true≢false (sym dot ∙ h.1))

pub addresses_are_texts : AddressesAreTexts
addresses_are_texts text octets = by (has_byte 58 text) (has_byte 46 text) refl refl
  where
    by : (c d : Bool) → has_byte 58 text ≡ c → has_byte 46 text ≡ d → (cond c (cond d None (colon_address text)) (dotted_address text) ≡ Some octets) ↔ Either text octets
    by false d none h = (to_dotted text octets none, from_dotted text octets none)
    by true false there none = (to_colon text octets there none, from_colon text octets there)
    by true true there dot = (λ h. absurd (none-some octets h), never_both text octets there dot)
