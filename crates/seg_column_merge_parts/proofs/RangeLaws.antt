-- What the ranges of numbers tell of all of them.
use Rattle.std.proofs.Common.{◌≡◌, ℕ, ℤ, Bool, true, false, ◌||◌, List, [], ◌∷◌, refl, sym, ◌∙◌}
use Rattle.std.specs.List.{list_any}
use Rattle.std.specs.Int.{is_negative}
use Rattle.std.proofs.Math.Bool.{or_assoc}
use Rattle.std.proofs.Math.Bool.{or-true}
use Rattle.seg_column_merge_parts.specs.declared.number_range.NumberRange.{NumberRange}
use Rattle.seg_column_merge_parts.specs.KeptColumns.{there}
use Rattle.seg_column_merge_parts.specs.NumberRanges.{is_large, with_all, with_signed, with_unsigned}

or_false : (a : Bool) → a ≡ (a || false)
or_false true = refl
or_false false = refl

-- ---- signed numbers

pub signed_some : (range : NumberRange) (zs : List ℤ)
    → (with_all with_signed range zs).some ≡ (range.some || list_any there zs)
signed_some range [] = or_false range.some
signed_some range (z ∷ zs) = signed_some (with_signed range z) zs ∙ sym (or-true range.some)

pub signed_negative : (range : NumberRange) (zs : List ℤ)
    → (with_all with_signed range zs).negative ≡ (range.negative || list_any is_negative zs)
signed_negative range [] = or_false range.negative
signed_negative range (z ∷ zs) =
    signed_negative (with_signed range z) zs ∙ or_assoc range.negative (is_negative z) (list_any is_negative zs)

pub signed_large : (range : NumberRange) (zs : List ℤ) → (with_all with_signed range zs).large ≡ range.large
signed_large range [] = refl
signed_large range (z ∷ zs) = signed_large (with_signed range z) zs

-- ---- unsigned numbers

pub unsigned_some : (range : NumberRange) (ns : List ℕ)
    → (with_all with_unsigned range ns).some ≡ (range.some || list_any there ns)
unsigned_some range [] = or_false range.some
unsigned_some range (n ∷ ns) = unsigned_some (with_unsigned range n) ns ∙ sym (or-true range.some)

pub unsigned_negative : (range : NumberRange) (ns : List ℕ)
    → (with_all with_unsigned range ns).negative ≡ range.negative
unsigned_negative range [] = refl
unsigned_negative range (n ∷ ns) = unsigned_negative (with_unsigned range n) ns

pub unsigned_large : (range : NumberRange) (ns : List ℕ)
    → (with_all with_unsigned range ns).large ≡ (range.large || list_any is_large ns)
unsigned_large range [] = or_false range.large
unsigned_large range (n ∷ ns) =
    unsigned_large (with_unsigned range n) ns ∙ or_assoc range.large (is_large n) (list_any is_large ns)
