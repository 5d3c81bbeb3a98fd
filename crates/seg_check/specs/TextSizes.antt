-- How much texts take of what is limited, in numbers that stay at the end of a u64.
use Rattle.std.specs.Prelude.{◌+◌, List, Bool, Option, Some, None, if◌then◌else◌}
use Rattle.std.specs.List.{list_all}
use Rattle.seg_tokens.specs.declared.token.Token.{Token}
use Rattle.seg_model.specs.DocumentCheck.{is_rising, count_of}
use Rattle.seg_model.specs.Occurrences.{counted, start_after_all}
use Rattle.seg_model.specs.SaturatedNumbers.{saturated}
use Rattle.seg_check.specs.declared.size.TextSize.{TextSize}

-- the size of some texts: how far their running start goes, and how many tokens they have
abbrev pub size_of : List (List Token) → TextSize
size_of texts = record { width = saturated (start_after_all 0 texts); tokens = saturated (count_of texts) }

-- both sizes in one
abbrev pub plus : TextSize → TextSize → TextSize
plus a b = record { width = saturated (a.width + b.width); tokens = saturated (a.tokens + b.tokens) }

-- whether positions never decrease in each text
abbrev pub all_rise : List (List Token) → Bool
all_rise texts = list_all (λ tokens. is_rising (counted tokens)) texts

-- both sizes in one, where there are two
abbrev pub both : Option TextSize → Option TextSize → Option TextSize
both None b = None
both (Some a) None = None
both (Some a) (Some b) = Some (plus a b)

-- the size of texts in which positions never decrease
abbrev pub measured : List (List Token) → Option TextSize
measured texts = if all_rise texts then Some (size_of texts) else None
