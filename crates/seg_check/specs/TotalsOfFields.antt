-- What came in a field, or at a joined path of one.
use Rattle.std.specs.Prelude.{ℕ, ◌+◌, List, [], Bool, ◌&&◌}
use Rattle.seg_tokens.specs.declared.token.Token.{Token}
use Rattle.seg_model.specs.DocumentCheck.{is_u32}
use Rattle.seg_model.specs.SaturatedNumbers.{saturated}
use Rattle.seg_check.specs.TextSizes.{size_of, plus}
use Rattle.seg_check.specs.declared.size.TextSize.{TextSize}
use Rattle.seg_check.specs.declared.totals.Totals.{Totals}

-- this many values, with these texts
abbrev pub totals_of : ℕ → List (List Token) → Totals
totals_of count texts = record { size = size_of texts; count = saturated count }

-- before any value
abbrev pub no_totals : Totals
no_totals = totals_of 0 []

-- after one more value
abbrev pub with_more : Totals → TextSize → Totals
with_more t size = record { size = plus t.size size; count = saturated (t.count + 1) }

-- each number fits a u32
abbrev pub totals_fit : Totals → Bool
totals_fit t = is_u32 t.size.width && (is_u32 t.size.tokens && is_u32 t.count)
