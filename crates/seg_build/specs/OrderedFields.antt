-- The terms of a field in byte order, in either of their shapes.
use Rattle.seg_terms.specs.TermEntries.{TermEntries}
use Rattle.seg_build.specs.declared.ordered_field.OrderedField.{OrderedField}
use Rattle.seg_build.specs.declared.ordered_field.OrderedField.TheVariants.{Plain, Json}

-- the terms
abbrev pub ordered_terms : OrderedField → TermEntries
ordered_terms (Plain t) = t
ordered_terms (Json t) = t
