use Rattle.seg_values.specs.NameSearch.{NoPartFrom}
use Rattle.seg_values.proofs.schema.Schema.find_field_with_default.Given as goal

abbrev pub invariant-loop-at : goal.invariant-loop-at
invariant-loop-at l = NoPartFrom l.self l.name l.at
