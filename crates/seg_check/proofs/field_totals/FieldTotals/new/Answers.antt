use Rattle.seg_check.proofs.field_totals.FieldTotals.new.Goals as goal

pub returns : goal.returns
returns c entry analyze = record { whole = c.none.ensures; paths = λ json. c.new.ensures analyze }
