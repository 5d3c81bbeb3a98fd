use Rattle.seg_column_merge_parts.proofs.NumberTypes.{type_of_rows}
use Rattle.seg_column_merge_parts.proofs.RangeLaws.{signed_large, signed_negative, signed_some, unsigned_large, unsigned_negative, unsigned_some}
use Rattle.seg_column_merge_parts.proofs.laws.ranges_tell_types.Goals as goal

pub returns-clause-types : goal.returns-clause-types
returns-clause-types c = λ range rows large negative. type_of_rows range rows large negative

pub returns-clause-signed : goal.returns-clause-signed
returns-clause-signed c = λ range zs. (signed_some range zs, signed_negative range zs, signed_large range zs)

pub returns-clause-unsigned : goal.returns-clause-unsigned
returns-clause-unsigned c = λ range ns. (unsigned_some range ns, unsigned_negative range ns, unsigned_large range ns)
