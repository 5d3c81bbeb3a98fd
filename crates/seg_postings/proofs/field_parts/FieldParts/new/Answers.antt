use Rattle.std.proofs.Common.{◌++◌, ap, ◌∙◌, arith}
use Rattle.std.specs.Int.{w64, to_le_bytes}
use Rattle.seg_postings.proofs.FieldSteps.{fresh_parts, fresh_view}
use Rattle.seg_postings.proofs.field_parts.FieldParts.new.Goals as goal

pub invariant_of-result : goal.invariant_of-result
invariant_of-result c =
    rw c.new.ensures.items (fresh_parts c.args.total c.in-Ok.dictionary c.put_u64.new.out.items (omega arith) c.in-Ok.ensures.ok (c.in_ok-put_u64.ensures.ok ∙ ap (λ bs. bs ++ to_le_bytes w64 c.args.total) c.new-postings.ensures.items))

pub returns : goal.returns
returns c =
    rw c.new.ensures.items (fresh_view c.args.field c.args.total c.in-Ok.dictionary c.put_u64.new.out.items (omega arith) c.in-Ok.ensures.ok (c.in_ok-put_u64.ensures.ok ∙ ap (λ bs. bs ++ to_le_bytes w64 c.args.total) c.new-postings.ensures.items))
