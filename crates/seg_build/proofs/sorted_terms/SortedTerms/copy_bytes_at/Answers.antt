use Rattle.std.proofs.Common.{arith}
use Rattle.std.proofs.lemmas.Result.{IfOk-weaker}
use Rattle.seg_build.specs.OrderedFields.{ordered_terms}
use Rattle.seg_build.proofs.RecordedForms.{as_many, bytes_of_place}
use Rattle.seg_build.proofs.sorted_terms.SortedTerms.copy_bytes_at.Goals as goal

pub copy_bytes_at-requires : goal.copy_bytes_at-requires
copy_bytes_at-requires c =
    let many = as_many c.self.inside.asked (ordered_terms c.self.inside.terms) c.args.self.now c.self.view_is in
    omega (arith, c.requires, many)

pub returns : goal.returns
returns c =
    let inside = c.self.inside in
    let bytes = c.copy_bytes_at.new.out.items in
    IfOk-weaker c.copy_bytes_at.result _ _ (λ _ at.
    bytes_of_place inside.asked (ordered_terms inside.terms) c.args.self.now c.self.view_is c.args.index bytes at) c.copy_bytes_at.ensures
