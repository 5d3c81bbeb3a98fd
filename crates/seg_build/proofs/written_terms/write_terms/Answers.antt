use Rattle.std.proofs.Common.{Some, ◌≡◌, sym, ap, ◌∙◌, subst}
use Rattle.seg_postings.specs.WritablePostings.{AreWritable}
use Rattle.seg_segment.proofs.Exports.{no_terms}
use Rattle.seg_build.specs.FieldTerms.{kind_in, postings_as}
use Rattle.seg_terms.specs.PostingGroups.{grouped}
use Rattle.seg_segment.specs.WrittenTerms.{with_whole_term}
use Rattle.seg_common.specs.WriterGrowth.{HasGrown}
use Rattle.seg_postings.specs.FieldSerializers.{MayOpen}
use Rattle.std.specs.Prelude.{IsSomeAnd}
use Rattle.seg_build.proofs.RecordedForms.{value_there}
use Rattle.seg_build.proofs.WrittenTerms.{may_open, writable_at, term_more}
use Rattle.seg_build.proofs.written_terms.write_terms.Goals as goal

pub loop-at-init : goal.loop-at-init
loop-at-init c = no_terms c.args.writer.now c.requires.unwritten

pub write_term-requires-clause-opens : goal.write_term-requires-clause-opens
write_term-requires-clause-opens c =
    let bytes = c.copy_bytes_at.new.out.items in
    subst (λ bs. IsSomeAnd c.loop-at.writer (λ w. MayOpen w bs)) (sym c.deref-in-loop-at.ensures.value)
    (may_open c.args.terms.now c.requires.writable c.args.writer.now c.loop-at.writer c.loop-at.at c.loop-at.invariant bytes c.in_ok-copy_bytes_at.ensures)

pub write_term-requires-clause-writable : goal.write_term-requires-clause-writable
write_term-requires-clause-writable c =
    let field = c.args.terms.now in
    let bytes = c.copy_bytes_at.new.out.items in
    let hits = grouped c.hits_at.result.now in
    let at = value_there field.asked field.terms c.loop-at.at bytes hits c.in_ok-copy_bytes_at.ensures c.hits_at.ensures in
    let kind_is = c.kind_of-kind.ensures ∙ ap (kind_in field.asked) c.deref.ensures.value in
    subst (λ k. AreWritable k 0 0 (postings_as k hits)) (sym kind_is) (writable_at field c.requires.writable c.loop-at.at bytes (postings_as (kind_in field.asked bytes) hits) c.in_ok-copy_bytes_at.ensures at)

pub loop-at-preserved : goal.loop-at-preserved
loop-at-preserved c =
    let field = c.args.terms.now in
    let bytes = c.copy_bytes_at.new.out.items in
    let hits = grouped c.hits_at.result.now in
    let at = value_there field.asked field.terms c.loop-at.at bytes hits c.in_ok-copy_bytes_at.ensures c.hits_at.ensures in
    let kind = c.kind_of-kind.result in
    let kind_is : kind ≡ kind_in field.asked bytes = c.kind_of-kind.ensures ∙ ap (kind_in field.asked) c.deref.ensures.value in
    let grown = subst (λ bs. HasGrown c.loop-at.writer c.write_term.new.writer (with_whole_term bs (postings_as kind hits))) c.deref-in-loop-at.ensures.value c.in_ok-write_term.ensures in
    term_more field c.requires.writable c.args.writer.now c.loop-at.writer c.loop-at.at c.loop-at.invariant bytes (postings_as kind hits) c.in_ok-copy_bytes_at.ensures
    (at ∙ ap (λ k. Some (postings_as k hits)) (sym kind_is)) c.write_term.new.writer grown
