use Rattle.std.proofs.Common.{◌≡◌, map, length, sym, refl, arith}
use Rattle.std.specs.Prelude.{slice_index}
use Rattle.std.proofs.lemmas.Bool.Decides.{nat_tests}
use Rattle.std.proofs.lemmas.List.{get_or-map}
use Rattle.std.proofs.lemmas.Result.{on_ok_weaker}
use Rattle.seg_segment.proofs.Exports.{all_given, has_whole_term, may_begin, may_end, none_given}
use Rattle.seg_terms.specs.declared.hit.Hit.{Hit}
use Rattle.seg_build.specs.FieldTerms.{postings_as}
use Rattle.seg_terms.specs.PostingGroups.{grouped}
use Rattle.seg_build.proofs.WrittenHits.{are_of_term, none_left, run_of, run_taken, run_kept, run_more}
use Rattle.seg_build.proofs.written_terms.write_term.Goals as goal

pub loop-rest-init : goal.loop-rest-init
loop-rest-init c =
    let all = postings_as c.args.kind (grouped c.args.hits.now) in
    none_given c.args.bytes.now c.args.writer.now all (may_begin c.args.bytes.now all (are_of_term c.args.kind all c.requires.writable) c.args.writer.now c.requires.opens)

pub write_run-requires-clause-kept : goal.write_run-requires-clause-kept
write_run-requires-clause-kept c =
    let all = postings_as c.args.kind (grouped c.args.hits.now) in
    let may = may_begin c.args.bytes.now all (are_of_term c.args.kind all c.requires.writable) c.args.writer.now c.requires.opens in
    let first = slice_index (map (λ (h : Hit). h.document) c.loop-rest.rest.now) 0 in
    run_kept c.args.kind c.args.bytes.now c.args.writer.now c.loop-rest.writer c.args.hits.now c.loop-rest.rest.now may c.loop-rest.invariant c.split_at.result.0.now c.split_at.result.1.now first
    (run_of c.args.kind c.loop-rest.rest.now c.split_at.result.0.now c.split_at.result.1.now c.first_run.result first c.first_run.ensures c.split_at.ensures.front c.split_at.ensures.back refl) c.requires.writable

pub write_run-requires-clause-takes : goal.write_run-requires-clause-takes
write_run-requires-clause-takes c =
    let all = postings_as c.args.kind (grouped c.args.hits.now) in
    let may = may_begin c.args.bytes.now all (are_of_term c.args.kind all c.requires.writable) c.args.writer.now c.requires.opens in
    run_taken c.args.kind c.args.bytes.now c.args.writer.now c.loop-rest.writer c.args.hits.now c.loop-rest.rest.now may c.loop-rest.invariant c.split_at.result.0.now c.split_at.result.1.now _
    (run_of c.args.kind c.loop-rest.rest.now c.split_at.result.0.now c.split_at.result.1.now c.first_run.result _ c.first_run.ensures c.split_at.ensures.front c.split_at.ensures.back (sym (get_or-map (λ (h : Hit). h.document) c.loop-rest.rest.now 0 _ 0 (omega arith))))

pub loop-rest-preserved : goal.loop-rest-preserved
loop-rest-preserved c =
    let all = postings_as c.args.kind (grouped c.args.hits.now) in
    let may = may_begin c.args.bytes.now all (are_of_term c.args.kind all c.requires.writable) c.args.writer.now c.requires.opens in
    run_more c.args.kind c.args.bytes.now c.args.writer.now c.loop-rest.writer c.args.hits.now c.loop-rest.rest.now may c.loop-rest.invariant c.split_at.result.0.now c.split_at.result.1.now _
    (run_of c.args.kind c.loop-rest.rest.now c.split_at.result.0.now c.split_at.result.1.now c.first_run.result _ c.first_run.ensures c.split_at.ensures.front c.split_at.ensures.back (sym (get_or-map (λ (h : Hit). h.document) c.loop-rest.rest.now 0 _ 0 (omega arith))))
    c.write_run.new.writer c.in_ok-write_run.ensures

pub end_term-requires : goal.end_term-requires
end_term-requires c =
    let all = postings_as c.args.kind (grouped c.args.hits.now) in
    let are = are_of_term c.args.kind all c.requires.writable in
    let may = may_begin c.args.bytes.now all are c.args.writer.now c.requires.opens in
    let over : length c.loop-rest.rest.now ≡ 0 = grind (arith, nat_tests) in
    may_end c.args.bytes.now all are c.args.writer.now c.loop-rest.writer (all_given c.args.bytes.now c.args.writer.now all may c.loop-rest.writer (postings_as c.args.kind (grouped c.loop-rest.rest.now)) c.loop-rest.invariant (none_left c.args.kind c.loop-rest.rest.now over))

pub returns : goal.returns
returns c =
    let all = postings_as c.args.kind (grouped c.args.hits.now) in
    let are = are_of_term c.args.kind all c.requires.writable in
    let may = may_begin c.args.bytes.now all are c.args.writer.now c.requires.opens in
    let over : length c.loop-rest.rest.now ≡ 0 = grind (arith, nat_tests) in
    on_ok_weaker c.end_term.result
    (has_whole_term c.args.bytes.now all are c.args.writer.now c.loop-rest.writer (all_given c.args.bytes.now c.args.writer.now all may c.loop-rest.writer (postings_as c.args.kind (grouped c.loop-rest.rest.now)) c.loop-rest.invariant (none_left c.args.kind c.loop-rest.rest.now over)) c.requires.opens c.end_term.new.self)
    c.end_term.ensures
