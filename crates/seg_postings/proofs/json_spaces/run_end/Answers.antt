use Rattle.std.proofs.Common.{◌∙◌, sym, ap, arith}
use Rattle.std.specs.Str.{bytes_eq}
use Rattle.seg_postings.specs.JsonSpaces.{path_and_type}
use Rattle.seg_postings.proofs.SpaceTerms.{run_goes_on, run_stops}
use Rattle.seg_postings.proofs.json_spaces.run_end.Goals as goal

pub returns-then-not-begins_with : goal.returns-then-not-begins_with
returns-then-not-begins_with c =
    run_stops c.args.terms.now c.loop-place.place _ c.copy_key.new.key.items c.args.head.now (omega (arith, c.loop-place-test.true, c.num_terms-place-end.ensures)) c.in_ok-copy_key.ensures c.loop-place.invariant
    (ap (λ k. bytes_eq (path_and_type k) c.args.head.now) (sym c.deref.ensures.value) ∙ sym c.if-not-begins_with.ensures)

pub loop-place-preserved : goal.loop-place-preserved
loop-place-preserved c =
    run_goes_on c.args.terms.now c.loop-place.place _ c.copy_key.new.key.items c.args.head.now (omega (arith, c.loop-place-test.true, c.num_terms-place-end.ensures)) c.in_ok-copy_key.ensures c.loop-place.invariant
    (ap (λ k. bytes_eq (path_and_type k) c.args.head.now) (sym c.deref.ensures.value) ∙ sym c.if-not-begins_with.ensures)
