use Rattle.std.proofs.Common.{◌∙◌, Some, ap, sym, arith}
use Rattle.std.proofs.lemmas.Option.{slice_get-get_or}
use Rattle.seg_tool.proofs.ReadingSteps.{all_printed, none_printed, printed_more, printed_no_more}
use Rattle.seg_tool.proofs.printed_index.print_segments.Goals as goal

pub returns-in-Err : goal.returns-in-Err
returns-in-Err g c =
    let segment = c.index-segments-at.result in
    let here = slice_get-get_or c.args.segments.now c.loop-at.at segment c.loop-at-test.true ∙ ap (λ s. Some s) (sym c.index-segments-at.is) in
    printed_no_more c.args.out.items c.args.label.now c.args.detail c.args.segments.now c.loop-at.at segment here c.loop-at.text.items _ _ _ c.loop-at.invariant c.in-Err.e c.in-Err.ensures

pub loop-at-preserved : goal.loop-at-preserved
loop-at-preserved g c =
    let segment = c.index-segments-at.result in
    let here = slice_get-get_or c.args.segments.now c.loop-at.at segment c.loop-at-test.true ∙ ap (λ s. Some s) (sym c.index-segments-at.is) in
    printed_more c.args.out.items c.args.label.now c.args.detail c.args.segments.now c.loop-at.at segment here c.loop-at.text.items _ _ _ c.loop-at.invariant
    c.print_next.new.out.items c.in-Ok.ensures.0 c.in-Ok.ensures.1 c.in-Ok.ensures.2

pub returns : goal.returns
returns g c =
    all_printed c.args.out.items c.args.label.now c.args.detail c.args.segments.now c.loop-at.at c.loop-at.text.items _ _ (omega (arith, c.loop-at-test.false)) c.loop-at.invariant
