use Rattle.std.proofs.Common.{◌≡◌, ◌+◌, Some, sym, ap, ◌∙◌, subst}
use Rattle.std.specs.Prelude.{IfOk}
use Rattle.seg_model.specs.DocumentCheck.{has_no_zero}
use Rattle.seg_paths.specs.Nodes.{IsPart}
use Rattle.seg_paths.specs.Paths.{below, number_of}
use Rattle.seg_paths.proofs.KeyCuts.{cut_nowhere, cut_step, cut_there}
use Rattle.seg_paths.proofs.PathNumbers.{extends-trans, number-read}
use Rattle.seg_paths.proofs.ZeroFreeKeys.{no_zero-drop}
use Rattle.seg_paths.proofs.path_table.PathTable.add_key.Goals as goal

pub add_part-requires-clause-part : goal.add_part-requires-clause-part
add_part-requires-clause-part c =
    subst IsPart (sym c.split_at.ensures.front) (cut_there c.args.expand_dots c.loop-end.rest.now c.in-Some.end
    c.loop-end.invariant.plain (sym c.in-Some.ensures)).1

pub loop-end-preserved : goal.loop-end-preserved
loop-end-preserved c =
    let e = c.args.expand_dots in
    let old = c.loop-end.self in
    let new = c.add_part.new.self in
    let number = c.in_ok-number.ensures.number in
    record {
      extends = extends-trans c.args.self.now old new c.loop-end.invariant.extends c.add_part.ensures.extends;
      above = (number-read new (below old c.loop-end.place c.split_at.result.0.now) c.in_ok-number.number number).0;
      plain = ap has_no_zero c.split_at-in-Some.ensures.back
          ∙ no_zero-drop (c.in-Some.end + 1) c.loop-end.rest.now c.loop-end.invariant.plain;
      same = cut_step e old new c.loop-end.place c.loop-end.rest.now c.split_at.result.0.now
          c.split_at-in-Some.result.1.now c.in-Some.end c.in_ok-number.number
          c.loop-end.invariant.plain (sym c.in-Some.ensures) c.split_at.ensures.front c.split_at-in-Some.ensures.back number
          ∙ c.loop-end.invariant.same;
    }

pub add_part-requires-2-clause-part : goal.add_part-requires-2-clause-part
add_part-requires-2-clause-part c = (cut_nowhere c.args.expand_dots c.loop-end.rest.now c.loop-end.invariant.plain (sym c.in_default.ensures)).0

pub returns-clause-number : goal.returns-clause-number
returns-clause-number c =
    let old = c.loop-end.self in
    let plain = (cut_nowhere c.args.expand_dots c.loop-end.rest.now c.loop-end.invariant.plain (sym c.in_default.ensures)).1 in
    subst (λ path. IfOk c.add_part-2.result (λ n. number_of c.add_part-2.new.self path
    ≡ Some n)) (ap (below old c.loop-end.place) (sym plain) ∙ c.loop-end.invariant.same) c.add_part-2.ensures.number
