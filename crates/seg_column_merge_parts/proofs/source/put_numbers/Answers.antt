use Rattle.std.proofs.Common.{◌++◌, ap, subst, ◌∙◌}
use Rattle.std.specs.Prelude.{All}
use Rattle.std.specs.List.{flat_map}
use Rattle.std.specs.Int.{w64, to_le_bytes}
use Rattle.std.proofs.lemmas.List.Elements.{All-head, All-rest}
use Rattle.seg_column_merge_parts.specs.SourceRows.{CanMap, number_code}
use Rattle.seg_column_merge_parts.proofs.JoinedBytes.{put_next}
use Rattle.seg_column_merge_parts.proofs.source.put_numbers.Goals as goal

pub of-requires : goal.of-requires
of-requires c =
    All-head (CanMap c.args.written.now) c.in-Some.number c.next.new.self
    (subst (All (CanMap c.args.written.now)) c.in-Some.ensures.steps c.loop-number.invariant.left)

pub loop-number-preserved : goal.loop-number-preserved
loop-number-preserved c =
    let so_far = c.loop-number.invariant in
    let written = c.args.written.now in
    let old = c.loop-number.number-iterator in
    let new = c.next.new.self in
    let out = c.loop-number.out.items in
    record {
      can = tt;
      finite = tt;
      left = All-rest (CanMap written) c.in-Some.number new old c.in-Some.ensures.steps so_far.left;
      all = put_next (number_code written) out
          (c.args.out.now.items ++ flat_map (number_code written) c.args.numbers) old new
          c.in-Some.number c.put_u64.new.out.items c.in-Some.ensures.steps
          (c.in_ok-put_u64.ensures.ok ∙ ap (λ n. out ++ to_le_bytes w64 n) c.of.ensures) so_far.all;
    }
