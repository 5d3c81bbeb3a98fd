use Rattle.std.proofs.Common.{◌≡◌, ℕ, ◌+◌, ◌^◌, ◌<◌, ◌≤◌, ◌∷◌, None, drop, get_or, length, map, ap, subst, ◌∙◌, arith}
use Rattle.std.proofs.lemmas.List.{drop_all, drop_more}
use Rattle.std.proofs.lemmas.Result.{IfOk-weaker}
use Rattle.seg_column_format.specs.FileBytes.{file_bytes}
use Rattle.seg_column_merge.specs.MergedBytes.{places_of}
use Rattle.seg_column_merge.specs.MergedColumns.{IsMerged, required_key}
use Rattle.seg_column_merge.specs.Plans.{ArePlanned}
use Rattle.seg_column_merge.specs.declared.planned_group.PlannedGroup.{PlannedGroup}
use Rattle.seg_column_merge.proofs.FinishedFiles.{merged, nothing_yet}
use Rattle.seg_column_merge.proofs.PutGroups.{kinds_decided, put_more}
use Rattle.seg_column_merge.proofs.sorted_merge.put_groups.Goals as goal

pub loop-group-init : goal.loop-group-init
loop-group-init c = record {
  so_far = nothing_yet c.args.merge.now c.requires.merge c.args.table.now c.requires.table c.in_ok-file.file
      c.in_ok-file.ensures;
  left = c.requires.planned;
}

pub loop-group-preserved : goal.loop-group-preserved
loop-group-preserved c =
    let merge = c.args.merge.now in
    let table = c.args.table.now in
    let groups = c.args.groups.now in
    let start = c.loop-group.start in
    let i = c.loop-group.group-index in
    let none : PlannedGroup = record { end = 0; column_type = None; room = 0; entry_room = 0 } in
    let g : PlannedGroup = get_or groups i none in
    let so_far = c.loop-group.invariant.so_far in
    let left : ArePlanned merge table start (g ∷ drop (i + 1) groups) =
    subst (ArePlanned merge table start) (drop_more groups i none c.loop-group-test.true) c.loop-group.invariant.left in
    let next = c.in_ok-put_next.ensures so_far.columns so_far.is in
    let there : start < length table = omega (arith, next.group.some, next.group.within) in
    record {
      so_far = put_more merge c.requires.merge table c.requires.table start g.end next.first there next.is next.group
          so_far.cut c.loop-group.file c.put_next.new.file so_far next.adds
          (kinds_decided merge c.requires.merge table c.requires.table start g.end next.first there next.is next.group
          so_far.cut);
      left = left.1;
    }

pub returns : goal.returns
returns c =
    let merge = c.args.merge.now in
    let table = c.args.table.now in
    let groups = c.args.groups.now in
    let i = c.loop-group.group-index in
    let so_far = c.loop-group.invariant.so_far in
    let past : length table ≤ c.loop-group.start =
    subst (ArePlanned merge table c.loop-group.start) (drop_all i groups (omega arith)) c.loop-group.invariant.left in
    IfOk-weaker c.finish.result
    (λ bytes. (bytes.items ≡ file_bytes c.args.num_rows so_far.columns) × (length bytes.items < 2 ^ 64))
    (λ bytes. IsMerged (map required_key merge.required.now) merge.columnars.now (places_of merge) bytes.items)
    (λ bytes done.
    merged merge c.requires.merge table c.requires.table c.loop-group.start past c.loop-group.file so_far bytes.items
    (done.0 ∙ ap (λ (n : ℕ). file_bytes n so_far.columns) c.requires.rows) done.1)
    (c.finish.ensures so_far.columns so_far.is)
