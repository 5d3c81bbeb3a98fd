use Rattle.std.proofs.Common.{[], ◌∷◌, Some, refl, ap, ◌∙◌}
use Rattle.seg_column_merge.proofs.GroupSteps.{file_more}
use Rattle.seg_column_merge.proofs.group_column.put_group.Goals as goal

pub returns : goal.returns
returns c = λ columns is.
    let old = c.args.file.now in
    let type = c.in-Some.column_type in
    let path = c.args.path.now in
    let adds = c.in_ok-put_column.ensures in
    record {
      type = Some type;
      decided = c.requires.decided ∙ ap Some c.in-Some.is;
      added = record { path = path; type = type; bytes = adds.bytes } ∷ [];
      are = record { path_is = refl; type_is = refl; column = adds.column; read = adds.read };
      file_is = file_more columns path type adds.bytes old (record old { bytes = c.put_column.new.out })
          c.end_column.new.self is adds.added refl refl c.in_ok-end_column.ensures;
    }
