use Rattle.std.proofs.Common.{sym, ◌∙◌}
use Rattle.seg_column_writer.proofs.OrderedColumns.{known_mixed, known_ready, known_refused, known_written}
use Rattle.seg_column_writer.proofs.known_columns.KnownColumns.write.Goals as goal

pub returns-then-lack_types-clause-err : goal.returns-then-lack_types-clause-err
returns-then-lack_types-clause-err c =
    known_mixed c.args.num_rows c.args.self.now c.as_slice-names.result.now c.as_slice-columns.result.now
    c.as_slice-names.ensures.keys c.as_slice-columns.ensures.value c.requires.sound c.as_slice-names.ensures.unique
    c.lack_types.ensures.each c.requires.within
    (sym c.lack_types.ensures.any ∙ c.if-lack_types.true)

pub write_columns-requires : goal.write_columns-requires
write_columns-requires c =
    known_ready c.args.num_rows c.args.self.now c.as_slice-names.result.now c.as_slice-columns.result.now
    c.as_slice-names.ensures.keys c.as_slice-columns.ensures.value c.requires.sound c.as_slice-names.ensures.unique
    c.lack_types.ensures.each c.requires.within
    (sym c.lack_types.ensures.any ∙ c.if-lack_types.false)

pub returns-in_default-clause-err : goal.returns-in_default-clause-err
returns-in_default-clause-err c =
    known_refused c.args.num_rows c.args.self.now c.as_slice-names.result.now c.as_slice-columns.result.now
    c.as_slice-names.ensures.keys c.as_slice-columns.ensures.value c.requires.sound c.as_slice-names.ensures.unique
    c.lack_types.ensures.each c.requires.within
    (sym c.lack_types.ensures.any ∙ c.if-lack_types.false)

pub returns-clause-ok : goal.returns-clause-ok
returns-clause-ok c =
    known_written c.args.num_rows c.args.self.now c.as_slice-names.result.now c.as_slice-columns.result.now
    c.in-Ok.bytes.items c.as_slice-names.ensures.keys c.as_slice-columns.ensures.value c.in-Ok.ensures
