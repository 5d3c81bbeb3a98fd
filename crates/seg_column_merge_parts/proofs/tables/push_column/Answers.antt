use Rattle.std.proofs.Common.{sym, subst}
use Rattle.std.specs.Prelude.{IsUtf8}
use Rattle.seg_column_merge_parts.proofs.TableRows.{pushed_utf8}
use Rattle.seg_column_merge_parts.proofs.tables.push_column.Goals as goal

pub returns-clause-utf8 : goal.returns-clause-utf8
returns-clause-utf8 c =
    pushed_utf8 _ _ _ c.in-Ok.ensures.items c.requires (subst IsUtf8 (sym c.as_bytes.ensures.value) c.utf8.path)
