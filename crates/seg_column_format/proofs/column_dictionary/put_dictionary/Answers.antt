use Rattle.std.proofs.Common.{append_assoc}
use Rattle.std.proofs.lemmas.List.{length-map}
use Rattle.seg_column_format.specs.ColumnBytes.{dictionary_bytes}
use Rattle.seg_column_format.proofs.column_dictionary.put_dictionary.Goals as goal

pub returns-clause-ok : goal.returns-clause-ok
unfolding dictionary_bytes
returns-clause-ok c = rw (
  c.in_ok-put_texts.ensures,
  c.in_ok-put_ends.ensures.ok,
  c.in_ok-put_u64.ensures.ok,
  c.in_ok-reserve.ensures.items,
  c.as_slice-terms.ensures,
  length-map,
) (simp append_assoc)
