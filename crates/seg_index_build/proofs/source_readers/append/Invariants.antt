use Rattle.std.proofs.Common.{◌≡◌, ◌++◌}
use Rattle.seg_index_build.proofs.source_readers.append.Given as goal

-- what is so far, with what is left, is all
abbrev pub invariant-loop-reader : goal.invariant-loop-reader
invariant-loop-reader l = l.readers.items ++ l.reader-iterator.rest.items ≡ l.fn.readers.items ++ l.fn.more.items
