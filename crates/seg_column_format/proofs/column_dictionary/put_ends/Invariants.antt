use Rattle.std.proofs.Common.{◌≡◌, ◌+◌, ◌<◌, ◌^◌, ◌++◌, drop}
use Rattle.seg_column_format.specs.ColumnBytes.{ends_from, number_bytes, total}
use Rattle.seg_column_format.specs.NumberedTerms.{terms_at}
use Rattle.seg_column_format.proofs.column_dictionary.put_ends.Given as goal

-- what is written, with what is left, is all
abbrev pub invariant-loop-number : goal.invariant-loop-number
invariant-loop-number l =
    record {
      all : l.out.items ++ number_bytes (ends_from l.end (terms_at l.terms (drop l.number-index l.numbers)))
          ≡ l.initial.out.items ++ number_bytes (ends_from 0 (terms_at l.terms l.numbers));
      sum : l.end + total (terms_at l.terms (drop l.number-index l.numbers)) ≡ total (terms_at l.terms l.numbers);
      fits : l.end < 2 ^ 64;
    }
