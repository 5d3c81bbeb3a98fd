use Rattle.std.proofs.Common.{◌≡◌, ◌++◌, drop}
use Rattle.std.specs.List.{flat_map}
use Rattle.seg_column_format.specs.NumberedTerms.{terms_at}
use Rattle.seg_column_format.proofs.column_dictionary.put_texts.Given as goal

-- what is written, with what is left, is all
abbrev pub invariant-loop-number : goal.invariant-loop-number
invariant-loop-number l =
    record {
      all : l.out.items ++ flat_map (λ term. term) (terms_at l.terms (drop l.number-index l.numbers))
          ≡ l.initial.out.items ++ flat_map (λ term. term) (terms_at l.terms l.numbers);
    }
