use Rattle.std.proofs.Common.{ℕ, true}
use Rattle.seg_common.specs.MappableValues.{lowered}
use Rattle.seg_column_merge_parts.specs.JoinedNumbers.{joined_numbers}
use Rattle.seg_column_merge_parts.proofs.JoinedRows.{joined_column, joined_rows, plain_numbers}
use Rattle.seg_column_merge_parts.proofs.laws.joined_columns_read_back.Goals as goal

pub returns-clause-signed : goal.returns-clause-signed
returns-clause-signed c = λ sources places numeric few fit.
    let all = plain_numbers lowered (joined_numbers sources places) fit in (
      joined_column (λ _. true) lowered sources places numeric few all,
      joined_rows (λ _. true) lowered sources places numeric few all,
    )

pub returns-clause-unsigned : goal.returns-clause-unsigned
returns-clause-unsigned c = λ sources places numeric few fit.
    let all = plain_numbers (λ (n : ℕ). n) (joined_numbers sources places) fit in (
      joined_column (λ _. true) (λ (n : ℕ). n) sources places numeric few all,
      joined_rows (λ _. true) (λ (n : ℕ). n) sources places numeric few all,
    )
