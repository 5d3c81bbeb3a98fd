use Rattle.std.proofs.Common.{ℕ, ◌<◌, ◌^◌, ◌∙◌, sym, subst}
use Rattle.std.specs.Prelude.{FitsSigned}
use Rattle.std.specs.Int.{w64}
use Rattle.seg_column_merge_parts.specs.KeptColumns.{IsWhole, kept_fit}
use Rattle.seg_column_merge.proofs.FittingValues.{kept_are}
use Rattle.seg_column_merge.proofs.kept_count.with_values.Goals as goal

pub returns-in-I64 : goal.returns-in-I64
returns-in-I64 c = λ kept.
    subst (kept_fit kept) (sym c.in-I64.is ∙ c.open.ensures)
    (kept_are (FitsSigned w64) kept c.in-I64.column c.signed_fit.ensures)

pub returns-in-U64 : goal.returns-in-U64
returns-in-U64 c = λ kept.
    subst (kept_fit kept) (sym c.in-U64.is ∙ c.open.ensures)
    (kept_are (λ (n : ℕ). n < 2 ^ 64) kept c.in-U64.column c.unsigned_fit.ensures)

pub returns-in-IpAddr : goal.returns-in-IpAddr
returns-in-IpAddr c = λ kept.
    subst (kept_fit kept) (sym c.in-IpAddr.is ∙ c.open.ensures)
    (kept_are IsWhole kept c.in-IpAddr.column c.addresses_fit.ensures)

pub returns-in-DateTime : goal.returns-in-DateTime
returns-in-DateTime c = λ kept.
    subst (kept_fit kept) (sym c.in-DateTime.is ∙ c.open.ensures)
    (kept_are (FitsSigned w64) kept c.in-DateTime.column c.dates_fit.ensures)
