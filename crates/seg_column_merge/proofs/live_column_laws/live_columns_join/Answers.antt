use Rattle.seg_column_merge.proofs.LiveAgreement.{can_merge}
use Rattle.seg_column_merge.proofs.JoinedColumns.{columns_join}
use Rattle.seg_column_merge.proofs.live_column_laws.live_columns_join.Goals as goal

pub returns-clause-columns : goal.returns-clause-columns
returns-clause-columns c = λ schema files parts have. columns_join schema files parts have

pub returns-clause-can : goal.returns-clause-can
returns-clause-can c = λ schema files parts valid have few. can_merge schema files parts valid have few
