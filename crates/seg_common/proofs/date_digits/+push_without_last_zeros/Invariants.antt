use Rattle.seg_common.proofs.date_digits.+push_without_last_zeros.Given as goal

abbrev pub decreases-push_without_last_zeros : goal.decreases-push_without_last_zeros
decreases-push_without_last_zeros l = l.count
