use Rattle.std.proofs.Common.{◌≡◌, ◌+◌, ◌≤◌, ◌-◌, ◌^◌, length, drop}
use Rattle.std.specs.List.{flat_map}
use Rattle.seg_values.specs.Tree.{pre_tokenized}
use Rattle.seg_values.specs.StoredBytes.{token_form, leaf_form}
use Rattle.seg_model.specs.SaturatedNumbers.{saturated}
use Rattle.seg_check.proofs.stored_len.pre_tokenized_len.Given as goal

-- what is so far, with what is left, is all
abbrev pub invariant-loop-token : goal.invariant-loop-token
invariant-loop-token l = record {
  sum : saturated (l.size + length (flat_map token_form (drop l.token-index l.tokens))) ≡ saturated (length (leaf_form (pre_tokenized l.fn.text)));
  fits : l.size ≤ 2 ^ 64 - 1;
}
