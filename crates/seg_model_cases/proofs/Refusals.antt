-- Cases of inputs of which nothing is built.
use Rattle.std.proofs.Common.{refl}
use Rattle.seg_common.specs.Varint.{varint_within}
use Rattle.seg_model_cases.specs.Refusals.{CountLimits, RefusalCases}

limits : CountLimits
limits = record {
  documents = λ ds e. rw e refl;
  too_many = λ ds e. rw e refl;
  cuts = λ cuts e. rw e refl;
  too_many_cuts = λ cuts e. rw e refl;
}

pub refusal_cases : RefusalCases
unfolding varint_within
refusal_cases = record {
  limits = limits;
  order = refl;
  fast_tokenizer = refl;
  last = refl;
  input_first = refl;
  documents_first = refl;
  batch_by_batch = refl;
  survivors = refl;
  parted = refl;
}
