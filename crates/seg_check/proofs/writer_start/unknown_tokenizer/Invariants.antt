use Rattle.std.proofs.Common.{◌≡◌, drop}
use Rattle.std.specs.Prelude.{not, IsTrue}
use Rattle.std.specs.List.{AllByRecursion, position_from}
use Rattle.seg_values.specs.declared.schema.FieldEntry.{FieldEntry}
use Rattle.seg_model.specs.Fields.{indexing_tokenizer}
use Rattle.seg_model.specs.ValidInputs.{unknown_tokenizer_of}
use Rattle.seg_check.proofs.writer_start.unknown_tokenizer.Given as goal

-- what is left decides
abbrev pub invariant-loop-place : goal.invariant-loop-place
invariant-loop-place g l =
    let knows = g.Z.Analyzers.knows l.analyzers in
    record {
      first : position_from (λ (e : FieldEntry). not (knows (indexing_tokenizer e))) l.place (drop l.place l.schema) ≡ unknown_tokenizer_of knows l.schema;
      known : AllByRecursion (λ (e : FieldEntry). IsTrue (knows (indexing_tokenizer e))) (drop l.place l.schema) → AllByRecursion (λ (e : FieldEntry). IsTrue (knows (indexing_tokenizer e))) l.schema;
    }
