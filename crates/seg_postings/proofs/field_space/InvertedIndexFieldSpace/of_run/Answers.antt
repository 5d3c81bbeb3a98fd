use Rattle.std.proofs.Common.{◌∙◌, refl}
use Rattle.std.specs.Prelude.{string_bytes}
use Rattle.seg_postings.specs.JsonSpaces.{code_of}
use Rattle.seg_postings.proofs.JsonHeads.{begins_so}
use Rattle.seg_postings.proofs.field_space.InvertedIndexFieldSpace.of_run.Goals as goal

pub returns : goal.returns
returns c = record {
  begins = begins_so c.args.term.now (string_bytes c.in_ok-from_str.field-0) (code_of c.type_of_code.result) c.requires.code (c.in_ok-from_str.ensures.ok ∙ c.path_text.ensures) (c.type_of_code.ensures ∙ c.type_code.ensures);
  number_is = refl;
  postings = refl;
  positions = refl;
}
