use Rattle.std.proofs.Common.{Some, sym, ap, ◌∙◌, subst}
use Rattle.base64.specs.Engines.{standard}
use Rattle.base64.specs.GeneralPurpose.{IsDecodeFailure}
use Rattle.seg_script_values.proofs.DecodedTexts.{decoded, failed, strict}
use Rattle.seg_script_values.proofs.byte_texts.bytes_from.Goals as goal

pub returns-in-Ok-clause-value : goal.returns-in-Ok-clause-value
returns-in-Ok-clause-value c = ap Some c.from_vec.ensures ∙ sym (decoded c.args.text.now c.as_bytes.result.now c.in-Ok.bytes.items c.as_bytes.ensures.value c.in-Ok.ensures.ok)

pub returns-in-Ok-clause-strict : goal.returns-in-Ok-clause-strict
returns-in-Ok-clause-strict c = strict c.args.text.now c.as_bytes.result.now c.as_bytes.ensures.value c.decode.ensures.strict

pub returns-in-Err-OutOfMemory-clause-strict : goal.returns-in-Err-OutOfMemory-clause-strict
returns-in-Err-OutOfMemory-clause-strict c = strict c.args.text.now c.as_bytes.result.now c.as_bytes.ensures.value c.decode.ensures.strict

pub returns-in-Err-DecodeError-clause-value : goal.returns-in-Err-DecodeError-clause-value
returns-in-Err-DecodeError-clause-value c =
    sym (failed c.args.text.now c.as_bytes.result.now c.in-Err-DecodeError.field-0-0 c.as_bytes.ensures.value
    (subst (IsDecodeFailure standard c.as_bytes.result.now) c.in-Err-DecodeError.field-0-is c.in-Err-DecodeError.ensures.err))

pub returns-in-Err-DecodeError-clause-strict : goal.returns-in-Err-DecodeError-clause-strict
returns-in-Err-DecodeError-clause-strict c = strict c.args.text.now c.as_bytes.result.now c.as_bytes.ensures.value c.decode.ensures.strict
