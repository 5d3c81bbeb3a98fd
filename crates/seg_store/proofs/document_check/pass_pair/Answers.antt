use Rattle.std.proofs.Common.{◌∙◌, sym}
use Rattle.std.specs.Prelude.{option_map}
use Rattle.seg_store.specs.CheckedFields.{may_have}
use Rattle.seg_store.proofs.PassedPairs.{pair_passed, pair_refused}
use Rattle.seg_store.proofs.document_check.pass_pair.Goals as goal

pub returns-then-not-may_have : goal.returns-then-not-may_have
returns-then-not-may_have c = pair_refused (may_have (option_map (λ s. s.now) c.args.schema)) c.args.bytes.now.now c.take_field.new.bytes.now c.in_ok-field.field c.in_ok-field.ensures (sym c.may_have.ensures ∙ c.if-not-may_have.true)

pub returns : goal.returns
returns c = pair_passed (may_have (option_map (λ s. s.now) c.args.schema)) c.args.bytes.now.now c.take_field.new.bytes.now c.pass_tree.new.bytes.now c.in_ok-field.field c.pass_tree.result c.in_ok-field.ensures (sym c.may_have.ensures ∙ c.if-not-may_have.false) c.pass_tree.ensures
