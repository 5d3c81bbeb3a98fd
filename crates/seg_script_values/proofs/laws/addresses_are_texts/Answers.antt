use Rattle.seg_script_values.proofs.WrittenAddresses.{addresses_are_texts}
use Rattle.seg_script_values.proofs.laws.addresses_are_texts.Goals as goal

pub returns : goal.returns
returns c = addresses_are_texts
