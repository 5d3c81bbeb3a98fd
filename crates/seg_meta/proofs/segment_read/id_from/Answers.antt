use Rattle.std.proofs.Common.{◌^◌, ◌<◌, rules}
use Rattle.std.specs.Prelude.{IfSome}
use Rattle.seg_meta.proofs.IdDigits.{is_id_from}
use Rattle.seg_meta.proofs.segment_read.id_from.Goals as goal

pub returns : goal.returns
returns c =
    let small : IfSome c.from_uuid_string.result (λ id. id < 2 ^ 128) = search rules in
    is_id_from c.args.text.now c.from_uuid_string.result small c.from_uuid_string.ensures.some c.from_uuid_string.ensures.all
