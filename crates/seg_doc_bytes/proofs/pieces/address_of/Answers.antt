use Rattle.std.proofs.Common.{◌∙◌, ap, arith}
use Rattle.std.specs.Net.Addr.{segments_of, octets_of}
use Rattle.seg_doc_bytes.proofs.MadeLeaves.{octets_kept}
use Rattle.seg_doc_bytes.proofs.pieces.address_of.Goals as goal

pub returns-in-Ok : goal.returns-in-Ok
returns-in-Ok c =
    ap octets_of (c.from_octets.ensures ∙ ap segments_of c.in-Ok.ensures.1.same)
    ∙ octets_kept 8 c.args.octets.now (omega (arith, c.in-Ok.ensures.1.long)) (λ k. let h = c.type_inv.octets k in omega (arith, h))
