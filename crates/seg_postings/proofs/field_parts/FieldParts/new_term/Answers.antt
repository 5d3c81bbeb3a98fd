use Rattle.std.proofs.Common.{◌≡◌, ◌-◌, ◌++◌, ◌∷◌, [], ap, sym, ◌∙◌, arith}
use Rattle.seg_postings.specs.RecordKinds.{kind_byte}
use Rattle.seg_postings.proofs.FieldStepParts.{open_step}
use Rattle.seg_postings.proofs.field_parts.FieldParts.new_term.Goals as goal

pub invariant_of-self : goal.invariant_of-self
invariant_of-self c =
    let byte : c.push.new.self.items ≡ c.self.inside.postings.items ++ kind_byte c.args.kind ∷ [] = c.in_ok-push.ensures.items ∙ ap (λ b. c.self.inside.postings.items ++ b ∷ []) c.byte.ensures in
    (open_step c.self.inside.field c.self.inside.total c.self.inside.dictionary c.insert_key.new.self c.self.inside.postings.items c.self.inside.positions.items c.args.bytes.now c.push.new.self.items c.args.kind (c.len.result - 8) c.len-2.result c.self.inside.current c.args.self c.self.invariant (sym c.self.view_is) c.requires.closed c.in-Ok.ensures.ok byte (omega (arith, c.len.ensures)) (omega (arith, c.len-2.ensures))).parts

pub returns : goal.returns
returns c =
    let byte : c.push.new.self.items ≡ c.self.inside.postings.items ++ kind_byte c.args.kind ∷ [] = c.in_ok-push.ensures.items ∙ ap (λ b. c.self.inside.postings.items ++ b ∷ []) c.byte.ensures in
    (open_step c.self.inside.field c.self.inside.total c.self.inside.dictionary c.insert_key.new.self c.self.inside.postings.items c.self.inside.positions.items c.args.bytes.now c.push.new.self.items c.args.kind (c.len.result - 8) c.len-2.result c.self.inside.current c.args.self c.self.invariant (sym c.self.view_is) c.requires.closed c.in-Ok.ensures.ok byte (omega (arith, c.len.ensures)) (omega (arith, c.len-2.ensures))).view
