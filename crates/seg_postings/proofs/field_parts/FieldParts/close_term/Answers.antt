use Rattle.std.proofs.Common.{◌-◌, sym, arith}
use Rattle.seg_postings.proofs.FieldStepParts.{close_step}
use Rattle.seg_postings.proofs.field_parts.FieldParts.close_term.Goals as goal

pub invariant_of-self : goal.invariant_of-self
invariant_of-self c = (close_step c.self.inside.field c.self.inside.total c.self.inside.dictionary c.self.inside.postings.items c.self.inside.positions.items c.self.inside.current c.in-Some.term c.args.self c.self.invariant (sym c.self.view_is) c.in-Some.is c.insert_value.new.self (c.len.result - 8) c.len-2.result c.in-Ok.ensures.ok (omega (arith, c.len.ensures)) (omega (arith, c.len-2.ensures)) c.requires).parts

pub returns : goal.returns
returns c = (close_step c.self.inside.field c.self.inside.total c.self.inside.dictionary c.self.inside.postings.items c.self.inside.positions.items c.self.inside.current c.in-Some.term c.args.self c.self.invariant (sym c.self.view_is) c.in-Some.is c.insert_value.new.self (c.len.result - 8) c.len-2.result c.in-Ok.ensures.ok (omega (arith, c.len.ensures)) (omega (arith, c.len-2.ensures)) c.requires).view
