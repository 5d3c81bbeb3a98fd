use Rattle.std.proofs.Common.{sym, arith}
use Rattle.seg_postings.proofs.FieldStepParts.{lies_behind, places_rise, occur_step}
use Rattle.seg_postings.proofs.field_parts.FieldParts.write_doc.Goals as goal

pub overflow_sub-gap : goal.overflow_sub-gap
overflow_sub-gap c = (lies_behind c.self.inside.field c.self.inside.total c.self.inside.dictionary c.self.inside.postings.items c.self.inside.positions.items c.self.inside.current c.in-Some.term c.args.self.now c.self.invariant (sym c.self.view_is) c.in-Some.is c.args.document c.args.count c.args.positions.now c.requires).0

pub overflow_add-self : goal.overflow_add-self
overflow_add-self c =
    let few = (lies_behind c.self.inside.field c.self.inside.total c.self.inside.dictionary c.self.inside.postings.items c.self.inside.positions.items c.self.inside.current c.in-Some.term c.args.self.now c.self.invariant (sym c.self.view_is) c.in-Some.is c.args.document c.args.count c.args.positions.now c.requires).1 in
    omega (arith, few)

pub put_occurrence-requires : goal.put_occurrence-requires
put_occurrence-requires c = places_rise c.self.inside.field c.self.inside.total c.self.inside.dictionary c.self.inside.postings.items c.self.inside.positions.items c.self.inside.current c.in-Some.term c.args.self.now c.self.invariant (sym c.self.view_is) c.in-Some.is c.args.document c.args.count c.args.positions.now c.requires

pub invariant_of-self-2 : goal.invariant_of-self-2
invariant_of-self-2 c = (occur_step c.self.inside.field c.self.inside.total c.self.inside.dictionary c.self.inside.postings.items c.self.inside.positions.items c.self.inside.current c.in-Some.term c.args.self.now c.self.invariant (sym c.self.view_is) c.in-Some.is c.args.document c.args.count c.args.positions.now c.requires (omega arith) c.put_occurrence.new.postings.items c.put_occurrence.new.positions.items c.in_ok-put_occurrence.ensures.postings c.in_ok-put_occurrence.ensures.positions).parts

pub returns-clause-ok : goal.returns-clause-ok
returns-clause-ok c = (occur_step c.self.inside.field c.self.inside.total c.self.inside.dictionary c.self.inside.postings.items c.self.inside.positions.items c.self.inside.current c.in-Some.term c.args.self.now c.self.invariant (sym c.self.view_is) c.in-Some.is c.args.document c.args.count c.args.positions.now c.requires (omega arith) c.put_occurrence.new.postings.items c.put_occurrence.new.positions.items c.in_ok-put_occurrence.ensures.postings c.in_ok-put_occurrence.ensures.positions).view
