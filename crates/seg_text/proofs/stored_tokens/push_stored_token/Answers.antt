use Rattle.std.proofs.Common.{refl}
use Rattle.seg_text.proofs.PrintedFronts.{not_more}
use Rattle.seg_text.proofs.stored_tokens.push_stored_token.Goals as goal

pub returns-in_default : goal.returns-in_default
returns-in_default c = not_more c.args.out.now.items

pub returns-in_default-take_varint : goal.returns-in_default-take_varint
returns-in_default-take_varint c = not_more c.args.out.now.items

pub returns-in_default-take_small : goal.returns-in_default-take_small
returns-in_default-take_small c = not_more c.args.out.now.items

pub returns-in_default-take_small-2 : goal.returns-in_default-take_small-2
returns-in_default-take_small-2 c = not_more c.args.out.now.items

pub returns-in_default-take_text : goal.returns-in_default-take_text
returns-in_default-take_text c = not_more c.args.out.now.items

pub returns : goal.returns
returns c = record {
  value = record { offset_from = c.in-Some.offset_from; offset_to = c.in-Some-take_varint.offset_to; position = c.in-Some-take_small.position; position_length = c.in-Some-take_small-2.position_length; text = c.in-Some-take_text.text.now };
  is = rw (c.in-Some.ensures, c.in-Some-take_varint.ensures, c.in-Some-take_small.ensures, c.in-Some-take_small-2.ensures, c.in-Some-take_text.ensures) refl;
  printed = c.in_ok-push_token_parts.ensures;
}
