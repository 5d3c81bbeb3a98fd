use Rattle.std.proofs.Common.{◌≡◌, ◌++◌, ◌∙◌, true, ap, sym, drop, map, length}
use Rattle.std.specs.Prelude.{nat_lt}
use Rattle.std.specs.List.{flat_map}
use Rattle.seg_segment.proofs.Exports.{pair_of}
use Rattle.seg_tool.proofs.Streamed.{still_of}
use Rattle.seg_text.specs.FieldText.{term_line}
use Rattle.seg_tool.proofs.Printed.{info_held, terms_done, terms_more}
use Rattle.seg_tool.proofs.segment_text.push_term_lines.Goals as goal

pub loop-terms-preserved : goal.loop-terms-preserved
loop-terms-preserved c =
    let l = c.loop-terms in
    let f = c.args.field.now in
    let after = c.advance.new.self in
    let more : nat_lt l.terms.taken (length l.terms.terms) ≡ true = sym c.advance.ensures.more ∙ c.loop-terms-test.true in
    record {
      of = still_of f l.terms after l.invariant.of more c.advance.ensures.place;
      written =
          ap (λ xs. xs ++ flat_map term_line (map pair_of (drop after.taken f.terms))) c.in_ok-push_term_line.ensures
          ∙ terms_more f l.terms after l.invariant.of more c.advance.ensures.place l.out.items c.key.result.now c.value.result.now c.read_postings_from_terminfo-postings.result.left c.key.ensures c.value.ensures c.read_postings_from_terminfo-postings.ensures.left
          ∙ l.invariant.written;
    }

pub read_postings_from_terminfo-postings-requires : goal.read_postings_from_terminfo-postings-requires
read_postings_from_terminfo-postings-requires c =
    let l = c.loop-terms in
    let more : nat_lt l.terms.taken (length l.terms.terms) ≡ true = sym c.advance.ensures.more ∙ c.loop-terms-test.true in
    info_held c.args.field.now l.terms c.advance.new.self l.invariant.of more c.advance.ensures.place c.value.result.now c.value.ensures

pub returns : goal.returns
returns c =
    let l = c.loop-terms in
    terms_done c.args.field.now l.terms l.invariant.of (sym c.advance.ensures.more ∙ c.loop-terms-test.false) l.out.items _ l.invariant.written
