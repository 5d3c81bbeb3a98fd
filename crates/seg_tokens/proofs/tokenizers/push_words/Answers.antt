use Rattle.std.proofs.Common.{rules, ◌≡◌, ◌<◌, ◌+◌, ◌∷◌, ◌++◌, [], true, length, sym, ◌∙◌, ap, get_or, arith, subst}
use Rattle.seg_tokens.specs.GrowingLists.{Keeps}
use Rattle.seg_tokens.specs.Words.{words, numbered}
use Rattle.seg_tokens.proofs.CutWords.{IsCut, IsCut-start, IsCut-skipped, IsCut-cut, IsCut-end}
use Rattle.seg_tokens.proofs.tokenizers.push_words.Goals as goal
use Rattle.seg_tokens.proofs.tokenizers.push_words.Goals.{else-separates, then-separates+in_ok-count}

pub loop-at-init : goal.loop-at-init
loop-at-init g c = IsCut-start g.C.Cut.separates g.C.Cut.kept c.args.text.now c.args.out.now c.utf8.text

pub range-requires-clause-start_boundary : goal.range-requires-clause-start_boundary
range-requires-clause-start_boundary g c = λ _. c.loop-at.invariant.boundary

pub loop-at-preserved : goal.loop-at-preserved
loop-at-preserved g c =
    let inside : c.loop-at.at < length c.args.text.now = omega (arith, c.as_bytes-byte-items.ensures.len) in
    let told : c.separates.result ≡ g.C.Cut.separates (get_or c.args.text.now c.loop-at.at 0) = c.separates.ensures ∙ ap (λ l. g.C.Cut.separates (get_or l c.loop-at.at 0)) c.as_bytes-byte-items.ensures.value in
    elim c.if-separates.branch [
      | then-separates+in_ok-count w ↦
          let yes : g.C.Cut.separates (get_or c.args.text.now c.loop-at.at 0) ≡ true = sym told ∙ w.if-separates.true in
          rw (w.out-is, w.from-is, w.count-is)
          (IsCut-cut g.C.Cut.separates g.C.Cut.kept c.args.text.now c.args.out.now c.loop-at.from c.loop-at.at c.loop-at.count c.loop-at.out w.in_ok-count.count w.push_word.new.out c.utf8.text c.loop-at.invariant inside yes (g.met.C.Cut.cuts_at_ascii _ yes)
          (w.in_ok-count.ensures.ok ∙ ap (λ word. c.loop-at.out ++ numbered g.C.Cut.kept c.loop-at.count (words ((c.loop-at.from, word) ∷ []))) w.range.ensures.value)
          (w.in_ok-count.ensures.next ∙ ap (λ word. c.loop-at.count + length (words ((c.loop-at.from, word) ∷ []))) w.range.ensures.value))
      | else-separates w ↦
          rw (w.out-is, w.from-is, w.count-is)
          (IsCut-skipped g.C.Cut.separates g.C.Cut.kept c.args.text.now c.args.out.now c.loop-at.from c.loop-at.at c.loop-at.count c.loop-at.out c.loop-at.invariant inside (sym told ∙ w.if-separates.false))
    ]

pub returns-clause-ok : goal.returns-clause-ok
returns-clause-ok g c =
    let all : c.loop-at.at ≡ length c.args.text.now = omega (arith, c.as_bytes-byte-items.ensures.len) in
    IsCut-end g.C.Cut.separates g.C.Cut.kept c.args.text.now c.args.out.now c.loop-at.from c.loop-at.count c.loop-at.out c.push_word-2.new.out
    (subst (λ at. IsCut g.C.Cut.separates g.C.Cut.kept c.args.text.now c.args.out.now c.loop-at.from at c.loop-at.count c.loop-at.out) all c.loop-at.invariant)
    (c.in_ok-push_word.ensures.ok ∙ ap (λ word. c.loop-at.out ++ numbered g.C.Cut.kept c.loop-at.count (words ((c.loop-at.from, word) ∷ []))) c.range_from.ensures.value)

pub returns-in_err-count-clause-err : goal.returns-in_err-count-clause-err
returns-in_err-count-clause-err g c =
    let keeps : Keeps c.args.out.now c.push_word.new.out = subst (Keeps c.args.out.now) (sym c.in_err-count.ensures.err) c.loop-at.invariant.keeps in
    search rules

pub returns-in_err-push_word-clause-err : goal.returns-in_err-push_word-clause-err
returns-in_err-push_word-clause-err g c =
    let keeps : Keeps c.args.out.now c.push_word-2.new.out = subst (Keeps c.args.out.now) (sym c.in_err-push_word.ensures.err) c.loop-at.invariant.keeps in
    search rules
