use Rattle.std.proofs.Common.{◌≡◌, ℕ, List, length, subst, arith}
use Rattle.std.specs.Prelude.{OnOk, MatchOption}
use Rattle.serde_json.specs.Written.{compact_text}
use Rattle.seg_values.specs.Tree.{Document}
use Rattle.seg_text.specs.DocumentText.{document_json}
use Rattle.seg_text.specs.PrintedFronts.{HasMore, IsPrinted}
use Rattle.seg_text.proofs.PrintedStored.{cut_back}
use Rattle.seg_text.proofs.document.push_pairs.Goals as goal

pub returns-in_default : goal.returns-in_default
returns-in_default c =
    let text : Document → List ℕ = λ d. compact_text (document_json c.args.schema.now d) in
    let out = c.args.out.now.items in
    let many : c.len-start.result ≡ length out = omega (arith, c.len-start.ensures) in
    let more = subst (λ o. MatchOption o (HasMore out c.push_stored_pairs.new.out.items) (λ _. IsPrinted text c.args.stored.now out c.push_stored_pairs.new.out.items)) c.in_default.is c.in_ok-push_stored_pairs.ensures in
    subst (λ start. OnOk c.push_read_pairs.result (IsPrinted text c.args.stored.now start c.push_read_pairs.new.out.items)) (cut_back out c.push_stored_pairs.new.out.items c.truncate.new.self.items c.len-start.result many more c.truncate.ensures.items) c.push_read_pairs.ensures

pub returns : goal.returns
returns c =
    let text : Document → List ℕ = λ d. compact_text (document_json c.args.schema.now d) in
    let out = c.args.out.now.items in
    subst (λ o. MatchOption o (HasMore out c.push_stored_pairs.new.out.items) (λ _. IsPrinted text c.args.stored.now out c.push_stored_pairs.new.out.items)) c.in-Some.is c.in_ok-push_stored_pairs.ensures
