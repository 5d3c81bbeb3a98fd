use Rattle.std.proofs.Common.{lit<, ◌++◌, string_bytes, refl, ap}
use Rattle.std.proofs.lemmas.Str.Pattern.{strip_suffix_char}
use Rattle.seg_common.specs.JsonPaths.{written_key}
use Rattle.seg_common.proofs.Results.{when_ok}
use Rattle.seg_values.proofs.JsonPathTexts.{taken_on, taken_whole}
use Rattle.seg_values.proofs.LastCallClauses.{when_both_ok}
use Rattle.seg_values.proofs.json_path.take_part.Goals as goal

pub returns-in-Some-clause-keys : goal.returns-in-Some-clause-keys
returns-in-Some-clause-keys c =
    let cases = strip_suffix_char 92 c.args.part.now c.strip_suffix.result c.strip_suffix.ensures.cases (lit< tt) in
    let behind = rw c.in-Some.is at cases in
    when_ok c.go_on_with_dot.result c.go_on_with_dot.ensures
    (λ more others. taken_on (written_key c.args.path.now.expand_dots) c.args.path.now.keys (string_bytes c.args.key.now) (string_bytes c.go_on_with_dot.new.key) c.in-Some.front.now c.args.part.now others c.requires behind more)

pub returns-in-Some-clause-same : goal.returns-in-Some-clause-same
returns-in-Some-clause-same c = when_ok c.go_on_with_dot.result c.go_on_with_dot.ensures (λ _. refl)

pub returns-in-None-clause-keys : goal.returns-in-None-clause-keys
returns-in-None-clause-keys c =
    let cases = strip_suffix_char 92 c.args.part.now c.strip_suffix.result c.strip_suffix.ensures.cases (lit< tt) in
    let free = rw c.in-None.is at cases in
    when_both_ok c.end_key.result c.end_key.ensures.keys c.end_key.ensures.empty
    (λ told empty others. taken_whole (written_key c.args.path.now.expand_dots) c.args.path.now.keys c.end_key.new.path.keys (string_bytes c.args.key.now) (string_bytes c.args.key.now ++ c.args.part.now) (string_bytes c.end_key.new.key) c.args.part.now others c.requires free refl (ap (λ p. p.keys) told) empty)

pub returns-in-None-clause-same : goal.returns-in-None-clause-same
returns-in-None-clause-same c = when_ok c.end_key.result c.end_key.ensures.keys (λ told. ap (λ p. p.expand_dots) told)
