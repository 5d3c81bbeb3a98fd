use Rattle.std.proofs.Common.{◌<◌, ◌^◌, ◌++◌, ◌∷◌, [], List, sym, ap, subst, ◌∙◌}
use Rattle.seg_terms.specs.declared.hit.NumberedHit.{NumberedHit}
use Rattle.seg_column_format.proofs.TermNumbers.{term_number-new, terms_pushed, with_term-new}
use Rattle.seg_terms.proofs.NumberedOccurrences.{still_numbered}
use Rattle.seg_terms.proofs.known_terms.KnownTerms.add_first.Goals as goal

pub returns-clause-known : goal.returns-clause-known
returns-clause-known c =
    let keys = c.args.self.now.keys.keys in
    let pushed = terms_pushed keys c.insert.new.self.keys c.in_ok-key.key c.args.bytes.now c.in_ok-key.ensures
    c.requires.new c.in-Ok-insert.ensures.keys in
    still_numbered keys c.insert.new.self.keys c.args.self.now.hits.items c.push.new.self.items c.args.bytes.now
    (record { term = c.in-Ok.term; hit = c.args.hit }) pushed
    (c.in_ok-push.ensures.items ∙ ap (λ (hs : List NumberedHit). hs
    ++ record { term = c.in-Ok.term; hit = c.args.hit } ∷ []) c.in_ok-reserve.ensures.items) (c.in-Ok.ensures.1
    ∙ c.len.ensures.len) (subst (λ n. n < 2 ^ 32) (sym c.in-Ok.ensures.1) c.in-Ok.ensures.0) c.requires.known.1

pub returns-clause-ok : goal.returns-clause-ok
returns-clause-ok c =
    let keys = c.args.self.now.keys.keys in
    let pushed = terms_pushed keys c.insert.new.self.keys c.in_ok-key.key c.args.bytes.now c.in_ok-key.ensures
    c.requires.new c.in-Ok-insert.ensures.keys in
    record {
      keys = pushed ∙ sym (with_term-new keys c.args.bytes.now c.requires.new);
      hits = c.in_ok-push.ensures.items
          ∙ ap (λ (hs : List NumberedHit). hs ++ record { term = c.in-Ok.term; hit = c.args.hit } ∷ [])
          c.in_ok-reserve.ensures.items
          ∙ ap (λ n. c.args.self.now.hits.items ++ record { term = n; hit = c.args.hit } ∷ [])
          (c.in-Ok.ensures.1 ∙ c.len.ensures.len ∙ sym (term_number-new keys c.args.bytes.now c.requires.new));
    }
