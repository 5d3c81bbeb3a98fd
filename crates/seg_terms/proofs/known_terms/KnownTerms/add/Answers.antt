use Rattle.std.proofs.Common.{◌++◌, ◌∷◌, [], sym, ap, ◌∙◌}
use Rattle.seg_column_format.proofs.TermNumbers.{term_number-there, with_term-there}
use Rattle.seg_terms.proofs.known_terms.KnownTerms.add.Goals as goal

pub returns-clause-ok : goal.returns-clause-ok
returns-clause-ok c =
    let keys = c.args.self.now.keys.keys in
    record {
      keys = sym (with_term-there keys c.args.bytes.now c.in-Some.number (sym c.in-Some.ensures.index));
      hits = c.in_ok-push.ensures.items
          ∙ ap (λ n. c.args.self.now.hits.items ++ record { term = n; hit = c.args.hit } ∷ [])
          (sym (term_number-there keys c.args.bytes.now c.in-Some.number (sym c.in-Some.ensures.index)));
    }
