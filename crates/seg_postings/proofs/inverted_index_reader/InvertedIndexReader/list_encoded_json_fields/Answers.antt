use Rattle.std.proofs.Common.{◌≡◌, ◌∙◌, List, true, sym, ap, subst}
use Rattle.std.specs.List.{list_all}
use Rattle.seg_values.specs.declared.schema.FieldKind.TheVariants.{Json}
use Rattle.seg_termdict.specs.Dictionary.{Term}
use Rattle.seg_postings.specs.OpenedFields.{dictionary_terms}
use Rattle.seg_postings.specs.JsonSpaces.{AreSpaces}
use Rattle.seg_postings.specs.TermForms.{is_formed}
use Rattle.seg_postings.proofs.OpenedFields.{dictionary_back}
use Rattle.seg_postings.proofs.inverted_index_reader.InvertedIndexReader.list_encoded_json_fields.Goals as goal

pub json_spaces-requires : goal.json_spaces-requires
json_spaces-requires c =
    let s = c.self.inside in
    let same : dictionary_terms c.args.self.now ≡ s.terms = sym (ap dictionary_terms c.self.view_is) ∙ dictionary_back s.total s.postings s.positions s.terms in
    record {
      ascend = c.keys_ascend.ensures;
      formed = subst (λ (ts : List Term). list_all (is_formed Json) ts ≡ true) same c.requires;
      follow = c.self.invariant.1;
    }

pub returns-clause-ok : goal.returns-clause-ok
returns-clause-ok c =
    let s = c.self.inside in
    let same : dictionary_terms c.args.self.now ≡ s.terms = sym (ap dictionary_terms c.self.view_is) ∙ dictionary_back s.total s.postings s.positions s.terms in
    subst (λ (ts : List Term). AreSpaces ts c.in-Ok.spaces.items) (sym same) c.in-Ok.ensures
