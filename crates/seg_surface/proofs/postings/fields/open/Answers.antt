use Rattle.std.proofs.Common.{◌≡◌, ◌∙◌, List, true, sym, ap, subst}
use Rattle.std.specs.List.{list_all}
use Rattle.seg_values.specs.declared.schema.FieldKind.{FieldKind}
use Rattle.seg_termdict.specs.Dictionary.{Term, terms_of}
use Rattle.seg_postings.specs.OpenedFields.{FirstPart, FirstParts}
use Rattle.seg_postings.specs.TermForms.{is_formed}
use Rattle.seg_surface.proofs.postings.fields.open.Goals as goal

pub returns : goal.returns
returns c =
    let its_terms = c.in_ok-reader.ensures.terms ∙ ap (λ (f : FirstParts). terms_of f.dictionary) c.in_ok-field.ensures.ok ∙ ap (λ (f : FirstPart). terms_of f.dictionary) c.in_ok-terms.ensures.ok.1 in
    let formed = subst (λ (kind : FieldKind). list_all (is_formed kind) (terms_of c.in_ok-bytes.bytes) ≡ true) c.in_ok-entry.ensures.0 c.in_ok-terms.ensures.ok.0.formed in
    subst (λ (ts : List Term). list_all (is_formed c.args.kind) ts ≡ true) (sym its_terms) formed
