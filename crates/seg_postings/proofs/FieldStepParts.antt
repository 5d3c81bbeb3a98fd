-- What each step of a field makes of its parts, and of what they are seen as.
use Rattle.std.proofs.Common.{◌≡◌, ℕ, ◌+◌, ◌-◌, ◌<◌, ◌≤◌, ◌^◌, List, [], ◌∷◌, ◌++◌, length, drop, Option, Some, None, ap, sym, ◌∙◌}
use Rattle.std.specs.Prelude.{IsSomeAnd, unwrap_or}
use Rattle.std.specs.List.{flat_map}
use Rattle.std.proofs.lemmas.Option.{none-some, same_Some}
use Rattle.seg_common.specs.WriterGrowth.{HasGrown}
use Rattle.seg_common.specs.Varint.{varint}
use Rattle.seg_common.specs.declared.term_info.TermInfo.{TermInfo}
use Rattle.seg_termdict.specs.DictionaryBuilders.{Building, with_key, with_info}
use Rattle.seg_postings.specs.declared.record_kind.RecordKind.{RecordKind}
use Rattle.seg_postings.specs.declared.open_term.OpenTerm.{OpenTerm}
use Rattle.seg_postings.specs.RecordKinds.{kind_byte}
use Rattle.seg_postings.specs.FieldSerializers.{TermWritten, FieldWriting, with_term, with_document, closed, MayOccur}
use Rattle.seg_postings.specs.FieldParts.{occurrence_form, writing, AreParts}
use Rattle.seg_postings.specs.PostingsBytes.{differences}
use Rattle.seg_postings.specs.WritablePostings.{Rise}
use Rattle.seg_postings.proofs.FieldSteps.{opened_parts, opened_view, behind, occurred_parts, occurred_view, closed_parts, term_closed_view, open_view}

-- what a dictionary has grown to
grown_to : {A : Type 0} (before after : Option A) (grow : A → A) (built : A) → before ≡ Some built → HasGrown before after grow → after ≡ Some (grow built)
grown_to before after grow built is grown = grown.is ∙ ap (λ b. Some (grow b)) (same_Some _ _ (sym grown.was ∙ is))

-- parts, and what they are seen as
pub record Step (field total : ℕ) (dictionary : Option Building) (postings positions : List ℕ) (current : Option OpenTerm) (seen : FieldWriting) : Type 0 where
  pub parts : AreParts total dictionary postings positions current
  pub view : writing field total dictionary (drop 8 postings) positions current ≡ seen

-- no term is open
none_open : (field total : ℕ) (dictionary : Option Building) (postings positions : List ℕ) (o : OpenTerm) → AreParts total dictionary postings positions (Some o) → (self : FieldWriting) → self ≡ writing field total dictionary (drop 8 postings) positions (Some o) → self.current ≡ None → ⊥
none_open field total dictionary postings positions o i self is none =
    none-some _ (sym none ∙ ap (λ (w : FieldWriting). w.current) (is ∙ open_view field total dictionary postings positions o i))

pub open_step : (field total : ℕ) (dictionary grown : Option Building) (postings positions bytes after : List ℕ) (kind : RecordKind) (start positions_start : ℕ) (current : Option OpenTerm) (self : FieldWriting) → AreParts total dictionary postings positions current → self ≡ writing field total dictionary (drop 8 postings) positions current → self.current ≡ None → HasGrown dictionary grown (with_key bytes) → after ≡ postings ++ kind_byte kind ∷ [] → start ≡ length postings - 8 → positions_start ≡ length positions → Step field total grown after positions (Some (record { kind = kind; doc_freq = 0; last = 0; postings_start = start; positions_start = positions_start })) (with_term bytes kind self)
open_step field total dictionary grown postings positions bytes after kind start positions_start (Some o) self i is none grows e f g = absurd (none_open field total dictionary postings positions o i self is none)
open_step field total dictionary grown postings positions bytes after kind start positions_start None self i is none grows e f g =
    let to : grown ≡ Some (with_key bytes i.built) = grown_to dictionary grown (with_key bytes) i.built i.is_built grows in
    rw (e, f, g) (record {
      parts = opened_parts field total dictionary grown postings positions bytes kind i to;
      view = opened_view field total dictionary grown postings positions bytes kind i to ∙ ap (with_term bytes kind) (sym is);
    })

given : {A : Type 0} (P : A → Type 0) (o : Option A) (x : A) → o ≡ Some x → IsSomeAnd o P → P x
given P None x e h = absurd (none-some x e)
given P (Some y) x e h = rw (sym (same_Some _ _ e)) h

module _ (field total : ℕ) (dictionary : Option Building) (postings positions : List ℕ) (current : Option OpenTerm) (o : OpenTerm) (self : FieldWriting) (i : AreParts total dictionary postings positions current) (is : self ≡ writing field total dictionary (drop 8 postings) positions current) (e : current ≡ Some o) where
  parts : AreParts total dictionary postings positions (Some o)
  parts = rw (sym e) i

  seen : self ≡ writing field total dictionary (drop 8 postings) positions (Some o)
  seen = is ∙ ap (λ c. writing field total dictionary (drop 8 postings) positions c) e

  shown : self.current ≡ Some (record { bytes = unwrap_or parts.built.waiting []; kind = o.kind; postings = parts.is_open.1.0 })
  shown = ap (λ (w : FieldWriting). w.current) (seen ∙ open_view field total dictionary postings positions o parts)

  module _ (document count : ℕ) (ds : List ℕ) (may : IsSomeAnd self.current (MayOccur document count ds)) where
    m : MayOccur document count ds (record { bytes = unwrap_or parts.built.waiting []; kind = o.kind; postings = parts.is_open.1.0 })
    m = given (MayOccur document count ds) self.current _ shown may

    pub places_rise : Rise 0 ds
    places_rise = m.rise

    pub lies_behind : (o.last ≤ document) × (o.doc_freq < 2 ^ 32 - 1)
    lies_behind = behind field total dictionary postings positions o parts document count ds m

    pub occur_step : count < 2 ^ 32 → (after positions_after : List ℕ) → after ≡ postings ++ occurrence_form o.kind (document - o.last) count → positions_after ≡ positions ++ flat_map varint (differences 0 ds) → Step field total dictionary after positions_after (Some (record { kind = o.kind; doc_freq = o.doc_freq + 1; last = document; postings_start = o.postings_start; positions_start = o.positions_start })) (with_document document count ds self)
    occur_step small after positions_after f g = rw (f, g) (record {
      parts = occurred_parts field total dictionary postings positions o parts document count ds m small;
      view = occurred_view field total dictionary postings positions o parts document count ds m small ∙ ap (with_document document count ds) (sym seen);
    })

  pub close_step : (grown : Option Building) (end positions_end : ℕ) → HasGrown dictionary grown (with_info (record { doc_freq = o.doc_freq; postings_start = o.postings_start; postings_end = end; positions_start = o.positions_start; positions_end = positions_end })) → end ≡ length postings - 8 → positions_end ≡ length positions → IsSomeAnd self.current (λ t. 0 < length t.postings) → Step field total grown postings positions None (closed self)
  close_step grown end positions_end grows f g occurs =
      let some : 0 < length parts.is_open.1.0 = given (λ (t : TermWritten). 0 < length t.postings) self.current _ shown occurs in
      let info : TermInfo = record { doc_freq = o.doc_freq; postings_start = o.postings_start; postings_end = length postings - 8; positions_start = o.positions_start; positions_end = length positions } in
      let same : HasGrown dictionary grown (with_info info) = rw (sym f, sym g) grows in
      let to : grown ≡ Some (with_info info parts.built) = grown_to dictionary grown (with_info info) parts.built parts.is_built same in
      record {
        parts = closed_parts field total dictionary postings positions o parts grown to some;
        view = term_closed_view field total dictionary postings positions o parts grown to some ∙ ap closed (sym seen);
      }
