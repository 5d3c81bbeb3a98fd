-- The parts of a field, and what they are seen as, step by step.
use Rattle.std.proofs.Common.{◌≡◌, ℕ, ◌+◌, ◌-◌, ◌<◌, ◌≤◌, ◌^◌, List, [], ◌∷◌, ◌++◌, length, drop, Option, Some, None, option_map, refl, ap, sym, ◌∙◌, arith, slice_range}
use Rattle.std.specs.Prelude.{unwrap_or}
use Rattle.std.specs.Int.{w64, to_le_bytes}
use Rattle.std.specs.List.{flat_map}
use Rattle.std.proofs.lemmas.List.{append-nil, length-append, length-drop, drop-append-le, drop_at, take_all}
use Rattle.seg_common.specs.LittleEndian.{u64_at}
use Rattle.seg_common.specs.Varint.{varint}
use Rattle.seg_common.specs.declared.term_info.TermInfo.{TermInfo}
use Rattle.seg_common.proofs.Bytes.{u64_at-front, u64_at-end}
use Rattle.seg_termdict.specs.Dictionary.{Term}
use Rattle.seg_termdict.specs.DictionaryBuilders.{Building, complete, with_key, with_info, postings_end, positions_end}
use Rattle.seg_termdict.proofs.Exports.{last_term-push}
use Rattle.seg_model.specs.DocumentTerms.{Posting}
use Rattle.seg_postings.specs.declared.record_kind.RecordKind.{RecordKind}
use Rattle.seg_postings.specs.declared.open_term.OpenTerm.{OpenTerm}
use Rattle.seg_postings.specs.RecordKinds.{kind_byte}
use Rattle.seg_postings.specs.PostingsBytes.{differences, postings_form, positions_form, document_form, documents_form}
use Rattle.seg_postings.specs.Postings.{TermPostings, term_postings}
use Rattle.seg_postings.specs.WritablePostings.{recorded_as}
use Rattle.seg_postings.specs.Field.{term_at, terms_at}
use Rattle.seg_postings.specs.FieldSerializers.{TermWritten, fresh, with_term, with_document, closed, next_document, MayOccur}
use Rattle.seg_postings.specs.FieldParts.{last_document, occurrence_form, open_term, writing, IsOpenTerm, AreParts}
use Rattle.seg_postings.proofs.GrownTerms.{term_in, terms_at-front, within-more, within-push, terms_at-push, occurs-push}
use Rattle.seg_postings.proofs.AddedPostings.{count_form_is, position_form_is, is_of_kind, documents_form-push, positions_form-push, last_document-push, next_document-push, writable-push, last_before_next}
use Rattle.seg_postings.proofs.PostingsRoundTrips.{term_back}

-- what parts are seen as
pub closed_view : (field total : ℕ) (dictionary : Option Building) (postings positions : List ℕ) (i : AreParts total dictionary postings positions None) → writing field total dictionary (drop 8 postings) positions None ≡ record { field = field; total = total; terms = i.terms; current = None }
closed_view field total dictionary postings positions i =
    ap (λ d. writing field total d (drop 8 postings) positions None) i.is_built
    ∙ ap (λ ts. record { field = field; total = total; terms = unwrap_or ts []; current = None }) i.read

-- the open term as it is read
pub open_is : (key postings positions : List ℕ) (terms : List Term) (o : OpenTerm) (ps : List Posting) → IsOpenTerm terms postings positions o ps → open_term key postings positions o ≡ record { bytes = key; kind = o.kind; postings = ps }
open_is key postings positions terms o ps is =
    ap (λ r. made (term_postings o.doc_freq r (drop o.positions_start positions))) is.form
    ∙ ap (λ r. made (term_postings o.doc_freq (postings_form o.kind ps) r)) is.positions_are
    ∙ ap (λ n. made (term_postings n (postings_form o.kind ps) (positions_form ps))) is.number
    ∙ ap made (term_back o.kind ps is.writable)
  where
    made : Option TermPostings → TermWritten
    made t = record { bytes = key; kind = o.kind; postings = unwrap_or (option_map (λ (t : TermPostings). t.postings) t) [] }

pub open_view : (field total : ℕ) (dictionary : Option Building) (postings positions : List ℕ) (o : OpenTerm) (i : AreParts total dictionary postings positions (Some o)) → writing field total dictionary (drop 8 postings) positions (Some o) ≡ record { field = field; total = total; terms = i.terms; current = Some (record { bytes = unwrap_or i.built.waiting []; kind = o.kind; postings = i.is_open.1.0 }) }
open_view field total dictionary postings positions o i =
    ap (λ d. writing field total d (drop 8 postings) positions (Some o)) i.is_built
    ∙ ap (λ ts. record { field = field; total = total; terms = unwrap_or ts []; current = Some (open_term (unwrap_or i.built.waiting []) (drop 8 postings) positions o) }) i.read
    ∙ ap (λ t. record { field = field; total = total; terms = i.terms; current = Some t }) (open_is (unwrap_or i.built.waiting []) (drop 8 postings) positions i.built.terms o i.is_open.1.0 i.is_open.1.1)

-- ---- no term yet

read_none : (postings positions : List ℕ) → terms_at postings positions [] ≡ Some []
unfolding terms_at
read_none postings positions = refl

pub fresh_parts : (total : ℕ) (dictionary : Option Building) (postings : List ℕ) → total < 2 ^ 64 → dictionary ≡ Some (complete []) → postings ≡ to_le_bytes w64 total → AreParts total dictionary postings [] None
fresh_parts total dictionary postings small empty is =
    let size : length postings ≡ 8 = ap length is in
    record {
      built = complete [];
      is_built = empty;
      room = omega (arith, size);
      counted = ap (λ bs. u64_at bs 0) is ∙ u64_at-end [] total 0 small refl;
      terms = [];
      read = read_none (drop 8 postings) [];
      occur = tt;
      within = tt;
      is_open = (refl, (let rest : length (drop 8 postings) ≡ length postings - 8 = length-drop 8 postings in omega (arith, rest, size)), refl);
    }

pub fresh_view : (field total : ℕ) (dictionary : Option Building) (postings : List ℕ) → total < 2 ^ 64 → dictionary ≡ Some (complete []) → postings ≡ to_le_bytes w64 total → writing field total dictionary (drop 8 postings) [] None ≡ fresh field total
unfolding fresh_parts
fresh_view field total dictionary postings small empty is = closed_view field total dictionary postings [] (fresh_parts total dictionary postings small empty is)

-- ---- a term is opened

module _ (field total : ℕ) (dictionary grown : Option Building) (postings positions bytes : List ℕ) (kind : RecordKind) (i : AreParts total dictionary postings positions None) (is : grown ≡ Some (with_key bytes i.built)) where
  abbrev first : OpenTerm
  first = record { kind = kind; doc_freq = 0; last = 0; postings_start = length postings - 8; positions_start = length positions }

  opened_body : drop 8 (postings ++ kind_byte kind ∷ []) ≡ drop 8 postings ++ kind_byte kind ∷ []
  opened_body = drop-append-le 8 postings (kind_byte kind ∷ []) i.room

  body_size : length (drop 8 postings) ≡ length postings - 8
  body_size = length-drop 8 postings

  opened_size : length (drop 8 (postings ++ kind_byte kind ∷ [])) ≡ length (drop 8 postings) + 1
  opened_size = ap length opened_body ∙ length-append (drop 8 postings) (kind_byte kind ∷ [])

  pub opened_parts : AreParts total grown (postings ++ kind_byte kind ∷ []) positions (Some (record { kind = kind; doc_freq = 0; last = 0; postings_start = length postings - 8; positions_start = length positions }))
  opened_parts = record {
    built = with_key bytes i.built;
    is_built = is;
    room = (let size : length (postings ++ kind_byte kind ∷ []) ≡ length postings + 1 = length-append postings (kind_byte kind ∷ []) in omega (arith, size, i.room));
    counted = u64_at-front postings (kind_byte kind ∷ []) 0 i.room ∙ i.counted;
    terms = i.terms;
    read = ap (λ bs. terms_at bs positions i.built.terms) opened_body
        ∙ ap (λ qs. terms_at (drop 8 postings ++ kind_byte kind ∷ []) qs i.built.terms) (sym (append-nil positions))
        ∙ terms_at-front (drop 8 postings) (kind_byte kind ∷ []) positions [] i.built.terms i.within
        ∙ i.read;
    occur = i.occur;
    within = within-more (length (drop 8 postings)) (length positions) (length (drop 8 (postings ++ kind_byte kind ∷ []))) (length positions) i.built.terms (omega (arith, opened_size)) (omega arith) i.within;
    is_open = (
      (bytes, refl),
      (
        [],
        record {
          starts = i.is_open.1 ∙ body_size;
          positions_starts = i.is_open.2;
          room = omega (arith, opened_size, body_size);
          positions_room = omega arith;
          form = ap (drop (length postings - 8)) opened_body ∙ drop_at (drop 8 postings) (kind_byte kind ∷ []) (length postings - 8) body_size;
          positions_are = ap (drop (length positions)) (sym (append-nil positions)) ∙ drop_at positions [] (length positions) refl;
          writable = tt;
          number = refl;
          few = omega arith;
          last = refl;
        },
      ),
    );
  }

  pub opened_view : writing field total grown (drop 8 (postings ++ kind_byte kind ∷ [])) positions (Some (record { kind = kind; doc_freq = 0; last = 0; postings_start = length postings - 8; positions_start = length positions })) ≡ with_term bytes kind (writing field total dictionary (drop 8 postings) positions None)
  unfolding opened_parts
  opened_view = open_view field total grown (postings ++ kind_byte kind ∷ []) positions first opened_parts ∙ sym (ap (with_term bytes kind) (closed_view field total dictionary postings positions i))

-- ---- a document is added

-- the open term of some parts
pub open_of : (total : ℕ) (dictionary : Option Building) (postings positions : List ℕ) (o : OpenTerm) → AreParts total dictionary postings positions (Some o) → TermWritten
open_of total dictionary postings positions o i = record { bytes = unwrap_or i.built.waiting []; kind = o.kind; postings = i.is_open.1.0 }

module _ (field total : ℕ) (dictionary : Option Building) (postings positions : List ℕ) (o : OpenTerm) (i : AreParts total dictionary postings positions (Some o)) where
  abbrev ps : List Posting
  ps = i.is_open.1.0

  -- the document comes after the last
  pub behind : (document count : ℕ) (ds : List ℕ) → MayOccur document count ds (record { bytes = unwrap_or i.built.waiting []; kind = o.kind; postings = i.is_open.1.0 }) → (o.last ≤ document) × (o.doc_freq < 2 ^ 32 - 1)
  behind document count ds m =
      let last = i.is_open.1.1.last in
      let few = i.is_open.1.1.few in
      let ascends = m.ascends in
      let limit = m.limit in
      (omega (arith, last, last_before_next 0 i.is_open.1.0, ascends), omega (arith, few, ascends, limit))

  module _ (document count : ℕ) (ds : List ℕ) (m : MayOccur document count ds (record { bytes = unwrap_or i.built.waiting []; kind = o.kind; postings = i.is_open.1.0 })) (small : count < 2 ^ 32) where
    abbrev p : Posting
    p = record { document = document; recorded = recorded_as o.kind count ds }

    abbrev more : List ℕ
    more = occurrence_form o.kind (document - o.last) count

    abbrev after : OpenTerm
    after = record { kind = o.kind; doc_freq = o.doc_freq + 1; last = document; postings_start = o.postings_start; positions_start = o.positions_start }

    body : drop 8 (postings ++ more) ≡ drop 8 postings ++ more
    body = drop-append-le 8 postings more i.room

    body_grows : length (drop 8 postings) ≤ length (drop 8 (postings ++ more))
    body_grows = let size : length (drop 8 (postings ++ more)) ≡ length (drop 8 postings) + length more = ap length body ∙ length-append (drop 8 postings) more in omega (arith, size)

    positions_grow : length positions ≤ length (positions ++ flat_map varint (differences 0 ds))
    positions_grow = let size : length (positions ++ flat_map varint (differences 0 ds)) ≡ length positions + length (flat_map varint (differences 0 ds)) = length-append positions (flat_map varint (differences 0 ds)) in omega (arith, size)

    more_is : more ≡ document_form (last_document 0 ps) p
    more_is = ap (λ n. occurrence_form o.kind (document - n) count) i.is_open.1.1.last ∙ ap (λ x. varint (document - last_document 0 ps) ++ x) (sym (count_form_is o.kind count ds m.counted))

    form_now : drop o.postings_start (drop 8 (postings ++ more)) ≡ postings_form o.kind (ps ++ p ∷ [])
    form_now =
        ap (drop o.postings_start) body
        ∙ drop-append-le o.postings_start (drop 8 postings) more i.is_open.1.1.room
        ∙ ap (λ x. x ++ more) i.is_open.1.1.form
        ∙ ap (λ x. kind_byte o.kind ∷ (documents_form 0 ps ++ x)) more_is
        ∙ ap (λ x. kind_byte o.kind ∷ x) (sym (documents_form-push p 0 ps))

    positions_now : drop o.positions_start (positions ++ flat_map varint (differences 0 ds)) ≡ positions_form (ps ++ p ∷ [])
    positions_now =
        drop-append-le o.positions_start positions (flat_map varint (differences 0 ds)) i.is_open.1.1.positions_room
        ∙ ap (λ x. x ++ flat_map varint (differences 0 ds)) i.is_open.1.1.positions_are
        ∙ ap (λ x. positions_form ps ++ x) (sym (position_form_is o.kind count ds m.counted))
        ∙ sym (positions_form-push p ps)

    pub occurred_parts : AreParts total dictionary (postings ++ occurrence_form o.kind (document - o.last) count) (positions ++ flat_map varint (differences 0 ds)) (Some (record { kind = o.kind; doc_freq = o.doc_freq + 1; last = document; postings_start = o.postings_start; positions_start = o.positions_start }))
    occurred_parts = record {
      built = i.built;
      is_built = i.is_built;
      room = (let size : length (postings ++ more) ≡ length postings + length more = length-append postings more in omega (arith, size, i.room));
      counted = u64_at-front postings more 0 i.room ∙ i.counted;
      terms = i.terms;
      read = ap (λ bs. terms_at bs (positions ++ flat_map varint (differences 0 ds)) i.built.terms) body ∙ terms_at-front (drop 8 postings) more positions (flat_map varint (differences 0 ds)) i.built.terms i.within ∙ i.read;
      occur = i.occur;
      within = within-more (length (drop 8 postings)) (length positions) (length (drop 8 (postings ++ more))) (length (positions ++ flat_map varint (differences 0 ds))) i.built.terms body_grows positions_grow i.within;
      is_open = (
        i.is_open.0,
        (
          ps ++ p ∷ [],
          record {
            starts = i.is_open.1.1.starts;
            positions_starts = i.is_open.1.1.positions_starts;
            room = (let room = i.is_open.1.1.room in omega (arith, room, body_grows));
            positions_room = (let room = i.is_open.1.1.positions_room in omega (arith, room, positions_grow));
            form = form_now;
            positions_are = positions_now;
            writable = writable-push p o.kind 0 0 ps (is_of_kind o.kind count ds m.counted m.some small m.rise) m.limit m.ascends i.is_open.1.1.writable;
            number = (let number = i.is_open.1.1.number in let size : length (ps ++ p ∷ []) ≡ length ps + 1 = length-append ps (p ∷ []) in omega (arith, number, size));
            few = (let few = i.is_open.1.1.few in let next : next_document 0 (ps ++ p ∷ []) ≡ document + 1 = next_document-push p 0 ps in let ascends = m.ascends in omega (arith, few, next, ascends));
            last = sym (last_document-push p 0 ps);
          },
        ),
      );
    }

    pub occurred_view : writing field total dictionary (drop 8 (postings ++ occurrence_form o.kind (document - o.last) count)) (positions ++ flat_map varint (differences 0 ds)) (Some (record { kind = o.kind; doc_freq = o.doc_freq + 1; last = document; postings_start = o.postings_start; positions_start = o.positions_start })) ≡ with_document document count ds (writing field total dictionary (drop 8 postings) positions (Some o))
    unfolding occurred_parts
    occurred_view = open_view field total dictionary (postings ++ more) (positions ++ flat_map varint (differences 0 ds)) after occurred_parts ∙ sym (ap (with_document document count ds) (open_view field total dictionary postings positions o i))

  -- ---- the term is closed

  module _ (grown : Option Building) (is : grown ≡ Some (with_info (record { doc_freq = o.doc_freq; postings_start = o.postings_start; postings_end = length postings - 8; positions_start = o.positions_start; positions_end = length positions }) i.built)) (some : 0 < length i.is_open.1.0) where
    abbrev info : TermInfo
    info = record { doc_freq = o.doc_freq; postings_start = o.postings_start; postings_end = length postings - 8; positions_start = o.positions_start; positions_end = length positions }

    abbrev key : List ℕ
    key = unwrap_or i.built.waiting []

    abbrev t : TermWritten
    t = record { bytes = key; kind = o.kind; postings = ps }

    size : length (drop 8 postings) ≡ length postings - 8
    size = length-drop 8 postings

    all_postings : slice_range (drop 8 postings) o.postings_start (length postings - 8) ≡ postings_form o.kind ps
    all_postings = take_all (length postings - 8 - o.postings_start) (drop o.postings_start (drop 8 postings)) (let left : length (drop o.postings_start (drop 8 postings)) ≡ length (drop 8 postings) - o.postings_start = length-drop o.postings_start (drop 8 postings) in omega (arith, left, size)) ∙ i.is_open.1.1.form

    all_positions : slice_range positions o.positions_start (length positions) ≡ positions_form ps
    all_positions = take_all (length positions - o.positions_start) (drop o.positions_start positions) (let left : length (drop o.positions_start positions) ≡ length positions - o.positions_start = length-drop o.positions_start positions in omega (arith, left)) ∙ i.is_open.1.1.positions_are

    one : term_at (drop 8 postings) positions (key, info) ≡ Some t
    one =
        ap (λ r. term_in o.doc_freq key r (slice_range positions o.positions_start (length positions))) all_postings
        ∙ ap (λ r. term_in o.doc_freq key (postings_form o.kind ps) r) all_positions
        ∙ ap (λ n. term_in n key (postings_form o.kind ps) (positions_form ps)) i.is_open.1.1.number
        ∙ ap (option_map (λ (p : TermPostings). record { bytes = key; kind = p.kind; postings = p.postings })) (term_back o.kind ps i.is_open.1.1.writable)

    pub closed_parts : AreParts total grown postings positions None
    closed_parts = record {
      built = with_info info i.built;
      is_built = is;
      room = i.room;
      counted = i.counted;
      terms = i.terms ++ t ∷ [];
      occur = occurs-push i.terms t i.occur some;
      read = terms_at-push (drop 8 postings) positions i.built.terms (key, info) i.terms t i.read one;
      within = within-push (length (drop 8 postings)) (length positions) i.built.terms (key, info) i.within (let room = i.is_open.1.1.room in let positions_room = i.is_open.1.1.positions_room in (omega (arith, room, size), omega (arith, size), positions_room, omega arith));
      is_open = (refl, ap postings_end (last_term-push None i.built.terms (key, info)) ∙ sym size, ap positions_end (last_term-push None i.built.terms (key, info)));
    }

    pub term_closed_view : writing field total grown (drop 8 postings) positions None ≡ closed (writing field total dictionary (drop 8 postings) positions (Some o))
    unfolding closed_parts
    term_closed_view = closed_view field total grown postings positions closed_parts ∙ sym (ap closed (open_view field total dictionary postings positions o i))
