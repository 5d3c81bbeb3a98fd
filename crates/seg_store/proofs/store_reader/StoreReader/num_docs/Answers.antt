use Rattle.std.proofs.Common.{◌≡◌, ℕ, List, true, ◌-◌, length, sym, ap, ◌∙◌, arith}
use Rattle.seg_common.specs.LittleEndian.{u32_at}
use Rattle.seg_store.specs.Store.{is_store, blocks_of, document_count, documents_of}
use Rattle.seg_store.specs.Block.{Block}
use Rattle.seg_store.proofs.DocumentNumbers.{number_of_documents}
use Rattle.seg_store.proofs.DocumentPlaces.{store_facts, total_at}
use Rattle.seg_store.proofs.store_reader.StoreReader.num_docs.Goals as goal

pub overflow_sub-bytes : goal.overflow_sub-bytes
overflow_sub-bytes c = omega (arith, ap length c.as_slice-bytes.ensures, (store_facts c.self.inside.bytes c.self.invariant).room)

pub u32_at-requires : goal.u32_at-requires
u32_at-requires c = omega (arith, ap length c.as_slice-bytes.ensures, (store_facts c.self.inside.bytes c.self.invariant).room)

-- the number that the footer says
said : (bytes seen : List ℕ) (blocks : List Block) (n : ℕ) → is_store bytes ≡ true → seen ≡ bytes → blocks_of bytes ≡ blocks → n ≡ u32_at seen (length seen - 5) → n ≡ document_count blocks
said bytes seen blocks n good same view is = is ∙ ap (λ l. u32_at l (length l - 5)) same ∙ total_at bytes good ∙ ap document_count view

pub returns-clause-counted : goal.returns-clause-counted
returns-clause-counted c = said c.self.inside.bytes _ _ _ c.self.invariant c.as_slice-bytes.ensures c.self.view_is c.u32_at.ensures

pub returns-clause-documents : goal.returns-clause-documents
returns-clause-documents c =
    said c.self.inside.bytes _ _ _ c.self.invariant c.as_slice-bytes.ensures c.self.view_is c.u32_at.ensures
    ∙ ap document_count (sym c.self.view_is) ∙ sym (number_of_documents c.self.inside.bytes c.self.invariant) ∙ ap (λ bs. length (documents_of bs)) c.self.view_is
