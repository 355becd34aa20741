-- The texts of a link: its chunk, and the dimensions in its header.
use Rattle.std.proofs.Common.{◌≡◌, ℕ, ◌∙◌, ap, arith, List, ◌∷◌, ◌++◌, length, length-append, append_assoc, map, take, replicate, ◌+◌, ◌-◌, ◌/◌, ◌%◌, Bool, true, false}
use Rattle.std.proofs.lemmas.List.{length-replicate, take-replicate}
use Rattle.adf_format.specs.HeapRule.{chunk_length_for}
use Rattle.adf_format.specs.Hex.{hex_text}
use Rattle.adf_format.specs.Parts.{dimension_digits}
use Rattle.adf_format.specs.Pointer.{To, pointer_text}
use Rattle.adf_format.specs.Records.{Data, start_tag, head_text, end_tag}
use Rattle.adf_format.proofs.SpelledParts.{length-pointer_text}
use Rattle.disk_ptr.specs.View.{view}
use Rattle.disk_ptr.specs.declared.DiskPtr.{DiskPtr}
use Rattle.disk_ptr.specs.declared.DiskPtr.TheVariants.{At}
use Rattle.tree_edits.specs.Linked.{filled_up, chunk_text}
use Rattle.tree_edits.proofs.NameWritten.{place_again}

pub length-filled_up : (payload : List ℕ) → 20 + length (filled_up payload) ≡ chunk_length_for (length payload)
length-filled_up payload =
    let a = length-append payload (replicate (12 - length payload) 0) in
    let b = length-replicate {A = ℕ} (12 - length payload) 0 in
    omega (arith, a, b)

pub length-chunk_text : (place : ℕ) (payload : List ℕ) → length (chunk_text place payload) ≡ chunk_length_for (length payload)
length-chunk_text place payload =
    let end = place + 16 + length (filled_up payload) in
    let a = length-append (head_text Data (To end) ++ filled_up payload) (end_tag Data) in
    let b = length-append (head_text Data (To end)) (filled_up payload) in
    let c = length-append (start_tag Data) (pointer_text (To end)) in
    let d = length-pointer_text (To end) in
    let e = length-filled_up payload in
    omega (arith, a, b, c, d, e)

-- a chunk whose text is put together of four
pub chunk_whole : (place end short : ℕ) (payload head tail a b c d : List ℕ) (p : DiskPtr) → end ≡ place + chunk_length_for (length payload) - 4 → short ≡ 12 - length payload
    → head ≡ head_text Data (view p) → p ≡ At (end / 4096) (end % 4096) → tail ≡ end_tag Data
    → a ≡ head → b ≡ a ++ payload → c ≡ b ++ take short (replicate 12 0) → d ≡ c ++ tail → d ≡ chunk_text place payload
chunk_whole place end short payload head tail a b c d p is_end is_short is_head is_p is_tail is_a is_b is_c is_d =
    is_d ∙ ap (λ (xs : List ℕ). xs ++ tail) (is_c ∙ ap (λ (xs : List ℕ). xs ++ take short (replicate 12 0)) (is_b ∙ ap (λ (xs : List ℕ). xs ++ payload) is_a))
    ∙ ap (λ (xs : List ℕ). head ++ payload ++ xs ++ tail) (take-replicate short 12 0 (omega (arith, is_short)) ∙ ap (λ (k : ℕ). replicate k 0) is_short)
    ∙ ap (λ (xs : List ℕ). xs ++ tail) (append_assoc head payload (replicate (12 - length payload) 0))
    ∙ ap (λ (xs : List ℕ). xs ++ filled_up payload ++ tail) (is_head ∙ ap (λ (x : DiskPtr). head_text Data (view x)) is_p ∙ ap (λ (k : ℕ). head_text Data (To k)) (place_again end ∙ same_end))
    ∙ ap (λ (xs : List ℕ). head_text Data (To (place + 16 + length (filled_up payload))) ++ filled_up payload ++ xs) is_tail
  where
    same_end : end ≡ place + 16 + length (filled_up payload)
    same_end = let l = length-filled_up payload in omega (arith, l, is_end)

-- the first of twelve dimensions
pub dims_are : (wide : Bool) (d : List ℕ) (size : ℕ) → take (dimension_digits wide) d ≡ hex_text (dimension_digits wide) size
    → map (take (dimension_digits wide)) (d ∷ replicate 11 (replicate 16 48)) ≡ hex_text (dimension_digits wide) size ∷ replicate 11 (replicate (dimension_digits wide) 48)
dims_are false d size e = ap (λ (x : List ℕ). x ∷ replicate 11 (replicate 8 48)) e
dims_are true d size e = ap (λ (x : List ℕ). x ∷ replicate 11 (replicate 16 48)) e
