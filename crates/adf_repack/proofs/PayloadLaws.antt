-- Data that are read from the chunks of a node.
use Rattle.std.proofs.Common.{◌+◌, ◌-◌, ◌<◌, ◌++◌, [], ◌∷◌, zero, suc, min, take, refl, subst, inl, inr, length-append, ◌≡◌, ◌≢◌, ℕ, sym, ◌∙◌, ap, arith, List, length, Option, None, Some, IfSome, Bool, false}
use Rattle.std.specs.Prelude.{◌==◌, cond}
use Rattle.std.proofs.lemmas.Bool.{ne_eqb}
use Rattle.adf_format.specs.Fields.{field}
use Rattle.adf_format.specs.Pointer.{place_of}
use Rattle.adf_format.specs.declared.fields.TheConstants.{CHUNK_START}
use Rattle.adf_format.specs.RecordFields.{field_in}
use Rattle.adf_format.specs.Records.{NodeRecord}
use Rattle.cg_io.specs.Device.{bytes_at, GivesAt}
use Rattle.adf_repack.specs.Payloads.{chunk_of, chunk_at, entry_at, payload_at, payload_length, payloads_until, BreaksHead, BreaksData}
use Rattle.adf_model.specs.Counts.{OnlyReads}
use Rattle.adf_model.specs.declared.error.AdfError.{AdfError}
use Rattle.adf_repack.specs.Sources.{IsUnread, IsBroken}
use Rattle.adf_repack.specs.Writers.{with_more}
use Rattle.adf_repack.proofs.WriterLaws.{more_then}
use Rattle.adf_repack.proofs.SourceLaws.{pieces_join}
use Rattle.cg_io.proofs.Places.{length-bytes_at}
use Rattle.cg_io.specs.Device.{DeviceState}
use Rattle.std.specs.List.{flat_map, range_with_len}
use Rattle.std.proofs.lemmas.Bool.{cases_lt}
use Rattle.std.proofs.lemmas.Grind.{flat_map-append}
use Rattle.std.proofs.lemmas.List.{append-nil, take_all, take-append-le}
use Rattle.std.proofs.Math.Seq.{take-append-add}

not_one : (n : ℕ) → n ≢ 1 → n == 1 ≡ false
not_one n differs = ne_eqb n 1 differs

-- a chunk that a table names
pub chunk_listed : (held : Option (List ℕ)) (h : NodeRecord) (i at chunk : ℕ) (entry : List ℕ) → h.chunks ≢ 1 → at ≡ entry_at h i → GivesAt held at entry → length entry ≡ 24
    → place_of (field entry 0 12) ≡ chunk → IfSome held (λ image. chunk ≡ chunk_at image h i)
chunk_listed None h i at chunk entry several is given long names = tt
chunk_listed (Some image) h i at chunk entry several is given long names =
    let read : entry ≡ bytes_at image (entry_at h i) 24 = given ∙ ap (bytes_at image at) long ∙ ap (λ p. bytes_at image p 24) is in
    sym names ∙ ap (λ (b : List ℕ). place_of (field b 0 12)) read
    ∙ ap (λ (b : Bool). cond b (chunk_of h) (place_of (field_in (bytes_at image (entry_at h i) 24) CHUNK_START))) (sym (not_one h.chunks several))

-- ---- what the first chunks hold

range_more : (a n : ℕ) → range_with_len a (suc n) ≡ range_with_len a n ++ (a + n) ∷ []
range_more a zero = ap (λ k. k ∷ []) (omega arith)
range_more a (suc n) = ap (λ l. a ∷ l) (range_more (a + 1) n ∙ ap (λ k. range_with_len (a + 1) n ++ k ∷ []) (omega arith))

-- what is made of the numbers up to one, and of one more
pub flat_more : (f : ℕ → List ℕ) (n : ℕ) → flat_map f (range_with_len 0 (n + 1)) ≡ flat_map f (range_with_len 0 n) ++ f n
flat_more f n =
    let next : n + 1 ≡ suc n = omega arith in
    let here : 0 + n ≡ n = omega arith in
    ap (λ k. flat_map f (range_with_len 0 k)) next ∙ ap (flat_map f) (range_more 0 n) ∙ flat_map-append f (range_with_len 0 n) ((0 + n) ∷ [])
    ∙ ap (λ l. flat_map f (range_with_len 0 n) ++ l) (append-nil (f (0 + n))) ∙ ap (λ k. flat_map f (range_with_len 0 n) ++ f k) here

until_more : (image : List ℕ) (h : NodeRecord) (n : ℕ) → payloads_until image h (n + 1) ≡ payloads_until image h n ++ payload_at image (chunk_at image h n)
until_more image h n = flat_more (λ i. payload_at image (chunk_at image h i)) n

take_bytes_at : (image : List ℕ) (place len m k : ℕ) → k ≡ min m len → take m (bytes_at image place len) ≡ bytes_at image place k
take_bytes_at image place len m k is = elim (cases_lt m len) [
  | inl less ↦
      let few : k ≡ m = omega (arith, is, less) in
      let both : m + (len - m) ≡ len = omega (arith, less) in
      let size : length (bytes_at image place m) ≡ m = length-bytes_at image place m in
      ap (λ n. take m (bytes_at image place n)) (sym both) ∙ ap (take m) (sym (pieces_join image place m (len - m)))
      ∙ take-append-le m (bytes_at image place m) (bytes_at image (place + m) (len - m)) (omega (arith, size)) ∙ take_all m (bytes_at image place m) (omega (arith, size))
      ∙ ap (bytes_at image place) (sym few)
  | inr all ↦ take_all m (bytes_at image place len) (omega (arith, all, length-bytes_at image place len)) ∙ ap (bytes_at image place) (omega (arith, is, all))
]

-- the first bytes of two lists
take_across : (size : ℕ) (xs ys : List ℕ) → take size (xs ++ ys) ≡ take size xs ++ take (size - length xs) ys
take_across size xs ys = elim (cases_lt (length xs) size) [
  | inl less ↦
      let both : length xs + (size - length xs) ≡ size = omega (arith, less) in
      ap (λ n. take n (xs ++ ys)) (sym both) ∙ take-append-add xs ys (size - length xs) ∙ ap (λ l. l ++ take (size - length xs) ys) (sym (take_all size xs (omega (arith, less))))
  | inr all ↦
      let none : size - length xs ≡ 0 = omega (arith, all) in
      take-append-le size xs ys all ∙ sym (append-nil (take size xs)) ∙ ap (λ n. take size xs ++ take n ys) (sym none)
]

module _ (image : List ℕ) (h : NodeRecord) (n c len left size count : ℕ) (at : c ≡ chunk_at image h n) (long : len ≡ payload_length image c) (some : count ≡ min left len)
    (rest : left ≡ size - length (payloads_until image h n)) where
  -- one chunk more is appended
  pub payload_step : (first middle last : Option (List ℕ)) → middle ≡ with_more first (take size (payloads_until image h n)) → last ≡ with_more middle (bytes_at image (c + 16) count)
      → last ≡ with_more first (take size (payloads_until image h (n + 1)))
  payload_step first middle last before after =
      let xs : List ℕ = payloads_until image h n in
      let ys : List ℕ = payload_at image (chunk_at image h n) in
      let read : take left ys ≡ bytes_at image (c + 16) count
      = ap (λ k. take left (payload_at image k)) (sym at) ∙ take_bytes_at image (c + 16) (payload_length image c) left count (some ∙ ap (λ k. min left k) long) in
      after ∙ ap (λ o. with_more o (bytes_at image (c + 16) count)) before ∙ more_then first (take size xs) (bytes_at image (c + 16) count)
      ∙ ap (λ l. with_more first (take size xs ++ l)) (sym read ∙ ap (λ k. take k ys) rest) ∙ ap (with_more first) (sym (take_across size xs ys) ∙ ap (take size) (sym (until_more image h n)))

  pub rest_step : left - count ≡ size - length (payloads_until image h (n + 1))
  rest_step =
      let xs : List ℕ = payloads_until image h n in
      let ys : List ℕ = payload_at image (chunk_at image h n) in
      let more : length (payloads_until image h (n + 1)) ≡ length xs + length ys = ap length (until_more image h n) ∙ length-append xs ys in
      let whole : length ys ≡ len = length-bytes_at image (chunk_at image h n + 16) (payload_length image (chunk_at image h n)) ∙ ap (payload_length image) (sym at) ∙ sym long in
      omega (arith, more, whole, some, rest)

-- ---- refusals

pub some_from : (held : Option (List ℕ)) (P : List ℕ → Type 0) → ((image : List ℕ) → held ≡ Some image → P image) → IfSome held P
some_from None P all = tt
some_from (Some image) P all = all image refl

pub told_of : (held : Option (List ℕ)) (image : List ℕ) (P : List ℕ → Type 0) → held ≡ Some image → IfSome held P → P image
told_of held image P is told = subst (λ o. IfSome o P) is told

pub unread_then : (s t u : DeviceState) (e : AdfError) → OnlyReads s t → IsUnread t.faults u.faults e → IsUnread s.faults u.faults e
unread_then s t u e first h = record { is = h.is; rose = omega (arith, first.faults, h.rose) }

-- a chunk whose head breaks a rule, and an entry
pub broken_chunk : (held again : Option (List ℕ)) (wide : Bool) (h : NodeRecord) (i c place size : ℕ) (e : AdfError) → again ≡ held → i < h.chunks → IfSome again (λ image. c ≡ chunk_at image h i)
    → IsBroken (BreaksHead again c) e → IsBroken (BreaksData held wide h place size) e
broken_chunk held again wide h i c place size e same within stands b = record {
  rule = b.rule;
  place = b.place;
  is = b.is;
  so = inr (inl (record {
    chunk = c;
    one = record { number = i; within = within; stands = subst (λ o. IfSome o (λ image. c ≡ chunk_at image h i)) same stands };
    breaks = subst (λ o. BreaksHead o c b.rule b.place) same b.so;
  }));
}
