-- What the chunks of a node hold.
use Rattle.std.proofs.Common.{◌≡◌, ℕ, ◌+◌, ◌-◌, min, ◌≤◌, ◌<◌, List, [], ◌∷◌, ◌++◌, map, length, get_or, take, drop, refl, sym, ◌∙◌, ap, subst, arith, Option, inl, inr, append_assoc, append-nil, length-append}
use Rattle.std.specs.Prelude.{None, Some, IsSome, is_some, IsTrue, ◌↔◌, Bool, true, false, not, ◌||◌, ◌&&◌, ◌==◌, nat_le}
use Rattle.std.specs.List.{All}
use Rattle.std.proofs.lemmas.List.{length-take, take_all, take-append-le, drop_more, get_or-map, length-map, take-take}
use Rattle.std.proofs.lemmas.Bool.{cases_lt}
use Rattle.std.proofs.lemmas.Bool.Decides.{nat_tests}
use Rattle.std.proofs.lemmas.List.Elements.{All-head, All-tail}
use Rattle.std.proofs.lemmas.Slice.{take-put_mid}
use Rattle.std.proofs.Math.Seq.{take-append-add, take-nil}
use Rattle.std.proofs.Math.ListN.{drop_of_length-le}
use borrow.Rule.Slice.PartMut.{put_mid}
use Rattle.cg_io.specs.Device.{GivesAt}
use Rattle.adf_format.specs.Fields.{field}
use Rattle.adf_format.proofs.FieldLaws.{length-field}
use Rattle.adf_format.specs.declared.types.Extent.{Extent}
use Rattle.adf_format.specs.FirstFault.{ChunkVisit, payload_total, payloads_in}
use Rattle.cg_io.specs.Answers.{Told}
use Rattle.layout_lint.specs.Chunks.{data_extent, IsChunk}
use Rattle.layout_lint.proofs.PageLaws.{field_read}

-- ---- reads into a part

pub part_read : (held : Option (List ℕ)) (place start count k : ℕ) (old part : List ℕ) → start + count ≤ length old → length part ≡ count → GivesAt held place part
    → Told held (λ image. place + count ≤ length image → take (start + count) (put_mid start k old part) ≡ take start old ++ field image place count)
part_read held place start count k old part fits long gives = λ image told within.
    take-put_mid start k old part (start + count) (ap (λ n. start + n) (sym long)) (omega (arith, fits)) ∙ ap (λ bytes. take start old ++ bytes) (field_read held place count part long gives image told within)

-- ---- payloads one after another

-- the first bytes of two lists
take_across : (n c : ℕ) (xs ys : List ℕ) → c ≡ min (length xs) n → take n (xs ++ ys) ≡ take c xs ++ take (n - c) ys
take_across n c xs ys is = elim (cases_lt n (length xs)) [
  | inl short ↦
      let all : c ≡ n = omega arith in
      let none : n - c ≡ 0 = omega arith in
      take-append-le n xs ys (omega arith) ∙ ap (λ k. take k xs) (sym all) ∙ sym (append-nil (take c xs)) ∙ ap (λ k. take c xs ++ take k ys) (sym none)
  | inr long ↦
      let all : c ≡ length xs = omega arith in
      let both : n ≡ length xs + (n - c) = omega arith in
      ap (λ k. take k (xs ++ ys)) both ∙ take-append-add xs ys (n - c) ∙ ap (λ zs. zs ++ take (n - c) ys) (sym (take_all c xs (omega arith)))
]

no_visit : ChunkVisit
no_visit = record { place = 0; listed = None }

module _ (image : List ℕ) (end : ℕ) (long : end < length image) where
  abbrev payload_of : Extent → List ℕ
  payload_of e = field image (e.place + 16) (e.length - 20)

  payload_length : (e : Extent) → IsChunk end e → length (payload_of e) ≡ e.length - 20
  payload_length e is = length-field image (e.place + 16) (e.length - 20) ∙ omega (arith, is.long, is.inside, long)

  payloads_length : (visits : List ChunkVisit) → All (IsChunk end) (map (data_extent image) visits) → length (payloads_in image visits) ≡ payload_total image visits
  payloads_length [] sound = refl
  payloads_length (v ∷ vs) sound =
      let first : length (payload_of (data_extent image v)) ≡ (data_extent image v).length - 20 = payload_length (data_extent image v) (All-head (IsChunk end) (data_extent image v) (map (data_extent image) vs) sound) in
      let later : length (payloads_in image vs) ≡ payload_total image vs = payloads_length vs (All-tail (IsChunk end) (data_extent image v) (map (data_extent image) vs) sound) in
      length-append (payload_of (data_extent image v)) (payloads_in image vs) ∙ ap (λ k. k + length (payloads_in image vs)) first ∙ ap (λ k. ((data_extent image v).length - 20) + k) later

  payload_first : (chunks : List Extent) (visits : List ChunkVisit) (k : ℕ) (e other : Extent) → chunks ≡ map (data_extent image) visits → k < length chunks → e ≡ get_or chunks k other
      → payloads_in image (drop k visits) ≡ payload_of e ++ payloads_in image (drop (k + 1) visits)
  payload_first chunks visits k e other are lt here =
      let same : length visits ≡ length chunks = sym (length-map visits (data_extent image)) ∙ ap length (sym are) in
      let lt' : k < length visits = omega arith in
      let is : e ≡ data_extent image (get_or visits k no_visit) = here ∙ ap (λ (xs : List Extent). get_or xs k other) are ∙ get_or-map (data_extent image) visits k no_visit other lt' in
      ap (payloads_in image) (drop_more visits k no_visit lt') ∙ ap (λ x. payload_of x ++ payloads_in image (drop (k + 1) visits)) (sym is)

  -- one more chunk is read
  pub gather_step : (chunks : List Extent) (visits : List ChunkVisit) (k : ℕ) (e other : Extent) (d c len : ℕ) (all into new : List ℕ) → chunks ≡ map (data_extent image) visits → k < length chunks → e ≡ get_or chunks k other → IsChunk end e
      → length into ≡ len → c ≡ min (e.length - 20) (length into - d) → take (d + c) new ≡ take d into ++ field image (e.place + 16) c
      → all ≡ take d into ++ take (len - d) (payloads_in image (drop k visits)) → all ≡ take (d + c) new ++ take (len - (d + c)) (payloads_in image (drop (k + 1) visits))
  gather_step chunks visits k e other d c len all into new are lt here sound same count read before =
      let size : length (payload_of e) ≡ e.length - 20 = payload_length e sound in
      let rest : List ℕ = payloads_in image (drop (k + 1) visits) in
      let left : (len - d) - c ≡ len - (d + c) = omega arith in
      let cut : take c (payload_of e) ≡ field image (e.place + 16) c = take-take c (e.length - 20) (drop (e.place + 16) image) (omega arith) in
      before ∙ ap (λ bytes. take d into ++ take (len - d) bytes) (payload_first chunks visits k e other are lt here)
      ∙ ap (λ bytes. take d into ++ bytes) (take_across (len - d) c (payload_of e) rest (count ∙ ap (λ n. min (e.length - 20) (n - d)) same ∙ ap (λ n. min n (len - d)) (sym size)))
      ∙ ap (λ bytes. take d into ++ (bytes ++ take ((len - d) - c) rest)) cut ∙ sym (append_assoc (take d into) (field image (e.place + 16) c) (take ((len - d) - c) rest))
      ∙ ap (λ bytes. bytes ++ take ((len - d) - c) rest) (sym read) ∙ ap (λ n. take (d + c) new ++ take n rest) left

  -- all chunks are read
  pub gather_end : (chunks : List Extent) (visits : List ChunkVisit) (k d len : ℕ) (into : List ℕ) → chunks ≡ map (data_extent image) visits → All (IsChunk end) chunks → length chunks ≤ k
      → length into ≡ len → d ≤ len → len ≤ payload_total image visits → take len (payloads_in image visits) ≡ take d into ++ take (len - d) (payloads_in image (drop k visits))
      → into ≡ take len (payloads_in image visits)
  gather_end chunks visits k d len into are sound past same within enough before =
      let count : length visits ≡ length chunks = sym (length-map visits (data_extent image)) ∙ ap length (sym are) in
      let none : drop k visits ≡ [] = drop_of_length-le visits (omega arith) in
      let size : length (payloads_in image visits) ≡ payload_total image visits = payloads_length visits (subst (All (IsChunk end)) are sound) in
      let whole : take len (payloads_in image visits) ≡ take d into = before ∙ ap (λ vs. take d into ++ take (len - d) (payloads_in image vs)) none ∙ ap (λ bytes. take d into ++ bytes) (take-nil (len - d)) ∙ append-nil (take d into) in
      let all : d ≡ len = omega (arith, ap length whole, length-take len (payloads_in image visits), length-take d into) in
      sym (whole ∙ take_all d into (omega arith))

-- ---- links

pub is_there : {T : Type 0} (o : Option T) (b : Bool) → (IsSome o ↔ IsTrue b) → is_some o ≡ b
is_there (Some x) true h = refl
is_there (Some x) false h = sym (h.0 refl)
is_there None true h = h.1 refl
is_there None false h = refl

-- the first bytes of a text, where a part of it was read
pub text_read : (size : ℕ) (text part payload : List ℕ) → size ≤ length text → length part ≡ length (take size text) → part ≡ take (length (take size text)) payload → take size (part ++ drop size text) ≡ take size payload
text_read size text part payload fits same is =
    let long : length (take size text) ≡ size = omega (arith, length-take size text, fits) in
    take-append-le size part (drop size text) (omega arith) ∙ take_all size part (omega arith) ∙ is ∙ ap (λ n. take n payload) long

-- what is asked of a link that has one dimension and is short
pub link_kept : (link : Bool) (rank size : ℕ) (sound text : Bool) → link ≡ true → rank ≡ 1 → size ≤ 4096 → sound ≡ text → sound ≡ (not link || (rank == 1) && nat_le size 4096 && text)
link_kept link rank size sound text is one short same = grind (arith, nat_tests)
