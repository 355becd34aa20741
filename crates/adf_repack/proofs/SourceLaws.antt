-- Reads behind others, and pieces of blocks.
use Rattle.std.proofs.Common.{◌≡◌, ℕ, ◌+◌, ◌-◌, ◌*◌, ◌≤◌, ◌<◌, List, [], ◌++◌, length, get_or, take, drop, refl, subst, sym, ◌∙◌, ap, arith, inl, inr, Option, Some, length-append, length-take, length-drop}
use Rattle.std.proofs.lemmas.List.{get_or-take, get_or-drop, get_or_append_left, get_or-append_right}
use Rattle.std.proofs.lemmas.Bool.{cases_lt}
use Rattle.std.proofs.lemmas.Grind.{same_number_lists}
use Rattle.cg_io.specs.Device.{DeviceState, bytes_at, Gives}
use Rattle.adf_repack.specs.Writers.{with_more}
use Rattle.adf_repack.proofs.WriterLaws.{more_then}
use Rattle.cg_io.proofs.Places.{length-bytes_at, get_or-bytes_at}
use Rattle.adf_model.specs.Counts.{OnlyReads}

pub reads_then : (s t u : DeviceState) → OnlyReads s t → OnlyReads t u → OnlyReads s u
reads_then s t u first then = record {
  held = then.held ∙ first.held;
  lost = then.lost ∙ first.lost;
  writes = then.writes ∙ first.writes;
  reads = omega (arith, first.reads, then.reads);
  faults = omega (arith, first.faults, then.faults);
}

-- a piece of a block is a piece of the bytes
pub piece_of : (image block : List ℕ) (n start c place : ℕ) → block ≡ bytes_at image (n * 4096) 4096 → n * 4096 + start ≡ place → start + c ≤ 4096
    → take c (drop start block) ≡ bytes_at image place c
piece_of image block n start c place is at fits =
    same_number_lists (take c (drop start block)) (bytes_at image place c) (long ∙ sym (length-bytes_at image place c))
    (λ k lt. let small : k < c = omega (arith, lt, long) in
    get_or-take c (drop start block) k 0 small ∙ get_or-drop start block k 0 ∙ ap (λ (l : List ℕ). get_or l (start + k) 0) is
    ∙ get_or-bytes_at image (n * 4096) 4096 (start + k) (omega (arith, small, fits)) ∙ ap (λ i. get_or image i 0) (omega (arith, at)) ∙ sym (get_or-bytes_at image place c k small))
  where
    size : length block ≡ 4096
    size = ap length is ∙ length-bytes_at image (n * 4096) 4096

    long : length (take c (drop start block)) ≡ c
    long = omega (arith, fits, size, length-take c (drop start block), length-drop start block)

-- two pieces that touch are one
pub pieces_join : (image : List ℕ) (place d c : ℕ) → bytes_at image place d ++ bytes_at image (place + d) c ≡ bytes_at image place (d + c)
pieces_join image place d c =
    same_number_lists (bytes_at image place d ++ bytes_at image (place + d) c) (bytes_at image place (d + c)) (sizes ∙ sym (length-bytes_at image place (d + c)))
    (λ k lt. let small : k < d + c = omega (arith, lt, sizes) in elim (cases_lt k d) [
      | inl before ↦ get_or_append_left (bytes_at image place d) (bytes_at image (place + d) c) 0 k (omega (arith, before, length-bytes_at image place d))
          ∙ get_or-bytes_at image place d k before ∙ sym (get_or-bytes_at image place (d + c) k small)
      | inr past ↦ get_or-append_right (bytes_at image place d) (bytes_at image (place + d) c) d k 0 (length-bytes_at image place d) past
          ∙ get_or-bytes_at image (place + d) c (k - d) (omega (arith, past, small)) ∙ ap (λ i. get_or image i 0) (omega (arith, past)) ∙ sym (get_or-bytes_at image place (d + c) k small)
    ])
  where
    sizes : length (bytes_at image place d ++ bytes_at image (place + d) c) ≡ d + c
    sizes = omega (arith, length-append (bytes_at image place d) (bytes_at image (place + d) c), length-bytes_at image place d, length-bytes_at image (place + d) c)

plain : (start c : ℕ) → start + c - start ≡ c
plain start c = omega arith

-- a piece of a block that was read
pub piece_told : (held : Option (List ℕ)) (image block : List ℕ) (n start c place : ℕ) → held ≡ Some image → Gives held n block → n * 4096 + start ≡ place → start + c ≤ 4096
    → take (start + c - start) (drop start block) ≡ bytes_at image place c
piece_told held image block n start c place e given at fits =
    ap (λ (k : ℕ). take k (drop start block)) (plain start c) ∙ piece_of image block n start c place (subst (λ (h : Option (List ℕ)). Gives h n block) e given) at fits

pub piece_long : (block : List ℕ) (start c : ℕ) → length block ≡ 4096 → start + c ≤ 4096 → length (take (start + c - start) (drop start block)) ≡ c
piece_long block start c size fits = ap (λ (k : ℕ). length (take k (drop start block))) (plain start c) ∙ omega (arith, size, fits, length-take c (drop start block), length-drop start block)

pub none_at : (image : List ℕ) (place : ℕ) → bytes_at image place 0 ≡ []
unfolding bytes_at
none_at image place = refl

pub reads_none : (s : DeviceState) → OnlyReads s s
reads_none s = record { held = refl; lost = refl; writes = refl; reads = omega arith; faults = omega arith }

-- bytes that were appended, and a piece behind them
pub appended_more : (first middle last : Option (List ℕ)) (image piece : List ℕ) (place d c : ℕ) → middle ≡ with_more first (bytes_at image place d) → last ≡ with_more middle piece
    → piece ≡ bytes_at image (place + d) c → last ≡ with_more first (bytes_at image place (d + c))
appended_more first middle last image piece place d c before after is =
    after ∙ ap (with_more middle) is ∙ ap (λ (b : Option (List ℕ)). with_more b (bytes_at image (place + d) c)) before
    ∙ more_then first (bytes_at image place d) (bytes_at image (place + d) c) ∙ ap (with_more first) (pieces_join image place d c)
