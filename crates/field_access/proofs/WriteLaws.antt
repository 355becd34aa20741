-- Bytes that are told before and after a write.
use Rattle.std.proofs.Common.{◌≡◌, ℕ, refl, sym, ◌∙◌, ap, arith, List, [], ◌∷◌, length, get_or, ◌+◌, ◌<◌, ◌≤◌, ◌⊎◌, inl, inr}
use Rattle.std.proofs.lemmas.Bool.Decides.{nat_tests, leb_tells}
use Rattle.std.specs.Prelude.{nat_le, true, false, Option, Some, None, slice_get}
use Rattle.std.proofs.lemmas.Option.{slice_get-get_or}
use Rattle.cg_io.specs.Blocks.{Both, Wrote, KeepsOutside}
use Rattle.cg_io.proofs.BothLaws.{both_map}
use Rattle.adf_format.specs.declared.types.ExtentKind.{ExtentKind}
use Rattle.adf_format.specs.declared.types.Extent.{Extent}
use Rattle.adf_format.specs.Changes.{Writes}
use Rattle.adf_format.proofs.ReachedLaws.{still_changes, more_changes, later_changes, reached_by}
use Rattle.adf_format.proofs.FieldLaws.{same_field, field_whole}
use Rattle.adf_format.specs.Tiles.{cover, holds_byte}
use Rattle.adf_format.proofs.CountLaws.{none_holds}
use Rattle.field_access.specs.Fields.{ChangesOnly, IsWithin, range}

wrote_inside : (at : ℕ) (from old new : List ℕ) → Wrote at from old new → (i a b : ℕ) → i < length from → a ≡ at + i → b ≡ 0 + i → slice_get new a ≡ slice_get from b
wrote_inside at from old new w i a b lt e f =
    let far : at + length from ≤ length new = w.reaches (omega (arith, lt)) in
    let here : get_or new a 0 ≡ get_or from b 0 = w.within a (omega (arith, e)) (omega (arith, e, lt)) ∙ ap (λ k. get_or from k 0) (omega (arith, e, f)) in
    slice_get-get_or new a 0 (omega (arith, far, lt, e)) ∙ ap (λ x. Some x) here ∙ sym (slice_get-get_or from b 0 (omega (arith, f, lt)))

wrote_beside : (at : ℕ) (from old new : List ℕ) → Wrote at from old new → (b : ℕ) → b < length old → (b < at) ⊎ (at + length from ≤ b) → slice_get new b ≡ slice_get old b
wrote_beside at from old new w b lt out =
    let long : length old ≤ length new = w.longer in
    slice_get-get_or new b 0 (omega (arith, long, lt)) ∙ ap (λ x. Some x) (w.outside b out) ∙ sym (slice_get-get_or old b 0 lt)

pub written : (at : ℕ) (from old new : List ℕ) → Wrote at from old new → Writes at from old new
written at from old new w = record {
  longer = w.longer;
  stands = same_field (length from) at 0 new from (wrote_inside at from old new w) ∙ field_whole from (length from) refl;
  others = wrote_beside at from old new w;
}

pub all_written : (at : ℕ) (from : List ℕ) (old new : Option (List ℕ)) → Both (Wrote at from) old new → Both (Writes at from) old new
all_written at from None None w = tt
all_written at from None (Some new) w = w
all_written at from (Some old) None w = w
all_written at from (Some old) (Some new) w = written at from old new w

-- ---- bytes that may change

out_of_range : (at n b : ℕ) → cover (range at n ∷ []) b ≡ 0 → (b < at) ⊎ (at + n ≤ b)
out_of_range at n b none = by_place (leb_tells at b)
  where
    by_end : at ≤ b → ((nat_le (at + n) b ≡ true) × (at + n ≤ b)) ⊎ ((nat_le (at + n) b ≡ false) × (b < at + n)) → (b < at) ⊎ (at + n ≤ b)
    by_end low (inl h) = inr h.1
    by_end low (inr h) = absurd (clash low h.1)
      where
        clash : at ≤ b → b < at + n → ⊥
        clash low high = let out : holds_byte (range at n) b ≡ false = (none_holds (range at n) [] b none).0 in grind (arith, nat_tests)

    by_place : ((nat_le at b ≡ true) × (at ≤ b)) ⊎ ((nat_le at b ≡ false) × (b < at)) → (b < at) ⊎ (at + n ≤ b)
    by_place (inl h) = by_end h.1 (leb_tells (at + n) b)
    by_place (inr h) = inl h.1

changed : (at n : ℕ) (old new : List ℕ) → KeepsOutside at n old new → ChangesOnly (range at n ∷ []) old new
changed at n old new k = record {
  longer = k.longer;
  others = λ b none. k.outside b (out_of_range at n b none);
  grows = λ b past here. let to = k.grows b past here in reached_by ExtentKind.FreeChunk at n b to.0 to.1;
}

pub all_changed : (at n : ℕ) (old new : Option (List ℕ)) → Both (KeepsOutside at n) old new → Both (ChangesOnly (range at n ∷ [])) old new
all_changed at n old new k = both_map (KeepsOutside at n) (ChangesOnly (range at n ∷ [])) old new (changed at n) k

-- ---- writes one after another

pub widened : (xs ys : List Extent) (old new : Option (List ℕ)) → IsWithin xs ys → Both (ChangesOnly xs) old new → Both (ChangesOnly ys) old new
widened xs ys None None within c = tt
widened xs ys None (Some new) within c = c
widened xs ys (Some old) None within c = c
widened xs ys (Some old) (Some new) within c = more_changes xs ys old new within c

pub changes_none : (xs : List Extent) (image : Option (List ℕ)) → Both (ChangesOnly xs) image image
changes_none xs None = tt
changes_none xs (Some bytes) = still_changes xs bytes

pub changes_then : (xs : List Extent) (a b c : Option (List ℕ)) → Both (ChangesOnly xs) a b → Both (ChangesOnly xs) b c → Both (ChangesOnly xs) a c
changes_then xs None None None v w = tt
changes_then xs None None (Some c) v w = w
changes_then xs None (Some b) c v w = absurd v
changes_then xs (Some a) None c v w = absurd v
changes_then xs (Some a) (Some b) None v w = w
changes_then xs (Some a) (Some b) (Some c) v w = later_changes xs a b c v w
