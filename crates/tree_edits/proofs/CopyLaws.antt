-- Bytes that are copied and cleared piece by piece.
use Rattle.std.proofs.Common.{◌≡◌, ◌⊎◌, inl, inr, ℕ, zero, suc, refl, sym, ◌∙◌, ap, subst, arith, List, [], ◌∷◌, length, get_or, take, replicate, ◌+◌, ◌-◌, ◌%◌, min, ◌<◌, ◌≤◌, Option, None, Some}
use Rattle.std.specs.Prelude.{slice_get, slice_index, Result, OnOk}
use Rattle.std.proofs.lemmas.List.{length-replicate}
use Rattle.std.proofs.lemmas.Option.{slice_get-get_or}
use Rattle.std.proofs.lemmas.Result.{on_ok_weaker}
use Rattle.adf_format.specs.declared.types.ExtentKind.{ExtentKind}
use Rattle.adf_format.specs.Changes.{Writes}
use Rattle.adf_format.specs.HeapBytes.{ChangesOnly}
use Rattle.adf_format.specs.Placement.{extent}
use Rattle.adf_format.proofs.FieldLaws.{get_field, length-field}
use Rattle.adf_format.proofs.HeapLaws.{join_range}
use Rattle.adf_format.proofs.ReachedLaws.{still_changes, more_changes, later_changes}
use Rattle.adf_model.proofs.Basics.{not_there, same_Some}
use Rattle.adf_model.proofs.Creation.PartsApart.{range_out}
use Rattle.adf_model.proofs.Writes.Reaches.{less_or}
use Rattle.cg_io.specs.Blocks.{Both, blocks_of}
use Rattle.cg_io.specs.Device.{bytes_at, GivesAt}
use Rattle.cg_io.proofs.Places.{get_or-bytes_at}
use Rattle.field_access.specs.Fields.{range}
use Rattle.tree_edits.specs.Copies.{AreApart, Copies, Clears}

byte_there : (xs : List ℕ) (b v : ℕ) → slice_get xs b ≡ Some v → get_or xs b 0 ≡ v
byte_there [] b v e = absurd (not_there v e)
byte_there (x ∷ xs) zero v e = same_Some x v e
byte_there (x ∷ xs) (suc b) v e = byte_there xs b v e

-- ---- one text

module _ (at : ℕ) (text old new : List ℕ) (w : Writes at text old new) where
  pub text_at : (k : ℕ) → k < length text → slice_index new (at + k) ≡ get_or text k 0
  text_at k lt =
      byte_there new (at + k) (get_or text k 0)
      (sym (get_field new at (length text) k (at + k) lt refl) ∙ ap (λ (xs : List ℕ). slice_get xs k) w.stands ∙ slice_get-get_or text k 0 lt)

  pub reached : 0 < length text → at + length text ≤ length new
  reached some = let m = length-field new at (length text) in let e = ap length w.stands in omega (arith, m, e, some)

  only_there : ChangesOnly (range at (length text) ∷ []) old new → ChangesOnly (extent ExtentKind.Node at (length text) ∷ []) old new
  only_there c = more_changes (range at (length text) ∷ []) (extent ExtentKind.Node at (length text) ∷ []) old new (λ b none. none) c

  copied : (from : ℕ) → text ≡ bytes_at old from (length text) → ChangesOnly (range at (length text) ∷ []) old new → Copies from at (length text) old new
  copied from given c = record {
    bytes = λ apart k lt. text_at k lt ∙ ap (λ (xs : List ℕ). get_or xs k 0) given ∙ get_or-bytes_at old from (length text) k lt;
    reaches = reached;
    only = only_there c;
  }

  cleared : ((k : ℕ) → k < length text → get_or text k 0 ≡ 0) → ChangesOnly (range at (length text) ∷ []) old new → Clears at (length text) old new
  cleared zeros c = record { bytes = λ k lt. text_at k lt ∙ zeros k lt; reaches = reached; only = only_there c }

-- ---- one piece after another

module _ (at d n : ℕ) (a b c : List ℕ) where
  abbrev First : Type 0
  First = ChangesOnly (extent ExtentKind.Node at d ∷ []) a b

  abbrev Second : Type 0
  Second = ChangesOnly (extent ExtentKind.Node (at + d) n ∷ []) b c

  only_both : First → Second → ChangesOnly (extent ExtentKind.Node at (d + n) ∷ []) a c
  only_both v w =
      later_changes (extent ExtentKind.Node at (d + n) ∷ []) a b c
      (more_changes (extent ExtentKind.Node at d ∷ []) (extent ExtentKind.Node at (d + n) ∷ []) a b (λ k none. let j = join_range at d n k in omega (arith, none, j)) v)
      (more_changes (extent ExtentKind.Node (at + d) n ∷ []) (extent ExtentKind.Node at (d + n) ∷ []) b c (λ k none. let j = join_range at d n k in omega (arith, none, j)) w)

  before : Second → (k : ℕ) → k < d → slice_index c (at + k) ≡ slice_index b (at + k)
  before w k lt = w.others (at + k) (let out = range_out (at + d) n (at + k) (inl (omega (arith, lt))) in omega (arith, out))

  reach_both : First → Second → (0 < d → at + d ≤ length b) → (0 < n → at + d + n ≤ length c) → 0 < d + n → at + (d + n) ≤ length c
  reach_both v w one two some = by_second (less_or 0 n)
    where
      by_second : (0 < n) ⊎ (n ≤ 0) → at + (d + n) ≤ length c
      by_second (inl lt) = let far = two lt in omega (arith, far)
      by_second (inr none) = let far = one (omega (arith, some, none)) in let l = w.longer in omega (arith, far, l, none)

  pub clears_then : Clears at d a b → Clears (at + d) n b c → Clears at (d + n) a c
  clears_then v w = record {
    bytes = λ k lt. by_piece k lt (less_or k d);
    reaches = reach_both v.only w.only v.reaches w.reaches;
    only = only_both v.only w.only;
  }
    where
      by_piece : (k : ℕ) → k < d + n → (k < d) ⊎ (d ≤ k) → slice_index c (at + k) ≡ 0
      by_piece k lt (inl first) = before w.only k first ∙ v.bytes k first
      by_piece k lt (inr second) = let same : at + k ≡ at + d + (k - d) = omega (arith, second) in ap (slice_index c) same ∙ w.bytes (k - d) (omega (arith, lt, second))

  pub copies_then : (from : ℕ) → Copies from at d a b → Copies (from + d) (at + d) n b c → Copies from at (d + n) a c
  copies_then from v w = record {
    bytes = λ apart k lt. by_piece apart k lt (less_or k d);
    reaches = reach_both v.only w.only v.reaches w.reaches;
    only = only_both v.only w.only;
  }
    where
      first_apart : AreApart from at (d + n) → AreApart from at d
      first_apart (inl le) = inl (omega (arith, le))
      first_apart (inr le) = inr (omega (arith, le))

      second_apart : AreApart from at (d + n) → AreApart (from + d) (at + d) n
      second_apart (inl le) = inl (omega (arith, le))
      second_apart (inr le) = inr (omega (arith, le))

      stays : AreApart from at (d + n) → (k : ℕ) → k < d + n → d ≤ k → slice_index b (from + k) ≡ slice_index a (from + k)
      stays (inl le) k lt ge = v.only.others (from + k) (let out = range_out at d (from + k) (inl (omega (arith, le, lt))) in omega (arith, out))
      stays (inr le) k lt ge = v.only.others (from + k) (let out = range_out at d (from + k) (inr (omega (arith, le, lt))) in omega (arith, out))

      by_piece : AreApart from at (d + n) → (k : ℕ) → k < d + n → (k < d) ⊎ (d ≤ k) → slice_index c (at + k) ≡ slice_index a (from + k)
      by_piece apart k lt (inl first) = before w.only k first ∙ v.bytes (first_apart apart) k first
      by_piece apart k lt (inr second) =
          let same : at + k ≡ at + d + (k - d) = omega (arith, second) in
          let back : from + d + (k - d) ≡ from + k = omega (arith, second) in
          ap (slice_index c) same ∙ w.bytes (second_apart apart) (k - d) (omega (arith, lt, second)) ∙ ap (slice_index b) back ∙ stays apart k lt second

-- ---- of bytes that may be told

pub both_then : (R S T : List ℕ → List ℕ → Type 0) → ((a b c : List ℕ) → R a b → S b c → T a c) → (old mid new : Option (List ℕ)) → Both R old mid → Both S mid new → Both T old new
both_then R S T f None None None r s = tt
both_then R S T f None None (Some new) r s = s
both_then R S T f None (Some mid) new r s = absurd r
both_then R S T f (Some old) None new r s = absurd r
both_then R S T f (Some old) (Some mid) None r s = s
both_then R S T f (Some old) (Some mid) (Some new) r s = f old mid new r s

pub none_copied : (from at : ℕ) (held : Option (List ℕ)) → Both (Copies from at 0) held held
none_copied from at None = tt
none_copied from at (Some a) = record { bytes = λ apart k lt. absurd (omega (arith, lt)); reaches = λ lt. absurd (omega (arith, lt)); only = still_changes (extent ExtentKind.Node at 0 ∷ []) a }

pub none_cleared : (at : ℕ) (held : Option (List ℕ)) → Both (Clears at 0) held held
none_cleared at None = tt
none_cleared at (Some a) = record { bytes = λ k lt. absurd (omega (arith, lt)); reaches = λ lt. absurd (omega (arith, lt)); only = still_changes (extent ExtentKind.Node at 0 ∷ []) a }

pub piece_copied : {T E : Type 0} (r : Result T E) (from at n : ℕ) (text : List ℕ) (old mid new : Option (List ℕ)) → length text ≡ n → mid ≡ old → GivesAt old from text → OnOk r (Both (Writes at text) mid new) → Both (ChangesOnly (range at (length text) ∷ [])) mid new
    → OnOk r (Both (Copies from at n) old new)
piece_copied r from at n text old mid new long same given wrote only = on_ok_weaker r (by_held old mid new same given only) wrote
  where
    by_held : (old mid new : Option (List ℕ)) → mid ≡ old → GivesAt old from text → Both (ChangesOnly (range at (length text) ∷ [])) mid new → Both (Writes at text) mid new → Both (Copies from at n) old new
    by_held None None None same given only w = tt
    by_held None None (Some new) same given only w = w
    by_held None (Some mid) new same given only w = cc
    by_held (Some old) None new same given only w = cc
    by_held (Some old) (Some mid) None same given only w = w
    by_held (Some old) (Some mid) (Some new) same given only w =
        let is = same_Some mid old same in
        subst (λ k. Copies from at k old new) long
        (copied at text old new (subst (λ x. Writes at text x new) is w) from given (subst (λ x. ChangesOnly (range at (length text) ∷ []) x new) is only))

pub piece_cleared : {T E : Type 0} (r : Result T E) (at n : ℕ) (text : List ℕ) (old new : Option (List ℕ)) → length text ≡ n → ((k : ℕ) → k < length text → get_or text k 0 ≡ 0) → OnOk r (Both (Writes at text) old new) → Both (ChangesOnly (range at (length text) ∷ [])) old new
    → OnOk r (Both (Clears at n) old new)
piece_cleared r at n text old new long zeros wrote only = on_ok_weaker r (by_held old new only) wrote
  where
    by_held : (old new : Option (List ℕ)) → Both (ChangesOnly (range at (length text) ∷ [])) old new → Both (Writes at text) old new → Both (Clears at n) old new
    by_held None None only w = tt
    by_held None (Some new) only w = w
    by_held (Some old) None only w = w
    by_held (Some old) (Some new) only w = subst (λ k. Clears at k old new) long (cleared at text old new w zeros only)

abbrev pub zeros : ℕ → List ℕ
zeros n = replicate n 0

zeros_taken : (m n : ℕ) → n ≤ m → take n (zeros m) ≡ zeros n
zeros_taken m zero le = refl
zeros_taken zero (suc n) le = absurd (omega (arith, le))
zeros_taken (suc m) (suc n) le = ap (λ (xs : List ℕ). 0 ∷ xs) (zeros_taken m n (omega (arith, le)))

zero_at : (n k : ℕ) → ◌≡◌ {A = ℕ} (get_or (zeros n) k 0) 0
zero_at zero k = refl
zero_at (suc n) zero = refl
zero_at (suc n) (suc k) = zero_at n k

pub zeros_long : (n m : ℕ) → n ≤ m → length (take n (zeros m)) ≡ n
zeros_long n m le = ap length (zeros_taken m n le) ∙ length-replicate {A = ℕ} n 0

pub zeros_cleared : {T E : Type 0} (r : Result T E) (at n m : ℕ) → n ≤ m → (old new : Option (List ℕ)) → OnOk r (Both (Writes at (take n (zeros m))) old new) → Both (ChangesOnly (range at (length (take n (zeros m))) ∷ [])) old new → OnOk r (Both (Clears at n) old new)
zeros_cleared r at n m le old new wrote only =
    piece_cleared r at n (take n (zeros m)) old new (zeros_long n m le) (λ k lt. ap (λ (xs : List ℕ). get_or xs k 0) (zeros_taken m n le) ∙ zero_at n k) wrote only

-- ---- blocks

pub ends_next : (at done count n : ℕ) → done < count → n ≡ min (4096 - (at + done) % 4096) (count - done) → (done + n ≡ count) ⊎ ((at + (done + n)) % 4096 ≡ 0)
ends_next at done count n lt e = by_rest (less_or (count - done) (4096 - (at + done) % 4096))
  where
    by_rest : (count - done < 4096 - (at + done) % 4096) ⊎ (4096 - (at + done) % 4096 ≤ count - done) → (done + n ≡ count) ⊎ ((at + (done + n)) % 4096 ≡ 0)
    by_rest (inl less) = inl (omega (arith, e, less, lt))
    by_rest (inr le) = inr (omega (arith, e, le))

pub blocks_next : (at done count n : ℕ) → done < count → n ≡ min (4096 - (at + done) % 4096) (count - done) → (done ≡ 0) ⊎ ((done ≡ count) ⊎ ((at + done) % 4096 ≡ 0)) → blocks_of at done + blocks_of (at + done) n ≤ blocks_of at (done + n)
blocks_next at done count n lt e (inl none) =
    subst (λ d. blocks_of at d + blocks_of (at + d) n ≤ blocks_of at (d + n)) (sym none) (omega arith)
blocks_next at done count n lt e (inr (inl all)) = absurd (omega (arith, lt, all))
blocks_next at done count n lt e (inr (inr aligned)) =
    let some : 0 < n = omega (arith, e, lt) in
    let few : n ≤ 4096 = omega (arith, e) in
    omega (arith, aligned, some, few)
