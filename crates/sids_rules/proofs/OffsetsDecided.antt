-- The rules on offsets over plain values, as tests that compute: each decides what the rule says.
use Rattle.std.proofs.Common.{◌≡◌, ◌∙◌, sym, ap, subst, refl, arith, ℕ, zero, suc, ◌+◌, ◌-◌, ◌<◌, ℤ, pos, ◌≤ℤ◌, Bool, true, false, not, ◌&&◌, ◌||◌, ◌⊎◌, inl, inr, List, [], ◌∷◌, length, drop, map, Decides}
use Rattle.std.specs.Prelude.{Option, Some, None, Any, slice_get, slice_index_or, int_le, unsigned_abs, ◌==◌}
use Rattle.std.specs.List.{list_any}
use Rattle.std.specs.Ordering.{int_eq}
use Rattle.std.proofs.lemmas.Bool.Decides.{Decides-at, Decides-like, Decides-not, Decides-and, Decides-or, Decides-eqb, Decides-int_eq}
use Rattle.adf_model.proofs.Basics.{not_there, same_Some}
use Rattle.sids_rules.specs.Sections.{fixed_nodes, IsOutside}
use Rattle.sids_rules.specs.Terms.{Range}
use Rattle.sids_rules.specs.Rules.{is_no_vertex}
use Rattle.sids_rules.specs.Offsets.{offset_at, NeverFall, AreOffsets, piece_between, piece_at, SomePiece, HasBadNode, BreaksPieceNodes, IsMixedPiece, LiesIn, IsNoFace, BreaksFaceNumbers}
use Rattle.sids_rules.specs.OffsetRules.{begins_at_0, never_falls, ends_at, are_offsets, pieces_of, is_many, is_mixed_piece, has_bad_piece, has_bad_node, has_bad_piece_node, is_in_range, is_no_face}
use Rattle.sids_rules.proofs.Decided.{le_decides, never, any_decides, mapped_decides, vertex_decides, pair_of}

-- ---- offsets

begins_decided : (offsets : List ℤ) → Decides (begins_at_0 offsets) (slice_get offsets 0 ≡ Some (pos 0))
begins_decided [] = never (λ e. not_there (pos 0) e)
begins_decided (n ∷ offsets) = Decides-like (int_eq n (pos 0)) (λ e. ap Some e) (λ e. same_Some n (pos 0) e) (Decides-int_eq n (pos 0))

past : (n : ℤ) (offsets : List ℤ) (k : ℕ) → offset_at (n ∷ offsets) (suc k + 1) ≡ offset_at offsets (k + 1)
past n offsets k = let e : suc k + 1 ≡ suc (k + 1) = omega arith in ap (offset_at (n ∷ offsets)) e

falls_not : (n m : ℤ) (offsets : List ℤ) → (n ≤ℤ m) × NeverFall (m ∷ offsets) → NeverFall (n ∷ m ∷ offsets)
falls_not n m offsets h zero lt = h.0
falls_not n m offsets h (suc k) lt = subst (λ x. offset_at (m ∷ offsets) k ≤ℤ x) (sym (past n (m ∷ offsets) k)) (h.1 k (omega arith))

falls_nowhere : (n m : ℤ) (offsets : List ℤ) → NeverFall (n ∷ m ∷ offsets) → (n ≤ℤ m) × NeverFall (m ∷ offsets)
falls_nowhere n m offsets h = (h 0 (omega arith), λ k lt. subst (λ x. offset_at (m ∷ offsets) k ≤ℤ x) (past n (m ∷ offsets) k) (h (suc k) (omega arith)))

never_falls_decided : (offsets : List ℤ) → Decides (never_falls offsets) (NeverFall offsets)
never_falls_decided [] = (λ e k lt. absurd (omega arith), λ h. refl)
never_falls_decided (n ∷ []) = (λ e k lt. absurd (omega arith), λ h. refl)
never_falls_decided (n ∷ m ∷ offsets) =
    Decides-like (int_le n m && never_falls (m ∷ offsets)) (falls_not n m offsets) (falls_nowhere n m offsets) (Decides-and (int_le n m) (never_falls (m ∷ offsets)) (le_decides n m) (never_falls_decided (m ∷ offsets)))

last_is : (n m : ℤ) (offsets : List ℤ) → slice_get (n ∷ m ∷ offsets) (length (n ∷ m ∷ offsets) - 1) ≡ slice_get (m ∷ offsets) (length (m ∷ offsets) - 1)
last_is n m offsets =
    let e : length (n ∷ m ∷ offsets) - 1 ≡ suc (length offsets) = omega arith in
    let f : length offsets ≡ length (m ∷ offsets) - 1 = omega arith in
    ap (slice_get (n ∷ m ∷ offsets)) e ∙ ap (slice_get (m ∷ offsets)) f

ends_decided : (entries : ℕ) (offsets : List ℤ) → Decides (ends_at entries offsets) (slice_get offsets (length offsets - 1) ≡ Some (pos entries))
ends_decided entries [] = never (λ e. not_there (pos entries) e)
ends_decided entries (n ∷ []) = Decides-like (int_eq n (pos entries)) (λ e. ap Some e) (λ e. same_Some n (pos entries) e) (Decides-int_eq n (pos entries))
ends_decided entries (n ∷ m ∷ offsets) = Decides-like (ends_at entries (m ∷ offsets)) (λ e. last_is n m offsets ∙ e) (λ e. sym (last_is n m offsets) ∙ e) (ends_decided entries (m ∷ offsets))

pub offsets_decided : (offsets : List ℤ) (entries : ℕ) → Decides (are_offsets offsets entries) (AreOffsets offsets entries)
offsets_decided offsets entries =
    Decides-like (are_offsets offsets entries) (λ h. record { begin = h.0.0; rise = h.0.1; end = h.1 }) (λ h. ((h.begin, h.rise), h.end))
    (Decides-and (begins_at_0 offsets && never_falls offsets) (ends_at entries offsets)
    (Decides-and (begins_at_0 offsets) (never_falls offsets) (begins_decided offsets) (never_falls_decided offsets)) (ends_decided entries offsets))

-- ---- pieces

module _ (P : List ℤ → Type 0) (entries : List ℤ) where
  first_or : (n m : ℤ) (offsets : List ℤ) → P (piece_between entries n m) ⊎ SomePiece P entries (m ∷ offsets) → SomePiece P entries (n ∷ m ∷ offsets)
  first_or n m offsets (inl h) = (0, omega arith, h)
  first_or n m offsets (inr h) = let lt = h.1 in (suc h.0, omega arith, subst (λ x. P (piece_between entries (offset_at (m ∷ offsets) h.0) x)) (sym (past n (m ∷ offsets) h.0)) h.2)

  one_of : (n m : ℤ) (offsets : List ℤ) (k : ℕ) → k + 1 < length (n ∷ m ∷ offsets) → P (piece_at entries (n ∷ m ∷ offsets) k) → P (piece_between entries n m) ⊎ SomePiece P entries (m ∷ offsets)
  one_of n m offsets zero lt h = inl h
  one_of n m offsets (suc k) lt h = inr (k, omega arith, subst (λ x. P (piece_between entries (offset_at (m ∷ offsets) k) x)) (past n (m ∷ offsets) k) h)

  pub pieces_decided : (p : List ℤ → Bool) → ((piece : List ℤ) → Decides (p piece) (P piece)) → (offsets : List ℤ) → Decides (list_any p (pieces_of entries offsets)) (SomePiece P entries offsets)
  pieces_decided p each [] = never (λ h. let lt = h.1 in omega arith)
  pieces_decided p each (n ∷ []) = never (λ h. let lt = h.1 in omega arith)
  pieces_decided p each (n ∷ m ∷ offsets) =
      Decides-like (p (piece_between entries n m) || list_any p (pieces_of entries (m ∷ offsets))) (first_or n m offsets) (λ h. one_of n m offsets h.0 h.1 h.2)
      (Decides-or (p (piece_between entries n m)) (list_any p (pieces_of entries (m ∷ offsets))) (each (piece_between entries n m)) (pieces_decided p each (m ∷ offsets)))

many_decided : (nodes : Option ℕ) (n : ℕ) → Decides (is_many nodes n) (nodes ≡ Some n)
many_decided None n = never (λ e. not_there n e)
many_decided (Some nodes) n = Decides-like (nodes == n) (λ e. ap Some e) (λ e. same_Some nodes n e) (Decides-eqb nodes n)

mixed_decided : (piece : List ℤ) → Decides (is_mixed_piece piece) (IsMixedPiece piece)
mixed_decided [] = never (λ h. h)
mixed_decided (code ∷ nodes) = many_decided (fixed_nodes code) (length nodes)

pub mixed_pieces_decided : (entries offsets : List ℤ) → Decides (has_bad_piece entries offsets) (SomePiece (λ piece. ¬ IsMixedPiece piece) entries offsets)
mixed_pieces_decided entries offsets = pieces_decided (λ piece. ¬ IsMixedPiece piece) entries (λ piece. not (is_mixed_piece piece)) (λ piece. Decides-not (is_mixed_piece piece) (mixed_decided piece)) offsets

bad_node_decided : (skipped : ℕ) (entries offsets : List ℤ) (limit : Option ℤ) → Decides (has_bad_node skipped entries offsets limit) (HasBadNode skipped entries offsets limit)
bad_node_decided skipped entries offsets limit =
    pieces_decided (λ piece. Any (IsOutside limit) (drop skipped piece)) entries (λ piece. list_any (is_no_vertex limit) (drop skipped piece))
    (λ piece. any_decides (is_no_vertex limit) (IsOutside limit) (vertex_decides limit) (drop skipped piece)) offsets

pub piece_nodes_decided : (code : ℤ) (entries offsets : List ℤ) (limit : Option ℤ) → Decides (has_bad_piece_node code entries offsets limit) (BreaksPieceNodes code entries offsets limit)
piece_nodes_decided code entries offsets limit =
    Decides-or (int_eq code (pos 20) && has_bad_node 1 entries offsets limit) (int_eq code (pos 22) && has_bad_node 0 entries offsets limit)
    (Decides-and (int_eq code (pos 20)) (has_bad_node 1 entries offsets limit) (Decides-int_eq code (pos 20)) (bad_node_decided 1 entries offsets limit))
    (Decides-and (int_eq code (pos 22)) (has_bad_node 0 entries offsets limit) (Decides-int_eq code (pos 22)) (bad_node_decided 0 entries offsets limit))

-- ---- faces

in_range_decided : (n : ℤ) (range : Range) → Decides (is_in_range n range) (LiesIn n range.start range.end)
in_range_decided n range = Decides-and (int_le range.start (pos (unsigned_abs n))) (int_le (pos (unsigned_abs n)) range.end) (le_decides range.start (pos (unsigned_abs n))) (le_decides (pos (unsigned_abs n)) range.end)

no_face_decided : (faces : List Range) (n : ℤ) → Decides (is_no_face faces n) (IsNoFace (map pair_of faces) n)
no_face_decided faces n =
    Decides-or (int_eq n (pos 0)) (not (list_any (is_in_range n) faces)) (Decides-int_eq n (pos 0))
    (Decides-not (list_any (is_in_range n) faces)
    (mapped_decides (λ pair. LiesIn n (slice_index_or pair 0 (pos 0)) (slice_index_or pair 1 (pos 0))) pair_of (is_in_range n) (in_range_decided n) faces))

-- with the ranges as the code passes them
pub face_numbers_decided : (faces : List Range) (entries : List ℤ) → Decides (list_any (is_no_face faces) entries) (BreaksFaceNumbers entries (map pair_of faces))
face_numbers_decided faces entries = any_decides (is_no_face faces) (IsNoFace (map pair_of faces)) (no_face_decided faces) entries
