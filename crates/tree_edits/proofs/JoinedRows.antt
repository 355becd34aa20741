-- The table of nodes with one row more.
use Rattle.std.proofs.Common.{◌≡◌, ◌⊎◌, inl, inr, ℕ, zero, suc, refl, sym, ◌∙◌, ap, subst, arith, List, [], ◌∷◌, ◌++◌, length, length-append, get_or, ◌<◌, ◌≤◌, false, Option, Some, None}
use Rattle.std.specs.Prelude.{is_some, slice_index_or, IfSome}
use Rattle.adf_format.specs.Tree.{Tree, Node, node_at, next_serial, depth_of}
use Rattle.adf_format.specs.Placement.{Placement}
use Rattle.adf_format.specs.HeapRule.{parts_at}
use Rattle.adf_model.proofs.Writes.Reaches.{less_or}
use Rattle.tree_laws.specs.TreeFacts.{IsJoined}
use Rattle.tree_edits.specs.declared.rows.Row.{Row}
use Rattle.tree_edits.specs.Rows.{SaysRow, IsRowOf, IsTable}

front : {A : Type 0} (xs : List (Option A)) (y : Option A) (k : ℕ) → k < length xs → get_or (xs ++ y ∷ []) k None ≡ get_or xs k None
front [] y k lt = absurd (omega (arith, lt))
front (x ∷ xs) y zero lt = refl
front (x ∷ xs) y (suc k) lt = front xs y k (omega (arith, lt))

last : {A : Type 0} (xs : List (Option A)) (y : Option A) → get_or (xs ++ y ∷ []) (length xs) None ≡ y
last [] y = refl
last (x ∷ xs) y = last xs y

past : {A : Type 0} (xs : List (Option A)) (k : ℕ) → length xs ≤ k → get_or xs k None ≡ None
past [] k le = refl
past (x ∷ xs) zero le = absurd (omega (arith, le))
past (x ∷ xs) (suc k) le = past xs k (omega (arith, le))

gone : {A : Type 0} (o : Option A) → is_some o ≡ false → o ≡ None
gone None e = refl
gone (Some a) e = cc

module _ (tree after : Tree) (p q : Placement) (s : ℕ) (node : Node) (rows : List (Option Row)) (t : IsTable tree p rows) (j : IsJoined tree after s node) (headers : (k : ℕ) → k < next_serial tree → (parts_at q k).header ≡ (parts_at p k).header) where
  old_row : (k : ℕ) → k < next_serial tree → (o : Option Row) → IsRowOf tree p k o → IsRowOf after q k o
  old_row k lt None h = gone (node_at after k) (j.live k (λ e. omega (arith, e, lt)) ∙ ap is_some h)
  old_row k lt (Some row) h = record {
    live = j.live k (λ e. omega (arith, e, lt)) ∙ h.live;
    place = h.place ∙ sym (headers k lt);
    parent = h.parent ∙ sym (j.parents k h.live);
    depth = h.depth ∙ sym (j.depths k h.live);
  }

  pub table_joined : (row : Row) → row.place ≡ (parts_at q (next_serial tree)).header → row.parent ≡ Some s → row.depth ≡ suc (depth_of tree s) → IsTable after q (rows ++ Some row ∷ [])
  table_joined row place parent depth = record {
    count = length-append rows (Some row ∷ []) ∙ (let e = t.count in let f = j.serials in omega (arith, e, f));
    each = λ k. by_place k (less_or k (length rows));
  }
    where
      new_row : SaysRow after q (next_serial tree) row
      new_row = record {
        live = ap is_some j.new;
        place = place;
        parent = parent ∙ sym j.parent;
        depth = depth ∙ sym j.depth;
      }

      by_end : (k : ℕ) → length rows ≤ k → (length rows < k) ⊎ (k ≤ length rows) → IsRowOf after q k (slice_index_or (rows ++ Some row ∷ []) k None)
      by_end k le (inl lt) =
          subst (λ (o : Option Row). IsRowOf after q k o) (sym (past (rows ++ Some row ∷ []) k (let n = length-append rows (Some row ∷ []) in omega (arith, n, lt))))
          (past after.nodes k (let e = t.count in let f = j.serials in omega (arith, e, f, lt)))
      by_end k le (inr ge) =
          let same : k ≡ length rows = omega (arith, le, ge) in
          subst (λ i. IsRowOf after q i (slice_index_or (rows ++ Some row ∷ []) i None)) (sym same)
          (subst (λ (o : Option Row). IsRowOf after q (length rows) o) (sym (last rows (Some row)))
          (subst (λ i. SaysRow after q i row) (sym t.count) new_row))

      by_place : (k : ℕ) → (k < length rows) ⊎ (length rows ≤ k) → IsRowOf after q k (slice_index_or (rows ++ Some row ∷ []) k None)
      by_place k (inl lt) =
          subst (λ (o : Option Row). IsRowOf after q k o) (sym (front rows (Some row) k lt))
          (old_row k (let e = t.count in omega (arith, e, lt)) (slice_index_or rows k None) (t.each k))
      by_place k (inr le) = by_end k le (less_or (length rows) k)

-- the rows go on being near
abbrev pub Near : (Row → Type 0) → Option Row → Type 0
Near P o = IfSome o P

pub near_joined : (P : Row → Type 0) (rows : List (Option Row)) (row : Row) → P row → ((k : ℕ) → Near P (slice_index_or rows k None)) → (k : ℕ) → Near P (slice_index_or (rows ++ Some row ∷ []) k None)
near_joined P rows row good all k = by_place (less_or k (length rows))
  where
    by_end : length rows ≤ k → (length rows < k) ⊎ (k ≤ length rows) → Near P (slice_index_or (rows ++ Some row ∷ []) k None)
    by_end le (inl lt) = subst (Near P) (sym (past (rows ++ Some row ∷ []) k (let n = length-append rows (Some row ∷ []) in omega (arith, n, lt)))) tt
    by_end le (inr ge) =
        let same : k ≡ length rows = omega (arith, le, ge) in
        subst (λ i. Near P (slice_index_or (rows ++ Some row ∷ []) i None)) (sym same) (subst (Near P) (sym (last rows (Some row))) good)

    by_place : (k < length rows) ⊎ (length rows ≤ k) → Near P (slice_index_or (rows ++ Some row ∷ []) k None)
    by_place (inl lt) = subst (Near P) (sym (front rows (Some row) k lt)) (all k)
    by_place (inr le) = by_end le (less_or (length rows) k)
