-- The three lists in the free table, and the walk from one to the next.
use Rattle.std.proofs.Common.{◌≡◌, ℕ, ◌+◌, ◌≤◌, refl, sym, ◌∙◌, ap, subst, arith, List, [], ◌∷◌, ◌++◌, map, append-nil, true, cond}
use Rattle.std.specs.Prelude.{Option, Some, None, Ok, unwrap_or}
use Rattle.std.specs.List.{list_any}
use Rattle.std.specs.Ordering.{nat_cmp}
use Rattle.std.specs.BTreeMap.{is_at}
use Rattle.adf_format.specs.Fields.{field}
use Rattle.adf_format.specs.Pointer.{Pointer, Blank, pointer, is_pointer, is_pointer_value, is_place_value, place_value}
use Rattle.adf_format.specs.Records.{pointer_in, free_table_record}
use Rattle.adf_format.specs.declared.types.Extent.{Extent}
use Rattle.adf_format.specs.Tiles.{total_length}
use Rattle.adf_format.specs.Checks.{first_broken}
use Rattle.adf_format.specs.FirstFault.{Visit, FreeVisit, FreeWalk, free_extent, free_table_rows, found_extents, is_wide, count_up}
use Rattle.adf_format.proofs.FieldLaws.{inner_field}
use Rattle.adf_format.proofs.WalkLaws.{all_kept}
use Rattle.adf_records.specs.declared.FreeTable.{FreeTable}
use Rattle.disk_ptr.specs.View.{view}
use Rattle.layout_laws.specs.ListPass.{IsAtList, named_place, waiting}
use Rattle.layout_laws.proofs.HeadRules.{field_row, pair_row}
use Rattle.layout_laws.proofs.ListPassLaws as passes
use Rattle.layout_lint.specs.declared.lists.FreeList.{FreeList}
use Rattle.layout_lint.specs.declared.lists.Frees.{Frees}
use Rattle.layout_lint.specs.Lists.{IsListAt, HasLists, HasBegun, HasCome, first_of}
use Rattle.adf_format.proofs.NumberLaws.{left_part}

-- ---- the table

-- rule 10 on the six pointers
record PointersKept (bytes : List ℕ) : Type 0 where
  pub small_first : is_pointer (field bytes 4 12) ≡ true
  pub small_last : is_pointer (field bytes 16 12) ≡ true
  pub medium_first : is_pointer (field bytes 28 12) ≡ true
  pub medium_last : is_pointer (field bytes 40 12) ≡ true
  pub large_first : is_pointer (field bytes 52 12) ≡ true
  pub large_last : is_pointer (field bytes 64 12) ≡ true

pointers_kept : (bytes : List ℕ) → first_broken (free_table_rows 186 bytes) ≡ None → PointersKept bytes
unfolding free_table_rows
pointers_kept bytes kept =
    let h = all_kept (free_table_rows 186 bytes) kept in
    let fields = left_part (map (field_row 186 bytes) (count_up 6)) (map (pair_row 186 bytes) (count_up 3)) h.1.1 in
    record {
      small_first = fields.0;
      small_last = fields.1.0;
      medium_first = fields.1.1.0;
      medium_last = fields.1.1.1.0;
      large_first = fields.1.1.1.1.0;
      large_last = fields.1.1.1.1.1.0;
    }

six_pointers : (bytes : List ℕ) → free_table_record bytes ≡ pointer_in bytes 4 ∷ pointer_in bytes 16 ∷ pointer_in bytes 28 ∷ pointer_in bytes 40 ∷ pointer_in bytes 52 ∷ pointer_in bytes 64 ∷ []
unfolding free_table_record
six_pointers bytes = refl

said : (o : Option Pointer) (p : Pointer) → is_pointer_value o ≡ true → p ≡ unwrap_or o Blank → o ≡ Some p
said None p is e = cc
said (Some q) p is e = ap Some (sym e)

module _ (image : List ℕ) (table : FreeTable) (lists : HasLists image table) where
  kept : PointersKept (field image 186 80)
  kept = pointers_kept (field image 186 80) lists.kept

  one_said : (o : ℕ) (p : Pointer) → o + 12 ≤ 80 → is_pointer (field (field image 186 80) o 12) ≡ true → p ≡ pointer_in (field image 186 80) o → pointer (field image (186 + o) 12) ≡ Some p
  one_said o p within is e = ap pointer (sym (inner_field image 186 80 o 12 within)) ∙ said (pointer (field (field image 186 80) o 12)) p is e

  record AreSaid (bytes : List ℕ) : Type 0 where
    pub small_first : view table.small_first ≡ pointer_in bytes 4
    pub small_last : view table.small_last ≡ pointer_in bytes 16
    pub medium_first : view table.medium_first ≡ pointer_in bytes 28
    pub medium_last : view table.medium_last ≡ pointer_in bytes 40
    pub large_first : view table.large_first ≡ pointer_in bytes 52
    pub large_last : view table.large_last ≡ pointer_in bytes 64

  are_said : AreSaid (field image 186 80)
  are_said =
      let e = lists.said ∙ six_pointers (field image 186 80) in
      record { small_first = cc; small_last = cc; medium_first = cc; medium_last = cc; large_first = cc; large_last = cc }

  pub small_at : IsListAt image 0 (record { first = table.small_first; last = table.small_last; last_at = 202 })
  small_at = record {
    first = one_said 4 (view table.small_first) (omega arith) kept.small_first are_said.small_first;
    last = one_said 16 (view table.small_last) (omega arith) kept.small_last are_said.small_last;
    last_at = refl;
  }

  pub medium_at : IsListAt image 1 (record { first = table.medium_first; last = table.medium_last; last_at = 226 })
  medium_at = record {
    first = one_said 28 (view table.medium_first) (omega arith) kept.medium_first are_said.medium_first;
    last = one_said 40 (view table.medium_last) (omega arith) kept.medium_last are_said.medium_last;
    last_at = refl;
  }

  pub large_at : IsListAt image 2 (record { first = table.large_first; last = table.large_last; last_at = 250 })
  large_at = record {
    first = one_said 52 (view table.large_first) (omega arith) kept.large_first are_said.large_first;
    last = one_said 64 (view table.large_last) (omega arith) kept.large_last are_said.large_last;
    last_at = refl;
  }

  first_said : (bytes : List ℕ) (list : FreeList) → pointer bytes ≡ Some (view list.first) → named_place bytes ≡ first_of list
  first_said bytes list is = ap (λ (o : Option Pointer). cond (is_place_value o) (Some (place_value o)) None) is

  -- ---- from list to list

  module _ (nodes : List Visit) (base : List Extent) (frees : Frees) where
    abbrev large_waits : List FreeVisit
    large_waits = waiting 2 (named_place (field image 238 12))

    pub to_small : HasBegun image nodes base frees
        → HasCome image nodes base 0 (first_of (record { first = table.small_first; last = table.small_last; last_at = 202 })) (waiting 1 (named_place (field image 214 12)) ++ large_waits) frees
    to_small come = record {
      seen = come.seen;
      at = subst (λ o. IsAtList image nodes 0 o (waiting 1 (named_place (field image 214 12)) ++ large_waits) come.seen) (first_said (field image 190 12) (record { first = table.small_first; last = table.small_last; last_at = 202 }) small_at.first) come.at;
      sweep = come.sweep;
    }

    pub to_medium : HasCome image nodes base 0 None (waiting 1 (named_place (field image 214 12)) ++ large_waits) frees
        → HasCome image nodes base 1 (first_of (record { first = table.medium_first; last = table.medium_last; last_at = 226 })) large_waits frees
    to_medium come = record {
      seen = come.seen;
      at = subst (λ o. IsAtList image nodes 1 o large_waits come.seen) (first_said (field image 214 12) (record { first = table.medium_first; last = table.medium_last; last_at = 226 }) medium_at.first)
          (passes.next_list image nodes 0 1 (named_place (field image 214 12)) large_waits come.seen come.at);
      sweep = come.sweep;
    }

    pub to_large : HasCome image nodes base 1 None large_waits frees → HasCome image nodes base 2 (first_of (record { first = table.large_first; last = table.large_last; last_at = 250 })) [] frees
    to_large come = record {
      seen = come.seen;
      at = subst (λ o. IsAtList image nodes 2 o [] come.seen) (first_said (field image 238 12) (record { first = table.large_first; last = table.large_last; last_at = 250 }) large_at.first)
          (passes.next_list image nodes 1 2 (named_place (field image 238 12)) [] come.seen (subst (λ xs. IsAtList image nodes 1 None xs come.seen) (sym (append-nil large_waits)) come.at));
      sweep = come.sweep;
    }

-- ---- the start and the end

module _ (image : List ℕ) (nodes : List Visit) (base : List Extent) (frees : Frees) where
  pub sweep_begins : frees.places ≡ [] → frees.extents.items ≡ base → frees.used ≡ 266 + total_length (found_extents image (is_wide image) nodes) → HasBegun image nodes base frees
  sweep_begins places extents used = record {
    seen = [];
    at = passes.begin image nodes;
    sweep = record {
      places = λ q. ap (list_any (is_at (nat_cmp q))) places;
      extents = extents ∙ sym (append-nil base);
      used = omega (arith, used);
    };
  }

  pub sweep_ends : HasCome image nodes base 2 None [] frees → (seen : List FreeVisit) × FreeWalk image nodes (Ok seen) × (frees.extents.items ≡ base ++ map (free_extent image) seen)
  sweep_ends come = (come.seen, passes.finish image nodes 2 come.seen come.at, come.sweep.extents)
