-- The rules of a free chunk, group by group.
use Rattle.std.proofs.Common.{◌≡◌, ℕ, ◌+◌, List, ◌++◌, [], ◌∷◌, refl, sym, ◌∙◌, ap, arith, Bool, true, false, cond}
use Rattle.std.specs.Prelude.{Option, Some, None, ◌&&◌, ◌||◌, ◌==◌, codes, option_map}
use Rattle.adf_format.specs.Pointer.{pointer, is_pointer, is_pointer_value, is_place, is_place_value, place_of, place_value}
use Rattle.adf_format.specs.Fields.{field, holds}
use Rattle.adf_format.specs.Checks.{Row, row, first_broken}
use Rattle.adf_format.specs.FirstFault.{fits, has_room, is_pointer_to, chunk_length, last_at, free_rows_at}
use Rattle.adf_format.proofs.FieldLaws.{inner_field}
use Rattle.disk_ptr.specs.declared.DiskPtr.{DiskPtr}
use Rattle.disk_ptr.specs.declared.DiskPtr.TheVariants.{At}
use Rattle.disk_ptr.specs.View as view
use Rattle.layout_laws.specs.ListPass.{named_place}
use Rattle.layout_lint.specs.declared.lists.FreeList.{FreeList}
use Rattle.layout_lint.specs.declared.verdict.Halt.{Halt}
use Rattle.layout_lint.specs.declared.verdict.Halt.TheVariants as halt
use Rattle.layout_lint.specs.Halts.{Breaks}
use Rattle.layout_lint.specs.Lists.{IsListAt, agrees, has_free_tail, free_byte_rows, tail_said}
use Rattle.layout_lint.proofs.RowSteps.{kept_2, breaks_first, breaks_then, breaks_2, breaks_3, row_kept, row_breaks}

-- ---- what is read of its first bytes

-- where its end tag stands
pub free_tail_said : (image : List ℕ) (end f : ℕ) (head : List ℕ) → head ≡ field image f 28 → tail_said end f (field head 4 12) ≡ cond (has_free_tail image end f) (Some (place_of (field image (f + 4) 12))) None
free_tail_said image end f head is = ap (tail_said end f) (ap (λ h. field h 4 12) is ∙ inner_field image f 28 4 12 (omega arith))

module _ (image : List ℕ) (f : ℕ) (head : List ℕ) (is : head ≡ field image f 28) (next : Option DiskPtr) (value : option_map view.view next ≡ pointer (field head 16 12)) where
  read : pointer (field image (f + 16) 12) ≡ option_map view.view next
  read = sym (value ∙ ap pointer (ap (λ h. field h 16 12) is ∙ inner_field image f 28 16 12 (omega arith)))

  pub no_pointer : next ≡ None → is_pointer (field image (f + 16) 12) ≡ false
  no_pointer none = ap is_pointer_value (read ∙ ap (option_map view.view) none)

  pub some_pointer : (p : DiskPtr) → next ≡ Some p → is_pointer (field image (f + 16) 12) ≡ true
  some_pointer p some = ap is_pointer_value (read ∙ ap (option_map view.view) some)

  pub next_said : (p : DiskPtr) → next ≡ Some p → view.place_of p ≡ named_place (field image (f + 16) 12)
  next_said p some = by_kind p ∙ sym (ap (λ o. cond (is_place_value o) (Some (place_value o)) None) (read ∙ ap (option_map view.view) some))
    where
      by_kind : (p : DiskPtr) → view.place_of p ≡ cond (is_place_value (Some (view.view p))) (Some (place_value (Some (view.view p)))) None
      by_kind DiskPtr.Blank = refl
      by_kind (At block offset) = refl

-- ---- rule 29 on its bytes

module _ (image : List ℕ) (end f : ℕ) where
  abbrev pub free_start : List Row
  free_start = row 29 f (fits end f 32 && holds image f (codes "FreE")) ∷ []

  abbrev pub free_pointer : List Row
  free_pointer = row 29 (f + 4) (has_free_tail image end f) ∷ []

  abbrev pub free_next : List Row
  free_next = row 29 (f + 16) (is_pointer (field image (f + 16) 12)) ∷ []

  abbrev pub free_end : List Row
  free_end = row 29 (place_of (field image (f + 4) 12)) (holds image (place_of (field image (f + 4) 12)) (codes "EndC")) ∷ []

  free_in_groups : free_byte_rows image end f ≡ free_start ++ (free_pointer ++ (free_next ++ free_end))
  unfolding free_byte_rows
  free_in_groups = refl

  pub breaks_free_start : (h : Halt) → Breaks free_start h → Breaks (free_byte_rows image end f) h
  breaks_free_start h b = rw free_in_groups (breaks_first free_start (free_pointer ++ (free_next ++ free_end)) h b)

  module _ (start : first_broken free_start ≡ None) where
    pub breaks_free_pointer : has_free_tail image end f ≡ false → Breaks (free_byte_rows image end f) (halt.Broken (record { rule = 29; place = f + 4 }))
    breaks_free_pointer e = rw free_in_groups (breaks_2 free_start free_pointer (free_next ++ free_end) (halt.Broken (record { rule = 29; place = f + 4 })) start (row_breaks 29 (f + 4) _ e))

    pub breaks_free_next : has_free_tail image end f ≡ true → is_pointer (field image (f + 16) 12) ≡ false → Breaks (free_byte_rows image end f) (halt.Broken (record { rule = 29; place = f + 16 }))
    breaks_free_next t e = rw free_in_groups (breaks_3 free_start free_pointer free_next free_end (halt.Broken (record { rule = 29; place = f + 16 })) start (row_kept 29 (f + 4) _ t) (row_breaks 29 (f + 16) _ e))

    pub breaks_free_end : (h : Halt) → has_free_tail image end f ≡ true → is_pointer (field image (f + 16) 12) ≡ true → Breaks free_end h → Breaks (free_byte_rows image end f) h
    breaks_free_end h t n b = rw free_in_groups (breaks_then free_start (free_pointer ++ (free_next ++ free_end)) h start
        (breaks_then free_pointer (free_next ++ free_end) h (row_kept 29 (f + 4) _ t) (breaks_then free_next free_end h (row_kept 29 (f + 16) _ n) b)))

    pub keeps_free_bytes : has_free_tail image end f ≡ true → is_pointer (field image (f + 16) 12) ≡ true → first_broken free_end ≡ None → first_broken (free_byte_rows image end f) ≡ None
    keeps_free_bytes t n e = rw free_in_groups (kept_2 free_start (free_pointer ++ (free_next ++ free_end)) start
        (kept_2 free_pointer (free_next ++ free_end) (row_kept 29 (f + 4) _ t) (kept_2 free_next free_end (row_kept 29 (f + 16) _ n) e)))

-- ---- all its rules

-- its place was met before
pub breaks_known : (image : List ℕ) (end : ℕ) (known : Bool) (used number f : ℕ) → known ≡ true → Breaks (free_rows_at image end known used number f) (halt.Broken (record { rule = 29; place = f }))
unfolding free_rows_at
breaks_known image end true used number f e = refl
breaks_known image end false used number f e = cc

-- whether it may be the last of its list
pub agrees_said : (image : List ℕ) (number : ℕ) (list : FreeList) (f : ℕ) (next : Option ℕ) → IsListAt image number list → next ≡ named_place (field image (f + 16) 12)
    → agrees list f next ≡ (is_place (field image (f + 16) 12) || is_pointer_to (field image (last_at number) 12) f)
agrees_said image number list f next is said = ap (agrees list f) said ∙ by_test (is_place (field image (f + 16) 12))
  where
    by_test : (t : Bool) → agrees list f (cond t (Some (place_of (field image (f + 16) 12))) None) ≡ (t || is_pointer_to (field image (last_at number) 12) f)
    by_test true = refl
    by_test false = ap (λ o. is_place_value o && (place_value o == f)) (sym is.last)

module _ (image : List ℕ) (end : ℕ) (known : Bool) (used number f : ℕ) (new : known ≡ false) where
  abbrev pub free_room : List Row
  free_room = row 14 f (has_room end used (chunk_length image f)) ∷ []

  abbrev pub free_last : List Row
  free_last = row 29 (last_at number) (is_place (field image (f + 16) 12) || is_pointer_to (field image (last_at number) 12) f) ∷ []

  all_in_groups : free_rows_at image end known used number f ≡ free_byte_rows image end f ++ (free_room ++ free_last)
  unfolding free_rows_at free_byte_rows
  all_in_groups = ap (λ k. free_rows_at image end k used number f) new

  pub breaks_bytes : (h : Halt) → Breaks (free_byte_rows image end f) h → Breaks (free_rows_at image end known used number f) h
  breaks_bytes h b = rw all_in_groups (breaks_first (free_byte_rows image end f) (free_room ++ free_last) h b)

  module _ (bytes : first_broken (free_byte_rows image end f) ≡ None) where
    pub breaks_free_room : has_room end used (chunk_length image f) ≡ false → Breaks (free_rows_at image end known used number f) (halt.Broken (record { rule = 14; place = f }))
    breaks_free_room e = rw all_in_groups (breaks_2 (free_byte_rows image end f) free_room free_last (halt.Broken (record { rule = 14; place = f })) bytes (row_breaks 14 f _ e))

    module _ (room : has_room end used (chunk_length image f) ≡ true) (list : FreeList) (next : Option ℕ) (is : IsListAt image number list) (said : next ≡ named_place (field image (f + 16) 12)) where
      pub breaks_free_last : agrees list f next ≡ false → Breaks (free_rows_at image end known used number f) (halt.Broken (record { rule = 29; place = list.last_at }))
      breaks_free_last e = rw (is.last_at, all_in_groups) (breaks_then (free_byte_rows image end f) (free_room ++ free_last) (halt.Broken (record { rule = 29; place = last_at number })) bytes
          (breaks_then free_room free_last (halt.Broken (record { rule = 29; place = last_at number })) (row_kept 14 f _ room) (row_breaks 29 (last_at number) _ (sym (agrees_said image number list f next is said) ∙ e))))

      pub keeps_free : agrees list f next ≡ true → first_broken (free_rows_at image end known used number f) ≡ None
      keeps_free e = rw all_in_groups (kept_2 (free_byte_rows image end f) (free_room ++ free_last) bytes
          (kept_2 free_room free_last (row_kept 14 f _ room) (row_kept 29 (last_at number) _ (sym (agrees_said image number list f next is said) ∙ e))))
