-- Pieces between offsets, and what is known of a section with offsets.
use Rattle.std.proofs.Common.{◌≡◌, ◌∙◌, sym, ap, subst, refl, arith, ℕ, zero, suc, ◌+◌, ◌-◌, ◌≤◌, ℤ, pos, negsuc, ◌≤ℤ◌, Bool, true, false, List, [], ◌∷◌, length, take, drop}
use Rattle.std.specs.Prelude.{◌&&◌, ◌||◌, ◌==◌, int_le, if◌then◌else◌, not, unsigned_abs, Option, Some, None}
use Rattle.std.specs.List.{list_any}
use Rattle.std.specs.Int.{Width, w32, w64}
use Rattle.std.proofs.lemmas.Int.{ints}
use Rattle.std.proofs.lemmas.List.{drop-drop}
use Rattle.std.proofs.lemmas.Bool.Decides.{Decides-eqb, Decides-int_eq}
use Rattle.adf_format.specs.declared.types.DataType.TheVariants.{I4}
use Rattle.adf_format.specs.declared.types.Format.{Format}
use Rattle.adf_format.specs.Names.{product}
use Rattle.adf_format.specs.Tree.{Node}
use Rattle.adf_model.specs.Slots.{Files}
use Rattle.adf_model.proofs.Basics.{not_true}
use Rattle.sids_views.specs.Views.{node_there, given}
use Rattle.sids_rules.specs.Values.{is_type, is_ints, has_rank, is_small, ints_there, numbers_in}
use Rattle.sids_rules.specs.Rules.{first_dimension, is_no_vertex}
use Rattle.sids_rules.specs.OffsetRules.{OffsetSection, begins_at_0, never_falls, ends_at, are_offsets, pieces_of, entry_count, has_bad_offsets, has_bad_node}
use Rattle.sids_rules.proofs.Decided.{le_decides}
use Rattle.sids_offset_rules.specs.declared.offset_lists.OffsetState.{OffsetState}
use Rattle.sids_offset_rules.specs.declared.offset_lists.OffsetState.TheVariants as state
use Rattle.sids_offset_rules.specs.declared.pieces.PieceFault.{PieceFault}
use Rattle.sids_offset_rules.specs.declared.pieces.PieceFault.TheVariants as fault
use Rattle.sids_offset_rules.specs.Pieces.{is_bad_state, offset_state, fault_of, fault_with, piece_fault, polygon_fault}
use Rattle.sids_readings.specs.Reading.{is_list}
use Rattle.sids_readings.proofs.TextLaws.{both}
use Rattle.sids_readings.proofs.ListLaws.{or_assoc, either, counted}

-- ---- the pieces of polygons are all numbers

module _ (p : ℤ → Bool) where
  -- the first numbers and the others
  split : (d : ℕ) (ns : List ℤ) → (list_any p (take d ns) || list_any p (drop d ns)) ≡ list_any p ns
  split zero ns = refl
  split (suc d) [] = refl
  split (suc d) (n ∷ ns) = or_assoc (p n) (list_any p (take d ns)) (list_any p (drop d ns)) ∙ ap (λ b. p n || b) (split d ns)

  past_end : (ns : List ℤ) (d : ℕ) → length ns ≤ d → list_any p (drop d ns) ≡ false
  past_end [] zero h = refl
  past_end [] (suc d) h = refl
  past_end (n ∷ ns) zero h = absurd (omega arith)
  past_end (n ∷ ns) (suc d) h = past_end ns d (omega arith)

amounts : (s t : ℤ) → pos 0 ≤ℤ s → s ≤ℤ t → unsigned_abs s ≤ unsigned_abs t
amounts (pos a) (pos b) low order = let h : a ≤ b = omega (arith, ints) in h
amounts (pos a) (negsuc b) low order = absurd (omega (arith, ints))
amounts (negsuc a) b low order = absurd (omega (arith, ints))

later_low : (s t : ℤ) → pos 0 ≤ℤ s → s ≤ℤ t → pos 0 ≤ℤ t
later_low s t low order = omega (arith, ints)

module _ (p : ℤ → Bool) (entries : List ℤ) where
  abbrev in_piece : List ℤ → Bool
  in_piece piece = list_any p (drop 0 piece)

  -- one piece and what follows it
  one_more : (a b : ℕ) → a ≤ b → (list_any p (take (b - a) (drop a entries)) || list_any p (drop b entries)) ≡ list_any p (drop a entries)
  one_more a b h =
      let e : a + (b - a) ≡ b = omega arith in
      ap (λ ns. list_any p (take (b - a) (drop a entries)) || list_any p ns) (ap (λ n. drop n entries) (sym e) ∙ sym (drop-drop (b - a) a entries))
      ∙ split p (b - a) (drop a entries)

  from_start : (s : ℤ) (offsets : List ℤ) → pos 0 ≤ℤ s → never_falls (s ∷ offsets) ≡ true → ends_at (length entries) (s ∷ offsets) ≡ true
      → list_any in_piece (pieces_of entries (s ∷ offsets)) ≡ list_any p (drop (unsigned_abs s) entries)
  from_start s [] low rise end =
      let last : s ≡ pos (length entries) = (Decides-int_eq s (pos (length entries))).0 end in
      let amount : unsigned_abs s ≡ length entries = ap unsigned_abs last in
      sym (past_end p entries (unsigned_abs s) (omega (arith, amount)))
  from_start s (t ∷ offsets) low rise end =
      let steps = both (int_le s t) (never_falls (t ∷ offsets)) rise in
      let order : s ≤ℤ t = (le_decides s t).0 steps.0 in
      ap (λ b. list_any p (take (unsigned_abs t - unsigned_abs s) (drop (unsigned_abs s) entries)) || b) (from_start t offsets (later_low s t low order) steps.1 end)
      ∙ one_more (unsigned_abs s) (unsigned_abs t) (amounts s t low order)

  pub all_pieces : (offsets : List ℤ) → are_offsets offsets (length entries) ≡ true → list_any in_piece (pieces_of entries offsets) ≡ list_any p entries
  all_pieces [] h = absurd (not_true h)
  all_pieces (s ∷ offsets) h =
      let begin_rise = both (begins_at_0 (s ∷ offsets)) (never_falls (s ∷ offsets)) (both _ (ends_at (length entries) (s ∷ offsets)) (h)).0 in
      let first : s ≡ pos 0 = (Decides-int_eq s (pos 0)).0 begin_rise.0 in
      let low : pos 0 ≤ℤ s = subst (λ n. pos 0 ≤ℤ n) (sym first) (omega (arith, ints)) in
      from_start s offsets low begin_rise.1 (both _ (ends_at (length entries) (s ∷ offsets)) h).1
      ∙ ap (λ n. list_any p (drop (unsigned_abs n) entries)) first

pub polygons_are : (entries offsets : List ℤ) (limit : Option ℤ) → are_offsets offsets (length entries) ≡ true → has_bad_node 0 entries offsets limit ≡ list_any (is_no_vertex limit) entries
polygons_are entries offsets limit h = all_pieces (is_no_vertex limit) entries offsets h

module _ (entries offsets : List ℤ) (limits : Option (Option ℤ)) (limit : Option ℤ) where
  found_is : limits ≡ Some limit → are_offsets offsets (length entries) ≡ true → (b : Bool) → list_any (is_no_vertex limit) entries ≡ b → b ≡ given limits (has_bad_node 0 entries offsets)
  found_is e h b found = sym (ap (λ o. given o (has_bad_node 0 entries offsets)) e ∙ polygons_are entries offsets limit h ∙ found)

  pub polygon_found : limits ≡ Some limit → are_offsets offsets (length entries) ≡ true → list_any (is_no_vertex limit) entries ≡ true → Some fault.Node ≡ polygon_fault entries offsets limits
  polygon_found e h found = ap (λ b. if b then Some fault.Node else None) (found_is e h true found)

  pub polygon_clean : limits ≡ Some limit → are_offsets offsets (length entries) ≡ true → list_any (is_no_vertex limit) entries ≡ false → None ≡ polygon_fault entries offsets limits
  polygon_clean e h found = ap (λ b. if b then Some fault.Node else None) (found_is e h false found)

-- ---- a list has as many numbers as its dimension says

one_dimension : (dims : List ℕ) → (length dims == 1) ≡ true → product dims ≡ first_dimension dims
one_dimension [] h = absurd (not_true h)
one_dimension (d ∷ []) h = omega arith
one_dimension (d ∷ e ∷ dims) h = absurd (let l : length (d ∷ e ∷ dims) ≡ 1 = (Decides-eqb (length (d ∷ e ∷ dims)) 1).0 h in omega arith)

pub entries_counted : (files : Files) (section : OffsetSection) → is_list (node_there files section.connectivity) ≡ true → length (ints_there files section.connectivity) ≡ entry_count files section
entries_counted files section h =
    let node = node_there files section.connectivity in
    either (is_type I4 node) _ _ (product node.dims) (counted _ w32 4 (product node.dims) _) (counted _ w64 8 (product node.dims) _)
    ∙ one_dimension node.dims (both (is_ints node) (has_rank 1 node) h).1

-- ---- what a state of the offsets says

abbrev numbers_of : OffsetState → List ℤ
numbers_of (state.Good offsets) = offsets
numbers_of state.Bad = []
numbers_of state.Untested = []

abbrev pub is_good : OffsetState → Bool
is_good (state.Good offsets) = true
is_good state.Bad = false
is_good state.Untested = false

abbrev by_tests : Bool → Bool → List ℤ → OffsetState
by_tests small holds offsets = if small then (if holds then state.Good offsets else state.Bad) else state.Untested

good_is : (small holds : Bool) (numbers offsets : List ℤ) → state.Good offsets ≡ by_tests small holds numbers → (small ≡ true) × (holds ≡ true) × (offsets ≡ numbers)
good_is true true numbers offsets h = (refl, refl, ap numbers_of h)
good_is true false numbers offsets h = absurd (not_true (sym (ap is_good h)))
good_is false holds numbers offsets h = absurd (not_true (sym (ap is_good h)))

not_good : (small holds : Bool) (numbers : List ℤ) (s : OffsetState) → is_good s ≡ false → s ≡ by_tests small holds numbers → (small && holds) ≡ false
not_good true true numbers s bad h = sym (ap is_good h) ∙ bad
not_good true false numbers s bad h = refl
not_good false holds numbers s bad h = refl

if_all : (a b c : Bool) (x : Option PieceFault) → b ≡ true → c ≡ true → (if a then x else None) ≡ (if a && b && c then x else None)
if_all true b c x eb ec = rw (eb, ec) refl
if_all false b c x eb ec = refl

if_not : (a b c : Bool) (x : Option PieceFault) → (b && c) ≡ false → None ≡ (if a && b && c then x else None)
if_not true true true x h = absurd (not_true (sym h))
if_not true true false x h = refl
if_not true false c x h = refl
if_not false b c x h = refl

module _ (files : Files) (section : OffsetSection) where
  abbrev offsets_there : List ℤ
  offsets_there = ints_there files section.offsets

  abbrev entries_there : List ℤ
  entries_there = ints_there files section.connectivity

  abbrev small : Bool
  small = is_small (node_there files section.offsets)

  abbrev hold : Bool
  hold = are_offsets offsets_there (entry_count files section)

  -- good offsets are those of the section, and end with the length of its connectivity
  pub good_offsets : (offsets : List ℤ) → is_list (node_there files section.connectivity) ≡ true → state.Good offsets ≡ offset_state files section → are_offsets offsets (length entries_there) ≡ true
  good_offsets offsets list h =
      let g = good_is small hold offsets_there offsets h in
      ap (λ ns. are_offsets ns (length entries_there)) g.2 ∙ ap (are_offsets offsets_there) (entries_counted files section list) ∙ g.1

  pub good_fault : (limit : Option (Option ℤ)) (offsets : List ℤ) → state.Good offsets ≡ offset_state files section → fault_with files section offsets limit ≡ piece_fault files section limit
  good_fault limit offsets h =
      let g = good_is small hold offsets_there offsets h in
      ap (λ ns. fault_with files section ns limit) g.2
      ∙ if_all (is_small (node_there files section.connectivity)) small hold (fault_of section.code entries_there offsets_there limit) g.0 g.1

  pub no_fault : (limit : Option (Option ℤ)) (s : OffsetState) → is_good s ≡ false → s ≡ offset_state files section → None ≡ piece_fault files section limit
  no_fault limit s bad h =
      if_not (is_small (node_there files section.connectivity)) small hold (fault_of section.code entries_there offsets_there limit) (not_good small hold offsets_there s bad h)

bad_by : (small holds : Bool) (offsets : List ℤ) → is_bad_state (by_tests small holds offsets) ≡ (small && not holds)
bad_by true true offsets = refl
bad_by true false offsets = refl
bad_by false holds offsets = refl

-- K37 offset-numbers is what the state says
pub bad_is : (files : Files) (section : OffsetSection) → is_bad_state (offset_state files section) ≡ has_bad_offsets files section
bad_is files section = bad_by (small files section) (hold files section) (offsets_there files section)
