-- What a failed commit leaves: no more of the file is lost than the one block that was being written.
use Rattle.std.proofs.Common.{◌≡◌, ◌⊎◌, inl, inr, ℕ, zero, suc, ◌+◌, ◌-◌, ◌*◌, ◌/◌, ◌<◌, ◌≤◌, max, arith, List, [], ◌∷◌, length, get_or, sym, ◌∙◌, ap, subst, cond}
use Rattle.std.specs.Prelude.{Option, Some, IfSome, IfOk, slice_get, Ok, Err}
use Rattle.std.specs.List.{Contains}
use Rattle.std.proofs.lemmas.List.Elements.{Contains-append_cases}
use Rattle.adf_format.specs.declared.types.Extent.{Extent}
use Rattle.adf_format.specs.Fields.{field}
use Rattle.adf_format.specs.Tree.{Tree}
use Rattle.adf_format.specs.Tiles.{cover, end_of, holds_byte}
use Rattle.adf_format.specs.Placement.{Placement, live_extents}
use Rattle.adf_format.specs.LaysOut.{LaysOut}
use Rattle.adf_format.proofs.FieldLaws.{get_field}
use Rattle.adf_model.specs.declared.error.AdfError.TheVariants.{WriteFault}
use Rattle.adf_model.specs.declared.tree.Edit.{Edit}
use Rattle.adf_model.specs.Slots.{Open, Slot, Files, Devices, device_at, open_at, slot_at}
use Rattle.adf_model.specs.Calls.{Group, edit_group}
use Rattle.adf_model.specs.Torn.{TornAt, Torn, TornGroup}
use Rattle.adf_model.specs.Untouched.{StaysBut, StaysBeside, group_touched}
use Rattle.adf_model.specs.Steps.{OfGroup, LeavesBesideBlock, AllLaidOut, IsLaidOut, IsEdit}
use Rattle.adf_model.proofs.Basics.{same_Some}
use Rattle.adf_model.proofs.Answering.LayoutLemmas.{live_slot}
use Rattle.adf_model.proofs.Creation.PartsApart.{cover_all, range_in}
use Rattle.adf_model.proofs.Writes.TornTail.{nat_cases, sides, byte_written, byte_unwritten, there_too}

-- ---- lengths

pub no_longer : (before now : List ℕ) (tree : Tree) (torn : Torn before now tree) → (length before ≤ length now) × (length now ≤ max (length before) ((torn.placement.heap.end / 4096 + 1) * 4096))
no_longer before now tree torn =
    let kept = torn.torn.kept in
    let grown = torn.torn.grown in
    let within = torn.within in
    let block : torn.number ≤ torn.placement.heap.end / 4096 = omega (arith, within) in
    (kept, omega (arith, grown, block))

-- a file of whole blocks that its end does not leave is as long as before
pub as_long : (before now : List ℕ) (tree : Tree) (torn : Torn before now tree) (blocks : ℕ) → length before ≡ blocks * 4096 → torn.placement.heap.end < length before → length now ≡ length before
as_long before now tree torn blocks whole within =
    let both = no_longer before now tree torn in
    let low = both.0 in
    let high = both.1 in
    let last : torn.placement.heap.end / 4096 < blocks = omega (arith, whole, within) in
    omega (arith, low, high, whole, last)

-- ---- parts that the group does not touch

-- a byte of a field that stays
byte_stays : (old new : List ℕ) (place n b : ℕ) → field new place n ≡ field old place n → place ≤ b → b < place + n → slice_get new b ≡ slice_get old b
byte_stays old new place n b same low high =
    let at : b ≡ place + (b - place) = omega (arith, low) in
    let in_it : b - place < n = omega (arith, low, high) in
    sym (get_field new place n (b - place) b in_it at) ∙ ap (λ (bytes : List ℕ). slice_get bytes (b - place)) same ∙ get_field old place n (b - place) b in_it at

-- the bytes of an extent are covered
contains_cover : (xs : List Extent) (e : Extent) (b : ℕ) → Contains xs e → e.place ≤ b → b < end_of e → 0 < cover xs b
contains_cover [] e b c low high = absurd (none_in c.0 c.1)
  where
    none_in : (k : ℕ) → k < 0 → ⊥
    none_in k lt = omega (arith, lt)
contains_cover (x ∷ xs) e b c low high = elim (Contains-append_cases (x ∷ []) xs e c) [
  | inl first ↦ subst (λ (y : Extent). 0 < cover (y ∷ xs) b) (sym (same first.0 first.1 first.2)) (let held = range_in e.place e.length b low high in omega (arith, held))
  | inr later ↦ (let rest = contains_cover xs e b later low high in plain (cond (holds_byte x b) 1 0) (cover xs b) rest)
]
  where
    plain : (a b : ℕ) → 0 < b → 0 < a + b
    plain a b h = omega (arith, h)

    same : (k : ℕ) → k < 1 → get_or (x ∷ []) k e ≡ e → x ≡ e
    same zero lt h = h
    same (suc k) lt h = absurd (omega (arith, lt))

-- a live part ends before the file does
in_file : (old : List ℕ) (tree : Tree) (p : Placement) (e : Extent) (b : ℕ) → LaysOut old tree p → Contains (live_extents tree.wide p) e → e.place ≤ b → b < end_of e → b < length old
in_file old tree p e b l live low high = elim (nat_cases p.heap.end b) [
  | inl past ↦ absurd (
      let none = l.tiles.inside b past in
      let all = cover_all tree.wide p b in
      let some = contains_cover (live_extents tree.wide p) e b live low high in omega (arith, none, all, some))
  | inr le ↦ (let end = l.end in omega (arith, le, end))
]

stays_beside : (number : ℕ) (old wanted new : List ℕ) (tree : Tree) (p q : Placement) (touched : List Extent) → TornAt number old wanted new → LaysOut old tree p → length old ≤ length wanted
    → StaysBut touched tree.wide p q old wanted → StaysBeside number touched tree.wide p old new
stays_beside number old wanted new tree p q touched torn l longer stays e b live free low high apart = by_side (sides (b / 4096) number apart)
  where
    in_old : b < length old
    in_old = in_file old tree p e b l live low high

    in_new : b < length new
    in_new = let kept = torn.kept in let lt = in_old in omega (arith, kept, lt)

    by_side : (b / 4096 < number) ⊎ (number < b / 4096) → slice_get new b ≡ slice_get old b
    by_side (inl before) = there_too new wanted b in_new (let lt = in_old in omega (arith, longer, lt)) (byte_written number old wanted new torn b before) ∙ byte_stays old wanted e.place e.length b (stays e live free).1 low high
    by_side (inr behind) = there_too new old b in_new in_old (byte_unwritten number old wanted new torn b behind)

pub torn_beside : (limit : ℕ) (tree : Tree) (p : Placement) (done : List (Edit × Tree)) (after : Tree) (old new : List ℕ) (torn : TornGroup limit tree p done after old new) → LaysOut old tree p
    → StaysBeside torn.file.number (group_touched limit tree p done) tree.wide p old new
torn_beside limit tree p done after old new torn l =
    stays_beside torn.file.number old torn.file.wanted new tree p torn.file.placement (group_touched limit tree p done) torn.file.torn l torn.file.tail.longer torn.rest.parts

-- a block that lies in a part that the group does not touch is not torn
pub torn_elsewhere : (limit : ℕ) (tree : Tree) (p : Placement) (done : List (Edit × Tree)) (after : Tree) (old new : List ℕ) (torn : TornGroup limit tree p done after old new) (e : Extent)
    → Contains (live_extents tree.wide p) e → (Contains (group_touched limit tree p done) e → ⊥) → e.place ≤ torn.file.number * 4096 → torn.file.number * 4096 + 4096 ≤ end_of e → ⊥
torn_elsewhere limit tree p done after old new torn e live free low high =
    let b = torn.reached.0 in
    let at = torn.reached.1 in
    let begins : torn.file.number * 4096 ≤ b = omega (arith, at) in
    let ends : b < torn.file.number * 4096 + 4096 = omega (arith, at) in
    elim (torn.reached.2.1 e live free) [ inl before ↦ omega (arith, before, low, begins) | inr behind ↦ omega (arith, behind, high, ends) ]

-- ---- groups

-- a fact of the one file of a group
to_group : (files : Files) (edits : List Edit) (Fact : ℕ → Open → Group → Type 0) (group : Group) (number : ℕ) (opened : Open) → edit_group files edits ≡ Ok group → group.file ≡ Some number → open_at files number ≡ Some opened
    → Fact number opened group → OfGroup files edits Fact
to_group files edits Fact group number opened through file live fact =
    subst (λ r. IfOk r (λ (g : Group). IfSome g.file (λ (n : ℕ). IfSome (open_at files n) (λ (o : Open). Fact n o g)))) (sym through)
    (subst (λ f. IfSome f (λ (n : ℕ). IfSome (open_at files n) (λ (o : Open). Fact n o group))) (sym file) (subst (λ s. IfSome s (λ (o : Open). Fact number o group)) (sym live) fact))

-- an open file that is laid out by what its device holds
pub laid_open : (files : Files) (devices : Devices) (number : ℕ) (opened : Open) (old : List ℕ) → AllLaidOut files devices → open_at files number ≡ Some opened → (device_at devices number).held ≡ Some old
    → LaysOut old opened.tree (device_at devices number).placement
laid_open files devices number opened old laid here held =
    subst (λ (h : Option (List ℕ)). IsLaidOut (Slot.Live opened) (device_at devices number) h) held
    (subst (λ (s : Slot). IsLaidOut s (device_at devices number) (device_at devices number).held) (live_slot (slot_at files number) opened here) (laid number))

pub failed_beside : (files after : Files) (before now : Devices) (edits : List Edit) (at : ℕ) → AllLaidOut files before → IsEdit files before edits (Err (record { at = at; error = WriteFault })) now after
    → OfGroup files edits (LeavesBesideBlock before now)
failed_beside files after before now edits at laid h =
    let s = h.stop in
    to_group files edits (LeavesBesideBlock before now) s.group s.number s.was s.through s.file s.entered (λ old new done held held_now live.
    subst (λ (o : Open). (torn : TornGroup s.was.limit s.was.tree (device_at before s.number).placement s.group.done o.tree old new)
    × StaysBeside torn.file.number (group_touched s.was.limit s.was.tree (device_at before s.number).placement s.group.done) s.was.tree.wide (device_at before s.number).placement old new)
    (same_Some s.opened done (sym s.live ∙ live))
    (h.torn old new held held_now, torn_beside s.was.limit s.was.tree (device_at before s.number).placement s.group.done s.opened.tree old new (h.torn old new held held_now) (laid_open files before s.number s.was old laid s.entered held)))
