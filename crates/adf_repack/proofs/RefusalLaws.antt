-- Why a copy is refused, by the tree that the given nodes make.
use Rattle.std.proofs.Common.{◌≡◌, ◌⊎◌, ℕ, ◌+◌, ◌-◌, ◌≤◌, List, [], ◌∷◌, length, sym, ◌∙◌, ap, subst, arith, inl, inr, Bool, true, false, Option, None, Some}
use Rattle.adf_format.specs.FirstFault.{header_rows as file_rows}
use Rattle.adf_format.specs.Packed.{packed_length, packed_nodes}
use Rattle.adf_format.specs.Parts.{node_length}
use Rattle.adf_format.specs.RuleNumbers.{IsRule}
use Rattle.adf_format.specs.Tree.{Tree, Node}
use Rattle.adf_model.specs.Counts.{NoCountFell, OnlyReads, raised_by}
use Rattle.adf_model.specs.declared.error.AdfError.{AdfError}
use Rattle.adf_model.specs.declared.error.AdfError.TheVariants as error
use Rattle.cg_io.specs.Device.{DeviceState, Reads}
use Rattle.layout_lint.specs.declared.verdict.NodePlace.{NodePlace}
use Rattle.adf_repack.specs.declared.places.NodeShape.{NodeShape}
use Rattle.adf_repack.specs.declared.planning.Planned.{Planned}
use Rattle.adf_repack.specs.Copies.{IsUnwritten}
use Rattle.adf_repack.specs.Families.{children_of}
use Rattle.adf_repack.specs.Given.{in_version, IsGiven}
use Rattle.adf_repack.specs.Measures.{AreUnmeasured, HoldsNone}
use Rattle.adf_repack.specs.Places.{length_of}
use Rattle.adf_repack.specs.Planning.{IsRoomFor, IsPlanned, IsUnplanned}
use Rattle.adf_repack.specs.Plans.{BreaksOne, old_place}
use Rattle.adf_repack.specs.Repacks.{IsLicensed, wants_memory, unread, unasked, unwritten, not_laid_out, too_long_dimension, not_empty, too_long, IsRefused, IsWritten, LeavesDevice, HasLongDimension}
use Rattle.adf_repack.specs.Sources.{IsUnread, IsBroken}
use Rattle.adf_repack.specs.Writers.{OnlyWrites, WritesBlocks, blocks_for}
use Rattle.adf_repack.proofs.GivenLaws.{unbroken, measured, one_long, none_long, shapes_are, all_kept}
use Rattle.adf_repack.proofs.NamedLaws.{file_named, shape_named}
use Rattle.adf_repack.proofs.OutcomeLaws.{fits, near}
use Rattle.adf_repack.proofs.PlaceLaws.{length_is}

-- ---- what counts license

module _ (wide to : Bool) (nodes : List NodePlace) (source source_after device device_after : DeviceState) (e : AdfError) where
  abbrev Licensed : AdfError → Type 0
  Licensed x = IsLicensed source source_after device device_after x

  -- before the first write
  pub unplanned_licensed : OnlyReads device device_after → IsUnplanned wide to nodes source source_after device device_after e → IsLicensed source source_after device device_after e
  unplanned_licensed asks (inl (inl u)) = subst Licensed (sym u.is) (unread u.rose)
  unplanned_licensed asks (inl (inr b)) = subst Licensed (sym b.is) (not_laid_out b.rule b.place (file_named source.held b.rule b.place b.so))
  unplanned_licensed asks (inr (inl (inl m))) = subst Licensed (sym m) wants_memory
  unplanned_licensed asks (inr (inl (inr u))) = elim u.why [
    | inl r ↦ subst Licensed (sym r.is) (unread r.rose)
    | inr other ↦ elim other [
      | inl b ↦ subst Licensed (sym b.is) (not_laid_out b.rule b.place (shape_named source.held wide (old_place nodes u.number) (length (children_of nodes u.number)) b.rule b.place b.so))
      | inr long ↦ subst Licensed (sym long.0) too_long_dimension
    ]
  ]
  unplanned_licensed asks (inr (inr room)) = elim room.why [
    | inl r ↦ subst Licensed (sym r.is) (unasked r.rose asks.lost)
    | inr other ↦ elim other [
      | inl held ↦ subst Licensed (sym held.0) (not_empty held.1)
      | inr full ↦ subst Licensed (sym full.0) (too_long room.size full.1 full.2)
    ]
  ]

-- while it is written
pub late_licensed : (broken : ℕ → ℕ → Type 0) (source middle source_after device asked device_after : DeviceState) (e : AdfError) → ((rule at : ℕ) → broken rule at → IsRule rule)
    → OnlyReads source middle → OnlyReads device asked
    → IsUnread middle.faults source_after.faults e ⊎ (IsUnwritten asked device_after e ⊎ IsBroken broken e) → IsLicensed source source_after device device_after e
late_licensed broken source middle source_after device asked device_after e named reads asks (inl u) =
    subst (IsLicensed source source_after device device_after) (sym u.is) (unread (let rose = u.rose in let later = reads.faults in omega (arith, rose, later)))
late_licensed broken source middle source_after device asked device_after e named reads asks (inr (inl w)) =
    let lost = w.lost in
    let same = asks.lost in
    let rose = w.faults in
    let later = asks.faults in
    subst (IsLicensed source source_after device device_after) (sym w.is) (unwritten (omega (arith, rose, later)) (omega (arith, lost, same)))
late_licensed broken source middle source_after device asked device_after e named reads asks (inr (inr b)) =
    subst (IsLicensed source source_after device device_after) (sym b.is) (not_laid_out b.rule b.place (named b.rule b.place b.so))

pub late_left : (broken : ℕ → ℕ → Type 0) (before now : ℕ) (device asked device_after : DeviceState) (e : AdfError) → HoldsNone device.held → NoCountFell device device_after
    → IsUnread before now e ⊎ (IsUnwritten asked device_after e ⊎ IsBroken broken e) → LeavesDevice device device_after e
late_left broken before now device asked device_after e none counts (inl u) = inr (none, counts, inl u.is)
late_left broken before now device asked device_after e none counts (inr (inl w)) = inr (none, counts, inr (inl w.is))
late_left broken before now device asked device_after e none counts (inr (inr b)) = inr (none, counts, inr (inr (b.rule, b.place, b.is)))

-- no count fell while the device was asked, and none while it was written
pub no_count_fell : (device asked device_after : DeviceState) → OnlyReads device asked → NoCountFell asked device_after → NoCountFell device device_after
no_count_fell device asked device_after asks rises = record {
  faults = let a = asks.faults in let b = rises.faults in omega (arith, a, b);
  lost = let a = asks.lost in let b = rises.lost in omega (arith, a, b);
  reads = let a = asks.reads in let b = rises.reads in omega (arith, a, b);
  writes = let a = asks.writes in let b = rises.writes in omega (arith, a, b);
}

-- ---- lengths

header_most : (wide : Bool) → node_length wide ≤ 342
header_most false = omega arith
header_most true = omega arith

wide_most : (wide : Bool) (ns : List (Option Node)) → packed_nodes wide ns ≤ packed_nodes true ns
wide_most wide [] = omega arith
wide_most wide (None ∷ ns) = wide_most wide ns
wide_most wide (Some node ∷ ns) = let h = header_most wide in let rest = wide_most wide ns in omega (arith, h, rest)

-- ---- nodes that make a tree

module _ (image : List ℕ) (nodes : List NodePlace) (tree : Tree) (given : IsGiven image nodes tree) where
  room_is : (to : Bool) (shapes : List NodeShape) (size : ℕ) → IsRoomFor (Some image) tree.wide to nodes shapes size → size ≡ packed_length (in_version to tree)
  room_is to shapes size room =
      let is : length_of to shapes ≡ packed_length (in_version to tree) = ap (length_of to) (shapes_are image nodes tree given shapes room.measured) ∙ length_is (in_version to tree) in
      let most = wide_most to tree.nodes in
      let short = given.short in
      let size_is = room.long in
      omega (arith, is, most, short, size_is)

  not_measured : (to : Bool) (before now : ℕ) (e other : AdfError) → e ≡ other → AreUnmeasured (Some image) tree.wide to nodes before now e
      → (other ≡ error.Memory) ⊎ ((other ≡ error.ReadFault) ⊎ (((rule : ℕ) × (place : ℕ) × (other ≡ error.Layout rule place)) ⊎ (other ≡ error.BadShape)))
  not_measured to before now e other is (inl m) = inl (sym is ∙ m)
  not_measured to before now e other is (inr u) = elim u.why [
    | inl r ↦ inr (inl (sym is ∙ r.is))
    | inr more ↦ elim more [
      | inl b ↦ inr (inr (inl (b.rule, b.place, sym is ∙ b.is)))
      | inr long ↦ inr (inr (inr (sym is ∙ long.0)))
    ]
  ]

  module _ (to : Bool) (source source_after device device_after : DeviceState) (e : AdfError) where
    abbrev Unplanned : Type 0
    Unplanned = IsUnplanned tree.wide to nodes (record source { held = Some image }) source_after device device_after e

    is_sound : Unplanned → (rule place : ℕ) → e ≡ error.Layout rule place → ⊥
    is_sound (inl (inl u)) rule place is = let same = u.is in cc
    is_sound (inl (inr b)) rule place is = unbroken image 0 186 file_rows b.rule b.place given.head b.so
    is_sound (inr (inl a)) rule place is = measured image nodes tree given to source.faults source_after.faults rule place e is a
    is_sound (inr (inr room)) rule place is = elim room.why [
      | inl r ↦ (let same = r.is in cc)
      | inr other ↦ elim other [
        | inl held ↦ (let same = held.0 in cc)
        | inr full ↦ (let same = full.0 in cc)
      ]
    ]

    is_long : Unplanned → e ≡ error.BadShape → HasLongDimension to tree
    is_long (inl (inl u)) is = let same = u.is in cc
    is_long (inl (inr b)) is = let same = b.is in cc
    is_long (inr (inl a)) is = one_long image nodes tree given to source.faults source_after.faults e is a
    is_long (inr (inr room)) is = elim room.why [
      | inl r ↦ (let same = r.is in cc)
      | inr other ↦ elim other [
        | inl held ↦ (let same = held.0 in cc)
        | inr full ↦ (let same = full.0 in cc)
      ]
    ]

    holds_some : Unplanned → e ≡ error.NotEmpty → HasLongDimension to tree → ⊥
    holds_some (inl (inl u)) is = let same = u.is in cc
    holds_some (inl (inr b)) is = let same = b.is in cc
    holds_some (inr (inl a)) is = elim (not_measured to source.faults source_after.faults e error.NotEmpty is a) [
      | inl m ↦ cc
      | inr o ↦ elim o [
        | inl r ↦ cc
        | inr q ↦ elim q [
          | inl l ↦ (let same = l.2 in cc)
          | inr s ↦ cc
        ]
      ]
    ]
    holds_some (inr (inr room)) is = none_long image nodes tree given to room.room.fit

    is_full : Unplanned → (asked end : ℕ) → e ≡ error.Full asked end → (HasLongDimension to tree → ⊥) × (asked ≡ packed_length (in_version to tree))
    is_full (inl (inl u)) asked end is = let same = u.is in cc
    is_full (inl (inr b)) asked end is = let same = b.is in cc
    is_full (inr (inl a)) asked end is = elim (not_measured to source.faults source_after.faults e (error.Full asked end) is a) [
      | inl m ↦ cc
      | inr o ↦ elim o [
        | inl r ↦ cc
        | inr q ↦ elim q [
          | inl l ↦ (let same = l.2 in cc)
          | inr s ↦ cc
        ]
      ]
    ]
    is_full (inr (inr room)) asked end is = elim room.why [
      | inl r ↦ (let same = r.is in cc)
      | inr other ↦ elim other [
        | inl held ↦ (let same = held.0 in cc)
        | inr full ↦ (
            let same : error.Full asked end ≡ error.Full room.size 0 = sym is ∙ full.0 in
            let size : asked ≡ room.size = asked_same asked end room.size 0 same in
            (none_long image nodes tree given to room.room.fit, size ∙ room_is to room.shapes room.size room.room))
      ]
    ]
      where
        asked_same : (a b c d : ℕ) → error.Full a b ≡ error.Full c d → a ≡ c
        asked_same a b c d h = cc

    is_late : Unplanned → e ≡ error.WriteFault → ⊥
    is_late (inl (inl u)) is = let same = u.is in cc
    is_late (inl (inr b)) is = let same = b.is in cc
    is_late (inr (inl a)) is = elim (not_measured to source.faults source_after.faults e error.WriteFault is a) [
      | inl m ↦ cc
      | inr o ↦ elim o [
        | inl r ↦ cc
        | inr q ↦ elim q [
          | inl l ↦ (let same = l.2 in cc)
          | inr s ↦ cc
        ]
      ]
    ]
    is_late (inr (inr room)) is = elim room.why [
      | inl r ↦ (let same = r.is in cc)
      | inr other ↦ elim other [
        | inl held ↦ (let same = held.0 in cc)
        | inr full ↦ (let same = full.0 in cc)
      ]
    ]

    refused_early : Unplanned → IsRefused to tree e
    refused_early h = record {
      sound = is_sound h;
      shape = is_long h;
      bytes = holds_some h;
      room = is_full h;
      late = λ is. absurd (is_late h is);
    }

  -- before the first write
  pub unplanned_refused : (wide to : Bool) (source source_after device device_after : DeviceState) (e : AdfError) → source.held ≡ Some image → tree.wide ≡ wide
      → IsUnplanned wide to nodes source source_after device device_after e → IsRefused to tree e
  unplanned_refused wide to source source_after device device_after e told width h =
      let same : source ≡ record source { held = Some image } = ap (λ (o : Option (List ℕ)). record source { held = o }) told in
      refused_early to source source_after device device_after e
      (subst (λ (w : Bool). IsUnplanned w to nodes (record source { held = Some image }) source_after device device_after e) (sym width)
      (subst (λ (s : DeviceState). IsUnplanned wide to nodes s source_after device device_after e) same h))

  -- while it is written
  pub late_refused : (p : Planned) (before now : ℕ) (asked device_after : DeviceState) (e : AdfError) → IsPlanned (Some image) tree.wide p.plan.wide nodes p
      → IsUnread before now e ⊎ (IsUnwritten asked device_after e ⊎ IsBroken (BreaksOne (Some image) tree.wide nodes p.plan) e) → IsRefused p.plan.wide tree e
  late_refused p before now asked device_after e planned (inl u) = let same = u.is in record {
    sound = λ rule place is. cc;
    shape = λ is. cc;
    bytes = λ is. cc;
    room = λ size end is. cc;
    late = λ is. cc;
  }
  late_refused p before now asked device_after e planned (inr (inl w)) = let same = w.is in record {
    sound = λ rule place is. cc;
    shape = λ is. cc;
    bytes = λ is. cc;
    room = λ size end is. cc;
    late = λ is. (fits image nodes tree given p planned, near image nodes tree given p planned);
  }
  late_refused p before now asked device_after e planned (inr (inr b)) = absurd (all_kept image nodes tree given p.plan b.rule b.place planned.measured planned.fit b.so)

-- ---- what was written

pub written_so : (device asked device_after : DeviceState) (size end : ℕ) → end + 1 ≡ size → Reads device asked → WritesBlocks 0 (blocks_for size) asked device_after → OnlyWrites asked device_after
    → NoCountFell device device_after → IsWritten device device_after end
written_so device asked device_after size end is reads wrote effect counts = record {
  blocks = subst (λ (n : ℕ). WritesBlocks 0 (blocks_for n) device device_after) (sym is) (record { ahead = wrote.ahead; writes = (let same = reads.writes in let many = wrote.writes in many ∙ ap (raised_by (blocks_for size - 0)) same) });
  reads = effect.reads ∙ reads.reads;
  counts = counts;
}
