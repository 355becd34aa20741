-- A section with its offsets is made of lists of whole numbers.
use Rattle.std.proofs.Common.{◌≡◌, sym, subst, refl, Bool, true, false}
use Rattle.std.specs.Prelude.{◌&&◌, if◌then◌else◌, Option, Some, None, IfSome}
use Rattle.adf_model.specs.declared.tree.NodeId.{NodeId}
use Rattle.adf_model.specs.Slots.{Files}
use Rattle.adf_model.proofs.Basics.{not_there, same_Some}
use Rattle.sids_views.specs.Asks.{IsPlain}
use Rattle.sids_views.specs.Views.{node_there}
use Rattle.sids_rules.specs.Terms.{Head, Range, is_head, is_range, if_passes}
use Rattle.sids_rules.specs.Rules.{Section, whole_section, is_connected}
use Rattle.sids_rules.specs.OffsetRules.{OffsetSection, has_offsets, has_offset_size}
use Rattle.sids_section_rules.specs.declared.part_rules.SectionParts.{SectionParts}
use Rattle.sids_section_rules.specs.SectionTests.{whole}
use Rattle.sids_offset_rules.specs.Pieces.{IsOffsetSection}
use Rattle.sids_readings.specs.Reading.{is_list}
use Rattle.sids_offset_rules.specs.OffsetTests.{listed}
use Rattle.sids_readings.proofs.TextLaws.{both}

some_if : {A : Type 0} (b : Bool) (a s : A) → Some s ≡ (if b then Some a else None) → (b ≡ true) × (s ≡ a)
some_if true a s e = (refl, same_Some s a e)
some_if false a s e = absurd (not_there s (sym e))

module _ (files : Files) (s : OffsetSection) where
  of_section : (b : Bool) (section : Section) (at : NodeId) → Some s ≡ listed files (if b then Some section else None) (Some at)
      → IsPlain files section.connectivity → IsPlain files at → is_list (node_there files at) ≡ true → IsOffsetSection files s
  of_section true section at e plain offsets list =
      let node = node_there files section.connectivity in
      let made : OffsetSection = record { code = section.head.code; connectivity = section.connectivity; offsets = at } in
      let h = some_if (has_offsets section.head.code && is_connected section.head section.range node && has_offset_size section.range (node_there files at)) made s e in
      let connected = (both (has_offsets section.head.code) (is_connected section.head section.range node) (both _ (has_offset_size section.range (node_there files at)) h.0).0).1 in
      subst (IsOffsetSection files) (sym h.1) (record { connectivity = plain; offsets = offsets; entries = (both (is_list node) _ connected).0; list = list })
  of_section false section at e plain offsets list = absurd (not_there s (sym e))

  of_parts : (head : Option Head) (range : Option Range) (connectivity offsets : Option NodeId) → Some s ≡ listed files (whole_section head range connectivity) offsets
      → IfSome connectivity (IsPlain files) → IfSome offsets (IsPlain files) → IfSome offsets (λ at. is_list (node_there files at) ≡ true) → IsOffsetSection files s
  of_parts (Some head) (Some range) (Some connectivity) (Some at) e plain offsets list =
      of_section (is_head head) (record { head = head; range = range; connectivity = connectivity }) at e plain offsets list
  of_parts (Some head) (Some range) (Some connectivity) None e plain offsets list = absurd (none_there (is_head head) (record { head = head; range = range; connectivity = connectivity }) e)
    where
      none_there : (b : Bool) (section : Section) → Some s ≡ listed files (if b then Some section else None) None → ⊥
      none_there true section e = not_there s (sym e)
      none_there false section e = not_there s (sym e)
  of_parts (Some head) (Some range) None o e plain offsets list = absurd (not_there s (sym e))
  of_parts (Some head) None c o e plain offsets list = absurd (not_there s (sym e))
  of_parts None r c o e plain offsets list = absurd (not_there s (sym e))

  pub listed_sound : (parts : SectionParts) (offsets : Option NodeId) → Some s ≡ listed files (whole parts) offsets
      → IfSome parts.connectivity (IsPlain files) → IfSome offsets (IsPlain files) → IfSome offsets (λ at. is_list (node_there files at) ≡ true) → IsOffsetSection files s
  listed_sound parts offsets e plain there list = of_parts parts.head (if_passes is_range parts.range) parts.connectivity offsets e plain there list

module _ {A : Type 0} (test : A → Bool) where
  if_true : (b : Bool) (a : A) → test a ≡ b → IfSome (if b then Some a else None) (λ a. test a ≡ true)
  if_true true a h = h
  if_true false a h = tt

  -- what passes a test
  pub passes : (o : Option A) → IfSome (if_passes test o) (λ a. test a ≡ true)
  passes None = tt
  passes (Some a) = if_true (test a) a refl
