-- What a draft is made of.
use Rattle.std.specs.Prelude.{ℕ, List, Option}
use Rattle.std.specs.Map.{keys_of}
use Rattle.cg_io.specs.Device.{DeviceState}
use Rattle.block_draft.specs.Changes.{image_of}
use Rattle.block_draft.specs.declared.draft.Draft.{Draft}

-- the blocks below a draft
abbrev pub blocks_below : {B : Type 0} → Draft B → B
blocks_below draft = draft.blocks

-- its changed blocks by their numbers, ascending
abbrev pub changes_in : {B : Type 0} → Draft B → List (ℕ × List ℕ)
changes_in draft = draft.changed

-- the numbers of those that wait for a commit
abbrev pub waiting_in : {B : Type 0} → Draft B → List ℕ
waiting_in draft = keys_of (changes_in draft)

-- what holds of the blocks below, and the device below them
abbrev pub is_sound_below : {B : Type 0} → (B → Type 0) → Draft B → Type 0
is_sound_below is_sound draft = is_sound (blocks_below draft)

abbrev pub state_below : {B : Type 0} → (B → DeviceState) → Draft B → DeviceState
state_below state draft = state (blocks_below draft)

-- the bytes that it shows: those of the device, with the changed blocks over them
abbrev pub shown_in : {B : Type 0} → (B → DeviceState) → Draft B → Option (List ℕ)
shown_in state draft = image_of (state_below state draft).held (changes_in draft)
