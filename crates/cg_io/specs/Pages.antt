-- What pages over blocks are made of.
use Rattle.std.specs.Prelude.{ℕ, List, Option, IfSome}
use Rattle.cg_io.specs.Device.{DeviceState, Gives}
use Rattle.cg_io.specs.declared.pages.Page.{Page}
use Rattle.cg_io.specs.declared.pages.Pages.{Pages}

-- the block that was read last is as the device has it
abbrev pub IsPage : Option (List ℕ) → Page → Type 0
IsPage held page = IfSome page.number (λ n. Gives held n page.bytes)

-- blocks whose layer is sound, with the block that was read last
pub record IsReady (Layer : Type 0) (held : Option (List ℕ)) (page : Page) : Type 0 where
  pub layer : Layer
  pub fresh : IsPage held page

-- the blocks below pages
abbrev pub blocks_under : {B : Type 0} → Pages B → B
blocks_under pages = pages.blocks

-- the device below the blocks, and the bytes that it holds
abbrev pub state_under : {B : Type 0} → (B → DeviceState) → Pages B → DeviceState
state_under state pages = state (blocks_under pages)

abbrev pub held_under : {B : Type 0} → (B → DeviceState) → Pages B → Option (List ℕ)
held_under state pages = (state_under state pages).held

-- blocks that are sound, with a page of their device
abbrev pub ArePages : {B : Type 0} → (B → Type 0) → (B → DeviceState) → Pages B → Type 0
ArePages is_sound state pages = IsReady (is_sound (blocks_under pages)) (held_under state pages) pages.page
