-- A block that was read by its place.
use Rattle.std.proofs.Common.{◌≡◌, ℕ, ◌*◌, List, length, ap, ◌∙◌}
use Rattle.std.specs.Prelude.{Option, Some, None}
use Rattle.cg_io.specs.Device.{bytes_at, Gives, GivesAt}

pub page_gives : (image : Option (List ℕ)) (n : ℕ) (block : List ℕ) → length block ≡ 4096 → GivesAt image (n * 4096) block → Gives image n block
page_gives None n block long told = tt
page_gives (Some bytes) n block long told = told ∙ ap (bytes_at bytes (n * 4096)) long
