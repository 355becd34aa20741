-- What a draft ends as, where its blocks are lent.
use Rattle.std.specs.Borrow.{Fml, Lends, MutBor, RattleType}
use Rattle.block_draft.specs.declared.draft.Draft.{Draft}
use Rattle.block_draft.specs.contracts.draft.Draft.{the_row}

-- the same draft over other blocks
abbrev pub with_blocks : {B : Type 0} → Draft B → B → Draft B
with_blocks draft blocks = record draft { blocks = blocks }

-- once the borrow ends, the blocks are those that it shows last
abbrev pub LendsBlocks : (B : RattleType) → MutBor (Draft B.Denot) → MutBor B.Denot → Fml
LendsBlocks B draft blocks = Lends (the_row B) B draft blocks (with_blocks draft.now)
