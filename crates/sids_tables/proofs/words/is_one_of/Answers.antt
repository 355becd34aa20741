use Rattle.std.specs.Borrow.{Bor}
use Rattle.std.proofs.Common.{List, ℕ}
use Rattle.std.proofs.lemmas.Bool.Decides.{Decides-at}
use Rattle.sids_tables.proofs.Tables.{listed_text}
use Rattle.sids_tables.proofs.words.is_one_of.Goals as goal

pub returns : goal.returns
returns c = Decides-at _ _ c.contains.ensures.value (listed_text (λ (word : Bor (List ℕ)). word.now) c.args.words.now c.args.text.now)
