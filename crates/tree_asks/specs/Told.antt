-- What an open file answers, of each tree and placement that its bytes and what is in memory mean.
use Rattle.std.specs.Prelude.{◌≡◌, ℕ, List, Option, IfSome, Result, Ok, Err, ⊤}
use Rattle.adf_format.specs.Tree.{Tree}
use Rattle.adf_format.specs.Placement.{Placement}
use Rattle.adf_model.specs.declared.error.AdfError.{AdfError}
use Rattle.adf_model.specs.declared.error.AdfError.TheVariants as error
use Rattle.tree_edits.specs.declared.memory.Core.{Core}
use Rattle.tree_edits.specs.Rows.{Means}
use Rattle.tree_edits.specs.Edits.{memory_of}

-- something holds of the bytes and of each tree and placement that is meant, where the bytes are told
abbrev pub OfEach : Core → Option (List ℕ) → (List ℕ → Tree → Placement → Type 0) → Type 0
OfEach core held P = IfSome held (λ image. (tree : Tree) (p : Placement) → Means image tree p (memory_of core) → P image tree p)

-- an answer is the wanted one; else memory is wanting, or a read failed
abbrev pub IsWanted : {A : Type 0} → Result A AdfError → Result A AdfError → Type 0
IsWanted wanted (Ok value) = wanted ≡ Ok value
IsWanted wanted (Err error.Memory) = ⊤
IsWanted wanted (Err error.ReadFault) = ⊤
IsWanted wanted (Err e) = wanted ≡ Err e

-- a call answers what is wanted of each tree that is meant
abbrev pub Tells : {A : Type 0} → Core → Option (List ℕ) → (Tree → Result A AdfError) → Result A AdfError → Type 0
Tells core held wanted result = OfEach core held (λ image tree p. IsWanted (wanted tree) result)

-- the refusals that no tree decides
abbrev pub IsFree : AdfError → Type 0
IsFree error.Memory = ⊤
IsFree error.ReadFault = ⊤
IsFree e = ⊥

-- what is made of an answer
abbrev pub map_ok : {A B : Type 0} → (A → B) → Result A AdfError → Result B AdfError
map_ok f (Ok value) = Ok (f value)
map_ok f (Err e) = Err e
