-- A device whose first block is that of the fresh file holds the fresh tree.
use Rattle.std.proofs.Common.{◌≡◌, ℕ, Bool, List, [], ◌∷◌, ◌++◌, length, take, drop, ◌+◌, Option, Some, None, refl, sym, ap, subst}
use Rattle.std.specs.Prelude.{IfSome, Result, Ok, Err}
use Rattle.adf_format.specs.Fresh.{fresh_placement, fresh_block}
use Rattle.adf_format.specs.Tree.{fresh_tree}
use Rattle.adf_format.proofs.BehindEnd.{more_behind}
use Rattle.adf_model.specs.declared.error.AdfError.{AdfError}
use Rattle.cg_io.specs.Device.{DeviceState, padded, overwritten, with_block}
use Rattle.adf_tree.specs.Making.{HoldsFresh, WritesFresh, MakesFresh}
use Rattle.adf_tree.proofs.FreshFile.{block_holds}

take_zero : (xs : List ℕ) → take 0 xs ≡ []
take_zero [] = refl
take_zero (x ∷ xs) = refl

written_holds : (wide : Bool) (bytes : List ℕ) → HoldsFresh wide (overwritten bytes 0 (fresh_block wide))
unfolding overwritten
written_holds wide bytes =
    let rest : List ℕ = drop (0 + length (fresh_block wide)) bytes in
    subst (HoldsFresh wide) (ap (λ (front : List ℕ). front ++ (fresh_block wide ++ rest)) (sym (take_zero (padded bytes 0))))
    (more_behind (fresh_block wide) rest (fresh_tree wide) (fresh_placement wide) (block_holds wide))

first_block_holds : (wide : Bool) (old new : Option (List ℕ)) → new ≡ with_block old 0 (fresh_block wide) → IfSome new (HoldsFresh wide)
first_block_holds wide None new e = subst (λ (o : Option (List ℕ)). IfSome o (HoldsFresh wide)) (sym e) tt
first_block_holds wide (Some bytes) new e = subst (λ (o : Option (List ℕ)). IfSome o (HoldsFresh wide)) (sym e) (written_holds wide bytes)

-- what was written holds the fresh tree
pub makes_fresh : (wide : Bool) (made : Result Unit AdfError) (old new : DeviceState) → WritesFresh wide made old new → MakesFresh wide made old new
makes_fresh wide (Ok done) old new writes = (writes, first_block_holds wide old.held new.held writes.1)
makes_fresh wide (Err fault) old new writes = (writes, tt)
