-- What is so of trees is so after questions.
use Rattle.std.proofs.Common.{◌≡◌, ◌∙◌, sym, subst, List, ℕ}
use Rattle.std.specs.Prelude.{Result, Ok, Err, IfOk, IfErr}
use Rattle.adf_model.specs.declared.error.AdfError.{AdfError}
use Rattle.adf_model.specs.declared.error.AdfError.TheVariants.{Memory}
use Rattle.sids_views.specs.Asks.{IsValueOr}
use Rattle.adf_model.specs.Slots.{Files, Devices, IsTold}
use Rattle.adf_model.specs.Causes.{OnlyAsks}
use Rattle.sids_views.proofs.Plain.{told_before}

pub kept : (P : Files → Type 0) (files after : Files) (before now : Devices) → OnlyAsks files before now after → (IsTold files before → P files) → IsTold after now → P after
kept P files after before now only h told = subst P (sym only.files_stay) (h (told_before files after before now only told))

-- a list, or want of memory
pub list_value : (r : Result (List ℕ) AdfError) (given wanted : List ℕ) → IfOk r (λ more. more ≡ given) → IfErr r (λ error. error ≡ Memory) → given ≡ wanted → IsValueOr wanted r
list_value (Ok more) given wanted value memory e = value ∙ e
list_value (Err error) given wanted value memory e = subst (λ (x : AdfError). IsValueOr wanted (Err x)) (sym memory) tt
