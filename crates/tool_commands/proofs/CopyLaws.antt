-- Why no copy was made, behind the blocks through which the file was read, and what its refusal names.
use Rattle.std.proofs.Common.{◌≡◌, inl, sym, subst}
use Rattle.adf_model.specs.NamedRules.{NamesRule}
use Rattle.adf_model.specs.declared.error.AdfError.{AdfError}
use Rattle.adf_model.specs.declared.error.AdfError.TheVariants as error
use Rattle.adf_repack.specs.declared.whole.Target.{Target}
use Rattle.cg_io.specs.Answers.{Told}
use Rattle.adf_repack.specs.Repacks.{IsLicensed, wants_memory, unread, unasked, unwritten, not_laid_out, too_long_dimension, not_empty, too_long, IsRepackRefusal, LeavesDevice}
use Rattle.adf_repack.proofs.SourceLaws.{reads_none}
use Rattle.cg_io.specs.Device.{DeviceState}
use Rattle.tool_commands.specs.Copies.{IsNotMade}

-- a rule that is named is one of a layout
pub licensed_named : (source now device last : DeviceState) (e : AdfError) → IsLicensed source now device last e → NamesRule e
licensed_named source now device last e wants_memory = tt
licensed_named source now device last e (unread rose) = tt
licensed_named source now device last e (unasked rose lost) = tt
licensed_named source now device last e (unwritten rose lost) = tt
licensed_named source now device last e (not_laid_out rule place named) = named
licensed_named source now device last e too_long_dimension = tt
licensed_named source now device last e (not_empty held) = tt
licensed_named source now device last e (too_long asked far none) = tt

-- no copy was begun, for want of memory
pub not_begun : (wanted : Target) (e : AdfError) (source source_after target : DeviceState) → e ≡ error.Memory → source_after ≡ source → IsNotMade wanted e source source_after target target
not_begun wanted e source source_after target is same = record {
  licensed = subst (IsLicensed source source_after target target) (sym is) wants_memory;
  left = inl (reads_none target);
  refused = λ image told. inl (inl is);
}

-- the copy was refused, over blocks of the device of the file
pub not_made : (wanted : Target) (e : AdfError) (source opened left source_after target target_after : DeviceState) → opened ≡ source → source_after ≡ left
    → IsLicensed opened left target target_after e → LeavesDevice target target_after e → Told opened.held (λ image. IsRepackRefusal wanted image target target_after e)
    → IsNotMade wanted e source source_after target target_after
not_made wanted e source opened left source_after target target_after first last licensed leaves refused =
    subst (λ (s : DeviceState). IsNotMade wanted e source s target target_after) (sym last)
    (subst (λ (s : DeviceState). IsNotMade wanted e s left target target_after) first (record { licensed = licensed; left = leaves; refused = refused }))
