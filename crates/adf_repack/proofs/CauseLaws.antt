-- Causes of refusals, as sums.
use Rattle.std.proofs.Common.{ℕ, ◌⊎◌, inl, inr, refl}
use Rattle.adf_model.specs.declared.error.AdfError.{AdfError}
use Rattle.adf_model.specs.declared.error.AdfError.TheVariants as error
use Rattle.node_reads.specs.Reads as reads
use Rattle.adf_repack.specs.Sources.{IsUnread, IsBroken}

-- a failed read, or a broken rule
pub cause_said : (broken : ℕ → ℕ → Type 0) (before now : ℕ) (e : AdfError) → reads.IsUnread broken before now e → IsUnread before now e ⊎ IsBroken broken e
cause_said broken before now error.ReadFault h = inl (record { is = refl; rose = h })
cause_said broken before now (error.Layout rule place) h = inr (record { rule = rule; place = place; is = refl; so = h })
cause_said broken before now error.Memory h = absurd h
cause_said broken before now error.WriteFault h = absurd h
cause_said broken before now error.Broken h = absurd h
cause_said broken before now error.NotOpen h = absurd h
cause_said broken before now error.NoSuchFile h = absurd h
cause_said broken before now error.AlreadyOpen h = absurd h
cause_said broken before now error.ReadOnly h = absurd h
cause_said broken before now error.NoSuchNode h = absurd h
cause_said broken before now error.NotAChild h = absurd h
cause_said broken before now error.BadName h = absurd h
cause_said broken before now error.Duplicate h = absurd h
cause_said broken before now error.BadLabel h = absurd h
cause_said broken before now error.BadShape h = absurd h
cause_said broken before now error.NoData h = absurd h
cause_said broken before now error.BadRange h = absurd h
cause_said broken before now error.IntoItself h = absurd h
cause_said broken before now error.TooDeep h = absurd h
cause_said broken before now error.LinkMissing h = absurd h
cause_said broken before now error.LinkChain h = absurd h
cause_said broken before now error.NotALink h = absurd h
cause_said broken before now error.BadLink h = absurd h
cause_said broken before now error.NotEmpty h = absurd h
cause_said broken before now error.TooLarge h = absurd h
cause_said broken before now error.TooManyChildren h = absurd h
cause_said broken before now error.NotFound h = absurd h
cause_said broken before now error.Syntax h = absurd h
cause_said broken before now error.LineTooLong h = absurd h
cause_said broken before now error.OtherFile h = absurd h
cause_said broken before now (error.WrongLength want got) h = absurd h
cause_said broken before now (error.Full asked end) h = absurd h
