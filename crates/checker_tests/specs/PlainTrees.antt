-- Trees that answer questions of one file from a table, over a device that tells nothing.
use Rattle.std.specs.Prelude.{◌≡◌, true, IsTrue, [], ◌∷◌, Some, Result, Ok, Err}
use Rattle.adf_format.specs.declared.types.Format.TheVariants.{Little}
use Rattle.adf_format.specs.Tree.{fresh_root}
use Rattle.adf_model.specs.declared.error.AdfError.{AdfError}
use Rattle.adf_model.specs.declared.error.AdfError.TheVariants.{Memory, NoData, LinkMissing}
use Rattle.adf_model.specs.declared.tree.Query.{Query}
use Rattle.adf_model.specs.declared.tree.Reply.{Reply}
use Rattle.adf_model.specs.Slots.{Files, Devices, no_device}
use Rattle.adf_model.specs.Slots.Slot.{Live}
use Rattle.adf_model.specs.Answers.{asked_node, may_refuse, IsReplyTo}

-- one file that is open
abbrev pub plain_files : Files
plain_files = record { name = []; slot = Live (record { tree = record { wide = true; format = Little; nodes = Some fresh_root ∷ [] }; writable = true; limit = 0 }) } ∷ []

abbrev pub plain_devices : Devices
plain_devices = no_device ∷ []

-- what the table answers: of the one file, in the kind of the query, or with an error of it; or want of memory
abbrev pub IsPlainReply : Query → Result Reply AdfError → Type 0
IsPlainReply query (Ok reply) = ((asked_node query).file ≡ 0) × IsReplyTo query reply
IsPlainReply query (Err Memory) = Unit {0}
IsPlainReply query (Err NoData) = ((asked_node query).file ≡ 0) × IsTrue (may_refuse query NoData)
IsPlainReply query (Err LinkMissing) = ((asked_node query).file ≡ 0) × IsTrue (may_refuse query LinkMissing)
IsPlainReply query (Err error) = ⊥
