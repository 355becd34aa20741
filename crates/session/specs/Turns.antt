-- What each line of a session does, and the lines of a session one after another.
use Rattle.std.specs.Prelude.{◌≡◌, ℕ, ◌^◌, ◌<◌, ◌≤◌, ◌==◌, Bool, true, false, List, [], ◌∷◌, ◌++◌, length, map, flat_map, Option, Some, None, option_map, Result, Ok, Err, ⊤}
use Rattle.std.specs.List.{AllByRecursion}
use Rattle.adf_model.specs.Slots.{Files, Devices}
use Rattle.adf_model.specs.Modes.{opening_of}
use Rattle.adf_model.specs.Steps.{Call, Opened, Closed, Discarded, Asked, Changed, Skipped, Misread, Step}
use Rattle.adf_model.specs.Runs.{Run}
use Rattle.adf_model.specs.Causes.{names_after}
use Rattle.adf_model.specs.declared.error.AdfError.{AdfError}
use Rattle.adf_model.specs.declared.error.AdfError.TheVariants as error
use Rattle.adf_model.specs.declared.error.EditError.{EditError}
use Rattle.adf_model.specs.declared.mode.Mode.{Mode}
use Rattle.adf_model.specs.declared.mode.Mode.TheVariants as mode
use Rattle.adf_model.specs.declared.tree.NodeId.{NodeId}
use Rattle.adf_model.specs.declared.tree.Query.{Query}
use Rattle.adf_model.specs.declared.tree.Query.TheVariants.{Name, LabelOf, ShapeOf, ChildrenOf, LinkText, ReadAll, ReadPart, Find, Next, FormatOf, Parent, Target}
use Rattle.adf_model.specs.declared.tree.Reply.{Reply}
use Rattle.adf_model.specs.declared.tree.Reply.TheVariants as reply
use Rattle.call_script.specs.Lines.{IsLine}
use Rattle.call_script.specs.Replies.{reply_line, refusal_text}
use Rattle.call_script.specs.declared.calls.Answer.{Answer}
use Rattle.call_script.specs.declared.calls.Answer.TheVariants as answer
use Rattle.call_script.specs.declared.calls.Call as script
use Rattle.call_script.specs.declared.calls.Call.TheVariants as asks
use Rattle.call_script.specs.declared.calls.OpenMode.{OpenMode}
use Rattle.call_script.specs.declared.calls.OpenMode.TheVariants as line_mode

-- ---- answers

-- the mode of an opening by a line: a fresh file is of the narrow version
abbrev pub mode_of : OpenMode → Mode
mode_of line_mode.New = mode.New
mode_of line_mode.ReadWrite = mode.ReadWrite
mode_of line_mode.ReadOnly = mode.ReadOnly

-- what an answer says of a call that tells nothing
abbrev pub outcome_of : Answer → Option (Result Unit AdfError)
outcome_of answer.Done = Some (Ok tt)
outcome_of (answer.Refused error) = Some (Err error)
outcome_of said = None

-- what an answer says of a query: data are told as bytes, names and labels as texts
abbrev pub reply_of : Answer → Query → Option (Result Reply AdfError)
reply_of (answer.Refused error) query = Some (Err error)
reply_of (answer.Text text) (Name node) = Some (Ok (reply.Bytes text))
reply_of (answer.Text text) (LabelOf node) = Some (Ok (reply.Bytes text))
reply_of (answer.Shape shape) (ShapeOf node) = Some (Ok (reply.Shape shape))
reply_of (answer.Children children) (ChildrenOf node) = Some (Ok (reply.Children children))
reply_of (answer.Link file path) (LinkText node) = Some (Ok (reply.LinkText file path))
reply_of (answer.Hex bytes) (ReadAll node) = Some (Ok (reply.Bytes bytes))
reply_of (answer.Hex bytes) (ReadPart node selection) = Some (Ok (reply.Bytes bytes))
reply_of (answer.Node found) (Find node path) = Some (Ok (reply.Node found))
reply_of (answer.Node next) (Next node) = Some (Ok (reply.Node next))
reply_of (answer.Node parent) (Parent node) = Some (Ok (reply.Node parent))
reply_of (answer.Node target) (Target node) = Some (Ok (reply.Node target))
reply_of (answer.Format format) (FormatOf node) = Some (Ok (reply.Format format))
reply_of said query = None

-- what an answer says of a group of edits
abbrev pub created_of : Answer → Option (Result (List NodeId) EditError)
created_of (answer.Created nodes) = Some (Ok nodes)
created_of (answer.EditRefused refusal) = Some (Err refusal)
created_of said = None

-- the call of a line with what was answered to it: none, where such a call has no such answer
abbrev pub call_made : script.Call → Answer → Option Call
call_made (asks.Open number mode limit) said = option_map (λ result. Opened number (opening_of (mode_of mode)) limit result) (outcome_of said)
call_made (asks.Close number) said = option_map (λ result. Closed number result) (outcome_of said)
call_made (asks.Discard number) said = option_map (λ result. Discarded number result) (outcome_of said)
call_made (asks.Ask query) said = option_map (λ result. Asked query result) (reply_of said query)
call_made (asks.Edit edits) said = option_map (λ result. Changed edits result) (created_of said)

-- whether the reply to a query is data
abbrev pub reads_data : Query → Bool
reads_data (ReadAll node) = true
reads_data (ReadPart node selection) = true
reads_data query = false

-- an opening names a limit from 1 to 2^32
abbrev pub HasLimit : script.Call → Type 0
HasLimit (asks.Open number mode limit) = (1 ≤ limit) × (limit ≤ 2 ^ 32)
HasLimit call = ⊤

-- ---- one line

-- a line that is skipped: it is empty, or begins with `#`
abbrev pub is_skipped : List ℕ → Bool
is_skipped [] = true
is_skipped (first ∷ rest) = first == 35

-- which call a line is, and the line that is printed for it: none for a skipped line; want of memory may take the place of every other reply
pub data Says (line : List ℕ) : Call → Option (List ℕ) → Type 0 where
  too_long : 2 ^ 20 < length line → Says line (Misread error.LineTooLong) (Some (refusal_text error.LineTooLong))
  skips : length line ≤ 2 ^ 20 → is_skipped line ≡ true → Says line Skipped None
  makes : length line ≤ 2 ^ 20 → is_skipped line ≡ false → (call : script.Call) (answer : Answer) (made : Call) → IsLine line call → call_made call answer ≡ Some made → Says line made (Some (reply_line answer))
  misreads : length line ≤ 2 ^ 20 → is_skipped line ≡ false → ((call : script.Call) → ¬ IsLine line call) → Says line (Misread error.Syntax) (Some (refusal_text error.Syntax))
  lacks_memory : length line ≤ 2 ^ 20 → is_skipped line ≡ false → Says line (Misread error.Memory) (Some (refusal_text error.Memory))

-- ---- lines one after another

-- a line, the call that it is, and what is printed for it
pub record Turn : Type 0 where
  pub line : List ℕ
  pub call : Call
  pub reply : Option (List ℕ)

abbrev pub IsSaid : Turn → Type 0
IsSaid turn = Says turn.line turn.call turn.reply

abbrev pub calls_of : List Turn → List Call
calls_of turns = map (λ (turn : Turn). turn.call) turns

abbrev pub lines_of : List Turn → List (List ℕ)
lines_of turns = map (λ (turn : Turn). turn.line) turns

-- turns one after another, from these files and devices to those: each call is the one that its line says, and the calls are a run
pub record Ran (files : Files) (before : Devices) (turns : List Turn) (now : Devices) (after : Files) : Type 0 where
  pub said : AllByRecursion IsSaid turns
  pub run : Run files before (calls_of turns) now after

-- calls one after another, each a step of the trees
abbrev pub Stepped : Files → Devices → List Call → Devices → Files → Type 0
Stepped files before [] now after = (now ≡ before) × (after ≡ files)
Stepped files before (call ∷ calls) now after = (middle : Files) × (between : Devices) × Step files before call between middle × Stepped middle between calls now after

-- the names of the files behind these calls: that of a discarded file is free
abbrev pub names_behind : List Call → List (Option (List ℕ)) → List (Option (List ℕ))
names_behind [] names = names
names_behind (Discarded number result ∷ calls) names = names_behind calls (names_after result number names)
names_behind (call ∷ calls) names = names_behind calls names

-- a reply as it is printed, with its line feed
abbrev pub printed_reply : Option (List ℕ) → List ℕ
printed_reply None = []
printed_reply (Some reply) = reply ++ (10 ∷ [])

-- the replies of turns as they are printed
abbrev pub replies_of : List Turn → List ℕ
replies_of turns = flat_map (λ (turn : Turn). printed_reply turn.reply) turns
