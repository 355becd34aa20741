-- What a line makes, from what its reading and its call say.
use Rattle.std.proofs.Common.{◌≡◌, arith, ℕ, ◌^◌, ◌<◌, ◌≤◌, inl, inr, List, length, true, false, Some, None, Ok, refl, sym, ap, subst}
use Rattle.std.specs.Prelude.{Option, IfSome, option_map}
use Rattle.adf_model.specs.Slots.{Files, Devices}
use Rattle.adf_model.specs.Steps.{Call, Skipped, Misread, Step}
use Rattle.adf_model.specs.Answers.{IsReplyTo}
use Rattle.adf_model.specs.Causes.{Anyway}
use Rattle.adf_model.specs.NamedRules.{NamesRule, NamesRules}
use Rattle.adf_model.specs.Runs.{Makes}
use Rattle.adf_model.specs.declared.error.AdfError.{AdfError}
use Rattle.adf_model.specs.declared.error.AdfError.TheVariants as error
use Rattle.adf_model.specs.declared.error.EditError.{EditError}
use Rattle.adf_model.specs.declared.tree.Child.{Child}
use Rattle.adf_model.specs.declared.tree.NodeId.{NodeId}
use Rattle.adf_model.specs.declared.tree.Query.{Query}
use Rattle.adf_model.specs.declared.tree.Query.TheVariants.{Name, LabelOf, ShapeOf, ChildrenOf, LinkText, ReadAll, ReadPart, Find, Next, FormatOf, Parent, Target}
use Rattle.adf_model.specs.declared.tree.Reply.TheVariants as reply
use Rattle.adf_model.specs.declared.tree.Shape.{Shape}
use Rattle.adf_model.proofs.Answering.RuleNames.{rules_named}
use Rattle.adf_format.specs.declared.types.Format.{Format}
use Rattle.call_script.proofs.CallLaws.{opening_limit}
use Rattle.call_script.specs.Causes.{IsRefusal}
use Rattle.call_script.specs.Lines.{IsLine}
use Rattle.call_script.specs.Replies.{HasRule, HasSpelling, reply_line, refusal_text}
use Rattle.call_script.specs.declared.calls.Answer.{Answer}
use Rattle.call_script.specs.declared.calls.Answer.TheVariants as answer
use Rattle.call_script.specs.declared.calls.Call as script
use Rattle.call_script.specs.declared.calls.Call.TheVariants as asks
use Rattle.session.specs.Turns.{reply_of, call_made, reads_data, HasLimit, is_skipped, Says}
use Rattle.session.specs.Turns.Says.{too_long, skips, makes, misreads, lacks_memory}

-- what a line opens has a limit
pub limited : (line : List ℕ) (call : script.Call) → IsLine line call → HasLimit call
limited line (asks.Open number mode limit) is = opening_limit line number limit mode is
limited line (asks.Close number) is = tt
limited line (asks.Discard number) is = tt
limited line (asks.Ask query) is = tt
limited line (asks.Edit edits) is = tt

-- ---- what is answered to a query

pub bytes_told : (query : Query) (bytes : List ℕ) → reads_data query ≡ true → IsReplyTo query (reply.Bytes bytes) → reply_of (answer.Hex bytes) query ≡ Some (Ok (reply.Bytes bytes))
bytes_told (ReadAll node) bytes is kind = refl
bytes_told (ReadPart node selection) bytes is kind = refl
bytes_told query bytes is kind = absurd cc

pub text_told : (query : Query) (bytes : List ℕ) → reads_data query ≡ false → IsReplyTo query (reply.Bytes bytes) → reply_of (answer.Text bytes) query ≡ Some (Ok (reply.Bytes bytes))
text_told (Name node) bytes is kind = refl
text_told (LabelOf node) bytes is kind = refl
text_told (ReadAll node) bytes is kind = absurd cc
text_told (ReadPart node selection) bytes is kind = absurd cc
text_told query bytes is kind = absurd kind

pub shape_told : (query : Query) (shape : Shape) → IsReplyTo query (reply.Shape shape) → reply_of (answer.Shape shape) query ≡ Some (Ok (reply.Shape shape))
shape_told (ShapeOf node) shape kind = refl
shape_told query shape kind = absurd kind

pub children_told : (query : Query) (children : List Child) → IsReplyTo query (reply.Children children) → reply_of (answer.Children children) query ≡ Some (Ok (reply.Children children))
children_told (ChildrenOf node) children kind = refl
children_told query children kind = absurd kind

pub link_told : (query : Query) (file path : List ℕ) → IsReplyTo query (reply.LinkText file path) → reply_of (answer.Link file path) query ≡ Some (Ok (reply.LinkText file path))
link_told (LinkText node) file path kind = refl
link_told query file path kind = absurd kind

pub node_told : (query : Query) (found : NodeId) → IsReplyTo query (reply.Node found) → reply_of (answer.Node found) query ≡ Some (Ok (reply.Node found))
node_told (Find node path) found kind = refl
node_told (Next node) found kind = refl
node_told (Parent node) found kind = refl
node_told (Target node) found kind = refl
node_told query found kind = absurd kind

pub format_told : (query : Query) (format : Format) → IsReplyTo query (reply.Format format) → reply_of (answer.Format format) query ≡ Some (Ok (reply.Format format))
format_told (FormatOf node) format kind = refl
format_told query format kind = absurd kind

-- ---- the call of a line

-- a call that was made is the one that its answer says
pub answered_by : {A : Type 0} (made_of : A → Call) (says : Option A) (result : A) (files after : Files) (before now : Devices) → says ≡ Some result → Makes files before (made_of result) now after
    → (made : Call) × (option_map made_of says ≡ Some made) × Makes files before made now after
answered_by made_of says result files after before now is made = (made_of result, ap (option_map made_of) is, made)

-- a line that is no call changes nothing
nothing_made : (files : Files) (before : Devices) (call : Call) → Step files before call before files → Anyway files before call before files → Makes files before call before files
nothing_made files before call step anyway = record { step = λ told. step; layouts = record { told = λ number h. h; laid_out = λ number h. h }; anyway = anyway }

-- a line that gives no call is said to be none, or lacks memory
pub refused : (files : Files) (before : Devices) (line : List ℕ) (given : AdfError) → length line ≤ 2 ^ 20 → is_skipped line ≡ false
    → IsRefusal given → (given ≡ error.Syntax → (call : script.Call) → ¬ IsLine line call)
    → (made : Call) × Says line made (Some (refusal_text given)) × Makes files before made before files
refused files before line given short kept why none =
    elim why [
      | inl is ↦ subst (λ (e : AdfError). (made : Call) × Says line made (Some (refusal_text e)) × Makes files before made before files) (sym is) (Misread error.Syntax, misreads short kept (none is), nothing_made files before (Misread error.Syntax) (tt, refl, refl) (tt, refl, refl))
      | inr is ↦ subst (λ (e : AdfError). (made : Call) × Says line made (Some (refusal_text e)) × Makes files before made before files) (sym is) (Misread error.Memory, lacks_memory short kept, nothing_made files before (Misread error.Memory) (tt, refl, refl) (tt, refl, refl))
    ]

-- a skipped line changes nothing
pub skipped : (files : Files) (before : Devices) (line : List ℕ) → length line ≤ 2 ^ 20 → is_skipped line ≡ true
    → (made : Call) × Says line made None × Makes files before made before files
skipped files before line given skip = (Skipped, skips given skip, nothing_made files before Skipped (refl, refl) (refl, refl))

-- a call that was made for a line
pub answered : (files after : Files) (before now : Devices) (line : List ℕ) (call : script.Call) (said : Answer) → length line ≤ 2 ^ 20 → is_skipped line ≡ false → IsLine line call
    → (made : Call) × (call_made call said ≡ Some made) × Makes files before made now after
    → (made : Call) × Says line made (Some (reply_line said)) × Makes files before made now after
answered files after before now line call said given kept is step = (step.0, makes given kept call said step.0 is step.1, step.2)

-- a line that is too long changes nothing
pub too_long_turn : (files : Files) (before : Devices) (line : List ℕ) → 2 ^ 20 < length line
    → (made : Call) × Says line made (Some (refusal_text error.LineTooLong)) × Makes files before made before files
too_long_turn files before line long = (Misread error.LineTooLong, too_long long, nothing_made files before (Misread error.LineTooLong) (tt, refl, refl) (tt, refl, refl))

-- ---- spelling

rule_has : (error : AdfError) → NamesRule error → HasRule error
rule_has (error.Layout rule place) names = (names.0, omega (arith, names.1))
rule_has given names = tt

refused_spells : (call : script.Call) (given : AdfError) (made : Call) → call_made call (answer.Refused given) ≡ Some made → NamesRules made → HasRule given
refused_spells (asks.Open number mode limit) given made e names = rule_has given (subst (λ (o : Option Call). IfSome o NamesRules) (sym e) names)
refused_spells (asks.Close number) given made e names = rule_has given (subst (λ (o : Option Call). IfSome o NamesRules) (sym e) names)
refused_spells (asks.Discard number) given made e names = rule_has given (subst (λ (o : Option Call). IfSome o NamesRules) (sym e) names)
refused_spells (asks.Ask query) given made e names = rule_has given (subst (λ (o : Option Call). IfSome o NamesRules) (sym e) names)
refused_spells (asks.Edit edits) given made e names = absurd cc

edit_spells : (call : script.Call) (refusal : EditError) (made : Call) → call_made call (answer.EditRefused refusal) ≡ Some made → NamesRules made → HasRule refusal.error
edit_spells (asks.Edit edits) refusal made e names = rule_has refusal.error (subst (λ (o : Option Call). IfSome o NamesRules) (sym e) names)
edit_spells call refusal made e names = absurd cc

said_spells : (call : script.Call) (said : Answer) (made : Call) → call_made call said ≡ Some made → NamesRules made → HasSpelling said
said_spells call (answer.Refused given) made e names = refused_spells call given made e names
said_spells call (answer.EditRefused refusal) made e names = edit_spells call refusal made e names
said_spells call said made e names = tt

-- the answer to a call that was made for a line has a spelling
pub spells : (files after : Files) (before now : Devices) (call : script.Call) (said : Answer) → (made : Call) × (call_made call said ≡ Some made) × Makes files before made now after → HasSpelling said
spells files after before now call said step = said_spells call said step.0 step.1 (rules_named files after before now step.0 step.2.anyway)
