-- Words are told by their spelling, and have no space.
use Rattle.std.proofs.Common.{◌≡◌, ◌≢◌, ℕ, List, [], ◌∷◌, refl, sym, ◌∙◌, ap, bytes_eq, Option, Some, None}
use Rattle.std.specs.Prelude.{find}
use Rattle.call_script.specs.declared.words.CallWord.{CallWord}
use Rattle.call_script.specs.declared.words.CallWord.TheVariants as calls
use Rattle.call_script.specs.declared.words.EditWord.{EditWord}
use Rattle.call_script.specs.declared.words.EditWord.TheVariants as edits
use Rattle.call_script.specs.declared.words.QueryWord.{QueryWord}
use Rattle.call_script.specs.declared.words.QueryWord.TheVariants as queries
use Rattle.call_script.specs.Lines.{query_word, edit_word, call_word, group_word}
use Rattle.call_script.proofs.Pieces.{Lacks}
use Rattle.call_script.proofs.FieldLaws.{same_Some, lacks_by_test}

abbrev all_queries : List QueryWord
all_queries =
    queries.Name ∷ queries.LabelOf ∷ queries.ShapeOf ∷ queries.ChildrenOf ∷ queries.LinkText ∷ queries.ReadAll ∷ queries.ReadPart ∷ queries.Find ∷ queries.Next ∷ queries.FormatOf ∷ queries.Parent ∷ queries.Target ∷ []

abbrev all_edits : List EditWord
all_edits = edits.Create ∷ edits.Delete ∷ edits.Rename ∷ edits.Move ∷ edits.SetLabel ∷ edits.SetDims ∷ edits.PutAll ∷ edits.PutPart ∷ edits.Link ∷ []

-- the word that is spelled so
abbrev spelled_so : {Word : Type 0} → (Word → List ℕ) → List Word → List ℕ → Option Word
spelled_so spelling words token = find (λ word. bytes_eq (spelling word) token) words

query_again : (word : QueryWord) → spelled_so query_word all_queries (query_word word) ≡ Some word
query_again queries.Name = refl
query_again queries.LabelOf = refl
query_again queries.ShapeOf = refl
query_again queries.ChildrenOf = refl
query_again queries.LinkText = refl
query_again queries.ReadAll = refl
query_again queries.ReadPart = refl
query_again queries.Find = refl
query_again queries.Next = refl
query_again queries.FormatOf = refl
query_again queries.Parent = refl
query_again queries.Target = refl

edit_again : (word : EditWord) → spelled_so edit_word all_edits (edit_word word) ≡ Some word
edit_again edits.Create = refl
edit_again edits.Delete = refl
edit_again edits.Rename = refl
edit_again edits.Move = refl
edit_again edits.SetLabel = refl
edit_again edits.SetDims = refl
edit_again edits.PutAll = refl
edit_again edits.PutPart = refl
edit_again edits.Link = refl

abbrev all_calls : List CallWord
all_calls =
    calls.Open ∷ calls.Close ∷ calls.Discard ∷ calls.Ask queries.Name ∷ calls.Ask queries.LabelOf ∷ calls.Ask queries.ShapeOf ∷ calls.Ask queries.ChildrenOf ∷ calls.Ask queries.LinkText
    ∷ calls.Ask queries.ReadAll ∷ calls.Ask queries.ReadPart ∷ calls.Ask queries.Find ∷ calls.Ask queries.Next ∷ calls.Ask queries.FormatOf ∷ calls.Ask queries.Parent ∷ calls.Ask queries.Target ∷ []

asked_again : (word : QueryWord) → spelled_so call_word all_calls (query_word word) ≡ Some (calls.Ask word)
asked_again queries.Name = refl
asked_again queries.LabelOf = refl
asked_again queries.ShapeOf = refl
asked_again queries.ChildrenOf = refl
asked_again queries.LinkText = refl
asked_again queries.ReadAll = refl
asked_again queries.ReadPart = refl
asked_again queries.Find = refl
asked_again queries.Next = refl
asked_again queries.FormatOf = refl
asked_again queries.Parent = refl
asked_again queries.Target = refl

call_again : (word : CallWord) → spelled_so call_word all_calls (call_word word) ≡ Some word
call_again calls.Open = refl
call_again calls.Close = refl
call_again calls.Discard = refl
call_again (calls.Ask word) = asked_again word

pub edit_apart : (one other : EditWord) → edit_word one ≡ edit_word other → one ≡ other
edit_apart one other e = same_Some one other (sym (edit_again one) ∙ ap (spelled_so edit_word all_edits) e ∙ edit_again other)

pub call_apart : (one other : CallWord) → call_word one ≡ call_word other → one ≡ other
call_apart one other e = same_Some one other (sym (call_again one) ∙ ap (spelled_so call_word all_calls) e ∙ call_again other)

-- the word of a group begins no other call
pub group_apart : (word : CallWord) → group_word ≢ call_word word
group_apart word e = none_some word (sym (call_again word) ∙ ap (spelled_so call_word all_calls) (sym e))
  where
    none_some : (word : CallWord) → ◌≡◌ {A = Option CallWord} (Some word) None → ⊥
    none_some word e = cc

query_lacks : (word : QueryWord) → Lacks 32 (query_word word)
query_lacks queries.Name = lacks_by_test (query_word queries.Name) refl
query_lacks queries.LabelOf = lacks_by_test (query_word queries.LabelOf) refl
query_lacks queries.ShapeOf = lacks_by_test (query_word queries.ShapeOf) refl
query_lacks queries.ChildrenOf = lacks_by_test (query_word queries.ChildrenOf) refl
query_lacks queries.LinkText = lacks_by_test (query_word queries.LinkText) refl
query_lacks queries.ReadAll = lacks_by_test (query_word queries.ReadAll) refl
query_lacks queries.ReadPart = lacks_by_test (query_word queries.ReadPart) refl
query_lacks queries.Find = lacks_by_test (query_word queries.Find) refl
query_lacks queries.Next = lacks_by_test (query_word queries.Next) refl
query_lacks queries.FormatOf = lacks_by_test (query_word queries.FormatOf) refl
query_lacks queries.Parent = lacks_by_test (query_word queries.Parent) refl
query_lacks queries.Target = lacks_by_test (query_word queries.Target) refl

pub call_lacks : (word : CallWord) → Lacks 32 (call_word word)
call_lacks calls.Open = lacks_by_test (call_word calls.Open) refl
call_lacks calls.Close = lacks_by_test (call_word calls.Close) refl
call_lacks calls.Discard = lacks_by_test (call_word calls.Discard) refl
call_lacks (calls.Ask word) = query_lacks word

pub edit_lacks : (word : EditWord) → Lacks 32 (edit_word word)
edit_lacks edits.Create = lacks_by_test (edit_word edits.Create) refl
edit_lacks edits.Delete = lacks_by_test (edit_word edits.Delete) refl
edit_lacks edits.Rename = lacks_by_test (edit_word edits.Rename) refl
edit_lacks edits.Move = lacks_by_test (edit_word edits.Move) refl
edit_lacks edits.SetLabel = lacks_by_test (edit_word edits.SetLabel) refl
edit_lacks edits.SetDims = lacks_by_test (edit_word edits.SetDims) refl
edit_lacks edits.PutAll = lacks_by_test (edit_word edits.PutAll) refl
edit_lacks edits.PutPart = lacks_by_test (edit_word edits.PutPart) refl
edit_lacks edits.Link = lacks_by_test (edit_word edits.Link) refl

pub group_lacks : Lacks 32 group_word
group_lacks = lacks_by_test group_word refl
