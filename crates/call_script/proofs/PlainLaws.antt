-- What the writer spells is read again.
use Rattle.std.proofs.Common.{◌≡◌, ◌≢◌, ℕ, ◌<◌, ◌-◌, All, List, [], ◌∷◌, ◌++◌, refl, ◌∙◌, ap, subst, inl, inr, length, take, map, replicate, decimal}
use Rattle.std.specs.Prelude.{codes}
use Rattle.std.proofs.lemmas.List.{append_assoc, append-nil}
use Rattle.std.proofs.Math.Seq.{take-append_seam}
use Rattle.hex.specs.Hex.{encode_lower, encode_with}
use Rattle.hex.proofs.HexLemmas.{decode_of-encode_lower}
use Rattle.adf_model.specs.declared.tree.NodeId.{NodeId}
use Rattle.adf_model.specs.Spelling.{spelled}
use Rattle.adf_model.proofs.SpellingLemmas.{text_of-spelled}
use Rattle.call_script.specs.declared.calls.Call.{Call}
use Rattle.call_script.specs.declared.calls.OpenMode.TheVariants.{New}
use Rattle.call_script.specs.declared.dims.Dims.{Dims}
use Rattle.adf_model.specs.declared.tree.Edit.TheVariants.{Create}
use Rattle.adf_model.specs.declared.tree.Query.TheVariants.{ChildrenOf}
use Rattle.call_script.specs.declared.words.CallWord.{CallWord}
use Rattle.call_script.specs.declared.words.CallWord.TheVariants as calls
use Rattle.call_script.specs.declared.words.EditWord.TheVariants as edits
use Rattle.call_script.specs.declared.words.QueryWord.TheVariants as queries
use Rattle.call_script.specs.Fields.{Kind, Value, Values, Spells, Reads}
use Rattle.call_script.specs.Fields.Kind.{a_file, a_mode, a_limit, a_node, a_text, some_bytes, a_type, some_dims, a_selection}
use Rattle.call_script.specs.Lines.{IsEdit, AreEdits, IsLine, edit_fields, call_word, call_fields, call_of, group_word}
use Rattle.call_script.specs.Plain.{AreDims, IsValue, AreValues, plain_dims, plain, all_plain, WordedEdit, worded, plain_edit, plain_edits}
use Rattle.call_script.specs.Tokens.{line_of, dims_text, node_text, IsFileNumber, IsLimit, IsId, IsDims}

-- the sizes that count are those held
dims_again : (dims : Dims) → AreDims dims → IsDims (plain_dims dims) dims
dims_again dims h =
    let held : take dims.rank dims.sizes ≡ h.0 = ap (λ n. take n dims.sizes) h.1.rank_is ∙ ap (λ xs. take (length h.0) xs) h.1.sizes_are ∙ take-append_seam h.0 (replicate (12 - length h.0) 0) in
    (h.0, ap dims_text held, h.1)

plain_some : (b : ℕ) (bytes : List ℕ) → encode_lower (b ∷ bytes) ≢ []
unfolding encode_with
plain_some b bytes e = cc

hex_some : (bytes : List ℕ) → bytes ≢ [] → encode_lower bytes ≢ []
hex_some [] some = absurd (some refl)
hex_some (b ∷ bytes) some = plain_some b bytes

plain_spells : (kind : Kind) (value : Value kind) → IsValue kind value → Spells kind (plain kind value) value
plain_spells a_file value is = (_, refl, (refl, is))
plain_spells a_mode value is = (_, refl, refl)
plain_spells a_limit value is = (_, refl, (refl, is))
plain_spells a_node value is = (_, refl, (refl, is))
plain_spells a_text value is = (_, refl, text_of-spelled value is)
plain_spells some_bytes value is = (_, refl, (hex_some value is.0, decode_of-encode_lower value is.1))
plain_spells a_type value is = (_, refl, refl)
plain_spells some_dims value is = (_, refl, dims_again value is)
plain_spells a_selection value is = record {
  start = _;
  end = _;
  stride = _;
  tokens_are = refl;
  some = is.0;
  start_is = dims_again _ is.1;
  end_is = dims_again _ is.2;
  stride_is = dims_again _ is.3;
}

plain_reads : (kinds : List Kind) (values : Values kinds) (after : List (List ℕ)) → AreValues kinds values → Reads (all_plain kinds values ++ after) kinds values after
plain_reads [] values after are = refl
plain_reads (kind ∷ kinds) values after are = (
  all_plain kinds values.1 ++ after,
  record {
    tokens = plain kind values.0;
    split = append_assoc (plain kind values.0) (all_plain kinds values.1) after;
    spelled = plain_spells kind values.0 are.0;
  },
  plain_reads kinds values.1 after are.1,
)

-- each call has a line
pub call_has_line : (word : CallWord) (values : Values (call_fields word)) → AreValues (call_fields word) values → IsLine (line_of (call_word word ∷ all_plain (call_fields word) values)) (call_of word values)
call_has_line word values are = record {
  tokens = call_word word ∷ all_plain (call_fields word) values;
  line_is = refl;
  call_is = inl (record {
    word = word;
    values = values;
    behind = all_plain (call_fields word) values;
    word_is = refl;
    reads = subst (λ ts. Reads ts (call_fields word) values []) (append-nil (all_plain (call_fields word) values)) (plain_reads (call_fields word) values [] are);
    made_is = refl;
  });
}

edit_reads : (edit : WordedEdit) (after : List (List ℕ)) → IsEdit (plain_edit edit ++ after) (worded edit) after
edit_reads edit after = record {
  word = edit.word;
  values = edit.values;
  behind = all_plain (edit_fields edit.word) edit.values ++ after;
  word_is = refl;
  reads = plain_reads (edit_fields edit.word) edit.values after edit.are;
  made_is = refl;
}

edits_read : (edit : WordedEdit) (edits : List WordedEdit) → AreEdits (plain_edits edit edits) (worded edit ∷ map worded edits)
edits_read edit [] = subst (λ ts. IsEdit ts (worded edit) []) (append-nil (plain_edit edit)) (edit_reads edit [])
edits_read edit (next ∷ edits) = (plain_edits next edits, edit_reads edit (codes ";" ∷ plain_edits next edits), edits_read next edits)

-- each group of edits has a line
pub group_has_line : (edit : WordedEdit) (edits : List WordedEdit) → IsLine (line_of (group_word ∷ plain_edits edit edits)) (Call.Edit (worded edit ∷ map worded edits))
group_has_line edit edits = record {
  tokens = group_word ∷ plain_edits edit edits;
  line_is = refl;
  call_is = inr (worded edit ∷ map worded edits, plain_edits edit edits, refl, edits_read edit edits, refl);
}

-- ---- some of them, spelled out

pub open_has_line : (number limit : ℕ) → IsFileNumber number → IsLimit limit → IsLine (codes "open " ++ (decimal number ++ (codes " new " ++ decimal limit))) (Call.Open number New limit)
open_has_line number limit small bounds = call_has_line calls.Open (number, (New, (limit, tt))) (small, (tt, (bounds, tt)))

pub close_has_line : (number : ℕ) → IsFileNumber number → IsLine (codes "close " ++ decimal number) (Call.Close number)
close_has_line number small = call_has_line calls.Close (number, tt) (small, tt)

pub children_has_line : (node : NodeId) → IsId node → IsLine (codes "children " ++ node_text node) (Call.Ask (ChildrenOf node))
children_has_line node id = call_has_line (calls.Ask queries.ChildrenOf) (node, tt) (id, tt)

pub create_has_line : (parent : NodeId) (name label : List ℕ) → IsId parent → All (λ b. b < 256) name → All (λ b. b < 256) label
    → IsLine (codes "edit create " ++ (node_text parent ++ (codes " " ++ (spelled name ++ (codes " " ++ spelled label))))) (Call.Edit (Create parent name label ∷ []))
create_has_line parent name label id small short = group_has_line (record { word = edits.Create; values = (parent, (name, (label, tt))); are = (id, (small, (short, tt))) }) []
