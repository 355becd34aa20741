-- The texts of a first child, computed.
use Rattle.std.proofs.Common.{◌≡◌, refl, [], ◌++◌, replicate, ◌*◌, false}
use Rattle.std.specs.Prelude.{None, codes}
use Rattle.adf_format.specs.Fields.{text_field}
use Rattle.adf_format.specs.Pointer.{To}
use Rattle.adf_format.specs.Fresh.{fresh_text}
use Rattle.adf_format.specs.Records.{SubNodes, entry_text, node_text}
use Rattle.adf_format.specs.Spelled.{framed_text}
use Rattle.adf_format.proofs.Images.{node, digits, blank, entry}
use Rattle.adf_model.specs.Creation.{empty_node, used_entries, unused_entries}

-- its header
header : node_text (empty_node false (codes "Base") []) ≡ node (codes "Base") [] (digits 16) blank
unfolding node_text
header = refl

-- and the table of its parent, of eight entries
table :
    framed_text SubNodes 758 (used_entries (fresh_text false) None 0 ++ entry_text (text_field 32 (codes "Base")) (To 512) ++ unused_entries 7)
    ≡ codes "SNTb" ++ codes "000000000466" ++ entry (codes "Base") (codes "000000000200") ++ replicate (44 * 7) 0 ++ codes "snTE"
table = refl
