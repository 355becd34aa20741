-- What is known of a node that is a text.
use Rattle.std.proofs.Common.{◌≡◌, ap, refl, arith, ◌≤◌, ℕ, Bool, true, false, List, [], Decides}
use Rattle.std.specs.Prelude.{◌&&◌, ◌||◌, ◌==◌, is_some, length, nat_le, if◌then◌else◌, unwrap_or, Contains}
use Rattle.std.proofs.lemmas.Bool.Decides.{same_from_decides}
use Rattle.adf_format.specs.declared.types.DataType.TheVariants.{C1}
use Rattle.adf_format.specs.Tree.{Node}
use Rattle.adf_model.specs.Edits.{size_of, size_limit}
use Rattle.adf_model.proofs.Basics.{not_true}
use Rattle.sids_views.specs.Nodes.{view_of}
use Rattle.sids_rules.specs.Words.{without_padding}
use Rattle.sids_rules.specs.Values.{is_type, is_text, text_of, is_word}
use Rattle.sids_rules.proofs.Decided.{word_decided}
use Rattle.sids_readings.specs.Shown.{shows_text}
use Rattle.sids_readings.specs.Reading.{text_bytes}

pub both : (x y : Bool) → (x && y) ≡ true → (x ≡ true) × (y ≡ true)
both true y h = (refl, h)
both false y h = absurd (not_true h)

pub text_has_data : (node : Node) → shows_text (view_of node) ≡ true → is_some node.bytes ≡ true
text_has_data node h = (both _ (is_some node.bytes) (both _ (nat_le (size_of node) size_limit) h).0).1

at_most : (a b : ℕ) → nat_le a b ≡ true → a ≤ b
at_most a b h = grind arith

pub text_is_small : (node : Node) → shows_text (view_of node) ≡ true → size_of node ≤ size_limit
text_is_small node h = at_most (size_of node) size_limit (both _ (nat_le (size_of node) size_limit) h).1

unpadded : (b : Bool) (bytes : List ℕ) → without_padding (if b then bytes else []) ≡ (if b then without_padding bytes else [])
unpadded true bytes = refl
unpadded false bytes = refl

-- the text of a node is its bytes without the padding
pub text_is : (node : Node) → without_padding (text_bytes node) ≡ text_of node
text_is node = unpadded (is_text node) (unwrap_or node.bytes [])

-- a test that is true exactly for the words of a list is that of the definitions
pub word_is : (words : List (List ℕ)) (text : List ℕ) (b : Bool) → Decides b (Contains words text) → b ≡ is_word words text
word_is words text b h = same_from_decides b (is_word words text) h (word_decided words text)

pub or_false : (b : Bool) → (b || false) ≡ b
or_false true = refl
or_false false = refl
