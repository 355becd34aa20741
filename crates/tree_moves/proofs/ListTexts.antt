-- What the calls on a list write.
use Rattle.std.proofs.Common.{◌≡◌, ℕ, sym, ◌∙◌, ap, subst, arith, List, [], ◌∷◌, ◌++◌, length, length-append, take, ◌+◌, ◌/◌, ◌%◌, Option, None, Some}
use Rattle.std.specs.Prelude.{Result, OnOk}
use Rattle.std.proofs.lemmas.Result.{on_ok_weaker}
use Rattle.adf_format.specs.declared.types.ExtentKind.{ExtentKind}
use Rattle.adf_format.specs.Changes.{Writes}
use Rattle.adf_format.specs.Hex.{hex_text}
use Rattle.adf_format.specs.HeapBytes.{ChangesOnly}
use Rattle.adf_format.specs.HeapRule.{grown_entries}
use Rattle.adf_format.specs.Pointer.{To, pointer_text}
use Rattle.adf_format.proofs.FieldLaws.{field_whole}
use Rattle.adf_format.proofs.SpelledParts.{length-pointer_text}
use Rattle.cg_io.specs.Blocks.{Both, blocks_of}
use Rattle.disk_ptr.specs.View.{view}
use Rattle.disk_ptr.specs.declared.DiskPtr.{DiskPtr}
use Rattle.disk_ptr.specs.declared.DiskPtr.TheVariants.{At}
use Rattle.field_access.specs.Fields.{range}
use Rattle.tree_laws.specs.MidEdit.{Puts}
use Rattle.tree_edits.specs.declared.listed.Listed.{Listed}
use Rattle.tree_edits.specs.Left.{MovesUp, entry_place, length_behind, leave_cost}
use Rattle.tree_edits.proofs.NameWritten.{put_there, place_again}
use Rattle.tree_moves.specs.Relisted.{kept_fields, MovesLast}

pub kept_are : (count place g v e1 e2 e3 : ℕ) (d : DiskPtr) (a b c : List ℕ) → e1 ≡ 8 → take e1 a ≡ hex_text 8 v → e2 ≡ e1 + 8 → take e2 b ≡ take e1 a ++ hex_text 8 g → e3 ≡ e2 + 12 → take e3 c ≡ take e2 b ++ pointer_text (view d)
    → length c ≡ 28 → v ≡ count → g ≡ grown_entries count → d ≡ At (place / 4096) (place % 4096) → c ≡ kept_fields place count
kept_are count place g v e1 e2 e3 d a b c at1 one at2 two at3 three long is_v is_g is_d =
    sym (field_whole c 28 long)
    ∙ (let same : e3 ≡ 28 = omega (arith, at1, at2, at3) in ap (λ k. take k c) (sym same))
    ∙ three
    ∙ ap (λ xs. xs ++ pointer_text (view d)) (two ∙ ap (λ xs. xs ++ hex_text 8 g) (one ∙ ap (hex_text 8) is_v) ∙ ap (λ k. hex_text 8 count ++ hex_text 8 k) is_g)
    ∙ ap (λ x. hex_text 8 count ++ hex_text 8 (grown_entries count) ++ pointer_text (view x)) is_d
    ∙ ap (λ k. hex_text 8 count ++ hex_text 8 (grown_entries count) ++ pointer_text (To k)) (place_again place)

pub kept_long : (place count : ℕ) (text : List ℕ) → text ≡ kept_fields place count → length text ≡ 28
kept_long place count text is = ap length is ∙ length-append (hex_text 8 count ++ hex_text 8 (grown_entries count)) (pointer_text (To place)) ∙ ap (λ k. 16 + k) (length-pointer_text (To place))

pub put_kept : (a place count : ℕ) (text : List ℕ) (old new : Option (List ℕ)) → text ≡ kept_fields place count → Both (Writes a text) old new → Both (ChangesOnly (range a (length text) ∷ [])) old new → Both (Puts ExtentKind.Node a 28 (kept_fields place count)) old new
put_kept a place count text old new is = by_held old new
  where
    by_held : (old new : Option (List ℕ)) → Both (Writes a text) old new → Both (ChangesOnly (range a (length text) ∷ [])) old new → Both (Puts ExtentKind.Node a 28 (kept_fields place count)) old new
    by_held None None w only = tt
    by_held None (Some new) w only = w
    by_held (Some old) None w only = w
    by_held (Some old) (Some new) w only = subst (λ t. Puts ExtentKind.Node a 28 t old new) is (put_there ExtentKind.Node a 28 text old new (kept_long place count text is) w only)

-- the blocks of those entries, and of the text
pub last_cost : (listed : Listed) (own n : ℕ) → own ≡ entry_place listed → n ≡ length_behind listed → blocks_of own n + 2 ≡ leave_cost listed
last_cost listed own n at behind = ap (λ k. blocks_of k n + 2) at ∙ ap (λ k. blocks_of (entry_place listed) k + 2) behind

-- the entries behind an entry move up, and a text is written behind them
pub last_moved : {T E : Type 0} (r : Result T E) (listed : Listed) (own n : ℕ) (text : List ℕ) (old mid new : Option (List ℕ)) → length text ≡ 44 → own ≡ entry_place listed → n ≡ length_behind listed
    → Both (MovesUp (own + 44) own n) old mid → OnOk r (Both (Writes (own + n) text) mid new) → Both (ChangesOnly (range (own + n) (length text) ∷ [])) mid new → OnOk r (Both (MovesLast listed text) old new)
last_moved r listed own n text old mid new long at behind ups wrote only = on_ok_weaker r (by_held old mid new ups only) wrote
  where
    by_held : (old mid new : Option (List ℕ)) → Both (MovesUp (own + 44) own n) old mid → Both (ChangesOnly (range (own + n) (length text) ∷ [])) mid new → Both (Writes (own + n) text) mid new → Both (MovesLast listed text) old new
    by_held None None None ups only w = tt
    by_held None None (Some new) ups only w = absurd w
    by_held None (Some mid) new ups only w = absurd ups
    by_held (Some old) None new ups only w = absurd ups
    by_held (Some old) (Some mid) None ups only w = absurd w
    by_held (Some old) (Some mid) (Some new) ups only w = (
      mid,
      subst (λ k. MovesUp (k + 44) k (length_behind listed) old mid) at (subst (λ k. MovesUp (own + 44) own k old mid) behind ups),
      subst (λ k. Puts ExtentKind.SubNodes (k + length_behind listed) 44 text mid new) at (subst (λ k. Puts ExtentKind.SubNodes (own + k) 44 text mid new) behind (put_there ExtentKind.SubNodes (own + n) 44 text mid new long w only)),
    )
