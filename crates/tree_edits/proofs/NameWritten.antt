-- A name that is written in a header and in an entry.
use Rattle.std.proofs.Common.{◌≡◌, ℕ, ◌+◌, ◌*◌, ◌/◌, ◌%◌, arith, ◌∙◌, ap, subst, List, [], ◌∷◌, length, length-append, Option, None, Some}
use Rattle.std.specs.Prelude.{Result, OnOk}
use Rattle.std.proofs.lemmas.Result.{on_ok_weaker}
use Rattle.adf_format.proofs.SpelledParts.{length-pointer_text}
use Rattle.adf_format.specs.declared.types.ExtentKind.{ExtentKind}
use Rattle.adf_format.specs.Changes.{Writes}
use Rattle.adf_format.specs.HeapBytes.{ChangesOnly}
use Rattle.adf_format.specs.Pointer.{To, pointer_text}
use Rattle.adf_format.specs.Records.{entry_text}
use Rattle.disk_ptr.specs.View.{view}
use Rattle.disk_ptr.specs.declared.DiskPtr.{DiskPtr}
use Rattle.disk_ptr.specs.declared.DiskPtr.TheVariants.{At}
use Rattle.cg_io.specs.Answers.{Then}
use Rattle.cg_io.specs.Blocks.{Both}
use Rattle.field_access.specs.Fields.{range}
use Rattle.tree_laws.specs.MidEdit.{Puts}

-- what a write leaves is a text that is put in its place
pub put_there : (kind : ExtentKind) (place n : ℕ) (text old new : List ℕ) → length text ≡ n → Writes place text old new → ChangesOnly (range place (length text) ∷ []) old new → Puts kind place n text old new
put_there kind place n text old new long w only =
    let c = subst (λ k. ChangesOnly (range place k ∷ []) old new) long only in
    record { writes = w; only = record { longer = c.longer; others = c.others; grows = λ b low high. record { byte = (c.grows b low high).byte; own = (c.grows b low high).own; block = (c.grows b low high).block } } }

entry_long : (name : List ℕ) (place : ℕ) → length name ≡ 32 → length (entry_text name (To place)) ≡ 44
entry_long name place long = length-append name (pointer_text (To place)) ∙ ap (λ n. n + length (pointer_text (To place))) long ∙ ap (λ n. 32 + n) (length-pointer_text (To place))

-- the text of an entry, by its length
pub text_long : (name text : List ℕ) (place : ℕ) → length name ≡ 32 → text ≡ entry_text name (To place) → length text ≡ 44
text_long name text place long is = ap length is ∙ entry_long name place long

pub both_written : {T E : Type 0} (r : Result T E) (place entry : ℕ) (name text : List ℕ) (old mid new : Option (List ℕ)) → length name ≡ 32 → text ≡ entry_text name (To place)
    → Both (Writes (place + 4) name) old mid → Both (ChangesOnly (range (place + 4) (length name) ∷ [])) old mid
    → OnOk r (Both (Writes entry text) mid new) → Both (ChangesOnly (range entry (length text) ∷ [])) mid new
    → OnOk r (Both (Then (Puts ExtentKind.Node (place + 4) 32 name) (Puts ExtentKind.SubNodes entry 44 (entry_text name (To place)))) old new)
both_written r place entry name text old mid new long is one only wrote rest = on_ok_weaker r (by_held old mid new one only rest) wrote
  where
    far : length text ≡ 44
    far = text_long name text place long is

    by_held : (old mid new : Option (List ℕ)) → Both (Writes (place + 4) name) old mid → Both (ChangesOnly (range (place + 4) (length name) ∷ [])) old mid → Both (ChangesOnly (range entry (length text) ∷ [])) mid new → Both (Writes entry text) mid new
        → Both (Then (Puts ExtentKind.Node (place + 4) 32 name) (Puts ExtentKind.SubNodes entry 44 (entry_text name (To place)))) old new
    by_held None None None one only rest two = tt
    by_held None None (Some new) one only rest two = absurd two
    by_held None (Some mid) new one only rest two = absurd one
    by_held (Some old) None new one only rest two = absurd one
    by_held (Some old) (Some mid) None one only rest two = absurd two
    by_held (Some old) (Some mid) (Some new) one only rest two = (
      mid,
      put_there ExtentKind.Node (place + 4) 32 name old mid long one only,
      subst (λ t. Puts ExtentKind.SubNodes entry 44 t mid new) is (put_there ExtentKind.SubNodes entry 44 text mid new far two rest),
    )

pub place_again : (place : ℕ) → place / 4096 * 4096 + place % 4096 ≡ place
place_again place = omega arith

-- the text of an entry whose pointer is made of a place
pub entry_again : (name text : List ℕ) (place : ℕ) (d : DiskPtr) → text ≡ entry_text name (view d) → d ≡ At (place / 4096) (place % 4096) → text ≡ entry_text name (To place)
entry_again name text place d e f = e ∙ ap (λ x. entry_text name (view x)) f ∙ ap (λ k. entry_text name (To k)) (place_again place)
