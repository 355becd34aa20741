-- Two texts that are put in their places, one after the other.
use Rattle.std.proofs.Common.{◌≡◌, ℕ, suc, ◌+◌, arith, ap, subst, ◌∙◌, List, [], ◌∷◌, ◌++◌, length, length-append, Option, None, Some}
use Rattle.std.specs.Prelude.{Result, OnOk}
use Rattle.std.proofs.lemmas.Result.{on_ok_weaker}
use Rattle.adf_format.proofs.FieldLaws.{length-field}
use Rattle.adf_format.specs.declared.types.ExtentKind.{ExtentKind}
use Rattle.adf_format.specs.Changes.{Writes}
use Rattle.adf_format.specs.Fields.{field}
use Rattle.adf_format.specs.Hex.{hex_text}
use Rattle.adf_format.specs.HeapRule.{grown_entries}
use Rattle.adf_format.specs.Pointer.{To, pointer_text}
use Rattle.adf_format.proofs.SpelledParts.{length-pointer_text}
use Rattle.adf_format.specs.HeapBytes.{ChangesOnly}
use Rattle.cg_io.specs.Answers.{Then}
use Rattle.cg_io.specs.Blocks.{Both}
use Rattle.field_access.specs.Fields.{range}
use Rattle.tree_laws.specs.MidEdit.{Puts}
use Rattle.tree_edits.specs.Joined.{table_fields}
use Rattle.tree_edits.specs.Taken.{FillsWith}

pub next : (m n : ℕ) → m ≡ n → m + 1 ≡ suc n
next m n e = omega (arith, e)

puts_there : (kind : ExtentKind) (place n : ℕ) (text old new : List ℕ) → Writes place text old new → ChangesOnly (range place n ∷ []) old new → Puts kind place n text old new
puts_there kind place n text old new w c =
    record { writes = w; only = record { longer = c.longer; others = c.others; grows = λ b low high. record { byte = (c.grows b low high).byte; own = (c.grows b low high).own; block = (c.grows b low high).block } } }

pub put_twice : {T E : Type 0} (r : Result T E) (k l : ExtentKind) (a n b m : ℕ) (text other : List ℕ) (old mid new : Option (List ℕ)) → length text ≡ n → Both (Writes a text) old mid → Both (ChangesOnly (range a (length text) ∷ [])) old mid
    → OnOk r (Both (Writes b other) mid new) → Both (ChangesOnly (range b m ∷ [])) mid new → OnOk r (Both (Then (Puts k a n text) (Puts l b m other)) old new)
put_twice r k l a n b m text other old mid new long one only wrote rest = on_ok_weaker r (by_held old mid new one only rest) wrote
  where
    by_held : (old mid new : Option (List ℕ)) → Both (Writes a text) old mid → Both (ChangesOnly (range a (length text) ∷ [])) old mid → Both (ChangesOnly (range b m ∷ [])) mid new → Both (Writes b other) mid new
        → Both (Then (Puts k a n text) (Puts l b m other)) old new
    by_held None None None one only rest two = tt
    by_held None None (Some new) one only rest two = absurd two
    by_held None (Some mid) new one only rest two = absurd one
    by_held (Some old) None new one only rest two = absurd one
    by_held (Some old) (Some mid) None one only rest two = absurd two
    by_held (Some old) (Some mid) (Some new) one only rest two = (
      mid,
      puts_there k a n text old mid one (subst (λ x. ChangesOnly (range a x ∷ []) old mid) long only),
      puts_there l b m other mid new two rest,
    )

-- a text that fills its place
pub fill_once : {T E : Type 0} (r : Result T E) (a n : ℕ) (text : List ℕ) (old new : Option (List ℕ)) → length text ≡ n → OnOk r (Both (Writes a text) old new) → Both (ChangesOnly (range a (length text) ∷ [])) old new → OnOk r (Both (FillsWith a n text) old new)
fill_once r a n text old new long wrote only = on_ok_weaker r (by_held old new only) wrote
  where
    by_held : (old new : Option (List ℕ)) → Both (ChangesOnly (range a (length text) ∷ [])) old new → Both (Writes a text) old new → Both (FillsWith a n text) old new
    by_held None None only w = tt
    by_held None (Some new) only w = absurd w
    by_held (Some old) None only w = absurd w
    by_held (Some old) (Some new) only w =
        let puts = puts_there ExtentKind.Node a n text old new w (subst (λ x. ChangesOnly (range a x ∷ []) old new) long only) in
        record { stands = subst (λ k. field new a k ≡ text) long w.stands; reaches = λ some. let far = ap length w.stands in let m = length-field new a (length text) in omega (arith, far, m, long, some); only = puts.only }

-- the fields of a table in a header
pub fields_long : (place count : ℕ) (text : List ℕ) → text ≡ table_fields place count → length text ≡ 28
fields_long place count text is = ap length is ∙ length-append (hex_text 8 (suc count) ++ hex_text 8 (grown_entries count)) (pointer_text (To place)) ∙ ap (λ k. 16 + k) (length-pointer_text (To place))

pub put_fields : (a place count : ℕ) (text : List ℕ) (old new : Option (List ℕ)) → text ≡ table_fields place count → Both (Writes a text) old new → Both (ChangesOnly (range a (length text) ∷ [])) old new → Both (Puts ExtentKind.Node a 28 (table_fields place count)) old new
put_fields a place count text old new is = by_held old new
  where
    long : length text ≡ 28
    long = fields_long place count text is

    by_held : (old new : Option (List ℕ)) → Both (Writes a text) old new → Both (ChangesOnly (range a (length text) ∷ [])) old new → Both (Puts ExtentKind.Node a 28 (table_fields place count)) old new
    by_held None None w only = tt
    by_held None (Some new) w only = w
    by_held (Some old) None w only = w
    by_held (Some old) (Some new) w only =
        subst (λ t. Puts ExtentKind.Node a 28 t old new) is (puts_there ExtentKind.Node a 28 text old new w (subst (λ k. ChangesOnly (range a k ∷ []) old new) long only))
