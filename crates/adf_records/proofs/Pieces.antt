-- A record as its pieces in a row.
use Rattle.std.proofs.Common.{◌≡◌, ℕ, zero, suc, ◌+◌, ◌≤◌, List, [], ◌∷◌, ◌++◌, length, take, drop, map, replicate, refl, sym, ◌∙◌, ap, arith, Bool, true, false, append-nil, append_assoc, length-drop}
use Rattle.std.specs.Prelude.{Option, Some, None, unwrap_or}
use Rattle.std.specs.List.{flat_map, range_with_len, AllByRecursion}
use Rattle.std.proofs.lemmas.List.{take_at, drop_at, drop-drop, length-take-le}
use Rattle.adf_format.specs.Hex.{hex_text}
use Rattle.adf_format.specs.Pointer.{Blank, To, pointer_text}
use Rattle.adf_format.specs.Fields.{field, number}
use Rattle.adf_format.specs.Parts.{HasPointer, HasNumber}
use Rattle.adf_format.specs.Records.{pointer_in}
use Rattle.disk_ptr.specs.declared.DiskPtr.{DiskPtr}
use Rattle.disk_ptr.specs.declared.DiskPtr.TheVariants.{At}
use Rattle.disk_ptr.specs.View.{view, HasOffset, IsWritable}
use Rattle.disk_ptr.proofs.Spelling.{known_by_place}
use Rattle.adf_format.specs.Case.{upper, in_upper_case}
use Rattle.adf_format.proofs.CaseLaws.{number_upper, pointer_upper}

abbrev pub joined : List (List ℕ) → List ℕ
joined [] = []
joined (p ∷ ps) = p ++ joined ps

-- pieces put behind a text, one after another
abbrev pub behind : List ℕ → List (List ℕ) → List ℕ
behind text [] = text
behind text (p ∷ ps) = behind (text ++ p) ps

pub behind-joined : (text : List ℕ) (ps : List (List ℕ)) → behind text ps ≡ text ++ joined ps
behind-joined text [] = sym (append-nil text)
behind-joined text (p ∷ ps) = behind-joined (text ++ p) ps ∙ append_assoc text p (joined ps)

-- ---- reading: the piece at an offset, and what is behind it

pub record Cut (text piece rest : List ℕ) (offset n : ℕ) : Type 0 where
  pub piece_is : field text offset n ≡ piece
  pub rest_is : drop (offset + n) text ≡ rest

pub cut : (text piece rest : List ℕ) (offset n : ℕ) → drop offset text ≡ piece ++ rest → length piece ≡ n → Cut text piece rest offset n
cut text piece rest offset n e long = record {
  piece_is = ap (take n) e ∙ take_at piece rest n long;
  rest_is = sym (drop-drop n offset text) ∙ ap (drop n) e ∙ drop_at piece rest n long;
}

-- pieces of one length
pub cut_each : (text rest : List ℕ) (at : ℕ → ℕ) (w : ℕ) (ds : List (List ℕ)) (a : ℕ) → ((i : ℕ) → at (i + 1) ≡ at i + w) → AllByRecursion (λ (d : List ℕ). length d ≡ w) ds
    → drop (at a) text ≡ flat_map (λ (d : List ℕ). d) ds ++ rest → map (λ i. field text (at i) w) (range_with_len a (length ds)) ≡ ds
cut_each text rest at w [] a step all e = refl
cut_each text rest at w (d ∷ ds) a step all e =
    let c : Cut text d (flat_map (λ (d : List ℕ). d) ds ++ rest) (at a) w = cut text d (flat_map (λ (d : List ℕ). d) ds ++ rest) (at a) w (e ∙ append_assoc d (flat_map (λ (d : List ℕ). d) ds) rest) all.0 in
    ap (λ x. x ∷ map (λ i. field text (at i) w) (range_with_len (a + 1) (length ds))) c.piece_is
    ∙ ap (λ xs. d ∷ xs) (cut_each text rest at w ds (a + 1) step all.1 (ap (λ o. drop o text) (step a) ∙ c.rest_is))

-- what is behind them
pub cut_behind : (text rest : List ℕ) (at : ℕ → ℕ) (w : ℕ) (ds : List (List ℕ)) (a : ℕ) → ((i : ℕ) → at (i + 1) ≡ at i + w) → AllByRecursion (λ (d : List ℕ). length d ≡ w) ds
    → drop (at a) text ≡ flat_map (λ (d : List ℕ). d) ds ++ rest → drop (at (a + length ds)) text ≡ rest
cut_behind text rest at w [] a step all e = ap (λ k. drop (at k) text) (at_zero a) ∙ e
  where
    at_zero : (a : ℕ) → a + 0 ≡ a
    at_zero a = omega arith
cut_behind text rest at w (d ∷ ds) a step all e =
    let c : Cut text d (flat_map (λ (d : List ℕ). d) ds ++ rest) (at a) w = cut text d (flat_map (λ (d : List ℕ). d) ds ++ rest) (at a) w (e ∙ append_assoc d (flat_map (λ (d : List ℕ). d) ds) rest) all.0 in
    ap (λ k. drop (at k) text) (shift a (length ds)) ∙ cut_behind text rest at w ds (a + 1) step all.1 (ap (λ o. drop o text) (step a) ∙ c.rest_is)
  where
    shift : (a n : ℕ) → a + suc n ≡ a + 1 + n
    shift a n = omega arith

-- ---- writing: one field after another

-- the text is what stands from an offset on, with the letters of hexadecimal fields in upper case
pub record Respells (fields : List (ℕ × Bool)) (bytes : List ℕ) (offset : ℕ) (text : List ℕ) : Type 0 where
  pub is : text ≡ in_upper_case fields (drop offset bytes)

pub at_end : (bytes : List ℕ) (offset : ℕ) → Respells [] bytes offset []
at_end bytes offset = record { is = refl }

pub kept_as_found : {fields : List (ℕ × Bool)} {bytes rest : List ℕ} (offset n : ℕ) → Respells fields bytes (offset + n) rest → Respells ((n, false) ∷ fields) bytes offset (field bytes offset n ++ rest)
kept_as_found {fields = fields} {bytes = bytes} {rest = rest} offset n r =
    record { is = ap (λ t. field bytes offset n ++ t) (r.is ∙ ap (in_upper_case fields) (sym (drop-drop n offset bytes))) }

pub as_found : {fields : List (ℕ × Bool)} {bytes rest : List ℕ} (piece : List ℕ) (offset n : ℕ) → piece ≡ field bytes offset n → Respells fields bytes (offset + n) rest → Respells ((n, false) ∷ fields) bytes offset (piece ++ rest)
as_found {fields = fields} {bytes = bytes} {rest = rest} piece offset n h r = record { is = ap (λ t. t ++ rest) h ∙ (kept_as_found offset n r).is }

pub in_upper : {fields : List (ℕ × Bool)} {bytes rest : List ℕ} (piece : List ℕ) (offset n : ℕ) → piece ≡ map upper (field bytes offset n) → Respells fields bytes (offset + n) rest → Respells ((n, true) ∷ fields) bytes offset (piece ++ rest)
in_upper {fields = fields} {bytes = bytes} {rest = rest} piece offset n h r = record {
  is = ap (λ t. t ++ rest) h ∙ ap (λ t. map upper (field bytes offset n) ++ t) (r.is ∙ ap (in_upper_case fields) (sym (drop-drop n offset bytes)));
}

-- fields of one length
pub kept_each : {fields : List (ℕ × Bool)} {bytes rest : List ℕ} (at : ℕ → ℕ) (w a n : ℕ) → ((i : ℕ) → at (i + 1) ≡ at i + w) → Respells fields bytes (at (a + n)) rest
    → Respells (replicate n (w, false) ++ fields) bytes (at a) (flat_map (λ (d : List ℕ). d) (map (λ i. field bytes (at i) w) (range_with_len a n)) ++ rest)
kept_each {fields = fields} {bytes = bytes} {rest = rest} at w a zero step r = record { is = r.is ∙ ap (λ k. in_upper_case fields (drop (at k) bytes)) (at_zero a) }
  where
    at_zero : (a : ℕ) → a + 0 ≡ a
    at_zero a = omega arith
kept_each {fields = fields} {bytes = bytes} {rest = rest} at w a (suc n) step r =
    let more : List ℕ = flat_map (λ (d : List ℕ). d) (map (λ i. field bytes (at i) w) (range_with_len (a + 1) n)) in
    let later : Respells fields bytes (at (a + 1 + n)) rest = record { is = r.is ∙ ap (λ k. in_upper_case fields (drop (at k) bytes)) (shift a n) } in
    let fewer : Respells (replicate n (w, false) ++ fields) bytes (at (a + 1)) (more ++ rest) = kept_each at w (a + 1) n step later in
    let first : Respells (replicate n (w, false) ++ fields) bytes (at a + w) (more ++ rest) = record { is = fewer.is ∙ ap (λ k. in_upper_case (replicate n (w, false) ++ fields) (drop k bytes)) (step a) } in
    record { is = append_assoc (field bytes (at a) w) more rest ∙ (kept_as_found (at a) w first).is }
  where
    shift : (a n : ℕ) → a + suc n ≡ a + 1 + n
    shift a n = omega arith

pub field_long : (bytes : List ℕ) (offset n : ℕ) → offset + n ≤ length bytes → length (field bytes offset n) ≡ n
field_long bytes offset n h = length-take-le n (drop offset bytes) (omega (arith, h, length-drop offset bytes))

-- the number of a field, and a pointer, in upper case
pub number_written : (bytes : List ℕ) (offset n v : ℕ) → offset + n ≤ length bytes → HasNumber bytes offset n v → hex_text n (number bytes offset n) ≡ map upper (field bytes offset n)
number_written bytes offset n v h e =
    ap (λ o. hex_text n (unwrap_or o 0)) e ∙ number_upper (field bytes offset n) n v (field_long bytes offset n h) e

pub pointer_written : (bytes : List ℕ) (offset : ℕ) (place : Option ℕ) → offset + 12 ≤ length bytes → HasPointer bytes offset place → pointer_text (pointer_in bytes offset) ≡ map upper (field bytes offset 12)
pointer_written bytes offset None h e = ap (λ o. pointer_text (unwrap_or o Blank)) e ∙ pointer_upper (field bytes offset 12) Blank (field_long bytes offset 12 h) e
pointer_written bytes offset (Some place) h e = ap (λ o. pointer_text (unwrap_or o Blank)) e ∙ pointer_upper (field bytes offset 12) (To place) (field_long bytes offset 12 h) e

-- ---- pointers

offset_of : (p : DiskPtr) → IsWritable p → HasOffset p
offset_of DiskPtr.Blank w = tt
offset_of (At block offset) w = w.1

pub known : (q p : DiskPtr) → IsWritable p → HasOffset q → view q ≡ view p → q ≡ p
known q p w h e = known_by_place q p h (offset_of p w) e

pub length-pointer_text : (p : DiskPtr) → length (pointer_text (view p)) ≡ 12
length-pointer_text DiskPtr.Blank = refl
length-pointer_text (At block offset) = refl
