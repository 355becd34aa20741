-- Entries of children, in the order of a linked list.
use Rattle.std.proofs.Common.{◌≡◌, ℕ, zero, suc, ◌+◌, ◌-◌, ◌*◌, ◌<◌, Bool, true, false, List, [], ◌∷◌, ◌++◌, length, get_or, take, drop, map, refl, sym, subst, ◌∙◌, ap, arith, append_assoc, length-append, Option, Some}
use Rattle.std.specs.Prelude.{cond, filter, slice_get}
use Rattle.std.specs.List.{range_with_len}
use Rattle.std.proofs.Math.Seq.{drop-cons}
use Rattle.std.proofs.lemmas.List.{append-nil, take_more}
use Rattle.adf_format.specs.Pointer.{To, pointer_text}
use Rattle.adf_format.proofs.SpelledParts.{length-pointer_text}
use Rattle.adf_format.specs.Records.{entry_text}
use Rattle.adf_format.specs.Spelled.{in_row}
use Rattle.cg_io.specs.Device.{bytes_at, GivesAt}
use Rattle.layout_lint.specs.declared.verdict.NodePlace.{NodePlace}
use Rattle.adf_repack.specs.Writers.{with_more}
use Rattle.adf_repack.proofs.WriterLaws.{more_then}
use Rattle.adf_repack.specs.Families.{IsChain, children_of, is_under}
use Rattle.adf_repack.specs.Copies.{position_in, copied_entry, copied_entries, BreaksNames}
use Rattle.adf_repack.specs.Sources.{IsBroken, IsBeyond}
use Rattle.adf_model.specs.declared.error.AdfError.{AdfError}
use Rattle.std.specs.List.{Contains}
use Rattle.std.proofs.lemmas.List.Elements.{Contains-get_or}

-- ---- the list

in_cond : (from n i : ℕ) (ks : List ℕ) (b : Bool) → ((j : ℕ) → j < length ks → get_or ks j 0 < from + 1 + n) → i < length (cond b (from ∷ ks) ks) → get_or (cond b (from ∷ ks) ks) i 0 < from + suc n
in_cond from n zero ks true rest lt = omega arith
in_cond from n (suc i) ks true rest lt = let h = rest i (omega (arith, lt)) in omega (arith, h)
in_cond from n i ks false rest lt = let h = rest i lt in omega (arith, h)

in_range : (test : ℕ → Bool) (from n i : ℕ) → i < length (filter test (range_with_len from n)) → get_or (filter test (range_with_len from n)) i 0 < from + n
in_range test from zero i lt = absurd (omega (arith, lt))
in_range test from (suc n) i lt = in_cond from n i (filter test (range_with_len (from + 1) n)) (test from) (λ j l. in_range test (from + 1) n j l) lt

-- each child is one of the nodes
pub child_within : (nodes : List NodePlace) (number i : ℕ) → 0 < length nodes → i < length (children_of nodes number) → get_or (children_of nodes number) i 0 < length nodes
child_within nodes number i some lt = let h = in_range (λ k. is_under number (slice_get nodes k)) 1 (length nodes - 1) i lt in omega (arith, h, some)

module _ (nodes : List NodePlace) (number done end child : ℕ) (links counts : List ℕ) (one : number < length nodes) (count : end ≡ get_or counts number 0)
    (all : get_or counts number 0 ≡ length (children_of nodes number)) (before : done < end) (list : IsChain links child (drop done (children_of nodes number))) where
  -- it is not the last of them
  pub more : done < length (children_of nodes number)
  more = omega (arith, count, all, before)

  -- the first of those that are left
  pub here : child ≡ get_or (children_of nodes number) done 0
  here = (subst (λ (l : List ℕ). IsChain links child l) (drop-cons (children_of nodes number) done 0 more) list).0

  pub inside : child < length nodes
  inside = let h = child_within nodes number done (omega (arith, one)) more in let e = here in omega (arith, h, e)

  -- an entry that is broken is that of a child
  pub broken_name : (table position : ℕ) (e : AdfError) → position ≡ position_in (slice_get nodes child) → IsBroken (IsBeyond (table + 16 + 44 * position)) e
      → IsBroken (BreaksNames table nodes (children_of nodes number)) e
  broken_name table position e at b = record {
    rule = b.rule;
    place = b.place;
    is = b.is;
    so = record {
      child = child;
      one = subst (λ (k : ℕ). Contains (children_of nodes number) k) (sym here) (Contains-get_or (children_of nodes number) done 0 more);
      breaks = subst (λ (n : ℕ). IsBeyond (table + 16 + 44 * n) b.rule b.place) at b.so;
    };
  }

  -- and the link that leads on
  pub on : (v : ℕ) → v ≡ get_or links child 0 → IsChain links v (drop (done + 1) (children_of nodes number))
  on v is =
      let parts = subst (λ (l : List ℕ). IsChain links child l) (drop-cons (children_of nodes number) done 0 more) list in
      let next : suc done ≡ done + 1 = omega arith in
      subst (λ (k : ℕ). IsChain links k (drop (done + 1) (children_of nodes number))) (sym (is ∙ ap (λ k. get_or links k 0) parts.0))
      (subst (λ (k : ℕ). IsChain links (get_or links (get_or (children_of nodes number) done 0) 0) (drop k (children_of nodes number))) next parts.2)

-- ---- the entries

row_more : (ps : List (List ℕ)) (q : List ℕ) → in_row (ps ++ q ∷ []) ≡ in_row ps ++ q
row_more [] q = append-nil q
row_more (p ∷ ps) q = ap (λ (l : List ℕ). p ++ l) (row_more ps q) ∙ sym (append_assoc p (in_row ps) q)

map_more : (f : ℕ → List ℕ) (xs : List ℕ) (x : ℕ) → map f (xs ++ x ∷ []) ≡ map f xs ++ f x ∷ []
map_more f [] x = refl
map_more f (y ∷ ys) x = ap (λ (l : List (List ℕ)). f y ∷ l) (map_more f ys x)

-- one entry more
pub entries_more : (image : List ℕ) (table : ℕ) (nodes : List NodePlace) (headers xs : List ℕ) (i : ℕ) → i < length xs
    → copied_entries image table nodes headers (take (i + 1) xs) ≡ copied_entries image table nodes headers (take i xs) ++ copied_entry image table nodes headers (get_or xs i 0)
entries_more image table nodes headers xs i lt =
    let f : ℕ → List ℕ = copied_entry image table nodes headers in
    ap (λ (l : List ℕ). in_row (map f l)) (take_more xs i 0 lt) ∙ ap in_row (map_more f (take i xs) (get_or xs i 0)) ∙ row_more (map f (take i xs)) (f (get_or xs i 0))

-- what is written of a child
pub entry_is : (held : Option (List ℕ)) (image name : List ℕ) (table position child v : ℕ) (nodes : List NodePlace) (headers : List ℕ) → held ≡ Some image
    → GivesAt held (table + 16 + 44 * position) name → length name ≡ 32 → position ≡ position_in (slice_get nodes child) → v ≡ get_or headers child 0
    → entry_text name (To v) ≡ copied_entry image table nodes headers child
entry_is held image name table position child v nodes headers told given long at is =
    let read : name ≡ bytes_at image (table + 16 + 44 * position) (length name) = subst (λ (h : Option (List ℕ)). GivesAt h (table + 16 + 44 * position) name) told given in
    ap (λ (b : List ℕ). entry_text b (To v)) (read ∙ ap (bytes_at image (table + 16 + 44 * position)) long ∙ ap (λ (n : ℕ). bytes_at image (table + 16 + 44 * n) 32) at)
    ∙ ap (λ (n : ℕ). entry_text (bytes_at image (table + 16 + 44 * position_in (slice_get nodes child)) 32) (To n)) is

-- the entries so far, and one behind them
pub entries_then : (first middle last : Option (List ℕ)) (image entry : List ℕ) (table i child : ℕ) (nodes : List NodePlace) (headers xs : List ℕ) → i < length xs → child ≡ get_or xs i 0
    → middle ≡ with_more first (copied_entries image table nodes headers (take i xs)) → last ≡ with_more middle entry → entry ≡ copied_entry image table nodes headers child
    → last ≡ with_more first (copied_entries image table nodes headers (take (i + 1) xs))
entries_then first middle last image entry table i child nodes headers xs lt at before after is =
    after ∙ ap (with_more middle) (is ∙ ap (copied_entry image table nodes headers) at)
    ∙ ap (λ (b : Option (List ℕ)). with_more b (copied_entry image table nodes headers (get_or xs i 0))) before
    ∙ more_then first (copied_entries image table nodes headers (take i xs)) (copied_entry image table nodes headers (get_or xs i 0))
    ∙ ap (with_more first) (sym (entries_more image table nodes headers xs i lt))

pub entry_size : (name : List ℕ) (v : ℕ) → length name ≡ 32 → length (entry_text name (To v)) ≡ 44
entry_size name v long = length-append name (pointer_text (To v)) ∙ ap (λ n. n + length (pointer_text (To v))) long ∙ ap (λ n. 32 + n) (length-pointer_text (To v))
