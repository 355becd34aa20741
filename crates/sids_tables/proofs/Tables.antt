-- A search over a table, and what it says of the whole table.
use Rattle.std.proofs.Common.{◌≡◌, ◌≢◌, ◌∙◌, sym, ap, subst, refl, rules, ℕ, Bool, true, false, not, ◌||◌, ◌&&◌, if◌then◌else◌, ◌↔◌, inl, inr, List, [], ◌∷◌, ◌++◌, map, Contains, Decides}
use Rattle.std.specs.List.{list_any}
use Rattle.std.specs.Str.{bytes_eq}
use Rattle.std.proofs.Math.Bool.{and-false}
use Rattle.std.proofs.lemmas.List.Elements.{Decides-contains, Contains-append_right, Contains-append_cases}
use Rattle.std.proofs.lemmas.Bool.Decides.{Decides-at, Decides-by_or, Decides-not, not_from_Decides}
use Rattle.std.proofs.lemmas.Slice.Eq.{bytes_eq-Decides}
use Rattle.sids_tables.specs.declared.labels.LabelKind.{LabelKind}
use Rattle.sids_tables.specs.declared.labels.LabelKind.TheVariants.{Root, Other}
use Rattle.sids_tables.specs.contracts.labels.LabelKindPartialEq.TheImpl as kind_eq
use Rattle.sids_tables.specs.Labels.{profile_labels, kind_in}

-- a search for an item finds it exactly where it is listed
pub listed : {X : Type 0} (test : X → Bool) (xs : List X) (x : X) → ((y : X) → Decides (test y) (y ≡ x)) → Decides (list_any test xs) (Contains xs x)
listed test xs x each = Decides-contains xs x _ (Decides-by_or test (λ y. y ≡ x) (list_any test) each refl (λ _ _. refl) xs)

list_any-map : {X Y : Type 0} (test : Y → Bool) (view : X → Y) (xs : List X) → list_any (λ x. test (view x)) xs ≡ list_any test (map view xs)
list_any-map test view [] = refl
list_any-map test view (x ∷ xs) = ap (λ b. test (view x) || b) (list_any-map test view xs)

-- a search for a text by the texts of the entries
pub listed_text : {X : Type 0} (text_of : X → List ℕ) (entries : List X) (text : List ℕ)
    → Decides (list_any (λ entry. bytes_eq (text_of entry) text) entries) (Contains (map text_of entries) text)
listed_text text_of entries text =
    let test : List ℕ → Bool = λ other. bytes_eq other text in
    Decides-at _ _ (list_any-map test text_of entries) (listed test (map text_of entries) text (λ other. bytes_eq-Decides other text))

-- what is not in the first list is in both together exactly where it is in the second
pub listed_behind : {X : Type 0} (xs ys both : List X) (x : X) (r : Bool) → xs ++ ys ≡ both → ¬ Contains xs x → Decides r (Contains ys x) → Decides r (Contains both x)
listed_behind xs ys both x r joined none second =
    subst (λ all. Decides r (Contains all x)) joined
    (λ h. Contains-append_right xs ys x (second.0 h), λ h. elim (Contains-append_cases xs ys x h) [ inl p ↦ absurd (none p) | inr q ↦ second.1 q ])

-- two kinds are the same exactly where they compare equal
pub same_kind : (y x : LabelKind) → Decides (kind_eq.ghosts.eq y x) (y ≡ x)
same_kind y x = (λ h. search rules, λ e. search rules)

-- a kind that no entry has is given to no label, but for the kind of those that are not listed
unlisted_kind : (k : LabelKind) (table : List (List ℕ × LabelKind)) (label : List ℕ) → list_any (λ entry. kind_eq.ghosts.eq entry.1 k) table ≡ false
    → kind_eq.ghosts.eq (kind_in table label) k ≡ (kind_eq.ghosts.eq Other k && not (list_any (λ entry. bytes_eq entry.0 label) table))
unlisted_kind k [] label none = search rules
unlisted_kind k (entry ∷ table) label none =
    elim (bytes_eq entry.0 label) as (λ b. kind_eq.ghosts.eq (if b then entry.1 else kind_in table label) k ≡ (kind_eq.ghosts.eq Other k && not (b || list_any (λ entry. bytes_eq entry.0 label) table))) [
      | true ↦ search (rules, and-false)
      | false ↦ unlisted_kind k table label (search rules)
    ]

pub kind_in-never_root : (label : List ℕ) → kind_in profile_labels label ≢ Root
unfolding profile_labels
kind_in-never_root label = not_from_Decides _ (same_kind (kind_in profile_labels label) Root) (unlisted_kind Root profile_labels label refl)

pub kind_in-outside : (label : List ℕ) → (kind_in profile_labels label ≡ Other) ↔ (¬ Contains (map (λ entry. entry.0) profile_labels) label)
unfolding profile_labels
kind_in-outside label =
    let told = unlisted_kind Other profile_labels label refl in
    let same = same_kind (kind_in profile_labels label) Other in
    let unlisted = Decides-not _ (listed_text (λ (entry : List ℕ × LabelKind). entry.0) profile_labels label) in
    (λ e. unlisted.0 (sym told ∙ same.1 e), λ h. same.0 (told ∙ unlisted.1 h))
