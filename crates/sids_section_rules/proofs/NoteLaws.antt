-- Notes of the sections of a zone tell of each whether its range meets that of an earlier one.
use Rattle.std.proofs.Common.{◌≡◌, ◌∙◌, sym, ap, subst, refl, cond, arith, ℕ, ◌+◌, ◌<◌, ℤ, pos, negsuc, Bool, true, false, List, [], ◌∷◌, ◌++◌, length, take, drop, get_or}
use Rattle.std.specs.Prelude.{◌&&◌, ◌||◌, ◌==◌, not, nat_le, nat_lt, int_le, unsigned_abs, if◌then◌else◌, filter_map, map, take_while, Option, Some, None, option_map, IfSome}
use Rattle.std.specs.List.{list_any, cons_option, AllByRecursion}
use Rattle.std.specs.Option.{option_to_list}
use Rattle.std.proofs.lemmas.Bool.{eqb-true, eq-eqb}
use Rattle.std.proofs.lemmas.Bool.Decides.{nat_tests}
use Rattle.std.proofs.lemmas.List.{append-nil, at_drop_more, take_more}
use Rattle.std.proofs.lemmas.List.Folds.{list_any-append}
use Rattle.std.proofs.lemmas.List.Sums.{take_while-cons}
use Rattle.adf_model.specs.declared.tree.Child.{Child}
use Rattle.adf_model.specs.declared.tree.NodeId.{NodeId}
use Rattle.adf_model.specs.Slots.{Files}
use Rattle.adf_model.proofs.Basics.{not_true, not_there, same_Some}
use Rattle.element_ranges.specs.declared.overlaps.OverlapNotes.{OverlapNotes}
use Rattle.element_ranges.specs.declared.union.Span.{Span}
use Rattle.element_ranges.specs.Ranges.{touches}
use Rattle.element_ranges.specs.Notes.{first_of, note_of, ranges_of as spans_of}
use Rattle.sids_tables.specs.declared.labels.LabelKind.TheVariants.{Elements}
use Rattle.sids_tables.specs.contracts.labels.LabelKindPartialEq.TheImpl as kind_eq
use Rattle.sids_views.specs.declared.child.SeenChild.{SeenChild}
use Rattle.sids_views.specs.Views.{is_same_node, given, node_there, target_of, kind_there, entry_of, seen_child, children_there, of_kind}
use Rattle.sids_views.proofs.Gathered.{gathered_more}
use Rattle.sids_rules.specs.Terms.{Range, is_range, if_passes, section_range, good_range}
use Rattle.sids_rules.specs.Rules.{meets, ranges_of}
use Rattle.sids_section_rules.specs.Noted.{good_section, note_in, note_there, span_of_good, touched, noted_more}
use Rattle.sids_section_rules.specs.SectionTests.{overlaps}

-- ---- ranges that meet

and_false : (b : Bool) → (b && false) ≡ false
and_false true = refl
and_false false = refl

or_false : (b : Bool) → (b || false) ≡ b
or_false true = refl
or_false false = refl

in_order : (a b c d : ℕ) → (nat_le 1 a && nat_le a b) ≡ true → (nat_le 1 c && nat_le c d) ≡ true → (t u : Bool) → nat_lt c a ≡ t → nat_lt d b ≡ u
    → (nat_le c b && nat_le a d) ≡ int_le (cond t (pos a) (pos c)) (cond u (pos d) (pos b))
in_order a b c d good other true true t u = grind (arith, nat_tests)
in_order a b c d good other true false t u = grind (arith, nat_tests)
in_order a b c d good other false true t u = grind (arith, nat_tests)
in_order a b c d good other false false t u = grind (arith, nat_tests)

spans_meet : (a b c d : ℤ) → is_range (record { start = a; end = b }) ≡ true → is_range (record { start = c; end = d }) ≡ true
    → touches (unsigned_abs a) (unsigned_abs b) (span_of_good (record { start = c; end = d })) ≡ meets (record { start = a; end = b }) (record { start = c; end = d })
spans_meet (pos a) (pos b) (pos c) (pos d) good other = in_order a b c d good other (nat_lt c a) (nat_lt d b) refl refl
spans_meet (negsuc a) b c d good other = absurd (not_true good)
spans_meet (pos a) (negsuc b) c d good other = absurd (not_true (sym (and_false (nat_le 1 a)) ∙ good))
spans_meet (pos a) (pos b) (negsuc c) d good other = absurd (not_true other)
spans_meet (pos a) (pos b) (pos c) (negsuc d) good other = absurd (not_true (sym (and_false (nat_le 1 c)) ∙ other))

-- ---- good ranges

abbrev pub IsGood : Option Range → Type 0
IsGood o = IfSome o (λ range. is_range range ≡ true)

if_good : (b : Bool) (range : Range) → is_range range ≡ b → IsGood (if b then Some range else None)
if_good true range e = e
if_good false range e = tt

good_passes : (o : Option Range) → IsGood (if_passes is_range o)
good_passes None = tt
good_passes (Some range) = if_good (is_range range) range refl

section_good : (files : Files) (child : SeenChild) → IsGood (good_section files child)
section_good files child = by (kind_eq.ghosts.eq child.kind Elements)
  where
    by : (b : Bool) → IsGood (if b then good_range files child.target else None)
    by true = good_passes (section_range files child.target)
    by false = tt

met_alike : (o : Option Range) (range : Range) → is_range range ≡ true → IsGood o
    → given o (λ other. touches (unsigned_abs range.start) (unsigned_abs range.end) (span_of_good other)) ≡ given o (meets range)
met_alike None range good is = refl
met_alike (Some other) range good is = spans_meet range.start range.end other.start other.end good is

-- ---- one range behind others

or_comm : (a b : Bool) → (a || b) ≡ (b || a)
or_comm true true = refl
or_comm true false = refl
or_comm false true = refl
or_comm false false = refl

any_option : (p : Range → Bool) (o : Option Range) → list_any p (option_to_list o) ≡ given o p
any_option p None = refl
any_option p (Some range) = or_false (p range)

any_more : (p : Range → Bool) (before : List Range) (o : Option Range) → (given o p || list_any p before) ≡ list_any p (before ++ option_to_list o)
any_more p before o =
    or_comm (given o p) (list_any p before) ∙ ap (λ b. list_any p before || b) (sym (any_option p o)) ∙ sym (list_any-append p before (option_to_list o))

any_first : (p : Range → Bool) (o : Option Range) (others : List Range) → list_any p (cons_option o others) ≡ (given o p || list_any p others)
any_first p None others = refl
any_first p (Some range) others = refl

-- ---- notes

first_assoc : (a b c : Option Bool) → first_of (first_of a b) c ≡ first_of a (first_of b c)
first_assoc None b c = refl
first_assoc (Some a) b c = refl

first_alone : (a : Option Bool) → first_of a None ≡ a
first_alone None = refl
first_alone (Some a) = refl

abbrev none_if : Bool → Option Bool
none_if b = if b then None else None

no_key : (b : Bool) → none_if b ≡ None
no_key true = refl
no_key false = refl

-- no range adds no note
pub nothing_noted : (o : Option Bool) (b : Bool) → o ≡ first_of o (none_if b)
nothing_noted o b = sym (ap (first_of o) (no_key b) ∙ first_alone o)

-- the notes of the children so far, with those that are left
pub record SoFar (files : Files) (notes : OverlapNotes) (done left all : List SeenChild) : Type 0 where
  pub spans : (range : Range) → is_range range ≡ true → touched (spans_of notes) range ≡ list_any (meets range) (filter_map (good_section files) done)
  pub known : (q : ℕ) → first_of (note_of notes q) (note_in files left (filter_map (good_section files) done) q) ≡ note_in files all [] q

pub begins : (files : Files) (notes : OverlapNotes) (all : List SeenChild) → ((q : ℕ) → note_of notes q ≡ None) → spans_of notes ≡ [] → SoFar files notes [] all all
begins files notes all none no_spans = record {
  spans = λ range good. ap (λ ss. touched ss range) no_spans;
  known = λ q. ap (λ o. first_of o (note_in files all [] q)) (none q);
}

module _ (files : Files) (before after : OverlapNotes) (child : SeenChild) (o : Option Range) (is : o ≡ good_section files child)
    (noted : (q : ℕ) → note_of after q ≡ noted_more before child.node.serial o q)
    (ranges : (first last : ℕ) → list_any (touches first last) (spans_of after) ≡ (given o (λ range. touches first last (span_of_good range)) || list_any (touches first last) (spans_of before))) where
  good : IsGood o
  good = subst IsGood (sym is) (section_good files child)

  mapped : (earlier : List Range) → ((range : Range) → is_range range ≡ true → touched (spans_of before) range ≡ list_any (meets range) earlier)
      → (x : Option Range) → IsGood x → option_map (touched (spans_of before)) x ≡ option_map (λ range. list_any (meets range) earlier) x
  mapped earlier so None h = refl
  mapped earlier so (Some range) h = ap (λ b. Some b) (so range h)

  more : (done left all : List SeenChild) → SoFar files before done (child ∷ left) all → SoFar files after (done ++ child ∷ []) left all
  more done left all so =
      let earlier = filter_map (good_section files) done in
      let gathered : earlier ++ option_to_list o ≡ filter_map (good_section files) (done ++ child ∷ []) = gathered_more (good_section files) done child earlier o refl is in
      record {
        spans = λ range h.
            ranges (unsigned_abs range.start) (unsigned_abs range.end)
            ∙ ap (λ b. b || touched (spans_of before) range) (met_alike o range h good)
            ∙ ap (λ b. given o (meets range) || b) (so.spans range h)
            ∙ any_more (meets range) earlier o
            ∙ ap (list_any (meets range)) gathered;
        known = λ q.
            let own : Option Bool = if child.node.serial == q then option_map (touched (spans_of before)) o else None in
            let wanted : Option Bool = if child.node.serial == q then option_map (λ range. list_any (meets range) earlier) (good_section files child) else None in
            let same : own ≡ wanted = ap (λ x. if child.node.serial == q then x else None) (mapped earlier so.spans o good ∙ ap (option_map (λ range. list_any (meets range) earlier)) is) in
            ap (λ x. first_of x (note_in files left (filter_map (good_section files) (done ++ child ∷ [])) q)) (noted q)
            ∙ first_assoc (note_of before q) own (note_in files left (filter_map (good_section files) (done ++ child ∷ [])) q)
            ∙ ap (λ x. first_of (note_of before q) (first_of x (note_in files left (filter_map (good_section files) (done ++ child ∷ [])) q))) same
            ∙ ap (λ rs. first_of (note_of before q) (first_of wanted (note_in files left rs q))) (sym gathered ∙ ap (λ x. earlier ++ option_to_list x) is)
            ∙ so.known q;
      }

  -- the same by the place of a child
  pub goes_on : (all : List SeenChild) (k : ℕ) → k < length all → child ≡ get_or all k child → SoFar files before (take k all) (drop k all) all → SoFar files after (take (k + 1) all) (drop (k + 1) all) all
  goes_on all k lt at so =
      subst (λ done. SoFar files after done (drop (k + 1) all) all) (sym (take_more all k child lt ∙ ap (λ x. take k all ++ x ∷ []) (sym at)))
      (more (take k all) (drop (k + 1) all) all
      (subst (λ left. SoFar files before (take k all) left all) (at_drop_more (λ (xs : List SeenChild). xs) all k child lt ∙ ap (λ x. x ∷ drop (k + 1) all) (sym at)) so))

pub ends : (files : Files) (notes : OverlapNotes) (done all : List SeenChild) → SoFar files notes done [] all → (q : ℕ) → note_of notes q ≡ note_in files all [] q
ends files notes done all so q = sym (first_alone (note_of notes q)) ∙ so.known q

-- ---- the note of a section

pub record IsOwn (files : Files) (file : ℕ) (child : SeenChild) : Type 0 where
  pub within : child.node.file ≡ file
  pub target : target_of files child.node ≡ Some child.target

own_child : (files : Files) (file : ℕ) (entry : Child) → entry.node.file ≡ file → (rest : List SeenChild) → AllByRecursion (IsOwn files file) rest → (o : Option NodeId) → target_of files entry.node ≡ o
    → AllByRecursion (IsOwn files file) (cons_option (option_map (λ target. record { node = entry.node; name = entry.name; target = target; kind = kind_there files target }) o) rest)
own_child files file entry within rest h None e = h
own_child files file entry within rest h (Some at) e = (record { within = within; target = e }, h)

own_from : (files : Files) (file : ℕ) (serials : List ℕ) → AllByRecursion (IsOwn files file) (filter_map (seen_child files) (map (entry_of files file) serials))
own_from files file [] = tt
own_from files file (serial ∷ serials) =
    let entry = entry_of files file serial in
    own_child files file entry refl _ (own_from files file serials) (target_of files entry.node) refl

given_alike : (o : Option Range) (p q : Range → Bool) → ((range : Range) → p range ≡ q range) → given o p ≡ given o q
given_alike None p q h = refl
given_alike (Some range) p q h = h range

shuffle : (a g e : Bool) → (a || (g || e)) ≡ ((g || a) || e)
shuffle true true e = refl
shuffle true false e = refl
shuffle false true e = refl
shuffle false false e = refl

module _ (files : Files) (node at : NodeId) (there : target_of files node ≡ Some at) where
  abbrev is_before : SeenChild → Bool
  is_before child = not (is_same_node child.node node)

  abbrev met_in : List SeenChild → List Range → Range → Bool
  met_in sections earlier range = list_any (meets range) (ranges_of files (take_while is_before sections)) || list_any (meets range) earlier

  abbrev Tells : List SeenChild → List Range → Type 0
  Tells children earlier = (known : Bool) → note_in files children earlier node.serial ≡ Some known → known ≡ given (good_range files at) (met_in (of_kind Elements children) earlier)

  abbrev note_with : Bool → Option Range → List SeenChild → List Range → Option Bool
  note_with s o children earlier = first_of (if s then option_map (λ range. list_any (meets range) earlier) o else None) (note_in files children (earlier ++ option_to_list o) node.serial)

  passed : (s : Bool) (children : List SeenChild) (earlier : List Range) → note_with s None children earlier ≡ note_in files children earlier node.serial
  passed s children earlier =
      ap (λ o. first_of o (note_in files children (earlier ++ []) node.serial)) (no_key s) ∙ ap (λ es. note_in files children es node.serial) (append-nil earlier)

  here : (child : SeenChild) (children : List SeenChild) (earlier : List Range) → is_same_node child.node node ≡ true → Tells children earlier
      → (o : Option Range) → good_range files at ≡ o → (known : Bool) → note_with true o children earlier ≡ Some known → known ≡ given o (met_in (child ∷ of_kind Elements children) earlier)
  here child children earlier same rest None is known h =
      rest known (sym (passed true children earlier) ∙ h) ∙ ap (λ o. given o (met_in (of_kind Elements children) earlier)) is
  here child children earlier same rest (Some range) is known h =
      let sections = of_kind Elements children in
      let stops : take_while is_before (child ∷ sections) ≡ [] = take_while-cons is_before child sections ∙ ap (λ b. cond (not b) (child ∷ take_while is_before sections) []) same in
      sym (same_Some (list_any (meets range) earlier) known h) ∙ sym (ap (λ ss. list_any (meets range) (ranges_of files ss) || list_any (meets range) earlier) stops)

  behind : (child : SeenChild) (children : List SeenChild) (earlier : List Range) → is_same_node child.node node ≡ false
      → Tells children (earlier ++ option_to_list (good_range files child.target)) → (known : Bool) → note_with false (good_range files child.target) children earlier ≡ Some known
      → known ≡ given (good_range files at) (met_in (child ∷ of_kind Elements children) earlier)
  behind child children earlier other rest known h =
      let sections = of_kind Elements children in
      let o = good_range files child.target in
      let goes : take_while is_before (child ∷ sections) ≡ child ∷ take_while is_before sections = take_while-cons is_before child sections ∙ ap (λ b. cond (not b) (child ∷ take_while is_before sections) []) other in
      rest known h
      ∙ given_alike (good_range files at) (met_in sections (earlier ++ option_to_list o)) (met_in (child ∷ sections) earlier) (λ range.
      let before = list_any (meets range) (ranges_of files (take_while is_before sections)) in
      ap (λ b. before || b) (sym (any_more (meets range) earlier o))
      ∙ shuffle before (given o (meets range)) (list_any (meets range) earlier)
      ∙ ap (λ b. b || list_any (meets range) earlier) (sym (any_first (meets range) o (ranges_of files (take_while is_before sections))))
      ∙ sym (ap (λ ss. list_any (meets range) (ranges_of files ss) || list_any (meets range) earlier) goes))

  same_target : (child : SeenChild) → IsOwn files node.file child → child.node.serial ≡ node.serial → child.target ≡ at
  same_target child own e =
      let with_file : ℕ → NodeId = λ f. record { file = f; serial = child.node.serial } in
      let with_serial : ℕ → NodeId = λ s. record { file = node.file; serial = s } in
      let same : child.node ≡ node = ap with_file own.within ∙ ap with_serial e in
      same_Some child.target at (sym own.target ∙ ap (target_of files) same ∙ there)

  first : (child : SeenChild) (children : List SeenChild) → IsOwn files node.file child → (earlier : List Range) → ((earlier : List Range) → Tells children earlier)
      → (k s : Bool) → (child.node.serial == node.serial) ≡ s → (known : Bool) → note_with s (if k then good_range files child.target else None) children earlier ≡ Some known
      → known ≡ given (good_range files at) (met_in (if k then child ∷ of_kind Elements children else of_kind Elements children) earlier)
  first child children own earlier rest false s e known h = rest earlier known (sym (passed s children earlier) ∙ h)
  first child children own earlier rest true true e known h =
      let target = same_target child own (eqb-true child.node.serial node.serial e) in
      let same : is_same_node child.node node ≡ true = ap (λ b. b && (child.node.serial == node.serial)) (eq-eqb child.node.file node.file own.within) ∙ e in
      here child children earlier same (rest earlier) (good_range files at) refl known
      (sym (ap (λ t. note_with true (good_range files t) children earlier) target) ∙ h)
  first child children own earlier rest true false e known h =
      let other : is_same_node child.node node ≡ false = ap (λ b. (child.node.file == node.file) && b) e ∙ and_false (child.node.file == node.file) in
      behind child children earlier other (rest (earlier ++ option_to_list (good_range files child.target))) known h

  tells : (children : List SeenChild) → AllByRecursion (IsOwn files node.file) children → (earlier : List Range) → Tells children earlier
  tells [] own earlier known h = absurd (not_there known h)
  tells (child ∷ children) own earlier known h =
      first child children own.0 earlier (tells children own.1) (kind_eq.ghosts.eq child.kind Elements) (child.node.serial == node.serial) refl known h

  -- what is noted of a child of a zone is K30 on it
  pub known_is : (zone : NodeId) → node.file ≡ zone.file → (known : Bool) → note_there files zone node.serial ≡ Some known → known ≡ overlaps files (Some zone) zone node (good_range files at)
  known_is zone within known h =
      let own = subst (λ f. AllByRecursion (IsOwn files f) (children_there files zone)) (sym within) (own_from files zone.file (node_there files zone).children) in
      let same : is_same_node zone zone ≡ true = ap (λ b. b && (zone.serial == zone.serial)) (eq-eqb zone.file zone.file refl) ∙ eq-eqb zone.serial zone.serial refl in
      let met = met_in (of_kind Elements (children_there files zone)) [] in
      let alone : Range → Bool = λ range. list_any (meets range) (ranges_of files (take_while is_before (of_kind Elements (children_there files zone)))) in
      tells (children_there files zone) own [] known h
      ∙ given_alike (good_range files at) met alone (λ range. or_false (alone range))
      ∙ sym (ap (λ b. b && given (good_range files at) alone) same)
