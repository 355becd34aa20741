-- The children of a node, by the entries of its table, piece by piece.
use Rattle.std.proofs.Common.{◌≡◌, inl, inr, ℕ, zero, suc, refl, sym, ◌∙◌, ap, subst, arith, List, [], ◌∷◌, ◌++◌, length, take, drop, map, get_or, ◌+◌, ◌-◌, ◌*◌, ◌/◌, ◌%◌, min, ◌≤◌, ◌<◌, true, false, Option, None, Some, length-take, length-drop}
use Rattle.std.proofs.lemmas.Bool.{cases_lt}
use Rattle.std.proofs.lemmas.List.{get_or-take, get_or-drop, length_push, length-map}
use Rattle.std.proofs.lemmas.Option.{slice_get_within, slice_get-get_or, slice_get-map}
use Rattle.std.specs.Prelude.{Ok, Bool, cond, ◌&&◌, is_some, slice_get, option_map}
use Rattle.adf_format.specs.declared.fields.TheConstants.{ENTRY_NAME, ENTRY_CHILD}
use Rattle.adf_format.specs.Fields.{field, text_field, trimmed}
use Rattle.adf_format.specs.FirstFault.{is_name_field}
use Rattle.adf_format.specs.Pointer.{is_place, place_of}
use Rattle.adf_format.specs.RecordFields.{field_in}
use Rattle.adf_format.specs.Tree.{Tree, name_of, name_at}
use Rattle.adf_format.specs.Placement.{Placement}
use Rattle.adf_format.proofs.FieldLaws.{inner_field}
use Rattle.adf_model.specs.declared.error.AdfError.{AdfError}
use Rattle.adf_model.specs.declared.error.AdfError.TheVariants as error
use Rattle.adf_model.specs.declared.tree.Child.{Child}
use Rattle.adf_model.specs.declared.tree.NodeId.{NodeId}
use Rattle.adf_model.specs.declared.tree.Query.{Query}
use Rattle.adf_model.specs.declared.tree.Reply.{Reply}
use Rattle.adf_model.specs.Answers.{child_entry, field_within}
use Rattle.adf_model.proofs.Basics.{same_Some}
use Rattle.cg_io.specs.Blocks.{blocks_of, ReadsFew}
use Rattle.cg_io.specs.Device.{DeviceState, GivesAt}
use Rattle.cg_io.proofs.PieceLaws.{read_whole}
use Rattle.cg_io.proofs.Places.{get_or-bytes_at}
use Rattle.cg_io.proofs.ReadLaws.{rose_later, reads_then}
use Rattle.layout_laws.proofs.NodeRead.{name_again}
use Rattle.node_reads.specs.declared.header.ChildTable.{ChildTable}
use Rattle.node_reads.specs.Entries.{child_said, pieces_of}
use Rattle.node_reads.specs.Reads.{ReadAt, IsUnread}
use Rattle.node_reads.proofs.EntryLaws.{piece_cost}
use Rattle.node_reads.proofs.ReadLaws.{read_is_field}
use Rattle.tree_edits.specs.declared.memory.Core.{Core}
use Rattle.tree_edits.specs.declared.rows.Row.{Row}
use Rattle.tree_edits.specs.Rows.{Means, row_of}
use Rattle.tree_edits.specs.Edits.{memory_of}
use Rattle.tree_edits.specs.Listed.{NamesTable, TableBreaks, IsTableOf, ReadsTable}
use Rattle.tree_edits.proofs.Nodes.{the_node}
use Rattle.tree_asks.specs.Entries.{SaysChild, SaysNoChild, AddsChildren, PieceFails, AreChildren, EntryFails, AreUnlisted}
use Rattle.tree_asks.specs.Hints.{is_placed}
use Rattle.tree_asks.specs.Told.{OfEach, Tells, IsFree}
use Rattle.tree_asks.specs.Causes.{IsChildrenCause}
use Rattle.tree_asks.proofs.Answered.{within_is}
use Rattle.tree_asks.proofs.Named.{entry, entry_child, entry_said, one_placed, serial_is, count_is, fits}

-- ---- lists

get_before : {A : Type 0} (xs ys : List A) (i : ℕ) → i < length xs → slice_get (xs ++ ys) i ≡ slice_get xs i
get_before [] ys i lt = absurd (omega (arith, lt))
get_before (x ∷ xs) ys zero lt = refl
get_before (x ∷ xs) ys (suc i) lt = get_before xs ys i (omega (arith, lt))

get_last : {A : Type 0} (xs : List A) (x : A) → slice_get (xs ++ x ∷ []) (length xs) ≡ Some x
get_last [] x = refl
get_last (y ∷ xs) x = get_last xs x

-- lists of one length with the same at each index are one
same_gets : {A : Type 0} (xs ys : List A) → length xs ≡ length ys → ((i : ℕ) (x y : A) → slice_get xs i ≡ Some x → slice_get ys i ≡ Some y → x ≡ y) → xs ≡ ys
same_gets [] [] long same = refl
same_gets [] (y ∷ ys) long same = absurd (omega (arith, long))
same_gets (x ∷ xs) [] long same = absurd (omega (arith, long))
same_gets (x ∷ xs) (y ∷ ys) long same = ap (λ z. z ∷ xs) (same 0 x y refl refl) ∙ ap (λ zs. y ∷ zs) (same_gets xs ys (omega (arith, long)) (λ i v w. same (suc i) v w))

-- ---- a piece

-- a part of what was read is what stands at its place
pub part_given : (held : Option (List ℕ)) (p n j m : ℕ) (piece : List ℕ) → n ≤ length piece → j + m ≤ n → GivesAt held p (take n piece) → GivesAt held (p + j) (field piece j m)
part_given None p n j m piece long within gives = tt
part_given (Some image) p n j m piece long within gives = read_whole (Some image) (p + j) (field piece j m) (λ k lt.
    let small : k < m = omega (arith, lt, length-take m (drop j piece)) in
    let all : j + k < length (take n piece) = omega (arith, small, within, long, length-take n piece) in
    get_or-take m (drop j piece) k 0 small
    ∙ get_or-drop j piece k 0
    ∙ sym (get_or-take n piece (j + k) 0 (omega (arith, small, within)))
    ∙ ap (λ (l : List ℕ). get_or l (j + k) 0) gives
    ∙ get_or-bytes_at image p (length (take n piece)) (j + k) all
    ∙ ap (λ i. get_or image i 0) (omega arith))

module _ (core : Core) (number : ℕ) (piece : List ℕ) where
  pub says_some : (said : Option (List ℕ × ℕ)) (child : Child) → SaysChild core number said child → is_some said ≡ true
  says_some None child says = absurd says
  says_some (Some v) child says = refl

  pub adds_none : (old : List Child) → AddsChildren core number piece 0 old old
  adds_none old = record { more = omega arith; before = λ i lt. refl; added = λ i child lt e. absurd (omega (arith, lt)) }

  pub adds_one : (n : ℕ) (old mid : List Child) (x : Child) → AddsChildren core number piece n old mid → SaysChild core number (child_said (field piece (44 * n) 44)) x → AddsChildren core number piece (n + 1) old (mid ++ x ∷ [])
  adds_one n old mid x a says = record {
    more = let more = a.more in omega (arith, more, length_push mid x);
    before = λ i lt. get_before mid (x ∷ []) i (let more = a.more in omega (arith, lt, more)) ∙ a.before i lt;
    added = λ i child lt e. elim (cases_lt i n) [
      | inl less ↦ a.added i child less (sym (get_before mid (x ∷ []) (length old + i) (let more = a.more in omega (arith, less, more))) ∙ e)
      | inr high ↦
          let same : i ≡ n = omega (arith, lt, high) in
          let more = a.more in
          let at : slice_get (mid ++ x ∷ []) (length old + i) ≡ Some x = ap (slice_get (mid ++ x ∷ [])) (omega (arith, same, more)) ∙ get_last mid x in
          let is : x ≡ child = same_Some x child (sym at ∙ e) in
          subst (λ k. SaysChild core number (child_said (field piece (44 * k) 44)) child) (sym same) (subst (λ c. SaysChild core number (child_said (field piece (44 * n) 44)) c) is says)
    ];
  }

module _ (core : Core) (held : Option (List ℕ)) (table : ChildTable) (from n : ℕ) (piece : List ℕ) (long : 44 * n ≤ length piece) (gives : GivesAt held (table.place + 16 + 44 * from) (take (44 * n) piece)) where
  -- an entry of the piece is one of the table
  piece_read : (j : ℕ) (P : List ℕ → Type 0) → j < n → P (field piece (44 * j) 44) → ReadAt held (table.place + 16 + 44 * (from + j)) 44 P
  piece_read j P lt says = subst (λ k. ReadAt held k 44 P) (omega arith) (record {
    bytes = field piece (44 * j) 44;
    long = omega (arith, lt, long, length-take 44 (drop (44 * j) piece), length-drop (44 * j) piece);
    given = part_given held (table.place + 16 + 44 * from) (44 * n) (44 * j) 44 piece long (omega (arith, lt)) gives;
    says = says;
  })

  pub more_children : (number : ℕ) (old new : List Child) → AreChildren core held number table from old → AddsChildren core number piece n old new → AreChildren core held number table (from + n) new
  more_children number old new are a = record {
    all = let more = a.more in let all = are.all in omega (arith, more, all);
    each = λ i child e. elim (cases_lt i from) [
      | inl less ↦ are.each i child (sym (a.before i (let all = are.all in omega (arith, less, all))) ∙ e)
      | inr high ↦
          let all = are.all in
          let more = a.more in
          let within = slice_get_within new i child e in
          let lt : i - from < n = omega (arith, high, within, all, more) in
          let at : slice_get new (length old + (i - from)) ≡ Some child = ap (slice_get new) (omega (arith, high, all)) ∙ e in
          subst (λ k. ReadAt held (table.place + 16 + 44 * k) 44 (λ entry. SaysChild core number (child_said entry) child)) (omega (arith, high)) (piece_read (i - from) _ lt (a.added (i - from) child lt at))
    ];
  }

  pub fails_in : (at : ℕ) (e : AdfError) → at ≡ table.place + 16 + 44 * from → from + n ≤ table.count → PieceFails core piece n at e → EntryFails core held table e
  fails_in at e here all f =
      let lt = f.within in
      let place : at + 44 * f.position ≡ table.place + 16 + 44 * (from + f.position) = omega (arith, here) in
      record {
        position = from + f.position;
        within = omega (arith, lt, all);
        says = piece_read f.position _ lt (subst (λ k. SaysNoChild core k e (child_said (field piece (44 * f.position) 44))) place f.says);
      }

-- what is read of one piece more counts as a piece of the whole table
pub last_cost : (p from long count : ℕ) → from % 93 ≡ 0 → from < count → long ≡ 4092 → 2 * pieces_of from + blocks_of p (44 * min (count - from) (long / 44)) ≤ 2 * pieces_of count
last_cost p from long count edge lt is =
    let n = min (count - from) (long / 44) in
    let cost = piece_cost p from n n long count edge lt is refl refl in
    let fits : from + n ≤ count = omega (arith, is, lt) in
    omega (arith, cost, fits)

pub listed_cause : (core : Core) (held : Option (List ℕ)) (table : ChildTable) (before after : ℕ) (e : AdfError) → EntryFails core held table e → AreUnlisted core held table before after e
listed_cause core held table before after error.ReadFault f = absurd f.says.says
listed_cause core held table before after other f = f

-- ---- what is told

said_name : (bytes : List ℕ) (v : List ℕ × ℕ) → child_said bytes ≡ Some v → field_in bytes ENTRY_NAME ≡ v.0
said_name bytes v e = by_test (is_name_field (field_in bytes ENTRY_NAME) && is_place (field_in bytes ENTRY_CHILD)) e
  where
    by_test : (b : Bool) → cond b (Some (field_in bytes ENTRY_NAME, place_of (field_in bytes ENTRY_CHILD))) None ≡ Some v → field_in bytes ENTRY_NAME ≡ v.0
    by_test true e = ap (λ (w : List ℕ × ℕ). w.0) (same_Some (field_in bytes ENTRY_NAME, place_of (field_in bytes ENTRY_CHILD)) v e)
    by_test false e = cc

abbrev make : ℕ → ℕ → List ℕ → Child
make number serial name = record { node = record { file = number; serial = serial }; name = name }

child_is : (x : Child) (number c : ℕ) (t : List ℕ) → x.node.serial ≡ c → x.node.file ≡ number → x.name ≡ t → x ≡ make number c t
child_is x number c t e f g = ap (λ s. make x.node.file s x.name) e ∙ ap (λ k. make k c x.name) f ∙ ap (make number c) g

module _ (image : List ℕ) (core : Core) (tree : Tree) (p : Placement) (m : Means image tree p (memory_of core)) (parent : ℕ) (row : Row) (found : row_of core.rows.items parent ≡ Some row) (table : ChildTable) (n : NamesTable core.wide (Some image) row.place table) where
  abbrev kids : List ℕ
  kids = (the_node image (memory_of core) parent row found tree p m).node.children

  -- the child that is answered of an entry is the one in the table
  one_child : (number i c : ℕ) (x : Child) → slice_get kids i ≡ Some c → ReadAt (Some image) (table.place + 16 + 44 * i) 44 (λ entry. SaysChild core number (child_said entry) x) → x ≡ child_entry tree number c
  one_child number i c x listed r = by_said (child_said r.bytes) refl r.says
    where
      by_said : (o : Option (List ℕ × ℕ)) → child_said r.bytes ≡ o → SaysChild core number o x → x ≡ child_entry tree number c
      by_said None e says = absurd says
      by_said (Some v) e says =
          let its = entry image core tree p m parent row found table n i c listed in
          let again : ReadAt (Some image) (table.place + 16 + 44 * i) 44 (λ entry. child_said entry ≡ Some v) = record { bytes = r.bytes; long = r.long; given = r.given; says = e } in
          let header : its.at.header ≡ v.1 = entry_child image core tree p m parent row found table n i c listed (record { name = v.0; place = v.1 }) again in
          let serial : x.node.serial ≡ c = serial_is image core tree p m c its.at x.node.serial its.is.stands (subst (λ k. is_placed core.rows.items k x.node.serial ≡ true) (sym header) says.0) in
          let count = count_is image core tree p m parent row found table n in
          let fit = fits image core tree p m parent row found table n in
          let lt = slice_get_within kids i c listed in
          let said = read_is_field image (table.place + 16 + 44 * i) 44 (λ entry. child_said entry ≡ Some v) again (omega (arith, lt, count, fit)) in
          let text : text_field 32 its.its.name ≡ v.0 =
          sym its.name ∙ sym (inner_field image (table.place + 16 + 44 * i) 44 0 32 (omega arith) ∙ ap (λ k. field image k 32) (omega arith)) ∙ said_name (field image (table.place + 16 + 44 * i) 44) v said in
          let fine = (m.laid_out.is_tree.each c its.its its.is.live).named in
          child_is x number c (name_at tree c) serial says.1 (says.2 ∙ ap trimmed (sym text) ∙ name_again its.its.name fine ∙ sym (ap name_of its.is.live))

  children_are : (number : ℕ) (children : List Child) → AreChildren core (Some image) number table table.count children → children ≡ map (child_entry tree number) kids
  children_are number children are =
      let count = count_is image core tree p m parent row found table n in
      same_gets children (map (child_entry tree number) kids) (are.all ∙ count ∙ sym (length-map kids (child_entry tree number))) (λ i x y ex ey.
      let lt = slice_get_within children i x ex in
      let c = get_or kids i 0 in
      let all = are.all in
      let listed : slice_get kids i ≡ Some c = slice_get-get_or kids i 0 (omega (arith, lt, all, count)) in
      one_child number i c x listed (are.each i x ex)
      ∙ same_Some (child_entry tree number c) y (sym (slice_get-map (child_entry tree number) kids i ∙ ap (option_map (child_entry tree number)) listed) ∙ ey))

  no_fault : (rule at : ℕ) → EntryFails core (Some image) table (error.Layout rule at) → ⊥
  no_fault rule at f = by_said (child_said f.says.bytes) refl f.says.says
    where
      again : (o : Option (List ℕ × ℕ)) → child_said f.says.bytes ≡ o → ReadAt (Some image) (table.place + 16 + 44 * f.position) 44 (λ entry. child_said entry ≡ o)
      again o e = record { bytes = f.says.bytes; long = f.says.long; given = f.says.given; says = e }

      by_said : (o : Option (List ℕ × ℕ)) → child_said f.says.bytes ≡ o → SaysNoChild core (table.place + 16 + 44 * f.position) (error.Layout rule at) o → ⊥
      by_said None e says = entry_said image core tree p m parent row found table n f.position f.within (again None e)
      by_said (Some v) e says = one_placed image core tree p m parent row found table n f.position (record { name = v.0; place = v.1 }) f.within (again (Some v) e) says.2

module _ (core : Core) (parent : NodeId) (row : Row) (found : row_of core.rows.items parent.serial ≡ Some row) (table : ChildTable) where
  pub children_told : (held now : Option (List ℕ)) (children : List Child) → now ≡ held → NamesTable core.wide held row.place table → AreChildren core now parent.file table table.count children
      → Tells core held (λ tree. field_within tree parent (Query.ChildrenOf parent)) (Ok (Reply.Children children))
  children_told None now children still n are = tt
  children_told (Some image) now children still n are = λ tree p m.
      let up = the_node image (memory_of core) parent.serial row found tree p m in
      within_is tree parent (Query.ChildrenOf parent) up.node up.is.live
      ∙ ap (λ xs. Ok (Reply.Children xs)) (sym (children_are image core tree p m parent.serial row found table n parent.file children (subst (λ h. AreChildren core h parent.file table table.count children) still are)))

  -- no tree refuses its children
  pub unlisted_free : (held now : Option (List ℕ)) (before after : ℕ) (e : AdfError) → now ≡ held → NamesTable core.wide held row.place table → AreUnlisted core now table before after e → OfEach core held (λ image tree p. IsFree e)
  unlisted_free None now before after e still n h = tt
  unlisted_free (Some image) now before after error.Memory still n h = λ tree p m. tt
  unlisted_free (Some image) now before after error.ReadFault still n h = λ tree p m. tt
  unlisted_free (Some image) now before after (error.Layout rule at) still n h = λ tree p m.
      absurd (no_fault image core tree p m parent.serial row found table n rule at (subst (λ o. EntryFails core o table (error.Layout rule at)) still h))
  unlisted_free (Some image) now before after other still n h = absurd h.says.says

-- ---- causes

module _ (core : Core) (held : Option (List ℕ)) (place before after : ℕ) where
  pub table_cause : (e : AdfError) → IsUnread (TableBreaks core.wide held place) before after e → IsChildrenCause core held place before after e
  table_cause error.ReadFault h = h
  table_cause (error.Layout rule at) h = inl h
  table_cause other h = absurd h

  pub children_cause : (mid : ℕ) (now : Option (List ℕ)) (table : ChildTable) (e : AdfError) → now ≡ held → before ≤ mid → NamesTable core.wide held place table → AreUnlisted core now table mid after e → IsChildrenCause core held place before after e
  children_cause mid now table error.Memory still le n h = record { table = table; named = n; entry = subst (λ o. EntryFails core o table error.Memory) still h }
  children_cause mid now table error.ReadFault still le n h = rose_later before mid after le h
  children_cause mid now table (error.Layout rule at) still le n h = inr (record { table = table; named = n; entry = subst (λ o. EntryFails core o table (error.Layout rule at)) still h })
  children_cause mid now table other still le n h = absurd h.says.says

-- ---- reads

-- a header is read, and then the pieces of its table
pub table_read : (core : Core) (held : Option (List ℕ)) (parent : ℕ) (row : Row) (table : ChildTable) (a b z : DeviceState) → row_of core.rows.items parent ≡ Some row → NamesTable core.wide held row.place table
    → ReadsFew 2 a b → ReadsFew (2 * pieces_of table.count) b z → ReadsTable (IsTableOf core held parent) 1 2 a z
table_read core held parent row table a b z found n first then =
    inr (table, record { above = row; found = found; named = n }, reads_then 2 (2 * pieces_of table.count) (2 * 1 * pieces_of table.count + 2) a b z first then (omega arith))
