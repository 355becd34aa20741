-- The rules of a node, group by group, by what its header says.
use Rattle.std.proofs.Common.{◌≡◌, ℕ, ◌+◌, ◌^◌, ◌≤◌, ◌<◌, List, ◌++◌, [], ◌∷◌, refl, sym, ◌∙◌, ap, cond, arith, append_assoc, Bool, true, false}
use Rattle.std.specs.Prelude.{Option, Some, None, not, nat_le, nat_lt, ◌==◌, ◌&&◌, ◌||◌}
use Rattle.std.specs.List.{All}
use Rattle.std.specs.Option.{option_or}
use Rattle.std.proofs.lemmas.List.Elements.{All-append, All-push}
use Rattle.std.proofs.lemmas.Bool.Decides.{nat_tests}
use Rattle.adf_format.specs.Fields.{field}
use Rattle.adf_format.specs.Names.{is_lk}
use Rattle.adf_format.specs.Parts.{node_length, table_length}
use Rattle.adf_format.specs.Records.{node_record}
use Rattle.adf_format.specs.Tiles.{total_length}
use Rattle.adf_format.specs.declared.types.DataType.{DataType}
use Rattle.adf_format.specs.declared.types.Extent.{Extent}
use Rattle.adf_format.specs.declared.types.ExtentKind.{ExtentKind}
use Rattle.adf_format.specs.Checks.{Row, Fault, first_broken}
use Rattle.adf_format.specs.FirstFault.{type_or_mt, is_same_name, children_in, entries_in, table_in, table_extents_at, chunk_table_extents_at, visit_extents, node_rows_at, count_row_at}
use Rattle.adf_format.proofs.CheckLaws.{first_broken-append}
use Rattle.adf_format.proofs.FieldLaws.{inner_field}
use Rattle.adf_format.proofs.WalkLaws.{total_length-append}
use Rattle.adf_records.specs.declared.NodeHeader.{NodeHeader}
use Rattle.adf_records.specs.View.{record_of}
use Rattle.layout_lint.specs.declared.node.Met.{Met}
use Rattle.layout_lint.specs.declared.look.Next.{Next}
use Rattle.layout_lint.specs.declared.verdict.Halt.{Halt}
use Rattle.layout_lint.specs.declared.verdict.Halt.TheVariants as halt
use Rattle.layout_lint.specs.Halts.{Breaks}
use Rattle.layout_lint.specs.Gaps.{IsSolid}
use Rattle.layout_lint.specs.Nodes.{place_rows, bytes_rows, header_rows_at, IsHeaderAt, table_of, children_rows, table_extents, data_rows_at, data_extents_at, extents_at, LeadsTo}
use Rattle.layout_lint.proofs.HeaderLaws.{header_said}
use Rattle.layout_lint.proofs.RowSteps.{breaks_first, breaks_2, breaks_3, breaks_then, kept_2}

-- ---- the number of children

-- rule 22, by the numbers of the header
abbrev pub few_test : ℕ → ℕ → DataType → ℕ → Bool
few_test children entries kind depth = nat_le children entries && nat_le children (2 ^ 20) && (nat_lt depth 255 || (children == 0)) && (not (is_lk kind) || (children == 0))

few_here : (image : List ℕ) (p depth : ℕ) → few_test (children_in image p) (entries_in image p) (type_or_mt (field image (p + 96) 32)) depth ≡ (count_row_at image p depth).kept
unfolding count_row_at
few_here image p depth = refl

count_at : (image : List ℕ) (p depth : ℕ) → (count_row_at image p depth).fault ≡ record { rule = 22; place = p + 68 }
unfolding count_row_at
count_at image p depth = refl

few_said : (image : List ℕ) (wide : Bool) (p depth : ℕ) (n : NodeHeader) → IsHeaderAt image wide p n → few_test n.children n.entries n.kind depth ≡ (count_row_at image p depth).kept
few_said image wide p depth n is =
    ap (λ c. few_test c n.entries n.kind depth) is.children
    ∙ ap (λ e. few_test (children_in image p) e n.kind depth) is.entries
    ∙ ap (λ k. few_test (children_in image p) (entries_in image p) k depth) is.kind
    ∙ few_here image p depth

-- what the test says of the numbers
pub few_children : (children entries depth : ℕ) (kind : DataType) → few_test children entries kind depth ≡ true → (children ≤ entries) × (0 < children → depth < 255)
few_children children entries depth kind e = few (is_lk kind) e
  where
    few : (lk : Bool) → (nat_le children entries && nat_le children (2 ^ 20) && (nat_lt depth 255 || (children == 0)) && (not lk || (children == 0))) ≡ true → (children ≤ entries) × (0 < children → depth < 255)
    few lk e = (grind (arith, nat_tests), λ some. grind (arith, nat_tests))

-- ---- the groups

regroup : (p t e ct c d : List Row) (r : Row) → ((((p ++ (r ∷ t)) ++ e) ++ ct) ++ c) ++ d ≡ p ++ ((r ∷ []) ++ ((t ++ e) ++ ((ct ++ c) ++ d)))
regroup p t e ct c d r = in_row (r ∷ t) ∙ ap (λ xs. p ++ (r ∷ xs)) (sym by_parts)
  where
    in_row : (q : List Row) → ((((p ++ q) ++ e) ++ ct) ++ c) ++ d ≡ p ++ (q ++ (e ++ (ct ++ (c ++ d))))
    in_row q = simp append_assoc

    by_parts : (t ++ e) ++ ((ct ++ c) ++ d) ≡ t ++ (e ++ (ct ++ (c ++ d)))
    by_parts = simp append_assoc

second_none : (o p : Option Fault) → option_or o p ≡ None → p ≡ None
second_none None p e = e
second_none (Some f) p e = cc

second_kept : (xs ys : List Row) → first_broken (xs ++ ys) ≡ None → first_broken ys ≡ None
second_kept xs ys e = second_none (first_broken xs) (first_broken ys) (sym (first_broken-append xs ys) ∙ e)

row_said : (r : Row) (kept : Bool) → r.kept ≡ kept → first_broken (r ∷ []) ≡ cond kept None (Some r.fault)
row_said r kept e = ap (λ k. cond k None (Some r.fault)) e

module _ (image : List ℕ) (wide : Bool) (end : ℕ) (known : Bool) (used : ℕ) (m : Met) where
  abbrev pub node_group : List Row
  node_group = node_rows_at image wide end known used m.place m.entry m.depth

  abbrev pub header_group : List Row
  header_group = header_rows_at image wide end known used m

  abbrev pub count_group : List Row
  count_group = count_row_at image m.place m.depth ∷ []

  abbrev pub table_group : List Row
  table_group = children_rows image end (used + node_length wide) (table_in image m.place) (entries_in image m.place) (children_in image m.place)

  abbrev pub data_group : List Row
  data_group = data_rows_at image wide end (used + node_length wide + total_length (table_extents_at image m.place)) m.place

  in_groups : node_group ≡ header_group ++ (count_group ++ (table_group ++ data_group))
  unfolding node_rows_at place_rows
  in_groups = regroup header_group _ _ _ _ _ (count_row_at image m.place m.depth)

  pub breaks_header : (h : Halt) → Breaks header_group h → Breaks node_group h
  breaks_header h b = rw in_groups (breaks_first header_group (count_group ++ (table_group ++ data_group)) h b)

  -- what the header says, where none of its rules is broken
  pub header_is : (n : NodeHeader) → first_broken header_group ≡ None → record_of n ≡ node_record wide (field image m.place (node_length wide)) → n.wide ≡ wide → IsHeaderAt image wide m.place n
  header_is n kept says same =
      header_said image wide m.place n says same (is_same_name m.entry (field image (m.place + 4) 32)) (second_kept (place_rows wide end known used m.place) (bytes_rows image wide m) kept)

  module _ (n : NodeHeader) (header : first_broken header_group ≡ None) (is : IsHeaderAt image wide m.place n) where
    pub breaks_count : few_test n.children n.entries n.kind m.depth ≡ false → Breaks node_group (halt.Broken (record { rule = 22; place = m.place + 68 }))
    breaks_count e = rw in_groups (breaks_2 header_group count_group (table_group ++ data_group) (halt.Broken (record { rule = 22; place = m.place + 68 })) header
        (row_said (count_row_at image m.place m.depth) false (sym (few_said image wide m.place m.depth n is) ∙ e) ∙ ap Some (count_at image m.place m.depth)))

    module _ (few : few_test n.children n.entries n.kind m.depth ≡ true) (behind : ℕ) (behind_is : behind ≡ used + node_length wide) where
      count_kept : first_broken count_group ≡ None
      count_kept = row_said (count_row_at image m.place m.depth) true (sym (few_said image wide m.place m.depth n is) ∙ few)

      abbrev pub children_group : List Row
      children_group = children_rows image end behind (table_of n) n.entries n.children

      children_same : children_group ≡ table_group
      children_same =
          ap (λ u. children_rows image end u (table_of n) n.entries n.children) behind_is
          ∙ ap (λ t. children_rows image end (used + node_length wide) t n.entries n.children) is.table
          ∙ ap (λ e. children_rows image end (used + node_length wide) (table_in image m.place) e n.children) is.entries
          ∙ ap (λ c. children_rows image end (used + node_length wide) (table_in image m.place) (entries_in image m.place) c) is.children

      pub breaks_children : (h : Halt) → Breaks children_group h → Breaks node_group h
      breaks_children h b = rw in_groups (breaks_3 header_group count_group table_group data_group h header count_kept (rw (← children_same) b))

      module _ (children : first_broken children_group ≡ None) (all : ℕ) (all_is : all ≡ behind + total_length (table_extents (table_of n) n.entries)) where
        pub extents_same : table_extents (table_of n) n.entries ≡ table_extents_at image m.place
        extents_same = ap (λ t. table_extents t n.entries) is.table ∙ ap (λ e. table_extents (table_in image m.place) e) is.entries

        data_same : data_rows_at image wide end all m.place ≡ data_group
        data_same = ap (λ u. data_rows_at image wide end u m.place) (all_is ∙ ap (λ u. u + total_length (table_extents (table_of n) n.entries)) behind_is ∙ ap (λ es. used + node_length wide + total_length es) extents_same)

        pub breaks_data : (h : Halt) → Breaks (data_rows_at image wide end all m.place) h → Breaks node_group h
        breaks_data h b = rw in_groups (breaks_then header_group (count_group ++ (table_group ++ data_group)) h header
            (breaks_then count_group (table_group ++ data_group) h count_kept (breaks_then table_group data_group h (ap first_broken (sym children_same) ∙ children) (rw (← data_same) b))))

        pub keeps_node : first_broken (data_rows_at image wide end all m.place) ≡ None → first_broken node_group ≡ None
        keeps_node rest = rw in_groups (kept_2 header_group (count_group ++ (table_group ++ data_group)) header
            (kept_2 count_group (table_group ++ data_group) count_kept (kept_2 table_group data_group (ap first_broken (sym children_same) ∙ children) (ap first_broken (sym data_same) ∙ rest))))

-- ---- the extents

module _ (image : List ℕ) (wide : Bool) (p : ℕ) (n : NodeHeader) (is : IsHeaderAt image wide p n) where
  abbrev node_extent : ℕ → Extent
  node_extent long = record { place = p; length = long; kind = ExtentKind.Node }

  extents_in_groups : extents_at image wide p ≡ (node_extent (node_length wide) ∷ []) ++ (table_extents_at image p ++ data_extents_at image wide p)
  unfolding visit_extents
  extents_in_groups = ap (λ xs. node_extent (node_length wide) ∷ xs) (append_assoc (table_extents_at image p) (chunk_table_extents_at image wide p) _)

  table_same : table_extents (table_of n) n.entries ≡ table_extents_at image p
  table_same = ap (λ t. table_extents t n.entries) is.table ∙ ap (λ e. table_extents (table_in image p) e) is.entries

  pub extents_added : (old first second third : List Extent) (long : ℕ) → long ≡ node_length wide → first ≡ old ++ node_extent long ∷ [] → second ≡ first ++ table_extents (table_of n) n.entries
      → third ≡ second ++ data_extents_at image wide p → third ≡ old ++ extents_at image wide p
  extents_added old first second third long same a b c =
      let front : first ≡ old ++ (node_extent (node_length wide) ∷ []) = a ∙ ap (λ k. old ++ (node_extent k ∷ [])) same in
      c ∙ ap (λ xs. xs ++ data_extents_at image wide p) (b ∙ ap (λ xs. xs ++ table_extents (table_of n) n.entries) front ∙ ap (λ ys. (old ++ (node_extent (node_length wide) ∷ [])) ++ ys) table_same)
      ∙ joined old (node_extent (node_length wide) ∷ []) (table_extents_at image p) (data_extents_at image wide p)
      ∙ ap (λ xs. old ++ xs) (sym extents_in_groups)
    where
      joined : (a b c d : List Extent) → ((a ++ b) ++ c) ++ d ≡ a ++ (b ++ (c ++ d))
      joined a b c d = simp append_assoc

  pub bytes_added : (used behind all last : ℕ) → behind ≡ used + node_length wide → all ≡ behind + total_length (table_extents (table_of n) n.entries) → last ≡ all + total_length (data_extents_at image wide p)
      → last ≡ used + total_length (extents_at image wide p)
  bytes_added used behind all last a b c =
      let whole : total_length (extents_at image wide p) ≡ node_length wide + total_length (table_extents_at image p ++ data_extents_at image wide p) = ap total_length extents_in_groups in
      let parts = total_length-append (table_extents_at image p) (data_extents_at image wide p) in
      let table : total_length (table_extents (table_of n) n.entries) ≡ total_length (table_extents_at image p) = ap total_length table_same in
      omega arith

  pub leads_there : (used behind all : ℕ) (next : Next) → next.table.place ≡ table_of n → next.children ≡ n.children → behind ≡ used + node_length wide → all ≡ behind + total_length (table_extents (table_of n) n.entries)
      → next.used ≡ all + total_length (data_extents_at image wide p) → LeadsTo image wide used p next
  leads_there used behind all next t c a b d = record { table = t ∙ is.table; children = c ∙ is.children; spent = bytes_added used behind all next.used a b d }

-- ---- they are solid

pub solid_node : (end p long : ℕ) (wide : Bool) (old new : List Extent) → long ≡ node_length wide → p + node_length wide ≤ end + 1 → new ≡ old ++ record { place = p; length = long; kind = ExtentKind.Node } ∷ [] → All (IsSolid end) old → All (IsSolid end) new
solid_node end p long wide old new same fits e all =
    let some : 0 < long = some_length wide long same in
    rw e (All-push (IsSolid end) old (record { place = p; length = long; kind = ExtentKind.Node }) all (record { part = refl; some = some; inside = omega arith; long = λ h. cc }))
  where
    some_length : (wide : Bool) (long : ℕ) → long ≡ node_length wide → 0 < long
    some_length true long e = omega arith
    some_length false long e = omega arith

pub solid_table : (end t entries : ℕ) (old new : List Extent) → (0 < entries → (266 ≤ t) × (t + table_length entries ≤ end + 1)) → new ≡ old ++ table_extents t entries → All (IsSolid end) old → All (IsSolid end) new
solid_table end t entries old new fits e all = rw e (All-append (IsSolid end) old (table_extents t entries) all (of_test (entries == 0) refl))
  where
    of_test : (k : Bool) → (entries == 0) ≡ k → All (IsSolid end) (cond k [] (record { place = t; length = table_length entries; kind = ExtentKind.SubNodes } ∷ []))
    of_test true k = λ i d lt. absurd (omega (arith, lt))
    of_test false k =
        let some : 0 < entries = grind (arith, nat_tests) in
        let inside = (fits some).1 in
        All-push (IsSolid end) [] (record { place = t; length = table_length entries; kind = ExtentKind.SubNodes }) (λ i d lt. absurd (omega (arith, lt))) (record { part = refl; some = omega arith; inside = omega arith; long = λ h. cc })

-- ---- its name

-- the name of a header is that of the node at its place
pub name_read : (image : List ℕ) (wide : Bool) (p : ℕ) (n : NodeHeader) → record_of n ≡ node_record wide (field image p (node_length wide)) → n.name ≡ field image (p + 4) 32
unfolding node_record
name_read image wide p n says = ap (λ r. r.name) says ∙ inner_field image p (node_length wide) 4 32 (long wide)
  where
    long : (wide : Bool) → 4 + 32 ≤ node_length wide
    long false = omega arith
    long true = omega arith
