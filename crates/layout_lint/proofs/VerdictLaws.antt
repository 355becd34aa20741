-- The verdict, from what each group of rules has found.
use Rattle.std.proofs.Common.{◌≡◌, ℕ, ◌+◌, ◌≤◌, List, ◌++◌, [], ◌∷◌, map, filter, length, refl, sym, ◌∙◌, ap, subst, Bool, true, false, cond}
use Rattle.std.proofs.lemmas.List.Elements.{filter-append}
use Rattle.std.specs.Prelude.{IsTrue, ◌↔◌, Option, Some, None, Ok, ◌==◌, nat_lt}
use Rattle.std.specs.Option.{option_or}
use Rattle.adf_format.specs.Fields.{field}
use Rattle.adf_format.specs.Checks.{Row, Fault, first_broken}
use Rattle.adf_format.specs.Tiles.{cover, is_free, total_length}
use Rattle.adf_format.specs.LaysOut.{HasSameRanges, IsSound, count_of}
use Rattle.adf_format.specs.Placement.{extent, head_extents}
use Rattle.adf_format.specs.SoundPart.{format_in}
use Rattle.adf_format.specs.Verdict.{IsLaidOutAs}
use Rattle.adf_format.specs.FirstFault.{Visit, FreeVisit, ChunkVisit, FreeWalk, FirstFault, in_head, at_node, in_list, in_tiling, HasNoFault, IsLeastMisplaced, head_rows, end_rows, free_table_rows, visit_extents, table_extents_at, chunk_table_extents_at, entries_in, chunk_count, chunks_in, chunk_length, found_extents, extents_found, free_extent, is_wide, end_in}
use Rattle.adf_format.specs.declared.types.Extent.{Extent}
use Rattle.adf_format.specs.declared.types.ExtentKind.{ExtentKind}
use Rattle.adf_format.proofs.CheckLaws.{first_broken-append}
use Rattle.adf_format.proofs.FaultLaws.{not_both}
use Rattle.layout_laws.specs.FoundLayout.{FillGaps}
use Rattle.layout_laws.specs.NodePass.{named_node}
use Rattle.layout_laws.specs.TilePass.{AreBlank, filled_up}
use Rattle.layout_laws.proofs.FreeStand as stand
use Rattle.layout_laws.proofs.FoundVerdict as laws
use Rattle.layout_laws.proofs.NodePassLaws as nodes
use Rattle.layout_laws.proofs.TilePassLaws as tiles
use Rattle.layout_lint.specs.declared.head.Head.{Head}
use Rattle.layout_lint.specs.declared.walk.FoundNodes.{FoundNodes}
use Rattle.layout_lint.specs.declared.verdict.Halt.{Halt}
use Rattle.layout_lint.specs.declared.verdict.Halt.TheVariants as halt
use Rattle.layout_lint.specs.Halts.{Breaks}
use Rattle.layout_lint.specs.Heads.{IsHead}
use Rattle.layout_lint.specs.Walks.{IsFound, EndsWalk, node_place}
use Rattle.layout_lint.specs.Lists.{EndsLists}
use Rattle.layout_lint.specs.Gaps.{AreTiled, IsMisplaced}
use Rattle.layout_lint.specs.declared.verdict.Verdict.{Verdict}
use Rattle.layout_lint.specs.declared.verdict.Verdict.TheVariants as says
use Rattle.layout_lint.specs.Verdicts.{IsVerdict, IsFault, is_sound}
use Rattle.layout_lint.proofs.HeadLaws.{first_group, header_group, end_group, free_group}

-- ---- the free chunks among all extents

no_free_table : (table length : ℕ) (none : Bool) → filter is_free (cond none [] (extent ExtentKind.SubNodes table length ∷ [])) ≡ []
no_free_table table length true = refl
no_free_table table length false = refl

no_free_chunk_table : (table length : ℕ) (none : Bool) → filter is_free (cond none [] (extent ExtentKind.ChunkTable table length ∷ [])) ≡ []
no_free_chunk_table table length true = refl
no_free_chunk_table table length false = refl

no_free_chunks : (image : List ℕ) (chunks : List ChunkVisit) → filter is_free (map (λ (c : ChunkVisit). extent ExtentKind.DataChunk c.place (chunk_length image c.place)) chunks) ≡ []
no_free_chunks image [] = refl
no_free_chunks image (c ∷ cs) = no_free_chunks image cs

no_free-append : (xs ys : List Extent) → filter is_free xs ≡ [] → filter is_free ys ≡ [] → filter is_free (xs ++ ys) ≡ []
no_free-append xs ys no_xs no_ys = filter-append is_free xs ys ∙ ap (λ zs. zs ++ filter is_free ys) no_xs ∙ no_ys

abbrev data_extents : List ℕ → Bool → Visit → List Extent
data_extents image wide v = map (λ (c : ChunkVisit). extent ExtentKind.DataChunk c.place (chunk_length image c.place)) (chunks_in image wide v.place)

no_free_parts : (image : List ℕ) (wide : Bool) (v : Visit) → filter is_free (visit_extents image wide v) ≡ []
unfolding visit_extents
no_free_parts image wide v =
    no_free-append (table_extents_at image v.place ++ chunk_table_extents_at image wide v.place) (data_extents image wide v)
    (no_free-append (table_extents_at image v.place) (chunk_table_extents_at image wide v.place) (no_free_table _ _ (entries_in image v.place == 0)) (no_free_chunk_table _ _ (nat_lt (chunk_count image wide v.place) 2)))
    (no_free_chunks image (chunks_in image wide v.place))

no_free_nodes : (image : List ℕ) (wide : Bool) (nodes : List Visit) → filter is_free (found_extents image wide nodes) ≡ []
no_free_nodes image wide [] = refl
no_free_nodes image wide (v ∷ vs) = no_free-append (visit_extents image wide v) (found_extents image wide vs) (no_free_parts image wide v) (no_free_nodes image wide vs)

all_free : (image : List ℕ) (frees : List FreeVisit) → filter is_free (map (free_extent image) frees) ≡ map (free_extent image) frees
all_free image [] = refl
all_free image (f ∷ fs) = ap (λ zs. free_extent image f ∷ zs) (all_free image fs)

free_found : (image : List ℕ) (nodes : List Visit) (frees : List FreeVisit) → filter is_free (extents_found image nodes frees) ≡ map (free_extent image) frees
free_found image nodes frees =
    filter-append is_free (found_extents image (is_wide image) nodes) (map (free_extent image) frees)
    ∙ ap (λ zs. zs ++ filter is_free (map (free_extent image) frees)) (no_free_nodes image (is_wide image) nodes) ∙ all_free image frees

-- ---- the free table is the last of the head

last_kept : (xs ys : List Row) → first_broken (xs ++ ys) ≡ None → first_broken ys ≡ None
last_kept xs ys e = by_first (first_broken xs) (sym (first_broken-append xs ys) ∙ e)
  where
    by_first : (o : Option Fault) → option_or o (first_broken ys) ≡ None → first_broken ys ≡ None
    by_first None e = e
    by_first (Some f) e = cc

head_in_groups : (image : List ℕ) → head_rows image ≡ first_group image ++ (header_group image ++ (end_group image ++ free_group image))
unfolding head_rows end_rows
head_in_groups image = refl

module _ (image : List ℕ) (head : Head) (is : IsHead image head) where
  pub free_table_kept : first_broken (free_table_rows 186 (field image 186 80)) ≡ None
  free_table_kept =
      last_kept (end_group image) (free_group image)
      (last_kept (header_group image) (end_group image ++ free_group image) (last_kept (first_group image) (header_group image ++ (end_group image ++ free_group image)) (sym (ap first_broken (head_in_groups image)) ∙ is.kept)))

  -- ---- the faults

  pub node_fault : (h : Halt) → EndsWalk image h → IsFault image h
  node_fault (halt.Broken b) e = at_node is.kept e
  node_fault halt.Memory e = tt
  node_fault halt.Read e = tt

  pub list_fault : (found : FoundNodes) (f : IsFound image found) (h : Halt) → EndsLists image f.seen h → IsFault image h
  list_fault found f (halt.Broken b) e = in_list is.kept f.walk e
  list_fault found f halt.Memory e = tt
  list_fault found f halt.Read e = tt

  module _ (found : FoundNodes) (f : IsFound image found) where
    -- the bytes used are those of the extents found
    pub used_found : found.used ≡ 266 + total_length (found_extents image (is_wide image) f.seen)
    used_found = f.used ∙ ap (λ xs. 266 + total_length xs) (sym (nodes.known_extents image (is_wide image) f.seen f.seen f.met f.are))

    module _ (frees : List FreeVisit) (walk : FreeWalk image f.seen (Ok frees)) (all : List Extent) (whole : all ≡ found.extents.items ++ map (free_extent image) frees) where
      all_found : all ≡ extents_found image f.seen frees
      all_found = whole ∙ ap (λ xs. xs ++ map (free_extent image) frees) (f.extents ∙ ap (λ xs. head_extents ++ xs) (sym (nodes.known_extents image (is_wide image) f.seen f.seen f.met f.are)))

      pub tiling_fault : (h : Halt) → IsMisplaced image all head.span.end h → IsFault image h
      tiling_fault (halt.Broken b) e =
          subst (λ rule. FirstFault image (record { rule = rule; place = b.place })) (sym e.0)
          (in_tiling is.kept f.walk walk (subst (λ end. IsLeastMisplaced image (extents_found image f.seen frees) end b.place) is.span.end (subst (λ xs. IsLeastMisplaced image xs head.span.end b.place) all_found e.1)))
      tiling_fault halt.Memory e = tt
      tiling_fault halt.Read e = tt

      -- ---- a sound image

      module _ (gaps : List Extent) (t : AreTiled image all head.span.end gaps) where
        same_cover : (b : ℕ) → cover (extents_found image f.seen frees) b ≡ cover t.done b
        same_cover b = ap (λ xs. cover xs b) (sym all_found) ∙ t.same b

        same_frees : HasSameRanges (map (free_extent image) frees) (filter is_free t.done)
        same_frees place length = ap (count_of place length) (sym (ap (filter is_free) all_found ∙ free_found image f.seen frees)) ∙ t.frees place length

        near : t.reach ≤ end_in image + 1
        near = subst (λ end. t.reach ≤ end + 1) is.span.end t.near

        blank : AreBlank image t.reach (end_in image + 1)
        blank = subst (λ end. AreBlank image t.reach (end + 1)) is.span.end t.blank

        no_fault : HasNoFault image f.seen frees
        no_fault = record {
          head = is.kept;
          node_walk = f.walk;
          free_walk = walk;
          tiled = tiles.last_tiled image f.seen frees t.done t.low t.reach t.before t.passed near blank same_cover same_frees;
        }

        fill : FillGaps image f.seen frees gaps
        fill = subst (λ gs. FillGaps image f.seen frees gs) (sym (t.gaps_are ∙ ap (λ end. filled_up t.before t.reach (end + 1)) is.span.end))
            (tiles.last_fill image f.seen frees t.done t.low t.reach t.before t.passed near blank same_cover same_frees)

        pub sound_verdict : IsLaidOutAs image (map node_place found.nodes.items) gaps head.span.end head.format head.span.wide
        sound_verdict =
            subst (λ places. IsLaidOutAs image places gaps head.span.end head.format head.span.wide) (sym f.named)
            (subst (λ wide. IsLaidOutAs image (map named_node f.met) gaps head.span.end head.format wide) (sym is.span.wide)
            (subst (λ format. IsLaidOutAs image (map named_node f.met) gaps head.span.end format (is_wide image)) (sym is.format)
            (subst (λ end. IsLaidOutAs image (map named_node f.met) gaps end (format_in image) (is_wide image)) (sym is.span.end)
            (laws.verdict image f.seen frees gaps no_fault fill (map named_node f.met) (nodes.met_listed image f.seen frees f.met no_fault f.are)))))

-- ---- the whole

pub head_fault : (image : List ℕ) (h : Halt) → Breaks (head_rows image) h → IsFault image h
head_fault image (halt.Broken b) e = in_head e
head_fault image halt.Memory e = tt
head_fault image halt.Read e = tt

-- an image with a first fault is not sound
pub fault_exactly : (image : List ℕ) (f : Fault) → FirstFault image f → IsTrue false ↔ IsSound image
fault_exactly image f e = (λ t. cc, λ s. let n = stand.no_fault image s.0 s.1 s.2 in absurd (not_both image n.0 n.1 f n.2 e))

pub sound_exactly : (image : List ℕ) (verdict : Verdict) → is_sound verdict ≡ true → IsVerdict image verdict → IsTrue (is_sound verdict) ↔ IsSound image
sound_exactly image (says.Sound nodes gaps end format wide) sound laid_out = (λ t. (laid_out.tree, laid_out.placement, laid_out.laid_out), λ s. sound)
sound_exactly image (says.Unsound rule place) sound e = cc
