-- The lines of a node are those of its visit.
use Rattle.std.proofs.Common.{◌≡◌, ◌∙◌, sym, ap, refl, cond, ℕ, ◌+◌, ◌<◌, Bool, true, false, List, [], ◌∷◌, ◌++◌, length, take, get_or, append_assoc}
use Rattle.std.specs.Prelude.{map}
use Rattle.std.proofs.lemmas.List.{append-nil, map-append, take_more, length-map}
use Rattle.std.proofs.lemmas.Grind.{flat_map-append}
use Rattle.adf_model.specs.Slots.{Files}
use Rattle.sids_rules.specs.Rules.{Rule, broken_of, broken_numbers}
use Rattle.sids_rules.specs.Walk.{Visit, has_note}
use Rattle.sids_rules.specs.Findings.{findings_at, finding_line, note_lines, lines_at, printed_lines, printed_path}
use Rattle.cgns_check.specs.Words.{word_of, AreWorded}
use Rattle.cgns_check.specs.Lines.{number_line, link_lines, node_lines}

-- one more line behind others
pub line_more : (lines : List (List ℕ)) (line : List ℕ) → printed_lines (lines ++ line ∷ []) ≡ printed_lines lines ++ line ++ 10 ∷ []
line_more lines line =
    flat_map-append (λ (l : List ℕ). l ++ 10 ∷ []) lines (line ∷ [])
    ∙ ap (λ (l : List ℕ). printed_lines lines ++ l) (append-nil (line ++ 10 ∷ []))
    ∙ sym (append_assoc (printed_lines lines) line (10 ∷ []))

-- no rule tells of a node beside its note
pub lines_start : (path : List ℕ) (note : Bool) (numbers : List ℕ) → printed_lines (link_lines path note) ≡ printed_lines (node_lines path note (take 0 numbers))
lines_start path note numbers = ap printed_lines (sym (append-nil (link_lines path note)))

-- the line of one more rule
pub lines_more : (path : List ℕ) (note : Bool) (numbers : List ℕ) (k number : ℕ) → k < length numbers → number ≡ get_or numbers k 0
    → printed_lines (node_lines path note (take k numbers)) ++ number_line path number ++ 10 ∷ [] ≡ printed_lines (node_lines path note (take (k + 1) numbers))
lines_more path note numbers k number h is =
    let before = take k numbers in
    sym (line_more (node_lines path note before) (number_line path number))
    ∙ ap printed_lines (append_assoc (link_lines path note) (map (number_line path) before) (number_line path number ∷ []))
    ∙ ap (λ (ls : List (List ℕ)). printed_lines (link_lines path note ++ ls)) (sym (map-append (number_line path) before (number ∷ [])))
    ∙ ap (λ (ns : List ℕ). printed_lines (node_lines path note ns)) (ap (λ n. before ++ n ∷ []) is ∙ sym (take_more numbers k 0 h))

-- ---- the lines of a visit

module _ (files : Files) (visit : Visit) where
  own_line : (r : Rule) → word_of r.number ≡ r.word → number_line (printed_path visit.path) r.number ≡ finding_line visit.path r
  own_line r word = ap (λ (w : List ℕ). number_line_with r w) word
    where
      number_line_with : Rule → List ℕ → List ℕ
      number_line_with r w = finding_line visit.path (record r { word = w })

  kept_or : (r : Rule) (rules : List Rule) → word_of r.number ≡ r.word → (b : Bool)
      → map (number_line (printed_path visit.path)) (map (λ (r : Rule). r.number) (broken_of rules files visit.seen)) ≡ map (finding_line visit.path) (broken_of rules files visit.seen)
      → map (number_line (printed_path visit.path)) (map (λ (r : Rule). r.number) (cond b (r ∷ broken_of rules files visit.seen) (broken_of rules files visit.seen))) ≡ map (finding_line visit.path) (cond b (r ∷ broken_of rules files visit.seen) (broken_of rules files visit.seen))
  kept_or r rules word true h =
      ap (λ (line : List ℕ). line ∷ map (number_line (printed_path visit.path)) (map (λ (r : Rule). r.number) (broken_of rules files visit.seen))) (own_line r word)
      ∙ ap (λ (lines : List (List ℕ)). finding_line visit.path r ∷ lines) h
  kept_or r rules word false h = h

  own_lines : (rules : List Rule) → AreWorded rules → map (number_line (printed_path visit.path)) (broken_numbers rules files visit.seen) ≡ map (finding_line visit.path) (broken_of rules files visit.seen)
  own_lines [] h = refl
  own_lines (r ∷ rules) h = kept_or r rules h.0 (r.is_broken files visit.seen) (own_lines rules h.1)

  -- the lines of a node with the numbers of the rules that it breaks
  pub lines_are : (rules : List Rule) → AreWorded rules → (path : List ℕ) (note : Bool) (numbers : List ℕ) → path ≡ printed_path visit.path → note ≡ has_note files visit → numbers ≡ broken_numbers rules files visit.seen
      → node_lines path note numbers ≡ lines_at rules files visit
  lines_are rules worded path note numbers p n is =
      ap (λ (q : List ℕ). node_lines q note numbers) p
      ∙ ap (λ b. node_lines (printed_path visit.path) b numbers) n
      ∙ ap (λ (ns : List ℕ). node_lines (printed_path visit.path) (has_note files visit) ns) is
      ∙ ap (λ (ls : List (List ℕ)). note_lines files visit ++ ls) (own_lines rules worded)

  pub counted : (rules : List Rule) → length (broken_numbers rules files visit.seen) ≡ length (findings_at rules files visit)
  counted rules = length-map (broken_of rules files visit.seen) _ ∙ sym (length-map (broken_of rules files visit.seen) _)
