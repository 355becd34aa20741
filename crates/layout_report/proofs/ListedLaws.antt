-- The lines of some extents, one after another.
use Rattle.std.proofs.Common.{◌≡◌, ◌⊎◌, ℕ, ◌+◌, ◌<◌, ◌≤◌, List, [], ◌∷◌, ◌++◌, length, take, map, get_or, Option, Some, None, Result, Ok, Err, IfSome, IfOk, sym, ap, subst, ◌∙◌, arith, append_assoc, append-nil}
use Rattle.std.proofs.lemmas.List.{take_more, take_all}
use Rattle.std.specs.Io.KnownBytes.{Appends}
use Rattle.std.proofs.KnownBytes.{Appends-nil, Appends-trans}
use Rattle.cg_io.specs.Cause.{Rose}
use Rattle.session.specs.Printed.{AppendsPart}
use Rattle.adf_format.specs.Tree.{Tree, IsTree, IsNumbered}
use Rattle.adf_format.specs.Placement.{Placement}
use Rattle.adf_format.specs.Verdict.{ListsNodes}
use Rattle.layout_lint.specs.declared.verdict.NodePlace as code
use Rattle.layout_lint.specs.declared.owners.Owned.{Owned}
use Rattle.layout_lint.specs.Walks.{node_place}
use Rattle.layout_lint.specs.Paths.{IsPath, AreNames}
use Rattle.layout_report.specs.Lines.{extent_line, part_line, end_line}
use Rattle.layout_report.specs.Reports.{Ends, Says, IsLine, AreLines, TellsLines, Listed}
use Rattle.layout_report.specs.Reports.Says.{whole, torn}
use Rattle.layout_report.specs.Reports.IsLine.{alone, part}
use Rattle.layout_report.specs.Reports.AreLines.{none, next}
use Rattle.layout_report.specs.declared.Report.{Report}
use Rattle.layout_report.specs.declared.Report.TheVariants as ended
use Rattle.layout_report.proofs.ReportLaws.{ends_behind, part_behind}

-- ---- one line

pub ok_as : {T E : Type 0} (P Q : T → Type 0) (result : Result T E) → ((x : T) → P x → Q x) → IfOk result P → IfOk result Q
ok_as P Q (Ok x) implies is = implies x is
ok_as P Q (Err e) implies is = tt

pub lone_line : (tree : Tree) (o : Owned) (line : List ℕ) → o.owner ≡ None → line ≡ extent_line o.extent → IsLine tree o line
lone_line tree o line free is = subst (λ (l : List ℕ). IsLine tree o l) (sym is) (alone free)

pub owned_line : (tree : Tree) (o : Owned) (number : ℕ) (path line : List ℕ) → o.owner ≡ Some number → line ≡ part_line o.extent path → IsPath tree number path → IsLine tree o line
owned_line tree o number path line owner is leads = subst (λ (l : List ℕ). IsLine tree o l) (sym is) (part number path owner leads)

-- a number that is there
pub there_below : (owner : Option ℕ) (count number : ℕ) → owner ≡ Some number → IfSome owner (λ n. n < count) → number < count
there_below owner count number is there = subst (λ (o : Option ℕ). IfSome o (λ n. n < count)) is there

-- a line more
line_more : (tree : Tree) (os : List Owned) (o : Owned) (text line : List ℕ) → AreLines tree os text → IsLine tree o line → AreLines tree (os ++ o ∷ []) (text ++ line)
line_more tree _ o _ line none is = subst (AreLines tree (o ∷ [])) (append-nil line) (next line [] is none)
line_more tree _ o _ line (next {o = first} {os = os} front text its are) is =
    subst (AreLines tree (first ∷ (os ++ o ∷ []))) (sym (append_assoc front text line)) (next front (text ++ line) its (line_more tree os o text line are is))

-- ---- the lines so far

-- a line of one of the extents
abbrev pub TellsLine : List code.NodePlace → List (List ℕ) → Owned → List ℕ → Type 0
TellsLine nodes names o line = (tree : Tree) (p : Placement) → IsTree tree → IsNumbered tree → ListsNodes tree p (map node_place nodes) → AreNames tree names → IsLine tree o line

-- The lines of the first k extents were taken.
pub record SoFar (nodes : List code.NodePlace) (names : List (List ℕ)) (owned : List Owned) (k : ℕ) (start taken : Option (List ℕ)) : Type 0 where
  pub lines : List ℕ
  pub took : Appends start taken lines
  pub tells : TellsLines nodes names (take k owned) lines

pub starts : (nodes : List code.NodePlace) (names : List (List ℕ)) (owned : List Owned) (taken : Option (List ℕ)) → SoFar nodes names owned 0 taken taken
starts nodes names owned taken = record { lines = []; took = Appends-nil taken; tells = λ tree p is in_order listed are. none }

tells_more : (nodes : List code.NodePlace) (names : List (List ℕ)) (owned : List Owned) (k : ℕ) (lines line : List ℕ) (o other : Owned)
    → TellsLines nodes names (take k owned) lines → k < length owned → o ≡ get_or owned k other → TellsLine nodes names o line → TellsLines nodes names (take (k + 1) owned) (lines ++ line)
tells_more nodes names owned k lines line o other tells below is its tree p tree_is in_order listed are =
    let one = line_more tree (take k owned) o lines line (tells tree p tree_is in_order listed are) (its tree p tree_is in_order listed are) in
    let longer : take (k + 1) owned ≡ take k owned ++ o ∷ [] = take_more owned k other below ∙ ap (λ (x : Owned). take k owned ++ x ∷ []) (sym is) in
    subst (λ (os : List Owned). AreLines tree os (lines ++ line)) (sym longer) one

pub goes_on : (nodes : List code.NodePlace) (names : List (List ℕ)) (owned : List Owned) (k : ℕ) (start taken now : Option (List ℕ)) (line text : List ℕ) (o other : Owned)
    → SoFar nodes names owned k start taken → k < length owned → o ≡ get_or owned k other → TellsLine nodes names o line → text ≡ line → Appends taken now text → SoFar nodes names owned (k + 1) start now
goes_on nodes names owned k start taken now line text o other so below is its all took = record {
  lines = so.lines ++ line;
  took = Appends-trans start taken now so.lines line so.took (subst (Appends taken now) all took);
  tells = tells_more nodes names owned k so.lines line o other so.tells below is its;
}

-- the sink fails within a line
pub tears : (nodes : List code.NodePlace) (names : List (List ℕ)) (owned : List Owned) (end k : ℕ) (start taken now : Option (List ℕ)) (first faults later : ℕ) (line text : List ℕ) (o other : Owned)
    → SoFar nodes names owned k start taken → k < length owned → o ≡ get_or owned k other → TellsLine nodes names o line → text ≡ line → first ≤ faults → Rose faults later → AppendsPart taken now text
    → Says (Listed nodes names owned end) start now first later ended.SinkFault
tears nodes names owned end k start taken now first faults later line text o other so below is its all rises rose cut =
    let higher : Rose first later = omega (arith, rose) in
    let tells = tells_more nodes names owned k so.lines line o other so.tells below is its in
    torn ended.Memory (so.lines ++ line) (Listed.lacking (k + 1) tells) higher (part_behind start taken now so.lines line so.took (subst (AppendsPart taken now) all cut))

-- all lines, and the last byte
pub ends : (nodes : List code.NodePlace) (names : List (List ℕ)) (owned : List Owned) (end k : ℕ) (start taken now : Option (List ℕ)) (first faults later : ℕ) (line : List ℕ) (result : Report)
    → SoFar nodes names owned k start taken → length owned ≤ k → first ≤ faults → line ≡ end_line end → Ends ended.Done line result taken now faults later
    → Says (Listed nodes names owned end) start now first later result
ends nodes names owned end k start taken now first faults later line result so all rises is told =
    let tells : TellsLines nodes names owned so.lines = subst (λ (os : List Owned). TellsLines nodes names os so.lines) (take_all k owned all) so.tells in
    let said : Listed nodes names owned end ended.Done (so.lines ++ line) = subst (λ (l : List ℕ). Listed nodes names owned end ended.Done (so.lines ++ l)) (sym is) (Listed.whole so.lines tells) in
    ends_behind (Listed nodes names owned end) ended.Done so.lines line result start taken now first faults later said so.took rises told

-- no memory for a line
pub lacks : (nodes : List code.NodePlace) (names : List (List ℕ)) (owned : List Owned) (end k : ℕ) (start taken : Option (List ℕ)) (first later : ℕ)
    → SoFar nodes names owned k start taken → Says (Listed nodes names owned end) start taken first later ended.Memory
lacks nodes names owned end k start taken first later so = whole so.lines (Listed.lacking k so.tells) so.took
