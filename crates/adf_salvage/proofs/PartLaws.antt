-- The sound part of a damaged file, as a survey finds it.
use Rattle.std.proofs.Common.{◌≡◌, ℕ, zero, suc, refl, sym, ◌∙◌, ap, subst, List, [], ◌∷◌, map, length}
use Rattle.std.specs.Prelude.{Some, slice_get}
use Rattle.std.proofs.lemmas.List.{length-map}
use Rattle.adf_format.specs.FirstFault.{Visit}
use Rattle.adf_format.specs.Verdict.{NodePlace}
use Rattle.adf_model.proofs.Basics.{same_Some, not_there}
use Rattle.layout_laws.specs.FoundLayout.{NamesVisit}
use Rattle.layout_laws.specs.NodePass.{Waiting, AreMet, named_node}
use Rattle.layout_lint.specs.Walks.{node_place}
use Rattle.salvage_laws.proofs.SurveyLaws as laws
use Rattle.salvage_laws.proofs.SurveyOrder.{kept_in_order}
use Rattle.adf_salvage.specs.declared.head.Start.{Start}
use Rattle.adf_salvage.specs.declared.part.SoundPart.{SoundPart}
use Rattle.adf_salvage.specs.declared.progress.Progress.{Progress}
use Rattle.salvage_laws.specs.Surveys.{NameVisits}
use Rattle.adf_salvage.specs.Parts.{IsPartOf}
use Rattle.adf_salvage.specs.Surveys.{IsStart, IsSurvey}
use Rattle.adf_salvage.proofs.WayLaws.{all_told}

met_many : (seen : List Visit) (ms : List Waiting) (vs : List Visit) → AreMet seen ms vs → length ms ≡ length vs
met_many seen [] [] h = refl
met_many seen [] (v ∷ vs) h = absurd h
met_many seen (m ∷ ms) [] h = absurd h
met_many seen (m ∷ ms) (v ∷ vs) h = ap suc (met_many seen ms vs h.1)

names_at : (seen : List Visit) (ms : List Waiting) (vs : List Visit) (k : ℕ) (v : Visit) (n : NodePlace) → AreMet seen ms vs → slice_get vs k ≡ Some v → slice_get (map named_node ms) k ≡ Some n → NamesVisit seen v n
names_at seen [] vs k v n h e f = absurd (not_there n f)
names_at seen (m ∷ ms) [] k v n h e f = absurd h
names_at seen (m ∷ ms) (w ∷ vs) zero v n h e f =
    subst (λ (x : Visit). NamesVisit seen x n) (same_Some w v e) (subst (λ (p : NodePlace). NamesVisit seen w p) (same_Some (named_node m) n f) (record { place = h.0.place; depth = h.0.depth; linked = h.0.linked }))
names_at seen (m ∷ ms) (w ∷ vs) (suc k) v n h e f = names_at seen ms vs k v n h.1 e f

-- where none waits, the nodes are those of the sound part
pub part_found : (image : List ℕ) (start : Start) (p : Progress) (part : SoundPart) → IsStart image start → IsSurvey image [] p → part.nodes ≡ p.nodes.items → part.left ≡ p.left.items → part.wide ≡ start.span.wide → IsPartOf image part
part_found image start p part head u nodes left wide =
    let end = laws.ended image u.kept u.out u.left u.surveying in
    let seen : List Visit = end.0 in
    let same : map node_place part.nodes ≡ map named_node u.kept = ap (map node_place) nodes ∙ u.named in
    record {
      kept = end.0;
      left = u.left;
      sound = record { header = head.kept; survey = end.1 };
      nodes = subst (NameVisits end.0) (sym same) (record {
        count = length-map u.kept named_node ∙ met_many end.0 u.kept end.0 end.2;
        each = λ k v n e f. names_at end.0 u.kept end.0 k v n end.2 e f;
      });
      told = left ∙ all_told end.0 u.kept (kept_in_order image end.0 u.left end.1) end.2 u.out u.left p.left.items end.3 u.told;
      wide = wide ∙ head.span.wide;
    }
