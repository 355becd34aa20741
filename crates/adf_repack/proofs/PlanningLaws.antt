-- A draft whose last place can be reached is a plan.
use Rattle.std.proofs.Common.{◌≡◌, ℕ, ◌^◌, ◌≤◌, List, length, refl, sym, ◌∙◌, ap, subst, arith, inl, inr, Bool, Option, Some}
use Rattle.std.proofs.lemmas.List.Sums.{sum_by-take-le}
use Rattle.adf_format.specs.Records.{HeaderRecord, header_record}
use Rattle.adf_format.specs.SoundPart.{format_in}
use Rattle.adf_model.specs.declared.error.AdfError.{AdfError}
use Rattle.adf_records.specs.declared.FileHeader.{FileHeader}
use Rattle.adf_records.specs.View.{header_of}
use Rattle.cg_io.specs.Device.{bytes_at}
use Rattle.node_reads.specs.Reads.{ReadAt}
use Rattle.layout_lint.specs.declared.verdict.NodePlace.{NodePlace}
use Rattle.adf_repack.specs.declared.planning.Planned.{Planned}
use Rattle.adf_repack.specs.Families.{children_of}
use Rattle.adf_repack.specs.Measures.{AreUnmeasured}
use Rattle.adf_repack.specs.Places.{room_of, length_of, limited}
use Rattle.adf_repack.specs.Planning.{IsDrafted, IsPlanned}
use Rattle.adf_repack.specs.Plans.{header_at, old_place}
use Rattle.adf_repack.proofs.MeasureLaws.{unmeasured_later}

module _ (held : Option (List ℕ)) (wide to : Bool) (nodes : List NodePlace) (p : Planned) (d : IsDrafted held wide to nodes p) (low : p.length ≤ 2 ^ 44) where
  all_low : length_of p.plan.wide p.plan.shapes.items ≤ 2 ^ 44
  all_low = subst (λ (w : Bool). length_of w p.plan.shapes.items ≤ 2 ^ 44) (sym d.version) (let is = d.room.long in omega (arith, is, low))

  exact : (k : ℕ) → limited (header_at p.plan k) ≡ header_at p.plan k
  exact k = let part = sum_by-take-le (room_of p.plan.wide) p.plan.shapes.items k in let all = all_low in omega (arith, part, all)

  long_is : p.length ≡ length_of p.plan.wide p.plan.shapes.items
  long_is = subst (λ (w : Bool). p.length ≡ length_of w p.plan.shapes.items) (sym d.version) (let is = d.room.long in omega (arith, is, low))

  pub planned_so : ((image : List ℕ) → held ≡ Some image → p.format ≡ format_in (bytes_at image 0 186)) → IsPlanned held wide to nodes p
  planned_so format = record {
    plan = record {
      first = d.first;
      next = d.next;
      count = d.count;
      lists = d.lists;
      counts = d.counts;
      shapes = d.room.measured.count;
      children = d.room.measured.children;
      few = d.room.measured.few;
      headers = d.headers;
      places = λ k lt. d.places k lt ∙ exact k;
      near = all_low;
    };
    version = d.version;
    measured = d.room.measured;
    fit = d.room.fit;
    long = long_is;
    format = format;
  }

-- the same over bytes and nodes as they were before
pub drafted_before : (held again : Option (List ℕ)) (wide to : Bool) (nodes : List NodePlace) (p : Planned) → again ≡ held → IsDrafted again wide to nodes p → IsDrafted held wide to nodes p
drafted_before held again wide to nodes p same d = subst (λ (o : Option (List ℕ)). IsDrafted o wide to nodes p) same d

-- the byte order that a file header tells of
pub format_said : (held : Option (List ℕ)) (image : List ℕ) (h : FileHeader) → held ≡ Some image → ReadAt held 0 186 (λ bytes. header_of h ≡ header_record bytes) → h.format ≡ format_in (bytes_at image 0 186)
unfolding header_record
format_said held image h e read =
    let r = subst (λ (o : Option (List ℕ)). ReadAt o 0 186 (λ bytes. header_of h ≡ header_record bytes)) e read in
    ap (λ (x : HeaderRecord). x.format) r.says ∙ ap format_in (r.given ∙ ap (bytes_at image 0) r.long)

-- why nodes are not measured, by the bytes and the counts of the start
pub are_unmeasured_later : (held again : Option (List ℕ)) (wide to : Bool) (nodes : List NodePlace) (before middle now : ℕ) (e : AdfError) → again ≡ held → before ≤ middle
    → AreUnmeasured again wide to nodes middle now e → AreUnmeasured held wide to nodes before now e
are_unmeasured_later held again wide to nodes before middle now e same later (inl m) = inl m
are_unmeasured_later held again wide to nodes before middle now e same later (inr u) = inr (record {
  number = u.number;
  within = u.within;
  why = unmeasured_later held again wide to (old_place nodes u.number) (old_place nodes u.number) (length (children_of nodes u.number)) (length (children_of nodes u.number)) before middle now e same refl refl later u.why;
})
