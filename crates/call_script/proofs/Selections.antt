-- A selection is read as three times dimensions.
use Rattle.std.proofs.Common.{◌≡◌, ℕ, ◌≤◌, List, [], ◌∷◌, ◌++◌, refl, sym, ◌∙◌, ap, subst, arith, inl}
use Rattle.adf_model.specs.declared.error.AdfError.{AdfError}
use Rattle.adf_model.specs.declared.error.AdfError.TheVariants.{Syntax}
use Rattle.adf_model.specs.declared.tree.Selection.{Selection}
use Rattle.call_script.specs.declared.dims.Dims.{Dims}
use Rattle.call_script.specs.Fields.{Kind, Values, Takes, Reads, IsNoRead, dims}
use Rattle.call_script.specs.Fields.Kind.{some_dims, a_selection}
use Rattle.call_script.specs.Tokens.{IsDims}
use Rattle.call_script.proofs.FieldLaws.{reads_same}
use Rattle.call_script.proofs.Reading.{took}

abbrev three : List Kind
three = some_dims ∷ some_dims ∷ some_dims ∷ []

abbrev pub selection : ℕ → List ℕ → List ℕ → List ℕ → Selection
selection rank start end stride = record { rank = rank; start = start; end = end; stride = stride }

-- the dimensions of a selection
abbrev parts : Selection → Values three
parts s = (dims s.rank s.start, (dims s.rank s.end, (dims s.rank s.stride, tt)))

in_parts : (before after : List (List ℕ)) (s : Selection) → Takes before a_selection s after → Reads before three (parts s) after
in_parts before after s h =
    let k = h.spelled in
    let all : before ≡ k.start ∷ k.end ∷ k.stride ∷ after = h.split ∙ ap (λ ts. ts ++ after) k.tokens_are in (
      k.end ∷ k.stride ∷ after,
      took some_dims _ before (k.end ∷ k.stride ∷ after) k.start all (k.start, refl, k.start_is),
      (
        k.stride ∷ after,
        took some_dims _ (k.end ∷ k.stride ∷ after) (k.stride ∷ after) k.end refl (k.end, refl, k.end_is),
        (after, took some_dims _ (k.stride ∷ after) after k.stride refl (k.stride, refl, k.stride_is), refl),
      ),
    )

-- there are no such dimensions
pub no_parts : (before : List (List ℕ)) (error : AdfError) → IsNoRead (some_dims ∷ some_dims ∷ some_dims ∷ []) before error → IsNoRead (a_selection ∷ []) before error
no_parts before error h = record {
  why = h.why;
  none = λ is values after k. h.none is (parts values.0) k.0 (in_parts before k.0 values.0 k.1);
}

-- the dimensions do not go together
pub no_selection : (before one two after : List (List ℕ)) (start end stride : Dims) → Takes before some_dims start one → Takes one some_dims end two → Takes two some_dims stride after
    → (1 ≤ start.rank → end.rank ≡ start.rank → stride.rank ≡ start.rank → ⊥) → IsNoRead (a_selection ∷ []) before Syntax
no_selection before one two after start end stride h k l apart = record {
  why = inl refl;
  none = λ _ values last is.
      let s = values.0 in
      let same = reads_same three before after is.0 (start, (end, (stride, tt))) (parts s) (one, h, (two, k, (after, l, refl))) (in_parts before is.0 s is.1) in
      let first : start.rank ≡ s.rank = ap (λ (v : Values three). v.0.rank) same.0 in
      let second : end.rank ≡ s.rank = ap (λ (v : Values three). v.1.0.rank) same.0 in
      let third : stride.rank ≡ s.rank = ap (λ (v : Values three). v.1.1.0.rank) same.0 in
      apart (omega (arith, is.1.spelled.some, first)) (second ∙ sym first) (third ∙ sym first);
}

-- and where they do they are a selection
pub selected : (before one two after : List (List ℕ)) (rank end_rank stride_rank : ℕ) (start end stride : List ℕ) → Takes before some_dims (dims rank start) one → Takes one some_dims (dims end_rank end) two → Takes two some_dims (dims stride_rank stride) after
    → 1 ≤ rank → end_rank ≡ rank → stride_rank ≡ rank → Takes before a_selection (selection rank start end stride) after
selected before one two after rank end_rank stride_rank start end stride h k l some second third =
    let a = h.spelled in
    let b = k.spelled in
    let c = l.spelled in
    record {
      tokens = a.0 ∷ b.0 ∷ c.0 ∷ [];
      split = whole before h.tokens one a.0 h.split a.1 ∙ ap (λ ts. a.0 ∷ ts) (whole one k.tokens two b.0 k.split b.1 ∙ ap (λ ts. b.0 ∷ ts) (whole two l.tokens after c.0 l.split c.1));
      spelled = record {
        start = a.0;
        end = b.0;
        stride = c.0;
        tokens_are = refl;
        some = some;
        start_is = a.2;
        end_is = subst (λ r. IsDims b.0 (dims r end)) second b.2;
        stride_is = subst (λ r. IsDims c.0 (dims r stride)) third c.2;
      };
    }
  where
    whole : (b tokens after : List (List ℕ)) (token : List ℕ) → b ≡ tokens ++ after → tokens ≡ token ∷ [] → b ≡ token ∷ after
    whole b tokens after token e is = e ∙ ap (λ ts. ts ++ after) is
