-- The tokens of a field spell one value at most, and have no space.
use Rattle.std.proofs.Common.{◌≡◌, ◌==◌, ℕ, ◌<◌, ◌^◌, true, false, not, List, [], ◌∷◌, ◌++◌, refl, sym, ◌∙◌, ap, subst, arith, bytes_eq, decimal, Option, Some, ⊎_elim}
use Rattle.std.specs.List.{list_all, find, AllPass}
use Rattle.std.proofs.lemmas.Bool.{cases_Bool, eqb-true}
use Rattle.std.proofs.lemmas.Bool.Decides.{nat_tests}
use Rattle.std.proofs.lemmas.Fmt.{decimal_injective}
use Rattle.std.proofs.lemmas.List.Elements.{All-nil, All-cons, All-head, All-tail}
use Rattle.hex.specs.Hex.{is_hex_digit}
use Rattle.hex.proofs.HexLemmas.{decode_of-ok, decode_of-same}
use Rattle.adf_format.specs.declared.types.DataType.{DataType}
use Rattle.adf_format.specs.declared.types.DataType.TheVariants.{Mt, I4, I8, U4, U8, R4, R8, X4, X8, B1, C1, Lk}
use Rattle.adf_format.specs.Parts.{type_word, all_types}
use Rattle.adf_model.specs.declared.tree.NodeId.{NodeId}
use Rattle.adf_model.specs.declared.tree.Selection.{Selection}
use Rattle.call_script.specs.declared.calls.OpenMode.{OpenMode}
use Rattle.call_script.specs.declared.calls.OpenMode.TheVariants.{New, ReadWrite, ReadOnly}
use Rattle.call_script.specs.declared.dims.Dims.{Dims}
use Rattle.call_script.specs.Tokens.{mode_word, node_text, IsFileNumber, IsLimit, IsId, IsText, IsHex, IsDims}
use Rattle.call_script.specs.Fields.{Kind, Value, Values, IsOne, IsSelection, Spells, Takes, Reads, dims}
use Rattle.call_script.specs.Fields.Kind.{a_file, a_mode, a_limit, a_node, a_text, some_bytes, a_type, some_dims, a_selection}
use Rattle.call_script.proofs.Pieces.{Lacks, AllLack, all_lack-append, cut_same, decimal_lacks, node_lacks_space}
use Rattle.call_script.proofs.Items.{text_lacks_space}
use Rattle.call_script.proofs.Sizes.{dims_same, dims_lack_space}

pub same_head : (x y : List ℕ) (xs ys : List (List ℕ)) → x ∷ xs ≡ y ∷ ys → x ≡ y
same_head x y xs ys e = cc

pub same_tail : (x y : List ℕ) (xs ys : List (List ℕ)) → x ∷ xs ≡ y ∷ ys → xs ≡ ys
same_tail x y xs ys e = cc

pub same_Some : {A : Type 0} (one other : A) → ◌≡◌ {A = Option A} (Some one) (Some other) → one ≡ other
same_Some one other e = cc

-- ---- no space

pub lacks_by_test : (bs : List ℕ) → list_all (λ b. not (b == 32)) bs ≡ true → Lacks 32 bs
lacks_by_test [] e = All-nil (λ b. (b == 32) ≡ false)
lacks_by_test (b ∷ bs) e =
    let head : (b == 32) ≡ false = grind (arith, nat_tests) in
    let tail : list_all (λ b. not (b == 32)) bs ≡ true = grind (arith, nat_tests) in
    All-cons (λ b. (b == 32) ≡ false) b bs head (lacks_by_test bs tail)

mode_lacks : (mode : OpenMode) → Lacks 32 (mode_word mode)
mode_lacks New = lacks_by_test (mode_word New) refl
mode_lacks ReadWrite = lacks_by_test (mode_word ReadWrite) refl
mode_lacks ReadOnly = lacks_by_test (mode_word ReadOnly) refl

type_lacks : (kind : DataType) → Lacks 32 (type_word kind)
type_lacks Mt = lacks_by_test (type_word Mt) refl
type_lacks I4 = lacks_by_test (type_word I4) refl
type_lacks I8 = lacks_by_test (type_word I8) refl
type_lacks U4 = lacks_by_test (type_word U4) refl
type_lacks U8 = lacks_by_test (type_word U8) refl
type_lacks R4 = lacks_by_test (type_word R4) refl
type_lacks R8 = lacks_by_test (type_word R8) refl
type_lacks X4 = lacks_by_test (type_word X4) refl
type_lacks X8 = lacks_by_test (type_word X8) refl
type_lacks B1 = lacks_by_test (type_word B1) refl
type_lacks C1 = lacks_by_test (type_word C1) refl
type_lacks Lk = lacks_by_test (type_word Lk) refl

-- a space is no hexadecimal digit
digit_no_space : (b : ℕ) → is_hex_digit b ≡ true → (b == 32) ≡ false
digit_no_space b digit = ⊎_elim (λ e. absurd (no b (eqb-true b 32 e) digit)) (λ e. e) (cases_Bool (b == 32))
  where
    no : (b : ℕ) → b ≡ 32 → is_hex_digit b ≡ true → ⊥
    no b e digit = let false_too : is_hex_digit b ≡ false = ap is_hex_digit e in cc

digits_lack : (bs : List ℕ) → AllPass is_hex_digit bs → Lacks 32 bs
digits_lack [] digits = All-nil (λ b. (b == 32) ≡ false)
digits_lack (b ∷ bs) digits =
    All-cons (λ b. (b == 32) ≡ false) b bs (digit_no_space b (All-head (λ b. is_hex_digit b ≡ true) b bs digits)) (digits_lack bs (All-tail (λ b. is_hex_digit b ≡ true) b bs digits))

hex_lacks : (token bytes : List ℕ) → IsHex token bytes → Lacks 32 token
hex_lacks token bytes h = digits_lack token (decode_of-ok token bytes h.1).1

one_lacks : (P : List ℕ → Type 0) → ((token : List ℕ) → P token → Lacks 32 token) → (tokens : List (List ℕ)) → IsOne P tokens → AllLack 32 tokens
one_lacks P lacks tokens h = subst (AllLack 32) (sym h.1) (lacks h.0 h.2, tt)

number_lacks : (n : ℕ) → n < 2 ^ 64 → (token : List ℕ) → token ≡ decimal n → Lacks 32 token
number_lacks n small token e = subst (Lacks 32) (sym e) (decimal_lacks 32 n (omega arith) small)

-- the tokens of a field have no space
pub spells_lack : (kind : Kind) (tokens : List (List ℕ)) (value : Value kind) → Spells kind tokens value → AllLack 32 tokens
spells_lack a_file tokens n h = one_lacks _ (λ token k. number_lacks n (omega (arith, k.1)) token k.0) tokens h
spells_lack a_mode tokens mode h = one_lacks _ (λ token k. subst (Lacks 32) (sym k) (mode_lacks mode)) tokens h
spells_lack a_limit tokens n h = one_lacks _ (λ token k. number_lacks n (omega (arith, k.1.1)) token k.0) tokens h
spells_lack a_node tokens node h = one_lacks _ (λ token k. subst (Lacks 32) (sym k.0) (node_lacks_space node k.1)) tokens h
spells_lack a_text tokens text h = one_lacks _ (λ token k. text_lacks_space token text k) tokens h
spells_lack some_bytes tokens bytes h = one_lacks _ (λ token k. hex_lacks token bytes k) tokens h
spells_lack a_type tokens kind h = one_lacks _ (λ token k. subst (Lacks 32) (sym k) (type_lacks kind)) tokens h
spells_lack some_dims tokens dims h = one_lacks _ (λ token k. dims_lack_space token dims k) tokens h
spells_lack a_selection tokens selection h =
    subst (AllLack 32) (sym h.tokens_are) (dims_lack_space h.start _ h.start_is, (dims_lack_space h.end _ h.end_is, (dims_lack_space h.stride _ h.stride_is, tt)))

-- nor have those of many
pub reads_lack : (kinds : List Kind) (before after : List (List ℕ)) (values : Values kinds) → Reads before kinds values after → AllLack 32 after → AllLack 32 before
reads_lack [] before after values h none = subst (AllLack 32) (sym h) none
reads_lack (kind ∷ kinds) before after values h none =
    let rest : AllLack 32 h.0 = reads_lack kinds h.0 after values.1 h.2 none in
    subst (AllLack 32) (sym h.1.split) (all_lack-append 32 h.1.tokens h.0 (spells_lack kind h.1.tokens values.0 h.1.spelled) rest)

-- ---- one value

abbrev mode_of : List ℕ → Option OpenMode
mode_of word = find (λ mode. bytes_eq (mode_word mode) word) (New ∷ ReadWrite ∷ ReadOnly ∷ [])

mode_again : (mode : OpenMode) → mode_of (mode_word mode) ≡ Some mode
mode_again New = refl
mode_again ReadWrite = refl
mode_again ReadOnly = refl

mode_same : (token : List ℕ) (one other : OpenMode) → token ≡ mode_word one → token ≡ mode_word other → one ≡ other
mode_same token one other h k = same_Some one other (sym (mode_again one) ∙ ap mode_of (sym h ∙ k) ∙ mode_again other)

abbrev kind_of : List ℕ → Option DataType
kind_of word = find (λ kind. bytes_eq (type_word kind) word) all_types

kind_again : (kind : DataType) → kind_of (type_word kind) ≡ Some kind
kind_again Mt = refl
kind_again I4 = refl
kind_again I8 = refl
kind_again U4 = refl
kind_again U8 = refl
kind_again R4 = refl
kind_again R8 = refl
kind_again X4 = refl
kind_again X8 = refl
kind_again B1 = refl
kind_again C1 = refl
kind_again Lk = refl

kind_same : (token : List ℕ) (one other : DataType) → token ≡ type_word one → token ≡ type_word other → one ≡ other
kind_same token one other h k = same_Some one other (sym (kind_again one) ∙ ap kind_of (sym h ∙ k) ∙ kind_again other)

number_same : (token : List ℕ) (m n : ℕ) → m < 2 ^ 64 → n < 2 ^ 64 → token ≡ decimal m → token ≡ decimal n → m ≡ n
number_same token m n small short e f = decimal_injective m n small short (sym e ∙ f)

pub node_same : (token : List ℕ) (one other : NodeId) → (token ≡ node_text one) × IsId one → (token ≡ node_text other) × IsId other → one ≡ other
node_same token one other h k =
    let parts = cut_same 46 (decimal one.file) (decimal one.serial) (decimal other.file) (decimal other.serial) (decimal_lacks 46 one.file (omega arith) (omega (arith, h.1.0))) (decimal_lacks 46 other.file (omega arith) (omega (arith, k.1.0))) (sym h.0 ∙ k.0) in
    let files : one.file ≡ other.file = decimal_injective one.file other.file (omega (arith, h.1.0)) (omega (arith, k.1.0)) parts.0 in
    let serials : one.serial ≡ other.serial = decimal_injective one.serial other.serial h.1.1 k.1.1 parts.1 in
    ap (λ file. make file one.serial) files ∙ ap (λ serial. make other.file serial) serials
  where
    make : ℕ → ℕ → NodeId
    make file serial = record { file = file; serial = serial }

selection_same : (one other : Selection) (a b : List (List ℕ)) → a ≡ b → IsSelection a one → IsSelection b other → one ≡ other
selection_same one other a b e h k =
    let all : h.start ∷ h.end ∷ h.stride ∷ [] ≡ k.start ∷ k.end ∷ k.stride ∷ [] = sym h.tokens_are ∙ e ∙ k.tokens_are in
    let behind : h.end ∷ h.stride ∷ [] ≡ k.end ∷ k.stride ∷ [] = same_tail h.start k.start _ _ all in
    let last : h.stride ∷ [] ≡ k.stride ∷ [] = same_tail h.end k.end _ _ behind in
    let starts : dims one.rank one.start ≡ dims other.rank other.start = dims_same k.start _ _ (subst (λ t. IsDims t (dims one.rank one.start)) (same_head h.start k.start _ _ all) h.start_is) k.start_is in
    let ends : dims one.rank one.end ≡ dims other.rank other.end = dims_same k.end _ _ (subst (λ t. IsDims t (dims one.rank one.end)) (same_head h.end k.end _ _ behind) h.end_is) k.end_is in
    let strides : dims one.rank one.stride ≡ dims other.rank other.stride = dims_same k.stride _ _ (subst (λ t. IsDims t (dims one.rank one.stride)) (same_head h.stride k.stride _ _ last) h.stride_is) k.stride_is in
    ap (λ d. make d (dims one.rank one.end) (dims one.rank one.stride)) starts
    ∙ ap (λ d. make (dims other.rank other.start) d (dims one.rank one.stride)) ends
    ∙ ap (λ d. make (dims other.rank other.start) (dims other.rank other.end) d) strides
  where
    make : Dims → Dims → Dims → Selection
    make start end stride = record { rank = start.rank; start = start.sizes; end = end.sizes; stride = stride.sizes }

one_same : {V : Type 0} (P : List ℕ → V → Type 0) → ((token : List ℕ) (v w : V) → P token v → P token w → v ≡ w)
    → (v w : V) (a b x y : List (List ℕ)) → IsOne (λ token. P token v) a → IsOne (λ token. P token w) b → a ++ x ≡ b ++ y → (v ≡ w) × (x ≡ y)
one_same P same v w a b x y h k e =
    let all : h.0 ∷ x ≡ k.0 ∷ y = sym (ap (λ t. t ++ x) h.1) ∙ e ∙ ap (λ t. t ++ y) k.1 in
    let token : h.0 ≡ k.0 = same_head h.0 k.0 x y all in
    (same k.0 v w (subst (λ t. P t v) token h.2) k.2, same_tail h.0 k.0 x y all)

-- tokens that begin with a field tell its value and the rest
pub spells_same : (kind : Kind) (v w : Value kind) (a b x y : List (List ℕ)) → Spells kind a v → Spells kind b w → a ++ x ≡ b ++ y → (v ≡ w) × (x ≡ y)
spells_same a_file v w a b x y h k e = one_same (λ token n. (token ≡ decimal n) × IsFileNumber n) (λ token m n p q. number_same token m n (omega (arith, p.1)) (omega (arith, q.1)) p.0 q.0) v w a b x y h k e
spells_same a_mode v w a b x y h k e = one_same (λ token mode. token ≡ mode_word mode) mode_same v w a b x y h k e
spells_same a_limit v w a b x y h k e = one_same (λ token n. (token ≡ decimal n) × IsLimit n) (λ token m n p q. number_same token m n (omega (arith, p.1.1)) (omega (arith, q.1.1)) p.0 q.0) v w a b x y h k e
spells_same a_node v w a b x y h k e = one_same (λ token node. (token ≡ node_text node) × IsId node) node_same v w a b x y h k e
spells_same a_text v w a b x y h k e = one_same (λ token text. IsText token text) (λ token v w p q. same_Some v w (sym p ∙ q)) v w a b x y h k e
spells_same some_bytes v w a b x y h k e = one_same (λ token bytes. IsHex token bytes) (λ token v w p q. decode_of-same token v w p.1 q.1) v w a b x y h k e
spells_same a_type v w a b x y h k e = one_same (λ token kind. token ≡ type_word kind) kind_same v w a b x y h k e
spells_same some_dims v w a b x y h k e = one_same (λ token dims. IsDims token dims) dims_same v w a b x y h k e
spells_same a_selection v w a b x y h k e =
    let all : h.start ∷ h.end ∷ h.stride ∷ x ≡ k.start ∷ k.end ∷ k.stride ∷ y = sym (ap (λ t. t ++ x) h.tokens_are) ∙ e ∙ ap (λ t. t ++ y) k.tokens_are in
    let behind : h.end ∷ h.stride ∷ x ≡ k.end ∷ k.stride ∷ y = same_tail h.start k.start _ _ all in
    let last : h.stride ∷ x ≡ k.stride ∷ y = same_tail h.end k.end _ _ behind in
    let starts : h.start ≡ k.start = same_head _ _ _ _ all in
    let ends : h.end ≡ k.end = same_head _ _ _ _ behind in
    let strides : h.stride ≡ k.stride = same_head _ _ _ _ last in
    let tokens : a ≡ b = h.tokens_are ∙ ap (λ t. t ∷ h.end ∷ h.stride ∷ []) starts ∙ ap (λ t. k.start ∷ t ∷ h.stride ∷ []) ends ∙ ap (λ t. k.start ∷ k.end ∷ t ∷ []) strides ∙ sym k.tokens_are in
    (selection_same v w a b tokens h k, same_tail h.stride k.stride x y last)

pub takes_same : (kind : Kind) (before : List (List ℕ)) (v w : Value kind) (x y : List (List ℕ)) → Takes before kind v x → Takes before kind w y → (v ≡ w) × (x ≡ y)
takes_same kind before v w x y h k = spells_same kind v w h.tokens k.tokens x y h.spelled k.spelled (sym h.split ∙ k.split)

-- and so do those that begin with many
pub reads_same : (kinds : List Kind) (before x y : List (List ℕ)) (v w : Values kinds) → Reads before kinds v x → Reads before kinds w y → (v ≡ w) × (x ≡ y)
reads_same [] before x y v w h k = (refl, sym h ∙ k)
reads_same (kind ∷ kinds) before x y v w h k =
    let first = takes_same kind before v.0 w.0 h.0 k.0 h.1 k.1 in
    let rest = reads_same kinds k.0 x y v.1 w.1 (subst (λ middle. Reads middle kinds v.1 x) first.1 h.2) k.2 in
    (ap (λ a. make a v.1) first.0 ∙ ap (λ b. make w.0 b) rest.0, rest.1)
  where
    make : Value kind → Values kinds → Values (kind ∷ kinds)
    make a b = (a, b)
