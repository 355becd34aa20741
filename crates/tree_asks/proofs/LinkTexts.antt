-- What is told of the text of a link, and why it is not.
use Rattle.std.proofs.Common.{◌≡◌, ℕ, ◌-◌, ◌^◌, ◌<◌, ◌≤◌, min, List, ◌∷◌, [], length, refl, sym, ◌∙◌, ap, subst, arith, Bool, true, false, not, Option, None, Some, inl, inr}
use Rattle.std.specs.List.{All}
use Rattle.std.specs.Prelude.{Result, Ok, Err, IfOk, IfErr, if◌then◌else◌}
use Rattle.adf_format.specs.declared.types.DataType.{DataType}
use Rattle.adf_format.specs.declared.types.DataType.TheVariants.{Mt, I4, I8, U4, U8, R4, R8, X4, X8, B1, C1, Lk}
use Rattle.adf_format.specs.Names.{data_size, is_lk}
use Rattle.adf_format.specs.RecordFields.{node_length}
use Rattle.adf_format.specs.RuleNumbers.{IsRule}
use Rattle.adf_format.specs.Tree.{Tree, Node, node_at, is_link, IsLinkNode}
use Rattle.adf_format.specs.Placement.{Placement}
use Rattle.adf_model.specs.declared.error.AdfError.{AdfError}
use Rattle.adf_model.specs.declared.error.AdfError.TheVariants as error
use Rattle.adf_model.specs.declared.lists.Run.{Run}
use Rattle.adf_model.specs.declared.tree.NodeId.{NodeId}
use Rattle.adf_model.specs.declared.tree.Query.{Query}
use Rattle.adf_model.specs.declared.tree.Reply.{Reply}
use Rattle.adf_model.specs.Answers.{field_within, text_reply}
use Rattle.adf_model.specs.Follow.{text_in}
use Rattle.adf_model.specs.Tests.{checked, if_there}
use Rattle.adf_model.proofs.Basics.{not_true, same_Ok, same_Some, not_Err}
use Rattle.adf_model.specs.Selection.{element_bytes}
use Rattle.adf_format.specs.Links.{is_link_text}
use Rattle.adf_records.specs.declared.NodeHeader.{NodeHeader}
use Rattle.cg_io.specs.Answers.{IsRefusal}
use Rattle.cg_io.proofs.ReadLaws.{rose_later}
use Rattle.node_reads.specs.Reads.{ReadAt, IsUnread}
use Rattle.node_reads.specs.Headers.{IsHeader}
use Rattle.strided.specs.RunLists.{spread}
use Rattle.adf_data.specs.declared.place.DataPlace.{DataPlace}
use Rattle.adf_data.specs.Runs.{EndsIn, NoRuns}
use Rattle.tree_edits.specs.declared.memory.Core.{Core}
use Rattle.tree_edits.specs.Causes.{HeaderBreaks}
use Rattle.tree_edits.specs.Rows.{Means, row_of}
use Rattle.tree_edits.specs.Edits.{memory_of}
use Rattle.tree_edits.proofs.Nodes.{no_node}
use Rattle.tree_asks.specs.Told.{OfEach, IsWanted, Tells, map_ok}
use Rattle.tree_asks.specs.Headers.{IsItsHeader, HeaderSays, dims_of}
use Rattle.tree_asks.specs.Causes.{IsTextCause, IsLinkCause, IsNoText}
use Rattle.tree_asks.proofs.Answered.{within_is}
use Rattle.tree_asks.proofs.NodeData.{HasBytes, place_in, whole, whole_bytes, whole_ends, bytes_held, size_is}
use Rattle.tree_asks.proofs.DataReads.{ReadsRuns}

lk_of : (kind : DataType) → is_lk kind ≡ true → kind ≡ Lk
lk_of Mt e = cc
lk_of I4 e = cc
lk_of I8 e = cc
lk_of U4 e = cc
lk_of U8 e = cc
lk_of R4 e = cc
lk_of R8 e = cc
lk_of X4 e = cc
lk_of X8 e = cc
lk_of B1 e = cc
lk_of C1 e = cc
lk_of Lk e = refl

-- ---- a node that is a link, or none

module _ (image : List ℕ) (core : Core) (serial place : ℕ) (h : NodeHeader) (tree : Tree) (p : Placement) (m : Means image tree p (memory_of core)) (i : IsItsHeader image tree p serial place h) where
  pub text_is : (link : Bool) → is_lk h.kind ≡ link → text_in (node_at tree serial) ≡ (if link then i.node.bytes else None)
  text_is link e = ap text_in i.is.live ∙ ap (λ b. if b then i.node.bytes else None) (sym (ap is_lk i.fields.kind) ∙ e)

  pub its_link : is_lk h.kind ≡ true → IsLinkNode i.node
  its_link e = (m.laid_out.is_tree.each serial i.node i.is.live).link (sym i.fields.kind ∙ lk_of h.kind e)

  pub short_text : is_lk h.kind ≡ true → data_size h.kind (dims_of h) ≤ 4096
  short_text e =
      let l = its_link e in
      let size : data_size h.kind (dims_of h) ≡ data_size Lk (length l.text ∷ []) =
      ap (λ k. data_size k (dims_of h)) (lk_of h.kind e) ∙ ap (data_size Lk) (i.dims ∙ l.sized) in
      let short = l.short in
      omega (arith, size, short)

-- ---- the data of a link

abbrev pub Its : Core → ℕ → ℕ → NodeHeader → Option (List ℕ) → Type 0
Its core serial place h held = OfEach core held (λ image tree p. IsItsHeader image tree p serial place h)

abbrev pub text_at : ℕ → Tree → Result (Option (List ℕ)) AdfError
text_at serial tree = Ok (text_in (node_at tree serial))

module _ (core : Core) (serial place : ℕ) (h : NodeHeader) (link : is_lk h.kind ≡ true) where
  pub long_refused : {A : Type 0} (wanted : Tree → Result A AdfError) (held : Option (List ℕ)) (n : ℕ) (e : AdfError) → Its core serial place h held → n ≡ min (data_size h.kind (dims_of h)) (2 ^ 64 - 1) → 4096 < n → Tells core held wanted (Err e)
  long_refused wanted None n e its is long = tt
  long_refused wanted (Some image) n e its is long = λ tree p m.
      let short = short_text image core serial place h tree p m (its tree p m) link in absurd (omega (arith, is, long, short))

  module _ (d : DataPlace) (d_is : d ≡ place_in h) (runs : List Run) (n : ℕ) (n_is : n ≡ min (data_size h.kind (dims_of h)) (2 ^ 64 - 1)) (run : runs ≡ whole n) where
    link_bytes : (image : List ℕ) (tree : Tree) (p : Placement) (m : Means image tree p (memory_of core)) (i : IsItsHeader image tree p serial place h) → HasBytes image i.node i.parts h
    link_bytes image tree p m i = let l = its_link image core serial place h tree p m i link in bytes_held image core serial place h tree p m i l.text l.held

    long_is : (image : List ℕ) (tree : Tree) (p : Placement) (m : Means image tree p (memory_of core)) (i : IsItsHeader image tree p serial place h) (b : HasBytes image i.node i.parts h) → length b.bytes ≡ n
    long_is image tree p m i b =
        let long = b.long in
        let size = size_is image core serial place h tree p m i in
        let short = short_text image core serial place h tree p m i link in
        omega (arith, n_is, long, size, short)

    within : (k : ℕ) → k ≡ n → All (EndsIn 1 k) runs
    within k e = subst (All (EndsIn 1 k)) (sym run) (whole_ends n k (omega (arith, e)))

    pub data_told : (held : Option (List ℕ)) (before now : ℕ) (r : Result (List ℕ) AdfError) → Its core serial place h held → IfOk r (λ text. ReadsRuns d 1 runs text held) → IfErr r (IsRefusal (NoRuns d 1 runs held) before now)
        → Tells core held (text_at serial) (map_ok (λ text. Some text) r)
    data_told None before now r its read refused = tt
    data_told (Some image) before now (Ok text) its read refused = λ tree p m.
        let i = its tree p m in
        let b = link_bytes image tree p m i in
        let long = long_is image tree p m i b in
        let same : text ≡ b.bytes =
        subst (λ x. ReadsRuns x 1 runs text (Some image)) d_is read i.parts b.bytes b.holds (within (length b.bytes) long)
        ∙ ap (λ rs. element_bytes 1 (spread rs) b.bytes) run ∙ whole_bytes n b.bytes long in
        ap (λ o. Ok o) (text_is image core serial place h tree p m i true link ∙ b.are ∙ ap (λ t. Some t) (sym same))
    data_told (Some image) before now (Err error.Memory) its read refused = λ tree p m. tt
    data_told (Some image) before now (Err error.ReadFault) its read refused = λ tree p m. tt
    data_told (Some image) before now (Err (error.Layout rule at)) its read refused = λ tree p m.
        let i = its tree p m in
        let b = link_bytes image tree p m i in
        absurd (subst (λ x. NoRuns x 1 runs (Some image)) d_is refused.1 i.parts b.bytes b.holds (within (length b.bytes) (long_is image tree p m i b)))
    data_told (Some image) before now (Err other) its read refused = absurd refused

    pub data_small : data_size h.kind (dims_of h) ≤ 4096 → All (EndsIn 1 (2 ^ 30)) runs
    data_small short = subst (All (EndsIn 1 (2 ^ 30))) (sym run) (whole_ends n (2 ^ 30) (omega (arith, n_is, short)))

  pub told_text : (held : Option (List ℕ)) (text : List ℕ) → Its core serial place h held → Tells core held (text_at serial) (Ok (Some text))
      → OfEach core held (λ image tree p. (node : Node) × (node_at tree serial ≡ Some node) × (is_link node ≡ true) × (node.bytes ≡ Some text) × IsLinkNode node)
  told_text None text its told = tt
  told_text (Some image) text its told = λ tree p m.
      let i = its tree p m in (
        i.node,
        i.is.live,
        sym (ap is_lk i.fields.kind) ∙ link,
        sym (text_is image core serial place h tree p m i true link) ∙ same_Ok (told tree p m),
        its_link image core serial place h tree p m i link,
      )

-- a node that is no link, or that is not there
pub no_link : (core : Core) (serial place : ℕ) (h : NodeHeader) (held : Option (List ℕ)) → Its core serial place h held → is_lk h.kind ≡ false → Tells core held (text_at serial) (Ok None)
no_link core serial place h None its e = tt
no_link core serial place h (Some image) its e = λ tree p m. ap (λ o. Ok o) (text_is image core serial place h tree p m (its tree p m) false e)

pub nothing_there : (core : Core) (serial : ℕ) (held : Option (List ℕ)) → row_of core.rows.items serial ≡ None → Tells core held (text_at serial) (Ok None)
nothing_there core serial None none = tt
nothing_there core serial (Some image) none = λ tree p m. ap (λ o. Ok (text_in o)) (no_node image (memory_of core) serial none tree p m)

-- ---- the reply

pub not_a_link : (core : Core) (at : NodeId) (place : ℕ) (h : NodeHeader) (held : Option (List ℕ)) → Its core at.serial place h held → is_lk h.kind ≡ false → Tells core held (λ tree. field_within tree at (Query.LinkText at)) (Err AdfError.NotALink)
not_a_link core at place h None its e = tt
not_a_link core at place h (Some image) its e = λ tree p m.
    let i = its tree p m in
    within_is tree at (Query.LinkText at) i.node i.is.live
    ∙ ap (λ b. checked ((not b, AdfError.NotALink) ∷ []) (if_there i.node.bytes AdfError.NotALink (λ text. Ok (text_reply text)))) (sym (ap is_lk i.fields.kind) ∙ e)

module _ (core : Core) (at : NodeId) (place : ℕ) (h : NodeHeader) (link : is_lk h.kind ≡ true) (text : List ℕ) where
  pub cut_told : (held : Option (List ℕ)) (r : Result Reply AdfError) → Its core at.serial place h held → Tells core held (text_at at.serial) (Ok (Some text)) → IfOk r (λ reply. reply ≡ text_reply text) → IfErr r (IsNoText text place)
      → Tells core held (λ tree. field_within tree at (Query.LinkText at)) r
  cut_told None r its told parts refused = tt
  cut_told (Some image) r its told parts refused = λ tree p m. by_node tree (told_text core at.serial place h link (Some image) text its told tree p m) r parts refused
    where
      reply_is : (tree : Tree) (n : (node : Node) × (node_at tree at.serial ≡ Some node) × (is_link node ≡ true) × (node.bytes ≡ Some text) × IsLinkNode node) → field_within tree at (Query.LinkText at) ≡ Ok (text_reply text)
      reply_is tree n =
          within_is tree at (Query.LinkText at) n.0 n.1
          ∙ ap (λ b. checked ((not b, AdfError.NotALink) ∷ []) (if_there n.0.bytes AdfError.NotALink (λ text. Ok (text_reply text)))) n.2
          ∙ ap (λ o. if_there o AdfError.NotALink (λ text. Ok (text_reply text))) n.3

      by_node : (tree : Tree) → (node : Node) × (node_at tree at.serial ≡ Some node) × (is_link node ≡ true) × (node.bytes ≡ Some text) × IsLinkNode node → (r : Result Reply AdfError) → IfOk r (λ reply. reply ≡ text_reply text) → IfErr r (IsNoText text place) → IsWanted (field_within tree at (Query.LinkText at)) r
      by_node tree n (Ok reply) parts refused = reply_is tree n ∙ ap (λ x. Ok x) (sym parts)
      by_node tree n (Err error.Memory) parts refused = tt
      by_node tree n (Err error.ReadFault) parts refused = absurd refused
      by_node tree n (Err (error.Layout rule k)) parts refused =
          let l = n.4 in
          let same : l.text ≡ text = same_Some l.text text (sym l.held ∙ n.3) in
          absurd (not_true (sym refused.2 ∙ ap is_link_text (sym same) ∙ l.spelled))
      by_node tree n (Err other) parts refused = absurd refused

-- a refusal of the text is one of the reply: it is free
pub refused_text : (core : Core) (at : NodeId) (held mid : Option (List ℕ)) (e : AdfError) → mid ≡ held → Tells core mid (text_at at.serial) (Err e) → Tells core held (λ tree. field_within tree at (Query.LinkText at)) (Err e)
refused_text core at held mid e still told = by_held held (subst (λ x. Tells core x (text_at at.serial) (Err e)) still told)
  where
    freed : (tree : Tree) (e : AdfError) → IsWanted (text_at at.serial tree) (Err e) → IsWanted (field_within tree at (Query.LinkText at)) (Err e)
    freed tree error.Memory w = tt
    freed tree error.ReadFault w = tt
    freed tree other w = absurd (not_Err (sym w))

    by_held : (held : Option (List ℕ)) → Tells core held (text_at at.serial) (Err e) → Tells core held (λ tree. field_within tree at (Query.LinkText at)) (Err e)
    by_held None t = tt
    by_held (Some image) t = λ tree p m. freed tree e (t tree p m)

-- ---- causes

pub text_unread : (core : Core) (held : Option (List ℕ)) (place before now : ℕ) (e : AdfError) → IsUnread (HeaderBreaks core.wide held place) before now e → IsTextCause core held place before now e
text_unread core held place before now error.ReadFault c = c
text_unread core held place before now (error.Layout rule at) c = inl c
text_unread core held place before now other c = absurd c

-- a cause of the text is one of the reply
pub link_cause : (core : Core) (held : Option (List ℕ)) (place before now : ℕ) (e : AdfError) → IsTextCause core held place before now e → IsLinkCause core held place before now e
link_cause core held place before now error.NotALink c = absurd c
link_cause core held place before now error.Memory c = c
link_cause core held place before now error.ReadFault c = c
link_cause core held place before now (error.Layout rule at) c = c
link_cause core held place before now other c = absurd c

module _ (core : Core) (held : Option (List ℕ)) (place : ℕ) (h : NodeHeader) (read : ReadAt held place (node_length core.wide) (IsHeader core.wide place None h)) (link : is_lk h.kind ≡ true) where
  says : HeaderSays core.wide held place (λ h. is_lk h.kind ≡ true)
  says = record { header = h; read = read; says = link }

  pub text_memory : (before now : ℕ) (e : AdfError) → e ≡ AdfError.Memory → IsTextCause core held place before now e
  text_memory before now e is = subst (λ x. IsTextCause core held place before now x) (sym is) says

  pub text_fails : (rule at before now : ℕ) → IsRule rule → IsTextCause core held place before now (AdfError.Layout rule at)
  text_fails rule at before now is = inr (is, says)

  pub text_unheld : {T : Type 0} (unread : Type 0) (before now : ℕ) (r : Result T AdfError) → IfErr r (IsRefusal unread before now) → IfErr r (IsTextCause core held place before now)
  text_unheld unread before now (Ok x) c = tt
  text_unheld unread before now (Err error.Memory) c = says
  text_unheld unread before now (Err error.ReadFault) c = c
  text_unheld unread before now (Err (error.Layout rule at)) c = inr (c.0, says)
  text_unheld unread before now (Err other) c = absurd c

  -- a cause that is later
  pub text_later : (before middle now : ℕ) (e : AdfError) → before ≤ middle → IsTextCause core held place middle now e → IsTextCause core held place before now e
  text_later before middle now error.Memory le c = c
  text_later before middle now error.ReadFault le c = rose_later before middle now le c
  text_later before middle now (error.Layout rule at) le c = c
  text_later before middle now other le c = absurd c

  pub uncut : {T : Type 0} (text : List ℕ) (before now : ℕ) (r : Result T AdfError) → IfErr r (IsNoText text place) → IfErr r (IsLinkCause core held place before now)
  uncut text before now (Ok x) c = tt
  uncut text before now (Err error.Memory) c = says
  uncut text before now (Err (error.Layout rule at)) c = inr (subst IsRule (sym c.0) (omega arith, omega arith), says)
  uncut text before now (Err other) c = absurd c
