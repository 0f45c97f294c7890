-- What a call remembers of the nodes of a pool, whose slots it replaces.
use Rattle.std.specs.Prelude.{◌≡◌, ℕ, ◌<◌, ◌≤◌, ◌^◌, List, length, Option, Some, None, slice_get}
use Rattle.std.specs.Prelude.{slice_index_or, ℤ, ◌*◌}
use Rattle.std.specs.Int.RustNames.{unsigned_abs}
use Rattle.std.specs.BTreeMap.{BTreeMap}
use Rattle.core_terms.specs.declared.trees.CTerm.{CTerm}
use Rattle.core_terms.specs.declared.trees.CForm.{CForm}
use Rattle.core_terms.specs.declared.nodes.FormNode.{FormNode}
use Rattle.core_terms.specs.declared.nodes.TermNode.{TermNode}
use Rattle.core_terms.specs.declared.marks.Mark.{Mark}
use Rattle.core_terms.specs.Folding.{number_of, truth_of, folded_term, folded_form}
use Rattle.core_terms.specs.Pools.{Pooled, form_or, term_or, form_of_node, term_of_node, IsFormWithin, IsTermWithin}
use Rattle.core_terms.specs.Marks.{Fits}
use Rattle.wp_substitution.specs.declared.chains.Chain.{Chain}
use Rattle.wp_substitution.specs.declared.memos.FormKnown.{FormKnown}
use Rattle.wp_substitution.specs.declared.memos.TermKnown.{TermKnown}
use Rattle.wp_substitution.specs.declared.memos.Memo.{Memo}
use Rattle.wp_substitution.specs.declared.memos.Part.{Part}
use Rattle.wp_substitution.specs.declared.turning.FormTurn.{FormTurn}
use Rattle.wp_substitution.specs.declared.turning.TermTurn.{TermTurn}
use Rattle.wp_substitution.specs.Chains.{chain_at, form_by, term_by, after_weights, after_weight}

-- what is known at a place, if anything is
abbrev pub known_at : {X : Type 0} → List (Option X) → ℕ → Option X
known_at xs i = slice_index_or xs i None

-- the formula stands at this number, and this is its truth
pub record IsFormKnown (p : Pooled) (f : CForm) (k : FormKnown) : Type 0 where
  pub tree : slice_get p.forms k.id.place ≡ Some f
  pub truth : k.truth ≡ truth_of f

-- the term stands at this number, and this is the number that it is worth
pub record IsTermKnown (p : Pooled) (t : CTerm) (k : TermKnown) : Type 0 where
  pub tree : slice_get p.terms k.id.place ≡ Some t
  pub number : k.number ≡ number_of t

-- what is remembered of a tree of the pool is what the tree becomes where its slots are replaced; only trees below the
-- memo's mark are remembered, and their parts are below it too
pub record Remembers (chains : BTreeMap ℕ Chain) (p : Pooled) (m : Memo) : Type 0 where
  pub fits : Fits p m.mark
  pub form_count : length m.forms ≡ m.mark.forms
  pub term_count : length m.terms ≡ m.mark.terms
  pub forms : (i : ℕ) (k : FormKnown) → known_at m.forms i ≡ Some k →
      IsFormKnown p (form_by chains (form_or p.forms i)) k
  pub terms : (i : ℕ) (k : TermKnown) → known_at m.terms i ≡ Some k →
      IsTermKnown p (term_by chains (term_or p.terms i)) k

-- so of a memo that knows nothing, whatever the slots are replaced by
abbrev pub IsNewMemo : Pooled → Memo → Type 0
IsNewMemo p m = (chains : BTreeMap ℕ Chain) → Remembers chains p m

-- a tree below the mark that weighs at most 2^124 where a slot weighs 2^62
pub record IsFormPart (p : Pooled) (mark : Mark) (i : ℕ) : Type 0 where
  pub place : i < mark.forms
  pub weight : after_weight (form_or p.forms i) ≤ 2 ^ 124

pub record IsTermPart (p : Pooled) (mark : Mark) (i : ℕ) : Type 0 where
  pub place : i < mark.terms
  pub weight : (after_weights (term_or p.terms i)).most ≤ 2 ^ 124

abbrev pub IsPart : Pooled → Mark → Part → Type 0
IsPart p mark (Part.Form id) = IsFormPart p mark id.place
IsPart p mark (Part.Term id) = IsTermPart p mark id.place

-- all parts of a node are such trees; a multiple weighs no more either
abbrev pub AreFormParts : Pooled → Mark → FormNode → Type 0
AreFormParts p mark FormNode.Top = Unit {0}
AreFormParts p mark FormNode.Bottom = Unit {0}
AreFormParts p mark (FormNode.AtLeast t) = IsTermPart p mark t.place
AreFormParts p mark (FormNode.Zero t) = IsTermPart p mark t.place
AreFormParts p mark (FormNode.Not f) = IsFormPart p mark f.place
AreFormParts p mark (FormNode.And f g) = IsFormPart p mark f.place × IsFormPart p mark g.place
AreFormParts p mark (FormNode.Or f g) = IsFormPart p mark f.place × IsFormPart p mark g.place

abbrev pub AreTermParts : Pooled → Mark → TermNode → Type 0
AreTermParts p mark (TermNode.Const c) = Unit {0}
AreTermParts p mark (TermNode.Slot n) = Unit {0}
AreTermParts p mark (TermNode.Param n) = Unit {0}
AreTermParts p mark (TermNode.Add a b) = IsTermPart p mark a.place × IsTermPart p mark b.place
AreTermParts p mark (TermNode.Sub a b) = IsTermPart p mark a.place × IsTermPart p mark b.place
AreTermParts p mark (TermNode.Scale k a) =
    IsTermPart p mark a.place × (unsigned_abs k * (after_weights (term_or p.terms a.place)).own ≤ 2 ^ 124)
AreTermParts p mark (TermNode.Div a k) = IsTermPart p mark a.place
AreTermParts p mark (TermNode.Mod a k) = IsTermPart p mark a.place
AreTermParts p mark (TermNode.Ite c a b) =
    IsFormPart p mark c.place × (IsTermPart p mark a.place × IsTermPart p mark b.place)

-- the node that a formula becomes, before it is folded, and its truth
pub record IsFormTurn (p : Pooled) (f : CForm) (turn : FormTurn) : Type 0 where
  pub parts : IsFormWithin (length p.forms) (length p.terms) turn.node
  pub tree : folded_form (form_of_node p.forms p.terms turn.node) ≡ f
  pub truth : turn.truth ≡ truth_of (form_of_node p.forms p.terms turn.node)

-- the node that a term becomes, before it is folded, and its number
pub record IsNodeTurn (p : Pooled) (t : CTerm) (node : TermNode) (m : Option ℤ) : Type 0 where
  pub parts : IsTermWithin (length p.forms) (length p.terms) node
  pub tree : folded_term (term_of_node p.forms p.terms node) ≡ t
  pub number : m ≡ number_of (term_of_node p.forms p.terms node)

-- what a term becomes: a node, a term of the pool, or what a slot holds after the writes
abbrev pub IsTermTurn : BTreeMap ℕ Chain → Pooled → CTerm → TermTurn → Type 0
IsTermTurn chains p t (TermTurn.Node node number) = IsNodeTurn p t node number
IsTermTurn chains p t (TermTurn.Term k) = IsTermKnown p t k
IsTermTurn chains p t (TermTurn.Slot n) = chain_at chains n ≡ t
