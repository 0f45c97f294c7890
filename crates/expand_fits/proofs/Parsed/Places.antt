-- The words of a document stand at rising places, so that the names of programs stand at places of their own, and so
-- do the first words of enumerations.
use Rattle.std.proofs.Common.{◌≡◌, ℕ, suc, ◌+◌, ◌≤◌, ◌<◌, List, [], ◌∷◌, ◌++◌, Bool, true, false, not, ◌&&◌, ◌||◌}
use Rattle.std.proofs.Common.{Option, Some, None, All, length, refl, sym, subst, arith, nat_eq}
use Rattle.std.specs.List.{flat_map, list_any}
use Rattle.std.proofs.lemmas.Bool.{ne_eqb}
use Rattle.std.proofs.lemmas.Grind.{flat_map-append}
use Rattle.std.proofs.lemmas.List.Elements.{All-nil, All-cons}
use Rattle.grammar_theory.specs.Words.{Word, words, IsSublist, is_done, is_left_out, is_kept}
use Rattle.grammar_theory.proofs.WordOrder.{none_kept, kept_both, kept_again, kept_first, kept_second}
use Rattle.unity_syntax.specs.declared.declaration.Plain.{Plain}
use Rattle.unity_syntax.specs.declared.declaration.VarType.{VarType}
use Rattle.unity_syntax.specs.declared.declaration.Var.{Var}
use Rattle.unity_syntax.specs.declared.program.Program.{Program}
use Rattle.unity_syntax.specs.declared.document.Part.{Part}
use Rattle.unity_syntax.specs.declared.document.Document.{Document}
use Rattle.unity_syntax.specs.View.{view_option, view_list, view_some, view_name, view_range, view_plain}
use Rattle.unity_syntax.specs.View.{view_var_type, view_var, view_def, view_init, view_items, view_initially}
use Rattle.unity_syntax.specs.View.{view_program, view_proof, view_schedule, view_certificates, view_part, view}
use Rattle.meaning_documents.specs.Setting.{element_type, declarations, programs_among}
use Rattle.names_rules.specs.Declarations.{items_of}
use Rattle.core_terms.specs.Conditions.{EachPair}
use Rattle.expand_declarations.specs.Slots.{declared_by}
use Rattle.expand_fits_parts.proofs.lemmas_from_expand_correct.Declared.Lists.{Pairs, each_pair}
use Rattle.expand_fits_parts.specs.Forms.ShowingLaws.{names_apart}
use Rattle.expand_fits.specs.StartConditions.{plain_enumeration, enumerations}
use Rattle.unity_parser.specs.ParseAnswers.{WordsRise}

-- what is left out changes nothing
rise_from : (a b to : ℕ) (ws : List Word) → a ≤ b → WordsRise b to ws → WordsRise a to ws
rise_from a b to [] h r = omega arith
rise_from a b to (w ∷ ws) h r = (omega (arith, r.0), r.1, r.2)

pub rise_among : (us vs : List Word) → IsSublist us vs → (from to : ℕ) → WordsRise from to vs → WordsRise from to us
rise_among [] [] is_done from to r = r
rise_among (u ∷ us) [] h from to r = elim h [ ]
rise_among us (v ∷ vs) (is_left_out h) from to r =
    let k = rise_among us vs h (suc v.0) to r.2 in
    rise_from from (suc v.0) to us (omega (arith, r.0)) k
rise_among (u ∷ us) (v ∷ vs) (is_kept h) from to r = (r.0, r.1, rise_among us vs h (suc u.0) to r.2)

-- rising words are not more than the places
pub few_words : (ws : List Word) (from to : ℕ) → WordsRise from to ws → (from ≤ to) × (length ws + from ≤ to)
few_words [] from to r = let h : from ≤ to = r in (h, omega (arith, h))
few_words (w ∷ ws) from to r =
    let k = few_words ws (suc w.0) to r.2 in (omega (arith, r.0, k.0), omega (arith, r.0, k.1))

-- programs

-- the names of the programs that are no unions
abbrev heads_of : Program → List Word
heads_of (Program.Union at name left right) = []
heads_of (Program.Plain at name declare always initially start items) = (name.at, name.text) ∷ []

abbrev heads : List Part → List Word
heads [] = []
heads (Part.Program at program ∷ rest) = heads_of program ++ heads rest
heads (Part.Proof at proof ∷ rest) = heads rest

head_kept : (p : Program) → IsSublist (heads_of p) (words (view_program p))
head_kept (Program.Union at name left right) = none_kept ((name.at, name.text) ∷ words (view_name left)
    ++ words (view_name right))
head_kept (Program.Plain at name declare always initially start items) = is_kept (none_kept (words
    (view_option (view_list view_var) declare) ++ (words (view_option (view_list view_def) always) ++ (words
    (view_option view_initially initially) ++ (words (view_option (view_some view_init) start)
    ++ words (view_items items))))))

heads_kept : (parts : List Part) → IsSublist (heads parts) (words (view_list view_part parts))
heads_kept [] = is_done
heads_kept (Part.Program at program ∷ rest) = kept_both (head_kept program) (heads_kept rest)
heads_kept (Part.Proof at proof ∷ rest) =
    kept_again (heads_kept rest) (kept_second (words (view_proof proof)) (words (view_list view_part rest)))

both_true : (a b : Bool) → a ≡ false → b ≡ true → (not a && b) ≡ true
both_true false b h k = k
both_true true b h k = cc h

none_true : (a b : Bool) → a ≡ false → b ≡ false → (a || b) ≡ false
none_true false b h k = k
none_true true b h k = cc h

-- a place that none of these reach
abbrev Before : List ℕ → ℕ → Type 0
Before before from = (n : ℕ) → from ≤ n → list_any (nat_eq n) before ≡ false

before_more : (before : List ℕ) (from at : ℕ) → from ≤ at → Before before from → Before (at ∷ before) (suc at)
before_more before from at h b n k = none_true (nat_eq n at) (list_any (nat_eq n) before)
    (ne_eqb n at (λ e. omega (arith, k, e))) (b n (omega (arith, h, k)))

heads_apart : (before : List ℕ) (parts : List Part) (from to : ℕ) → Before before from →
    WordsRise from to (heads parts) → names_apart before (programs_among parts) ≡ true
heads_apart before [] from to b r = refl
heads_apart before (Part.Program at (Program.Union at2 name left right) ∷ rest) from to b r =
    heads_apart before rest from to b r
heads_apart before (Part.Program at (Program.Plain at2 name declare always initially start items) ∷ rest) from to b r =
    both_true (list_any (nat_eq name.at) before) (names_apart (name.at ∷ before) (programs_among rest))
    (b name.at r.0)
    (heads_apart (name.at ∷ before) rest (suc name.at) to (before_more before from name.at r.0 b) r.2)
heads_apart before (Part.Proof at proof ∷ rest) from to b r = heads_apart before rest from to b r

-- enumerations

-- the first word of an enumeration
abbrev mark_of : Plain → List Word
mark_of (Plain.Boolean at) = []
mark_of (Plain.Range at range) = []
mark_of (Plain.Words at first rest) = (first.at, first.text) ∷ []

abbrev marks : List Var → List Word
marks vs = flat_map (λ v. mark_of (element_type v.kind)) vs

plain_kept : (p : Plain) → IsSublist (mark_of p) (words (view_plain p))
plain_kept (Plain.Boolean at) = is_done
plain_kept (Plain.Range at range) = none_kept (words (view_range range))
plain_kept (Plain.Words at first rest) = is_kept (none_kept (words (view_list view_name rest)))

type_kept : (kind : VarType) → IsSublist (mark_of (element_type kind)) (words (view_var_type kind))
type_kept (VarType.Plain at plain) = plain_kept plain
type_kept (VarType.Array at range plain) =
    kept_again (plain_kept plain) (kept_second (words (view_range range)) (words (view_plain plain)))

vars_kept : (vs : List Var) → IsSublist (marks vs) (words (view_list view_var vs))
vars_kept [] = is_done
vars_kept (v ∷ vs) = kept_both (is_left_out (type_kept v.kind)) (vars_kept vs)

declared_kept : (o : Option (List Var)) → IsSublist (marks (items_of o)) (words (view_option (view_list view_var) o))
declared_kept None = is_done
declared_kept (Some vs) = vars_kept vs

program_kept : (p : Program) → IsSublist (marks (declarations p)) (words (view_program p))
program_kept (Program.Union at name left right) = none_kept ((name.at, name.text) ∷ words (view_name left)
    ++ words (view_name right))
program_kept (Program.Plain at name declare always initially start items) =
    is_left_out (kept_again (declared_kept declare) (kept_first (words (view_option (view_list view_var) declare))
    (words (view_option (view_list view_def) always) ++ (words (view_option view_initially initially)
    ++ (words (view_option (view_some view_init) start) ++ words (view_items items))))))

marks_kept : (parts : List Part) → IsSublist (marks (declared_by parts)) (words (view_list view_part parts))
marks_kept [] = is_done
marks_kept (Part.Program at program ∷ rest) =
    subst (λ ws. IsSublist ws (words (view_list view_part (Part.Program at program ∷ rest))))
    (sym (flat_map-append (λ v. mark_of (element_type v.kind)) (declarations program) (declared_by rest)))
    (kept_both (program_kept program) (marks_kept rest))
marks_kept (Part.Proof at proof ∷ rest) =
    kept_again (marks_kept rest) (kept_second (words (view_proof proof)) (words (view_list view_part rest)))

-- the enumerations have these first words
abbrev Match : List Word → List (ℕ × ℕ) → Type 0
Match [] [] = Unit {0}
Match [] (e ∷ es) = ⊥
Match (w ∷ ws) [] = ⊥
Match (w ∷ ws) (e ∷ es) = (w.0 ≡ e.0) × Match ws es

match_more : (p : Plain) (ws : List Word) (es : List (ℕ × ℕ)) → Match ws es →
    Match (mark_of p ++ ws) (plain_enumeration p ++ es)
match_more (Plain.Boolean at) ws es h = h
match_more (Plain.Range at range) ws es h = h
match_more (Plain.Words at first rest) ws es h = (refl, h)

matched : (vs : List Var) → Match (marks vs) (enumerations vs)
matched [] = tt
matched (v ∷ vs) = match_more (element_type v.kind) (marks vs) (enumerations vs) (matched vs)

-- two enumerations do not stand at one byte
abbrev Differ : ℕ × ℕ → ℕ × ℕ → Type 0
Differ e f = e.0 ≡ f.0 → ⊥

later_differ : (e : ℕ × ℕ) (ws : List Word) (es : List (ℕ × ℕ)) (from to : ℕ) → e.0 < from → Match ws es →
    WordsRise from to ws → All (Differ e) es
later_differ e [] [] from to h m r = All-nil (Differ e)
later_differ e [] (f ∷ es) from to h m r = absurd m
later_differ e (w ∷ ws) [] from to h m r = All-nil (Differ e)
later_differ e (w ∷ ws) (f ∷ es) from to h m r = All-cons (Differ e) f es (λ same. omega (arith, h, m.0, r.0, same))
    (later_differ e ws es (suc w.0) to (omega (arith, h, r.0)) m.1 r.2)

all_differ : (ws : List Word) (es : List (ℕ × ℕ)) (from to : ℕ) → Match ws es → WordsRise from to ws →
    Pairs Differ es
all_differ [] [] from to m r = tt
all_differ [] (f ∷ es) from to m r = absurd m
all_differ (w ∷ ws) [] from to m r = tt
all_differ (w ∷ ws) (e ∷ es) from to m r = (
  later_differ e ws es (suc w.0) to (omega (arith, m.0)) m.1 r.2,
  all_differ ws es (suc w.0) to m.1 r.2,
)

-- documents

parts_rise : (d : Document) (from to : ℕ) (us : List Word) → IsSublist us (words (view_list view_part d.parts)) →
    WordsRise from to (words (view d)) → WordsRise from to us
parts_rise d from to us h r = rise_among us (words (view d)) (kept_again h (kept_first
    (words (view_list view_part d.parts)) (words (view_option view_schedule d.schedule)
    ++ words (view_option view_certificates d.certificates)))) from to r

pub programs_apart : (d : Document) (to : ℕ) → WordsRise 0 to (words (view d)) →
    names_apart [] (programs_among d.parts) ≡ true
programs_apart d to r = heads_apart [] d.parts 0 to (λ n h. refl) (parts_rise d 0 to (heads d.parts)
    (heads_kept d.parts) r)

pub enumerations_apart : (d : Document) (to : ℕ) → WordsRise 0 to (words (view d)) →
    EachPair (λ e f. e.0 ≡ f.0 → ⊥) (enumerations (declared_by d.parts))
enumerations_apart d to r = each_pair Differ (enumerations (declared_by d.parts)) (all_differ
    (marks (declared_by d.parts)) (enumerations (declared_by d.parts)) 0 to (matched (declared_by d.parts))
    (parts_rise d 0 to (marks (declared_by d.parts)) (marks_kept d.parts) r))
