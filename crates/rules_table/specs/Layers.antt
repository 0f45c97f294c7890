-- Layers: a program that does what a program under it does, and more to variables of its own; and what is carried from
-- the one to the other.
use Rattle.std.specs.Prelude.{ℕ, nat_eq, nat_le, Bool, true, false, cond, not, ◌&&◌, ◌||◌, List, [], ◌∷◌, ◌++◌, map}
use Rattle.std.specs.Prelude.{filter, take, drop, zip, length, Option, Some, None, Result}
use Rattle.std.specs.List.{list_all, list_any}
use Rattle.case_tables.specs.declared.kind_table.Kind.{Kind}
use Rattle.case_tables.specs.declared.code_table.Code.{Code}
use Rattle.core_terms.specs.Conditions.{is_shown, any_place}
use Rattle.core_terms.specs.Places.{form_names_only}
use Rattle.core_terms.specs.Trees.{same_form, same_term}
use Rattle.core_terms.specs.declared.documents.Helper.{Helper}
use Rattle.core_terms.specs.declared.programs.CProgram.{CProgram}
use Rattle.core_terms.specs.declared.programs.CStmt.{CStmt}
use Rattle.core_terms.specs.declared.programs.CWrite.{CWrite}
use Rattle.core_terms.specs.declared.trees.CForm.{CForm}
use Rattle.meaning_executions.specs.Counting.{ints_eq}
use Rattle.fair_rounds.specs.declared.records.Record.{Record}
use Rattle.rules_table.specs.Conclusion.{Conclusion}
use Rattle.rules_table.specs.Forms.{imply}
use Rattle.rules_table.specs.Table.{Site, needs, record_of, concluded, is_unless, is_ensures, is_invariant}
use Rattle.rules_table.specs.Further.{is_leadsto}

-- as many of the one as of the other, and each two at the same place pass the test
abbrev pub all_two : {A B : Type 0} → (A → B → Bool) → List A → List B → Bool
all_two test [] [] = true
all_two test [] (y ∷ ys) = false
all_two test (x ∷ xs) [] = false
all_two test (x ∷ xs) (y ∷ ys) = test x y && all_two test xs ys

-- the same value to the same slot, under the same condition
abbrev pub same_write : CWrite → CWrite → Bool
same_write v w = nat_eq v.slot w.slot && (same_form v.when w.when && same_term v.value w.value)

-- the first list, and maybe more
abbrev pub is_prefix : List CForm → List CForm → Bool
is_prefix [] gs = true
is_prefix (f ∷ fs) [] = false
is_prefix (f ∷ fs) (g ∷ gs) = same_form f g && is_prefix fs gs

-- the writes to slots that are shown below
abbrev pub writes_below : List ℕ → CStmt → List CWrite
writes_below shown t = filter (λ w. is_shown shown w.slot) t.writes

-- an instance of the layer makes the writes of that below it, and more to other slots alone
abbrev pub extends : List ℕ → CStmt → CStmt → Bool
extends shown s t =
    ints_eq s.indices t.indices && (all_two same_write s.writes (writes_below shown t) && is_prefix s.outside t.outside)

-- the layer's instances that stand over those of the program below, and those that it adds
abbrev pub standing : CProgram → CProgram → List CStmt
standing h f = take (length f.statements) h.statements

abbrev pub added : CProgram → CProgram → List CStmt
added h f = drop (length f.statements) h.statements

abbrev pub labels : List CStmt → List ℕ
labels ss = map (λ s. s.label) ss

-- two instances have one label in both programs or in neither
abbrev pub labels_agree : ℕ × ℕ → ℕ × ℕ → Bool
labels_agree a b = cond (nat_eq a.0 b.0) (nat_eq a.1 b.1) (not (nat_eq a.1 b.1))

-- so do any two
abbrev pub same_pattern : List (ℕ × ℕ) → Bool
same_pattern [] = true
same_pattern (a ∷ rest) = list_all (labels_agree a) rest && same_pattern rest

-- an added instance has a label of its own, and writes no slot that is shown below
abbrev pub is_beside : List ℕ → List ℕ → CStmt → Bool
is_beside shown taken t =
    not (list_any (λ label. nat_eq label t.label) taken) && list_all (λ w. not (is_shown shown w.slot)) t.writes

-- h is a layer over f
abbrev pub is_layer : CProgram → CProgram → Bool
is_layer h f =
    nat_le (length f.statements) (length h.statements)
    && (all_two (extends f.shown) f.statements (standing h f)
    && (same_pattern (zip (labels f.statements) (labels (standing h f)))
    && list_all (is_beside f.shown (labels (standing h f))) (added h f)))

-- a slot that the layer shows and the program below does not
abbrev pub is_new : CProgram → CProgram → ℕ → Bool
is_new h f n = is_shown h.shown n && not (is_shown f.shown n)

abbrev pub names_no_new : CProgram → CProgram → CForm → Bool
names_no_new h f = form_names_only (λ n. not (is_new h f n)) any_place

-- a record names no new slot
abbrev pub names_old : CProgram → CProgram → Record → Bool
names_old h f a = (names_no_new h f a.p && names_no_new h f a.q) && list_all (names_no_new h f) a.under

-- the layer's label at the first place that has this label below; the label itself where none has
abbrev pub label_over : List CStmt → List CStmt → ℕ → ℕ
label_over (s ∷ fs) (t ∷ hs) label = cond (nat_eq s.label label) t.label (label_over fs hs label)
label_over _ _ label = label

-- the layer's instance over the one that helps below
abbrev pub helper_over : CProgram → CProgram → Option Helper → Option Helper
helper_over h f None = None
helper_over h f (Some x) = Some (record { label = label_over f.statements h.statements x.label; args = x.args })

abbrev pub is_carried : Kind → Bool
is_carried kind = (is_invariant kind || is_unless kind) || (is_ensures kind || is_leadsto kind)

-- where U and what holds of the layer's first states hold, what holds of the first states below does
abbrev pub starts_below : Site → CProgram → CForm
starts_below site f = imply (site.using ++ (site.program.initially ∷ [])) f.initially

-- a record of the program below, as the layer's
abbrev pub record_over : Site → CProgram → Record → Record
record_over site f a = record (record_of site a.kind a.p a.q a.under (helper_over site.program f a.helper)) {
  bound = a.bound;
}

-- `superpose R`
unfoldable pub superpose_of : Site → CProgram → Record → Result Conclusion Code
superpose_of site f a =
    needs (not (nat_eq a.program site.program.name)) Code.OtherProgram
    (needs (is_carried a.kind) Code.WrongKind
    (needs (is_layer site.program f) Code.NotALayer
    (needs (names_old site.program f a) Code.NamesNewVariable
    (concluded site.slots site.params (record_over site f a) (starts_below site f ∷ [])))))
