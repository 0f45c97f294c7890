-- What a term gives depends on the numbers of the visible parameters alone.
use Rattle.std.proofs.Common.{◌≡◌, ℕ, zero, suc, nat_eq, ◌+◌, ℤ, pos, ◌+ℤ◌, List, [], ◌∷◌, map, Bool, true, false}
use Rattle.std.proofs.Common.{cond, not, ◌&&◌, ◌||◌, Result, Ok, IsTrue, refl, sym, ap, ◌∙◌, subst, inl, inr, arith}
use Rattle.std.specs.List.{list_any}
use Rattle.std.proofs.lemmas.Bool.{eqb-true}
use Rattle.std.proofs.lemmas.Bool.Decides.{eqb_tells}
use Rattle.case_tables.specs.declared.kind_table.Kind.{Kind}
use Rattle.case_tables.specs.declared.code_table.Code.{Code}
use Rattle.core_terms.proofs.FoldingLaws.{value-and_form, value-or_form}
use Rattle.core_terms.proofs.FrameLaws.{form_frame}
use Rattle.core_terms.proofs.ReplacingLaws.{form_at_value}
use Rattle.core_terms.specs.Conditions.{Parts, no_parts, both_parts, also, parts_step, parts_of}
use Rattle.core_terms.specs.Conditions.{arg_names_only, ArgsWellScoped, TermWellScoped}
use Rattle.core_terms.specs.Folding.{and_form, or_form}
use Rattle.core_terms.specs.Places.{names_param}
use Rattle.core_terms.specs.Replacing.{arg_value, arg_values, form_at}
use Rattle.core_terms.specs.Trees.{same_form}
use Rattle.core_terms.specs.Values.{number_at, form_value}
use Rattle.core_terms.specs.declared.documents.Arg.{Arg}
use Rattle.core_terms.specs.declared.documents.PTerm.{PTerm, roll-PTerm, fold-roll-PTerm, ind-PTerm}
use Rattle.core_terms.specs.declared.documents.PTerm.TheFolds.{map-PTerm}
use Rattle.core_terms.specs.declared.documents.PTerm.TheOpen.{PTerm-F}
use Rattle.core_terms.specs.declared.documents.Ref.{Ref}
use Rattle.core_terms.specs.declared.trees.CForm.{CForm}
use Rattle.core_terms.specs.declared.trees.Range.{Range}
use Rattle.fair_rounds.specs.declared.records.Record.{Record}
use Rattle.rules_table.proofs.BoundNames.{FormSees}
use Rattle.rules_table.proofs.CalcSound.{instance_is}
use Rattle.rules_table.proofs.EachLaws.{Each, from_all, each_parts}
use Rattle.rules_table.proofs.FormLaws.{value_any}
use Rattle.rules_table.proofs.NamedLaws.{form_shown}
use Rattle.rules_table.proofs.SiteLaws.{met, went_on}
use Rattle.rules_table.proofs.TermSound.{node_is}
use Rattle.rules_table.specs.Forms.{any_of}
use Rattle.rules_table.specs.Numbers.{numbers_of, args_from, form_for}
use Rattle.rules_table.specs.Table.{Site, needs, go_on, instance_of, is_unless}
use Rattle.rules_table.specs.Terms.{Ask, found, referred, leads, node, leads_from, leads_by, leads_on, leads_either}
use Rattle.rules_table.specs.Terms.{leads_any, at_measure, below_measure, leads_down, leads_safely, leads_weaker}
use Rattle.rules_table.specs.Terms.{term_step, term_of}
use Rattle.rules_table.specs.declared.led.Led.{Led}

-- the numbers of the visible parameters are the same
abbrev Alike : (ℕ → Bool) → List ℤ → List ℤ → Type 0
Alike v d e = (n : ℕ) → IsTrue (v n) → number_at d n ≡ number_at e n

-- where they are, the formula is worth the same
abbrev pub Depends : (ℕ → Bool) → CForm → Type 0
Depends v f = (s d e : List ℤ) → Alike v d e → form_value s d f ≡ form_value s e f

pub record BothDepend (v : ℕ → Bool) (f g : CForm) : Type 0 where
  pub p : Depends v f
  pub q : Depends v g

sees_depends : (v : ℕ → Bool) (f : CForm) → FormSees (v, f) → Depends v f
sees_depends v f sees s d e same = form_frame s d e f (λ n t. same n ((form_shown n v f t).1 sees))

and_depends : (v : ℕ → Bool) (f g : CForm) → Depends v f → Depends v g → Depends v (and_form f g)
and_depends v f g h k s d e same =
    value-and_form s d f g ∙ ap (λ b. b && form_value s d g) (h s d e same)
    ∙ ap (λ b. form_value s e f && b) (k s d e same) ∙ sym (value-and_form s e f g)

or_depends : (v : ℕ → Bool) (f g : CForm) → Depends v f → Depends v g → Depends v (or_form f g)
or_depends v f g h k s d e same =
    value-or_form s d f g ∙ ap (λ b. b || form_value s d g) (h s d e same)
    ∙ ap (λ b. form_value s e f || b) (k s d e same) ∙ sym (value-or_form s e f g)

any_depends : (v : ℕ → Bool) (make : ℤ → CForm) (zs : List ℤ) → ((z : ℤ) → Depends v (make z)) →
    Depends v (any_of (map make zs))
any_depends v make zs each s d e same = value_any s d (map make zs) ∙ go zs ∙ sym (value_any s e (map make zs))
  where
    go : (zs : List ℤ) →
        list_any (λ f. form_value s d f) (map make zs) ≡ list_any (λ f. form_value s e f) (map make zs)
    go [] = refl
    go (z ∷ zs) =
        ap (λ b. b || list_any (λ f. form_value s d f) (map make zs)) (each z s d e same)
        ∙ ap (λ b. form_value s e (make z) || b) (go zs)

-- arguments put for the parameters

args_alike : (v : ℕ → Bool) (args : List Arg) (d e : List ℤ) → Each (λ a. IsTrue (arg_names_only v a)) args →
    Alike v d e → arg_values d args ≡ arg_values e args
args_alike v [] d e sees same = refl
args_alike v (Arg.Number k ∷ args) d e sees same = ap (λ zs. k ∷ zs) (args_alike v args d e sees.1 same)
args_alike v (Arg.Param n add ∷ args) d e sees same =
    ap (λ z. (z +ℤ add) ∷ arg_values d args) (same n sees.0)
    ∙ ap (λ zs. (number_at e n +ℤ add) ∷ zs) (args_alike v args d e sees.1 same)
args_alike v (Arg.Slot ∷ args) d e sees same = ap (λ zs. pos 0 ∷ zs) (args_alike v args d e sees.1 same)

put_depends : (v : ℕ → Bool) (args : List Arg) (f : CForm) → ArgsWellScoped v args → Depends v (form_at args f)
put_depends v args f sees s d e same =
    form_at_value s d args f
    ∙ ap (λ zs. form_value s zs f)
    (args_alike v args d e (from_all (λ a. IsTrue (arg_names_only v a)) args sees.names) same)
    ∙ sym (form_at_value s e args f)

-- a number put for a name

-- what is visible beside the name
elsewhere : (m n : ℕ) (v : ℕ → Bool) → IsTrue (also m v n) → (n ≡ m → ⊥) → IsTrue (v n)
elsewhere m n v t other = go (nat_eq m n) refl t
  where
    go : (b : Bool) → nat_eq m n ≡ b → IsTrue (b || v n) → IsTrue (v n)
    go true is h = absurd (other (sym (eqb-true m n is)))
    go false is h = h

one_alike : (m : ℕ) (z : ℤ) (d e : List ℤ) (i : ℕ) → ((i ≡ m → ⊥) → number_at d i ≡ number_at e i) →
    arg_value d (cond (nat_eq i m) (Arg.Number z) (Arg.Param i (pos 0))) ≡
    arg_value e (cond (nat_eq i m) (Arg.Number z) (Arg.Param i (pos 0)))
one_alike m z d e i others = go (nat_eq i m) refl
  where
    go : (b : Bool) → nat_eq i m ≡ b → arg_value d (cond b (Arg.Number z) (Arg.Param i (pos 0))) ≡
        arg_value e (cond b (Arg.Number z) (Arg.Param i (pos 0)))
    go true is = refl
    go false is = elim (eqb_tells i m) [
      | inl w ↦ let yes = w.0 in cc
      | inr w ↦ ap (λ y. y +ℤ pos 0) (others w.1)
    ]

numbers_alike : (m : ℕ) (z : ℤ) (d e : List ℤ) (rs : List Range) (i n k : ℕ) → k ≡ i + n →
    ((k ≡ m → ⊥) → number_at d k ≡ number_at e k) →
    number_at (arg_values d (args_from i m z rs)) n ≡ number_at (arg_values e (args_from i m z rs)) n
numbers_alike m z d e [] i n k at others = refl
numbers_alike m z d e (r ∷ rs) i zero k at others =
    let is : k ≡ i = omega (arith, at) in
    one_alike m z d e i (subst (λ j. (j ≡ m → ⊥) → number_at d j ≡ number_at e j) is others)
numbers_alike m z d e (r ∷ rs) i (suc n) k at others =
    let next : k ≡ suc i + n = omega (arith, at) in numbers_alike m z d e rs (suc i) n k next others

number_depends : (v : ℕ → Bool) (ranges : List Range) (m : ℕ) (z : ℤ) (f : CForm) → Depends (also m v) f →
    Depends v (form_for ranges m z f)
number_depends v ranges m z f h s d e same =
    let args : List Arg = args_from 0 m z ranges in
    form_at_value s d args f
    ∙ h s (arg_values d args) (arg_values e args)
    (λ n t. numbers_alike m z d e ranges 0 n n (omega arith) (λ other. same n (elsewhere m n v t other)))
    ∙ sym (form_at_value s e args f)

-- a name that a formula does not name

-- the numbers, with another one at a place
abbrev put_at : ℕ → ℤ → List ℤ → List ℤ
put_at zero z [] = z ∷ []
put_at zero z (y ∷ e) = z ∷ e
put_at (suc m) z [] = pos 0 ∷ put_at m z []
put_at (suc m) z (y ∷ e) = y ∷ put_at m z e

put_there : (m : ℕ) (z : ℤ) (e : List ℤ) → number_at (put_at m z e) m ≡ z
put_there zero z [] = refl
put_there zero z (y ∷ e) = refl
put_there (suc m) z [] = put_there m z []
put_there (suc m) z (y ∷ e) = put_there m z e

put_elsewhere : (m n : ℕ) (z : ℤ) (e : List ℤ) → (n ≡ m → ⊥) → number_at (put_at m z e) n ≡ number_at e n
put_elsewhere zero zero z e other = absurd (other refl)
put_elsewhere zero (suc n) z [] other = refl
put_elsewhere zero (suc n) z (y ∷ e) other = refl
put_elsewhere (suc m) zero z [] other = refl
put_elsewhere (suc m) zero z (y ∷ e) other = refl
put_elsewhere (suc m) (suc n) z [] other = put_elsewhere m n z [] (λ is. other (ap (λ k. suc k) is))
put_elsewhere (suc m) (suc n) z (y ∷ e) other = put_elsewhere m n z e (λ is. other (ap (λ k. suc k) is))

not_both : (b : Bool) → IsTrue (not b) → IsTrue b → ⊥
not_both true h k = cc
not_both false h k = cc

unnamed_depends : (v : ℕ → Bool) (m : ℕ) (f : CForm) → Depends (also m v) f → IsTrue (not (names_param m f)) →
    Depends v f
unnamed_depends v m f h free s d e same =
    let z : ℤ = number_at d m in
    let between : List ℤ = put_at m z e in
    h s d between (λ n t. elim (eqb_tells n m) [
      | inl w ↦ ap (number_at d) w.1 ∙ sym (put_there m z e) ∙ ap (number_at between) (sym w.1)
      | inr w ↦ same n (elsewhere m n v t w.1) ∙ sym (put_elsewhere m n z e w.1)
    ])
    ∙ form_frame s between e f (λ n t. put_elsewhere m n z e (λ is.
    not_both (names_param m f) free (subst (λ k. IsTrue (names_param k f)) is t)))

-- formulas and arguments name only what is visible at them
record Seen (parts : Parts) : Type 0 where
  pub forms : Each FormSees parts.forms
  pub args : Each (λ e. ArgsWellScoped e.0 e.1) parts.args

both_seen : (a b : Parts) → Seen (both_parts a b) → Seen a × Seen b
both_seen a b seen =
    let forms = each_parts FormSees a.forms b.forms seen.forms in
    let args = each_parts (λ e. ArgsWellScoped e.0 e.1) a.args b.args seen.args in
    (record { forms = forms.0; args = args.0 }, record { forms = forms.1; args = args.1 })

module _ (site : Site) (ranges : List Range) (book : List Record) where
  abbrev Own : (ℕ → Bool) → Ask → Type 0
  Own v ask = (l : Led) → ask ≡ Ok l → BothDepend v l.p l.q

  of_node : (v : ℕ → Bool) (l : Led) → BothDepend v l.p l.q → Own v (node site ranges l)
  of_node v l own m e = subst (λ (k : Led). BothDepend v k.p k.q) (node_is site ranges l m e) own

  of_part : {A : Type 0} (v : ℕ → Bool) (r : Result A Code) (f : A → Ask) → ((y : A) → r ≡ Ok y → Own v (f y)) →
      Own v (go_on r f)
  of_part v r f shown l e = let part = went_on r f l e in shown part.0 part.1 l part.2

  of_need : (v : ℕ → Bool) (b : Bool) (code : Code) (rest : Ask) → (IsTrue b → Own v rest) →
      Own v (needs b code rest)
  of_need v b code rest shown l e = let one = met b code rest l e in shown one.0 l one.1

  reference : (v : ℕ → Bool) (serves : Kind → Bool) (r : Ref) (a : Record) → ArgsWellScoped v r.args →
      referred site ranges book serves r ≡ Ok a → BothDepend v a.p a.q
  reference v serves r a sees h =
      let one = went_on (found book r) (λ b. needs (nat_eq b.program site.program.name) Code.OtherProgram
      (needs (serves b.kind) Code.WrongKind (instance_of site ranges b r.args))) a h in
      let two = met (nat_eq one.0.program site.program.name) Code.OtherProgram
      (needs (serves one.0.kind) Code.WrongKind (instance_of site ranges one.0 r.args)) a one.2 in
      let three = met (serves one.0.kind) Code.WrongKind (instance_of site ranges one.0 r.args) a two.1 in
      subst (λ (x : Record). BothDepend v x.p x.q) (instance_is site ranges one.0 r.args a three.1).1
      (record { p = put_depends v r.args one.0.p sees; q = put_depends v r.args one.0.q sees })

  abbrev answer : PTerm → Ask
  answer = term_of site ranges book

  abbrev TermOwn : PTerm → Type 0
  TermOwn t = (v : ℕ → Bool) → Seen (parts_of t v) → Own v (answer t)

  abbrev Gives : Type 0
  Gives = (t : PTerm) × TermOwn t

  abbrev trees : PTerm-F Gives → PTerm-F PTerm
  trees y = map-PTerm Gives PTerm (λ g. g.0) y

  layer_own : (y : PTerm-F Gives) (v : ℕ → Bool) →
      Seen (parts_step (map-PTerm PTerm ((ℕ → Bool) → Parts) parts_of (trees y)) v) →
      Own v (term_step site ranges book (map-PTerm PTerm Ask answer (trees y)))
  layer_own (PTerm-F.Imply p q) v seen =
      of_node v (leads_by site.using p q)
      (record { p = sees_depends v p seen.forms.0; q = sees_depends v q seen.forms.1.0 })
  layer_own (PTerm-F.From r) v seen =
      of_part v (referred site ranges book leads r) (λ a. node site ranges (leads_from a)) (λ a h.
      of_node v (leads_from a) (reference v leads r a seen.args.0 h))
  layer_own (PTerm-F.Trans t u) v seen =
      let each = both_seen (parts_of t.0 v) (parts_of u.0 v) seen in
      of_part v (answer t.0) (λ a. go_on (answer u.0) (λ b.
      needs (same_form a.q b.p) Code.MiddleDiffers (node site ranges (leads_on a b)))) (λ a h.
      of_part v (answer u.0) (λ b. needs (same_form a.q b.p) Code.MiddleDiffers (node site ranges (leads_on a b)))
      (λ b k.
      of_need v (same_form a.q b.p) Code.MiddleDiffers (node site ranges (leads_on a b)) (λ same.
      of_node v (leads_on a b) (record { p = (t.1 v each.0 a h).p; q = (u.1 v each.1 b k).q }))))
  layer_own (PTerm-F.Either t u) v seen =
      let each = both_seen (parts_of t.0 v) (parts_of u.0 v) seen in
      of_part v (answer t.0) (λ a. go_on (answer u.0) (λ b.
      needs (same_form a.q b.q) Code.MiddleDiffers (node site ranges (leads_either a b)))) (λ a h.
      of_part v (answer u.0) (λ b. needs (same_form a.q b.q) Code.MiddleDiffers
      (node site ranges (leads_either a b))) (λ b k.
      of_need v (same_form a.q b.q) Code.MiddleDiffers (node site ranges (leads_either a b)) (λ same.
      let one = t.1 v each.0 a h in
      of_node v (leads_either a b)
      (record { p = or_depends v a.p b.p one.p (u.1 v each.1 b k).p; q = one.q }))))
  layer_own (PTerm-F.Exists m range t) v seen =
      of_part v (answer t.0) (λ a.
      needs (not (names_param m a.q)) Code.ParamEscapes (node site ranges (leads_any ranges m range a))) (λ a h.
      of_need v (not (names_param m a.q)) Code.ParamEscapes (node site ranges (leads_any ranges m range a)) (λ free.
      let one = t.1 (also m v) (record { forms = seen.forms; args = seen.args }) a h in
      of_node v (leads_any ranges m range a) (record {
        p = any_depends v (λ z. form_for ranges m z a.p) (numbers_of range)
            (λ z. number_depends v ranges m z a.p one.p);
        q = unnamed_depends v m a.q one.q free;
      })))
  layer_own (PTerm-F.Induct m range measure p q t) v seen =
      of_part v (answer t.0) (λ a.
      needs (same_form a.p (at_measure measure m p) && same_form a.q (below_measure measure m p q)) Code.MiddleDiffers
      (node site ranges (leads_down site.using range measure p q a))) (λ a h.
      of_need v (same_form a.p (at_measure measure m p) && same_form a.q (below_measure measure m p q))
      Code.MiddleDiffers (node site ranges (leads_down site.using range measure p q a)) (λ same.
      of_node v (leads_down site.using range measure p q a)
      (record { p = sees_depends v p seen.forms.0; q = sees_depends v q seen.forms.1.0 })))
  layer_own (PTerm-F.Psp t r) v seen =
      let each = both_seen (parts_of t.0 v) (record no_parts { args = (v, r.args) ∷ [] }) seen in
      of_part v (answer t.0) (λ a. go_on (referred site ranges book is_unless r)
      (λ b. node site ranges (leads_safely a b))) (λ a h.
      of_part v (referred site ranges book is_unless r) (λ b. node site ranges (leads_safely a b)) (λ b k.
      let one = t.1 v each.0 a h in
      let two = reference v is_unless r b each.1.args.0 k in
      of_node v (leads_safely a b) (record {
        p = and_depends v a.p b.p one.p two.p;
        q = or_depends v (and_form a.q b.p) b.q (and_depends v a.q b.p one.q two.p) two.q;
      })))
  layer_own (PTerm-F.Weaken p q t) v seen =
      of_part v (answer t.0) (λ a. node site ranges (leads_weaker site.using p q a)) (λ a h.
      of_node v (leads_weaker site.using p q a)
      (record { p = sees_depends v p seen.forms.0; q = sees_depends v q seen.forms.1.0 }))

  layer : (y : PTerm-F Gives) → TermOwn (roll-PTerm (trees y))
  layer y v seen =
      subst (λ ask. Own v ask) (sym (fold-roll-PTerm Ask (term_step site ranges book) (trees y)))
      (layer_own y v (subst (λ f. Seen (f v)) (fold-roll-PTerm ((ℕ → Bool) → Parts) parts_step (trees y)) seen))

  term_own : (t : PTerm) → TermOwn t
  term_own t = ind-PTerm TermOwn (λ z y e. subst (λ k. TermOwn (roll-PTerm k)) e (layer y)) t

  -- of a term that names only what is visible
  pub term_depends : (v : ℕ → Bool) (t : PTerm) → TermWellScoped site.slots ranges v t → (l : Led) →
      term_of site ranges book t ≡ Ok l → BothDepend v l.p l.q
  term_depends v t sees =
      term_own t v (record {
        forms = from_all FormSees (parts_of t v).forms sees.form_names;
        args = from_all (λ e. ArgsWellScoped e.0 e.1) (parts_of t v).args sees.args;
      })
