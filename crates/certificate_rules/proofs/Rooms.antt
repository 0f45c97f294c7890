-- How many facts and waiting formulas settling a formula adds at most.
use Rattle.std.proofs.Common.{◌≡◌, ℕ, ◌+◌, ◌≤◌, max, ℤ, pos, negsuc, List, [], ◌∷◌, ◌++◌, length, Option, Some, None}
use Rattle.std.proofs.Common.{Bool, true, false, cond, arith, refl, sym, ap, ◌∙◌, subst, length-append}
use Rattle.obligations.specs.from_core_terms.declared.trees.CTerm.{CTerm, roll-CTerm, fold-CTerm, fold-roll-CTerm}
use Rattle.obligations.specs.from_core_terms.declared.trees.CTerm.TheVariants.{Const, Param, Add, Sub, Scale, Ite, Div}
use Rattle.obligations.specs.from_core_terms.declared.trees.CTerm.TheVariants.{Mod}
use Rattle.obligations.specs.from_core_terms.declared.trees.CTerm.TheVariants.{rolls-Const, rolls-Param, rolls-Add}
use Rattle.obligations.specs.from_core_terms.declared.trees.CTerm.TheVariants.{rolls-Div}
use Rattle.obligations.specs.from_core_terms.declared.trees.CTerm.TheVariants.{rolls-Mod}
use Rattle.obligations.specs.from_core_terms.declared.trees.CTerm.TheVariants.{rolls-Sub, rolls-Scale, rolls-Ite}
use Rattle.obligations.specs.from_core_terms.declared.trees.CForm.{CForm, out-CForm, roll-CForm, ind-CForm, fold-CForm}
use Rattle.obligations.specs.from_core_terms.declared.trees.CForm.{fold-roll-CForm}
use Rattle.obligations.specs.from_core_terms.declared.trees.CForm.{fold_out-CForm}
use Rattle.obligations.specs.from_core_terms.declared.trees.CForm.TheVariants.{Top, Bottom, AtLeast, Zero, Not, And, Or}
use Rattle.obligations.specs.from_core_terms.declared.trees.CForm.TheVariants.{rolls-Top}
use Rattle.obligations.specs.from_core_terms.declared.trees.CForm.TheVariants.{rolls-Bottom, rolls-AtLeast, rolls-Zero}
use Rattle.obligations.specs.from_core_terms.declared.trees.CForm.TheVariants.{rolls-Not}
use Rattle.obligations.specs.from_core_terms.declared.trees.CForm.TheVariants.{rolls-And, rolls-Or}
use Rattle.obligations.specs.from_core_terms.declared.trees.CForm.TheOpen.{CTerm-F, CForm-F}
use Rattle.obligations.specs.from_core_terms.declared.trees.CForm.TheFolds.{map-CForm, map-CTerm}
use Rattle.obligations.specs.from_core_terms.Sizes.{term_size, form_size, term_nodes, form_nodes}
use Rattle.obligations.specs.declared.branches.Branch.{Branch}
use Rattle.obligations.specs.declared.branches.Variable.{Variable}
use Rattle.obligations.specs.declared.branches.Choice.{Choice}
use Rattle.obligations.specs.Settling.{joined, one_waiting, first_ite, first_choice, choice_form, least_adds}
use Rattle.obligations.specs.LinearForms.{linear, negated}
use Rattle.obligations.specs.Settling.{zero_adds, unequal_adds, below_zero, outcome, sides, sides_in}
use Rattle.obligations.specs.Settling.{has_quotient, one_fact, two_facts, first_taken, first_of, or_whole}
use Rattle.obligations.specs.Quotients.{without_quotient, replaced, replaced_in}
use Rattle.obligations.specs.declared.branches.Replaced.{Replaced}
use Rattle.obligations.specs.declared.branches.Taken.{Taken}
use Rattle.obligations.proofs.SettlingLaws.{term_fold, form_fold}
use Rattle.obligations.proofs.SettledKeeps.{choice_keeps, settled_keeps}
use Rattle.obligations.proofs.TakenLaws.{whole_quotient, whole_remainder, taken_keeps}
use Rattle.meaning_states.specs.Division.{divisor}

-- what settling a formula, and its negation, adds at most
pub record Room : Type 0 where
  pub yes : ℕ
  pub no : ℕ

-- for a term, by the conditions in it, and its quotients' facts
abbrev pub term_room_step : CTerm-F Room ℕ → ℕ
term_room_step (CTerm-F.Const c) = 0
term_room_step (CTerm-F.Slot n) = 0
term_room_step (CTerm-F.Param n) = 0
term_room_step (CTerm-F.Add a b) = a + b
term_room_step (CTerm-F.Sub a b) = a + b
term_room_step (CTerm-F.Scale k a) = a
term_room_step (CTerm-F.Div a k) = 2 + a
term_room_step (CTerm-F.Mod a k) = 2 + a
term_room_step (CTerm-F.Ite c a b) = 1 + max (c.yes + a) (c.no + b)

abbrev pub form_room_step : CForm-F Room ℕ → Room
form_room_step CForm-F.Top = record { yes = 0; no = 1 }
form_room_step CForm-F.Bottom = record { yes = 1; no = 0 }
form_room_step (CForm-F.AtLeast t) = record { yes = 1 + t; no = 1 + t }
form_room_step (CForm-F.Zero t) = record { yes = 2 + t; no = 2 + t }
form_room_step (CForm-F.Not f) = record { yes = f.no; no = f.yes }
form_room_step (CForm-F.And f g) = record { yes = f.yes + g.yes; no = 1 + max f.no g.no }
form_room_step (CForm-F.Or f g) = record { yes = 1 + max f.yes g.yes; no = f.no + g.no }

abbrev pub term_room : CTerm → ℕ
term_room = fold-CTerm Room ℕ form_room_step term_room_step

abbrev pub room : CForm → Room
room = fold-CForm Room ℕ form_room_step term_room_step

-- by heads

room-Const : (c : ℤ) → term_room (Const c) ≡ 0
room-Const c = term_fold form_room_step term_room_step (CTerm-F.Const c) (Const c) (rolls-Const c)

room-Add : (a b : CTerm) → term_room (Add a b) ≡ term_room a + term_room b
room-Add a b = term_fold form_room_step term_room_step (CTerm-F.Add a b) (Add a b) (rolls-Add a b)

room-Sub : (a b : CTerm) → term_room (Sub a b) ≡ term_room a + term_room b
room-Sub a b = term_fold form_room_step term_room_step (CTerm-F.Sub a b) (Sub a b) (rolls-Sub a b)

room-Scale : (k : ℤ) (a : CTerm) → term_room (Scale k a) ≡ term_room a
room-Scale k a = term_fold form_room_step term_room_step (CTerm-F.Scale k a) (Scale k a) (rolls-Scale k a)

room-Param : (n : ℕ) → term_room (Param n) ≡ 0
room-Param n = term_fold form_room_step term_room_step (CTerm-F.Param n) (Param n) (rolls-Param n)

room-Div : (a : CTerm) (k : ℤ) → term_room (Div a k) ≡ 2 + term_room a
room-Div a k = term_fold form_room_step term_room_step (CTerm-F.Div a k) (Div a k) (rolls-Div a k)

room-Mod : (a : CTerm) (k : ℤ) → term_room (Mod a k) ≡ 2 + term_room a
room-Mod a k = term_fold form_room_step term_room_step (CTerm-F.Mod a k) (Mod a k) (rolls-Mod a k)

room-Ite : (c : CForm) (a b : CTerm) →
    term_room (Ite c a b) ≡ 1 + max ((room c).yes + term_room a) ((room c).no + term_room b)
room-Ite c a b = term_fold form_room_step term_room_step (CTerm-F.Ite c a b) (Ite c a b) (rolls-Ite c a b)

room-Top : room Top ≡ record { yes = 0; no = 1 }
room-Top = form_fold form_room_step term_room_step CForm-F.Top Top rolls-Top

room-Bottom : room Bottom ≡ record { yes = 1; no = 0 }
room-Bottom = form_fold form_room_step term_room_step CForm-F.Bottom Bottom rolls-Bottom

room-AtLeast : (t : CTerm) → room (AtLeast t) ≡ record { yes = 1 + term_room t; no = 1 + term_room t }
room-AtLeast t = form_fold form_room_step term_room_step (CForm-F.AtLeast t) (AtLeast t) (rolls-AtLeast t)

room-Zero : (t : CTerm) → room (Zero t) ≡ record { yes = 2 + term_room t; no = 2 + term_room t }
room-Zero t = form_fold form_room_step term_room_step (CForm-F.Zero t) (Zero t) (rolls-Zero t)

room-Not : (f : CForm) → room (Not f) ≡ record { yes = (room f).no; no = (room f).yes }
room-Not f = form_fold form_room_step term_room_step (CForm-F.Not f) (Not f) (rolls-Not f)

room-And : (f g : CForm) →
    room (And f g) ≡ record { yes = (room f).yes + (room g).yes; no = 1 + max (room f).no (room g).no }
room-And f g = form_fold form_room_step term_room_step (CForm-F.And f g) (And f g) (rolls-And f g)

room-Or : (f g : CForm) →
    room (Or f g) ≡ record { yes = 1 + max (room f).yes (room g).yes; no = (room f).no + (room g).no }
room-Or f g = form_fold form_room_step term_room_step (CForm-F.Or f g) (Or f g) (rolls-Or f g)

-- at most twice the nodes

abbrev TermSmall : CTerm → Type 0
TermSmall t = term_room t ≤ term_nodes t + term_nodes t

record FormSmall (f : CForm) : Type 0 where
  yes : (room f).yes ≤ form_nodes f + form_nodes f
  no : (room f).no ≤ form_nodes f + form_nodes f

abbrev SmallTerm : Type 0
SmallTerm = (t : CTerm) × TermSmall t

abbrev SmallForm : Type 0
SmallForm = (f : CForm) × FormSmall f

term_is : (x : CTerm-F CForm CTerm) (m n : ℕ) → term_room (roll-CTerm x) ≡ m → term_nodes (roll-CTerm x) ≡ n →
    m ≤ n + n → TermSmall (roll-CTerm x)
term_is x m n p q h = omega (arith, p, q, h)

form_is : (x : CForm-F CForm CTerm) (m : Room) (n : ℕ) → room (roll-CForm x) ≡ m → form_nodes (roll-CForm x) ≡ n →
    m.yes ≤ n + n → m.no ≤ n + n → FormSmall (roll-CForm x)
form_is x m n p q h k =
    let p0 = ap (λ (z : Room). z.yes) p in let p1 = ap (λ (z : Room). z.no) p in
    record { yes = omega (arith, p0, q, h); no = omega (arith, p1, q, k) }

abbrev rooms_of : (x : CTerm-F CForm CTerm) →
    term_room (roll-CTerm x) ≡ term_room_step (map-CTerm CForm CTerm Room ℕ room term_room x)
rooms_of x = fold-roll-CTerm Room ℕ form_room_step term_room_step x

abbrev sizes_of : (x : CTerm-F CForm CTerm) →
    term_nodes (roll-CTerm x) ≡ term_size (map-CTerm CForm CTerm ℕ ℕ form_nodes term_nodes x)
sizes_of x = fold-roll-CTerm ℕ ℕ form_size term_size x

abbrev form_rooms_of : (x : CForm-F CForm CTerm) →
    room (roll-CForm x) ≡ form_room_step (map-CForm CForm CTerm Room ℕ room term_room x)
form_rooms_of x = fold-roll-CForm Room ℕ form_room_step term_room_step x

abbrev form_sizes_of : (x : CForm-F CForm CTerm) →
    form_nodes (roll-CForm x) ≡ form_size (map-CForm CForm CTerm ℕ ℕ form_nodes term_nodes x)
form_sizes_of x = fold-roll-CForm ℕ ℕ form_size term_size x

term_layer : (y : CTerm-F SmallForm SmallTerm) →
    TermSmall (roll-CTerm (map-CTerm SmallForm SmallTerm CForm CTerm (λ e. e.0) (λ e. e.0) y))
term_layer (CTerm-F.Const c) =
    term_is (CTerm-F.Const c) _ _ (rooms_of (CTerm-F.Const c)) (sizes_of (CTerm-F.Const c)) (omega arith)
term_layer (CTerm-F.Slot n) =
    term_is (CTerm-F.Slot n) _ _ (rooms_of (CTerm-F.Slot n)) (sizes_of (CTerm-F.Slot n)) (omega arith)
term_layer (CTerm-F.Param n) =
    term_is (CTerm-F.Param n) _ _ (rooms_of (CTerm-F.Param n)) (sizes_of (CTerm-F.Param n)) (omega arith)
term_layer (CTerm-F.Add a b) = let p = a.1 in let q = b.1 in
    term_is (CTerm-F.Add a.0 b.0) _ _ (rooms_of (CTerm-F.Add a.0 b.0)) (sizes_of (CTerm-F.Add a.0 b.0))
    (omega (arith, p, q))
term_layer (CTerm-F.Sub a b) = let p = a.1 in let q = b.1 in
    term_is (CTerm-F.Sub a.0 b.0) _ _ (rooms_of (CTerm-F.Sub a.0 b.0)) (sizes_of (CTerm-F.Sub a.0 b.0))
    (omega (arith, p, q))
term_layer (CTerm-F.Scale k a) = let p = a.1 in
    term_is (CTerm-F.Scale k a.0) _ _ (rooms_of (CTerm-F.Scale k a.0)) (sizes_of (CTerm-F.Scale k a.0))
    (omega (arith, p))
term_layer (CTerm-F.Div a k) = let p = a.1 in
    term_is (CTerm-F.Div a.0 k) _ _ (rooms_of (CTerm-F.Div a.0 k)) (sizes_of (CTerm-F.Div a.0 k)) (omega (arith, p))
term_layer (CTerm-F.Mod a k) = let p = a.1 in
    term_is (CTerm-F.Mod a.0 k) _ _ (rooms_of (CTerm-F.Mod a.0 k)) (sizes_of (CTerm-F.Mod a.0 k)) (omega (arith, p))
term_layer (CTerm-F.Ite c a b) = let p = a.1 in let q = b.1 in let u = c.1.yes in let v = c.1.no in
    term_is (CTerm-F.Ite c.0 a.0 b.0) _ _ (rooms_of (CTerm-F.Ite c.0 a.0 b.0)) (sizes_of (CTerm-F.Ite c.0 a.0 b.0))
    (omega (arith, p, q, u, v))

form_layer : (y : CForm-F SmallForm SmallTerm) →
    FormSmall (roll-CForm (map-CForm SmallForm SmallTerm CForm CTerm (λ e. e.0) (λ e. e.0) y))
form_layer CForm-F.Top =
    form_is CForm-F.Top _ _ (form_rooms_of CForm-F.Top) (form_sizes_of CForm-F.Top) (omega arith) (omega arith)
form_layer CForm-F.Bottom =
    form_is CForm-F.Bottom _ _ (form_rooms_of CForm-F.Bottom) (form_sizes_of CForm-F.Bottom) (omega arith)
    (omega arith)
form_layer (CForm-F.AtLeast t) = let p = t.1 in
    form_is (CForm-F.AtLeast t.0) _ _ (form_rooms_of (CForm-F.AtLeast t.0)) (form_sizes_of (CForm-F.AtLeast t.0))
    (omega (arith, p)) (omega (arith, p))
form_layer (CForm-F.Zero t) = let p = t.1 in
    form_is (CForm-F.Zero t.0) _ _ (form_rooms_of (CForm-F.Zero t.0)) (form_sizes_of (CForm-F.Zero t.0))
    (omega (arith, p)) (omega (arith, p))
form_layer (CForm-F.Not f) = let p = f.1.yes in let q = f.1.no in
    form_is (CForm-F.Not f.0) _ _ (form_rooms_of (CForm-F.Not f.0)) (form_sizes_of (CForm-F.Not f.0))
    (omega (arith, q)) (omega (arith, p))
form_layer (CForm-F.And f g) = let p = f.1.yes in let q = g.1.yes in let r = f.1.no in let s = g.1.no in
    form_is (CForm-F.And f.0 g.0) _ _ (form_rooms_of (CForm-F.And f.0 g.0)) (form_sizes_of (CForm-F.And f.0 g.0))
    (omega (arith, p, q)) (omega (arith, r, s))
form_layer (CForm-F.Or f g) = let p = f.1.yes in let q = g.1.yes in let r = f.1.no in let s = g.1.no in
    form_is (CForm-F.Or f.0 g.0) _ _ (form_rooms_of (CForm-F.Or f.0 g.0)) (form_sizes_of (CForm-F.Or f.0 g.0))
    (omega (arith, p, q)) (omega (arith, r, s))

form_small : (f : CForm) → FormSmall f
form_small f =
    ind-CForm FormSmall TermSmall (λ x y e. subst (λ z. FormSmall (roll-CForm z)) e (form_layer y))
    (λ x y e. subst (λ z. TermSmall (roll-CTerm z)) e (term_layer y)) f

pub refused-room : (f : CForm) → (room f).no ≤ form_nodes f + form_nodes f
refused-room f = (form_small f).no

-- facts, and for each waiting formula its room, and at least 1

abbrev pub waits : List CForm → ℕ
waits [] = 0
waits (f ∷ fs) = max 1 (room f).yes + waits fs

abbrev pub total : Branch → ℕ
total b = length b.facts + waits b.waiting

waits-append : (fs gs : List CForm) → waits (fs ++ gs) ≡ waits fs + waits gs
waits-append [] gs = omega arith
waits-append (f ∷ fs) gs = let h = waits-append fs gs in omega (arith, h)

pub total-joined : (a b : Branch) → total (joined a b) ≡ total a + total b
total-joined a b =
    let h = waits-append a.waiting b.waiting in let l = length-append a.facts b.facts in omega (arith, h, l)

-- a choice needs less room than its term
record ChoiceFits (t : CTerm) (c : Choice) : Type 0 where
  holds : 1 + ((room c.when).yes + term_room c.yes) ≤ term_room t
  fails : 1 + ((room c.when).no + term_room c.no) ≤ term_room t

abbrev Roomy : CTerm → Option Choice → Type 0
Roomy t None = Unit {0}
Roomy t (Some c) = ChoiceFits t c

pair-roomy : (node : CTerm → CTerm → CTerm) →
    ((a b : CTerm) → term_room (node a b) ≡ term_room a + term_room b) →
    (a b : CTerm) (m n : Option Choice) → Roomy a m → Roomy b n →
    Roomy (node a b) (first_choice (λ x. node x b) (λ y. node a y) m n)
pair-roomy node is a b None None p q = tt
pair-roomy node is a b None (Some d) p q =
    let t = is a b in let y = is a d.yes in let z = is a d.no in let r = q.holds in let s = q.fails in
    record { holds = omega (arith, t, y, r); fails = omega (arith, t, z, s) }
pair-roomy node is a b (Some d) n p q =
    let t = is a b in let y = is d.yes b in let z = is d.no b in let r = p.holds in let s = p.fails in
    record { holds = omega (arith, t, y, r); fails = omega (arith, t, z, s) }

scale-roomy : (k : ℤ) (a : CTerm) (m : Option Choice) → Roomy a m →
    Roomy (Scale k a) (first_choice (λ x. Scale k x) (λ x. Scale k x) m None)
scale-roomy k a None p = tt
scale-roomy k a (Some d) p =
    let t = room-Scale k a in let y = room-Scale k d.yes in let z = room-Scale k d.no in
    let r = p.holds in let s = p.fails in
    record { holds = omega (arith, t, y, r); fails = omega (arith, t, z, s) }

div-roomy : (a : CTerm) (k : ℤ) (m : Option Choice) → Roomy a m →
    Roomy (Div a k) (first_choice (λ x. Div x k) (λ x. Div x k) m None)
div-roomy a k None p = tt
div-roomy a k (Some d) p =
    let t = room-Div a k in let y = room-Div d.yes k in let z = room-Div d.no k in
    let r = p.holds in let s = p.fails in
    record { holds = omega (arith, t, y, r); fails = omega (arith, t, z, s) }

mod-roomy : (a : CTerm) (k : ℤ) (m : Option Choice) → Roomy a m →
    Roomy (Mod a k) (first_choice (λ x. Mod x k) (λ x. Mod x k) m None)
mod-roomy a k None p = tt
mod-roomy a k (Some d) p =
    let t = room-Mod a k in let y = room-Mod d.yes k in let z = room-Mod d.no k in
    let r = p.holds in let s = p.fails in
    record { holds = omega (arith, t, y, r); fails = omega (arith, t, z, s) }

ite-roomy : (f : CForm) (a b : CTerm) → ChoiceFits (Ite f a b) (record { when = f; yes = a; no = b })
ite-roomy f a b = let t = room-Ite f a b in record { holds = omega (arith, t); fails = omega (arith, t) }

term-roomy : (t : CTerm) → Roomy t (first_ite t)
term-roomy = choice_keeps Roomy (record {
  of_const = λ c. tt;
  of_slot = λ n. tt;
  of_param = λ n. tt;
  of_add = pair-roomy Add room-Add;
  of_sub = pair-roomy Sub room-Sub;
  of_scale = scale-roomy;
  of_div = div-roomy;
  of_mod = mod-roomy;
  of_ite = ite-roomy;
})

-- what is added

one-total : (g : CForm) (k : ℕ) → max 1 (room g).yes ≤ k → total (one_waiting g) ≤ k
one-total g k h = omega (arith, h)

choice-within : (f : CTerm → CForm) (c : Choice) (k : ℕ) →
    1 + ((room c.when).yes + (room (f c.yes)).yes) ≤ k → 1 + ((room c.when).no + (room (f c.no)).yes) ≤ k →
    total (one_waiting (choice_form f c)) ≤ k
choice-within f c k p q =
    let o = ap (λ (x : Room). x.yes) (room-Or (And c.when (f c.yes)) (And (Not c.when) (f c.no))) in
    let a = ap (λ (x : Room). x.yes) (room-And c.when (f c.yes)) in
    let b = ap (λ (x : Room). x.yes) (room-And (Not c.when) (f c.no)) in
    let n = ap (λ (x : Room). x.yes) (room-Not c.when) in
    one-total (choice_form f c) k (omega (arith, o, a, b, n, p, q))

plain-total : (g : CForm) (a : Branch) (b : Bool) (k : ℕ) → max 1 (room g).yes ≤ k → total a ≤ k →
    total (cond b (one_waiting g) a) ≤ k
plain-total g a true k h l = one-total g k h
plain-total g a false k h l = l

module _ (vs : List Variable) where
  least-total : (t : CTerm) (m : Option Choice) → Roomy t m → total (least_adds vs t m) ≤ 1 + term_room t
  least-total t None r =
      let y = ap (λ (x : Room). x.yes) (room-AtLeast t) in
      plain-total (AtLeast t) (one_fact (linear vs t)) (has_quotient t) (1 + term_room t) (omega (arith, y))
      (omega arith)
  least-total t (Some c) r =
      let y = ap (λ (x : Room). x.yes) (room-AtLeast c.yes) in
      let z = ap (λ (x : Room). x.yes) (room-AtLeast c.no) in
      let p = r.holds in let q = r.fails in
      choice-within AtLeast c (1 + term_room t) (omega (arith, y, p)) (omega (arith, z, q))

  zero-total : (t : CTerm) (m : Option Choice) → Roomy t m → total (zero_adds vs t m) ≤ 2 + term_room t
  zero-total t None r =
      let y = ap (λ (x : Room). x.yes) (room-Zero t) in
      plain-total (Zero t) (two_facts (linear vs t) (negated vs (linear vs t))) (has_quotient t) (2 + term_room t)
      (omega (arith, y)) (omega arith)
  zero-total t (Some c) r =
      let y = ap (λ (x : Room). x.yes) (room-Zero c.yes) in
      let z = ap (λ (x : Room). x.yes) (room-Zero c.no) in
      let p = r.holds in let q = r.fails in
      choice-within Zero c (2 + term_room t) (omega (arith, y, p)) (omega (arith, z, q))

  unequal-total : (t : CTerm) (m : Option Choice) → Roomy t m → total (unequal_adds t m) ≤ 2 + term_room t
  unequal-total t None r =
      let o = ap (λ (x : Room). x.yes) (room-Or (AtLeast (Sub t (Const (pos 1)))) (AtLeast (Sub (Const (negsuc 0)) t)))
      in
      let y = ap (λ (x : Room). x.yes) (room-AtLeast (Sub t (Const (pos 1)))) in
      let z = ap (λ (x : Room). x.yes) (room-AtLeast (Sub (Const (negsuc 0)) t)) in
      let u = room-Sub t (Const (pos 1)) in let v = room-Sub (Const (negsuc 0)) t in
      let c = room-Const (pos 1) in let d = room-Const (negsuc 0) in
      one-total (Or (AtLeast (Sub t (Const (pos 1)))) (AtLeast (Sub (Const (negsuc 0)) t))) (2 + term_room t)
      (omega (arith, o, y, z, u, v, c, d))
  unequal-total t (Some c) r =
      let y = ap (λ (x : Room). x.yes) (room-Not (Zero c.yes)) in
      let z = ap (λ (x : Room). x.yes) (room-Not (Zero c.no)) in
      let u = ap (λ (x : Room). x.no) (room-Zero c.yes) in
      let v = ap (λ (x : Room). x.no) (room-Zero c.no) in
      let p = r.holds in let q = r.fails in
      choice-within (λ x. Not (Zero x)) c (2 + term_room t) (omega (arith, y, u, p)) (omega (arith, z, v, q))

  abbrev Fits : CForm → Branch → Branch → Type 0
  Fits f a b = (total a ≤ (room f).yes) × (total b ≤ (room f).no)

  least-row : (t : CTerm) →
      Fits (AtLeast t) (least_adds vs t (first_ite t)) (least_adds vs (below_zero t) (first_ite (below_zero t)))
  least-row t =
      let y = ap (λ (x : Room). x.yes) (room-AtLeast t) in let n = ap (λ (x : Room). x.no) (room-AtLeast t) in
      let u = room-Sub (Const (negsuc 0)) t in let c = room-Const (negsuc 0) in
      let p = least-total t (first_ite t) (term-roomy t) in
      let q = least-total (below_zero t) (first_ite (below_zero t)) (term-roomy (below_zero t)) in
      (omega (arith, y, p), omega (arith, n, u, c, q))

  zero-row : (t : CTerm) → Fits (Zero t) (zero_adds vs t (first_ite t)) (unequal_adds t (first_ite t))
  zero-row t =
      let y = ap (λ (x : Room). x.yes) (room-Zero t) in let n = ap (λ (x : Room). x.no) (room-Zero t) in
      let p = zero-total t (first_ite t) (term-roomy t) in
      let q = unequal-total t (first_ite t) (term-roomy t) in
      (omega (arith, y, p), omega (arith, n, q))

  and-row : (f g : CForm) (a b c d : Branch) → Fits f a b → Fits g c d →
      Fits (And f g) (joined a c) (one_waiting (Or (Not f) (Not g)))
  and-row f g a b c d p q =
      let y = ap (λ (x : Room). x.yes) (room-And f g) in let n = ap (λ (x : Room). x.no) (room-And f g) in
      let o = ap (λ (x : Room). x.yes) (room-Or (Not f) (Not g)) in
      let u = ap (λ (x : Room). x.yes) (room-Not f) in let v = ap (λ (x : Room). x.yes) (room-Not g) in
      let j = total-joined a c in let p0 = p.0 in let q0 = q.0 in
      (omega (arith, y, j, p0, q0), one-total (Or (Not f) (Not g)) (room (And f g)).no (omega (arith, n, o, u, v)))

  or-row : (f g : CForm) (a b c d : Branch) → Fits f a b → Fits g c d →
      Fits (Or f g) (one_waiting (Or f g)) (joined b d)
  or-row f g a b c d p q =
      let y = ap (λ (x : Room). x.yes) (room-Or f g) in let n = ap (λ (x : Room). x.no) (room-Or f g) in
      let j = total-joined b d in let p1 = p.1 in let q1 = q.1 in
      (one-total (Or f g) (room (Or f g)).yes (omega (arith, y)), omega (arith, n, j, p1, q1))

  not-row : (f : CForm) (a b : Branch) → Fits f a b → Fits (Not f) b a
  not-row f a b p =
      let y = ap (λ (x : Room). x.yes) (room-Not f) in let n = ap (λ (x : Room). x.no) (room-Not f) in
      let p0 = p.0 in let p1 = p.1 in
      (omega (arith, y, p1), omega (arith, n, p0))

  pub adds-fit : (f : CForm) → (total (outcome vs f).yes ≤ (room f).yes) × (total (outcome vs f).no ≤ (room f).no)
  adds-fit = settled_keeps vs Fits (record {
    of_top = let n = ap (λ (x : Room). x.no) room-Top in (omega arith, omega (arith, n));
    of_bottom = let y = ap (λ (x : Room). x.yes) room-Bottom in (omega (arith, y), omega arith);
    of_least = least-row;
    of_zero = zero-row;
    of_not = not-row;
    of_and = and-row;
    of_or = or-row;
  })

-- the sides of a formula need no more room
side-room : (f : CForm) (x : CForm-F CForm CTerm) → out-CForm f ≡ x →
    ((room (sides_in f x).0).yes ≤ (room f).yes) × ((room (sides_in f x).1).yes ≤ (room f).yes)
side-room f CForm-F.Top e = (omega arith, omega arith)
side-room f CForm-F.Bottom e = (omega arith, omega arith)
side-room f (CForm-F.AtLeast t) e = (omega arith, omega arith)
side-room f (CForm-F.Zero t) e = (omega arith, omega arith)
side-room f (CForm-F.Not g) e = (omega arith, omega arith)
side-room f (CForm-F.And g k) e = (omega arith, omega arith)
side-room f (CForm-F.Or g k) e =
    let n = ap (λ (x : Room). x.yes)
    (fold_out-CForm Room ℕ form_room_step term_room_step f
    ∙ ap (λ x. form_room_step (map-CForm CForm CTerm Room ℕ room term_room x)) e) in
    (omega (arith, n), omega (arith, n))

pub sides-room : (f : CForm) → ((room (sides f).0).yes ≤ (room f).yes) × ((room (sides f).1).yes ≤ (room f).yes)
sides-room f = side-room f (out-CForm f) refl

room-out : (f : CForm) (x : CForm-F CForm CTerm) → out-CForm f ≡ x →
    room f ≡ form_room_step (map-CForm CForm CTerm Room ℕ room term_room x)
room-out f x e =
    fold_out-CForm Room ℕ form_room_step term_room_step f
    ∙ ap (λ y. form_room_step (map-CForm CForm CTerm Room ℕ room term_room y)) e

-- a formula without its quotient needs as much less room as the quotient's facts take
module _ (v : ℕ) where
  abbrev Spares : CTerm → Option Taken → Type 0
  Spares t None = Unit {0}
  Spares t (Some q) = term_room q.rest + 2 ≤ term_room t

  pair-spares : (node : CTerm → CTerm → CTerm) →
      ((a b : CTerm) → term_room (node a b) ≡ term_room a + term_room b) →
      (a b : CTerm) (m n : Option Taken) → Spares a m → Spares b n →
      Spares (node a b) (first_of (λ x. node x b) (λ y. node a y) m n)
  pair-spares node is a b None None p q = tt
  pair-spares node is a b None (Some r) p q =
      let t = is a b in let y = is a r.rest in omega (arith, t, y, q)
  pair-spares node is a b (Some r) n p q =
      let t = is a b in let y = is r.rest b in omega (arith, t, y, p)

  scale-spares : (k : ℤ) (a : CTerm) (m : Option Taken) → Spares a m →
      Spares (Scale k a) (first_of (λ x. Scale k x) (λ x. Scale k x) m None)
  scale-spares k a None p = tt
  scale-spares k a (Some r) p = let t = room-Scale k a in let y = room-Scale k r.rest in omega (arith, t, y, p)

  div-spares : (a : CTerm) (k : ℤ) (m : Option Taken) → Spares a m →
      Spares (Div a k) (or_whole (λ x. Div x k) m (whole_quotient v a k))
  div-spares a k None p = let t = room-Div a k in let y = room-Param v in omega (arith, t, y)
  div-spares a k (Some r) p = let t = room-Div a k in let y = room-Div r.rest k in omega (arith, t, y, p)

  mod-spares : (a : CTerm) (k : ℤ) (m : Option Taken) → Spares a m →
      Spares (Mod a k) (or_whole (λ x. Mod x k) m (whole_remainder v a k))
  mod-spares a k None p =
      let t = room-Mod a k in let y = room-Sub a (Scale (divisor k) (Param v)) in
      let z = room-Scale (divisor k) (Param v) in let u = room-Param v in omega (arith, t, y, z, u)
  mod-spares a k (Some r) p = let t = room-Mod a k in let y = room-Mod r.rest k in omega (arith, t, y, p)

  term-spares : (t : CTerm) → Spares t (first_taken v t)
  term-spares = taken_keeps v Spares (record {
    of_const = λ c. tt;
    of_slot = λ n. tt;
    of_param = λ n. tt;
    of_add = pair-spares Add room-Add;
    of_sub = pair-spares Sub room-Sub;
    of_scale = scale-spares;
    of_div = div-spares;
    of_mod = mod-spares;
    of_ite = λ c a b. tt;
  })

  least-spares : (f : CForm) (t : CTerm) (o : Option Taken) (r : Replaced) → room f ≡ room (AtLeast t) →
      Spares t o → replaced AtLeast o ≡ Some r → (room r.form).yes + 2 ≤ (room f).yes
  least-spares f t None r e s h = absurd (cc)
  least-spares f t (Some q) r e s h =
      let same : record { taken = q; form = AtLeast q.rest } ≡ r = cc in
      let x = ap (λ (y : Replaced). (room y.form).yes) same in
      let y = ap (λ (z : Room). z.yes) (room-AtLeast q.rest) in
      let z = ap (λ (z : Room). z.yes) (e ∙ room-AtLeast t) in
      omega (arith, s, x, y, z)

  zero-spares : (f : CForm) (t : CTerm) (o : Option Taken) (r : Replaced) → room f ≡ room (Zero t) →
      Spares t o → replaced Zero o ≡ Some r → (room r.form).yes + 2 ≤ (room f).yes
  zero-spares f t None r e s h = absurd (cc)
  zero-spares f t (Some q) r e s h =
      let same : record { taken = q; form = Zero q.rest } ≡ r = cc in
      let x = ap (λ (y : Replaced). (room y.form).yes) same in
      let y = ap (λ (z : Room). z.yes) (room-Zero q.rest) in
      let z = ap (λ (z : Room). z.yes) (e ∙ room-Zero t) in
      omega (arith, s, x, y, z)

  form-spares : (f : CForm) (x : CForm-F CForm CTerm) (r : Replaced) → out-CForm f ≡ x →
      replaced_in v x ≡ Some r → (room r.form).yes + 2 ≤ (room f).yes
  form-spares f CForm-F.Top r e h = absurd (cc)
  form-spares f CForm-F.Bottom r e h = absurd (cc)
  form-spares f (CForm-F.AtLeast t) r e h =
      least-spares f t (first_taken v t) r (room-out f (CForm-F.AtLeast t) e ∙ sym (room-AtLeast t)) (term-spares t) h
  form-spares f (CForm-F.Zero t) r e h =
      zero-spares f t (first_taken v t) r (room-out f (CForm-F.Zero t) e ∙ sym (room-Zero t)) (term-spares t) h
  form-spares f (CForm-F.Not g) r e h = absurd (cc)
  form-spares f (CForm-F.And g k) r e h = absurd (cc)
  form-spares f (CForm-F.Or g k) r e h = absurd (cc)

  pub quotient-room : (f : CForm) (r : Replaced) → without_quotient v f ≡ Some r →
      (room r.form).yes + 2 ≤ (room f).yes
  quotient-room f r h = form-spares f (out-CForm f) r refl h
