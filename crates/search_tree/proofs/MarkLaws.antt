-- What a step down the plain tree adds to a branch is dropped again.
use Rattle.std.proofs.Common.{◌≡◌, ℕ, List, [], ◌∷◌, ◌++◌, take, length, refl, ap, ◌∙◌}
use Rattle.core_terms.specs.declared.trees.CForm.{CForm}
use Rattle.obligations.specs.declared.branches.Branch.{Branch}
use Rattle.obligations.specs.declared.branches.Fact.{Fact}
use Rattle.obligations.specs.declared.branches.Replaced.{Replaced}
use Rattle.obligations.specs.declared.branches.Variable.{Variable}
use Rattle.obligations.specs.Quotients.{with_quotient, low_fact, high_fact}
use Rattle.obligations.specs.Scopes.{with_next}
use Rattle.obligations.specs.Settling.{settled, added, outcome}
use Rattle.search_tree.specs.declared.marks.Mark.{Mark}
use Rattle.search_tree.specs.Marks.{mark_at, cut_to}
use Rattle.search_tree.proofs.SearchLaws.{take-whole}

regroup : {A : Type 0} (xs ys zs ws : List A) → ((xs ++ ys) ++ zs) ++ ws ≡ xs ++ ((ys ++ zs) ++ ws)
regroup [] ys zs ws = refl
regroup (x ∷ xs) ys zs ws = ap (λ z. x ∷ z) (regroup xs ys zs ws)

take-front : {A : Type 0} (xs ys zs ws : List A) (n : ℕ) → n ≡ length xs → take n (((xs ++ ys) ++ zs) ++ ws) ≡ xs
take-front xs ys zs ws n e = ap (take n) (regroup xs ys zs ws) ∙ take-whole xs ((ys ++ zs) ++ ws) n e

-- lists that begin with those of a branch
back : (b : Branch) (facts : List Fact) (waits : List CForm) (n : ℕ) → take (length b.facts) facts ≡ b.facts →
    take (length b.waiting) waits ≡ b.waiting →
    cut_to (mark_at b) (record { facts = facts; waiting = waits; added = n }) ≡ b
back b facts waits n p q =
    ap (λ fs. record { facts = fs; waiting = take (length b.waiting) waits; added = b.added }) p
    ∙ ap (λ ws. record { facts = b.facts; waiting = ws; added = b.added }) q

cut-settled : (us : List Variable) (f : CForm) (b : Branch) → cut_to (mark_at b) (settled us f b) ≡ b
cut-settled us f b =
    let more : Branch = (outcome us f).yes in
    back b (b.facts ++ more.facts) (b.waiting ++ more.waiting) b.added (take-whole b.facts more.facts _ refl)
    (take-whole b.waiting more.waiting _ refl)

cut-added : (g : Fact) (b : Branch) → cut_to (mark_at b) (added b g) ≡ b
cut-added g b =
    back b (b.facts ++ g ∷ []) (b.waiting ++ []) b.added (take-whole b.facts (g ∷ []) _ refl)
    (take-whole b.waiting [] _ refl)

cut-quotient : (us : List Variable) (r : Replaced) (b : Branch) → cut_to (mark_at b) (with_quotient us r b) ≡ b
cut-quotient us r b =
    let more : Branch = (outcome (with_next us) r.form).yes in
    let next : Branch = with_quotient us r b in
    back b next.facts next.waiting next.added
    (take-front b.facts (low_fact us r.taken ∷ []) (high_fact us r.taken ∷ []) more.facts _ refl)
    (take-front b.waiting [] [] more.waiting _ refl)

-- as the code meets them
again : (b c d e : Branch) (m : Mark) → m ≡ mark_at b → d ≡ c → e ≡ cut_to m d → cut_to (mark_at b) c ≡ b → e ≡ b
again b c d e m p q r back = r ∙ ap (λ x. cut_to x d) p ∙ ap (cut_to (mark_at b)) q ∙ back

pub settled-again : (us : List Variable) (f : CForm) (b c d e : Branch) (m : Mark) → m ≡ mark_at b →
    c ≡ settled us f b → d ≡ c → e ≡ cut_to m d → e ≡ b
settled-again us f b c d e m p q r s = again b c d e m p r s (ap (cut_to (mark_at b)) q ∙ cut-settled us f b)

pub added-again : (g : Fact) (b c d e : Branch) (m : Mark) → m ≡ mark_at b → c ≡ added b g → d ≡ c →
    e ≡ cut_to m d → e ≡ b
added-again g b c d e m p q r s = again b c d e m p r s (ap (cut_to (mark_at b)) q ∙ cut-added g b)

pub quotient-again : (us : List Variable) (r : Replaced) (b c d e : Branch) (m : Mark) → m ≡ mark_at b →
    c ≡ with_quotient us r b → d ≡ c → e ≡ cut_to m d → e ≡ b
quotient-again us r b c d e m p q s t = again b c d e m p s t (ap (cut_to (mark_at b)) q ∙ cut-quotient us r b)

pub ruleset cut_laws = (settled-again, added-again, quotient-again)
