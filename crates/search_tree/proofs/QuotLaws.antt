-- What taking a quotient makes of a branch and its scope.
use Rattle.std.proofs.Common.{◌≡◌, ℕ, ◌<◌, List, arith, sym, ap, subst, ◌∙◌}
use Rattle.obligations.specs.declared.branches.Branch.{Branch}
use Rattle.obligations.specs.declared.branches.Replaced.{Replaced}
use Rattle.obligations.specs.declared.branches.Variable.{Variable}
use Rattle.obligations.specs.Obligations.{AreOwn, HasRoom}
use Rattle.obligations.specs.Quotients.{with_quotient}
use Rattle.obligations.specs.Scopes.{scope, scope_of, with_next}
use Rattle.obligations.proofs.ScopeLaws.{scope-room}

-- the variables after a quotient is taken
pub quotient-scope : (vs us new all : List Variable) (r : Replaced) (b c : Branch) (n : ℕ) → us ≡ scope vs n →
    n ≡ b.added → new ≡ with_next us → all ≡ new → c ≡ with_quotient us r b → all ≡ scope_of vs c
quotient-scope vs us new all r b c n e h p q s =
    q ∙ p ∙ ap with_next (e ∙ ap (scope vs) h) ∙ sym (ap (scope_of vs) s)

pub quotient-branch : (vs us : List Variable) (r : Replaced) (b c : Branch) (n : ℕ) → us ≡ scope vs n →
    n ≡ b.added → c ≡ with_quotient us r b → c ≡ with_quotient (scope_of vs b) r b
quotient-branch vs us r b c n e h s = s ∙ ap (λ (x : List Variable). with_quotient x r b) (e ∙ ap (scope vs) h)

pub quotient-room : (vs us : List Variable) (n : ℕ) → AreOwn vs → n < 960 → us ≡ scope vs n → HasRoom us
quotient-room vs us n own h e = subst HasRoom (sym e) (scope-room vs n own (omega (arith, h)))

pub ruleset taking_laws = (quotient-scope, quotient-branch, quotient-room)
