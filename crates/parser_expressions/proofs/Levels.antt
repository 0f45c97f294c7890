-- What is read in brackets, where a level remains and where none does.
use Rattle.std.proofs.Common.{◌≡◌, ℕ, List, ◌-◌, ◌<◌, Ok, Err, refl, ap, ◌∙◌}
use Rattle.grammar_theory.specs.Ebnf.{Terminal, place_of, Tree, unit, pair, node, inside, named}
use Rattle.grammar_theory.specs.Reader.{Read, TooDeep, ◌>>=◌, skip, after, closed, read}
use Rattle.grammar_theory.proofs.Steps.{inside_some, inside_none}
use Rattle.unity_syntax.specs.Kinds.{Kind, kind}
use Rattle.unity_syntax.specs.Grammar.{grammar, bodies, at_number, made}
use Rattle.parser_expressions.specs.declared.stop.Stop.{Stop}
use Rattle.parser_expressions.specs.Gives.{Fails}
use Rattle.parser_expressions.proofs.Failing.{through, same_fails}

pub a_level : (n o k c : ℕ) (ts : List Terminal) → 0 < n →
    read grammar n (inside o k c) ts ≡ (skip o ts >>= λ x. closed (read grammar (n - 1) (at_number bodies k)) c x.1)
a_level n o k c ts h = inside_some grammar n o k c ts h

pub no_level : (n o k c : ℕ) (ts : List Terminal) → n ≡ 0 →
    read grammar n (inside o k c) ts ≡ (skip o ts >>= λ x. Err (TooDeep ts))
no_level n o k c ts h = inside_none grammar n o k c ts h

-- what is read, and then the closing token
abbrev pub shut_by : ℕ → Read Tree → Read Tree
shut_by c r = r >>= λ x. skip c x.1 >>= λ z. Ok (x.0, z.1)

shut_after : (c : ℕ) (f : Tree → Tree) (r : Read Tree) → after f (shut_by c r) ≡ shut_by c (after f r)
shut_after c f (Ok p) = go (skip c p.1)
  where
    go : (r : Read Tree) → after f (r >>= λ z. Ok (p.0, z.1)) ≡ (r >>= λ z. Ok (f p.0, z.1))
    go (Ok q) = refl
    go (Err d) = refl
shut_after c f (Err d) = refl

-- An action on brackets is an action on what stands in them.
pub after_level : (f : Tree → Tree) (n o k c : ℕ) (ts : List Terminal) → 0 < n →
    after f (read grammar n (inside o k c) ts)
    ≡ (skip o ts >>= λ x. shut_by c (after f (read grammar (n - 1) (at_number bodies k) x.1)))
after_level f n o k c ts h = ap (after f) (inside_some grammar n o k c ts h) ∙ go (skip o ts)
  where
    go : (r : Read Tree) → after f (r >>= λ x. shut_by c (read grammar (n - 1) (at_number bodies k) x.1))
        ≡ (r >>= λ x. shut_by c (after f (read grammar (n - 1) (at_number bodies k) x.1)))
    go (Ok p) = shut_after c f (read grammar (n - 1) (at_number bodies k) p.1)
    go (Err d) = refl

pub after_none : (f : Tree → Tree) (n o k c : ℕ) (ts : List Terminal) → n ≡ 0 →
    after f (read grammar n (inside o k c) ts) ≡ (skip o ts >>= λ x. Err (TooDeep ts))
after_none f n o k c ts h = ap (after f) (inside_none grammar n o k c ts h) ∙ go (skip o ts)
  where
    go : (r : Read Tree) → after f (r >>= λ x. Err (TooDeep ts)) ≡ (r >>= λ x. Err (TooDeep ts))
    go (Ok p) = refl
    go (Err d) = refl

pub named_level : (f : ℕ → Tree → Tree) (n o k c : ℕ) (ts : List Terminal) → 0 < n →
    read grammar n (named f (inside o k c)) ts
    ≡ (skip o ts >>= λ x. shut_by c (after (f (place_of ts)) (read grammar (n - 1) (at_number bodies k) x.1)))
named_level f n o k c ts h = after_level (f (place_of ts)) n o k c ts h

pub named_none : (f : ℕ → Tree → Tree) (n o k c : ℕ) (ts : List Terminal) → n ≡ 0 →
    read grammar n (named f (inside o k c)) ts ≡ (skip o ts >>= λ x. Err (TooDeep ts))
named_none f n o k c ts h = after_none (f (place_of ts)) n o k c ts h

-- brackets that a node stands for
pub made_level : (kd : Kind) (n o k c : ℕ) (ts : List Terminal) → 0 < n →
    read grammar n (made kd (inside o k c)) ts
    ≡ (skip o ts >>= λ x. shut_by c (after (node (kind kd) (place_of ts))
    (read grammar (n - 1) (at_number bodies k) x.1)))
made_level kd n o k c ts h = named_level (node (kind kd)) n o k c ts h

pub made_none : (kd : Kind) (n o k c : ℕ) (ts : List Terminal) → n ≡ 0 →
    read grammar n (made kd (inside o k c)) ts ≡ (skip o ts >>= λ x. Err (TooDeep ts))
made_none kd n o k c ts h = named_none (node (kind kd)) n o k c ts h

-- a node of what stands in brackets
pub node_level : (kd at : ℕ) (n o k c : ℕ) (ts : List Terminal) → 0 < n →
    after (node kd at) (read grammar n (inside o k c) ts)
    ≡ (skip o ts >>= λ x. shut_by c (after (node kd at) (read grammar (n - 1) (at_number bodies k) x.1)))
node_level kd at n o k c ts h = after_level (node kd at) n o k c ts h

pub node_none : (kd at : ℕ) (n o k c : ℕ) (ts : List Terminal) → n ≡ 0 →
    after (node kd at) (read grammar n (inside o k c) ts) ≡ (skip o ts >>= λ x. Err (TooDeep ts))
node_none kd at n o k c ts h = after_none (node kd at) n o k c ts h

-- a node of something and what stands in brackets
pub with_level : (kd at : ℕ) (w : Tree) (n o k c : ℕ) (ts : List Terminal) → 0 < n →
    after (λ x. node kd at (pair w x)) (read grammar n (inside o k c) ts)
    ≡ (skip o ts >>= λ x. shut_by c (after (λ x. node kd at (pair w x))
    (read grammar (n - 1) (at_number bodies k) x.1)))
with_level kd at w n o k c ts h = after_level (λ x. node kd at (pair w x)) n o k c ts h

pub with_none : (kd at : ℕ) (w : Tree) (n o k c : ℕ) (ts : List Terminal) → n ≡ 0 →
    after (λ x. node kd at (pair w x)) (read grammar n (inside o k c) ts) ≡ (skip o ts >>= λ x. Err (TooDeep ts))
with_none kd at w n o k c ts h = after_none (λ x. node kd at (pair w x)) n o k c ts h

-- a fault in what stands in brackets
pub contents_fail : (f : Tree → Tree) (n o k c : ℕ) (ts mid : List Terminal) → 0 < n → skip o ts ≡ Ok (unit, mid) →
    (stop : Stop) →
    Fails stop (after f (read grammar (n - 1) (at_number bodies k) mid)) → Fails stop
    (after f (read grammar n (inside o k c) ts))
contents_fail f n o k c ts mid some e stop h =
    same_fails stop (after_level f n o k c ts some ∙ ap (λ r. r >>= λ x. shut_by c
    (after f (read grammar (n - 1) (at_number bodies k) x.1))) e)
    (through (shut_by c) (λ d. refl) stop (after f (read grammar (n - 1) (at_number bodies k) mid)) h)
