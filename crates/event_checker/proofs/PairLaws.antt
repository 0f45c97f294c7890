-- What a pair makes of a reading.
use Rattle.std.proofs.Common.{◌≡◌, ℕ, ◌<◌, ℤ, pos, ◌*ℤ◌, Result, Ok, Err}
use Rattle.std.proofs.Common.{List, [], ◌∷◌, ◌++◌, refl, sym, ap, ◌∙◌, subst, append-nil}
use Rattle.case_tables.specs.declared.code_table.Code.{Code}
use Rattle.unity_base.specs.declared.events.CertEvent.{CertEvent}
use Rattle.obligations.specs.declared.branches.Line.{Line}
use Rattle.obligations.specs.declared.branches.Variable.{Variable}
use Rattle.obligations.specs.declared.certificates.Node.{Node}
use Rattle.obligations.specs.LinearForms.{line_of_const}
use Rattle.obligations.proofs.LineLaws.{length-add_at}
use Rattle.certificate_rules.specs.Sums.{each_pair, then_by, fact_step, variable_step, all_pairs, no_sum, stated}
use Rattle.certificate_rules.specs.Refutation.{OpenBranch, fails, made_by, made_sum, made_round}
use Rattle.certificate_rules.specs.Refutation.{made_share, walk}
use Rattle.certificate_rules.proofs.SumLaws.{added-variable, pairs-stop, small-put}
use Rattle.certificate_rules.proofs.RefutationLaws.{total-size}
use Rattle.certificate_machine.specs.declared.frames.Machine.{Machine}
use Rattle.certificate_machine.specs.declared.running.Running.{Running}
use Rattle.certificate_machine.specs.Sums.{sum_line}
use Rattle.event_checker.specs.declared.reading.Open.{Open}
use Rattle.event_checker.specs.declared.reading.Reading.{Reading}
use Rattle.event_checker.specs.Events.{paired, with_pair, nodes_from}
use Rattle.event_checker.specs.Readings.{pair_makes, IsStatement, At, ReadingFails, ReadingStands}
use Rattle.event_checker.proofs.NodeLaws.{paired-behind, with_pairs, grown, sum-pairs, round-pairs, share-pairs}
use Rattle.event_checker.proofs.WalkLaws.{made-is, fails-at, each-append, each-further}

abbrev pub reading_of : Machine → Open → Running → ℕ → Reading
reading_of m st u node = record { machine = m; state = st; sum = u; node = node }

-- The numbers of a statement.

statement-keeps : (m : Machine) (p : ℤ × ℕ) (l k : Line) → IsStatement m l → variable_step p l ≡ Ok k → IsStatement m k
statement-keeps m p l k s e =
    let a = added-variable p.0 p.1 l k e in
    let w = a.place in
    subst (IsStatement m) (sym a.sum) (record {
      levels = s.levels;
      size = length-add_at l.factors w (p.0 *ℤ pos 1) ∙ s.size;
      factors = small-put l.factors w (p.0 *ℤ pos 1) s.factors a.small;
      constant = s.constant;
    })

-- Sums of one pair more.

sum-more : (m : Machine) (ps : List (ℤ × ℕ)) (p : ℤ × ℕ) (l : Line) (r : Result Line Code) →
    all_pairs m.variables m.branch.facts ps ≡ Ok l → fact_step m.branch.facts p l ≡ r →
    all_pairs m.variables m.branch.facts (ps ++ p ∷ []) ≡ r
sum-more m ps p l r e s =
    each-append (fact_step m.branch.facts) (Ok (no_sum m.variables)) ps p
    ∙ ap (λ q. then_by (fact_step m.branch.facts) q p) e ∙ s

stated-more : (m : Machine) (k : ℤ) (ps : List (ℤ × ℕ)) (p : ℤ × ℕ) (l : Line) (r : Result Line Code) →
    stated m.variables k ps ≡ Ok l → variable_step p l ≡ r → stated m.variables k (ps ++ p ∷ []) ≡ r
stated-more m k ps p l r e s =
    each-append variable_step (Ok (line_of_const m.variables k)) ps p ∙ ap (λ q. then_by variable_step q p) e ∙ s

-- what stopped stays so
sum-stopped : (m : Machine) (ps qs : List (ℤ × ℕ)) (code : Code) → all_pairs m.variables m.branch.facts ps ≡ Err code →
    all_pairs m.variables m.branch.facts (ps ++ qs) ≡ Err code
sum-stopped m ps qs code e =
    each-further (fact_step m.branch.facts) (Ok (no_sum m.variables)) ps qs
    ∙ ap (λ r. each_pair (fact_step m.branch.facts) r qs) e ∙ pairs-stop (fact_step m.branch.facts) code qs

stated-stopped : (m : Machine) (k : ℤ) (ps qs : List (ℤ × ℕ)) (code : Code) → stated m.variables k ps ≡ Err code →
    stated m.variables k (ps ++ qs) ≡ Err code
stated-stopped m k ps qs code e =
    each-further variable_step (Ok (line_of_const m.variables k)) ps qs
    ∙ ap (λ r. each_pair variable_step r qs) e ∙ pairs-stop variable_step code qs

-- A pair that is taken.

module _ (vs : List Variable) (root : List OpenBranch) (m : Machine) (u v : Running) (node : ℕ) (ns : List Node)
    (p : ℤ × ℕ) where
  abbrev l : Line
  l = sum_line u

  abbrev k : Line
  k = sum_line v

  split-paired : (done : List Node) (n : Node) → ns ≡ done ++ n ∷ [] → paired ns p ≡ done ++ with_pair n p ∷ []
  split-paired done n e = ap (λ xs. paired xs p) e ∙ paired-behind done n [] p

  pair-goes-at : (st : Open) → pair_makes st m.branch.facts p l ≡ Ok k →
      ReadingStands vs root (reading_of m st u node) ns →
      ReadingStands vs root (reading_of m st v node) (paired ns p)
  pair-goes-at Open.Nothing e g =
      let all : ns ≡ g.done = g.split ∙ ap (λ xs. g.done ++ xs) g.state.0 ∙ append-nil g.done in record {
        done = g.done;
        last = [];
        split = ap (λ xs. paired xs p) all ∙ g.state.1 p ∙ sym (append-nil g.done);
        at = g.at;
        state = (refl, g.state.1);
      }
  pair-goes-at Open.Sum e g =
      let s = g.state in
      let sum = sum-more m s.0 p l (Ok k) s.2 e in record {
        done = g.done;
        last = Node.Sum (s.0 ++ p ∷ []) ∷ [];
        split = split-paired g.done (Node.Sum s.0) (g.split ∙ ap (λ xs. g.done ++ xs) s.1);
        at = g.at;
        state = (
          s.0 ++ p ∷ [],
          refl,
          sum,
          record {
            levels = s.3.levels;
            size = total-size m.variables m.branch.facts (s.0 ++ p ∷ []) (no_sum m.variables) k refl sum;
          },
        );
      }
  pair-goes-at (Open.Round d) e g =
      let s = g.state in
      let sum = sum-more m s.0 p l (Ok k) s.2 e in record {
        done = g.done;
        last = Node.Round d (s.0 ++ p ∷ []) ∷ [];
        split = split-paired g.done (Node.Round d s.0) (g.split ∙ ap (λ xs. g.done ++ xs) s.1);
        at = g.at;
        state = (
          s.0 ++ p ∷ [],
          refl,
          sum,
          record {
            levels = s.3.levels;
            size = total-size m.variables m.branch.facts (s.0 ++ p ∷ []) (no_sum m.variables) k refl sum;
          },
        );
      }
  pair-goes-at Open.Share e g =
      let s = g.state in record {
        done = g.done;
        last = Node.Share s.0 (s.1 ++ p ∷ []) ∷ [];
        split = split-paired g.done (Node.Share s.0 s.1) (g.split ∙ ap (λ xs. g.done ++ xs) s.2);
        at = g.at;
        state = (s.0, s.1 ++ p ∷ [], refl, stated-more m s.0 s.1 p l (Ok k) s.3 e, statement-keeps m p l k s.4 e);
      }
  pair-goes-at (Open.Failed code at) e f = λ es. f (CertEvent.Pair p.0 p.1 ∷ es)
  pair-goes-at Open.Closed e f = λ es. f (CertEvent.Pair p.0 p.1 ∷ es)

  -- a node whose sum stopped fails, whatever follows
  stopped : (done : List Node) (n : Node) (code : Code) → At vs root m node done → 0 < m.levels →
      ns ≡ done ++ n ∷ [] → ((qs : List (ℤ × ℕ)) →
      made_by m.variables m.branch (with_pairs (with_pair n p) qs) ≡ fails code) →
      ReadingFails vs root code node (paired ns p)
  stopped done n code at some split stops es =
      let g = grown es done (with_pair n p) [] in
      let there = ap (λ xs. nodes_from xs es) (split-paired done n split) ∙ g.is in
      ap (λ xs. walk vs xs root 0) there
      ∙ fails-at vs root m node done at (with_pairs (with_pair n p) g.pairs) g.more code
      (sym (made-is vs m (with_pairs (with_pair n p) g.pairs) some at.scoped.variables) ∙ stops g.pairs)

  pair-fails-at : (st : Open) (code : Code) → pair_makes st m.branch.facts p l ≡ Err code →
      ReadingStands vs root (reading_of m st u node) ns → ReadingFails vs root code node (paired ns p)
  pair-fails-at Open.Nothing code e g = cc
  pair-fails-at Open.Sum code e g =
      let s = g.state in
      let sum = sum-more m s.0 p l (Err code) s.2 e in
      stopped g.done (Node.Sum s.0) code g.at s.3.levels (g.split ∙ ap (λ xs. g.done ++ xs) s.1)
      (λ qs. ap (made_by m.variables m.branch) (sum-pairs (s.0 ++ p ∷ []) qs)
      ∙ ap made_sum (sum-stopped m (s.0 ++ p ∷ []) qs code sum))
  pair-fails-at (Open.Round d) code e g =
      let s = g.state in
      let sum = sum-more m s.0 p l (Err code) s.2 e in
      stopped g.done (Node.Round d s.0) code g.at s.3.levels (g.split ∙ ap (λ xs. g.done ++ xs) s.1)
      (λ qs. ap (made_by m.variables m.branch) (round-pairs d (s.0 ++ p ∷ []) qs)
      ∙ ap (made_round m.branch d) (sum-stopped m (s.0 ++ p ∷ []) qs code sum))
  pair-fails-at Open.Share code e g =
      let s = g.state in
      let sum = stated-more m s.0 s.1 p l (Err code) s.3 e in
      stopped g.done (Node.Share s.0 s.1) code g.at s.4.levels (g.split ∙ ap (λ xs. g.done ++ xs) s.2)
      (λ qs. ap (made_by m.variables m.branch) (share-pairs s.0 (s.1 ++ p ∷ []) qs)
      ∙ ap (made_share m.branch) (stated-stopped m s.0 (s.1 ++ p ∷ []) qs code sum))
  pair-fails-at (Open.Failed c at) code e g = cc
  pair-fails-at Open.Closed code e g = cc

pub pair-goes : (vs : List Variable) (root : List OpenBranch) (r : Reading) (v : Running) (ns : List Node) (p : ℤ × ℕ) →
    pair_makes r.state r.machine.branch.facts p (sum_line r.sum) ≡ Ok (sum_line v) → ReadingStands vs root r ns →
    ReadingStands vs root (reading_of r.machine r.state v r.node) (paired ns p)
pair-goes vs root r v ns p e s = pair-goes-at vs root r.machine r.sum v r.node ns p r.state e s

pub pair-fails : (vs : List Variable) (root : List OpenBranch) (r : Reading) (ns : List Node) (p : ℤ × ℕ)
    (code : Code) → pair_makes r.state r.machine.branch.facts p (sum_line r.sum) ≡ Err code →
    ReadingStands vs root r ns →
    ReadingFails vs root code r.node (paired ns p)
pair-fails vs root r ns p code e s = pair-fails-at vs root r.machine r.sum r.sum r.node ns p r.state code e s
