-- Reading programs, proofs, certificates and documents back from their trees.
use Rattle.std.proofs.Common.{◌≡◌, List, [], ◌∷◌, Option, refl, sym, ap, ◌∙◌}
use Rattle.grammar_theory.specs.Ebnf.{Tree, unit, nil, more}
use Rattle.unity_syntax.specs.Kinds.{Kind}
use Rattle.unity_syntax.specs.View.{view_list, view_some, view_var, view_def, view_init, view_initially, view_program}
use Rattle.unity_syntax.specs.View.{view_inst, view_ref, view_param, view_claim, view_rule, view_step, view_proof}
use Rattle.unity_syntax.specs.View.{view_pair, view_node, view_certificate, view_certificates, view_schedule, view_part}
use Rattle.unity_syntax.specs.View.{view}
use Rattle.unity_syntax.specs.declared.declaration.Var.{Var}
use Rattle.unity_syntax.specs.declared.declaration.Def.{Def}
use Rattle.unity_syntax.specs.declared.program.Initially.{Initially}
use Rattle.unity_syntax.specs.declared.program.Program.{Program}
use Rattle.unity_syntax.specs.declared.term.Ref.{Ref}
use Rattle.unity_syntax.specs.declared.proof.Param.{Param}
use Rattle.unity_syntax.specs.declared.proof.Claim.{Claim}
use Rattle.unity_syntax.specs.declared.proof.Rule.{Rule}
use Rattle.unity_syntax.specs.declared.proof.Step.{Step}
use Rattle.unity_syntax.specs.declared.proof.Proof.{Proof}
use Rattle.unity_syntax.specs.declared.certificate.Pair.{Pair}
use Rattle.unity_syntax.specs.declared.certificate.Node.{Node}
use Rattle.unity_syntax.specs.declared.certificate.CertText.{CertText}
use Rattle.unity_syntax.specs.declared.certificate.Certificates.{Certificates}
use Rattle.unity_syntax.specs.declared.document.Schedule.{Schedule}
use Rattle.unity_syntax.specs.declared.document.Part.{Part}
use Rattle.unity_syntax.specs.declared.document.Document.{Document}
use Rattle.unity_syntax.proofs.BackParts.{both_same, three_same, word_of_class, word_back, place_in, kind_in, parts_in}
use Rattle.unity_syntax.proofs.BackParts.{first_in, second_in, class_in, name_of, number_of, flag_of, option_of}
use Rattle.unity_syntax.proofs.BackParts.{list_of, some_of, IsBack, flag_back, option_back, list_back, some_back}
use Rattle.unity_syntax.proofs.BackParts.{by_kind}
use Rattle.unity_syntax.proofs.BackExpressions.{range_of, range_back, expr_of, expr_back}
use Rattle.unity_syntax.proofs.BackDeclarations.{var_of, var_back, def_of, def_back, init_of, init_back}
use Rattle.unity_syntax.proofs.BackStatements.{items_of, items_back}
use Rattle.unity_syntax.proofs.BackTerms.{inst_of, inst_back, ref_of, ref_back, term_of, term_back}

abbrev initially_of : Tree → Initially
initially_of t = record { at = place_in t; of = expr_of (parts_in t) }

initially_back : IsBack view_initially initially_of
initially_back i = ap (λ e. record { at = i.at; of = e }) (expr_back i.of)

-- the sections that follow a program's name
abbrev sections_in : Tree → Tree
sections_in t = second_in (parts_in t)

abbrev program_of : Tree → Program
program_of t =
    by_kind ((
      Kind.program_union,
      Program.Union (place_in t) (name_of (first_in (parts_in t))) (name_of (first_in (sections_in t)))
          (name_of (second_in (sections_in t))),
    ) ∷ [])
    (Program.Plain (place_in t) (name_of (first_in (parts_in t)))
    (option_of (list_of var_of) (first_in (sections_in t)))
    (option_of (list_of def_of) (first_in (second_in (sections_in t))))
    (option_of initially_of (first_in (second_in (second_in (sections_in t)))))
    (option_of (some_of init_of) (first_in (second_in (second_in (second_in (sections_in t))))))
    (items_of (second_in (second_in (second_in (second_in (sections_in t)))))))
    (kind_in t)

program_back : IsBack view_program program_of
program_back (Program.Union at name l r) = refl
program_back (Program.Plain at name declare always initially start items) =
    three_same (λ d a (f : Option (List Var) → Option (List Def) → Program). f d a)
    (option_back (view_list view_var) (list_of var_of) (list_back view_var var_of var_back) declare)
    (option_back (view_list view_def) (list_of def_of) (list_back view_def def_of def_back) always)
    (three_same (λ i s xs d a. Program.Plain at name d a i s xs)
    (option_back view_initially initially_of initially_back initially)
    (option_back (view_some view_init) (some_of init_of) (some_back view_init init_of init_back) start)
    (items_back items))

abbrev param_of : Tree → Param
param_of t = record {
  at = place_in t;
  name = name_of (first_in (parts_in t));
  range = range_of (second_in (parts_in t));
}

param_back : IsBack view_param param_of
param_back p = ap (λ r. record { at = p.at; name = p.name; range = r }) (range_back p.range)

abbrev claim_of : Tree → Claim
claim_of t =
    by_kind (
    (Kind.claim_defined, Claim.Defined (place_in t))
    ∷ (Kind.claim_invariant, Claim.Invariant (place_in t) (expr_of (parts_in t)))
    ∷ (Kind.claim_stable, Claim.Stable (place_in t) (expr_of (parts_in t)))
    ∷ (Kind.claim_constant, Claim.Constant (place_in t) (expr_of (parts_in t)))
    ∷ (Kind.claim_fixed, Claim.Fixed (place_in t) (expr_of (parts_in t)))
    ∷ []) (Claim.Between (place_in t) (expr_of (first_in (parts_in t)))
    (word_of_class (class_in (first_in (second_in (parts_in t))))) (expr_of (second_in (second_in (parts_in t)))))
    (kind_in t)

claim_back : IsBack view_claim claim_of
claim_back (Claim.Defined at) = refl
claim_back (Claim.Invariant at p) = ap (λ p. Claim.Invariant at p) (expr_back p)
claim_back (Claim.Stable at p) = ap (λ p. Claim.Stable at p) (expr_back p)
claim_back (Claim.Constant at p) = ap (λ p. Claim.Constant at p) (expr_back p)
claim_back (Claim.Fixed at p) = ap (λ p. Claim.Fixed at p) (expr_back p)
claim_back (Claim.Between at p which q) =
    three_same (λ p w q. Claim.Between at p w q) (expr_back p) (word_back which) (expr_back q)

abbrev rule_of : Tree → Rule
rule_of t =
    by_kind (
    (Kind.rule_text, Rule.Text (place_in t) (option_of inst_of (parts_in t)))
    ∷ (Kind.rule_weaken, Rule.Weaken (place_in t) (ref_of (parts_in t)))
    ∷ (
      Kind.rule_pair,
      Rule.Pair (place_in t) (word_of_class (class_in (first_in (parts_in t))))
          (ref_of (first_in (second_in (parts_in t)))) (ref_of (second_in (second_in (parts_in t)))),
    )
    ∷ (Kind.rule_superpose, Rule.Superpose (place_in t) (ref_of (parts_in t)))
    ∷ (
      Kind.rule_complete,
      Rule.Complete (place_in t) (ref_of (first_in (parts_in t)))
          (ref_of (first_in (second_in (parts_in t)))) (ref_of (first_in (second_in (second_in (parts_in t)))))
          (ref_of (second_in (second_in (second_in (parts_in t))))),
    )
    ∷ []) (Rule.Term (place_in t) (term_of (parts_in t))) (kind_in t)

rule_back : IsBack view_rule rule_of
rule_back (Rule.Text at inst) = ap (λ i. Rule.Text at i) (option_back view_inst inst_of inst_back inst)
rule_back (Rule.Weaken at ref) = ap (λ r. Rule.Weaken at r) (ref_back ref)
rule_back (Rule.Pair at which r s) =
    three_same (λ w r s. Rule.Pair at w r s) (word_back which) (ref_back r) (ref_back s)
rule_back (Rule.Superpose at ref) = ap (λ r. Rule.Superpose at r) (ref_back ref)
rule_back (Rule.Complete at r s t u) =
    both_same (λ r (f : Ref → Rule). f r) (ref_back r)
    (three_same (λ s t u r. Rule.Complete at r s t u) (ref_back s) (ref_back t) (ref_back u))
rule_back (Rule.Term at term) = ap (λ t. Rule.Term at t) (term_back term)

abbrev step_of : Tree → Step
step_of t = record {
  at = place_in t;
  name = name_of (first_in (parts_in t));
  params = option_of (some_of param_of) (first_in (second_in (parts_in t)));
  claim = claim_of (first_in (second_in (second_in (parts_in t))));
  rule = rule_of (first_in (second_in (second_in (second_in (parts_in t)))));
  using = option_of (some_of ref_of) (second_in (second_in (second_in (second_in (parts_in t)))));
}

step_back : IsBack view_step step_of
step_back s =
    both_same (λ p (f : Option (Param × List Param) → Step). f p)
    (option_back (view_some view_param) (some_of param_of) (some_back view_param param_of param_back) s.params)
    (three_same (λ c r u p. record { at = s.at; name = s.name; params = p; claim = c; rule = r; using = u })
    (claim_back s.claim) (rule_back s.rule)
    (option_back (view_some view_ref) (some_of ref_of) (some_back view_ref ref_of ref_back) s.using))

abbrev proof_of : Tree → Proof
proof_of t = record {
  at = place_in t;
  program = name_of (first_in (parts_in t));
  steps = list_of step_of (second_in (parts_in t));
}

proof_back : IsBack view_proof proof_of
proof_back p = ap (λ s. record { at = p.at; program = p.program; steps = s })
    (list_back view_step step_of step_back p.steps)

abbrev pair_of : Tree → Pair
pair_of t = record {
  at = place_in t;
  minus = flag_of (first_in (parts_in t));
  multiplier = number_of (first_in (second_in (parts_in t)));
  fact = number_of (second_in (second_in (parts_in t)));
}

pair_back : IsBack view_pair pair_of
pair_back p = ap (λ m. record { at = p.at; minus = m; multiplier = p.multiplier; fact = p.fact }) (flag_back p.minus)

abbrev node_of : Tree → Node
node_of t =
    by_kind (
    (Kind.node_case, Node.Case (place_in t) (number_of (parts_in t)))
    ∷ (
      Kind.node_split,
      Node.Split (place_in t) (number_of (first_in (parts_in t)))
          (flag_of (first_in (second_in (parts_in t)))) (number_of (second_in (second_in (parts_in t)))),
    )
    ∷ (Kind.node_sum, Node.Sum (place_in t) (list_of pair_of (parts_in t)))
    ∷ (Kind.node_quot, Node.Quot (place_in t) (number_of (parts_in t)))
    ∷ (
      Kind.node_share,
      Node.Share (place_in t) (flag_of (first_in (parts_in t))) (number_of (first_in (second_in (parts_in t))))
          (list_of pair_of (second_in (second_in (parts_in t)))),
    )
    ∷ []) (Node.Round (place_in t) (flag_of (first_in (parts_in t))) (number_of (first_in (second_in (parts_in t))))
    (list_of pair_of (second_in (second_in (parts_in t))))) (kind_in t)

node_back : IsBack view_node node_of
node_back (Node.Case at number) = refl
node_back (Node.Split at variable minus bound) = ap (λ m. Node.Split at variable m bound) (flag_back minus)
node_back (Node.Sum at pairs) = ap (λ ps. Node.Sum at ps) (list_back view_pair pair_of pair_back pairs)
node_back (Node.Round at minus divisor pairs) =
    both_same (λ m ps. Node.Round at m divisor ps) (flag_back minus) (list_back view_pair pair_of pair_back pairs)
node_back (Node.Quot at number) = refl
node_back (Node.Share at minus constant pairs) =
    both_same (λ m ps. Node.Share at m constant ps) (flag_back minus) (list_back view_pair pair_of pair_back pairs)

-- the items of a repetition
abbrev head_in : Tree → Tree
head_in (more x xs) = x
head_in _ = unit

abbrev tail_in : Tree → Tree
tail_in (more x xs) = xs
tail_in _ = nil

abbrev certificate_of : Tree → CertText
certificate_of t = record {
  at = place_in t;
  number = kind_in t;
  first = node_of (head_in (second_in (parts_in t)));
  rest = list_of node_of (tail_in (second_in (parts_in t)));
}

certificate_back : IsBack view_certificate certificate_of
certificate_back c = both_same (λ n ns. record { at = c.at; number = c.number; first = n; rest = ns })
    (node_back c.first) (list_back view_node node_of node_back c.rest)

abbrev certificates_of : Tree → Certificates
certificates_of t = record { at = place_in t; items = list_of certificate_of (parts_in t) }

certificates_back : IsBack view_certificates certificates_of
certificates_back c = ap (λ cs. record { at = c.at; items = cs })
    (list_back view_certificate certificate_of certificate_back c.items)

abbrev schedule_of : Tree → Schedule
schedule_of t = record {
  at = place_in t;
  program = name_of (first_in (parts_in t));
  choices = option_of (some_of inst_of) (second_in (parts_in t));
}

schedule_back : IsBack view_schedule schedule_of
schedule_back s =
    ap (λ c. record { at = s.at; program = s.program; choices = c })
    (option_back (view_some view_inst) (some_of inst_of) (some_back view_inst inst_of inst_back) s.choices)

abbrev part_of : Tree → Part
part_of t =
    by_kind ((Kind.part_program, Part.Program (place_in t) (program_of (parts_in t))) ∷ [])
    (Part.Proof (place_in t) (proof_of (parts_in t))) (kind_in t)

part_back : IsBack view_part part_of
part_back (Part.Program at program) = ap (λ p. Part.Program at p) (program_back program)
part_back (Part.Proof at proof) = ap (λ p. Part.Proof at p) (proof_back proof)

abbrev document_of : Tree → Document
document_of t = record {
  at = place_in t;
  number_at = place_in (first_in (parts_in t));
  number = number_of (parts_in (first_in (parts_in t)));
  parts = list_of part_of (first_in (second_in (parts_in t)));
  schedule = option_of schedule_of (first_in (second_in (second_in (parts_in t))));
  certificates = option_of certificates_of (second_in (second_in (second_in (parts_in t))));
}

document_back : IsBack view document_of
document_back d =
    three_same (λ p s c. record {
      at = d.at;
      number_at = d.number_at;
      number = d.number;
      parts = p;
      schedule = s;
      certificates = c;
    })
    (list_back view_part part_of part_back d.parts) (option_back view_schedule schedule_of schedule_back d.schedule)
    (option_back view_certificates certificates_of certificates_back d.certificates)

-- two documents with one tree are one document
pub view_injective : (d e : Document) → view d ≡ view e → d ≡ e
view_injective d e same = sym (document_back d) ∙ ap document_of same ∙ document_back e
