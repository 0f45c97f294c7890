-- The kinds of a tree's nodes: one for each variant of each type of the typed trees, under the variant's name.
use Rattle.std.specs.Prelude.{ℕ}

-- the variants, by the names of their types and of themselves
pub data Kind : Type 0 where
  -- ends of ranges, and ranges
  end_number end_word range : Kind
  -- expressions
  expr_implies expr_and expr_or expr_not expr_compare expr_sum expr_product expr_number expr_true expr_false expr_word
      expr_brackets expr_quantified : Kind
  -- what stands before a program's statements
  plain_boolean plain_range plain_words type_plain type_array var def init_number init_word init_true
      init_false init : Kind
  -- statements
  target values alts component_set component_quantified assign item_statement item_quantified items : Kind
  -- programs
  initially program_union program_plain : Kind
  -- statements' names, references and terms
  inst ref term_imply term_from term_pair term_exists term_induct term_psp term_weaken : Kind
  -- proofs
  param claim_defined claim_invariant claim_stable claim_between rule_text rule_weaken rule_pair rule_term
      step proof : Kind
  -- certificates
  pair node_case node_split node_sum node_round certificates : Kind
  -- documents
  schedule part_program part_proof version document : Kind
  -- claims, rules and nodes of the later version
  claim_constant claim_fixed rule_superpose rule_complete node_quot node_share : Kind

-- the number of each kind
abbrev pub kind : Kind → ℕ
kind Kind.end_number = 0
kind Kind.end_word = 1
kind Kind.range = 2
kind Kind.expr_implies = 3
kind Kind.expr_and = 4
kind Kind.expr_or = 5
kind Kind.expr_not = 6
kind Kind.expr_compare = 7
kind Kind.expr_sum = 8
kind Kind.expr_product = 9
kind Kind.expr_number = 10
kind Kind.expr_true = 11
kind Kind.expr_false = 12
kind Kind.expr_word = 13
kind Kind.expr_brackets = 14
kind Kind.expr_quantified = 15
kind Kind.plain_boolean = 16
kind Kind.plain_range = 17
kind Kind.plain_words = 18
kind Kind.type_plain = 19
kind Kind.type_array = 20
kind Kind.var = 21
kind Kind.def = 22
kind Kind.init_number = 23
kind Kind.init_word = 24
kind Kind.init_true = 25
kind Kind.init_false = 26
kind Kind.init = 27
kind Kind.target = 28
kind Kind.values = 29
kind Kind.alts = 30
kind Kind.component_set = 31
kind Kind.component_quantified = 32
kind Kind.assign = 33
kind Kind.item_statement = 34
kind Kind.item_quantified = 35
kind Kind.items = 36
kind Kind.initially = 37
kind Kind.program_union = 38
kind Kind.program_plain = 39
kind Kind.inst = 40
kind Kind.ref = 41
kind Kind.term_imply = 42
kind Kind.term_from = 43
kind Kind.term_pair = 44
kind Kind.term_exists = 45
kind Kind.term_induct = 46
kind Kind.term_psp = 47
kind Kind.term_weaken = 48
kind Kind.param = 49
kind Kind.claim_defined = 50
kind Kind.claim_invariant = 51
kind Kind.claim_stable = 52
kind Kind.claim_between = 53
kind Kind.rule_text = 54
kind Kind.rule_weaken = 55
kind Kind.rule_pair = 56
kind Kind.rule_term = 57
kind Kind.step = 58
kind Kind.proof = 59
kind Kind.pair = 60
kind Kind.node_case = 61
kind Kind.node_split = 62
kind Kind.node_sum = 63
kind Kind.node_round = 64
kind Kind.certificates = 65
kind Kind.schedule = 66
kind Kind.part_program = 67
kind Kind.part_proof = 68
kind Kind.version = 69
kind Kind.document = 70
kind Kind.claim_constant = 71
kind Kind.claim_fixed = 72
kind Kind.rule_superpose = 73
kind Kind.rule_complete = 74
kind Kind.node_quot = 75
kind Kind.node_share = 76

-- What stands in brackets.
pub data Contents : Type 0 where
  -- of expressions, targets, types, start values, parameters, and references
  parentheses index words start_index params ends : Contents
  -- of `<||` and of `<[]`
  assign items : Contents
  -- of terms
  imply pair exists induct psp weaken : Contents

-- the number of each
abbrev pub contents : Contents → ℕ
contents Contents.parentheses = 0
contents Contents.index = 1
contents Contents.words = 2
contents Contents.start_index = 3
contents Contents.params = 4
contents Contents.ends = 5
contents Contents.assign = 6
contents Contents.items = 7
contents Contents.imply = 8
contents Contents.pair = 9
contents Contents.exists = 10
contents Contents.induct = 11
contents Contents.psp = 12
contents Contents.weaken = 13
