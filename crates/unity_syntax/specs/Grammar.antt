-- The grammar of the language, as it is written in docs/LANGUAGE.md. It is that of version 2: in a text of version 1
-- the words that only version 2 has are no tokens of any production (specs/Classes.antt).
--
-- Above each production stands its line. A production stands below those that it names, so that the order is that of
-- the page from its end to its beginning, except where expressions, ranges and references are needed earlier. What
-- stands between brackets is a production of its own, which the table `bodies` lists.
--
-- A token that only separates is dropped, so that a node's parts are those of the typed tree, in their order.
use Rattle.std.specs.Prelude.{ℕ, zero, suc, false, ◌||◌, ◌==◌, if◌then◌else◌, List, [], ◌∷◌, map}
use Rattle.case_tables.specs.declared.word_table.Word.{Word}
use Rattle.case_tables.specs.declared.symbol_table.Symbol.{Symbol}
use Rattle.case_tables.specs.declared.symbol_table.Symbol.TheVariants.{Below as below}
use Rattle.grammar_theory.specs.Ebnf.{Tree, unit, pair, left, right, none, some, nil, node, Ebnf, version, both, either}
use Rattle.grammar_theory.specs.Ebnf.{maybe}
use Rattle.grammar_theory.specs.Ebnf.{many, numbered, prefix_tree, named, inside, fixed, word, number, one_of, repeated}
use Rattle.grammar_theory.specs.Ebnf.{Grammar}
use Rattle.unity_syntax.specs.Classes.{name_class, number_class, reserved, symbol, operator}
use Rattle.unity_syntax.specs.Kinds.{Kind, kind, Contents, contents}
use Rattle.unity_syntax.specs.declared.expression.Operator.{Operator}

-- the second of two parts
abbrev pub second : ℕ → Tree → Tree
second place (pair x y) = y
second place _ = unit

-- the first of two parts
abbrev pub first : ℕ → Tree → Tree
first place (pair x y) = x
first place _ = unit

-- the one that stands there
abbrev pub chosen : ℕ → Tree → Tree
chosen place (left x) = x
chosen place (right x) = x
chosen place _ = unit

-- A form after a token of the class, which is dropped.
abbrev pub past : ℕ → Ebnf → Ebnf
past class a = named second (both (fixed class) a)

-- A form before a token of the class, which is dropped.
abbrev pub up_to : Ebnf → ℕ → Ebnf
up_to a class = named first (both a (fixed class))

-- One form or the other, where it is not said which.
infixr 20 ◌or◌
abbrev pub ◌or◌ : Ebnf → Ebnf → Ebnf
a or b = named chosen (either a b)

-- A node of the kind, at the place where the form begins.
abbrev pub made : Kind → Ebnf → Ebnf
made k a = named (node (kind k)) a

-- Once or more often, with a token of the class between two.
abbrev pub one_or_more : ℕ → Ebnf → Ebnf
one_or_more class a = both a (many (past class a))

-- a word that is not reserved
abbrev pub name_ : Ebnf
name_ = word name_class

-- a number, with its value
abbrev pub number_ : Ebnf
number_ = number number_class

-- [ "-" ]
abbrev pub minus_ : Ebnf
minus_ = maybe (fixed (symbol Symbol.Minus))

-- "+" | "-"
abbrev pub plus_or_minus_ : Ebnf
plus_or_minus_ = one_of (map symbol (Symbol.Plus ∷ Symbol.Minus ∷ []))

-- "(" .. ")", with the contents of this number
abbrev pub in_parentheses : Contents → Ebnf
in_parentheses c = inside (symbol Symbol.OpenParenthesis) (contents c) (symbol Symbol.CloseParenthesis)

-- "[" .. "]"
abbrev pub in_brackets : Contents → Ebnf
in_brackets c = inside (symbol Symbol.OpenBracket) (contents c) (symbol Symbol.CloseBracket)

-- end = [ "-" ] number | word [ ( "+" | "-" ) number ]
unfoldable pub end_ : Ebnf
end_ =
    made Kind.end_number (both minus_ number_)
    or made Kind.end_word (both name_ (maybe (both plus_or_minus_ number_)))

-- range = end ".." end
unfoldable pub range_ : Ebnf
range_ = made Kind.range (both end_ (past (symbol Symbol.DotDot) end_))

-- word ":" range, a token of the class, and a form over which the word ranges
abbrev pub over_range : ℕ → Ebnf → Ebnf
over_range class a = both name_ (past (symbol Symbol.Colon) (both range_ (past class a)))

-- Expressions. One operand without an operator is the tree of that operand.

-- In parentheses stands a quantifier or an expression: both begin with "(", so the parentheses are read first.
abbrev pub make_parentheses : ℕ → Tree → Tree
make_parentheses place (left x) = node (kind Kind.expr_quantified) place x
make_parentheses place (right x) = node (kind Kind.expr_brackets) place x
make_parentheses place _ = unit

-- atom = number | "true" | "false" | word [ "[" pred "]" ] | "(" pred ")"
--      | "(" ( "all" | "any" | "sum" ) word ":" range "::" pred ")"
unfoldable pub atom_ : Ebnf
atom_ =
    made Kind.expr_number number_
    or made Kind.expr_true (fixed (reserved Word.True))
    or made Kind.expr_false (fixed (reserved Word.False))
    or made Kind.expr_word (both name_ (maybe (in_brackets Contents.index)))
    or named make_parentheses (in_parentheses Contents.parentheses)

-- one atom, or a product
abbrev pub make_product : ℕ → Tree → Tree
make_product place (pair x nil) = x
make_product place x = node (kind Kind.expr_product) place x

-- "*" | "div" | "mod"
abbrev pub operator_ : Ebnf
operator_ = one_of (map operator (Operator.Times ∷ Operator.Div ∷ Operator.Mod ∷ []))

-- product = atom { ( "*" | "div" | "mod" ) atom }
unfoldable pub product_ : Ebnf
product_ = named make_product (both atom_ (many (both operator_ atom_)))

-- one product without `-`, or a sum
abbrev pub make_sum : ℕ → Tree → Tree
make_sum place (pair none (pair x nil)) = x
make_sum place x = node (kind Kind.expr_sum) place x

-- sum = [ "-" ] product { ( "+" | "-" ) product }
unfoldable pub sum_ : Ebnf
sum_ = named make_sum (both minus_ (both product_ (many (both plus_or_minus_ product_))))

-- "=" | "/=" | "<" | "<=" | ">" | ">="
abbrev pub relation_ : Ebnf
relation_ = one_of (map symbol
    (Symbol.Equal ∷ Symbol.NotEqual ∷ below ∷ Symbol.AtMost ∷ Symbol.Above ∷ Symbol.AtLeast ∷ []))

-- one sum, or a comparison
abbrev pub make_compare : ℕ → Tree → Tree
make_compare place (pair x none) = x
make_compare place (pair x (some y)) = node (kind Kind.expr_compare) place (pair x y)
make_compare place _ = unit

-- compare = sum [ ( "=" | "/=" | "<" | "<=" | ">" | ">=" ) sum ]
unfoldable pub compare_ : Ebnf
compare_ = named make_compare (both sum_ (maybe (both relation_ sum_)))

-- an expression, or its negation
abbrev pub make_unit : ℕ → Tree → Tree
make_unit place (pair none x) = x
make_unit place (pair (some y) x) = node (kind Kind.expr_not) place x
make_unit place _ = unit

-- unit = [ "not" ] compare
unfoldable pub unit_ : Ebnf
unit_ = named make_unit (both (maybe (fixed (reserved Word.Not))) compare_)

-- Both alternatives begin with a unit, which is read first. One unit is its own tree in both.
abbrev pub make_joined : ℕ → Tree → Tree
make_joined place (pair x none) = x
make_joined place (pair x (some (left xs))) = node (kind Kind.expr_and) place (pair x xs)
make_joined place (pair x (some (right xs))) = node (kind Kind.expr_or) place (pair x xs)
make_joined place _ = unit

-- "and" unit
abbrev pub and_ : Ebnf
and_ = past (reserved Word.And) unit_

-- "or" unit
abbrev pub or_ : Ebnf
or_ = past (reserved Word.Or) unit_

-- joined = unit { "and" unit } | unit { "or" unit }
unfoldable pub joined_ : Ebnf
joined_ = named make_joined (both unit_ (maybe (either (repeated and_) (repeated or_))))

-- one operand, or an implication
abbrev pub make_pred : ℕ → Tree → Tree
make_pred place (pair x none) = x
make_pred place (pair x (some y)) = node (kind Kind.expr_implies) place (pair x y)
make_pred place _ = unit

-- pred = joined [ "=>" joined ]
unfoldable pub pred_ : Ebnf
pred_ = named make_pred (both joined_ (maybe (past (symbol Symbol.Implies) joined_)))

-- ( "all" | "any" | "sum" ) word ":" range "::" pred
unfoldable pub quantified_ : Ebnf
quantified_ = both (one_of (map reserved (Word.All ∷ Word.Any ∷ Word.Sum ∷ [])))
    (over_range (symbol Symbol.DoubleColon) pred_)

-- what stands in parentheses
unfoldable pub parentheses_ : Ebnf
parentheses_ = either quantified_ pred_

-- Statements.

-- values = pred { "," pred }
unfoldable pub values_ : Ebnf
values_ = made Kind.values (one_or_more (symbol Symbol.Comma) pred_)

-- values "if" pred
abbrev pub choice_ : Ebnf
choice_ = both values_ (past (reserved Word.If) pred_)

-- alts = values [ "if" pred { "~" values "if" pred } ]
unfoldable pub alts_ : Ebnf
alts_ = made Kind.alts (both values_
    (maybe (past (reserved Word.If) (both pred_ (many (past (symbol Symbol.Tilde) choice_))))))

-- target = word [ "[" pred "]" ]
unfoldable pub target_ : Ebnf
target_ = made Kind.target (both name_ (maybe (in_brackets Contents.index)))

-- comp = target { "," target } ":=" alts | "<||" word ":" range "::" assign "|>"
unfoldable pub comp_ : Ebnf
comp_ =
    made Kind.component_set (both target_
    (both (many (past (symbol Symbol.Comma) target_)) (past (symbol Symbol.Assign) alts_)))
    or made Kind.component_quantified
    (inside (symbol Symbol.OpenParallel) (contents Contents.assign) (symbol Symbol.CloseQuantified))

-- assign = comp { "||" comp }
unfoldable pub assign_ : Ebnf
assign_ = made Kind.assign (one_or_more (symbol Symbol.Parallel) comp_)

-- what stands in `<||` and `|>`: word ":" range "::" assign
unfoldable pub quantified_assign_ : Ebnf
quantified_assign_ = over_range (symbol Symbol.DoubleColon) assign_

-- item = word ":" assign | "<[]" word ":" range "::" items "|>"
unfoldable pub item_ : Ebnf
item_ =
    made Kind.item_statement (both name_ (past (symbol Symbol.Colon) assign_))
    or made Kind.item_quantified
    (inside (symbol Symbol.OpenChoice) (contents Contents.items) (symbol Symbol.CloseQuantified))

-- items = item { "[]" item }
unfoldable pub items_ : Ebnf
items_ = made Kind.items (one_or_more (symbol Symbol.Box) item_)

-- what stands in `<[]` and `|>`: word ":" range "::" items
unfoldable pub quantified_items_ : Ebnf
quantified_items_ = over_range (symbol Symbol.DoubleColon) items_

-- What stands before a program's statements.

-- what stands in "[" and "]" there: [ "-" ] number
unfoldable pub start_index_ : Ebnf
start_index_ = both minus_ number_

-- [ "-" ] number | word | "true" | "false"
unfoldable pub init_value_ : Ebnf
init_value_ =
    made Kind.init_number (both minus_ number_)
    or made Kind.init_word name_
    or made Kind.init_true (fixed (reserved Word.True))
    or made Kind.init_false (fixed (reserved Word.False))

-- init = word [ "[" [ "-" ] number "]" ] "=" ( [ "-" ] number | word | "true" | "false" )
unfoldable pub init_ : Ebnf
init_ = made Kind.init (both name_
    (both (maybe (in_brackets Contents.start_index)) (past (symbol Symbol.Equal) init_value_)))

-- def = word "=" pred
unfoldable pub def_ : Ebnf
def_ = made Kind.def (both name_ (past (symbol Symbol.Equal) pred_))

-- what stands in "{" and "}": word { "," word }
unfoldable pub words_ : Ebnf
words_ = one_or_more (symbol Symbol.Comma) name_

-- plain = "boolean" | range | "{" word { "," word } "}"
unfoldable pub plain_ : Ebnf
plain_ =
    made Kind.plain_boolean (fixed (reserved Word.Boolean))
    or made Kind.plain_range range_
    or made Kind.plain_words (inside (symbol Symbol.OpenBrace) (contents Contents.words) (symbol Symbol.CloseBrace))

-- plain | "array" range "of" plain
unfoldable pub var_type_ : Ebnf
var_type_ =
    made Kind.type_plain plain_
    or made Kind.type_array (past (reserved Word.Array) (both range_ (past (reserved Word.Of) plain_)))

-- var = word ":" ( plain | "array" range "of" plain )
unfoldable pub var_ : Ebnf
var_ = made Kind.var (both name_ (past (symbol Symbol.Colon) var_type_))

-- Programs.

-- "=" word "[]" word "end"
unfoldable pub union_program_ : Ebnf
union_program_ = past (symbol Symbol.Equal) (both name_ (past (symbol Symbol.Box) (up_to name_ (reserved Word.End))))

-- [ "declare" { var } ]
abbrev pub declare_ : Ebnf
declare_ = maybe (past (reserved Word.Declare) (many var_))

-- [ "always" { def } ]
abbrev pub always_ : Ebnf
always_ = maybe (past (reserved Word.Always) (many def_))

-- [ "initially" pred ]
abbrev pub initially_ : Ebnf
initially_ = maybe (made Kind.initially (past (reserved Word.Initially) pred_))

-- [ "start" init { "," init } ]
abbrev pub start_ : Ebnf
start_ = maybe (past (reserved Word.Start) (one_or_more (symbol Symbol.Comma) init_))

-- [ "declare" { var } ] [ "always" { def } ] [ "initially" pred ] [ "start" init { "," init } ] "assign" items "end"
unfoldable pub plain_program_ : Ebnf
plain_program_ = both declare_ (both always_
    (both initially_ (both start_ (past (reserved Word.Assign) (up_to items_ (reserved Word.End))))))

-- Both alternatives begin with "program" and a word, which are read first.
abbrev pub make_program : ℕ → Tree → Tree
make_program place (pair x (left y)) = node (kind Kind.program_union) place (pair x y)
make_program place (pair x (right y)) = node (kind Kind.program_plain) place (pair x y)
make_program place _ = unit

-- program = "program" word "=" word "[]" word "end"
--         | "program" word [ "declare" { var } ] [ "always" { def } ] [ "initially" pred ]
--           [ "start" init { "," init } ] "assign" items "end"
unfoldable pub program_ : Ebnf
program_ = named make_program (past (reserved Word.Program) (both name_ (either union_program_ plain_program_)))

-- References and terms.

-- what stands in "[" and "]" there: end { "," end }
unfoldable pub ends_ : Ebnf
ends_ = one_or_more (symbol Symbol.Comma) end_

-- [ "[" end { "," end } "]" ]
abbrev pub indices_ : Ebnf
indices_ = maybe (in_brackets Contents.ends)

-- ref = word [ "." word ] [ "[" end { "," end } "]" ]
unfoldable pub ref_ : Ebnf
ref_ = made Kind.ref (both name_ (both (maybe (past (symbol Symbol.Dot) name_)) indices_))

-- inst = word [ "[" end { "," end } "]" ]
unfoldable pub inst_ : Ebnf
inst_ = made Kind.inst (both name_ indices_)

-- the terms that do not begin with "weaken"
unfoldable pub other_term_ : Ebnf
other_term_ =
    made Kind.term_imply (past (reserved Word.Imply) (in_parentheses Contents.imply))
    or made Kind.term_from (past (reserved Word.From) ref_)
    or made Kind.term_pair (both (one_of (map reserved (Word.Trans ∷ Word.Either ∷ []))) (in_parentheses Contents.pair))
    or made Kind.term_exists (past (reserved Word.Exists) (in_parentheses Contents.exists))
    or made Kind.term_induct (past (reserved Word.Induct) (in_parentheses Contents.induct))
    or made Kind.term_psp (past (reserved Word.Psp) (in_parentheses Contents.psp))

-- term = "imply" "(" pred "," pred ")" | "from" ref
--      | ( "trans" | "either" ) "(" term "," term ")"
--      | "exists" "(" word ":" range "," term ")"
--      | "induct" "(" word ":" range "," pred "," pred "," pred "," term ")"
--      | "psp" "(" term "," ref ")" | "weaken" "(" pred "," pred "," term ")"
unfoldable pub term_ : Ebnf
term_ = other_term_ or made Kind.term_weaken (past (reserved Word.Weaken) (in_parentheses Contents.weaken))

-- a form after a comma
abbrev pub then_ : Ebnf → Ebnf
then_ a = past (symbol Symbol.Comma) a

-- what stands in the parentheses of `imply`: pred "," pred
unfoldable pub imply_ : Ebnf
imply_ = both pred_ (then_ pred_)

-- what stands in those of `trans` and `either`: term "," term
unfoldable pub pair_ : Ebnf
pair_ = both term_ (then_ term_)

-- what stands in those of `exists`: word ":" range "," term
unfoldable pub exists_ : Ebnf
exists_ = over_range (symbol Symbol.Comma) term_

-- what stands in those of `induct`: word ":" range "," pred "," pred "," pred "," term
unfoldable pub induct_ : Ebnf
induct_ = over_range (symbol Symbol.Comma) (both pred_ (then_ (both pred_ (then_ (both pred_ (then_ term_))))))

-- what stands in those of `psp`: term "," ref
unfoldable pub psp_ : Ebnf
psp_ = both term_ (then_ ref_)

-- what stands in those of `weaken`: pred "," pred "," term
unfoldable pub weaken_ : Ebnf
weaken_ = both pred_ (then_ (both pred_ (then_ term_)))

-- Proofs.

-- A rule and a term begin with "weaken", which is read first: before a "(" it is the term.
abbrev pub make_weaken : ℕ → Tree → Tree
make_weaken place (left x) = node (kind Kind.rule_weaken) place x
make_weaken place (right x) = node (kind Kind.rule_term) place (node (kind Kind.term_weaken) place x)
make_weaken place _ = unit

-- pairrule = "conj" | "simpleconj" | "disj" | "simpledisj" | "cancel" | "union" | "until" | "detects" | "constant"
abbrev pub pairrule_ : Ebnf
pairrule_ = one_of (map reserved
    (Word.Conj ∷ Word.Simpleconj ∷ Word.Disj ∷ Word.Simpledisj ∷ Word.Cancel ∷ Word.Union
    ∷ Word.Until ∷ Word.Detects ∷ Word.Constant ∷ []))

-- rule = "text" [ "with" inst ] | "weaken" ref | pairrule ref ref | "superpose" ref | "complete" ref ref ref ref | term
unfoldable pub rule_ : Ebnf
rule_ =
    made Kind.rule_text (past (reserved Word.Text) (maybe (past (reserved Word.With) inst_)))
    or named make_weaken (past (reserved Word.Weaken) (either ref_ (in_parentheses Contents.weaken)))
    or made Kind.rule_pair (both pairrule_ (both ref_ ref_))
    or made Kind.rule_superpose (past (reserved Word.Superpose) ref_)
    or made Kind.rule_complete (past (reserved Word.Complete) (both ref_ (both ref_ (both ref_ ref_))))
    or made Kind.rule_term other_term_

-- claim = "defined" | "invariant" pred | "stable" pred | "constant" pred | "fixed" pred
--       | pred ( "unless" | "ensures" | "leadsto" | "until" | "detects" ) pred
unfoldable pub claim_ : Ebnf
claim_ =
    made Kind.claim_defined (fixed (reserved Word.Defined))
    or made Kind.claim_invariant (past (reserved Word.Invariant) pred_)
    or made Kind.claim_stable (past (reserved Word.Stable) pred_)
    or made Kind.claim_constant (past (reserved Word.Constant) pred_)
    or made Kind.claim_fixed (past (reserved Word.Fixed) pred_)
    or made Kind.claim_between (both pred_ (both (one_of (map reserved
    (Word.Unless ∷ Word.Ensures ∷ Word.Leadsto ∷ Word.Until ∷ Word.Detects ∷ []))) pred_))

-- param = word ":" range
unfoldable pub param_ : Ebnf
param_ = made Kind.param (both name_ (past (symbol Symbol.Colon) range_))

-- what stands in "(" and ")" there: param { "," param }
unfoldable pub params_ : Ebnf
params_ = one_or_more (symbol Symbol.Comma) param_

-- [ "using" ref { "," ref } ]
abbrev pub using_ : Ebnf
using_ = maybe (past (reserved Word.Using) (one_or_more (symbol Symbol.Comma) ref_))

-- step = word [ "(" param { "," param } ")" ] ":" claim "by" rule [ "using" ref { "," ref } ] ";"
unfoldable pub step_ : Ebnf
step_ = made Kind.step (both name_ (both (maybe (in_parentheses Contents.params)) (past (symbol Symbol.Colon)
    (both claim_ (past (reserved Word.By) (both rule_ (up_to using_ (symbol Symbol.Semicolon))))))))

-- proof = "proof" word { step } "end"
unfoldable pub proof_ : Ebnf
proof_ = made Kind.proof (past (reserved Word.Proof) (both name_ (up_to (many step_) (reserved Word.End))))

-- Documents.

-- pair = [ "-" ] number "*" number
unfoldable pub multiple_ : Ebnf
multiple_ = made Kind.pair (both minus_ (both number_ (past (symbol Symbol.Times) number_)))

-- node = "case" number | "split" number [ "-" ] number | "sum" { pair } | "round" [ "-" ] number { pair }
--      | "quot" number | "share" [ "-" ] number { pair }
unfoldable pub node_ : Ebnf
node_ =
    made Kind.node_case (past (reserved Word.Case) number_)
    or made Kind.node_split (past (reserved Word.Split) (both number_ (both minus_ number_)))
    or made Kind.node_sum (past (reserved Word.Sum) (many multiple_))
    or made Kind.node_round (past (reserved Word.Round) (both minus_ (both number_ (many multiple_))))
    or made Kind.node_quot (past (reserved Word.Quot) number_)
    or made Kind.node_share (past (reserved Word.Share) (both minus_ (both number_ (many multiple_))))

-- how many subtrees follow a node of the kind
abbrev pub subtrees_of : ℕ → ℕ
subtrees_of k =
    if k == kind Kind.node_case || (k == kind Kind.node_split || k == kind Kind.node_share) then 2
    else (if k == kind Kind.node_round || k == kind Kind.node_quot then 1 else 0)

-- how many subtrees follow a node
abbrev pub subtrees : Tree → ℕ
subtrees (node k place x) = subtrees_of k
subtrees _ = 0

-- what follows a certificate's number, ":" node { node } ";", where the nodes are one tree in prefix order
unfoldable pub certificate_ : Ebnf
certificate_ = past (symbol Symbol.Colon) (up_to (prefix_tree subtrees node_) (symbol Symbol.Semicolon))

-- certificates = "certificates" { number ":" node { node } ";" } "end", where the numbers count up from 1
unfoldable pub certificates_ : Ebnf
certificates_ = made Kind.certificates
    (past (reserved Word.Certificates) (up_to (numbered 1 number_class certificate_) (reserved Word.End)))

-- schedule = "schedule" word ":" [ inst { "," inst } ] "end"
unfoldable pub schedule_ : Ebnf
schedule_ = made Kind.schedule (past (reserved Word.Schedule)
    (both name_ (past (symbol Symbol.Colon)
    (up_to (maybe (one_or_more (symbol Symbol.Comma) inst_)) (reserved Word.End)))))

-- program | proof
unfoldable pub part_ : Ebnf
part_ = made Kind.part_program program_ or made Kind.part_proof proof_

-- document = "unity" number { program | proof } [ schedule ] [ certificates ], where the number is 1 or 2
unfoldable pub document_ : Ebnf
document_ = made Kind.document (past (reserved Word.Unity)
    (both (made Kind.version (version number_class (1 ∷ 2 ∷ [])))
    (both (many part_) (both (maybe schedule_) (maybe certificates_)))))

-- the form with a number in a list, and an expression past its end
abbrev pub at_number : List Ebnf → ℕ → Ebnf
at_number [] n = pred_
at_number (e ∷ es) zero = e
at_number (e ∷ es) (suc n) = at_number es n

-- What stands in brackets, by its number.
abbrev pub bodies : List Ebnf
bodies =
    parentheses_ ∷ pred_ ∷ words_ ∷ start_index_ ∷ params_ ∷ ends_
    ∷ quantified_assign_ ∷ quantified_items_
    ∷ imply_ ∷ pair_ ∷ exists_ ∷ induct_ ∷ psp_ ∷ weaken_ ∷ []

-- The grammar: what stands in brackets, and which tokens open and close them.
abbrev pub grammar : Grammar
grammar = record {
  body = at_number bodies;
  opening = map symbol
      (Symbol.OpenParenthesis ∷ Symbol.OpenBracket ∷ Symbol.OpenBrace ∷ Symbol.OpenParallel ∷ Symbol.OpenChoice ∷ []);
  closing = map symbol
      (Symbol.CloseParenthesis ∷ Symbol.CloseBracket ∷ Symbol.CloseBrace ∷ Symbol.CloseQuantified ∷ []);
  any_version = false;
}
