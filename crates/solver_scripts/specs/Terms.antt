-- Terms of SMT-LIB of the sorts Int and Bool: how they are written, and what they are worth, as the theories Core and
-- Ints of the standard, version 2.6, have it.
use Rattle.std.specs.Prelude.{ℕ, ℤ, pos, neg_ℤ, ◌+ℤ◌, ◌-ℤ◌, ◌*ℤ◌, Bool, true, false, cond, not, ◌&&◌, ◌||◌, List, ◌++◌}
use Rattle.std.specs.Prelude.{codes, decimal}
use Rattle.std.specs.Int.{int_div_euclid, int_rem_euclid}
use Rattle.std.specs.Int.RustNames.{int_le}
use Rattle.meaning_states.specs.State.{int_eq}

mutual
  -- terms of the sort Int
  pub data IntTerm : Type 0 where
    numeral : ℕ → IntTerm
    symbol : List ℕ → IntTerm
    minus : IntTerm → IntTerm
    sum : IntTerm → IntTerm → IntTerm
    difference : IntTerm → IntTerm → IntTerm
    product : IntTerm → IntTerm → IntTerm
    quotient : IntTerm → IntTerm → IntTerm
    remainder : IntTerm → IntTerm → IntTerm
    choice : BoolTerm → IntTerm → IntTerm → IntTerm

  -- terms of the sort Bool
  pub data BoolTerm : Type 0 where
    holds : BoolTerm
    fails : BoolTerm
    at_most : IntTerm → IntTerm → BoolTerm
    equal : IntTerm → IntTerm → BoolTerm
    negation : BoolTerm → BoolTerm
    both : BoolTerm → BoolTerm → BoolTerm
    either : BoolTerm → BoolTerm → BoolTerm

-- a symbol is quoted by bars
abbrev pub symbol_text : List ℕ → List ℕ
symbol_text name = codes "|" ++ name ++ codes "|"

-- two terms, and the bracket that closes what has them
abbrev pub pair_text : List ℕ → List ℕ → List ℕ
pair_text s t = s ++ codes " " ++ t ++ codes ")"

-- how terms are written
abbrev mutual
  pub int_text : IntTerm → List ℕ
  int_text (IntTerm.numeral n) = decimal n
  int_text (IntTerm.symbol name) = symbol_text name
  int_text (IntTerm.minus s) = codes "(- " ++ int_text s ++ codes ")"
  int_text (IntTerm.sum s t) = codes "(+ " ++ pair_text (int_text s) (int_text t)
  int_text (IntTerm.difference s t) = codes "(- " ++ pair_text (int_text s) (int_text t)
  int_text (IntTerm.product s t) = codes "(* " ++ pair_text (int_text s) (int_text t)
  int_text (IntTerm.quotient s t) = codes "(div " ++ pair_text (int_text s) (int_text t)
  int_text (IntTerm.remainder s t) = codes "(mod " ++ pair_text (int_text s) (int_text t)
  int_text (IntTerm.choice f s t) = codes "(ite " ++ bool_text f ++ codes " " ++ pair_text (int_text s) (int_text t)

  pub bool_text : BoolTerm → List ℕ
  bool_text BoolTerm.holds = codes "true"
  bool_text BoolTerm.fails = codes "false"
  bool_text (BoolTerm.at_most s t) = codes "(<= " ++ pair_text (int_text s) (int_text t)
  bool_text (BoolTerm.equal s t) = codes "(= " ++ pair_text (int_text s) (int_text t)
  bool_text (BoolTerm.negation f) = codes "(not " ++ bool_text f ++ codes ")"
  bool_text (BoolTerm.both f g) = codes "(and " ++ pair_text (bool_text f) (bool_text g)
  bool_text (BoolTerm.either f g) = codes "(or " ++ pair_text (bool_text f) (bool_text g)

-- a number for each symbol
abbrev pub Assignment : Type 0
Assignment = List ℕ → ℤ

-- what terms are worth where symbols have these numbers; of a quotient and a remainder by 0 the standard leaves open
-- what they are
abbrev mutual
  pub int_worth : Assignment → IntTerm → ℤ
  int_worth a (IntTerm.numeral n) = pos n
  int_worth a (IntTerm.symbol name) = a name
  int_worth a (IntTerm.minus s) = neg_ℤ (int_worth a s)
  int_worth a (IntTerm.sum s t) = int_worth a s +ℤ int_worth a t
  int_worth a (IntTerm.difference s t) = int_worth a s -ℤ int_worth a t
  int_worth a (IntTerm.product s t) = int_worth a s *ℤ int_worth a t
  int_worth a (IntTerm.quotient s t) = int_div_euclid (int_worth a s) (int_worth a t)
  int_worth a (IntTerm.remainder s t) = int_rem_euclid (int_worth a s) (int_worth a t)
  int_worth a (IntTerm.choice f s t) = cond (bool_worth a f) (int_worth a s) (int_worth a t)

  pub bool_worth : Assignment → BoolTerm → Bool
  bool_worth a BoolTerm.holds = true
  bool_worth a BoolTerm.fails = false
  bool_worth a (BoolTerm.at_most s t) = int_le (int_worth a s) (int_worth a t)
  bool_worth a (BoolTerm.equal s t) = int_eq (int_worth a s) (int_worth a t)
  bool_worth a (BoolTerm.negation f) = not (bool_worth a f)
  bool_worth a (BoolTerm.both f g) = bool_worth a f && bool_worth a g
  bool_worth a (BoolTerm.either f g) = bool_worth a f || bool_worth a g
