-- Reading what stands before a program's statements back from its tree.
use Rattle.std.proofs.Common.{ℕ, Bool, [], ◌∷◌, refl, ap}
use Rattle.grammar_theory.specs.Ebnf.{Tree}
use Rattle.unity_syntax.specs.Kinds.{Kind}
use Rattle.unity_syntax.specs.View.{view_name, view_plain, view_var_type, view_var, view_def, view_with_minus}
use Rattle.unity_syntax.specs.View.{view_init_value, view_init}
use Rattle.unity_syntax.specs.declared.declaration.Plain.{Plain}
use Rattle.unity_syntax.specs.declared.declaration.VarType.{VarType}
use Rattle.unity_syntax.specs.declared.declaration.Var.{Var}
use Rattle.unity_syntax.specs.declared.declaration.Def.{Def}
use Rattle.unity_syntax.specs.declared.declaration.InitValue.{InitValue}
use Rattle.unity_syntax.specs.declared.declaration.Init.{Init}
use Rattle.unity_syntax.proofs.BackParts.{both_same, place_in, kind_in, parts_in, first_in, second_in, name_of}
use Rattle.unity_syntax.proofs.BackParts.{number_of, flag_of, option_of, list_of, IsBack, flag_back, option_back}
use Rattle.unity_syntax.proofs.BackParts.{list_back, by_kind}
use Rattle.unity_syntax.proofs.BackExpressions.{name_back, range_of, range_back, expr_of, expr_back}

abbrev pub plain_of : Tree → Plain
plain_of t =
    by_kind (
    (Kind.plain_boolean, Plain.Boolean (place_in t))
    ∷ (Kind.plain_range, Plain.Range (place_in t) (range_of (parts_in t)))
    ∷ []) (Plain.Words (place_in t) (name_of (first_in (parts_in t))) (list_of name_of (second_in (parts_in t))))
    (kind_in t)

pub plain_back : IsBack view_plain plain_of
plain_back (Plain.Boolean at) = refl
plain_back (Plain.Range at range) = ap (λ r. Plain.Range at r) (range_back range)
plain_back (Plain.Words at first rest) = ap (λ ns. Plain.Words at first ns) (list_back view_name name_of name_back rest)

abbrev pub var_type_of : Tree → VarType
var_type_of t =
    by_kind ((Kind.type_plain, VarType.Plain (place_in t) (plain_of (parts_in t))) ∷ [])
    (VarType.Array (place_in t) (range_of (first_in (parts_in t))) (plain_of (second_in (parts_in t)))) (kind_in t)

pub var_type_back : IsBack view_var_type var_type_of
var_type_back (VarType.Plain at plain) = ap (λ p. VarType.Plain at p) (plain_back plain)
var_type_back (VarType.Array at range plain) =
    both_same (λ r p. VarType.Array at r p) (range_back range) (plain_back plain)

abbrev pub var_of : Tree → Var
var_of t = record {
  at = place_in t;
  name = name_of (first_in (parts_in t));
  kind = var_type_of (second_in (parts_in t));
}

pub var_back : IsBack view_var var_of
var_back v = ap (λ k. record { at = v.at; name = v.name; kind = k }) (var_type_back v.kind)

abbrev pub def_of : Tree → Def
def_of t = record { at = place_in t; name = name_of (first_in (parts_in t)); of = expr_of (second_in (parts_in t)) }

pub def_back : IsBack view_def def_of
def_back d = ap (λ e. record { at = d.at; name = d.name; of = e }) (expr_back d.of)

abbrev pub with_minus_of : Tree → Bool × ℕ
with_minus_of t = (flag_of (first_in t), number_of (second_in t))

pub with_minus_back : IsBack view_with_minus with_minus_of
with_minus_back x = ap (λ m. (m, x.1)) (flag_back x.0)

abbrev pub init_value_of : Tree → InitValue
init_value_of t =
    by_kind ((
      Kind.init_number,
      InitValue.Number (place_in t) (flag_of (first_in (parts_in t)))
          (number_of (second_in (parts_in t))),
    )
    ∷ (Kind.init_word, InitValue.Word (place_in t) (name_of (parts_in t)))
    ∷ (Kind.init_true, InitValue.True (place_in t))
    ∷ []) (InitValue.False (place_in t)) (kind_in t)

pub init_value_back : IsBack view_init_value init_value_of
init_value_back (InitValue.Number at minus number) = ap (λ m. InitValue.Number at m number) (flag_back minus)
init_value_back (InitValue.Word at name) = refl
init_value_back (InitValue.True at) = refl
init_value_back (InitValue.False at) = refl

abbrev pub init_of : Tree → Init
init_of t = record {
  at = place_in t;
  name = name_of (first_in (parts_in t));
  index = option_of with_minus_of (first_in (second_in (parts_in t)));
  value = init_value_of (second_in (second_in (parts_in t)));
}

pub init_back : IsBack view_init init_of
init_back i =
    both_same (λ x v. record { at = i.at; name = i.name; index = x; value = v })
    (option_back view_with_minus with_minus_of with_minus_back i.index) (init_value_back i.value)
