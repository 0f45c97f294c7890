-- A text of each production of expressions.
use Rattle.std.specs.Prelude.{true, false, [], ◌∷◌, ◌++◌, Some, None, codes}
use Rattle.case_tables.specs.declared.word_table.Word.{Word}
use Rattle.case_tables.specs.declared.symbol_table.Symbol.{Symbol}
use Rattle.case_tables.specs.declared.symbol_table.Symbol.TheVariants.{Below as below}
use Rattle.unity_syntax.specs.declared.name.End.{End}
use Rattle.unity_syntax.specs.declared.program.Program.{Program}
use Rattle.unity_syntax.specs.declared.document.Part.{Part}
use Rattle.unity_syntax.specs.declared.expression.Operator.{Operator}
use Rattle.unity_syntax.specs.declared.expression.Expr.TheVariants as expr
use Rattle.examples_definitions.specs.TextForms.{name_token, number_token, reserved_token, symbol_token, name, range}
use Rattle.examples_definitions.specs.TextForms.{numbers, word, set, items, Example}

-- each production of expressions
abbrev pub expressions_example : Example
expressions_example = record {
  text = codes "unity 1\n"
      ++ codes "program F\n"
      ++ codes "always\n"
      ++ codes "  a = (x = 0 and not b) => b or c /= green or true\n"
      ++ codes "  d = -1 + t[x - 1] * 2 * x - y\n"
      ++ codes "  e = (all i : j - 1..j + 2 :: t[i] >= 0 and t[i] <= 3)\n"
      ++ codes "  f = (any i : -2..k :: x > i) = ((sum i : 0..1 :: i) < 3)\n"
      ++ codes "assign\n"
      ++ codes "  go: x := x\n"
      ++ codes "end\n";
  tokens =
      reserved_token Word.Unity 0 5 ∷ number_token 1 6 7 ∷ reserved_token Word.Program 8 15 ∷ name_token 16 17
      ∷ reserved_token Word.Always 18 24 ∷ name_token 27 28 ∷ symbol_token Symbol.Equal 29 30
      ∷ symbol_token Symbol.OpenParenthesis 31 32 ∷ name_token 32 33 ∷ symbol_token Symbol.Equal 34 35
      ∷ number_token 0 36 37 ∷ reserved_token Word.And 38 41 ∷ reserved_token Word.Not 42 45 ∷ name_token 46 47
      ∷ symbol_token Symbol.CloseParenthesis 47 48 ∷ symbol_token Symbol.Implies 49 51 ∷ name_token 52 53
      ∷ reserved_token Word.Or 54 56 ∷ name_token 57 58 ∷ symbol_token Symbol.NotEqual 59 61 ∷ name_token 62 67
      ∷ reserved_token Word.Or 68 70 ∷ reserved_token Word.True 71 75 ∷ name_token 78 79
      ∷ symbol_token Symbol.Equal 80 81
      ∷ symbol_token Symbol.Minus 82 83 ∷ number_token 1 83 84 ∷ symbol_token Symbol.Plus 85 86 ∷ name_token 87 88
      ∷ symbol_token Symbol.OpenBracket 88 89 ∷ name_token 89 90 ∷ symbol_token Symbol.Minus 91 92
      ∷ number_token 1 93 94
      ∷ symbol_token Symbol.CloseBracket 94 95 ∷ symbol_token Symbol.Times 96 97 ∷ number_token 2 98 99
      ∷ symbol_token Symbol.Times 100 101 ∷ name_token 102 103 ∷ symbol_token Symbol.Minus 104 105 ∷ name_token 106 107
      ∷ name_token 110 111 ∷ symbol_token Symbol.Equal 112 113 ∷ symbol_token Symbol.OpenParenthesis 114 115
      ∷ reserved_token Word.All 115 118 ∷ name_token 119 120 ∷ symbol_token Symbol.Colon 121 122 ∷ name_token 123 124
      ∷ symbol_token Symbol.Minus 125 126 ∷ number_token 1 127 128 ∷ symbol_token Symbol.DotDot 128 130
      ∷ name_token 130 131
      ∷ symbol_token Symbol.Plus 132 133 ∷ number_token 2 134 135 ∷ symbol_token Symbol.DoubleColon 136 138
      ∷ name_token 139 140 ∷ symbol_token Symbol.OpenBracket 140 141 ∷ name_token 141 142
      ∷ symbol_token Symbol.CloseBracket 142 143 ∷ symbol_token Symbol.AtLeast 144 146 ∷ number_token 0 147 148
      ∷ reserved_token Word.And 149 152 ∷ name_token 153 154 ∷ symbol_token Symbol.OpenBracket 154 155
      ∷ name_token 155 156
      ∷ symbol_token Symbol.CloseBracket 156 157 ∷ symbol_token Symbol.AtMost 158 160 ∷ number_token 3 161 162
      ∷ symbol_token Symbol.CloseParenthesis 162 163 ∷ name_token 166 167 ∷ symbol_token Symbol.Equal 168 169
      ∷ symbol_token Symbol.OpenParenthesis 170 171 ∷ reserved_token Word.Any 171 174 ∷ name_token 175 176
      ∷ symbol_token Symbol.Colon 177 178 ∷ symbol_token Symbol.Minus 179 180 ∷ number_token 2 180 181
      ∷ symbol_token Symbol.DotDot 181 183 ∷ name_token 183 184 ∷ symbol_token Symbol.DoubleColon 185 187
      ∷ name_token 188 189 ∷ symbol_token Symbol.Above 190 191 ∷ name_token 192 193
      ∷ symbol_token Symbol.CloseParenthesis 193 194 ∷ symbol_token Symbol.Equal 195 196
      ∷ symbol_token Symbol.OpenParenthesis 197 198 ∷ symbol_token Symbol.OpenParenthesis 198 199
      ∷ reserved_token Word.Sum 199 202 ∷ name_token 203 204 ∷ symbol_token Symbol.Colon 205 206
      ∷ number_token 0 207 208
      ∷ symbol_token Symbol.DotDot 208 210 ∷ number_token 1 210 211 ∷ symbol_token Symbol.DoubleColon 212 214
      ∷ name_token 215 216 ∷ symbol_token Symbol.CloseParenthesis 216 217 ∷ symbol_token below 218 219
      ∷ number_token 3 220 221 ∷ symbol_token Symbol.CloseParenthesis 221 222 ∷ reserved_token Word.Assign 223 229
      ∷ name_token 232 234 ∷ symbol_token Symbol.Colon 234 235 ∷ name_token 236 237 ∷ symbol_token Symbol.Assign 238 240
      ∷ name_token 241 242 ∷ reserved_token Word.End 243 246 ∷ [];
  tree = record {
    at = 0;
    number_at = 6;
    number = 1;
    parts = Part.Program 8
        (Program.Plain 8 (name 16 "F") None
        (Some
        ((record {
          at = 27;
          name = (name 27 "a");
          of = (expr.Implies 31
              (expr.Brackets 31
              (expr.And 32
              (expr.Compare 32 (word 32 "x") Symbol.Equal (expr.Number 36 0))
              ((expr.Not 42 (word 46 "b")) ∷ [])))
              (expr.Or 52
              (word 52 "b")
              ((expr.Compare 57
              (word 57 "c")
              Symbol.NotEqual
              (word 62 "green"))
              ∷ (expr.True 71)
              ∷ [])));
        })
        ∷ (record {
          at = 78;
          name = (name 78 "d");
          of = (expr.Sum 82 true (expr.Number 83 1)
              ((
                Symbol.Plus,
                (expr.Product 87
                    (expr.Word 87 (name 87 "t")
                    (Some
                    (expr.Sum 89 false
                    (word 89 "x")
                    ((Symbol.Minus, (expr.Number 93 1)) ∷ []))))
                    ((Operator.Times, (expr.Number 98 2))
                    ∷ (Operator.Times, (word 102 "x"))
                    ∷ [])),
              )
              ∷ (Symbol.Minus, (word 106 "y"))
              ∷ []));
        })
        ∷ (record {
          at = 110;
          name = (name 110 "e");
          of = (expr.Quantified 114 Word.All (name 119 "i")
              (range 123
              (End.Word 123 (name 123 "j") (Some (Symbol.Minus, 1)))
              (End.Word 130 (name 130 "j") (Some (Symbol.Plus, 2))))
              (expr.And 139
              (expr.Compare 139
              (expr.Word 139 (name 139 "t") (Some (word 141 "i")))
              Symbol.AtLeast
              (expr.Number 147 0))
              ((expr.Compare 153
              (expr.Word 153 (name 153 "t") (Some (word 155 "i")))
              Symbol.AtMost
              (expr.Number 161 3))
              ∷ [])));
        })
        ∷ (record {
          at = 166;
          name = (name 166 "f");
          of = (expr.Compare 170
              (expr.Quantified 170 Word.Any (name 175 "i")
              (range 179 (End.Number 179 true 2) (End.Word 183 (name 183 "k") None))
              (expr.Compare 188
              (word 188 "x")
              Symbol.Above
              (word 192 "i")))
              Symbol.Equal
              (expr.Brackets 197
              (expr.Compare 198
              (expr.Quantified 198 Word.Sum (name 203 "i")
              (numbers 207 0 210 1)
              (word 215 "i"))
              below
              (expr.Number 220 3))));
        })
        ∷ []))
        None
        None
        (items 232 (set 232 "go" 236 "x" 241 (word 241 "x")) []))
        ∷ [];
    schedule = None;
    certificates = None;
  };
}
