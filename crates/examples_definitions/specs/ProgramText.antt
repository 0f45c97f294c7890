-- A text of each production of programs.
use Rattle.std.specs.Prelude.{true, false, [], ◌∷◌, ◌++◌, Some, None, codes}
use Rattle.case_tables.specs.declared.word_table.Word.{Word}
use Rattle.case_tables.specs.declared.symbol_table.Symbol.{Symbol}
use Rattle.case_tables.specs.declared.symbol_table.Symbol.TheVariants.{Below as below}
use Rattle.unity_syntax.specs.declared.name.End.{End}
use Rattle.unity_syntax.specs.declared.declaration.Plain.{Plain}
use Rattle.unity_syntax.specs.declared.declaration.VarType.{VarType}
use Rattle.unity_syntax.specs.declared.declaration.InitValue.{InitValue}
use Rattle.unity_syntax.specs.declared.program.Program.{Program}
use Rattle.unity_syntax.specs.declared.document.Part.{Part}
use Rattle.unity_syntax.specs.declared.expression.Expr.TheVariants as expr
use Rattle.unity_syntax.specs.declared.statement.Component.TheVariants as component
use Rattle.unity_syntax.specs.declared.statement.Item.TheVariants as item
use Rattle.examples_definitions.specs.TextForms.{name_token, number_token, reserved_token, symbol_token, name, range}
use Rattle.examples_definitions.specs.TextForms.{numbers, word, variable, target, plainly, assign, set, items, Example}

-- each production of programs
abbrev pub program_example : Example
program_example = record {
  text = codes "unity 1\n"
      ++ codes "program F\n"
      ++ codes "declare\n"
      ++ codes "  x : 0..3\n"
      ++ codes "  b : boolean\n"
      ++ codes "  c : {red, green}\n"
      ++ codes "  t : array -1..1 of 0..3\n"
      ++ codes "always\n"
      ++ codes "  d = x - 1\n"
      ++ codes "initially\n"
      ++ codes "  x = 0 and not b\n"
      ++ codes "start\n"
      ++ codes "  x = 0, t[-1] = -3, c = red, b = true, f = false\n"
      ++ codes "assign\n"
      ++ codes "  go: x, t[x] := x + 1, -d if x < 3 ~ 0, 1 if false || <|| i : -1..1 :: t[i] := i |>\n"
      ++ codes "  [] <[] j : 0..1 :: hop: b := true [] stay: x := x |>\n"
      ++ codes "end\n"
      ++ codes "program G = F [] H end\n";
  tokens =
      reserved_token Word.Unity 0 5 ∷ number_token 1 6 7 ∷ reserved_token Word.Program 8 15 ∷ name_token 16 17
      ∷ reserved_token Word.Declare 18 25 ∷ name_token 28 29 ∷ symbol_token Symbol.Colon 30 31 ∷ number_token 0 32 33
      ∷ symbol_token Symbol.DotDot 33 35 ∷ number_token 3 35 36 ∷ name_token 39 40 ∷ symbol_token Symbol.Colon 41 42
      ∷ reserved_token Word.Boolean 43 50 ∷ name_token 53 54 ∷ symbol_token Symbol.Colon 55 56
      ∷ symbol_token Symbol.OpenBrace 57 58 ∷ name_token 58 61 ∷ symbol_token Symbol.Comma 61 62 ∷ name_token 63 68
      ∷ symbol_token Symbol.CloseBrace 68 69 ∷ name_token 72 73 ∷ symbol_token Symbol.Colon 74 75
      ∷ reserved_token Word.Array 76 81 ∷ symbol_token Symbol.Minus 82 83 ∷ number_token 1 83 84
      ∷ symbol_token Symbol.DotDot 84 86 ∷ number_token 1 86 87 ∷ reserved_token Word.Of 88 90 ∷ number_token 0 91 92
      ∷ symbol_token Symbol.DotDot 92 94 ∷ number_token 3 94 95 ∷ reserved_token Word.Always 96 102 ∷ name_token 105 106
      ∷ symbol_token Symbol.Equal 107 108 ∷ name_token 109 110 ∷ symbol_token Symbol.Minus 111 112
      ∷ number_token 1 113 114
      ∷ reserved_token Word.Initially 115 124 ∷ name_token 127 128 ∷ symbol_token Symbol.Equal 129 130
      ∷ number_token 0 131 132 ∷ reserved_token Word.And 133 136 ∷ reserved_token Word.Not 137 140 ∷ name_token 141 142
      ∷ reserved_token Word.Start 143 148 ∷ name_token 151 152 ∷ symbol_token Symbol.Equal 153 154
      ∷ number_token 0 155 156
      ∷ symbol_token Symbol.Comma 156 157 ∷ name_token 158 159 ∷ symbol_token Symbol.OpenBracket 159 160
      ∷ symbol_token Symbol.Minus 160 161 ∷ number_token 1 161 162 ∷ symbol_token Symbol.CloseBracket 162 163
      ∷ symbol_token Symbol.Equal 164 165 ∷ symbol_token Symbol.Minus 166 167 ∷ number_token 3 167 168
      ∷ symbol_token Symbol.Comma 168 169 ∷ name_token 170 171 ∷ symbol_token Symbol.Equal 172 173 ∷ name_token 174 177
      ∷ symbol_token Symbol.Comma 177 178 ∷ name_token 179 180 ∷ symbol_token Symbol.Equal 181 182
      ∷ reserved_token Word.True 183 187 ∷ symbol_token Symbol.Comma 187 188 ∷ name_token 189 190
      ∷ symbol_token Symbol.Equal 191 192 ∷ reserved_token Word.False 193 198 ∷ reserved_token Word.Assign 199 205
      ∷ name_token 208 210 ∷ symbol_token Symbol.Colon 210 211 ∷ name_token 212 213 ∷ symbol_token Symbol.Comma 213 214
      ∷ name_token 215 216 ∷ symbol_token Symbol.OpenBracket 216 217 ∷ name_token 217 218
      ∷ symbol_token Symbol.CloseBracket 218 219 ∷ symbol_token Symbol.Assign 220 222 ∷ name_token 223 224
      ∷ symbol_token Symbol.Plus 225 226 ∷ number_token 1 227 228 ∷ symbol_token Symbol.Comma 228 229
      ∷ symbol_token Symbol.Minus 230 231 ∷ name_token 231 232 ∷ reserved_token Word.If 233 235 ∷ name_token 236 237
      ∷ symbol_token below 238 239 ∷ number_token 3 240 241 ∷ symbol_token Symbol.Tilde 242 243 ∷ number_token 0 244 245
      ∷ symbol_token Symbol.Comma 245 246 ∷ number_token 1 247 248 ∷ reserved_token Word.If 249 251
      ∷ reserved_token Word.False 252 257 ∷ symbol_token Symbol.Parallel 258 260
      ∷ symbol_token Symbol.OpenParallel 261 264
      ∷ name_token 265 266 ∷ symbol_token Symbol.Colon 267 268 ∷ symbol_token Symbol.Minus 269 270
      ∷ number_token 1 270 271
      ∷ symbol_token Symbol.DotDot 271 273 ∷ number_token 1 273 274 ∷ symbol_token Symbol.DoubleColon 275 277
      ∷ name_token 278 279 ∷ symbol_token Symbol.OpenBracket 279 280 ∷ name_token 280 281
      ∷ symbol_token Symbol.CloseBracket 281 282 ∷ symbol_token Symbol.Assign 283 285 ∷ name_token 286 287
      ∷ symbol_token Symbol.CloseQuantified 288 290 ∷ symbol_token Symbol.Box 293 295
      ∷ symbol_token Symbol.OpenChoice 296 299 ∷ name_token 300 301 ∷ symbol_token Symbol.Colon 302 303
      ∷ number_token 0 304 305 ∷ symbol_token Symbol.DotDot 305 307 ∷ number_token 1 307 308
      ∷ symbol_token Symbol.DoubleColon 309 311 ∷ name_token 312 315 ∷ symbol_token Symbol.Colon 315 316
      ∷ name_token 317 318 ∷ symbol_token Symbol.Assign 319 321 ∷ reserved_token Word.True 322 326
      ∷ symbol_token Symbol.Box 327 329 ∷ name_token 330 334 ∷ symbol_token Symbol.Colon 334 335 ∷ name_token 336 337
      ∷ symbol_token Symbol.Assign 338 340 ∷ name_token 341 342 ∷ symbol_token Symbol.CloseQuantified 343 345
      ∷ reserved_token Word.End 346 349 ∷ reserved_token Word.Program 350 357 ∷ name_token 358 359
      ∷ symbol_token Symbol.Equal 360 361 ∷ name_token 362 363 ∷ symbol_token Symbol.Box 364 366 ∷ name_token 367 368
      ∷ reserved_token Word.End 369 372 ∷ [];
  tree = record {
    at = 0;
    number_at = 6;
    number = 1;
    parts = Part.Program 8
        (Program.Plain 8 (name 16 "F")
        (Some
        ((variable 28 "x" (numbers 32 0 35 3))
        ∷ (record { at = 39; name = (name 39 "b"); kind = (VarType.Plain 43 (Plain.Boolean 43)) })
        ∷ (record {
          at = 53;
          name = (name 53 "c");
          kind = (VarType.Plain 57 (Plain.Words 57 (name 58 "red") ((name 63 "green") ∷ [])));
        })
        ∷ (record {
          at = 72;
          name = (name 72 "t");
          kind = (VarType.Array 76
              (range 82 (End.Number 82 true 1) (End.Number 86 false 1))
              (Plain.Range 91 (numbers 91 0 94 3)));
        })
        ∷ []))
        (Some
        ((record {
          at = 105;
          name = (name 105 "d");
          of = (expr.Sum 109 false (word 109 "x") ((Symbol.Minus, (expr.Number 113 1)) ∷ []));
        })
        ∷ []))
        (Some
        (record {
          at = 115;
          of = (expr.And 127
              (expr.Compare 127 (word 127 "x") Symbol.Equal (expr.Number 131 0))
              ((expr.Not 137 (word 141 "b")) ∷ []));
        }))
        (Some (
          (record { at = 151; name = (name 151 "x"); index = None; value = (InitValue.Number 155 false 0) }),
          ((record {
            at = 158;
            name = (name 158 "t");
            index = (Some (true, 1));
            value = (InitValue.Number 166 true 3);
          })
              ∷ (record {
                at = 170;
                name = (name 170 "c");
                index = None;
                value = (InitValue.Word 174 (name 174 "red"));
              })
              ∷ (record { at = 179; name = (name 179 "b"); index = None; value = (InitValue.True 183) })
              ∷ (record { at = 189; name = (name 189 "f"); index = None; value = (InitValue.False 193) })
              ∷ []),
        ))
        (items 208
        (item.Statement 208 (name 208 "go")
        (assign 212
        (component.Set 212
        (target 212 "x")
        ((record { at = 215; name = (name 215 "t"); index = (Some (word 217 "x")) }) ∷ [])
        (record {
          at = 223;
          values = (record {
            at = 223;
            first = (expr.Sum 223 false (word 223 "x") ((Symbol.Plus, (expr.Number 227 1)) ∷ []));
            rest = ((expr.Sum 230 true (word 231 "d") []) ∷ []);
          });
          condition = (Some (
            (expr.Compare 236 (word 236 "x") below (expr.Number 240 3)),
            ((
              (record { at = 244; first = (expr.Number 244 0); rest = ((expr.Number 247 1) ∷ []) }),
              (expr.False 252),
            )
                ∷ []),
          ));
        }))
        ((component.Quantified 261 (name 265 "i")
        (range 269 (End.Number 269 true 1) (End.Number 273 false 1))
        (assign 278
        (component.Set 278
        (record { at = 278; name = (name 278 "t"); index = (Some (word 280 "i")) })
        []
        (plainly 286 (word 286 "i")))
        []))
        ∷ [])))
        ((item.Quantified 296 (name 300 "j")
        (numbers 304 0 307 1)
        (items 312
        (set 312 "hop" 317 "b" 322 (expr.True 322))
        ((set 330 "stay" 336 "x" 341 (word 341 "x"))
        ∷ [])))
        ∷ [])))
        ∷ Part.Program 350 (Program.Union 350 (name 358 "G") (name 362 "F") (name 367 "H"))
        ∷ [];
    schedule = None;
    certificates = None;
  };
}
